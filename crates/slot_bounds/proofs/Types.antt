-- Along a program a type of single values has the width of its kind, whatever else is declared.
use Rattle.std.proofs.Common.{◌≡◌, ℕ, List, [], ◌∷◌, Bool, true, false, cond, codes, refl, sym, ap, ◌∙◌, subst}
use Rattle.lex_text.specs.Names.{same_text}
use Rattle.rule_tests.specs.Tests.{IsFine}
use Rattle.p4_tree.specs.Tree.{Top, constant, typedef, header_type, struct_type, register, parser, control}
use Rattle.p4_tree.specs.declared.statement.PTy.{PTy}
use Rattle.p4_tree.specs.declared.statement.PTy.TheVariants as type
use Rattle.p4_meaning.specs.Value.{width_of}
use Rattle.p4_meaning.specs.Scope as meaning
use Rattle.p4_meaning.specs.Scope.{type_named, type_under}
use Rattle.p4_meaning.specs.Under.{behind_top, behind_tops}
use Rattle.p4_scopes.specs.Scopes.{Stands, missing, typed, held, cells, act, rows, state, function, algorithm, other, thing_kind, typed_thing, as_typed, thing_in, kind_in, Scope, What, alias, fields, value, part, behind, declare, core_name, core}
use Rattle.p4_scopes.specs.Scopes as scope
use Rattle.p4_scopes.specs.Uses.{is_scalar}
use Rattle.p4_scopes.specs.declared.thing.Thing.{Thing}
use Rattle.p4_scopes.specs.declared.thing.Thing.TheVariants.{Scalar, Header, Struct, Standard, PacketIn, PacketOut}
use Rattle.p4_scopes.specs.declared.thing.Access.TheVariants.{Constant}
use Rattle.p4_statement_rules.specs.Expressions.{scalar_tests}
use Rattle.p4_declaration_rules.specs.Controls.{top_tests, after_top, tops_tests, after_tops}
use Rattle.p4_typing_laws.specs.Soundness.{kind_width, IsSoundThing, IsSound}
use Rattle.p4_typing_laws.specs.Tied.{TypeIs}
use Rattle.p4_typing_laws.proofs.Fine.{twice_not}
use Rattle.p4_typing_laws.proofs.SoundScopes.{thing_sound}
use Rattle.p4_typing_laws.proofs.SoundPlaces.{top_sound}
use Rattle.p4_typing_laws.proofs.CallCounts.{text_is, text_same}
use Rattle.p4_typing_laws.proofs.FullNames.{other_text}
use Rattle.passage_stores.proofs.DeclaredTypes.{broken}

-- a name that is a type has the width of its kind
abbrev HasType : meaning.Scope → List ℕ → Stands → Type 0
HasType sc x (typed f t) = TypeIs sc x t
HasType sc x _ = Unit {0}

pub record KnowsTypes (s : Scope) (sc : meaning.Scope) : Type 0 where
  pub names : (x : List ℕ) → HasType sc x (s (x ∷ []))

-- a type of single values, of which its kind is known
pub type_bits : (s : Scope) (sc : meaning.Scope) → KnowsTypes s sc → (t : PTy) → IsSoundThing (thing_in s t) → is_scalar (thing_in s t) ≡ true → width_of (type_under sc.types t) ≡ kind_width (kind_in s t)
type_bits s sc knows (type.Bit w) q h = refl
type_bits s sc knows type.Bool q h = refl
type_bits s sc knows (type.Named x) q h = go (s (x ∷ [])) (knows.names x) q h
  where
    scalar : (t : Thing) → TypeIs sc x t → is_scalar t ≡ true → width_of (type_named sc.types x) ≡ kind_width (thing_kind t)
    scalar (Scalar k) i j = i
    scalar (Header n) i j = broken (sym j)
    scalar Struct i j = broken (sym j)
    scalar Standard i j = broken (sym j)
    scalar PacketIn i j = broken (sym j)
    scalar PacketOut i j = broken (sym j)

    go : (v : Stands) → HasType sc x v → IsSoundThing (typed_thing (as_typed v)) → is_scalar (typed_thing (as_typed v)) ≡ true → width_of (type_named sc.types x) ≡ kind_width (thing_kind (typed_thing (as_typed v)))
    go (typed f t) i q j = scalar t i j
    go missing i q j = absurd q
    go (held a t) i q j = absurd q
    go (cells k) i q j = absurd q
    go (act ks m) i q j = absurd q
    go (rows m) i q j = absurd q
    go state i q j = absurd q
    go (function g) i q j = absurd q
    go algorithm i q j = absurd q
    go other i q j = absurd q

-- ---- one declaration more

knows_more : (s : Scope) (sc sd : meaning.Scope) (n : List ℕ) (w : What) → KnowsTypes s sc → ((x : List ℕ) → (n ≡ x → ⊥) → type_named sd.types x ≡ type_named sc.types x) → HasType sd n (behind s w []) → KnowsTypes (declare s n w) sd
unfolding declare
knows_more s sc sd n w knows same it = record { names = λ x. go x (same_text n x) refl }
  where
    there : (x : List ℕ) (t : Thing) → type_named sd.types x ≡ type_named sc.types x → TypeIs sc x t → TypeIs sd x t
    there x (Scalar k) e h = ap width_of e ∙ h
    there x (Header m) e h = tt
    there x Struct e h = tt
    there x Standard e h = tt
    there x PacketIn e h = tt
    there x PacketOut e h = tt

    moved : (x : List ℕ) (v : Stands) → type_named sd.types x ≡ type_named sc.types x → HasType sc x v → HasType sd x v
    moved x (typed f t) e h = there x t e h
    moved x missing e h = tt
    moved x (held a t) e h = tt
    moved x (cells k) e h = tt
    moved x (act ks m) e h = tt
    moved x (rows m) e h = tt
    moved x state e h = tt
    moved x (function g) e h = tt
    moved x algorithm e h = tt
    moved x other e h = tt

    go : (x : List ℕ) (b : Bool) → same_text n x ≡ b → HasType sd x (cond b (behind s w []) (s (x ∷ [])))
    go x true e = subst (λ (y : List ℕ). HasType sd y (behind s w [])) (text_is n x e) it
    go x false e = moved x (s (x ∷ [])) (same x (λ q. (let c : true ≡ false = sym (text_same n x q) ∙ e in absurd (cc)))) (knows.names x)

-- a typedef
alias_known : (p : ℕ) (s : Scope) (sc : meaning.Scope) (t : PTy) (n : List ℕ) → IsSound s → KnowsTypes s sc → IsFine (scalar_tests p s t) → KnowsTypes (declare s n (alias t)) (behind_top sc (typedef p t n))
alias_known p s sc t n is knows f = knows_more s sc (behind_top sc (typedef p t n)) n (alias t) knows same (it (thing_in s t) (type_bits s sc knows t (thing_sound p s is t f.0) (twice_not _ f.1)))
  where
    same : (x : List ℕ) → (n ≡ x → ⊥) → cond (same_text n x) (type_under sc.types t) (type_named sc.types x) ≡ type_named sc.types x
    same x apart = ap (λ (b : Bool). cond b (type_under sc.types t) (type_named sc.types x)) (other_text n x apart)

    it : (u : Thing) → width_of (type_under sc.types t) ≡ kind_width (thing_kind u) → TypeIs (behind_top sc (typedef p t n)) n u
    it (Scalar k) e = ap (λ (b : Bool). width_of (cond b (type_under sc.types t) (type_named sc.types n))) (text_same n n refl) ∙ e
    it (Header m) e = tt
    it Struct e = tt
    it Standard e = tt
    it PacketIn e = tt
    it PacketOut e = tt

top_known : (main : List (List ℕ)) (s : Scope) (sc : meaning.Scope) → IsSound s → KnowsTypes s sc → (t : Top) → IsFine (top_tests main s t) → KnowsTypes (after_top s t) (behind_top sc t)
top_known main s sc is k (constant p t x e) f = knows_more s sc _ x (value Constant t) k (λ y h. refl) tt
top_known main s sc is k (typedef p t x) f = alias_known p s sc t x is k f.1
top_known main s sc is k (header_type p x fs) f = knows_more s sc _ x (fields (Header _) fs) k (λ y h. refl) tt
top_known main s sc is k (struct_type p x fs) f = knows_more s sc _ x (fields Struct fs) k (λ y h. refl) tt
top_known main s sc is k (register p r) f = knows_more s sc _ r.name (scope.register r.ty) k (λ y h. refl) tt
top_known main s sc is k (parser p d) f = knows_more s sc _ d.name part k (λ y h. refl) tt
top_known main s sc is k (control p c) f = knows_more s sc _ c.name part k (λ y h. refl) tt

pub tops_known : (main : List (List ℕ)) (ts : List Top) (s : Scope) (sc : meaning.Scope) → IsSound s → KnowsTypes s sc → IsFine (tops_tests main s ts) → KnowsTypes (after_tops s ts) (behind_tops sc ts)
tops_known main [] s sc is k f = k
tops_known main (t ∷ ts) s sc is k f = tops_known main ts (after_top s t) (behind_top sc t) (top_sound main s is t f.0) (top_known main s sc is k t f.0) f.1

-- ---- before the first declaration

core_has : (sc : meaning.Scope) (x : List ℕ) → HasType sc x (core_name x)
core_has sc x =
    either (same_text x (codes "standard_metadata_t")) _ _ tt
    (either (same_text x (codes "packet_in")) _ _ tt
    (either (same_text x (codes "packet_out")) _ _ tt
    (either (same_text x (codes "NoAction")) _ _ tt
    (either (same_text x (codes "mark_to_drop")) _ _ tt
    (either (same_text x (codes "digest")) _ _ tt
    (either (same_text x (codes "verify_checksum")) _ _ tt
    (either (same_text x (codes "update_checksum")) _ _ tt
    (either (same_text x (codes "HashAlgorithm")) _ _ tt tt))))))))
  where
    either : (b : Bool) (u v : Stands) → HasType sc x u → HasType sc x v → HasType sc x (cond b u v)
    either true u v h k = h
    either false u v h k = k

pub core_knows : (sc : meaning.Scope) → KnowsTypes core sc
unfolding core
core_knows sc = record { names = λ x. core_has sc x }
