-- The parameters of ingress and egress are no values that are read: they are of the struct of headers, of that of metadata
-- and of the standard metadata.
use Rattle.std.proofs.Common.{◌≡◌, ◌⊎◌, inl, inr, ℕ, List, [], ◌∷◌, Bool, true, false, not, ◌&&◌, codes, refl, sym, ap, ◌∙◌, subst}
use Rattle.lex_text.specs.Names.{same_text}
use Rattle.rule_tests.specs.Tests.{IsFine}
use Rattle.p4_tree.specs.Tree.{Top}
use Rattle.p4_tree.specs.declared.statement.PTy.{PTy}
use Rattle.p4_tree.specs.declared.statement.PTy.TheVariants as type
use Rattle.p4_tree.specs.declared.program.Way.{Way}
use Rattle.p4_tree.specs.declared.program.Way.TheVariants as way
use Rattle.p4_tree.specs.declared.program.Param.{Param}
use Rattle.p4_meaning.specs.Scope.{roots_of}
use Rattle.p4_scopes.specs.Scopes.{Stands, held, is_missing, typed_thing, as_typed, thing_in, Scope, value, declare}
use Rattle.p4_scopes.specs.Uses.{is_scalar, is_type, reads}
use Rattle.p4_scopes.specs.declared.thing.Thing.{Thing}
use Rattle.p4_scopes.specs.declared.thing.Thing.TheVariants.{Scalar, Header, Struct, Standard, PacketIn, PacketOut}
use Rattle.p4_scopes.specs.declared.thing.Access.{Access}
use Rattle.p4_statement_rules.specs.Expressions.{type_tests}
use Rattle.p4_declaration_rules.specs.Parsers.{way_access, with_ways, ways_tests}
use Rattle.p4_rules.specs.Mains.{headers, metadata, standard_wanted, apply_wants, is_named, is_struct, is_struct_of, Structs, is_wanted, wanted_tests}
use Rattle.p4_typing_laws.proofs.Fine.{twice_not}
use Rattle.p4_typing_laws.proofs.SoundScopes.{value_sound}
use Rattle.p4_typing_laws.proofs.CallCounts.{text_is, text_same}
use Rattle.p4_typing_laws.proofs.CountedNames.{other_kept, self_stands, KeepsCore}
use Rattle.p4_typing_laws.proofs.KnownScopes.{Known, known_value}
use Rattle.p4_typing_laws.proofs.ReadyPlaces.{AreHidden}

broken : {A : Type 0} → true ≡ false → A
broken h = absurd (cc)

and_parts : (a b : Bool) → (a && b) ≡ true → (a ≡ true) × (b ≡ true)
and_parts true b h = (refl, h)
and_parts false b h = broken (sym h)

-- a type that is named so
named_type : (t : PTy) (x : List ℕ) → is_named t x ≡ true → t ≡ type.Named x
named_type (type.Bit w) x h = broken (sym h)
named_type type.Bool x h = broken (sym h)
named_type (type.Named y) x h = ap type.Named (text_is y x h)

-- ---- what is wanted of a parameter

-- S: behind all declarations
module _ (S : Scope) (ts : List Top) (r : Structs) where
  -- a struct behind all declarations, or the standard metadata
  abbrev pub IsWhole : PTy → Type 0
  IsWhole t = (is_struct (thing_in S t) ≡ true) ⊎ (t ≡ type.Named (codes "standard_metadata_t"))

  abbrev pub AreStructs : Type 0
  AreStructs = (r.has_headers ≡ true → is_struct (thing_in S (type.Named r.headers_type)) ≡ true) × (r.has_metadata ≡ true → is_struct (thing_in S (type.Named r.metadata_type)) ≡ true)

  module _ (structs : AreStructs) where
    headers_whole : (w : Way) (q : Param) → is_wanted r (headers w) q ≡ true → IsWhole q.ty
    headers_whole w q h =
        (let k = and_parts _ _ h in let j = and_parts _ _ k.1 in
        inl (subst (λ (t : PTy). is_struct (thing_in S t) ≡ true) (sym (named_type q.ty r.headers_type j.0)) (structs.0 j.1)))

    metadata_whole : (w : Way) (q : Param) → is_wanted r (metadata w) q ≡ true → IsWhole q.ty
    metadata_whole w q h =
        (let k = and_parts _ _ h in let j = and_parts _ _ k.1 in
        inl (subst (λ (t : PTy). is_struct (thing_in S t) ≡ true) (sym (named_type q.ty r.metadata_type j.0)) (structs.1 j.1)))

    standard_whole : (q : Param) → is_wanted r standard_wanted q ≡ true → IsWhole q.ty
    standard_whole q h = (let k = and_parts _ _ h in inr (named_type q.ty (codes "standard_metadata_t") k.1))

    -- the three parameters of ingress or egress
    pub record AreThree (qs : List Param) : Type 0 where
      pub first : Param
      pub second : Param
      pub third : Param
      pub all : qs ≡ first ∷ second ∷ third ∷ []
      pub first_whole : IsWhole first.ty
      pub second_whole : IsWhole second.ty
      pub third_whole : IsWhole third.ty

    pub are_three : (at : ℕ) (qs : List Param) → IsFine (wanted_tests at r apply_wants qs) → AreThree qs
    are_three at [] f = broken f
    are_three at (a ∷ []) f = broken f.1
    are_three at (a ∷ b ∷ []) f = broken f.1.1
    are_three at (a ∷ b ∷ c ∷ []) f =
        record {
          first = a;
          second = b;
          third = c;
          all = refl;
          first_whole = headers_whole way.Both a (twice_not _ f.0);
          second_whole = metadata_whole way.Both b (twice_not _ f.1.0);
          third_whole = standard_whole c (twice_not _ f.1.1.0);
        }
    are_three at (a ∷ b ∷ c ∷ d ∷ rest) f = broken f.1.1.1.0

pub struct_if : (fits : Thing → Bool) (S : Scope) (ts : List Top) (x : List ℕ) → is_struct_of fits S ts x ≡ true → is_struct (thing_in S (type.Named x)) ≡ true
struct_if fits S ts x h = (and_parts _ _ h).0

-- ---- what stands there at the place of a control

-- s: at the place; what stands at a name there goes on to stand there
pub record GoesOn (s S : Scope) : Type 0 where
  pub stays : (x : List ℕ) → is_missing (s (x ∷ [])) ≡ false → S (x ∷ []) ≡ s (x ∷ [])

no_scalar : (t : Thing) → is_struct t ≡ true → is_scalar t ≡ false
no_scalar (Scalar k) h = broken (sym h)
no_scalar (Header n) h = broken (sym h)
no_scalar Struct h = refl
no_scalar Standard h = broken (sym h)
no_scalar PacketIn h = broken (sym h)
no_scalar PacketOut h = broken (sym h)

-- the type is no type of single values at the place either
whole_unread : (S s : Scope) (ts : List Top) (r : Structs) → KeepsCore s → (p : ℕ) (t : PTy) → IsFine (type_tests p s t) → ((x : List ℕ) → t ≡ type.Named x → S (x ∷ []) ≡ s (x ∷ [])) → IsWhole S ts r t → is_scalar (thing_in s t) ≡ false
whole_unread S s ts r core p (type.Bit w) f same (inl h) = broken (sym h)
whole_unread S s ts r core p type.Bool f same (inl h) = broken (sym h)
whole_unread S s ts r core p (type.Named x) f same (inl h) = no_scalar (typed_thing (as_typed (s (x ∷ [])))) (subst (λ (st : Stands). is_struct (typed_thing (as_typed st)) ≡ true) (same x refl) h)
whole_unread S s ts r core p t f same (inr h) =
    subst (λ (u : PTy). is_scalar (thing_in s u) ≡ false) (sym h)
    (ap (λ (st : Stands). is_scalar (typed_thing (as_typed st))) (core.kept (codes "standard_metadata_t") refl))

-- a type that is fine behind a value's declaration stood there before
type_kept : (p : ℕ) (s : Scope) (n : List ℕ) (a : Access) (u : PTy) (x : List ℕ) → IsFine (type_tests p (declare s n (value a u)) (type.Named x)) → declare s n (value a u) (x ∷ []) ≡ s (x ∷ [])
type_kept p s n a u x f = go (same_text n x) refl
  where
    go : (b : Bool) → same_text n x ≡ b → declare s n (value a u) (x ∷ []) ≡ s (x ∷ [])
    go true e =
        (let stands : declare s n (value a u) (x ∷ []) ≡ held a (thing_in s u) = ap (λ (y : List ℕ). declare s n (value a u) (y ∷ [])) (sym (text_is n x e)) ∙ self_stands s n (value a u) in
        broken (sym (ap (λ (st : Stands). not (is_type st)) stands) ∙ f.1))
    go false e = other_kept s n (value a u) x (λ q. (let c : true ≡ false = sym (text_same n x q) ∙ e in cc))

type_there : (p : ℕ) (s : Scope) (t : PTy) → IsFine (type_tests p s t) → (x : List ℕ) → t ≡ type.Named x → is_missing (s (x ∷ [])) ≡ false
type_there p s (type.Bit w) f x e = absurd (cc)
type_there p s type.Bool f x e = absurd (cc)
type_there p s (type.Named y) f x e = (let same : y ≡ x = cc in subst (λ (z : List ℕ). is_missing (s (z ∷ [])) ≡ false) same f.0)

named_fine : (p : ℕ) (s : Scope) (t : PTy) → IsFine (type_tests p s t) → (x : List ℕ) → t ≡ type.Named x → IsFine (type_tests p s (type.Named x))
named_fine p s t f x e = subst (λ (u : PTy). IsFine (type_tests p s u)) e f

-- a declared parameter that is no value
param_stands : (s : Scope) (n : List ℕ) (a : Access) (t : PTy) → is_scalar (thing_in s t) ≡ false → (is_missing (declare s n (value a t) (n ∷ [])) ≡ false) × (reads (declare s n (value a t) (n ∷ [])) ≡ false)
param_stands s n a t h = (ap is_missing (self_stands s n (value a t)), ap reads (self_stands s n (value a t)) ∙ h)

-- behind another parameter it stands as before
still : (s : Scope) (n m : List ℕ) (a : Access) (t : PTy) → is_missing (s (m ∷ [])) ≡ true → (is_missing (s (n ∷ [])) ≡ false) × (reads (s (n ∷ [])) ≡ false) → (is_missing (declare s m (value a t) (n ∷ [])) ≡ false) × (reads (declare s m (value a t) (n ∷ [])) ≡ false)
still s n m a t new h = (let same = other_kept s m (value a t) n (λ e. (let c : true ≡ false = sym new ∙ ap (λ (y : List ℕ). is_missing (s (y ∷ []))) e ∙ h.0 in cc)) in (ap is_missing same ∙ h.0, ap reads same ∙ h.1))

-- what is known behind the parameters
pub record Inside (s : Scope) (qs : List Param) : Type 0 where
  pub known : Known (with_ways s qs)
  pub hidden : AreHidden (with_ways s qs) (roots_of qs 0 1 2)

-- one parameter more
pub record Grown (S s : Scope) (q : Param) : Type 0 where
  pub known : Known (declare s q.name (value (way_access q.way) q.ty))
  pub unread : is_scalar (thing_in s q.ty) ≡ false

-- the types that are fine here stand behind all declarations
abbrev GoOn : Scope → Scope → Type 0
GoOn S s = (p : ℕ) (x : List ℕ) → IsFine (type_tests p s (type.Named x)) → S (x ∷ []) ≡ s (x ∷ [])

go_on_more : (S s : Scope) (n : List ℕ) (a : Access) (u : PTy) → GoOn S s → GoOn S (declare s n (value a u))
go_on_more S s n a u on p x f =
    (let same = type_kept p s n a u x f in
    on p x (subst (λ (st : Stands). (is_missing st ≡ false) × (not (is_type st) ≡ false)) same f) ∙ sym same)

grown : (S s : Scope) (ts : List Top) (r : Structs) → GoOn S s → Known s → (q : Param) → IsWhole S ts r q.ty → is_missing (s (q.name ∷ [])) ≡ true → IsFine (type_tests q.at s q.ty) → Grown S s q
grown S s ts r on k q w new f =
    (let unread = whole_unread S s ts r k.core q.at q.ty f (λ x e. on q.at x (named_fine q.at s q.ty f x e)) w in
    record {
      known = known_value q.at s q.name (way_access q.way) q.ty k new (value_sound q.at s k.sound q.name (way_access q.way) q.ty f) (λ e. (let c : true ≡ false = sym e ∙ unread in absurd (cc)));
      unread = unread;
    })

three_inside : (S s : Scope) (ts : List Top) (r : Structs) → GoOn S s → Known s → (a b c : Param) → IsWhole S ts r a.ty → IsWhole S ts r b.ty → IsWhole S ts r c.ty → IsFine (ways_tests s (a ∷ b ∷ c ∷ [])) → Inside s (a ∷ b ∷ c ∷ [])
three_inside S s ts r on k a b c wa wb wc f =
    let t = declare s a.name (value (way_access a.way) a.ty) in
    let u = declare t b.name (value (way_access b.way) b.ty) in
    let on1 = go_on_more S s a.name (way_access a.way) a.ty on in
    let on2 = go_on_more S t b.name (way_access b.way) b.ty on1 in
    let one = grown S s ts r on k a wa (twice_not _ f.0.0) f.0.1 in
    let two = grown S t ts r on1 one.known b wb (twice_not _ f.1.0.0) f.1.0.1 in
    let three = grown S u ts r on2 two.known c wc (twice_not _ f.1.1.0.0) f.1.1.0.1 in
    record {
      known = three.known;
      hidden =
          record {
            headers = still u a.name c.name (way_access c.way) c.ty (twice_not _ f.1.1.0.0) (still t a.name b.name (way_access b.way) b.ty (twice_not _ f.1.0.0) (param_stands s a.name (way_access a.way) a.ty one.unread));
            metadata = still u b.name c.name (way_access c.way) c.ty (twice_not _ f.1.1.0.0) (param_stands t b.name (way_access b.way) b.ty two.unread);
            standard = param_stands u c.name (way_access c.way) c.ty three.unread;
          };
    }

fine_goes_on : (S s : Scope) → GoesOn s S → GoOn S s
fine_goes_on S s on p x f = on.stays x f.0

pub inside_of : (S s : Scope) (ts : List Top) (r : Structs) (structs : AreStructs S ts r) → GoesOn s S → Known s → (at : ℕ) (qs : List Param) → IsFine (wanted_tests at r apply_wants qs) → IsFine (ways_tests s qs) → Inside s qs
inside_of S s ts r structs on k at qs w f =
    (let three = are_three S ts r structs at qs w in
    subst (λ (ps : List Param). Inside s ps) (sym three.all)
    (three_inside S s ts r (fine_goes_on S s on) k three.first three.second three.third three.first_whole three.second_whole three.third_whole (subst (λ (ps : List Param). IsFine (ways_tests s ps)) three.all f)))
