-- Along the declarations of a program to the control of a name. In front of it nothing is read but constants; and its
-- parameters are of the struct of headers, of that of metadata and of the standard metadata.
use Rattle.std.proofs.Common.{◌≡◌, ℕ, List, [], ◌∷◌, Bool, true, false, cond, ◌&&◌, codes, refl, sym, ap, ◌∙◌, Option, Some, None}
use Rattle.lex_text.specs.Names.{same_text}
use Rattle.rule_tests.specs.Tests.{IsFine}
use Rattle.p4_tree.specs.declared.statement.PTy.{PTy}
use Rattle.p4_tree.specs.declared.statement.PTy.TheVariants as type
use Rattle.p4_tree.specs.declared.program.Param.{Param}
use Rattle.p4_meaning.specs.Scope as meaning
use Rattle.p4_meaning.specs.Scope.{constant_at, full}
use Rattle.p4_scopes.specs.Scopes.{Stands, typed, is_missing, typed_thing, as_typed, thing_in, Scope, value, declare, core_name, core, behind}
use Rattle.p4_scopes.specs.Uses.{is_scalar, is_type, reads}
use Rattle.p4_scopes.specs.declared.thing.Thing.{Thing}
use Rattle.p4_scopes.specs.declared.thing.Thing.TheVariants.{Struct, Standard}
use Rattle.p4_scopes.specs.declared.thing.Access.{Access}
use Rattle.p4_statement_rules.specs.Expressions.{type_tests}
use Rattle.p4_declaration_rules.specs.Parsers.{way_access, with_ways, ways_tests}
use Rattle.p4_rules.specs.Mains.{Wanted, standard_wanted, checksum_wants, apply_wants, is_named, is_struct, Structs, is_wanted, wanted_tests}
use Rattle.p4_typing_laws.proofs.Fine.{twice_not, typed_fine}
use Rattle.p4_typing_laws.proofs.CallCounts.{text_is}
use Rattle.p4_typing_laws.proofs.CountedNames.{Calls, quiet_calls, core_calls}
use Rattle.exit_statements.specs.Actions.{all_but}
use Rattle.exit_statements.specs.Controls.{nothing_seen}
use Rattle.p4_tree.specs.Tree.{Control, Top, constant, control, Program}
use Rattle.p4_meaning.specs.Under as under
use Rattle.p4_meaning.specs.Under.{no_scope, behind_top}
use Rattle.p4_meaning.specs.Parts.{control_named, scope_at_control}
use Rattle.p4_declaration_rules.specs.Controls.{top_tests, after_top, tops_tests, after_tops}
use Rattle.p4_declaration_rules.proofs.FirstsLemmas.{all_first}
use Rattle.p4_rule_laws.specs.OldPrograms.{OldControl, OldTop, OldTops}
use Rattle.p4_rules.specs.ProgramRules.{program_scope, IsWellTyped}
use Rattle.p4_typing_laws.specs.Places.{TopsUses, ControlUses}
use Rattle.p4_typing_laws.specs.Names.{UseAgrees}
use Rattle.p4_typing_laws.proofs.KnownScopes.{Known, core_known, known_top}
use Rattle.p4_typing_laws.specs.Plain.{is_plain}
use Rattle.exit_programs.specs.Names.{is_given}
use Rattle.exit_names.proofs.Names.{broken}
use Rattle.exit_names.proofs.Seen.{Sees, sees_declared, sees_quiet}
use Rattle.exit_names.proofs.Controls.{sees_constant}

-- of variables nothing is shown, so that none is read
abbrev pub ReadsNone : Scope → meaning.Scope → Type 0
ReadsNone s sc = Sees s sc (all_but nothing_seen)

-- then what is read in the control is shown, whatever is hidden
pub none_sees : (s : Scope) (sc : meaning.Scope) (h m n : ℕ) (c : Control) (seen : List ℕ → Bool) → ReadsNone s sc → Sees s (under.in_control h m n sc c) (all_but seen)
none_sees s sc h m n c seen none = record { shown = λ x h r k. broken (none.shown x h r k); long = λ x y rest. refl; empty = refl }

-- ---- before the first declaration

abbrev Unread : Stands → Type 0
Unread st = is_missing st ≡ false → reads st ≡ true → true ≡ false

if_unread : (b : Bool) (u v : Stands) → Unread u → Unread v → Unread (cond b u v)
if_unread true u v h k = h
if_unread false u v h k = k

core_unread : (x : List ℕ) → Unread (core_name x)
core_unread x =
    if_unread (same_text x (codes "standard_metadata_t")) _ _ (λ e r. sym r)
    (if_unread (same_text x (codes "packet_in")) _ _ (λ e r. sym r)
    (if_unread (same_text x (codes "packet_out")) _ _ (λ e r. sym r)
    (if_unread (same_text x (codes "NoAction")) _ _ (λ e r. sym r)
    (if_unread (same_text x (codes "mark_to_drop")) _ _ (λ e r. sym r)
    (if_unread (same_text x (codes "digest")) _ _ (λ e r. sym r)
    (if_unread (same_text x (codes "verify_checksum")) _ _ (λ e r. sym r)
    (if_unread (same_text x (codes "update_checksum")) _ _ (λ e r. sym r)
    (if_unread (same_text x (codes "HashAlgorithm")) _ _ (λ e r. sym r) (λ e r. e)))))))))

pub core_none : (sc : meaning.Scope) → ReadsNone core sc
unfolding core
core_none sc = record { shown = λ x h r k. core_unread x h r; long = λ x y rest. refl; empty = refl }

-- ---- types that are no single values, behind all declarations S and at a place

-- what is a type at the place is one behind all declarations
pub record TypesGoOn (s S : Scope) : Type 0 where
  pub stays : (t : List ℕ) → is_missing (s (t ∷ [])) ≡ false → is_type (s (t ∷ [])) ≡ true → S (t ∷ []) ≡ s (t ∷ [])

types_more : (s S : Scope) (n : List ℕ) (a : Access) (u : PTy) → TypesGoOn s S → TypesGoOn (declare s n (value a u)) S
unfolding declare
types_more s S n a u on = record { stays = λ t h k. go t (same_text n t) h k }
  where
    go : (t : List ℕ) (b : Bool) → is_missing (cond b (behind s (value a u) []) (s (t ∷ []))) ≡ false → is_type (cond b (behind s (value a u) []) (s (t ∷ []))) ≡ true → S (t ∷ []) ≡ cond b (behind s (value a u) []) (s (t ∷ []))
    go t true h k = broken (sym k)
    go t false h k = on.stays t h k

whole_there : (s S : Scope) → TypesGoOn s S → (p : ℕ) (t : PTy) → IsFine (type_tests p s t) → is_scalar (thing_in S t) ≡ false → is_scalar (thing_in s t) ≡ false
whole_there s S on p (type.Bit w) f h = h
whole_there s S on p type.Bool f h = h
whole_there s S on p (type.Named t) f h = sym (ap (λ (st : Stands). is_scalar (typed_thing (as_typed st))) (on.stays t f.0 (twice_not _ f.1))) ∙ h

abbrev pub AreWhole : Scope → List Param → Type 0
AreWhole S [] = Unit {0}
AreWhole S (q ∷ qs) = (is_scalar (thing_in S q.ty) ≡ false) × AreWhole S qs

-- behind such parameters nothing more is read
pub ways_none : (S : Scope) (sc : meaning.Scope) (qs : List Param) (s : Scope) → TypesGoOn s S → AreWhole S qs → IsFine (ways_tests s qs) → ReadsNone s sc → ReadsNone (with_ways s qs) sc
ways_none S sc [] s on w f none = none
ways_none S sc (q ∷ qs) s on w f none =
    ways_none S sc qs (declare s q.name (value (way_access q.way) q.ty)) (types_more s S q.name (way_access q.way) q.ty on) w.1 f.1
    (sees_quiet s sc (all_but nothing_seen) q.name (value (way_access q.way) q.ty) none (whole_there s S on q.at q.ty f.0.1 w.0))

-- ---- what is wanted of parameters

and_parts : (a b : Bool) → (a && b) ≡ true → (a ≡ true) × (b ≡ true)
and_parts true b h = (refl, h)
and_parts false b h = broken (sym h)

named_type : (t : PTy) (x : List ℕ) → is_named t x ≡ true → t ≡ type.Named x
named_type (type.Bit w) x h = broken (sym h)
named_type type.Bool x h = broken (sym h)
named_type (type.Named y) x h = ap type.Named (text_is y x h)

struct_whole : (t : Thing) → is_struct t ≡ true → is_scalar t ≡ false
struct_whole Struct h = refl
struct_whole _ h = broken (sym h)

module _ (S : Scope) (r : Structs) where
  abbrev AreGood : List Wanted → Type 0
  AreGood [] = Unit {0}
  AreGood (w ∷ ws) = ((q : Param) → is_wanted r w q ≡ true → is_scalar (thing_in S q.ty) ≡ false) × AreGood ws

  wanted_whole : (p : ℕ) (ws : List Wanted) (qs : List Param) → AreGood ws → IsFine (wanted_tests p r ws qs) → AreWhole S qs
  wanted_whole p [] [] g f = tt
  wanted_whole p [] (q ∷ qs) g f = broken f.0
  wanted_whole p (w ∷ ws) [] g f = tt
  wanted_whole p (w ∷ ws) (q ∷ qs) g f = (g.0 q (twice_not _ f.0), wanted_whole p ws qs g.1 f.1)

  module _ (has_headers : r.has_headers ≡ true → is_struct (thing_in S (type.Named r.headers_type)) ≡ true) (has_metadata : r.has_metadata ≡ true → is_struct (thing_in S (type.Named r.metadata_type)) ≡ true) (std : S (codes "standard_metadata_t" ∷ []) ≡ typed false Standard) where
    struct_good : (t : PTy) (x : List ℕ) (w has : Bool) → (has ≡ true → is_struct (thing_in S (type.Named x)) ≡ true) → (w && (is_named t x && has)) ≡ true → is_scalar (thing_in S t) ≡ false
    struct_good t x w has struct h =
        (let k = and_parts (is_named t x) has (and_parts w (is_named t x && has) h).1 in
        struct_whole (thing_in S t) (ap (λ (u : PTy). is_struct (thing_in S u)) (named_type t x k.0) ∙ struct k.1))

    standard_good : (q : Param) → is_wanted r standard_wanted q ≡ true → is_scalar (thing_in S q.ty) ≡ false
    standard_good q h =
        (let k = and_parts _ _ h in
        ap (λ (t : PTy). is_scalar (thing_in S t)) (named_type q.ty (codes "standard_metadata_t") k.1) ∙ ap (λ (st : Stands). is_scalar (typed_thing (as_typed st))) std)

    pub apply_whole : (p : ℕ) (qs : List Param) → IsFine (wanted_tests p r apply_wants qs) → AreWhole S qs
    apply_whole p qs f = wanted_whole p apply_wants qs ((λ q h. struct_good q.ty r.headers_type _ r.has_headers has_headers h), ((λ q h. struct_good q.ty r.metadata_type _ r.has_metadata has_metadata h), (standard_good, tt))) f

    pub checksum_whole : (p : ℕ) (qs : List Param) → IsFine (wanted_tests p r checksum_wants qs) → AreWhole S qs
    checksum_whole p qs f = wanted_whole p checksum_wants qs ((λ q h. struct_good q.ty r.headers_type _ r.has_headers has_headers h), ((λ q h. struct_good q.ty r.metadata_type _ r.has_metadata has_metadata h), tt)) f

-- ---- the walk

-- whatever an action or a table is
abbrev pub Anyone : List ℕ → ℕ → Type 0
Anyone x m = Unit {0}

module _ (p : Program) where
  -- what is known in front of declarations at top level
  pub record IsAtTop (ts : List Top) (s : Scope) (sc : meaning.Scope) : Type 0 where
    pub known : Known s
    pub outer : sc.inner ≡ None
    pub all : after_tops s ts ≡ program_scope p
    pub none : ReadsNone s sc
    pub calls : Calls Anyone Anyone s

  next_top : (t : Top) (ts : List Top) (s : Scope) (sc : meaning.Scope) → IsAtTop (t ∷ ts) s sc → OldTop is_plain t → IsFine (top_tests p.main s t) → IsAtTop ts (after_top s t) (behind_top sc t)
  next_top (constant q t x e) ts s sc b plain f =
      record { known = known_top p.main s b.known (constant q t x e) plain.1 f; outer = b.outer; all = b.all; none = sees_constant sc t x e b.outer s (all_but nothing_seen) b.none; calls = quiet_calls Anyone Anyone s b.calls _ _ tt }
  next_top t ts s sc b plain f =
      (let none = sees_declared s sc (behind_top sc t) (all_but nothing_seen) (all_but nothing_seen) _ _ b.none (λ q h. h) (λ y. refl) (λ y e c. c) (λ r k. broken (sym r)) in
      record { known = known_top p.main s b.known t tt f; outer = b.outer; all = b.all; none = none; calls = quiet_calls Anyone Anyone s b.calls _ _ tt })

  -- of each control of a name the goal is known, and so of that which is found
  module _ (Goal : meaning.Scope → Option Control → Type 0) (x : List ℕ) (nothing : (sc : meaning.Scope) → Goal sc None)
      (there : (q : ℕ) (c : Control) (ts : List Top) (s : Scope) (sc : meaning.Scope) → IsAtTop (control q c ∷ ts) s sc → c.name ≡ x → OldControl is_given c → OldControl is_plain c → IsFine (tops_tests p.main s (control q c ∷ ts)) → ControlUses UseAgrees s c → Goal sc (Some c)) where
    walk : (ts : List Top) (s : Scope) (sc : meaning.Scope) → IsAtTop ts s sc → OldTops is_given ts → OldTops is_plain ts → IsFine (tops_tests p.main s ts) → TopsUses UseAgrees s ts → Goal (scope_at_control sc ts x) (control_named ts x)
    walk [] s sc b given plain f u = nothing sc
    walk (control q c ∷ ts) s sc b given plain f u = go (same_text c.name x) refl (walk ts _ sc (next_top (control q c) ts s sc b plain.0 f.0) given.1 plain.1 f.1 u.1)
      where
        go : (o : Bool) → same_text c.name x ≡ o → Goal (scope_at_control sc ts x) (control_named ts x) → Goal (cond o sc (scope_at_control sc ts x)) (cond o (Some c) (control_named ts x))
        go true e more = there q c ts s sc b (text_is c.name x e) given.0 plain.0 f u.0
        go false e more = more
    walk (t ∷ ts) s sc b given plain f u = walk ts _ (behind_top sc t) (next_top t ts s sc b plain.0 f.0) given.1 plain.1 f.1 u.1

    -- in a well-typed program
    pub at_control : IsWellTyped p → TopsUses UseAgrees core p.tops → OldTops is_given p.tops → OldTops is_plain p.tops → Goal (scope_at_control no_scope p.tops x) (control_named p.tops x)
    at_control well uses given plain =
        walk p.tops core no_scope
        (record { known = core_known; outer = refl; all = sym (all_first p.main core p.tops (typed_fine p well).0); none = core_none no_scope; calls = core_calls Anyone Anyone })
        given plain (typed_fine p well).0 uses
