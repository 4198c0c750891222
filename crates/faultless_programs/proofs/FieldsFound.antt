-- What the rules' scope says of a field is what the program's parts declare.
use Rattle.std.proofs.Common.{codes, ◌≡◌, inl, inr, ℕ, List, [], ◌∷◌, ◌++◌, map, Bool, true, false, cond, not, ◌||◌, refl, sym, ap, ◌∙◌, subst, arith}
use Rattle.std.proofs.lemmas.Bool.Decides.{nat_tests}
use Rattle.bit_values.specs.Widths.{sound_width}
use Rattle.lex_text.specs.Names.{same_text}
use Rattle.rule_tests.specs.Tests.{IsFine}
use Rattle.p4_tree.specs.Tree.{Top, constant, typedef, header_type, struct_type, register, parser, control, Program}
use Rattle.p4_tree.specs.declared.statement.PTy.{PTy}
use Rattle.p4_tree.specs.declared.statement.PTy.TheVariants as type
use Rattle.p4_meaning.specs.Standard.{headers_root, metadata_root, standard_root}
use Rattle.p4_meaning.specs.Value.{width_of}
use Rattle.p4_meaning.specs.Scope as meaning
use Rattle.p4_meaning.specs.Scope.{type_name, type_named, type_under}
use Rattle.p4_meaning.specs.Under.{no_scope, behind_top, behind_tops}
use Rattle.p4_meaning.specs.Parts.{types_of, field_of, header_of, struct_fields, header_fields, parser_type, parser_in, parts_of}
use Rattle.p4_scopes.specs.Scopes as scope
use Rattle.p4_scopes.specs.Scopes.{Stands, missing, typed, held, cells, act, rows, state, function, algorithm, other, is_missing, typed_thing, as_typed, scalar_at, type_at, thing_in, field_at, fields_bits, What, alias, fields, value, part, behind, declare, standard_at, Scope, core}
use Rattle.p4_scopes.specs.Uses.{is_scalar, is_header}
use Rattle.p4_scopes.specs.declared.kind.Kind.TheVariants.{Number, Truth, Error, Unknown}
use Rattle.p4_scopes.specs.declared.thing.Thing.{Thing}
use Rattle.p4_scopes.specs.declared.thing.Thing.TheVariants.{Scalar, Header, Struct, Standard, PacketIn, PacketOut}
use Rattle.p4_scopes.specs.declared.thing.Access.TheVariants.{Constant}
use Rattle.p4_declaration_rules.specs.Declarations.{is_no_field, is_no_number}
use Rattle.p4_declaration_rules.specs.Controls.{tops_tests, after_top, after_tops}
use Rattle.p4_rules.specs.Mains.{is_struct, all_fields}
use Rattle.p4_rules.specs.ProgramRules.{program_scope, IsWellTyped}
use Rattle.p4_rule_laws.proofs.FieldsGrow.{field_keeps}
use Rattle.p4_rule_laws.proofs.KeepsLemmas.{after_tops_keeps}
use Rattle.p4_rule_laws.proofs.RoleFacts.{parts_in_role}
use Rattle.p4_typing_laws.proofs.Fine.{typed_fine}
use Rattle.own_code.proofs.Apart.{text_decides}
use Rattle.own_programs.proofs.Params.{both_hold}
use Rattle.own_programs.proofs.Programs.{first_at, headers_struct, metadata_struct}
use Rattle.monitor_laws.proofs.Fields.{same_below}
use Rattle.linked_halves.specs.Widths.{fields_width, headers_width, standard_width, width_at}
use Rattle.link_faults.specs.HeaderFields.{field_in, is_field_of}
use Rattle.faultless_programs.specs.FieldPaths.{IsFieldPath, FoundFieldsAreDeclared}
use Rattle.linked_hosts.proofs.ReadyByRules.{names_struct, core_no_struct}
use Rattle.linked_hosts.proofs.FieldsSound.{other_header, no_metadata}

abbrev names_header : Stands → Bool
names_header st = is_header (typed_thing (as_typed st))

skipped : (b : Bool) (a u : Stands) → names_header a ≡ false → names_header u ≡ false → names_header (cond b a u) ≡ false
skipped true a u n i = n
skipped false a u n i = i

core_no_header : (x : List ℕ) → names_header (core (x ∷ [])) ≡ false
unfolding core
core_no_header x =
    skipped (same_text x (codes "standard_metadata_t")) _ _ refl
    (skipped (same_text x (codes "packet_in")) _ _ refl
    (skipped (same_text x (codes "packet_out")) _ _ refl
    (skipped (same_text x (codes "NoAction")) _ _ refl
    (skipped (same_text x (codes "mark_to_drop")) _ _ refl
    (skipped (same_text x (codes "digest")) _ _ refl
    (skipped (same_text x (codes "verify_checksum")) _ _ refl
    (skipped (same_text x (codes "update_checksum")) _ _ refl
    (skipped (same_text x (codes "HashAlgorithm")) other missing refl refl))))))))

-- ---- one declaration

passed : (N : Stands → Bool) (s : Scope) (n : List ℕ) (w : What) (x : List ℕ) → N (behind s w []) ≡ false → N (s (x ∷ [])) ≡ false → N (declare s n w (x ∷ [])) ≡ false
unfolding declare
passed N s n w x h k = go (same_text n x)
  where
    go : (b : Bool) → N (cond b (behind s w []) (s (x ∷ []))) ≡ false
    go true = h
    go false = k

other_name : (N : Stands → Bool) (s : Scope) (n : List ℕ) (w : What) (x : List ℕ) → same_text n x ≡ false → N (s (x ∷ [])) ≡ false → N (declare s n w (x ∷ [])) ≡ false
unfolding declare
other_name N s n w x e k = ap (λ (b : Bool). N (cond b (behind s w []) (s (x ∷ [])))) e ∙ k

self_path : (s : Scope) (n : List ℕ) (w : What) (xs : List (List ℕ)) → declare s n w (n ∷ xs) ≡ behind s w xs
unfolding declare
self_path s n w xs = ap (λ (b : Bool). cond b (behind s w xs) (s (n ∷ xs))) ((text_decides n n).1 refl)

no_struct_alias : (t : Thing) → is_scalar t ≡ true → is_struct t ≡ false
no_struct_alias (Scalar k) h = refl
no_struct_alias (Header n) h = refl
no_struct_alias Struct h = absurd (let z : false ≡ true = h in cc)
no_struct_alias Standard h = refl
no_struct_alias PacketIn h = refl
no_struct_alias PacketOut h = refl

no_header_alias : (t : Thing) → is_scalar t ≡ true → is_header t ≡ false
no_header_alias (Scalar k) h = refl
no_header_alias (Header n) h = absurd (let z : false ≡ true = h in cc)
no_header_alias Struct h = refl
no_header_alias Standard h = refl
no_header_alias PacketIn h = refl
no_header_alias PacketOut h = refl

turned : (b : Bool) → not b ≡ false → b ≡ true
turned true h = refl
turned false h = absurd (let z : true ≡ false = h in cc)

-- ---- paths behind a struct's name, and behind a header type's

pub struct_path : (main : List (List ℕ)) (x : List ℕ) (ts : List Top) (s : Scope) → IsFine (tops_tests main s ts) → names_struct (after_tops s ts (x ∷ [])) ≡ true → names_struct (s (x ∷ [])) ≡ false
    → (y : List ℕ) (xs : List (List ℕ)) → after_tops s ts (x ∷ y ∷ xs) ≡ field_at (after_tops s ts) (struct_fields ts x) y xs
struct_path main x [] s f h k y xs = absurd (let z : true ≡ false = sym h ∙ k in cc)
struct_path main x (constant q u z e ∷ ts) s f h k y xs = struct_path main x ts _ f.1 h (passed names_struct s z (value Constant u) x refl k) y xs
struct_path main x (typedef q u z ∷ ts) s f h k y xs = struct_path main x ts _ f.1 h (passed names_struct s z (alias u) x (no_struct_alias (thing_in s u) (turned _ f.0.1.1)) k) y xs
struct_path main x (header_type q z fs ∷ ts) s f h k y xs = struct_path main x ts _ f.1 h (passed names_struct s z (fields (Header (fields_bits s fs)) fs) x refl k) y xs
struct_path main x (register q d ∷ ts) s f h k y xs = struct_path main x ts _ f.1 h (passed names_struct s d.name (scope.register d.ty) x refl k) y xs
struct_path main x (parser q d ∷ ts) s f h k y xs = struct_path main x ts _ f.1 h (passed names_struct s d.name part x refl k) y xs
struct_path main x (control q c ∷ ts) s f h k y xs = struct_path main x ts _ f.1 h (passed names_struct s c.name part x refl k) y xs
struct_path main x (struct_type q z fs ∷ ts) s f h k y xs = go (same_text z x) refl (λ e. struct_path main x ts (declare s z (fields Struct fs)) f.1 h (other_name names_struct s z (fields Struct fs) x e k) y xs)
  where
    E : Scope
    E = after_tops (declare s z (fields Struct fs)) ts

    at_self : E (z ∷ y ∷ xs) ≡ field_at E fs y xs
    at_self =
        (after_tops_keeps main (declare s z (fields Struct fs)) ts f.1).kept z (y ∷ xs) (ap is_missing (self_path s z (fields Struct fs) []))
        ∙ self_path s z (fields Struct fs) (y ∷ xs)
        ∙ sym (field_keeps s E (after_tops_keeps main s (struct_type q z fs ∷ ts) f) q is_no_field fs f.0.1.1 y xs)

    go : (b : Bool) → same_text z x ≡ b → (same_text z x ≡ false → E (x ∷ y ∷ xs) ≡ field_at E (struct_fields ts x) y xs) → E (x ∷ y ∷ xs) ≡ field_at E (cond b fs (struct_fields ts x)) y xs
    go true e more = subst (λ n. E (n ∷ y ∷ xs) ≡ field_at E fs y xs) ((text_decides z x).0 e) at_self
    go false e more = more e

header_path : (main : List (List ℕ)) (x : List ℕ) (ts : List Top) (s : Scope) → IsFine (tops_tests main s ts) → names_header (after_tops s ts (x ∷ [])) ≡ true → names_header (s (x ∷ [])) ≡ false
    → (y : List ℕ) (xs : List (List ℕ)) → after_tops s ts (x ∷ y ∷ xs) ≡ field_at (after_tops s ts) (header_fields ts x) y xs
header_path main x [] s f h k y xs = absurd (let z : true ≡ false = sym h ∙ k in cc)
header_path main x (constant q u z e ∷ ts) s f h k y xs = header_path main x ts _ f.1 h (passed names_header s z (value Constant u) x refl k) y xs
header_path main x (typedef q u z ∷ ts) s f h k y xs = header_path main x ts _ f.1 h (passed names_header s z (alias u) x (no_header_alias (thing_in s u) (turned _ f.0.1.1)) k) y xs
header_path main x (struct_type q z fs ∷ ts) s f h k y xs = header_path main x ts _ f.1 h (passed names_header s z (fields Struct fs) x refl k) y xs
header_path main x (register q d ∷ ts) s f h k y xs = header_path main x ts _ f.1 h (passed names_header s d.name (scope.register d.ty) x refl k) y xs
header_path main x (parser q d ∷ ts) s f h k y xs = header_path main x ts _ f.1 h (passed names_header s d.name part x refl k) y xs
header_path main x (control q c ∷ ts) s f h k y xs = header_path main x ts _ f.1 h (passed names_header s c.name part x refl k) y xs
header_path main x (header_type q z fs ∷ ts) s f h k y xs = go (same_text z x) refl (λ e. header_path main x ts (declare s z w) f.1 h (other_name names_header s z w x e k) y xs)
  where
    w : What
    w = fields (Header (fields_bits s fs)) fs

    E : Scope
    E = after_tops (declare s z w) ts

    at_self : E (z ∷ y ∷ xs) ≡ field_at E fs y xs
    at_self =
        (after_tops_keeps main (declare s z w) ts f.1).kept z (y ∷ xs) (ap is_missing (self_path s z w []))
        ∙ self_path s z w (y ∷ xs)
        ∙ sym (field_keeps s E (after_tops_keeps main s (header_type q z fs ∷ ts) f) q is_no_number fs f.0.1.1.0 y xs)

    go : (b : Bool) → same_text z x ≡ b → (same_text z x ≡ false → E (x ∷ y ∷ xs) ≡ field_at E (header_fields ts x) y xs) → E (x ∷ y ∷ xs) ≡ field_at E (cond b fs (header_fields ts x)) y xs
    go true e more = subst (λ n. E (n ∷ y ∷ xs) ≡ field_at E fs y xs) ((text_decides z x).0 e) at_self
    go false e more = more e

-- ---- types

abbrev IsNumber : Stands → ℕ → Type 0
IsNumber (typed a (Scalar (Number v))) w = v ≡ w
IsNumber _ w = ⊥

abbrev IsNumberThing : Thing → ℕ → Type 0
IsNumberThing (Scalar (Number v)) w = v ≡ w
IsNumberThing _ w = ⊥

thing_is : (t : Thing) (a : Bool) (w : ℕ) → IsNumberThing t w → IsNumber (typed a t) w
thing_is (Scalar (Number v)) a w h = h
thing_is (Scalar Truth) a w h = absurd h
thing_is (Scalar Error) a w h = absurd h
thing_is (Scalar Unknown) a w h = absurd h
thing_is (Header n) a w h = absurd h
thing_is Struct a w h = absurd h
thing_is Standard a w h = absurd h
thing_is PacketIn a w h = absurd h
thing_is PacketOut a w h = absurd h

is_thing : (t : Thing) (a : Bool) (w : ℕ) → IsNumber (typed a t) w → IsNumberThing t w
is_thing (Scalar (Number v)) a w h = h
is_thing (Scalar Truth) a w h = absurd h
is_thing (Scalar Error) a w h = absurd h
is_thing (Scalar Unknown) a w h = absurd h
is_thing (Header n) a w h = absurd h
is_thing Struct a w h = absurd h
is_thing Standard a w h = absurd h
is_thing PacketIn a w h = absurd h
is_thing PacketOut a w h = absurd h

as_typed_is : (st : Stands) (w : ℕ) → IsNumber (as_typed st) w → IsNumber st w
as_typed_is (typed a t) w h = h
as_typed_is missing w h = absurd h
as_typed_is (held a t) w h = absurd h
as_typed_is (cells k) w h = absurd h
as_typed_is (act ps m) w h = absurd h
as_typed_is (rows m) w h = absurd h
as_typed_is state w h = absurd h
as_typed_is (function g) w h = absurd h
as_typed_is algorithm w h = absurd h
as_typed_is other w h = absurd h

typed_is : (st : Stands) (w : ℕ) → IsNumberThing (typed_thing (as_typed st)) w → IsNumber st w
typed_is (typed a t) w h = thing_is t a w h
typed_is missing w h = absurd h
typed_is (held a t) w h = absurd h
typed_is (cells k) w h = absurd h
typed_is (act ps m) w h = absurd h
typed_is (rows m) w h = absurd h
typed_is state w h = absurd h
typed_is (function g) w h = absurd h
typed_is algorithm w h = absurd h
typed_is other w h = absurd h

abbrev Agrees : Scope → List (List ℕ × PTy) → Type 0
Agrees s types = (x : List ℕ) (w : ℕ) → IsNumber (s (x ∷ [])) w → width_of (type_named types x) ≡ w

type_is : (s : Scope) (types : List (List ℕ × PTy)) → Agrees s types → (t : PTy) (w : ℕ) → IsNumberThing (thing_in s t) w → width_of (type_under types t) ≡ w
type_is s types a (type.Bit v) w h = h
type_is s types a type.Bool w h = absurd h
type_is s types a (type.Named y) w h = a y w (typed_is (s (y ∷ [])) w h)

number_at : (s : Scope) (types : List (List ℕ × PTy)) → Agrees s types → (t : PTy) (w : ℕ) → IsNumber (type_at s t []) w → width_of (type_under types t) ≡ w
number_at s types a (type.Bit v) w h = h
number_at s types a type.Bool w h = absurd h
number_at s types a (type.Named y) w h = a y w (as_typed_is (s (y ∷ [])) w h)

agrees_more : (s : Scope) (types : List (List ℕ × PTy)) (n : List ℕ) (d : What) → ((w : ℕ) → IsNumber (behind s d []) w → ⊥) → Agrees s types → Agrees (declare s n d) types
unfolding declare
agrees_more s types n d never a x w h = go (same_text n x) h
  where
    go : (b : Bool) → IsNumber (cond b (behind s d []) (s (x ∷ []))) w → width_of (type_named types x) ≡ w
    go true h = absurd (never w h)
    go false h = a x w h

agrees_alias : (s : Scope) (types : List (List ℕ × PTy)) (n : List ℕ) (t : PTy) → Agrees s types → Agrees (declare s n (alias t)) ((n, type_under types t) ∷ types)
unfolding declare
agrees_alias s types n t a x w h = go (same_text n x) h
  where
    go : (b : Bool) → IsNumber (cond b (typed false (thing_in s t)) (s (x ∷ []))) w → width_of (cond b (type_under types t) (type_named types x)) ≡ w
    go true h = type_is s types a t w (is_thing (thing_in s t) false w h)
    go false h = a x w h

agrees_end : (ts : List Top) (s : Scope) (sc : meaning.Scope) → Agrees s sc.types → Agrees (after_tops s ts) (behind_tops sc ts).types
agrees_end [] s sc a = a
agrees_end (constant q u z e ∷ ts) s sc a = agrees_end ts (after_top s (constant q u z e)) (behind_top sc (constant q u z e)) (agrees_more s sc.types z (value Constant u) (λ w h. h) a)
agrees_end (typedef q u z ∷ ts) s sc a = agrees_end ts (after_top s (typedef q u z)) (behind_top sc (typedef q u z)) (agrees_alias s sc.types z u a)
agrees_end (header_type q z fs ∷ ts) s sc a = agrees_end ts (after_top s (header_type q z fs)) sc (agrees_more s sc.types z (fields (Header (fields_bits s fs)) fs) (λ w h. h) a)
agrees_end (struct_type q z fs ∷ ts) s sc a = agrees_end ts (after_top s (struct_type q z fs)) sc (agrees_more s sc.types z (fields Struct fs) (λ w h. h) a)
agrees_end (register q d ∷ ts) s sc a = agrees_end ts (after_top s (register q d)) sc (agrees_more s sc.types d.name (scope.register d.ty) (λ w h. h) a)
agrees_end (parser q d ∷ ts) s sc a = agrees_end ts (after_top s (parser q d)) sc (agrees_more s sc.types d.name part (λ w h. h) a)
agrees_end (control q c ∷ ts) s sc a = agrees_end ts (after_top s (control q c)) sc (agrees_more s sc.types c.name part (λ w h. h) a)

no_number : (w : ℕ) (b : Bool) (a u : Stands) → (IsNumber a w → ⊥) → (IsNumber u w → ⊥) → IsNumber (cond b a u) w → ⊥
no_number w true a u n i h = n h
no_number w false a u n i h = i h

core_agrees : Agrees core []
unfolding core
core_agrees x w h =
    absurd
    (no_number w (same_text x (codes "standard_metadata_t")) _ _ (λ k. k)
    (no_number w (same_text x (codes "packet_in")) _ _ (λ k. k)
    (no_number w (same_text x (codes "packet_out")) _ _ (λ k. k)
    (no_number w (same_text x (codes "NoAction")) _ _ (λ k. k)
    (no_number w (same_text x (codes "mark_to_drop")) _ _ (λ k. k)
    (no_number w (same_text x (codes "digest")) _ _ (λ k. k)
    (no_number w (same_text x (codes "verify_checksum")) _ _ (λ k. k)
    (no_number w (same_text x (codes "update_checksum")) _ _ (λ k. k)
    (no_number w (same_text x (codes "HashAlgorithm")) other missing (λ k. k) (λ k. k))))))))) h)

-- ---- fields

field_found : (s : Scope) (types : List (List ℕ × PTy)) → Agrees s types → (above : List (List ℕ)) (fs : List (PTy × List ℕ)) (y : List ℕ) (w n : ℕ) → sound_width w ≡ w → IsNumber (field_at s fs y []) w → fields_width above (map (field_of types) fs) (above ++ y ∷ []) n ≡ w
field_found s types a above [] y w n e h = absurd h
field_found s types a above (f ∷ fs) y w n e h =
    ap (λ b. cond b (sound_width (width_of (type_under types f.0))) (fields_width above (map (field_of types) fs) (above ++ y ∷ []) n)) (same_below above f.1 y)
    ∙ go (same_text f.1 y) h (λ k. field_found s types a above fs y w n e k)
  where
    go : (b : Bool) → IsNumber (cond b (type_at s f.0 []) (field_at s fs y [])) w → (IsNumber (field_at s fs y []) w → fields_width above (map (field_of types) fs) (above ++ y ∷ []) n ≡ w)
        → cond b (sound_width (width_of (type_under types f.0))) (fields_width above (map (field_of types) fs) (above ++ y ∷ []) n) ≡ w
    go true h more = ap sound_width (number_at s types a f.0 w h) ∙ e
    go false h more = more h

is_number : (w : ℕ) (st : Stands) → is_field_of w st ≡ true → IsNumber st w
is_number w (typed a (Scalar (Number v))) h = grind (arith, nat_tests, h)
is_number w (typed a (Scalar Truth)) h = absurd (let z : false ≡ true = h in cc)
is_number w (typed a (Scalar Error)) h = absurd (let z : false ≡ true = h in cc)
is_number w (typed a (Scalar Unknown)) h = absurd (let z : false ≡ true = h in cc)
is_number w (typed a (Header n)) h = absurd (let z : false ≡ true = h in cc)
is_number w (typed a Struct) h = absurd (let z : false ≡ true = h in cc)
is_number w (typed a Standard) h = absurd (let z : false ≡ true = h in cc)
is_number w (typed a PacketIn) h = absurd (let z : false ≡ true = h in cc)
is_number w (typed a PacketOut) h = absurd (let z : false ≡ true = h in cc)
is_number w missing h = absurd (let z : false ≡ true = h in cc)
is_number w (held a t) h = absurd (let z : false ≡ true = h in cc)
is_number w (cells k) h = absurd (let z : false ≡ true = h in cc)
is_number w (act ps m) h = absurd (let z : false ≡ true = h in cc)
is_number w (rows m) h = absurd (let z : false ≡ true = h in cc)
is_number w state h = absurd (let z : false ≡ true = h in cc)
is_number w (function g) h = absurd (let z : false ≡ true = h in cc)
is_number w algorithm h = absurd (let z : false ≡ true = h in cc)
is_number w other h = absurd (let z : false ≡ true = h in cc)

module _ (p : Program) (well : IsWellTyped p) (w : ℕ) (wide : sound_width w ≡ w) where
  abbrev ts : List Top
  ts = p.tops

  abbrev E : Scope
  E = after_tops core ts

  abbrev H : List ℕ
  H = parser_type (parser_in p) 1

  abbrev M : List ℕ
  M = parser_type (parser_in p) 2

  fine : IsFine (tops_tests p.main core ts)
  fine = (typed_fine p well).0

  all : E ≡ program_scope p
  all = (first_at p well).all

  agrees : Agrees E (types_of ts)
  agrees = agrees_end ts core no_scope core_agrees

  of_meta : (x : List ℕ) → IsNumber (E (M ∷ x ∷ [])) w → width_at (parts_of p) (metadata_root ∷ x ∷ []) ≡ w
  of_meta x h =
      field_found E (types_of ts) agrees (metadata_root ∷ []) (struct_fields ts M) x w (headers_width (parts_of p).headers (metadata_root ∷ x ∷ []) 1) wide
      (subst (λ st. IsNumber st w) (struct_path p.main M ts core fine (ap (λ (s : Scope). names_struct (s (M ∷ []))) all ∙ metadata_struct p well) (core_no_struct M) x []) h)

  one_header : (f : PTy × List ℕ) (y : List ℕ) (n : ℕ) → is_header (thing_in E f.0) ≡ true → IsNumber (type_at E f.0 (y ∷ [])) w → fields_width (headers_root ∷ f.1 ∷ []) (header_of ts f).fields (headers_root ∷ f.1 ∷ y ∷ []) n ≡ w
  one_header (type.Bit v, x) y n i h = absurd h
  one_header (type.Bool, x) y n i h = absurd h
  one_header (type.Named t, x) y n i h =
      field_found E (types_of ts) agrees (headers_root ∷ x ∷ []) (header_fields ts t) y w n wide
      (subst (λ st. IsNumber st w) (header_path p.main t ts core fine i (core_no_header t) y []) (as_typed_is (E (t ∷ y ∷ [])) w h))

  in_headers : (fs : List (PTy × List ℕ)) (x y : List ℕ) (n : ℕ) → all_fields is_header E fs ≡ true → IsNumber (field_at E fs x (y ∷ [])) w → headers_width (map (header_of ts) fs) (headers_root ∷ x ∷ y ∷ []) n ≡ w
  in_headers [] x y n i h = absurd h
  in_headers (f ∷ fs) x y n i h = go (same_text f.1 x) refl h (λ k. in_headers fs x y n two.1 k)
    where
      two : (is_header (thing_in E f.0) ≡ true) × (all_fields is_header E fs ≡ true)
      two = both_hold (is_header (thing_in E f.0)) (all_fields is_header E fs) i

      go : (b : Bool) → same_text f.1 x ≡ b → IsNumber (cond b (type_at E f.0 (y ∷ [])) (field_at E fs x (y ∷ []))) w → (IsNumber (field_at E fs x (y ∷ [])) w → headers_width (map (header_of ts) fs) (headers_root ∷ x ∷ y ∷ []) n ≡ w)
          → fields_width (headers_root ∷ f.1 ∷ []) (header_of ts f).fields (headers_root ∷ x ∷ y ∷ []) (headers_width (map (header_of ts) fs) (headers_root ∷ x ∷ y ∷ []) n) ≡ w
      go true e h more =
          subst (λ z. fields_width (headers_root ∷ f.1 ∷ []) (header_of ts f).fields (headers_root ∷ z ∷ y ∷ []) (headers_width (map (header_of ts) fs) (headers_root ∷ x ∷ y ∷ []) n) ≡ w) ((text_decides f.1 x).0 e)
          (one_header f y (headers_width (map (header_of ts) fs) (headers_root ∷ x ∷ y ∷ []) n) two.0 h)
      go false e h more = other_header f.1 x y e (header_of ts f).fields (headers_width (map (header_of ts) fs) (headers_root ∷ x ∷ y ∷ []) n) ∙ more h

  of_header : (x y : List ℕ) → IsNumber (E (H ∷ x ∷ y ∷ [])) w → width_at (parts_of p) (headers_root ∷ x ∷ y ∷ []) ≡ w
  of_header x y h =
      no_metadata x y (parts_of p).metadata (headers_width (parts_of p).headers (headers_root ∷ x ∷ y ∷ []) 1)
      ∙ in_headers (struct_fields ts H) x y 1
      (ap (λ (s : Scope). all_fields is_header s (struct_fields ts H)) all ∙ (both_hold (is_struct (thing_in (program_scope p) (type.Named H))) (all_fields is_header (program_scope p) (struct_fields ts H)) (parts_in_role.headers p well)).1)
      (subst (λ st. IsNumber st w) (struct_path p.main H ts core fine (ap (λ (s : Scope). names_struct (s (H ∷ []))) all ∙ headers_struct p well) (core_no_struct H) x (y ∷ [])) h)

  -- the standard metadata
  standard_found : (x : List ℕ) (n : ℕ) → IsNumber (standard_at x) w → standard_width (standard_root ∷ x ∷ []) n ≡ w
  standard_found x n h =
      go (same_text x (codes "egress_spec")) refl (same_text x (codes "ingress_port")) refl (same_text x (codes "egress_port")) refl (same_text x (codes "packet_length")) refl (same_text x (codes "checksum_error")) refl (same_text x (codes "parser_error")) h
    where
      by : (c : List ℕ) → same_text x c ≡ true → standard_width (standard_root ∷ c ∷ []) n ≡ w → standard_width (standard_root ∷ x ∷ []) n ≡ w
      by c e h = subst (λ z. standard_width (standard_root ∷ z ∷ []) n ≡ w) (sym ((text_decides x c).0 e)) h

      go : (a : Bool) → same_text x (codes "egress_spec") ≡ a → (b : Bool) → same_text x (codes "ingress_port") ≡ b → (c : Bool) → same_text x (codes "egress_port") ≡ c → (d : Bool) → same_text x (codes "packet_length") ≡ d → (e : Bool) → same_text x (codes "checksum_error") ≡ e → (g : Bool)
          → IsNumber (cond a (typed false (Scalar (Number 9))) (cond (b || c) (typed true (Scalar (Number 9))) (cond d (typed true (Scalar (Number 32))) (cond e (typed true (Scalar (Number 1))) (cond g (typed true (Scalar Error)) missing))))) w
          → standard_width (standard_root ∷ x ∷ []) n ≡ w
      go true i b j c k d l e m g h = by (codes "egress_spec") i h
      go false i true j c k d l e m g h = by (codes "ingress_port") j h
      go false i false j true k d l e m g h = by (codes "egress_port") k h
      go false i false j false k true l e m g h = by (codes "packet_length") l h
      go false i false j false k false l true m g h = by (codes "checksum_error") m h
      go false i false j false k false l false m true h = absurd h
      go false i false j false k false l false m false h = absurd h

  standard_kept : (x : List ℕ) → E (codes "standard_metadata_t" ∷ x ∷ []) ≡ standard_at x
  unfolding core
  standard_kept x = (after_tops_keeps p.main core ts fine).kept (codes "standard_metadata_t") (x ∷ []) refl

  of_standard : (x : List ℕ) → IsNumber (E (codes "standard_metadata_t" ∷ x ∷ [])) w → width_at (parts_of p) (standard_root ∷ x ∷ []) ≡ w
  of_standard x h = standard_found x _ (subst (λ st. IsNumber st w) (standard_kept x) h)

  at_end : (q : List (List ℕ)) → IsNumber (program_scope p q) w → IsNumber (E q) w
  at_end q h = subst (λ (s : Scope). IsNumber (s q) w) (sym all) h

  pub found : (q : List (List ℕ)) → IsFieldPath q → is_field_of w (field_in (program_scope p) p q) ≡ true → width_at (parts_of p) q ≡ w
  found [] i h = absurd i
  found (r ∷ []) i h = absurd i
  found (r ∷ x ∷ []) (inl e) h =
      subst (λ r. width_at (parts_of p) (r ∷ x ∷ []) ≡ w) (sym e)
      (of_meta x (at_end (M ∷ x ∷ []) (is_number w (program_scope p (M ∷ x ∷ [])) (subst (λ r. is_field_of w (field_in (program_scope p) p (r ∷ x ∷ [])) ≡ true) e h))))
  found (r ∷ x ∷ []) (inr e) h =
      subst (λ r. width_at (parts_of p) (r ∷ x ∷ []) ≡ w) (sym e)
      (of_standard x (at_end (codes "standard_metadata_t" ∷ x ∷ []) (is_number w (program_scope p (codes "standard_metadata_t" ∷ x ∷ [])) (subst (λ r. is_field_of w (field_in (program_scope p) p (r ∷ x ∷ [])) ≡ true) e h))))
  found (r ∷ x ∷ y ∷ []) e h =
      subst (λ r. width_at (parts_of p) (r ∷ x ∷ y ∷ []) ≡ w) (sym e)
      (of_header x y (at_end (H ∷ x ∷ y ∷ []) (is_number w (program_scope p (H ∷ x ∷ y ∷ [])) (subst (λ r. is_field_of w (field_in (program_scope p) p (r ∷ x ∷ y ∷ [])) ≡ true) e h))))
  found (r ∷ x ∷ y ∷ z ∷ q) i h = absurd i

pub found_fields_are_declared : FoundFieldsAreDeclared
found_fields_are_declared p well w wide q i h = found p well w wide q i h
