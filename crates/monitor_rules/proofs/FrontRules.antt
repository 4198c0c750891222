-- What the trees declare in front of a program: the rules there, and what it leaves in sight.
use Rattle.std.proofs.Common.{◌≡◌, ℕ, ◌+◌, ◌%◌, ◌≤◌, List, [], ◌∷◌, ◌++◌, map, Bool, true, false, cond, not, ◌||◌, nat_eq, nat_lt, Some, None, refl, sym, ap, ap₂, ◌∙◌, subst, arith}
use Rattle.std.specs.List.{AllByRecursion}
use Rattle.std.proofs.lemmas.Bool.{ltb-false}
use Rattle.std.proofs.lemmas.Bool.Decides.{nat_tests}
use Rattle.bit_values.specs.Widths.{sound_width}
use Rattle.lex_text.specs.Names.{same_text}
use Rattle.rule_tests.specs.Tests.{test, both, IsFine}
use Rattle.indus_tree.specs.Tree.{Shape, one, list, set, dict, Decl}
use Rattle.indus_tree.specs.State.{lookup, shape_width, width_of}
use Rattle.indus_tree.specs.declared.tree.DeclKind.{DeclKind}
use Rattle.indus_tree.specs.declared.tree.DeclKind.TheVariants.{Tele, Sensor, Header, Control}
use Rattle.indus_tree.specs.declared.tree.Ty.{Ty}
use Rattle.indus_tree.specs.declared.tree.Ty.TheVariants as ty
use Rattle.indus_rules.specs.Rules.{misshapen, bad_width, bad_shape}
use Rattle.indus_types.proofs.Widths.{neither}
use Rattle.p4_meaning.specs.Parsing.{Field, width_sum}
use Rattle.p4_meaning.proofs.Words.{sound_wide, sound_narrow}
use Rattle.p4_tree.specs.Tree.{Top}
use Rattle.p4_scopes.specs.Scopes.{Scope, Stands, cells, typed, held, What, value, fields, declare, core, is_missing, kind_in, field_at, fields_bits}
use Rattle.p4_scopes.specs.Scopes as scope
use Rattle.p4_scopes.specs.declared.kind.Kind.{Kind}
use Rattle.p4_scopes.specs.declared.kind.Kind.TheVariants as t
use Rattle.p4_scopes.specs.declared.thing.Thing.TheVariants as thing
use Rattle.p4_statement_rules.specs.Expressions.{scalar_tests}
use Rattle.p4_statement_rules.specs.declared.rule.ProgramRule.TheVariants.{BadSize}
use Rattle.p4_parser_states.specs.Cycles.{is_among}
use Rattle.p4_declaration_rules.specs.Declarations.{has_twice, fields_tests, field_names, is_no_number, bits_over, register_tests}
use Rattle.p4_declaration_rules.specs.Controls.{after_top, tops_tests, after_tops}
use Rattle.p4_typing_laws.proofs.CallCounts.{text_is, text_same}
use Rattle.monitor_laws.specs.Telemetry.{AreApart}
use Rattle.sensor_registers.specs.Registers.{cell_type, cells_type, cell_count, register_of}
use Rattle.lowered_code.specs.Names.{tele_name, sensor_name}
use Rattle.whole_properties.specs.Whole.{tele_field, tele_fields}
use Rattle.whole_properties.proofs.Once.{AreOnce}
use Rattle.lower_blocks.specs.Trees.{field_tree, register_tops, registers_of}
use Rattle.monitor_rules.proofs.FormRules.{IsWidth}
use Rattle.monitor_rules.proofs.LocalRules.{declare_other, declare_here}

pub width_of_sound : (w : ℕ) → sound_width w ≡ w → IsWidth w
width_of_sound w e =
    let low : 1 ≤ w = subst (λ v. 1 ≤ v) e (sound_wide w) in
    let up : w ≤ 128 = subst (λ v. v ≤ 128) e (sound_narrow w) in
    record { some = grind (arith, nat_tests, low); few = grind (arith, nat_tests, up) }

flip : (x y : List ℕ) → same_text x y ≡ false → same_text y x ≡ false
flip x y h = go (same_text y x) refl
  where
    go : (b : Bool) → same_text y x ≡ b → b ≡ false
    go true e = absurd (let z : true ≡ false = sym (text_same x y (sym (text_is y x e))) ∙ h in cc z)
    go false e = refl

pub tops_append : (s : Scope) (a b : List Top) → after_tops s (a ++ b) ≡ after_tops (after_tops s a) b
tops_append s [] b = refl
tops_append s (l ∷ a) b = tops_append (after_top s l) a b

-- ---- the telemetry's header

abbrev pub AreWide : List Field → Type 0
AreWide fs = AllByRecursion (λ (f : Field). IsWidth f.width) fs

none_twice : (x : List ℕ) (fs : List Field) → AllByRecursion (λ g. same_text x g.name ≡ false) fs → is_among (field_names (map field_tree fs)) x ≡ false
none_twice x [] h = refl
none_twice x (f ∷ fs) h = ap₂ (λ (a b : Bool). a || b) (flip x f.name h.0) (none_twice x fs h.1)

pub no_twice : (fs : List Field) → AreApart fs → has_twice (field_names (map field_tree fs)) ≡ false
no_twice [] h = refl
no_twice (f ∷ fs) h = ap₂ (λ (a b : Bool). a || b) (none_twice f.name fs h.0) (no_twice fs h.1)

pub fields_fine : (s : Scope) (fs : List Field) → AreWide fs → IsFine (fields_tests 0 is_no_number s (map field_tree fs))
fields_fine s [] h = tt
fields_fine s (f ∷ fs) h = ((ap₂ (λ (a b : Bool). a || b) h.0.some h.0.few, refl), fields_fine s fs h.1)

pub bits_are : (s : Scope) (fs : List Field) → bits_over s (map field_tree fs) ≡ width_sum fs % 8
bits_are s [] = refl
bits_are s (f ∷ fs) = (let e = bits_are s fs in ap (λ n. (f.width + n) % 8) e ∙ (let z : (f.width + width_sum fs % 8) % 8 ≡ (f.width + width_sum fs) % 8 = omega arith in z))

-- the field of a variable
pub field_found : (s : Scope) (ds : List Decl) (more : List Field) (x : List ℕ) (c : Decl) → lookup ds x ≡ Some c → c.kind ≡ Tele → field_at s (map field_tree (tele_fields ds ++ more)) (tele_name x) [] ≡ typed false (thing.Scalar (t.Number (shape_width c.shape)))
field_found s [] more x c is k = absurd (cc is)
field_found s (d ∷ ds) more x c is k = go d.kind refl (same_text d.name x) refl is (field_found s ds more x c)
  where
    go :
        (z : DeclKind) → d.kind ≡ z → (b : Bool) → same_text d.name x ≡ b → cond b (Some d) (lookup ds x) ≡ Some c →
        (lookup ds x ≡ Some c → c.kind ≡ Tele → field_at s (map field_tree (tele_fields ds ++ more)) (tele_name x) [] ≡ typed false (thing.Scalar (t.Number (shape_width c.shape)))) →
        field_at s (map field_tree ((tele_field z d ++ tele_fields ds) ++ more)) (tele_name x) [] ≡ typed false (thing.Scalar (t.Number (shape_width c.shape)))
    go Tele e true q i rest =
        let same : d ≡ c = cc i in
        ap (λ b. cond b (typed false (thing.Scalar (t.Number (shape_width d.shape)))) (field_at s (map field_tree (tele_fields ds ++ more)) (tele_name x) [])) q
        ∙ ap (λ (d : Decl). typed false (thing.Scalar (t.Number (shape_width d.shape)))) same
    go Tele e false q i rest = ap (λ b. cond b (typed false (thing.Scalar (t.Number (shape_width d.shape)))) (field_at s (map field_tree (tele_fields ds ++ more)) (tele_name x) [])) q ∙ rest i k
    go Sensor e true q i rest = absurd (let same : d ≡ c = cc i in let z : Sensor ≡ Tele = sym e ∙ ap (λ (d : Decl). d.kind) same ∙ k in cc z)
    go Sensor e false q i rest = rest i k
    go Header e true q i rest = absurd (let same : d ≡ c = cc i in let z : Header ≡ Tele = sym e ∙ ap (λ (d : Decl). d.kind) same ∙ k in cc z)
    go Header e false q i rest = rest i k
    go Control e true q i rest = absurd (let same : d ≡ c = cc i in let z : Control ≡ Tele = sym e ∙ ap (λ (d : Decl). d.kind) same ∙ k in cc z)
    go Control e false q i rest = rest i k

-- ---- registers

abbrev pub NoSensor : List ℕ → List Decl → Type 0
NoSensor x ds = AllByRecursion (λ d. same_text (sensor_name d.name) x ≡ false) ds

pub registers_others : (s : Scope) (ds : List Decl) (x : List ℕ) (xs : List (List ℕ)) → NoSensor x ds → after_tops s (registers_of ds) (x ∷ xs) ≡ s (x ∷ xs)
registers_others s [] x xs h = refl
registers_others s (d ∷ ds) x xs h = go d.kind (λ s. registers_others s ds x xs h.1)
  where
    go : (k : DeclKind) → ((s : Scope) → after_tops s (registers_of ds) (x ∷ xs) ≡ s (x ∷ xs)) → after_tops s (register_tops k d ++ registers_of ds) (x ∷ xs) ≡ s (x ∷ xs)
    go Tele f = f s
    go Sensor f = f (declare s (sensor_name d.name) (scope.register (cells_type d.shape))) ∙ declare_other s (sensor_name d.name) (scope.register (cells_type d.shape)) x xs h.0
    go Header f = f s
    go Control f = f s

-- no declaration has a name that is not found
pub none_named : (ds : List Decl) (x : List ℕ) → lookup ds x ≡ None → NoSensor (sensor_name x) ds
none_named [] x h = tt
none_named (d ∷ ds) x h = go (same_text d.name x) refl h (none_named ds x)
  where
    go : (b : Bool) → same_text d.name x ≡ b → cond b (Some d) (lookup ds x) ≡ None → (lookup ds x ≡ None → NoSensor (sensor_name x) ds) → NoSensor (sensor_name x) (d ∷ ds)
    go true e h r = absurd (cc h)
    go false e h r = (e, r h)

abbrev number_kind : ℕ → Kind
number_kind w = t.Number w

cell_kind : (s : Scope) (k : Shape) → misshapen Sensor k ≡ false → kind_in s (cells_type k) ≡ t.Number (shape_width k)
cell_kind s (one t) h = go t
  where
    go : (t : Ty) → kind_in s (cell_type t) ≡ number_kind (width_of t)
    go (ty.Bit w) = refl
    go ty.Bool = refl
cell_kind s (list t n) h = go t
  where
    go : (t : Ty) → kind_in s (cell_type t) ≡ number_kind (width_of t)
    go (ty.Bit w) = refl
    go ty.Bool = refl
cell_kind s (set ks) h = absurd (cc h)
cell_kind s (dict ks t) h = absurd (cc h)

pub registers_stand : (s : Scope) (ds : List Decl) (x : List ℕ) (c : Decl) → AreOnce ds → AllByRecursion (λ d. misshapen d.kind d.shape ≡ false) ds → lookup ds x ≡ Some c → c.kind ≡ Sensor → after_tops s (registers_of ds) (sensor_name x ∷ []) ≡ cells (t.Number (shape_width c.shape))
registers_stand s [] x c o m is k = absurd (cc is)
registers_stand s (d ∷ ds) x c o m is k = go (λ s i. registers_stand s ds x c o.1 m.1 i k) d.kind refl m.0 (same_text d.name x) refl is
  where
    go : ((s : Scope) → lookup ds x ≡ Some c → after_tops s (registers_of ds) (sensor_name x ∷ []) ≡ cells (t.Number (shape_width c.shape))) → (z : DeclKind) → d.kind ≡ z → misshapen z d.shape ≡ false → (b : Bool) → same_text d.name x ≡ b → cond b (Some d) (lookup ds x) ≡ Some c → after_tops s (register_tops z d ++ registers_of ds) (sensor_name x ∷ []) ≡ cells (t.Number (shape_width c.shape))
    go f Sensor e h true q i =
        let same : d ≡ c = cc i in
        let name : d.name ≡ x = text_is d.name x q in
        let w = scope.register (cells_type d.shape) in
        ap (λ y. after_tops (declare s (sensor_name d.name) w) (registers_of ds) (sensor_name y ∷ [])) (sym name)
        ∙ registers_others (declare s (sensor_name d.name) w) ds (sensor_name d.name) [] (none_named ds d.name o.0)
        ∙ declare_here s (sensor_name d.name) w [] ∙ ap cells (cell_kind s d.shape h) ∙ ap (λ (d : Decl). cells (t.Number (shape_width d.shape))) same
    go f Sensor e h false q i = f (declare s (sensor_name d.name) (scope.register (cells_type d.shape))) i
    go f Tele e h true q i = absurd (let same : d ≡ c = cc i in let z : Tele ≡ Sensor = sym e ∙ ap (λ (d : Decl). d.kind) same ∙ k in cc z)
    go f Tele e h false q i = f s i
    go f Header e h true q i = absurd (let same : d ≡ c = cc i in let z : Header ≡ Sensor = sym e ∙ ap (λ (d : Decl). d.kind) same ∙ k in cc z)
    go f Header e h false q i = f s i
    go f Control e h true q i = absurd (let same : d ≡ c = cc i in let z : Control ≡ Sensor = sym e ∙ ap (λ (d : Decl). d.kind) same ∙ k in cc z)
    go f Control e h false q i = f s i

-- what is asked of declarations
pub record CanBeRegister (d : Decl) : Type 0 where
  pub shaped : misshapen d.kind d.shape ≡ false
  pub sized : bad_shape d.shape ≡ false

type_fine : (s : Scope) (t : Ty) → bad_width t ≡ false → IsFine (scalar_tests 0 s (cell_type t))
type_fine s (ty.Bit w) h = (h, refl)
type_fine s ty.Bool h = (refl, refl)

count_fine : (n : ℕ) → nat_eq n 0 ≡ false → nat_lt 255 n ≡ false → (nat_eq n 0 || nat_lt 4194304 n) ≡ false
count_fine n a b = (let le = ltb-false 255 n b in let c : nat_lt 4194304 n ≡ false = grind (arith, nat_tests, le) in ap₂ (λ (x y : Bool). x || y) a c)

register_fine : (s : Scope) (d : Decl) → misshapen Sensor d.shape ≡ false → bad_shape d.shape ≡ false → is_missing (s (sensor_name d.name ∷ [])) ≡ true → IsFine (register_tests s (register_of d))
register_fine s d m b new = (ap not new, go d.shape m b)
  where
    go : (k : Shape) → misshapen Sensor k ≡ false → bad_shape k ≡ false → IsFine (both (scalar_tests 0 s (cells_type k)) (test 0 BadSize (nat_eq (cell_count k) 0 || nat_lt 4194304 (cell_count k))))
    go (one t) m b = (type_fine s t b, refl)
    go (list t n) m b = (let x = neither (bad_width t || nat_eq n 0) (nat_lt 255 n) b in let y = neither (bad_width t) (nat_eq n 0) x.0 in (type_fine s t y.0, count_fine n y.1 x.1))
    go (set ks) m b = absurd (cc m)
    go (dict ks t) m b = absurd (cc m)

abbrev pub RegistersNew : Scope → List Decl → Type 0
RegistersNew s ds = AllByRecursion (λ d. is_missing (s (sensor_name d.name ∷ [])) ≡ true) ds

new_behind : (s : Scope) (d : Decl) (w : What) (ds : List Decl) → NoSensor (sensor_name d.name) ds → RegistersNew s ds → RegistersNew (declare s (sensor_name d.name) w) ds
new_behind s d w [] n h = tt
new_behind s d w (e ∷ ds) n h = (ap is_missing (declare_other s (sensor_name d.name) w (sensor_name e.name) [] (flip (sensor_name e.name) (sensor_name d.name) n.0)) ∙ h.0, new_behind s d w ds n.1 h.1)

pub registers_fine :
    (main : List (List ℕ)) (s : Scope) (ds : List Decl) (rest : List Top) → AreOnce ds → AllByRecursion CanBeRegister ds → RegistersNew s ds →
    IsFine (tops_tests main (after_tops s (registers_of ds)) rest) → IsFine (tops_tests main s (registers_of ds ++ rest))
registers_fine main s [] rest o c n k = k
registers_fine main s (d ∷ ds) rest o c n k = go (λ s n k. registers_fine main s ds rest o.1 c.1 n k) d.kind c.0.shaped k
  where
    go :
        ((s : Scope) → RegistersNew s ds → IsFine (tops_tests main (after_tops s (registers_of ds)) rest) → IsFine (tops_tests main s (registers_of ds ++ rest))) →
        (z : DeclKind) → misshapen z d.shape ≡ false → IsFine (tops_tests main (after_tops s (register_tops z d ++ registers_of ds)) rest) → IsFine (tops_tests main s ((register_tops z d ++ registers_of ds) ++ rest))
    go f Tele m k = f s n.1 k
    go f Sensor m k = (register_fine s d m c.0.sized n.0, f (declare s (sensor_name d.name) (scope.register (cells_type d.shape))) (new_behind s d (scope.register (cells_type d.shape)) ds (none_named ds d.name o.0) n.1) k)
    go f Header m k = f s n.1 k
    go f Control m k = f s n.1 k
