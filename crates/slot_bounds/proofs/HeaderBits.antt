-- The bits of a header type, as the rules count them, are those of its fields; and so the bytes of all headers are theirs.
use Rattle.std.proofs.Common.{◌≡◌, ℕ, ◌+◌, ◌*◌, ◌/◌, ◌%◌, ◌≤◌, min, List, [], ◌∷◌, map, Bool, true, false, cond, not, nat_eq, refl, sym, ap, ◌∙◌, subst, arith}
use Rattle.std.proofs.lemmas.Bool.Decides.{nat_tests}
use Rattle.bit_values.specs.Widths.{sound_width}
use Rattle.rule_tests.specs.Tests.{IsFine}
use Rattle.p4_tree.specs.Tree.{Top, constant, typedef, header_type, struct_type, register, parser, control}
use Rattle.p4_tree.specs.declared.statement.PTy.{PTy}
use Rattle.p4_tree.specs.declared.statement.PTy.TheVariants as type
use Rattle.p4_meaning.specs.Scope as meaning
use Rattle.p4_meaning.specs.Scope.{type_name, type_under}
use Rattle.p4_meaning.specs.Under.{no_scope, behind_tops}
use Rattle.p4_meaning.specs.Parts.{header_fields, field_of, header_of}
use Rattle.p4_meaning.proofs.Words.{sound}
use Rattle.p4_scopes.specs.Kinds.{width_in}
use Rattle.p4_scopes.specs.Scopes.{Stands, missing, typed, held, cells, act, rows, state, function, algorithm, other, is_missing, thing_kind, typed_thing, thing_in, kind_in, Scope, What, alias, fields, value, part, behind, declare, add_up, fields_bits, core_name, core}
use Rattle.p4_scopes.specs.Scopes as scope
use Rattle.p4_scopes.specs.Uses.{is_scalar, is_header, header_bits}
use Rattle.p4_scopes.specs.declared.kind.Kind.TheVariants.{Number, Truth, Error, Unknown}
use Rattle.p4_scopes.specs.declared.thing.Thing.{Thing}
use Rattle.p4_scopes.specs.declared.thing.Thing.TheVariants.{Scalar, Header, Struct, Standard, PacketIn, PacketOut}
use Rattle.p4_scopes.specs.declared.thing.Access.TheVariants.{Constant}
use Rattle.p4_statement_rules.specs.Expressions.{type_tests}
use Rattle.p4_declaration_rules.specs.Declarations.{is_no_number, fields_tests, bits_over}
use Rattle.p4_declaration_rules.specs.Controls.{tops_tests, after_tops}
use Rattle.p4_rules.specs.Mains.{all_fields}
use Rattle.p4_rules.specs.Limits.{fields_bytes}
use Rattle.p4_typing_laws.specs.Soundness.{kind_width, IsWidth, IsSoundThing, IsSound}
use Rattle.p4_typing_laws.proofs.Fine.{twice_not}
use Rattle.p4_typing_laws.proofs.SoundScopes.{thing_sound}
use Rattle.p4_typing_laws.proofs.SoundPlaces.{top_sound}
use Rattle.p4_typing_laws.proofs.Cut.{IsCut, zero_cut, add_cut}
use Rattle.p4_typing_laws.proofs.CallCounts.{text_same}
use Rattle.passage_stores.proofs.DeclaredTypes.{broken, all_stays, StaysIn, type_stays, thing_at, either_name, skip, none_fits}
use Rattle.passage_stores.proofs.SightFits.{and_parts}
use Rattle.slot_packets.specs.Fields.{widths_sum}
use Rattle.slot_packets.specs.Headers as slots
use Rattle.slot_bounds.proofs.Types.{KnowsTypes, type_bits}
use Rattle.slot_bounds.proofs.Emitted as emitted

-- ---- fields of a header type

-- a field is a number
pub record IsNumber (S : Scope) (t : PTy) : Type 0 where
  pub width : ℕ
  pub is : thing_in S t ≡ Scalar (Number width)
  pub sound : IsWidth width

abbrev pub AreNumbers : Scope → List (PTy × List ℕ) → Type 0
AreNumbers S [] = Unit {0}
AreNumbers S (f ∷ fs) = IsNumber S f.0 × AreNumbers S fs

number_of : (S : Scope) (t : PTy) (u : Thing) → thing_in S t ≡ u → IsSoundThing u → is_no_number u ≡ false → IsNumber S t
number_of S t (Scalar (Number w)) e i h = record { width = w; is = e; sound = i }
number_of S t (Scalar Truth) e i h = broken h
number_of S t (Scalar Error) e i h = broken h
number_of S t (Scalar Unknown) e i h = absurd i
number_of S t (Header n) e i h = broken h
number_of S t Struct e i h = broken h
number_of S t Standard e i h = broken h
number_of S t PacketIn e i h = broken h
number_of S t PacketOut e i h = broken h

-- S: behind all declarations
module _ (S s : Scope) (on : StaysIn S s) (p : ℕ) where
  thing_stays : (t : PTy) → IsFine (type_tests p s t) → thing_in S t ≡ thing_in s t
  thing_stays t f = ap typed_thing (type_stays S s on p t f [])

  numbers_stay : IsSound s → (fs : List (PTy × List ℕ)) → IsFine (fields_tests p is_no_number s fs) → AreNumbers S fs
  numbers_stay is [] f = tt
  numbers_stay is (g ∷ fs) f = (number_of S g.0 (thing_in s g.0) (thing_stays g.0 f.0.0) (thing_sound p s is g.0 f.0.0) f.0.1, numbers_stay is fs f.1)

  bits_stay : (fs : List (PTy × List ℕ)) → IsFine (fields_tests p is_no_number s fs) → fields_bits S fs ≡ fields_bits s fs
  bits_stay [] f = refl
  bits_stay (g ∷ fs) f =
      ap (λ (t : Thing). add_up (width_in (thing_kind t)) (fields_bits S fs)) (thing_stays g.0 f.0.0) ∙ ap (add_up (width_in (kind_in s g.0))) (bits_stay fs f.1)

  over_stays : (fs : List (PTy × List ℕ)) → IsFine (fields_tests p is_no_number s fs) → bits_over S fs ≡ bits_over s fs
  over_stays [] f = refl
  over_stays (g ∷ fs) f =
      ap (λ (t : Thing). (width_in (thing_kind t) + bits_over S fs) % 8) (thing_stays g.0 f.0.0) ∙ ap (λ (n : ℕ). (width_in (kind_in s g.0) + n) % 8) (over_stays fs f.1)

-- ---- header types

-- what the rules say of a header type with these fields
pub record IsCounted (S : Scope) (fs : List (PTy × List ℕ)) (x : List ℕ) : Type 0 where
  pub bits : header_bits (thing_at (S (x ∷ []))) ≡ fields_bits S fs
  pub whole : bits_over S fs ≡ 0
  pub numbers : AreNumbers S fs

no_header : (t : Thing) → not (is_scalar t) ≡ false → is_header t ≡ false
no_header (Scalar k) h = refl
no_header (Header n) h = broken h
no_header Struct h = broken h
no_header Standard h = broken h
no_header PacketIn h = broken h
no_header PacketOut h = broken h

zero_is : (n : ℕ) → not (nat_eq n 0) ≡ false → n ≡ 0
zero_is n h = (let e = twice_not (nat_eq n 0) h in grind (arith, nat_tests, e))

module _ (main : List (List ℕ)) where
  -- what is declared is no header
  passed : (s : Scope) (n : List ℕ) (w : What) (ts : List Top) → is_missing (s (n ∷ [])) ≡ true → is_missing (behind s w []) ≡ false → is_header (thing_at (behind s w [])) ≡ false → IsFine (tops_tests main (declare s n w) ts) → (x : List ℕ) → is_missing (s (x ∷ [])) ≡ true
      → is_header (thing_at (after_tops (declare s n w) ts (x ∷ []))) ≡ true → is_missing (declare s n w (x ∷ [])) ≡ true
  passed s n w ts new some misfit f x h k = skip main is_header s n w ts new some misfit f x h k (λ m. m)

  pub counted : (ts : List Top) (s : Scope) → IsFine (tops_tests main s ts) → IsSound s → (x : List ℕ) → is_missing (s (x ∷ [])) ≡ true → is_header (thing_at (after_tops s ts (x ∷ []))) ≡ true → IsCounted (after_tops s ts) (header_fields ts x) x
  counted [] s f is x h k = absurd (none_fits main is_header refl (s (x ∷ [])) h k)
  counted (constant p t y e ∷ ts) s f is x h k = counted ts _ f.1 (top_sound main s is (constant p t y e) f.0) x (passed s y (value Constant t) ts (twice_not _ f.0.0) refl refl f.1 x h k) k
  counted (typedef p t y ∷ ts) s f is x h k = counted ts _ f.1 (top_sound main s is (typedef p t y) f.0) x (passed s y (alias t) ts (twice_not _ f.0.0) refl (no_header (thing_in s t) f.0.1.1) f.1 x h k) k
  counted (header_type p y fs ∷ ts) s f is x h k =
      (let t = header_type p y fs in
      let S = after_tops s (t ∷ ts) in
      let on : StaysIn S s = λ z zs i. all_stays main (t ∷ ts) s f z zs i in
      let fine = f.0.1.1.0 in
      either_name main s y (fields (Header (fields_bits s fs)) fs) ts (twice_not _ f.0.0) refl f.1 x h
      (λ e same. subst (λ (b : Bool). IsCounted S (cond b fs (header_fields ts x)) x) (sym (text_same y x e)) (record {
        bits = ap (λ (v : Stands). header_bits (thing_at v)) (same []) ∙ sym (bits_stay S s on p fs fine);
        whole = over_stays S s on p fs fine ∙ zero_is (bits_over s fs) f.0.1.1.1;
        numbers = numbers_stay S s on p is fs fine;
      }))
      (λ e m. subst (λ (b : Bool). IsCounted S (cond b fs (header_fields ts x)) x) (sym e) (counted ts _ f.1 (top_sound main s is t f.0) x m k)))
  counted (struct_type p y fs ∷ ts) s f is x h k = counted ts _ f.1 (top_sound main s is (struct_type p y fs) f.0) x (passed s y (fields Struct fs) ts (twice_not _ f.0.0) refl refl f.1 x h k) k
  counted (register p r ∷ ts) s f is x h k = counted ts _ f.1 (top_sound main s is (register p r) f.0) x (passed s r.name (scope.register r.ty) ts (twice_not _ f.0.0) refl refl f.1 x h k) k
  counted (parser p d ∷ ts) s f is x h k = counted ts _ f.1 (top_sound main s is (parser p d) f.0) x (passed s d.name part ts (twice_not _ f.0.0) refl refl f.1 x h k) k
  counted (control p c ∷ ts) s f is x h k = counted ts _ f.1 (top_sound main s is (control p c) f.0) x (passed s c.name part ts (twice_not _ f.0.0) refl refl f.1 x h k) k

-- ---- the bits of a header

-- S, sc: behind all declarations
module _ (S : Scope) (sc : meaning.Scope) (knows : KnowsTypes S sc) where
  field_width : (f : PTy × List ℕ) (n : IsNumber S f.0) → (field_of sc.types f).width ≡ width_in (kind_in S f.0)
  field_width f n =
      (let kind : kind_in S f.0 ≡ Number n.width = ap thing_kind n.is in
      let bits = type_bits S sc knows f.0 (subst IsSoundThing (sym n.is) n.sound) (ap is_scalar n.is) ∙ ap kind_width kind in
      ap sound_width bits ∙ sound n.width n.sound.least n.sound.most ∙ sym (ap width_in kind))

  -- by the widths of the fields
  abbrev sum_of : List (PTy × List ℕ) → ℕ
  sum_of fs = widths_sum (map slots.width_in (map (field_of sc.types) fs))

  field_cut : (f : PTy × List ℕ) (n : IsNumber S f.0) → IsCut (field_of sc.types f).width (width_in (kind_in S f.0))
  field_cut f n = (let e = field_width f n in let w = ap (λ (t : Thing). width_in (thing_kind t)) n.is in let m = n.sound.most in record { cut = omega (arith, e, w, m) })

  sum_cut : (fs : List (PTy × List ℕ)) → AreNumbers S fs → IsCut (sum_of fs) (fields_bits S fs)
  sum_cut [] h = zero_cut
  sum_cut (f ∷ fs) h = add_cut _ _ _ _ (field_cut f h.0) (sum_cut fs h.1)

  over_next : (v w o r : ℕ) → v ≡ w → o ≡ r % 8 → (w + o) % 8 ≡ (v + r) % 8
  over_next v w o r h k = omega (arith, h, k)

  sum_over : (fs : List (PTy × List ℕ)) → AreNumbers S fs → bits_over S fs ≡ sum_of fs % 8
  sum_over [] h = refl
  sum_over (f ∷ fs) h = over_next (field_of sc.types f).width (width_in (kind_in S f.0)) (bits_over S fs) (sum_of fs) (field_width f h.0) (sum_over fs h.1)

-- ---- the bytes of all headers

bytes_next : (sum bits rest bytes total : ℕ) → min sum 4294967295 ≡ bits → sum % 8 ≡ 0 → add_up (bits / 8) bytes ≡ total → total ≤ 2304 → (bytes ≤ 2304 → rest ≡ 8 * bytes) → sum + rest ≡ 8 * total
bytes_next sum bits rest bytes total cut whole e most more =
    (let small : bytes ≤ 2304 = omega (arith, e, most) in
    let r = more small in
    omega (arith, cut, whole, e, most, r))

module _ (S : Scope) (ts : List Top) (knows : KnowsTypes S (behind_tops no_scope ts)) (found : (x : List ℕ) → is_header (thing_at (S (x ∷ []))) ≡ true → IsCounted S (header_fields ts x) x) where
  header_counted : (f : PTy × List ℕ) → is_header (thing_in S f.0) ≡ true → IsCut (emitted.header_bits (header_of ts f)) (header_bits (thing_in S f.0)) × (emitted.header_bits (header_of ts f) % 8 ≡ 0)
  header_counted (type.Bit w, n) h = broken (sym h)
  header_counted (type.Bool, n) h = broken (sym h)
  header_counted (type.Named x, n) h =
      (let at = found x h in (
        subst (IsCut (sum_of S (behind_tops no_scope ts) knows (header_fields ts x))) (sym at.bits) (sum_cut S (behind_tops no_scope ts) knows (header_fields ts x) at.numbers),
        sym (sum_over S (behind_tops no_scope ts) knows (header_fields ts x) at.numbers) ∙ at.whole,
      ))

  -- their bits are those of all headers
  pub all_counted : (fs : List (PTy × List ℕ)) → all_fields is_header S fs ≡ true → fields_bytes S fs ≤ 2304 → emitted.all_bits (map (header_of ts) fs) ≡ 8 * fields_bytes S fs
  all_counted [] h most = refl
  all_counted (f ∷ fs) h most =
      (let k = and_parts (is_header (thing_in S f.0)) (all_fields is_header S fs) h in
      let c = header_counted f k.0 in
      bytes_next (emitted.header_bits (header_of ts f)) (header_bits (thing_in S f.0)) (emitted.all_bits (map (header_of ts) fs)) (fields_bytes S fs) (fields_bytes S (f ∷ fs)) c.0.cut c.1 refl most (all_counted fs k.1))
