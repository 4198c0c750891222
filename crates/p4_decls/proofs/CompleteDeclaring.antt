-- Registers, parameters and fields that are spelled are read.
use Rattle.std.proofs.Common.{◌≡◌, ℕ, ◌+◌, ◌≤◌, false, List, [], ◌∷◌, ◌++◌, length, Some, Ok, refl, ap, ◌∙◌}
use Rattle.std.specs.Prelude.{slice_get}
use Rattle.lex_text.specs.declared.literal.Literal.{Literal}
use Rattle.lex_words.specs.declared.key.Key.{Key}
use Rattle.lex_words.specs.declared.key.Key.TheVariants as k
use Rattle.lex_words.specs.Seen.{Lexeme, name, number, key, at_key}
use Rattle.lex_words.proofs.Standing.{Stands, Stands-split}
use Rattle.lex_words.proofs.Steps.{goes_on, expect_ok, named_ok, is_not, number_is}
use Rattle.p4_tree.specs.declared.statement.PTy.{PTy}
use Rattle.p4_tree.specs.declared.statement.PTy.TheVariants as type
use Rattle.p4_tree.specs.declared.program.Way.{Way}
use Rattle.p4_tree.specs.declared.program.Way.TheVariants as way
use Rattle.p4_tree.specs.declared.program.Param.{Param}
use Rattle.p4_tree.specs.declared.program.Register.{Register}
use Rattle.p4_spelling.specs.Types.{a_bool, a_bit, bits, SpellsType, a_scalar, a_name, SpellsClosed, closed, both_closed, SpellsRegister, a_register, SpellsWay, plain, into, out, both, SpellsParam, a_param, SpellsArgument, an_argument, SpellsField, a_field}
use Rattle.p4_expressions.proofs.CompleteSteps.{small_ok}
use Rattle.p4_reader.proofs.CompleteDeclared.{type_is_read}
use Rattle.p4_decls.specs.Declaring.{closed_width_at, closed_bits_at, closed_at, register_at, way_at, param_at, argument_at, field_at}
use Rattle.p4_decls.proofs.Firsts.{type_first}

module _ (ws : List Lexeme) (n : ℕ) where
  -- ---- registers

  width_closes : (v : Literal) (i q : ℕ) → v.value ≤ 255 → slice_get ws i ≡ Some (key k.Less) → slice_get ws (i + 1) ≡ Some (number v) → slice_get ws (i + 1 + 1) ≡ Some (key k.More) → slice_get ws (i + 1 + 1 + 1) ≡ Some (key k.More)
      → i + 1 + 1 + 1 + 1 ≡ q → closed_width_at ws n i ≡ Ok (type.Bit v.value, q)
  unfolding closed_width_at
  width_closes v i q low a b c d same =
      goes_on _ _ (k.Less, i + 1) _ (expect_ok ws k.Less i a) (goes_on _ _ (v.value, i + 1 + 1) _ (small_ok ws n v (i + 1) b low)
      (rw c (goes_on _ _ (k.More, i + 1 + 1 + 1) _ (expect_ok ws k.More (i + 1 + 1) c) (goes_on _ _ (k.More, i + 1 + 1 + 1 + 1) _ (expect_ok ws k.More (i + 1 + 1 + 1) d) (ap (λ j. Ok (type.Bit v.value, j)) same)))))

  shift_closes : (v : Literal) (i q : ℕ) → v.value ≤ 255 → slice_get ws i ≡ Some (key k.Less) → slice_get ws (i + 1) ≡ Some (number v) → slice_get ws (i + 1 + 1) ≡ Some (key k.ShiftRight) → i + 1 + 1 + 1 ≡ q
      → closed_width_at ws n i ≡ Ok (type.Bit v.value, q)
  unfolding closed_width_at
  shift_closes v i q low a b c same =
      goes_on _ _ (k.Less, i + 1) _ (expect_ok ws k.Less i a) (goes_on _ _ (v.value, i + 1 + 1) _ (small_ok ws n v (i + 1) b low) (rw c (ap (λ j. Ok (type.Bit v.value, j)) same)))

  bits_close : (i q : ℕ) (t : PTy) → slice_get ws i ≡ Some (key k.Bit) → slice_get ws (i + 1) ≡ Some (key k.Less) → closed_width_at ws n (i + 1) ≡ Ok (t, q) → closed_bits_at ws n i ≡ Ok (t, q)
  unfolding closed_bits_at
  bits_close i q t a b r = goes_on _ _ (k.Bit, i + 1) _ (expect_ok ws k.Bit i a) (rw b r)

  bit_closes : (i q : ℕ) → slice_get ws i ≡ Some (key k.Bit) → slice_get ws (i + 1) ≡ Some (key k.More) → i + 1 + 1 ≡ q → closed_bits_at ws n i ≡ Ok (type.Bit 1, q)
  unfolding closed_bits_at
  bit_closes i q a b same = goes_on _ _ (k.Bit, i + 1) _ (expect_ok ws k.Bit i a) (rw b (goes_on _ _ (k.More, i + 1 + 1) _ (expect_ok ws k.More (i + 1) b) (ap (λ j. Ok (type.Bit 1, j)) same)))

  -- a type that begins with no `bit`
  other_closes : {t : PTy} {u : List Lexeme} → SpellsType t u → (i m q : ℕ) → Stands ws i u m → at_key k.Bit (slice_get ws i) ≡ false → slice_get ws m ≡ Some (key k.More) → m + 1 ≡ q → closed_at ws n i ≡ Ok (t, q)
  unfolding closed_at
  other_closes {t = t} s i m q st e more same =
      rw e (goes_on _ _ (t, m) _ (type_is_read ws n s i m st (is_not ws k.Less k.More m more refl)) (goes_on _ _ (k.More, m + 1) _ (expect_ok ws k.More m more) (ap (λ j. Ok (t, j)) same)))

  bit_opens : (i : ℕ) → slice_get ws i ≡ Some (key k.Bit) → closed_at ws n i ≡ closed_bits_at ws n i
  unfolding closed_at
  bit_opens i e = rw e refl

  pub closed_is_read : {t : PTy} {u : List Lexeme} → SpellsClosed t u → (p q : ℕ) → Stands ws p u q → closed_at ws n p ≡ Ok (t, q)
  closed_is_read (closed (a_scalar a_bool)) p q st = other_closes (a_scalar a_bool) p (p + 1) q (st.0, refl) (is_not ws k.Bit k.Bool p st.0 refl) st.1.0 st.1.1
  closed_is_read (closed (a_scalar a_bit)) p q st = bit_opens p st.0 ∙ bit_closes p q st.0 st.1.0 st.1.1
  closed_is_read (closed (a_scalar (bits v low))) p q st = bit_opens p st.0 ∙ bits_close p q _ st.0 st.1.0 (width_closes v (p + 1) q low st.1.0 st.1.1.0 st.1.1.1.0 st.1.1.1.1.0 st.1.1.1.1.1)
  closed_is_read (closed (a_name x)) p q st = other_closes (a_name x) p (p + 1) q (st.0, refl) (ap (at_key k.Bit) st.0) st.1.0 st.1.1
  closed_is_read (both_closed v low) p q st = bit_opens p st.0 ∙ bits_close p q _ st.0 st.1.0 (shift_closes v (p + 1) q low st.1.0 st.1.1.0 st.1.1.1.0 st.1.1.1.1)

  pub register_is_read : {p : ℕ} {d : Register} {u : List Lexeme} → SpellsRegister p d u → (q : ℕ) → Stands ws p u q → register_at ws n p ≡ Ok (d, q)
  unfolding register_at
  register_is_read {p = p} {d = d} (a_register {t = t} {u = u} v x s) q st =
      let m = p + 1 + 1 + length u in
      let sp = Stands-split ws (p + 1 + 1) q u (key k.Open ∷ number v ∷ key k.Close ∷ name x ∷ key k.Semicolon ∷ []) st.1.1 in
      goes_on _ _ (k.Register, p + 1) _ (expect_ok ws k.Register p st.0) (goes_on _ _ (k.Less, p + 1 + 1) _ (expect_ok ws k.Less (p + 1) st.1.0)
      (goes_on _ _ (t, m) _ (closed_is_read s (p + 1 + 1) m sp.0) (goes_on _ _ (k.Open, m + 1) _ (expect_ok ws k.Open m sp.1.0)
      (goes_on _ _ (v, m + 1 + 1) _ (number_is ws n v (m + 1) sp.1.1.0) (goes_on _ _ (k.Close, m + 1 + 1 + 1) _ (expect_ok ws k.Close (m + 1 + 1) sp.1.1.1.0)
      (goes_on _ _ (x, m + 1 + 1 + 1 + 1) _ (named_ok ws n x (m + 1 + 1 + 1) sp.1.1.1.1.0) (goes_on _ _ (k.Semicolon, m + 1 + 1 + 1 + 1 + 1) _ (expect_ok ws k.Semicolon (m + 1 + 1 + 1 + 1) sp.1.1.1.1.1.0)
      (ap (λ j. Ok (d, j)) sp.1.1.1.1.1.1))))))))

  -- ---- parameters and fields

  -- a key that no type begins with
  plain_at : (x : Key) → at_key x (Some (key k.Bool)) ≡ false → at_key x (Some (key k.Bit)) ≡ false → {t : PTy} {v : List Lexeme} → SpellsType t v → (p m q : ℕ) → p ≡ m → Stands ws m v q → at_key x (slice_get ws p) ≡ false
  plain_at x e f s p m q st su = ap (λ i. at_key x (slice_get ws i)) st ∙ type_first ws x e f s m q su

  -- where a type stands behind it
  way_is_read : {w : Way} {u : List Lexeme} {t : PTy} {v : List Lexeme} → SpellsWay w u → SpellsType t v → (p m q : ℕ) → Stands ws p u m → Stands ws m v q → way_at ws n p ≡ Ok (w, m)
  unfolding way_at
  way_is_read plain s p m q st su =
      rw (plain_at k.In refl refl s p m q st su, plain_at k.Out refl refl s p m q st su, plain_at k.Inout refl refl s p m q st su) (ap (λ j. Ok (way.Plain, j)) st)
  way_is_read into s p m q st su = rw st.0 (ap (λ j. Ok (way.Into, j)) st.1)
  way_is_read out s p m q st su = rw st.0 (ap (λ j. Ok (way.Out, j)) st.1)
  way_is_read both s p m q st su = rw st.0 (ap (λ j. Ok (way.Both, j)) st.1)

  pub param_is_read : {p : ℕ} {d : Param} {u : List Lexeme} → SpellsParam p d u → (q : ℕ) → Stands ws p u q → param_at ws n p ≡ Ok (d, q)
  unfolding param_at
  param_is_read {p = p} {d = d} (a_param {w = w} {t = t} {u = u} {v = v} x y s) q st =
      let m = p + length u in
      let l = m + length v in
      let sp = Stands-split ws p q u (v ++ name x ∷ []) st in
      let sq = Stands-split ws m q v (name x ∷ []) sp.1 in
      goes_on _ _ (w, m) _ (way_is_read y s p m l sp.0 sq.0) (goes_on _ _ (t, l) _ (type_is_read ws n s m l sq.0 (ap (at_key k.Less) sq.1.0))
      (goes_on _ _ (x, l + 1) _ (named_ok ws n x l sq.1.0) (ap (λ j. Ok (d, j)) sq.1.1)))

  pub argument_is_read : {p : ℕ} {d : PTy × List ℕ} {u : List Lexeme} → SpellsArgument p d u → (q : ℕ) → Stands ws p u q → argument_at ws n p ≡ Ok (d, q)
  unfolding argument_at
  argument_is_read {p = p} (an_argument {t = t} {u = u} x s) q st =
      let m = p + length u in
      let sp = Stands-split ws p q u (name x ∷ []) st in
      goes_on _ _ (t, m) _ (type_is_read ws n s p m sp.0 (ap (at_key k.Less) sp.1.0)) (goes_on _ _ (x, m + 1) _ (named_ok ws n x m sp.1.0) (ap (λ j. Ok ((t, x), j)) sp.1.1))

  pub field_is_read : {p : ℕ} {d : PTy × List ℕ} {u : List Lexeme} → SpellsField p d u → (q : ℕ) → Stands ws p u q → field_at ws n p ≡ Ok (d, q)
  unfolding field_at argument_at
  field_is_read {p = p} (a_field {t = t} {u = u} x s) q st =
      let m = p + length u in
      let sp = Stands-split ws p q u (name x ∷ key k.Semicolon ∷ []) st in
      goes_on _ _ ((t, x), m + 1) _ (goes_on _ _ (t, m) _ (type_is_read ws n s p m sp.0 (ap (at_key k.Less) sp.1.0)) (goes_on _ _ (x, m + 1) _ (named_ok ws n x m sp.1.0) refl))
      (goes_on _ _ (k.Semicolon, m + 1 + 1) _ (expect_ok ws k.Semicolon (m + 1) sp.1.1.0) (ap (λ j. Ok ((t, x), j)) sp.1.1.1))
