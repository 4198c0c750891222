-- Programs that are spelled are read.
use Rattle.std.proofs.Common.{◌≡◌, ℕ, zero, suc, ◌+◌, ◌-◌, ◌≤◌, ◌<◌, true, false, List, [], ◌∷◌, ◌++◌, length, Some, Ok, refl, ap, ◌∙◌, subst, arith, length-append}
use Rattle.std.specs.Prelude.{slice_get}
use Rattle.lex_words.specs.declared.key.Key.TheVariants as k
use Rattle.lex_words.specs.Seen.{Lexeme, name, key, at_include}
use Rattle.lex_words.specs.Brackets.{left}
use Rattle.lex_words.specs.Reading.{this_name_at}
use Rattle.lex_words.proofs.Even.{parted, opened}
use Rattle.lex_words.proofs.Standing.{Stands, Stands-split, Stands-whole}
use Rattle.lex_words.proofs.Steps.{goes_on, expect_ok, named_ok, is_not}
use Rattle.p4_tree.specs.Tree.{Expr, Top, typedef, header_type, struct_type, Parser, Control, Program}
use Rattle.p4_tree.specs.Height.{highest, top_height, height}
use Rattle.p4_tree.specs.declared.statement.PTy.{PTy}
use Rattle.p4_tree.specs.declared.program.Register.{Register}
use Rattle.p4_spelling.specs.Words.{main_name}
use Rattle.p4_spelling.specs.Lists.{SpellsList, SpellsEach, no_more, one_more}
use Rattle.p4_spelling.specs.Types.{SpellsRegister, a_register as the_register, SpellsField, a_field}
use Rattle.p4_spelling.specs.Statements.{SpellsConst, a_const as the_const}
use Rattle.p4_spelling.specs.Parsers.{SpellsParser, a_parser as the_parser}
use Rattle.p4_spelling.specs.Controls.{SpellsControl, a_control as the_control}
use Rattle.p4_spelling.specs.Programs.{SpellsTop, a_const, a_typedef, a_register, a_parser, a_control, a_header, a_struct, SpellsIncludes, no_include, an_include, SpellsPart, a_part, SpellsProgram, a_program}
use Rattle.p4_expressions.proofs.SoundSteps.{Any}
use Rattle.p4_reader.proofs.CompleteDeclared.{const_is_read}
use Rattle.p4_decls.specs.Repeating.{each_at, list_at}
use Rattle.p4_decls.specs.Declaring.{field_at}
use Rattle.p4_decls.specs.Parsing.{closes_brace}
use Rattle.p4_decls.specs.Programs.{ends_tops, typedef_at, header_at, struct_at, top_at, includes_at, part_at, parts_at, main_at, whole_at}
use Rattle.p4_decls.proofs.Repeated.{list_is_read, each_is_read}
use Rattle.p4_decls.proofs.Balance.{even_field, even_fields, even_top, even_tops, even_includes, even_part, even_parts}
use Rattle.p4_decls.proofs.Firsts.{type_first}
use Rattle.p4_decls.proofs.CompleteDeclaring.{register_is_read, field_is_read}
use Rattle.p4_decls.proofs.CompleteParsers.{low_each, any_each, Anything, parser_is_read}
use Rattle.p4_decls.proofs.CompleteControls.{control_is_read}

field_first : (p : ℕ) (a : PTy × List ℕ) (u : List Lexeme) → SpellsField p a u → (ws : List Lexeme) (q : ℕ) → Stands ws p u q → closes_brace (slice_get ws p) ≡ false
field_first p a w (a_field {u = u} x s) ws q st = type_first ws k.BraceClose refl refl s p (p + length u) (Stands-split ws p q u (name x ∷ key k.Semicolon ∷ []) st).0

field_long : (p : ℕ) (a : PTy × List ℕ) (u : List Lexeme) → SpellsField p a u → 1 ≤ length u
field_long p a w (a_field {u = u} x s) = omega (arith, length-append u (name x ∷ key k.Semicolon ∷ []))

-- the lexeme with which a declaration begins
register_opens : {p : ℕ} {d : Register} {u : List Lexeme} → SpellsRegister p d u → (ws : List Lexeme) (q : ℕ) → Stands ws p u q → slice_get ws p ≡ Some (key k.Register)
register_opens (the_register v x s) ws q st = st.0

const_opens : {p : ℕ} {t : PTy} {x : List ℕ} {e : Expr} {u : List Lexeme} → SpellsConst p t x e u → (ws : List Lexeme) (q : ℕ) → Stands ws p u q → slice_get ws p ≡ Some (key k.Const)
const_opens (the_const x s r) ws q st = st.0

parser_opens : {p : ℕ} {d : Parser} {u : List Lexeme} → SpellsParser p d u → (ws : List Lexeme) (q : ℕ) → Stands ws p u q → slice_get ws p ≡ Some (key k.Parser)
parser_opens (the_parser x s r) ws q st = st.0

control_opens : {p : ℕ} {d : Control} {u : List Lexeme} → SpellsControl p d u → (ws : List Lexeme) (q : ℕ) → Stands ws p u q → slice_get ws p ≡ Some (key k.Control)
control_opens (the_control x s r t) ws q st = st.0

top_first : (p : ℕ) (t : Top) (u : List Lexeme) → SpellsTop p t u → (ws : List Lexeme) (q : ℕ) → Stands ws p u q → ends_tops (slice_get ws p) ≡ false
top_first p t u (a_const s) ws q st = ap ends_tops (const_opens s ws q st)
top_first p t u (a_typedef x s) ws q st = ap ends_tops st.0
top_first p t u (a_register s) ws q st = ap ends_tops (register_opens s ws q st)
top_first p t u (a_parser s) ws q st = ap ends_tops (parser_opens s ws q st)
top_first p t u (a_control s) ws q st = ap ends_tops (control_opens s ws q st)
top_first p t u (a_header x s) ws q st = ap ends_tops st.0
top_first p t u (a_struct x s) ws q st = ap ends_tops st.0

top_no_include : {p : ℕ} {t : Top} {u : List Lexeme} → SpellsTop p t u → (ws : List Lexeme) (q : ℕ) → Stands ws p u q → at_include (slice_get ws p) ≡ false
top_no_include (a_const s) ws q st = ap at_include (const_opens s ws q st)
top_no_include (a_typedef x s) ws q st = ap at_include st.0
top_no_include (a_register s) ws q st = ap at_include (register_opens s ws q st)
top_no_include (a_parser s) ws q st = ap at_include (parser_opens s ws q st)
top_no_include (a_control s) ws q st = ap at_include (control_opens s ws q st)
top_no_include (a_header x s) ws q st = ap at_include st.0
top_no_include (a_struct x s) ws q st = ap at_include st.0

tops_no_include : {p : ℕ} {ts : List Top} {u : List Lexeme} → SpellsEach SpellsTop p ts u → (ws : List Lexeme) (q : ℕ) → Stands ws p u q → slice_get ws q ≡ Some (key k.V1Switch) → at_include (slice_get ws p) ≡ false
tops_no_include no_more ws q st end = ap (λ i. at_include (slice_get ws i)) st ∙ ap at_include end
tops_no_include {p = p} (one_more {u = u} {v = v} s r) ws q st end = top_no_include s ws (p + length u) (Stands-split ws p q u v st).0

top_long : (p : ℕ) (t : Top) (u : List Lexeme) → SpellsTop p t u → 1 ≤ length u
top_long p t u (a_const (the_const x s r)) = omega arith
top_long p t u (a_typedef x s) = omega arith
top_long p t u (a_register (the_register v x s)) = omega arith
top_long p t u (a_parser (the_parser x s r)) = omega arith
top_long p t u (a_control (the_control x s r c)) = omega arith
top_long p t u (a_header x s) = omega arith
top_long p t u (a_struct x s) = omega arith

module _ (ws : List Lexeme) (n b h : ℕ) where
  -- ---- declarations

  fields_are_read : {p : ℕ} {fs : List (PTy × List ℕ)} {u : List Lexeme} → SpellsEach SpellsField p fs u → (q : ℕ) → Stands ws p u q → left b u ≡ Some b → length u < n → slice_get ws q ≡ Some (key k.BraceClose) → each_at ws closes_brace (field_at ws n) n p ≡ Ok (fs, q)
  fields_are_read {fs = fs} s q st lv lt end =
      each_is_read ws n b SpellsField Any Anything (field_at ws n) (λ p a u x. even_field x) (λ p a u x q st low lv lt _. field_is_read ws n x q st)
      closes_brace (λ o. tt) (λ p a u x q st. field_first p a u x ws q st) field_long s q st (any_each fs) lv lt (ap closes_brace end)

  typedef_is : (p q : ℕ) (t : PTy) (x : List ℕ) → slice_get ws p ≡ Some (key k.Typedef) → field_at ws n (p + 1) ≡ Ok ((t, x), q) → typedef_at ws n b h p ≡ Ok (typedef p t x, q)
  unfolding typedef_at
  typedef_is p q t x a r = goes_on _ _ (k.Typedef, p + 1) _ (expect_ok ws k.Typedef p a) (goes_on _ _ ((t, x), q) _ r refl)

  header_is : (p m : ℕ) (x : List ℕ) (fs : List (PTy × List ℕ)) → slice_get ws p ≡ Some (key k.Header) → slice_get ws (p + 1) ≡ Some (name x) → slice_get ws (p + 1 + 1) ≡ Some (key k.BraceOpen)
      → each_at ws closes_brace (field_at ws n) n (p + 1 + 1 + 1) ≡ Ok (fs, m) → slice_get ws m ≡ Some (key k.BraceClose) → header_at ws n b h p ≡ Ok (header_type p x fs, m + 1)
  unfolding header_at
  header_is p m x fs a c o r e =
      goes_on _ _ (k.Header, p + 1) _ (expect_ok ws k.Header p a) (goes_on _ _ (x, p + 1 + 1) _ (named_ok ws n x (p + 1) c) (goes_on _ _ (k.BraceOpen, p + 1 + 1 + 1) _ (expect_ok ws k.BraceOpen (p + 1 + 1) o)
      (goes_on _ _ (fs, m) _ r (goes_on _ _ (k.BraceClose, m + 1) _ (expect_ok ws k.BraceClose m e) refl))))

  struct_is : (p m : ℕ) (x : List ℕ) (fs : List (PTy × List ℕ)) → slice_get ws p ≡ Some (key k.Struct) → slice_get ws (p + 1) ≡ Some (name x) → slice_get ws (p + 1 + 1) ≡ Some (key k.BraceOpen)
      → each_at ws closes_brace (field_at ws n) n (p + 1 + 1 + 1) ≡ Ok (fs, m) → slice_get ws m ≡ Some (key k.BraceClose) → struct_at ws n b h p ≡ Ok (struct_type p x fs, m + 1)
  unfolding struct_at
  struct_is p m x fs a c o r e =
      goes_on _ _ (k.Struct, p + 1) _ (expect_ok ws k.Struct p a) (goes_on _ _ (x, p + 1 + 1) _ (named_ok ws n x (p + 1) c) (goes_on _ _ (k.BraceOpen, p + 1 + 1 + 1) _ (expect_ok ws k.BraceOpen (p + 1 + 1) o)
      (goes_on _ _ (fs, m) _ r (goes_on _ _ (k.BraceClose, m + 1) _ (expect_ok ws k.BraceClose m e) refl))))

  top_is_read : (p : ℕ) (t : Top) (u : List Lexeme) → SpellsTop p t u → (q : ℕ) → Stands ws p u q → top_height t ≤ h → left b u ≡ Some b → length u < n → top_at ws n b h p ≡ Ok (t, q)
  unfolding top_at
  top_is_read p t u (a_const {t = ty} {x = x} {e = e} s) q st low lv lt =
      rw (const_opens s ws q st) (goes_on _ _ (record { ty = ty; name = x; value = e }, q) _ (const_is_read ws n s h b q st low lv lt) refl)
  top_is_read p t w (a_typedef {t = ty} {u = u} x s) q st low lv lt = rw st.0 (typedef_is p q ty x st.0 (field_is_read ws n (a_field x s) q st.1))
  top_is_read p t u (a_register {d = d} s) q st low lv lt = rw (register_opens s ws q st) (goes_on _ _ (d, q) _ (register_is_read ws n s q st) refl)
  top_is_read p t u (a_parser {d = d} s) q st low lv lt = rw (parser_opens s ws q st) (goes_on _ _ (d, q) _ (parser_is_read ws n b (h - 4) s q st (omega (arith, low)) lv lt) refl)
  top_is_read p t u (a_control {d = d} s) q st low lv lt = rw (control_opens s ws q st) (goes_on _ _ (d, q) _ (control_is_read ws n b (h - 2) s q st (omega (arith, low)) lv lt) refl)
  top_is_read p t w (a_header {fs = fs} {u = u} x s) q st low lv lt =
      let m = p + 1 + 1 + 1 + length u in
      let sp = Stands-split ws (p + 1 + 1 + 1) q u (key k.BraceClose ∷ []) st.1.1.1 in
      let lp = parted b b u (key k.BraceClose ∷ []) (even_fields s) lv in
      rw st.0 (header_is p m x fs st.0 st.1.0 st.1.1.0 (fields_are_read s m sp.0 lp.0 (omega (arith, lt, length-append u (key k.BraceClose ∷ []))) sp.1.0) sp.1.0 ∙ ap (λ j. Ok (header_type p x fs, j)) sp.1.1)
  top_is_read p t w (a_struct {fs = fs} {u = u} x s) q st low lv lt =
      let m = p + 1 + 1 + 1 + length u in
      let sp = Stands-split ws (p + 1 + 1 + 1) q u (key k.BraceClose ∷ []) st.1.1.1 in
      let lp = parted b b u (key k.BraceClose ∷ []) (even_fields s) lv in
      rw st.0 (struct_is p m x fs st.0 st.1.0 st.1.1.0 (fields_are_read s m sp.0 lp.0 (omega (arith, lt, length-append u (key k.BraceClose ∷ []))) sp.1.0) sp.1.0 ∙ ap (λ j. Ok (struct_type p x fs, j)) sp.1.1)

  tops_are_read : {p : ℕ} {ts : List Top} {u : List Lexeme} → SpellsEach SpellsTop p ts u → (q : ℕ) → Stands ws p u q → highest top_height ts ≤ h → left b u ≡ Some b → length u < n → slice_get ws q ≡ Some (key k.V1Switch) → each_at ws ends_tops (top_at ws n b h) n p ≡ Ok (ts, q)
  tops_are_read {ts = ts} s q st low lv lt end =
      each_is_read ws n b SpellsTop (λ t. top_height t ≤ h) Anything (top_at ws n b h) (λ p a u x. even_top x) (λ p a u x q st low lv lt _. top_is_read p a u x q st low lv lt)
      ends_tops (λ o. tt) (λ p a u x q st. top_first p a u x ws q st) top_long s q st (low_each top_height h ts low) lv lt (ap ends_tops end)

  -- ---- programs

  includes_stop : (j i : ℕ) → 0 < j → at_include (slice_get ws i) ≡ false → includes_at ws n b h j i ≡ Ok (tt, i)
  unfolding includes_at
  includes_stop zero i lt e = absurd (omega arith)
  includes_stop (suc j) i lt e = rw e refl

  includes_again : (j i : ℕ) → at_include (slice_get ws i) ≡ true → includes_at ws n b h (suc j) i ≡ includes_at ws n b h j (i + 1)
  unfolding includes_at
  includes_again j i e = rw e refl

  includes_are_read : {u : List Lexeme} → SpellsIncludes u → (j p q : ℕ) → Stands ws p u q → length u < j → at_include (slice_get ws q) ≡ false → includes_at ws n b h j p ≡ Ok (tt, q)
  includes_are_read no_include j p q st lj end = includes_stop j p (omega (arith, lj)) (ap (λ i. at_include (slice_get ws i)) st ∙ end) ∙ ap (λ i. Ok (tt, i)) st
  includes_are_read (an_include s r) zero p q st lj end = absurd (omega (arith, lj))
  includes_are_read (an_include s r) (suc j) p q st lj end = includes_again j p (ap at_include st.0) ∙ includes_are_read r j (p + 1) q st.1 (omega (arith, lj)) end

  part_is_read : (p : ℕ) (x : List ℕ) (u : List Lexeme) → SpellsPart p x u → (q : ℕ) → Stands ws p u q → part_at ws n b h p ≡ Ok (x, q)
  unfolding part_at
  part_is_read p y u (a_part x) q st =
      goes_on _ _ (x, p + 1) _ (named_ok ws n x p st.0) (goes_on _ _ (k.Open, p + 1 + 1) _ (expect_ok ws k.Open (p + 1) st.1.0) (goes_on _ _ (k.Close, p + 1 + 1 + 1) _ (expect_ok ws k.Close (p + 1 + 1) st.1.1.0) (ap (λ i. Ok (x, i)) st.1.1.1)))

  parts_are_read : {p : ℕ} {xs : List (List ℕ)} {u : List Lexeme} → SpellsList SpellsPart p xs u → (c q : ℕ) → Stands ws p u q → left c u ≡ Some c → length u < n → slice_get ws q ≡ Some (key k.Close) → list_at ws (part_at ws n b h) n p ≡ Ok (xs, q)
  parts_are_read {xs = xs} s c q st lv lt close =
      list_is_read ws n c SpellsPart Any Anything (part_at ws n b h) (λ p a u x. even_part x) (λ p a u x q st low lv lt _. part_is_read p a u x q st) tt s q st (any_each xs) lv lt (is_not ws k.Comma k.Close q close refl) tt

  this_ok : (s : List ℕ) (i : ℕ) → slice_get ws i ≡ Some (name main_name) → this_name_at ws n main_name i ≡ Ok (main_name, i + 1)
  unfolding this_name_at
  this_ok s i e = rw e refl

  main_is : (p m : ℕ) (xs : List (List ℕ)) → slice_get ws p ≡ Some (key k.V1Switch) → slice_get ws (p + 1) ≡ Some (key k.Open) → list_at ws (part_at ws n b h) n (p + 1 + 1) ≡ Ok (xs, m) → slice_get ws m ≡ Some (key k.Close)
      → slice_get ws (m + 1) ≡ Some (name main_name) → slice_get ws (m + 1 + 1) ≡ Some (key k.Semicolon) → main_at ws n b h p ≡ Ok (xs, m + 1 + 1 + 1)
  unfolding main_at parts_at
  main_is p m xs a o r c d s =
      goes_on _ _ (xs, m + 1) _ (goes_on _ _ (k.V1Switch, p + 1) _ (expect_ok ws k.V1Switch p a) (goes_on _ _ (k.Open, p + 1 + 1) _ (expect_ok ws k.Open (p + 1) o) (goes_on _ _ (xs, m) _ r (goes_on _ _ (k.Close, m + 1) _ (expect_ok ws k.Close m c) refl))))
      (goes_on _ _ (main_name, m + 1 + 1) _ (this_ok main_name (m + 1) d) (goes_on _ _ (k.Semicolon, m + 1 + 1 + 1) _ (expect_ok ws k.Semicolon (m + 1 + 1) s) refl))

  whole_is : (i j q : ℕ) (ts : List Top) (xs : List (List ℕ)) → includes_at ws n b h n 0 ≡ Ok (tt, i) → each_at ws ends_tops (top_at ws n b h) n i ≡ Ok (ts, j) → main_at ws n b h j ≡ Ok (xs, q) → whole_at ws n b h ≡ Ok (record { at = 0; tops = ts; main = xs }, q)
  unfolding whole_at
  whole_is i j q ts xs a c d = goes_on _ _ (tt, i) _ a (goes_on _ _ (ts, j) _ c (goes_on _ _ (xs, q) _ d refl))

  program_is_read : {t : Program} {u : List Lexeme} → SpellsProgram t u → (q : ℕ) → Stands ws 0 u q → height t ≤ h + 1 → left b u ≡ Some b → length u < n → whole_at ws n b h ≡ Ok (t, q)
  program_is_read (a_program {ts = ts} {xs = xs} {s = s} {u = u} {v = v} f t r) q st low lv lt =
      let i = length s in
      let j = i + length u in
      let m = j + 1 + 1 + length v in
      let end = key k.Close ∷ name main_name ∷ key k.Semicolon ∷ [] in
      let rest = key k.V1Switch ∷ key k.Open ∷ (v ++ end) in
      let start : 0 + i ≡ i = omega arith in
      let so = Stands-split ws 0 q s (u ++ rest) st in
      let sto : Stands ws 0 s i = subst (Stands ws 0 s) start so.0 in
      let on : Stands ws i (u ++ rest) q = subst (λ z. Stands ws z (u ++ rest) q) start so.1 in
      let sp = Stands-split ws i q u rest on in
      let sq = Stands-split ws (j + 1 + 1) q v end sp.1.1.1 in
      let lo = parted b b s (u ++ rest) (even_includes f) lv in
      let lp = parted b b u rest (even_tops t) lo.1 in
      let lq = opened b v (name main_name ∷ key k.Semicolon ∷ []) (even_parts r) lp.1 in
      let len = length-append s (u ++ rest) in
      let len' = length-append u rest in
      let len'' = length-append v end in
      whole_is i j (m + 1 + 1 + 1) ts xs (includes_are_read f n 0 i sto (omega (arith, lt, len)) (tops_no_include t ws j sp.0 sp.1.0))
      (tops_are_read t j sp.0 (omega (arith, low)) lp.0 (omega (arith, lt, len, len')) sp.1.0)
      (main_is j m xs sp.1.0 sp.1.1.0 (parts_are_read r (b - 1) m sq.0 lq.1 (omega (arith, lt, len, len', len'')) sq.1.0) sq.1.0 sq.1.1.0 sq.1.1.1.0)
      ∙ ap (λ z. Ok (record { at = 0; tops = ts; main = xs }, z)) sq.1.1.1.1

pub whole_is_read : (u : List Lexeme) (t : Program) → SpellsProgram t u → (n h b : ℕ) → length u < n → height t ≤ h + 1 → left b u ≡ Some b → whole_at u n b h ≡ Ok (t, length u)
whole_is_read u t s n h b lt low lv = program_is_read u n b h s (length u) (Stands-whole u) low lv lt
