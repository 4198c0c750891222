-- The text of a program that can be spelled is read back as the program but for its places.
use Rattle.std.proofs.Common.{◌≡◌, ℕ, zero, suc, ◌-◌, ◌*◌, min, Bool, true, false, cond, List, [], ◌∷◌, ◌++◌, max, map, Some, refl, sym, ap, subst, ◌∙◌, append_assoc}
use Rattle.std.specs.Prelude.{◌==◌, replicate, codes}
use Rattle.std.specs.List.{list_all}
use Rattle.std.proofs.lemmas.Bool.{and_parts}
use Rattle.std.proofs.lemmas.List.{append-nil}
use Rattle.lex_text.specs.Comments.{is_space}
use Rattle.lex_text.specs.Tokens as lex
use Rattle.lex_text.specs.declared.token.Words.TheVariants.{P4}
use Rattle.lex_words.specs.Seen.{Lexeme, name, number, key, quoted, include, strange}
use Rattle.lex_words.specs.Written.{bytes_of_lexeme, IsLexeme, AreLexemes, Lays, may_stand, Row, lexemes_in, is_fresh, IsParted, AreParted}
use Rattle.lex_words.specs.Written as rows
use Rattle.lex_words.specs.Brackets.{left}
use Rattle.lex_words.proofs.Laid.{lexemes_read_back, text_lays}
use Rattle.lex_words.proofs.OpenBehind.{few_open}
use Rattle.p4_tree.specs.Tree.{Program}
use Rattle.p4_tree.specs.Height.{height}
use Rattle.p4_spelling.specs.Programs.{SpellsProgram}
use Rattle.p4_printer.specs.Forms.{form_of, may_touch}
use Rattle.p4_printer.specs.Layout.{resolved, behind, is_tight, on_new_line, gap_behind, gap_of_end, gap_before, bytes_of_gap, Sheet, blank_sheet, put_bytes, written, in_row}
use Rattle.p4_printer.specs.declared.form.Form.{Form}
use Rattle.p4_printer.specs.declared.form.Form.TheVariants as f
use Rattle.p4_printer.specs.declared.place.Gap.{Gap}
use Rattle.p4_printer.specs.declared.place.Gap.TheVariants as gap
use Rattle.p4_printer.specs.declared.place.Place.{Place}
use Rattle.p4_printer.specs.Programs.{lexemes_of_includes, lexemes_of_top, lexemes_of_main, lexemes_of_program, program_text}
use Rattle.p4_printer.specs.CanSpell.{CanSpell}
use Rattle.p4_printer.specs.Laws.{CanBeSpelled, TextIsPrinted}
use Rattle.p4_printer.proofs.FitsPrograms.{fits_rest}
use Rattle.p4_printer.proofs.SpeltPrograms.{spelt_program}
use Rattle.p4_printer.proofs.Touching.{touching_ends}

-- ---- layout

-- the lexemes behind a place, each behind its gap
abbrev rows_from : Place → List Lexeme → List Row
rows_from p [] = []
rows_from p (x ∷ xs) =
    let g = resolved p (form_of x) in
    (bytes_of_gap (gap_before p g), x) ∷ rows_from (behind p g) xs

lexemes_back : (p : Place) (xs : List Lexeme) → lexemes_in (rows_from p xs) ≡ xs
lexemes_back p [] = refl
lexemes_back p (x ∷ xs) = ap (λ z. x ∷ z) (lexemes_back (behind p (resolved p (form_of x))) xs)

-- the text is that of these rows
text_back : (s : Sheet) (xs : List Lexeme) → (written s xs).text ≡ s.text ++ rows.text_of (rows_from s.place xs)
unfolding written
text_back s [] = sym (append-nil s.text)
text_back s (x ∷ xs) =
    let g = resolved s.place (form_of x) in
    let gap = bytes_of_gap (gap_before s.place g) in
    let u = bytes_of_lexeme x in
    let rest = rows.text_of (rows_from (behind s.place g) xs) in
    text_back (put_bytes s (form_of x) u) xs
    ∙ append_assoc s.text (gap ++ u) rest
    ∙ ap (λ z. s.text ++ z) (append_assoc gap u rest)

-- ---- gaps

blanks : (n : ℕ) → list_all is_space (replicate n 32) ≡ true
blanks zero = refl
blanks (suc n) = blanks n

gap_spaces : (g : Gap) → list_all is_space (bytes_of_gap g) ≡ true
gap_spaces gap.Nothing = refl
gap_spaces gap.Blank = refl
gap_spaces (gap.Line n) = blanks (4 * min n 12)
gap_spaces gap.Empty = refl

-- ---- where no gap stands

abbrev has_bytes : List ℕ → Bool
has_bytes [] = false
has_bytes (b ∷ u) = true

no_bytes : {A : Type 0} (u : List ℕ) → has_bytes u ≡ true → u ≡ [] → A
no_bytes u h e = absurd (let x : true ≡ false = sym h ∙ ap has_bytes e in cc)

no_blank : {A : Type 0} → bytes_of_gap gap.Blank ≡ [] → A
no_blank e = no_bytes (bytes_of_gap gap.Blank) refl e

no_line : {A : Type 0} (n : ℕ) → bytes_of_gap (gap.Line n) ≡ [] → A
no_line n e = no_bytes (bytes_of_gap (gap.Line n)) refl e

no_empty : {A : Type 0} → bytes_of_gap gap.Empty ≡ [] → A
no_empty e = no_bytes (bytes_of_gap gap.Empty) refl e

tight_touches : (last next : Form) (t : Bool) → is_tight last next ≡ t → bytes_of_gap (cond t gap.Nothing gap.Blank) ≡ [] → may_touch last next ≡ true
tight_touches last next true is e = (and_parts (may_touch last next) _ is).0
tight_touches last next false is e = no_blank e

no_new_line : {A : Type 0} (p : Place) → bytes_of_gap (on_new_line p) ≡ [] → A
no_new_line {A = A} p e = go (p.depth == 0) e
  where
    go : (t : Bool) → bytes_of_gap (cond t gap.Empty (gap.Line p.depth)) ≡ [] → A
    go true e = no_empty e
    go false e = no_line p.depth e

-- a gap of no bytes stands only where the two may touch
gap_touches : (p : Place) (last next : Form) → bytes_of_gap (gap_behind p last next) ≡ [] → may_touch last next ≡ true
gap_touches p f.Start next e = refl
gap_touches p f.Include f.Include e = no_line 0 e
gap_touches p f.Include f.Start e = no_empty e
gap_touches p f.Include _ e = no_empty e
gap_touches p f.BraceClose f.Else e = no_blank e
gap_touches p f.BraceClose _ e = no_new_line p e
gap_touches p f.BraceOpen next e = no_new_line p e
gap_touches p f.Semicolon next e = no_new_line p e
gap_touches p last next e = tight_touches last next (is_tight last next) refl e

end_touches : {A : Type 0} (p : Place) (last : Form) → bytes_of_gap (gap_of_end p last) ≡ [] → A
end_touches p f.BraceOpen e = no_blank e
end_touches p _ e = no_line (p.depth - 1) e

before_touches : (p : Place) (next : Form) → bytes_of_gap (gap_before p next) ≡ [] → may_touch p.last next ≡ true
before_touches p f.BraceClose e = end_touches p p.last e
before_touches p next e = gap_touches p p.last next e

-- the place behind a form has it as its last
behind_last : (p : Place) (x : Form) → (behind p x).last ≡ x
behind_last p f.BraceOpen = refl
behind_last p f.BraceClose = refl
behind_last p f.Open = refl
behind_last p f.Close = refl
behind_last p f.SquareOpen = refl
behind_last p f.SquareClose = refl
behind_last p f.AngleOpen = refl
behind_last p f.AngleClose = refl
behind_last p x = refl

-- ---- rows of a program

parted : (p : Place) (x : Lexeme) (xs : List Lexeme) → IsLexeme P4 x → AreLexemes P4 xs → IsParted x (rows_from (behind p (resolved p (form_of x))) xs)
parted p x [] i a = tt
parted p x (y ∷ xs) i a = λ e.
    let g = resolved p (form_of x) in
    let q = behind p g in
    let last : q.last ≡ g = behind_last p g in
    let t = before_touches q (resolved q (form_of y)) e in
    touching_ends p q x y i a.0 (subst (λ z. may_touch z (resolved q (form_of y)) ≡ true) last t)

stands : (fresh : Bool) (x : Lexeme) → may_stand false x ≡ true → may_stand fresh x ≡ true
stands fresh (name s) e = refl
stands fresh (number n) e = refl
stands fresh (key x) e = refl
stands fresh (quoted s) e = refl
stands fresh (include s) e = absurd (let y : false ≡ true = e in cc)
stands fresh (strange s) e = refl

-- behind the inclusions
are_parted : (p : Place) (fresh : Bool) (xs : List Lexeme) → AreLexemes P4 xs → list_all (may_stand false) xs ≡ true → AreParted fresh (rows_from p xs)
are_parted p fresh [] a e = tt
are_parted p fresh (x ∷ xs) a e =
    let h = and_parts (may_stand false x) (list_all (may_stand false) xs) e in
    let g = resolved p (form_of x) in
    let gap = bytes_of_gap (gap_before p g) in
    (record { spaces = gap_spaces (gap_before p g); stands = stands (is_fresh fresh gap) x h.0; parted = parted p x xs a.0 a.1 }, are_parted (behind p g) false xs a.1 h.1)

-- ---- programs

record Sound (t : Program) : Type 0 where
  fair : AreLexemes P4 (lexemes_of_program t)
  keeps : left (max (height t) 2) (lexemes_of_program t) ≡ Some (max (height t) 2)
  free : list_all (may_stand false) (in_row (map lexemes_of_top t.tops) ++ lexemes_of_main t.main) ≡ true

sound : (t : Program) → CanSpell t → Sound t
sound t c =
    let m = max (height t) 2 in
    let rest = in_row (map lexemes_of_top t.tops) ++ lexemes_of_main t.main in
    let fits = fits_rest t c in
    record {
      fair = ((refl, lex.include (32 ∷ []) _ refl refl), ((refl, lex.include (32 ∷ []) _ refl refl), fits.fair));
      keeps = ap (left m) (sym (append-nil rest)) ∙ fits.keeps [];
      free = fits.free;
    }

abbrev start : Place
start = blank_sheet.place

rows_parted : (t : Program) → Sound t → AreParted true (rows_from start (lexemes_of_program t))
rows_parted t s =
    let a = s.fair in
    let rest = in_row (map lexemes_of_top t.tops) ++ lexemes_of_main t.main in
    let one = lexemes_of_includes in
    let p = behind start f.Include in
    let q = behind p f.Include in
    let first = include (codes "#include <core.p4>") in
    let second = include (codes "#include <v1model.p4>") in (
      record { spaces = refl; stands = refl; parted = parted start first (second ∷ rest) a.0 a.1 },
      (record { spaces = refl; stands = refl; parted = parted p second rest a.1.0 a.1.1 }, are_parted q false rest a.1.1 s.free),
    )

text_is : (t : Program) → Sound t → Lays true (lexemes_of_program t) (program_text t)
text_is t s =
    let ws = lexemes_of_program t in
    let back = lexemes_back start ws in
    let fair : AreLexemes P4 (lexemes_in (rows_from start ws)) = subst (AreLexemes P4) (sym back) s.fair in
    let laid = text_lays P4 (rows_from start ws) fair (rows_parted t s) in
    let same : rows.text_of (rows_from start ws) ++ 10 ∷ [] ≡ program_text t = ap (λ z. z ++ 10 ∷ []) (sym (text_back blank_sheet ws)) in
    subst (λ z. Lays true z (program_text t)) back (subst (Lays true (lexemes_in (rows_from start ws))) same laid)

pub text_is_printed : TextIsPrinted
text_is_printed t c =
    let s = spelt_program t c in
    let ok = sound t c in
    let ws = lexemes_of_program t in
    let r = lexemes_read_back P4 ws (program_text t) (text_is t ok) ok.fair in
    let m = max (height t) 2 in
    record {
      tree = s.tree;
      same = s.same;
      list = r.list;
      tokens = r.tokens;
      spells = subst (SpellsProgram s.tree) (sym r.same) s.spells;
      few = few_open m m _ (ap (left m) r.same ∙ ok.keeps);
    }

pub can_be_spelled : CanBeSpelled
can_be_spelled t c =
    let s = spelt_program t c in
    let ok = sound t c in
    (s.tree, s.same, record { lexemes = lexemes_of_program t; fair = ok.fair; spells = s.spells })
