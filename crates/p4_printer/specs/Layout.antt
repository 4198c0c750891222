-- How lexemes are laid out in a text, and lists of them. Read `Forms` before it.
use Rattle.std.specs.Prelude.{ℕ, ◌+◌, ◌-◌, ◌*◌, ◌==◌, min, nat_lt, Bool, true, false, ◌&&◌, ◌||◌, List, [], ◌∷◌, ◌++◌, replicate, if◌then◌else◌}
use Rattle.lex_text.specs.declared.literal.Literal.{Literal}
use Rattle.lex_words.specs.Seen.{Lexeme, key}
use Rattle.lex_words.specs.Written.{bytes_of_lexeme}
use Rattle.lex_words.specs.declared.key.Key.TheVariants as k
use Rattle.p4_printer.specs.Forms.{form_of, may_touch, is_tight_before, is_tight_behind, is_close_call}
use Rattle.p4_printer.specs.declared.form.Form.{Form}
use Rattle.p4_printer.specs.declared.form.Form.TheVariants as f
use Rattle.p4_printer.specs.declared.place.Gap.{Gap}
use Rattle.p4_printer.specs.declared.place.Gap.TheVariants as gap
use Rattle.p4_printer.specs.declared.place.Place.{Place}

-- ---- what a lexeme is at its place

abbrev pub is_type_word : Form → Bool
is_type_word f.TypeWord = true
is_type_word _ = false

abbrev pub is_open : Form → Bool
is_open f.Open = true
is_open _ = false

-- `<` opens what a type is made from behind `bit` and `register`, and else is an operator, which stands in brackets as each
-- operator does; `-` behind a bracket stands before its operand; a colon in square brackets is a slice's, and in round ones
-- an operator's; in round brackets braces are a list's
abbrev pub resolved : Place → Form → Form
resolved p f.Less = if is_type_word p.last then f.AngleOpen else f.Sign
resolved p f.More = if nat_lt 0 p.angles then f.AngleClose else f.Sign
resolved p f.Minus = if is_open p.last then f.Prefix else f.Sign
resolved p f.Colon = if nat_lt 0 p.squares then f.SliceColon else if nat_lt 0 p.rounds then f.Sign else f.Colon
resolved p f.BraceOpen = if nat_lt 0 p.rounds then f.Sign else f.BraceOpen
resolved p f.BraceClose = if nat_lt 0 p.rounds then f.Sign else f.BraceClose
resolved p x = x

-- ---- where a text ends

abbrev pub more : ℕ → ℕ
more n = min (n + 1) 4294967295

-- the place behind a lexeme of this form
abbrev pub behind : Place → Form → Place
behind p f.BraceOpen = record p { depth = more p.depth; last = f.BraceOpen }
behind p f.BraceClose = record p { depth = p.depth - 1; last = f.BraceClose }
behind p f.Open = record p { rounds = more p.rounds; last = f.Open }
behind p f.Close = record p { rounds = p.rounds - 1; last = f.Close }
behind p f.SquareOpen = record p { squares = more p.squares; last = f.SquareOpen }
behind p f.SquareClose = record p { squares = p.squares - 1; last = f.SquareClose }
behind p f.AngleOpen = record p { angles = more p.angles; last = f.AngleOpen }
behind p f.AngleClose = record p { angles = p.angles - 1; last = f.AngleClose }
behind p x = record p { last = x }

-- ---- gaps

-- `(` stands right behind what is called
abbrev pub is_call : (last next : Form) → Bool
is_call last f.Open = is_close_call last
is_call last _ = false

abbrev pub is_tight : (last next : Form) → Bool
is_tight last next = may_touch last next && (is_tight_behind last || (is_tight_before next || is_call last next))

abbrev pub on_line : (last next : Form) → Gap
on_line last next = if is_tight last next then gap.Nothing else gap.Blank

-- a new line; at top level an empty line stands before it
abbrev pub on_new_line : Place → Gap
on_new_line p = if p.depth == 0 then gap.Empty else gap.Line p.depth

abbrev pub behind_include : Form → Gap
behind_include f.Include = gap.Line 0
behind_include _ = gap.Empty

abbrev pub behind_brace : Place → Form → Gap
behind_brace p f.Else = gap.Blank
behind_brace p _ = on_new_line p

-- what stands between the last lexeme and the next, which closes no block
abbrev pub gap_behind : Place → (last next : Form) → Gap
gap_behind p f.Start x = gap.Nothing
gap_behind p f.Include x = behind_include x
gap_behind p f.BraceClose x = behind_brace p x
gap_behind p f.BraceOpen x = on_new_line p
gap_behind p f.Semicolon x = on_new_line p
gap_behind p last x = on_line last x

-- the end of a block with nothing in it stands on the line of its start
abbrev pub gap_of_end : Place → (last : Form) → Gap
gap_of_end p f.BraceOpen = gap.Blank
gap_of_end p _ = gap.Line (p.depth - 1)

abbrev pub gap_before : Place → Form → Gap
gap_before p f.BraceClose = gap_of_end p p.last
gap_before p x = gap_behind p p.last x

-- four blanks a level, and at most twelve levels
abbrev pub bytes_of_gap : Gap → List ℕ
bytes_of_gap gap.Nothing = []
bytes_of_gap gap.Blank = 32 ∷ []
bytes_of_gap (gap.Line n) = 10 ∷ replicate (4 * min n 12) 32
bytes_of_gap gap.Empty = 10 ∷ 10 ∷ []

-- ---- texts

-- a text that is not at its end
pub record Sheet : Type 0 where
  pub text : List ℕ
  pub place : Place

abbrev pub blank_sheet : Sheet
blank_sheet = record { text = []; place = record { depth = 0; rounds = 0; squares = 0; angles = 0; last = f.Start } }

-- with a lexeme of this form and these bytes
abbrev pub put_bytes : Sheet → Form → List ℕ → Sheet
put_bytes s x u =
    let g = resolved s.place x in
    record { text = s.text ++ (bytes_of_gap (gap_before s.place g) ++ u); place = behind s.place g }

-- with lexemes
unfoldable pub written : Sheet → List Lexeme → Sheet
written s [] = s
written s (x ∷ xs) = written (put_bytes s (form_of x) (bytes_of_lexeme x)) xs

-- the text of lexemes, with a line feed at its end
abbrev pub text_of : List Lexeme → List ℕ
text_of ws = (written blank_sheet ws).text ++ 10 ∷ []

-- ---- small lists

-- a number as it is written without a width
abbrev pub bare : ℕ → Literal
bare n = record { width = 0; value = n }

-- groups of lexemes in a row
abbrev pub in_row : (groups : List (List Lexeme)) → List Lexeme
in_row [] = []
in_row (u ∷ us) = u ++ in_row us

-- groups of lexemes, a mark before each
abbrev pub each_after : (mark : Lexeme) → (groups : List (List Lexeme)) → List Lexeme
each_after m [] = []
each_after m (u ∷ us) = m ∷ (u ++ each_after m us)

-- groups of lexemes, a mark between each two
abbrev pub separated : (mark : Lexeme) → (groups : List (List Lexeme)) → List Lexeme
separated m [] = []
separated m (u ∷ us) = u ++ each_after m us

-- lexemes in round brackets
abbrev pub bracketed : List Lexeme → List Lexeme
bracketed u = key k.Open ∷ (u ++ key k.Close ∷ [])

-- lexemes in braces
abbrev pub braced : List Lexeme → List Lexeme
braced u = key k.BraceOpen ∷ (u ++ key k.BraceClose ∷ [])
