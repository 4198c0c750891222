-- What lexemes are to the layout of a text.
use Rattle.std.specs.Prelude.{Bool, true, false, not, ◌&&◌}
use Rattle.lex_words.specs.Seen.{Lexeme, name, number, key, quoted, include, strange}
use Rattle.lex_words.specs.declared.key.Key.{Key}
use Rattle.lex_words.specs.declared.key.Key.TheVariants as k
use Rattle.p4_printer.specs.declared.form.Form.{Form}
use Rattle.p4_printer.specs.declared.form.Form.TheVariants as f

-- what a key is, whatever stands before it
abbrev pub form_of_key : Key → Form
form_of_key k.If = f.If
form_of_key k.Else = f.Else
form_of_key k.Bit = f.TypeWord
form_of_key k.Register = f.TypeWord
form_of_key k.BraceOpen = f.BraceOpen
form_of_key k.BraceClose = f.BraceClose
form_of_key k.Semicolon = f.Semicolon
form_of_key k.Open = f.Open
form_of_key k.Close = f.Close
form_of_key k.SquareOpen = f.SquareOpen
form_of_key k.SquareClose = f.SquareClose
form_of_key k.Comma = f.Comma
form_of_key k.Dot = f.Dot
form_of_key k.Colon = f.Colon
form_of_key k.Tilde = f.Prefix
form_of_key k.Not = f.Prefix
form_of_key k.Less = f.Less
form_of_key k.More = f.More
form_of_key k.Minus = f.Minus
form_of_key k.AddCapped = f.Sign
form_of_key k.SubCapped = f.Sign
form_of_key k.Mask = f.Sign
form_of_key k.Both = f.Sign
form_of_key k.Either = f.Sign
form_of_key k.Equal = f.Sign
form_of_key k.Differ = f.Sign
form_of_key k.LessEq = f.Sign
form_of_key k.MoreEq = f.Sign
form_of_key k.ShiftLeft = f.Sign
form_of_key k.ShiftRight = f.Sign
form_of_key k.Concat = f.Sign
form_of_key k.DotDot = f.Sign
form_of_key k.Assign = f.Sign
form_of_key k.Plus = f.Sign
form_of_key k.Times = f.Sign
form_of_key k.Slash = f.Sign
form_of_key k.Percent = f.Sign
form_of_key k.And = f.Sign
form_of_key k.Or = f.Sign
form_of_key k.Caret = f.Sign
form_of_key k.Question = f.Sign
form_of_key k.At = f.Sign
form_of_key k.Hash = f.Sign
form_of_key _ = f.Word

abbrev pub form_of : Lexeme → Form
form_of (name s) = f.Word
form_of (number n) = f.Word
form_of (key x) = form_of_key x
form_of (quoted s) = f.Sign
form_of (include s) = f.Include
form_of (strange s) = f.Sign

-- it begins with a byte of names
abbrev pub is_word : Form → Bool
is_word f.Word = true
is_word f.If = true
is_word f.Else = true
is_word f.TypeWord = true
is_word _ = false

-- a byte of a name right behind it might be read with it
abbrev pub takes_words : Form → Bool
takes_words f.Word = true
takes_words f.If = true
takes_words f.Else = true
takes_words f.TypeWord = true
takes_words f.Sign = true
takes_words _ = false

-- it may be a part of a longer mark
abbrev pub takes_signs : Form → Bool
takes_signs f.Dot = true
takes_signs f.AngleOpen = true
takes_signs f.AngleClose = true
takes_signs f.Prefix = true
takes_signs f.Less = true
takes_signs f.More = true
takes_signs f.Minus = true
takes_signs f.Sign = true
takes_signs _ = false

-- the next is read as what it is right behind the last
abbrev pub may_touch : (last next : Form) → Bool
may_touch last next = not (takes_words last && is_word next) && not (takes_signs last && takes_signs next)

-- no blank stands before it
abbrev pub is_tight_before : Form → Bool
is_tight_before f.Semicolon = true
is_tight_before f.Comma = true
is_tight_before f.Close = true
is_tight_before f.SquareOpen = true
is_tight_before f.SquareClose = true
is_tight_before f.Dot = true
is_tight_before f.Colon = true
is_tight_before f.SliceColon = true
is_tight_before f.AngleOpen = true
is_tight_before f.AngleClose = true
is_tight_before _ = false

-- no blank stands behind it
abbrev pub is_tight_behind : Form → Bool
is_tight_behind f.Open = true
is_tight_behind f.SquareOpen = true
is_tight_behind f.Dot = true
is_tight_behind f.SliceColon = true
is_tight_behind f.AngleOpen = true
is_tight_behind f.Prefix = true
is_tight_behind _ = false

-- `(` stands right behind it, as behind what is called
abbrev pub is_close_call : Form → Bool
is_close_call f.Word = true
is_close_call f.AngleClose = true
is_close_call _ = false
