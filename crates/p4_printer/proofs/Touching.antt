-- A lexeme ends before what the layout lets stand right behind it.
use Rattle.std.proofs.Common.{◌≡◌, ◌<◌, ℕ, length, Bool, true, false, cond, not, ◌&&◌, ◌||◌, List, [], ◌∷◌, refl, sym, ap, subst, ◌∙◌, arith}
use Rattle.std.specs.Prelude.{◌==◌, nat_lt}
use Rattle.std.specs.List.{list_all}
use Rattle.std.proofs.lemmas.Bool.{and_parts, and_from}
use Rattle.std.proofs.lemmas.Bool.Decides.{nat_tests}
use Rattle.lex_text.specs.NameToken.{is_name_byte}
use Rattle.lex_text.specs.Tokens.{IsInclude}
use Rattle.lex_text.specs.Tokens as lex
use Rattle.lex_text.specs.declared.token.Words.TheVariants.{P4}
use Rattle.lex_words.specs.Keys.{bytes_of_key}
use Rattle.lex_words.specs.Seen.{Lexeme, name, number, key, quoted, include, strange}
use Rattle.lex_words.specs.Written.{number_bytes, bytes_of_lexeme, IsLexeme, IsQuoted, in_quotes, is_joined, first_byte, takes_names, takes_marks, ends}
use Rattle.lex_words.specs.declared.key.Key.{Key}
use Rattle.lex_words.specs.declared.key.Key.TheVariants as k
use Rattle.p4_printer.specs.Forms.{form_of_key, form_of, is_word, takes_words, takes_signs, may_touch}
use Rattle.lex_text.proofs.NameFronts.{name_bytes}
use Rattle.lex_words.proofs.LexemeEnds.{number_name}
use Rattle.lex_words.proofs.LexemeFronts.{spelled, some_bytes}
use Rattle.p4_printer.specs.Layout.{is_type_word, is_open, resolved}
use Rattle.p4_printer.specs.declared.form.Form.{Form}
use Rattle.p4_printer.specs.declared.form.Form.TheVariants as f
use Rattle.p4_printer.specs.declared.place.Place.{Place}

-- where the first holds, so does the second
abbrev implies : Bool → Bool → Bool
implies s t = not s || t

-- what the form of a key says of its bytes
abbrev is_formed : Form → (bytes : List ℕ) → Bool
is_formed x u =
    implies (is_name_byte (first_byte u) || first_byte u == 35) (takes_words x) && (implies (is_joined (first_byte u)) (takes_signs x) && implies (is_name_byte (first_byte u)) (is_word x))

key_formed : (x : Key) → is_formed (form_of_key x) (bytes_of_key x) ≡ true
key_formed k.Header = refl
key_formed k.Control = refl
key_formed k.Bit = refl
key_formed k.Bool = refl
key_formed k.True = refl
key_formed k.False = refl
key_formed k.If = refl
key_formed k.Else = refl
key_formed k.In = refl
key_formed k.Tele = refl
key_formed k.Sensor = refl
key_formed k.Set = refl
key_formed k.Dict = refl
key_formed k.For = refl
key_formed k.Reject = refl
key_formed k.Report = refl
key_formed k.Length = refl
key_formed k.Edition = refl
key_formed k.Const = refl
key_formed k.Typedef = refl
key_formed k.Struct = refl
key_formed k.Register = refl
key_formed k.Parser = refl
key_formed k.Out = refl
key_formed k.Inout = refl
key_formed k.State = refl
key_formed k.Transition = refl
key_formed k.Select = refl
key_formed k.Default = refl
key_formed k.LowLine = refl
key_formed k.Action = refl
key_formed k.Table = refl
key_formed k.Return = refl
key_formed k.Exit = refl
key_formed k.Error = refl
key_formed k.V1Switch = refl
key_formed k.AddCapped = refl
key_formed k.SubCapped = refl
key_formed k.Mask = refl
key_formed k.Both = refl
key_formed k.Either = refl
key_formed k.Equal = refl
key_formed k.Differ = refl
key_formed k.LessEq = refl
key_formed k.MoreEq = refl
key_formed k.ShiftLeft = refl
key_formed k.ShiftRight = refl
key_formed k.Concat = refl
key_formed k.DotDot = refl
key_formed k.BraceOpen = refl
key_formed k.BraceClose = refl
key_formed k.Open = refl
key_formed k.Close = refl
key_formed k.SquareOpen = refl
key_formed k.SquareClose = refl
key_formed k.Less = refl
key_formed k.More = refl
key_formed k.Semicolon = refl
key_formed k.Colon = refl
key_formed k.Comma = refl
key_formed k.Dot = refl
key_formed k.Assign = refl
key_formed k.Plus = refl
key_formed k.Minus = refl
key_formed k.Times = refl
key_formed k.Slash = refl
key_formed k.Percent = refl
key_formed k.And = refl
key_formed k.Or = refl
key_formed k.Caret = refl
key_formed k.Tilde = refl
key_formed k.Not = refl
key_formed k.Question = refl
key_formed k.At = refl
key_formed k.Hash = refl

-- ---- the form that a lexeme has at its place takes what its own takes

words_stay : (p : Place) (x : Form) → takes_words x ≡ true → takes_words (resolved p x) ≡ true
words_stay p f.Less e = absurd (let y : false ≡ true = e in cc)
words_stay p f.More e = absurd (let y : false ≡ true = e in cc)
words_stay p f.Minus e = absurd (let y : false ≡ true = e in cc)
words_stay p f.Colon e = absurd (let y : false ≡ true = e in cc)
words_stay p f.BraceOpen e = absurd (let y : false ≡ true = e in cc)
words_stay p f.BraceClose e = absurd (let y : false ≡ true = e in cc)
words_stay p f.Word e = refl
words_stay p f.If e = refl
words_stay p f.Else e = refl
words_stay p f.TypeWord e = refl
words_stay p f.Sign e = refl
words_stay p f.Start e = absurd (let y : false ≡ true = e in cc)
words_stay p f.Include e = absurd (let y : false ≡ true = e in cc)
words_stay p f.Semicolon e = absurd (let y : false ≡ true = e in cc)
words_stay p f.Open e = absurd (let y : false ≡ true = e in cc)
words_stay p f.Close e = absurd (let y : false ≡ true = e in cc)
words_stay p f.SquareOpen e = absurd (let y : false ≡ true = e in cc)
words_stay p f.SquareClose e = absurd (let y : false ≡ true = e in cc)
words_stay p f.Comma e = absurd (let y : false ≡ true = e in cc)
words_stay p f.Dot e = absurd (let y : false ≡ true = e in cc)
words_stay p f.SliceColon e = absurd (let y : false ≡ true = e in cc)
words_stay p f.AngleOpen e = absurd (let y : false ≡ true = e in cc)
words_stay p f.AngleClose e = absurd (let y : false ≡ true = e in cc)
words_stay p f.Prefix e = absurd (let y : false ≡ true = e in cc)

either_sign : (t : Bool) (x y : Form) → takes_signs x ≡ true → takes_signs y ≡ true → takes_signs (cond t x y) ≡ true
either_sign true x y e g = e
either_sign false x y e g = g

signs_stay : (p : Place) (x : Form) → takes_signs x ≡ true → takes_signs (resolved p x) ≡ true
signs_stay p f.Less e = either_sign (is_type_word p.last) f.AngleOpen f.Sign refl refl
signs_stay p f.More e = either_sign (nat_lt 0 p.angles) f.AngleClose f.Sign refl refl
signs_stay p f.Minus e = either_sign (is_open p.last) f.Prefix f.Sign refl refl
signs_stay p f.Colon e = absurd (let y : false ≡ true = e in cc)
signs_stay p f.BraceOpen e = absurd (let y : false ≡ true = e in cc)
signs_stay p f.BraceClose e = absurd (let y : false ≡ true = e in cc)
signs_stay p f.Dot e = refl
signs_stay p f.AngleOpen e = refl
signs_stay p f.AngleClose e = refl
signs_stay p f.Prefix e = refl
signs_stay p f.Sign e = refl
signs_stay p f.Word e = absurd (let y : false ≡ true = e in cc)
signs_stay p f.If e = absurd (let y : false ≡ true = e in cc)
signs_stay p f.Else e = absurd (let y : false ≡ true = e in cc)
signs_stay p f.TypeWord e = absurd (let y : false ≡ true = e in cc)
signs_stay p f.Start e = absurd (let y : false ≡ true = e in cc)
signs_stay p f.Include e = absurd (let y : false ≡ true = e in cc)
signs_stay p f.Semicolon e = absurd (let y : false ≡ true = e in cc)
signs_stay p f.Open e = absurd (let y : false ≡ true = e in cc)
signs_stay p f.Close e = absurd (let y : false ≡ true = e in cc)
signs_stay p f.SquareOpen e = absurd (let y : false ≡ true = e in cc)
signs_stay p f.SquareClose e = absurd (let y : false ≡ true = e in cc)
signs_stay p f.Comma e = absurd (let y : false ≡ true = e in cc)
signs_stay p f.SliceColon e = absurd (let y : false ≡ true = e in cc)

word_stays : (p : Place) (x : Form) → is_word x ≡ true → is_word (resolved p x) ≡ true
word_stays p f.Word e = refl
word_stays p f.If e = refl
word_stays p f.Else e = refl
word_stays p f.TypeWord e = refl
word_stays p f.Less e = absurd (let y : false ≡ true = e in cc)
word_stays p f.More e = absurd (let y : false ≡ true = e in cc)
word_stays p f.Minus e = absurd (let y : false ≡ true = e in cc)
word_stays p f.Colon e = absurd (let y : false ≡ true = e in cc)
word_stays p f.BraceOpen e = absurd (let y : false ≡ true = e in cc)
word_stays p f.BraceClose e = absurd (let y : false ≡ true = e in cc)
word_stays p f.Sign e = absurd (let y : false ≡ true = e in cc)
word_stays p f.Start e = absurd (let y : false ≡ true = e in cc)
word_stays p f.Include e = absurd (let y : false ≡ true = e in cc)
word_stays p f.Semicolon e = absurd (let y : false ≡ true = e in cc)
word_stays p f.Open e = absurd (let y : false ≡ true = e in cc)
word_stays p f.Close e = absurd (let y : false ≡ true = e in cc)
word_stays p f.SquareOpen e = absurd (let y : false ≡ true = e in cc)
word_stays p f.SquareClose e = absurd (let y : false ≡ true = e in cc)
word_stays p f.Comma e = absurd (let y : false ≡ true = e in cc)
word_stays p f.Dot e = absurd (let y : false ≡ true = e in cc)
word_stays p f.SliceColon e = absurd (let y : false ≡ true = e in cc)
word_stays p f.AngleOpen e = absurd (let y : false ≡ true = e in cc)
word_stays p f.AngleClose e = absurd (let y : false ≡ true = e in cc)
word_stays p f.Prefix e = absurd (let y : false ≡ true = e in cc)

-- ---- lexemes

implied : (s t : Bool) → implies s t ≡ true → s ≡ true → t ≡ true
implied true t e f = e
implied false t e f = absurd (let y : false ≡ true = f in cc)

-- what the layout takes a lexeme for
record Taken (p : Place) (x : Lexeme) : Type 0 where
  names : takes_names x ≡ true → takes_words (resolved p (form_of x)) ≡ true
  marks : takes_marks x ≡ true → takes_signs (resolved p (form_of x)) ≡ true
  starts : is_name_byte (first_byte (bytes_of_lexeme x)) ≡ true → is_word (resolved p (form_of x)) ≡ true
  signs : is_joined (first_byte (bytes_of_lexeme x)) ≡ true → takes_signs (resolved p (form_of x)) ≡ true

not_both : (b : Bool) → b ≡ false → b ≡ true → ⊥
not_both b e g = let y : false ≡ true = sym e ∙ g in cc

-- a byte of a name is in no mark
name_or_mark : (b : ℕ) → is_name_byte b ≡ true → is_joined b ≡ false
name_or_mark b e = grind (arith, nat_tests)

taken_key : (p : Place) (x : Key) → Taken p (key x)
taken_key p x =
    let u = bytes_of_key x in
    let y = form_of_key x in
    let n = is_name_byte (first_byte u) in
    let h = and_parts (implies (n || first_byte u == 35) (takes_words y)) _ (key_formed x) in
    let k = and_parts (implies (is_joined (first_byte u)) (takes_signs y)) _ h.1 in
    record {
      names = λ e. words_stay p y (implied (n || first_byte u == 35) (takes_words y) h.0 e);
      marks = λ e. signs_stay p y (implied (is_joined (first_byte u)) (takes_signs y) k.0 e);
      starts = λ e. word_stays p y (implied n (is_word y) k.1 e);
      signs = λ e. signs_stay p y (implied (is_joined (first_byte u)) (takes_signs y) k.0 e);
    }

first_of_word : (u : List ℕ) → list_all is_name_byte u ≡ true → 0 < length u → is_name_byte (first_byte u) ≡ true
first_of_word [] a l = absurd (omega (arith, l))
first_of_word (b ∷ u) a l = (and_parts (is_name_byte b) (list_all is_name_byte u) a).0

-- the first byte of a name or a number is one of names
taken_word : (p : Place) (x : Lexeme) → resolved p (form_of x) ≡ f.Word → takes_marks x ≡ false → is_name_byte (first_byte (bytes_of_lexeme x)) ≡ true → Taken p x
taken_word p x is none start = record {
  names = λ e. ap takes_words is;
  marks = λ e. absurd (not_both (takes_marks x) none e);
  starts = λ e. ap is_word is;
  signs = λ e. absurd (not_both (is_joined (first_byte (bytes_of_lexeme x))) (name_or_mark (first_byte (bytes_of_lexeme x)) start) e);
}

taken : (p : Place) (x : Lexeme) → IsLexeme P4 x → Taken p x
taken p (name s) i = taken_word p (name s) refl refl (first_of_word s (name_bytes s i.0) (some_bytes P4 (name s) i))
taken p (number n) i = taken_word p (number n) refl refl (first_of_word (number_bytes n.width n.value) (number_name (spelled n.width n.value i.0 i.1).is) (some_bytes P4 (number n) i))
taken p (key x) i = taken_key p x
taken p (quoted s) i = taken_quoted s i.1
  where
    taken_quoted : (s : List ℕ) → IsQuoted s → Taken p (quoted s)
    taken_quoted s (in_quotes body a e) = record {
      names = λ g. absurd (let y : false ≡ true = g in cc);
      marks = λ g. absurd (let y : false ≡ true = g in cc);
      starts = λ g. absurd (let y : false ≡ true = g in cc);
      signs = λ g. refl;
    }
taken p (include s) i = taken_include s i.1
  where
    taken_include : (s : List ℕ) → IsInclude s → Taken p (include s)
    taken_include s (lex.include blanks file a e) = record {
      names = λ g. absurd (let y : false ≡ true = g in cc);
      marks = λ g. absurd (let y : false ≡ true = g in cc);
      starts = λ g. absurd (let y : false ≡ true = g in cc);
      signs = λ g. absurd (let y : false ≡ true = g in cc);
    }
taken p (strange s) i = absurd i

-- ---- what may touch

apart : (s n w g : Bool) → (s ≡ true → w ≡ true) → (n ≡ true → g ≡ true) → not (w && g) ≡ true → not (s && n) ≡ true
apart false n w g p q e = refl
apart true false w g p q e = refl
apart true true w g p q e = let z : not (true && true) ≡ true = subst (λ a. not (a && true) ≡ true) (p refl) (subst (λ a. not (w && a) ≡ true) (q refl) e) in z

-- what the layout lets stand right behind a lexeme is read apart from it
pub touching_ends : (p q : Place) (x y : Lexeme) → IsLexeme P4 x → IsLexeme P4 y → may_touch (resolved p (form_of x)) (resolved q (form_of y)) ≡ true → ends x (first_byte (bytes_of_lexeme y)) ≡ true
touching_ends p q x y i j e =
    let a = taken p x i in
    let b = taken q y j in
    let v = resolved p (form_of x) in
    let w = resolved q (form_of y) in
    let u = first_byte (bytes_of_lexeme y) in
    let h = and_parts (not (takes_words v && is_word w)) (not (takes_signs v && takes_signs w)) e in
    and_from (not (takes_names x && is_name_byte u)) (not (takes_marks x && is_joined u))
    (apart (takes_names x) (is_name_byte u) (takes_words v) (is_word w) a.names b.starts h.0)
    (apart (takes_marks x) (is_joined u) (takes_signs v) (takes_signs w) a.marks b.signs h.1)
