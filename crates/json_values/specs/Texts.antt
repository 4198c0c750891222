-- Which texts are numbers. Read `Numbers` of lex_text before it, and `Words` after it.
use Rattle.std.specs.Prelude.{◌≡◌, ◌↔◌, ◌<◌, ℕ, zero, suc, ◌+◌, ◌*◌, ◌^◌, ◌==◌, nat_lt, ◌&&◌, List, [], ◌∷◌, length, Option, Some, None, option_map, option_and_then, if◌then◌else◌}
use Rattle.std.specs.Option.{option_or}
use Rattle.std.specs.Char.{digit_value}
use Rattle.std.specs.List.{list_all, position_or_len, before_first, after_first}
use Rattle.lex_text.specs.NameToken.{is_digit}
use Rattle.lex_text.specs.Numbers.{is_digit_of, are_digits, value_from, is_x, is_b, Unsized}
use Rattle.json_values.specs.declared.address.Form.{Form}
use Rattle.json_values.specs.declared.address.Form.TheVariants.{Dotted, Coloned}

-- a number where it is below a bound
abbrev pub below : (bound : ℕ) → ℕ → Option ℕ
below bound n = if nat_lt n bound then Some n else None

-- ---- numbers as both languages write them, without a width

-- digits of a base, perhaps with `_` between or behind them, of a number below 2^128
abbrev pub digits_of : (base : ℕ) → List ℕ → Option ℕ
digits_of base text = if are_digits base text then below (2 ^ 128) (value_from base 0 text) else None

-- in base 16 behind `0x`, in base 2 behind `0b`, else in base 10
abbrev pub number_of : List ℕ → Option ℕ
number_of (zero_ ∷ mark ∷ digits) =
    if zero_ == 48 && is_x mark then digits_of 16 digits
    else if zero_ == 48 && is_b mark then digits_of 2 digits
    else digits_of 10 (zero_ ∷ mark ∷ digits)
number_of text = digits_of 10 text

-- these are the numbers of the languages' texts
abbrev pub NumberTextsAreTokens : Type 0
NumberTextsAreTokens = (text : List ℕ) (value : ℕ) → (number_of text ≡ Some value) ↔ (Unsized value text × (value < 2 ^ 128))

-- ---- addresses

abbrev pub mark_of : Form → ℕ
mark_of Dotted = 46
mark_of Coloned = 58

-- how many bytes stand before the last
abbrev pub marks_of : Form → ℕ
marks_of Dotted = 3
marks_of Coloned = 5

-- decimal digits, one or more, of a number below 256
abbrev pub octet_of : List ℕ → Option ℕ
octet_of text = if list_all is_digit text then option_and_then (below 256) (digits_of 10 text) else None

-- two hexadecimal digits
abbrev pub pair_of : List ℕ → Option ℕ
pair_of (high ∷ low ∷ []) =
    if is_digit_of 16 high && is_digit_of 16 low then Some (digit_value high * 16 + digit_value low) else None
pair_of text = None

abbrev pub byte_of : Form → List ℕ → Option ℕ
byte_of Dotted text = octet_of text
byte_of Coloned text = pair_of text

-- the text before and behind the first mark
abbrev pub split_at : (mark : ℕ) → List ℕ → Option (List ℕ × List ℕ)
split_at mark text =
    if nat_lt (position_or_len (λ b. b == mark) text) (length text)
    then Some (before_first (λ b. b == mark) text, after_first (λ b. b == mark) text)
    else None

-- the byte before the first mark, and the text behind it
abbrev pub front_of : Form → List ℕ → Option (ℕ × List ℕ)
front_of form text =
    option_and_then (λ parts. option_map (λ n. (n, parts.1)) (byte_of form parts.0)) (split_at (mark_of form) text)

-- the number whose bytes, the highest first, are those before and those of the text, which has so many marks
abbrev pub bytes_from : Form → (marks : ℕ) → (before : ℕ) → List ℕ → Option ℕ
bytes_from form zero before text = option_map (λ n. before * 256 + n) (byte_of form text)
bytes_from form (suc marks) before text =
    option_and_then (λ front. bytes_from form marks (before * 256 + front.0) front.1) (front_of form text)

-- four bytes joined by dots, or six joined by colons
abbrev pub address_of : Form → List ℕ → Option ℕ
address_of form text = bytes_from form (marks_of form) 0 text

-- the number that a text is in a place of so many bits
abbrev pub text_value : (width : ℕ) → List ℕ → Option ℕ
text_value width text =
    if width == 32 then option_or (number_of text) (address_of Dotted text)
    else if width == 48 then option_or (number_of text) (address_of Coloned text)
    else number_of text
