-- A word that is read for a type has the type's width, and fits into it.
use Rattle.std.proofs.Common.{◌≡◌, ℕ, ◌<◌, ◌^◌, List, Bool, true, false, nat_lt, Option, Some, None, Result, Ok, Err, refl, ap, ◌∙◌, subst, arith}
use Rattle.std.specs.Prelude.{option_and_then, option_map}
use Rattle.std.specs.Option.{option_map_or}
use Rattle.std.proofs.lemmas.Option.{cond_some}
use Rattle.std.proofs.lemmas.Bool.{ltb-true}
use Rattle.serde_json.specs.Data.{Data}
use Rattle.serde_json.specs.Find.{as_bool}
use Rattle.bit_values.specs.Bits.{Word, word}
use Rattle.bit_values.specs.Widths.{bit, sound_width}
use Rattle.indus_tree.specs.State.{width_of}
use Rattle.indus_tree.specs.Shapes.{HasWidth}
use Rattle.indus_tree.specs.declared.tree.Ty.{Ty}
use Rattle.indus_tree.specs.declared.tree.Ty.TheVariants as ty
use Rattle.indus_rules.specs.Rules.{bad_width}
use Rattle.indus_types.specs.StaticWidths.{IsWidth}
use Rattle.indus_types.proofs.SoundSights.{good_bits, one_bit}
use Rattle.indus_types.proofs.StaticWidthsLemmas.{sound_is}
use Rattle.json_parts.specs.Answers.{◌>>=◌}
use Rattle.json_values.specs.Words.{fitting, number_in, word_of, word_at}
use Rattle.control_file.specs.Keys.{kind_of}

-- ---- what is read next

pub read_then : {E A B G : Type 0} (r : Result A E) (next : A → Result B E) (b : B) → (r >>= next) ≡ Ok b → ((a : A) → r ≡ Ok a → next a ≡ Ok b → G) → G
read_then (Ok a) next b e k = k a refl e
read_then (Err x) next b e k = absurd (cc e)

pub ok_same : {E A : Type 0} (a b : A) → (let r : Result A E = Ok a in r) ≡ Ok b → a ≡ b
ok_same a b e = cc e

pub found_or : {E A : Type 0} (o : Option A) (x : E) (a : A) → option_map_or (λ b. (let r : Result A E = Ok b in r)) o (Err x) ≡ Ok a → o ≡ Some a
found_or None x a e = absurd (cc e)
found_or (Some b) x a e = let same : b ≡ a = ok_same b a e in ap (λ c. Some c) same

-- ---- words of a type

pub good_type : (t : Ty) → bad_width t ≡ false → IsWidth (width_of t)
good_type (ty.Bit w) h = good_bits w h
good_type ty.Bool h = one_bit

pub record IsOf (t : Ty) (w : Word) : Type 0 where
  pub width : w.width ≡ width_of t
  pub value : HasWidth (width_of t) w

fits_in : (v n : ℕ) (w : Word) → fitting (sound_width v) n ≡ Some w → HasWidth v w
fits_in v n w e =
    let both = cond_some (nat_lt n (2 ^ sound_width v)) (word (sound_width v) n) w e in
    let low : n < 2 ^ sound_width v = ltb-true n (2 ^ sound_width v) both.0 in
    subst (HasWidth v) both.1 (record { width = refl; in_range = low })

number_fits : (v : ℕ) (o : Option ℕ) (w : Word) → option_and_then (fitting (sound_width v)) o ≡ Some w → HasWidth v w
number_fits v None w e = absurd (cc e)
number_fits v (Some n) w e = fits_in v n w e

bit_fits : (b : Bool) → HasWidth 1 (bit b)
bit_fits true = record { width = refl; in_range = omega arith }
bit_fits false = record { width = refl; in_range = omega arith }

truth_fits : (o : Option Bool) (w : Word) → option_map bit o ≡ Some w → HasWidth 1 w
truth_fits None w e = absurd (cc e)
truth_fits (Some b) w e = let same : bit b ≡ w = cc e in subst (HasWidth 1) same (bit_fits b)

value_fits : (t : Ty) (d : Data) (w : Word) → word_of (kind_of t) d ≡ Some w → HasWidth (width_of t) w
value_fits (ty.Bit v) d w e = number_fits v (number_in (sound_width v) d) w e
value_fits ty.Bool d w e = truth_fits (as_bool d) w e

pub of_type : (t : Ty) (w : Word) → bad_width t ≡ false → HasWidth (width_of t) w → IsOf t w
of_type t w good has = record { width = has.width ∙ sound_is (width_of t) (good_type t good); value = has }

pub word_fits : (t : Ty) (path : List ℕ) (d : Data) (w : Word) → bad_width t ≡ false → word_at path (kind_of t) d ≡ Ok w → IsOf t w
word_fits t path d w good e = of_type t w good (value_fits t d w (found_or (word_of (kind_of t) d) _ w e))
