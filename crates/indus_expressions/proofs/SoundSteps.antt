-- Steps of a reader of expressions: what each says of the lexemes, and a number as the shortest expression.
use Rattle.std.proofs.Common.{◌≡◌, ℕ, zero, suc, ◌+◌, Bool, true, false, cond, List, [], ◌∷◌, Option, Some, None, Ok, Err, refl, arith}
use Rattle.std.specs.Prelude.{slice_get}
use Rattle.std.proofs.lemmas.Bool.{and_parts, eqb-true, leb-true}
use Rattle.lex_text.specs.declared.literal.Literal.{Literal}
use Rattle.lex_words.specs.Seen.{Lexeme, number, number_in}
use Rattle.lex_words.specs.Reading.{wrong, Read, ◌>>=◌}
use Rattle.lex_words.proofs.KeyCodes.{number_lexeme}
use Rattle.lex_words.proofs.Spelled.{Ends, Reads, Reads-lexeme, Reads-wrong}
use Rattle.indus_tree.specs.Tree.{Expr, num}
use Rattle.indus_spelling.specs.Operators.{IsSize}
use Rattle.indus_spelling.specs.Expressions.{Spells, a_number, tighter}
use Rattle.indus_expressions.specs.Reading.{is_size, sized, sized_at}

-- ---- the shortest expression

abbrev pub zero_lexeme : Literal
zero_lexeme = record { width = 0; value = 0 }

-- a name, where one is wanted
abbrev pub some_name : List ℕ
some_name = 120 ∷ []

pub zero_size : IsSize zero_lexeme
zero_size = record { plain = refl; low = omega arith }

-- what is spelled on level 0 is spelled on each level
pub on_level : (l p : ℕ) (a : Expr) (u : List Lexeme) → Spells 0 p a u → Spells l p a u
on_level zero p a u s = s
on_level (suc l) p a u s = tighter (on_level l p a u s)

pub a_number_up : (l p : ℕ) (v : Literal) → Spells l p (num p v) (number v ∷ [])
a_number_up l p v = on_level l p (num p v) (number v ∷ []) (a_number v)

pub size_is : (v : Literal) → is_size v ≡ true → IsSize v
size_is v e =
    let h = and_parts _ _ e in
    record { plain = eqb-true v.width 0 h.0; low = leb-true v.value 255 h.1 }

-- ---- a size

module _ (ws : List Lexeme) (n : ℕ) where
  pub Reads-sized : {B : Type 0} (T : B → List Lexeme → Type 0) (K : B → Type 0) (b d p : ℕ) (f : ℕ × ℕ → Read B) → ((x : Literal) → IsSize x → Ends T K (number x ∷ []))
      → ((x : Literal) → IsSize x → slice_get ws p ≡ Some (number x) → Reads ws (λ a v. T a (number x ∷ v)) K b d (p + 1) (f (x.value, p + 1))) → Reads ws T K b d p (sized_at ws n p >>= f)
  unfolding sized_at
  Reads-sized T K b d p f short go = by (number_in (slice_get ws p)) (λ x e. number_lexeme x (slice_get ws p) e)
    where
      no_size : Reads ws T K b d p (Err (wrong p))
      no_size = Reads-wrong ws T K b d p

      tested : (x : Literal) (z : Bool) → (z ≡ true → IsSize x) → slice_get ws p ≡ Some (number x) → Reads ws T K b d p (cond z (Ok (x.value, p + 1)) (Err (wrong p)) >>= f)
      tested x true size is = Reads-lexeme ws T K b b d p (number x) (f (x.value, p + 1)) is refl (short x (size refl)) (go x (size refl) is)
      tested x false size is = no_size

      by : (o : Option Literal) → ((x : Literal) → o ≡ Some x → slice_get ws p ≡ Some (number x)) → Reads ws T K b d p (sized p o >>= f)
      by None is = no_size
      by (Some x) is = tested x (is_size x) (λ e. size_is x e) (is x refl)
