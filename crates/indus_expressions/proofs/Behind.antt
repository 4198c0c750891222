-- What may stand behind an expression, so that reading ends there.
use Rattle.std.proofs.Common.{◌≡◌, ℕ, suc, ◌+◌, ◌<◌, false, List, [], ◌∷◌, Option, Some, None, refl, ap, arith}
use Rattle.std.proofs.lemmas.Bool.{ne_eqb}
use Rattle.std.specs.Prelude.{◌==◌}
use Rattle.lex_words.specs.declared.key.Key.{Key}
use Rattle.lex_words.specs.declared.key.Key.TheVariants.{Open, Close, SquareOpen}
use Rattle.lex_words.specs.Seen.{Lexeme, key, key_in, at_key}
use Rattle.lex_words.specs.Brackets.{left_by}
use Rattle.indus_tree.specs.Tree.{Expr, Exprs, none, more, exprs_from}
use Rattle.indus_spelling.specs.Operators.{join_at}
use Rattle.indus_spelling.specs.declared.operator.Join.{Join}
use Rattle.indus_expressions.specs.Reading.{join_in}

-- nothing stands there that joins on a level from 1 to l
abbrev pub NoJoin : ℕ → Option Lexeme → Type 0
NoJoin l o = (m : ℕ) → m < l → join_in (m + 1) (key_in o) ≡ None

-- nothing stands there
pub nothing_joins : (l : ℕ) → NoJoin l None
nothing_joins l m lt = refl

-- a key that joins nothing
pub no_join : (l : ℕ) (k : Key) → join_at k ≡ None → NoJoin l (Some (key k))
no_join l k e m lt = rw e refl

-- what joins is of one level
pub other_level : (l : ℕ) (k : Key) (x : Join) → join_at k ≡ Some (suc l, x) → NoJoin l (Some (key k))
other_level l k x e m lt = let f : (suc l == m + 1) ≡ false = ne_eqb (suc l) (m + 1) (λ y. omega (arith, y)) in rw (e, f) refl

pub join-no_square : (k : Key) (x : ℕ × Join) → join_at k ≡ Some x → at_key SquareOpen (Some (key k)) ≡ false
join-no_square SquareOpen x e = absurd cc
join-no_square _ x e = refl

-- what joins is no round bracket
pub join-plain : (k : Key) (x : ℕ × Join) (b : ℕ) → join_at k ≡ Some x → left_by (key k) b ≡ Some b
join-plain Open x b e = absurd cc
join-plain Close x b e = absurd cc
join-plain _ x b e = refl

-- the expressions of a list
abbrev pub list_of : Exprs → List Expr
list_of none = []
list_of (more a rest) = a ∷ list_of rest

pub exprs_from-list_of : (ts : Exprs) → exprs_from (list_of ts) ≡ ts
exprs_from-list_of none = refl
exprs_from-list_of (more a rest) = ap (more a) (exprs_from-list_of rest)
