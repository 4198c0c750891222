-- Tables and states of parsers with other expressions. Read `Replaced` before it, and `Tables` and `Parsers` of
-- `p4_declaration_rules`.
use Rattle.std.specs.Prelude.{◌≡◌, ℕ, List, [], ◌∷◌, Bool, true, false}
use Rattle.rule_tests.specs.Tests.{IsFine}
use Rattle.p4_tree.specs.Tree.{Expr, stmts_from, Keyset, any, Case, Transition, select, ParserState}
use Rattle.p4_scopes.specs.Scopes.{Scope}
use Rattle.p4_scopes.specs.declared.kind.Kind.{Kind}
use Rattle.p4_declaration_rules.specs.Parsers.{keyset_tests}
use Rattle.p4_rule_laws.specs.Replaced.{Replaces, ExprsReplaced, BlockReplaced}

-- ---- tables

-- keys that are matched in the same ways
abbrev pub KeysReplaced : Scope → List (Expr × List ℕ) → List (Expr × List ℕ) → Type 0
KeysReplaced s [] [] = Unit {0}
KeysReplaced s (k ∷ ks) (l ∷ ls) = Replaces s k.0 l.0 × (k.1 ≡ l.1) × KeysReplaced s ks ls
KeysReplaced s _ _ = ⊥

-- ---- parsers

-- `default` or `_`
abbrev pub is_any : Keyset → Bool
is_any (any p) = true
is_any _ = false

-- wherever the first key of a case is fine, the second may stand in its place
pub record KeysetReplaced (s : Scope) (k l : Keyset) : Type 0 where
  pub default : is_any k ≡ is_any l
  pub wherever : (w : Kind) → IsFine (keyset_tests s w k) → IsFine (keyset_tests s w l)

abbrev pub KeysetsReplaced : Scope → List Keyset → List Keyset → Type 0
KeysetsReplaced s [] [] = Unit {0}
KeysetsReplaced s (k ∷ ks) (l ∷ ls) = KeysetReplaced s k l × KeysetsReplaced s ks ls
KeysetsReplaced s _ _ = ⊥

-- cases that lead to the same states
abbrev pub CasesReplaced : Scope → List Case → List Case → Type 0
CasesReplaced s [] [] = Unit {0}
CasesReplaced s (c ∷ cs) (d ∷ ds) = KeysetsReplaced s c.keys d.keys × (c.next ≡ d.next) × CasesReplaced s cs ds
CasesReplaced s _ _ = ⊥

-- how a state goes on, with other expressions
pub data TransitionReplaced (s : Scope) : Transition → Transition → Type 0 where
  same_way : {t : Transition} → TransitionReplaced s t t
  in_select : {es fs : List Expr} {cs ds : List Case} (p : ℕ) → ExprsReplaced s es fs → CasesReplaced s cs ds → TransitionReplaced s (select p es cs) (select p fs ds)

-- what stands in states, whose names are not looked at
abbrev pub StatesReplaced : Scope → List ParserState → List ParserState → Type 0
StatesReplaced s [] [] = Unit {0}
StatesReplaced s (x ∷ xs) (y ∷ ys) = BlockReplaced s (stmts_from x.body) (stmts_from y.body) × TransitionReplaced s x.next y.next × StatesReplaced s xs ys
StatesReplaced s _ _ = ⊥
