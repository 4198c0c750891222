-- Stores of a run, and the values of expressions in them. Read `Tied` and `Widths` before it.
use Rattle.std.specs.Prelude.{◌≡◌, ℕ, ◌≤◌, List, [], false, true, None}
use Rattle.rule_tests.specs.Tests.{IsFine}
use Rattle.p4_tree.specs.Tree.{Expr, Program}
use Rattle.p4_meaning.specs.Store.{Store}
use Rattle.p4_meaning.specs.Value.{own_width, value_of}
use Rattle.p4_meaning.specs.Scope as meaning
use Rattle.p4_meaning.specs.Scope.{constant_at, path_under, seen}
use Rattle.p4_meaning.specs.Under.{expr_under}
use Rattle.p4_meaning.specs.Parts.{Parts}
use Rattle.p4_meaning.specs.Laws.{AreWords, IsOf}
use Rattle.p4_scopes.specs.Scopes.{is_missing, value_kind, Scope, own}
use Rattle.p4_scopes.specs.Uses.{reads}
use Rattle.p4_scopes.specs.declared.kind.Kind.{Kind}
use Rattle.p4_statement_rules.specs.Expressions.{expr_tests}
use Rattle.p4_typing_laws.specs.Soundness.{kind_width}
use Rattle.p4_typing_laws.specs.Widths.{static_width, Shows, Serves}
use Rattle.p4_typing_laws.specs.Tied.{IsTied, EachPlace}

-- a store of a run fits both scopes: each path that stands for a value, and is no constant, has a word of its kind where
-- the meaning keeps it
pub record Fits (s : Scope) (sc : meaning.Scope) (st : Store) : Type 0 where
  pub values : (x : List (List ℕ)) → is_missing (s x) ≡ false → reads (s x) ≡ true → constant_at sc x ≡ None → IsOf (kind_width (value_kind (s x))) (st.values (path_under sc x))
  -- no header has the empty path
  pub headers : st.headers [] ≡ None

-- an expression of the running program has a word of the static width, in range, and the width of its own that the rules
-- give
pub record RunsAtWidth (s : Scope) (sc : meaning.Scope) (st : Store) (want : Kind) (e : Expr) : Type 0 where
  pub value : (w : ℕ) → Serves s want e w → IsOf (static_width s want e) (value_of (expr_under sc e) w st)
  pub width : own_width (expr_under sc e) st ≡ kind_width (own s e)

-- where both scopes are tied, what is seen of a store that fits shows what the scope says, and so each expression that
-- breaks no rule has its static width in the run. In each scope of a well-typed program constants are words
pub record RunsHaveStaticWidths : Type 0 where
  pub shown : (p : Parts) (s : Scope) (sc : meaning.Scope) → IsTied p s sc → (st : Store) → Fits s sc st → Shows s (seen sc st)
  pub values :
      (p : Parts) (s : Scope) (sc : meaning.Scope) → IsTied p s sc → AreWords sc → (st : Store) → Fits s sc st
      → (want : Kind) → kind_width want ≤ 128 → (e : Expr) → IsFine (expr_tests s want e) → RunsAtWidth s sc st want e
  pub words : (p : Program) → EachPlace (λ s sc. AreWords sc) p
