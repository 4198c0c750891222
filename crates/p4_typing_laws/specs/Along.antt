-- Stores along a run: that they fit both scopes at each statement to which the run comes. Read `Stores` before it.
use Rattle.std.specs.Prelude.{◌≡◌, ◌⊎◌, ℕ, List, [], ◌∷◌, Bool, true, false, None}
use Rattle.bit_values.specs.Bits.{IsWord}
use Rattle.rule_tests.specs.Tests.{IsFine}
use Rattle.p4_tree.specs.Tree.{Expr, Stmt, Stmts, MaybeStmt, nothing, block, var, assign, choice, return_, exit_, call, done, next, without, otherwise}
use Rattle.p4_meaning.specs.Store.{Store}
use Rattle.p4_meaning.specs.Statements.{Go, Run, Calls, tested, meaning_of_stmt, meaning_of}
use Rattle.p4_meaning.specs.Scope as meaning
use Rattle.p4_meaning.specs.Scope.{is_among, first_name, names_in}
use Rattle.p4_meaning.specs.Under.{expr_under, stmt_under, stmts_under}
use Rattle.p4_meaning.specs.Parts.{Parts}
use Rattle.p4_meaning.specs.Laws.{IsOf, HasStandard}
use Rattle.p4_scopes.specs.Scopes.{Stands, typed, is_missing, Scope}
use Rattle.p4_scopes.specs.Uses.{is_scalar, reads}
use Rattle.p4_statement_rules.specs.Statements.{after, block_tests}
use Rattle.p4_statement_rules.specs.declared.rule.Part.{Part}
use Rattle.p4_typing_laws.specs.Soundness.{IsSound}
use Rattle.p4_typing_laws.specs.Tied.{IsTied}
use Rattle.p4_typing_laws.specs.Stores.{Fits}

-- ---- where a run comes to

-- a run comes to statements, each with what is in sight there: P holds of both scopes, the statement and the run
module _ (calls : Calls) (P : Scope → meaning.Scope → Stmt → Run → Type 0) where
  abbrev mutual
    -- at a statement and at those in it
    pub AlongStmt : Scope → meaning.Scope → Stmt → Run → Type 0
    AlongStmt s sc (nothing p) r = P s sc (nothing p) r
    AlongStmt s sc (block p b) r = P s sc (block p b) r × Along s sc b r
    AlongStmt s sc (var p ty x e) r = P s sc (var p ty x e) r
    AlongStmt s sc (assign p x e) r = P s sc (assign p x e) r
    AlongStmt s sc (choice p e a b) r =
        P s sc (choice p e a b) r
        × ((tested calls (expr_under sc e) r).flow ≡ Go → (tested calls (expr_under sc e) r).hit ≡ true → AlongStmt s sc a (tested calls (expr_under sc e) r).run)
        × ((tested calls (expr_under sc e) r).flow ≡ Go → (tested calls (expr_under sc e) r).hit ≡ false → AlongElse s sc b (tested calls (expr_under sc e) r).run)
    AlongStmt s sc (return_ p) r = P s sc (return_ p) r
    AlongStmt s sc (exit_ p) r = P s sc (exit_ p) r
    AlongStmt s sc (call p x args) r = P s sc (call p x args) r

    pub AlongElse : Scope → meaning.Scope → MaybeStmt → Run → Type 0
    AlongElse s sc without r = Unit {0}
    AlongElse s sc (otherwise c) r = AlongStmt s sc c r

    -- at the statements of a block, each in the run behind those before it, where these went on
    pub Along : Scope → meaning.Scope → Stmts → Run → Type 0
    Along s sc done r = Unit {0}
    Along s sc (next c ss) r =
        AlongStmt s sc c r
        × ((meaning_of_stmt calls (stmt_under sc c) r).1 ≡ Go → Along (after s c) sc ss (meaning_of_stmt calls (stmt_under sc c) r).0)

-- the store of a run fits both scopes
abbrev pub RunFits : Scope → meaning.Scope → Stmt → Run → Type 0
RunFits s sc c r = Fits s sc r.store

-- ---- types of single values

abbrev pub is_value_type : Stands → Bool
is_value_type (typed f t) = is_scalar t
is_value_type _ = false

-- nothing stands behind a type of single values
pub record IsFlat (s : Scope) : Type 0 where
  pub flat : (t : List ℕ) → is_value_type (s (t ∷ [])) ≡ true → (x : List ℕ) (xs : List (List ℕ)) → is_missing (s (t ∷ x ∷ xs)) ≡ true

-- ---- places in a store

-- a name that is read, or is one of those that are declared
abbrev pub IsNameOf : Scope → (declared : List (List ℕ)) → List ℕ → Type 0
IsNameOf s declared x = ((is_missing (s (x ∷ [])) ≡ false) × (reads (s (x ∷ [])) ≡ true)) ⊎ (is_among declared x ≡ true)

-- the places of a store that these names have, and those of paths of two names and more
abbrev pub IsPlaceOf : Scope → meaning.Scope → (declared : List (List ℕ)) → List (List ℕ) → Type 0
IsPlaceOf s sc declared [] = Unit {0}
IsPlaceOf s sc declared (y ∷ []) = (x : List ℕ) × (IsNameOf s declared x × (first_name sc x ≡ y))
IsPlaceOf s sc declared (y ∷ z ∷ rest) = Unit {0}

-- the names that a block declares have places of their own: no other of them has such a place, and no name that is read
pub record HavePlaces (s : Scope) (sc : meaning.Scope) (declared : List (List ℕ)) : Type 0 where
  pub apart : (x y : List ℕ) → is_among declared x ≡ true → is_among declared y ≡ true → first_name sc x ≡ first_name sc y → x ≡ y
  pub unread : (x y : List ℕ) → is_missing (s (x ∷ [])) ≡ false → reads (s (x ∷ [])) ≡ true → is_among declared y ≡ true → first_name sc x ≡ first_name sc y → x ≡ y

-- these places keep their widths, with words in range
pub record Keeps (K : List (List ℕ) → Type 0) (a b : Store) : Type 0 where
  pub words : (q : List (List ℕ)) → K q → IsWord (a.values q) → IsOf (a.values q).width (b.values q)

-- what calls do leaves the widths at these places as they are, and the empty path without a header
pub record CallsLeave (K : List (List ℕ) → Type 0) (calls : Calls) : Type 0 where
  pub actions : (x : List ℕ) (es : List Expr) (r : Run) → HasStandard r.store → Keeps K r.store (calls.run_action x es r).0.store
  pub tables : (x : List ℕ) (r : Run) → HasStandard r.store → Keeps K r.store (calls.apply_table x r).run.store
  pub bare_actions : (x : List ℕ) (es : List Expr) (r : Run) → r.store.headers [] ≡ None → (calls.run_action x es r).0.store.headers [] ≡ None
  pub bare_tables : (x : List ℕ) (r : Run) → r.store.headers [] ≡ None → (calls.apply_table x r).run.store.headers [] ≡ None

-- ---- the law

-- what a block needs: both scopes are tied, sound and flat, its names have places of their own, and what its calls do
-- leaves these places and those that are read
pub record IsReady (p : Parts) (calls : Calls) (s : Scope) (sc : meaning.Scope) (b : Stmts) : Type 0 where
  pub tied : IsTied p s sc
  pub sound : IsSound s
  pub flat : IsFlat s
  pub places : HavePlaces s sc (names_in b)
  pub calls_leave : CallsLeave (IsPlaceOf s sc (names_in b)) calls

-- where a block breaks no rule and begins in a store that fits, each statement that its run comes to finds a store that fits
-- both scopes there, and behind the block the store fits again what was in sight before it
pub record StoresFit : Type 0 where
  pub along :
      (p : Parts) (calls : Calls) (h : Part) (s : Scope) (sc : meaning.Scope) (b : Stmts) → IsReady p calls s sc b → IsFine (block_tests h s b)
      → (r : Run) → Fits s sc r.store → HasStandard r.store → Along calls RunFits s sc b r
  pub behind :
      (p : Parts) (calls : Calls) (h : Part) (s : Scope) (sc : meaning.Scope) (b : Stmts) → IsReady p calls s sc b → IsFine (block_tests h s b)
      → (r : Run) → Fits s sc r.store → HasStandard r.store → Fits s sc (meaning_of calls (stmts_under sc b) r).0.store
