-- What is known at each statement to which a run comes, for statements with other values to do the same there. Read
-- `Rewritten` of `rewritten_programs` before it, and `SeenStores` of `passage_stores`; `Laws` after it.
use Rattle.std.specs.Prelude.{◌≡◌, ℕ, List, [], ◌∷◌, Option, Some, None}
use Rattle.std.specs.List.{AllByRecursion}
use Rattle.bit_values.specs.Bits.{Word}
use Rattle.p4_tree.specs.Tree.{Expr, Stmt}
use Rattle.p4_meaning.specs.Store.{Store}
use Rattle.p4_meaning.specs.Value.{value_of}
use Rattle.p4_meaning.specs.Statements.{Run, Calls}
use Rattle.p4_meaning.specs.Actions.{Action, action_named, params_of, act_if}
use Rattle.p4_meaning.specs.Tables.{Key, Table, Entries, has_ternary, key_words}
use Rattle.p4_meaning.specs.Parts.{Parts}
use Rattle.p4_meaning.specs.Scope as meaning
use Rattle.p4_meaning.specs.Scope.{full_name}
use Rattle.p4_scopes.specs.Scopes.{act, rows, Scope}
use Rattle.p4_scopes.specs.declared.kind.Kind.{Kind}
use Rattle.passage_stores.specs.FitStores.{IsFit}
use Rattle.passage_stores.specs.SeenStores.{Sees}

-- ---- what calls do

-- expressions that have the same values, one by one, for each width
abbrev pub HaveSameValues : Store → List Expr → List Expr → Type 0
HaveSameValues st [] [] = Unit {0}
HaveSameValues st (e ∷ es) (f ∷ fs) = ((w : ℕ) → value_of f w st ≡ value_of e w st) × HaveSameValues st es fs
HaveSameValues st _ _ = ⊥

-- calls of two programs do the same in this run: of the actions in sight, on arguments of the same values, and of the tables
pub record DoSame (s : Scope) (sc : meaning.Scope) (calls others : Calls) (r : Run) : Type 0 where
  pub tables : (x : List ℕ) (m : ℕ) → s (x ∷ []) ≡ rows m → others.apply_table (full_name sc x) r ≡ calls.apply_table (full_name sc x) r
  pub actions :
      (x : List ℕ) (ks : List Kind) (m : ℕ) → s (x ∷ []) ≡ act ks m → (es fs : List Expr) → HaveSameValues r.store es fs
      → others.run_action (full_name sc x) fs r ≡ calls.run_action (full_name sc x) es r

-- at a statement to which a run comes
abbrev pub IsSeen : Parts → (calls others : Calls) → Scope → meaning.Scope → Stmt → Run → Type 0
IsSeen p calls others s sc c r = Sees p s sc r.store × DoSame s sc calls others r

-- where a store fits the program, as along a passage
abbrev pub IsFitlySeen : Parts → Scope → meaning.Scope → Run → Type 0
IsFitlySeen p s sc r = Sees p s sc r.store × IsFit p r.store

-- ---- actions and tables of two programs, as a run finds them by their full names

-- actions of the same parameters, which do the same in this run
pub record ActionsDoSame (as' bs : List Action) (x : List ℕ) (r : Run) : Type 0 where
  pub params : params_of (action_named bs x) ≡ params_of (action_named as' x)
  pub acts : (ws : List Word) → act_if (action_named bs x) ws r ≡ act_if (action_named as' x) ws r

-- keys that are matched in the same ways, and have the same words in this store
pub record KeysAgree (ks ls : List Key) (st : Store) : Type 0 where
  pub ways : has_ternary ls ≡ has_ternary ks
  pub words : key_words ls st ≡ key_words ks st

-- the keys agree, and the actions that may be chosen do the same
pub record RowsAgree (as' bs : List Action) (t u : Table) (held : Entries) (r : Run) : Type 0 where
  pub keys : KeysAgree t.keys u.keys r.store
  pub listed : AllByRecursion (λ e. ActionsDoSame as' bs e.action r) held.listed
  pub default : ActionsDoSame as' bs held.default.action r

-- both are found, or none
abbrev pub TablesAgree : (as' bs : List Action) → Option Table → Option Table → Entries → Run → Type 0
TablesAgree as' bs None None held r = Unit {0}
TablesAgree as' bs (Some t) (Some u) held r = RowsAgree as' bs t u held r
TablesAgree as' bs _ _ held r = ⊥
