-- What a control declares for lookups, under a scope: their actions and tables as they run, and the variables.
use Rattle.std.proofs.Common.{◌≡◌, codes, ℕ, suc, ◌+◌, List, [], ◌∷◌, ◌++◌, map, true, false, Option, Some, None, refl, ap, ap₂, ◌∙◌, arith}
use Rattle.std.specs.List.{AllByRecursion}
use Rattle.bit_values.specs.Bits.{Word}
use Rattle.indus_tree.specs.Tree.{Shape, one, list, set, dict, Decl}
use Rattle.indus_tree.specs.State.{shape_width, width_of}
use Rattle.indus_tree.specs.declared.tree.Ty.{Ty}
use Rattle.p4_tree.specs.Tree as p4
use Rattle.p4_tree.specs.Tree.{Stmts, done, next, Local}
use Rattle.p4_tree.specs.declared.statement.PTy.{PTy}
use Rattle.p4_meaning.specs.Store.{blank}
use Rattle.p4_meaning.specs.Value.{value_of}
use Rattle.p4_meaning.specs.Scope.{Scope, Roots, full, full_name, type_under}
use Rattle.p4_meaning.specs.Under.{settings_under}
use Rattle.p4_meaning.specs.Actions.{Action, Param, action_named, params_of, args_of, action_under, actions_in}
use Rattle.p4_meaning.specs.Tables.{Key, Table, key_under, default_under, table_under, tables_in}
use Rattle.own_code.specs.Regions.{is_mine}
use Rattle.monitor_laws.specs.Trees.{number}
use Rattle.linked_halves.specs.Statements.{vars_of}
use Rattle.control_tables.specs.Tables.{action_of, table_of, keys_from}
use Rattle.lookup_names.specs.Names as plain
use Rattle.lookup_names.specs.Names.{found_name, key_name, value_name}
use Rattle.lookup_names.specs.Keys.{variable}
use Rattle.lowered_code.specs.Names.{table_name, action_name, argument_name}
use Rattle.lowered_code.specs.Statements.{Var}
use Rattle.lookup_tables.specs.Tables.{Lookup, keys_for, table_for, action_for}
use Rattle.whole_properties.proofs.Numbering.{lookup_of}
use Rattle.lower_blocks.specs.Trees.{action_tree, table_tree, locals_for}
use Rattle.monitor_trees.specs.Stage.{Stage}
use Rattle.monitor_trees.proofs.Expressions.{variable_under}

-- a variable of the monitor's, of a type that is no typedef
abbrev pub IsVar : Var → Type 0
IsVar v = (is_mine v.1 ≡ true) × ((ts : List (List ℕ × PTy)) → type_under ts v.0 ≡ v.0)

-- what a lookup declares has its full name
pub record IsNamed (sc : Scope) (c : List ℕ) (l : ℕ × Decl) : Type 0 where
  pub action : full_name sc (plain.action_name l.0) ≡ action_name c l.0
  pub table : full_name sc (plain.table_name l.0) ≡ table_name c l.0

abbrev ZeroOf : ℕ → Type 0
ZeroOf w = value_of (number w 0) w blank ≡ record { width = w; value = 0 }

-- a scalar's 0 is 0 at its width
abbrev pub ZeroAt : Shape → Type 0
ZeroAt (one t) = ZeroOf (width_of t)
ZeroAt (list t n) = ZeroOf (width_of t)
ZeroAt (set ts) = Unit {0}
ZeroAt (dict ts t) = Unit {0}

-- and its action is found
pub record IsChosen (sc : Scope) (c : List ℕ) (as' : List Action) (l : ℕ × Decl) : Type 0 where
  pub named : IsNamed sc c l
  pub found : action_named as' (action_name c l.0) ≡ Some (action_for (lookup_of c l))
  pub zero : ZeroAt (l.1).shape

module _ (s : ℕ) (r : Roots) (sc : Scope) (g : Stage s r sc) (c : List ℕ) (at : sc.control ≡ c) where
  -- ---- variables

  none_set : (ls ms : List (ℕ × Decl)) → settings_under sc (map action_tree ls ++ map table_tree ms) ≡ done
  none_set [] [] = refl
  none_set [] (m ∷ ms) = none_set [] ms
  none_set (l ∷ ls) ms = none_set ls ms

  pub vars_under : (vs : List Var) (ls : List (ℕ × Decl)) → AllByRecursion IsVar vs → settings_under sc (locals_for vs ls) ≡ vars_of vs done
  vars_under [] ls h = none_set ls ls
  vars_under (v ∷ vs) ls h = λ j. next (p4.var 0 (h.0.1 sc.types j) (g.mine v.1 h.0.0 j) None) (vars_under vs ls h.1 j)

  -- ---- actions

  argument_in : (n : ℕ) → full sc.control (full (plain.action_name n) value_name) ≡ argument_name c n
  argument_in n = ap (λ (x : List ℕ). full x (full (plain.action_name n) value_name)) at

  abbrev with_value : (name value found : List ℕ) → (width : ℕ) → Action
  with_value x v f w = record { name = x; params = record { name = v; width = w } ∷ []; body = next (p4.assign 0 (f ∷ []) (variable v)) done }

  abbrev shaped : ℕ × Decl → Shape → Lookup
  shaped l k = record { control = c; number = l.0; decl = record l.1 { shape = k } }

  action_is : (l : ℕ × Decl) → IsNamed sc c l → action_under sc (action_of l.0 (l.1).shape) ≡ action_for (lookup_of c l)
  action_is l h = go (l.1).shape
    where
      go : (k : Shape) → action_under sc (action_of l.0 k) ≡ action_for (shaped l k)
      go (one t) = λ j. with_value (h.action j) (argument_in l.0 j) (g.inside (found_name l.0) refl j) (shape_width (one t))
      go (list t n) = λ j. with_value (h.action j) (argument_in l.0 j) (g.inside (found_name l.0) refl j) (shape_width (list t n))
      go (set ts) = λ j. record { name = h.action j; params = []; body = next (p4.assign 0 (g.inside (found_name l.0) refl j ∷ []) (number 1 1)) done }
      go (dict ts t) = λ j. with_value (h.action j) (argument_in l.0 j) (g.inside (found_name l.0) refl j) (shape_width (dict ts t))

  tables_only : (ls : List (ℕ × Decl)) → actions_in sc (map table_tree ls) ≡ []
  tables_only [] = refl
  tables_only (l ∷ ls) = tables_only ls

  actions_then : (ls ms : List (ℕ × Decl)) → AllByRecursion (IsNamed sc c) ls → actions_in sc (map action_tree ls ++ map table_tree ms) ≡ map action_for (map (lookup_of c) ls)
  actions_then [] ms h = tables_only ms
  actions_then (l ∷ ls) ms h = ap₂ (λ (x : Action) (xs : List Action). x ∷ xs) (action_is l h.0) (actions_then ls ms h.1)

  pub actions_under : (vs : List Var) (ls : List (ℕ × Decl)) → AllByRecursion (IsNamed sc c) ls → actions_in sc (locals_for vs ls) ≡ map action_for (map (lookup_of c) ls)
  actions_under [] ls h = actions_then ls ls h
  actions_under (v ∷ vs) ls h = actions_under vs ls h

  -- ---- tables

  keys_under : (n i : ℕ) (ts : List Ty) → map (key_under sc) (keys_from n i ts) ≡ keys_for n i ts
  keys_under n i [] = refl
  keys_under n i (t ∷ ts) =
      let here : i + 1 ≡ suc i = omega arith in
      ap₂ (λ (e : p4.Expr) (xs : List Key). record { value = e; kind = codes "exact" } ∷ xs) (variable_under s r sc g (key_name n i) refl refl)
      (keys_under n (i + 1) ts ∙ ap (λ (k : ℕ). keys_for n k ts) here)

  no_args : (ps : List Param) → args_of ps [] blank ≡ []
  no_args [] = refl
  no_args (p ∷ ps) = refl

  module _ (as' : List Action) where
    missed : default_under sc as' (Some (codes "NoAction", [])) ≡ record { action = codes "NoAction"; args = [] }
    missed = ap₂ (λ (x : List ℕ) (ws : List Word). record { action = x; args = ws }) g.no_action (no_args (params_of (action_named as' (full_name sc (codes "NoAction")))))

    scalar_args :
        (l : ℕ × Decl) (w : ℕ) → IsNamed sc c l
        → action_named as' (action_name c l.0) ≡ Some (with_value (action_name c l.0) (argument_name c l.0) (found_name l.0) w) → ZeroOf w
        → args_of (params_of (action_named as' (full_name sc (plain.action_name l.0)))) (number w 0 ∷ []) blank ≡ record { width = w; value = 0 } ∷ []
    scalar_args l w h f z = ap (λ (o : Option Action). args_of (params_of o) (number w 0 ∷ []) blank) (ap (action_named as') h.action ∙ f) ∙ ap (λ (v : Word). v ∷ []) z

    table_is : (l : ℕ × Decl) → IsChosen sc c as' l → table_under sc as' (table_of l.0 (l.1).shape) ≡ table_for (lookup_of c l)
    table_is l k = go (l.1).shape k.found k.zero
      where
        h : IsNamed sc c l
        h = k.named

        go : (k : Shape) → action_named as' (action_name c l.0) ≡ Some (action_for (shaped l k)) → ZeroAt k → table_under sc as' (table_of l.0 k) ≡ table_for (shaped l k)
        go (one t) f z = λ j. record { name = h.table j; keys = []; actions = h.action j ∷ []; default = record { action = h.action j; args = scalar_args l (width_of t) h f z j }; fixed = false }
        go (list t n) f z = λ j. record { name = h.table j; keys = []; actions = h.action j ∷ []; default = record { action = h.action j; args = scalar_args l (width_of t) h f z j }; fixed = false }
        go (set ts) f z = λ j. record { name = h.table j; keys = keys_under l.0 0 ts j; actions = h.action j ∷ g.no_action j ∷ []; default = missed j; fixed = false }
        go (dict ts t) f z = λ j. record { name = h.table j; keys = keys_under l.0 0 ts j; actions = h.action j ∷ g.no_action j ∷ []; default = missed j; fixed = false }

    tables_alone : (ls : List (ℕ × Decl)) → AllByRecursion (IsChosen sc c as') ls → tables_in sc as' (map table_tree ls) ≡ map table_for (map (lookup_of c) ls)
    tables_alone [] h = refl
    tables_alone (l ∷ ls) h = ap₂ (λ (x : Table) (xs : List Table). x ∷ xs) (table_is l h.0) (tables_alone ls h.1)

    tables_then : (ls ms : List (ℕ × Decl)) → AllByRecursion (IsChosen sc c as') ms → tables_in sc as' (map action_tree ls ++ map table_tree ms) ≡ map table_for (map (lookup_of c) ms)
    tables_then [] ms h = tables_alone ms h
    tables_then (l ∷ ls) ms h = tables_then ls ms h

    pub tables_under : (vs : List Var) (ls : List (ℕ × Decl)) → AllByRecursion (IsChosen sc c as') ls → tables_in sc as' (locals_for vs ls) ≡ map table_for (map (lookup_of c) ls)
    tables_under [] ls h = tables_then ls ls h
    tables_under (v ∷ vs) ls h = tables_under vs ls h
