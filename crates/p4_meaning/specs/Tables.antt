-- The tables of a program, by their full names, what a switch keeps in them, and what their application does. Read
-- `Choice` and `Actions` before it and `Parts` after it.
use Rattle.std.specs.Prelude.{codes, ℕ, List, [], ◌∷◌, ◌++◌, map, Bool, true, false, ◌||◌, Option, Some, None, if◌then◌else◌}
use Rattle.bit_values.specs.Bits.{Word}
use Rattle.lex_text.specs.Names.{same_text}
use Rattle.p4_tree.specs.Tree as tree
use Rattle.p4_tree.specs.Tree.{Expr, Local, local_table, Control, Top, control}
use Rattle.p4_meaning.specs.Store.{Store, blank}
use Rattle.p4_meaning.specs.Value.{value_of}
use Rattle.p4_meaning.specs.Statements.{Go, Run, Ended, Tested, Calls}
use Rattle.p4_meaning.specs.Choice.{Entry, choice_of}
use Rattle.p4_meaning.specs.Scope.{Scope, full_name}
use Rattle.p4_meaning.specs.Under.{expr_under, behind_top, behind_local, in_control}
use Rattle.p4_meaning.specs.Actions.{Action, action_named, params_of, args_of, act_if}

-- a key of a table: an expression, and the name of how it is matched
pub record Key : Type 0 where
  pub value : Expr
  pub kind : List ℕ

-- an action by its full name, and words for its parameters
pub record Chosen : Type 0 where
  pub action : List ℕ
  pub args : List Word

-- a table, whose names stand for what they name, with the default that is written, and whether it is `const`
pub record Table : Type 0 where
  pub name : List ℕ
  pub keys : List Key
  pub actions : List (List ℕ)
  pub default : Chosen
  pub fixed : Bool

abbrev pub key_under : Scope → Expr × List ℕ → Key
key_under sc k = record { value = expr_under sc k.0; kind = k.1 }

-- the default that is written, which is `NoAction` where none is. Its arguments hold numbers and constants alone
abbrev pub default_under : Scope → List Action → Option (List ℕ × List Expr) → Chosen
default_under sc as' None = record { action = codes "NoAction"; args = [] }
default_under sc as' (Some d) =
    record {
      action = full_name sc d.0;
      args = args_of (params_of (action_named as' (full_name sc d.0))) (map (expr_under sc) d.1) blank;
    }

abbrev pub table_under : Scope → List Action → tree.Table → Table
table_under sc as' t =
    record {
      name = full_name sc t.name;
      keys = map (key_under sc) t.keys;
      actions = map (full_name sc) t.actions;
      default = default_under sc as' t.default;
      fixed = t.fixed;
    }

-- the tables among a control's declarations
abbrev pub tables_in : Scope → List Action → List Local → List Table
tables_in sc as' [] = []
tables_in sc as' (local_table p t ∷ ls) = table_under sc as' t ∷ tables_in sc as' ls
tables_in sc as' (l ∷ ls) = tables_in (behind_local sc l) as' ls

-- the tables of a program with these actions, in the order of the text
abbrev pub tables_of : Scope → List Action → List Top → List Table
tables_of sc as' [] = []
tables_of sc as' (control p c ∷ ts) = tables_in (in_control 0 1 2 sc c) as' c.locals ++ tables_of sc as' ts
tables_of sc as' (t ∷ ts) = tables_of (behind_top sc t) as' ts

-- the table of a full name
abbrev pub table_named : List Table → List ℕ → Option Table
table_named [] x = None
table_named (t ∷ ts) x = if same_text t.name x then Some t else table_named ts x

-- some key is matched under a mask
abbrev pub has_ternary : List Key → Bool
has_ternary [] = false
has_ternary (k ∷ ks) = same_text k.kind (codes "ternary") || has_ternary ks

-- ---- what a switch keeps

-- what a table holds: its entries, and its default
pub record Entries : Type 0 where
  pub listed : List Entry
  pub default : Chosen

-- what each table holds, by its full name
abbrev pub Tables : Type 0
Tables = List ℕ → Entries

-- nothing is loaded: each table has the default that is written
abbrev pub tables_before : List Table → Tables
tables_before [] x = record { listed = []; default = record { action = codes "NoAction"; args = [] } }
tables_before (t ∷ ts) x = if same_text t.name x then record { listed = []; default = t.default } else tables_before ts x

-- ---- what calls do

-- the words of a table's keys, whose places give no width
abbrev pub key_words : List Key → Store → List Word
key_words ks s = map (λ k. value_of k.value 0 s) ks

-- how a test ends, where an action has run
abbrev pub test_behind : Ended → Bool → Tested
test_behind e hit = record { run = e.0; flow = e.1; hit = hit }

-- the action of the entry that is chosen runs, and that is a hit; with no choice the default, and that is a miss
abbrev pub chosen_runs : List Action → (default : Chosen) → Option Entry → Run → Tested
chosen_runs as' d None r = test_behind (act_if (action_named as' d.action) d.args r) false
chosen_runs as' d (Some e) r = test_behind (act_if (action_named as' e.action) e.args r) true

-- what the application of a table does; where there is none, nothing is done, and that is a miss
abbrev pub apply_if : List Action → Option Table → Entries → Run → Tested
apply_if as' None held r = record { run = r; flow = Go; hit = false }
apply_if as' (Some t) held r = chosen_runs as' held.default (choice_of (has_ternary t.keys) held.listed (key_words t.keys r.store)) r

-- what calls do in a program with these actions and tables, on what a switch keeps
abbrev pub calls_in : List Action → List Table → Tables → Calls
calls_in as' ts held =
    record {
      run_action = λ x es r. act_if (action_named as' x) (args_of (params_of (action_named as' x)) es r.store) r;
      apply_table = λ x r. apply_if as' (table_named ts x) (held x) r;
    }
