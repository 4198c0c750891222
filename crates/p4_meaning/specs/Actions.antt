-- The actions of a program, by their full names. Read `Under` before it and `Tables` after it.
use Rattle.std.specs.Prelude.{ℕ, List, [], ◌∷◌, ◌++◌, map, Option, Some, None, if◌then◌else◌}
use Rattle.bit_values.specs.Bits.{Word, word}
use Rattle.bit_values.specs.Widths.{sound_width, cast_word}
use Rattle.lex_text.specs.Names.{same_text}
use Rattle.p4_tree.specs.Tree as tree
use Rattle.p4_tree.specs.Tree.{Expr, Stmts, Local, local_action, Control, Top, control}
use Rattle.p4_tree.specs.declared.statement.PTy.{PTy}
use Rattle.p4_meaning.specs.Store.{Store, set_value}
use Rattle.p4_meaning.specs.Value.{value_of, width_of}
use Rattle.p4_meaning.specs.Statements.{Flow, Go, Return, Exit, Run, Ended, in_store, no_calls, meaning_of}
use Rattle.p4_meaning.specs.Scope.{Scope, full_name, first_name, type_under, names_in}
use Rattle.p4_meaning.specs.Under.{stmts_under, behind_top, behind_local, in_control}

-- a parameter of an action: its full name and its bits
pub record Param : Type 0 where
  pub name : List ℕ
  pub width : ℕ

-- an action, whose names stand for what they name
pub record Action : Type 0 where
  pub name : List ℕ
  pub params : List Param
  pub body : Stmts

-- the names of an action's parameters
abbrev pub params_in : List (PTy × List ℕ) → List (List ℕ)
params_in ps = map (λ p. p.1) ps

-- in an action: its own names stand apart from its control's
abbrev pub in_action : Scope → tree.Action → Scope
in_action sc a = record sc { inner = Some (record { action = a.name; names = params_in a.params ++ names_in a.body }) }

abbrev pub param_under : Scope → PTy × List ℕ → Param
param_under sc p = record { name = first_name sc p.1; width = width_of (type_under sc.types p.0) }

abbrev pub action_under : Scope → tree.Action → Action
action_under sc a =
    record {
      name = full_name sc a.name;
      params = map (param_under (in_action sc a)) a.params;
      body = stmts_under (in_action sc a) a.body;
    }

-- the actions among a control's declarations
abbrev pub actions_in : Scope → List Local → List Action
actions_in sc [] = []
actions_in sc (local_action p a ∷ ls) = action_under sc a ∷ actions_in sc ls
actions_in sc (l ∷ ls) = actions_in (behind_local sc l) ls

-- the actions of a program, in the order of the text
abbrev pub actions_of : Scope → List Top → List Action
actions_of sc [] = []
actions_of sc (control p c ∷ ts) = actions_in (in_control 0 1 2 sc c) c.locals ++ actions_of sc ts
actions_of sc (t ∷ ts) = actions_of (behind_top sc t) ts

-- the action of a full name
abbrev pub action_named : List Action → List ℕ → Option Action
action_named [] x = None
action_named (a ∷ as') x = if same_text a.name x then Some a else action_named as' x

-- the parameters of the action of a full name
abbrev pub params_of : Option Action → List Param
params_of None = []
params_of (Some a) = a.params

-- the words of arguments, each taken at the width of its parameter
abbrev pub args_of : List Param → List Expr → Store → List Word
args_of [] es s = []
args_of (p ∷ ps) [] s = []
args_of (p ∷ ps) (e ∷ es) s = value_of e p.width s ∷ args_of ps es s

-- the parameters have these words, each cut or widened to its width; where a word is wanting, it is 0
abbrev pub bound : List Param → List Word → Store → Store
bound [] ws s = s
bound (p ∷ ps) [] s = bound ps [] (set_value s (p.name ∷ []) (word (sound_width p.width) 0))
bound (p ∷ ps) (w ∷ ws) s = bound ps ws (set_value s (p.name ∷ []) (cast_word (sound_width p.width) w))

-- `return` ends the action that it stands in, and what called it goes on
abbrev pub flow_behind : Flow → Flow
flow_behind Go = Go
flow_behind Return = Go
flow_behind Exit = Exit

-- an action on words for its parameters. In it no action is called and no table applied
abbrev pub act : Action → List Word → Run → Ended
act a ws r = (let e = meaning_of no_calls a.body (in_store r (bound a.params ws r.store)) in (e.0, flow_behind e.1))

-- what the action of a full name does; where there is none, as for `NoAction`, nothing is done
abbrev pub act_if : Option Action → List Word → Run → Ended
act_if None ws r = (r, Go)
act_if (Some a) ws r = act a ws r
