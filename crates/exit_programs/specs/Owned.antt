-- What ingress and egress of a program use: variables of their own alone, and actions and tables of their own. Read
-- `Names` and `Calls` before it, and `Controls` and `WrittenActions` of `exit_statements`.
use Rattle.std.specs.Prelude.{◌≡◌, ℕ, List, [], Option, Some, None}
use Rattle.p4_tree.specs.Tree.{Control, Program}
use Rattle.p4_meaning.specs.Scope.{Scope}
use Rattle.p4_meaning.specs.Under.{no_scope, in_control}
use Rattle.p4_meaning.specs.Actions.{Action, actions_in, actions_of, action_named}
use Rattle.p4_meaning.specs.Tables.{Table, tables_in, tables_of, table_named}
use Rattle.p4_meaning.specs.Parts.{whole, scope_at_control, named_in, control_in, body_in}
use Rattle.exit_statements.specs.WrittenActions.{returned_in}
use Rattle.exit_statements.specs.Controls.{IsFreeControl, IsPlain}
use Rattle.exit_programs.specs.Programs.{flags}
use Rattle.p4_typing_laws.specs.Plain.{has_point}
use Rattle.exit_programs.specs.Calls.{FindStmts}

-- the actions of a program, and its tables
abbrev pub all_actions : Program → List Action
all_actions p = actions_of no_scope p.tops

abbrev pub all_tables : Program → List Table
all_tables p = tables_of no_scope (all_actions p) p.tops

-- the actions of a control, in front of which this scope stands
abbrev pub actions_own : Scope → Option Control → List Action
actions_own sc None = []
actions_own sc (Some c) = actions_in (in_control 0 1 2 sc c) c.locals

-- its tables, in a program with these actions
abbrev pub tables_own : Scope → List Action → Option Control → List Table
tables_own sc as' None = []
tables_own sc as' (Some c) = tables_in (in_control 0 1 2 sc c) as' c.locals

-- those of the control at a place of `main`
abbrev pub own_actions : Program → ℕ → List Action
own_actions p n = actions_own (scope_at_control no_scope p.tops (named_in p.main n)) (control_in p n)

abbrev pub own_tables : Program → ℕ → List Table
own_tables p n = tables_own (scope_at_control no_scope p.tops (named_in p.main n)) (all_actions p) (control_in p n)

-- ingress is the control at place 2 of `main`, and egress that at place 3
pub record OwnsWhatItUses (p : Program) (n : ℕ) : Type 0 where
  pub free : IsFreeControl flags (returned_in flags) has_point (own_actions p n) (own_tables p n) (body_in 0 1 2 p n)
  pub found : FindStmts (all_actions p) (own_actions p n) (all_tables p) (own_tables p n) (whole (body_in 0 1 2 p n))
  -- what is its own is the program's
  pub actions_within : (x : List ℕ) → action_named (all_actions p) x ≡ None → action_named (own_actions p n) x ≡ None
  pub tables_within : (x : List ℕ) (t : Table) → table_named (own_tables p n) x ≡ Some t → table_named (all_tables p) x ≡ Some t

-- compute checksum has no variable of an action, and nothing leaves it
abbrev pub ComputeIsPlain : Program → Type 0
ComputeIsPlain p = IsPlain flags has_point (whole (body_in 0 1 9 p 4))
