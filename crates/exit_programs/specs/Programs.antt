-- Programs of the same meaning without `exit` and `return`. Read `Without` and `Actions` of `exit_statements` before it, and
-- `Parts` of the meaning.
use Rattle.std.specs.Prelude.{codes, ℕ, List, ◌∷◌, map, Bool, true, false, ◌||◌, if◌then◌else◌, Some}
use Rattle.std.specs.List.{list_any}
use Rattle.p4_tree.specs.Tree.{flag, Action, Local, local_action, local_table, local_register, local_const, local_var, Control, Top, constant, typedef, header_type, struct_type, register, parser, control, Program}
use Rattle.p4_tree.specs.declared.statement.PTy.TheVariants as type
use Rattle.p4_meaning.specs.Scope.{is_among, full, own_names}
use Rattle.p4_meaning.specs.Under.{no_scope}
use Rattle.p4_meaning.specs.Actions.{actions_of}
use Rattle.p4_meaning.specs.Tables.{tables_of}
use Rattle.exit_statements.specs.Without.{in_control, Flags, Exits, stmts_leave, stmts_without}
use Rattle.exit_statements.specs.Actions.{body_without, stmts_exit, exits_of}

-- the flags, as they are written
abbrev pub flags : Flags
flags = record { left = codes "hydra_x_left"; returned = codes "hydra_x_returned" }

-- ---- what may exit

-- the actions and tables of a program that may exit, by their full names
abbrev pub exits_in : Program → Exits
exits_in p = exits_of (actions_of no_scope p.tops) (tables_of no_scope (actions_of no_scope p.tops) p.tops)

-- the full name of what a control declares, and else the name
abbrev pub name_in : Control → List ℕ → List ℕ
name_in c x = if is_among (own_names c.locals) x then full c.name x else x

-- the same by the names that are written in a control
abbrev pub exits_at : Exits → Control → Exits
exits_at m c = record { action = λ x. m.action (name_in c x); table = λ t. m.table (name_in c t) }

-- ---- without exits

abbrev pub action_without : Action → Action
action_without a = record a { body = body_without flags a.body }

abbrev pub local_without : Local → Local
local_without (local_action p a) = local_action p (action_without a)
local_without (local_table p t) = local_table p t
local_without (local_register p r) = local_register p r
local_without (local_const p ty x e) = local_const p ty x e
local_without (local_var p ty x e) = local_var p ty x e

-- an action that may exit
abbrev pub local_exits : Local → Bool
local_exits (local_action p a) = stmts_exit a.body
local_exits _ = false

-- something in a control may end it
abbrev pub control_leaves : Exits → Control → Bool
control_leaves m c = stmts_leave (exits_at m c) c.apply || list_any local_exits c.locals

-- the flag, declared and not set, before other declarations
abbrev pub with_flag : Bool → List Local → List Local
with_flag true ls = local_var 0 type.Bool flags.left (Some (flag 0 false)) ∷ ls
with_flag false ls = ls

abbrev pub control_without : Exits → Control → Control
control_without m c =
    record c { locals = with_flag (control_leaves m c) (map local_without c.locals); apply = stmts_without flags (exits_at m c) in_control false c.apply }

abbrev pub top_without : Exits → Top → Top
top_without m (constant p ty x e) = constant p ty x e
top_without m (typedef p ty x) = typedef p ty x
top_without m (header_type p x fs) = header_type p x fs
top_without m (struct_type p x fs) = struct_type p x fs
top_without m (register p r) = register p r
top_without m (parser p d) = parser p d
top_without m (control p c) = control p (control_without m c)

abbrev pub program_without : Program → Program
program_without p = record p { tops = map (top_without (exits_in p)) p.tops }
