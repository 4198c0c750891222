-- The trees that a whole property lowers to, for a linker: header type, registers, actions, tables, variables and
-- statements, by the names that the two controls give their parameters. Read `Whole` of `whole_properties` before it, and
-- `Tables` of `control_tables`.
use Rattle.std.specs.Prelude.{codes, ℕ, List, [], ◌∷◌, ◌++◌, map, false, Option, Some, None}
use Rattle.indus_tree.specs.Tree as indus
use Rattle.indus_tree.specs.Tree.{Decl, Property}
use Rattle.indus_tree.specs.Hops.{variable_number}
use Rattle.p4_tree.specs.Tree as p4
use Rattle.p4_tree.specs.Tree.{Stmt, Stmts, done, next, and_then, Local, local_action, local_table, local_var, Top, header_type, register}
use Rattle.p4_tree.specs.declared.statement.PTy.{PTy}
use Rattle.p4_tree.specs.declared.statement.PTy.TheVariants as type
use Rattle.p4_meaning.specs.Parsing.{Field}
use Rattle.p4_meaning.specs.Scope.{Roots}
use Rattle.monitor_laws.specs.Names.{last_name, rejected_name}
use Rattle.monitor_laws.specs.Trees.{only_if}
use Rattle.monitor_laws.specs.Telemetry.{mark_field}
use Rattle.monitor_laws.specs.Monitor.{flag_locals}
use Rattle.sensor_registers.specs.Registers.{register_of}
use Rattle.control_tables.specs.Tables.{action_of, table_of}
use Rattle.lookup_names.specs.Names.{table_name}
use Rattle.lookup_names.specs.Keys.{variable}
use Rattle.lowered_code.specs.Environment.{Environment}
use Rattle.lowered_code.specs.Statements.{Var, block_code, block_vars, block_lookups}
use Rattle.indus_tree.specs.declared.tree.DeclKind.{DeclKind}
use Rattle.indus_tree.specs.declared.tree.DeclKind.TheVariants.{Tele, Sensor, Header, Control}
use Rattle.whole_properties.specs.Whole.{Given, decls, init, tele, check, tele_first, check_first, fields}

-- what a linker takes
pub record Lowered : Type 0 where
  -- the telemetry's header type, and the sensors' registers
  pub tops : List Top
  -- variables, actions and tables of ingress and of egress, the flags among them
  pub entry_locals : List Local
  pub exit_locals : List Local
  pub entry : Stmts
  pub exit : Stmts

abbrev pub field_tree : Field → PTy × List ℕ
field_tree f = (type.Bit f.width, f.name)

abbrev pub register_tops : DeclKind → Decl → List Top
register_tops Tele d = []
register_tops Sensor d = register 0 (register_of d) ∷ []
register_tops Header d = []
register_tops Control d = []

abbrev pub registers_of : List Decl → List Top
registers_of [] = []
registers_of (d ∷ ds) = register_tops d.kind d ++ registers_of ds

abbrev pub var_tree : Var → Local
var_tree v = local_var 0 v.0 v.1 None

abbrev pub action_tree : ℕ × Decl → Local
action_tree l = local_action 0 (action_of l.0 (l.1).shape)

abbrev pub table_tree : ℕ × Decl → Local
table_tree l = local_table 0 (table_of l.0 (l.1).shape)

-- variables, then actions, then tables: each stands before its use
abbrev pub locals_for : List Var → List (ℕ × Decl) → List Local
locals_for vs ls = map var_tree vs ++ (map action_tree ls ++ map table_tree ls)

-- the tables of control variables: control, table and the variable's number
abbrev pub mapped : Property → (control : List ℕ) → List (ℕ × Decl) → List (List ℕ × (List ℕ × Option ℕ))
mapped p c ls = map (λ l. (c, (table_name l.0, variable_number p.decls (l.1).name))) ls

-- the checker at the last hop, which begins with nothing rejected
abbrev pub checks_of : Stmts → Stmt
checks_of ss = only_if (variable last_name) (next (p4.assign 0 (rejected_name ∷ []) (p4.flag 0 false)) ss)

module _ (g : Given) where
  abbrev pub entry_lookups : List (ℕ × Decl)
  entry_lookups = block_lookups (decls g) (init g) 0

  abbrev pub exit_lookups : List (ℕ × Decl)
  exit_lookups = block_lookups (decls g) (tele g) (tele_first g) ++ block_lookups (decls g) (check g) (check_first g)

  -- a, b: what stands around the two controls' code
  module _ (a b : Environment) where
    abbrev pub lowered_trees : Lowered
    lowered_trees =
        record {
          tops = header_type 0 (codes "hydra_tele_t") (map field_tree (mark_field ∷ fields g)) ∷ registers_of g.property.decls;
          entry_locals = locals_for (block_vars (decls g) (init g) 0) entry_lookups;
          exit_locals = locals_for (flag_locals ++ (block_vars (decls g) (tele g) (tele_first g) ++ block_vars (decls g) (check g) (check_first g))) exit_lookups;
          entry = block_code a (decls g) (init g) 0;
          exit = and_then (block_code b (decls g) (tele g) (tele_first g)) (next (checks_of (block_code b (decls g) (check g) (check_first g))) done);
        }
