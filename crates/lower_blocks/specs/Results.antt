-- What the results of the program stand for. Read `View` and `Trees` before it.
use Rattle.std.specs.Prelude.{ℕ, List, map, Option, Some}
use Rattle.indus_tree.specs.Tree.{Property}
use Rattle.p4_tree.specs.View.{local_of, stmts_of, top_of}
use Rattle.control_tables.specs.declared.tables.ControlMap.{ControlMap}
use Rattle.whole_properties.specs.Whole.{Given}
use Rattle.lower_blocks.specs.Trees as trees
use Rattle.lower_blocks.specs.declared.lowered.Lowered.{Lowered}
use Rattle.lower_code.specs.declared.roots.Roots.{Roots}

-- a property, with the names of the two controls
abbrev pub given_of : Property → (ingress egress : Roots) → Given
given_of p r q = record { property = p; ingress = r.control; egress = q.control }

abbrev pub lowered_of : Lowered → trees.Lowered
lowered_of l =
    record {
      tops = map top_of l.tops.items;
      entry_locals = map local_of l.entry_locals.items;
      exit_locals = map local_of l.exit_locals.items;
      entry = stmts_of l.entry.items;
      exit = stmts_of l.exit.items;
    }

-- the rows of a map: control, table, and the number of the variable
abbrev pub rows_of : ControlMap → List (List ℕ × (List ℕ × Option ℕ))
rows_of m = map (λ t. (t.0, (t.1, Some t.2))) m.tables.items
