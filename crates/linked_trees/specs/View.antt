-- What the values of the program stand for.
use Rattle.std.specs.Prelude.{map}
use Rattle.p4_tree.specs.View.{local_of, stmts_of, top_of}
use Rattle.linked_programs.specs.Lowered.{Lowered}
use Rattle.linked_programs.specs.Linked as linked
use Rattle.linked_trees.specs.declared.declarations.Parts.{Parts}
use Rattle.linked_trees.specs.declared.controls.Place.{Place}
use Rattle.linked_trees.specs.declared.controls.Place.TheVariants as code

-- a monitor's parts
abbrev pub lowered_of : Parts → Lowered
lowered_of p =
    record {
      mark = p.mark;
      tops = map top_of p.tops.items;
      entry_locals = map local_of p.entry_locals.items;
      exit_locals = map local_of p.exit_locals.items;
      entry = stmts_of p.entry.items;
      exit = stmts_of p.exit.items;
    }

-- where a control stands in `main`
abbrev pub place_of : Place → linked.Place
place_of code.Ingress = linked.is_ingress
place_of code.Egress = linked.is_egress
place_of code.Deparser = linked.is_deparser
place_of code.Other = linked.is_other
