-- What a run at its end stands for.
use Rattle.std.specs.Prelude.{map}
use Rattle.indus_tree.specs.View.{decl_of}
use Rattle.p4_tree.specs.View.{program_of}
use Rattle.run_captures.specs.Views.{time_view}
use Rattle.run_output.specs.Ends.{Parts}
use Rattle.linked_run.specs.declared.to_end.Finished.{Finished}

-- what was run
abbrev pub parts_in : {P : Type 0} → Finished P → Parts
parts_in f =
    record {
      programs = map program_of f.programs.items;
      rows = f.map.tables.items;
      decls = map decl_of f.property.decls.items;
      times = map time_view f.times.items;
      packets = f.packets;
    }
