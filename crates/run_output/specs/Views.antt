-- What the parts of a run stand for.
use Rattle.std.specs.Prelude.{map}
use Rattle.indus_tree.specs.View.{decl_of}
use Rattle.p4_tree.specs.View.{program_of}
use Rattle.run_captures.specs.Views.{time_view}
use Rattle.run_output.specs.Ends.{Parts}
use Rattle.run_output.specs.declared.output.RunParts.{RunParts}

abbrev pub parts_view : RunParts → Parts
parts_view x =
    record {
      programs = map program_of x.programs.now;
      rows = x.rows.now.tables.items;
      decls = map decl_of x.decls.now;
      times = map time_view x.times.now;
      packets = x.packets;
    }
