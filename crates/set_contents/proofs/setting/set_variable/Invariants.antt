use Rattle.std.proofs.Common.{◌≡◌}
use Rattle.p4_meaning.specs.Parts.{parts_of}
use Rattle.indus_values.specs.View.{contents_of}
use Rattle.control_maps.specs.Steps.{AreFilled}
use Rattle.set_contents.specs.Maps.{map_of}
use Rattle.set_contents.specs.Others.{OthersHold}
use Rattle.set_contents.proofs.setting.set_variable.Given as goal

-- all tables of the variable were emptied, and those among the first given the contents
abbrev pub invariant-loop-item : goal.invariant-loop-item
invariant-loop-item g l = record {
  program : g.P.Pass.program l.switch ≡ g.P.Pass.program l.fn.switch;
  cells : g.P.Pass.cells l.switch ≡ g.P.Pass.cells l.fn.switch;
  filled : AreFilled (parts_of (g.P.Pass.program l.fn.switch)) (map_of l.map) l.variable (contents_of l.contents) (g.P.Pass.tables l.fn.switch) (g.P.Pass.tables l.switch) l.item-index;
  others : OthersHold (map_of l.map) l.variable (g.P.Pass.tables l.fn.switch) (g.P.Pass.tables l.switch);
}
