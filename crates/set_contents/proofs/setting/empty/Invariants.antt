use Rattle.std.proofs.Common.{◌≡◌}
use Rattle.p4_meaning.specs.Parts.{parts_of}
use Rattle.control_maps.specs.Steps.{AreEmptied}
use Rattle.set_contents.specs.Maps.{map_of}
use Rattle.set_contents.specs.Others.{OthersHold}
use Rattle.set_contents.proofs.setting.empty.Given as goal

-- the tables of the variable among the first were emptied
abbrev pub invariant-loop-item : goal.invariant-loop-item
invariant-loop-item g l = record {
  program : g.P.Pass.program l.switch ≡ g.P.Pass.program l.initial.switch;
  cells : g.P.Pass.cells l.switch ≡ g.P.Pass.cells l.initial.switch;
  emptied : AreEmptied (parts_of (g.P.Pass.program l.initial.switch)) (map_of l.map) l.variable (g.P.Pass.tables l.initial.switch) (g.P.Pass.tables l.switch) l.item-index;
  others : OthersHold (map_of l.map) l.variable (g.P.Pass.tables l.initial.switch) (g.P.Pass.tables l.switch);
}
