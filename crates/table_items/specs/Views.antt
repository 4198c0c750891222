-- Values of the program without where they lie in memory.
use Rattle.std.specs.Prelude.{List, map}
use Rattle.std.proofs.Common.{Vec, Global}
use Rattle.indus_tree.specs.State.{Contents}
use Rattle.indus_values.specs.View.{contents_of}
use Rattle.indus_values.specs.declared.state.ControlValue.{ControlValue}

-- the contents of the control variables of a switch
abbrev pub contents_view : Vec ControlValue Global → List Contents
contents_view v = map contents_of v.items
