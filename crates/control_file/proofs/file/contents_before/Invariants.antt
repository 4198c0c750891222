use Rattle.std.proofs.Common.{◌≡◌, map, take}
use Rattle.control_file.specs.Control.{all_unset}
use Rattle.control_file.specs.Views.{switches_view, decls_of}
use Rattle.control_file.proofs.file.contents_before.Given as goal

abbrev pub invariant-loop-i : goal.invariant-loop-i
invariant-loop-i l = switches_view l.held ≡ map (λ name. all_unset (decls_of l.property)) (take l.i l.network.names)
