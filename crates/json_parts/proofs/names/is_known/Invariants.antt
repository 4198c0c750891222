use Rattle.std.proofs.Common.{◌≡◌, drop}
use Rattle.json_parts.specs.Views.{texts}
use Rattle.json_parts.specs.Object.{is_known}
use Rattle.json_parts.proofs.names.is_known.Given as goal

abbrev pub invariant-loop-name : goal.invariant-loop-name
invariant-loop-name l = is_known (texts (drop l.name-index l.names)) l.key ≡ is_known (texts l.names) l.key
