use Rattle.std.proofs.Common.{◌≡◌, ◌++◌, take, string_bytes}
use Rattle.std.specs.List.{flat_map}
use Rattle.report_writer.specs.Texts.{value_text}
use Rattle.report_writer.proofs.texts.put_values.Given as goal

abbrev pub invariant-loop-v : goal.invariant-loop-v
invariant-loop-v l = string_bytes l.out ≡ string_bytes l.initial.out ++ flat_map value_text (take l.v-index l.values)
