use Rattle.std.proofs.Common.{◌≡◌, map, drop}
use Rattle.table_shapes.specs.Shapes.{have_widths}
use Rattle.table_entries.proofs.index.have_key_widths.Given as goal

abbrev pub invariant-loop-i : goal.invariant-loop-i
invariant-loop-i l = have_widths (map (λ k. k.value) (drop l.i l.kinds)) (drop l.i l.keys) ≡ have_widths (map (λ k. k.value) l.kinds) l.keys
