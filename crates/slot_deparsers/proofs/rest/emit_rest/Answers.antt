use Rattle.std.proofs.Common.{◌≡◌, ◌<◌, ◌+◌, ◌-◌, length, take, ap, sym, ◌∙◌, arith}
use Rattle.std.proofs.lemmas.Bool.Decides.{nat_tests}
use Rattle.bit_values.specs.Bytes.{bits_of}
use Rattle.bit_writer.specs.Bytes.{bytes_of}
use Rattle.slot_deparsers.proofs.RestLemmas.{are_bytes, none_behind, rest_written, whole_bytes}
use Rattle.slot_deparsers.proofs.rest.emit_rest.Goals as goal

pub returns-then-is_empty-clause-bytes : goal.returns-then-is_empty-clause-bytes
returns-then-is_empty-clause-bytes c =
    let none : length c.args.rest.now ≡ 0 = grind (arith, nat_tests, c.if-is_empty.true, c.is_empty.ensures) in
    whole_bytes c.args.buffer.now c.args.at (are_bytes c.args.buffer.now c.type_inv.buffer)
    ∙ ap bytes_of (sym (none_behind (take c.args.at (bits_of c.args.buffer.now)) c.args.rest.now c.args.skip none))

pub returns-clause-bytes : goal.returns-clause-bytes
returns-clause-bytes c =
    let some : 0 < length c.args.rest.now = grind (arith, nat_tests, c.if-is_empty.false, c.is_empty.ensures) in
    let written = rest_written (take c.args.at (bits_of c.args.buffer.now)) (take (c.args.at + (8 - c.args.skip)) (bits_of c.write_number.new.buffer)) (take c.emit_bytes.result (bits_of c.emit_bytes.new.buffer)) c.args.rest.now c.args.skip
    c.requires.few some c.write_number.ensures.grown c.emit_bytes.ensures.grown in
    whole_bytes c.emit_bytes.new.buffer c.emit_bytes.result (are_bytes c.emit_bytes.new.buffer c.type_inv.buffer) ∙ ap bytes_of written
