use Rattle.std.proofs.Common.{rules, ap, sym, ◌∙◌, arith, ◌+◌, ◌*◌}
use Rattle.std.specs.Prelude.{option_map}
use Rattle.json_values.proofs.AddressLemmas.{in_room, in_room_next, byte_stop, byte_more, byte_end}
use Rattle.json_values.proofs.address.address_value.Goals as goal

pub returns-in_err-byte : goal.returns-in_err-byte
returns-in_err-byte c = rw c.from_residual.ensures (sym (byte_stop c.args.form c.marks-marks.result c.loop-i.i c.loop-i.before c.loop-i.rest.now _ c.loop-i.invariant.1 (omega arith) c.in_err-byte.ensures.value))

pub overflow_mul-before : goal.overflow_mul-before
overflow_mul-before c =
    let room = in_room c.loop-i.i c.loop-i.before (omega (arith, c.marks-marks.ensures.few)) c.loop-i.invariant.2 in
    omega (arith, room)

pub overflow_add-before : goal.overflow_add-before
overflow_add-before c =
    let room = in_room c.loop-i.i c.loop-i.before (omega (arith, c.marks-marks.ensures.few)) c.loop-i.invariant.2 in
    omega (arith, room, c.in_ok-byte.ensures.small)

pub loop-i-preserved : goal.loop-i-preserved
loop-i-preserved c = (
  search rules,
  byte_more c.args.form c.marks-marks.result c.loop-i.i c.loop-i.before c.loop-i.rest.now _ c.loop-i.invariant.1 c.in_ok-byte.byte c.in_ok-byte.behind.now (omega arith) c.in_ok-byte.ensures.value,
  in_room_next c.loop-i.i c.loop-i.before c.in_ok-byte.byte c.loop-i.invariant.2 c.in_ok-byte.ensures.small,
)

pub overflow_add-result : goal.overflow_add-result
overflow_add-result c =
    let room = in_room c.loop-i.i c.loop-i.before (omega (arith, c.marks-marks.ensures.few)) c.loop-i.invariant.2 in
    omega (arith, room, c.in_ok-byte-2.ensures.small)

pub returns-in_err-byte-2 : goal.returns-in_err-byte-2
returns-in_err-byte-2 c =
    let end = byte_end c.args.form c.marks-marks.result c.loop-i.i c.loop-i.before c.loop-i.rest.now _ c.loop-i.invariant.1 (omega arith) in
    rw c.from_residual-in_err-byte-2.ensures (sym (rw c.as_bytes.ensures.value end ∙ ap (option_map (λ n. c.loop-i.before * 256 + n)) (sym c.in_err-byte-2.ensures.value)))

pub returns : goal.returns
returns c =
    let end = byte_end c.args.form c.marks-marks.result c.loop-i.i c.loop-i.before c.loop-i.rest.now _ c.loop-i.invariant.1 (omega arith) in
    sym (rw c.as_bytes.ensures.value end ∙ ap (option_map (λ n. c.loop-i.before * 256 + n)) (sym c.in_ok-byte-2.ensures.value))
