use Rattle.std.proofs.Common.{rules, ◌≡◌, ◌≤◌, ◌+◌, ◌-◌, ◌++◌, length, take, drop, arith, sym, length-append, length-drop}
use Rattle.std.proofs.KnownBytes.{Consumes-trans, Consumes-kept}
use Rattle.outside.proofs.TransferLemmas.{consumes_more}
use Rattle.outside.proofs.transfer.read_up_to.Goals as goal
use Rattle.outside.proofs.transfer.read_up_to.Goals.{in-Ok+in_ok-extend_from_slice-in-Ok+else-len-limit, in-Err+else-not-matches, then-left-lt4095, else-left-lt4095}

-- what was read before and what this read gave
pub returns-in_err-extend_from_slice-in-Ok-clause-taken :
    goal.returns-in_err-extend_from_slice-in-Ok-clause-taken
returns-in_err-extend_from_slice-in-Ok-clause-taken g c =
    let part = take c.in-Ok.n c.read.new.buf in
    let joined : length (c.loop.bytes.items ++ part) ≡ length c.loop.bytes.items + length part = length-append c.loop.bytes.items part in
    let short : length part ≡ c.in-Ok.n = sym c.in-Ok.ensures.bound.1 in
    let bound : c.in-Ok.n ≤ length c.read.new.buf = c.in-Ok.ensures.bound.0 in
    let wide : length c.read.new.buf ≡ c.if-left-lt4095.want = search rules in
    let want : c.if-left-lt4095.want + length c.loop.bytes.items ≤ c.args.limit + 1 = elim c.if-left-lt4095.branch [
      | then-left-lt4095 w ↦ search rules
      | else-left-lt4095 w ↦ search rules
    ] in
    (c.loop.bytes.items ++ part, omega arith, Consumes-trans _ _ _ _ _ c.loop.invariant.taken (search rules))

pub loop-preserved : goal.loop-preserved
loop-preserved g c =
    let rest = drop c.if-left-lt4095.want c.loop.buf in
    let wide : length c.read.new.buf ≡ c.if-left-lt4095.want = search rules in
    let want : c.if-left-lt4095.want ≤ 4096 = elim c.if-left-lt4095.branch [
      | then-left-lt4095 w ↦ search rules
      | else-left-lt4095 w ↦ search rules
    ] in
    let left : length rest ≡ length c.loop.buf - c.if-left-lt4095.want = length-drop c.if-left-lt4095.want c.loop.buf in
    let joined : length (c.read.new.buf ++ rest) ≡ length c.read.new.buf + length rest = length-append c.read.new.buf rest in
    let whole : length c.loop.buf ≡ 4096 = c.loop.invariant.room in
    let room : length (c.read.new.buf ++ rest) ≡ 4096 = omega arith in
    elim c.match-read.branch [
      | in-Ok+in_ok-extend_from_slice-in-Ok+else-len-limit w ↦ rw w.bytes-is (record {
        within = search rules;
        room = room;
        taken = consumes_more _ _ _ c.loop.bytes.items _ c.read.new.buf rest w.in-Ok.n w.in-Ok.ensures.bound.0 c.loop.invariant.taken (search rules) (search rules);
      })
      | in-Err+else-not-matches w ↦ rw w.bytes-is (record {
        within = c.loop.invariant.within;
        room = room;
        taken = Consumes-kept _ _ _ _ c.loop.invariant.taken (search rules);
      })
    ]
