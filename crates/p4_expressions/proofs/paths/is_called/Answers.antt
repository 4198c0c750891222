use Rattle.std.proofs.Common.{length, ◌-◌, refl, arith}
use Rattle.std.proofs.lemmas.Option.{slice_get_read}
use Rattle.p4_expressions.proofs.LastNames.{called_is}
use Rattle.p4_expressions.proofs.paths.is_called.Goals as goal

pub returns-in-Some : goal.returns-in-Some
returns-in-Some c =
    let xs = c.args.names.now in
    let x = c.in-Some.last.now in
    let last = slice_get_read xs (length xs) (length xs - 1) x refl (omega arith) c.in-Some.ensures.lookup.1 in
    called_is xs (length xs) x c.calls.result refl (omega arith) last c.calls.ensures
