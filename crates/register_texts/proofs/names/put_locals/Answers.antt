use Rattle.std.proofs.Common.{map, string_bytes, arith}
use Rattle.p4_types.specs.Numbers.{registers}
use Rattle.p4_types.proofs.Numbered.{locals_next}
use Rattle.register_texts.proofs.Named.{names_more}
use Rattle.register_texts.proofs.names.put_locals.Goals as goal

pub loop-local-preserved : goal.loop-local-preserved
loop-local-preserved c =
    names_more (map string_bytes c.args.found.now.items) _ _ _ _ _ c.loop-local.invariant c.in_ok-put_local.ensures
    (locals_next registers c.args.control.now c.args.locals.now c.loop-local.local-index c.local-item.result (omega arith) c.local-item.is)
