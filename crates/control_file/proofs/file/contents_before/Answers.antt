use Rattle.std.proofs.Common.{sym, arith}
use Rattle.std.proofs.lemmas.List.{map_push}
use Rattle.control_file.specs.Control.{all_unset}
use Rattle.control_file.specs.Views.{decls_of, contents_view}
use Rattle.control_file.proofs.SeatLemmas.{const_more}
use Rattle.control_file.proofs.file.contents_before.Goals as goal

pub loop-i-preserved : goal.loop-i-preserved
loop-i-preserved c =
    rw (c.in_ok-push.ensures.items, map_push contents_view c.loop-i.held.items c.in_ok-all_unset.field-0, c.loop-i.invariant, c.in_ok-all_unset.ensures, c.deref.ensures.value, c.property.ensures.same)
    (sym (const_more (all_unset (decls_of c.args.property.now)) c.args.network.now.names c.loop-i.i (omega (arith, c.count-i-end.ensures.count))))
