use Rattle.std.proofs.Common.{string_bytes, ap, ◌∙◌, ◌∷◌, [], arith}
use Rattle.path_runner.specs.Packets.{told_of}
use Rattle.forward_texts.specs.Rows.{report_of}
use Rattle.run_texts.specs.Told.{digests_lines, is_told_digest}
use Rattle.run_texts.proofs.Lines.{line_more}
use Rattle.run_texts.proofs.told.digests_text.Goals as goal

pub loop-x-preserved : goal.loop-x-preserved
loop-x-preserved c =
    let names = c.args.network.now.names in
    let line = c.as_str.ensures.value ∙ c.in_ok-line.ensures ∙ ap (λ t. digests_lines names (told_of t ∷ [])) c.x-item.is in
    c.in_ok-push_str.ensures.bytes
    ∙ line_more is_told_digest (report_of names) told_of (string_bytes c.loop-x.text) _ c.args.told.now c.loop-x.x-index c.x-item.result (omega arith) c.loop-x.invariant line
