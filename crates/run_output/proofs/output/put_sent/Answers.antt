use Rattle.std.proofs.Common.{◌++◌, map, codes, ap, ◌∙◌}
use Rattle.job_course.specs.Output.{files_of}
use Rattle.path_runner.specs.Packets.{sent_of}
use Rattle.run_captures.specs.Views.{time_view}
use Rattle.run_texts.specs.Files.{sent_files}
use Rattle.run_texts.proofs.Behind.{then_more}
use Rattle.run_output.proofs.Written.{short_items}
use Rattle.run_output.proofs.output.put_sent.Goals as goal

pub put_captures-requires : goal.put_captures-requires
put_captures-requires g c = rw c.deref.ensures.value (short_items sent_of c.args.log.now.wires.items c.requires.wires)

pub put_captures-requires-2 : goal.put_captures-requires-2
put_captures-requires-2 g c = rw c.deref-2.ensures.value (short_items sent_of c.args.log.now.edges.items c.requires.edges)

pub returns : goal.returns
returns g c =
    let out = c.args.out.now in
    let ts = map time_view c.args.parts.now.times.now in
    let ns = c.args.log.now.net.names in
    then_more _ _ _ _ _
    (c.in_ok-put_captures.ensures ∙ ap (λ xs. files_of c.args.files.now.items ++ sent_files out (codes "wire") ts (map sent_of xs) ns) c.deref.ensures.value)
    (c.in_ok-put_captures-2.ensures ∙ ap (λ xs. files_of c.put_captures.new.files.items ++ sent_files out (codes "out") ts (map sent_of xs) ns) c.deref-2.ensures.value)
