use Rattle.std.proofs.Common.{◌++◌, ◌∷◌, [], map, codes, ap, ◌∙◌}
use Rattle.job_course.specs.Output.{files_of}
use Rattle.path_runner.specs.Packets.{told_of}
use Rattle.run_texts.specs.Told.{digests_lines, reports_lines}
use Rattle.run_texts.proofs.Behind.{then_more}
use Rattle.run_output.proofs.output.put_told.Goals as goal

pub returns : goal.returns
returns g c =
    let out = c.args.out.now in
    let ns = c.args.log.now.net.names in
    let reports = c.in_ok-reports.ensures ∙ ap (λ xs. reports_lines ns (map told_of xs)) c.deref.ensures.value in
    let digests = c.in_ok-digests.ensures ∙ ap (λ xs. digests_lines ns (map told_of xs)) c.deref-2.ensures.value in
    then_more _ _ _ _ _
    (c.in_ok-put_text.ensures ∙ ap (λ t. files_of c.args.files.now.items ++ (out ++ codes ".reports.txt", t) ∷ []) reports)
    (c.in_ok-put_text-2.ensures ∙ ap (λ t. files_of c.put_text.new.files.items ++ (out ++ codes ".digests.txt", t) ∷ []) digests)
