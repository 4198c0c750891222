use Rattle.std.proofs.Common.{◌≡◌, length, sym, subst}
use Rattle.indus_tree.specs.View.{property_of}
use Rattle.p4_tree.specs.View.{program_of}
use Rattle.job_course.specs.Output.{out_of}
use Rattle.run_texts.specs.Files.{linked_files}
use Rattle.lower_blocks.specs.Results.{rows_of}
use Rattle.program_linker.specs.Simpler.{AreSimplyLinked}
use Rattle.linked_jobs.specs.Views.{programs_in, rows_in}
use Rattle.run_job.specs.Views.{base_of}
use Rattle.link_run.specs.Headline.{LinkHeadline}
use Rattle.link_run.specs.Output.{linked_line, names_of}
use Rattle.link_run.proofs.Linked.{if_both, counted, headline}
use Rattle.link_run.proofs.output.write_linked.Goals as goal

pub linked_output-requires-clause-count : goal.linked_output-requires-clause-count
linked_output-requires-clause-count g c =
    let b = c.args.base in
    let new = c.in_ok-linked.linked in
    let f = program_of b.site.program in
    let p = property_of b.site.property in
    let are = subst (λ m. AreSimplyLinked f p b.site.network (programs_in new) (rows_of m)) (sym c.in_ok-linked.ensures.map) (c.in_ok-linked.ensures.linked f p b.site.network c.requires.linked) in
    counted (programs_in new) (rows_in new) (base_of b) c.requires.few are

pub linked_output-requires-clause-spelled : goal.linked_output-requires-clause-spelled
linked_output-requires-clause-spelled g c = c.in_ok-linked.ensures.spelled c.requires.spelled

pub returns : goal.returns
returns g c =
    let b = c.args.base in
    let out = c.args.out.now in
    let new = c.in_ok-linked.linked in
    let f = program_of b.site.program in
    let p = property_of b.site.property in
    let are = subst (λ m. AreSimplyLinked f p b.site.network (programs_in new) (rows_of m)) (sym c.in_ok-linked.ensures.map) (c.in_ok-linked.ensures.linked f p b.site.network c.requires.linked) in
    if_both (λ o. (out_of o).files ≡ linked_files out (programs_in new) (rows_in new) p.decls (names_of (base_of b))) (λ o. (out_of o).text ≡ linked_line (length (names_of (base_of b))))
    (λ o. LinkHeadline (base_of b) out (out_of o)) c.linked_output.result
    (λ o files text. headline (programs_in new) (rows_in new) (base_of b) c.requires.few are c.linked_programs_keep_the_claims.ensures c.requires.names out (out_of o) files text)
    c.linked_output.ensures.files c.linked_output.ensures.text
