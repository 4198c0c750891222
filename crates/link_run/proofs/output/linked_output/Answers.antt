use Rattle.std.proofs.Common.{◌++◌, map, sym, ap, ◌∙◌}
use Rattle.std.proofs.lemmas.List.{length-map}
use Rattle.indus_tree.specs.View.{decl_of}
use Rattle.p4_tree.specs.View.{program_of}
use Rattle.job_course.specs.Output.{files_of}
use Rattle.linked_jobs.specs.Views.{programs_in, rows_in}
use Rattle.run_texts.specs.Files.{linked_files}
use Rattle.link_run.specs.Output.{linked_line}
use Rattle.link_run.proofs.output.linked_output.Goals as goal

pub put_own_linked-requires-clause-count : goal.put_own_linked-requires-clause-count
put_own_linked-requires-clause-count c = sym (length-map c.args.linked.programs.items program_of) ∙ c.requires.count

pub returns-clause-files : goal.returns-clause-files
returns-clause-files c =
    let l = c.args.linked in
    let out = c.args.out.now in
    let names = c.args.network.now.names in
    let rows = rows_in l in
    c.in_ok-put_own_linked.ensures
    ∙ ap (λ ds. files_of c.new-files.result.items ++ linked_files out (programs_in l) rows (map decl_of ds) names) (c.deref.ensures.value ∙ ap (λ p. p.decls.items) c.property.ensures.same)
    ∙ ap (λ xs. files_of xs ++ linked_files out (programs_in l) rows (map decl_of c.args.property.now.decls.items) names) c.new-files.ensures.items

pub returns-clause-text : goal.returns-clause-text
returns-clause-text c = c.in_ok-text.ensures.ok ∙ ap linked_line c.count-count.ensures.count
