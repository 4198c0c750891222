use Rattle.std.proofs.Common.{List, ℕ, ◌++◌, ◌∷◌, [], codes, ap, ◌∙◌}
use Rattle.job_course.specs.Output.{files_of}
use Rattle.run_texts.proofs.linked.put_tables.Goals as goal

pub returns : goal.returns
returns c =
    let out = c.args.out.now in
    c.in_ok-put_text.ensures ∙ ap (λ t. files_of c.args.files.now.items ++ (out ++ codes ".tables.txt", t) ∷ []) c.in_ok-tables.ensures
