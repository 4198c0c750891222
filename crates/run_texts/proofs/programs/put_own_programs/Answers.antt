use Rattle.std.proofs.Common.{◌++◌, ◌∷◌, [], length, map, ap, ◌∙◌, arith}
use Rattle.std.proofs.lemmas.List.Elements.{All-rest}
use Rattle.job_course.specs.Output.{files_of}
use Rattle.p4_tree.specs.View.{program_of}
use Rattle.p4_printer.specs.CanSpell.{CanSpell}
use Rattle.run_texts.specs.Programs.{program_file}
use Rattle.run_texts.proofs.Lines.{program_step}
use Rattle.run_texts.proofs.programs.put_own_programs.Goals as goal

pub loop-program-preserved : goal.loop-program-preserved
loop-program-preserved c =
    let l = c.loop-program in
    let out = c.args.out.now in
    let taken = c.in-Some.ensures.steps.0 in
    let written = c.in_ok-put_program.ensures ∙ ap (λ p. files_of l.files.items ++ program_file out c.name.result.now (program_of p) ∷ []) c.program.ensures.same in
    record {
      left = omega (arith, l.invariant.left, ap (λ ts. length ts) taken);
      spelled = All-rest (λ t. CanSpell (program_of t)) _ _ _ taken l.invariant.spelled;
      written = program_step out _ _ c.args.network.now.names l.switch _ c.name.result.now _ _ _ (ap (map program_of) taken) c.name.ensures l.invariant.written written;
    }
