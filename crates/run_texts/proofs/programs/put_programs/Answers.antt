use Rattle.std.proofs.Common.{◌≡◌, ◌++◌, ◌∷◌, [], map, sym, ap, ◌∙◌, subst, arith}
use Rattle.std.proofs.lemmas.List.{length-map}
use Rattle.p4_tree.specs.View.{program_of}
use Rattle.p4_printer.specs.CanSpell.{CanSpell}
use Rattle.job_course.specs.Output.{files_of}
use Rattle.register_texts.proofs.Rows.{view_at}
use Rattle.run_texts.specs.Programs.{program_file}
use Rattle.run_texts.proofs.Lines.{program_more, programs_end}
use Rattle.run_texts.proofs.programs.put_programs.Goals as goal

pub put_program-requires : goal.put_program-requires
put_program-requires c =
    let i = c.loop-switch.switch in
    let q = c.index-programs-switch.result in
    subst (λ t. CanSpell (program_of t)) (sym (c.program.ensures.same ∙ c.index-programs-switch.is)) (c.requires.spelled i q (omega arith))

pub loop-switch-preserved : goal.loop-switch-preserved
loop-switch-preserved c =
    let i = c.loop-switch.switch in
    let q = c.index-programs-switch.result in
    let qs = map program_of c.args.programs.now in
    let at = view_at program_of c.args.programs.now i q (omega arith) c.index-programs-switch.is in
    let written = c.in_ok-put_program.ensures ∙ ap (λ p. files_of c.loop-switch.files.items ++ program_file c.args.out.now c.name-name.result.now (program_of p) ∷ []) c.program.ensures.same in
    program_more c.args.out.now qs c.args.network.now.names i (program_of q) c.name-name.result.now _ _ _ at c.name-name.ensures c.loop-switch.invariant written

pub returns : goal.returns
returns c =
    let qs = map program_of c.args.programs.now in
    programs_end c.args.out.now qs c.args.network.now.names c.loop-switch.switch _ _ (omega (arith, length-map c.args.programs.now program_of, c.requires.count, c.count-switch-end.ensures.count)) c.loop-switch.invariant
