use Rattle.std.proofs.Common.{List, ℕ, ◌++◌, ◌∷◌, [], map, codes, sym, ap, ◌∙◌, subst}
use Rattle.std.proofs.lemmas.List.{length-map}
use Rattle.p4_tree.specs.View.{program_of}
use Rattle.job_course.specs.Output.{files_of}
use Rattle.report_writer.specs.Texts.{reports_of, cells_of}
use Rattle.run_captures.specs.Captures.{Front, switches_files}
use Rattle.run_captures.specs.Views.{time_view}
use Rattle.path_runner.specs.Packets.{sent_of, told_of}
use Rattle.forward_texts.specs.Rows.{report_of, switches_cells}
use Rattle.forward_run.specs.Run.{run_of}
use Rattle.forward_texts.specs.Switches.{RunAll, KeepAll, log_view}
use Rattle.path_runner.specs.Switches.{switch_of}
use Rattle.forward_run.proofs.Written.{Files, three_more, short_items, captures_are, digests_are, cells_are, summary_is}
use Rattle.forward_run.proofs.output.output_of.Goals as goal

pub put_captures-requires : goal.put_captures-requires
put_captures-requires g c = rw c.deref.ensures.value (short_items sent_of c.args.log.now.edges.items c.requires.short)

pub registers_text-requires-clause-programs : goal.registers_text-requires-clause-programs
registers_text-requires-clause-programs g c =
    subst (λ xs. RunAll (program_of c.args.program.now) (map (switch_of g.P.Pass.program g.P.Pass.tables g.P.Pass.cells) xs)) (sym c.deref-3.ensures.value) c.requires.programs

pub returns : goal.returns
returns g c = λ j at_end by_program by_times by_packets.
    let log = c.args.log.now in
    let s = log_view g.P.Pass.program g.P.Pass.tables g.P.Pass.cells log in
    let w = run_of j in
    let out = c.args.out.now in
    let front : Front = record { out = out; kind = codes "out" } in
    let times = map time_view c.args.times.now in
    let captures = c.in_ok-put_captures.ensures
    ∙ ap (λ fs. files_of fs ++ switches_files front times (map sent_of c.deref.result.now) 0 log.net.names) c.new-files.ensures.items
    ∙ ap (λ xs. switches_files front times (map sent_of xs) 0 log.net.names) c.deref.ensures.value
    ∙ captures_are j s at_end front times by_times in
    let digests = c.in_ok-digests.ensures ∙ ap (λ xs. reports_of (map (report_of log.net.names) (map told_of xs))) c.deref-2.ensures.value ∙ digests_are j s at_end in
    let kept = subst (λ xs. KeepAll w.switches (map (switch_of g.P.Pass.program g.P.Pass.tables g.P.Pass.cells) xs)) (sym c.deref-3.ensures.value) at_end.shows.switches.kept in
    let registers = c.in_ok-registers.ensures w.switches kept ∙ ap (λ p. cells_of (switches_cells p w.switches 0 log.net.names)) (sym by_program) ∙ cells_are j s at_end in
    let text = c.in_ok-text.ensures ∙ summary_is j s at_end c.args.packets _ by_packets (sym (length-map log.edges.items sent_of)) in
    let copy = c.in_ok-copy.ensures.ok ∙ c.as_str.ensures.value ∙ text in
    let file : List ℕ → List ℕ → Files = λ ending bytes. (out ++ ending, bytes) ∷ [] in
    record {
      files = three_more _ _ _ _ _ _ _ _
          (c.in_ok-put_text.ensures ∙ ap (λ t. files_of c.put_captures.new.files.items ++ file (codes ".digests.txt") t) digests)
          (c.in_ok-put_text-2.ensures ∙ ap (λ t. files_of c.put_text.new.files.items ++ file (codes ".registers.txt") t) registers)
          (c.in_ok-put_text-3.ensures ∙ ap (λ t. files_of c.put_text-2.new.files.items ++ file (codes ".summary.txt") t) copy)
          captures;
      text = text;
    }
