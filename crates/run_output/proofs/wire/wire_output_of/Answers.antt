use Rattle.std.proofs.Common.{◌≡◌, List, ℕ, ◌++◌, map, sym, ap, ap₂, ◌∙◌, arith}
use Rattle.std.proofs.lemmas.List.{length-map}
use Rattle.p4_tree.specs.View.{program_of}
use Rattle.network_run.specs.Network.{Sent}
use Rattle.job_course.specs.Output.{files_of}
use Rattle.path_runner.specs.Packets.{sent_of, told_of}
use Rattle.forward_texts.specs.Switches.{log_view}
use Rattle.path_runner.specs.Switches.{switch_of}
use Rattle.run_texts.specs.Told.{reports_lines}
use Rattle.run_texts.specs.Programs.{programs_files}
use Rattle.run_texts.proofs.Switches.{as_many}
use Rattle.run_output.specs.Wire.{frame_files}
use Rattle.run_output.specs.Views.{parts_view}
use Rattle.run_texts.proofs.Behind.{Files}
use Rattle.run_output.proofs.Written.{ended}
use Rattle.run_output.proofs.wire.wire_output_of.Goals as goal

pub put_programs-requires-clause-count : goal.put_programs-requires-clause-count
put_programs-requires-clause-count g c =
    let xs = c.args.log.now.switches.items in
    as_many (switch_of g.P.Pass.program g.P.Pass.tables g.P.Pass.cells) program_of xs c.args.parts.now.programs.now c.requires.end.programs ∙ sym (length-map xs (switch_of g.P.Pass.program g.P.Pass.tables g.P.Pass.cells)) ∙ c.requires.end.switches

pub summary-requires-clause-count : goal.summary-requires-clause-count
summary-requires-clause-count g c = sym (length-map c.args.log.now.switches.items (switch_of g.P.Pass.program g.P.Pass.tables g.P.Pass.cells)) ∙ c.requires.end.switches

pub summary-requires-clause-few : goal.summary-requires-clause-few
summary-requires-clause-few g c = omega (arith, length-map c.args.log.now.edges.items sent_of, c.requires.end.few)

pub returns : goal.returns
returns g c = λ p w shows.
    let log = c.args.log.now in
    let s = log_view g.P.Pass.program g.P.Pass.tables g.P.Pass.cells log in
    let x = parts_view c.args.parts.now in
    let out = c.args.out.now in
    let ns = log.net.names in
    let programs = c.in_ok-put_programs.ensures ∙ ap (λ fs. files_of fs ++ programs_files out x.programs ns) c.new-files.ensures.items in
    let edges : map sent_of c.deref.result.now ≡ w.edges = ap (map sent_of) c.deref.ensures.value ∙ sym shows.edges in
    let reports = c.in_ok-text.ensures ∙ ap (λ xs. reports_lines ns (map told_of xs)) c.deref-2.ensures.value ∙ ap (reports_lines ns) (sym shows.told) in
    let counts = c.as_str.ensures.value ∙ c.in_ok-counts.ensures w.switches shows.switches.kept ∙ ended x.programs x.packets p w s shows in
    record {
      files = c.in_ok-put_frames.ensures ∙ ap₂ (λ (fs : Files) (xs : List Sent). fs ++ frame_files out xs) programs edges;
      text = c.in_ok-push_str.ensures.bytes ∙ ap₂ (λ (a b : List ℕ). a ++ b) reports counts;
    }
