use Rattle.std.proofs.Common.{◌≡◌, List, ℕ, ◌++◌, ◌∷◌, [], length, map, codes, sym, ap, ap₂, ◌∙◌, subst, arith}
use Rattle.std.proofs.lemmas.List.{length-map}
use Rattle.p4_tree.specs.View.{program_of}
use Rattle.job_course.specs.Output.{files_of}
use Rattle.path_runner.specs.Packets.{sent_of}
use Rattle.forward_texts.specs.Switches.{KeepAll, log_view}
use Rattle.path_runner.specs.Switches.{switch_of}
use Rattle.run_texts.specs.Files.{linked_files, sent_files}
use Rattle.run_texts.specs.Registers.{programs_in}
use Rattle.run_texts.specs.Told.{digests_lines, reports_lines}
use Rattle.run_texts.proofs.Behind.{Files}
use Rattle.run_texts.proofs.Switches.{as_many}
use Rattle.run_output.specs.Views.{parts_view}
use Rattle.run_output.proofs.Written.{all_files, ended}
use Rattle.run_output.proofs.output.output_of.Goals as goal

pub put_linked-requires-clause-count : goal.put_linked-requires-clause-count
put_linked-requires-clause-count g c =
    let xs = c.args.log.now.switches.items in
    as_many (switch_of g.P.Pass.program g.P.Pass.tables g.P.Pass.cells) program_of xs c.args.parts.now.programs.now c.requires.end.programs ∙ sym (length-map xs (switch_of g.P.Pass.program g.P.Pass.tables g.P.Pass.cells)) ∙ c.requires.end.switches

pub registers_text-requires-clause-count : goal.registers_text-requires-clause-count
registers_text-requires-clause-count g c =
    ap (λ xs. length xs) c.deref.ensures.value ∙ sym (length-map c.args.log.now.switches.items (switch_of g.P.Pass.program g.P.Pass.tables g.P.Pass.cells)) ∙ c.requires.end.switches

pub registers_text-requires-clause-programs : goal.registers_text-requires-clause-programs
registers_text-requires-clause-programs g c =
    subst (λ xs. programs_in (map (switch_of g.P.Pass.program g.P.Pass.tables g.P.Pass.cells) xs) ≡ (parts_view c.args.parts.now).programs) (sym c.deref.ensures.value) c.requires.end.programs

pub summary-requires-clause-count : goal.summary-requires-clause-count
summary-requires-clause-count g c = sym (length-map c.args.log.now.switches.items (switch_of g.P.Pass.program g.P.Pass.tables g.P.Pass.cells)) ∙ c.requires.end.switches

pub summary-requires-clause-few : goal.summary-requires-clause-few
summary-requires-clause-few g c = omega (arith, length-map c.args.log.now.edges.items sent_of, c.requires.end.few)

pub returns : goal.returns
returns g c = λ p w shows.
    let log = c.args.log.now in
    let s = log_view g.P.Pass.program g.P.Pass.tables g.P.Pass.cells log in
    let x = parts_view c.args.parts.now in
    let out = c.args.out.now in
    let ns = log.net.names in
    let linked = c.in_ok-put_linked.ensures ∙ ap (λ fs. files_of fs ++ linked_files out x.programs x.rows x.decls ns) c.new-files.ensures.items in
    let sent = c.in_ok-put_sent.ensures ∙ ap₂ (λ wires edges. files_of c.put_linked.new.files.items ++ (sent_files out (codes "wire") x.times wires ns ++ sent_files out (codes "out") x.times edges ns)) (sym shows.wires) (sym shows.edges) in
    let told = c.in_ok-put_told.ensures
    ∙ ap (λ ts. files_of c.put_sent.new.files.items ++ (out ++ codes ".reports.txt", reports_lines ns ts) ∷ (out ++ codes ".digests.txt", digests_lines ns ts) ∷ []) (sym shows.told) in
    let kept = subst (λ xs. KeepAll w.switches (map (switch_of g.P.Pass.program g.P.Pass.tables g.P.Pass.cells) xs)) (sym c.deref.ensures.value) shows.switches.kept in
    let registers = c.in_ok-registers.ensures w.switches kept in
    let text = c.in_ok-text.ensures w.switches shows.switches.kept ∙ ended x.programs x.packets p w s shows in
    let copy = c.in_ok-copy.ensures.ok ∙ c.as_str.ensures.value ∙ text in
    let file : List ℕ → List ℕ → Files = λ ending bytes. (out ++ ending, bytes) ∷ [] in
    record {
      files = all_files _ _ _ _ _ _ _ _ _ _ _ linked sent told
          (c.in_ok-put_text.ensures ∙ ap (λ t. files_of c.put_told.new.files.items ++ file (codes ".registers.txt") t) registers)
          (c.in_ok-put_text-2.ensures ∙ ap (λ t. files_of c.put_text.new.files.items ++ file (codes ".summary.txt") t) copy);
      text = text;
    }
