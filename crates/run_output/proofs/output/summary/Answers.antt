use Rattle.std.proofs.Common.{◌≡◌, map, refl, sym, ap, ◌∙◌, subst}
use Rattle.std.proofs.lemmas.List.{length-map}
use Rattle.bit_values.specs.Bits.{cast}
use Rattle.path_runner.specs.Packets.{sent_of, told_of}
use Rattle.forward_texts.specs.Switches.{KeepAll, log_view}
use Rattle.path_runner.specs.Switches.{switch_of}
use Rattle.run_texts.specs.Registers.{programs_in}
use Rattle.run_texts.specs.Told.{reports_in}
use Rattle.run_output.specs.Views.{parts_view}
use Rattle.run_output.proofs.Written.{summary_is}
use Rattle.run_output.proofs.output.summary.Goals as goal

pub rejected-requires-clause-programs : goal.rejected-requires-clause-programs
rejected-requires-clause-programs g c =
    subst (λ xs. programs_in (map (switch_of g.P.Pass.program g.P.Pass.tables g.P.Pass.cells) xs) ≡ (parts_view c.args.parts.now).programs) (sym c.deref.ensures.value) c.requires.programs

pub returns : goal.returns
returns g c = λ keeps are.
    let log = c.args.log.now in
    let kept = subst (λ xs. KeepAll keeps (map (switch_of g.P.Pass.program g.P.Pass.tables g.P.Pass.cells) xs)) (sym c.deref.ensures.value) are in
    c.in_ok-text.ensures
    ∙ summary_is c.args.parts.now.packets _ _ _ _ _ _ (log_view g.P.Pass.program g.P.Pass.tables g.P.Pass.cells log).traffic
    (c.len-sent.ensures ∙ c.args.log.now.edges.ok.0 ∙ sym (length-map log.edges.items sent_of))
    (ap (cast 32) (c.in_ok-all.ensures keeps kept))
    c.saturating_sub-dropped.ensures
    refl
    (c.reports-reports.ensures ∙ ap (λ xs. reports_in (map told_of xs)) c.deref-2.ensures.value)
