use Rattle.std.proofs.Common.{◌≡◌, ◌∙◌, map, All, ap, subst, sym}
use Rattle.std.specs.Prelude.{slice_get}
use Rattle.std.proofs.lemmas.List.Elements.{All-rest, All-push}
use Rattle.p4_tree.specs.View.{program_of}
use Rattle.p4_tables.specs.Programs.{IsStateOf}
use Rattle.path_runner.specs.Nets.{Switch}
use Rattle.path_runner.specs.Switches.{switch_of}
use Rattle.forward_run.specs.Switches.{switch_before}
use Rattle.forward_run.proofs.Starting.{first_passes, one_made}
use Rattle.forward_run.proofs.run.switches.Goals as goal

pub one_more-requires-clause-runs : goal.one_more-requires-clause-runs
one_more-requires-clause-runs g c =
    first_passes (λ u. g.B.Unit.Pass.program u ≡ program_of c.args.program.now) c.loop-held.switches.items c.first.result (c.first.ensures.value ∙ ap (λ us. slice_get us 0) c.deref.ensures.value) c.loop-held.invariant.runs

pub loop-held-preserved : goal.loop-held-preserved
loop-held-preserved g c =
    let p = program_of c.args.program.now in
    let taken = c.in-Some.ensures.steps.0 in
    let runs : g.B.Unit.Pass.program c.in_ok-switch.switch ≡ p = ap (λ (x : Switch). x.program) c.in_ok-switch.ensures in
    record {
      fits = All-rest (IsStateOf p) _ _ _ taken c.loop-held.invariant.fits;
      runs = subst (All (λ u. g.B.Unit.Pass.program u ≡ p)) (sym c.in_ok-push.ensures.items) (All-push (λ u. g.B.Unit.Pass.program u ≡ p) _ _ c.loop-held.invariant.runs runs);
      stands = one_made (switch_of g.B.Unit.Pass.program g.B.Unit.Pass.tables g.B.Unit.Pass.cells) p _ _ c.in_ok-switch.switch c.in-Some.held _ _ (map (switch_before p) c.args.tables.items) taken c.in_ok-push.ensures.items c.in_ok-switch.ensures c.loop-held.invariant.stands;
    }
