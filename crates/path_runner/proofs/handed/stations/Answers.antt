use Rattle.std.proofs.Common.{◌≡◌, ◌⊎◌, inl, inr, ◌++◌, length, map, ap, sym, ◌∙◌, append-nil}
use Rattle.std.proofs.lemmas.List.{length-map}
use Rattle.path_runner.specs.Switches.{switch_of}
use Rattle.path_runner.specs.Views.{station_in}
use Rattle.path_runner.proofs.Starting.{none_left}
use Rattle.path_runner.proofs.handed.stations.Goals as goal

pub returns : goal.returns
returns g c =
    let left = c.loop-switch.switch-iterator in
    let xs = map (switch_of g.P.Pass.program g.P.Pass.tables g.P.Pass.cells) left.a.rest.items in
    let ended : (length xs ≡ 0) ⊎ (length left.b.rest.items ≡ 0) =
    elim c.in-None.ensures.steps [
      | inl h ↦ inl (length-map left.a.rest.items (switch_of g.P.Pass.program g.P.Pass.tables g.P.Pass.cells) ∙ sym left.a.rest.ok.0 ∙ h.1.0)
      | inr h ↦ inr (sym left.b.rest.ok.0 ∙ h.1.0)
    ] in
    let done = map station_in c.loop-switch.stations.items in
    sym (append-nil done) ∙ ap (λ (l : _). done ++ l) (sym (none_left xs left.b.rest.items c.loop-switch.invariant.made ended)) ∙ c.loop-switch.invariant.stands
