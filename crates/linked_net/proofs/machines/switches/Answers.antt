use Rattle.std.proofs.Common.{◌≡◌, ◌⊎◌, inl, inr, List, ◌++◌, length, map, ap, sym, ◌∙◌, append-nil}
use Rattle.std.proofs.lemmas.List.{length-map}
use Rattle.p4_tree.specs.View.{program_of}
use Rattle.path_runner.specs.Nets.{Switch}
use Rattle.path_runner.specs.Switches.{switch_of}
use Rattle.linked_net.proofs.Switches.{none_left}
use Rattle.linked_net.proofs.machines.switches.Goals as goal

pub returns : goal.returns
returns g c =
    let left = c.loop-program.program-iterator in
    let ps = map program_of left.a.rest.items in
    let sts = left.b.rest.items in
    let ended : (length ps ≡ 0) ⊎ (length sts ≡ 0) =
    elim c.in-None.ensures.steps [
      | inl h ↦ inl (length-map left.a.rest.items program_of ∙ sym left.a.rest.ok.0 ∙ h.1.0)
      | inr h ↦ inr (sym left.b.rest.ok.0 ∙ h.1.0)
    ] in
    let done = map (switch_of g.B.Unit.Pass.program g.B.Unit.Pass.tables g.B.Unit.Pass.cells) c.loop-program.switches.items in
    sym (append-nil done) ∙ ap (λ (l : List Switch). done ++ l) (sym (none_left ps sts ended)) ∙ c.loop-program.invariant.stands
