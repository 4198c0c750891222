use Rattle.std.proofs.Common.{◌≡◌, ◌⊎◌, inl, inr, ◌++◌, length, map, ap, sym, ◌∙◌, append-nil}
use Rattle.std.proofs.lemmas.List.{length-map}
use Rattle.capture_course.specs.Views.{list_of, lists_of}
use Rattle.network_course.specs.Views.{place_view, place_views}
use Rattle.path_runner.specs.Packets.{arrival_of}
use Rattle.case_course.proofs.Lists.{none_arrive}
use Rattle.case_course.proofs.packets.arrivals.Goals as goal

pub returns : goal.returns
returns c =
    let left = c.loop-place.place-iterator in
    let ps = place_views left.a.rest.items in
    let rss = lists_of left.b.rest.items in
    let ended : (length ps ≡ 0) ⊎ (length rss ≡ 0) =
    elim c.in-None.ensures.steps [
      | inl h ↦ inl (length-map left.a.rest.items place_view ∙ sym left.a.rest.ok.0 ∙ h.1.0)
      | inr h ↦ inr (length-map left.b.rest.items list_of ∙ sym left.b.rest.ok.0 ∙ h.1.0)
    ] in
    let done = map arrival_of c.loop-place.packets.items in
    sym (append-nil done) ∙ ap (λ (l : _). done ++ l) (sym (none_arrive ps rss ended)) ∙ c.loop-place.invariant
