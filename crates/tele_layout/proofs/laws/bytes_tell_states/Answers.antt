use Rattle.std.proofs.Common.{◌≡◌, refl, sym, ◌∙◌, Some}
use Rattle.tele_layout.specs.Layouts.{layout_bytes}
use Rattle.tele_layout.proofs.WholeLemmas.{length-layout_bytes, tele_only}
use Rattle.tele_layout.proofs.laws.bytes_tell_states.Goals as goal

pub returns-clause-length : goal.returns-clause-length
returns-clause-length c = length-layout_bytes

pub returns-clause-distinct : goal.returns-clause-distinct
returns-clause-distinct c = λ l t u is fit fits e.
    let same : Some t ≡ Some u = sym (tele_only l (layout_bytes l u) t is fit e) ∙ tele_only l (layout_bytes l u) u is fits refl in
    cc
