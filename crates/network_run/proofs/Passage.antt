-- The path meaning of both halves of a passage is a whole hop: what the entry half put for its packet and
-- its switch is what the exit half finds there.
use Rattle.std.proofs.Common.{◌≡◌, ℕ, List, ◌++◌, Option, refl, sym, ap, ap₂, ◌∙◌, append_assoc}
use Rattle.std.proofs.lemmas.List.{map-append}
use Rattle.bit_values.specs.Bits.{Word}
use Rattle.network_run.specs.Network.{Wiring, Half}
use Rattle.network_run.specs.NetworkRun.{entry_half, exit_half}
use Rattle.network_run.specs.PathMeaning.{Doing, Property, Path, entry_part, exit_part, reads_of, reported_by, verdict_after, after_half}
use Rattle.network_run.specs.Hop.{DropIsHop, PassageIsHop}
use Rattle.network_run.proofs.Numbers.{put_same}

module _ {T Z C : Type 0} (p : Property T Z C) (net : Wiring) (w : Path T Z) (i s port : ℕ) where
  pub drop_is : (view : List Word) (c : ℕ → C) → DropIsHop p net w i s port view c
  drop_is view c =
      let d : Doing T Z = entry_part p (reads_of (entry_half net i s port view c)) (w.tele i) (w.sensors s) in
      record {
        tele = put_same w.tele i d.tele;
        sensors = put_same w.sensors s d.sensors;
        reports = refl;
        verdict = put_same w.verdicts i (w.verdicts i);
      }

  pub passage_is : (to : ℕ) (entry exit : List Word) (before after : ℕ → C) → PassageIsHop p net w i s port to entry exit before after
  passage_is to entry exit before after =
      let e : Half C = entry_half net i s port entry before in
      let l : Half C = exit_half net i s port to exit after in
      let d : Doing T Z = entry_part p (reads_of e) (w.tele i) (w.sensors s) in
      let v : Path T Z = after_half p w e in
      let leaves : T → Z → Doing T Z = λ t z. exit_part p (reads_of l) t z in
      let same : leaves (v.tele i) (v.sensors s) ≡ leaves d.tele d.sensors = ap₂ leaves (put_same w.tele i d.tele) (put_same w.sensors s d.sensors) in
      let x : Doing T Z = leaves (v.tele i) (v.sensors s) in
      record {
        tele = put_same v.tele i x.tele ∙ ap (λ (y : Doing T Z). y.tele) same;
        sensors = put_same v.sensors s x.sensors ∙ ap (λ (y : Doing T Z). y.sensors) same;
        reports =
            ap (λ (y : Doing T Z). v.reports ++ reported_by i s y.reports) same
            ∙ (append_assoc w.reports (reported_by i s d.reports) (reported_by i s (leaves d.tele d.sensors).reports)
            ∙ ap (λ rs. w.reports ++ rs) (sym (map-append _ d.reports (leaves d.tele d.sensors).reports)));
        verdict =
            put_same v.verdicts i (verdict_after l x.rejected (v.verdicts i))
            ∙ ap₂ (λ (y : Doing T Z) (o : Option _). verdict_after l y.rejected o) same (put_same w.verdicts i (w.verdicts i));
      }
