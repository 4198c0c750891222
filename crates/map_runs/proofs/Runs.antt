-- The law of runs, by the induction over events of `linkage`.
use Rattle.std.proofs.Common.{ℕ, refl, sym, ap, ◌∙◌}
use Rattle.indus_tree.specs.State.{Contents}
use Rattle.p4_meaning.specs.Tables.{Tables}
use Rattle.p4_meaning.specs.Pass.{Kept, Queued, kept_before}
use Rattle.network_run.specs.Machine.{Machine}
use Rattle.network_run.specs.Network.{Wiring}
use Rattle.linkage.specs.Moves.{MovesTo}
use Rattle.linkage.proofs.MovedRuns.{same_runs}
use Rattle.switch_machines.specs.Programs.{Controls, Programs, machine_with}
use Rattle.whole_properties.specs.Whole.{Given, lower_monitor, IsVariable}
use Rattle.whole_properties.specs.Asked.{IsGiven}
use Rattle.map_runs.specs.Named.{IsOfShape, FitsMap}
use Rattle.map_runs.specs.Runs.{HoldsAny, AreMapped, RunsAgree}
use Rattle.map_runs.proofs.Agree.{loads_agree, sets_agree}

module _ (g : Given) (i : IsGiven g) (p : Programs) (net : Wiring) (controls : (switch : ℕ) → Controls Contents) (same : AreMapped g net controls) where
  abbrev own : Machine Tables Kept Queued Contents
  own = machine_with (λ s. (lower_monitor g).controls) p

  abbrev mapped : Machine Tables Kept Queued Contents
  mapped = machine_with controls p

  abbrev as_they_are : (switch : ℕ) → Tables → Tables
  as_they_are s held = held

  abbrev Any : (switch : ℕ) → Kept → Type 0
  Any s a = Unit {0}

  abbrev AnyQueued : (switch : ℕ) → Queued → Type 0
  AnyQueued s a = Unit {0}

  all_fit : (c : ℕ → Contents) → ((v : ℕ) → IsVariable g v → IsOfShape g v (c v)) → FitsMap g c
  all_fit c h v x d found control is = h v (x, d, found, control, is) x d found control is

  moves : MovesTo net as_they_are own mapped Any AnyQueued HoldsAny (IsVariable g) (λ s. IsOfShape g)
  moves =
      record {
        starts = λ s e c lt fit h. ap (λ (k : Controls Contents). kept_before (p.program s) (k.loaded c e)) (same s lt) ∙ ap (λ (held : Tables). kept_before (p.program s) held) (sym (loads_agree g i c (all_fit c h) e));
        starts_good = λ s e c lt fit h. tt;
        enters = λ s port a frame lt k. refl;
        enters_good = λ s port a frame lt k. tt;
        queues = λ s port a frame q lt k is. tt;
        leaves = λ s a q lt k j. refl;
        leaves_good = λ s a q lt k j. tt;
        sets = λ s v a c lt k is fit. ap (λ (held : Tables). (let after : Kept = record a { tables = held } in after)) (ap (λ (j : Controls Contents). j.set v c a.tables) (same s lt) ∙ sym (sets_agree g i v c fit a.tables));
        sets_good = λ s v a c lt k is fit. tt;
      }

pub runs_agree : RunsAgree
runs_agree g i p net wiring controls same w telemetry n fit =
    same_runs net (as_they_are g i p net controls same) (own g i p net controls same) (mapped g i p net controls same) (Any g i p net controls same) (AnyQueued g i p net controls same) HoldsAny (IsVariable g) (λ s. IsOfShape g) wiring (moves g i p net controls same) w telemetry n fit
