-- mark_to_drop leaves registers and digests alone.
use Rattle.std.proofs.Common.{refl}
use Rattle.p4_meaning.specs.Statements.{drops, done_by}
use Rattle.slot_terms.specs.Places.{Places}
use Rattle.slot_statements.specs.Codes.{Code}
use Rattle.slot_statements.specs.Runs.{DoesDrop}
use Rattle.slot_controls.specs.Steps.{plain, run}
use Rattle.slot_controls.specs.Callees.{Callees, calls_of}
use Rattle.slot_controls.specs.StepRuns.{DoesAct}
use Rattle.slot_controls.proofs.ActLemmas.{still_alike}

pub drops_does : (k : Callees) (m : Places) (c : Code) → DoesDrop m c → DoesAct k m (plain c) drops
drops_does k m c does base held chosen u y stands = record {
  ends = does (calls_of k held) u.state y stands.follows;
  beside = still_alike k u (run chosen (plain c) u).0 y (done_by (calls_of k held) drops y).0 stands.beside refl refl (record { cells = refl; digests = refl });
}
