-- Room for the keys of applications.
use Rattle.std.proofs.Common.{ℕ, ◌≤◌}
use Rattle.slot_controls.proofs.KeyLemmas.{few_more_all}
use Rattle.slot_passages.specs.Codes.{ControlCode}
use Rattle.slot_passages.specs.Room.{HasFewKeys}

pub more_keys : (n k : ℕ) (c : ControlCode) → n ≤ k → HasFewKeys n c → HasFewKeys k c
more_keys n k c le few = record { settings = few_more_all n k c.settings le few.settings; body = few_more_all n k c.body le few.body }
