-- What terms are valued over: the numbers in the slots, and which headers are valid.
use Rattle.std.specs.Prelude.{ℕ, List, Bool}
use Rattle.slot_terms.specs.declared.state.State as code_state

pub record State : Type 0 where
  pub slots : List ℕ
  pub valid : List Bool

-- the same as the code has it
abbrev pub state_of : code_state.State → State
state_of s = record { slots = s.slots.items; valid = s.valid.items }
