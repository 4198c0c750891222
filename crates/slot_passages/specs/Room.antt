-- The room that code needs. Read `Codes` before it and `Halves` after it.
use Rattle.std.specs.Prelude.{◌≡◌, ℕ, ◌+◌, length}
use Rattle.slot_controls.specs.Steps.{HaveFewKeys, most_told_all}
use Rattle.slot_passages.specs.Codes.{ControlCode, ProgramCode}

-- the most digests that a control gives
abbrev pub most_digests : ControlCode → ℕ
most_digests c = most_told_all c.settings + most_told_all c.body

-- each application in a control has so many keys at the most
pub record HasFewKeys (n : ℕ) (c : ControlCode) : Type 0 where
  pub settings : HaveFewKeys n c.settings
  pub body : HaveFewKeys n c.body

-- there are so many flags for the parser's states, and room for so many keys; compute checksum gives no digests
pub record HasRoom (flags keys : ℕ) (c : ProgramCode) : Type 0 where
  pub states : flags ≡ length c.parser.states
  pub verify : HasFewKeys keys c.verify
  pub ingress : HasFewKeys keys c.ingress
  pub egress : HasFewKeys keys c.egress
  pub compute : HasFewKeys keys c.compute
  pub silent : most_digests c.compute ≡ 0
