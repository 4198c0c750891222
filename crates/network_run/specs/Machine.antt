-- What the programs of a network's switches do with a frame. Read `Network` after it.
use Rattle.std.specs.Prelude.{ℕ, List, Option}
use Rattle.bit_values.specs.Bits.{Word}

-- what a program tells the control plane: a receiver and values, each a word of its own width
pub record Digest : Type 0 where
  pub receiver : ℕ
  pub values : List Word

-- what the entry half of a passage gives. `view` is what the property's header variables read after
-- the parser and the verification of checksums, before the ingress, and there is no queued packet
-- where the ingress drops it
pub record Entered (S Q : Type 0) : Type 0 where
  pub after : S
  pub digests : List Digest
  pub view : List Word
  pub queued : Option Q

-- where the exit half sends a packet. `view` is what the header variables read at the end of the
-- egress, before checksums are computed
pub record Going : Type 0 where
  pub port : ℕ
  pub frame : List ℕ
  pub view : List Word

-- what the exit half of a passage gives: the packet goes nowhere where the egress drops it
pub record Leaving (S : Type 0) : Type 0 where
  pub after : S
  pub digests : List Digest
  pub going : Option Going

-- the programs of all switches: what a switch keeps at the start, with these forwarding entries and
-- control contents, the two halves of a passage, and what setting a control variable does to its
-- tables. E is a switch's forwarding entries, S what a switch keeps, Q a queued packet and C the
-- contents of a control variable
pub record Machine (E S Q C : Type 0) : Type 0 where
  pub start : (switch : ℕ) → E → (contents : ℕ → C) → S
  pub enter : (switch : ℕ) → S → (port : ℕ) → (frame : List ℕ) → Entered S Q
  pub leave : (switch : ℕ) → S → Q → Leaving S
  pub set : (switch : ℕ) → S → (variable : ℕ) → C → S
