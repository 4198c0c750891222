-- What is handed in to a passage, and comes out of it: buffers, what waits, and where a packet goes. Read `Waiting` before
-- it.
use Rattle.std.specs.Prelude.{◌≡◌, ℕ, ◌+◌, ◌≤◌, List, map, Bool, true, false, Option, Some, None, vec_capacity}
use Rattle.std.specs.Option.{option_map}
use Rattle.p4_tree.specs.Tree.{Program}
use Rattle.p4_tree.specs.View.{program_of}
use Rattle.p4_meaning.specs.Statements.{Digest}
use Rattle.p4_meaning.specs.Pass.{Queued}
use Rattle.p4_rules.specs.Limits.{header_bytes, most_of_program}
use Rattle.p4_rules.specs.ProgramRules.{program_scope}
use Rattle.p4_statements.specs.Runs.{digest_of}
use Rattle.p4_passages.specs.Waiting.{waiting_of}
use Rattle.p4_machine.specs.declared.needs.Needs.{Needs}
use Rattle.p4_machine.specs.declared.buffer.FrameBuf.TheInside as buffer
use Rattle.p4_machine.specs.declared.queued.Queued as code_queued
use Rattle.p4_machine.specs.declared.pass.Passed as code_passed
use Rattle.p4_machine.specs.declared.pass.Passed.TheVariants as passed
use Rattle.p4_machine.specs.declared.pass.Entered as code_entered
use Rattle.p4_machine.specs.declared.pass.Entered.TheVariants as entered

-- a buffer was made for this program: it has room for the bytes of the program's headers, and for the most digests of a
-- passage
pub record IsMadeFor (p : Program) (n : Needs) : Type 0 where
  pub header_bytes : n.header_bytes ≡ header_bytes (program_scope p) p
  pub most_digests : n.most_digests ≡ most_of_program p

-- a buffer: the frame that goes out and the digests, and for what it has room
pub record Buffer : Type 0 where
  pub frame : List ℕ
  pub digests : List Digest
  pub needs : Needs

abbrev pub buffer_of : buffer.Inside → Buffer
buffer_of b = record { frame = b.frame.items; digests = map digest_of b.digests.items; needs = b.needs }

-- it has that room: for the headers and for the longest frame that a switch takes behind them, and for the digests
pub record HasItsRoom (b : buffer.Inside) : Type 0 where
  pub frame : b.needs.header_bytes + 65791 ≤ vec_capacity b.frame
  pub digests : b.needs.most_digests ≤ vec_capacity b.digests

-- a place for a packet between the halves: the program that it was made for, for how many bytes of rest it has room, and
-- the packet that waits
pub record Place : Type 0 where
  pub program : Program
  pub room : ℕ
  pub waiting : Option Queued

abbrev pub place_of : code_queued.Queued → Place
place_of q = record { program = program_of q.plan.value.program; room = q.room; waiting = option_map waiting_of q.waiting }

-- a place was made for this program. That it was is all that is said, so it has one proof at most
abbrev pub IsPlaceFor : Program → Place → Type 0
IsPlaceFor p x = ∥ x.program ≡ p ∥₁

-- a packet waits
abbrev pub is_some_packet : Option Queued → Bool
is_some_packet None = false
is_some_packet (Some q) = true

-- where a packet goes: the port, and None where it is dropped; and the frame of a buffer where it goes on
abbrev pub goes_out : code_passed.Passed → (frame : List ℕ) → Option (ℕ × List ℕ)
goes_out passed.Dropped frame = None
goes_out (passed.Out port) frame = Some (port, frame)

-- the packet waits for egress
abbrev pub is_queued : code_entered.Entered → Bool
is_queued entered.Queued = true
is_queued entered.Dropped = false
