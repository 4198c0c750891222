-- The halves of a passage of a program without exits, and of the given one. Read `Without` of `exit_programs` before it, and
-- `Pass` of the meaning.
use Rattle.std.specs.Prelude.{◌≡◌, ℕ, List, [], ◌∷◌, Option, Some, None}
use Rattle.bit_values.specs.Bits.{word}
use Rattle.p4_tree.specs.Tree.{Program}
use Rattle.p4_meaning.specs.Tables.{Tables}
use Rattle.p4_meaning.specs.Parts.{Parts, parts_of}
use Rattle.p4_meaning.specs.Pass.{Registers, Queued, Going, Leaving, parts_enter, parts_leave}
use Rattle.p4_meaning.specs.Laws.{AreListed}
use Rattle.p4_rules.specs.ProgramRules.{IsWellTyped}
use Rattle.p4_typing_laws.specs.Plain.{HavePlainNames}
use Rattle.exit_statements.specs.Controls.{SameButVariables, sent}
use Rattle.exit_programs.specs.Names.{HasGivenNames}
use Rattle.exit_programs.specs.Owned.{OwnsWhatItUses, ComputeIsPlain}
use Rattle.exit_programs.specs.Without.{parts_without}

-- a queued state has no variable, and no header with the empty path
pub record IsQueued (q : Queued) : Type 0 where
  pub plain : q.store.headers [] ≡ None
  pub blank : (x : List ℕ) → q.store.values (x ∷ []) ≡ word 1 0

-- a packet leaves in both or in neither, with stores at the end of egress that differ in variables alone
abbrev pub SameEnds : Option Going → Option Going → Type 0
SameEnds None None = Unit {0}
SameEnds None (Some h) = ⊥
SameEnds (Some g) None = ⊥
SameEnds (Some g) (Some h) = SameButVariables g.exit_state h.exit_state

-- the same is kept and leaves, and the stores at the end differ in variables alone
pub record LeavesSame (a b : Leaving) : Type 0 where
  pub registers : b.registers ≡ a.registers
  pub digests : b.digests ≡ a.digests
  pub sent_same : sent b ≡ sent a
  pub ends : SameEnds a.going b.going

-- both halves of a passage are the same, whatever is kept in registers and in tables that run actions of their lists
pub record PassesSame (p q : Parts) : Type 0 where
  pub enters : (held : Tables) → AreListed p held → (cells : Registers) (port : ℕ) (frame : List ℕ) → parts_enter q held cells port frame ≡ parts_enter p held cells port frame
  pub leaves : (held : Tables) → AreListed p held → (cells : Registers) (w : Queued) → IsQueued w → LeavesSame (parts_leave p held cells w) (parts_leave q held cells w)
  -- what the entry half hands on is a queued state
  pub queues : (held : Tables) (cells : Registers) (port : ℕ) (frame : List ℕ) (w : Queued) → (parts_enter p held cells port frame).queued ≡ Some w → IsQueued w

-- so it is of a well-typed program and the one without exits, where ingress and egress use what is their own
abbrev pub PassesAgree : Type 0
PassesAgree = (p : Program) → IsWellTyped p → HasGivenNames p → HavePlainNames p.tops → OwnsWhatItUses p 2 → OwnsWhatItUses p 3 → ComputeIsPlain p → PassesSame (parts_of p) (parts_without p)
