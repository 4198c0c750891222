-- A passage of a program with other values, each of which may stand for the one before. Read `Rewritten` of
-- `rewritten_programs` before it, `Pass` of the meaning and `FitStores` of `passage_stores`.
use Rattle.std.specs.Prelude.{◌≡◌, ℕ, List, map, Some}
use Rattle.std.specs.List.{AllZip}
use Rattle.p4_tree.specs.Tree.{Program}
use Rattle.p4_meaning.specs.Actions.{Action}
use Rattle.p4_meaning.specs.Tables.{Table, Tables}
use Rattle.p4_meaning.specs.Parts.{Parts, parts_of}
use Rattle.p4_meaning.specs.Pass.{Registers, Queued, parts_enter, parts_leave}
use Rattle.p4_meaning.specs.Laws.{AreListed}
use Rattle.p4_meaning.specs.DigestBound.{digest_bound}
use Rattle.p4_rules.specs.ProgramRules.{IsWellTyped}
use Rattle.p4_typing_laws.specs.Plain.{HavePlainNames, HavePlainValues}
use Rattle.passage_stores.specs.FitStores.{IsFitQueued}
use Rattle.rewriting_laws.specs.Standing.{MayStandFor}
use Rattle.rewritten_programs.specs.Rewritten.{ProgramRewritten}

-- ---- what of the parts is the same

-- an action of the same name and parameters
pub record ActionStands (a b : Action) : Type 0 where
  pub name : b.name ≡ a.name
  pub params : b.params ≡ a.params

-- a table of which the keys alone may have other values, each matched as before
pub record TableStands (t u : Table) : Type 0 where
  pub name : u.name ≡ t.name
  pub kinds : map (λ k. k.kind) u.keys ≡ map (λ k. k.kind) t.keys
  pub actions : u.actions ≡ t.actions
  pub default : u.default ≡ t.default
  pub fixed : u.fixed ≡ t.fixed

-- registers, headers, metadata, the parser and what is emitted are the same; actions and tables stand there by the same
-- numbers, and a passage gives at most as many digests
pub record PartsStand (p q : Parts) : Type 0 where
  pub registers : q.registers ≡ p.registers
  pub headers : q.headers ≡ p.headers
  pub metadata : q.metadata ≡ p.metadata
  pub states : q.states ≡ p.states
  pub emits : q.emits ≡ p.emits
  pub actions : AllZip ActionStands p.actions q.actions
  pub tables : AllZip TableStands p.tables q.tables
  pub digests : digest_bound q ≡ digest_bound p

-- ---- passages

-- both halves of a passage are the same, whatever is kept in registers and in tables that run actions of their lists: the
-- entry half for whatever comes and by whatever port, and the exit half for what is queued in a store whose words have the
-- declared widths
pub record PassagesSame (p q : Parts) : Type 0 where
  pub enters : (held : Tables) → AreListed p held → (cells : Registers) (port : ℕ) (frame : List ℕ) → parts_enter q held cells port frame ≡ parts_enter p held cells port frame
  pub leaves : (held : Tables) → AreListed p held → (cells : Registers) (w : Queued) → IsFitQueued p w → parts_leave q held cells w ≡ parts_leave p held cells w
  -- as the entry half hands it on
  pub queues : (held : Tables) (cells : Registers) (port : ℕ) (frame : List ℕ) (w : Queued) → (parts_enter p held cells port frame).queued ≡ Some w → IsFitQueued p w

-- so it is of a well-typed program whose names have no point, as those of texts, and of one with other values
pub record ProgramStands (p q : Program) : Type 0 where
  pub parts : PartsStand (parts_of p) (parts_of q)
  pub passages : PassagesSame (parts_of p) (parts_of q)
  pub names : HavePlainNames q.tops
  pub values : HavePlainValues q.tops

abbrev pub PassagesStay : Type 0
PassagesStay = (p q : Program) → ProgramRewritten MayStandFor p q → IsWellTyped p → HavePlainNames p.tops → HavePlainValues p.tops → ProgramStands p q
