-- Flat code does what the code does. Read `Numbered`, and `Flat` of `lower_lists`, before it.
use Rattle.std.specs.Prelude.{◌≡◌, ◌≤◌, ◌^◌, List, length}
use Rattle.network_run.specs.PathMeaning.{Doing, nothing_yet}
use Rattle.indus_tree.specs.Tree.{Stmt, Stmts, block_from, Decl, Property}
use Rattle.indus_tree.specs.State.{Hop, Held}
use Rattle.indus_tree.specs.Start.{tele_start}
use Rattle.indus_tree.specs.Meaning.{run_of}
use Rattle.indus_tree.specs.Shapes.{AreShaped}
use Rattle.indus_rules.specs.Rules.{IsWellTyped}
use Rattle.lower_lists.specs.Flat.{flat_of}
use Rattle.flat_laws.specs.Numbered.{numbered, numbered_hop, ArePlain, Numbers}

-- at a hop the flat block leads from the numbered form of a state to that of the state to which the block leads
pub record DoesTheSame (h : Hop) (block : Stmts) (flat : List Stmt) : Type 0 where
  pub runs : (s f : Doing Held Held) → AreShaped h.decls s → Numbers h.decls s f → Numbers h.decls (run_of h block s) (run_of (numbered_hop h) (block_from flat) f)

-- a property whose flat code is spoken of: a well-typed one that declares no name with a digit in front
pub record IsPlainProperty (p : Property) : Type 0 where
  pub typed : IsWellTyped p
  pub plain : ArePlain p.decls
  pub few : length p.decls ≤ 2 ^ 32

-- the flat code of each block does the same, at every hop of the property
pub record FlatDoesTheSame (p : Property) : Type 0 where
  pub init : (h : Hop) → h.decls ≡ p.decls → DoesTheSame h p.init (flat_of p.decls p.init)
  pub tele : (h : Hop) → h.decls ≡ p.decls → DoesTheSame h p.tele (flat_of p.decls p.tele)
  pub check : (h : Hop) → h.decls ≡ p.decls → DoesTheSame h p.check (flat_of p.decls p.check)

abbrev pub FlatCodeDoesTheSame : Type 0
FlatCodeDoesTheSame = (p : Property) → IsPlainProperty p → FlatDoesTheSame p

-- what numbered scalars hold at a packet's start is the numbered form of what the packet's variables do, whatever the
-- switch's sensors hold
abbrev pub StartsAreNumbered : Type 0
StartsAreNumbered = (p : Property) → IsPlainProperty p → (sensors : Held) → Numbers p.decls (nothing_yet (tele_start p.decls) sensors) (nothing_yet (tele_start (numbered p.decls)) sensors)
