-- The law of lowered code. Read `Standing` and `Lookups` before it.
use Rattle.std.specs.Prelude.{ℕ, ◌≤◌, ◌^◌, []}
use Rattle.network_run.specs.PathMeaning.{Doing}
use Rattle.indus_tree.specs.Tree.{Stmts}
use Rattle.indus_tree.specs.State.{Held}
use Rattle.indus_tree.specs.Meaning.{block_run}
use Rattle.p4_meaning.specs.Statements.{Run, meaning_of}
use Rattle.lowered_code.specs.Statements.{block_end, block_numbers, block_code}
use Rattle.lowered_code.specs.Suiting.{BlockSuits}
use Rattle.lowered_code.specs.Standing.{Setting, environment, Begins, Stands, Ends}
use Rattle.lowered_code.specs.Lookups.{AreServed}

-- the code of a block leads from a run that stands for a state to one that stands for what the block does to the state
abbrev pub CodeDoesWhatItsBlockDoes : Type 0
CodeDoesWhatItsBlockDoes =
    (p : Setting) → Begins p → (ss : Stmts) (n : ℕ) → BlockSuits p.hop p.exits ss → AreServed p (block_numbers p.hop.decls ss n) → block_end p.hop.decls ss n ≤ 2 ^ 64
    → (q : Run) (d : Doing Held Held) → Stands p q d → Ends (λ r. Stands p r (block_run p.hop [] ss d)) (meaning_of p.calls (block_code (environment p) p.hop.decls ss n) q)
