-- The law of the code of a block, which has one definition for the text and for what runs. Read `Stage` before it.
use Rattle.std.specs.Prelude.{◌≡◌, ℕ, List}
use Rattle.indus_tree.specs.Tree.{Decl, Stmts}
use Rattle.p4_meaning.specs.Scope.{Scope, Roots}
use Rattle.p4_meaning.specs.Under.{stmts_under}
use Rattle.lowered_code.specs.Environment.{on_switch, in_control}
use Rattle.lowered_code.specs.Statements.{block_code, block_lookups}
use Rattle.monitor_trees.specs.Stage.{AreRooted, Stage, AreNamed}

-- in a scope that offers the roots, the header and the switch's number, the code that is written is the code that runs
abbrev pub CodeIsWhatRuns : Type 0
CodeIsWhatRuns =
    (s : ℕ) (r : Roots) (sc : Scope) → Stage s r sc → (c : List ℕ) (ds : List Decl) → AreRooted ds → (ss : Stmts) (n : ℕ) → AreNamed sc c (block_lookups ds ss n)
    → stmts_under sc (block_code (in_control r) ds ss n) ≡ block_code (on_switch s c) ds ss n
