use Rattle.std.proofs.Common.{◌≡◌, ◌≤◌, ◌+◌, ◌*◌, ◌^◌, ℕ, map, drop}
use Rattle.p4_tree.specs.View.{program_of}
use Rattle.p4_meaning.specs.Pass.{Kept}
use Rattle.forward_texts.specs.Switches.{KeepAll}
use Rattle.path_runner.specs.Switches.{switch_of}
use Rattle.run_texts.specs.Registers.{rejected_from}
use Rattle.run_texts.proofs.counts.rejected.Given as goal

-- what the switches so far count, with what those count that are left
abbrev pub invariant-loop-switch : goal.invariant-loop-switch
invariant-loop-switch g l = record {
  sum : (keeps : ℕ → Kept) → KeepAll keeps (map (switch_of g.P.Pass.program g.P.Pass.tables g.P.Pass.cells) l.switches) →
      l.sum + rejected_from (drop l.switch (map program_of l.programs)) keeps l.switch ≡ rejected_from (map program_of l.programs) keeps 0;
  low : l.sum ≤ l.switch * 2 ^ 32;
}
