use Rattle.std.proofs.Common.{◌≡◌, ◌++◌, map, drop}
use Rattle.indus_tree.specs.View.{block_of}
use Rattle.indus_tree.specs.Meaning.{block_run, named, run_turns}
use Rattle.indus_values.specs.View.{IsShaped, cells_of, decls_of, doing_of, hop_of}
use Rattle.indus_tree.specs.Reports.{AreShort}
use Rattle.indus_run.proofs.run.+run.Given as goal

abbrev pub invariant-block_run-loop-s : goal.invariant-block_run-loop-s
invariant-block_run-loop-s l = IsShaped (decls_of l.env) l.tele l.sensors × AreShort (block_of (drop l.s-index l.block)) × (block_run (hop_of l.env) l.items (block_of (drop l.s-index l.block)) (doing_of (decls_of l.env) l.tele l.sensors l.out) ≡ block_run (hop_of l.env) l.items (block_of l.block) (doing_of (decls_of l.env) l.initial.tele l.initial.sensors l.initial.out))

abbrev pub invariant-run_turns-loop-words : goal.invariant-run_turns-loop-words
invariant-run_turns-loop-words l = IsShaped (decls_of l.env) l.tele l.sensors × (run_turns (λ ws. block_run (hop_of l.env) (l.items ++ named l.names ws) (block_of l.body)) (map cells_of (drop l.words-index l.turns)) (doing_of (decls_of l.env) l.tele l.sensors l.out) ≡ run_turns (λ ws. block_run (hop_of l.env) (l.items ++ named l.names ws) (block_of l.body)) (map cells_of l.turns) (doing_of (decls_of l.env) l.initial.tele l.initial.sensors l.initial.out))
