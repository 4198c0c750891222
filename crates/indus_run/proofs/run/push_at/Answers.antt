use Rattle.std.proofs.Common.{map, List}
use Rattle.bit_values.specs.Bits.{Word}
use Rattle.indus_tree.specs.State.{pushed}
use Rattle.indus_tree.specs.View.{decl_of}
use Rattle.indus_tree.specs.declared.tree.DeclKind.TheVariants.{Tele}
use Rattle.indus_values.proofs.SeatLemmas.{written}
use Rattle.indus_run.proofs.run.push_at.Goals as goal

pub returns-clause-put : goal.returns-clause-put
returns-clause-put c = written Tele (map decl_of c.args.decls.now) c.args.lists.now.items c.push_cell.new.lists.items c.args.name.now c.in-Some.n (λ (ws : List Word). pushed c.args.size ws c.args.v) c.in-Some.ensures c.in_ok-push_cell-in-Some.ensures.put c.in_ok-push_cell-in-Some.ensures.others
