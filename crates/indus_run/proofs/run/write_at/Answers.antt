use Rattle.std.proofs.Common.{map, List}
use Rattle.bit_values.specs.Bits.{Word}
use Rattle.indus_tree.specs.State.{put_cell}
use Rattle.indus_tree.specs.View.{decl_of}
use Rattle.indus_values.proofs.SeatLemmas.{written}
use Rattle.indus_run.proofs.run.write_at.Goals as goal

pub returns-clause-put : goal.returns-clause-put
returns-clause-put c = written c.args.kind (map decl_of c.args.decls.now) c.args.lists.now.items c.put_cell.new.lists.items c.args.name.now c.in-Some.n (λ (ws : List Word). put_cell ws c.args.at c.args.v) c.in-Some.ensures c.put_cell.ensures.put c.put_cell.ensures.others
