use Rattle.std.proofs.lemmas.Result.{on_ok_weaker, on_err_weaker}
use Rattle.std.proofs.Common.{map}
use Rattle.p4_tables.specs.State.{Held}
use Rattle.table_entries.specs.View.{entry_of}
use Rattle.p4_tables.proofs.Changed.{put_at, kept_at}
use Rattle.p4_tables.proofs.held.put_listed.Goals as goal

pub returns-clause-ok : goal.returns-clause-ok
returns-clause-ok c =
    on_ok_weaker c.set_listed.result (put_at c.args.tables.now.items c.args.table c.index_mut.result.now c.set_listed.new.self (λ (h : Held). record h { listed = map entry_of c.args.list.items }) c.requires c.index_mut.ensures.value) c.set_listed.ensures.ok

pub returns-clause-err : goal.returns-clause-err
returns-clause-err c =
    on_err_weaker c.set_listed.result (kept_at c.args.tables.now.items c.args.table c.index_mut.result.now c.set_listed.new.self c.requires c.index_mut.ensures.value) c.set_listed.ensures.err
