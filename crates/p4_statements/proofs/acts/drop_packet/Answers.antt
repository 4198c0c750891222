use Rattle.std.proofs.Common.{ap, ap₂, ◌∙◌}
use Rattle.p4_meaning.specs.Store.{write}
use Rattle.p4_meaning.specs.Statements.{in_store}
use Rattle.p4_packets.specs.Fields.{store_of}
use Rattle.p4_statements.specs.Runs.{run_of}
use Rattle.p4_statements.proofs.acts.drop_packet.Goals as goal

pub returns : goal.returns
returns c =
    ap (in_store (run_of c.args.r.now))
    (c.in_ok-write.ensures ∙ ap₂ (λ p v. write (store_of c.args.r.now.fields) p v) (c.deref.ensures.value ∙ c.in_ok-path.ensures) c.new.ensures)
