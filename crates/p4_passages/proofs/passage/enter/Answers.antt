use Rattle.std.proofs.Common.{map, drop}
use Rattle.std.specs.Option.{option_map}
use Rattle.bit_values.specs.Bytes.{bits_of}
use Rattle.p4_parts.specs.PartsIn.{parts_in}
use Rattle.p4_packets.specs.Fields.{store_of}
use Rattle.p4_statements.specs.Runs.{cells_in, digest_of}
use Rattle.p4_passages.specs.Waiting.{waiting_of}
use Rattle.p4_passages.proofs.PassLemmas.{entered_cells, entered_digests, entered_queued}
use Rattle.p4_passages.proofs.passage.enter.Goals as goal

pub returns-clause-registers : goal.returns-clause-registers
returns-clause-registers g c =
    let p = parts_in c.args.p.now in
    entered_cells p (g.T.Tables.held c.args.tables.now p) (cells_in c.args.registers.now) c.args.port c.args.frame.now (store_of c.in_ok-fields.fields) c.in_ok-fields.ensures.store (cells_in c.ingress.new.registers) c.in_ok-fields-2.ensures.cells

pub returns-clause-told : goal.returns-clause-told
returns-clause-told g c =
    let p = parts_in c.args.p.now in
    entered_digests p (g.T.Tables.held c.args.tables.now p) (cells_in c.args.registers.now) c.args.port c.args.frame.now (store_of c.in_ok-fields.fields) c.in_ok-fields.ensures.store (map digest_of c.args.told.now.items) (map digest_of c.ingress.new.told.items) c.in_ok-fields-2.ensures.told

pub returns-clause-queued : goal.returns-clause-queued
returns-clause-queued g c =
    let p = parts_in c.args.p.now in
    entered_queued p (g.T.Tables.held c.args.tables.now p) (cells_in c.args.registers.now) c.args.port c.args.frame.now (store_of c.in_ok-fields.fields) c.in_ok-fields.ensures.store (store_of c.in_ok-fields-2.fields) (drop c.in_ok-fields.at (bits_of c.args.frame.now)) (option_map waiting_of c.in_ok-queued.queued) c.in_ok-fields-2.ensures.store c.in_ok-fields.ensures.rest c.in_ok-queued.ensures
