use Rattle.std.proofs.Common.{map, ap, sym, ◌∙◌}
use Rattle.bit_values.specs.Bits.{Word, cast}
use Rattle.p4_parts.specs.PartsIn.{parts_in}
use Rattle.p4_packets.specs.Fields.{store_of}
use Rattle.p4_packets.specs.Rests.{rest_in}
use Rattle.p4_statements.specs.Runs.{cells_in, digest_of}
use Rattle.p4_passages.specs.Waiting.{waiting_of}
use Rattle.p4_passages.proofs.PassLemmas.{left_cells, left_digests, left_dropped, left_out}
use Rattle.p4_passages.proofs.passage.leave.Goals as goal

pub returns-then-drops-clause-registers : goal.returns-then-drops-clause-registers
returns-then-drops-clause-registers g c =
    let p = parts_in c.args.p.now in
    left_cells p (g.T.Tables.held c.args.tables.now p) (cells_in c.args.registers.now) (waiting_of c.args.waiting) (store_of c.taken-fields.result.0) c.taken-fields.ensures.store (cells_in c.egress.new.registers) c.in_ok-left.ensures.cells

pub returns-then-drops-clause-told : goal.returns-then-drops-clause-told
returns-then-drops-clause-told g c =
    let p = parts_in c.args.p.now in
    left_digests p (g.T.Tables.held c.args.tables.now p) (cells_in c.args.registers.now) (waiting_of c.args.waiting) (store_of c.taken-fields.result.0) c.taken-fields.ensures.store (map digest_of c.args.told.now.items) (map digest_of c.egress.new.told.items) c.in_ok-left.ensures.told

pub returns-then-drops-clause-gone : goal.returns-then-drops-clause-gone
returns-then-drops-clause-gone g c =
    let p = parts_in c.args.p.now in
    left_dropped p (g.T.Tables.held c.args.tables.now p) (cells_in c.args.registers.now) (waiting_of c.args.waiting) (store_of c.taken-fields.result.0) c.taken-fields.ensures.store (store_of c.in_ok-left.left) c.in_ok-left.ensures.store
    (sym c.in_ok-drops.ensures ∙ c.if-drops.true)

pub returns-clause-registers : goal.returns-clause-registers
returns-clause-registers g c =
    let p = parts_in c.args.p.now in
    left_cells p (g.T.Tables.held c.args.tables.now p) (cells_in c.args.registers.now) (waiting_of c.args.waiting) (store_of c.taken-fields.result.0) c.taken-fields.ensures.store (cells_in c.egress.new.registers) c.in_ok-left.ensures.cells

pub returns-clause-told : goal.returns-clause-told
returns-clause-told g c =
    let p = parts_in c.args.p.now in
    left_digests p (g.T.Tables.held c.args.tables.now p) (cells_in c.args.registers.now) (waiting_of c.args.waiting) (store_of c.taken-fields.result.0) c.taken-fields.ensures.store (map digest_of c.args.told.now.items) (map digest_of c.egress.new.told.items) c.in_ok-left.ensures.told

pub returns-clause-gone : goal.returns-clause-gone
returns-clause-gone g c =
    let p = parts_in c.args.p.now in
    left_out p (g.T.Tables.held c.args.tables.now p) (cells_in c.args.registers.now) (waiting_of c.args.waiting) (store_of c.taken-fields.result.0) c.taken-fields.ensures.store (store_of c.in_ok-left.left) (store_of c.in_ok-behind.behind) c.port_of-port.result (rest_in c.taken-fields.result.1) c.in_ok-frame.frame.items c.in_ok-left.ensures.store
    (sym c.in_ok-drops.ensures ∙ c.if-drops.false) (c.port_of-port.ensures ∙ ap (λ (v : Word). cast 9 v.value) c.in_ok-spec.ensures) c.in_ok-behind.ensures c.taken-fields.ensures.rest c.in_ok-frame.ensures
