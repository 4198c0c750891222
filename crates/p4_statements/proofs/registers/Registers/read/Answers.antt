use Rattle.std.proofs.Common.{◌≡◌, ◌<◌, ◌≤◌, length, sym, ap, ◌∙◌, arith}
use Rattle.p4_meaning.specs.Statements.{cell_at}
use Rattle.p4_statements.specs.Cells.{Rows, place_in}
use Rattle.p4_statements.proofs.RegistersLemmas.{cells_there, none_found}
use Rattle.p4_statements.proofs.registers.Registers.read.Goals as goal

pub returns-then-at-len : goal.returns-then-at-len
returns-then-at-len c =
    let lt : c.place-at.result < length c.self.inside.rows.items = omega (arith, c.if-at-len.true, c.len.ensures, c.self.inside.rows.ok.0) in
    c.read.ensures
    ∙ ap (λ l. cell_at l c.args.index) (cells_there c.args.self.now c.self.inside.rows.items c.args.name.now c.place-at.result c.index.result.now c.self.view_is c.place-at.ensures lt c.index.ensures)

pub returns-else-at-len : goal.returns-else-at-len
returns-else-at-len c =
    let same : length c.self.inside.rows.items ≡ length c.args.self.now = ap (λ (l : Rows). length l) c.self.view_is in
    let le : length c.args.self.now ≤ place_in c.args.self.now c.args.name.now = omega (arith, c.if-at-len.false, c.len.ensures, c.self.inside.rows.ok.0, same, c.place-at.ensures) in
    c.default.ensures ∙ ap (λ l. cell_at l c.args.index) (sym (none_found c.args.self.now c.args.name.now le))
