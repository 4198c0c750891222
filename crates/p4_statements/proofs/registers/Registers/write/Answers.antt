use Rattle.std.proofs.Common.{◌≡◌, ℕ, List, ◌<◌, ◌≤◌, length, sym, ap, ◌∙◌, arith}
use Rattle.bit_values.specs.Bits.{Word}
use Rattle.p4_meaning.specs.Statements.{cell_set, put_cells}
use Rattle.p4_parts.specs.Places.{first_in}
use Rattle.p4_statements.specs.Cells.{Rows, cells_in, place_in}
use Rattle.p4_statements.proofs.RegistersLemmas.{cells_written, none_written, names_kept}
use Rattle.p4_statements.proofs.registers.Registers.write.Goals as goal

pub invariant_of-self : goal.invariant_of-self
invariant_of-self c = λ x.
    let lt : c.place-at.result < length c.self.inside.rows.items = omega (arith, c.if-at-len.true, c.len.ensures, c.self.inside.rows.ok.0) in
    c.self.invariant x
    ∙ ap (λ ys. first_in ys x) (sym (names_kept c.self.inside.rows.items c.place-at.result c.index_mut.result.now (c.index_mut.result.now.0, c.write.new.self) lt (ap (λ (e : List ℕ × List Word). e.0) c.index_mut.ensures.value)))

pub returns-then-at-len : goal.returns-then-at-len
returns-then-at-len c =
    let lt : c.place-at.result < length c.self.inside.rows.items = omega (arith, c.if-at-len.true, c.len.ensures, c.self.inside.rows.ok.0) in
    cells_written c.self.inside.rows.items c.args.name.now c.index_mut.result.now (c.index_mut.result.now.0, c.write.new.self) c.place-at.result c.args.index c.args.v
    (c.place-at.ensures ∙ ap (λ l. place_in l c.args.name.now) (sym c.self.view_is)) lt
    (ap (λ (e : List ℕ × List Word). e.0) c.index_mut.ensures.value)
    (c.write.ensures ∙ ap (λ (e : List ℕ × List Word). cell_set e.1 c.args.index c.args.v) c.index_mut.ensures.value)
    ∙ ap (λ (es : Rows). put_cells (cells_in es) c.args.name.now (cell_set (cells_in es c.args.name.now) c.args.index c.args.v)) c.self.view_is

pub returns-else-at-len : goal.returns-else-at-len
returns-else-at-len c =
    let same : length c.self.inside.rows.items ≡ length c.args.self.now = ap (λ (l : Rows). length l) c.self.view_is in
    none_written c.args.self.now c.args.name.now c.args.index c.args.v (omega (arith, c.if-at-len.false, c.len.ensures, c.self.inside.rows.ok.0, same, c.place-at.ensures))
