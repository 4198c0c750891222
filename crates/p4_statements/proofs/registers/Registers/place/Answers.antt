use Rattle.std.proofs.Common.{Some, None, sym, ◌∙◌}
use Rattle.p4_statements.proofs.RegistersLemmas.{found_place}
use Rattle.p4_statements.proofs.registers.Registers.place.Goals as goal

pub returns-in-Some : goal.returns-in-Some
returns-in-Some c = found_place c.args.self.now c.self.inside.rows.items c.self.inside.places.entries c.args.name.now (Some c.in-Some.place.now) c.self.invariant c.self.view_is (sym c.in-Some.ensures.value)

pub returns-in-None : goal.returns-in-None
returns-in-None c =
    c.len.ensures ∙ c.self.inside.rows.ok.0
    ∙ found_place c.args.self.now c.self.inside.rows.items c.self.inside.places.entries c.args.name.now None c.self.invariant c.self.view_is (sym c.in-None.ensures.value)
