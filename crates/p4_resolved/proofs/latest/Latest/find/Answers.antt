use Rattle.std.proofs.Common.{Some, None, sym, ◌∙◌}
use Rattle.p4_resolved.proofs.Rows.{row_found, row_read, row_past}
use Rattle.p4_resolved.proofs.latest.Latest.find.Goals as goal

pub returns-in-Some-get : goal.returns-in-Some-get
returns-in-Some-get g c =
    row_read c.deref.result.now c.args.self.now.rows.items c.in-Some.place.now c.in-Some-get.row.now c.deref.ensures.value c.in-Some-get.ensures.lookup.0 c.in-Some-get.ensures.lookup.1
    ∙ row_found c.args.self.now.rows.items c.args.self.now.places.entries c.args.name.now (Some c.in-Some.place.now) c.args.self.now.told (sym c.in-Some.ensures.value)

pub returns-in-None-get : goal.returns-in-None-get
returns-in-None-get g c =
    row_past c.deref.result.now c.args.self.now.rows.items c.in-Some.place.now c.deref.ensures.value c.in-None-get.ensures.lookup.0
    ∙ row_found c.args.self.now.rows.items c.args.self.now.places.entries c.args.name.now (Some c.in-Some.place.now) c.args.self.now.told (sym c.in-Some.ensures.value)

pub returns-in-None : goal.returns-in-None
returns-in-None g c = row_found c.args.self.now.rows.items c.args.self.now.places.entries c.args.name.now None c.args.self.now.told (sym c.in-None.ensures.value)
