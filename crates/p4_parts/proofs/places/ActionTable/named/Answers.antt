use Rattle.std.proofs.Common.{sym}
use Rattle.p4_parts.proofs.Placed.{named_there, named_past, named_nowhere}
use Rattle.p4_parts.proofs.places.ActionTable.named.Goals as goal

pub returns-in-Some-get : goal.returns-in-Some-get
returns-in-Some-get c = named_there c.args.self.now.actions.now c.args.name.now c.in-Some.place c.in-Some-get.action.now (sym c.in-Some.ensures) c.in-Some-get.ensures.lookup.1

pub returns-in-None-get : goal.returns-in-None-get
returns-in-None-get c = named_past c.args.self.now.actions.now c.args.name.now c.in-Some.place (sym c.in-Some.ensures) c.in-None-get.ensures.lookup.0

pub returns-in-None : goal.returns-in-None
returns-in-None c = named_nowhere c.args.self.now.actions.now c.args.name.now (sym c.in-None.ensures)
