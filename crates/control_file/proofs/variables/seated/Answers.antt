use Rattle.control_file.specs.Views.{decls_of, variable_view}
use Rattle.control_file.proofs.SeatLemmas.{seated_is, seated_not}
use Rattle.control_file.proofs.variables.seated.Goals as goal

pub returns-in_err-seat : goal.returns-in_err-seat
returns-in_err-seat c = absurd (seated_not (decls_of c.args.property.now) c.args.name.now (variable_view c.in_ok-variable.variable) c.args.seats.now c.requires c.in_ok-variable.ensures c.in_err-seat.ensures.lookup.0)

pub returns : goal.returns
returns c = seated_is (decls_of c.args.property.now) c.args.name.now (variable_view c.in_ok-variable.variable) c.args.seats.now c.requires c.in_ok-variable.ensures c.in_ok-seat.seat.now _ c.in_ok-seat.ensures.lookup.1
