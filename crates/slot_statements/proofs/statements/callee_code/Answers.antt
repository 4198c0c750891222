use Rattle.std.proofs.Common.{sym}
use Rattle.slot_terms.specs.Places.{places_of}
use Rattle.slot_statements.specs.Codes.{code_of}
use Rattle.slot_statements.proofs.DropLemmas.{callee_does}
use Rattle.slot_statements.proofs.statements.callee_code.Goals as goal

pub returns-in_ok-c-clause-does : goal.returns-in_ok-c-clause-does
returns-in_ok-c-clause-does c = callee_does (places_of c.args.places.now) (code_of c.in_ok-c.c) c.args.callee.now (sym c.if-is_drop.ensures) c.in_ok-c.ensures.does
