use Rattle.std.proofs.Common.{subst}
use Rattle.p4_parts.specs.PartsIn.{body_in, parts_in}
use Rattle.slot_terms.specs.Places.{places_of}
use Rattle.slot_passages.specs.Codes.{control_of}
use Rattle.slot_programs.specs.CodesOf.{AreStepsOf}
use Rattle.slot_programs.proofs.ControlLemmas.{control_is}
use Rattle.slot_programs.proofs.controls.control_code.Goals as goal

pub returns-clause-control : goal.returns-clause-control
returns-clause-control c =
    control_is (parts_in c.args.p.now.parts.now) (places_of c.args.places.now) (body_in c.args.b.now) (control_of c.in_ok-c.c) c.requires
    (subst (λ k. AreStepsOf k (places_of c.args.places.now) (body_in c.args.b.now) (control_of c.in_ok-c.c)) c.callees-k.ensures c.in_ok-c.ensures.steps)
