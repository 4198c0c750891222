use Rattle.std.proofs.Common.{sym, ap, ◌∙◌, subst}
use Rattle.p4_meaning.specs.Standard.{egress_spec}
use Rattle.slot_terms.specs.Places.{place_at, place_of, places_of}
use Rattle.slot_statements.specs.Runs.{DoesDrop}
use Rattle.slot_statements.specs.Known.{has_port}
use Rattle.slot_statements.proofs.DropLemmas.{drop_does, port_known}
use Rattle.slot_statements.proofs.statements.drop_code.Goals as goal

pub returns-in-None-clause-blames : goal.returns-in-None-clause-blames
returns-in-None-clause-blames c u = ap has_port (ap (place_at (places_of c.args.places.now).rows) (sym (c.deref.ensures.value ∙ c.in_ok-path.ensures)) ∙ sym c.in-None.ensures)

pub returns-then-row-eq9-clause-known : goal.returns-then-row-eq9-clause-known
returns-then-row-eq9-clause-known c =
    port_known (place_at (places_of c.args.places.now).rows egress_spec) (place_of c.in-Some.row.now)
    (ap (place_at (places_of c.args.places.now).rows) (sym (c.deref.ensures.value ∙ c.in_ok-path.ensures)) ∙ sym c.in-Some.ensures) c.if-row-eq9.true

pub returns-then-row-eq9-clause-does : goal.returns-then-row-eq9-clause-does
returns-then-row-eq9-clause-does c =
    subst (λ z. DoesDrop (places_of c.args.places.now) z) (sym c.port_code.ensures)
    (drop_does (places_of c.args.places.now) (place_of c.in-Some.row.now) c.requires
    (ap (place_at (places_of c.args.places.now).rows) (sym (c.deref.ensures.value ∙ c.in_ok-path.ensures)) ∙ sym c.in-Some.ensures) c.if-row-eq9.true)
