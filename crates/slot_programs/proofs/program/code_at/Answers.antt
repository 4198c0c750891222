use Rattle.std.proofs.Common.{ap, sym, ◌∙◌, subst}
use Rattle.p4_parts.specs.PartsIn.{parts_in}
use Rattle.slot_terms.specs.Places.{Places, places_of}
use Rattle.slot_parsers.specs.Parses.{Parses, heads_of}
use Rattle.slot_deparsers.specs.Emits.{numbers_of}
use Rattle.slot_passages.specs.Codes.{ProgramCode, program_of}
use Rattle.slot_programs.specs.CodesOf.{AreControlsOf}
use Rattle.slot_programs.proofs.ControlLemmas.{code_made}
use Rattle.slot_programs.proofs.program.code_at.Goals as goal

pub returns-clause-code : goal.returns-clause-code
returns-clause-code c =
    let p = parts_in c.args.p.now in
    let m = places_of c.args.places.now in
    let made : ProgramCode = program_of c.program.result in
    code_made p m made
    (ap (λ (x : ProgramCode). x.headers) c.program.ensures ∙ c.in_ok-headers.ensures)
    (subst (λ (x : ProgramCode). Parses m (heads_of p) p x.parser) (sym c.program.ensures) c.in_ok-parser.ensures.parses)
    (subst (λ (x : ProgramCode). AreControlsOf p m x.verify x.ingress x.egress x.compute) (sym c.program.ensures) c.in_ok-controls.ensures.codes)
    (ap (λ (x : ProgramCode). x.emits) c.program.ensures ∙ c.in_ok-emits.ensures ∙ ap (λ (q : Places). numbers_of q.headers p.emits) c.in_ok-controls.ensures.same)
