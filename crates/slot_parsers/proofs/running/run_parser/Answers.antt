use Rattle.std.proofs.Common.{◌+◌, length, map, ap, ◌∙◌}
use Rattle.slot_terms.specs.States.{state_of}
use Rattle.slot_places.specs.HeaderSlots.{header_slots_of}
use Rattle.slot_parsers.specs.ParserCodes.{turns}
use Rattle.slot_parsers.specs.Code.{state_in, reading_at}
use Rattle.slot_parsers.proofs.RunLemmas.{run_starts}
use Rattle.slot_parsers.proofs.running.run_parser.Goals as goal

pub returns-clause-ends : goal.returns-clause-ends
returns-clause-ends c =
    let p = c.args.p.now in
    c.run_states.ensures.ends
    ∙ ap (λ cs. turns (map header_slots_of c.args.headers.now) (map state_in cs) (length cs + 1) c.clear.new.passed p.start (reading_at (state_of c.args.s.now) c.args.frame.now 0)) c.deref.ensures.value
    ∙ run_starts (map header_slots_of c.args.headers.now) p.states.items p.start c.clear.new.passed (length c.args.passed.now) (reading_at (state_of c.args.s.now) c.args.frame.now 0) c.clear.ensures c.requires.flags
