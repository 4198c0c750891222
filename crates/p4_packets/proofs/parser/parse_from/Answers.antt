use Rattle.std.proofs.Common.{◌≡◌, ◌+◌, suc, length, map, ap, ◌∙◌, arith}
use Rattle.std.proofs.lemmas.List.{length-map}
use Rattle.bit_values.specs.Bits.{word}
use Rattle.p4_tree.specs.View.{state_of}
use Rattle.p4_meaning.specs.Standard.{parser_error}
use Rattle.p4_meaning.specs.Store.{set_value}
use Rattle.p4_meaning.specs.Parsing.{ParserEnd, parser_end}
use Rattle.p4_meaning.specs.Pass.{store_behind}
use Rattle.p4_parts.specs.Headers.{header_in}
use Rattle.p4_parts.specs.PartsIn.{parts_in}
use Rattle.p4_packets.specs.Fields.{store_of}
use Rattle.p4_packets.specs.Ends.{parser_ends_from}
use Rattle.p4_packets.specs.Places.{error_of, reading_of}
use Rattle.p4_packets.proofs.EndsLemmas.{parsed_end}
use Rattle.p4_packets.proofs.parser.parse_from.Goals as goal

pub returns-clause-store : goal.returns-clause-store
returns-clause-store c =
    let p = c.args.p.now in
    let turns : c.len-turns.result + 1 ≡ suc (length (map state_of p.states.items)) = omega (arith, c.len-turns.ensures, p.states.ok.0, length-map p.states.items state_of) in
    let end : ParserEnd = parser_end (reading_of c.run_states.new.s c.args.frame.now c.in_ok-at.at) (error_of c.in_ok-at.e) in
    let parsed : end ≡ parser_ends_from (parts_in p) (store_of c.args.s.now) c.args.frame.now =
    parsed_end (parts_in p) c.args.frame.now (c.len-turns.result + 1) (map header_in c.deref.result.now) (map state_of c.deref-2.result.now) c.in_ok-start.start (store_of c.args.s.now) end turns (ap (map header_in) c.deref.ensures.value) (ap (map state_of) c.deref-2.ensures.value) c.in_ok-start.ensures c.in_ok-at.ensures.ends in
    c.in_ok-set_number.ensures ∙ ap (λ n. set_value (store_of c.run_states.new.s) parser_error (word 2 n)) c.error_number.ensures.small ∙ ap store_behind parsed

pub returns-clause-rest : goal.returns-clause-rest
returns-clause-rest c =
    let p = c.args.p.now in
    let turns : c.len-turns.result + 1 ≡ suc (length (map state_of p.states.items)) = omega (arith, c.len-turns.ensures, p.states.ok.0, length-map p.states.items state_of) in
    let end : ParserEnd = parser_end (reading_of c.run_states.new.s c.args.frame.now c.in_ok-at.at) (error_of c.in_ok-at.e) in
    let parsed : end ≡ parser_ends_from (parts_in p) (store_of c.args.s.now) c.args.frame.now =
    parsed_end (parts_in p) c.args.frame.now (c.len-turns.result + 1) (map header_in c.deref.result.now) (map state_of c.deref-2.result.now) c.in_ok-start.start (store_of c.args.s.now) end turns (ap (map header_in) c.deref.ensures.value) (ap (map state_of) c.deref-2.ensures.value) c.in_ok-start.ensures c.in_ok-at.ensures.ends in
    ap (λ (e : ParserEnd). e.reading.rest) parsed
