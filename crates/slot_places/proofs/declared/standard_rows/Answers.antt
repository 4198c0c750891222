use Rattle.std.proofs.Common.{◌≡◌, [], map, ap}
use Rattle.p4_meaning.specs.Standard.{ingress_port, egress_spec, egress_port, packet_length, checksum_error, parser_error}
use Rattle.slot_terms.specs.Places.{place_of}
use Rattle.slot_places.proofs.LoopLemmas.{known_step}
use Rattle.slot_places.proofs.declared.standard_rows.Goals as goal

pub returns : goal.returns
returns c =
    let none : map place_of c.new-rows.result.items ≡ [] = ap (map place_of) c.new-rows.ensures.items in
    let one = known_step _ _ _ ingress_port 9 none c.in_ok-push_standard.ensures in
    let two = known_step _ _ _ egress_spec 9 one c.in_ok-push_standard-2.ensures in
    let three = known_step _ _ _ egress_port 9 two c.in_ok-push_standard-3.ensures in
    let four = known_step _ _ _ packet_length 32 three c.in_ok-push_standard-4.ensures in
    let five = known_step _ _ _ checksum_error 1 four c.in_ok-push_standard-5.ensures in
    known_step _ _ _ parser_error 2 five c.in_ok-push_standard-6.ensures
