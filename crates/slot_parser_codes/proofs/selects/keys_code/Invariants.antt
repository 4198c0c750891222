use Rattle.std.proofs.Common.{◌≡◌, map, take, drop, length}
use Rattle.p4_tree.specs.View.{keyset_of}
use Rattle.slot_terms.specs.Typed.{typed_of}
use Rattle.slot_terms.specs.Places.{places_of}
use Rattle.slot_parsers.specs.Code.{key_of}
use Rattle.slot_parsers.specs.Selects.{FitEach, AreOfKinds}
use Rattle.slot_parser_codes.specs.KnownParsers.{are_known_keys}
use Rattle.slot_parser_codes.proofs.selects.keys_code.Given as goal

abbrev pub invariant-loop-i : goal.invariant-loop-i
invariant-loop-i l = record {
  count : length (map key_of l.keys.items) ≡ l.i;
  each : FitEach (places_of l.places) (map typed_of l.terms) (map key_of l.keys.items) (map keyset_of (take l.i l.sets));
  kinds : AreOfKinds (map key_of l.keys.items) (map keyset_of (take l.i l.sets));
  known : are_known_keys (places_of l.places) (map keyset_of (drop l.i l.sets)) ≡ are_known_keys (places_of l.places) (map keyset_of l.sets);
}
