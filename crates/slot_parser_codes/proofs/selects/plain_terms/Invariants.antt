use Rattle.std.proofs.Common.{◌≡◌, ◌++◌, map}
use Rattle.slot_terms.specs.Terms.{term_of}
use Rattle.slot_terms.specs.Typed.{typed_of}
use Rattle.slot_parsers.specs.Selects.{term_in}
use Rattle.slot_parser_codes.proofs.selects.plain_terms.Given as goal

abbrev pub invariant-loop-t : goal.invariant-loop-t
invariant-loop-t l = map term_of l.plain.items ++ map term_in (map typed_of l.t-iterator.rest.items) ≡ map term_in (map typed_of l.fn.terms.items)
