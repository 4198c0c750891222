use Rattle.std.proofs.Common.{sym, subst}
use Rattle.p4_tree.specs.View.{expr_of, keyset_of}
use Rattle.slot_terms.specs.Typed.{typed_of}
use Rattle.slot_terms.specs.Places.{places_of}
use Rattle.slot_parsers.specs.Code.{key_of}
use Rattle.slot_parsers.specs.Selects.{FitsInWidth}
use Rattle.slot_parsers.specs.declared.codes.Key.TheVariants as key
use Rattle.slot_parser_codes.proofs.LoopLemmas.{only_in_width, masked_in_width}
use Rattle.slot_parser_codes.proofs.selects.key_code.Goals as goal

pub returns-in_ok-t-in-One-clause-fits : goal.returns-in_ok-t-in-One-clause-fits
returns-in_ok-t-in-One-clause-fits c =
    let m = places_of c.args.places.now in
    subst (λ s. FitsInWidth m c.args.width (key_of (key.Only c.in_ok-t-in-One.t.term)) (keyset_of s)) (sym c.in-One.is) (only_in_width m c.args.width c.in-One.field-0 (expr_of c.in-One.e) (typed_of c.in_ok-t-in-One.t) c.in_ok-t-in-One.ensures.means)

pub returns-in_ok-m-in-Masked-clause-fits : goal.returns-in_ok-m-in-Masked-clause-fits
returns-in_ok-m-in-Masked-clause-fits c =
    let m = places_of c.args.places.now in
    subst (λ s. FitsInWidth m c.args.width (key_of (key.Masked c.in_ok-t-in-Masked.t.term c.in_ok-m-in-Masked.m.term)) (keyset_of s)) (sym c.in-Masked.is)
    (masked_in_width m c.args.width c.in-Masked.field-0 (expr_of c.in-Masked.e) (expr_of c.in-Masked.mask) (typed_of c.in_ok-t-in-Masked.t) (typed_of c.in_ok-m-in-Masked.m) c.in_ok-t-in-Masked.ensures.means c.in_ok-m-in-Masked.ensures.means)
