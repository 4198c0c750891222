use Rattle.std.proofs.Common.{ℕ, List, Some, None, cond, sym, ap, ◌∙◌}
use Rattle.std.specs.Option.{option_or}
use Rattle.lex_text.specs.Names.{same_text}
use Rattle.indus_tree.specs.declared.tree.Decl.{Decl}
use Rattle.p4_types.specs.Kept.{at_name}
use Rattle.lower_reads.proofs.Places.{next_place}
use Rattle.lower_reads.proofs.declarations.places.Goals as goal

pub loop-place-preserved : goal.loop-place-preserved
loop-place-preserved c =
    next_place c.loop-place.out.entries c.add_place.new.out.entries c.args.decls.now c.loop-place.place c.index-decls-place.result c.loop-place-test.true c.index-decls-place.is c.loop-place.invariant
    (λ x. c.in_ok-add_place.ensures x
    ∙ ap (λ (y : List ℕ). option_or (at_name c.loop-place.out.entries x) (cond (same_text y x) (Some c.loop-place.place) None)) (c.in_ok-name.ensures.ok ∙ c.as_str.ensures ∙ ap (λ (d : Decl). d.name) (sym c.index-decls-place.is)))
