use Rattle.std.proofs.Common.{rules, ◌≡◌, List, map, subst, sym, ap, ◌∙◌}
use Rattle.indus_tree.specs.View.{decl_of, property_of}
use Rattle.indus_tree.specs.declared.tree.Decl as code
use Rattle.indus_tree.specs.declared.tree.Property as code_property
use Rattle.tele_layout.specs.TeleDecls.{AreTele}
use Rattle.tele_layout.specs.Layouts.{IsLayoutOf}
use Rattle.tele_layout.specs.declared.slots.Layout.{Layout}
use Rattle.tele_layout.proofs.PlacesLemmas.{typed_tele, is_layout}
use Rattle.tele_layout.proofs.places.layout.Goals as goal

pub slots_of-requires-clause-declared : goal.slots_of-requires-clause-declared
slots_of-requires-clause-declared c =
    let same : c.deref.result.now ≡ c.args.p.now.decls.items = c.deref.ensures.value ∙ ap (λ (p : code_property.Property). p.decls.items) c.property-property.ensures.same in
    let P : List code.Decl → Type 0 = λ ds. AreTele (map decl_of ds) in
    subst P (sym same) (typed_tele (property_of c.args.p.now) c.property-property.ensures.typed)

pub returns-clause-placed : goal.returns-clause-placed
returns-clause-placed c =
    let l : Layout = record { first = c.first_byte.result; bytes = c.div_ceil-need.result; slots = c.in_ok-slots.slots } in
    let is : IsLayoutOf (property_of c.args.p.now) l = search rules in
    is_layout (property_of c.args.p.now) l c.property-property.ensures.typed is
