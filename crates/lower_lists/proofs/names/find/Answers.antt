use Rattle.std.proofs.Common.{◌∙◌, ap, sym, map, slice_get, List}
use Rattle.indus_tree.specs.Hops.{variable_number}
use Rattle.indus_tree.specs.View.{decl_of}
use Rattle.indus_tree.specs.declared.tree.Decl.{Decl}
use Rattle.indus_tree.specs.declared.tree.Property.{Property}
use Rattle.indus_scopes.proofs.Names.{one_of}
use Rattle.lower_lists.proofs.Places.{lookup_number, numbered_decl}
use Rattle.lower_lists.proofs.names.find.Goals as goal

pub returns-in-Some : goal.returns-in-Some
returns-in-Some c =
    let ds = map decl_of c.args.typed.now.decls.items in
    one_of c.deref.result.now c.in-Some.number c.get.result c.get.ensures.lookup.0 c.get.ensures.lookup.1
    ∙ ap (λ (xs : List Decl). slice_get (map decl_of xs) c.in-Some.number) (c.deref.ensures.value ∙ ap (λ (p : Property). p.decls.items) c.property.ensures.same)
    ∙ sym (lookup_number ds c.args.name.now ∙ ap (numbered_decl ds) (ap (variable_number ds) (sym c.as_str.ensures) ∙ sym c.number.ensures ∙ c.in-Some.is))

pub returns-in-None : goal.returns-in-None
returns-in-None c =
    let ds = map decl_of c.args.typed.now.decls.items in
    sym (lookup_number ds c.args.name.now ∙ ap (numbered_decl ds) (ap (variable_number ds) (sym c.as_str.ensures) ∙ sym c.number.ensures ∙ c.in-None.is))
