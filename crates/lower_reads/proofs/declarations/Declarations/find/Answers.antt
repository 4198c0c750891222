use Rattle.std.proofs.Common.{◌∙◌, ap, sym, map, slice_get, List}
use Rattle.indus_tree.specs.View.{decl_of}
use Rattle.indus_tree.specs.declared.tree.Decl.{Decl}
use Rattle.indus_scopes.proofs.Names.{one_of}
use Rattle.lower_lists.proofs.Places.{lookup_number, numbered_decl}
use Rattle.lower_reads.proofs.declarations.Declarations.find.Goals as goal

pub returns-in-Some : goal.returns-in-Some
returns-in-Some c =
    let ds = map decl_of c.args.self.now.decls.items in
    one_of c.deref.result.now c.in-Some.i c.get.result c.get.ensures.lookup.0 c.get.ensures.lookup.1
    ∙ ap (λ (xs : List Decl). slice_get (map decl_of xs) c.in-Some.i) c.deref.ensures.value
    ∙ sym (lookup_number ds c.args.name.now ∙ ap (numbered_decl ds) (sym c.place.ensures ∙ c.in-Some.is))

pub returns-in-None : goal.returns-in-None
returns-in-None c =
    let ds = map decl_of c.args.self.now.decls.items in
    sym (lookup_number ds c.args.name.now ∙ ap (numbered_decl ds) (sym c.place.ensures ∙ c.in-None.is))
