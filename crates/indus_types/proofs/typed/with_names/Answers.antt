use Rattle.std.proofs.Common.{◌≡◌, List, [], map, sym, subst}
use Rattle.indus_tree.specs.View.{decl_of, property_of}
use Rattle.indus_tree.specs.declared.tree.Decl as code
use Rattle.indus_scopes.specs.NameTable.{texts, names_of}
use Rattle.indus_types.specs.NameTable.{AreNew, IsTabled}
use Rattle.indus_types.specs.declared.typed.Tabled.{Tabled}
use Rattle.indus_types.proofs.NamesLemmas.{typed_new}
use Rattle.indus_types.proofs.typed.with_names.Goals as goal

pub name_table-requires : goal.name_table-requires
name_table-requires c = let P : List code.Decl → Type 0 = λ ds. AreNew [] (map decl_of ds) in subst P (sym c.deref.ensures.value) (typed_new (property_of c.args.property) c.requires)

pub invariant_of-result : goal.invariant_of-result
invariant_of-result c =
    let P : List code.Decl → Type 0 = λ ds. texts c.in_ok-names.names.keys ≡ names_of (map decl_of ds) in
    subst (λ (t : Tabled). IsTabled (property_of t.property) t.names.keys) (sym c.in_ok-new.ensures.ok)
    (record { typed = c.requires; named = subst P c.deref.ensures.value c.in_ok-names.ensures })
