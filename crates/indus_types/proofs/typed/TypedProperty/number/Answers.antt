use Rattle.std.proofs.Common.{◌∙◌, ℕ, Option, String, string_bytes, ap, map}
use Rattle.std.specs.Prelude.{position}
use Rattle.std.specs.Str.{bytes_eq}
use Rattle.indus_tree.specs.Hops.{variable_number}
use Rattle.indus_tree.specs.View.{decl_of, property_of}
use Rattle.indus_tree.specs.declared.tree.Property.{Property}
use Rattle.indus_types.specs.declared.typed.Tabled.{Tabled}
use Rattle.indus_types.proofs.NamesLemmas.{position_number}
use Rattle.indus_types.proofs.typed.TypedProperty.number.Goals as goal

pub returns : goal.returns
returns c =
    let place : Tabled → Option ℕ = λ t. position (λ k. bytes_eq c.args.name.now (string_bytes k)) t.names.keys in
    let kept = c.self.inside.tabled.value in
    c.get_index_of.ensures.index ∙ ap place c.deref.ensures ∙ position_number c.args.name.now kept.names.keys (map decl_of kept.property.decls.items) c.self.invariant.named
    ∙ ap (λ (p : Property). variable_number (property_of p).decls c.args.name.now) c.self.view_is
