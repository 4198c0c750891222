use Rattle.std.proofs.Common.{◌≡◌, ℕ, List, map, ap, ap₂, ◌∙◌}
use Rattle.p4_tree.specs.Tree.{Top}
use Rattle.p4_tree.specs.View.{top_of}
use Rattle.p4_tree.specs.declared.statement.PTy.{PTy}
use Rattle.p4_meaning.specs.Scope.{Scope}
use Rattle.p4_meaning.specs.Under.{behind_tops, no_scope}
use Rattle.p4_meaning.specs.Parts.{field_of, types_of}
use Rattle.p4_resolved.specs.Scopes.{at_top, scope_of}
use Rattle.p4_resolved.specs.declared.layer.Layer.{Layer}
use Rattle.p4_parts.specs.Headers.{header_with}
use Rattle.p4_parts.proofs.build.declared_in.Goals as goal

pub returns-clause-headers : goal.returns-clause-headers
returns-clause-headers c =
    let tops = map top_of c.args.p.now.tops.items in
    let types : (scope_of c.scope.result).types ≡ types_of tops =
    ap (λ (s : Scope). s.types) (c.scope.ensures ∙ ap (λ (l : Layer). at_top l) c.deref-2.ensures ∙ c.in_ok-layer.ensures ∙ ap (λ l. behind_tops no_scope (map top_of l)) c.deref.ensures.value) in
    c.in_ok-headers.ensures
    ∙ ap₂ (λ (ts : List (List ℕ × PTy)) (us : List Top). map (header_with ts us) c.struct_at.result.now) types (ap (map top_of) c.deref-3.ensures.value)
    ∙ ap (map (header_with (types_of tops) tops)) c.struct_at.ensures

pub returns-clause-metadata : goal.returns-clause-metadata
returns-clause-metadata c =
    let tops = map top_of c.args.p.now.tops.items in
    let types : (scope_of c.scope-2.result).types ≡ types_of tops =
    ap (λ (s : Scope). s.types) (c.scope-2.ensures ∙ ap (λ (l : Layer). at_top l) c.deref-4.ensures ∙ c.in_ok-layer.ensures ∙ ap (λ l. behind_tops no_scope (map top_of l)) c.deref.ensures.value) in
    c.in_ok-metadata.ensures
    ∙ ap (λ (ts : List (List ℕ × PTy)). map (field_of ts) c.struct_at-2.result.now) types
    ∙ ap (map (field_of (types_of tops))) c.struct_at-2.ensures
