use Rattle.std.proofs.Common.{ℕ, List, [], ◌∷◌, map, ap, ◌∙◌}
use Rattle.p4_meaning.specs.Standard.{metadata_root}
use Rattle.p4_meaning.specs.Store.{Store}
use Rattle.p4_meaning.specs.Pass.{zero_fields, no_headers, with_standard}
use Rattle.p4_parts.specs.Headers.{field_in, header_in}
use Rattle.p4_packets.specs.Fields.{store_of}
use Rattle.p4_packets.proofs.begin.store_before.Goals as goal

pub returns : goal.returns
returns c =
    let p = c.args.p.now in
    c.in_ok-with_standard.ensures ∙ ap (λ (s : Store). with_standard c.args.port c.args.length s)
    (c.in_ok-zero_fields.ensures
    ∙ ap (λ (l : List (List ℕ)). zero_fields l (map field_in c.deref-3.result.now) (store_of c.no_headers.new.s)) (c.deref-2.ensures.value ∙ c.in_ok-path.ensures ∙ ap (λ (n : List ℕ). n ∷ []) c.in_ok-root.ensures)
    ∙ ap (λ l. zero_fields (metadata_root ∷ []) (map field_in l) (store_of c.no_headers.new.s)) c.deref-3.ensures.value
    ∙ ap (λ (s : Store). zero_fields (metadata_root ∷ []) (map field_in p.metadata.items) s)
    (c.in_ok-no_headers.ensures
    ∙ ap (λ l. no_headers (map header_in l) (store_of c.new-s.result)) c.deref.ensures.value
    ∙ ap (λ (s : Store). no_headers (map header_in p.headers.items) s) c.new-s.ensures))
