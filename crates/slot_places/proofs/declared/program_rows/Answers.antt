use Rattle.std.proofs.Common.{◌≡◌, ℕ, List, [], ◌∷◌, ◌++◌, length, map, None, ap, ap₂, ◌∙◌}
use Rattle.p4_meaning.specs.Standard.{metadata_root}
use Rattle.p4_parts.specs.Headers.{field_in, header_in}
use Rattle.p4_parts.specs.PartsIn.{parts_in}
use Rattle.slot_terms.specs.Places.{Place, place_of}
use Rattle.slot_places.specs.ProgramRows.{field_rows, header_rows}
use Rattle.slot_places.proofs.LoopLemmas.{rows_whole}
use Rattle.slot_places.proofs.declared.program_rows.Goals as goal

pub returns : goal.returns
returns c =
    let R : List Place = map place_of c.in_ok-rows.rows.items in
    let S : List Place = map place_of c.push_fields.new.rows.items in
    let above : c.deref.result.now ≡ metadata_root ∷ [] = c.deref.ensures.value ∙ c.in_ok-path.ensures ∙ ap (λ (n : List ℕ). n ∷ []) c.in_ok-root.ensures in
    rows_whole (parts_in c.args.p.now) R S (map place_of c.push_headers.new.rows.items) c.in_ok-rows.ensures
    (c.in_ok-push_fields.ensures ∙ ap₂ (λ a fs. R ++ field_rows a None (map field_in fs) (length R)) above c.deref-2.ensures.value)
    (c.in_ok-push_headers.ensures ∙ ap (λ hs. S ++ header_rows (map header_in hs) 0 (length S)) c.deref-3.ensures.value)
