-- Lines of switches and digests, one after the other.
use Rattle.std.proofs.Common.{◌≡◌, ℕ, ◌+◌, ◌<◌, ◌≤◌, List, [], ◌∷◌, ◌++◌, true, length, map, take, drop, get_or, Some, ap, sym, ◌∙◌}
use Rattle.std.specs.Prelude.{slice_get}
use Rattle.std.proofs.lemmas.Grind.{flat_map-append}
use Rattle.std.proofs.lemmas.List.{map-append, map_more}
use Rattle.p4_tree.specs.Tree.{Program}
use Rattle.p4_meaning.specs.Parts.{parts_of}
use Rattle.p4_meaning.specs.Pass.{Kept}
use Rattle.network_run.specs.Network.{Told}
use Rattle.report_writer.specs.Texts.{report_line, reports_of}
use Rattle.p4_types.specs.Numbers.{names, registers}
use Rattle.register_texts.specs.Rows.{registers_cells}
use Rattle.register_texts.proofs.Rows.{drop_at, drop_past}
use Rattle.forward_texts.specs.Rows.{report_of, switches_cells}

-- the switch of a number, and those behind it
pub switch_next :
    (p : Program) (keeps : ℕ → Kept) (ns : List (List ℕ)) (i : ℕ) (n : List ℕ) → slice_get ns i ≡ Some n →
    switches_cells p keeps i (drop i ns) ≡ registers_cells (λ x. true) n (keeps i).registers (names registers p) (parts_of p).registers ++ switches_cells p keeps (i + 1) (drop (i + 1) ns)
switch_next p keeps ns i n e = ap (switches_cells p keeps i) (drop_at ns i n e)

pub switches_past : (p : Program) (keeps : ℕ → Kept) (ns : List (List ℕ)) (i : ℕ) → length ns ≤ i → switches_cells p keeps i (drop i ns) ≡ []
switches_past p keeps ns i le = ap (switches_cells p keeps i) (drop_past ns i le)

-- ---- digests

-- one digest more
pub report_more : {A : Type 0} (names : List (List ℕ)) (view : A → Told) (text line : List ℕ) (xs : List A) (i : ℕ) (d : A) → i < length xs → text ≡ reports_of (map (report_of names) (map view (take i xs))) → line ≡ reports_of (report_of names (view (get_or xs i d)) ∷ []) → text ++ line ≡ reports_of (map (report_of names) (map view (take (i + 1) xs)))
report_more names view text line xs i d lt so_far line_is =
    let row = report_of names (view (get_or xs i d)) in
    let before = map (report_of names) (map view (take i xs)) in
    ap (λ t. t ++ line) so_far
    ∙ ap (λ l. reports_of before ++ l) line_is
    ∙ sym (flat_map-append report_line before (row ∷ []))
    ∙ ap reports_of (sym (ap (map (report_of names)) (map_more view xs i d lt) ∙ map-append (report_of names) (map view (take i xs)) (view (get_or xs i d) ∷ [])))
