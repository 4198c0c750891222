-- Registers at the start.
use Rattle.std.proofs.Common.{◌≡◌, ℕ, List, [], ◌∷◌, map, refl, ap, ◌∙◌}
use Rattle.std.specs.Prelude.{if◌then◌else◌}
use Rattle.lex_text.specs.Names.{same_text}
use Rattle.bit_values.specs.Bits.{Word}
use Rattle.p4_meaning.specs.Parts.{Cells}
use Rattle.p4_meaning.specs.Pass.{start_cells}
use Rattle.p4_statements.specs.Runs.{Rows, cells_in}
use Rattle.p4_passages.specs.Rows.{row_at_start}

starts : (cs : List Cells) (x : List ℕ) → cells_in (map row_at_start cs) x ≡ start_cells cs x
starts [] x = refl
starts (c ∷ cs) x = ap (λ l. if same_text c.name x then (row_at_start c).1 else l) (starts cs x)

-- rows at the start
pub start_rows : (es : Rows) (cs : List Cells) → es ≡ map row_at_start cs → cells_in es ≡ start_cells cs
start_rows es cs e = ap cells_in e ∙ (λ i x. starts cs x i)
