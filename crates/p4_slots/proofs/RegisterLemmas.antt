-- Registers at the start, by their numbers.
use Rattle.std.proofs.Common.{◌≡◌, ◌⊎◌, inl, inr, ℕ, zero, suc, List, [], ◌∷◌, map, Bool, if◌then◌else◌, refl, sym, ap, ◌∙◌, subst}
use Rattle.std.proofs.Math.Path.{fun_ext}
use Rattle.bit_values.specs.Bits.{Word}
use Rattle.bit_values.specs.Widths.{sound_width}
use Rattle.lex_text.specs.Names.{same_text}
use Rattle.p4_meaning.specs.Parts.{Cells}
use Rattle.p4_parts.specs.PartsIn.{cells_decl}
use Rattle.p4_parts.specs.declared.parts.Cells as declared
use Rattle.p4_meaning.specs.Pass.{start_cells, zero_cells}
use Rattle.p4_statements.specs.Cells.{cells_in}
use Rattle.slot_controls.specs.Callees.{AreWide, HaveWidth, named_cells}

-- the cells of registers, one by one
abbrev pub cells_from : List Cells → List (List Word)
cells_from cs = map (λ (c : Cells). zero_cells (sound_width c.width) c.count) cs

same_step : (b : Bool) (x y z : List Word) → y ≡ z → (if b then x else y) ≡ (if b then x else z)
same_step b x y z e = ap (λ l. if b then x else l) e

pub named_start : (cs : List Cells) (x : List ℕ) → cells_in (named_cells cs (cells_from cs)) x ≡ start_cells cs x
named_start [] x = refl
named_start (c ∷ cs) x = same_step (same_text c.name x) (zero_cells (sound_width c.width) c.count) _ _ (named_start cs x)

have_width : (w n : ℕ) → HaveWidth w (zero_cells w n)
have_width w zero = tt
have_width w (suc n) = (refl, have_width w n)

pub wide_start : (cs : List Cells) → AreWide cs (cells_from cs)
wide_start [] = tt
wide_start (c ∷ cs) = (have_width (sound_width c.width) c.count, wide_start cs)

pub named_starts : (cs : List Cells) (cells : List (List Word)) → cells ≡ cells_from cs → cells_in (named_cells cs cells) ≡ start_cells cs
named_starts cs cells e = ap (λ l. cells_in (named_cells cs l)) e ∙ fun_ext (named_start cs)

pub wide_starts : (cs : List Cells) (cells : List (List Word)) → cells ≡ cells_from cs → AreWide cs cells
wide_starts cs cells e = subst (AreWide cs) (sym e) (wide_start cs)

-- behind registers or cells that are through nothing is found
pub none_named : (ds : List declared.Cells) (cells : List (List Word)) (x : List ℕ) → (ds ≡ []) ⊎ (cells ≡ []) → cells_in (named_cells (map cells_decl ds) cells) x ≡ []
none_named [] cells x e = refl
none_named (d ∷ ds) [] x e = refl
none_named (d ∷ ds) (c ∷ cs) x (inl e) = absurd (cc)
none_named (d ∷ ds) (c ∷ cs) x (inr e) = absurd (cc)
