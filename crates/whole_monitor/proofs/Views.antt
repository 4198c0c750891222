-- Words of the widths of fields fit header variables.
use Rattle.std.proofs.Common.{◌≡◌, ℕ, ◌<◌, ◌^◌, List, [], ◌∷◌, sym, ap, ◌∙◌, subst}
use Rattle.bit_values.specs.Bits.{Word}
use Rattle.bit_values.specs.Widths.{sound_width}
use Rattle.indus_tree.specs.Shapes.{HasWidth}
use Rattle.indus_types.specs.Views.{header_widths, HaveWidths}
use Rattle.p4_meaning.specs.Laws.{IsOf}
use Rattle.p4_meaning.proofs.Words.{sound}
use Rattle.linked_halves.specs.Widths.{AreOf}
use Rattle.linked_halves.proofs.Widths.{views_width}
use Rattle.whole_monitor.specs.Views.{FieldsGiveViews}

-- a word of a width that words have
has_width : (n : ℕ) (w : Word) → IsOf n w → HasWidth n w
has_width n w h =
    let same : sound_width n ≡ n = ap sound_width (sym h.width) ∙ sound w.width h.word.wide h.word.narrow ∙ h.width in
    record { width = h.width ∙ sym same; in_range = subst (λ k. w.value < 2 ^ k) (h.width ∙ sym same) h.word.in_range }

have_widths : (ns : List ℕ) (ws : List Word) → AreOf ns ws → HaveWidths ns ws
have_widths [] ws h = tt
have_widths (n ∷ ns) [] h = absurd h
have_widths (n ∷ ns) (w ∷ ws) h = (has_width n w h.0, have_widths ns ws h.1)

pub fields_give_views : FieldsGiveViews
fields_give_views g f are s h = have_widths (header_widths g.property.decls) _ (views_width f (header_widths g.property.decls) _ s h are)
