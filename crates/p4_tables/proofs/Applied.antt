-- What is chosen, the actions of tables, and keys under masks.
use Rattle.std.proofs.Common.{◌≡◌, ℕ, List, [], ◌∷◌, map, Bool, true, false, cond, Option, Some, None, refl, sym, ap₂, ◌∙◌, codes}
use Rattle.std.specs.Prelude.{◌||◌}
use Rattle.std.specs.List.{AllByRecursion}
use Rattle.std.proofs.lemmas.Bool.{false≢true, and_parts}
use Rattle.bit_values.specs.Bits.{Word}
use Rattle.lex_text.specs.Names.{same_text}
use Rattle.p4_meaning.specs.Choice as choice
use Rattle.p4_meaning.specs.Choice.{fits_keys, IsChosen, IsChoice, choice_of}
use Rattle.p4_meaning.specs.Tables as meaning
use Rattle.p4_meaning.specs.Tables.{Key, Table, Entries, table_named, key_words, chosen_runs, apply_if}
use Rattle.p4_meaning.proofs.Choices.{choice_is, below}
use Rattle.table_shapes.specs.Shapes.{Shape, is_ternary, has_ternary, are_for_keys, takes}
use Rattle.p4_tables.specs.Faults.{takes_entry}
use Rattle.table_entries.specs.Entries.{Entry, Act, named}
use Rattle.p4_tables.specs.State.{Held, held_at, no_table}
use Rattle.p4_tables.specs.Answers.{IsMiss}
use Rattle.p4_tables.specs.Programs.{kind_of, key_shapes}
use Rattle.value_shapes.specs.declared.values.ValueShape.{ValueShape}
use Rattle.p4_tables.specs.Laws.{ChoicesAreUnique, RunsListed}
use Rattle.p4_tables.specs.Kept.{IsSound, AreSound}
use Rattle.table_shapes.specs.declared.shape.KeyKind.TheVariants.{Exact, Lpm, Ternary}
use Rattle.p4_tables.proofs.Sound.{all_at}
use Rattle.p4_tables.proofs.Unique.{unique}

-- ---- the choice

-- a choice that fits is none of those that do not
nothing_fits : (t : Bool) (es : List choice.Entry) (ks : List Word) (e : choice.Entry) → IsChosen t es ks e → IsChoice t es ks None → ⊥
nothing_fits t es ks e chosen none = false≢true (sym (below t ks (λ f. fits_keys f.keys ks ≡ false) es e chosen.listed none) ∙ chosen.fits)

pub miss_chosen : (h : Held) (ks : List Word) (a : Act) → IsMiss h ks a → (name : ℕ → List ℕ) → choice_of (has_ternary h.shape.keys) (map (named name) h.listed) ks ≡ None
miss_chosen h ks a is name = go (choice_of (has_ternary h.shape.keys) (map (named name) h.listed) ks) (choice_is (has_ternary h.shape.keys) ks (map (named name) h.listed))
  where
    go : (o : Option choice.Entry) → IsChoice (has_ternary h.shape.keys) (map (named name) h.listed) ks o → o ≡ None
    go None none = refl
    go (Some f) chosen = absurd (nothing_fits (has_ternary h.shape.keys) (map (named name) h.listed) ks f chosen (is.chosen name))

pub choices_are_unique : (st : List Held) → AreSound st → ChoicesAreUnique st
choices_are_unique st sound n lt keys wide name e f ce cf = unique (held_at st n) name keys (all_at IsSound st n no_table sound.each lt) wide e f ce cf

-- ---- the actions of a table's list

taken_listed : (s : Shape) (es : List Entry) → AllByRecursion (λ e. takes_entry s e ≡ true) es → AllByRecursion (λ e. takes s.actions e.action e.args ≡ true) es
taken_listed s [] h = tt
taken_listed s (e ∷ es) h = ((and_parts (are_for_keys s.keys e.keys) (takes s.actions e.action e.args) h.0).1, taken_listed s es h.1)

pub runs_listed : (st : List Held) → AllByRecursion IsSound st → RunsListed st
runs_listed [] h = tt
runs_listed (g ∷ gs) h = (record { entries = taken_listed g.shape g.listed h.0.taken; default = h.0.default; fixed = h.0.fixed }, runs_listed gs h.1)

-- ---- keys under masks

-- the same keys are matched under masks
ternary_kind : (x : List ℕ) → is_ternary (kind_of x) ≡ same_text x (codes "ternary")
ternary_kind x = go (same_text x (codes "ternary")) (same_text x (codes "lpm"))
  where
    go : (t l : Bool) → is_ternary (cond t Ternary (cond l Lpm Exact)) ≡ t
    go true l = refl
    go false true = refl
    go false false = refl

pub same_ternary : (ks : List Key) (ws : List ValueShape) → has_ternary (key_shapes ks ws) ≡ meaning.has_ternary ks
same_ternary [] ws = refl
same_ternary (k ∷ ks) [] = ap₂ (λ (a b : Bool). a || b) (ternary_kind k.kind) (same_ternary ks [])
same_ternary (k ∷ ks) (w ∷ ws) = ap₂ (λ (a b : Bool). a || b) (ternary_kind k.kind) (same_ternary ks ws)
