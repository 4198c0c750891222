-- What the tables' trees ask: a scalar's 0 is 0, and no name is in both halves.
use Rattle.std.proofs.Common.{◌≡◌, ◌⊎◌, inl, inr, ℕ, zero, suc, ◌<◌, ◌^◌, List, [], ◌∷◌, ◌++◌, map, Bool, true, false, cond, Some, None, refl, sym, ap, ◌∙◌, arith}
use Rattle.std.specs.List.{AllByRecursion}
use Rattle.bit_values.specs.Bits.{cast as cast_number, word}
use Rattle.bit_values.specs.Widths.{sound_width, either_width}
use Rattle.bit_values.proofs.BitsLemmas.{cast_of_small, cast-lt}
use Rattle.lex_text.specs.Names.{same_text}
use Rattle.p4_meaning.specs.Store.{blank}
use Rattle.p4_meaning.specs.Value.{value_of}
use Rattle.p4_meaning.specs.Actions.{action_named}
use Rattle.p4_meaning.specs.Tables.{table_named}
use Rattle.p4_typing_laws.proofs.CallCounts.{text_is, text_same}
use Rattle.monitor_laws.specs.Trees.{number}
use Rattle.lowered_code.specs.Names.{action_name, table_name}
use Rattle.lookup_tables.specs.Tables.{Lookup, action_for, table_for}
use Rattle.lookup_tables.specs.Finding.{AreNumbered}
use Rattle.lookup_tables.proofs.Named.{tables_differ}

either_same : (w : ℕ) → either_width w w ≡ w
either_same zero = refl
either_same (suc w) = refl

pub zero_is : (w : ℕ) → sound_width w ≡ w → value_of (number w 0) w blank ≡ record { width = w; value = 0 }
zero_is w sound =
    let at : sound_width (either_width w w) ≡ w = ap sound_width (either_same w) ∙ sound in
    let h = cast-lt w 0 in
    let low : 0 < 2 ^ w = omega (arith, h) in
    ap (λ (v : ℕ). word v (cast_number v 0)) at ∙ ap (word w) (cast_of_small w 0 low)

abbrev NoAction : Lookup → Lookup → Type 0
NoAction l m = same_text (action_name l.control l.number) (action_name m.control m.number) ≡ false

abbrev NoTable : Lookup → Lookup → Type 0
NoTable l m = same_text (table_name l.control l.number) (table_name m.control m.number) ≡ false

-- two actions have different names where the tables do
actions_differ : (n : ℕ) (l : Lookup) (ls : List Lookup) → AreNumbered n (l ∷ ls) → AllByRecursion (NoAction l) ls
actions_differ n l ls h = go ls (tables_differ n l ls h)
  where
    go : (ls : List Lookup) → AllByRecursion (NoTable l) ls → AllByRecursion (NoAction l) ls
    go [] h = tt
    go (m ∷ ls) h = (h.0, go ls h.1)

right_of : (P : Lookup → Type 0) (a b : List Lookup) → AllByRecursion P (a ++ b) → AllByRecursion P b
right_of P [] b h = h
right_of P (l ∷ a) b h = right_of P a b h.1

module _ (x : List ℕ) where
  no_action : (l : Lookup) (b : List Lookup) → action_name l.control l.number ≡ x → AllByRecursion (NoAction l) b → action_named (map action_for b) x ≡ None
  no_action l [] is h = refl
  no_action l (m ∷ b) is h = go (same_text (action_name m.control m.number) x) (λ z. text_same (action_name l.control l.number) (action_name m.control m.number) (is ∙ sym (text_is (action_name m.control m.number) x z))) (no_action l b is h.1)
    where
      go : (c : Bool) → (c ≡ true → same_text (action_name l.control l.number) (action_name m.control m.number) ≡ true) → action_named (map action_for b) x ≡ None → cond c (Some (action_for m)) (action_named (map action_for b) x) ≡ None
      go true k rest = absurd (let z : false ≡ true = sym h.0 ∙ k refl in cc z)
      go false k rest = rest

  no_table : (l : Lookup) (b : List Lookup) → table_name l.control l.number ≡ x → AllByRecursion (NoTable l) b → table_named (map table_for b) x ≡ None
  no_table l [] is h = refl
  no_table l (m ∷ b) is h = go (same_text (table_name m.control m.number) x) (λ z. text_same (table_name l.control l.number) (table_name m.control m.number) (is ∙ sym (text_is (table_name m.control m.number) x z))) (no_table l b is h.1)
    where
      go : (c : Bool) → (c ≡ true → same_text (table_name l.control l.number) (table_name m.control m.number) ≡ true) → table_named (map table_for b) x ≡ None → cond c (Some (table_for m)) (table_named (map table_for b) x) ≡ None
      go true k rest = absurd (let z : false ≡ true = sym h.0 ∙ k refl in cc z)
      go false k rest = rest

  pub actions_apart : (n : ℕ) (a b : List Lookup) → AreNumbered n (a ++ b) → (action_named (map action_for a) x ≡ None) ⊎ (action_named (map action_for b) x ≡ None)
  actions_apart n [] b h = inl refl
  actions_apart n (l ∷ a) b h = go (same_text (action_name l.control l.number) x) (λ z. text_is (action_name l.control l.number) x z) (actions_apart (suc l.number) a b h.1)
    where
      go : (c : Bool) → (c ≡ true → action_name l.control l.number ≡ x) → (action_named (map action_for a) x ≡ None) ⊎ (action_named (map action_for b) x ≡ None) → (cond c (Some (action_for l)) (action_named (map action_for a) x) ≡ None) ⊎ (action_named (map action_for b) x ≡ None)
      go true k r = inr (no_action l b (k refl) (right_of (NoAction l) a b (actions_differ n l (a ++ b) h)))
      go false k r = r

  pub tables_apart : (n : ℕ) (a b : List Lookup) → AreNumbered n (a ++ b) → (table_named (map table_for a) x ≡ None) ⊎ (table_named (map table_for b) x ≡ None)
  tables_apart n [] b h = inl refl
  tables_apart n (l ∷ a) b h = go (same_text (table_name l.control l.number) x) (λ z. text_is (table_name l.control l.number) x z) (tables_apart (suc l.number) a b h.1)
    where
      go : (c : Bool) → (c ≡ true → table_name l.control l.number ≡ x) → (table_named (map table_for a) x ≡ None) ⊎ (table_named (map table_for b) x ≡ None) → (cond c (Some (table_for l)) (table_named (map table_for a) x) ≡ None) ⊎ (table_named (map table_for b) x ≡ None)
      go true k r = inr (no_table l b (k refl) (right_of (NoTable l) a b (tables_differ n l (a ++ b) h)))
      go false k r = r
