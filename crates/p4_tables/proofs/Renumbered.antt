-- A table that holds what another one holds, with actions of other numbers, is sound, and holds the same by names.
use Rattle.std.proofs.Common.{◌≡◌, ◌≢◌, ℕ, List, [], ◌∷◌, map, Bool, true, false, cond, refl, sym, ap, ap₂, subst, ◌∙◌, inl, inr}
use Rattle.std.specs.Prelude.{◌&&◌, ◌||◌, nat_eq}
use Rattle.std.specs.List.{AllByRecursion}
use Rattle.std.proofs.lemmas.Bool.{false≢true, eqb-true, eq-eqb}
use Rattle.std.proofs.lemmas.Bool.Decides.{eqb_tells}
use Rattle.bit_values.specs.Bits.{Word}
use Rattle.p4_meaning.specs.Choice as choice
use Rattle.p4_meaning.specs.Actions.{Action}
use Rattle.table_shapes.specs.Shapes.{ActionShape, Shape, has_ternary, are_for_keys, has_action, have_widths, takes}
use Rattle.table_entries.specs.Entries.{Entry, named}
use Rattle.p4_tables.specs.State.{Held}
use Rattle.p4_tables.specs.Faults.{takes_entry}
use Rattle.p4_tables.specs.Kept.{clash, AreApart, IsSound}
use Rattle.p4_tables.specs.Named.{action_name, entries_named}
use Rattle.p4_tables.specs.Programs.{action_place}
use Rattle.p4_tables.specs.Carried.{same_number, renumbered, act_renumbered, refilled, action_renumbered, shape_renumbered, ActionStands}

-- ---- actions by other numbers

nat_eq_other : (i j : ℕ) → i ≢ j → nat_eq i j ≡ false
nat_eq_other i j n = elim (eqb_tells i j) [ inl h ↦ absurd (n h.1) | inr h ↦ h.0 ]

same_test : (re : ℕ → ℕ) (a n : ℕ) → (re a ≡ re n → a ≡ n) → nat_eq (re a) (re n) ≡ nat_eq a n
same_test re a n one =
    elim (eqb_tells a n) [
      | inl h ↦ eq-eqb (re a) (re n) (ap re h.1) ∙ sym h.0
      | inr h ↦ nat_eq_other (re a) (re n) (λ e. h.1 (one e)) ∙ sym h.0
    ]

-- no other action of the list has the number
abbrev pub IsApart : (ℕ → ℕ) → List ActionShape → ℕ → Type 0
IsApart re xs n = AllByRecursion (λ x. re x.number ≡ re n → x.number ≡ n) xs

pub same_takes : (re : ℕ → ℕ) (xs : List ActionShape) (n : ℕ) (ws : List Word) → IsApart re xs n → takes (map (action_renumbered re) xs) (re n) ws ≡ takes xs n ws
same_takes re [] n ws h = refl
same_takes re (x ∷ xs) n ws h = ap₂ (λ (b t : Bool). cond b (have_widths x.params ws) t) (same_test re x.number n h.0) (same_takes re xs n ws h.1)

pub same_has : (re : ℕ → ℕ) (xs : List ActionShape) (n : ℕ) → IsApart re xs n → has_action (map (action_renumbered re) xs) (re n) ≡ has_action xs n
same_has re [] n h = refl
same_has re (x ∷ xs) n h = ap₂ (λ (b t : Bool). b || t) (same_test re x.number n h.0) (same_has re xs n h.1)

pub takes_has : (xs : List ActionShape) (n : ℕ) (ws : List Word) → takes xs n ws ≡ true → has_action xs n ≡ true
takes_has [] n ws e = e
takes_has (x ∷ xs) n ws e = go (nat_eq x.number n) e (takes_has xs n ws)
  where
    go : (b : Bool) → cond b (have_widths x.params ws) (takes xs n ws) ≡ true → (takes xs n ws ≡ true → has_action xs n ≡ true) → (b || has_action xs n) ≡ true
    go true f more = refl
    go false f more = more f

pub both_true : (a b : Bool) → (a && b) ≡ true → (a ≡ true) × (b ≡ true)
both_true true b h = (refl, h)
both_true false b h = absurd (false≢true h)

-- ---- entries that do not clash

all_free : (re : ℕ → ℕ) (t : Bool) (e : Entry) (es : List Entry) → AllByRecursion (λ f. clash t e f ≡ false) es → AllByRecursion (λ f. clash t (renumbered re e) f ≡ false) (map (renumbered re) es)
all_free re t e [] h = tt
all_free re true e (f ∷ fs) h = (h.0, all_free re true e fs h.1)
all_free re false e (f ∷ fs) h = (h.0, all_free re false e fs h.1)

all_apart : (re : ℕ → ℕ) (t : Bool) (es : List Entry) → AreApart t es → AreApart t (map (renumbered re) es)
all_apart re t [] h = tt
all_apart re t (e ∷ es) h = (all_free re t e es h.0, all_apart re t es h.1)

-- ---- actions that stand in both programs

module _ (from to : List Action) where
  listed_stands : (xs : List ActionShape) (n : ℕ) → AllByRecursion (ActionStands from to) (map (λ a. a.number) xs) → has_action xs n ≡ true → ActionStands from to n
  listed_stands [] n h e = absurd (false≢true e)
  listed_stands (x ∷ xs) n h e = go (nat_eq x.number n) refl e (listed_stands xs n h.1)
    where
      go : (b : Bool) → nat_eq x.number n ≡ b → (b || has_action xs n) ≡ true → (has_action xs n ≡ true → ActionStands from to n) → ActionStands from to n
      go true i f more = subst (ActionStands from to) (eqb-true x.number n i) h.0
      go false i f more = more f

  one_apart : (a n : ℕ) → ActionStands from to a → ActionStands from to n → same_number from to a ≡ same_number from to n → a ≡ n
  one_apart a n h k e =
      sym h.first ∙ (ap (action_place from) (sym h.there ∙ (ap (action_name to) e ∙ k.there)) ∙ k.first)

  each_apart : (xs : List ActionShape) (n : ℕ) → AllByRecursion (ActionStands from to) (map (λ a. a.number) xs) → ActionStands from to n → IsApart (same_number from to) xs n
  each_apart [] n h k = tt
  each_apart (x ∷ xs) n h k = (one_apart x.number n h.0 k, each_apart xs n h.1 k)

  module _ (h : Held) (sound : IsSound h) (stand : AllByRecursion (ActionStands from to) (h.shape.written ∷ map (λ a. a.number) h.shape.actions)) where
    taken_stands : (e : Entry) → takes_entry h.shape e ≡ true → ActionStands from to e.action
    taken_stands e t = listed_stands h.shape.actions e.action stand.1 (takes_has h.shape.actions e.action e.args (both_true _ _ t).1)

    one_taken : (e : Entry) → takes_entry h.shape e ≡ true → takes_entry (shape_renumbered (same_number from to) h.shape) (renumbered (same_number from to) e) ≡ true
    one_taken e t =
        let parts = both_true (are_for_keys h.shape.keys e.keys) (takes h.shape.actions e.action e.args) t in
        ap₂ (λ (x y : Bool). x && y) parts.0 (same_takes (same_number from to) h.shape.actions e.action e.args (each_apart h.shape.actions e.action stand.1 (taken_stands e t)) ∙ parts.1)

    all_taken : (es : List Entry) → AllByRecursion (λ e. takes_entry h.shape e ≡ true) es
        → AllByRecursion (λ e. takes_entry (shape_renumbered (same_number from to) h.shape) e ≡ true) (map (renumbered (same_number from to)) es)
    all_taken [] t = tt
    all_taken (e ∷ es) t = (one_taken e t.0, all_taken es t.1)

    -- the default is the one that is written, or one of the list
    default_in : (d : ℕ) → (nat_eq h.shape.written d || has_action h.shape.actions d) ≡ true
        → (nat_eq (same_number from to h.shape.written) (same_number from to d) || has_action (map (action_renumbered (same_number from to)) h.shape.actions) (same_number from to d)) ≡ true
    default_in d t = go (nat_eq h.shape.written d) refl t
      where
        from_list : (b : Bool) → has_action h.shape.actions d ≡ true → (b || has_action (map (action_renumbered (same_number from to)) h.shape.actions) (same_number from to d)) ≡ true
        from_list true e = refl
        from_list false e = same_has (same_number from to) h.shape.actions d (each_apart h.shape.actions d stand.1 (listed_stands h.shape.actions d stand.1 e)) ∙ e

        go : (b : Bool) → nat_eq h.shape.written d ≡ b → (b || has_action h.shape.actions d) ≡ true
            → (nat_eq (same_number from to h.shape.written) (same_number from to d) || has_action (map (action_renumbered (same_number from to)) h.shape.actions) (same_number from to d)) ≡ true
        go true i e = ap (λ b. b || has_action (map (action_renumbered (same_number from to)) h.shape.actions) (same_number from to d)) (eq-eqb (same_number from to h.shape.written) (same_number from to d) (ap (same_number from to) (eqb-true h.shape.written d i)))
        go false i e = from_list (nat_eq (same_number from to h.shape.written) (same_number from to d)) e

    default_stands : (d : ℕ) → (nat_eq h.shape.written d || has_action h.shape.actions d) ≡ true → ActionStands from to d
    default_stands d t = go (nat_eq h.shape.written d) refl t
      where
        go : (b : Bool) → nat_eq h.shape.written d ≡ b → (b || has_action h.shape.actions d) ≡ true → ActionStands from to d
        go true i e = subst (ActionStands from to) (eqb-true h.shape.written d i) stand.0
        go false i e = listed_stands h.shape.actions d stand.1 e

    -- a table of this shape that holds the same
    abbrev moved : Shape → Held
    moved s = record { shape = s; listed = map (renumbered (same_number from to)) h.listed; default = act_renumbered (same_number from to) h.default }

    pub refilled_sound : (g : Held) → g.shape ≡ shape_renumbered (same_number from to) h.shape → IsSound (refilled (same_number from to) g h)
    refilled_sound g is =
        subst (λ (s : Shape). IsSound (moved s)) (sym is) (record {
          one_prefix = sound.one_prefix;
          taken = all_taken h.listed sound.taken;
          apart = all_apart (same_number from to) (has_ternary h.shape.keys) h.listed sound.apart;
          default = default_in h.default.action sound.default;
          fixed = λ e. ap (act_renumbered (same_number from to)) (sound.fixed e);
        })

    -- ---- by names

    all_named : (es : List Entry) → AllByRecursion (λ e. takes_entry h.shape e ≡ true) es → map (named (action_name to)) (map (renumbered (same_number from to)) es) ≡ map (named (action_name from)) es
    all_named [] t = refl
    all_named (e ∷ es) t =
        ap₂ (λ (x : List ℕ) (rest : List choice.Entry). record { keys = e.keys; action = x; args = e.args; priority = e.priority } ∷ rest) (taken_stands e t.0).there (all_named es t.1)

    pub refilled_named : (g : Held) → entries_named (action_name to) (refilled (same_number from to) g h) ≡ entries_named (action_name from) h
    refilled_named g =
        ap₂ (λ (es : List choice.Entry) (x : List ℕ). record { listed = es; default = record { action = x; args = h.default.args } }) (all_named h.listed sound.taken) (default_stands h.default.action sound.default).there
