-- What a table chooses on a key is the lookup of the contents.
use Rattle.std.proofs.Common.{◌≡◌, ℕ, List, [], ◌∷◌, map, Bool, true, false, ◌&&◌, ◌||◌, if◌then◌else◌, nat_eq, Option, Some, None, is_some, refl, ap, ◌∙◌}
use Rattle.bit_values.specs.Bits.{Word}
use Rattle.indus_tree.specs.State.{Contents, single, members, pairs}
use Rattle.indus_tree.specs.Keys.{same_words, has_key, found}
use Rattle.p4_meaning.specs.Choice as choice
use Rattle.p4_meaning.specs.Choice.{exact, fits_keys, prefix_of, higher, choice_of}
use Rattle.table_entries.specs.Entries.{named}
use Rattle.control_tables.specs.Contents.{entry_for}
use Rattle.control_tables.specs.Laws.{chosen_in, given_in, OfChosen, ChoiceIsLookup}

-- exact keys fit where they are the same words
fits : (ks key : List Word) → fits_keys (map exact ks) key ≡ same_words ks key
fits [] [] = refl
fits [] (k ∷ key) = refl
fits (x ∷ ks) [] = refl
fits (x ∷ ks) (k ∷ key) = ap (λ b. nat_eq x.value k.value && b) (fits ks key)

-- exact keys have no prefix
no_prefix : (ks : List Word) → prefix_of (map exact ks) ≡ 0
no_prefix [] = refl
no_prefix (x ∷ ks) = no_prefix ks

-- an entry that is chosen runs the first action, and has no prefix
abbrev IsOurs : (ℕ → List ℕ) → ℕ → choice.Entry → Type 0
IsOurs name a e = (e.action ≡ name a) × (prefix_of e.keys ≡ 0)

module _ (name : ℕ → List ℕ) (a : ℕ) where
  -- an entry of exact keys is higher than what is found behind it
  first : (key args : List Word) (f : Option choice.Entry) → OfChosen (IsOurs name a) f → higher false (named name (entry_for a key args)) f ≡ named name (entry_for a key args)
  first key args None h = refl
  first key args (Some e) h = rw (no_prefix key, h.1) refl

  -- what stands at the front of the list, and what is found behind it
  front : (key args : List Word) (f : Option choice.Entry) (b : Bool) → OfChosen (IsOurs name a) f → OfChosen (IsOurs name a) (if b then Some (higher false (named name (entry_for a key args)) f) else f)
  front key args f true h = rw (first key args f h) (refl, no_prefix key)
  front key args f false h = h

  sets_ours : (ks : List (List Word)) (key : List Word) → OfChosen (IsOurs name a) (chosen_in name a (members ks) key)
  sets_ours [] key = tt
  sets_ours (k ∷ ks) key = front k [] (chosen_in name a (members ks) key) (fits_keys (map exact k) key) (sets_ours ks key)

  dicts_ours : (es : List (List Word × Word)) (key : List Word) → OfChosen (IsOurs name a) (chosen_in name a (pairs es) key)
  dicts_ours [] key = tt
  dicts_ours (e ∷ es) key = front e.0 (e.1 ∷ []) (chosen_in name a (pairs es) key) (fits_keys (map exact e.0) key) (dicts_ours es key)

  ours : (c : Contents) (key : List Word) → OfChosen (IsOurs name a) (chosen_in name a c key)
  ours (single w) key = tt
  ours (members ks) key = sets_ours ks key
  ours (pairs es) key = dicts_ours es key

  action_of : (o : Option choice.Entry) → OfChosen (IsOurs name a) o → OfChosen (λ e. e.action ≡ name a) o
  action_of None h = tt
  action_of (Some e) h = h.0

  hit : (e : choice.Entry) (f : Option choice.Entry) (b h : Bool) → is_some f ≡ h → is_some (if b then Some e else f) ≡ (b || h)
  hit e f true h is = refl
  hit e f false h is = is

  has : (ks : List (List Word)) (key : List Word) → is_some (chosen_in name a (members ks) key) ≡ has_key ks key
  has [] key = refl
  has (k ∷ ks) key =
      hit (higher false (named name (entry_for a k [])) (chosen_in name a (members ks) key)) (chosen_in name a (members ks) key) (fits_keys (map exact k) key) (has_key ks key) (has ks key)
      ∙ ap (λ b. b || has_key ks key) (fits k key)

  value : (key : List Word) (v : Word) (f : Option choice.Entry) (w : ℕ) (b : Bool) → OfChosen (IsOurs name a) f
      → given_in w (if b then Some (higher false (named name (entry_for a key (v ∷ []))) f) else f) ≡ (if b then v else given_in w f)
  value key v f w true h = rw (first key (v ∷ []) f h) refl
  value key v f w false h = refl

  found_there : (es : List (List Word × Word)) (key : List Word) (w : ℕ) → given_in w (chosen_in name a (pairs es) key) ≡ found es key w
  found_there [] key w = refl
  found_there (e ∷ es) key w =
      value e.0 e.1 (chosen_in name a (pairs es) key) w (fits_keys (map exact e.0) key) (dicts_ours es key)
      ∙ ap (λ b. if b then e.1 else given_in w (chosen_in name a (pairs es) key)) (fits e.0 key)
      ∙ ap (λ x. if same_words e.0 key then e.1 else x) (found_there es key w)

pub choice_is_lookup : ChoiceIsLookup
choice_is_lookup = record {
  has = λ name a ks key. has name a ks key;
  found = λ name a es key w. found_there name a es key w;
  runs = λ name a c key. action_of name a (chosen_in name a c key) (ours name a c key);
  single = λ name a w key. (refl, refl);
}
