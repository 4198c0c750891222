-- What a table chooses on a key is the lookup of the variable's contents. Read `Contents` before it, `Keys` of the
-- meaning of properties and `Choice` of that of programs.
use Rattle.std.specs.Prelude.{◌≡◌, ℕ, List, [], ◌∷◌, map, false, is_some, Option, Some, None}
use Rattle.std.specs.Option.{option_map_or}
use Rattle.bit_values.specs.Bits.{Word}
use Rattle.indus_tree.specs.State.{Contents, single, members, pairs, nothing_of}
use Rattle.indus_tree.specs.Keys.{held_in, found_in}
use Rattle.p4_meaning.specs.Choice as choice
use Rattle.p4_meaning.specs.Choice.{choice_of}
use Rattle.table_entries.specs.Entries.{named}
use Rattle.control_tables.specs.Contents.{entries_for, default_for}

-- what the table chooses on a key, whatever actions are called: its keys are exact, so none is ternary
abbrev pub chosen_in : (name : ℕ → List ℕ) → (action : ℕ) → Contents → List Word → Option choice.Entry
chosen_in name a c key = choice_of false (map (named name) (entries_for a c)) key

-- the word that an entry's action is given, and 0 of a width where none is chosen
abbrev pub first_or : Word → List Word → Word
first_or w [] = w
first_or w (x ∷ xs) = x

abbrev pub given_in : (width : ℕ) → Option choice.Entry → Word
given_in width e = option_map_or (λ e. first_or (nothing_of width) e.args) e (nothing_of width)

-- something holds of the entry that is chosen, where one is
abbrev pub OfChosen : (choice.Entry → Type 0) → Option choice.Entry → Type 0
OfChosen Holds None = Unit {0}
OfChosen Holds (Some e) = Holds e

pub record ChoiceIsLookup : Type 0 where
  -- a set's table hits exactly where the set has the key
  pub has : (name : ℕ → List ℕ) (a : ℕ) (keys : List (List Word)) (key : List Word)
      → is_some (chosen_in name a (members keys) key) ≡ held_in (members keys) key
  -- the first action of a dict's table is given what the dict has at the key, and where it has nothing there is a miss
  pub found : (name : ℕ → List ℕ) (a : ℕ) (es : List (List Word × Word)) (key : List Word) (width : ℕ)
      → given_in width (chosen_in name a (pairs es) key) ≡ found_in (pairs es) key width
  -- each entry that is chosen runs the first action
  pub runs : (name : ℕ → List ℕ) (a : ℕ) (c : Contents) (key : List Word)
      → OfChosen (λ e. e.action ≡ name a) (chosen_in name a c key)
  -- a scalar's table has no entry, and its default gives the value
  pub single : (name : ℕ → List ℕ) (a : ℕ) (w : Word) (key : List Word)
      → (chosen_in name a (single w) key ≡ None) × (default_for a (single w) ≡ Some (record { action = a; args = w ∷ [] }))
