-- What holds of the tables of a switch. Read `State` before it.
use Rattle.std.specs.Prelude.{◌≡◌, ℕ, ◌<◌, List, length, map, true, ◌||◌, nat_eq}
use Rattle.std.specs.List.{AllByRecursion}
use Rattle.bit_values.specs.Bits.{Word}
use Rattle.p4_meaning.specs.Choice as choice
use Rattle.p4_meaning.specs.Choice.{IsChosen}
use Rattle.table_shapes.specs.Shapes.{has_ternary, has_action, have_widths, takes}
use Rattle.table_entries.specs.Entries.{named}
use Rattle.p4_tables.specs.State.{Held, held_at, written_in}

-- keys have the widths of a table's keys
abbrev pub HaveWidths : Held → List Word → Type 0
HaveWidths h keys = have_widths (map (λ k. k.value) h.shape.keys) keys ≡ true

-- at most one entry of a table is chosen for keys of its widths, whatever the actions are called
abbrev pub ChoicesAreUnique : List Held → Type 0
ChoicesAreUnique st =
    (n : ℕ) → n < length st → (keys : List Word) → HaveWidths (held_at st n) keys → (name : ℕ → List ℕ) (e f : choice.Entry) →
    (let chosen = IsChosen (has_ternary (held_at st n).shape.keys) (map (named name) (held_at st n).listed) keys in chosen e → chosen f → e ≡ f)

-- each entry of a table runs an action of its list with arguments of its widths, and the default one of the list, or the
-- one that is written; a `const` default is the one that is written
pub record IsListed (h : Held) : Type 0 where
  pub entries : AllByRecursion (λ e. takes h.shape.actions e.action e.args ≡ true) h.listed
  pub default : (nat_eq h.shape.written h.default.action || has_action h.shape.actions h.default.action) ≡ true
  pub fixed : h.shape.fixed ≡ true → h.default ≡ written_in h.shape

abbrev pub RunsListed : List Held → Type 0
RunsListed st = AllByRecursion IsListed st
