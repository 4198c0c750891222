-- How a variable of a switch is set, table by table: all tables of the variable are emptied first, so that what comes has room,
-- and then each is given the contents. This serves whoever sets it. Read `Numbers` before it.
use Rattle.std.specs.Prelude.{◌≡◌, ℕ, ◌<◌, ◌≤◌, List, [], length, true, nat_eq, drop, slice_get, Some}
use Rattle.std.specs.List.{AllByRecursion}
use Rattle.p4_meaning.specs.Parts.{Parts}
use Rattle.p4_tables.specs.State.{Held, held_at}
use Rattle.p4_tables.specs.Programs.{shapes}
use Rattle.indus_tree.specs.State.{Contents}
use Rattle.control_tables.specs.Contents.{entries_for}
use Rattle.control_maps.specs.Numbers.{Numbered, IsMapOf, set_in}

-- from `old` to `now` the tables of the variable among the first i of the map were emptied. Whatever they are set to then, it
-- is the same
pub record AreEmptied (f : Parts) (ns : List Numbered) (v : ℕ) (old now : List Held) (i : ℕ) : Type 0 where
  pub map : IsMapOf f now ns
  pub shapes : shapes now ≡ shapes old
  pub same : (c : Contents) → set_in ns v c now ≡ set_in ns v c old
  pub empty : (j : ℕ) (n : Numbered) → j < i → slice_get ns j ≡ Some n → nat_eq n.variable v ≡ true → (held_at now n.table).listed ≡ []

-- the variable's tables hold no more entries than with the contents
abbrev pub AreSmall : List Held → List Numbered → (variable : ℕ) → Contents → Type 0
AreSmall st ns v c = AllByRecursion (λ n. nat_eq n.variable v ≡ true → length (held_at st n.table).listed ≤ length (entries_for n.action c)) ns

-- from `old` to `now` the tables of the variable among the first i of the map were given the contents
pub record AreFilled (f : Parts) (ns : List Numbered) (v : ℕ) (c : Contents) (old now : List Held) (i : ℕ) : Type 0 where
  pub map : IsMapOf f now ns
  pub shapes : shapes now ≡ shapes old
  pub same : set_in (drop i ns) v c now ≡ set_in ns v c old
  pub small : AreSmall now (drop i ns) v c
