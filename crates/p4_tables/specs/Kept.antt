-- What holds of the tables of a switch. Read `Faults` before it.
use Rattle.std.specs.Prelude.{◌≡◌, ◌≤◌, List, [], ◌∷◌, Bool, true, false, ◌||◌, if◌then◌else◌, nat_eq}
use Rattle.std.specs.List.{AllByRecursion}
use Rattle.table_shapes.specs.Shapes.{has_ternary, has_two_prefixes, has_action}
use Rattle.table_entries.specs.Entries.{Entry, same_keys}
use Rattle.p4_tables.specs.State.{Held, entries_in, written_in}
use Rattle.p4_tables.specs.Faults.{takes_entry}
use Rattle.p4_tables.specs.declared.state.TableState.TheInside.{Inside}

-- two entries do not stand in one table: they ask the same of all keys, or with a ternary key have one priority
abbrev pub clash : (has_ternary : Bool) → Entry → Entry → Bool
clash t e f = if t then nat_eq e.priority f.priority else same_keys e.keys f.keys

abbrev pub AreApart : (has_ternary : Bool) → List Entry → Type 0
AreApart t [] = Unit {0}
AreApart t (e ∷ es) = AllByRecursion (λ f. clash t e f ≡ false) es × AreApart t es

-- a table has one prefix at most, takes its entries, no two of them clash, and its default runs an action of its list, or
-- the one that is written; a `const` default is the one that is written
pub record IsSound (h : Held) : Type 0 where
  pub one_prefix : has_two_prefixes h.shape.keys ≡ false
  pub taken : AllByRecursion (λ e. takes_entry h.shape e ≡ true) h.listed
  pub apart : AreApart (has_ternary h.shape.keys) h.listed
  pub default : (nat_eq h.shape.written h.default.action || has_action h.shape.actions h.default.action) ≡ true
  pub fixed : h.shape.fixed ≡ true → h.default ≡ written_in h.shape

-- so does each, and all of them hold few
pub record AreSound (st : List Held) : Type 0 where
  pub each : AllByRecursion IsSound st
  pub few : entries_in st ≤ 65536

-- the number of entries is kept
pub record IsKept (s : Inside) : Type 0 where
  pub sound : AreSound s.tables.items
  pub count : s.count ≡ entries_in s.tables.items
