-- How many tables and how many numbers there are. Read `Whole` before it.
use Rattle.std.specs.Prelude.{◌≡◌, ℕ, ◌+◌, ◌≤◌, List, [], ◌∷◌, true}
use Rattle.indus_types.specs.Sums.{is_v, lookups as text_lookups, property_weight}
use Rattle.lower_lists.specs.Names.{is_plain}
use Rattle.flat_laws.specs.Meaning.{IsPlainProperty}
use Rattle.lowered_code.specs.Statements.{block_end}
use Rattle.lookup_tables.specs.Tables.{Lookup}
use Rattle.whole_properties.specs.Whole.{Given, decls, check, check_first, lookups}

-- how many of the lookups are of a variable; each has a table
abbrev pub lookups_of : List ℕ → List Lookup → ℕ
lookups_of v [] = 0
lookups_of v (l ∷ ls) = is_v v l.decl.name + lookups_of v ls

-- a variable has no more tables than the property's text looks it up, also where a rule of types is broken
abbrev pub TablesAreFew : Type 0
TablesAreFew = (g : Given) (v : List ℕ) → is_plain v ≡ true → lookups_of v (lookups g) ≤ text_lookups g.property v

-- no more numbers are spent than the property weighs
abbrev pub NumbersAreFew : Type 0
NumbersAreFew =
    (g : Given) → IsPlainProperty g.property →
    block_end (decls g) (check g) (check_first g) ≤ property_weight g.property
