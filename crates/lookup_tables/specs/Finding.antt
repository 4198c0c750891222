-- What the tables of lookups do when they are applied, and what they hold. Read `Tables` before it, and `Lookups` of
-- `lowered_code`.
use Rattle.std.specs.Prelude.{◌≡◌, ℕ, suc, ◌≤◌, ◌^◌, List, [], ◌∷◌, map, false, Option, Some, None}
use Rattle.std.specs.List.{AllByRecursion}
use Rattle.bit_values.specs.Widths.{sound_width}
use Rattle.lex_text.specs.Names.{same_text}
use Rattle.indus_tree.specs.Tree.{Shape, one, set, dict, Decl}
use Rattle.indus_tree.specs.State.{Contents, single, members, pairs, shape_width}
use Rattle.p4_meaning.specs.Tables.{Chosen, Tables, calls_in}
use Rattle.indus_types.specs.StaticWidths.{GiveWidth}
use Rattle.table_entries.specs.Entries.{named, Act}
use Rattle.control_tables.specs.Contents as contents
use Rattle.lowered_code.specs.Names.{table_name, action_name, argument_name}
use Rattle.lowered_code.specs.Statements.{Var}
use Rattle.lowered_code.specs.Lookups.{IsLookup, Applies}
use Rattle.lookup_tables.specs.Tables.{Lookup, no_action, table_for, action_for, entries_for}

-- ---- when they are applied

-- numbers rise from one lookup to the next, from n on, and stay small
abbrev pub AreNumbered : (n : ℕ) → List Lookup → Type 0
AreNumbered n [] = n ≤ 2 ^ 64
AreNumbered n (l ∷ ls) = (n ≤ l.number) × AreNumbered (suc l.number) ls

-- no variable is the parameter of the lookup's action
abbrev pub IsSpare : List Var → Lookup → Type 0
IsSpare vars l = AllByRecursion (λ v. same_text (argument_name l.control l.number) v.1 ≡ false) vars

-- contents of which a variable that can be looked up gives values of its width
pub record CanBeFound (d : Decl) (k : Contents) : Type 0 where
  pub shape : IsLookup d.shape
  pub sound : sound_width (shape_width d.shape) ≡ shape_width d.shape
  pub gives : GiveWidth (shape_width d.shape) k

-- a lookup finds what its variable has, whatever other lookups there are, where its table holds that
abbrev pub TableFinds : List Lookup → Tables → List Var → Lookup → Type 0
TableFinds ls held vars l =
    IsSpare vars l → (k : Contents) → CanBeFound l.decl k → held (table_name l.control l.number) ≡ entries_for l k →
    Applies (calls_in (map action_for ls) (map table_for ls) held) vars l.control l.number l.decl k

abbrev pub TablesFindWhatIsLookedUp : Type 0
TablesFindWhatIsLookedUp =
    (ls : List Lookup) → AreNumbered 0 ls → (held : Tables) (vars : List Var) → AllByRecursion (TableFinds ls held vars) ls

-- ---- what they hold

-- contents are those of a variable of a shape
abbrev pub AreOf : Shape → Contents → Type 0
AreOf (one t) (single w) = Unit {0}
AreOf (set ts) (members ks) = Unit {0}
AreOf (dict ts t) (pairs es) = Unit {0}
AreOf s c = ⊥

-- a default by the action's name; with none that is given the miss stays
abbrev pub default_named : (ℕ → List ℕ) → Option Act → Chosen
default_named name None = no_action
default_named name (Some a) = record { action = name a.action; args = a.args }

-- it is what `control_tables` puts into a table of which the action has the number a
abbrev pub EntriesAreContents : Type 0
EntriesAreContents =
    (l : Lookup) (c : Contents) → AreOf l.decl.shape c →
    (name : ℕ → List ℕ) (a : ℕ) → name a ≡ action_name l.control l.number →
    entries_for l c ≡
    record {
      listed = map (named name) (contents.entries_for a c);
      default = default_named name (contents.default_for a c);
    }
