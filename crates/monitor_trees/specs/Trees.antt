-- The trees of a whole property, as the linker takes them, and the promise that they are the parts of its monitor. Read `Gives`
-- of `linked_programs` before it, and `Trees` of `lower_blocks`.
use Rattle.std.specs.Prelude.{ℕ, List, ◌++◌, map}
use Rattle.p4_meaning.specs.Scope.{Roots}
use Rattle.tele_layout.specs.Telemetry.{first_byte}
use Rattle.linked_programs.specs.Lowered as linked
use Rattle.linked_programs.specs.Gives.{AreOwnRoots, Halves, GivesMonitor}
use Rattle.lowered_code.specs.Environment.{in_control}
use Rattle.lookup_tables.specs.Tables.{Lookup, action_for, table_for}
use Rattle.whole_properties.specs.Whole.{Given, init, tele, check, tele_first, check_first, lookups_of, lower_monitor}
use Rattle.whole_properties.specs.Asked.{IsGiven}
use Rattle.lower_blocks.specs.Trees.{Lowered, lowered_trees}

-- the first byte of the telemetry, and trees
abbrev pub marked : (mark : ℕ) → Lowered → linked.Lowered
marked m l =
    record { mark = m; tops = l.tops; entry_locals = l.entry_locals; exit_locals = l.exit_locals; entry = l.entry; exit = l.exit }

-- r, q: the names of the parameters of ingress and of egress
abbrev pub trees_of : Given → (r q : Roots) → linked.Lowered
trees_of g r q = marked (first_byte g.property.edition) (lowered_trees g (in_control r) (in_control q))

module _ (g : Given) where
  abbrev pub entry_lookups : List Lookup
  entry_lookups = lookups_of g g.ingress (init g) 0

  abbrev pub exit_lookups : List Lookup
  exit_lookups = lookups_of g g.egress (tele g) (tele_first g) ++ lookups_of g g.egress (check g) (check_first g)

  -- the actions and tables of ingress, and those of egress
  abbrev pub halves_of : Halves
  halves_of =
      record {
        entry_actions = map action_for entry_lookups;
        exit_actions = map action_for exit_lookups;
        entry_tables = map table_for entry_lookups;
        exit_tables = map table_for exit_lookups;
      }

-- the trees of a property are the parts of its monitor, in controls whose parameters have names of the program's own
abbrev pub TreesAreTheMonitor : Type 0
TreesAreTheMonitor =
    (g : Given) → IsGiven g → (r q : Roots) → AreOwnRoots r → AreOwnRoots q →
    GivesMonitor (trees_of g r q) (lower_monitor g) (halves_of g) g.ingress g.egress r q
