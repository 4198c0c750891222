-- Worked rows: entries and defaults that tables take or refuse, what tables choose, and the tables of a program.
use Rattle.std.proofs.Common.{◌≡◌, ℕ, List, [], ◌∷◌, true, false, Some, None, refl, codes}
use Rattle.bit_values.specs.Bits.{Word, word}
use Rattle.p4_tree.specs.Tree.{num, flag, path, Action, Table, local_action, local_table, done, header_type, struct_type, control, Program}
use Rattle.p4_tree.specs.declared.statement.PTy.TheVariants.{Bit, Bool as Bool_, Named}
use Rattle.p4_tree.specs.declared.program.Way.TheVariants as way
use Rattle.p4_tree.specs.declared.program.Param.{Param}
use Rattle.p4_scopes.specs.Scopes.{declare, core}
use Rattle.p4_meaning.specs.Choice.{Match, exact, lpm, ternary}
use Rattle.table_shapes.specs.Shapes.{ActionShape, Shape}
use Rattle.table_entries.specs.Entries.{Entry}
use Rattle.p4_tables.specs.State.{Held, inserted, replaced, entries_in}
use Rattle.p4_tables.specs.Faults.{fault_in, default_fault_in}
use Rattle.p4_tables.specs.Programs.{state_before}
use Rattle.table_entries.specs.Walk.{found_in}
use Rattle.table_shapes.specs.declared.shape.KeyKind.TheVariants.{Exact, Lpm, Ternary}
use Rattle.table_shapes.specs.declared.shape.KeyShape.{KeyShape}
use Rattle.value_shapes.specs.declared.values.ValueShape.{ValueShape}
use Rattle.table_faults.specs.declared.entry.EntryFault.TheVariants.{NoSuchAction, WidthDiffers, SameEntry, SamePriority, TableLimit, ConstDefault}

-- ---- tables

abbrev bits : ℕ → ValueShape
bits n = record { width = n; is_truth = false }

abbrev truth : ValueShape
truth = record { width = 1; is_truth = true }

-- an action with a parameter of 4 bits, and one with none
abbrev listed_actions : List ActionShape
listed_actions = record { number = 2; params = bits 4 ∷ [] } ∷ record { number = 7; params = [] } ∷ []

abbrev table : List KeyShape → List Entry → Held
table ks es = record { shape = record { keys = ks; actions = listed_actions; written = 7; written_args = []; fixed = false }; listed = es; default = record { action = 7; args = [] } }

abbrev entry : List Match → ℕ → Entry
entry ms p = record { keys = ms; action = 7; args = []; priority = p }

-- keys of 4 bits by themselves and 8 bits by their first ones; and a key of 8 bits under a mask
abbrev by_prefix : List KeyShape
by_prefix = record { kind = Exact; value = bits 4 } ∷ record { kind = Lpm; value = bits 8 } ∷ []

abbrev by_mask : List KeyShape
by_mask = record { kind = Ternary; value = bits 8 } ∷ []

abbrev prefixed : ℕ → ℕ → ℕ → Entry
prefixed v n p = entry (exact (word 4 1) ∷ lpm (word 8 v) n ∷ []) p

abbrev masked : ℕ → ℕ → ℕ → Entry
masked v m p = entry (ternary (word 8 v) (word 8 m) ∷ []) p

-- ---- what an entry is refused for

abbrev of_action : ℕ → List Word → Entry
of_action n ws = record (prefixed 160 4 0) { action = n; args = ws }

not_listed : fault_in (table by_prefix []) 0 (of_action 3 []) ≡ Some NoSuchAction
not_listed = refl

no_args : fault_in (table by_prefix []) 0 (of_action 2 []) ≡ Some WidthDiffers
no_args = refl

wide_arg : fault_in (table by_prefix []) 0 (of_action 2 (word 5 1 ∷ [])) ≡ Some WidthDiffers
wide_arg = refl

good_arg : fault_in (table by_prefix []) 0 (of_action 2 (word 4 1 ∷ [])) ≡ None
good_arg = refl

-- the action is tested first
both_wrong : fault_in (table by_prefix []) 0 (entry [] 0) ≡ Some WidthDiffers
both_wrong = refl

action_first : fault_in (table by_prefix []) 0 (record (entry [] 0) { action = 3 }) ≡ Some NoSuchAction
action_first = refl

long_prefix : fault_in (table by_prefix []) 0 (prefixed 160 9 0) ≡ Some WidthDiffers
long_prefix = refl

whole_prefix : fault_in (table by_prefix []) 0 (prefixed 160 8 0) ≡ None
whole_prefix = refl

other_kind : fault_in (table by_mask []) 0 (entry (exact (word 8 1) ∷ []) 0) ≡ Some WidthDiffers
other_kind = refl

narrow_mask : fault_in (table by_mask []) 0 (entry (ternary (word 8 1) (word 7 1) ∷ []) 0) ≡ Some WidthDiffers
narrow_mask = refl

-- 1010 0000 and 1010 1111 have the same first 4 bits, and not the same first 5
same_first_bits : fault_in (table by_prefix (prefixed 160 4 0 ∷ [])) 1 (prefixed 175 4 9) ≡ Some SameEntry
same_first_bits = refl

longer_prefix : fault_in (table by_prefix (prefixed 160 4 0 ∷ [])) 1 (prefixed 175 5 0) ≡ None
longer_prefix = refl

-- a table with no ternary key does not look at priorities
no_priority : fault_in (table by_prefix (prefixed 160 4 3 ∷ [])) 1 (prefixed 16 4 3) ≡ None
no_priority = refl

-- 0000 1111 and 0000 0000 are the same under 1111 0000
same_under_mask : fault_in (table by_mask (masked 15 240 1 ∷ [])) 1 (masked 0 240 1) ≡ Some SameEntry
same_under_mask = refl

other_priority : fault_in (table by_mask (masked 15 240 1 ∷ [])) 1 (masked 0 240 2) ≡ None
other_priority = refl

other_mask : fault_in (table by_mask (masked 15 240 1 ∷ [])) 1 (masked 0 241 1) ≡ Some SamePriority
other_mask = refl

other_bits : fault_in (table by_mask (masked 15 240 1 ∷ [])) 1 (masked 16 240 1) ≡ Some SamePriority
other_bits = refl

full : fault_in (table by_prefix []) 65536 (prefixed 160 4 0) ≡ Some TableLimit
full = refl

not_full : fault_in (table by_prefix []) 65535 (prefixed 160 4 0) ≡ None
not_full = refl

-- ---- what a default is refused for

abbrev constant : Shape
constant = record { keys = []; actions = listed_actions; written = 7; written_args = []; fixed = true }

const_default : default_fault_in constant (record { action = 2; args = word 4 3 ∷ [] }) ≡ Some ConstDefault
const_default = refl

wide_default : default_fault_in constant (record { action = 2; args = word 8 3 ∷ [] }) ≡ Some WidthDiffers
wide_default = refl

other_default : default_fault_in constant (record { action = 3; args = [] }) ≡ Some NoSuchAction
other_default = refl

-- ---- what is held

two_inserted : entries_in (inserted (inserted (table by_prefix [] ∷ table by_mask [] ∷ []) 1 (masked 0 240 1)) 1 (masked 0 240 2)) ≡ 2
two_inserted = refl

default_kept : replaced (table by_mask (masked 0 0 5 ∷ []) ∷ []) 0 (masked 0 240 1 ∷ []) None ≡ table by_mask (masked 0 240 1 ∷ []) ∷ []
default_kept = refl

-- ---- what is chosen

-- 1010 1111 fits three prefixes, of which the longest is chosen, in whatever order they came
longest : found_in false (prefixed 160 4 9 ∷ prefixed 168 5 0 ∷ prefixed 0 0 99 ∷ []) (word 4 1 ∷ word 8 175 ∷ []) ≡ Some (prefixed 168 5 0)
longest = refl

highest : found_in true (masked 0 0 5 ∷ masked 175 255 1 ∷ []) (word 8 175 ∷ []) ≡ Some (masked 0 0 5)
highest = refl

none_fits : found_in false (prefixed 160 4 9 ∷ []) (word 4 2 ∷ word 8 175 ∷ []) ≡ None
none_fits = refl

-- ---- the tables of a program

abbrev param : List ℕ → List ℕ → Param
param t x = record { at = 0; way = way.Both; ty = Named t; name = x }

-- action set(bit<4> p, bool q) {}  table t { key = { hdr.e.x : lpm; meta.g : exact; } actions = { set; NoAction; } const default_action = set(3, true); }
abbrev set : Action
set = record { at = 0; name = codes "set"; params = (Bit 4, codes "p") ∷ (Bool_, codes "q") ∷ []; body = done }

abbrev one_table : Table
one_table =
    record {
      at = 0;
      name = codes "t";
      keys = (path 0 (codes "hdr" ∷ codes "e" ∷ codes "x" ∷ []), codes "lpm") ∷ (path 0 (codes "meta" ∷ codes "g" ∷ []), codes "exact") ∷ [];
      actions = codes "set" ∷ codes "NoAction" ∷ [];
      default = Some (codes "set", num 0 (record { width = 0; value = 3 }) ∷ flag 0 true ∷ []);
      fixed = true;
      size = None;
    }

-- header e_t { bit<8> x; }  struct metadata { bool g; }  struct headers { e_t e; }
abbrev program : Program
program =
    record {
      at = 0;
      tops =
          header_type 0 (codes "e_t") ((Bit 8, codes "x") ∷ [])
          ∷ struct_type 0 (codes "metadata") ((Bool_, codes "g") ∷ [])
          ∷ struct_type 0 (codes "headers") ((Named (codes "e_t"), codes "e") ∷ [])
          ∷ control 0 (record { at = 0; name = codes "c"; params = param (codes "headers") (codes "hdr") ∷ param (codes "metadata") (codes "meta") ∷ []; locals = local_action 0 set ∷ local_table 0 one_table ∷ []; apply = done })
          ∷ [];
      main = [];
    }

-- `set` has number 0, and `NoAction` stands behind it
started : state_before program ≡ record { shape = record { keys = record { kind = Lpm; value = bits 8 } ∷ record { kind = Exact; value = truth } ∷ []; actions = record { number = 0; params = bits 4 ∷ truth ∷ [] } ∷ record { number = 1; params = [] } ∷ []; written = 0; written_args = word 4 3 ∷ word 1 1 ∷ []; fixed = true }; listed = []; default = record { action = 0; args = word 4 3 ∷ word 1 1 ∷ [] } } ∷ []
unfolding state_before declare core
started = refl
