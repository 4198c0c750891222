-- The monitor of the property. Read `Property` before it, and `MonitorLaws` of `monitor_laws`.
use Rattle.std.specs.Prelude.{◌≡◌, codes, ℕ, ◌<◌, ◌^◌, List, [], ◌∷◌, map, length, true, false, if◌then◌else◌, nat_eq}
use Rattle.std.specs.List.{AllByRecursion}
use Rattle.bit_values.specs.Bits.{Word, word}
use Rattle.lex_text.specs.Names.{same_text}
use Rattle.p4_tree.specs.Tree.{Expr, flag, path, negation, binary, slice, one, many, Stmt, Stmts, block, assign, choice, call, done, next, otherwise}
use Rattle.p4_tree.specs.declared.statement.Op.TheVariants.{Add, BitXor, Equal, Both}
use Rattle.p4_tree.specs.declared.statement.PTy.TheVariants as type
use Rattle.p4_meaning.specs.Standard.{headers_root}
use Rattle.p4_meaning.specs.Choice.{Entry, exact}
use Rattle.p4_meaning.specs.Actions.{Action}
use Rattle.p4_meaning.specs.Tables.{Table, Chosen, Entries, Tables}
use Rattle.p4_meaning.specs.Pass.{Kept}
use Rattle.linkage.specs.Linkage.{report_receiver, xor_with}
use Rattle.monitor_laws.specs.Names.{first_name, last_name, rejected_name}
use Rattle.monitor_laws.specs.Trees.{number, only_if}
use Rattle.monitor_laws.specs.Monitor.{Monitor}
use Rattle.sample_monitor.specs.Property.{Tele, sample_property}

-- ---- names

-- the header variable
abbrev pub kind_path : List (List ℕ)
kind_path = headers_root ∷ codes "own" ∷ codes "kind" ∷ []

-- a field of the telemetry
abbrev pub tele_path : List ℕ → List (List ℕ)
tele_path x = headers_root ∷ codes "hydra_tele" ∷ x ∷ []

abbrev pub five_path : List (List ℕ)
five_path = tele_path (codes "five")

abbrev pub count_path : List (List ℕ)
count_path = tele_path (codes "count")

abbrev pub front_path : List (List ℕ)
front_path = tele_path (codes "front")

abbrev pub back_path : List (List ℕ)
back_path = tele_path (codes "back")

-- the counter's register, and the variable that its cells are read into
abbrev pub counter_name : List ℕ
counter_name = codes "hydra_s_counter"

abbrev pub cell_name : List ℕ
cell_name = codes "hydra_cell"

-- the names of a lookup of the set: its table and its action, and the variables that hold its key and what it found
pub record Lookup : Type 0 where
  pub table : List ℕ
  pub action : List ℕ
  pub key : List ℕ
  pub found : List ℕ

-- the checker's lookup, and init's
abbrev pub checks : Lookup
checks = record { table = codes "hydra_t_0.Egress"; action = codes "hydra_a_0.Egress"; key = codes "hydra_k_0_0"; found = codes "hydra_f_0" }

abbrev pub starts : Lookup
starts = record { table = codes "hydra_t_1.Ingress"; action = codes "hydra_a_1.Ingress"; key = codes "hydra_k_1_0"; found = codes "hydra_f_1" }

-- ---- statements

abbrev pub variable : List ℕ → Expr
variable x = path 0 (x ∷ [])

abbrev pub apply : Lookup → Stmt
apply l = call 0 (l.table ∷ codes "apply" ∷ []) []

-- nothing is found, the key is set, and the table is applied
abbrev pub lookup : Lookup → Stmts → Stmts
lookup l more = next (assign 0 (l.found ∷ []) (number 1 0)) (next (assign 0 (l.key ∷ []) (path 0 kind_path)) (next (apply l) more))

abbrev pub take_five : Stmt
take_five = only_if (binary 0 Equal (variable starts.found) (number 1 1)) (next (assign 0 five_path (slice 0 (path 0 kind_path) 4 0)) done)

-- the cell that the low two of the five bits name
abbrev pub cell_index : Expr
cell_index = slice 0 (path 0 five_path) 1 0

-- a register holds cells xor 7, so that they are 7 where it holds 0
abbrev pub read_cell : Stmt
read_cell = call 0 (counter_name ∷ codes "read" ∷ []) (one 0 (variable cell_name) ∷ one 0 cell_index ∷ [])

abbrev pub turn_cell : Stmt
turn_cell = assign 0 (cell_name ∷ []) (binary 0 BitXor (variable cell_name) (number 8 7))

abbrev pub next_cell : Expr
next_cell = binary 0 BitXor (binary 0 Add (variable cell_name) (number 8 1)) (number 8 7)

abbrev pub write_cell : Stmt
write_cell = call 0 (counter_name ∷ codes "write" ∷ []) (one 0 cell_index ∷ one 0 next_cell ∷ [])

abbrev pub report : (number_of : ℕ) → List Expr → Stmt
report n es = call 0 (codes "digest" ∷ []) (one 0 (number 32 report_receiver) ∷ many 0 (number 16 n ∷ es) ∷ [])

abbrev pub tell_cell : Stmt
tell_cell = report 0 (variable cell_name ∷ variable first_name ∷ [])

abbrev pub tell_count : Stmt
tell_count = report 1 (path 0 count_path ∷ [])

-- the switch is pushed
abbrev pub push_full : (switch : ℕ) → Stmts
push_full s = next (assign 0 front_path (path 0 back_path)) (next (assign 0 back_path (number 8 s)) done)

abbrev pub push_second : (switch : ℕ) → Stmts
push_second s = next (assign 0 count_path (number 8 2)) (next (assign 0 back_path (number 8 s)) done)

abbrev pub push_first : (switch : ℕ) → Stmts
push_first s = next (assign 0 count_path (number 8 1)) (next (assign 0 front_path (number 8 s)) done)

abbrev pub has_count : ℕ → Expr
has_count n = binary 0 Equal (path 0 count_path) (number 8 n)

abbrev pub push : (switch : ℕ) → Stmt
push s = choice 0 (has_count 2) (block 0 (push_full s)) (otherwise (choice 0 (has_count 1) (block 0 (push_second s)) (otherwise (block 0 (push_first s)))))

-- the verdict
abbrev pub reject : Stmt
reject = only_if (binary 0 Both (binary 0 Equal (variable checks.found) (number 1 0)) (negation 0 (variable first_name))) (next (assign 0 (rejected_name ∷ []) (flag 0 true)) done)

abbrev pub check : Stmt
check = only_if (variable last_name) (lookup checks (next reject done))

-- ---- tables

abbrev pub no_action : Chosen
no_action = record { action = codes "NoAction"; args = [] }

abbrev pub table_for : Lookup → Table
table_for l =
    record {
      name = l.table;
      keys = record { value = variable l.key; kind = codes "exact" } ∷ [];
      actions = l.action ∷ codes "NoAction" ∷ [];
      default = no_action;
      fixed = false;
    }

abbrev pub action_for : Lookup → Action
action_for l = record { name = l.action; params = []; body = next (assign 0 (l.found ∷ []) (number 1 1)) done }

-- an entry for each member, and the miss
abbrev pub entry_for : Lookup → Word → Entry
entry_for l k = record { keys = exact k ∷ []; action = l.action; args = []; priority = 0 }

abbrev pub entries_for : Lookup → List Word → Entries
entries_for l ks = record { listed = map (entry_for l) ks; default = no_action }

-- the tables, where that of a lookup holds the members of a set
abbrev pub holding : Lookup → List Word → Tables → Tables
holding l ks held x = if same_text l.table x then entries_for l ks else held x

abbrev pub both_holding : List Word → Tables → Tables
both_holding ks held = holding checks ks (holding starts ks held)

-- ---- the monitor

abbrev pub sample : Monitor Tele (List ℕ) (List Word)
sample =
    record {
      property = sample_property;
      mark = 72;
      fields =
          record { name = codes "five"; width = 5 } ∷ record { name = codes "hydra_fill"; width = 3 } ∷ record { name = codes "count"; width = 8 }
          ∷ record { name = codes "front"; width = 8 } ∷ record { name = codes "back"; width = 8 } ∷ [];
      words = λ t. t.five ∷ word 3 0 ∷ t.count ∷ t.front ∷ t.back ∷ [];
      room = 4;
      registers = record { name = counter_name; width = 8; count = 4 } ∷ [];
      sensors = record { name = counter_name; cells = λ z. z; initial = 7 } ∷ [];
      actions = action_for checks ∷ action_for starts ∷ [];
      tables = table_for checks ∷ table_for starts ∷ [];
      controls = record { loaded = λ c held. both_holding (c 0) held; set = λ v ks held. if nat_eq v 0 then both_holding ks held else held };
      views = path 0 kind_path ∷ [];
      entry_locals = (type.Bit 8, starts.key) ∷ (type.Bit 1, starts.found) ∷ [];
      exit_locals = (type.Bit 8, cell_name) ∷ (type.Bit 8, checks.key) ∷ (type.Bit 1, checks.found) ∷ [];
      entry = λ s. lookup starts (next take_five done);
      exit = λ s. next read_cell (next turn_cell (next tell_cell (next write_cell (next (push s) (next tell_count (next check done))))));
    }

-- what a register's cell holds for a cell of the counter
abbrev pub kept_cell : ℕ → Word
kept_cell n = word 8 (xor_with 7 n)

-- a switch's counter and its set stand in its register and in both tables
pub record SampleKeeps (z : List ℕ) (c : ℕ → List Word) (b : Kept) : Type 0 where
  pub cells : b.registers counter_name ≡ map kept_cell z
  pub count : length z ≡ 4
  pub bytes : AllByRecursion (λ n. n < 2 ^ 8) z
  pub checked : b.tables checks.table ≡ entries_for checks (c 0)
  pub started : b.tables starts.table ≡ entries_for starts (c 0)
