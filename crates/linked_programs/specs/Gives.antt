-- What a lowering promises of its trees: under each scope in which a control of the linked program can stand, they are the
-- monitor's parts. The laws on parts are `MonitorLaws`. Read `Lowered` and `Reads` before it.
use Rattle.std.specs.Prelude.{◌≡◌, ◌⊎◌, codes, ℕ, List, [], ◌∷◌, ◌++◌, map, true, false, Some, None}
use Rattle.std.specs.List.{AllByRecursion}
use Rattle.bit_values.specs.Bits.{Word}
use Rattle.lex_text.specs.Names.{same_text}
use Rattle.p4_tree.specs.Tree.{done, Local, local_action, local_table, local_var, Top, header_type, register}
use Rattle.p4_tree.specs.declared.statement.PTy.{PTy}
use Rattle.p4_tree.specs.declared.statement.PTy.TheVariants as type
use Rattle.p4_meaning.specs.Standard.{headers_root, metadata_root, standard_root}
use Rattle.p4_meaning.specs.Store.{blank}
use Rattle.p4_meaning.specs.Statements.{start_of}
use Rattle.p4_meaning.specs.Scope.{Scope, Roots, first_name, constant_named, own_names, is_among}
use Rattle.p4_meaning.specs.Under.{stmts_under, settings_under}
use Rattle.p4_meaning.specs.Actions.{Action, action_named, actions_in}
use Rattle.p4_meaning.specs.Tables.{Table, table_named, tables_in}
use Rattle.p4_meaning.specs.Parts.{Cells, field_of, header_fields, registers_of}
use Rattle.own_code.specs.Regions.{is_mine}
use Rattle.own_programs.specs.OwnPrograms.{is_own}
use Rattle.monitor_laws.specs.Trees.{number}
use Rattle.monitor_laws.specs.Names.{rejects_register}
use Rattle.monitor_laws.specs.Telemetry.{mark_field}
use Rattle.monitor_laws.specs.Monitor.{Monitor, flag_locals}
use Rattle.linked_halves.specs.Statements.{vars_of}
use Rattle.linked_programs.specs.Lowered.{Lowered}
use Rattle.linked_programs.specs.Linked.{switch_name}
use Rattle.linked_programs.specs.Reads.{StmtsReadIn, LocalsReadIn}

-- the word that a switch's number is
abbrev pub switch_word : ℕ → Word
switch_word s = start_of (type.Bit 16) (Some (number 16 s)) blank

-- what is in scope where a monitor's declarations and statements stand, in a control of this name whose parameters have
-- these names. names: what the monitor declares in the control
pub record Sees (s : ℕ) (around : List ℕ) (r : Roots) (names : List (List ℕ)) (sc : Scope) : Type 0 where
  pub control : sc.control ≡ around
  pub roots : sc.roots ≡ r
  pub outer : sc.inner ≡ None
  -- of the monitor's names the control declares these alone. It declares no `digest`, by which reports are told, and no
  -- `NoAction`, which a table runs where no other default is written
  pub own : (x : List ℕ) → is_mine x ≡ true → is_among sc.own x ≡ is_among names x
  pub digest : is_among sc.own (codes "digest") ≡ false
  pub no_action : is_among sc.own (codes "NoAction") ≡ false
  -- of the constants whose names are the monitor's, there is the number of the switch alone
  pub switch : constant_named sc.constants switch_name ≡ Some (switch_word s)
  pub constants : (x : List ℕ) → is_mine x ≡ true → same_text switch_name x ≡ false → constant_named sc.constants x ≡ None

-- three names that stand for headers, metadata and standard metadata
pub record StandForRoots (r : Roots) (sc : Scope) : Type 0 where
  pub headers : first_name sc r.headers ≡ headers_root
  pub metadata : first_name sc r.metadata ≡ metadata_root
  pub standard : first_name sc r.standard ≡ standard_root

-- these names are the program's own
pub record AreOwnRoots (r : Roots) : Type 0 where
  pub headers : is_own r.headers ≡ true
  pub metadata : is_own r.metadata ≡ true
  pub standard : is_own r.standard ≡ true

-- a header type or a register, of a name of the monitor's
abbrev pub IsLoweredTop : Top → Type 0
IsLoweredTop (header_type p x fs) = is_mine x ≡ true
IsLoweredTop (register p r) = is_mine r.name ≡ true
IsLoweredTop _ = ⊥

-- an action, a table or a variable, of a name of the monitor's
abbrev pub IsLoweredLocal : Local → Type 0
IsLoweredLocal (local_action p a) = is_mine a.name ≡ true
IsLoweredLocal (local_table p t) = is_mine t.name ≡ true
IsLoweredLocal (local_var p ty x e) = is_mine x ≡ true
IsLoweredLocal _ = ⊥

-- the monitor's actions and tables, those of ingress and those of egress
pub record Halves : Type 0 where
  pub entry_actions : List Action
  pub exit_actions : List Action
  pub entry_tables : List Table
  pub exit_tables : List Table

-- the actions that names of the monitor's find
abbrev pub FindsMonitors : List Action → List Action → Type 0
FindsMonitors as' bs = (x : List ℕ) → is_mine x ≡ true → action_named as' x ≡ action_named bs x

module _ {T Z C : Type 0} (l : Lowered) (m : Monitor T Z C) (h : Halves) (ingress egress : List ℕ) (r q : Roots) where
  abbrev pub AtEntry : ℕ → Scope → Type 0
  AtEntry s sc = Sees s ingress r (own_names l.entry_locals) sc × StandForRoots r sc

  abbrev pub AtExit : ℕ → Scope → Type 0
  AtExit s sc = Sees s egress q (own_names l.exit_locals) sc × StandForRoots q sc

  -- r, q: the names of the parameters of ingress and of egress
  pub record GivesMonitor : Type 0 where
    pub marked : l.mark ≡ m.mark
    pub tops : AllByRecursion IsLoweredTop l.tops
    pub fields : (types : List (List ℕ × PTy)) → map (field_of types) (header_fields l.tops (codes "hydra_tele_t")) ≡ mark_field ∷ m.fields
    pub registers : (sc : Scope) → sc.own ≡ [] → registers_of sc l.tops ≡ m.registers
    pub entry_locals : AllByRecursion IsLoweredLocal l.entry_locals
    pub exit_locals : AllByRecursion IsLoweredLocal l.exit_locals
    -- the register that counts rejected packets is the linker's
    pub no_rejects : is_among (own_names l.exit_locals) rejects_register ≡ false
    -- statements and variables
    pub entry : (s : ℕ) (sc : Scope) → AtEntry s sc → stmts_under sc l.entry ≡ m.entry s
    pub exit : (s : ℕ) (sc : Scope) → AtExit s sc → stmts_under sc l.exit ≡ m.exit s
    pub entry_vars : (s : ℕ) (sc : Scope) → AtEntry s sc → settings_under sc l.entry_locals ≡ vars_of m.entry_locals done
    pub exit_vars : (s : ℕ) (sc : Scope) → AtExit s sc → settings_under sc l.exit_locals ≡ vars_of (flag_locals ++ m.exit_locals) done
    -- actions and tables
    pub actions : h.entry_actions ++ h.exit_actions ≡ m.actions
    pub tables : h.entry_tables ++ h.exit_tables ≡ m.tables
    pub entry_actions : (s : ℕ) (sc : Scope) → AtEntry s sc → actions_in sc l.entry_locals ≡ h.entry_actions
    pub exit_actions : (s : ℕ) (sc : Scope) → AtExit s sc → actions_in sc l.exit_locals ≡ h.exit_actions
    pub entry_tables : (s : ℕ) (sc : Scope) → AtEntry s sc → (as' : List Action) → FindsMonitors as' m.actions → tables_in sc as' l.entry_locals ≡ h.entry_tables
    pub exit_tables : (s : ℕ) (sc : Scope) → AtExit s sc → (as' : List Action) → FindsMonitors as' m.actions → tables_in sc as' l.exit_locals ≡ h.exit_tables
    pub apart_actions : (x : List ℕ) → (action_named h.entry_actions x ≡ None) ⊎ (action_named h.exit_actions x ≡ None)
    pub apart_tables : (x : List ℕ) → (table_named h.entry_tables x ≡ None) ⊎ (table_named h.exit_tables x ≡ None)
    pub actions_named : AllByRecursion (λ (a : Action). is_mine a.name ≡ true) m.actions
    pub registers_named : AllByRecursion (λ (c : Cells). is_mine c.name ≡ true) m.registers
    pub tables_named : AllByRecursion (λ (t : Table). is_mine t.name ≡ true) m.tables
    -- reads of the packet's length are written by the name of the standard metadata
    pub entry_reads : (s : ℕ) (sc : Scope) → AtEntry s sc → LocalsReadIn sc r l.entry_locals × StmtsReadIn sc r l.entry
    pub exit_reads : (s : ℕ) (sc : Scope) → AtExit s sc → LocalsReadIn sc q l.exit_locals × StmtsReadIn sc q l.exit
