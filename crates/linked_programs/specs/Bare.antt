-- A lowering with nothing but the mark and the flags, of a monitor without anything of its own: it keeps all that is asked
-- of a lowering's trees, so that no promise contradicts another. Read `Gives` and `Spells` before it.
use Rattle.std.specs.Prelude.{codes, ℕ, List, [], ◌∷◌, map, None}
use Rattle.p4_tree.specs.Tree.{done, Local, local_var, header_type}
use Rattle.p4_tree.specs.declared.statement.PTy.{PTy}
use Rattle.p4_tree.specs.declared.statement.PTy.TheVariants as type
use Rattle.p4_meaning.specs.Scope.{Roots}
use Rattle.monitor_laws.specs.Names.{mark_name}
use Rattle.monitor_laws.specs.Monitor.{Monitor, flag_locals}
use Rattle.linked_programs.specs.Lowered.{Lowered}
use Rattle.linked_programs.specs.Gives.{AreOwnRoots, Halves, GivesMonitor}
use Rattle.linked_programs.specs.Spells.{SpellsLowered}

abbrev pub flag_local : PTy × List ℕ → Local
flag_local l = local_var 0 l.0 l.1 None

abbrev pub bare : Lowered
bare =
    record {
      mark = 72;
      tops = header_type 0 (codes "hydra_tele_t") ((type.Bit 8, mark_name) ∷ []) ∷ [];
      entry_locals = [];
      exit_locals = map flag_local flag_locals;
      entry = done;
      exit = done;
    }

abbrev pub bare_monitor : {T Z C : Type 0} → Monitor T Z C → Monitor T Z C
bare_monitor m = record m { mark = 72; fields = []; room = 0; registers = []; actions = []; tables = []; entry_locals = []; exit_locals = []; entry = λ s. done; exit = λ s. done }

abbrev pub no_halves : Halves
no_halves = record { entry_actions = []; exit_actions = []; entry_tables = []; exit_tables = [] }

pub record KeepsPromises {T Z C : Type 0} (m : Monitor T Z C) (ingress egress : List ℕ) (r q : Roots) : Type 0 where
  pub gives : GivesMonitor bare (bare_monitor m) no_halves ingress egress r q
  pub spells : SpellsLowered bare

abbrev pub PromisesCanBeKept : (T Z C : Type 0) → Type 0
PromisesCanBeKept T Z C = (m : Monitor T Z C) (ingress egress : List ℕ) (r q : Roots) → AreOwnRoots q → KeepsPromises m ingress egress r q
