-- The promises can be kept: nearly all of a bare lowering is the monitor's by computation.
use Rattle.std.proofs.Common.{◌≡◌, inl, ℕ, List, false, cond, Option, None, arith, refl, ap₂, ◌∙◌}
use Rattle.p4_tree.specs.Tree.{var, done, next}
use Rattle.p4_tree.specs.declared.statement.PTy.TheVariants as type
use Rattle.p4_meaning.specs.Standard.{headers_root, metadata_root, standard_root}
use Rattle.p4_meaning.specs.Scope.{Inner, Roots, Scope, is_inner, inner_name, root_of, first_name as name_in}
use Rattle.p4_printer.specs.CanSpell.{IsName, CanSpellLocal}
use Rattle.p4_rule_laws.proofs.WiderLemmas.{old_is_other}
use Rattle.own_programs.specs.OwnPrograms.{is_own}
use Rattle.monitor_laws.specs.Names.{first_name, last_name, rejected_name}
use Rattle.monitor_laws.specs.Monitor.{Monitor}
use Rattle.linked_programs.specs.Gives.{AreOwnRoots, GivesMonitor}
use Rattle.linked_programs.specs.Spells.{SpellsLowered}
use Rattle.linked_programs.specs.Bare.{flag_local, bare, bare_monitor, no_halves, PromisesCanBeKept}

module _ {T Z C : Type 0} (m : Monitor T Z C) (ingress egress : List ℕ) (r q : Roots) (own : AreOwnRoots q) where
  -- a name of the monitor's is none of the parameters
  stays_mine : (x : List ℕ) → is_own x ≡ false → root_of q x ≡ x
  stays_mine x mine =
      λ j. cond (old_is_other is_own q.headers x own.headers mine j) headers_root (cond (old_is_other is_own q.metadata x own.metadata mine j) metadata_root (cond (old_is_other is_own q.standard x own.standard mine j) standard_root x))

  clear : (sc : Scope) → sc.inner ≡ None → sc.roots ≡ q → (x : List ℕ) → is_own x ≡ false → name_in sc x ≡ x
  clear sc outer roots x mine = ap₂ (λ (i : Option Inner) (rs : Roots). cond (is_inner i x) (inner_name i sc.control x) (root_of rs x)) outer roots ∙ stays_mine x mine

  bare_gives : GivesMonitor bare (bare_monitor m) no_halves ingress egress r q
  bare_gives =
      record {
        marked = refl;
        tops = (refl, tt);
        fields = λ types. refl;
        registers = λ sc e. refl;
        entry_locals = tt;
        exit_locals = (refl, (refl, (refl, tt)));
        no_rejects = refl;
        entry = λ s sc a. refl;
        exit = λ s sc a. refl;
        entry_vars = λ s sc a. refl;
        exit_vars = λ s sc a. λ j. next (var 0 type.Bool (clear sc a.0.outer a.0.roots first_name refl j) None) (next (var 0 type.Bool (clear sc a.0.outer a.0.roots last_name refl j) None) (next (var 0 type.Bool (clear sc a.0.outer a.0.roots rejected_name refl j) None) done));
        actions = refl;
        tables = refl;
        entry_actions = λ s sc a. refl;
        exit_actions = λ s sc a. refl;
        entry_tables = λ s sc a as' f. refl;
        exit_tables = λ s sc a as' f. refl;
        apart_actions = λ x. inl refl;
        apart_tables = λ x. inl refl;
        actions_named = tt;
        registers_named = tt;
        tables_named = tt;
        entry_reads = λ s sc a. (tt, tt);
        exit_reads = λ s sc a. ((tt, (tt, (tt, tt))), tt);
      }

flag_spelled : (x : List ℕ) → IsName x → CanSpellLocal (flag_local (type.Bool, x))
flag_spelled x n = (refl, (tt, n, tt))

bare_spells : SpellsLowered bare
bare_spells =
    record {
      mark = omega arith;
      tops = (((refl, refl), ((omega arith, (refl, refl)), tt)), tt);
      entry_locals = tt;
      exit_locals = (flag_spelled first_name (refl, refl), (flag_spelled last_name (refl, refl), (flag_spelled rejected_name (refl, refl), tt)));
      entry = tt;
      exit = tt;
    }

pub promises_can_be_kept : (T Z C : Type 0) → PromisesCanBeKept T Z C
promises_can_be_kept T Z C m ingress egress r q own = record { gives = bare_gives m ingress egress r q own; spells = bare_spells }
