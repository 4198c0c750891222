-- What a lowering promises for the rules, of a program that is linked. Read `Passes` and `Digests` before it, and `Linkable`
-- of `linked_hosts`.
use Rattle.std.specs.Prelude.{ℕ}
use Rattle.std.specs.List.{AllByRecursion}
use Rattle.p4_tree.specs.Tree.{Program}
use Rattle.p4_rules.specs.ProgramRules.{program_scope}
use Rattle.linked_programs.specs.Lowered.{Lowered}
use Rattle.linked_programs.specs.Linked.{control_roots, headers_type, metadata_type}
use Rattle.linked_programs.specs.Gives.{IsLoweredTop, IsLoweredLocal}
use Rattle.linked_hosts.specs.Linkable.{Linkable}
use Rattle.linked_rules.specs.Passes.{Passes}
use Rattle.linked_rules.specs.Digests.{Tells}

module _ (l : Lowered) (p : Program) (k : Linkable p) where
  -- its trees are fine in the program's ingress and egress, and declare what a lowering may declare
  pub record KeepsRules : Type 0 where
    pub passes :
        Passes l (program_scope p) (headers_type p) (metadata_type p) (control_roots k.ingress) (control_roots k.egress)
    pub tops : AllByRecursion IsLoweredTop l.tops
    pub entry_locals : AllByRecursion IsLoweredLocal l.entry_locals
    pub exit_locals : AllByRecursion IsLoweredLocal l.exit_locals

  -- what its statements tell there
  abbrev pub TellsIn : (e x : ℕ) → Type 0
  TellsIn e x =
      Tells l (program_scope p) (headers_type p) (metadata_type p) (control_roots k.ingress) (control_roots k.egress) e x
