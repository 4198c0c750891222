-- Ingress and egress of a well-typed program use variables, actions and tables of their own alone. Read `Owned` of
-- `exit_programs` before it.
use Rattle.p4_tree.specs.Tree.{Program}
use Rattle.p4_rules.specs.ProgramRules.{IsWellTyped}
use Rattle.exit_programs.specs.Names.{HasGivenNames, HasPlainNames}
use Rattle.exit_programs.specs.Owned.{OwnsWhatItUses, ComputeIsPlain}

-- so it is of each well-typed program of plain names, none of which is kept for what is added
abbrev pub ControlsOwn : Type 0
ControlsOwn = (p : Program) → IsWellTyped p → HasGivenNames p → HasPlainNames p → OwnsWhatItUses p 2 × OwnsWhatItUses p 3 × ComputeIsPlain p
