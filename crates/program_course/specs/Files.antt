-- The file of a forwarding program, as steps of a command: which refusals there are, and what it gives. Read `Course` of
-- job_course, and `Lines`, before it.
use Rattle.std.specs.Prelude.{◌≡◌, ◌≢◌, ◌⊎◌, ℕ, ◌<◌, ◌≤◌, List, codes}
use Rattle.p4_tree.specs.Tree.{Program}
use Rattle.p4_statement_rules.specs.declared.rule.ProgramRule.{ProgramRule}
use Rattle.p4_decls.specs.Faults.{IsProgram, HasCause}
use Rattle.p4_decls.specs.declared.fault.ProgramFault.{ProgramFault}
use Rattle.p4_decls.specs.declared.fault.ProgramFault.TheVariants.{NoMemory}
use Rattle.p4_rules.specs.ProgramRules.{program_scope, IsWellTyped, BreaksFirst}
use Rattle.p4_rules.specs.Limits.{header_bytes, most_of_program}
use Rattle.job_course.specs.declared.status.Status.{Status}
use Rattle.job_course.specs.declared.status.Status.TheVariants.{BadProgram}
use Rattle.job_course.specs.declared.status.Area.TheVariants as area
use Rattle.job_course.specs.Course.{Course, file, decide, and_then}
use Rattle.job_course.specs.Lines.{cause_line}
use Rattle.program_course.specs.Lines.{fault_line, type_line}

-- the text is no program within the limits, for a cause that it has
abbrev pub IsMisread : (name text : List ℕ) → Status → (line : List ℕ) → Type 0
IsMisread name text s l = (s ≡ BadProgram) × ((f : ProgramFault) × (f ≢ NoMemory) × HasCause text f × (l ≡ fault_line name f))

-- a program's file, of at most 256 KiB
abbrev pub whole_program : (name : List ℕ) → Course Program
whole_program name = and_then (file name 262144 area.Program) (λ text. decide (IsProgram text) (IsMisread name text))

-- the tree breaks no rule of names and types
abbrev pub IsTyped : (tree p : Program) → Type 0
IsTyped tree p = (p ≡ tree) × IsWellTyped tree

-- the first rule that is broken in the text, with its place
abbrev pub IsIllTyped : (name : List ℕ) (tree : Program) → Status → (line : List ℕ) → Type 0
IsIllTyped name tree s l = (s ≡ BadProgram) × ((at : ℕ) × (r : ProgramRule) × BreaksFirst r at tree × (l ≡ type_line name at r))

abbrev pub typed_program : (name : List ℕ) → Course Program
typed_program name = and_then (whole_program name) (λ tree. decide (IsTyped tree) (IsIllTyped name tree))

-- headers have at most 2,048 bytes, and a passage gives at most 4,096 digests: a monitor's have room of their own
pub record IsInLimits (tree : Program) : Type 0 where
  pub headers : header_bytes (program_scope tree) tree ≤ 2048
  pub digests : most_of_program tree ≤ 4096

abbrev pub IsForwarding : (tree p : Program) → Type 0
IsForwarding tree p = (p ≡ tree) × IsInLimits tree

abbrev pub IsTooLarge : (name : List ℕ) (tree : Program) → Status → (line : List ℕ) → Type 0
IsTooLarge name tree s l =
    (s ≡ BadProgram) × (l ≡ cause_line area.Program name (codes "Limit")) × (IsInLimits tree → ⊥)

-- the file of a forwarding program
abbrev pub forwarding_program : (name : List ℕ) → Course Program
forwarding_program name = and_then (typed_program name) (λ tree. decide (IsForwarding tree) (IsTooLarge name tree))
