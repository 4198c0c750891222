-- A program is the one that its text spells, or is refused for a cause that the text has.
use Rattle.std.proofs.Common.{◌≡◌, ◌≢◌, ℕ, List, Result, codes, refl, sym, subst}
use Rattle.lex_text.specs.declared.fault.LexFault.{LexFault}
use Rattle.p4_tree.specs.Tree.{Program}
use Rattle.p4_tree.specs.View.{program_of}
use Rattle.p4_tree.specs.declared.program.Program as code
use Rattle.p4_statement_rules.specs.declared.rule.ProgramRule.{ProgramRule}
use Rattle.p4_decls.specs.Faults.{IsProgram, HasCause}
use Rattle.p4_decls.specs.declared.fault.ProgramFault.{ProgramFault}
use Rattle.p4_decls.specs.declared.fault.ProgramFault.TheVariants.{NoMemory, Lex, Syntax, LeftOut, TooDeep}
use Rattle.p4_decls.proofs.OneAnswer.{one_program, no_program}
use Rattle.p4_rules.specs.ProgramRules.{IsWellTyped, BreaksFirst}
use Rattle.job_course.specs.declared.status.Status.TheVariants.{BadProgram}
use Rattle.job_course.specs.declared.status.Area.TheVariants as area
use Rattle.job_course.specs.Lines.{cause_line}
use Rattle.job_course.specs.Steps.{Judged, Settles, Rejects}
use Rattle.job_course.specs.declared.status.Stop.{Stop}
use Rattle.program_course.specs.Lines.{fault_line, type_line}
use Rattle.program_course.specs.Files.{IsMisread, IsTyped, IsIllTyped, IsInLimits, IsForwarding, IsTooLarge}

pub is_spelled : (name text : List ℕ) (t : Program) → IsProgram text t → Settles (IsProgram text) (IsMisread name text) t
is_spelled name text t given = record {
  given = given;
  alone = λ other w. one_program text t other given w;
  free = λ s l refused. refused.1.1 (no_program text refused.1.0 refused.1.2 t given);
}

pub is_misread : (name text line : List ℕ) (f : ProgramFault) → f ≢ NoMemory → HasCause text f → line ≡ fault_line name f → Rejects (IsProgram text) (IsMisread name text) BadProgram line
is_misread name text line f some cause e = record {
  kind = tt;
  admitted = (refl, (f, some, cause, e));
  given = λ t w. some (no_program text f cause t w);
  other = λ s l refused. refused.0;
}

pub is_typed : (name : List ℕ) (tree p : Program) → p ≡ tree → IsWellTyped tree → Settles (IsTyped tree) (IsIllTyped name tree) p
is_typed name tree p e fine = record {
  given = (e, fine);
  alone = λ other w. let x = w.0 in cc;
  free = λ s l refused. fine refused.1.1 refused.1.0 refused.1.2.broken;
}

pub is_ill_typed : (name line : List ℕ) (tree : Program) (at : ℕ) (r : ProgramRule) → BreaksFirst r at tree → line ≡ type_line name at r → Rejects (IsTyped tree) (IsIllTyped name tree) BadProgram line
is_ill_typed name line tree at r first e = record {
  kind = tt;
  admitted = (refl, (at, r, first, e));
  given = λ p w. w.1 r at first.broken;
  other = λ s l refused. refused.0;
}

pub is_forwarding : (name : List ℕ) (tree : Program) → IsInLimits tree → Settles (IsForwarding tree) (IsTooLarge name tree) tree
is_forwarding name tree small = record {
  given = (refl, small);
  alone = λ other w. sym w.0;
  free = λ s l refused. refused.2 small;
}

pub is_too_large : (name line : List ℕ) (tree : Program) → (IsInLimits tree → ⊥) → line ≡ cause_line area.Program name (codes "Limit") → Rejects (IsForwarding tree) (IsTooLarge name tree) BadProgram line
is_too_large name line tree large e = record {
  kind = tt;
  admitted = (refl, e, large);
  given = λ p w. large w.1;
  other = λ s l refused. refused.0;
}

-- what is said of bytes is said of the same text
pub of_text : (name bytes text : List ℕ) → bytes ≡ text → (r : Result code.Program Stop) → Judged (IsProgram bytes) (IsMisread name bytes) program_of r → Judged (IsProgram text) (IsMisread name text) program_of r
of_text name bytes text same r h = subst (λ bs. Judged (IsProgram bs) (IsMisread name bs) program_of r) same h

-- want of memory is no such fault
pub lex_some : (f : LexFault) → Lex f ≢ NoMemory
lex_some f e = absurd cc

pub syntax_some : (at_word : ℕ) → Syntax at_word ≢ NoMemory
syntax_some at_word e = absurd cc

pub left_some : (at_word : ℕ) (what : List ℕ) → LeftOut at_word what ≢ NoMemory
left_some at_word what e = absurd cc

pub deep_some : (at_word : ℕ) → TooDeep at_word ≢ NoMemory
deep_some at_word e = absurd cc
