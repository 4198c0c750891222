-- A program with other values, each of which may stand for the one before, breaks no rule where the given one breaks none;
-- what is counted of it stays, and it can be spelled where that can. Read `Knows` before it, `Rewritten` of
-- `rewritten_programs`, and `Replaced` of `p4_rule_laws`.
use Rattle.std.specs.Prelude.{◌≡◌, ℕ, List}
use Rattle.std.specs.List.{AllZip}
use Rattle.rule_tests.specs.Tests.{IsFine}
use Rattle.p4_tree.specs.Tree.{Stmts, Stmt, Local, Control, Top, Program}
use Rattle.p4_scopes.specs.Scopes.{Scope, core}
use Rattle.p4_statement_rules.specs.Statements.{after, stmt_tests, block_tests}
use Rattle.p4_statement_rules.specs.declared.rule.Part.{Part}
use Rattle.p4_declaration_rules.specs.Controls.{local_tests, after_local, locals_tests, after_locals, control_tests, top_tests, after_top}
use Rattle.p4_rules.specs.Limits.{header_bytes, most_of_program, cells}
use Rattle.p4_rules.specs.ProgramRules.{program_scope, IsWellTyped}
use Rattle.p4_rule_laws.specs.Replaced.{BlockReplaced}
use Rattle.p4_printer.specs.CanSpell.{CanSpell}
use Rattle.rewriting_laws.specs.Standing.{MayStandFor}
use Rattle.rewritten_programs.specs.Rewritten.{BlockRewritten, LocalRewritten, ControlRewritten, ProgramRewritten}
use Rattle.rewriting_rules.specs.Knows.{Knows}

-- what is known before the first declaration stays known behind each that breaks no rule
pub record ScopesAreKnown : Type 0 where
  pub first : Knows core
  pub tops : (main : List (List ℕ)) (s : Scope) → Knows s → (t : Top) → IsFine (top_tests main s t) → Knows (after_top s t)
  pub locals : (h : Part) (s : Scope) → Knows s → (l : Local) → IsFine (local_tests h s l) → Knows (after_local s l)
  pub statements : (h : Part) (s : Scope) → Knows s → (c : Stmt) → IsFine (stmt_tests h s c) → Knows (after s c)

-- statements with other values are statements with other expressions, as the laws of the rules know them; and what a
-- control declares leaves the same in sight
pub record PartsAreReplaced : Type 0 where
  pub blocks : (h : Part) (s : Scope) → Knows s → (a b : Stmts) → BlockRewritten MayStandFor a b → IsFine (block_tests h s a) → BlockReplaced s a b
  pub locals : (h : Part) (s : Scope) → Knows s → (ls ms : List Local) → AllZip (LocalRewritten MayStandFor) ls ms → IsFine (locals_tests h s ls) → IsFine (locals_tests h s ms)
  pub sights : (h : Part) (s : Scope) → Knows s → (ls ms : List Local) → AllZip (LocalRewritten MayStandFor) ls ms → IsFine (locals_tests h s ls) → after_locals s ms ≡ after_locals s ls
  pub controls : (h : Part) (s : Scope) → Knows s → (c d : Control) → ControlRewritten MayStandFor c d → IsFine (control_tests h s c) → IsFine (control_tests h s d)

-- so a program stays well typed
abbrev pub StaysWellTyped : Type 0
StaysWellTyped = (p q : Program) → ProgramRewritten MayStandFor p q → IsWellTyped p → IsWellTyped q

-- the most digests of a passage, the bytes of all headers and the cells of all registers stay
pub record CountsStay : Type 0 where
  pub digests : (p q : Program) → ProgramRewritten MayStandFor p q → IsWellTyped p → most_of_program q ≡ most_of_program p
  pub headers : (p q : Program) → ProgramRewritten MayStandFor p q → header_bytes (program_scope q) q ≡ header_bytes (program_scope p) p
  pub registers : (p q : Program) → ProgramRewritten MayStandFor p q → cells q ≡ cells p

-- what can be spelled can be spelled still
abbrev pub StaysSpelled : Type 0
StaysSpelled = (p q : Program) → ProgramRewritten MayStandFor p q → CanSpell p → CanSpell q
