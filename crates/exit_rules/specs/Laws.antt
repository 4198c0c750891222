-- A program without exits is well typed, and what is counted of it is the same. Read `Programs` and `Names` of
-- `exit_programs` before it, `ProgramRules` and `Limits` of `p4_rules`, and `Roles` of `p4_rule_laws`.
use Rattle.std.specs.Prelude.{◌≡◌, ℕ, List, [], ◌∷◌, Bool, true, false, ◌||◌, codes}
use Rattle.lex_text.specs.Names.{same_text}
use Rattle.rule_tests.specs.Tests.{IsFine}
use Rattle.p4_tree.specs.Tree.{Control, Top, control, Program}
use Rattle.p4_scopes.specs.Scopes.{Stands, function, Scope, core}
use Rattle.p4_scopes.specs.declared.thing.Function.TheVariants.{VerifyChecksum, UpdateChecksum}
use Rattle.p4_statement_rules.specs.Forms.{has_calls_alone}
use Rattle.p4_statement_rules.specs.declared.rule.Part.{Part}
use Rattle.p4_declaration_rules.specs.Controls.{part_in, control_tests, after_tops}
use Rattle.p4_rules.specs.Limits.{header_bytes, most_of_program, cells}
use Rattle.p4_rules.specs.ProgramRules.{program_scope, IsWellTyped}
use Rattle.p4_rule_laws.specs.Roles.{In}
use Rattle.exit_statements.specs.Without.{Exits}
use Rattle.exit_programs.specs.Programs.{control_without, program_without}
use Rattle.exit_programs.specs.Names.{HasGivenNames}

-- a program whose names are given ones stays well typed without exits
abbrev pub StaysWellTyped : Type 0
StaysWellTyped = (p : Program) → IsWellTyped p → HasGivenNames p → IsWellTyped (program_without p)

-- what a switch holds of a program is the same: digests of a passage, bytes of headers, and cells of registers
pub record CountsStay : Type 0 where
  pub digests : (p : Program) → IsWellTyped p → HasGivenNames p → most_of_program (program_without p) ≡ most_of_program p
  pub headers : (p : Program) → IsWellTyped p → HasGivenNames p → header_bytes (program_scope (program_without p)) (program_without p) ≡ header_bytes (program_scope p) p
  pub cells_same : (p : Program) → IsWellTyped p → HasGivenNames p → cells (program_without p) ≡ cells p

-- ---- controls that have their one call alone

-- one of the functions that verify and update checksums
abbrev pub stands_sums : Stands → Bool
stands_sums (function VerifyChecksum) = true
stands_sums (function UpdateChecksum) = true
stands_sums _ = false

-- only their own names stand for these functions
pub record HasOwnSums (s : Scope) : Type 0 where
  pub only : (x : List ℕ) → stands_sums (s (x ∷ [])) ≡ true → (same_text x (codes "verify_checksum") || same_text x (codes "update_checksum")) ≡ true

-- nothing is taken out of a fine control of such a part, in each scope of declarations at top level
pub record AloneStays : Type 0 where
  pub scopes : (ys : List Top) → HasOwnSums (after_tops core ys)
  pub controls : (m : Exits) (h : Part) (s : Scope) (c : Control) → HasOwnSums s → has_calls_alone h ≡ true → IsFine (control_tests h s c) → control_without m c ≡ c
  pub programs : (m : Exits) (p : Program) → IsWellTyped p → (q : ℕ) (c : Control) → In (control q c) p.tops → has_calls_alone (part_in p.main c.name) ≡ true → control_without m c ≡ c
