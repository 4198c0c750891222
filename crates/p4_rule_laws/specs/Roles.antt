-- What parameters the parts of a well-typed program have. Read `Mains` of `p4_rules` before it.
use Rattle.std.specs.Prelude.{◌≡◌, ◌⊎◌, ℕ, List, [], ◌∷◌, Bool, true, false, Some}
use Rattle.rule_tests.specs.Tests.{IsFine}
use Rattle.p4_tree.specs.Tree.{Control, Parser, Top, parser, control, Program}
use Rattle.p4_meaning.specs.Parts.{parser_named, control_named}
use Rattle.p4_statement_rules.specs.declared.rule.Part.{Part}
use Rattle.p4_statement_rules.specs.declared.rule.Part.TheVariants as place
use Rattle.p4_declaration_rules.specs.Controls.{part_in}
use Rattle.p4_rules.specs.Mains.{Wanted, parser_wants, checksum_wants, apply_wants, deparser_wants, structs_of, wanted_tests}
use Rattle.p4_rules.specs.ProgramRules.{program_scope, IsWellTyped}

-- what is wanted of a control's parameters, by the part that it is
abbrev pub wants_of : Part → List Wanted
wants_of place.Verify = checksum_wants
wants_of place.Apply = apply_wants
wants_of place.Compute = checksum_wants
wants_of place.Deparser = deparser_wants
wants_of _ = []

-- a control that `main` names
abbrev pub is_main_part : Part → Bool
is_main_part place.Verify = true
is_main_part place.Apply = true
is_main_part place.Compute = true
is_main_part place.Deparser = true
is_main_part _ = false

-- the declaration is one of the list
abbrev pub In : Top → List Top → Type 0
In y [] = ⊥
In y (z ∷ zs) = (y ≡ z) ⊎ In y zs

-- in a well-typed program the structs of headers and of metadata are in these roles, each control is a part that `main`
-- names, each parser and control is the one of its name, and their parameters are those of the architecture
pub record PartsAreInRole : Type 0 where
  pub headers : (p : Program) → IsWellTyped p → (structs_of (program_scope p) p).has_headers ≡ true
  pub metadata : (p : Program) → IsWellTyped p → (structs_of (program_scope p) p).has_metadata ≡ true
  pub controls : (p : Program) → IsWellTyped p → (q : ℕ) (c : Control) → In (control q c) p.tops → is_main_part (part_in p.main c.name) ≡ true
  pub control_params : (p : Program) → IsWellTyped p → (q : ℕ) (c : Control) → In (control q c) p.tops → IsFine (wanted_tests p.at (structs_of (program_scope p) p) (wants_of (part_in p.main c.name)) c.params)
  pub control_of_name : (p : Program) → IsWellTyped p → (q : ℕ) (c : Control) → In (control q c) p.tops → control_named p.tops c.name ≡ Some c
  pub parser_params : (p : Program) → IsWellTyped p → (q : ℕ) (d : Parser) → In (parser q d) p.tops → IsFine (wanted_tests p.at (structs_of (program_scope p) p) parser_wants d.params)
  pub parser_of_name : (p : Program) → IsWellTyped p → (q : ℕ) (d : Parser) → In (parser q d) p.tops → parser_named p.tops d.name ≡ Some d
