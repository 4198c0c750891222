-- The parameters that a linked program names are there.
use Rattle.std.proofs.Common.{◌≡◌, inl, inr, ℕ, List, [], ◌∷◌, refl, subst}
use Rattle.rule_tests.specs.Tests.{IsFine}
use Rattle.p4_tree.specs.Tree.{Control, Top, constant, typedef, header_type, struct_type, register, parser, control, Program}
use Rattle.p4_tree.specs.declared.program.Param.{Param}
use Rattle.p4_meaning.specs.Scope.{roots_of, param_at, param_name}
use Rattle.p4_statement_rules.specs.declared.rule.Part.{Part}
use Rattle.p4_statement_rules.specs.declared.rule.Part.TheVariants as place
use Rattle.p4_declaration_rules.specs.Controls.{part_in}
use Rattle.p4_rules.specs.Mains.{parser_wants, apply_wants, checksum_wants, deparser_wants, Structs, structs_of, wanted_tests}
use Rattle.p4_rules.specs.ProgramRules.{program_scope, IsWellTyped}
use Rattle.p4_rule_laws.specs.Roles.{In, wants_of}
use Rattle.p4_rule_laws.proofs.RoleFacts.{parts_in_role}
use Rattle.p4_typing_laws.proofs.FineUses.{parts_named}
use Rattle.p4_printer.specs.CanSpell.{IsName, EachCan, SomeCan, CanSpellParam, CanSpellTop}
use Rattle.own_programs.proofs.Names.{broken}
use Rattle.exit_programs.proofs.MainParts.{HaveParts, have_parts}
use Rattle.linked_programs.specs.Linked.{Place, is_ingress, is_egress, is_deparser, is_other, place_in}
use Rattle.linked_programs.specs.Spells.{AreNames, HasNamesAt, HaveNames}
use Rattle.linked_programs.proofs.Spelled.{linked_can_be_spelled}
use Rattle.linked_hosts.specs.Spelled.{LinkedIsSpelled}
use Rattle.linked_hosts.proofs.ReadyByRules.{IsAtPlace, place_part}

module _ (p : Program) (well : IsWellTyped p) (parts : HaveParts p.main) where
  abbrev R : Structs
  R = structs_of (program_scope p) p

  parser_names : (qs : List Param) → IsFine (wanted_tests p.at R parser_wants qs) → SomeCan CanSpellParam qs → IsName (param_name (param_at qs 0)) × AreNames (roots_of qs 1 2 3)
  parser_names [] x h = absurd h
  parser_names (k ∷ []) x h = broken x.1
  parser_names (k ∷ a ∷ []) x h = broken x.1.1
  parser_names (k ∷ a ∷ c ∷ []) x h = broken x.1.1.1
  parser_names (k ∷ a ∷ c ∷ d ∷ rest) x h = (h.0.1, record { headers = h.1.0.1; metadata = h.1.1.0.1; standard = h.1.1.1.0.1 })

  apply_names : (qs : List Param) → IsFine (wanted_tests p.at R apply_wants qs) → SomeCan CanSpellParam qs → AreNames (roots_of qs 0 1 2)
  apply_names [] x h = absurd h
  apply_names (a ∷ []) x h = broken x.1
  apply_names (a ∷ c ∷ []) x h = broken x.1.1
  apply_names (a ∷ c ∷ d ∷ rest) x h = record { headers = h.0.1; metadata = h.1.0.1; standard = h.1.1.0.1 }

  emit_names : (qs : List Param) → IsFine (wanted_tests p.at R deparser_wants qs) → SomeCan CanSpellParam qs → IsName (param_name (param_at qs 0)) × IsName (param_name (param_at qs 1))
  emit_names [] x h = absurd h
  emit_names (k ∷ []) x h = broken x.1
  emit_names (k ∷ a ∷ rest) x h = (h.0.1, h.1.0.1)

  sum_names : (qs : List Param) → IsFine (wanted_tests p.at R checksum_wants qs) → SomeCan CanSpellParam qs → IsName (roots_of qs 0 1 2).metadata
  sum_names [] x h = absurd h
  sum_names (a ∷ []) x h = broken x.1
  sum_names (a ∷ c ∷ rest) x h = h.1.0.1

  control_names : (q : ℕ) (c : Control) → In (control q c) p.tops → SomeCan CanSpellParam c.params → HasNamesAt (place_in p.main c.name) c
  control_names q c within h = go (place_in p.main c.name) (place_part p well parts c.name (parts_in_role.controls p well q c within))
    where
      params_at : (k : Part) → part_in p.main c.name ≡ k → IsFine (wanted_tests p.at R (wants_of k) c.params)
      params_at k is = subst (λ (g : Part). IsFine (wanted_tests p.at R (wants_of g) c.params)) is (parts_in_role.control_params p well q c within)

      go : (k : Place) → IsAtPlace p well parts k (part_in p.main c.name) → HasNamesAt k c
      go is_ingress e = apply_names c.params (params_at place.Apply e) h
      go is_egress e = apply_names c.params (params_at place.Apply e) h
      go is_deparser e = emit_names c.params (params_at place.Deparser e) h
      go is_other (inl e) = sum_names c.params (params_at place.Verify e) h
      go is_other (inr e) = sum_names c.params (params_at place.Compute e) h

  have_names : (ts : List Top) → ((y : Top) → In y ts → In y p.tops) → EachCan CanSpellTop ts → HaveNames p.main ts
  have_names [] within h = tt
  have_names (constant q u x e ∷ ts) within h = have_names ts (λ y k. within y (inr k)) h.1
  have_names (typedef q u x ∷ ts) within h = have_names ts (λ y k. within y (inr k)) h.1
  have_names (header_type q x fs ∷ ts) within h = have_names ts (λ y k. within y (inr k)) h.1
  have_names (struct_type q x fs ∷ ts) within h = have_names ts (λ y k. within y (inr k)) h.1
  have_names (register q d ∷ ts) within h = have_names ts (λ y k. within y (inr k)) h.1
  have_names (parser q d ∷ ts) within h = (parser_names d.params (parts_in_role.parser_params p well q d (within (parser q d) (inl refl))) h.0.1, have_names ts (λ y k. within y (inr k)) h.1)
  have_names (control q c ∷ ts) within h = (control_names q c (within (control q c) (inl refl)) h.0.1, have_names ts (λ y k. within y (inr k)) h.1)

pub linked_is_spelled : LinkedIsSpelled
linked_is_spelled l size s links p g low a b c =
    linked_can_be_spelled l size s links p low (have_names p g.typed (have_parts p.tops p.main (parts_named p g.typed)) p.tops (λ y k. k) g.spelled.tops) g.spelled a b c
