-- The parameters of ingress and of egress can be spelled.
use Rattle.std.proofs.Common.{◌≡◌, ℕ, List, [], ◌∷◌, Bool, true, false, cond, Some, inl, inr, refl, ap, subst, ◌∙◌}
use Rattle.lex_text.specs.Names.{same_text}
use Rattle.rule_tests.specs.Tests.{IsFine}
use Rattle.own_programs.proofs.Names.{broken}
use Rattle.p4_tree.specs.Tree.{Control, Top, constant, typedef, header_type, struct_type, register, parser, control, Program}
use Rattle.p4_tree.specs.declared.program.Param.{Param}
use Rattle.p4_meaning.specs.Parts.{control_named, named_in}
use Rattle.p4_meaning.specs.Scope.{roots_of}
use Rattle.p4_statement_rules.specs.declared.rule.Part.{Part}
use Rattle.p4_statement_rules.specs.declared.rule.Part.TheVariants as place
use Rattle.p4_declaration_rules.specs.Controls.{part_in}
use Rattle.p4_rules.specs.Mains.{Structs, apply_wants, structs_of, wanted_tests}
use Rattle.p4_rules.specs.ProgramRules.{program_scope}
use Rattle.p4_rule_laws.specs.Roles.{In, wants_of}
use Rattle.p4_rule_laws.proofs.RoleFacts.{parts_in_role}
use Rattle.p4_typing_laws.proofs.CallCounts.{text_is}
use Rattle.p4_typing_laws.proofs.FineUses.{parts_named}
use Rattle.p4_printer.specs.CanSpell.{CanSpellParam, CanSpellTop, EachCan, SomeCan}
use Rattle.exit_programs.proofs.MainParts.{HaveParts, have_parts}
use Rattle.linked_programs.specs.Linked.{control_roots}
use Rattle.linked_programs.specs.Spells.{AreNames}
use Rattle.linked_hosts.specs.Linkable.{IsGiven, Linkable}

pub record RootsAreNames (p : Program) (k : Linkable p) : Type 0 where
  pub ingress : AreNames (control_roots k.ingress)
  pub egress : AreNames (control_roots k.egress)

-- the control of a name
record IsControl (ts : List Top) (x : List ℕ) (c : Control) : Type 0 where
  at : ℕ
  within : In (control at c) ts
  named : c.name ≡ x
  params : SomeCan CanSpellParam c.params

found : (ts : List Top) (x : List ℕ) (c : Control) → EachCan CanSpellTop ts → control_named ts x ≡ Some c → IsControl ts x c
found [] x c h e = absurd (cc e)
found (t ∷ ts) x c h e = by t h.0 e (λ i. let b = found ts x c h.1 i in record { at = b.at; within = inr b.within; named = b.named; params = b.params })
  where
    by : (y : Top) → CanSpellTop y → control_named (y ∷ ts) x ≡ Some c → (control_named ts x ≡ Some c → IsControl (y ∷ ts) x c) → IsControl (y ∷ ts) x c
    by (constant p u y v) s i more = more i
    by (typedef p u y) s i more = more i
    by (header_type p y fs) s i more = more i
    by (struct_type p y fs) s i more = more i
    by (register p d) s i more = more i
    by (parser p d) s i more = more i
    by (control p d) s i more = go (same_text d.name x) refl i more
      where
        go : (b : Bool) → same_text d.name x ≡ b → cond b (Some d) (control_named ts x) ≡ Some c → (control_named ts x ≡ Some c → IsControl (control p d ∷ ts) x c) → IsControl (control p d ∷ ts) x c
        go true n j more = subst (IsControl (control p d ∷ ts) x) (let same : d ≡ c = cc in same) (record { at = p; within = inl refl; named = text_is d.name x n; params = s.1 })
        go false n j more = more j

module _ (p : Program) (given : IsGiven p) where
  abbrev R : Structs
  R = structs_of (program_scope p) p

  apply_names : (qs : List Param) → IsFine (wanted_tests p.at R apply_wants qs) → SomeCan CanSpellParam qs → AreNames (roots_of qs 0 1 2)
  apply_names [] x h = absurd h
  apply_names (a ∷ []) x h = broken x.1
  apply_names (a ∷ c ∷ []) x h = broken x.1.1
  apply_names (a ∷ c ∷ d ∷ rest) x h = record { headers = h.0.1; metadata = h.1.0.1; standard = h.1.1.0.1 }

  at_place : (n : ℕ) (c : Control) → part_in p.main (named_in p.main n) ≡ place.Apply → control_named p.tops (named_in p.main n) ≡ Some c → AreNames (control_roots c)
  at_place n c is e =
      (let b = found p.tops (named_in p.main n) c given.spelled.tops e in
      let fine = parts_in_role.control_params p given.typed b.at c b.within in
      apply_names c.params (subst (λ (h : Part). IsFine (wanted_tests p.at R (wants_of h) c.params)) (ap (part_in p.main) b.named ∙ is) fine) b.params)

  parts : HaveParts p.main
  parts = have_parts p.tops p.main (parts_named p given.typed)

  pub roots_are_names : (k : Linkable p) → RootsAreNames p k
  roots_are_names k = record { ingress = at_place 2 k.ingress parts.ingress k.ready.ingress; egress = at_place 3 k.egress parts.egress k.ready.egress }
