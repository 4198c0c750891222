-- Verify checksum, compute checksum and the deparser of a well-typed program stay as they are.
use Rattle.std.proofs.Common.{◌≡◌, ℕ, List, [], ◌∷◌, Bool, true, false, cond, Some, refl, sym, ap, ◌∙◌, inl, inr}
use Rattle.lex_text.specs.Names.{same_text}
use Rattle.p4_tree.specs.Tree.{Control, Top, constant, typedef, header_type, struct_type, register, parser, control, Program}
use Rattle.p4_meaning.specs.Parts.{control_named, named_in}
use Rattle.p4_statement_rules.specs.Forms.{has_calls_alone}
use Rattle.p4_declaration_rules.specs.Controls.{part_in}
use Rattle.p4_rules.specs.ProgramRules.{IsWellTyped}
use Rattle.p4_rule_laws.specs.Roles.{In}
use Rattle.p4_typing_laws.proofs.CallCounts.{text_is}
use Rattle.p4_typing_laws.proofs.FineUses.{parts_named}
use Rattle.exit_programs.specs.Programs.{exits_in}
use Rattle.exit_programs.specs.Laws.{Stays}
use Rattle.exit_programs.proofs.MainParts.{HaveParts, have_parts}
use Rattle.exit_rules.proofs.Alone.{alone_in}

broken : {A : Type 0} → true ≡ false → A
broken h = absurd (cc)

-- ---- the control of a name stands among the declarations

record Stands (ts : List Top) (x : List ℕ) (c : Control) : Type 0 where
  at : ℕ
  among : In (control at c) ts
  named : c.name ≡ x

further : (t : Top) (ts : List Top) (x : List ℕ) (c : Control) → Stands ts x c → Stands (t ∷ ts) x c
further t ts x c h = record { at = h.at; among = inr h.among; named = h.named }

found : (ts : List Top) (x : List ℕ) (c : Control) → control_named ts x ≡ Some c → Stands ts x c
found [] x c e = absurd (cc)
found (constant p t y v ∷ ts) x c e = further (constant p t y v) ts x c (found ts x c e)
found (typedef p t y ∷ ts) x c e = further (typedef p t y) ts x c (found ts x c e)
found (header_type p y fs ∷ ts) x c e = further (header_type p y fs) ts x c (found ts x c e)
found (struct_type p y fs ∷ ts) x c e = further (struct_type p y fs) ts x c (found ts x c e)
found (register p r ∷ ts) x c e = further (register p r) ts x c (found ts x c e)
found (parser p d ∷ ts) x c e = further (parser p d) ts x c (found ts x c e)
found (control p d ∷ ts) x c e = go (same_text d.name x) refl e (found ts x c)
  where
    go : (b : Bool) → same_text d.name x ≡ b → cond b (Some d) (control_named ts x) ≡ Some c → (control_named ts x ≡ Some c → Stands ts x c) → Stands (control p d ∷ ts) x c
    go true is f more = (let same : d ≡ c = cc f in record { at = p; among = inl (ap (control p) (sym same)); named = ap (λ (k : Control). k.name) (sym same) ∙ text_is d.name x is })
    go false is f more = further (control p d) ts x c (more f)

-- ---- what stays

module _ (p : Program) (w : IsWellTyped p) where
  main : HaveParts p.main
  main = have_parts p.tops p.main (parts_named p w)

  stays : (n : ℕ) → has_calls_alone (part_in p.main (named_in p.main n)) ≡ true → Stays p n
  stays n alone c e =
      (let h = found p.tops (named_in p.main n) c e in
      alone_in (exits_in p) p w h.at c h.among (ap (λ (x : List ℕ). has_calls_alone (part_in p.main x)) h.named ∙ alone))

  pub verify_stays : Stays p 1
  verify_stays = stays 1 (ap has_calls_alone main.verify)

  pub compute_stays : Stays p 4
  compute_stays = stays 4 (ap has_calls_alone main.compute)

  pub deparser_stays : Stays p 5
  deparser_stays = stays 5 (ap has_calls_alone main.deparser)
