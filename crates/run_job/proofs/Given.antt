-- What is read of a case can be linked, where there is no fault.
use Rattle.std.proofs.Common.{◌≡◌, ℕ, zero, suc, ◌+◌, ◌*◌, ◌<◌, ◌≤◌, ◌^◌, List, length, sym, subst, ◌∙◌, arith}
use Rattle.std.proofs.Math.Nat.{suc-mul}
use Rattle.indus_tree.specs.Tree.{Property}
use Rattle.indus_tree.specs.Reports.{HasReportsBelow}
use Rattle.indus_reader.proofs.ReportNumbers.{reports_are_below}
use Rattle.indus_rules.specs.Rules as indus
use Rattle.flat_laws.specs.Meaning.{IsPlainProperty}
use Rattle.plain_texts.specs.Texts.{TextsArePlain, TextsDeclareWords}
use Rattle.p4_tree.specs.Tree.{Program}
use Rattle.p4_rules.specs.Limits.{cells}
use Rattle.p4_rules.specs.ProgramRules.{IsWellTyped}
use Rattle.p4_printer.specs.CanSpell.{CanSpell}
use Rattle.faultless_programs.specs.Within.{LeavesRoom}
use Rattle.linked_properties.specs.Linked.{AreTextNames}
use Rattle.network_file.specs.Network.{Network}
use Rattle.case_file.specs.Case.{Case}
use Rattle.job_course.specs.Course.{and_then}
use Rattle.property_course.specs.Files.{IsOfText, typed_property}
use Rattle.property_course.proofs.Checking.{is_of_text}
use Rattle.program_course.specs.Files.{IsInLimits, forwarding_program}
use Rattle.program_course.proofs.Spelling.{can_be_spelled}
use Rattle.case_course.specs.Course.{Ground, ground_course}

-- ---- the property

pub record IsFitProperty (p : Property) : Type 0 where
  pub typed : indus.IsWellTyped p
  pub plain : IsPlainProperty p
  pub reports : HasReportsBelow (2 ^ 16) p
  pub names : AreTextNames p.decls

module _ (plain : TextsArePlain) (words : TextsDeclareWords) (p : Property) where
  pub text_is_fit : indus.IsWellTyped p → IsOfText p → IsFitProperty p
  text_is_fit typed t =
      let wide : length t.text ≤ 4294967296 = omega (arith, t.short) in
      record {
        typed = typed;
        plain = plain t.text p wide t.spelled typed;
        reports = reports_are_below t.text p (2 ^ 16) t.short t.spelled;
        names = words t.text p t.spelled;
      }

  is_typed : (name : List ℕ) → (typed_property name).may p → indus.IsWellTyped p
  unfolding and_then
  is_typed name (tree, whole, typed) = let P : Property → Type 0 = λ x. indus.IsWellTyped x in subst P (sym typed.0) typed.1

  pub property_is_fit : (name : List ℕ) → (typed_property name).may p → IsFitProperty p
  property_is_fit name may = text_is_fit (is_typed name may) (is_of_text name p may)

-- ---- the program

pub record IsFitProgram (p : Program) : Type 0 where
  pub typed : IsWellTyped p
  pub spelled : CanSpell p
  pub leaves : LeavesRoom p

program_is_fit : (name : List ℕ) (p : Program) → cells p ≤ 4194304 → (forwarding_program name).may p → IsFitProgram p
unfolding and_then
program_is_fit name p few (tree, (whole, (text, short, spells), typed), limits) =
    let Q : Program → Type 0 = λ t. IsWellTyped t in
    let is : p ≡ whole = limits.0 ∙ typed.0 in
    let within : IsInLimits p = subst IsInLimits (sym limits.0) limits.1 in
    record {
      typed = subst Q (sym is) typed.1;
      spelled = can_be_spelled name p (tree, (whole, (text, short, spells), typed), limits);
      leaves = record { bytes = within.headers; digests = within.digests; cells = few };
    }

-- at one switch there are no more cells than at all
one_of_all : (k m n : ℕ) → 0 < k → k * m ≤ n → m ≤ n
one_of_all zero m n some h = absurd (omega (arith, some))
one_of_all (suc k) m n some h = let all : suc k * m ≡ k * m + m = suc-mul k m in omega (arith, all, h)

pub ground_is_fit : (name : List ℕ) (c : Case) (g : Ground) → 0 < length g.network.names → (ground_course name c).may g → IsFitProgram g.program
unfolding ground_course and_then
ground_is_fit name c g some (p, a, (n, (d, b, (read, e, within)), (ps, places, is))) =
    let P : Ground → Type 0 = λ h. 0 < length h.network.names → IsFitProgram h.program in
    subst P (sym is) (λ switches. program_is_fit c.program p (one_of_all (length n.names) (cells p) 4194304 switches (subst (λ (m : Network). length m.names * cells p ≤ 4194304) (sym within.0) within.1)) a) some
