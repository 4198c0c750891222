-- What holds of a program with other values, and that its counts are those of the given one.
use Rattle.std.proofs.Common.{Option, Result, Ok, Err, IfOk, sym, ◌∙◌}
use Rattle.p4_tree.specs.Tree.{Expr, Program}
use Rattle.p4_rules.specs.ProgramRules.{IsWellTyped}
use Rattle.p4_types.specs.Counts.{AreCounts}
use Rattle.p4_types.specs.declared.typed.Counts.{Counts}
use Rattle.p4_typing_laws.proofs.Fine.{typed_fine}
use Rattle.rewriting_laws.specs.Standing.{MayStandFor}
use Rattle.rewritten_programs.specs.Rewritten.{ProgramRewritten}
use Rattle.rewriting_rules.proofs.Programs.{digests_same, headers_same, cells_same, stays_well_typed}
use Rattle.rewriting_rules.proofs.Spelled.{stays_spelled}
use Rattle.rewriting_passages.proofs.Passages.{passages_stay}
use Rattle.simplify_rules.specs.Simplified.{IsSimplified}
use Rattle.simplify_programs.specs.Simplified.{IsSimplifiedProgram}
use Rattle.simplify_programs.proofs.Names.{names_stay}

pub counts_same : (p q : Program) (c : Counts) → ProgramRewritten MayStandFor p q → IsWellTyped p → AreCounts p c → AreCounts q c
counts_same p q c r h k =
    record {
      header_bytes = k.header_bytes ∙ sym (headers_same p q r);
      digest_bound = k.digest_bound ∙ sym (digests_same p q r (typed_fine p h));
      cells = k.cells ∙ sym (cells_same p q r);
    }

pub simplified : (A : Expr → Option Expr → Type 0) (p q : Program) → IsWellTyped p → ProgramRewritten (IsSimplified A) p q → ProgramRewritten MayStandFor p q → IsSimplifiedProgram A p q
simplified A p q h w r =
    record {
      walked = w;
      stands = r;
      typed = stays_well_typed p q r h;
      passages = λ names values. passages_stay p q r h names values;
      spelled = stays_spelled p q r;
      numbers = λ s. names_stay s p q r;
      digests = digests_same p q r (typed_fine p h);
      headers = headers_same p q r;
      registers = cells_same p q r;
    }

pub then_so : {A F : Type 0} (P Q : A → Type 0) (r : Result A F) → ((a : A) → P a → Q a) → IfOk r P → IfOk r Q
then_so P Q (Ok a) w h = w a h
then_so P Q (Err x) w h = tt
