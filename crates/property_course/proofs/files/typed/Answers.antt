use Rattle.std.proofs.Common.{sym, subst}
use Rattle.indus_tree.specs.Tree.{Property}
use Rattle.indus_rules.specs.Rules.{IsWellTyped}
use Rattle.property_course.proofs.Checking.{is_typed, is_ill_typed}
use Rattle.property_course.proofs.files.typed.Goals as goal

pub returns-in-Ok-clause-judged : goal.returns-in-Ok-clause-judged
returns-in-Ok-clause-judged c = is_typed _ _ _ c.in-Ok.ensures.ok c.in-Ok.ensures.typed

pub returns-in_ok-word_text-in-Err-Type_-clause-judged : goal.returns-in_ok-word_text-in-Err-Type_-clause-judged
returns-in_ok-word_text-in-Err-Type_-clause-judged c =
    is_ill_typed _ _ _ _ _ (rw c.in-Err-Type_.field-0-is at c.in-Err-Type_.ensures.cause) (rw c.rule_word.ensures at c.in_ok-word_text-in-Err-Type_.ensures)

pub returns-in-Ok-clause-typed : goal.returns-in-Ok-clause-typed
returns-in-Ok-clause-typed c =
    let P : Property → Type 0 = λ p. IsWellTyped p in subst P (sym c.in-Ok.ensures.ok) c.in-Ok.ensures.typed
