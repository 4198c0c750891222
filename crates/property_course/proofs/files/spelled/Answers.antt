use Rattle.property_course.proofs.Checking.{is_spelled, is_misread, lex_some, syntax_some, deep_some}
use Rattle.property_course.proofs.files.spelled.Goals as goal

pub returns-in-Ok : goal.returns-in-Ok
returns-in-Ok c = record { judged = is_spelled _ _ _ (rw c.deref.ensures.value at c.in-Ok.ensures.found) }

pub returns-in_ok-lex_text-in-Err-Lex : goal.returns-in_ok-lex_text-in-Err-Lex
returns-in_ok-lex_text-in-Err-Lex c =
    record { judged = is_misread _ _ _ _ (lex_some _) (rw (c.deref.ensures.value, c.in-Err-Lex.field-0-is) at c.in-Err-Lex.ensures.cause) c.in_ok-lex_text-in-Err-Lex.ensures }

pub returns-in_ok-place_text-in-Err-Syntax : goal.returns-in_ok-place_text-in-Err-Syntax
returns-in_ok-place_text-in-Err-Syntax c =
    record { judged = is_misread _ _ _ _ (syntax_some _) (rw (c.deref.ensures.value, c.in-Err-Syntax.field-0-is) at c.in-Err-Syntax.ensures.cause) c.in_ok-place_text-in-Err-Syntax.ensures }

pub returns-in_ok-place_text-in-Err-TooDeep : goal.returns-in_ok-place_text-in-Err-TooDeep
returns-in_ok-place_text-in-Err-TooDeep c =
    record { judged = is_misread _ _ _ _ (deep_some _) (rw (c.deref.ensures.value, c.in-Err-TooDeep.field-0-is) at c.in-Err-TooDeep.ensures.cause) c.in_ok-place_text-in-Err-TooDeep.ensures }
