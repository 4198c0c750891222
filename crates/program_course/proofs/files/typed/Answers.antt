use Rattle.program_course.proofs.Checking.{is_typed, is_ill_typed}
use Rattle.program_course.proofs.files.typed.Goals as goal

pub returns-in-Ok : goal.returns-in-Ok
returns-in-Ok c = record { judged = is_typed _ _ _ c.in-Ok.ensures.ok c.in-Ok.ensures.typed }

pub returns-in_ok-type_text-in-Err-Type_ : goal.returns-in_ok-type_text-in-Err-Type_
returns-in_ok-type_text-in-Err-Type_ c =
    record { judged = is_ill_typed _ _ _ _ _ (rw c.in-Err-Type_.field-0-is at c.in-Err-Type_.ensures.cause) c.in_ok-type_text-in-Err-Type_.ensures }
