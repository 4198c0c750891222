use Rattle.capture_course.proofs.Captures.{is_held, is_no_capture}
use Rattle.capture_course.proofs.files.records_in.Goals as goal

pub returns-in-Ok : goal.returns-in-Ok
returns-in-Ok c = record { judged = is_held _ _ _ c.in-Ok.ensures.answer }

pub returns-in_ok-capture_text-in-Err : goal.returns-in_ok-capture_text-in-Err
returns-in_ok-capture_text-in-Err c =
    record { judged = is_no_capture _ _ _ _ c.if-is_memory.ensures.no c.in-Err.ensures.answer c.in_ok-capture_text-in-Err.ensures }
