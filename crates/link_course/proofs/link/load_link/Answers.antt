use Rattle.link_course.proofs.OneLink.{is_linked, is_not_linked}
use Rattle.link_course.proofs.link.load_link.Goals as goal

pub returns-in-Ok-clause-judged : goal.returns-in-Ok-clause-judged
returns-in-Ok-clause-judged c = is_linked _ _ _ _ _ c.in-Ok.ensures.none c.in-Ok.ensures.linked

pub returns-in_ok-name_text-in-Err-NoSuchField-clause-judged : goal.returns-in_ok-name_text-in-Err-NoSuchField-clause-judged
returns-in_ok-name_text-in-Err-NoSuchField-clause-judged c =
    is_not_linked _ _ _ _ _ _ (rw c.in-Err-NoSuchField.field-0-is at c.in-Err-NoSuchField.ensures.refused) (rw c.as_str.ensures at c.in_ok-name_text-in-Err-NoSuchField.ensures)

pub returns-in_ok-name_text-in-Err-FieldWidth-clause-judged : goal.returns-in_ok-name_text-in-Err-FieldWidth-clause-judged
returns-in_ok-name_text-in-Err-FieldWidth-clause-judged c =
    is_not_linked _ _ _ _ _ _ (rw c.in-Err-FieldWidth.field-0-is at c.in-Err-FieldWidth.ensures.refused) (rw c.as_str-in-Err-FieldWidth.ensures at c.in_ok-name_text-in-Err-FieldWidth.ensures)

pub returns-in_ok-name_text-in-Err-NameTaken-clause-judged : goal.returns-in_ok-name_text-in-Err-NameTaken-clause-judged
returns-in_ok-name_text-in-Err-NameTaken-clause-judged c =
    is_not_linked _ _ _ _ _ _ (rw c.in-Err-NameTaken.field-0-is at c.in-Err-NameTaken.ensures.refused) (rw c.as_str-in-Err-NameTaken.ensures at c.in_ok-name_text-in-Err-NameTaken.ensures)

pub returns-in_ok-room_text-in-Err-RoomShort-clause-judged : goal.returns-in_ok-room_text-in-Err-RoomShort-clause-judged
returns-in_ok-room_text-in-Err-RoomShort-clause-judged c =
    is_not_linked _ _ _ _ _ _ (rw c.in-Err-RoomShort.field-0-is at c.in-Err-RoomShort.ensures.refused) c.in_ok-room_text-in-Err-RoomShort.ensures

pub returns-in_ok-weight_text-in-Err-TooLarge-clause-judged : goal.returns-in_ok-weight_text-in-Err-TooLarge-clause-judged
returns-in_ok-weight_text-in-Err-TooLarge-clause-judged c =
    is_not_linked _ _ _ _ _ _ (rw c.in-Err-TooLarge.field-0-is at c.in-Err-TooLarge.ensures.refused) c.in_ok-weight_text-in-Err-TooLarge.ensures
