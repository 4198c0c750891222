use Rattle.network_course.proofs.lines.place_text.Goals as goal

pub returns-in-NoSuchSwitch : goal.returns-in-NoSuchSwitch
returns-in-NoSuchSwitch c = rw c.in-NoSuchSwitch.is (rw c.as_str.ensures at c.path_text.ensures)

pub returns-in-LinkedPort : goal.returns-in-LinkedPort
returns-in-LinkedPort c = rw c.in-LinkedPort.is (rw c.as_str-in-LinkedPort.ensures at c.path_text-in-LinkedPort.ensures)
