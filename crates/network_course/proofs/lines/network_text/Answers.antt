use Rattle.network_course.proofs.lines.network_text.Goals as goal

pub returns-in-NameTwice : goal.returns-in-NameTwice
returns-in-NameTwice c = rw c.in-NameTwice.is (rw c.as_str-in-NameTwice.ensures at c.path_text-in-NameTwice.ensures)

pub returns-in-NoSuchSwitch : goal.returns-in-NoSuchSwitch
returns-in-NoSuchSwitch c = rw c.in-NoSuchSwitch.is (rw c.as_str-in-NoSuchSwitch.ensures at c.path_text-in-NoSuchSwitch.ensures)

pub returns-in-PortTwice : goal.returns-in-PortTwice
returns-in-PortTwice c = rw c.in-PortTwice.is (rw c.as_str-in-PortTwice.ensures at c.path_text-in-PortTwice.ensures)

pub returns-in-BadPort : goal.returns-in-BadPort
returns-in-BadPort c = rw c.in-BadPort.is (rw c.as_str-in-BadPort.ensures at c.path_text-in-BadPort.ensures)
