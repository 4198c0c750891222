-- What a whole property lowers to keeps the laws of a monitor.
use Rattle.monitor_laws.specs.MonitorLaws.{MonitorLaws}
use Rattle.whole_properties.specs.Whole.{Given, lower_monitor, IsFitTele, Keeps, IsVariable, IsFitContents}
use Rattle.whole_properties.specs.Asked.{IsGiven, FitsView}
use Rattle.whole_properties.proofs.MonitorLaws.{laws}

pub whole_laws :
    (g : Given) → IsGiven g →
    MonitorLaws (lower_monitor g) (IsFitTele g) (Keeps g) (FitsView g) (IsVariable g) (IsFitContents g)
whole_laws g i = laws g i
