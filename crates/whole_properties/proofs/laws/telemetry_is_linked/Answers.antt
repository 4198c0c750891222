use Rattle.whole_properties.proofs.TelemetryBytes.{telemetry_is_linked}
use Rattle.whole_properties.proofs.laws.telemetry_is_linked.Goals as goal

pub returns : goal.returns
returns c = telemetry_is_linked
