-- The faults of a value's form, as faults of a network.
use Rattle.json_parts.specs.declared.fault.ShapeFault.{ShapeFault}
use Rattle.json_parts.specs.declared.fault.ShapeFault.TheVariants as shape
use Rattle.network_file.specs.declared.fault.NetworkFault.{NetworkFault}
use Rattle.network_file.specs.declared.fault.NetworkFault.TheVariants as fault

abbrev pub fault_of : ShapeFault → NetworkFault
fault_of shape.NoMemory = fault.NoMemory
fault_of (shape.Shape path) = fault.Shape path
