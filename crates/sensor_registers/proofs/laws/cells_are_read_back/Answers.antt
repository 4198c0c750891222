use Rattle.sensor_registers.proofs.Cells.{twice, fresh, words}
use Rattle.sensor_registers.proofs.laws.cells_are_read_back.Goals as goal

pub returns : goal.returns
returns c = record { twice = twice; fresh = fresh; words = words }
