-- What a machine works on, as a run.
use Rattle.std.specs.Prelude.{map}
use Rattle.p4_meaning.specs.Statements as meaning
use Rattle.p4_packets.specs.Fields.{store_of}
pub use Rattle.p4_statements.specs.Cells.{Rows, cells_in}
use Rattle.p4_statements.specs.declared.run.Digest as code_digest
use Rattle.p4_statements.specs.declared.run.Run as code_run
use Rattle.p4_statements.specs.declared.run.Flow as code_flow
use Rattle.p4_statements.specs.declared.run.Flow.TheVariants as flow
use Rattle.p4_statements.specs.declared.run.Tested as code_tested

-- a digest
abbrev pub digest_of : code_digest.Digest → meaning.Digest
digest_of d = record { receiver = d.receiver; values = d.values.items }

-- what statements work on
abbrev pub run_of : code_run.Run → meaning.Run
run_of r = record { store = store_of r.fields; cells = cells_in r.registers; digests = map digest_of r.digests.items }

-- how a statement ends
abbrev pub flow_of : code_flow.Flow → meaning.Flow
flow_of flow.Go = meaning.Go
flow_of flow.Return = meaning.Return
flow_of flow.Exit = meaning.Exit

-- a run, and how its last statement ended
abbrev pub ended : meaning.Run → meaning.Flow → meaning.Ended
ended r flow = (r, flow)

-- how a test ends
abbrev pub tested_of : meaning.Run → code_tested.Tested → meaning.Tested
tested_of r t = record { run = r; flow = flow_of t.flow; hit = t.hit }
