-- The two halves of a pass, step by step. Read `Ends` of `p4_packets` before it.
use Rattle.std.specs.Prelude.{[]}
use Rattle.p4_meaning.specs.Statements.{Run, no_calls, meaning_of}
use Rattle.p4_meaning.specs.Store.{Store}
use Rattle.p4_meaning.specs.Parts.{Parts, whole}
use Rattle.p4_meaning.specs.Tables.{Tables}
use Rattle.p4_meaning.specs.Pass.{Registers, run_from, calls_of}

-- the run at the end of ingress, from the store behind the parser
abbrev pub ingress_run : Parts → Tables → Store → Registers → Run
ingress_run p held s cells = (meaning_of (calls_of p held) (whole p.ingress) (meaning_of no_calls p.verify (run_from s cells)).0).0

-- the run at the end of egress
abbrev pub egress_run : Parts → Tables → Store → Registers → Run
egress_run p held s cells = (meaning_of (calls_of p held) (whole p.egress) (run_from s cells)).0

-- the store behind compute checksum
abbrev pub computed : Parts → Store → Store
computed p s = (meaning_of no_calls p.compute (run_from s (λ x. []))).0.store
