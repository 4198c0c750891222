use Rattle.std.proofs.Common.{◌≡◌, ◌++◌, map, take}
use Rattle.p4_statements.specs.Runs.{digest_of}
use Rattle.switch_machines.specs.Programs.{network_digest}
use Rattle.network_run.specs.NetworkRun.{told_by}
use Rattle.path_runner.specs.Packets.{told_of}
use Rattle.path_runner.proofs.traffic.Traffic.tell.Given as goal

abbrev pub invariant-loop-digest : goal.invariant-loop-digest
invariant-loop-digest l = record {
  told : map told_of l.self.told.items ≡ map told_of l.initial.self.told.items
      ++ told_by l.packet l.switch (map network_digest (map digest_of (take l.digest-index l.digests)));
  wires : l.self.wires ≡ l.initial.self.wires;
  edges : l.self.edges ≡ l.initial.self.edges;
  dropped : l.self.dropped ≡ l.initial.self.dropped;
  lost : l.self.lost ≡ l.initial.self.lost;
}
