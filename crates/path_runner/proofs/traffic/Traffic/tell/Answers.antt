use Rattle.std.proofs.Common.{map, ap, ◌∙◌, ◌++◌, ◌∷◌, []}
use Rattle.std.proofs.lemmas.List.{map-append}
use Rattle.switch_machines.specs.Programs.{network_digest}
use Rattle.path_runner.specs.Packets.{told_of}
use Rattle.path_runner.proofs.Telling.{told_next}
use Rattle.path_runner.proofs.traffic.Traffic.tell.Goals as goal

pub loop-digest-preserved : goal.loop-digest-preserved
loop-digest-preserved c =
    let before = map told_of c.loop-digest.self.told.items in
    record {
      told = told_next c.args.packet c.args.switch c.loop-digest.digest-index c.args.digests.now c.digest-item.result
          (map told_of c.args.self.now.told.items) before (map told_of c.push.new.self.items)
          c.loop-digest-test.true c.digest-item.is c.loop-digest.invariant.told
          (ap (map told_of) c.in_ok-push.ensures.items ∙ map-append told_of c.loop-digest.self.told.items _
          ∙ ap (λ d. before ++ record { packet = c.args.packet; switch = c.args.switch; digest = network_digest d } ∷ []) c.copy.ensures);
      wires = c.loop-digest.invariant.wires;
      edges = c.loop-digest.invariant.edges;
      dropped = c.loop-digest.invariant.dropped;
      lost = c.loop-digest.invariant.lost;
    }
