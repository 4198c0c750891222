use Rattle.std.proofs.Common.{◌≡◌, ℕ, length, map, refl, ap, ◌∙◌, subst, arith}
use Rattle.std.proofs.lemmas.List.{length-map}
use Rattle.network_run.specs.Events.{closing}
use Rattle.path_runner.specs.Nets.{Switch, RunsTo}
use Rattle.p4_tables.specs.Programs.{shapes}
use Rattle.path_runner.specs.Places.{place_in}
use Rattle.path_runner.specs.Views.{state_of}
use Rattle.path_runner.proofs.Running.{same_then}
use Rattle.path_runner.proofs.Ending.{closing_more, log_runs}
use Rattle.path_runner.proofs.net.Net.finish.Goals as goal

pub loop-packet-preserved : goal.loop-packet-preserved
loop-packet-preserved g c =
    let s = state_of c.args.self in
    let t = state_of c.loop-packet.self in
    let u = state_of c.end.new.self in
    record {
      same = same_then s t u c.loop-packet.invariant.same c.end.ensures.same;
      tables = c.end.ensures.tables ∙ c.loop-packet.invariant.tables;
      runs = closing_more s t u c.loop-packet.packet c.loop-packet.invariant.same c.loop-packet.invariant.runs c.in_ok-end.ensures.end;
    }

pub returns-clause-ends : goal.returns-clause-ends
returns-clause-ends g c =
    let n = c.args.self in
    let s = state_of n in
    let t = state_of c.loop-packet.self in
    let all : c.loop-packet.packet ≡ length s.places = omega (arith, length-map n.places.items place_in, c.loop-packet-test.false, c.loop-packet.auto.packet-end, c.len-packet-end.ensures, n.places.ok.0) in
    let runs : RunsTo s (closing s.limits.hops 0 (length s.places)) t = subst (λ (k : ℕ). RunsTo s (closing s.limits.hops 0 k) t) all c.loop-packet.invariant.runs in
    log_runs s t (length n.network.names) n.within c.loop-packet.invariant.same runs t.network _ t.traffic refl c.in_ok-switches.ensures refl

pub returns-clause-kept : goal.returns-clause-kept
returns-clause-kept g c =
    let same = c.loop-packet.invariant.same in
    record {
      network = same.kept.network;
      programs = ap (map (λ (x : Switch). x.program)) c.in_ok-switches.ensures ∙ same.kept.programs;
      shapes = ap (map (λ (x : Switch). shapes x.tables)) c.in_ok-switches.ensures ∙ same.kept.shapes;
    }

pub returns-clause-tables : goal.returns-clause-tables
returns-clause-tables g c = ap (map (λ (x : Switch). x.tables)) c.in_ok-switches.ensures ∙ c.loop-packet.invariant.tables
