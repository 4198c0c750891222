use Rattle.std.proofs.Common.{◌≡◌, List, [], length, map, sym, ap, ◌∙◌, subst, arith, IfOk}
use Rattle.std.proofs.lemmas.List.{length-map, length-replicate}
use Rattle.p4_tree.specs.View.{program_of}
use Rattle.network_run.specs.NetworkRun.{Limits}
use Rattle.control_maps.specs.Numbers.{Numbered}
use Rattle.path_runner.specs.Conditions.{AreFor}
use Rattle.set_contents.specs.Maps.{maps_of}
use Rattle.path_runner.specs.Nets.{Switch}
use Rattle.path_runner.specs.Starts.{Starts, state_before}
use Rattle.path_runner.specs.Packets.{arrival_of}
use Rattle.path_runner.specs.Views.{state_of}
use Rattle.forward_run.specs.Switches.{no_maps, switch_before}
use Rattle.forward_run.proofs.Starting.{before_for, unmapped}
use Rattle.forward_run.proofs.run.net_before.Goals as goal

pub new-requires : goal.new-requires
new-requires g c =
    let p = program_of c.args.program.now in
    let ts = c.args.tables.items in
    let bufs = c.in_ok-bufs.bufs.items in
    let count = c.len-count.ensures ∙ c.args.tables.ok.0 in
    record {
      switches = ap (λ (xs : List Switch). length xs) c.in_ok-switches.ensures ∙ length-map ts (switch_before p) ∙ c.requires.switches;
      buffers = subst (λ (xs : List Switch). AreFor xs bufs) (sym c.in_ok-switches.ensures) (before_for p ts bufs (c.in_ok-bufs.ensures.count ∙ count) c.in_ok-bufs.ensures.made);
      lists = ap (λ (ms : List (List Numbered)). length ms) c.in_ok-none.ensures ∙ (length-replicate _ [] ∙ count ∙ c.requires.switches);
      mapped = unmapped _ _ (maps_of c.in_ok-none.none.items) c.in_ok-none.ensures;
      few = omega (arith, length-map c.args.packets.items arrival_of, c.requires.few);
      packets = c.requires.packets;
      hops = c.requires.hops;
      link = omega arith;
    }

pub returns-clause-state : goal.returns-clause-state
returns-clause-state g c =
    let l : Limits = record { hops = c.args.hops; link = 65535 } in
    let none = c.in_ok-none.ensures ∙ ap no_maps (c.len-count.ensures ∙ c.args.tables.ok.0) in
    subst (λ (ms : List (List Numbered)). IfOk c.new.result (λ n. state_of n ≡ state_before c.args.network l (map (switch_before (program_of c.args.program.now)) c.args.tables.items) ms (map arrival_of c.args.packets.items)))
    none
    (subst (λ (xs : List Switch). IfOk c.new.result (λ n. state_of n ≡ state_before c.args.network l xs (maps_of c.in_ok-none.none.items) (map arrival_of c.args.packets.items)))
    c.in_ok-switches.ensures c.new.ensures.state)

pub returns-clause-starts : goal.returns-clause-starts
returns-clause-starts g c =
    subst (λ (xs : List Switch). IfOk c.new.result (λ n. Starts xs (map arrival_of c.args.packets.items) (state_of n)))
    c.in_ok-switches.ensures c.new.ensures.starts
