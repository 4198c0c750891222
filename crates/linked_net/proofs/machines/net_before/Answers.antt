use Rattle.std.proofs.Common.{◌≡◌, List, length, map, sym, ap, ◌∙◌, subst, IfOk}
use Rattle.p4_tree.specs.View.{program_of}
use Rattle.p4_tree.specs.declared.program.Program as code
use Rattle.network_run.specs.NetworkRun.{Limits}
use Rattle.path_runner.specs.Conditions.{AreFor, AreMapped}
use Rattle.set_contents.specs.Maps.{maps_of}
use Rattle.path_runner.specs.Nets.{Switch}
use Rattle.path_runner.specs.Packets.{arrival_of}
use Rattle.path_runner.specs.Starts.{StartsWorlds, state_before}
use Rattle.path_runner.specs.Views.{state_of}
use Rattle.linked_net.specs.Switches.{AreMadeFor}
use Rattle.linked_net.proofs.Switches.{as_many, buffers_for}
use Rattle.linked_net.proofs.machines.net_before.Goals as goal

pub new-requires : goal.new-requires
new-requires g c =
    let ps = map program_of c.args.programs.items in
    let sts = c.args.tables.items in
    let bufs = c.in_ok-bufs.bufs.items in
    let are = c.in_ok-switches.ensures in
    let made = subst (λ (qs : List code.Program). AreMadeFor (map program_of qs) bufs) c.deref.ensures.value c.in_ok-bufs.ensures in
    record {
      switches = ap (λ (xs : List Switch). length xs) are ∙ (as_many ps sts c.requires.start.states ∙ c.requires.start.switches);
      buffers = subst (λ (xs : List Switch). AreFor xs bufs) (sym are) (buffers_for ps sts bufs c.requires.start.states made);
      lists = c.requires.start.lists;
      mapped = subst (λ (xs : List Switch). AreMapped xs (maps_of c.args.maps.items)) (sym are) c.requires.start.mapped;
      few = c.requires.start.few;
      packets = c.requires.start.packets;
      hops = c.requires.start.hops;
      link = c.requires.start.link;
    }

pub returns-clause-state : goal.returns-clause-state
returns-clause-state g c =
    let l : Limits = record { hops = c.args.hops; link = c.args.limit } in
    subst (λ (xs : List Switch). IfOk c.new.result (λ n. state_of n ≡ state_before c.args.network l xs (maps_of c.args.maps.items) (map arrival_of c.args.packets.items)))
    c.in_ok-switches.ensures c.new.ensures.state

pub returns-clause-worlds : goal.returns-clause-worlds
returns-clause-worlds g c =
    subst (λ (xs : List Switch). IfOk c.new.result (λ n. StartsWorlds xs (maps_of c.args.maps.items) (map arrival_of c.args.packets.items) (state_of n)))
    c.in_ok-switches.ensures c.new.ensures.worlds
