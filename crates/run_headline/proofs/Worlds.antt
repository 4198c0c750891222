-- The world of a job that is ready is a valid one.
use Rattle.std.proofs.Common.{◌≡◌, ◌<◌, [], length, sym, subst, arith}
use Rattle.std.specs.Prelude.{get_or}
use Rattle.std.proofs.lemmas.List.Elements.{All-weaker}
use Rattle.indus_tree.specs.State.{Contents}
use Rattle.p4_typing_laws.specs.Plain.{IsPlain}
use Rattle.exit_names.proofs.Names.{tops_names}
use Rattle.network_run.specs.Events.{Event, Enter, Leave, Set}
use Rattle.network_run.specs.World as world
use Rattle.network_run.specs.World.{Arrival, IsArrival}
use Rattle.network_run.specs.NetworkRun.{longest_frame}
use Rattle.network_file.specs.Network.{Network}
use Rattle.network_file.specs.Wiring.{wiring_of}
use Rattle.path_runner.specs.Conditions.{IsAtEdge}
use Rattle.table_laws.proofs.Listed.{loaded_are_listed}
use Rattle.link_faults.proofs.NoFault.{no_fault_says}
use Rattle.tree_linkage.specs.Trees.{CanLink}
use Rattle.faultless_programs.proofs.Given.{no_fault_can_link}
use Rattle.read_contents.specs.Fits.{FitsVariable, IsFitEvent}
use Rattle.linked_jobs.specs.Job.{Job, IsReady}
use Rattle.linked_jobs.specs.Run.{world_of}
use Rattle.run_headline.specs.Worlds.{IsVariable, IsWorld}

arrives : (n : Network) (a : Arrival) → IsAtEdge n longest_frame a → IsArrival (wiring_of n) a
arrives n a h = (let port = h.port in record { switch = h.switch; port = omega (arith, port); edge = h.edge; short = h.short })

happens : (j : Job) (e : Event Contents) → IsFitEvent (length j.packets) (length j.network.names) j.property.decls e → world.IsFitEvent (IsVariable j.property) (λ s. FitsVariable j.property.decls) e
happens j (Enter i) h = tt
happens j (Leave i) h = tt
happens j (Set s v c) h = (((h.1).decl, (h.1).declared, (h.1).control), h.1)

module _ (j : Job) (ready : IsReady j) where
  can : CanLink j.program
  can = no_fault_can_link j.program ready.linkable.typed ready.linkable.spelled ((no_fault_says j.program j.property j.room).0 ready.linkable.faultless).names

  pub is_world : IsWorld j (world_of j)
  is_world =
      record {
        hops = ready.hops;
        entries = λ s lt.
            (let same : length j.tables ≡ length j.network.names = ready.tables.count in
            let there : s < length j.tables = subst (λ n. s < n) (sym same) lt in
            loaded_are_listed j.program ready.linkable.typed (tops_names IsPlain (λ x. Unit {0}) (λ x h. h) (λ x h. tt) j.program.tops can.program.plain.tops) (get_or j.tables s []) (ready.tables.each s there)
            (ready.listed s [] there));
        contents = λ s v lt (d, there, control).
            (let among : s < length j.contents = subst (λ n. s < n) (sym ready.switches) lt in
            record { decl = d; declared = there; control = control; fits = ready.contents s [] among v d there control });
        packets = All-weaker (IsAtEdge j.network longest_frame) (IsArrival (wiring_of j.network)) (arrives j.network) j.packets ready.packets;
        events = All-weaker (IsFitEvent (length j.packets) (length j.network.names) j.property.decls) (world.IsFitEvent (IsVariable j.property) (λ s. FitsVariable j.property.decls)) (happens j) j.events ready.events;
      }
