-- A net at its end shows the run of the job.
use Rattle.std.proofs.Common.{◌≡◌, ℕ, ◌+◌, ◌≤◌, List, ◌++◌, length, map, All, ap, sym, ◌∙◌, subst, arith}
use Rattle.std.proofs.lemmas.List.{length-map}
use Rattle.std.proofs.lemmas.List.Elements.{All-weaker, All-map}
use Rattle.std.proofs.lemmas.List.FromFn.{length-map-range_with_len}
use Rattle.p4_tree.specs.Tree.{Program}
use Rattle.p4_meaning.specs.Pass.{Kept, Queued}
use Rattle.indus_tree.specs.State.{Contents}
use Rattle.network_run.specs.Events.{closing}
use Rattle.network_run.specs.Network.{Sent, Wired, Net}
use Rattle.network_run.specs.NetworkRun.{Limits, longest_frame, run_of_halves}
use Rattle.network_run.specs.World.{first_net, limits_of, steps}
use Rattle.run_limits.specs.Limits.{IsWithin}
use Rattle.run_limits.proofs.Within.{run_within}
use Rattle.network_file.specs.Network.{Network}
use Rattle.network_file.specs.Wiring.{wiring_of}
use Rattle.switch_machines.specs.Programs.{Controls, Programs, machine_with}
use Rattle.path_runner.specs.Nets.{Switch, State, Shows, RunsTo, AreKept, IsSame}
use Rattle.path_runner.proofs.Running.{runs_then}
use Rattle.path_runner.specs.Conditions.{most_packets}
use Rattle.link_faults.proofs.NoFault.{no_fault_says}
use Rattle.run_output.specs.Ends.{IsShort, IsEnd}
use Rattle.linked_jobs.specs.Job.{Job, IsReady}
use Rattle.linked_jobs.specs.Run.{Linked, programs_of, world_of, linked_programs, linked_machine, telemetry_size, run_of}
use Rattle.linked_net.specs.First.{IsFirst}

-- the run keeps to its limits
pub run_is_within : (j : Job) (l : Linked) → IsWithin (limits_of (world_of j) (telemetry_size j)) (length j.packets) (run_of j l)
unfolding run_of
run_is_within j l = run_within (linked_machine j l) (wiring_of j.network) (limits_of (world_of j) (telemetry_size j)) (world_of j) (steps (world_of j))

-- whatever its limits
other_limits : (p : Programs) (s : State) (k : Limits) (w : Net Kept Queued Contents) → Shows p s w → Shows p (record s { limits = k }) w
other_limits p s k w h =
    record { switches = h.switches; packets = h.packets; wires = h.wires; edges = h.edges; told = h.told; dropped = h.dropped; lost = h.lost }

module _ (j : Job) (l : Linked) (s t u : State) (is : IsFirst j l s) (same : IsSame s t) (runs : RunsTo s j.events t) (ends : RunsTo t (closing t.limits.hops 0 (length t.places)) u) where
  count : length t.places ≡ length j.packets
  count = same.packets ∙ is.of_job.packets

  hops : t.limits.hops ≡ j.hops
  hops = ap (λ (l : Limits). l.hops) (same.limits ∙ is.limits)

  -- the schedule, and then the closing phase
  whole : RunsTo s (j.events ++ closing j.hops 0 (length j.packets)) u
  whole =
      runs_then s t u j.events (closing j.hops 0 (length j.packets)) same runs
      (subst (λ (n : ℕ). RunsTo t (closing j.hops 0 n) u) count (subst (λ (n : ℕ). RunsTo t (closing n 0 (length t.places)) u) hops ends))

  pub shown : Shows (linked_programs l) u (run_of j l)
  unfolding run_of
  shown =
      let p = linked_programs l in
      let w = first_net (linked_machine j l) (world_of j) in
      let es = steps (world_of j) in
      subst (λ (v : Net Kept Queued Contents). Shows p u v)
      (ap (λ (c : (switch : ℕ) → Controls Contents). run_of_halves (machine_with c p) (wiring_of s.network) s.limits w es) is.controls
      ∙ (ap (λ (n : Network). run_of_halves (linked_machine j l) (wiring_of n) s.limits w es) is.network
      ∙ ap (λ (k : Limits). run_of_halves (linked_machine j l) (wiring_of j.network) k w es) is.limits))
      (whole p w is.shows)

  module _ (kept : AreKept t u) where
    pub network : u.network ≡ j.network
    network = kept.network ∙ same.kept.network ∙ is.network

    pub programs : map (λ (x : Switch). x.program) u.switches ≡ programs_of j l
    programs = kept.programs ∙ same.kept.programs ∙ is.programs

    count_switches : length u.switches ≡ length u.network.names
    count_switches =
        sym (length-map u.switches (λ (x : Switch). x.program)) ∙ ap (λ (ps : List Program). length ps) programs
        ∙ length-map-range_with_len l.programs 0 (length j.network.names) ∙ ap (λ (n : Network). length n.names) (sym network)

    within : IsWithin (limits_of (world_of j) (telemetry_size j)) (length j.packets) (run_of j l)
    within = run_is_within j l

    module _ (ready : IsReady j) (k : Limits) where
      few_bytes : telemetry_size j ≤ 256
      few_bytes = (let room = ((no_fault_says j.program j.property j.room).0 ready.linkable.faultless).room in let small = ready.linkable.small in omega (arith, room, small))

      abbrev IsCarried : Wired → Type 0
      IsCarried x = length x.sent.frame ≤ longest_frame + telemetry_size j

      carried_short : (x : Wired) → length x.sent.frame ≤ longest_frame + telemetry_size j → IsShort x.sent
      carried_short x h = (let low = few_bytes in omega (arith, h, low))

      abbrev IsSent : Sent → Type 0
      IsSent x = length x.frame ≤ longest_frame

      sent_short : (x : Sent) → length x.frame ≤ longest_frame → IsShort x
      sent_short x h = omega (arith, h)

      pub is_end : IsEnd (programs_of j l) (record u { limits = k })
      is_end =
          record {
            switches = count_switches;
            programs = programs;
            wires = subst (λ (xs : List Sent). All IsShort xs) shown.wires (All-map IsShort (λ (x : Wired). x.sent) (run_of j l).wires (All-weaker IsCarried (λ x. IsShort x.sent) carried_short (run_of j l).wires within.wires));
            edges = subst (λ (xs : List Sent). All IsShort xs) shown.edges (All-weaker IsSent IsShort sent_short (run_of j l).edges within.edges);
            few = subst (λ (xs : List Sent). length xs ≤ most_packets) shown.edges (let some = within.few in let most = ready.few in omega (arith, some, most));
          }

      pub at_end : Shows (linked_programs l) (record u { limits = k }) (run_of j l)
      at_end = other_limits (linked_programs l) u k (run_of j l) shown
