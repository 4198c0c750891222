-- The headline of docs/HEADLINE.md, phrase by phrase, as it is claimed of linked programs, for every job of `run`. Read `Worlds`
-- before it, `Linkage` of the linkage, `Linked` of linked_properties, and `World`, `NetworkRun` and `PathMeaning` of the
-- network's run.
use Rattle.std.specs.Prelude.{◌≡◌, ℕ, ◌+◌, ◌<◌, [], length, map, filter, not}
use Rattle.p4_meaning.specs.Parts.{parts_of}
use Rattle.p4_rules.specs.ProgramRules.{IsWellTyped}
use Rattle.indus_tree.specs.State.{Held}
use Rattle.network_run.specs.Network.{times, one_if}
use Rattle.network_run.specs.PathMeaning.{rejects}
use Rattle.linkage.specs.Linkage.{SameRegisters, is_report, told_report}
use Rattle.linked_halves.specs.Given.{registers_of}
use Rattle.p4_printer.specs.Programs.{program_text}
use Rattle.p4_printer.specs.Printed.{IsPrinted}
use Rattle.linked_jobs.specs.Job.{Job}
use Rattle.linked_jobs.specs.Run.{Linked, IsLinked, world_of}
use Rattle.run_headline.specs.Worlds.{IsWorld, InEveryWorld}

-- Every well-typed property that fits the header room is linked: there is a linked program for each switch, and which of its
-- tables hold the contents of which control variables (`l`),
pub record Claims (j : Job) (l : Linked) : Type 0 where
  -- of the form of a linkage: well typed, and so on (`AreSimplyLinked` of program_linker),
  pub form : IsLinked j l
  pub typed : (s : ℕ) → s < length j.network.names → IsWellTyped (l.programs s)
  -- and for every network, table contents, list of packets and schedule (`InEveryWorld`; the job's world is one of these),
  pub world : IsWorld j (world_of j)
  -- the linked programs, which the texts spell,
  pub spelled : (s : ℕ) → s < length j.network.names → IsPrinted (l.programs s) (program_text (l.programs s))
  -- drop at its last hop exactly those packets whose whole path the property rejects, besides those that forwarding drops,
  pub drop_rejected : InEveryWorld j l (λ alone linked path.
      (i : ℕ) → times i linked.dropped ≡ times i alone.dropped + one_if (rejects path i))
  -- report what the property reports, in order,
  pub report : InEveryWorld j l (λ alone linked path.
      filter (λ t. is_report t.digest) linked.told ≡ map told_report path.reports)
  -- and otherwise send the bytes, through the ports
  pub send : InEveryWorld j l (λ alone linked path.
      linked.edges ≡ filter (λ x. not (rejects path x.packet)) alone.edges)
  -- tell the digests
  pub tell : InEveryWorld j l (λ alone linked path.
      filter (λ t. not (is_report t.digest)) linked.told ≡ alone.told)
  -- and with the forwarding registers, of the forwarding program alone.
  pub registers : InEveryWorld j l (λ alone linked path.
      (s : ℕ) → s < length j.network.names →
      SameRegisters {Z = Held} (registers_of (parts_of j.program) []) (alone.switches s) (linked.switches s))
