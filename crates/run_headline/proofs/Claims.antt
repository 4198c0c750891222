-- The law of the headline.
use Rattle.std.proofs.Common.{◌≡◌, ℕ, suc, ◌+◌, ◌<◌, List, [], length, map, not, subst}
use Rattle.std.specs.List.{filter}
use Rattle.indus_tree.specs.State.{Contents, Held}
use Rattle.indus_tree.specs.Law.{law_of}
use Rattle.p4_tree.specs.Tree.{Program}
use Rattle.p4_parser_states.specs.Laws.{ReachesIsExact}
use Rattle.p4_meaning.specs.Parts.{parts_of}
use Rattle.p4_meaning.specs.Tables.{Tables}
use Rattle.p4_meaning.specs.Laws.{AreListed}
use Rattle.p4_printer.proofs.Whole.{text_is_printed}
use Rattle.network_run.specs.Network.{times, one_if}
use Rattle.network_run.specs.PathMeaning.{rejects}
use Rattle.network_run.specs.World.{World, net_after}
use Rattle.network_file.specs.Wiring.{wiring_of}
use Rattle.linkage.specs.Linkage.{Linkage, SameRegisters, is_report, told_report}
use Rattle.monitor_laws.specs.Monitor.{telemetry_of}
use Rattle.linked_halves.specs.Given.{registers_of}
use Rattle.whole_properties.specs.Whole.{lower_monitor}
use Rattle.linked_properties.specs.Linked.{given_in}
use Rattle.read_contents.specs.Fits.{FitsVariable}
use Rattle.loaded_tables.specs.Rows.{Row}
use Rattle.linked_starts.specs.Starts.{found_row}
use Rattle.program_linker.specs.Simpler.{AreSimplyLinked}
use Rattle.linked_jobs.specs.Job.{Job, IsReady}
use Rattle.linked_jobs.specs.Run.{Linked, linked_in, linked_machine}
use Rattle.linked_jobs.proofs.Programs.{is_linked}
use Rattle.run_headline.specs.Worlds.{Run, IsVariable, Claim, IsWorld, InEveryWorld, alone_machine, alone_after, path_after}
use Rattle.run_headline.specs.Claims.{Claims}
use Rattle.run_headline.specs.Law.{LinkedProgramsKeepTheClaims}
use Rattle.run_headline.proofs.Worlds.{is_world}
use Rattle.run_headline.proofs.Simpler.{count, same, are_a_linkage}

module _ (exact : ReachesIsExact) (j : Job) (ready : IsReady j) (programs : List Program) (rows : List Row) (are : AreSimplyLinked j.program j.property j.network programs (map found_row rows)) where
  abbrev l : Linked
  l = linked_in programs rows

  -- the bytes that linked programs put before a frame on a link
  abbrev size_of : ℕ
  size_of = suc (lower_monitor (given_in j.property j.program are.linked.controls)).room

  abbrev linked_run : (size : ℕ) → World Tables Contents → (n : ℕ) → Run
  linked_run size w n = net_after (linked_machine j l) (wiring_of j.network) size w n

  -- they are the bytes of the property's telemetry
  sized : (Holds : Claim) → ((w : World Tables Contents) → IsWorld j w → (n : ℕ) → Holds (alone_after j w n) (linked_run size_of w n) (path_after j w n)) → InEveryWorld j l Holds
  sized Holds h = subst (λ (size : ℕ). (w : World Tables Contents) → IsWorld j w → (n : ℕ) → Holds (alone_after j w n) (linked_run size w n) (path_after j w n)) are.linked.linked.size h

  is_linkage :
      Linkage (alone_machine j) (linked_machine j l) (wiring_of j.network) (law_of j.property) (telemetry_of (lower_monitor (given_in j.property j.program are.linked.controls)))
      (registers_of (parts_of j.program) (lower_monitor (given_in j.property j.program are.linked.controls)).sensors) (λ s. AreListed (parts_of j.program)) (IsVariable j.property) (λ s. FitsVariable j.property.decls)
  is_linkage = are_a_linkage exact j ready programs rows are

  pub claims : Claims j l
  claims =
      record {
        form = is_linked j programs rows (count exact j ready programs rows are) are;
        typed = λ s lt. (same exact j ready programs rows are s lt).typed;
        world = is_world j ready;
        spelled = λ s lt. text_is_printed (l.programs s) (same exact j ready programs rows are s lt).spelled;
        drop_rejected = sized (λ alone linked path. (i : ℕ) → times i linked.dropped ≡ times i alone.dropped + one_if (rejects path i)) (λ w valid n. (is_linkage.counts w valid n).dropped);
        report = sized (λ alone linked path. filter (λ t. is_report t.digest) linked.told ≡ map told_report path.reports) (λ w valid n. is_linkage.reports w valid n);
        send = sized (λ alone linked path. linked.edges ≡ filter (λ x. not (rejects path x.packet)) alone.edges) (λ w valid n. is_linkage.edge_frames w valid n);
        tell = sized (λ alone linked path. filter (λ t. not (is_report t.digest)) linked.told ≡ alone.told) (λ w valid n. is_linkage.digests w valid n);
        registers = sized (λ alone linked path. (s : ℕ) → s < length j.network.names → SameRegisters {Z = Held} (registers_of (parts_of j.program) []) (alone.switches s) (linked.switches s)) (λ w valid n s lt. is_linkage.forwarding_registers w valid n s lt);
      }

pub linked_programs_keep_the_claims : ReachesIsExact → LinkedProgramsKeepTheClaims
linked_programs_keep_the_claims exact j ready programs rows are = claims exact j ready programs rows are
