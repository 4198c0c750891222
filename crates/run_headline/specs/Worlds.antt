-- The networks of a job: that of the forwarding program alone, and that of the linked programs, in every valid world. Read `Run`
-- of linked_jobs before it, `World` of the network's run and `Linkage` of the linkage.
use Rattle.std.specs.Prelude.{◌≡◌, ℕ, slice_get, Some}
use Rattle.p4_meaning.specs.Parts.{parts_of}
use Rattle.p4_meaning.specs.Pass.{Kept, Queued}
use Rattle.p4_meaning.specs.Tables.{Tables}
use Rattle.p4_meaning.specs.Laws.{AreListed}
use Rattle.indus_tree.specs.Tree.{Decl, Property}
use Rattle.indus_tree.specs.State.{Contents, Held}
use Rattle.indus_tree.specs.Law.{law_of}
use Rattle.indus_tree.specs.declared.tree.DeclKind.TheVariants.{Control}
use Rattle.network_run.specs.Machine.{Machine}
use Rattle.network_run.specs.Network.{Net}
use Rattle.network_run.specs.PathMeaning.{Path, path_meaning}
use Rattle.network_run.specs.World.{World, IsValid, net_after}
use Rattle.network_file.specs.Wiring.{wiring_of}
use Rattle.switch_machines.specs.Programs.{view_of, machine_of}
use Rattle.whole_properties.specs.Whole.{views_in}
use Rattle.read_contents.specs.Fits.{FitsVariable}
use Rattle.linked_jobs.specs.Job.{Job}
use Rattle.linked_jobs.specs.Run.{Linked, linked_machine, telemetry_size}

-- a network, as far as its run has come
abbrev pub Run : Type 0
Run = Net Kept Queued Contents

-- the number is that of a control variable
abbrev pub IsVariable : Property → ℕ → Type 0
IsVariable p v = (d : Decl) × (slice_get p.decls v ≡ Some d) × (d.kind ≡ Control)

-- a valid world on the job's network: packets may pass a switch, tables run actions of their lists, contents fit the property,
-- at the start and in the schedule, and packets come to edge ports
abbrev pub IsWorld : Job → World Tables Contents → Type 0
IsWorld j w =
    IsValid (wiring_of j.network) (λ s. AreListed (parts_of j.program)) (IsVariable j.property) (λ s. FitsVariable j.property.decls) w

-- the forwarding program alone at each switch, as it was given. What the header variables of the property read there stands in
-- the run's log
abbrev pub alone_machine : Job → Machine Tables Kept Queued Contents
alone_machine j = machine_of (record { program = λ s. parts_of j.program; reads = view_of (views_in j.property.decls) })

abbrev pub alone_after : Job → World Tables Contents → (n : ℕ) → Run
alone_after j w n = net_after (alone_machine j) (wiring_of j.network) 0 w n

abbrev pub linked_after : Job → Linked → World Tables Contents → (n : ℕ) → Run
linked_after j l w n = net_after (linked_machine j l) (wiring_of j.network) (telemetry_size j) w n

-- what the property says of the paths that packets take in the network of the forwarding program alone
abbrev pub path_after : Job → World Tables Contents → (n : ℕ) → Path Held Held
path_after j w n = path_meaning (law_of j.property) (alone_after j w n).log

-- what is claimed of the network of the forwarding program alone, of that of the linked programs, and of the paths
abbrev pub Claim : Type 1
Claim = (alone linked : Run) → (path : Path Held Held) → Type 0

-- it holds in every valid world, after every number of steps
abbrev pub InEveryWorld : Job → Linked → Claim → Type 0
InEveryWorld j l Holds =
    (w : World Tables Contents) → IsWorld j w → (n : ℕ) → Holds (alone_after j w n) (linked_after j l w n) (path_after j w n)
