-- What is read of a case, in order, and what each file gives. Read `Packets`, and `Files` of program_course, network_course
-- and capture_course, before it.
use Rattle.std.specs.Prelude.{ℕ, List, map}
use Rattle.p4_tree.specs.Tree.{Program}
use Rattle.p4_rules.specs.Limits.{cells}
use Rattle.network_file.specs.Network.{Network, Port}
use Rattle.case_file.specs.Case.{Case}
use Rattle.job_course.specs.Course.{Course, and_then, give}
use Rattle.program_course.specs.Files.{forwarding_program}
use Rattle.network_course.specs.Files.{network_course, places_answer}
use Rattle.capture_course.specs.Files.{captures_course}
use Rattle.case_course.specs.Packets.{Packets, packets_of}

-- what is read before the entries: the program, the network, and where the captures enter it
pub record Ground : Type 0 where
  pub program : Program
  pub network : Network
  pub places : List Port

-- the program; the network, whose switches hold the cells of the program's registers; and the switches and ports of the
-- captures
unfoldable pub ground_course : (name : List ℕ) → Case → Course Ground
ground_course name c =
    and_then (forwarding_program c.program) (λ p.
    and_then (network_course c.network (cells p)) (λ n.
    and_then (places_answer name n c.captures) (λ ps.
    give (record { program = p; network = n; places = ps }))))

-- the captures
unfoldable pub packets_course : (name : List ℕ) → Case → List Port → Course Packets
packets_course name c ps =
    and_then (captures_course name c.room c.hops (map (λ x. x.file) c.captures)) (λ captures.
    give (packets_of ps captures))
