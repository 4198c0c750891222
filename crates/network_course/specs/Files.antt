-- The files of a network, as steps of a command: which are asked for, which first refusals they admit, and what they
-- give. Read `Course` of job_course, and `Lines` and `Places`, before it.
use Rattle.std.specs.Prelude.{◌≡◌, ℕ, Bool, ◌*◌, ◌<◌, ◌≤◌, List, length, codes}
use Rattle.serde_json.specs.Data.{Data}
use Rattle.json_parts.specs.Json.{IsJson}
use Rattle.network_file.specs.Network.{Network, Port, network_of}
use Rattle.case_file.specs.Case.{Case, Capture, case_of}
use Rattle.job_course.specs.declared.status.Status.{Status}
use Rattle.job_course.specs.declared.status.Status.TheVariants.{BadNetwork}
use Rattle.job_course.specs.declared.status.Area.TheVariants as area
use Rattle.job_course.specs.Course.{Course, file, decide, and_then, answer}
use Rattle.job_course.specs.Lines.{cause_line}
use Rattle.network_course.specs.Lines.{shape_line, network_line, place_line}
use Rattle.network_course.specs.Places.{places_of}

-- the bytes are no value that is nested at most 127 deep
abbrev pub IsNoJson : (name bytes : List ℕ) → Status → (line : List ℕ) → Type 0
IsNoJson name bytes s l =
    (s ≡ BadNetwork) × (l ≡ cause_line area.Network name (codes "Json")) × ((d : Data) → IsJson bytes d → ⊥)

-- a JSON file of at most 4 MiB
abbrev pub value_course : (name : List ℕ) → Course Data
value_course name = and_then (file name 4194304 area.Network) (λ bytes. decide (IsJson bytes) (IsNoJson name bytes))

-- the case that a value says, for a command that needs a property or not
abbrev pub case_answer : (needs_property : Bool) → (name : List ℕ) → Data → Course Case
case_answer needs name d = answer BadNetwork (shape_line name) (case_of needs d)

-- all switches together have at most 4,194,304 cells of registers, a switch so many
abbrev pub IsWithin : (cells : ℕ) (read n : Network) → Type 0
IsWithin cells read n = (n ≡ read) × (length read.names * cells ≤ 4194304)

abbrev pub IsOver : (name : List ℕ) (cells : ℕ) (read : Network) → Status → (line : List ℕ) → Type 0
IsOver name cells read s l =
    (s ≡ BadNetwork) × (l ≡ cause_line area.Network name (codes "Limit")) × (4194304 < length read.names * cells)

-- a network's file, for a program whose registers have so many cells
abbrev pub network_course : (name : List ℕ) (cells : ℕ) → Course Network
network_course name cells = and_then (value_course name) (λ d. and_then (answer BadNetwork (network_line name) (network_of d)) (λ n. decide (IsWithin cells n) (IsOver name cells n)))

-- where the captures of the case enter the network; a refusal names the case's file
abbrev pub places_answer : (name : List ℕ) → Network → List Capture → Course (List Port)
places_answer name n cs = answer BadNetwork (place_line name) (places_of n cs)
