-- The lines of refused files of a network.
use Rattle.std.specs.Prelude.{ℕ, List, [], ◌∷◌, ◌++◌, codes}
use Rattle.json_parts.specs.declared.fault.ShapeFault.{ShapeFault}
use Rattle.json_parts.specs.declared.fault.ShapeFault.TheVariants as shape
use Rattle.network_file.specs.declared.fault.NetworkFault.{NetworkFault}
use Rattle.network_file.specs.declared.fault.NetworkFault.TheVariants as network
use Rattle.job_course.specs.declared.status.Area.TheVariants as area
use Rattle.job_course.specs.Lines.{memory_line, cause_line}
use Rattle.network_course.specs.declared.places.PlaceFault.{PlaceFault}
use Rattle.network_course.specs.declared.places.PlaceFault.TheVariants as place

-- a file with a cause and the path of its place
abbrev pub path_line : (name cause path : List ℕ) → List ℕ
path_line name cause path = codes "hydra: network " ++ (name ++ (32 ∷ (cause ++ (32 ∷ (path ++ 10 ∷ [])))))

-- want of memory has another line
abbrev pub shape_line : (name : List ℕ) → ShapeFault → List ℕ
shape_line name shape.NoMemory = memory_line
shape_line name (shape.Shape path) = path_line name (codes "Shape") path

abbrev pub network_line : (name : List ℕ) → NetworkFault → List ℕ
network_line name network.NoMemory = memory_line
network_line name (network.Shape path) = path_line name (codes "Shape") path
network_line name (network.NameTwice path) = path_line name (codes "NameTwice") path
network_line name (network.NoSuchSwitch path) = path_line name (codes "NoSuchSwitch") path
network_line name (network.PortTwice path) = path_line name (codes "PortTwice") path
network_line name (network.BadPort path) = path_line name (codes "BadPort") path
network_line name network.Limit = cause_line area.Network name (codes "Limit")

abbrev pub place_line : (name : List ℕ) → PlaceFault → List ℕ
place_line name place.NoMemory = memory_line
place_line name (place.NoSuchSwitch path) = path_line name (codes "NoSuchSwitch") path
place_line name (place.LinkedPort path) = path_line name (codes "LinkedPort") path
