-- Values of the program without where they lie in memory.
use Rattle.std.specs.Prelude.{List, map, Result}
use Rattle.json_parts.specs.Answers.{GivesUnless}
use Rattle.network_file.specs.Network.{Port}
use Rattle.network_course.specs.declared.places.Place.{Place}
use Rattle.network_course.specs.declared.places.PlaceFault.{PlaceFault}
use Rattle.network_course.specs.declared.places.PlaceFault.TheVariants.{NoMemory}

-- an answer is what a definition gives, unless memory was wanting
abbrev pub Gives : {X Y : Type 0} → (X → Y) → Result X PlaceFault → Result Y PlaceFault → Type 0
Gives view result defined = GivesUnless NoMemory view result defined

abbrev pub place_view : Place → Port
place_view p = (p.switch, p.port)

abbrev pub place_views : List Place → List Port
place_views ps = map place_view ps
