-- Values of the program without where they lie in memory.
use Rattle.std.specs.Prelude.{ℕ, List, map, option_map, Result, String, string_bytes}
use Rattle.std.specs.Borrow.{Bor}
use Rattle.std.specs.declared.alloc.Global.{Global}
use Rattle.serde_json.specs.Data.{Data}
use Rattle.serde_json.specs.View.{view}
use Rattle.serde_json.specs.declared.value.Value.{Value}
use Rattle.json_parts.specs.declared.fault.ShapeFault.{ShapeFault}
use Rattle.json_parts.specs.declared.fault.ShapeFault.TheVariants.{NoMemory}
use Rattle.json_parts.specs.declared.members.Members.{Members}
use Rattle.json_parts.specs.Answers.{GivesUnless}
use Rattle.json_parts.specs.Object.{Object}

-- an answer is what a definition gives, unless memory was wanting
abbrev pub Gives : {X Y : Type 0} → (X → Y) → Result X ShapeFault → Result Y ShapeFault → Type 0
Gives view result defined = GivesUnless NoMemory view result defined

-- texts that are lent
abbrev pub texts : List (Bor (List ℕ)) → List (List ℕ)
texts ts = map (λ s. s.now) ts

-- texts that are owned, as the keys of a table of names
abbrev pub owned : List (String Global) → List (List ℕ)
owned ts = map string_bytes ts

-- a member, with its name
abbrev pub field : String Global × Value → List ℕ × Data
field m = (string_bytes m.0, view m.1)

abbrev pub fields : List (String Global × Value) → List (List ℕ × Data)
fields ms = map field ms

abbrev pub object_seen : Members → Object
object_seen m = record { path = m.path.now; value = view m.value.now; unknown = option_map (λ s. s.now) m.unknown }
