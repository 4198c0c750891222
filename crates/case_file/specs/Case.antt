-- How a case file is written: `{"captures": [{"file": name, "port": number, "switch": name}, ..],
-- "network": name, "program": name}`, and what may stand in it besides. Read `Object`, `Turns` and
-- `Paths` of json_parts before it.
use Rattle.std.specs.Prelude.{ℕ, List, [], ◌∷◌, Bool, true, false, codes, Option, Some, Result, Ok, Err, option_and_then}
use Rattle.std.specs.Option.{option_map_or}
use Rattle.serde_json.specs.Data.{Data}
use Rattle.json_parts.specs.Answers.{◌>>=◌}
use Rattle.json_parts.specs.Object.{Object, members_of, maybe_at, text_at, maybe_text_at, list_at, number_at, end_of}
use Rattle.json_parts.specs.Paths.{below, item_below}
use Rattle.json_parts.specs.Trees.{as_whole}
use Rattle.json_parts.specs.Turns.{all_of}
use Rattle.json_parts.specs.declared.fault.ShapeFault.{ShapeFault}
use Rattle.json_parts.specs.declared.fault.ShapeFault.TheVariants.{Shape}

-- ---- captures

-- a capture: the switch and the port at which its frames enter, and its file
pub record Capture : Type 0 where
  pub switch : List ℕ
  pub port : ℕ
  pub file : List ℕ

abbrev pub capture_path : (number : ℕ) → List ℕ
capture_path number = item_below (codes "/captures") number

-- any number below 2^64, which has to be there; whether there is such a port is tested later
abbrev pub port_from : (path : List ℕ) → Option Data → Result ℕ ShapeFault
port_from path d = option_map_or (λ n. Ok n) (option_and_then as_whole d) (Err (Shape (below path (codes "port"))))

abbrev pub port_at : (path : List ℕ) → Object → Result ℕ ShapeFault
port_at path o = maybe_at o (codes "port") >>= λ d. port_from path d

unfoldable pub capture_at : (number : ℕ) → Data → Result Capture ShapeFault
capture_at number d = do
  members ← members_of (capture_path number) (codes "file" ∷ codes "port" ∷ codes "switch" ∷ []) d
  file ← text_at members (codes "file")
  port ← port_at (capture_path number) members
  switch ← text_at members (codes "switch")
  rest ← end_of members
  Ok (record { switch = switch; port = port; file = file })

abbrev pub captures_of : List Data → Result (List Capture) ShapeFault
captures_of ds = all_of capture_at ds

-- ---- cases

-- a case: the names of its files, how many switches a packet may pass, and the bytes of telemetry
-- that a frame may carry
pub record Case : Type 0 where
  pub captures : List Capture
  pub control : Option (List ℕ)
  pub entries : Option (List ℕ)
  pub hops : ℕ
  pub network : List ℕ
  pub program : List ℕ
  pub property : Option (List ℕ)
  pub room : ℕ
  pub schedule : Option (List ℕ)

-- the members of a case, in the byte order of their names
abbrev pub case_names : List (List ℕ)
case_names = codes "captures" ∷ codes "control" ∷ codes "entries" ∷ codes "hops" ∷ codes "network" ∷ codes "program" ∷ codes "property" ∷ codes "room" ∷ codes "schedule" ∷ []

-- the members up to `hops`: 1 to 255 switches, or 64 where nothing is said
pub record Front : Type 0 where
  pub captures : List Capture
  pub control : Option (List ℕ)
  pub entries : Option (List ℕ)
  pub hops : ℕ

unfoldable pub front_of : Object → Result Front ShapeFault
front_of members = do
  list ← list_at members (codes "captures")
  captures ← captures_of list
  control ← maybe_text_at members (codes "control")
  entries ← maybe_text_at members (codes "entries")
  hops ← number_at members (codes "hops") 1 255 64
  Ok (record { captures = captures; control = control; entries = entries; hops = hops })

-- the property's file, which has to be named where it is needed
abbrev pub property_at : (needed : Bool) → Object → Result (Option (List ℕ)) ShapeFault
property_at true o = text_at o (codes "property") >>= λ name. Ok (Some name)
property_at false o = maybe_text_at o (codes "property")

-- those behind it: 1 to 256 bytes, or 128 where nothing is said
unfoldable pub case_from : (needs_property : Bool) → Object → Front → Result Case ShapeFault
case_from needs members f = do
  network ← text_at members (codes "network")
  program ← text_at members (codes "program")
  property ← property_at needs members
  room ← number_at members (codes "room") 1 256 128
  schedule ← maybe_text_at members (codes "schedule")
  rest ← end_of members
  Ok (record { captures = f.captures; control = f.control; entries = f.entries; hops = f.hops; network = network; program = program; property = property; room = room; schedule = schedule })

-- the case of a command that needs a property or not, or the first fault of its form: members in byte order of their
-- names, one that is missing at its place among them, arrays in order
unfoldable pub case_of : (needs_property : Bool) → Data → Result Case ShapeFault
case_of needs d = do
  members ← members_of [] case_names d
  front ← front_of members
  case_from needs members front
