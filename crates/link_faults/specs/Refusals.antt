-- Why a program is not linked with a property. Read `Faults` after it, which says where each refusal comes.
use Rattle.std.specs.Prelude.{ℕ, List, Option, Some, None}

pub data Refusal : Type 0 where
  -- a header variable reads what the program does not have. name: its path, as it is written
  no_such_field : (name : List ℕ) → Refusal
  -- a header variable reads what the program has in another width, or what is no number there
  field_width : (name : List ℕ) → Refusal
  -- the program has a name that is kept for monitors, or tells digests to the receiver of reports
  name_taken : (name : List ℕ) → Refusal
  -- the telemetry needs more bytes than there is room for
  room_short : (need room : ℕ) → Refusal
  -- the property is too large to be linked
  too_large : (weight : ℕ) → Refusal

-- the first, or else the second
abbrev pub or_else : {A : Type 0} → Option A → Option A → Option A
or_else None b = b
or_else (Some a) b = Some a
