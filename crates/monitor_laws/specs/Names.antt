-- The names that the linker and a lowering share, and what of the monitor's names lowered statements may write. Read
-- `Regions` of `own_code` before it.
use Rattle.std.specs.Prelude.{codes, ℕ, List, [], ◌∷◌, Bool, true, false, ◌&&◌, ◌||◌, not}
use Rattle.lex_text.specs.Names.{same_text}
use Rattle.lex_text.specs.Comments.{begins}
use Rattle.p4_meaning.specs.Standard.{headers_root}
use Rattle.own_code.specs.Regions.{is_mine}

-- the telemetry header
abbrev pub tele_header : List (List ℕ)
tele_header = headers_root ∷ codes "hydra_tele" ∷ []

-- the field that marks the telemetry's first byte
abbrev pub mark_name : List ℕ
mark_name = codes "hydra_mark"

abbrev pub mark_path : List (List ℕ)
mark_path = headers_root ∷ codes "hydra_tele" ∷ mark_name ∷ []

-- the register that counts rejected packets
abbrev pub rejects_register : List ℕ
rejects_register = codes "hydra_rejects"

-- the variables of the exit part: whether the hop is the first, and the last, which the linker sets, and the verdict
abbrev pub first_name : List ℕ
first_name = codes "hydra_first"

abbrev pub last_name : List ℕ
last_name = codes "hydra_last"

abbrev pub rejected_name : List ℕ
rejected_name = codes "hydra_rejected"

-- the two that the linker sets
abbrev pub is_flag : List ℕ → Bool
is_flag x = same_text first_name x || same_text last_name x

-- what lowered statements may write: variables of the monitor's but for the linker's flags, and fields of the telemetry
-- but for the mark
abbrev pub is_lowered : List (List ℕ) → Bool
is_lowered [] = false
is_lowered (x ∷ []) = is_mine x && not (is_flag x)
is_lowered (x ∷ y ∷ []) = false
is_lowered (x ∷ y ∷ z ∷ rest) = same_text headers_root x && (same_text (codes "hydra_tele") y && not (same_text mark_name z))

-- a register of a sensor
abbrev pub is_sensor : List ℕ → Bool
is_sensor x = begins (codes "hydra_s_") x

-- a variable of the monitor's
abbrev pub is_variable : List (List ℕ) → Bool
is_variable [] = false
is_variable (x ∷ []) = is_mine x
is_variable (x ∷ y ∷ rest) = false

-- a path of more names than one: no variable of a control
abbrev pub is_long : List (List ℕ) → Bool
is_long [] = false
is_long (x ∷ []) = false
is_long (x ∷ y ∷ rest) = true
