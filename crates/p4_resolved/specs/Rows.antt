-- Names with what they stand for, the nearest first, and a table of their places.
use Rattle.std.specs.Prelude.{ℕ, List, [], ◌∷◌, length, String, string_bytes, Option, Some, None, if◌then◌else◌}
use Rattle.std.specs.Map.{lookup}
use Rattle.std.specs.Str.{bytes_eq}
use Rattle.std.specs.declared.alloc.Global.{Global}
use Rattle.lex_text.specs.Names.{same_text}

-- what the nearest row of a name holds
abbrev pub named : {T : Type 0} → List (List ℕ × T) → List ℕ → Option T
named [] x = None
named (r ∷ rs) x = if same_text r.0 x then Some r.1 else named rs x

-- how many rows stand behind it
abbrev pub place_in : {T : Type 0} → List (List ℕ × T) → List ℕ → Option ℕ
place_in [] x = None
place_in (r ∷ rs) x = if same_text r.0 x then Some (length rs) else place_in rs x

-- what a table has at a name
abbrev pub at_name : {V : Type 0} → List (String Global × V) → List ℕ → Option V
at_name es x = lookup (λ k. bytes_eq x (string_bytes k)) es
