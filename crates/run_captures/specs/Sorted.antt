-- What a walk over frames finds, sorted by their switches or ports.
use Rattle.std.specs.Prelude.{◌≡◌, ◌<◌, ◌≤◌, ◌==◌, ℕ, ◌+◌, List, [], ◌∷◌, ◌++◌, length, map, get_or, if◌then◌else◌, All}
use Rattle.network_run.specs.Network.{Sent}
use Rattle.run_captures.specs.Captures.{Time, Front, record_for, port_file}

-- what frames are sorted by
abbrev pub switch_of : Sent → ℕ
switch_of x = x.switch

abbrev pub port_of : Sent → ℕ
port_of x = x.port

-- those of a number
abbrev pub those_at : (key : Sent → ℕ) → (number : ℕ) → List Sent → List Sent
those_at key n [] = []
those_at key n (x ∷ xs) = if key x == n then x ∷ those_at key n xs else those_at key n xs

-- so many lists, each with the frames of its number
pub record AreSorted (key : Sent → ℕ) (size : ℕ) (xs : List Sent) (lists : List (List Sent)) : Type 0 where
  pub count : length lists ≡ size
  pub each : (n : ℕ) → n < size → get_or lists n [] ≡ those_at key n xs

-- a frame goes behind those of its number, if there is a list for it
abbrev pub IsPut : (key : Sent → ℕ) → Sent → (old new : List (List Sent)) → Type 0
IsPut key x old new = (size : ℕ) (xs : List Sent) → AreSorted key size xs old → AreSorted key size (xs ++ x ∷ []) new

-- links carry such frames
abbrev pub AreShort : List Sent → Type 0
AreShort xs = All (λ x. length x.frame ≤ 65791) xs

-- the files of lists of frames, the first of which is of port p
abbrev pub lists_files : Front → (name : List ℕ) → List Time → (port : ℕ) → List (List Sent) → List (List ℕ × List ℕ)
lists_files f n ts p [] = []
lists_files f n ts p (l ∷ ls) = port_file f n p (map (record_for ts) l) ++ lists_files f n ts (p + 1) ls
