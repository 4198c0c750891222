-- A list of paths with their words, and a list of headers, as a store.
use Rattle.std.specs.Prelude.{ℕ, List, [], ◌∷◌, Bool, true, false, Option, Some, None, if◌then◌else◌}
use Rattle.std.specs.Global.{Vec}
use Rattle.bit_values.specs.Bits.{Word, word}
use Rattle.lex_text.specs.Names.{same_path, parent}
use Rattle.p4_meaning.specs.Store.{Store, zero_of}
use Rattle.p4_packets.specs.declared.fields.Fields.{Fields}

-- a path, as the lists keep it
abbrev pub Key : Type 0
Key = Vec (List ℕ)

-- what f makes of the first entry of a path, or d
abbrev pub look : {X Y : Type 0} → Y → (X → Y) → List (Key × X) → List (List ℕ) → Y
look d f [] p = d
look d f (e ∷ es) p = if same_path e.0.items p then f e.1 else look d f es p

-- the word of the first entry of a path, or one bit that is 0
abbrev pub value_in : List (Key × Word) → List (List ℕ) → Word
value_in = look (word 1 0) (λ w. w)

-- whether the header at a path is valid, and None where there is none
abbrev pub header_in : List (Key × Bool) → List (List ℕ) → Option Bool
header_in = look None Some

-- what is in sight
abbrev pub store_of : Fields → Store
store_of f = record { values = value_in f.values.items; headers = header_in f.valid.items }

-- whether there is an entry of the path, and the entries, of which the first such has the value
abbrev pub put_in : {X : Type 0} → List (Key × X) → List (List ℕ) → X → Bool × List (Key × X)
put_in [] p w = (false, [])
put_in (e ∷ es) p w = if same_path e.0.items p then (true, (e.0, w) ∷ es) else (let r = put_in es p w in (r.0, e ∷ r.1))

-- an entry, which is 0 where it is a field of the header
abbrev pub zero_under : List (List ℕ) → Key × Word → Key × Word
zero_under h e = (e.0, if same_path h (parent e.0.items) then zero_of e.1 else e.1)

-- a test of an entry's path
abbrev pub at_key : {X : Type 0} → (List (List ℕ) → Bool) → Key × X → Bool
at_key test e = test e.0.items
