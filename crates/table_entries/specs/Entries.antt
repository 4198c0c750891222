-- Entries of tables, by the numbers of their actions, and which of them are the same. Read `Choice` of the meaning and
-- `Shapes` before it, and `State` after it.
use Rattle.std.specs.Prelude.{ℕ, ◌-◌, ◌/◌, ◌^◌, List, [], ◌∷◌, Bool, true, false, not, ◌&&◌, ◌||◌, nat_eq, bit_and}
use Rattle.bit_values.specs.Bits.{Word}
use Rattle.p4_meaning.specs.Choice as choice
use Rattle.p4_meaning.specs.Choice.{Match, exact, lpm, ternary}

-- an entry: what it asks of each key, and the action that it runs, by its number, with these arguments
pub record Entry : Type 0 where
  pub keys : List Match
  pub action : ℕ
  pub args : List Word
  pub priority : ℕ

-- an action by its number, with arguments
pub record Act : Type 0 where
  pub action : ℕ
  pub args : List Word

-- what an entry runs
abbrev pub act_in : Entry → Act
act_in e = record { action = e.action; args = e.args }

-- an entry of the meaning: with its action's name in the place of the number
abbrev pub named : (ℕ → List ℕ) → Entry → choice.Entry
named name e = record { keys = e.keys; action = name e.action; args = e.args; priority = e.priority }

-- the same is asked of a key: one number, as many first bits and these the same, or one mask and under it the same bits
abbrev pub same_match : Match → Match → Bool
same_match (exact v) (exact w) = nat_eq v.value w.value
same_match (lpm v n) (lpm w m) = nat_eq n m && nat_eq (v.value / 2 ^ (v.width - n)) (w.value / 2 ^ (w.width - m))
same_match (ternary v m) (ternary w k) = nat_eq m.value k.value && nat_eq (bit_and v.value m.value) (bit_and w.value k.value)
same_match (exact v) (lpm w n) = false
same_match (exact v) (ternary w k) = false
same_match (lpm v n) (exact w) = false
same_match (lpm v n) (ternary w k) = false
same_match (ternary v m) (exact w) = false
same_match (ternary v m) (lpm w n) = false

-- the same is asked of all keys
abbrev pub same_keys : List Match → List Match → Bool
same_keys [] [] = true
same_keys [] (n ∷ ns) = false
same_keys (m ∷ ms) [] = false
same_keys (m ∷ ms) (n ∷ ns) = same_match m n && same_keys ms ns

-- two entries ask the same of all keys, and in a table with a ternary key have one priority
abbrev pub same_entry : (has_ternary : Bool) → Entry → Entry → Bool
same_entry t e f = same_keys e.keys f.keys && (not t || nat_eq e.priority f.priority)

-- some entry is the same as this one
abbrev pub has_same : (has_ternary : Bool) → List Entry → Entry → Bool
has_same t [] e = false
has_same t (f ∷ fs) e = same_entry t f e || has_same t fs e

-- some entry has this priority
abbrev pub has_priority : List Entry → ℕ → Bool
has_priority [] p = false
has_priority (f ∷ fs) p = nat_eq f.priority p || has_priority fs p
