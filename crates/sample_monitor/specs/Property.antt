-- A property made by hand. A packet carries five bits of a header variable, and a list of the last two switches. A switch
-- has a counter in four cells. The one control variable is a set of bytes.
use Rattle.std.specs.Prelude.{◌≡◌, ℕ, ◌<◌, ◌≤◌, ◌^◌, List, [], ◌∷◌, ◌++◌, Bool, false, ◌&&◌, ◌||◌, not, if◌then◌else◌, nat_eq, get_or, slice_set}
use Rattle.std.specs.List.{AllByRecursion}
use Rattle.bit_values.specs.Bits.{Word, word, add, slice, cast}
use Rattle.bit_values.specs.Widths.{bit}
use Rattle.network_run.specs.PathMeaning.{Reads, Report, Property}

-- what a packet carries: five bits, and a list of at most two bytes, the oldest first. A slot that the list does not reach
-- holds any byte
pub record Tele : Type 0 where
  pub five : Word
  pub count : Word
  pub front : Word
  pub back : Word

abbrev pub no_tele : Tele
no_tele = record { five = word 5 0; count = word 8 0; front = word 8 0; back = word 8 0 }

-- a byte stands behind the others; a full list loses its oldest
abbrev pub pushed : Word → Tele → Tele
pushed w t =
    if nat_eq t.count.value 2 then record t { front = t.back; back = w } else
    if nat_eq t.count.value 1 then record t { count = word 8 2; back = w } else record t { count = word 8 1; front = w }

-- the low five bits of a word, and its low eight
abbrev pub five_of : Word → Word
five_of w = word 5 (slice w.value 4 0)

abbrev pub byte_of : ℕ → Word
byte_of n = word 8 (cast 8 n)

-- the word of a view of one
abbrev pub first_of : List Word → Word
first_of [] = word 8 0
first_of (w ∷ ws) = w

-- the number of a word is that of a member
abbrev pub is_member : List Word → Word → Bool
is_member [] w = false
is_member (m ∷ ms) w = nat_eq m.value w.value || is_member ms w

-- the header variable is in the set
abbrev pub is_known : Reads (List Word) → Bool
is_known h = is_member (h.contents 0) (byte_of (first_of h.view).value)

-- the cell that the low two of the five bits name, and the cells where it has counted one more
abbrev pub cell_of : Tele → ℕ
cell_of t = slice t.five.value 1 0

abbrev pub counted : List ℕ → ℕ → List ℕ
counted cells i = slice_set cells i (add 8 (get_or cells i 0) 1)

-- what the counter shows, with whether this is the first hop, and how many switches are in the list
abbrev pub counter_report : (cell : ℕ) → (first : Bool) → Report
counter_report n first = record { number = 0; values = word 8 n ∷ bit first ∷ [] }

abbrev pub length_report : (count : Word) → Report
length_report count = record { number = 1; values = count ∷ [] }

-- init takes five bits of a known header variable. Telemetry reports and counts, and pushes the switch. The checker rejects
-- an unknown header variable behind the first hop
abbrev pub sample_property : Property Tele (List ℕ) (List Word)
sample_property =
    record {
      tele = no_tele;
      sensors = 7 ∷ 7 ∷ 7 ∷ 7 ∷ [];
      init = λ h d. if is_known h then record d { tele = record d.tele { five = five_of (first_of h.view) } } else d;
      telemetry = λ h d.
          record d {
            tele = pushed (byte_of h.switch) d.tele;
            sensors = counted d.sensors (cell_of d.tele);
            reports = d.reports ++ counter_report (get_or d.sensors (cell_of d.tele) 0) h.first ∷ length_report (pushed (byte_of h.switch) d.tele).count ∷ [];
          };
      checker = λ h d. record d { rejected = not (is_known h) && not h.first };
    }

-- a byte
pub record IsByte (w : Word) : Type 0 where
  pub width : w.width ≡ 8
  pub low : w.value < 2 ^ 8

-- tele values that come back from their bytes, with a list of at most two
pub record IsFit (t : Tele) : Type 0 where
  pub width : t.five.width ≡ 5
  pub low : t.five.value < 2 ^ 5
  pub count : IsByte t.count
  pub few : t.count.value ≤ 2
  pub front : IsByte t.front
  pub back : IsByte t.back

-- header variables are bytes
abbrev pub AreByteViews : List Word → Type 0
AreByteViews ws = AllByRecursion IsByte ws

-- the one control variable, and what it may hold
abbrev pub OnlyZero : ℕ → Type 0
OnlyZero v = v ≡ 0

abbrev pub AreBytes : (variable : ℕ) → List Word → Type 0
AreBytes v ks = AllByRecursion IsByte ks
