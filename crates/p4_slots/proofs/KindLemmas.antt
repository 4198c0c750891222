-- What a switch of a kind does, by the kind.
use Rattle.std.proofs.Common.{◌≡◌, ℕ, List, [], sym, ap, ap₂}
use Rattle.p4_machine.specs.Passages.{Passage, exit_in, passage_in}
use Rattle.p4_slots.specs.Kinds.{program_in, tables_in, registers_in, place_for}
use Rattle.p4_slots.specs.declared.switch.Kind.{Kind}
use Rattle.p4_slots.specs.declared.switch.PlaceKind.{PlaceKind}

-- the exit half of what waits
abbrev pub exit_for : Kind → PlaceKind → Passage
exit_for k q = exit_in (program_in k) (tables_in k) (registers_in k) [] (place_for q).waiting

pub left_as : (k l : Kind) (q r : PlaceKind) → k ≡ l → q ≡ r → exit_for l r ≡ exit_for k q
left_as k l q r a b = ap₂ exit_for (sym a) (sym b)

-- a passage
abbrev pub passage_for : (port : ℕ) → (frame : List ℕ) → Kind → Passage
passage_for port frame k = passage_in (program_in k) (tables_in k) (registers_in k) port frame

pub passed_as : (port : ℕ) (frame : List ℕ) (k l : Kind) → k ≡ l → passage_for port frame l ≡ passage_for port frame k
passed_as port frame k l a = ap (passage_for port frame) (sym a)
