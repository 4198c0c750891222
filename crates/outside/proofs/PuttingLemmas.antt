-- A piece of which only the front was taken.
use Rattle.std.proofs.Common.{◌≡◌, ◌≤◌, ◌+◌, ◌-◌, ◌++◌, List, ℕ, length, take, drop, arith, sym, length-append, Err}
use Rattle.std.proofs.lemmas.List.{take-append-drop, length-take-le}
use Rattle.outside.specs.declared.stops.SinkStop.{SinkStop}
use Rattle.outside.specs.Putting.{Takes}

-- a put that fails after the first n bytes, where n is what is left of the room
pub takes_front : (old new piece : List ℕ) (room n : ℕ) (stop : SinkStop)
    → n ≤ length piece → new ≡ old ++ take n piece → n ≡ room - length old
    → Takes old new piece (room - length old) (room - length new) (Err stop)
takes_front old new piece room n stop short grew left =
    let front : length (take n piece) ≡ n = length-take-le n piece short in
    let now : length new ≡ length old + length (take n piece) = rw grew (length-append old (take n piece)) in
    record { whole = tt; prefix = (take n piece, drop n piece, sym (take-append-drop n piece), grew, omega arith) }
