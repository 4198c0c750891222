-- Reads and writes that move a part of what was asked, one after the other.
use Rattle.std.proofs.Common.{◌≡◌, ◌≤◌, ◌+◌, ◌-◌, ◌++◌, List, ℕ, length, take, drop, Option, length-drop}
use Rattle.std.proofs.KnownBytes.{Appends-trans, Consumes-trans}
use Rattle.std.specs.Io.KnownBytes.{Appends, Consumes}
use Rattle.std.proofs.lemmas.List.{take-append-le}
use Rattle.std.proofs.Math.Seq.{take-add, take-length}

-- what was written of the rest joins what was written before
pub appends_more : (first second third : Option (List ℕ)) (bytes : List ℕ) (at n : ℕ)
    → Appends first second (take at bytes) → Appends second third (take n (take (length bytes - at) (drop at bytes)))
    → Appends first third (take (at + n) bytes)
appends_more first second third bytes at n p q =
    let all : take (length bytes - at) (drop at bytes) ≡ drop at bytes =
    rw (← length-drop at bytes) (take-length (drop at bytes)) in
    let next : Appends second third (take n (drop at bytes)) = rw all at q in
    rw (take-add at n bytes) (Appends-trans first second third (take at bytes) (take n (drop at bytes)) p next)

-- what was read next joins what was read before
pub consumes_more : (first second third : Option (List ℕ)) (bytes now buf rest : List ℕ) (n : ℕ) → n ≤ length buf
    → Consumes first second bytes → Consumes second third (take n buf) → now ≡ bytes ++ take n (buf ++ rest)
    → Consumes first third now
consumes_more first second third bytes now buf rest n short p q grew =
    let front : take n (buf ++ rest) ≡ take n buf = take-append-le n buf rest short in
    rw (grew, front) (Consumes-trans first second third bytes (take n buf) p q)
