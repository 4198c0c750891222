-- The bytes of a capture, frame by frame.
use Rattle.std.proofs.Common.{◌≡◌, ℕ, zero, suc, ◌+◌, ◌<◌, ◌≤◌, List, [], ◌∷◌, ◌++◌, length, map, take, get_or, sym, ap, ◌∙◌, append_assoc, arith}
use Rattle.std.specs.List.{flat_map}
use Rattle.std.proofs.lemmas.List.{append-nil, take_more, map_push}
use Rattle.std.proofs.lemmas.Grind.{flat_map-append}
use Rattle.std.proofs.lemmas.List.Concat.{flat_map-cons}
use Rattle.network_run.specs.Network.{Sent}
use Rattle.pcap_io.specs.Record.{Record}
use Rattle.pcap_io.specs.Written.{header_bytes, record_bytes}
use Rattle.run_captures.specs.Captures.{Time, record_for}
use Rattle.run_captures.specs.Sorted.{AreShort}

-- the bytes of the first frames, and of one more
module _ {A : Type 0} (v : A → Sent) (ts : List Time) where
  pub frame_more : (xs : List A) (i : ℕ) (x : A) (out : List ℕ) → i < length xs → x ≡ get_or xs i x
      → out ≡ header_bytes ++ flat_map record_bytes (map (record_for ts) (map v (take i xs)))
      → out ++ record_bytes (record_for ts (v x)) ≡ header_bytes ++ flat_map record_bytes (map (record_for ts) (map v (take (i + 1) xs)))
  frame_more xs i x out inside item so_far =
      let r : Record = record_for ts (v x) in
      let more : take (i + 1) xs ≡ take i xs ++ x ∷ [] = take_more xs i x inside ∙ ap (λ (y : A). take i xs ++ y ∷ []) (sym item) in
      let one : flat_map record_bytes (r ∷ []) ≡ record_bytes r = flat_map-cons record_bytes r [] ∙ append-nil (record_bytes r) in
      rw (more, map_push v (take i xs) x, map_push (record_for ts) (map v (take i xs)) (v x), flat_map-append record_bytes (map (record_for ts) (map v (take i xs))) (r ∷ []), one, so_far)
      (append_assoc header_bytes (flat_map record_bytes (map (record_for ts) (map v (take i xs)))) (record_bytes r))

-- a frame among short ones is short
pub short_at : {A : Type 0} (v : A → Sent) (xs : List A) (i : ℕ) (x : A) → i < length xs → x ≡ get_or xs i x → AreShort (map v xs) → length (v x).frame ≤ 65791
short_at v [] i x lt is h = absurd (omega (arith, lt))
short_at v (y ∷ ys) zero x lt is h =
    let first : length (v y).frame ≤ 65791 = h zero (v x) (omega arith) in
    rw (ap (λ z. v z) is) first
short_at v (y ∷ ys) (suc i) x lt is h = short_at v ys i x (omega (arith, lt)) is (λ k d l. h (suc k) d (omega (arith, l)))
