-- Records of captures one behind the other.
use Rattle.std.proofs.Common.{◌≡◌, ◌⊎◌, inl, inr, ℕ, suc, ◌+◌, ◌<◌, List, [], ◌∷◌, ◌++◌, length, map, take, get_or, refl, sym, ap, ap₂, ◌∙◌, arith, append_assoc, append-nil}
use Rattle.std.proofs.lemmas.List.{map-append}
use Rattle.std.proofs.Math.Seq.{take-suc}
use Rattle.network_run.specs.World.{Arrival}
use Rattle.network_file.specs.Network.{Port}
use Rattle.pcap_io.specs.Record.{Record}
use Rattle.run_captures.specs.Captures.{Time}
use Rattle.case_course.specs.Packets.{arrival_at, arrivals_of, time_at, times_of}

-- one more of two maps
pub one_taken : {A B C : Type 0} (v : A → B) (w : B → C) (xs : List A) (i : ℕ) (d : A) → i < length xs → map w (map v (take (i + 1) xs)) ≡ map w (map v (take i xs)) ++ w (v (get_or xs i d)) ∷ []
one_taken v w xs i d lt =
    let next : i + 1 ≡ suc i = omega arith in
    ap (λ n. map w (map v (take n xs))) next ∙ ap (λ (ys : List _). map w (map v ys)) (take-suc xs i d lt) ∙ ap (map w) (map-append v (take i xs) (get_or xs i d ∷ [])) ∙ map-append w (map v (take i xs)) (v (get_or xs i d) ∷ [])

-- a time behind those of the records before it
pub time_more : {T C : Type 0} (view : T → Time) (of : C → Record) (front : List Time) (now times : List T) (t : T) (xs : List C) (i : ℕ) (d : C) → i < length xs → now ≡ times ++ t ∷ []
    → view t ≡ time_at (of (get_or xs i d)) → map view times ≡ front ++ map time_at (map of (take i xs)) → map view now ≡ front ++ map time_at (map of (take (i + 1) xs))
time_more view of front now times t xs i d lt n v h =
    let done = map time_at (map of (take i xs)) in
    ap (map view) n ∙ map-append view times (t ∷ []) ∙ ap₂ (λ (a : List Time) (b : Time). a ++ b ∷ []) h v
    ∙ append_assoc front done (time_at (of (get_or xs i d)) ∷ []) ∙ ap (λ (a : List Time). front ++ a) (sym (one_taken of time_at xs i d lt))

-- the times of one capture more
times_push : (rss : List (List Record)) (rs : List Record) → times_of (rss ++ rs ∷ []) ≡ times_of rss ++ map time_at rs
times_push [] rs = append-nil (map time_at rs)
times_push (x ∷ rss) rs = ap (λ (ts : List Time). map time_at x ++ ts) (times_push rss rs) ∙ sym (append_assoc (map time_at x) (times_of rss) (map time_at rs))

pub times_more : {C : Type 0} (of : C → List Record) (xs : List C) (i : ℕ) (d : C) (now before : List Time) → i < length xs → now ≡ before ++ map time_at (of (get_or xs i d)) → before ≡ times_of (map of (take i xs))
    → now ≡ times_of (map of (take (i + 1) xs))
times_more of xs i d now before lt n h =
    let next : i + 1 ≡ suc i = omega arith in
    n ∙ ap (λ (a : List Time). a ++ map time_at (of (get_or xs i d))) h ∙ sym (times_push (map of (take i xs)) (of (get_or xs i d)))
    ∙ ap times_of (sym (map-append of (take i xs) (get_or xs i d ∷ []))) ∙ ap (λ (ys : List _). times_of (map of ys)) (sym (take-suc xs i d lt)) ∙ ap (λ n. times_of (map of (take n xs))) (sym next)

-- a packet of the next record
pub packet_more : {P C : Type 0} (view : P → Arrival) (of : C → Record) (p : Port) (now packets : List P) (x : P) (c : C) (left rest : List C) (all : List Arrival) → left ≡ c ∷ rest → now ≡ packets ++ x ∷ [] → view x ≡ arrival_at p (of c)
    → map view packets ++ map (arrival_at p) (map of left) ≡ all → map view now ++ map (arrival_at p) (map of rest) ≡ all
packet_more view of p now packets x c left rest all l n v h =
    let others = map (arrival_at p) (map of rest) in
    ap (λ (xs : List _). map view xs ++ others) n ∙ ap (λ (xs : List Arrival). xs ++ others) (map-append view packets (x ∷ [])) ∙ append_assoc (map view packets) (view x ∷ []) others
    ∙ ap (λ (a : Arrival). map view packets ++ a ∷ others) v ∙ ap (λ (cs : List _). map view packets ++ map (arrival_at p) (map of cs)) (sym l) ∙ h

-- those of the next capture
pub capture_more : {Q C : Type 0} (view : Q → Port) (of : C → List Record) (now before : List Arrival) (q : Q) (c : C) (ps qs : List Q) (cs ds : List C) (all : List Arrival) → ps ≡ q ∷ qs → cs ≡ c ∷ ds
    → now ≡ before ++ map (arrival_at (view q)) (of c) → before ++ arrivals_of (map view ps) (map of cs) ≡ all → now ++ arrivals_of (map view qs) (map of ds) ≡ all
capture_more view of now before q c ps qs cs ds all l m n h =
    let others = arrivals_of (map view qs) (map of ds) in
    ap (λ (xs : List Arrival). xs ++ others) n ∙ append_assoc before (map (arrival_at (view q)) (of c)) others
    ∙ ap₂ (λ (xs : List _) (ys : List _). before ++ arrivals_of (map view xs) (map of ys)) (sym l) (sym m) ∙ h

-- no capture is left, or no place
pub none_arrive : (ps : List Port) (rss : List (List Record)) → (length ps ≡ 0) ⊎ (length rss ≡ 0) → arrivals_of ps rss ≡ []
none_arrive [] rss h = refl
none_arrive (p ∷ ps) [] h = refl
none_arrive (p ∷ ps) (rs ∷ rss) (inl h) = absurd (omega (arith, h))
none_arrive (p ∷ ps) (rs ∷ rss) (inr h) = absurd (omega (arith, h))
