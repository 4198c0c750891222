-- Frames on links and frames that leave by edge ports are short.
--
-- The run puts no longer one there, and no event takes one away.
use Rattle.std.proofs.Common.{◌≡◌, ℕ, ◌+◌, ◌≤◌, List, [], ◌∷◌, ◌++◌, length, Bool, true, false, ◌||◌, Option, Some, None, All, refl, arith}
use Rattle.std.specs.Prelude.{nat_lt, nat_le}
use Rattle.std.proofs.lemmas.List.Elements.{All-nil, All-cons, All-append}
use Rattle.std.proofs.lemmas.Bool.Decides.{nat_tests}
use Rattle.network_run.specs.Machine.{Machine, Going}
use Rattle.network_run.specs.Network.{Wiring, Place, Flying, Waiting, Over, Sent, Wired, Net}
use Rattle.network_run.specs.Events.{Event, Enter, Leave, Set}
use Rattle.network_run.specs.NetworkRun.{Limits, longest_frame, frame_of, lost_if, sent, went, enters, leaves, happens, run_of_halves}

module _ (limits : Limits) where
  -- the frame is no longer than those that links carry, and than those that may leave
  abbrev pub IsCarried : Wired → Type 0
  IsCarried x = length x.sent.frame ≤ limits.link

  abbrev pub IsShort : Sent → Type 0
  IsShort x = length x.frame ≤ longest_frame

  pub record AreShort (ws : List Wired) (xs : List Sent) : Type 0 where
    pub wires : All (λ x. length x.sent.frame ≤ limits.link) ws
    pub edges : All (λ x. length x.frame ≤ longest_frame) xs

  -- one more, where it is no longer
  one_leaves : (ws : List Wired) (xs : List Sent) (x : Sent) → nat_lt longest_frame (length x.frame) ≡ false → AreShort ws xs → AreShort ws (xs ++ x ∷ [])
  one_leaves ws xs x e h = record { wires = h.wires; edges = All-append IsShort xs (x ∷ []) h.edges (All-cons IsShort x [] (grind (arith, nat_tests, e)) (All-nil IsShort)) }

  one_goes : (ws : List Wired) (xs : List Sent) (x : Wired) (over : Bool) → (over || nat_lt limits.link (length x.sent.frame)) ≡ false → AreShort ws xs → AreShort (ws ++ x ∷ []) xs
  one_goes ws xs x true e h = absurd (cc e)
  one_goes ws xs x false e h = record { wires = All-append IsCarried ws (x ∷ []) h.wires (All-cons IsCarried x [] (grind (arith, nat_tests, e)) (All-nil IsCarried)); edges = h.edges }

  -- a packet is lost, or else the network is another
  lost_short : {S Q C : Type 0} (b : Bool) (w goes : Net S Q C) (i : ℕ) → AreShort w.wires w.edges → (b ≡ false → AreShort goes.wires goes.edges) → AreShort (lost_if b w i goes).wires (lost_if b w i goes).edges
  lost_short true w goes i h k = h
  lost_short false w goes i h k = k refl

  module _ {S Q C : Type 0} (net : Wiring) where
    sent_short : (w : Net S Q C) (i s n : ℕ) (g : Going) (far : Option (ℕ × ℕ)) (half : ℕ) → AreShort w.wires w.edges → AreShort (sent net limits w i s n g far half).wires (sent net limits w i s n g far half).edges
    sent_short w i s n g None half h = lost_short (nat_lt longest_frame (length g.frame)) w _ i h (λ e. one_leaves w.wires w.edges (frame_of i s g) e h)
    sent_short w i s n g (Some far) half h = lost_short (nat_le limits.hops (n + 1) || nat_lt limits.link (length g.frame)) w _ i h (λ e. one_goes w.wires w.edges (record { half = half; sent = frame_of i s g }) (nat_le limits.hops (n + 1)) e h)

    went_short : (w : Net S Q C) (i s port n : ℕ) (g : Option Going) → AreShort w.wires w.edges → AreShort (went net limits w i s port n g).wires (went net limits w i s port n g).edges
    went_short w i s port n None h = h
    went_short w i s port n (Some g) h = sent_short _ i s n g _ _ h

  module _ {E S Q C : Type 0} (m : Machine E S Q C) (net : Wiring) where
    enters_short : (w : Net S Q C) (i : ℕ) (x : Place Q) → AreShort w.wires w.edges → AreShort (enters m net limits w i x).wires (enters m net limits w i x).edges
    enters_short w i (Flying s port f n) h = h
    enters_short w i (Waiting s port q n) h = h
    enters_short w i Over h = h

    leaves_short : (w : Net S Q C) (i : ℕ) (x : Place Q) → AreShort w.wires w.edges → AreShort (leaves m net limits w i x).wires (leaves m net limits w i x).edges
    leaves_short w i (Flying s port f n) h = h
    leaves_short w i (Waiting s port q n) h = went_short net _ i s port n _ h
    leaves_short w i Over h = h

    happens_short : (w : Net S Q C) (e : Event C) → AreShort w.wires w.edges → AreShort (happens m net limits w e).wires (happens m net limits w e).edges
    happens_short w (Enter i) h = enters_short w i (w.packets i) h
    happens_short w (Leave i) h = leaves_short w i (w.packets i) h
    happens_short w (Set s v c) h = h

    pub run_short : (w : Net S Q C) (es : List (Event C)) → AreShort w.wires w.edges → AreShort (run_of_halves m net limits w es).wires (run_of_halves m net limits w es).edges
    run_short w [] h = h
    run_short w (e ∷ es) h = run_short (happens m net limits w e) es (happens_short w e h)
