-- The programs that are linked by hand keep the laws of the halves. The file stands here because an `impl`
-- cites it.
use Rattle.std.proofs.Common.{◌≡◌, ℕ, ◌+◌, List, [], ◌∷◌, map, Bool, true, false, ◌==◌, Option, refl, ap, sym, ◌∙◌, subst, add-zero}
use Rattle.std.specs.Prelude.{All, bit_xor}
use Rattle.std.proofs.lemmas.List.Elements.{All-cons, All-nil}
use Rattle.bit_values.specs.Bits.{word}
use Rattle.network_run.specs.Machine.{Entered, Leaving, Going}
use Rattle.network_run.specs.Network.{Wiring, at_edge}
use Rattle.network_run.specs.NetworkRun.{put}
use Rattle.network_run.specs.PathMeaning.{reads_at, Doing, entry_part, exit_part}
use Rattle.network_tests.specs.Networks.{report_of}
use Rattle.linkage.specs.Linkage.{xor_with}
use Rattle.linkage.specs.HalvesLaws.{carried, EnterAgrees, GoAgrees, LeaveAgrees, HalvesLaws}
use Rattle.network_tests.specs.Linking.{is_dropped, plain_leave, forwarding, limited, two_bytes, Keeps, Parked, linked_enter, checked_leave, linked_leave, linked, registers, AnyEntries, IsLimit, AnyContents, KeptBy, HeldBy, AnyTele}

all_one : {X : Type 0} (P : X → Type 0) (x : X) → P x → All P (x ∷ [])
all_one P x h = All-cons P x [] h (All-nil P)

module _ (net : Wiring) (initial : ℕ) where
  -- the laws of the halves at these relations
  abbrev Enters : ℕ → Bool → (ℕ → ℕ) → ℕ → Doing ℕ ℕ → Entered ℕ (List ℕ) → Entered Keeps Parked → Type 0
  Enters = EnterAgrees net (limited initial) two_bytes KeptBy HeldBy AnyTele

  abbrev Goes :
      ℕ → Bool → (ℕ → ℕ) → ℕ → Doing ℕ ℕ → Leaving ℕ → Going → Leaving Keeps → Type 0
  Goes = GoAgrees net (limited initial) two_bytes KeptBy HeldBy AnyTele

  abbrev Leaves :
      ℕ → Bool → (ℕ → ℕ) → ℕ → ℕ → ℕ → Leaving ℕ → Leaving Keeps → Option Going → Type 0
  Leaves = LeaveAgrees net (limited initial) two_bytes KeptBy HeldBy AnyTele

  -- where the packet goes in the forwarding network, and the exit part there
  abbrev by_2 : List ℕ → Going
  by_2 frame = record { port = 2; frame = frame; view = [] }

  abbrev part : ℕ → (first last : Bool) → (ℕ → ℕ) → ℕ → ℕ → Doing ℕ ℕ
  part s first last c t z = exit_part (limited initial) (reads_at s first last [] c) t z

  -- one more packet has come
  one_more : (s a z k : ℕ) (c : ℕ → ℕ) (b : Keeps) → KeptBy s a z c k b → KeptBy s (a + 1) z c k (record b { count = b.count + 1 })
  one_more s a z k c b kept =
      record {
        same_count = ap (λ n. n + 1) kept.same_count;
        same_seen = kept.same_seen;
        same_rejected = kept.same_rejected;
        same_limit = kept.same_limit;
      }

  -- one more packet was seen, and rejected if the checker did so
  seen_more :
      (s a z k : ℕ) (c : ℕ → ℕ) (b : Keeps) (n : ℕ) → KeptBy s a z c k b →
      KeptBy s a (z + 1) c (k + n) (record b { seen = b.seen + 1; rejected = b.rejected + n })
  seen_more s a z k c b n kept =
      record {
        same_count = kept.same_count;
        same_seen = ap (λ n. n + 1) kept.same_seen;
        same_rejected = ap (λ m. m + n) kept.same_rejected;
        same_limit = kept.same_limit;
      }

  -- a linked enter, at an edge port and elsewhere
  enters :
      (edge : Bool) (s port k a : ℕ) (b : Keeps) (z : ℕ) (c : ℕ → ℕ) (t : ℕ) (frame : List ℕ) →
      KeptBy s a z c k b → (edge ≡ true → t ≡ 0) →
      Enters s edge c k (entry_part (limited initial) (reads_at s edge false [] c) t z)
      (forwarding.enter s a port frame)
      (linked_enter edge b port (carried two_bytes edge t frame))
  enters true s port k a b z c t frame kept start =
      record {
        kept = one_more s a z k c b kept;
        queued = record { same_frame = refl; same_n = sym (ap (λ n. n + 10) (start refl)) };
        digests = record { reports = refl; others = refl };
      }
  enters false s port k a b z c t frame kept start =
      record {
        kept = one_more s a z k c b kept;
        queued = record { same_frame = refl; same_n = refl };
        digests = record { reports = refl; others = refl };
      }

  -- a linked leave by an edge port, where the checker rejects the packet, and where it does not
  checks :
      (rejects : Bool) (s k a : ℕ) (b : Keeps) (z : ℕ) (c : ℕ → ℕ) (t : ℕ) (first : Bool)
      (q : List ℕ) (q' : Parked) → KeptBy s a z c k b → HeldBy s first q t q' →
      Goes s true c k
      (record {
        tele = t + 1;
        sensors = z + 1;
        rejected = rejects;
        reports = report_of (word 8 (t + 1) ∷ word 8 (z + 1) ∷ []) ∷ [];
      })
      (plain_leave false a q) (by_2 q) (checked_leave rejects b q')
  checks true s k a b z c t first q q' kept held =
      record {
        kept = seen_more s a z k c b 1 kept;
        fit = tt;
        going = tt;
        digests = record { reports = rw (held.same_n, kept.same_seen); others = refl };
      }
  checks false s k a b z c t first q q' kept held =
      record {
        kept = seen_more s a z k c b 0 kept;
        fit = tt;
        going = (refl, held.same_frame);
        digests = record { reports = rw (held.same_n, kept.same_seen); others = refl };
      }

  -- a linked leave: dropped by forwarding, by an edge port, and onto a link
  leaves :
      (dropped edge : Bool) (s k a : ℕ) (b : Keeps) (z : ℕ) (c : ℕ → ℕ) (t : ℕ) (first : Bool)
      (q : List ℕ) (q' : Parked) → edge ≡ at_edge net s 2 →
      KeptBy s a z c k b → HeldBy s first q t q' →
      Leaves s first c k z t (plain_leave dropped a q) (linked_leave dropped edge b q')
      (plain_leave dropped a q).going
  leaves true edge s k a b z c t first q q' at kept held =
      record { kept = kept; going = refl; digests = record { reports = refl; others = refl } }
  leaves false true s k a b z c t first q q' at kept held =
      let same : (q'.n + 1 == b.limit) ≡ (t + 1 == c 0) = rw (held.same_n, kept.same_limit) in
      let P : Bool → Type 0 = λ e. Goes s e c k (part s first e c t z) (plain_leave false a q) (by_2 q) (linked_leave false true b q') in
      let R : Bool → Type 0 = λ r. Goes s true c k (part s first true c t z) (plain_leave false a q) (by_2 q) (checked_leave r b q') in
      subst P at (subst R (sym same) (checks (t + 1 == c 0) s k a b z c t first q q' kept held))
  leaves false false s k a b z c t first q q' at kept held =
      let P : Bool → Type 0 = λ e. Goes s e c k (part s first e c t z) (plain_leave false a q) (by_2 q) (linked_leave false false b q') in
      subst P at
      (record {
        kept =
            record {
              same_count = kept.same_count;
              same_seen = ap (λ n. n + 1) kept.same_seen;
              same_rejected = kept.same_rejected ∙ sym (add-zero k);
              same_limit = kept.same_limit;
            };
        fit = tt;
        going = (refl, rw (held.same_n, held.same_frame));
        digests = record { reports = refl; others = refl };
      })

  sets :
      (s v k a : ℕ) (b : Keeps) (z : ℕ) (c : ℕ → ℕ) (x : ℕ) → KeptBy s a z c k b →
      KeptBy s a z (put c v x) k ((linked net initial).set s b v x)
  sets s v k a b z c x kept =
      record {
        same_count = kept.same_count;
        same_seen = kept.same_seen;
        same_rejected = kept.same_rejected;
        same_limit = rw kept.same_limit;
      }

  -- the laws of the halves
  pub laws : HalvesLaws net (limited initial) two_bytes KeptBy HeldBy AnyTele forwarding (linked net initial) (registers initial) AnyEntries IsLimit AnyContents
  laws =
      record {
        enters = λ s port k a b z c t frame known low kept fit start short.
            enters (at_edge net s port) s port k a b z c t frame kept start;
        leaves = λ s k first a b z c t q q' known kept held.
            subst (λ f. Leaves s first c k z t (plain_leave (is_dropped q) a q) (linked_leave (is_dropped f) (at_edge net s 2) b q') (plain_leave (is_dropped q) a q).going) (sym held.same_frame)
            (leaves (is_dropped q) (at_edge net s 2) s k a b z c t first q q' refl kept held);
        sets = λ s v k a b z c x known kept named fit. sets s v k a b z c x kept;
        starts = λ s e c known fit fits.
            record { same_count = refl; same_seen = refl; same_rejected = refl; same_limit = refl };
        forwards = λ s k a b z c known kept.
            all_one (λ x. (registers initial).linked_cells b x ≡ (registers initial).plain_cells a x) 0 (ap (λ n. n ∷ []) kept.same_count);
        monitors = λ s k a b z c known kept.
            record {
              sensors = all_one (λ x. (registers initial).linked_cells b x.name ≡ map (xor_with x.initial) (x.cells z)) (record { name = 1; cells = λ seen. seen ∷ []; initial = initial }) (ap (λ n. bit_xor n initial ∷ []) kept.same_seen);
              rejects = rw kept.same_rejected;
            };
        start_fits = tt;
        sized = λ t fit. refl;
      }
