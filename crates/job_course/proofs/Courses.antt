-- Steps one after another keep to courses one after another.
use Rattle.std.proofs.Common.{◌≡◌, ℕ, ◌≤◌, List, Result, Ok, Err, string_bytes, Some, sym, ◌∙◌, subst, inl, inr, arith, refl, ap, IsErr, IsErrAnd}
use Rattle.std.proofs.lemmas.Result.{err_from_is_err_and}
use Rattle.outside.specs.Causes.{Rose}
use Rattle.outside.specs.Files.{Files}
use Rattle.outside.specs.State.{StoreState}
use Rattle.job_course.specs.declared.status.Status.{Status}
use Rattle.job_course.specs.declared.status.Status.TheVariants.{Done, BadWords, ReadFault, BadProperty, NotLinked, BadProgram, BadNetwork, BadCapture, WriteFault, NoMemory}
use Rattle.job_course.specs.declared.status.Stop.{Stop}
use Rattle.job_course.specs.declared.status.Stop.TheVariants.{Refused, Starved}
use Rattle.job_course.specs.Course.{Course, and_then, decide, give, IsFault}
use Rattle.job_course.specs.Steps.{OnlyRead, Finds, Stops, Keeps, Follows, Judged, Settles, Rejects, IsArea, IsRefusal}

pub reads_then : (s t u : StoreState) → OnlyRead s t → OnlyRead t u → OnlyRead s u
reads_then s t u p q = record {
  files = q.files ∙ p.files;
  misses = omega (arith, p.misses, q.misses);
  read_faults = omega (arith, p.read_faults, q.read_faults);
  write_faults = q.write_faults ∙ p.write_faults;
}

-- nothing was read
pub reads_none : (s : StoreState) → OnlyRead s s
reads_none s = record { files = refl; misses = omega arith; read_faults = omega arith; write_faults = refl }

rose_before : (a b c : ℕ) → Rose a b → b ≤ c → Rose a c
rose_before a b c p q = omega arith

rose_after : (a b c : ℕ) → a ≤ b → Rose b c → Rose a c
rose_after a b c p q = omega arith

module _ {A B : Type 0} (c : Course A) (k : A → Course B) (s t u : StoreState) (a : A) (found : Finds c s t a) where
  still : (f : Files) → s.files ≡ Some f → t.files ≡ Some f
  still f told = found.reads.files ∙ told

  pub finds_then : (b : B) → Finds (k a) t u b → Finds (and_then c k) s u b
  unfolding and_then
  finds_then b next = record {
    reads = reads_then s t u found.reads next.reads;
    may = (a, found.may, next.may);
    given = λ f told. (a, found.given f told, next.given f (still f told));
    alone = λ f told other h. next.alone f (still f told) other
        (subst (λ x. (k x).gives f other) (sym (found.alone f told h.0 h.1)) h.2);
    free = λ f told st l h. elim h [
      | inl p ↦ found.free f told st l p
      | inr p ↦ next.free f (still f told) st l
          (subst (λ x. (k x).refuses f st l) (sym (found.alone f told p.0 p.1)) p.2)
    ];
  }

  pub stops_then : (st : Status) (l : List ℕ) → Stops (k a) t u st l → Stops (and_then c k) s u st l
  unfolding and_then
  stops_then st l next = record {
    reads = reads_then s t u found.reads next.reads;
    kind = next.kind;
    form = inr (a, next.form);
    count = λ e. elim (next.count e) [
      | inl r ↦ inl (rose_after s.misses t.misses u.misses found.reads.misses r)
      | inr r ↦ inr (later r)
    ];
    name = λ f told e. let h = next.name f (still f told) e in
        (h.0, inr (a, found.given f told, h.1), h.2, elim h.3 [ inl p ↦ inl p | inr r ↦ inr (later r) ]);
    admitted = λ f told. elim (next.admitted f (still f told)) [
      | inl p ↦ inl (inr (a, found.given f told, p))
      | inr p ↦ inr (p.0, later p.1)
    ];
    given = λ f told j h. later (next.given f (still f told) j
        (subst (λ x. (k x).gives f j) (sym (found.alone f told h.0 h.1)) h.2));
    other = λ f told st' l' h. elim h [
      | inl p ↦ absurd (found.free f told st' l' p)
      | inr p ↦ elim (next.other f (still f told) st' l'
          (subst (λ x. (k x).refuses f st' l') (sym (found.alone f told p.0 p.1)) p.2)) [
            | inl e ↦ inl e
            | inr r ↦ inr (later r)
          ]
    ];
  }
    where
      later : Rose t.read_faults u.read_faults → Rose s.read_faults u.read_faults
      later r = rose_after s.read_faults t.read_faults u.read_faults found.reads.read_faults r

  -- the second step decides
  keeps_then : {R : Type 0} (view : R → B) (r : Result R Stop) → Keeps (k a) view t u r → Keeps (and_then c k) view s u r
  keeps_then view (Ok b) next = finds_then (view b) next
  keeps_then view (Err (Refused x)) next = stops_then x.status (string_bytes x.line) next
  keeps_then view (Err Starved) next = reads_then s t u found.reads next

-- the first step stopped, so the second is not made
module _ {A B : Type 0} (c : Course A) (k : A → Course B) (s t : StoreState) where
  pub stops_first : (st : Status) (l : List ℕ) → Stops c s t st l → Stops (and_then c k) s t st l
  unfolding and_then
  stops_first st l stop = record {
    reads = stop.reads;
    kind = stop.kind;
    form = inl stop.form;
    count = stop.count;
    name = λ f told e. let h = stop.name f told e in (h.0, inl h.1, h.2, h.3);
    admitted = λ f told. elim (stop.admitted f told) [ inl p ↦ inl (inl p) | inr p ↦ inr p ];
    given = λ f told j h. stop.given f told h.0 h.1;
    other = λ f told st' l' h. elim h [
      | inl p ↦ stop.other f told st' l' p
      | inr p ↦ inr (stop.given f told p.0 p.1)
    ];
  }

  keeps_first : {R Q : Type 0} (view : R → A) (other : Q → B) (e : Stop)
      → Keeps c view s t (Err e) → Keeps (and_then c k) other s t (Err e)
  keeps_first view other (Refused x) stop = stops_first x.status (string_bytes x.line) stop
  keeps_first view other Starved stop = stop

-- The second step decides.
pub follows_then : {A B Q R : Type 0} {c : Course A} (k : A → Course B) {first : Q → A} {view : R → B} {s t u : StoreState} {q : Q} {r : Result R Stop}
    → Follows c first s t (Ok q) → Follows (k (first q)) view t u r → Follows (and_then c k) view s u r
follows_then {c} k {first} {view} {s} {t} {u} {q} {r} found next =
    record { keeps = keeps_then c k s t u (first q) found.keeps view r next.keeps }

-- The first step stopped, so the second is not made.
pub follows_first : {A B Q R : Type 0} {c : Course A} (k : A → Course B) {first : Q → A} {view : R → B} {s t : StoreState} {e : Stop}
    → Follows c first s t (Err e) → Follows (and_then c k) view s t (Err e)
follows_first {c} k {first} {view} {s} {t} {e} stop = record { keeps = keeps_first c k s t first view e stop.keeps }

-- The exit of a `?`.
pub follows_exit : {J R : Type 0} {c : Course J} {view : R → J} {s t : StoreState} {e : Stop} (r : Result R Stop)
    → IsErr r × IsErrAnd r (λ y. y ≡ e) → Follows c view s t (Err e) → Follows c view s t r
follows_exit {c} {view} {s} {t} r left stop =
    let p = err_from_is_err_and r left.1 in
    subst (λ x. Follows c view s t x) (sym (p.1 ∙ ap Err p.2)) stop

-- Nothing more is read.
pub follows_give : {J R : Type 0} {view : R → J} {s : StoreState} {q : R} (j : J) → view q ≡ j → Follows (give j) view s s (Ok q)
follows_give {s} {q} j e = record {
  keeps = record {
    reads = reads_none s;
    may = e;
    given = λ f told. e;
    alone = λ f told other g. e ∙ sym g;
    free = λ f told st l g. g;
  };
}

area : (s : Status) → IsArea s → IsRefusal s
area Done h = absurd h
area BadWords h = absurd h
area ReadFault h = tt
area BadProperty h = tt
area NotLinked h = tt
area BadProgram h = tt
area BadNetwork h = tt
area BadCapture h = tt
area WriteFault h = absurd h
area NoMemory h = absurd h

not_read : (s : Status) → IsArea s → s ≡ ReadFault → ⊥
not_read s h e = let P : Status → Type 0 = IsArea in subst P e h

-- a decision without the store
judged_keeps : {A J : Type 0} (gives : J → Type 0) (refuses : Status → List ℕ → Type 0) (view : A → J) (s : StoreState) (r : Result A Stop)
    → Judged gives refuses view r → Keeps (decide gives refuses) view s s r
judged_keeps gives refuses view s (Ok a) h = record {
  reads = reads_none s;
  may = h.given;
  given = λ f told. h.given;
  alone = λ f told other g. h.alone other g;
  free = λ f told st l g. h.free st l g;
}
judged_keeps gives refuses view s (Err (Refused x)) h = record {
  reads = reads_none s;
  kind = area x.status h.kind;
  form = h.admitted;
  count = λ e. absurd (not_read x.status h.kind e);
  name = λ f told e. absurd (not_read x.status h.kind e);
  admitted = λ f told. inl h.admitted;
  given = λ f told j g. absurd (h.given j g);
  other = λ f told st l g. inl (h.other st l g);
}
judged_keeps gives refuses view s (Err Starved) h = reads_none s

pub judged_follows : {A J : Type 0} (gives : J → Type 0) (refuses : Status → List ℕ → Type 0) (view : A → J) (s : StoreState) (r : Result A Stop)
    → Judged gives refuses view r → Follows (decide gives refuses) view s s r
judged_follows gives refuses view s r h = record { keeps = judged_keeps gives refuses view s r h }

-- What a reader gives is what is meant, and its fault is the refusal that is meant.
module _ {E J : Type 0} (status : Status) (line_of : E → List ℕ) (read : Result J E) where
  pub reader_settles : (j : J) → read ≡ Ok j → Settles (λ k. read ≡ Ok k) (IsFault status line_of read) j
  reader_settles j e = record {
    given = e;
    alone = λ other w. let same : Ok j ≡ Ok other = sym e ∙ w in cc;
    free = λ s l refused. let other : Ok j ≡ Err refused.1.0 = sym e ∙ refused.1.1 in absurd cc;
  }

  pub reader_rejects : (f : E) (line : List ℕ) → IsArea status → read ≡ Err f → line ≡ line_of f → Rejects (λ k. read ≡ Ok k) (IsFault status line_of read) status line
  reader_rejects f line kind e said = record {
    kind = kind;
    admitted = (refl, (f, e, said));
    given = λ j w. let other : Ok j ≡ Err f = sym w ∙ e in absurd cc;
    other = λ s l refused. refused.0;
  }
