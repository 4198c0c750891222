-- What was found among files that are held in memory is found, whatever is held outside.
use Rattle.std.proofs.Common.{◌≡◌, ℕ, ◌<◌, List, Result, Ok, Err, None, Some, string_bytes, inl, inr, sym, ◌∙◌, subst, arith}
use Rattle.outside.specs.Causes.{Rose}
use Rattle.outside.specs.Files.{Files}
use Rattle.outside.specs.State.{StoreState}
use Rattle.job_course.specs.declared.status.Status.{Status}
use Rattle.job_course.specs.declared.status.Status.TheVariants.{ReadFault}
use Rattle.job_course.specs.declared.status.Stop.{Stop}
use Rattle.job_course.specs.declared.status.Stop.TheVariants.{Refused, Starved}
use Rattle.job_course.specs.Course.{Course}
use Rattle.job_course.specs.Steps.{OnlyRead, Finds, Stops, Keeps, Follows}
use Rattle.job_course.proofs.Courses.{reads_none}
use Rattle.load_job.specs.Within.{within}
use Rattle.load_job.proofs.Closed.{IsClosed}

-- of a store that tells these files, whose reads never fail, and holds all that is asked for
module _ {J : Type 0} (c : Course J) (f : Files) (s t : StoreState) (told : s.files ≡ Some f) (sure : t.read_faults ≡ 0) (closed : IsClosed f c) where
  never : Rose s.read_faults t.read_faults → ⊥
  never rose = omega (arith, rose, sure)

  finds_within : (u : StoreState) (j : J) → Finds c s t j → Finds (within f c) u u j
  unfolding within
  finds_within u j found = record {
    reads = reads_none u;
    may = found.given f told;
    given = λ g is. found.given f told;
    alone = λ g is other h. found.alone f told other h;
    free = λ g is st l h. found.free f told st l h;
  }

  -- no file is missing
  none_misses : (st : Status) (l : List ℕ) → Stops c s t st l → st ≡ ReadFault → ⊥
  none_misses st l stop is =
      let h = stop.name f told is in
      elim h.3 [ inl none ↦ closed h.0 h.1 none | inr rose ↦ never rose ]

  stops_within : (u : StoreState) (st : Status) (l : List ℕ) → Stops c s t st l → Stops (within f c) u u st l
  unfolding within
  stops_within u st l stop = record {
    reads = reads_none u;
    kind = stop.kind;
    form = admitted;
    count = λ is. absurd (none_misses st l stop is);
    name = λ g is e. absurd (none_misses st l stop e);
    admitted = λ g is. inl admitted;
    given = λ g is j h. absurd (never (stop.given f told j h));
    other = λ g is st' l' h. elim (stop.other f told st' l' h) [ inl e ↦ inl e | inr rose ↦ absurd (never rose) ];
  }
    where
      admitted : c.refuses f st l
      admitted = elim (stop.admitted f told) [ inl h ↦ h | inr h ↦ absurd (never h.1) ]

  keeps_within : {A : Type 0} (view : A → J) (u : StoreState) (r : Result A Stop) → Keeps c view s t r → Keeps (within f c) view u u r
  keeps_within view u (Ok a) found = finds_within u (view a) found
  keeps_within view u (Err (Refused r)) stop = stops_within u r.status (string_bytes r.line) stop
  keeps_within view u (Err Starved) stop = reads_none u

  pub follows_within : {A : Type 0} (view : A → J) (u : StoreState) (r : Result A Stop) → Follows c view s t r → Follows (within f c) view u u r
  follows_within view u r follows = record { keeps = keeps_within view u r follows.keeps }

-- where nothing was found it does not matter as what it would have been seen
pub other_view : {A B J : Type 0} (c : Course J) (v : A → J) (w : B → J) (s t : StoreState) (e : Stop) → Follows c v s t (Err e) → Follows c w s t (Err e)
other_view c v w s t (Refused r) f = record { keeps = f.keeps }
other_view c v w s t Starved f = record { keeps = f.keeps }
