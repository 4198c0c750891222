-- A course: which files a command asks for, which first refusals the files admit, and what they give. Read `Ending`
-- after it.
use Rattle.std.specs.Prelude.{◌≡◌, ◌⊎◌, ℕ, ◌<◌, ◌≤◌, List, length, Some, None, Result, Ok, Err}
use Rattle.outside.specs.Files.{Files}
use Rattle.job_course.specs.declared.status.Status.{Status}
use Rattle.job_course.specs.declared.status.Status.TheVariants.{ReadFault}
use Rattle.job_course.specs.declared.status.Area.{Area}
use Rattle.job_course.specs.Lines.{read_line, area_status, long_line}

pub record Course (J : Type 0) : Type 1 where
  pub asks : Files → List ℕ → Type 0
  -- a first refusal, with its status and its line
  pub refuses : Files → Status → List ℕ → Type 0
  pub gives : Files → J → Type 0
  -- what it may give, whatever is held
  pub may : J → Type 0
  -- a status and a line with which it may stop, whatever is held
  pub says : Status → List ℕ → Type 0

-- a file of at most `limit` bytes
abbrev pub file : List ℕ → ℕ → Area → Course (List ℕ)
file name limit area = record {
  asks = λ f n. n ≡ name;
  refuses = λ f s l. ((f name ≡ None) × (s ≡ ReadFault) × (l ≡ read_line name))
      ⊎ (((b : List ℕ) × (f name ≡ Some b) × (limit < length b)) × (s ≡ area_status area) × (l ≡ long_line area name));
  gives = λ f b. (f name ≡ Some b) × (length b ≤ limit);
  may = λ b. length b ≤ limit;
  says = λ s l. ((s ≡ ReadFault) × (l ≡ read_line name)) ⊎ ((s ≡ area_status area) × (l ≡ long_line area name));
}

-- a decision on what was read
abbrev pub decide : {J : Type 0} → (J → Type 0) → (Status → List ℕ → Type 0) → Course J
decide gives refuses = record { asks = λ f n. ⊥; refuses = λ f s l. refuses s l; gives = λ f j. gives j; may = gives; says = refuses }

-- what a reader gives, or its fault with a line
abbrev pub IsFault : {E J : Type 0} → Status → (E → List ℕ) → Result J E → Status → (line : List ℕ) → Type 0
IsFault {E} status line_of answer s l = (s ≡ status) × ((e : E) × (answer ≡ Err e) × (l ≡ line_of e))

abbrev pub answer : {E J : Type 0} → Status → (E → List ℕ) → Result J E → Course J
answer status line_of read = decide (λ j. read ≡ Ok j) (IsFault status line_of read)

-- first one course, and where it gives something the next
unfoldable pub and_then : {A B : Type 0} → Course A → (A → Course B) → Course B
and_then {A} {B} first next = record {
  asks = λ f n. first.asks f n ⊎ ((a : A) × first.gives f a × (next a).asks f n);
  refuses = λ f s l. first.refuses f s l ⊎ ((a : A) × first.gives f a × (next a).refuses f s l);
  gives = λ f b. (a : A) × first.gives f a × (next a).gives f b;
  may = λ b. (a : A) × first.may a × (next a).may b;
  says = λ s l. first.says s l ⊎ ((a : A) × (next a).says s l);
}

-- nothing more is read
abbrev pub give : {J : Type 0} → J → Course J
give job = decide (λ j. j ≡ job) (λ s l. ⊥)
