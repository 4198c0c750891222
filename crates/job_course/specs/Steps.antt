-- How a step of the program keeps to a course.
use Rattle.std.specs.Prelude.{◌≡◌, ◌⊎◌, ℕ, ◌≤◌, List, Result, Ok, Err, string_bytes, Some, None}
use Rattle.outside.specs.Causes.{Rose}
use Rattle.outside.specs.Files.{Files}
use Rattle.outside.specs.State.{StoreState}
use Rattle.job_course.specs.declared.status.Status.{Status}
use Rattle.job_course.specs.declared.status.Status.TheVariants.{ReadFault, BadProperty, NotLinked, BadProgram, BadNetwork, BadCapture}
use Rattle.job_course.specs.declared.status.Stop.{Stop}
use Rattle.job_course.specs.declared.status.Stop.TheVariants.{Refused, Starved}
use Rattle.job_course.specs.Course.{Course}
use Rattle.job_course.specs.Lines.{read_line}

-- nothing but reads happened
pub record OnlyRead (old new : StoreState) : Type 0 where
  pub files : new.files ≡ old.files
  pub misses : old.misses ≤ new.misses
  pub read_faults : old.read_faults ≤ new.read_faults
  pub write_faults : new.write_faults ≡ old.write_faults

-- what was found is what the course may give; where files are told it is what they give, and nothing else
pub record Finds {J : Type 0} (c : Course J) (old new : StoreState) (j : J) : Type 0 where
  pub reads : OnlyRead old new
  pub may : c.may j
  pub given : (f : Files) → old.files ≡ Some f → c.gives f j
  pub alone : (f : Files) → old.files ≡ Some f → (other : J) → c.gives f other → j ≡ other
  pub free : (f : Files) → old.files ≡ Some f → (s : Status) (l : List ℕ) → c.refuses f s l → ⊥

-- the statuses of refusals of what a file holds
abbrev pub IsArea : Status → Type 0
IsArea BadProperty = Unit {0}
IsArea NotLinked = Unit {0}
IsArea BadProgram = Unit {0}
IsArea BadNetwork = Unit {0}
IsArea BadCapture = Unit {0}
IsArea _ = ⊥

-- the statuses of refusals before anything is written
abbrev pub IsRefusal : Status → Type 0
IsRefusal ReadFault = Unit {0}
IsRefusal status = IsArea status

-- the course was stopped by a refusal that it admits, or by a fault of the store
pub record Stops {J : Type 0} (c : Course J) (old new : StoreState) (status : Status) (line : List ℕ) : Type 0 where
  pub reads : OnlyRead old new
  pub kind : IsRefusal status
  pub form : c.says status line
  pub count : status ≡ ReadFault → Rose old.misses new.misses ⊎ Rose old.read_faults new.read_faults
  pub name : (f : Files) → old.files ≡ Some f → status ≡ ReadFault
      → (n : List ℕ) × c.asks f n × (line ≡ read_line n) × ((f n ≡ None) ⊎ Rose old.read_faults new.read_faults)
  pub admitted : (f : Files) → old.files ≡ Some f
      → c.refuses f status line ⊎ ((status ≡ ReadFault) × Rose old.read_faults new.read_faults)
  -- what else the course would have had
  pub given : (f : Files) → old.files ≡ Some f → (j : J) → c.gives f j → Rose old.read_faults new.read_faults
  pub other : (f : Files) → old.files ≡ Some f → (s : Status) (l : List ℕ) → c.refuses f s l
      → (s ≡ status) ⊎ Rose old.read_faults new.read_faults

-- what an answer says of the course, `view` being what its value stands for
abbrev pub Keeps : {A J : Type 0} → Course J → (A → J) → StoreState → StoreState → Result A Stop → Type 0
Keeps c view old new (Ok a) = Finds c old new (view a)
Keeps c view old new (Err (Refused r)) = Stops c old new r.status (string_bytes r.line)
Keeps c view old new (Err Starved) = OnlyRead old new

-- a step's answer keeps to the course
pub record Follows {A J : Type 0} (c : Course J) (view : A → J) (old new : StoreState) (result : Result A Stop) : Type 0 where
  pub keeps : Keeps c view old new result

-- a decision on what was read, which is the one that is meant
pub record Settles {J : Type 0} (gives : J → Type 0) (refuses : Status → List ℕ → Type 0) (j : J) : Type 0 where
  pub given : gives j
  pub alone : (other : J) → gives other → j ≡ other
  pub free : (s : Status) (l : List ℕ) → refuses s l → ⊥

pub record Rejects {J : Type 0} (gives : J → Type 0) (refuses : Status → List ℕ → Type 0) (status : Status) (line : List ℕ) : Type 0 where
  pub kind : IsArea status
  pub admitted : refuses status line
  pub given : (j : J) → gives j → ⊥
  pub other : (s : Status) (l : List ℕ) → refuses s l → s ≡ status

abbrev pub Judged : {A J : Type 0} → (J → Type 0) → (Status → List ℕ → Type 0) → (A → J) → Result A Stop → Type 0
Judged gives refuses view (Ok a) = Settles gives refuses (view a)
Judged gives refuses view (Err (Refused r)) = Rejects gives refuses r.status (string_bytes r.line)
Judged gives refuses view (Err Starved) = Unit {0}
