-- What an answer says of the store and the sink, and its cause. Read `Course` before it.
use Rattle.std.specs.Prelude.{◌≡◌, ◌≢◌, ◌⊎◌, ℕ, ◌+◌, ◌<◌, ◌≤◌, List, [], ◌∷◌, ◌++◌, length, take, slice_index_or, Option, Some, None, codes}
use Rattle.outside.specs.Causes.{Rose}
use Rattle.outside.specs.Files.{Files, with_file, ToldBoth}
use Rattle.outside.specs.State.{StoreState, SinkState}
use Rattle.job_course.specs.declared.status.Status.{Status}
use Rattle.job_course.specs.declared.status.Status.TheVariants.{Done, BadWords, ReadFault, BadProperty, NotLinked, BadProgram, BadNetwork, BadCapture, WriteFault, NoMemory}
use Rattle.job_course.specs.Course.{Course}
use Rattle.job_course.specs.Output.{Out}
use Rattle.job_course.specs.Lines.{read_line, write_line, memory_line}
use Rattle.job_course.specs.Steps.{OnlyRead}

-- these files with the names of a list set in order
abbrev pub with_files : Files → List (List ℕ × List ℕ) → Files
with_files f [] = f
with_files f (e ∷ es) = with_files (with_file f e.0 e.1) es

-- nothing but writes happened
pub record OnlyWrote (old new : StoreState) : Type 0 where
  pub misses : new.misses ≡ old.misses
  pub read_faults : new.read_faults ≡ old.read_faults
  pub write_faults : old.write_faults ≤ new.write_faults

-- all files of a list were written, in order, and no other name changed
abbrev pub HasWritten : List (List ℕ × List ℕ) → Option Files → Option Files → Type 0
HasWritten list old new = ToldBoth old new (λ f g. (name : List ℕ) → g name ≡ with_files f list name)

-- the name of the file at a place
abbrev pub name_at : List (List ℕ × List ℕ) → ℕ → List ℕ
name_at list n = (slice_index_or list n ([], [])).0

-- the first n files were written, the content under the next name is not known, and no other name changed
pub record HasStopped (list : List (List ℕ × List ℕ)) (n : ℕ) (old new : Option Files) : Type 0 where
  pub within : n < length list
  pub files : ToldBoth old new (λ f g. (name : List ℕ) → name ≢ name_at list n → g name ≡ with_files f (take n list) name)

-- a sink was handed a piece: it took it, or a prefix of it where its count rose
pub record HasPut (piece : List ℕ) (old new : SinkState) : Type 0 where
  pub later : old.faults ≤ new.faults
  pub bytes : (b : List ℕ) → old.taken ≡ Some b → length piece ≤ old.spare
      → (part : List ℕ) × (rest : List ℕ) × (piece ≡ part ++ rest) × (new.taken ≡ Some (b ++ part))
      × ((rest ≡ []) ⊎ Rose old.faults new.faults)

-- a sink took a whole piece
abbrev pub HasTaken : List ℕ → SinkState → SinkState → Type 0
HasTaken piece old new = (b : List ℕ) → old.taken ≡ Some b → length piece ≤ old.spare → new.taken ≡ Some (b ++ piece)

-- a sink failed within a piece, and then was handed a line
pub record HasFailed (piece line : List ℕ) (old new : SinkState) : Type 0 where
  pub rose : Rose old.faults new.faults
  pub bytes : (b : List ℕ) → old.taken ≡ Some b → length piece + length line ≤ old.spare
      → (part : List ℕ) × (rest : List ℕ) × (said : List ℕ) × (unsaid : List ℕ)
      × (piece ≡ part ++ rest) × (line ≡ said ++ unsaid) × (new.taken ≡ Some (b ++ part ++ said))
      × ((unsaid ≡ []) ⊎ Rose (old.faults + 1) new.faults)

-- the command was refused, by a refusal that the files admit or by a fault of the store
pub record IsRefused {J : Type 0} (c : Course J) (s t : StoreState) (k m : SinkState) (status : Status) : Type 0 where
  pub reads : OnlyRead s t
  pub line : List ℕ
  pub put : HasPut line k m
  pub form : c.says status line
  pub count : status ≡ ReadFault → Rose s.misses t.misses ⊎ Rose s.read_faults t.read_faults
  pub name : (f : Files) → s.files ≡ Some f → status ≡ ReadFault
      → (n : List ℕ) × c.asks f n × (line ≡ read_line n) × ((f n ≡ None) ⊎ Rose s.read_faults t.read_faults)
  pub admitted : (f : Files) → s.files ≡ Some f
      → c.refuses f status line ⊎ ((status ≡ ReadFault) × Rose s.read_faults t.read_faults)

-- a file could not be written
pub record StoreFault (out : Out) (s t : StoreState) (k m : SinkState) : Type 0 where
  pub place : ℕ
  pub stopped : HasStopped out.files place s.files t.files
  pub rose : Rose s.write_faults t.write_faults
  pub put : HasPut (write_line (name_at out.files place)) k m

-- the sink did not take the bytes
pub record SinkFault (out : Out) (s t : StoreState) (k m : SinkState) : Type 0 where
  pub written : HasWritten out.files s.files t.files
  pub failed : HasFailed out.text (write_line (codes "-")) k m

-- what is said of the jobs of a kind, whose outputs are these
module _ {J : Type 0} (Outputs : J → Out → Type 0) where
  -- what a job writes that may be, whatever is held; where files are told it is the one job that they give
  pub record Work (c : Course J) (s : StoreState) (out : Out) : Type 0 where
    pub job : J
    pub may : c.may job
    pub outputs : Outputs job out
    pub given : (f : Files) → s.files ≡ Some f → c.gives f job
    pub alone : (f : Files) → s.files ≡ Some f → (other : J) → c.gives f other → job ≡ other

  pub record IsDone (c : Course J) (s t : StoreState) (k m : SinkState) : Type 0 where
    pub out : Out
    pub work : Work c s out
    pub written : HasWritten out.files s.files t.files
    pub taken : HasTaken out.text k m

  pub record IsWriteFault (c : Course J) (s t : StoreState) (k m : SinkState) : Type 0 where
    pub out : Out
    pub work : Work c s out
    pub cause : StoreFault out s t k m ⊎ SinkFault out s t k m

  -- memory ended before the writes, or at the file at a place
  pub record StarvedAt (c : Course J) (s t : StoreState) : Type 0 where
    pub out : Out
    pub work : Work c s out
    pub place : ℕ
    pub stopped : HasStopped out.files place s.files t.files

  pub record IsStarved (c : Course J) (s t : StoreState) (k m : SinkState) : Type 0 where
    pub put : HasPut memory_line k m
    pub files : OnlyRead s t ⊎ StarvedAt c s t

  abbrev pub AnswersCommand : Course J → StoreState → StoreState → SinkState → SinkState → Status → Type 0
  AnswersCommand c s t k m Done = IsDone c s t k m
  AnswersCommand c s t k m BadWords = ⊥
  AnswersCommand c s t k m ReadFault = IsRefused c s t k m ReadFault
  AnswersCommand c s t k m BadProperty = IsRefused c s t k m BadProperty
  AnswersCommand c s t k m NotLinked = IsRefused c s t k m NotLinked
  AnswersCommand c s t k m BadProgram = IsRefused c s t k m BadProgram
  AnswersCommand c s t k m BadNetwork = IsRefused c s t k m BadNetwork
  AnswersCommand c s t k m BadCapture = IsRefused c s t k m BadCapture
  AnswersCommand c s t k m WriteFault = IsWriteFault c s t k m
  AnswersCommand c s t k m NoMemory = IsStarved c s t k m

-- what the files give or refuse is answered, unless a count rose or memory was wanting
pub record AnswersAll {J : Type 0} (c : Course J) (s t : StoreState) (k m : SinkState) (status : Status) : Type 0 where
  pub job : (f : Files) → s.files ≡ Some f → (j : J) → c.gives f j
      → (Rose s.read_faults t.read_faults → ⊥) → (Rose s.write_faults t.write_faults → ⊥) → (Rose k.faults m.faults → ⊥)
      → (status ≡ Done) ⊎ (status ≡ NoMemory)
  pub refusal : (f : Files) → s.files ≡ Some f → (st : Status) (l : List ℕ) → c.refuses f st l
      → (Rose s.read_faults t.read_faults → ⊥) → (status ≡ st) ⊎ (status ≡ NoMemory)
