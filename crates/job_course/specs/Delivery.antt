-- What the parts of the delivery do.
use Rattle.std.specs.Prelude.{◌≡◌, ◌⊎◌, ℕ, List, string_bytes, codes}
use Rattle.outside.specs.Causes.{Rose}
use Rattle.outside.specs.State.{StoreState, SinkState}
use Rattle.job_course.specs.declared.delivery.Written.{Written}
use Rattle.job_course.specs.declared.delivery.Written.TheVariants.{All, Failed, Starved}
use Rattle.job_course.specs.declared.status.Status.{Status}
use Rattle.job_course.specs.declared.status.Status.TheVariants.{Done, WriteFault, NoMemory}
use Rattle.job_course.specs.declared.status.Stop.{Stop}
use Rattle.job_course.specs.declared.status.Stop.TheVariants as stops
use Rattle.job_course.specs.Ending.{OnlyWrote, HasWritten, HasStopped, HasPut, HasTaken, HasFailed, StoreFault, SinkFault}
use Rattle.job_course.specs.Output.{Out}
use Rattle.job_course.specs.Lines.{memory_line, write_line}

-- all were written, or those before a place
pub record WritesAll (list : List (List ℕ × List ℕ)) (s t : StoreState) : Type 0 where
  pub wrote : OnlyWrote s t
  pub written : HasWritten list s.files t.files

pub record WritesSome (list : List (List ℕ × List ℕ)) (n : ℕ) (s t : StoreState) : Type 0 where
  pub wrote : OnlyWrote s t
  pub stopped : HasStopped list n s.files t.files

abbrev pub WritesFiles : List (List ℕ × List ℕ) → StoreState → StoreState → Written → Type 0
WritesFiles list s t All = WritesAll list s t
WritesFiles list s t (Failed n) = WritesSome list n s t × Rose s.write_faults t.write_faults
WritesFiles list s t (Starved n) = WritesSome list n s t

-- a text was put, or the line that says that it could not be
abbrev pub HandsOver : List ℕ → SinkState → SinkState → Status → Type 0
HandsOver text k m Done = HasTaken text k m
HandsOver text k m WriteFault = HasFailed text (write_line (codes "-")) k m
HandsOver text k m _ = ⊥

-- a delivery's answer
pub record DeliversAll (out : Out) (s t : StoreState) (k m : SinkState) : Type 0 where
  pub wrote : OnlyWrote s t
  pub written : HasWritten out.files s.files t.files
  pub taken : HasTaken out.text k m

pub record DeliversNot (out : Out) (s t : StoreState) (k m : SinkState) : Type 0 where
  pub wrote : OnlyWrote s t
  pub cause : StoreFault out s t k m ⊎ SinkFault out s t k m

pub record DeliversPart (out : Out) (s t : StoreState) (k m : SinkState) : Type 0 where
  pub wrote : OnlyWrote s t
  pub place : ℕ
  pub stopped : HasStopped out.files place s.files t.files
  pub put : HasPut memory_line k m

abbrev pub Delivered : Out → StoreState → StoreState → SinkState → SinkState → Status → Type 0
Delivered out s t k m Done = DeliversAll out s t k m
Delivered out s t k m WriteFault = DeliversNot out s t k m
Delivered out s t k m NoMemory = DeliversPart out s t k m
Delivered out s t k m _ = ⊥

-- a refusal is answered, and its line put
abbrev pub Refuses : Stop → SinkState → SinkState → Status → Type 0
Refuses (stops.Refused r) k m status = (status ≡ r.status) × HasPut (string_bytes r.line) k m
Refuses stops.Starved k m status = (status ≡ NoMemory) × HasPut memory_line k m
