-- What the calls of a store do, where its files are told.
use Rattle.std.specs.Prelude.{◌≡◌, ◌≢◌, ◌⊎◌, ◌↔◌, ℕ, ◌<◌, ◌≤◌, List, length, Option, Some, None, Result, IfOk, OnOk, IsErrOf}
use Rattle.std.specs.declared.vec.Vec.{Vec}
use Rattle.std.specs.declared.alloc.Global.{Global}
use Rattle.outside.specs.declared.stops.StoreStop.{StoreStop}
use Rattle.outside.specs.declared.stops.StoreStop.TheVariants.{Missing, TooLong, Failed, NoMemory}
use Rattle.outside.specs.Causes.{Rose}
use Rattle.outside.specs.Files.{Files}

-- the file that is held is longer than the limit
abbrev pub IsLonger : Option (List ℕ) → ℕ → Type 0
IsLonger held limit = (bytes : List ℕ) × (held ≡ Some bytes) × (limit < length bytes)

-- A read under a name that holds `held`. `before` and `now` are the count of read faults.
pub record Reads (held : Option (List ℕ)) (limit before now : ℕ) (result : Result (Vec ℕ Global) StoreStop) : Type 0 where
  -- Ok gives the held bytes
  pub bytes : IfOk result (λ b. held ≡ Some b.items)
  -- Missing comes only where the name is not held and no fault came, and there nothing else does but want of memory
  pub missing : IsErrOf result Missing → (held ≡ None) × (now ≡ before)
  pub missed : held ≡ None → (Rose before now → ⊥) → IsErrOf result Missing ⊎ IsErrOf result NoMemory
  -- TooLong comes only where the file is longer and no fault came, and there nothing else does but want of memory
  pub too_long : IsErrOf result TooLong → IsLonger held limit × (now ≡ before)
  pub cut : (b : List ℕ) → held ≡ Some b → limit < length b → (Rose before now → ⊥) → IsErrOf result TooLong ⊎ IsErrOf result NoMemory

-- A read without a fault, which takes no memory to refuse.
pub record ReadsWhole (held : Option (List ℕ)) (limit : ℕ) (result : Result (Vec ℕ Global) StoreStop) : Type 0 where
  pub bytes : IfOk result (λ b. held ≡ Some b.items)
  pub within : IfOk result (λ b. length b.items ≤ limit)
  pub missing : IsErrOf result Missing ↔ (held ≡ None)
  pub too_long : IsErrOf result TooLong ↔ IsLonger held limit
  pub failed : IsErrOf result Failed → ⊥

-- A write of bytes under a name. Where it fails, only the content under that name is not known.
pub record Writes (old new : Files) (name bytes : List ℕ) (result : Result (Unit {0}) StoreStop) : Type 0 where
  pub here : OnOk result (new name ≡ Some bytes)
  pub others : (other : List ℕ) → other ≢ name → new other ≡ old other
