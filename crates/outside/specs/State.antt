-- What a store and a sink mean. Read `Reading` and `Putting` next.
use Rattle.std.specs.Prelude.{ℕ, List, Option}
use Rattle.outside.specs.Files.{Files}

-- The files, where the store tells them, and its counts, which never fall.
pub record StoreState : Type 0 where
  pub files : Option Files
  -- reads of a name that is not held
  pub misses : ℕ
  -- reads that failed
  pub read_faults : ℕ
  -- writes that failed
  pub write_faults : ℕ

-- the misses, read faults and write faults
abbrev pub counts_of : StoreState → ℕ × ℕ × ℕ
counts_of store = (store.misses, store.read_faults, store.write_faults)

-- The bytes taken so far, where the sink tells them, how many more it will surely tell, and its count, which never falls.
pub record SinkState : Type 0 where
  pub taken : Option (List ℕ)
  pub spare : ℕ
  -- puts that failed
  pub faults : ℕ
