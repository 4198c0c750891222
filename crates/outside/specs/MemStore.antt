-- What a `MemStore` shows.
use Rattle.std.specs.Prelude.{ℕ, List, Some}
use Rattle.outside.specs.declared.mem_store.MemStore.{MemStore}
use Rattle.outside.specs.Failing.{listed_in, next_in}
use Rattle.outside.specs.Files.{Files}
use Rattle.outside.specs.Held.{held_in}
use Rattle.outside.specs.State.{StoreState}

-- the files that it holds
abbrev pub held_by : MemStore → Files
held_by store = held_in store.held

-- its files, which it tells, and its counts
abbrev pub mem_store_state : MemStore → StoreState
mem_store_state store = record {
  files = Some (held_by store);
  misses = store.misses;
  read_faults = store.read_faults;
  write_faults = store.write_faults;
}

-- the numbers of the calls that are to fail
abbrev pub failing_calls : MemStore → List ℕ
failing_calls store = listed_in store.fail

-- the number of the next call
abbrev pub next_call : MemStore → ℕ
next_call store = next_in store.fail
