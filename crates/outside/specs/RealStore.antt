-- What a `RealStore` shows.
use Rattle.std.specs.Prelude.{None}
use Rattle.outside.specs.declared.real_store.RealStore.{RealStore}
use Rattle.outside.specs.State.{StoreState}

-- its counts; it tells no files
abbrev pub real_store_state : {R File Dir : Type 0} → RealStore R File Dir → StoreState
real_store_state store = record {
  files = None;
  misses = store.misses;
  read_faults = store.read_faults;
  write_faults = store.write_faults;
}
