-- What a `SureStore` shows.
use Rattle.std.specs.Prelude.{Some}
use Rattle.outside.specs.declared.sure_store.SureStore.{SureStore}
use Rattle.outside.specs.Files.{Files}
use Rattle.outside.specs.Held.{held_in}
use Rattle.outside.specs.State.{StoreState}

-- the files that it holds
abbrev pub surely_held : SureStore → Files
surely_held store = held_in store.held

-- its files, which it tells, its misses, and no fault ever
abbrev pub sure_store_state : SureStore → StoreState
sure_store_state store = record {
  files = Some (surely_held store);
  misses = store.misses;
  read_faults = 0;
  write_faults = 0;
}
