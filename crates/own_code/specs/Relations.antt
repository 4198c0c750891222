-- What of the linked network stands for what of the forwarding network: runs. Read `Regions` before it.
use Rattle.std.specs.Prelude.{◌≡◌, ℕ, ◌<◌, List, [], Bool, true, false, not, nat_eq}
use Rattle.std.specs.List.{filter}
use Rattle.bit_values.specs.Bits.{Word}
use Rattle.p4_meaning.specs.Standard.{egress_spec}
use Rattle.p4_meaning.specs.Store.{Store}
use Rattle.p4_meaning.specs.Statements.{Digest, Run}
use Rattle.linkage.specs.Linkage.{report_receiver}
use Rattle.own_code.specs.Regions.{is_mine, is_free, is_writable, is_own_header}

-- the digest is a report
abbrev pub is_report : Digest → Bool
is_report d = nat_eq d.receiver report_receiver

-- a run of which nothing but the store is looked at
abbrev pub bare : Store → Run
bare s = record { store = s; cells = λ x. []; digests = [] }

-- the linked run b has the program's own part of the run a
pub record Alike (a b : Run) : Type 0 where
  pub values : (p : List (List ℕ)) → is_free p ≡ true → b.store.values p ≡ a.store.values p
  pub headers : (p : List (List ℕ)) → is_free p ≡ true → b.store.headers p ≡ a.store.headers p
  pub cells : (x : List ℕ) → is_mine x ≡ false → b.cells x ≡ a.cells x
  pub digests : filter (λ d. not (is_report d)) b.digests ≡ a.digests

-- a word that holds a port
pub record IsPort (w : Word) : Type 0 where
  pub width : w.width ≡ 9
  pub low : w.value < 512

-- the monitor's part of the run a is still there in b
pub record Stays (a b : Run) : Type 0 where
  pub values : (p : List (List ℕ)) → is_writable p ≡ false → b.store.values p ≡ a.store.values p
  pub headers : (p : List (List ℕ)) → is_own_header p ≡ false → b.store.headers p ≡ a.store.headers p
  pub cells : (x : List ℕ) → is_mine x ≡ true → b.cells x ≡ a.cells x
  pub reports : filter is_report b.digests ≡ filter is_report a.digests
  pub spec : IsPort (a.store.values egress_spec) → IsPort (b.store.values egress_spec)
