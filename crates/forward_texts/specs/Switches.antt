-- The switches of a run, as path_runner has them, and its log. Read `Nets` of path_runner before it.
use Rattle.std.specs.Prelude.{◌≡◌, ℕ, List, slice_get, Some}
use Rattle.p4_tree.specs.Tree.{Program}
use Rattle.p4_meaning.specs.Parts.{parts_of}
use Rattle.p4_meaning.specs.Pass.{Kept, Registers}
use Rattle.p4_tables.specs.State.{Held}
use Rattle.path_runner.specs.Nets.{Switch, State, kept_of}
use Rattle.path_runner.specs.Views.{log_of}
use Rattle.path_runner.specs.declared.log.RunLog.{RunLog}

-- a log, whose limits are of no matter
abbrev pub log_view : {P : Type 0} → (P → Program) → (P → List Held) → (P → Registers) → RunLog P → State
log_view program tables cells x = log_of program tables cells (record { hops = 0; link = 0 }) x

-- the switches run the program
abbrev pub RunAll : Program → List Switch → Type 0
RunAll p xs = (i : ℕ) (x : Switch) → slice_get xs i ≡ Some x → parts_of p ≡ parts_of x.program

-- and keep this
abbrev pub KeepAll : (ℕ → Kept) → List Switch → Type 0
KeepAll keeps xs = (i : ℕ) (x : Switch) → slice_get xs i ≡ Some x → keeps i ≡ kept_of x
