-- Calls that fail by a list of their numbers, which count from 0.
use Rattle.std.specs.Prelude.{ℕ, List}
use Rattle.outside.specs.declared.failing.FailList.{FailList}

-- the numbers of the calls that are to fail
abbrev pub listed_in : FailList → List ℕ
listed_in list = list.listed.items

-- the number of the next call
abbrev pub next_in : FailList → ℕ
next_in list = list.next
