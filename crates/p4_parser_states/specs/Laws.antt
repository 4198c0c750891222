-- Laws of what states reach. Read `Cycles` before it.
use Rattle.std.specs.Prelude.{◌≡◌, ◌↔◌, ℕ, ◌<◌, List, true, false}
use Rattle.p4_tree.specs.Tree.{ParserState}
use Rattle.p4_parser_states.specs.Cycles.{is_among, leads, state_names, Reaches, reaches, is_on_cycle}

-- the test is true exactly where one step or more lead from one name to the other
abbrev pub ReachesIsExact : Type 0
ReachesIsExact = (sts : List ParserState) (x y : List ℕ) → (reaches sts x y ≡ true) ↔ Reaches sts x y

-- where some rank falls along each step to a state, no state reaches itself
abbrev pub FallingRanksLeaveNoCycle : Type 0
FallingRanksLeaveNoCycle =
    (sts : List ParserState) (rank : List ℕ → ℕ) → ((x y : List ℕ) → leads sts x y ≡ true → is_among (state_names sts) y ≡ true → rank y < rank x)
    → (st : ParserState) → is_on_cycle sts st ≡ false
