-- The words of the constants at top level.
use Rattle.std.specs.Prelude.{ℕ, List, Option}
use Rattle.bit_values.specs.Bits.{Word}
use Rattle.p4_tree.specs.Tree.{Program}
use Rattle.p4_meaning.specs.Scope.{constant_named}
use Rattle.p4_meaning.specs.Under.{no_scope, behind_tops}

-- the word of the constant of a name
abbrev pub constant_of : Program → List ℕ → Option Word
constant_of p x = constant_named (behind_tops no_scope p.tops).constants x
