-- What is fine: tests that are negations, and the tests of a program without a broken rule.
use Rattle.std.proofs.Common.{◌≡◌, Bool, true, false, not, ◌||◌, refl}
use Rattle.rule_tests.specs.Tests.{IsFine}
use Rattle.rule_tests.proofs.FirstBroken.{unbroken_fine}
use Rattle.p4_tree.specs.Tree.{Program}
use Rattle.p4_rules.specs.ProgramRules.{program_tests, IsWellTyped}

pub twice_not : (b : Bool) → not b ≡ false → b ≡ true
twice_not true h = refl
twice_not false h = absurd (let c : true ≡ false = h in cc)

-- neither side of a false `or` holds
pub neither : (a b : Bool) → (a || b) ≡ false → (a ≡ false) × (b ≡ false)
neither true b h = absurd (let c : true ≡ false = h in cc)
neither false b h = (refl, h)

-- the tests of a well-typed program
pub typed_fine : (p : Program) → IsWellTyped p → IsFine (program_tests p)
typed_fine p h = unbroken_fine (program_tests p) h
