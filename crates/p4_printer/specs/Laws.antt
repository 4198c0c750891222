-- Laws of trees that can be spelled, and of their printed texts. Each is proved, as the contract of a function of `laws`.
use Rattle.std.specs.Prelude.{◌≡◌}
use Rattle.p4_tree.specs.Tree.{Program}
use Rattle.p4_tree.specs.Places.{IsSameProgram}
use Rattle.p4_printer.specs.Programs.{program_text}
use Rattle.p4_printer.specs.CanSpell.{CanSpell}
use Rattle.p4_printer.specs.Printed.{IsSpelled, IsPrinted}

-- what is spelled can be spelled
abbrev pub SpelledCanBe : Type 0
SpelledCanBe = (t : Program) → IsSpelled t → CanSpell t

-- what can be spelled is spelled, but for places
abbrev pub CanBeSpelled : Type 0
CanBeSpelled = (t : Program) → CanSpell t → (s : Program) × IsSameProgram s t × IsSpelled s

-- the text of what can be spelled says it
abbrev pub TextIsPrinted : Type 0
TextIsPrinted = (t : Program) → CanSpell t → IsPrinted t (program_text t)

-- programs that are the same but for places have the same text
abbrev pub SameHaveOneText : Type 0
SameHaveOneText = (s t : Program) → IsSameProgram s t → program_text s ≡ program_text t
