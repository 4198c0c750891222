-- The files of linked programs: of each switch, in the network's order, the printed text of its program. Read `Programs` of
-- p4_printer before it.
use Rattle.std.specs.Prelude.{ℕ, List, [], ◌∷◌, ◌++◌, codes}
use Rattle.p4_tree.specs.Tree.{Program}
use Rattle.p4_printer.specs.Programs.{program_text}

-- the file of a switch of this name
unfoldable pub program_file : (out switch : List ℕ) → Program → List ℕ × List ℕ
program_file o s q = (o ++ (codes ".linked." ++ (s ++ codes ".p4")), program_text q)

-- those of all switches
abbrev pub programs_files : (out : List ℕ) → List Program → (switches : List (List ℕ)) → List (List ℕ × List ℕ)
programs_files o [] ns = []
programs_files o (q ∷ qs) [] = []
programs_files o (q ∷ qs) (n ∷ ns) = program_file o n q ∷ programs_files o qs ns
