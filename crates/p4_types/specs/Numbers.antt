-- Tables, registers and actions by their numbers: from 0 in the order of the text, `NoAction` behind all actions. A name
-- in a control is `Control.name`.
use Rattle.std.specs.Prelude.{ℕ, suc, List, [], ◌∷◌, ◌++◌, codes, Option, Some, None, if◌then◌else◌}
use Rattle.lex_text.specs.Names.{same_text}
use Rattle.p4_tree.specs.Tree.{Local, local_action, local_table, local_register, Top, register, control, Program}

-- a name in a control
abbrev pub dotted : (control name : List ℕ) → List ℕ
dotted c x = c ++ 46 ∷ x

-- of what names are
pub data Sort : Type 0 where
  tables : Sort
  registers : Sort
  actions : Sort

-- the name of a declaration of a control, where it is of this sort
abbrev pub local_name : Sort → Local → List (List ℕ)
local_name tables (local_table p t) = t.name ∷ []
local_name registers (local_register p r) = r.name ∷ []
local_name actions (local_action p a) = a.name ∷ []
local_name _ _ = []

abbrev pub all_dotted : (control : List ℕ) → List (List ℕ) → List (List ℕ)
all_dotted c [] = []
all_dotted c (x ∷ xs) = dotted c x ∷ all_dotted c xs

abbrev pub locals_names : Sort → (control : List ℕ) → List Local → List (List ℕ)
locals_names sort c [] = []
locals_names sort c (l ∷ ls) = all_dotted c (local_name sort l) ++ locals_names sort c ls

abbrev pub top_names : Sort → Top → List (List ℕ)
top_names registers (register p r) = r.name ∷ []
top_names sort (control p c) = locals_names sort c.name c.locals
top_names sort _ = []

abbrev pub tops_names : Sort → List Top → List (List ℕ)
tops_names sort [] = []
tops_names sort (t ∷ ts) = top_names sort t ++ tops_names sort ts

-- the names of a program of this sort, in the order of the text
abbrev pub names : Sort → Program → List (List ℕ)
names tables p = tops_names tables p.tops
names registers p = tops_names registers p.tops
names actions p = tops_names actions p.tops ++ codes "NoAction" ∷ []

-- the number of a name
abbrev pub number_from : ℕ → List (List ℕ) → List ℕ → Option ℕ
number_from n [] x = None
number_from n (y ∷ ys) x = if same_text y x then Some n else number_from (suc n) ys x

abbrev pub number_in : List (List ℕ) → List ℕ → Option ℕ
number_in = number_from 0
