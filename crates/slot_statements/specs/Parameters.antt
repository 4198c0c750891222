-- Parameters of actions, which have the next slots. Read `Places` of `slot_terms` before it and `Known` after it.
use Rattle.std.specs.Prelude.{ℕ, ◌+◌, List, [], ◌∷◌, ◌++◌, None}
use Rattle.bit_values.specs.Widths.{sound_width}
use Rattle.p4_tree.specs.Tree.{Expr}
use Rattle.p4_meaning.specs.Actions.{Param}
use Rattle.slot_terms.specs.Terms.{Term}
use Rattle.slot_terms.specs.Typed.{mask_of}
use Rattle.slot_terms.specs.Places.{Places, Fills}

-- a variable has the next slot
abbrev pub with_row : Places → (name : List ℕ) → (width : ℕ) → Places
with_row m x w =
    record {
      rows = m.rows ++ record { path = x ∷ []; slot = m.next; width = w; header = None } ∷ [];
      headers = m.headers;
      next = m.next + 1;
      size = m.size;
    }

-- the parameters of an action have the next slots
abbrev pub with_params : Places → List Param → Places
with_params m [] = m
with_params m (p ∷ ps) = with_params (with_row m p.name (sound_width p.width)) ps

-- the slots of parameters
abbrev pub slots_from : ℕ → List Param → List ℕ
slots_from n [] = []
slots_from n (p ∷ ps) = n ∷ slots_from (n + 1) ps

-- the slots of parameters, with masks of their widths
abbrev pub masked_from : ℕ → List Param → List (ℕ × ℕ)
masked_from n [] = []
masked_from n (p ∷ ps) = (n, mask_of (sound_width p.width)) ∷ masked_from (n + 1) ps

-- terms give the arguments in the widths of the parameters, one by one
abbrev pub FillAll : Places → List Param → List Expr → List Term → Type 0
FillAll m [] [] [] = Unit {0}
FillAll m [] [] (t ∷ ts) = ⊥
FillAll m [] (e ∷ es) ts = ⊥
FillAll m (p ∷ ps) [] ts = ⊥
FillAll m (p ∷ ps) (e ∷ es) [] = ⊥
FillAll m (p ∷ ps) (e ∷ es) (t ∷ ts) = Fills m e p.width (record { term = t; width = sound_width p.width }) × FillAll m ps es ts
