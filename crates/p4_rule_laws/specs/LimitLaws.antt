-- How what is counted of a program adds up, for the limits of what is made of it. Read `Growth` before it.
use Rattle.std.specs.Prelude.{◌≡◌, ℕ, List, ◌++◌, Bool, true}
use Rattle.p4_tree.specs.Tree.{Local, Top}
use Rattle.p4_tree.specs.declared.statement.PTy.{PTy}
use Rattle.p4_meaning.specs.Parts.{struct_fields}
use Rattle.p4_scopes.specs.Scopes.{Scope, add_up}
use Rattle.p4_declaration_rules.specs.Controls.{after_tops, most_of_tops}
use Rattle.p4_rules.specs.Limits.{fields_bytes, add_cells, locals_cells, tops_cells}
use Rattle.p4_rule_laws.specs.Old.{Names, Alike, OldFields}
use Rattle.p4_rule_laws.specs.OldPrograms.{OldTops}
use Rattle.p4_rule_laws.specs.Growth.{More, with_more, NewInFront, has_struct, TopsGrow}

-- of lists behind each other
pub record CountsAdd : Type 0 where
  pub bytes : (s : Scope) (a b : List (PTy × List ℕ)) → fields_bytes s (a ++ b) ≡ add_up (fields_bytes s a) (fields_bytes s b)
  pub digests : (main : List (List ℕ)) (s : Scope) (a b : List Top) → most_of_tops main s (a ++ b) ≡ add_up (most_of_tops main s a) (most_of_tops main (after_tops s a) b)
  pub cells : (a b : List Top) → tops_cells (a ++ b) ≡ add_cells (tops_cells a) (tops_cells b)
  pub local_cells : (a b : List Local) → locals_cells (a ++ b) ≡ add_cells (locals_cells a) (locals_cells b)

-- what is counted rests on what names stand for
pub record CountsRestOnNames : Type 0 where
  pub bytes : (old : Names) (s t : Scope) → Alike old s t → (fs : List (PTy × List ℕ)) → OldFields old fs → fields_bytes s fs ≡ fields_bytes t fs
  pub digests : (old : Names) (s t : Scope) → Alike old s t → (main : List (List ℕ)) (ys : List Top) → OldTops old ys → most_of_tops main s ys ≡ most_of_tops main t ys

-- a struct of the given program has its fields, with the new ones around them
abbrev pub StructsAreWider : Type 0
StructsAreWider =
    (old : Names) (more : List ℕ → More) (change : Bool) (main : List (List ℕ)) (u s t : Scope) (ys zs front : List Top) → TopsGrow old more change main u s t ys zs → NewInFront old front → (x : List ℕ) → old x ≡ true → has_struct ys x ≡ true
    → struct_fields (front ++ zs) x ≡ with_more (more x) (struct_fields ys x)
