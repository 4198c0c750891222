-- Which statements have code, by the places in sight. Read `Runs` before it, and `Known` of `slot_terms`.
use Rattle.std.specs.Prelude.{codes, ℕ, nat_eq, nat_le, List, [], ◌∷◌, Bool, true, false, not, ◌&&◌, ◌||◌, is_some, is_none, Option, Some, None, if◌then◌else◌}
use Rattle.std.specs.Option.{option_and_then}
use Rattle.bit_values.specs.Widths.{sound_width}
use Rattle.lex_text.specs.Names.{same_text}
use Rattle.p4_tree.specs.Tree.{Expr, Stmt, Stmts, MaybeStmt, nothing, block, var, assign, choice, return_, exit_, call, done, next, without, otherwise}
use Rattle.p4_meaning.specs.Value.{width_of}
use Rattle.p4_meaning.specs.Standard.{egress_spec, is_assignable}
use Rattle.p4_meaning.specs.Statements.{application}
use Rattle.p4_meaning.specs.Actions.{Param}
use Rattle.p4_meaning.specs.Tables.{Key}
use Rattle.slot_terms.specs.Places.{Place, Places, place_at}
use Rattle.slot_terms.specs.Known.{is_known}
use Rattle.slot_statements.specs.Parameters.{with_row}

-- a variable's name has a place already, or no slot is left
abbrev pub is_full : Places → (name : List ℕ) → Bool
is_full m x = is_some (place_at m.rows (x ∷ [])) || nat_le m.size m.next

abbrev pub is_free : Places → (name : List ℕ) → Bool
is_free m x = not (is_full m x)

-- the same of the parameters of an action, one behind the other
abbrev pub are_free : Places → List Param → Bool
are_free m [] = true
are_free m (p ∷ ps) = is_free m p.name && are_free (with_row m p.name (sound_width p.width)) ps

-- the first value of a variable, where one is written
abbrev pub is_known_start : Places → Option Expr → Bool
is_known_start m None = true
is_known_start m (Some e) = is_known m e

-- what no statement may write needs no place, since nothing is done
abbrev pub is_known_target : Places → List (List ℕ) → Expr → Bool
is_known_target m p e = not (is_assignable p) || (is_some (place_at m.rows p) && is_known m e)

-- a test that applies no table, and whose paths have places
abbrev pub is_known_test : Places → Expr → Bool
is_known_test m e = is_none (application e) && is_known m e

-- the port by which a packet leaves has a place of its width
abbrev pub has_port : Option Place → Bool
has_port None = false
has_port (Some r) = nat_eq r.width 9

-- a call is mark_to_drop
abbrev pub is_drop : (callee : List (List ℕ)) → Bool
is_drop [] = false
is_drop (x ∷ []) = same_text x (codes "mark_to_drop")
is_drop (x ∷ y ∷ rest) = false

abbrev pub can_drop : (callee : List (List ℕ)) → Places → Bool
can_drop callee m = is_drop callee && has_port (place_at m.rows egress_spec)

-- these places, where a test holds
abbrev pub only_if : Bool → Places → Option Places
only_if b m = if b then Some m else None

abbrev mutual
  -- the places in sight behind a statement that has code; of calls mark_to_drop alone has some here
  pub places_behind : Stmt → Places → Option Places
  places_behind (nothing p) m = Some m
  places_behind (block p ss) m = only_if (is_some (places_behind_all ss m)) m
  places_behind (var p ty x e) m = only_if (is_known_start m e && is_free m x) (with_row m x (sound_width (width_of ty)))
  places_behind (assign p target e) m = only_if (is_known_target m target e) m
  places_behind (choice p e a b) m = only_if (is_known_test m e && (is_some (places_behind a m) && has_else b m)) m
  places_behind (return_ p) m = Some m
  places_behind (exit_ p) m = Some m
  places_behind (call p callee args) m = only_if (can_drop callee m) m

  -- whether an `else`, where there is one, has code
  pub has_else : MaybeStmt → Places → Bool
  has_else without m = true
  has_else (otherwise s) m = is_some (places_behind s m)

  -- the places in sight behind statements that have code, one after the other
  pub places_behind_all : Stmts → Places → Option Places
  places_behind_all done m = Some m
  places_behind_all (next s ss) m = option_and_then (places_behind_all ss) (places_behind s m)

-- there is an argument for each parameter, and its paths have places
abbrev pub are_known_args : Places → List Param → List Expr → Bool
are_known_args m [] [] = true
are_known_args m [] (e ∷ es) = false
are_known_args m (p ∷ ps) [] = false
are_known_args m (p ∷ ps) (e ∷ es) = is_known m e && are_known_args m ps es

-- the paths in a table's keys have places
abbrev pub are_known_keys : Places → List Key → Bool
are_known_keys m [] = true
are_known_keys m (k ∷ ks) = is_known m k.value && are_known_keys m ks
