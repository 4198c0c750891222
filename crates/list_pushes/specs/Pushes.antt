-- Pushes: what is done in place of one, over numbered scalars. What is new has the place of the token from which it comes.
-- Read `Names` before it.
use Rattle.std.specs.Prelude.{ℕ, zero, suc, List, [], ◌∷◌, ◌++◌, false}
use Rattle.indus_tree.specs.Tree.{Expr, num, flag, read, binary, Stmt, Stmts, assign, choice, done, next, block_from}
use Rattle.indus_tree.specs.declared.tree.Op.TheVariants.{Add, Less, Equal}
use Rattle.indus_tree.specs.declared.tree.Ty.{Ty}
use Rattle.indus_tree.specs.declared.tree.Ty.TheVariants as ty
use Rattle.list_pushes.specs.Names.{item_name, count_name}

-- a number of 8 bits, as a count is
abbrev pub byte : (at n : ℕ) → Expr
byte p n = num p (record { width = 8; value = n })

-- The last place of a list with room is unused, so the value is written there first, and moves from there.

abbrev pub only : Stmt → Stmts
only s = next s done

-- where the count is i, the value at the last place m goes to i
abbrev pub move : (at variable m i : ℕ) → Stmt
move p v m i = choice p (binary p Equal (read p (count_name v)) (byte p i)) (only (assign p (item_name v i) (read p (item_name v m)))) done

-- to one of the first n places
abbrev pub moves : (at variable m n : ℕ) → List Stmt
moves p v m zero = []
moves p v m (suc i) = moves p v m i ++ move p v m i ∷ []

-- 0 or false
abbrev pub nothing : (at : ℕ) → Ty → Expr
nothing p (ty.Bit w) = num p (record { width = w; value = 0 })
nothing p ty.Bool = flag p false

-- the last place m is emptied where the count is below it
abbrev pub clear : (at variable m : ℕ) → Ty → Stmt
clear p v m t = choice p (binary p Less (read p (count_name v)) (byte p m)) (only (assign p (item_name v m) (nothing p t))) done

abbrev pub count_more : (at variable : ℕ) → Stmt
count_more p v = assign p (count_name v) (binary p Add (read p (count_name v)) (byte p 1))

-- what a push does where there is room; the count changes last
abbrev pub pushed : (at : ℕ) → Expr → (variable m : ℕ) → Ty → List Stmt
pushed p e v m t = (assign p (item_name v m) e ∷ moves p v m m) ++ clear p v m t ∷ count_more p v ∷ []

abbrev pub push_to : (at : ℕ) → Expr → (variable size : ℕ) → Ty → List Stmt
push_to p e v zero t = []
push_to p e v (suc m) t = choice p (binary p Less (read p (count_name v)) (byte p (suc m))) (block_from (pushed p e v m t)) done ∷ []
