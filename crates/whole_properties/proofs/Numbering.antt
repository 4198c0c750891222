-- The lookups of blocks have numbers one behind the other, whatever controls they are in.
use Rattle.std.proofs.Common.{ℕ, suc, ◌≤◌, List, [], ◌∷◌, ◌++◌, map, arith}
use Rattle.indus_tree.specs.Tree.{Decl}
use Rattle.lowered_code.proofs.Rising.{AreRising}
use Rattle.lookup_tables.specs.Tables.{Lookup}
use Rattle.lookup_tables.specs.Finding.{AreNumbered}

abbrev pub lookup_of : (control : List ℕ) → ℕ × Decl → Lookup
lookup_of c l = record { control = c; number = l.0; decl = l.1 }

earlier : (a b : ℕ) (ls : List Lookup) → a ≤ b → AreNumbered b ls → AreNumbered a ls
earlier a b [] le h = omega (arith, le, h)
earlier a b (l ∷ ls) le h = (omega (arith, le, h.0), h.1)

-- those of a control, and others behind them
pub numbered_behind :
    (c : List ℕ) (a b : ℕ) (ls : List (ℕ × Decl)) (rest : List Lookup) → AreRising a b ls → AreNumbered b rest →
    AreNumbered a (map (lookup_of c) ls ++ rest)
numbered_behind c a b [] rest h k = earlier a b rest h k
numbered_behind c a b (l ∷ ls) rest h k = (h.0, numbered_behind c (suc l.0) b ls rest h.1 k)
