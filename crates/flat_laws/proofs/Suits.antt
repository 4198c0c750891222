-- Names that are used as what they stand for, as in each well-typed block.
use Rattle.std.proofs.Common.{◌≡◌, ℕ, List, [], ◌∷◌, length, Bool, true, false}
use Rattle.indus_tree.specs.Tree.{Expr, Exprs, none, more, num, flag, read, count, index, member, negation, inversion, binary, cast, Stmt, Stmts, done, next, assign, cell, push, choice, loop, reject, report}
use Rattle.indus_scopes.specs.Scopes.{Around, Sight, role_of}
use Rattle.indus_scopes.specs.Uses.{is_missing, reads, counts, indexed, may_hold, may_index, writable}
use Rattle.indus_scopes.specs.Items.{within, repeats}
use Rattle.indus_rules.specs.Rules.{walked}

-- the name stands for something
abbrev pub IsKnown : Sight → List ℕ → Type 0
IsKnown g x = is_missing (role_of g x) ≡ false

module _ (g : Sight) where
  abbrev mutual
    pub Suits : Expr → Type 0
    Suits (num p n) = Unit {0}
    Suits (flag p b) = Unit {0}
    Suits (read p x) = IsKnown g x × (reads (role_of g x) ≡ true)
    Suits (count p x) = IsKnown g x × (counts (role_of g x) ≡ true)
    Suits (index p x ks) = IsKnown g x × (indexed (role_of g x) ks ≡ true) × AllSuit ks
    Suits (member p ks x) = IsKnown g x × (may_hold (role_of g x) ks ≡ true) × AllSuit ks
    Suits (negation p a) = Suits a
    Suits (inversion p a) = Suits a
    Suits (binary p op a b) = Suits a × Suits b
    Suits (cast p w a) = Suits a

    pub AllSuit : Exprs → Type 0
    AllSuit none = Unit {0}
    AllSuit (more e es) = Suits e × AllSuit es

  -- lists of the packet's
  abbrev pub AreLists : List (List ℕ) → Type 0
  AreLists [] = Unit {0}
  AreLists (x ∷ xs) = IsKnown g x × (counts (role_of g x) ≡ true) × AreLists xs

abbrev mutual
  pub StmtSuits : Stmt → Sight → Type 0
  StmtSuits (assign p x e) g = IsKnown g x × (reads (role_of g x) ≡ true) × (writable (role_of g x) ≡ true) × Suits g e
  StmtSuits (cell p x i e) g = IsKnown g x × (may_index (role_of g x) ≡ true) × (writable (role_of g x) ≡ true) × Suits g i × Suits g e
  StmtSuits (push p x e) g = IsKnown g x × (counts (role_of g x) ≡ true) × (walked g.loops x ≡ false) × Suits g e
  StmtSuits (choice p t a b) g = Suits g t × BlockSuits a g × BlockSuits b g
  StmtSuits (loop p ns ls a) g = (repeats g ns ≡ false) × (length ns ≡ length ls) × AreLists g ls × BlockSuits a (within g ns ls)
  StmtSuits (reject p) g = Unit {0}
  StmtSuits (report p n es) g = AllSuit g es

  pub BlockSuits : Stmts → Sight → Type 0
  BlockSuits done g = Unit {0}
  BlockSuits (next s rest) g = StmtSuits s g × BlockSuits rest g
