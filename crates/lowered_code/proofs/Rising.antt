-- Numbers rise along a block, and its reads are of variables that are declared.
use Rattle.std.proofs.Common.{◌≡◌, ℕ, suc, ◌+◌, ◌≤◌, List, [], ◌∷◌, ◌++◌, length, Option, Some, None, refl, sym, subst, arith}
use Rattle.std.specs.List.{AllByRecursion}
use Rattle.indus_tree.specs.Tree as indus
use Rattle.indus_tree.specs.Tree.{Expr, Decl}
use Rattle.indus_tree.specs.State.{lookup}
use Rattle.indus_tree.specs.declared.tree.DeclKind.{DeclKind}
use Rattle.indus_tree.specs.declared.tree.DeclKind.TheVariants.{Tele, Sensor, Header, Control}
use Rattle.lowered_code.specs.Expressions.{read_decl}
use Rattle.lowered_code.specs.Statements.{stmt_reads, behind, stmt_end, block_end, control_kind, read_lookups, numbered_reads, stmt_numbers, block_numbers, lookups_in}
use Rattle.lowered_code.proofs.LookupReads.{lookup_name}

-- ---- numbers behind statements

module _ (ds : List Decl) where
  mutual
    pub stmt_rises : (s : indus.Stmt) (n : ℕ) → n ≤ stmt_end ds s n
    stmt_rises (indus.assign p x e) n = omega arith
    stmt_rises (indus.cell p x i e) n = omega arith
    stmt_rises (indus.push p x e) n = omega arith
    stmt_rises (indus.choice p t a b) n =
        let m = behind ds (indus.choice p t a b) n in
        let one = block_rises a m in
        let two = block_rises b (block_end ds a m) in
        omega (arith, one, two)
    stmt_rises (indus.loop p xs ls a) n = omega arith
    stmt_rises (indus.reject p) n = omega arith
    stmt_rises (indus.report p m es) n = omega arith

    pub block_rises : (ss : indus.Stmts) (n : ℕ) → n ≤ block_end ds ss n
    block_rises indus.done n = omega arith
    block_rises (indus.next s ss) n = let one = stmt_rises s n in let two = block_rises ss (stmt_end ds s n) in omega (arith, one, two)

-- ---- lists of numbers

-- they rise strictly, from a on and below b
abbrev pub AreRising : {A : Type 0} → (a b : ℕ) → List (ℕ × A) → Type 0
AreRising a b [] = a ≤ b
AreRising a b (r ∷ rs) = (a ≤ r.0) × AreRising (suc r.0) b rs

pub rising_up : {A : Type 0} (a b : ℕ) (rs : List (ℕ × A)) → AreRising a b rs → a ≤ b
rising_up a b [] h = h
rising_up a b (r ∷ rs) h = let up = rising_up (suc r.0) b rs h.1 in let le = h.0 in omega (arith, up, le)

rising_from : {A : Type 0} (a b c : ℕ) (rs : List (ℕ × A)) → a ≤ b → AreRising b c rs → AreRising a c rs
rising_from a b c [] le h = omega (arith, le, h)
rising_from a b c (r ∷ rs) le h = ((let k = h.0 in omega (arith, le, k)), h.1)

pub rising_both : {A : Type 0} (a b c : ℕ) (xs ys : List (ℕ × A)) → AreRising a b xs → AreRising b c ys → AreRising a c (xs ++ ys)
rising_both a b c [] ys h k = rising_from a b c ys h k
rising_both a b c (x ∷ xs) ys h k = (h.0, rising_both (suc x.0) b c xs ys h.1 k)

-- those of lookups among those of reads
pub lookups_rising : (ds : List Decl) (a b : ℕ) (rs : List (ℕ × Option Decl)) → AreRising a b rs → AreRising a b (lookups_in rs)
lookups_rising ds a b [] h = h
lookups_rising ds a b (r ∷ rs) h = by_decl r.1 (lookups_rising ds (suc r.0) b rs h.1)
  where
    past : AreRising (suc r.0) b (lookups_in rs) → AreRising a b (lookups_in rs)
    past more = rising_from a (suc r.0) b (lookups_in rs) (let le = h.0 in omega (arith, le)) more

    by_kind : (k : DeclKind) (d : Decl) → AreRising (suc r.0) b (lookups_in rs) → AreRising a b (control_kind k r.0 d ++ lookups_in rs)
    by_kind Tele d more = past more
    by_kind Sensor d more = past more
    by_kind Header d more = past more
    by_kind Control d more = (h.0, more)

    by_decl : (o : Option Decl) → AreRising (suc r.0) b (lookups_in rs) → AreRising a b (read_lookups r.0 o ++ lookups_in rs)
    by_decl None more = past more
    by_decl (Some d) more = by_kind d.kind d more

-- ---- the reads of a block

abbrev pub IsDeclared : List Decl → Option Decl → Type 0
IsDeclared ds None = Unit {0}
IsDeclared ds (Some d) = lookup ds d.name ≡ Some d

-- reads whose numbers rise, of what is declared
pub record AreReads (ds : List Decl) (a b : ℕ) (rs : List (ℕ × Option Decl)) : Type 0 where
  pub rising : AreRising a b rs
  pub declared : AllByRecursion (λ r. IsDeclared ds r.1) rs

module _ (ds : List Decl) where
  all_both : (xs ys : List (ℕ × Option Decl)) → AllByRecursion (λ r. IsDeclared ds r.1) xs → AllByRecursion (λ r. IsDeclared ds r.1) ys → AllByRecursion (λ r. IsDeclared ds r.1) (xs ++ ys)
  all_both [] ys h k = k
  all_both (x ∷ xs) ys h k = (h.0, all_both xs ys h.1 k)

  pub reads_both : (a b c : ℕ) (xs ys : List (ℕ × Option Decl)) → AreReads ds a b xs → AreReads ds b c ys → AreReads ds a c (xs ++ ys)
  reads_both a b c xs ys h k = record { rising = rising_both a b c xs ys h.rising k.rising; declared = all_both xs ys h.declared k.declared }

  none_read : (n : ℕ) → AreReads ds n n []
  none_read n = record { rising = omega arith; declared = tt }

  is_declared : (e : Expr) → IsDeclared ds (read_decl ds e)
  is_declared e = by_expr e
    where
      at_name : (x : List ℕ) (o : Option Decl) → lookup ds x ≡ o → IsDeclared ds o
      at_name x None is = tt
      at_name x (Some d) is = subst (λ y. lookup ds y ≡ Some d) (sym (lookup_name ds x d is)) is

      by_expr : (e : Expr) → IsDeclared ds (read_decl ds e)
      by_expr (indus.read p x) = at_name x (lookup ds x) refl
      by_expr (indus.index p x ks) = at_name x (lookup ds x) refl
      by_expr (indus.member p ks x) = at_name x (lookup ds x) refl
      by_expr _ = tt

  list_reads : (n : ℕ) (l : List Expr) → AreReads ds n (n + length l) (numbered_reads ds n l)
  list_reads n [] = record { rising = omega arith; declared = tt }
  list_reads n (e ∷ l) =
      let rest = list_reads (suc n) l in
      let moved : suc n + length l ≡ n + suc (length l) = omega arith in
      record { rising = (omega arith, subst (λ m. AreRising (suc n) m (numbered_reads ds (suc n) l)) moved rest.rising); declared = (is_declared e, rest.declared) }

  mutual
    stmt_read : (s : indus.Stmt) (n : ℕ) → AreReads ds n (stmt_end ds s n) (stmt_numbers ds s n)
    stmt_read (indus.assign p x e) n = list_reads n (stmt_reads ds (indus.assign p x e))
    stmt_read (indus.cell p x i e) n = list_reads n (stmt_reads ds (indus.cell p x i e))
    stmt_read (indus.push p x e) n = none_read n
    stmt_read (indus.choice p t a b) n =
        let l = stmt_reads ds (indus.choice p t a b) in
        let m = n + length l in
        let k = block_end ds a m in
        let z = block_end ds b k in
        reads_both n m z (numbered_reads ds n l) (block_numbers ds a m ++ block_numbers ds b k) (list_reads n l)
        (reads_both m k z (block_numbers ds a m) (block_numbers ds b k) (block_read a m) (block_read b k))
    stmt_read (indus.loop p xs ls a) n = none_read n
    stmt_read (indus.reject p) n = none_read n
    stmt_read (indus.report p m es) n = list_reads n (stmt_reads ds (indus.report p m es))

    pub block_read : (ss : indus.Stmts) (n : ℕ) → AreReads ds n (block_end ds ss n) (block_numbers ds ss n)
    block_read indus.done n = none_read n
    block_read (indus.next s ss) n =
        let m = stmt_end ds s n in
        reads_both n m (block_end ds ss m) (stmt_numbers ds s n) (block_numbers ds ss m) (stmt_read s n) (block_read ss m)
