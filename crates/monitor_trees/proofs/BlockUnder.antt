-- The code of a block as it is written is, under a scope, the code that runs.
use Rattle.std.proofs.Common.{◌≡◌, codes, ℕ, ◌+◌, List, [], ◌∷◌, ◌++◌, map, length, true, Option, Some, None, refl, sym, ap, ap₂, ◌∙◌, subst, append_assoc}
use Rattle.indus_tree.specs.Tree as indus
use Rattle.indus_tree.specs.Tree.{Expr, Exprs, Decl}
use Rattle.indus_tree.specs.State.{lookup, shape_width}
use Rattle.indus_tree.specs.declared.tree.DeclKind.{DeclKind}
use Rattle.indus_tree.specs.declared.tree.DeclKind.TheVariants.{Tele, Sensor, Header, Control}
use Rattle.indus_tree.specs.declared.tree.Ty.{Ty}
use Rattle.linkage.specs.Linkage.{report_receiver}
use Rattle.p4_tree.specs.Tree as p4
use Rattle.p4_tree.specs.Tree.{Stmt, Stmts, MaybeStmt, done, next, and_then, without, otherwise}
use Rattle.p4_meaning.specs.Scope.{Scope, Roots}
use Rattle.p4_meaning.specs.Under.{expr_under, stmt_under, else_under, stmts_under}
use Rattle.monitor_laws.specs.Names.{rejected_name}
use Rattle.monitor_laws.specs.Trees.{number}
use Rattle.lowered_code.specs.Names.{tele_name}
use Rattle.lowered_code.specs.Environment.{in_control}
use Rattle.lowered_code.specs.Expressions.{value_type, to_bits, lowered, lowered_all}
use Rattle.lowered_code.specs.Reads.{start_of, reads_stmts}
use Rattle.lowered_code.specs.Statements.{put_sensor, set_kind, set_name, set_array, tell, maybe_else, stmt_reads, behind, stmt_end, block_end, with_reads, stmt_code, block_code, numbered_reads, read_lookups, lookups_in, stmt_numbers, block_numbers}
use Rattle.monitor_trees.specs.Stage.{AreRooted, Stage, AreNamed}
use Rattle.monitor_trees.proofs.Expressions.{Here, lowered_under, bits_under, all_under}
use Rattle.monitor_trees.proofs.ReadsUnder.{then_under, turned_under, named_left, named_right, reads_under}

lookups_both : (a b : List (ℕ × Option Decl)) → lookups_in (a ++ b) ≡ lookups_in a ++ lookups_in b
lookups_both [] b = refl
lookups_both (x ∷ a) b = ap (λ ls. read_lookups x.0 x.1 ++ ls) (lookups_both a b) ∙ sym (append_assoc (read_lookups x.0 x.1) (lookups_in a) (lookups_in b))

module _ (s : ℕ) (r : Roots) (sc : Scope) (g : Stage s r sc) where
  -- a value is the same as bits of each type
  abbrev SameBits : (v w : p4.Expr) → Type 0
  SameBits v w = (t : Ty) → expr_under sc (to_bits t v) ≡ to_bits t w

  put_under : (d : Decl) (i k v w : p4.Expr) → expr_under sc i ≡ k → SameBits v w → stmts_under sc (put_sensor d i v) ≡ put_sensor d k w
  put_under d i k v w h z =
      λ j.
      next
      (p4.call 0 (g.registers d.name j ∷ codes "write" ∷ [])
      (p4.one 0 (h j)
      ∷ p4.one 0 (turned_under s r sc g (start_of d) (shape_width d.shape) (to_bits (value_type d.shape) v) (to_bits (value_type d.shape) w) (z (value_type d.shape)) j)
      ∷ []))
      done

  array_under : (o : Option Decl) (i k v w : p4.Expr) → expr_under sc i ≡ k → SameBits v w → stmts_under sc (set_array o i v) ≡ set_array o k w
  array_under None i k v w h z = refl
  array_under (Some d) i k v w h z = put_under d i k v w h z

  tell_under : (m : ℕ) (es fs : List p4.Expr) → map (expr_under sc) es ≡ fs → stmt_under sc (tell m es) ≡ tell m fs
  tell_under m es fs h = λ j. p4.call 0 (g.digest j ∷ []) (p4.one 0 (number 32 report_receiver) ∷ p4.many 0 (number 16 m ∷ h j) ∷ [])

  else_is : (a b : Stmts) → stmts_under sc a ≡ b → else_under sc (maybe_else a) ≡ maybe_else b
  else_is a b h = go a ∙ ap maybe_else h
    where
      go : (a : Stmts) → else_under sc (maybe_else a) ≡ maybe_else (stmts_under sc a)
      go done = refl
      go (next c ss) = refl

  module _ (c : List ℕ) (ds : List Decl) (rooted : AreRooted ds) where
    set_kind_under : (k : DeclKind) (d : Decl) (x : List ℕ) (v w : p4.Expr) → SameBits v w → stmts_under sc (set_kind (in_control r) k d x v) ≡ set_kind (Here s r sc g c) k d x w
    set_kind_under Tele d x v w z = λ j. next (p4.assign 0 (g.roots.headers j ∷ codes "hydra_tele" ∷ tele_name x ∷ []) (z (value_type d.shape) j)) done
    set_kind_under Sensor d x v w z = put_under d (number 1 0) (number 1 0) v w refl z
    set_kind_under Header d x v w z = refl
    set_kind_under Control d x v w z = refl

    set_under : (o : Option Decl) (x : List ℕ) (v w : p4.Expr) → SameBits v w → stmts_under sc (set_name (in_control r) o x v) ≡ set_name (Here s r sc g c) o x w
    set_under None x v w z = refl
    set_under (Some d) x v w z = set_kind_under d.kind d x v w z

    -- reads, and what stands behind them
    with_under :
        (n : ℕ) (e : indus.Stmt) (f h : List Expr → Stmts) → AreNamed sc c (lookups_in (numbered_reads ds n (stmt_reads ds e)))
        → stmts_under sc (f (stmt_reads ds e)) ≡ h (stmt_reads ds e)
        → stmts_under sc (with_reads (in_control r) ds n e f) ≡ with_reads (Here s r sc g c) ds n e h
    with_under n e f h named is =
        let l = stmt_reads ds e in
        then_under sc (reads_stmts (in_control r) ds n [] n l) (f l) ∙ ap₂ and_then (reads_under s r sc g c ds rooted n [] n l named) is

    abbrev Named : List (ℕ × Option Decl) → Type 0
    Named ns = AreNamed sc c (lookups_in ns)

    left : (a b : List (ℕ × Option Decl)) → Named (a ++ b) → Named a
    left a b h = named_left sc c (lookups_in a) (lookups_in b) (subst (AreNamed sc c) (lookups_both a b) h)

    right : (a b : List (ℕ × Option Decl)) → Named (a ++ b) → Named b
    right a b h = named_right sc c (lookups_in a) (lookups_in b) (subst (AreNamed sc c) (lookups_both a b) h)

    mutual
      stmt_under_is : (e : indus.Stmt) (n : ℕ) → Named (stmt_numbers ds e n) → stmts_under sc (stmt_code (in_control r) ds e n) ≡ stmt_code (Here s r sc g c) ds e n
      stmt_under_is (indus.assign p x e) n named =
          let l = stmt_reads ds (indus.assign p x e) in
          with_under n (indus.assign p x e) (λ k. set_name (in_control r) (lookup ds x) x (lowered (in_control r) ds n k e)) (λ k. set_name (Here s r sc g c) (lookup ds x) x (lowered (Here s r sc g c) ds n k e)) named
          (set_under (lookup ds x) x (lowered (in_control r) ds n l e) (lowered (Here s r sc g c) ds n l e) (λ t. bits_under s r sc g c ds rooted n l t e))
      stmt_under_is (indus.cell p x i e) n named =
          let l = stmt_reads ds (indus.cell p x i e) in
          with_under n (indus.cell p x i e) (λ k. set_array (lookup ds x) (lowered (in_control r) ds n k i) (lowered (in_control r) ds n k e)) (λ k. set_array (lookup ds x) (lowered (Here s r sc g c) ds n k i) (lowered (Here s r sc g c) ds n k e)) named
          (array_under (lookup ds x) (lowered (in_control r) ds n l i) (lowered (Here s r sc g c) ds n l i) (lowered (in_control r) ds n l e) (lowered (Here s r sc g c) ds n l e) (lowered_under s r sc g c ds rooted n l i) (λ t. bits_under s r sc g c ds rooted n l t e))
      stmt_under_is (indus.push p x e) n named = refl
      stmt_under_is (indus.choice p t a b) n named =
          let e = indus.choice p t a b in
          let l = stmt_reads ds e in
          let m = behind ds e n in
          let here = numbered_reads ds n l in
          let na = block_numbers ds a m in
          let nb = block_numbers ds b (block_end ds a m) in
          let rest = right here (na ++ nb) named in
          with_under n e
          (λ k. next (p4.choice 0 (lowered (in_control r) ds n k t) (p4.block 0 (block_code (in_control r) ds a (n + length k))) (maybe_else (block_code (in_control r) ds b (block_end ds a (n + length k))))) done)
          (λ k. next (p4.choice 0 (lowered (Here s r sc g c) ds n k t) (p4.block 0 (block_code (Here s r sc g c) ds a (n + length k))) (maybe_else (block_code (Here s r sc g c) ds b (block_end ds a (n + length k))))) done)
          (left here (na ++ nb) named)
          (λ j.
          next
          (p4.choice 0 (lowered_under s r sc g c ds rooted n l t j) (p4.block 0 (block_is a m (left na nb rest) j))
          (else_is (block_code (in_control r) ds b (block_end ds a m)) (block_code (Here s r sc g c) ds b (block_end ds a m)) (block_is b (block_end ds a m) (right na nb rest)) j))
          done)
      stmt_under_is (indus.loop p xs ls a) n named = refl
      stmt_under_is (indus.reject p) n named = λ j. next (p4.assign 0 (g.mine rejected_name refl j ∷ []) (p4.flag 0 true)) done
      stmt_under_is (indus.report p m es) n named =
          let l = stmt_reads ds (indus.report p m es) in
          with_under n (indus.report p m es) (λ k. next (tell m (lowered_all (in_control r) ds n k es)) done) (λ k. next (tell m (lowered_all (Here s r sc g c) ds n k es)) done) named
          (λ j. next (tell_under m (lowered_all (in_control r) ds n l es) (lowered_all (Here s r sc g c) ds n l es) (all_under s r sc g c ds rooted n l es) j) done)

      pub block_is : (ss : indus.Stmts) (n : ℕ) → Named (block_numbers ds ss n) → stmts_under sc (block_code (in_control r) ds ss n) ≡ block_code (Here s r sc g c) ds ss n
      block_is indus.done n named = refl
      block_is (indus.next e ss) n named =
          let here = stmt_numbers ds e n in
          let rest = block_numbers ds ss (stmt_end ds e n) in
          then_under sc (stmt_code (in_control r) ds e n) (block_code (in_control r) ds ss (stmt_end ds e n))
          ∙ ap₂ and_then (stmt_under_is e n (left here rest named)) (block_is ss (stmt_end ds e n) (right here rest named))
