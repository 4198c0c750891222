-- No statement of lowered code writes the packet's length.
use Rattle.std.proofs.Common.{◌≡◌, ℕ, suc, ◌+◌, List, [], ◌∷◌, length, Bool, true, false, cond, Option, Some, None, refl, nat_eq}
use Rattle.p4_tree.specs.Tree as p4
use Rattle.p4_tree.specs.Tree.{Stmts, done, next, and_then}
use Rattle.packet_lengths.specs.Lengths.{is_no_length, KeepLength, KeepsElse}
use Rattle.indus_tree.specs.Tree as indus
use Rattle.indus_tree.specs.Tree.{Expr, Exprs, none, more, Shape, one, list, set, dict, Decl}
use Rattle.indus_tree.specs.State.{lookup, shape_width}
use Rattle.indus_tree.specs.declared.tree.DeclKind.{DeclKind}
use Rattle.indus_tree.specs.declared.tree.DeclKind.TheVariants.{Tele, Sensor, Header, Control}
use Rattle.indus_tree.specs.declared.tree.Ty.{Ty}
use Rattle.lookup_names.specs.Names.{found_name}
use Rattle.lookup_names.specs.Keys.{key_types, variable}
use Rattle.lowered_code.specs.Environment.{Environment, tele_path}
use Rattle.lowered_code.specs.Expressions.{read_decl, lowered, lowered_all}
use Rattle.lowered_code.specs.Reads.{cleared, start_of, turned, turn, keys_of, apply, keyed, read_array, read_sensor, read_kind, read_stmts, reads_stmts}
use Rattle.lowered_code.specs.Statements.{set_kind, set_name, set_array, tell, maybe_else, stmt_reads, behind, stmt_end, block_end, with_reads, stmt_code, block_code}

pub both_keep : (x y : Stmts) → KeepLength x → KeepLength y → KeepLength (and_then x y)
both_keep done y h k = k
both_keep (next s ss) y h k = (h.0, both_keep ss y h.1 k)

turn_keeps : (n w start : ℕ) → KeepLength (turn n w start)
turn_keeps n w start = go (nat_eq start 0)
  where
    go : (b : Bool) → KeepLength (cond b done (next (p4.assign 0 (found_name n ∷ []) (turned start w (variable (found_name n)))) done))
    go true = tt
    go false = (refl, tt)

module _ (a : Environment) (ds : List Decl) (base : ℕ) where
  keyed_keeps : (l : List Expr) (n i : ℕ) (ts : List Ty) (ks : Exprs) (rest : Stmts) → KeepLength rest → KeepLength (keyed a ds base l n i ts ks rest)
  keyed_keeps l n i [] ks rest h = h
  keyed_keeps l n i (t ∷ ts) none rest h = h
  keyed_keeps l n i (t ∷ ts) (more e es) rest h = (refl, keyed_keeps l n (suc i) ts es rest h)

  array_keeps : (l : List Expr) (n : ℕ) (d : Decl) (size : ℕ) (ks : Exprs) → KeepLength (read_array a ds base l n d size ks)
  array_keeps l n d size none = tt
  array_keeps l n d size (more e es) = (refl, (refl, (((refl, turn_keeps n (shape_width d.shape) (start_of d)), tt), tt)))

  sensor_keeps : (l : List Expr) (n : ℕ) (d : Decl) (s : Shape) (ks : Exprs) → KeepLength (read_sensor a ds base l n d s ks)
  sensor_keeps l n d (one t) ks = (refl, turn_keeps n (shape_width d.shape) (start_of d))
  sensor_keeps l n d (list t k) ks = array_keeps l n d k ks
  sensor_keeps l n d (set ts) ks = tt
  sensor_keeps l n d (dict ts t) ks = tt

  cleared_keeps : (n : ℕ) (s : Shape) → KeepLength (cleared n s)
  cleared_keeps n (one t) = tt
  cleared_keeps n (list t k) = tt
  cleared_keeps n (set ts) = (refl, tt)
  cleared_keeps n (dict ts t) = (refl, tt)

  kind_keeps : (k : DeclKind) (l : List Expr) (n : ℕ) (d : Decl) (ks : Exprs) → KeepLength (read_kind a ds base k l n d ks)
  kind_keeps Tele l n d ks = tt
  kind_keeps Sensor l n d ks = sensor_keeps l n d d.shape ks
  kind_keeps Header l n d ks = tt
  kind_keeps Control l n d ks =
      let found = next (apply a ds base n) done in
      both_keep (cleared n d.shape) (keyed a ds base l n 0 (key_types d.shape) ks found) (cleared_keeps n d.shape) (keyed_keeps l n 0 (key_types d.shape) ks found (tt, tt))

  read_keeps : (o : Option Decl) (l : List Expr) (n : ℕ) (ks : Exprs) → KeepLength (read_stmts a ds base o l n ks)
  read_keeps None l n ks = tt
  read_keeps (Some d) l n ks = kind_keeps d.kind l n d ks

  reads_keep : (l : List Expr) (n : ℕ) (es : List Expr) → KeepLength (reads_stmts a ds base l n es)
  reads_keep l n [] = tt
  reads_keep l n (e ∷ es) = both_keep (read_stmts a ds base (read_decl ds e) l n (keys_of e)) (reads_stmts a ds base _ (suc n) es) (read_keeps (read_decl ds e) l n (keys_of e)) (reads_keep _ (suc n) es)

array_set_keeps : (o : Option Decl) (i v : p4.Expr) → KeepLength (set_array o i v)
array_set_keeps None i v = tt
array_set_keeps (Some d) i v = (tt, tt)

else_keeps : (ss : Stmts) → KeepLength ss → KeepsElse (maybe_else ss)
else_keeps done h = tt
else_keeps (next s ss) h = h

-- no field of the packet's variables is the length
module _ (a : Environment) (no_length : (x : List ℕ) → is_no_length (tele_path a x) ≡ true) (ds : List Decl) where
  kind_set_keeps : (k : DeclKind) (d : Decl) (x : List ℕ) (v : p4.Expr) → KeepLength (set_kind a k d x v)
  kind_set_keeps Tele d x v = (no_length x, tt)
  kind_set_keeps Sensor d x v = (tt, tt)
  kind_set_keeps Header d x v = tt
  kind_set_keeps Control d x v = tt

  name_set_keeps : (o : Option Decl) (x : List ℕ) (v : p4.Expr) → KeepLength (set_name a o x v)
  name_set_keeps None x v = tt
  name_set_keeps (Some d) x v = kind_set_keeps d.kind d x v

  behind_reads : (n : ℕ) (s : indus.Stmt) (f : List Expr → Stmts) → KeepLength (f (stmt_reads ds s)) → KeepLength (with_reads a ds n s f)
  behind_reads n s f h = both_keep (reads_stmts a ds n [] n (stmt_reads ds s)) (f (stmt_reads ds s)) (reads_keep a ds n [] n (stmt_reads ds s)) h

  mutual
    stmt_keeps : (s : indus.Stmt) (n : ℕ) → KeepLength (stmt_code a ds s n)
    stmt_keeps (indus.assign p x e) n = behind_reads n (indus.assign p x e) (λ l. set_name a (lookup ds x) x (lowered a ds n l e)) (name_set_keeps (lookup ds x) x _)
    stmt_keeps (indus.cell p x i e) n = behind_reads n (indus.cell p x i e) (λ l. set_array (lookup ds x) (lowered a ds n l i) (lowered a ds n l e)) (array_set_keeps (lookup ds x) _ _)
    stmt_keeps (indus.push p x e) n = tt
    stmt_keeps (indus.choice p t b c) n =
        let m = behind ds (indus.choice p t b c) n in
        let k = block_end ds b m in
        behind_reads n (indus.choice p t b c) (λ l. next (p4.choice 0 (lowered a ds n l t) (p4.block 0 (block_code a ds b (n + length l))) (maybe_else (block_code a ds c (block_end ds b (n + length l))))) done)
        ((block_keeps b m, else_keeps (block_code a ds c k) (block_keeps c k)), tt)
    stmt_keeps (indus.loop p xs ls b) n = tt
    stmt_keeps (indus.reject p) n = (refl, tt)
    stmt_keeps (indus.report p m es) n = behind_reads n (indus.report p m es) (λ l. next (tell m (lowered_all a ds n l es)) done) (tt, tt)

    pub block_keeps : (ss : indus.Stmts) (n : ℕ) → KeepLength (block_code a ds ss n)
    block_keeps indus.done n = tt
    block_keeps (indus.next s ss) n = both_keep (stmt_code a ds s n) (block_code a ds ss (stmt_end ds s n)) (stmt_keeps s n) (block_keeps ss (stmt_end ds s n))
