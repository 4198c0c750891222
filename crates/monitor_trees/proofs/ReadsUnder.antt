-- The statements of reads as they are written are, under a scope, the ones that run.
use Rattle.std.proofs.Common.{◌≡◌, codes, ℕ, suc, List, [], ◌∷◌, ◌++◌, Bool, true, false, cond, Option, Some, None, refl, ap, ap₂, ◌∙◌, nat_eq}
use Rattle.indus_tree.specs.Tree.{Expr, Exprs, none, more, Shape, one, list, set, dict, Decl}
use Rattle.indus_tree.specs.State.{shape_width, width_of}
use Rattle.indus_tree.specs.declared.tree.DeclKind.{DeclKind}
use Rattle.indus_tree.specs.declared.tree.DeclKind.TheVariants.{Tele, Sensor, Header, Control}
use Rattle.indus_tree.specs.declared.tree.Ty.{Ty}
use Rattle.p4_tree.specs.Tree as p4
use Rattle.p4_tree.specs.Tree.{Stmt, Stmts, done, next, and_then}
use Rattle.p4_tree.specs.declared.statement.Op.TheVariants as p4o
use Rattle.p4_tree.specs.declared.statement.PTy.TheVariants as type
use Rattle.p4_meaning.specs.Scope.{Scope, Roots, first_name as name_in, full_name}
use Rattle.p4_meaning.specs.Under.{expr_under, stmt_under, stmts_under}
use Rattle.monitor_laws.specs.Trees.{number}
use Rattle.lookup_names.specs.Names as plain
use Rattle.lookup_names.specs.Names.{found_name, key_name}
use Rattle.lookup_names.specs.Keys.{key_types, variable}
use Rattle.lowered_code.specs.Names.{table_name}
use Rattle.lowered_code.specs.Environment.{in_control}
use Rattle.lowered_code.specs.Expressions.{read_decl, lowered, as_index, is_bare}
use Rattle.lowered_code.specs.Reads.{clear, cleared, take_cell, start_of, turned, turn, take_sensor, keys_of, keyed, read_array, read_sensor, read_control, read_kind, read_stmts, reads_stmts}
use Rattle.lowered_code.specs.Statements.{control_kind, read_lookups, numbered_reads, lookups_in}
use Rattle.monitor_trees.specs.Stage.{AreRooted, Stage, AreNamed}
use Rattle.monitor_trees.proofs.Expressions.{Here, variable_under, found_under, lowered_under, bits_under}

pub then_under : (sc : Scope) (a b : Stmts) → stmts_under sc (and_then a b) ≡ and_then (stmts_under sc a) (stmts_under sc b)
then_under sc done b = refl
then_under sc (next s a) b = ap (next (stmt_under sc s)) (then_under sc a b)

module _ (s : ℕ) (r : Roots) (sc : Scope) (g : Stage s r sc) where
  found_first : (n : ℕ) → name_in sc (found_name n) ≡ found_name n
  found_first n = g.mine (found_name n) refl

  key_first : (n i : ℕ) → name_in sc (key_name n i) ≡ key_name n i
  key_first n i = g.mine (key_name n i) refl

  key_under : (n i : ℕ) → expr_under sc (variable (key_name n i)) ≡ variable (key_name n i)
  key_under n i = variable_under s r sc g (key_name n i) refl refl

  clear_under : (n w : ℕ) → stmt_under sc (clear n w) ≡ clear n w
  clear_under n w = ap (λ (x : List ℕ). p4.assign 0 (x ∷ []) (number w 0)) (found_first n)

  take_under : (n : ℕ) (x : List ℕ) (i : p4.Expr) → expr_under sc i ≡ i → stmt_under sc (take_cell n x i) ≡ take_cell n x i
  take_under n x i h = λ j. p4.call 0 (g.registers x j ∷ codes "read" ∷ []) (p4.one 0 (found_under s r sc g n j) ∷ p4.one 0 (h j) ∷ [])

  pub turned_under : (start w : ℕ) (e f : p4.Expr) → expr_under sc e ≡ f → expr_under sc (turned start w e) ≡ turned start w f
  turned_under start w e f h = go (nat_eq start 0)
    where
      go : (b : Bool) → expr_under sc (cond b e (p4.binary 0 p4o.BitXor e (number w start))) ≡ cond b f (p4.binary 0 p4o.BitXor f (number w start))
      go true = h
      go false = ap (λ (z : p4.Expr). p4.binary 0 p4o.BitXor z (number w start)) h

  turn_under : (n w start : ℕ) → stmts_under sc (turn n w start) ≡ turn n w start
  turn_under n w start = go (nat_eq start 0)
    where
      go :
          (b : Bool) → stmts_under sc (cond b done (next (p4.assign 0 (found_name n ∷ []) (turned start w (variable (found_name n)))) done))
          ≡ cond b done (next (p4.assign 0 (found_name n ∷ []) (turned start w (variable (found_name n)))) done)
      go true = refl
      go false = λ j. next (p4.assign 0 (found_first n j ∷ []) (turned_under start w (variable (found_name n)) (variable (found_name n)) (found_under s r sc g n) j)) done

  sensor_taken : (n : ℕ) (d : Decl) (i : p4.Expr) → expr_under sc i ≡ i → stmts_under sc (take_sensor n d i) ≡ take_sensor n d i
  sensor_taken n d i h = λ j. next (take_under n d.name i h j) (turn_under n (shape_width d.shape) (start_of d) j)

  index_under : (e : Expr) (i k : p4.Expr) → expr_under sc i ≡ k → expr_under sc (as_index e i) ≡ as_index e k
  index_under e i k h = go (is_bare e)
    where
      go : (b : Bool) → expr_under sc (cond b i (p4.cast 0 (type.Bit 128) i)) ≡ cond b k (p4.cast 0 (type.Bit 128) k)
      go true = h
      go false = ap (p4.cast 0 (type.Bit 128)) h

  module _ (c : List ℕ) (ds : List Decl) (rooted : AreRooted ds) (base : ℕ) where
    abbrev A : p4.Expr → p4.Expr
    A e = expr_under sc e

    keyed_under : (l : List Expr) (n i : ℕ) (ts : List Ty) (ks : Exprs) (a b : Stmts) → stmts_under sc a ≡ b → stmts_under sc (keyed (in_control r) ds base l n i ts ks a) ≡ keyed (Here s r sc g c) ds base l n i ts ks b
    keyed_under l n i [] ks a b h = h
    keyed_under l n i (t ∷ ts) none a b h = h
    keyed_under l n i (t ∷ ts) (more e es) a b h =
        λ j.
        next (p4.assign 0 (key_first n i j ∷ []) (bits_under s r sc g c ds rooted base l t e j))
        (keyed_under l n (suc i) ts es a b h j)

    array_under : (l : List Expr) (n : ℕ) (d : Decl) (size : ℕ) (ks : Exprs) → stmts_under sc (read_array (in_control r) ds base l n d size ks) ≡ read_array (Here s r sc g c) ds base l n d size ks
    array_under l n d size none = refl
    array_under l n d size (more e es) =
        λ j.
        next (clear_under n (shape_width d.shape) j)
        (next (p4.assign 0 (key_first n 0 j ∷ []) (index_under e (lowered (in_control r) ds base l e) (lowered (Here s r sc g c) ds base l e) (lowered_under s r sc g c ds rooted base l e) j))
        (next (p4.choice 0 (p4.binary 0 p4o.Less (key_under n 0 j) (number 128 size)) (p4.block 0 (sensor_taken n d (variable (key_name n 0)) (key_under n 0) j)) p4.without)
        done))

    sensor_under : (l : List Expr) (n : ℕ) (d : Decl) (h : Shape) (ks : Exprs) → stmts_under sc (read_sensor (in_control r) ds base l n d h ks) ≡ read_sensor (Here s r sc g c) ds base l n d h ks
    sensor_under l n d (one t) ks = sensor_taken n d (number 1 0) refl
    sensor_under l n d (list t size) ks = array_under l n d size ks
    sensor_under l n d (set ts) ks = refl
    sensor_under l n d (dict ts t) ks = refl

    cleared_under : (n : ℕ) (h : Shape) → stmts_under sc (cleared n h) ≡ cleared n h
    cleared_under n (one t) = refl
    cleared_under n (list t size) = refl
    cleared_under n (set ts) = λ j. next (clear_under n 1 j) done
    cleared_under n (dict ts t) = λ j. next (clear_under n (width_of t) j) done

    control_under : (l : List Expr) (n : ℕ) (d : Decl) (ks : Exprs) → full_name sc (plain.table_name n) ≡ table_name c n → stmts_under sc (read_control (in_control r) ds base l n d ks) ≡ read_control (Here s r sc g c) ds base l n d ks
    control_under l n d ks h =
        let plain_found = next (p4.call 0 (plain.table_name n ∷ codes "apply" ∷ []) []) done in
        let found = next (p4.call 0 (table_name c n ∷ codes "apply" ∷ []) []) done in
        then_under sc (cleared n d.shape) (keyed (in_control r) ds base l n 0 (key_types d.shape) ks plain_found)
        ∙ ap₂ and_then (cleared_under n d.shape) (keyed_under l n 0 (key_types d.shape) ks plain_found found (λ k. next (p4.call 0 (h k ∷ codes "apply" ∷ []) []) done))

    kind_under : (k : DeclKind) (l : List Expr) (n : ℕ) (d : Decl) (ks : Exprs) → AreNamed sc c (control_kind k n d) → stmts_under sc (read_kind (in_control r) ds base k l n d ks) ≡ read_kind (Here s r sc g c) ds base k l n d ks
    kind_under Tele l n d ks h = refl
    kind_under Sensor l n d ks h = sensor_under l n d d.shape ks
    kind_under Header l n d ks h = refl
    kind_under Control l n d ks h = control_under l n d ks h.0

    read_under : (o : Option Decl) (l : List Expr) (n : ℕ) (ks : Exprs) → AreNamed sc c (read_lookups n o) → stmts_under sc (read_stmts (in_control r) ds base o l n ks) ≡ read_stmts (Here s r sc g c) ds base o l n ks
    read_under None l n ks h = refl
    read_under (Some d) l n ks h = kind_under d.kind l n d ks h

pub named_left : (sc : Scope) (c : List ℕ) (a b : List (ℕ × Decl)) → AreNamed sc c (a ++ b) → AreNamed sc c a
named_left sc c [] b h = tt
named_left sc c (x ∷ xs) b h = (h.0, named_left sc c xs b h.1)

pub named_right : (sc : Scope) (c : List ℕ) (a b : List (ℕ × Decl)) → AreNamed sc c (a ++ b) → AreNamed sc c b
named_right sc c [] b h = h
named_right sc c (x ∷ xs) b h = named_right sc c xs b h.1

module _ (s : ℕ) (r : Roots) (sc : Scope) (g : Stage s r sc) (c : List ℕ) (ds : List Decl) (rooted : AreRooted ds) (base : ℕ) where
  pub reads_under : (l : List Expr) (n : ℕ) (es : List Expr) → AreNamed sc c (lookups_in (numbered_reads ds n es)) → stmts_under sc (reads_stmts (in_control r) ds base l n es) ≡ reads_stmts (Here s r sc g c) ds base l n es
  reads_under l n [] h = refl
  reads_under l n (e ∷ es) h =
      let here = read_lookups n (read_decl ds e) in
      let rest = lookups_in (numbered_reads ds (suc n) es) in
      then_under sc (read_stmts (in_control r) ds base (read_decl ds e) l n (keys_of e)) (reads_stmts (in_control r) ds base (l ++ e ∷ []) (suc n) es)
      ∙ ap₂ and_then
      (read_under s r sc g c ds rooted base (read_decl ds e) l n (keys_of e) (named_left sc c here rest h))
      (reads_under (l ++ e ∷ []) (suc n) es (named_right sc c here rest h))
