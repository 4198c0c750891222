-- The code of a block reads the packet's length by the name of the standard metadata alone.
use Rattle.std.proofs.Common.{◌≡◌, codes, ℕ, suc, ◌+◌, List, [], ◌∷◌, ◌++◌, length, Bool, true, false, ◌&&◌, cond, Option, Some, None, refl, sym, ap, ap₂, ◌∙◌, nat_eq}
use Rattle.lex_text.specs.Names.{same_text, parent}
use Rattle.indus_tree.specs.Tree as indus
use Rattle.indus_tree.specs.Tree.{Expr, Exprs, num, flag, read as reads, count, index, member, negation, inversion, binary, cast, none, more, Shape, one, list, set, dict, Decl}
use Rattle.indus_tree.specs.State.{lookup, shape_width}
use Rattle.indus_tree.specs.declared.tree.DeclKind.{DeclKind}
use Rattle.indus_tree.specs.declared.tree.DeclKind.TheVariants.{Tele, Sensor, Header, Control}
use Rattle.indus_tree.specs.declared.tree.Ty.{Ty}
use Rattle.indus_tree.specs.declared.tree.Ty.TheVariants as ty
use Rattle.p4_tree.specs.Tree as p4
use Rattle.p4_tree.specs.Tree.{Stmts, done, next, and_then}
use Rattle.p4_tree.specs.declared.statement.Op.TheVariants as p4o
use Rattle.p4_tree.specs.declared.statement.PTy.TheVariants as type
use Rattle.p4_meaning.specs.Standard.{standard_root}
use Rattle.p4_meaning.specs.Scope.{Scope, Roots, first_name as name_in}
use Rattle.p4_typing_laws.proofs.CallCounts.{text_is, text_same}
use Rattle.monitor_laws.specs.Names.{first_name, last_name}
use Rattle.monitor_laws.specs.Trees.{number}
use Rattle.linked_programs.specs.Reads.{PathReads, ExprReads, ExprsRead, ElseReads, StmtsRead}
use Rattle.lookup_names.specs.Names.{found_name}
use Rattle.lookup_names.specs.Keys.{key_types, variable}
use Rattle.lowered_code.specs.Environment.{Environment, view_of, rooted, rooted_path, rooted_view, in_control, switch_name}
use Rattle.lowered_code.specs.Expressions.{value_type, of_bits, to_bits, read_decl, lowered, lowered_all, name_by_kind, name_for, found_for, built_in, as_index, is_bare}
use Rattle.lowered_code.specs.Reads.{cleared, turned, turn, start_of, keys_of, apply, keyed, read_array, read_sensor, read_kind, read_stmts, reads_stmts}
use Rattle.lowered_code.specs.Statements.{put_sensor, set_kind, set_name, set_array, tell, maybe_else, stmt_reads, behind, stmt_end, block_end, with_reads, stmt_code, block_code}
use Rattle.lowered_code.proofs.Bit.{by_bit_form}
use Rattle.monitor_trees.specs.Stage.{is_root, IsRooted, AreRooted, Stage}
use Rattle.monitor_trees.proofs.Expressions.{rooted_under}

both_ways : (a b : Bool) → (a ≡ true → b ≡ true) → (b ≡ true → a ≡ true) → a ≡ b
both_ways true b f h = sym (f refl)
both_ways false true f h = h refl
both_ways false false f h = refl

and_true : (a : Bool) → (a && true) ≡ a
and_true true = refl
and_true false = refl

module _ (s : ℕ) (r : Roots) (sc : Scope) (g : Stage s r sc) where
  abbrev E : p4.Expr → Type 0
  E e = ExprReads (name_in sc) r e

  abbrev S : Stmts → Type 0
  S ss = StmtsRead (name_in sc) r ss

  -- ---- header variables

  standard_alike : (x : List ℕ) → is_root x ≡ true → same_text standard_root x ≡ same_text r.standard (rooted r x)
  standard_alike x k =
      both_ways (same_text standard_root x) (same_text r.standard (rooted r x))
      (λ e. text_same r.standard (rooted r x) (ap (rooted r) (text_is standard_root x e)))
      (λ e. text_same standard_root x (sym g.roots.standard ∙ (ap (name_in sc) (text_is r.standard (rooted r x) e) ∙ rooted_under s r sc g x k)))

  two_read : (x y : List ℕ) → is_root x ≡ true → PathReads (name_in sc) r (rooted r x ∷ y ∷ [])
  two_read x y k =
      ap₂ (λ (a b : Bool). a && b)
      (ap (same_text standard_root) (rooted_under s r sc g x k) ∙ standard_alike x k) (and_true (same_text (codes "packet_length") y))

  path_reads : (xs : List (List ℕ)) → IsRooted (p4.path 0 xs) → E (p4.path 0 (rooted_path r xs))
  path_reads [] k = absurd k
  path_reads (x ∷ []) k = absurd k
  path_reads (x ∷ y ∷ []) k = two_read x y k
  path_reads (x ∷ y ∷ z ∷ xs) k = tt

  view_reads : (d : Decl) → IsRooted (view_of d) → E (rooted_view r d)
  view_reads d = go d.valid
    where
      go : (b : Bool) → IsRooted (cond b (p4.valid 0 (parent d.path)) (p4.path 0 d.path)) → E (cond b (p4.valid 0 (rooted_path r (parent d.path))) (p4.path 0 (rooted_path r d.path)))
      go true k = tt
      go false k = path_reads d.path k

  -- ---- expressions

  of_reads : (t : Ty) (e : p4.Expr) → E e → E (of_bits t e)
  of_reads (ty.Bit w) e h = h
  of_reads ty.Bool e h = h

  to_reads : (t : Ty) (e : p4.Expr) → E e → E (to_bits t e)
  to_reads (ty.Bit w) e h = h
  to_reads ty.Bool e h = by_bit_form (λ e f. E e → E f) (λ p b h. tt) (λ p q x h. h) (λ e h. h) e h

  index_reads : (e : Expr) (i : p4.Expr) → E i → E (as_index e i)
  index_reads e i h = go (is_bare e)
    where
      go : (b : Bool) → E (cond b i (p4.cast 0 (type.Bit 128) i))
      go true = h
      go false = h

  turned_reads : (start w : ℕ) (e : p4.Expr) → E e → E (turned start w e)
  turned_reads start w e h = go (nat_eq start 0)
    where
      go : (b : Bool) → E (cond b e (p4.binary 0 p4o.BitXor e (number w start)))
      go true = h
      go false = (h, tt)

  turn_reads : (n w start : ℕ) → S (turn n w start)
  turn_reads n w start = go (nat_eq start 0)
    where
      go : (b : Bool) → S (cond b done (next (p4.assign 0 (found_name n ∷ []) (turned start w (variable (found_name n)))) done))
      go true = tt
      go false = (turned_reads start w (variable (found_name n)) tt, tt)

  built_reads : (x : List ℕ) → E (built_in (in_control r) x)
  built_reads x = go (same_text x (codes "first_hop")) (same_text x (codes "last_hop"))
    where
      go : (a b : Bool) → E (cond a (variable first_name) (cond b (variable last_name) (p4.path 0 (switch_name ∷ []))))
      go true b = tt
      go false true = tt
      go false false = tt

  then_reads : (a b : Stmts) → S a → S b → S (and_then a b)
  then_reads done b h k = k
  then_reads (next c a) b h k = (h.0, then_reads a b h.1 k)

  else_reads : (a : Stmts) → S a → ElseReads (name_in sc) r (maybe_else a)
  else_reads done h = tt
  else_reads (next c a) h = h

  module _ (ds : List Decl) (are_rooted : AreRooted ds) (base : ℕ) where
    abbrev A : Environment
    A = in_control r

    module _ (l : List Expr) where
      kind_reads : (k : DeclKind) (e : Expr) (x : List ℕ) (d : Decl) → (k ≡ Header → IsRooted (view_of d)) → E (name_by_kind A ds base l k e x d)
      kind_reads Tele e x d h = of_reads (value_type d.shape) _ tt
      kind_reads Sensor e x d h = of_reads (value_type d.shape) _ tt
      kind_reads Header e x d h = view_reads d (h refl)
      kind_reads Control e x d h = of_reads (value_type d.shape) _ tt

      name_reads : (o : Option Decl) (e : Expr) (x : List ℕ) → ((d : Decl) → o ≡ Some d → d.kind ≡ Header → IsRooted (view_of d)) → E (name_for A ds base l o e x)
      name_reads None e x h = built_reads x
      name_reads (Some d) e x h = kind_reads d.kind e x d (h d refl)

      found_reads : (o : Option Decl) (e : Expr) → E (found_for A ds base l o e)
      found_reads None e = tt
      found_reads (Some d) e = of_reads (value_type d.shape) _ tt

      pub lowered_reads : (e : Expr) → E (lowered A ds base l e)
      lowered_reads (num p n) = tt
      lowered_reads (flag p b) = tt
      lowered_reads (reads p x) = name_reads (lookup ds x) (reads p x) x (are_rooted x)
      lowered_reads (count p x) = tt
      lowered_reads (index p x ks) = found_reads (lookup ds x) (index p x ks)
      lowered_reads (member p ks x) = found_reads (lookup ds x) (member p ks x)
      lowered_reads (negation p a) = lowered_reads a
      lowered_reads (inversion p a) = lowered_reads a
      lowered_reads (binary p o a b) = (lowered_reads a, lowered_reads b)
      lowered_reads (cast p w a) = lowered_reads a

      pub all_lowered : (es : Exprs) → ExprsRead (name_in sc) r (lowered_all A ds base l es)
      all_lowered none = tt
      all_lowered (more e es) = (lowered_reads e, all_lowered es)

    keyed_reads : (l : List Expr) (n i : ℕ) (ts : List Ty) (ks : Exprs) (a : Stmts) → S a → S (keyed A ds base l n i ts ks a)
    keyed_reads l n i [] ks a h = h
    keyed_reads l n i (t ∷ ts) none a h = h
    keyed_reads l n i (t ∷ ts) (more e es) a h = (to_reads t (lowered A ds base l e) (lowered_reads l e), keyed_reads l n (suc i) ts es a h)

    array_reads : (l : List Expr) (n : ℕ) (d : Decl) (size : ℕ) (ks : Exprs) → S (read_array A ds base l n d size ks)
    array_reads l n d size none = tt
    array_reads l n d size (more e es) = (tt, (index_reads e (lowered A ds base l e) (lowered_reads l e), (((tt, tt), ((tt, (tt, tt)), turn_reads n (shape_width d.shape) (start_of d)), tt), tt)))

    sensor_reads : (l : List Expr) (n : ℕ) (d : Decl) (k : Shape) (ks : Exprs) → S (read_sensor A ds base l n d k ks)
    sensor_reads l n d (one t) ks = ((tt, (tt, tt)), turn_reads n (shape_width d.shape) (start_of d))
    sensor_reads l n d (list t size) ks = array_reads l n d size ks
    sensor_reads l n d (set ts) ks = tt
    sensor_reads l n d (dict ts t) ks = tt

    cleared_reads : (n : ℕ) (k : Shape) → S (cleared n k)
    cleared_reads n (one t) = tt
    cleared_reads n (list t size) = tt
    cleared_reads n (set ts) = (tt, tt)
    cleared_reads n (dict ts t) = (tt, tt)

    read_kind_reads : (k : DeclKind) (l : List Expr) (n : ℕ) (d : Decl) (ks : Exprs) → S (read_kind A ds base k l n d ks)
    read_kind_reads Tele l n d ks = tt
    read_kind_reads Sensor l n d ks = sensor_reads l n d d.shape ks
    read_kind_reads Header l n d ks = tt
    read_kind_reads Control l n d ks =
        let found = next (apply A ds base n) done in
        then_reads (cleared n d.shape) (keyed A ds base l n 0 (key_types d.shape) ks found) (cleared_reads n d.shape) (keyed_reads l n 0 (key_types d.shape) ks found (tt, tt))

    one_reads : (o : Option Decl) (l : List Expr) (n : ℕ) (ks : Exprs) → S (read_stmts A ds base o l n ks)
    one_reads None l n ks = tt
    one_reads (Some d) l n ks = read_kind_reads d.kind l n d ks

    pub list_reads : (l : List Expr) (n : ℕ) (es : List Expr) → S (reads_stmts A ds base l n es)
    list_reads l n [] = tt
    list_reads l n (e ∷ es) = then_reads (read_stmts A ds base (read_decl ds e) l n (keys_of e)) (reads_stmts A ds base (l ++ e ∷ []) (suc n) es) (one_reads (read_decl ds e) l n (keys_of e)) (list_reads (l ++ e ∷ []) (suc n) es)

  -- ---- statements

  put_reads : (d : Decl) (i v : p4.Expr) → E i → E v → S (put_sensor d i v)
  put_reads d i v h k = ((h, (turned_reads (start_of d) (shape_width d.shape) (to_bits (value_type d.shape) v) (to_reads (value_type d.shape) v k), tt)), tt)

  set_kind_reads : (k : DeclKind) (d : Decl) (x : List ℕ) (v : p4.Expr) → E v → S (set_kind (in_control r) k d x v)
  set_kind_reads Tele d x v h = (to_reads (value_type d.shape) v h, tt)
  set_kind_reads Sensor d x v h = put_reads d (number 1 0) v tt h
  set_kind_reads Header d x v h = tt
  set_kind_reads Control d x v h = tt

  set_reads : (o : Option Decl) (x : List ℕ) (v : p4.Expr) → E v → S (set_name (in_control r) o x v)
  set_reads None x v h = tt
  set_reads (Some d) x v h = set_kind_reads d.kind d x v h

  cell_reads : (o : Option Decl) (i v : p4.Expr) → E i → E v → S (set_array o i v)
  cell_reads None i v h k = tt
  cell_reads (Some d) i v h k = put_reads d i v h k

  module _ (ds : List Decl) (are_rooted : AreRooted ds) where
    abbrev B : Environment
    B = in_control r

    with_read : (n : ℕ) (c : indus.Stmt) (f : List Expr → Stmts) → S (f (stmt_reads ds c)) → S (with_reads B ds n c f)
    with_read n c f h = then_reads (reads_stmts B ds n [] n (stmt_reads ds c)) (f (stmt_reads ds c)) (list_reads ds are_rooted n [] n (stmt_reads ds c)) h

    mutual
      stmt_read : (c : indus.Stmt) (n : ℕ) → S (stmt_code B ds c n)
      stmt_read (indus.assign p x e) n =
          let l = stmt_reads ds (indus.assign p x e) in
          with_read n (indus.assign p x e) (λ k. set_name B (lookup ds x) x (lowered B ds n k e)) (set_reads (lookup ds x) x (lowered B ds n l e) (lowered_reads ds are_rooted n l e))
      stmt_read (indus.cell p x i e) n =
          let l = stmt_reads ds (indus.cell p x i e) in
          with_read n (indus.cell p x i e) (λ k. set_array (lookup ds x) (lowered B ds n k i) (lowered B ds n k e))
          (cell_reads (lookup ds x) (lowered B ds n l i) (lowered B ds n l e) (lowered_reads ds are_rooted n l i) (lowered_reads ds are_rooted n l e))
      stmt_read (indus.push p x e) n = tt
      stmt_read (indus.choice p t a b) n =
          let c = indus.choice p t a b in
          let l = stmt_reads ds c in
          let m = behind ds c n in
          let k = block_end ds a m in
          with_read n c
          (λ l. next (p4.choice 0 (lowered B ds n l t) (p4.block 0 (block_code B ds a (n + length l))) (maybe_else (block_code B ds b (block_end ds a (n + length l))))) done)
          ((lowered_reads ds are_rooted n l t, block_reads a m, else_reads (block_code B ds b k) (block_reads b k)), tt)
      stmt_read (indus.loop p xs ls a) n = tt
      stmt_read (indus.reject p) n = (tt, tt)
      stmt_read (indus.report p m es) n =
          let l = stmt_reads ds (indus.report p m es) in
          with_read n (indus.report p m es) (λ k. next (tell m (lowered_all B ds n k es)) done) ((tt, ((tt, all_lowered ds are_rooted n l es), tt)), tt)

      pub block_reads : (ss : indus.Stmts) (n : ℕ) → S (block_code B ds ss n)
      block_reads indus.done n = tt
      block_reads (indus.next c ss) n = then_reads (stmt_code B ds c n) (block_code B ds ss (stmt_end ds c n)) (stmt_read c n) (block_reads ss (stmt_end ds c n))
