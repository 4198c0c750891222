-- Lowered statements declare nothing.
use Rattle.std.proofs.Common.{◌≡◌, ℕ, suc, ◌+◌, List, [], ◌∷◌, ◌++◌, length, Bool, true, false, cond, nat_eq, Option, Some, None, refl, ap, ap₂, ◌∙◌}
use Rattle.indus_tree.specs.Tree as indus
use Rattle.indus_tree.specs.Tree.{Expr, Exprs, none, more, Shape, one, list, set, dict, Decl}
use Rattle.indus_tree.specs.State.{lookup, shape_width}
use Rattle.indus_tree.specs.declared.tree.DeclKind.{DeclKind}
use Rattle.indus_tree.specs.declared.tree.DeclKind.TheVariants.{Tele, Sensor, Header, Control}
use Rattle.indus_tree.specs.declared.tree.Ty.{Ty}
use Rattle.p4_tree.specs.Tree as p4
use Rattle.p4_tree.specs.Tree.{Stmt, Stmts, done, next, and_then}
use Rattle.p4_meaning.specs.Scope.{names_in, names_in_stmt, names_in_else}
use Rattle.p4_scopes.specs.Scopes.{Scope}
use Rattle.p4_statement_rules.specs.Statements.{after_all}
use Rattle.lookup_names.specs.Names.{found_name, key_name}
use Rattle.lookup_names.specs.Keys.{key_types, variable}
use Rattle.lowered_code.specs.Environment.{Environment}
use Rattle.lowered_code.specs.Expressions.{read_decl, lowered, lowered_all}
use Rattle.lowered_code.specs.Reads.{cleared, turn, turned, take_sensor, start_of, keys_of, apply, keyed, read_array, read_sensor, read_kind, read_stmts, reads_stmts}
use Rattle.lowered_code.specs.Statements.{set_kind, set_name, set_array, tell, maybe_else, stmt_reads, stmt_end, block_end, behind, with_reads, stmt_code, block_code}

pub record Quiet (ss : Stmts) : Type 0 where
  pub names : names_in ss ≡ []
  pub stays : (z : Scope) → after_all z ss ≡ z

pub quiet_done : Quiet done
quiet_done = record { names = refl; stays = λ z. refl }

pub quiet_then : (a b : Stmts) → Quiet a → Quiet b → Quiet (and_then a b)
quiet_then a b x y = record { names = both_names a b x.names y.names; stays = λ z. both_stay a b z ∙ ap (λ z. after_all z b) (x.stays z) ∙ y.stays z }
  where
    left_none : (xs ys : List (List ℕ)) → xs ++ ys ≡ [] → (xs ≡ []) × (ys ≡ [])
    left_none [] ys h = (refl, h)
    left_none (x ∷ xs) ys h = absurd (cc h)

    both_names : (a b : Stmts) → names_in a ≡ [] → names_in b ≡ [] → names_in (and_then a b) ≡ []
    both_names done b h k = k
    both_names (next s a) b h k = (let n = left_none (names_in_stmt s) (names_in a) h in ap₂ (λ (xs ys : List (List ℕ)). xs ++ ys) n.0 (both_names a b n.1 k))

    both_stay : (a b : Stmts) (z : Scope) → after_all z (and_then a b) ≡ after_all (after_all z a) b
    both_stay done b z = refl
    both_stay (next s a) b z = both_stay a b _

-- an `if`
pub quiet_choice : (e : p4.Expr) (a b : Stmts) → Quiet a → Quiet b → Quiet (next (p4.choice 0 e (p4.block 0 a) (maybe_else b)) done)
quiet_choice e a b x y = record { names = ap₂ (λ (xs ys : List (List ℕ)). (xs ++ ys) ++ []) x.names (else_none b y.names); stays = λ z. refl }
  where
    else_none : (b : Stmts) → names_in b ≡ [] → names_in_else (maybe_else b) ≡ []
    else_none done h = refl
    else_none (next s b) h = h

module _ (a : Environment) (ds : List Decl) where
  turn_quiet : (n w start : ℕ) → Quiet (turn n w start)
  turn_quiet n w start = go (nat_eq start 0)
    where
      go : (b : Bool) → Quiet (cond b done (next (p4.assign 0 (found_name n ∷ []) (turned start w (variable (found_name n)))) done))
      go true = quiet_done
      go false = record { names = refl; stays = λ z. refl }

  sensor_quiet : (n : ℕ) (d : Decl) (i : p4.Expr) → Quiet (take_sensor n d i)
  sensor_quiet n d i = (let t = turn_quiet n (shape_width d.shape) (start_of d) in record { names = t.names; stays = t.stays })

  module _ (base : ℕ) where
    keyed_quiet : (l : List Expr) (n i : ℕ) (ts : List Ty) (ks : Exprs) (rest : Stmts) → Quiet rest → Quiet (keyed a ds base l n i ts ks rest)
    keyed_quiet l n i [] ks rest h = h
    keyed_quiet l n i (t ∷ ts) none rest h = h
    keyed_quiet l n i (t ∷ ts) (more e es) rest h = (let q = keyed_quiet l n (suc i) ts es rest h in record { names = q.names; stays = q.stays })

    array_quiet : (l : List Expr) (n : ℕ) (d : Decl) (size : ℕ) (ks : Exprs) → Quiet (read_array a ds base l n d size ks)
    array_quiet l n d size none = quiet_done
    array_quiet l n d size (more e es) = record { names = ap (λ (xs : List (List ℕ)). (xs ++ []) ++ []) (sensor_quiet n d (variable (key_name n 0))).names; stays = λ z. refl }

    shape_quiet : (l : List Expr) (n : ℕ) (d : Decl) (s : Shape) (ks : Exprs) → Quiet (read_sensor a ds base l n d s ks)
    shape_quiet l n d (one t) ks = sensor_quiet n d _
    shape_quiet l n d (list t size) ks = array_quiet l n d size ks
    shape_quiet l n d (set ts) ks = quiet_done
    shape_quiet l n d (dict ts t) ks = quiet_done

    cleared_quiet : (n : ℕ) (s : Shape) → Quiet (cleared n s)
    cleared_quiet n (one t) = quiet_done
    cleared_quiet n (list t size) = quiet_done
    cleared_quiet n (set ts) = record { names = refl; stays = λ z. refl }
    cleared_quiet n (dict ts t) = record { names = refl; stays = λ z. refl }

    kind_quiet : (k : DeclKind) (l : List Expr) (n : ℕ) (d : Decl) (ks : Exprs) → Quiet (read_kind a ds base k l n d ks)
    kind_quiet Tele l n d ks = quiet_done
    kind_quiet Sensor l n d ks = shape_quiet l n d d.shape ks
    kind_quiet Header l n d ks = quiet_done
    kind_quiet Control l n d ks =
        let found = next (apply a ds base n) done in
        quiet_then (cleared n d.shape) (keyed a ds base l n 0 (key_types d.shape) ks found) (cleared_quiet n d.shape) (keyed_quiet l n 0 (key_types d.shape) ks found (record { names = refl; stays = λ z. refl }))

    pub one_quiet : (o : Option Decl) (l : List Expr) (n : ℕ) (ks : Exprs) → Quiet (read_stmts a ds base o l n ks)
    one_quiet None l n ks = quiet_done
    one_quiet (Some d) l n ks = kind_quiet d.kind l n d ks

    pub reads_quiet : (l : List Expr) (n : ℕ) (es : List Expr) → Quiet (reads_stmts a ds base l n es)
    reads_quiet l n [] = quiet_done
    reads_quiet l n (e ∷ es) =
        quiet_then (read_stmts a ds base (read_decl ds e) l n (keys_of e)) (reads_stmts a ds base (l ++ e ∷ []) (suc n) es) (one_quiet (read_decl ds e) l n (keys_of e)) (reads_quiet (l ++ e ∷ []) (suc n) es)

  set_quiet : (o : Option Decl) (x : List ℕ) (v : p4.Expr) → Quiet (set_name a o x v)
  set_quiet None x v = quiet_done
  set_quiet (Some d) x v = go d.kind
    where
      go : (k : DeclKind) → Quiet (set_kind a k d x v)
      go Tele = record { names = refl; stays = λ z. refl }
      go Sensor = record { names = refl; stays = λ z. refl }
      go Header = quiet_done
      go Control = quiet_done

  cell_quiet : (o : Option Decl) (i v : p4.Expr) → Quiet (set_array o i v)
  cell_quiet None i v = quiet_done
  cell_quiet (Some d) i v = record { names = refl; stays = λ z. refl }

  with_quiet : (n : ℕ) (s : indus.Stmt) (f : List Expr → Stmts) → Quiet (f (stmt_reads ds s)) → Quiet (with_reads a ds n s f)
  with_quiet n s f h = quiet_then (reads_stmts a ds n [] n (stmt_reads ds s)) (f (stmt_reads ds s)) (reads_quiet n [] n (stmt_reads ds s)) h

  mutual
    pub stmt_quiet : (s : indus.Stmt) (n : ℕ) → Quiet (stmt_code a ds s n)
    stmt_quiet (indus.assign p x e) n = with_quiet n (indus.assign p x e) (λ l. set_name a (lookup ds x) x (lowered a ds n l e)) (set_quiet (lookup ds x) x _)
    stmt_quiet (indus.cell p x i e) n = with_quiet n (indus.cell p x i e) (λ l. set_array (lookup ds x) (lowered a ds n l i) (lowered a ds n l e)) (cell_quiet (lookup ds x) _ _)
    stmt_quiet (indus.push p x e) n = quiet_done
    stmt_quiet (indus.choice p t b c) n =
        let k = behind ds (indus.choice p t b c) n in
        with_quiet n (indus.choice p t b c)
        (λ l. next (p4.choice 0 (lowered a ds n l t) (p4.block 0 (block_code a ds b (n + length l))) (maybe_else (block_code a ds c (block_end ds b (n + length l))))) done)
        (quiet_choice _ (block_code a ds b k) (block_code a ds c (block_end ds b k)) (block_quiet b k) (block_quiet c (block_end ds b k)))
    stmt_quiet (indus.loop p xs ls b) n = quiet_done
    stmt_quiet (indus.reject p) n = record { names = refl; stays = λ z. refl }
    stmt_quiet (indus.report p m es) n = with_quiet n (indus.report p m es) (λ l. next (tell m (lowered_all a ds n l es)) done) (record { names = refl; stays = λ z. refl })

    pub block_quiet : (ss : indus.Stmts) (n : ℕ) → Quiet (block_code a ds ss n)
    block_quiet indus.done n = quiet_done
    block_quiet (indus.next s ss) n = quiet_then (stmt_code a ds s n) (block_code a ds ss (stmt_end ds s n)) (stmt_quiet s n) (block_quiet ss (stmt_end ds s n))
