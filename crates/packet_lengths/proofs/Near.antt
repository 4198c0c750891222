-- The linked store of own code: like the plain one, with the length without telemetry in its place. And own code writes
-- neither length.
use Rattle.std.proofs.Common.{◌≡◌, ℕ, List, [], ◌∷◌, map, Bool, true, false, not, cond, ◌||◌, Option, Some, None, refl, sym, ap, ap₂, ◌∙◌, subst}
use Rattle.std.specs.List.{AllByRecursion}
use Rattle.bit_values.specs.Bits.{Word}
use Rattle.bit_values.specs.Widths.{sound_width, cast_word}
use Rattle.lex_text.specs.Names.{same_path, parent}
use Rattle.p4_tree.specs.Tree.{Expr, Stmt, Stmts, MaybeStmt, nothing, block, var, assign, choice, return_, exit_, call, done, next, without, otherwise, and_then}
use Rattle.p4_meaning.specs.Standard.{metadata_root, standard_root, packet_length, is_assignable}
use Rattle.p4_meaning.specs.Store.{Store, set_value, set_valid, written, write}
use Rattle.p4_meaning.specs.Value.{value_of}
use Rattle.p4_meaning.specs.Statements.{Act, makes, drops, reads, writes, tells, sums, runs, applies, idle, act_of, assigned}
use Rattle.p4_meaning.specs.Actions.{Action}
use Rattle.own_code.specs.Regions.{is_free, is_writable, is_own_header}
use Rattle.own_code.specs.Forwarding.{IsOwnExpr, IsOwnAct, IsOwnStmt, IsOwnElse, AreOwnStmts, IsOwnAction}
use Rattle.own_code.specs.Relations.{bare, Alike}
use Rattle.own_code.proofs.Apart.{path_decides, apart, free_apart, free_parent}
use Rattle.own_code.proofs.Own.{set_alike, valid_ran, value_alike}
use Rattle.packet_lengths.specs.Lengths.{length_path, plain_expr, is_no_length, is_no_root, KeepsAct, KeepsLength, KeepsElse, KeepLength, KeepsAction, plain_store, Near}
use Rattle.packet_lengths.proofs.Values.{value_same, flipped, no_packet_length, no_kept_length}
use Rattle.packet_lengths.proofs.Plainly.{plainly_lengths}

-- a store is alike itself
pub alike_bare : (s : Store) → Alike (bare s) (bare s)
alike_bare s = record { values = λ p i. refl; headers = λ p o. refl; cells = λ x i. refl; digests = refl }

-- the length is put in its place before another write, or after it
pub plain_set : (s : Store) (q : List (List ℕ)) (w : Word) → is_no_length q ≡ true → plain_store (set_value s q w) ≡ set_value (plain_store s) q w
plain_set s q w o = store_is (plain_store (set_value s q w)).values (set_value (plain_store s) q w).values s.headers (λ i p. point p i)
  where
    no_packet : same_path q packet_length ≡ false
    no_packet = flipped packet_length q (no_packet_length q o)

    no_kept : same_path q length_path ≡ false
    no_kept = flipped length_path q (no_kept_length q o)

    store_is : (v v' : List (List ℕ) → Word) (h : List (List ℕ) → Option Bool) → v ≡ v' → (let a : Store = record { values = v; headers = h } in let b : Store = record { values = v'; headers = h } in a ≡ b)
    store_is v v' h e = λ i. record { values = e i; headers = h }

    at : (p : List (List ℕ)) (t : Bool) → same_path packet_length p ≡ t → (plain_store (set_value s q w)).values p ≡ (set_value (plain_store s) q w).values p
    at p true e =
        ap (λ b. cond b (cond (same_path q length_path) w (s.values length_path)) (cond (same_path q p) w (s.values p))) e
        ∙ ap (λ b. cond b w (s.values length_path)) no_kept
        ∙ sym (ap₂ (λ b c. cond b w (cond c (s.values length_path) (s.values p))) (subst (λ p. same_path q p ≡ false) ((path_decides packet_length p).0 e) no_packet) e)
    at p false e =
        ap (λ b. cond b (cond (same_path q length_path) w (s.values length_path)) (cond (same_path q p) w (s.values p))) e
        ∙ sym (ap (λ c. cond (same_path q p) w (cond c (s.values length_path) (s.values p))) e)

    point : (p : List (List ℕ)) → (plain_store (set_value s q w)).values p ≡ (set_value (plain_store s) q w).values p
    point p = at p (same_path packet_length p) refl

-- a path that own code may write is neither length
pub own_length : (p : List (List ℕ)) → is_free p ≡ true → is_writable p ≡ true → is_no_length p ≡ true
own_length p r w =
    ap₂ (λ a b. not (a || b)) (flipped p packet_length (apart is_writable p packet_length w refl)) (free_apart length_path p refl r)

-- and an own header is neither struct
pub own_root_none : (h : List (List ℕ)) → is_own_header h ≡ true → is_no_root h ≡ true
own_root_none h o =
    ap₂ (λ a b. not (a || b)) (flipped h (standard_root ∷ []) (apart is_own_header h (standard_root ∷ []) o refl)) (flipped h (metadata_root ∷ []) (apart is_own_header h (metadata_root ∷ []) o refl))

-- ---- stores

-- a path that own code may write holds the same word
pub near_word : (x y : Store) (p : List (List ℕ)) → is_free p ≡ true → is_writable p ≡ true → Near x y → y.values p ≡ x.values p
near_word x y p r i h = sym (ap (λ t. cond t (y.values length_path) (y.values p)) (no_packet_length p (own_length p r i))) ∙ h.alike.values p r

-- a rewritten expression has the same value
pub near_value : (x y : Store) (e : Expr) (w : ℕ) → IsOwnExpr e → Near x y → value_of (plain_expr e) w y ≡ value_of e w x
near_value x y e w o h =
    value_same (y.values packet_length) (bare (plain_store y)) (bare y) e w (plainly_lengths (bare y) h.standard h.meta)
    ∙ value_alike (bare x) (bare (plain_store y)) e w h.alike o

pub near_values : (x y : Store) (es : List Expr) → AllByRecursion IsOwnExpr es → Near x y → map (λ e. value_of e 0 y) (map plain_expr es) ≡ map (λ e. value_of e 0 x) es
near_values x y [] o h = refl
near_values x y (e ∷ es) o h = ap₂ (λ (w : Word) (ws : List Word). w ∷ ws) (near_value x y e 0 o.0 h) (near_values x y es o.1 h)

-- the same word is put at a path that is neither length
pub near_set : (x y : Store) (q : List (List ℕ)) (v w : Word) → is_no_length q ≡ true → w ≡ v → Near x y → Near (set_value x q v) (set_value y q w)
near_set x y q v w o e h =
    record {
      alike = subst (λ u. Alike (bare (set_value x q v)) (bare u)) (sym (plain_set y q w o)) (set_alike (bare x) (bare (plain_store y)) q v w h.alike e);
      standard = h.standard;
      meta = h.meta;
    }

near_written : (o : Option Bool) (x y : Store) (q : List (List ℕ)) (v w : Word) → is_no_length q ≡ true → w ≡ v → Near x y → Near (written o x q v) (written o y q w)
near_written None x y q v w o e h = near_set x y q v w o e h
near_written (Some true) x y q v w o e h = near_set x y q v w o e h
near_written (Some false) x y q v w o e h = h

pub near_write : (x y : Store) (q : List (List ℕ)) (v w : Word) → is_free q ≡ true → is_writable q ≡ true → w ≡ v → Near x y → Near (write x q v) (write y q w)
near_write x y q v w r i e h =
    subst (λ o. Near (write x q v) (written o y q w)) (sym (h.alike.headers (parent q) (free_parent q r))) (near_written (x.headers (parent q)) x y q v w (own_length q r i) e h)

-- a statement's write
pub near_assigned : (x y : Store) (q : List (List ℕ)) (v w : Word) → is_free q ≡ true → is_writable q ≡ true → w ≡ v → Near x y → Near (assigned x q v) (assigned y q w)
near_assigned x y q v w r i e h = go (is_assignable q)
  where
    here : Near (write x q (cast_word (sound_width (x.values q).width) v)) (write y q (cast_word (sound_width (y.values q).width) w))
    here = near_write x y q _ _ r i (ap₂ (λ (u : Word) z. cast_word (sound_width u.width) z) (near_word x y q r i h) e) h

    go : (t : Bool) → Near (cond t (write x q (cast_word (sound_width (x.values q).width) v)) x) (cond t (write y q (cast_word (sound_width (y.values q).width) w)) y)
    go true = here
    go false = h

-- an own header becomes valid or invalid
pub near_valid : (x y : Store) (q : List (List ℕ)) (t : Bool) → is_own_header q ≡ true → Near x y → Near (set_valid x q t) (set_valid y q t)
near_valid x y q t o h =
    record {
      alike = (valid_ran (bare x) (bare (plain_store y)) q t o h.alike).alike;
      standard = ap (λ b. cond b (Some t) (y.headers (standard_root ∷ []))) (apart is_own_header q (standard_root ∷ []) o refl) ∙ h.standard;
      meta = ap (λ b. cond b (Some t) (y.headers (metadata_root ∷ []))) (apart is_own_header q (metadata_root ∷ []) o refl) ∙ h.meta;
    }

-- ---- own code writes neither length

own_act_keeps : (k : Act) → IsOwnAct k → KeepsAct k
own_act_keeps (makes h b) o = own_root_none h o
own_act_keeps drops o = tt
own_act_keeps (reads x t i) o = own_length t o.1 o.2
own_act_keeps (writes x i v) o = tt
own_act_keeps (tells n es) o = tt
own_act_keeps (sums v e es f) o = own_length f o.2 o.3
own_act_keeps (runs x es) o = tt
own_act_keeps (applies x) o = tt
own_act_keeps idle o = tt

mutual
  own_keeps_one : (s : Stmt) → IsOwnStmt s → KeepsLength s
  own_keeps_one (nothing p) o = tt
  own_keeps_one (block p ss) o = own_keeps ss o
  own_keeps_one (var p ty x e) o = tt
  own_keeps_one (assign p target e) o = own_length target o.0 o.1
  own_keeps_one (choice p e a b) o = (own_keeps_one a o.1, own_keeps_else b o.2)
  own_keeps_one (return_ p) o = tt
  own_keeps_one (exit_ p) o = tt
  own_keeps_one (call p callee args) o = own_act_keeps (act_of callee args) o

  own_keeps_else : (s : MaybeStmt) → IsOwnElse s → KeepsElse s
  own_keeps_else without o = tt
  own_keeps_else (otherwise s) o = own_keeps_one s o

  pub own_keeps : (ss : Stmts) → AreOwnStmts ss → KeepLength ss
  own_keeps done o = tt
  own_keeps (next s ss) o = (own_keeps_one s o.0, own_keeps ss o.1)

pub own_action_keeps : (a : Action) → IsOwnAction a → KeepsAction a
own_action_keeps a o = own_keeps a.body o.body

pub own_actions_keep : (as' : List Action) → AllByRecursion IsOwnAction as' → AllByRecursion KeepsAction as'
own_actions_keep [] o = tt
own_actions_keep (a ∷ as') o = (own_action_keeps a o.0, own_actions_keep as' o.1)

-- statements behind others
pub both_keep : (a b : Stmts) → KeepLength a → KeepLength b → KeepLength (and_then a b)
both_keep done b h k = k
both_keep (next s ss) b h k = (h.0, both_keep ss b h.1 k)
