-- Whatever statements do, a path of two names or more keeps its width, and has a word in range.
use Rattle.std.proofs.Common.{◌≡◌, ℕ, List, [], ◌∷◌, Bool, true, false, ◌&&◌, cond, Option, Some, None, refl, sym, ◌∙◌, subst, Decides, arith}
use Rattle.std.specs.Prelude.{nat_eq}
use Rattle.std.proofs.lemmas.Slice.Eq.{slice_eq-Decides, bytes_eq-Decides}
use Rattle.bit_values.specs.Bits.{Word, IsWord, word}
use Rattle.bit_values.specs.Widths.{holds, sound_width, cast_word}
use Rattle.lex_text.specs.Names.{same_text, same_path, parent}
use Rattle.p4_tree.specs.Tree.{Expr, path, Stmt, Stmts, MaybeStmt, nothing, block, var, assign, choice, return_, exit_, call, done, next, without, otherwise}
use Rattle.p4_meaning.specs.Standard.{egress_spec, checksum_error, is_assignable}
use Rattle.p4_meaning.specs.Store.{Store, zero_of, set_value, set_valid, zeroed, made, written, write}
use Rattle.p4_meaning.specs.Value.{value_of}
use Rattle.p4_meaning.specs.Checksum.{list_checksum}
use Rattle.p4_meaning.specs.Statements.{Flow, Go, Return, Exit, Run, Ended, after, in_store, Act, makes, drops, reads, writes, tells, sums, runs, applies, idle, act_of, cell_at, index_of, assigned, summed, Calls, no_calls, done_by, application, tested_by, tested, start_of, meaning_of_stmt, meaning_of_else, meaning_of}
use Rattle.p4_meaning.specs.Choice.{Entry, choice_of}
use Rattle.p4_meaning.specs.Actions.{Param, Action, action_named, params_of, args_of, bound, act_if}
use Rattle.p4_meaning.specs.Tables.{Table, Chosen, Entries, Tables, table_named, has_ternary, key_words, chosen_runs, apply_if, calls_in}
use Rattle.p4_meaning.specs.Laws.{IsOf, KeepsWords, HasStandard}
use Rattle.p4_meaning.proofs.Words.{sound, cast_is_word}

path_decides : (p q : List (List ℕ)) → Decides (same_path p q) (p ≡ q)
path_decides p q = slice_eq-Decides bytes_eq-Decides p q (same_path p q) refl

-- ---- stores

kept_same : (a : Store) → KeepsWords a a
kept_same a = record { words = λ x y rest h. record { word = h; width = refl } }

kept_then : (a b c : Store) → KeepsWords a b → KeepsWords b c → KeepsWords a c
kept_then a b c h k =
    record {
      words = λ x y rest i. let one = h.words x y rest i in let two = k.words x y rest one.word in record { word = two.word; width = two.width ∙ one.width };
    }

-- the standard metadata keep their widths too
standard_kept : (a b : Store) → KeepsWords a b → HasStandard a → HasStandard b
standard_kept a b h k =
    let spec = h.words _ _ [] k.spec.word in
    let error = h.words _ _ [] k.error.word in
    record {
      spec = record { word = spec.word; width = spec.width ∙ k.spec.width };
      error = record { word = error.word; width = error.width ∙ k.error.width };
    }

and_none : (b : Bool) → (b && false) ≡ false
and_none true = refl
and_none false = refl

-- a variable's word
var_keeps : (s : Store) (z : List ℕ) (w : Word) → KeepsWords s (set_value s (z ∷ []) w)
var_keeps s z w =
    record {
      words = λ x y rest h. subst (λ b. IsOf (s.values (x ∷ y ∷ rest)).width (cond b w (s.values (x ∷ y ∷ rest)))) (sym (and_none (same_text z x))) (record { word = h; width = refl });
    }

-- a word of the width that is there
set_keeps : (s : Store) (p : List (List ℕ)) (w : Word) → (IsWord (s.values p) → IsOf (s.values p).width w) → KeepsWords s (set_value s p w)
set_keeps s p w fits = record { words = λ x y rest h. go (x ∷ y ∷ rest) h (same_path p (x ∷ y ∷ rest)) refl }
  where
    go : (q : List (List ℕ)) → IsWord (s.values q) → (b : Bool) → same_path p q ≡ b → IsOf (s.values q).width (cond b w (s.values q))
    go q h true e = let same : p ≡ q = (path_decides p q).0 e in subst (λ r. IsWord (s.values r) → IsOf (s.values r).width w) same fits h
    go q h false e = record { word = h; width = refl }

-- a word that is cast to the width that is there
fits_cast : (s : Store) (p : List (List ℕ)) (w : Word) → IsWord (s.values p) → IsOf (s.values p).width (cast_word (sound_width (s.values p).width) w)
fits_cast s p w h = record { word = cast_is_word (s.values p).width w; width = sound (s.values p).width h.wide h.narrow }

written_keeps : (o : Option Bool) (s : Store) (p : List (List ℕ)) (w : Word) → (IsWord (s.values p) → IsOf (s.values p).width w) → KeepsWords s (written o s p w)
written_keeps None s p w fits = set_keeps s p w fits
written_keeps (Some true) s p w fits = set_keeps s p w fits
written_keeps (Some false) s p w fits = kept_same s

assigned_keeps : (s : Store) (p : List (List ℕ)) (w : Word) → KeepsWords s (assigned s p w)
assigned_keeps s p w = go (is_assignable p)
  where
    go : (b : Bool) → KeepsWords s (cond b (write s p (cast_word (sound_width (s.values p).width) w)) s)
    go true = written_keeps (s.headers (parent p)) s p (cast_word (sound_width (s.values p).width) w) (fits_cast s p w)
    go false = kept_same s

valid_keeps : (s : Store) (h : List (List ℕ)) (b : Bool) → KeepsWords s (set_valid s h b)
valid_keeps s h b = record { words = λ x y rest i. record { word = i; width = refl } }

zero_word : (w : Word) → IsWord w → IsOf w.width (zero_of w)
zero_word w h = record { word = record { wide = h.wide; narrow = h.narrow; in_range = omega (arith, h.in_range) }; width = refl }

zeroed_keeps : (s : Store) (h : List (List ℕ)) → KeepsWords s (zeroed s h)
zeroed_keeps s h = record { words = λ x y rest i. go (s.values (x ∷ y ∷ rest)) i (same_path h (parent (x ∷ y ∷ rest))) }
  where
    go : (w : Word) → IsWord w → (b : Bool) → IsOf w.width (cond b (zero_of w) w)
    go w i true = zero_word w i
    go w i false = record { word = i; width = refl }

made_keeps : (o : Option Bool) (b : Bool) (s : Store) (h : List (List ℕ)) → KeepsWords s (made o b s h)
made_keeps None b s h = kept_same s
made_keeps (Some true) true s h = kept_same s
made_keeps (Some true) false s h = valid_keeps s h false
made_keeps (Some false) true s h = kept_then s (zeroed s h) (set_valid (zeroed s h) h true) (zeroed_keeps s h) (valid_keeps (zeroed s h) h true)
made_keeps (Some false) false s h = kept_same s

-- a word of a width, at a path of that width
fits_of : (n : ℕ) (v w : Word) → IsOf n v → IsOf n w → IsWord v → IsOf v.width w
fits_of n v w h k i = record { word = k.word; width = k.width ∙ sym h.width }

drop_word : IsOf 9 (word 9 511)
drop_word = record { word = record { wide = omega arith; narrow = omega arith; in_range = omega arith }; width = refl }

error_word : IsOf 1 (word 1 1)
error_word = record { word = record { wide = omega arith; narrow = omega arith; in_range = omega arith }; width = refl }

summed_keeps : (v : Bool) (es : List Expr) (f : List (List ℕ)) (s : Store) → HasStandard s → KeepsWords s (summed v es f s)
summed_keeps true es f s h = go (nat_eq (value_of (path 0 f) 16 s).value (list_checksum es s))
  where
    go : (b : Bool) → KeepsWords s (cond b s (set_value s checksum_error (word 1 1)))
    go true = kept_same s
    go false = set_keeps s checksum_error (word 1 1) (fits_of 1 (s.values checksum_error) (word 1 1) h.error error_word)
summed_keeps false es f s h = assigned_keeps s f (word 16 (list_checksum es s))

-- ---- statements

-- what calls do keeps words
pub record CallsKeep (calls : Calls) : Type 0 where
  pub actions : (x : List ℕ) (es : List Expr) (r : Run) → HasStandard r.store → KeepsWords r.store (calls.run_action x es r).0.store
  pub tables : (x : List ℕ) (r : Run) → HasStandard r.store → KeepsWords r.store (calls.apply_table x r).run.store

pub no_calls_keep : CallsKeep no_calls
no_calls_keep = record { actions = λ x es r h. kept_same r.store; tables = λ x r h. kept_same r.store }

module _ (calls : Calls) (keep : CallsKeep calls) where
  act_keeps : (k : Act) (r : Run) → HasStandard r.store → KeepsWords r.store (done_by calls k r).0.store
  act_keeps (makes h b) r s = made_keeps (r.store.headers h) b r.store h
  act_keeps drops r s = written_keeps (r.store.headers (parent egress_spec)) r.store egress_spec (word 9 511) (fits_of 9 (r.store.values egress_spec) (word 9 511) s.spec drop_word)
  act_keeps (reads x t i) r s = assigned_keeps r.store t (cell_at (r.cells x) (index_of i r.store))
  act_keeps (writes x i v) r s = kept_same r.store
  act_keeps (tells n es) r s = kept_same r.store
  act_keeps (sums v c es f) r s = go (holds (value_of c 1 r.store))
    where
      go : (b : Bool) → KeepsWords r.store (cond b (in_store r (summed v es f r.store)) r).store
      go true = summed_keeps v es f r.store s
      go false = kept_same r.store
  act_keeps (runs x es) r s = keep.actions x es r s
  act_keeps (applies x) r s = keep.tables x r s
  act_keeps idle r s = kept_same r.store

  test_keeps : (t : Option (List ℕ × Bool)) (e : Expr) (r : Run) → HasStandard r.store → KeepsWords r.store (tested_by calls t e r).run.store
  test_keeps None e r s = kept_same r.store
  test_keeps (Some t) e r s = keep.tables t.0 r s

  -- one thing and then another
  after_keeps : (s : Store) (f : Flow) (r : Run) (more : Run → Ended) → KeepsWords s r.store → KeepsWords r.store (more r).0.store → KeepsWords s (after f r more).0.store
  after_keeps s Go r more h k = kept_then s r.store (more r).0.store h k
  after_keeps s Return r more h k = h
  after_keeps s Exit r more h k = h

  mutual
    stmt_keeps : (st : Stmt) (r : Run) → HasStandard r.store → KeepsWords r.store (meaning_of_stmt calls st r).0.store
    stmt_keeps (nothing p) r s = kept_same r.store
    stmt_keeps (block p ss) r s = all_keep ss r s
    stmt_keeps (var p ty x e) r s = var_keeps r.store x (start_of ty e r.store)
    stmt_keeps (assign p target e) r s = assigned_keeps r.store target (value_of e (r.store.values target).width r.store)
    stmt_keeps (choice p e a b) r s =
        let t = tested calls e r in
        let h = test_keeps (application e) e r s in
        let q = standard_kept r.store t.run.store h s in
        after_keeps r.store t.flow t.run (λ q. cond t.hit (meaning_of_stmt calls a q) (meaning_of_else calls b q)) h
        (either t.hit t.run (meaning_of_stmt calls a t.run) (meaning_of_else calls b t.run) (stmt_keeps a t.run q) (else_keeps b t.run q))
      where
        either : (i : Bool) (q : Run) (x y : Ended) → KeepsWords q.store x.0.store → KeepsWords q.store y.0.store → KeepsWords q.store (cond i x y).0.store
        either true q x y h k = h
        either false q x y h k = k
    stmt_keeps (return_ p) r s = kept_same r.store
    stmt_keeps (exit_ p) r s = kept_same r.store
    stmt_keeps (call p callee args) r s = act_keeps (act_of callee args) r s

    else_keeps : (st : MaybeStmt) (r : Run) → HasStandard r.store → KeepsWords r.store (meaning_of_else calls st r).0.store
    else_keeps without r s = kept_same r.store
    else_keeps (otherwise st) r s = stmt_keeps st r s

    pub all_keep : (ss : Stmts) (r : Run) → HasStandard r.store → KeepsWords r.store (meaning_of calls ss r).0.store
    all_keep done r s = kept_same r.store
    all_keep (next st ss) r s =
        let one = stmt_keeps st r s in
        after_keeps r.store (meaning_of_stmt calls st r).1 (meaning_of_stmt calls st r).0 (meaning_of calls ss) one
        (all_keep ss (meaning_of_stmt calls st r).0 (standard_kept r.store (meaning_of_stmt calls st r).0.store one s))

-- ---- actions and tables

bound_keeps : (ps : List Param) (ws : List Word) (s : Store) → KeepsWords s (bound ps ws s)
bound_keeps [] ws s = kept_same s
bound_keeps (p ∷ ps) [] s =
    let t = set_value s (p.name ∷ []) (word (sound_width p.width) 0) in
    kept_then s t (bound ps [] t) (var_keeps s p.name (word (sound_width p.width) 0)) (bound_keeps ps [] t)
bound_keeps (p ∷ ps) (w ∷ ws) s =
    let t = set_value s (p.name ∷ []) (cast_word (sound_width p.width) w) in
    kept_then s t (bound ps ws t) (var_keeps s p.name (cast_word (sound_width p.width) w)) (bound_keeps ps ws t)

action_keeps : (a : Option Action) (ws : List Word) (r : Run) → HasStandard r.store → KeepsWords r.store (act_if a ws r).0.store
action_keeps None ws r s = kept_same r.store
action_keeps (Some a) ws r s =
    let one = bound_keeps a.params ws r.store in
    let t = in_store r (bound a.params ws r.store) in
    kept_then r.store t.store (meaning_of no_calls a.body t).0.store one (all_keep no_calls no_calls_keep a.body t (standard_kept r.store t.store one s))

chosen_keeps : (as' : List Action) (d : Chosen) (o : Option Entry) (r : Run) → HasStandard r.store → KeepsWords r.store (chosen_runs as' d o r).run.store
chosen_keeps as' d None r s = action_keeps (action_named as' d.action) d.args r s
chosen_keeps as' d (Some e) r s = action_keeps (action_named as' e.action) e.args r s

table_keeps : (as' : List Action) (t : Option Table) (held : Entries) (r : Run) → HasStandard r.store → KeepsWords r.store (apply_if as' t held r).run.store
table_keeps as' None held r s = kept_same r.store
table_keeps as' (Some t) held r s = chosen_keeps as' held.default (choice_of (has_ternary t.keys) held.listed (key_words t.keys r.store)) r s

calls_keep : (as' : List Action) (ts : List Table) (held : Tables) → CallsKeep (calls_in as' ts held)
calls_keep as' ts held =
    record {
      actions = λ x es r s. action_keeps (action_named as' x) (args_of (params_of (action_named as' x)) es r.store) r s;
      tables = λ x r s. table_keeps as' (table_named ts x) (held x) r s;
    }

pub calls_keep_words : (as' : List Action) (ts : List Table) (held : Tables) (ss : Stmts) (r : Run) → HasStandard r.store → KeepsWords r.store (meaning_of (calls_in as' ts held) ss r).0.store
calls_keep_words as' ts held ss r s = all_keep (calls_in as' ts held) (calls_keep as' ts held) ss r s
