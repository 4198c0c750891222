-- What statements leave alone: each place of a store that no variable of theirs has keeps its width, and has a word in
-- range. The places are those of any predicate.
use Rattle.std.proofs.Common.{◌≡◌, ℕ, List, [], ◌∷◌, Bool, true, false, cond, Option, Some, None, refl, sym, ap, ◌∙◌, subst, Decides, arith}
use Rattle.std.specs.Prelude.{nat_eq}
use Rattle.std.proofs.lemmas.Slice.Eq.{slice_eq-Decides, bytes_eq-Decides}
use Rattle.bit_values.specs.Bits.{Word, IsWord, word}
use Rattle.bit_values.specs.Widths.{holds, sound_width, cast_word}
use Rattle.lex_text.specs.Names.{same_text, same_path, parent}
use Rattle.p4_tree.specs.Tree.{Expr, path, Stmt, Stmts, MaybeStmt, nothing, block, var, assign, choice, return_, exit_, call, done, next, without, otherwise}
use Rattle.p4_meaning.specs.Standard.{egress_spec, checksum_error, is_assignable}
use Rattle.p4_meaning.specs.Store.{Store, zero_of, set_value, set_valid, zeroed, made, written, write}
use Rattle.p4_meaning.specs.Value.{value_of}
use Rattle.p4_meaning.specs.Checksum.{list_checksum}
use Rattle.p4_meaning.specs.Statements.{Flow, Go, Return, Exit, Run, Ended, after, in_store, Act, makes, drops, reads, writes, tells, sums, runs, applies, idle, act_of, cell_at, index_of, assigned, summed, Calls, no_calls, start_of, done_by, application, tested_by, tested, meaning_of_stmt, meaning_of_else, meaning_of}
use Rattle.p4_meaning.specs.Choice.{Entry, choice_of}
use Rattle.p4_meaning.specs.Actions.{Param, Action, action_named, params_of, args_of, bound, act_if}
use Rattle.p4_meaning.specs.Tables.{Table, Chosen, Entries, Tables, table_named, has_ternary, key_words, chosen_runs, apply_if, calls_in}
use Rattle.p4_meaning.specs.Laws.{IsOf, HasStandard}
use Rattle.p4_meaning.proofs.Words.{sound, cast_is_word}
use Rattle.p4_typing_laws.specs.Along.{Keeps}

path_decides : (p q : List (List ℕ)) → Decides (same_path p q) (p ≡ q)
path_decides p q = slice_eq-Decides bytes_eq-Decides p q (same_path p q) refl

pub path_is : (p q : List (List ℕ)) → same_path p q ≡ true → p ≡ q
path_is p q h = (path_decides p q).0 h

pub path_same : (p q : List (List ℕ)) → p ≡ q → same_path p q ≡ true
path_same p q h = (path_decides p q).1 h

module _ (K : List (List ℕ) → Type 0) where
  pub keeps_same : (a : Store) → Keeps K a a
  keeps_same a = record { words = λ q k h. record { word = h; width = refl } }

  pub keeps_then : (a b c : Store) → Keeps K a b → Keeps K b c → Keeps K a c
  keeps_then a b c h k = record { words = λ q i w. (let one = h.words q i w in let two = k.words q i one.word in record { word = two.word; width = two.width ∙ one.width }) }

  -- a word of the width that is there, or at none of the places
  pub set_keeps : (s : Store) (p : List (List ℕ)) (w : Word) → (K p → IsWord (s.values p) → IsOf (s.values p).width w) → Keeps K s (set_value s p w)
  set_keeps s p w fits = record { words = λ q k h. go q k h (same_path p q) refl }
    where
      go : (q : List (List ℕ)) → K q → IsWord (s.values q) → (b : Bool) → same_path p q ≡ b → IsOf (s.values q).width (cond b w (s.values q))
      go q k h true e = (let same : p ≡ q = path_is p q e in subst (λ r. K r → IsWord (s.values r) → IsOf (s.values r).width w) same fits k h)
      go q k h false e = record { word = h; width = refl }

  fits_cast : (s : Store) (p : List (List ℕ)) (w : Word) → IsWord (s.values p) → IsOf (s.values p).width (cast_word (sound_width (s.values p).width) w)
  fits_cast s p w h = record { word = cast_is_word (s.values p).width w; width = sound (s.values p).width h.wide h.narrow }

  written_keeps : (o : Option Bool) (s : Store) (p : List (List ℕ)) (w : Word) → (IsWord (s.values p) → IsOf (s.values p).width w) → Keeps K s (written o s p w)
  written_keeps None s p w fits = set_keeps s p w (λ k. fits)
  written_keeps (Some true) s p w fits = set_keeps s p w (λ k. fits)
  written_keeps (Some false) s p w fits = keeps_same s

  pub assigned_keeps : (s : Store) (p : List (List ℕ)) (w : Word) → Keeps K s (assigned s p w)
  assigned_keeps s p w = go (is_assignable p)
    where
      go : (b : Bool) → Keeps K s (cond b (write s p (cast_word (sound_width (s.values p).width) w)) s)
      go true = written_keeps (s.headers (parent p)) s p (cast_word (sound_width (s.values p).width) w) (fits_cast s p w)
      go false = keeps_same s

  valid_keeps : (s : Store) (h : List (List ℕ)) (b : Bool) → Keeps K s (set_valid s h b)
  valid_keeps s h b = record { words = λ q k i. record { word = i; width = refl } }

  zero_word : (w : Word) → IsWord w → IsOf w.width (zero_of w)
  zero_word w h = record { word = record { wide = h.wide; narrow = h.narrow; in_range = omega (arith, h.in_range) }; width = refl }

  zeroed_keeps : (s : Store) (h : List (List ℕ)) → Keeps K s (zeroed s h)
  zeroed_keeps s h = record { words = λ q k i. go (s.values q) i (same_path h (parent q)) }
    where
      go : (w : Word) → IsWord w → (b : Bool) → IsOf w.width (cond b (zero_of w) w)
      go w i true = zero_word w i
      go w i false = record { word = i; width = refl }

  made_keeps : (o : Option Bool) (b : Bool) (s : Store) (h : List (List ℕ)) → Keeps K s (made o b s h)
  made_keeps None b s h = keeps_same s
  made_keeps (Some true) true s h = keeps_same s
  made_keeps (Some true) false s h = valid_keeps s h false
  made_keeps (Some false) true s h = keeps_then s (zeroed s h) (set_valid (zeroed s h) h true) (zeroed_keeps s h) (valid_keeps (zeroed s h) h true)
  made_keeps (Some false) false s h = keeps_same s

  -- a word of a width, at a path of that width
  fits_of : (n : ℕ) (v w : Word) → IsOf n v → IsOf n w → IsWord v → IsOf v.width w
  fits_of n v w h k i = record { word = k.word; width = k.width ∙ sym h.width }

  drop_word : IsOf 9 (word 9 511)
  drop_word = record { word = record { wide = omega arith; narrow = omega arith; in_range = omega arith }; width = refl }

  error_word : IsOf 1 (word 1 1)
  error_word = record { word = record { wide = omega arith; narrow = omega arith; in_range = omega arith }; width = refl }

  summed_keeps : (v : Bool) (es : List Expr) (f : List (List ℕ)) (s : Store) → HasStandard s → Keeps K s (summed v es f s)
  summed_keeps true es f s h = go (nat_eq (value_of (path 0 f) 16 s).value (list_checksum es s))
    where
      go : (b : Bool) → Keeps K s (cond b s (set_value s checksum_error (word 1 1)))
      go true = keeps_same s
      go false = set_keeps s checksum_error (word 1 1) (λ k. fits_of 1 (s.values checksum_error) (word 1 1) h.error error_word)
  summed_keeps false es f s h = assigned_keeps s f (word 16 (list_checksum es s))

  -- ---- statements

  -- the standard metadata that the switch writes are among the places
  pub record HasPlaces : Type 0 where
    pub spec : K egress_spec
    pub error : K checksum_error

  pub standard_kept : HasPlaces → (a b : Store) → Keeps K a b → HasStandard a → HasStandard b
  standard_kept places a b h k =
      let spec = h.words egress_spec places.spec k.spec.word in
      let error = h.words checksum_error places.error k.error.word in
      record {
        spec = record { word = spec.word; width = spec.width ∙ k.spec.width };
        error = record { word = error.word; width = error.width ∙ k.error.width };
      }

  -- what calls do keeps the places
  pub record CallsKeep (calls : Calls) : Type 0 where
    pub actions : (x : List ℕ) (es : List Expr) (r : Run) → HasStandard r.store → Keeps K r.store (calls.run_action x es r).0.store
    pub tables : (x : List ℕ) (r : Run) → HasStandard r.store → Keeps K r.store (calls.apply_table x r).run.store

  pub no_calls_keep : CallsKeep no_calls
  no_calls_keep = record { actions = λ x es r h. keeps_same r.store; tables = λ x r h. keeps_same r.store }

  abbrev mutual
    -- no variable of a statement is one of the places
    pub SparesStmt : Stmt → Type 0
    SparesStmt (nothing p) = Unit {0}
    SparesStmt (block p b) = Spares b
    SparesStmt (var p ty x e) = K (x ∷ []) → ⊥
    SparesStmt (assign p x e) = Unit {0}
    SparesStmt (choice p e a b) = SparesStmt a × SparesElse b
    SparesStmt (return_ p) = Unit {0}
    SparesStmt (exit_ p) = Unit {0}
    SparesStmt (call p x args) = Unit {0}

    pub SparesElse : MaybeStmt → Type 0
    SparesElse without = Unit {0}
    SparesElse (otherwise c) = SparesStmt c

    pub Spares : Stmts → Type 0
    Spares done = Unit {0}
    Spares (next c ss) = SparesStmt c × Spares ss

  module _ (places : HasPlaces) (calls : Calls) (keep : CallsKeep calls) where
    act_keeps : (k : Act) (r : Run) → HasStandard r.store → Keeps K r.store (done_by calls k r).0.store
    act_keeps (makes h b) r s = made_keeps (r.store.headers h) b r.store h
    act_keeps drops r s = written_keeps (r.store.headers (parent egress_spec)) r.store egress_spec (word 9 511) (fits_of 9 (r.store.values egress_spec) (word 9 511) s.spec drop_word)
    act_keeps (reads x t i) r s = assigned_keeps r.store t (cell_at (r.cells x) (index_of i r.store))
    act_keeps (writes x i v) r s = keeps_same r.store
    act_keeps (tells n es) r s = keeps_same r.store
    act_keeps (sums v c es f) r s = go (holds (value_of c 1 r.store))
      where
        go : (b : Bool) → Keeps K r.store (cond b (in_store r (summed v es f r.store)) r).store
        go true = summed_keeps v es f r.store s
        go false = keeps_same r.store
    act_keeps (runs x es) r s = keep.actions x es r s
    act_keeps (applies x) r s = keep.tables x r s
    act_keeps idle r s = keeps_same r.store

    pub test_keeps : (t : Option (List ℕ × Bool)) (e : Expr) (r : Run) → HasStandard r.store → Keeps K r.store (tested_by calls t e r).run.store
    test_keeps None e r s = keeps_same r.store
    test_keeps (Some t) e r s = keep.tables t.0 r s

    after_keeps : (s : Store) (f : Flow) (r : Run) (more : Run → Ended) → Keeps K s r.store → Keeps K r.store (more r).0.store → Keeps K s (after f r more).0.store
    after_keeps s Go r more h k = keeps_then s r.store (more r).0.store h k
    after_keeps s Return r more h k = h
    after_keeps s Exit r more h k = h

    mutual
      pub stmt_keeps : (st : Stmt) → SparesStmt st → (r : Run) → HasStandard r.store → Keeps K r.store (meaning_of_stmt calls st r).0.store
      stmt_keeps (nothing p) a r s = keeps_same r.store
      stmt_keeps (block p ss) a r s = all_keep ss a r s
      stmt_keeps (var p ty x e) a r s = set_keeps r.store (x ∷ []) (start_of ty e r.store) (λ k. absurd (a k))
      stmt_keeps (assign p target e) a r s = assigned_keeps r.store target (value_of e (r.store.values target).width r.store)
      stmt_keeps (choice p e x y) a r s =
          let t = tested calls e r in
          let h = test_keeps (application e) e r s in
          let q = standard_kept places r.store t.run.store h s in
          after_keeps r.store t.flow t.run (λ q. cond t.hit (meaning_of_stmt calls x q) (meaning_of_else calls y q)) h
          (either t.hit t.run (meaning_of_stmt calls x t.run) (meaning_of_else calls y t.run) (stmt_keeps x a.0 t.run q) (else_keeps y a.1 t.run q))
        where
          either : (i : Bool) (q : Run) (u v : Ended) → Keeps K q.store u.0.store → Keeps K q.store v.0.store → Keeps K q.store (cond i u v).0.store
          either true q u v h k = h
          either false q u v h k = k
      stmt_keeps (return_ p) a r s = keeps_same r.store
      stmt_keeps (exit_ p) a r s = keeps_same r.store
      stmt_keeps (call p callee args) a r s = act_keeps (act_of callee args) r s

      else_keeps : (st : MaybeStmt) → SparesElse st → (r : Run) → HasStandard r.store → Keeps K r.store (meaning_of_else calls st r).0.store
      else_keeps without a r s = keeps_same r.store
      else_keeps (otherwise st) a r s = stmt_keeps st a r s

      pub all_keep : (ss : Stmts) → Spares ss → (r : Run) → HasStandard r.store → Keeps K r.store (meaning_of calls ss r).0.store
      all_keep done a r s = keeps_same r.store
      all_keep (next st ss) a r s =
          let one = stmt_keeps st a.0 r s in
          after_keeps r.store (meaning_of_stmt calls st r).1 (meaning_of_stmt calls st r).0 (meaning_of calls ss) one
          (all_keep ss a.1 (meaning_of_stmt calls st r).0 (standard_kept places r.store (meaning_of_stmt calls st r).0.store one s))

  -- ---- actions and tables

  abbrev pub ParamsSpare : List Param → Type 0
  ParamsSpare [] = Unit {0}
  ParamsSpare (p ∷ ps) = (K (p.name ∷ []) → ⊥) × ParamsSpare ps

  -- no parameter and no variable of an action is one of the places
  abbrev pub SpareAll : List Action → Type 0
  SpareAll [] = Unit {0}
  SpareAll (a ∷ as') = (ParamsSpare a.params × Spares a.body) × SpareAll as'

  pub bound_keeps : (ps : List Param) (ws : List Word) (s : Store) → ParamsSpare ps → Keeps K s (bound ps ws s)
  bound_keeps [] ws s a = keeps_same s
  bound_keeps (p ∷ ps) [] s a =
      let t = set_value s (p.name ∷ []) (word (sound_width p.width) 0) in
      keeps_then s t (bound ps [] t) (set_keeps s (p.name ∷ []) (word (sound_width p.width) 0) (λ k. absurd (a.0 k))) (bound_keeps ps [] t a.1)
  bound_keeps (p ∷ ps) (w ∷ ws) s a =
      let t = set_value s (p.name ∷ []) (cast_word (sound_width p.width) w) in
      keeps_then s t (bound ps ws t) (set_keeps s (p.name ∷ []) (cast_word (sound_width p.width) w) (λ k. absurd (a.0 k))) (bound_keeps ps ws t a.1)

  abbrev OneSpares : Option Action → Type 0
  OneSpares None = Unit {0}
  OneSpares (Some a) = ParamsSpare a.params × Spares a.body

  named_spares : (as' : List Action) → SpareAll as' → (x : List ℕ) → OneSpares (action_named as' x)
  named_spares [] h x = tt
  named_spares (a ∷ as') h x = go (same_text a.name x) (named_spares as' h.1 x)
    where
      go : (b : Bool) → OneSpares (action_named as' x) → OneSpares (cond b (Some a) (action_named as' x))
      go true more = h.0
      go false more = more

  module _ (places : HasPlaces) (as' : List Action) (spare : SpareAll as') where
    action_keeps : (o : Option Action) → OneSpares o → (ws : List Word) (r : Run) → HasStandard r.store → Keeps K r.store (act_if o ws r).0.store
    action_keeps None h ws r s = keeps_same r.store
    action_keeps (Some a) h ws r s =
        let one = bound_keeps a.params ws r.store h.0 in
        let t = in_store r (bound a.params ws r.store) in
        keeps_then r.store t.store (meaning_of no_calls a.body t).0.store one (all_keep places no_calls no_calls_keep a.body h.1 t (standard_kept places r.store t.store one s))

    chosen_keeps : (d : Chosen) (o : Option Entry) (r : Run) → HasStandard r.store → Keeps K r.store (chosen_runs as' d o r).run.store
    chosen_keeps d None r s = action_keeps (action_named as' d.action) (named_spares as' spare d.action) d.args r s
    chosen_keeps d (Some e) r s = action_keeps (action_named as' e.action) (named_spares as' spare e.action) e.args r s

    table_keeps : (t : Option Table) (held : Entries) (r : Run) → HasStandard r.store → Keeps K r.store (apply_if as' t held r).run.store
    table_keeps None held r s = keeps_same r.store
    table_keeps (Some t) held r s = chosen_keeps held.default (choice_of (has_ternary t.keys) held.listed (key_words t.keys r.store)) r s

    pub calls_keep : (ts : List Table) (held : Tables) → CallsKeep (calls_in as' ts held)
    calls_keep ts held =
        record {
          actions = λ x es r s. action_keeps (action_named as' x) (named_spares as' spare x) (args_of (params_of (action_named as' x)) es r.store) r s;
          tables = λ x r s. table_keeps (table_named ts x) (held x) r s;
        }

-- ---- the empty path is no header's

none_set : (s : Store) (h : List (List ℕ)) (b : Bool) → s.headers [] ≡ None → (h ≡ [] → ⊥) → (set_valid s h b).headers [] ≡ None
none_set s h b e apart = go (same_path h []) refl
  where
    go : (c : Bool) → same_path h [] ≡ c → cond c (Some b) (s.headers []) ≡ None
    go true i = absurd (apart (path_is h [] i))
    go false i = e

none_written : (o : Option Bool) (s : Store) (p : List (List ℕ)) (w : Word) → s.headers [] ≡ None → (written o s p w).headers [] ≡ None
none_written None s p w e = e
none_written (Some true) s p w e = e
none_written (Some false) s p w e = e

none_assigned : (s : Store) (p : List (List ℕ)) (w : Word) → s.headers [] ≡ None → (assigned s p w).headers [] ≡ None
none_assigned s p w e = go (is_assignable p)
  where
    go : (b : Bool) → (cond b (write s p (cast_word (sound_width (s.values p).width) w)) s).headers [] ≡ None
    go true = none_written (s.headers (parent p)) s p (cast_word (sound_width (s.values p).width) w) e
    go false = e

-- setValid and setInvalid on the header at a path: one that is there has a path
none_made : (s : Store) (h : List (List ℕ)) (o : Option Bool) → s.headers h ≡ o → (b : Bool) → s.headers [] ≡ None → (made o b s h).headers [] ≡ None
none_made s h None i b e = e
none_made s h (Some true) i true e = e
none_made s h (Some true) i false e = none_set s h false e (λ q. (let k = sym (ap s.headers q ∙ e) ∙ i in cc))
none_made s h (Some false) i true e = none_set (zeroed s h) h true e (λ q. (let k = sym (ap s.headers q ∙ e) ∙ i in cc))
none_made s h (Some false) i false e = e

none_summed : (v : Bool) (es : List Expr) (f : List (List ℕ)) (s : Store) → s.headers [] ≡ None → (summed v es f s).headers [] ≡ None
none_summed true es f s e = go (nat_eq (value_of (path 0 f) 16 s).value (list_checksum es s))
  where
    go : (b : Bool) → (cond b s (set_value s checksum_error (word 1 1))).headers [] ≡ None
    go true = e
    go false = e
none_summed false es f s e = none_assigned s f (word 16 (list_checksum es s)) e

pub record CallsKeepNone (calls : Calls) : Type 0 where
  pub actions : (x : List ℕ) (es : List Expr) (r : Run) → r.store.headers [] ≡ None → (calls.run_action x es r).0.store.headers [] ≡ None
  pub tables : (x : List ℕ) (r : Run) → r.store.headers [] ≡ None → (calls.apply_table x r).run.store.headers [] ≡ None

pub no_calls_none : CallsKeepNone no_calls
no_calls_none = record { actions = λ x es r e. e; tables = λ x r e. e }

module _ (calls : Calls) (keep : CallsKeepNone calls) where
  act_none : (k : Act) (r : Run) → r.store.headers [] ≡ None → (done_by calls k r).0.store.headers [] ≡ None
  act_none (makes h b) r e = none_made r.store h (r.store.headers h) refl b e
  act_none drops r e = none_written (r.store.headers (parent egress_spec)) r.store egress_spec (word 9 511) e
  act_none (reads x t i) r e = none_assigned r.store t (cell_at (r.cells x) (index_of i r.store)) e
  act_none (writes x i v) r e = e
  act_none (tells n es) r e = e
  act_none (sums v c es f) r e = go (holds (value_of c 1 r.store))
    where
      go : (b : Bool) → (cond b (in_store r (summed v es f r.store)) r).store.headers [] ≡ None
      go true = none_summed v es f r.store e
      go false = e
  act_none (runs x es) r e = keep.actions x es r e
  act_none (applies x) r e = keep.tables x r e
  act_none idle r e = e

  pub test_none : (t : Option (List ℕ × Bool)) (x : Expr) (r : Run) → r.store.headers [] ≡ None → (tested_by calls t x r).run.store.headers [] ≡ None
  test_none None x r e = e
  test_none (Some t) x r e = keep.tables t.0 r e

  after_none : (f : Flow) (r : Run) (more : Run → Ended) → r.store.headers [] ≡ None → (more r).0.store.headers [] ≡ None → (after f r more).0.store.headers [] ≡ None
  after_none Go r more h k = k
  after_none Return r more h k = h
  after_none Exit r more h k = h

  mutual
    pub stmt_none : (st : Stmt) (r : Run) → r.store.headers [] ≡ None → (meaning_of_stmt calls st r).0.store.headers [] ≡ None
    stmt_none (nothing p) r e = e
    stmt_none (block p ss) r e = all_none ss r e
    stmt_none (var p ty x v) r e = e
    stmt_none (assign p target v) r e = none_assigned r.store target (value_of v (r.store.values target).width r.store) e
    stmt_none (choice p x a b) r e =
        let t = tested calls x r in
        let h = test_none (application x) x r e in
        after_none t.flow t.run (λ q. cond t.hit (meaning_of_stmt calls a q) (meaning_of_else calls b q)) h (either t.hit (meaning_of_stmt calls a t.run) (meaning_of_else calls b t.run) (stmt_none a t.run h) (else_none b t.run h))
      where
        either : (i : Bool) (u v : Ended) → u.0.store.headers [] ≡ None → v.0.store.headers [] ≡ None → (cond i u v).0.store.headers [] ≡ None
        either true u v h k = h
        either false u v h k = k
    stmt_none (return_ p) r e = e
    stmt_none (exit_ p) r e = e
    stmt_none (call p callee args) r e = act_none (act_of callee args) r e

    else_none : (st : MaybeStmt) (r : Run) → r.store.headers [] ≡ None → (meaning_of_else calls st r).0.store.headers [] ≡ None
    else_none without r e = e
    else_none (otherwise st) r e = stmt_none st r e

    pub all_none : (ss : Stmts) (r : Run) → r.store.headers [] ≡ None → (meaning_of calls ss r).0.store.headers [] ≡ None
    all_none done r e = e
    all_none (next st ss) r e = (let one = stmt_none st r e in after_none (meaning_of_stmt calls st r).1 (meaning_of_stmt calls st r).0 (meaning_of calls ss) one (all_none ss (meaning_of_stmt calls st r).0 one))

pub bound_none : (ps : List Param) (ws : List Word) (s : Store) → s.headers [] ≡ None → (bound ps ws s).headers [] ≡ None
bound_none [] ws s e = e
bound_none (p ∷ ps) [] s e = bound_none ps [] (set_value s (p.name ∷ []) (word (sound_width p.width) 0)) e
bound_none (p ∷ ps) (w ∷ ws) s e = bound_none ps ws (set_value s (p.name ∷ []) (cast_word (sound_width p.width) w)) e

action_none : (o : Option Action) (ws : List Word) (r : Run) → r.store.headers [] ≡ None → (act_if o ws r).0.store.headers [] ≡ None
action_none None ws r e = e
action_none (Some a) ws r e = all_none no_calls no_calls_none a.body (in_store r (bound a.params ws r.store)) (bound_none a.params ws r.store e)

chosen_none : (as' : List Action) (d : Chosen) (o : Option Entry) (r : Run) → r.store.headers [] ≡ None → (chosen_runs as' d o r).run.store.headers [] ≡ None
chosen_none as' d None r e = action_none (action_named as' d.action) d.args r e
chosen_none as' d (Some x) r e = action_none (action_named as' x.action) x.args r e

table_none : (as' : List Action) (t : Option Table) (held : Entries) (r : Run) → r.store.headers [] ≡ None → (apply_if as' t held r).run.store.headers [] ≡ None
table_none as' None held r e = e
table_none as' (Some t) held r e = chosen_none as' held.default (choice_of (has_ternary t.keys) held.listed (key_words t.keys r.store)) r e

pub calls_none : (as' : List Action) (ts : List Table) (held : Tables) → CallsKeepNone (calls_in as' ts held)
calls_none as' ts held =
    record {
      actions = λ x es r e. action_none (action_named as' x) (args_of (params_of (action_named as' x)) es r.store) r e;
      tables = λ x r e. table_none as' (table_named ts x) (held x) r e;
    }
