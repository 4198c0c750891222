-- Rewritten code does what the code does with the length without telemetry, whatever calls do, if these keep to the
-- same: one law for a program's own code and for the monitor's.
use Rattle.std.specs.Prelude.{take, nat_eq}
use Rattle.std.proofs.Common.{◌≡◌, ℕ, List, [], ◌∷◌, ◌++◌, map, Bool, true, false, not, cond, Option, Some, None, refl, sym, ap, ap₂, ◌∙◌, subst}
use Rattle.bit_values.specs.Bits.{Word, word}
use Rattle.bit_values.specs.Widths.{holds, sound_width, cast_word}
use Rattle.lex_text.specs.Names.{same_path, parent}
use Rattle.p4_tree.specs.Tree.{Expr, path, Stmt, Stmts, MaybeStmt, nothing, block, var, assign, choice, return_, exit_, call, done, next, without, otherwise}
use Rattle.p4_meaning.specs.Standard.{metadata_root, standard_root, packet_length, egress_spec, checksum_error, is_assignable}
use Rattle.p4_meaning.specs.Store.{zero_of, set_value, set_valid, zeroed, made, written, write}
use Rattle.p4_meaning.specs.Value.{value_of}
use Rattle.p4_meaning.specs.Checksum.{list_checksum}
use Rattle.p4_meaning.specs.Statements.{Flow, Go, Return, Exit, Digest, Run, Ended, after, in_store, Act, makes, drops, reads, writes, tells, sums, runs, applies, idle, act_of, cell_at, cell_set, put_cells, index_of, assigned, verified, updated, summed, Tested, Calls, no_calls, done_by, application, tested_by, tested, meaning_of_stmt, meaning_of_else, meaning_of}
use Rattle.packet_lengths.specs.Lengths.{length_path, plain_path, plain_expr, plain_stmt, plain_else, plain_stmts, is_no_length, is_no_root, KeepsAct, KeepsLength, KeepsElse, KeepLength, Lengths, Ends, EndsTest, AreLengthCalls}
use Rattle.packet_lengths.proofs.PlainActs.{plain_act, plain_acts, plain_application}
use Rattle.packet_lengths.proofs.Values.{none_left, none_right, flipped, no_packet_length, no_kept_length, plain_other, single_none, value_same, values_same, index_same, sum_same, start_same}

module _ (n : Word) where
  -- the same word is put at a path that is neither length
  pub set_lengths : (a b : Run) (p : List (List ℕ)) (v w : Word) → is_no_length p ≡ true → w ≡ v → Lengths n a b → Lengths n (in_store a (set_value a.store p v)) (in_store b (set_value b.store p w))
  set_lengths a b p v w o e h =
      let no_packet = flipped packet_length p (no_packet_length p o) in
      let no_kept = flipped length_path p (no_kept_length p o) in
      record {
        values = λ q i. ap₂ (cond (same_path p q)) e (h.values q i);
        here = ap (λ t. cond t w (b.store.values packet_length)) no_packet ∙ h.here;
        long = ap (λ t. cond t w (b.store.values length_path)) no_kept ∙ h.long ∙ sym (ap (λ t. cond t v (a.store.values packet_length)) no_packet);
        headers = h.headers;
        cells = h.cells;
        digests = h.digests;
        standard = h.standard;
        meta = h.meta;
      }

  written_lengths : (o : Option Bool) (a b : Run) (p : List (List ℕ)) (v w : Word) → is_no_length p ≡ true → w ≡ v → Lengths n a b → Lengths n (in_store a (written o a.store p v)) (in_store b (written o b.store p w))
  written_lengths None a b p v w o e h = set_lengths a b p v w o e h
  written_lengths (Some true) a b p v w o e h = set_lengths a b p v w o e h
  written_lengths (Some false) a b p v w o e h = h

  write_lengths : (a b : Run) (p : List (List ℕ)) (v w : Word) → is_no_length p ≡ true → w ≡ v → Lengths n a b → Lengths n (in_store a (write a.store p v)) (in_store b (write b.store p w))
  write_lengths a b p v w o e h =
      subst (λ u. Lengths n (in_store a (write a.store p v)) (in_store b (written u b.store p w))) (sym (ap (λ g. g (parent p)) h.headers)) (written_lengths (a.store.headers (parent p)) a b p v w o e h)

  -- a statement's write, cast to the path's own width
  assigned_lengths : (a b : Run) (p : List (List ℕ)) (v w : Word) → is_no_length p ≡ true → w ≡ v → Lengths n a b → Lengths n (in_store a (assigned a.store p v)) (in_store b (assigned b.store p w))
  assigned_lengths a b p v w o e h = go (is_assignable p)
    where
      here : Lengths n (in_store a (write a.store p (cast_word (sound_width (a.store.values p).width) v))) (in_store b (write b.store p (cast_word (sound_width (b.store.values p).width) w)))
      here = write_lengths a b p _ _ o (ap₂ (λ (x : Word) u. cast_word (sound_width x.width) u) (h.values p (no_packet_length p o)) e) h

      go : (t : Bool) → Lengths n (in_store a (cond t (write a.store p (cast_word (sound_width (a.store.values p).width) v)) a.store)) (in_store b (cond t (write b.store p (cast_word (sound_width (b.store.values p).width) w)) b.store))
      go true = here
      go false = h

  -- a header is made valid or invalid
  valid_lengths : (a b : Run) (q : List (List ℕ)) (t : Bool) → is_no_root q ≡ true → Lengths n a b → Lengths n (in_store a (set_valid a.store q t)) (in_store b (set_valid b.store q t))
  valid_lengths a b q t o h =
      let no_standard = flipped (standard_root ∷ []) q (none_left (same_path (standard_root ∷ []) q) (same_path (metadata_root ∷ []) q) o) in
      let no_meta = flipped (metadata_root ∷ []) q (none_right (same_path (standard_root ∷ []) q) (same_path (metadata_root ∷ []) q) o) in
      let turned : (List (List ℕ) → Option Bool) → List (List ℕ) → Option Bool = λ g p. cond (same_path q p) (Some t) (g p) in
      record {
        values = λ p i. h.values p i;
        here = h.here;
        long = h.long;
        headers = ap turned h.headers;
        cells = h.cells;
        digests = h.digests;
        standard = ap (λ b. cond b (Some t) (a.store.headers (standard_root ∷ []))) no_standard ∙ h.standard;
        meta = ap (λ b. cond b (Some t) (a.store.headers (metadata_root ∷ []))) no_meta ∙ h.meta;
      }

  -- the fields of a header become 0
  zeroed_lengths : (a b : Run) (q : List (List ℕ)) → is_no_root q ≡ true → Lengths n a b → Lengths n (in_store a (zeroed a.store q)) (in_store b (zeroed b.store q))
  zeroed_lengths a b q o h =
      let no_standard = flipped (standard_root ∷ []) q (none_left (same_path (standard_root ∷ []) q) (same_path (metadata_root ∷ []) q) o) in
      let no_meta = flipped (metadata_root ∷ []) q (none_right (same_path (standard_root ∷ []) q) (same_path (metadata_root ∷ []) q) o) in
      record {
        values = λ p i. ap (λ w. cond (same_path q (parent p)) (zero_of w) w) (h.values p i);
        here = ap (λ t. cond t (zero_of (b.store.values packet_length)) (b.store.values packet_length)) no_standard ∙ h.here;
        long = ap (λ t. cond t (zero_of (b.store.values length_path)) (b.store.values length_path)) no_meta ∙ h.long ∙ sym (ap (λ t. cond t (zero_of (a.store.values packet_length)) (a.store.values packet_length)) no_standard);
        headers = h.headers;
        cells = h.cells;
        digests = h.digests;
        standard = h.standard;
        meta = h.meta;
      }

  -- setValid and setInvalid
  made_lengths : (v : Option Bool) (a b : Run) (q : List (List ℕ)) (t : Bool) → is_no_root q ≡ true → Lengths n a b → Lengths n (in_store a (made v t a.store q)) (in_store b (made v t b.store q))
  made_lengths None a b q t o h = h
  made_lengths (Some true) a b q true o h = h
  made_lengths (Some true) a b q false o h = valid_lengths a b q false o h
  made_lengths (Some false) a b q true o h = valid_lengths (in_store a (zeroed a.store q)) (in_store b (zeroed b.store q)) q true o (zeroed_lengths a b q o h)
  made_lengths (Some false) a b q false o h = h

  -- a checksum that is verified, and one that is written
  verified_lengths : (a b : Run) (es : List Expr) (f : List (List ℕ)) → Lengths n a b → Lengths n (in_store a (verified es f a.store)) (in_store b (verified (map plain_expr es) (plain_path f) b.store))
  verified_lengths a b es f h =
      subst (λ t. Lengths n (in_store a (verified es f a.store)) (in_store b (cond t b.store (set_value b.store checksum_error (word 1 1))))) (sym same) (go (nat_eq (value_of (path 0 f) 16 a.store).value (list_checksum es a.store)))
    where
      same : nat_eq (value_of (path 0 (plain_path f)) 16 b.store).value (list_checksum (map plain_expr es) b.store) ≡ nat_eq (value_of (path 0 f) 16 a.store).value (list_checksum es a.store)
      same = ap₂ (λ (w : Word) k. nat_eq w.value k) (value_same n a b (path 0 f) 16 h) (sum_same n a b es h)

      go : (t : Bool) → Lengths n (in_store a (cond t a.store (set_value a.store checksum_error (word 1 1)))) (in_store b (cond t b.store (set_value b.store checksum_error (word 1 1))))
      go true = h
      go false = set_lengths a b checksum_error (word 1 1) (word 1 1) refl refl h

  summed_lengths : (v : Bool) (a b : Run) (es : List Expr) (f : List (List ℕ)) → is_no_length f ≡ true → Lengths n a b → Lengths n (in_store a (summed v es f a.store)) (in_store b (summed v (map plain_expr es) (plain_path f) b.store))
  summed_lengths true a b es f o h = verified_lengths a b es f h
  summed_lengths false a b es f o h =
      subst (λ q. Lengths n (in_store a (updated es f a.store)) (in_store b (updated (map plain_expr es) q b.store))) (sym (plain_other f o))
      (assigned_lengths a b f _ _ o (ap (word 16) (sum_same n a b es h)) h)

  -- ---- ends

  pub ends_go : (a b : Run) → Lengths n a b → Ends n (a, Go) (b, Go)
  ends_go a b h = record { same = h; flow = refl }

  -- what is done where a test holds
  ends_where : (s t : Bool) (x y x' y' : Run) → t ≡ s → Lengths n x x' → Lengths n y y' → Ends n (cond s x y, Go) (cond t x' y', Go)
  ends_where true true x y x' y' e h k = ends_go x x' h
  ends_where false false x y x' y' e h k = ends_go y y' k
  ends_where true false x y x' y' e h k = absurd (cc)
  ends_where false true x y x' y' e h k = absurd (cc)

  -- one thing and then another
  ends_after : (x y : Ended) (f g : Run → Ended) → Ends n x y → ((r q : Run) → Lengths n r q → Ends n (f r) (g q)) → Ends n (after x.1 x.0 f) (after y.1 y.0 g)
  ends_after x y f g h k =
      let go : (l : Flow) → Ends n (after l x.0 f) (after l y.0 g) = λ l. elim l as (λ l. Ends n (after l x.0 f) (after l y.0 g)) [ Go ↦ k x.0 y.0 h.same | Return ↦ record { same = h.same; flow = refl } | Exit ↦ record { same = h.same; flow = refl } ] in
      subst (λ l. Ends n (after x.1 x.0 f) (after l y.0 g)) (sym h.flow) (go x.1)

  -- a test, and what is done by its outcome
  ends_test : (x y : Tested) (f g : Bool → Run → Ended) → EndsTest n x y → ((t : Bool) (r q : Run) → Lengths n r q → Ends n (f t r) (g t q)) → Ends n (after x.flow x.run (f x.hit)) (after y.flow y.run (g y.hit))
  ends_test x y f g h k =
      subst (λ t. Ends n (after x.flow x.run (f x.hit)) (after y.flow y.run (g t))) (sym h.hit)
      (ends_after (x.run, x.flow) (y.run, y.flow) (f x.hit) (g x.hit) (record { same = h.same; flow = h.flow }) (k x.hit))

  -- nothing is called
  pub no_length_calls : AreLengthCalls n no_calls no_calls
  no_length_calls = record { actions = λ x es a b h. ends_go a b h; tables = λ x a b h. record { same = h; flow = refl; hit = refl } }

  module _ (c d : Calls) (calls : AreLengthCalls n c d) where
    -- a call
    pub act_ends : (k : Act) (a b : Run) → KeepsAct k → Lengths n a b → Ends n (done_by c k a) (done_by d (plain_act k) b)
    act_ends (makes q t) a b o h =
        ends_go _ _ (subst (λ v. Lengths n (in_store a (made (a.store.headers q) t a.store q)) (in_store b (made v t b.store q))) (sym (ap (λ g. g q) h.headers)) (made_lengths (a.store.headers q) a b q t o h))
    act_ends drops a b o h = ends_go _ _ (write_lengths a b egress_spec (word 9 511) (word 9 511) refl refl h)
    act_ends (reads x t i) a b o h =
        let cell = ap₂ cell_at (ap (λ g. g x) h.cells) (index_same n a b i h) in
        subst (λ q. Ends n (done_by c (reads x t i) a) (done_by d (reads x q (plain_expr i)) b)) (sym (plain_other t o)) (ends_go _ _ (assigned_lengths a b t _ _ o cell h))
    act_ends (writes x i v) a b o h =
        let old = ap (λ g. g x) h.cells in
        let at = index_same n a b i h in
        let m = (cell_at (a.cells x) (index_of i a.store)).width in
        let width = ap₂ (λ (cells : List Word) (k : ℕ). (cell_at cells k).width) old at in
        let new = ap (λ k. value_of (plain_expr v) k b.store) width ∙ value_same n a b v m h in
        let put = ap₂ (λ (cells : List Word) (k : ℕ). cell_set cells k (value_of (plain_expr v) (cell_at (b.cells x) (index_of (plain_expr i) b.store)).width b.store)) old at ∙ ap (cell_set (a.cells x) (index_of i a.store)) new in
        let all : Lengths n (done_by c (writes x i v) a).0 (done_by d (writes x (plain_expr i) (plain_expr v)) b).0 =
        record {
          values = λ p j. h.values p j;
          here = h.here;
          long = h.long;
          headers = h.headers;
          cells = ap₂ (λ (g : List ℕ → List Word) (l : List Word). put_cells g x l) h.cells put;
          digests = h.digests;
          standard = h.standard;
          meta = h.meta;
        } in
        record { same = all; flow = refl }
    act_ends (tells m es) a b o h =
        let all : Lengths n (done_by c (tells m es) a).0 (done_by d (tells m (map plain_expr es)) b).0 =
        record {
          values = λ p j. h.values p j;
          here = h.here;
          long = h.long;
          headers = h.headers;
          cells = h.cells;
          digests = ap₂ (λ (ds : List Digest) (ws : List Word). ds ++ record { receiver = m; values = take 9 ws } ∷ []) h.digests (values_same n a b es h);
          standard = h.standard;
          meta = h.meta;
        } in
        record { same = all; flow = refl }
    act_ends (sums v e es f) a b o h =
        ends_where (holds (value_of e 1 a.store)) (holds (value_of (plain_expr e) 1 b.store)) (in_store a (summed v es f a.store)) a (in_store b (summed v (map plain_expr es) (plain_path f) b.store)) b
        (ap holds (value_same n a b e 1 h)) (summed_lengths v a b es f o h) h
    act_ends (runs x es) a b o h = calls.actions x es a b h
    act_ends (applies x) a b o h = let t = calls.tables x a b h in record { same = t.same; flow = t.flow }
    act_ends idle a b o h = ends_go a b h

    -- a test
    tested_ends : (t : Option (List ℕ × Bool)) (e : Expr) (a b : Run) → Lengths n a b → EndsTest n (tested_by c t e a) (tested_by d t (plain_expr e) b)
    tested_ends None e a b h = record { same = h; flow = refl; hit = ap holds (value_same n a b e 1 h) }
    tested_ends (Some t) e a b h =
        let r = calls.tables t.0 a b h in
        record { same = r.same; flow = r.flow; hit = ap (λ x. cond t.1 x (not x)) r.hit }

    pub test_ends : (e : Expr) (a b : Run) → Lengths n a b → EndsTest n (tested c e a) (tested d (plain_expr e) b)
    test_ends e a b h = subst (λ t. EndsTest n (tested c e a) (tested_by d t (plain_expr e) b)) (sym (plain_application e)) (tested_ends (application e) e a b h)

    mutual
      -- a statement, what an `else` holds, and a list of statements
      stmt_ends : (s : Stmt) (a b : Run) → KeepsLength s → Lengths n a b → Ends n (meaning_of_stmt c s a) (meaning_of_stmt d (plain_stmt s) b)
      stmt_ends (nothing p) a b o h = ends_go a b h
      stmt_ends (block p ss) a b o h = all_ends ss a b o h
      stmt_ends (var p ty x e) a b o h = ends_go _ _ (set_lengths a b (x ∷ []) _ _ (single_none x) (start_same n a b e ty h) h)
      stmt_ends (assign p target e) a b o h =
          let width = ap (λ (w : Word). w.width) (h.values target (no_packet_length target o)) in
          ends_go _ _ (assigned_lengths a b target _ _ o (ap (λ k. value_of (plain_expr e) k b.store) width ∙ value_same n a b e (a.store.values target).width h) h)
      stmt_ends (choice p e s t) a b o h =
          ends_test (tested c e a) (tested d (plain_expr e) b) (λ i q. cond i (meaning_of_stmt c s q) (meaning_of_else c t q)) (λ i q. cond i (meaning_of_stmt d (plain_stmt s) q) (meaning_of_else d (plain_else t) q))
          (test_ends e a b h) (λ i r q k. chosen i r q k (λ r q k. stmt_ends s r q o.0 k) (λ r q k. else_ends t r q o.1 k))
        where
          chosen : (i : Bool) (r q : Run) → Lengths n r q → ((r q : Run) → Lengths n r q → Ends n (meaning_of_stmt c s r) (meaning_of_stmt d (plain_stmt s) q)) → ((r q : Run) → Lengths n r q → Ends n (meaning_of_else c t r) (meaning_of_else d (plain_else t) q)) → Ends n (cond i (meaning_of_stmt c s r) (meaning_of_else c t r)) (cond i (meaning_of_stmt d (plain_stmt s) q) (meaning_of_else d (plain_else t) q))
          chosen true r q k f g = f r q k
          chosen false r q k f g = g r q k
      stmt_ends (return_ p) a b o h = record { same = h; flow = refl }
      stmt_ends (exit_ p) a b o h = record { same = h; flow = refl }
      stmt_ends (call p callee args) a b o h =
          subst (λ k. Ends n (done_by c (act_of callee args) a) (done_by d k b)) (sym (plain_acts callee args)) (act_ends (act_of callee args) a b o h)

      else_ends : (s : MaybeStmt) (a b : Run) → KeepsElse s → Lengths n a b → Ends n (meaning_of_else c s a) (meaning_of_else d (plain_else s) b)
      else_ends without a b o h = ends_go a b h
      else_ends (otherwise s) a b o h = stmt_ends s a b o h

      pub all_ends : (ss : Stmts) (a b : Run) → KeepLength ss → Lengths n a b → Ends n (meaning_of c ss a) (meaning_of d (plain_stmts ss) b)
      all_ends done a b o h = ends_go a b h
      all_ends (next s ss) a b o h =
          ends_after (meaning_of_stmt c s a) (meaning_of_stmt d (plain_stmt s) b) (meaning_of c ss) (meaning_of d (plain_stmts ss)) (stmt_ends s a b o.0 h) (λ r q k. all_ends ss r q o.1 k)
