-- A sensor, or a cell of an array, is read into a variable.
use Rattle.std.proofs.Common.{◌≡◌, ℕ, ◌≤◌, ◌<◌, ◌^◌, List, [], ◌∷◌, map, length, get_or, Bool, true, false, cond, ◌&&◌, None, refl, sym, ap, ap₂, ◌∙◌, subst, All, pow_pos, nat_eq, nat_lt}
use Rattle.std.specs.Prelude.{slice_get}
use Rattle.std.proofs.lemmas.Bool.{ltb-true, ltb-false, eqb-true}
use Rattle.std.proofs.lemmas.List.Elements.{All-get_or}
use Rattle.bit_values.specs.Bits.{Word, word, cast as cast_number}
use Rattle.bit_values.specs.Widths.{either_width, sound_width, cast_word}
use Rattle.bit_values.proofs.BitsLemmas.{cast_of_small}
use Rattle.lex_text.specs.Names.{same_text}
use Rattle.p4_tree.specs.Tree as p4
use Rattle.p4_tree.specs.Tree.{Stmts, done, next}
use Rattle.p4_tree.specs.declared.statement.Op.TheVariants as p4o
use Rattle.p4_meaning.specs.Store.{read, shown, set_value}
use Rattle.p4_meaning.specs.Value as p4v
use Rattle.p4_meaning.specs.Statements.{Go, Run, in_store, cell_at, index_of, Calls, meaning_of_stmt, meaning_of}
use Rattle.network_run.specs.PathMeaning.{Doing}
use Rattle.indus_tree.specs.Tree.{Expr, none, more, Decl}
use Rattle.indus_tree.specs.State.{Held, shape_width, nothing_of}
use Rattle.indus_tree.specs.Start.{start_word}
use Rattle.indus_tree.specs.Reads.{Seen, or_word}
use Rattle.indus_tree.specs.Shapes.{HasWidth}
use Rattle.indus_tree.specs.Meaning.{seen_by}
use Rattle.indus_tree.specs.Value.{value_of}
use Rattle.sensor_registers.specs.Registers.{cell_value}
use Rattle.sensor_registers.proofs.Cells.{twice}
use Rattle.monitor_laws.specs.Trees.{number, only_if}
use Rattle.monitor_laws.proofs.Frames.{open_by, written_open}
use Rattle.lookup_names.specs.Names.{found_name, key_name}
use Rattle.lookup_names.specs.Keys.{variable}
use Rattle.lowered_code.specs.Names.{sensor_name}
use Rattle.lowered_code.specs.Expressions.{lowered, as_index}
use Rattle.lowered_code.specs.Reads.{clear, take_cell, turned, turn, take_sensor, read_array}
use Rattle.lowered_code.specs.Statements.{Var}
use Rattle.lowered_code.specs.Suiting.{IsIndex, Suits}
use Rattle.lowered_code.specs.Standing.{Setting, environment, Begins, Ends}
use Rattle.lowered_code.specs.Lookups.{Scratch}
use Rattle.lowered_code.proofs.Steps.{ends_with, ends_some, step, nothing_more, alone, sets, sets_then, value_in, run_with, chosen}
use Rattle.lowered_code.proofs.Widths.{cast_kept, either_same}
use Rattle.lowered_code.proofs.Scratch.{reads_back, scratch_same, scratch_then, scratch_found, scratch_key}
use Rattle.lowered_code.proofs.Values.{Covers}
use Rattle.lowered_code.proofs.Sight.{plain_now, words_now, Known, same_now}
use Rattle.lowered_code.proofs.Cells.{index_number, low_index, index_is, below_is, start_has, cell_has, cell_of_zero, turned_is, cell_there, array_there, array_past}
use Rattle.lowered_code.proofs.Keys.{IsNew, scratch_known}

-- from q to r the word was read into the variable of a number
pub record ReadInto (vars : List Var) (n : ℕ) (w : Word) (q r : Run) : Type 0 where
  pub scratch : Scratch vars n q r
  pub found : r.store.values (found_name n ∷ []) ≡ w

-- 0 was, and other variables stayed
pub record Cleared (vars : List Var) (n w : ℕ) (q r : Run) : Type 0 where
  pub into : ReadInto vars n (word w 0) q r
  pub others : (x : List ℕ) → same_text (found_name n) x ≡ false → r.store.values (x ∷ []) ≡ q.store.values (x ∷ [])

module _ (calls : Calls) (vars : List Var) (n : ℕ) where
  -- ---- the variable is 0

  zero_word : (w u : ℕ) → u ≡ sound_width w → sound_width w ≡ w → cast_word (sound_width u) (word (sound_width (either_width w u)) (cast_number (sound_width (either_width w u)) 0)) ≡ word w 0
  zero_word w u is k =
      ap (λ m. word (sound_width u) (cast_number (sound_width u) m)) (cast_of_small (sound_width (either_width w u)) 0 (pow_pos (sound_width (either_width w u))))
      ∙ ap (word (sound_width u)) (cast_of_small (sound_width u) 0 (pow_pos (sound_width u)))
      ∙ ap (λ m. word (sound_width m) 0) (is ∙ k) ∙ ap (λ m. word m 0) k

  pub clears : (w : ℕ) (q : Run) → q.store.headers [] ≡ None → (q.store.values (found_name n ∷ [])).width ≡ sound_width w → sound_width w ≡ w → Ends (Cleared vars n w q) (meaning_of_stmt calls (clear n w) q)
  clears w q plain wide k =
      let u = value_in calls q (found_name n) (number w 0) in
      sets calls (Cleared vars n w q) q (found_name n) (number w 0) plain
      (record {
        into = record {
          scratch = scratch_found vars n q (p4v.value_of (number w 0) (q.store.values (found_name n ∷ [])).width q.store);
          found = reads_back q.store (found_name n ∷ []) u ∙ zero_word w (q.store.values (found_name n ∷ [])).width wide k;
        };
        others = λ x o. ap (λ t. cond (t && true) u (q.store.values (x ∷ []))) o;
      })

  -- ---- a cell is taken, and then turned

  abbrev run_taken : List ℕ → p4.Expr → Run → Run
  run_taken x i q = in_store q (set_value q.store (found_name n ∷ []) (cast_word (sound_width (q.store.values (found_name n ∷ [])).width) (cell_at (q.cells (sensor_name x)) (index_of i q.store))))

  takes : (x : List ℕ) (i : p4.Expr) (q : Run) → q.store.headers [] ≡ None → Ends (λ r. r ≡ run_taken x i q) (meaning_of_stmt calls (take_cell n x i) q)
  takes x i q plain =
      ends_with (λ r. r ≡ run_taken x i q) _ _ (ap (λ s. (in_store q s, Go)) (written_open (q.store.headers []) q.store (found_name n ∷ []) _ (open_by (q.store.headers []) None plain tt))) (record { run = refl; goes = refl })

  turns : (w : ℕ) (start value : Word) (q : Run) → q.store.headers [] ≡ None → sound_width w ≡ w → HasWidth w start → HasWidth w value → q.store.values (found_name n ∷ []) ≡ cell_value start value → Ends (ReadInto vars n value q) (meaning_of calls (turn n w start.value) q)
  turns w start value q plain k hs hv there = go (nat_eq start.value 0) refl
    where
      has : HasWidth w (cell_value start value)
      has = cell_has w start value hs hv

      shows : read q.store (found_name n ∷ []) ≡ cell_value start value
      shows = ap₂ shown plain there

      back : cast_word (sound_width w) (p4v.value_of (turned start.value w (variable (found_name n))) w q.store) ≡ value
      back =
          turned_is q.store (variable (found_name n)) w start (cell_value start value) (ap (λ (u : Word). either_width u.width w) shows ∙ ap (λ m. either_width m w) (has.width ∙ k) ∙ either_same w) hs has (ap (cast_word (sound_width w)) shows ∙ cast_kept w (cell_value start value) has)
          ∙ twice start value

      go : (b : Bool) → nat_eq start.value 0 ≡ b → Ends (ReadInto vars n value q) (meaning_of calls (cond b done (next (p4.assign 0 (found_name n ∷ []) (turned start.value w (variable (found_name n)))) done)) q)
      go true e = nothing_more calls (ReadInto vars n value q) q (record { scratch = scratch_same vars n q; found = there ∙ cell_of_zero start value (eqb-true start.value 0 e) })
      go false e =
          alone calls (ReadInto vars n value q) (p4.assign 0 (found_name n ∷ []) (turned start.value w (variable (found_name n)))) q
          (sets calls (ReadInto vars n value q) q (found_name n) (turned start.value w (variable (found_name n))) plain
          (record {
            scratch = scratch_found vars n q (p4v.value_of (turned start.value w (variable (found_name n))) (q.store.values (found_name n ∷ [])).width q.store);
            found =
                reads_back q.store (found_name n ∷ []) _
                ∙ ap (λ m. cast_word (sound_width m) (p4v.value_of (turned start.value w (variable (found_name n))) m q.store)) (ap (λ (u : Word). u.width) there ∙ has.width ∙ k)
                ∙ back;
          }))

  -- a cell that is there, as its sensor's value
  pub cell_reads : (c : Decl) (i : p4.Expr) (vs : List Word) (j : ℕ) (z : Word) (q : Run) → q.store.headers [] ≡ None → sound_width (shape_width c.shape) ≡ shape_width c.shape → HasWidth (shape_width c.shape) (get_or vs j z) → j < length vs
      → (q.store.values (found_name n ∷ [])).width ≡ sound_width (shape_width c.shape) → q.cells (sensor_name c.name) ≡ map (cell_value (start_word c.start (shape_width c.shape))) vs → index_of i q.store ≡ j
      → Ends (ReadInto vars n (get_or vs j z) q) (meaning_of calls (take_sensor n c i) q)
  cell_reads c i vs j z q plain k hv lt wide cells at =
      let w = shape_width c.shape in
      let start = start_word c.start w in
      let hs = start_has c.start w in
      let value = get_or vs j z in
      let R : Run → Type 0 = ReadInto vars n value q in
      let cell = cell_value start value in
      let old = q.store.values (found_name n ∷ []) in
      let c1 = cell_at (q.cells (sensor_name c.name)) (index_of i q.store) in
      let q1 = run_taken c.name i q in
      let is : cast_word (sound_width old.width) c1 ≡ cell = ap₂ (λ m u. cast_word (sound_width m) u) (wide ∙ k) (ap₂ cell_at cells at ∙ cell_there start vs j z lt) ∙ cast_kept w cell (cell_has w start value hs hv) in
      step calls (λ r. r ≡ q1) R (take_cell n c.name i) (turn n w start.value) q (takes c.name i q plain)
      (λ r e. subst (λ r. Ends R (meaning_of calls (turn n w start.value) r)) (sym e)
      (ends_some (ReadInto vars n value q1) R _ (λ p h. record { scratch = scratch_then vars n q q1 p (scratch_found vars n q c1) h.scratch; found = h.found })
      (turns w start value q1 plain k hs hv (reads_back q.store (found_name n ∷ []) _ ∙ is))))

-- ---- a cell of an array

module _ (p : Setting) (b : Begins p) (d : Doing Held Held) (base : ℕ) (l : List Expr) (n : ℕ) (new : IsNew base l n) where
  abbrev v : Seen
  v = seen_by p.hop [] d

  abbrev ds : List Decl
  ds = p.hop.decls

  pub array_reads : (c : Decl) (size : ℕ) (vs : List Word) (e : Expr) (q : Run) → Known p b d base l q → Suits p.exits v e → Covers ds l e → IsIndex v e
      → sound_width (shape_width c.shape) ≡ shape_width c.shape → All (HasWidth (shape_width c.shape)) vs → length vs ≡ size → size < 2 ^ 128
      → (q.store.values (found_name n ∷ [])).width ≡ sound_width (shape_width c.shape) → (q.store.values (key_name n 0 ∷ [])).width ≡ 128 → q.cells (sensor_name c.name) ≡ map (cell_value (start_word c.start (shape_width c.shape))) vs
      → Ends (ReadInto p.vars n (or_word (slice_get vs (index_number v e)) (nothing_of (shape_width c.shape))) q) (meaning_of p.calls (read_array (environment p) ds base l n c size (more e none)) q)
  array_reads c size vs e q known suits covers index k all long small wide key cells =
      let w = shape_width c.shape in
      let z = word w 0 in
      let i = index_number v e in
      let R : Run → Type 0 = ReadInto p.vars n (or_word (slice_get vs i) (nothing_of w)) q in
      let x = key_name n 0 in
      let low = lowered (environment p) ds base l e in
      let f = as_index e low in
      let test = p4.binary 0 p4o.Less (variable x) (number 128 size) in
      let inner = take_sensor n c (variable x) in
      let word_now = words_now p b d q known.stands e 128 in
      let i_low = low_index (value_of v e 128) word_now in
      step p.calls (Cleared p.vars n w q) R (clear n w) (next (p4.assign 0 (x ∷ []) f) (next (only_if test inner) done)) q
      (clears p.calls p.vars n w q (plain_now p b d q known.stands) wide k)
      (λ q1 g.
      (let known1 = scratch_known p b d base l n new q q1 g.into.scratch known in
      let here1 = plain_now p b d q1 known1.stands in
      let old = q1.store.values (x ∷ []) in
      let q2 = run_with p.calls q1 x f in
      let two = scratch_key p.vars n n 0 q1 (p4v.value_of f old.width q1.store) in
      let key1 : old.width ≡ 128 = ap (λ (u : Word). u.width) (g.others x refl) ∙ key in
      let is : value_in p.calls q1 x f ≡ word 128 i =
      ap (λ m. cast_word (sound_width m) (p4v.value_of f m q1.store)) key1
      ∙ index_is q1.store v low e (same_now p b d base l q1 known1 e suits covers) index word_now in
      let there : read q2.store (x ∷ []) ≡ word 128 i = ap₂ shown here1 (reads_back q1.store (x ∷ []) _ ∙ is) in
      let back : ReadInto p.vars n z q q2 = record { scratch = scratch_then p.vars n q q1 q2 g.into.scratch two; found = g.into.found } in
      sets_then p.calls R q1 x f (next (only_if test inner) done) here1
      (alone p.calls R (only_if test inner) q2
      (chosen p.calls R test inner q2 (nat_lt i size) (below_is q2.store x i size i_low small there) refl
      (λ t.
      (let lt : i < length vs = subst (λ m. i < m) (sym long) (ltb-true i size t) in
      ends_some (ReadInto p.vars n (get_or vs i z) q2) R _
      (λ r j. record { scratch = scratch_then p.vars n q q2 r back.scratch j.scratch; found = j.found ∙ sym (array_there vs i w z lt) })
      (cell_reads p.calls p.vars n c (variable x) vs i z q2 here1 k (All-get_or (HasWidth w) vs i z lt all) lt (ap (λ (u : Word). u.width) back.found ∙ sym k) (ap (λ g. g (sensor_name c.name)) back.scratch.cells ∙ cells) (ap (λ (u : Word). u.value) there))))
      (λ t. record { scratch = back.scratch; found = back.found ∙ ap (λ m. word m 0) (sym k) ∙ sym (array_past vs i w (subst (λ m. m ≤ i) (sym long) (ltb-false i size t))) })))))
