-- A block's code leads from a run that stands for a state to one that stands for what the block does to the state.
use Rattle.std.proofs.Common.{◌≡◌, codes, ℕ, ◌+◌, ◌≤◌, ◌<◌, ◌^◌, List, [], ◌∷◌, ◌++◌, map, length, take, Bool, true, false, cond, Option, Some, None, refl, sym, ap, ap₂, ◌∙◌, subst, All, arith}
use Rattle.std.proofs.lemmas.List.{take_all}
use Rattle.std.proofs.lemmas.List.Elements.{All-get_or, All-head}
use Rattle.bit_values.specs.Bits.{Word, word}
use Rattle.bit_values.specs.Widths.{bit, holds, either_width, sound_width, cast_word}
use Rattle.bit_values.proofs.BitsLemmas.{cast_of_small}
use Rattle.p4_tree.specs.Tree as p4
use Rattle.p4_tree.specs.Tree.{Stmt, Stmts, MaybeStmt, done, next, and_then}
use Rattle.p4_meaning.specs.Store.{set_value}
use Rattle.p4_meaning.specs.Value as p4v
use Rattle.p4_meaning.specs.Statements.{Go, Run, Ended, after, in_store, cell_at, cell_set, put_cells, index_of, tested_by, Calls, meaning_of_stmt, meaning_of_else, meaning_of}
use Rattle.network_run.specs.PathMeaning.{Doing, Report}
use Rattle.indus_tree.specs.Tree as indus
use Rattle.indus_tree.specs.Tree.{Expr, Exprs, none, more, exprs_count, Shape, one, list, set, dict, Decl}
use Rattle.indus_tree.specs.State.{Held, lookup, held_width, shape_width, width_of, put_cell, set_by_kind, set_cell}
use Rattle.indus_tree.specs.Start.{start_word}
use Rattle.indus_tree.specs.Reads.{Seen, scalar}
use Rattle.indus_tree.specs.Shapes.{HasWidth, AreShaped, IsTeleCount}
use Rattle.indus_tree.specs.Meaning.{seen_by, value_for, index_for, stmt_run, block_run, reported}
use Rattle.indus_tree.specs.Value.{value_of, values_of}
use Rattle.indus_tree.specs.declared.tree.DeclKind.{DeclKind}
use Rattle.indus_tree.specs.declared.tree.DeclKind.TheVariants.{Tele, Sensor, Header, Control}
use Rattle.indus_tree.proofs.ShapesLemmas.{block_keeps}
use Rattle.sensor_registers.specs.Registers.{cell_value}
use Rattle.linkage.specs.Linkage.{report_receiver}
use Rattle.monitor_laws.specs.Names.{tele_header, rejected_name}
use Rattle.monitor_laws.specs.Trees.{number}
use Rattle.monitor_laws.proofs.Frames.{open_by, assignment}
use Rattle.lowered_code.specs.Names.{sensor_name}
use Rattle.lowered_code.specs.Environment.{tele_path}
use Rattle.lowered_code.specs.Expressions.{value_type, to_bits, lowered, lowered_all}
use Rattle.lowered_code.specs.Reads.{turned, reads, reads_stmts}
use Rattle.lowered_code.specs.Statements.{put_sensor, set_kind, set_name, set_array, tell, maybe_else, stmt_reads, stmt_end, block_end, stmt_code, block_code, numbered_reads, stmt_numbers, block_numbers}
use Rattle.lowered_code.specs.Suiting.{IsScalar, IsSound, IsOfType, Suits, AllSuit, KindSuits, TargetSuits, ArraySuits, StmtSuits, BlockSuits}
use Rattle.lowered_code.specs.Standing.{Setting, environment, Begins, Stands, Ends}
use Rattle.lowered_code.specs.Lookups.{AreServed}
use Rattle.lowered_code.proofs.Widths.{cast_has, value_at_own, value_width}
use Rattle.lowered_code.proofs.Steps.{ends_with, steps, nothing_more, alone, sets}
use Rattle.lowered_code.proofs.Values.{Covers, AllCovered}
use Rattle.lowered_code.proofs.Sight.{plain_now, valid_now, Known, same_now}
use Rattle.lowered_code.proofs.Cells.{taken, bits_are, bits_own, start_has, turned_is, cell_there}
use Rattle.lowered_code.proofs.LookupReads.{lookup_name}
use Rattle.lowered_code.proofs.Served.{served_left, served_right}
use Rattle.lowered_code.proofs.Turns.{InTurn, GoesOn, goes_then, covers_on, expr_reads, exprs_read}
use Rattle.lowered_code.proofs.Reading.{reads_run}
use Rattle.lowered_code.proofs.Writes.{cells_put, tele_stands, sensor_stands, rejected_stands, told_stands}
use Rattle.lowered_code.proofs.Rising.{block_rises}
use Rattle.lowered_code.proofs.Tests.{applies_none, else_runs}

count_one : (s : Shape) → IsScalar s → (n : ℕ) → IsTeleCount s n → n ≡ 1
count_one (one t) i n k = k
count_one (list t m) i n k = absurd i
count_one (set ts) i n k = absurd i
count_one (dict ts t) i n k = absurd i

first_has : (ws : List Word) (w n : ℕ) → length ws ≡ 1 → All (HasWidth w) ws → HasWidth w (scalar ws n)
first_has [] w n e all = absurd (omega (arith, e))
first_has (x ∷ ws) w n e all = All-head (HasWidth w) x ws all

values_long : (v : Seen) (es : Exprs) → length (values_of v es) ≡ exprs_count es
values_long v none = refl
values_long v (more e es) = let n = values_long v es in omega (arith, n)

-- what an `if` does
abbrev if_does : Calls → Option (List ℕ × Bool) → p4.Expr → Stmt → MaybeStmt → Run → Ended
if_does calls t e x y r = (let i = tested_by calls t e r in after i.flow i.run (λ q. cond i.hit (meaning_of_stmt calls x q) (meaning_of_else calls y q)))

module _ (p : Setting) (b : Begins p) where
  abbrev ds : List Decl
  ds = p.hop.decls

  -- behind statements a run stands for a state
  abbrev pub Reaches : Doing Held Held → Ended → Type 0
  Reaches d e = Ends (λ r. Stands p r d) e

  type_sound : (x : List ℕ) (c : Decl) → lookup ds x ≡ Some c → IsSound (value_type c.shape)
  type_sound x c is = ap sound_width (value_width c.shape) ∙ b.hop.sound x c is ∙ sym (value_width c.shape)

  -- ---- behind the reads of a statement

  module _ (d : Doing Held Held) (n : ℕ) (l : List Expr) (r : Run) (k : Known p b d n l r) where
    abbrev v : Seen
    v = seen_by p.hop [] d

    set_is : (x : List ℕ) (c : Decl) (z : DeclKind) (e : Expr) (m : ℕ) → lookup ds x ≡ Some c → c.kind ≡ z → set_cell (lookup ds x) x m (value_for p.hop [] d x e) d ≡ set_by_kind z x m (taken v (value_type c.shape) e) d
    set_is x c z e m is kind =
        ap (λ o. set_cell o x m (cast_word (sound_width (held_width o)) (value_of v e (held_width o))) d) is
        ∙ ap₂ (λ z w. set_by_kind z x m (cast_word (sound_width w) (value_of v e w)) d) kind (sym (value_width c.shape))

    -- a variable of the packet
    sets_tele : (i : ℕ) (x : List ℕ) (c : Decl) (e : Expr) → lookup ds x ≡ Some c → c.kind ≡ Tele → IsScalar c.shape → IsOfType v (value_type c.shape) e → Suits p.exits v e → Covers ds l e → Reaches (stmt_run p.hop [] (indus.assign i x e) d) (meaning_of p.calls (set_kind (environment p) Tele c x (lowered (environment p) ds n l e)) r)
    sets_tele i x c e is kind scalar_shape of suits covers =
        let t = value_type c.shape in
        let f = lowered (environment p) ds n l e in
        let g = to_bits t f in
        let path = tele_path (environment p) x in
        let u = r.store.values path in
        let kept = k.stands.shaped.tele x c is kind in
        let long = count_one c.shape scalar_shape (length (d.tele x)) kept.count in
        let wide : u.width ≡ sound_width (width_of t) = ap (λ (w : Word). w.width) (k.stands.tele x c is kind) ∙ (first_has (d.tele x) (shape_width c.shape) (shape_width c.shape) long kept.words).width ∙ ap sound_width (sym (value_width c.shape)) in
        let value = p4v.value_of g u.width r.store in
        let w = cast_word (sound_width u.width) value in
        let is_taken : w ≡ taken v t e = bits_are r.store v t f e (same_now p b d n l r k e suits covers) of (type_sound x c is) u.width wide in
        let own : stmt_run p.hop [] (indus.assign i x e) d ≡ set_by_kind Tele x 0 w d = set_is x c Tele e 0 is kind ∙ ap (λ w. set_by_kind Tele x 0 w d) (sym is_taken) in
        let shaped = block_keeps p.hop (indus.next (indus.assign i x e) indus.done) [] d k.stands.shaped in
        let S : Run → Type 0 = λ q. Stands p q (set_by_kind Tele x 0 w d) in
        subst (λ e. Reaches e (meaning_of p.calls (next (p4.assign 0 path g) done) r)) (sym own)
        (alone p.calls S (p4.assign 0 path g) r
        (ends_with S _ _ (assignment p.calls r 0 path g u value refl (open_by (r.store.headers tele_header) (Some true) (valid_now p b d r k.stands) tt) refl refl)
        (record { run = tele_stands p r d k.stands x w value long refl (subst (AreShaped ds) own shaped); goes = refl })))

    -- a cell of a sensor
    puts_sensor : (x : List ℕ) (c : Decl) (i : p4.Expr) (j : ℕ) (e : Expr) → lookup ds x ≡ Some c → c.kind ≡ Sensor → IsOfType v (value_type c.shape) e → Suits p.exits v e → Covers ds l e → index_of i r.store ≡ j → AreShaped ds (set_by_kind Sensor x j (taken v (value_type c.shape) e) d)
        → Reaches (set_by_kind Sensor x j (taken v (value_type c.shape) e) d) (meaning_of p.calls (put_sensor c i (lowered (environment p) ds n l e)) r)
    puts_sensor x c i j e is kind of suits covers at shaped =
        let t = value_type c.shape in
        let f = lowered (environment p) ds n l e in
        let g = to_bits t f in
        let w = shape_width c.shape in
        let z = word w 0 in
        let start = start_word c.start w in
        let vs = d.sensors x in
        let value = taken v t e in
        let sound = b.hop.sound x c is in
        let same = same_now p b d n l r k e suits covers in
        let bits = bits_are r.store v t f e same of (type_sound x c is) w (sym sound ∙ ap sound_width (sym (value_width c.shape))) in
        let own : either_width (p4v.own_width g r.store) w ≡ w = subst (λ w. either_width (p4v.own_width g r.store) w ≡ w) (value_width c.shape) (bits_own r.store v t f e same of (type_sound x c is)) in
        let has : HasWidth w value = subst (λ m. HasWidth m value) (value_width c.shape) (cast_has (width_of t) (value_of v e (width_of t))) in
        let h = turned start.value w g in
        let kept = k.stands.shaped.sensors x c is kind in
        let cells = r.cells (sensor_name c.name) in
        let new_cells = cell_set cells (index_of i r.store) (p4v.value_of h (cell_at cells (index_of i r.store)).width r.store) in
        let put_in : new_cells ≡ map (cell_value start) (put_cell vs j value) =
        ap₂ (λ cs i. cell_set cs i (p4v.value_of h (cell_at cs i).width r.store)) (ap (λ y. r.cells (sensor_name y)) (lookup_name ds x c is) ∙ k.stands.sensors x c is kind) at
        ∙ cells_put start vs j _ value
        (λ inside. ap (λ (c : Word). cast_word (sound_width c.width) (p4v.value_of h c.width r.store)) (cell_there start vs j z inside)
        ∙ ap (λ m. cast_word (sound_width m) (p4v.value_of h m r.store)) ((All-get_or (HasWidth w) vs j z inside kept.words).width ∙ sound)
        ∙ turned_is r.store g w start value own (start_has c.start w) has bits) in
        let S : Run → Type 0 = λ q. Stands p q (set_by_kind Sensor x j value d) in
        let wrote : List ℕ → Ended = λ y. (record r { cells = put_cells r.cells (sensor_name y) new_cells }, Go) in
        alone p.calls S (p4.call 0 (sensor_name c.name ∷ codes "write" ∷ []) (p4.one 0 i ∷ p4.one 0 h ∷ [])) r
        (ends_with S _ (wrote x) (ap wrote (lookup_name ds x c is)) (record { run = sensor_stands p r d k.stands x c j value new_cells is put_in shaped; goes = refl }))

    -- the words of reported values
    told_values : (es : Exprs) → AllSuit p.exits v es → AllCovered ds l es → map (λ e. p4v.value_of e 0 r.store) (lowered_all (environment p) ds n l es) ≡ values_of v es
    told_values none s c = refl
    told_values (more e es) s c = ap₂ (λ (w : Word) (ws : List Word). w ∷ ws) ((same_now p b d n l r k e s.0 c.0).value 0) (told_values es s.1 c.1)

    tells : (i m : ℕ) (es : Exprs) → AllSuit p.exits v es → AllCovered ds l es → m < 2 ^ 16 → exprs_count es ≤ 8 → Reaches (stmt_run p.hop [] (indus.report i m es) d) (meaning_of p.calls (next (tell m (lowered_all (environment p) ds n l es)) done) r)
    tells i m es s c small few =
        let report : Report = record { number = m; values = values_of v es } in
        let S : Run → Type 0 = λ q. Stands p q (reported m (values_of v es) d) in
        let values : take 9 (map (λ e. p4v.value_of e 0 r.store) (number 16 m ∷ lowered_all (environment p) ds n l es)) ≡ word 16 m ∷ values_of v es =
        ap₂ (λ x ws. take 9 (word 16 x ∷ ws)) (cast_of_small 16 m small) (told_values es s c)
        ∙ take_all 9 (word 16 m ∷ values_of v es) (omega (arith, few, values_long v es)) in
        let told : List Word → Ended = λ ws. (record r { digests = r.digests ++ record { receiver = report_receiver; values = ws } ∷ [] }, Go) in
        alone p.calls S (tell m (lowered_all (environment p) ds n l es)) r
        (ends_with S _ (told (word 16 m ∷ values_of v es)) (ap told values) (record { run = told_stands p r d k.stands report; goes = refl }))

    -- ---- a target

    module _ (i : ℕ) (x : List ℕ) (e : Expr) (s : Suits p.exits v e) (covers : Covers ds l e) where
      kind_runs : (z : DeclKind) (c : Decl) → lookup ds x ≡ Some c → c.kind ≡ z → KindSuits p.hop p.exits z c e → Reaches (stmt_run p.hop [] (indus.assign i x e) d) (meaning_of p.calls (set_kind (environment p) z c x (lowered (environment p) ds n l e)) r)
      kind_runs Tele c is z t = sets_tele i x c e is z t.0 (t.1 d k.stands.shaped) s covers
      kind_runs Sensor c is z t =
          let own = set_is x c Sensor e 0 is z in
          let shaped = block_keeps p.hop (indus.next (indus.assign i x e) indus.done) [] d k.stands.shaped in
          subst (λ f. Reaches f (meaning_of p.calls (put_sensor c (number 1 0) (lowered (environment p) ds n l e)) r)) (sym own)
          (puts_sensor x c (number 1 0) 0 e is z (t.1 d k.stands.shaped) s covers refl (subst (AreShaped ds) own shaped))
      kind_runs Header c is z t = absurd t
      kind_runs Control c is z t = absurd t

      target_runs : (o : Option Decl) → lookup ds x ≡ o → TargetSuits p.hop p.exits o e → Reaches (stmt_run p.hop [] (indus.assign i x e) d) (meaning_of p.calls (set_name (environment p) o x (lowered (environment p) ds n l e)) r)
      target_runs None is t = absurd t
      target_runs (Some c) is t = kind_runs c.kind c is refl t

      array_runs : (j : Expr) → Suits p.exits v j → Covers ds l j → (o : Option Decl) → lookup ds x ≡ o → ArraySuits p.hop p.exits o e → Reaches (stmt_run p.hop [] (indus.cell i x j e) d) (meaning_of p.calls (set_array o (lowered (environment p) ds n l j) (lowered (environment p) ds n l e)) r)
      array_runs j sj cj None is t = absurd t
      array_runs j sj cj (Some c) is t =
          let m = index_for p.hop [] d j in
          let own = set_is x c Sensor e m is t.0 in
          let shaped = block_keeps p.hop (indus.next (indus.cell i x j e) indus.done) [] d k.stands.shaped in
          subst (λ f. Reaches f (meaning_of p.calls (put_sensor c (lowered (environment p) ds n l j) (lowered (environment p) ds n l e)) r)) (sym own)
          (puts_sensor x c (lowered (environment p) ds n l j) m e is t.0 (t.1 d k.stands.shaped) s covers
          (ap (λ (u : Word). u.value) ((same_now p b d n l r k j sj cj).value 128 ∙ sym (value_at_own v j 128))) (subst (AreShaped ds) own shaped))

  -- ---- statements

  -- the reads of a statement, and what follows them
  reads_then : (R : Run → Type 0) (n : ℕ) (l : List Expr) (ss : Stmts) (q : Run) (d : Doing Held Held) → Stands p q d → GoesOn p.exits (seen_by p.hop [] d) [] l → n + length l ≤ 2 ^ 64 → AreServed p (numbered_reads ds n l)
      → ((r : Run) → Known p b d n l r → Ends R (meaning_of p.calls ss r)) → Ends R (meaning_of p.calls (and_then (reads_stmts (environment p) ds n [] n l) ss) q)
  reads_then R n l ss q d s g few served then =
      let at : n ≡ n + 0 = omega arith in
      steps p.calls (Known p b d n l) R (reads_stmts (environment p) ds n [] n l) ss q
      (reads_run p b d n [] l n (subst (InTurn p.exits (seen_by p.hop [] d) []) (sym g.is) g.turn) at few served q (record { stands = s; held = λ e i. absurd (cc) })) then

  by_bool : (t : Bool) (x y : Ended) (d e : Doing Held Held) → Reaches d x → Reaches e y → Reaches (cond t d e) (cond t x y)
  by_bool true x y d e i j = i
  by_bool false x y d e i j = j

  mutual
    pub stmt_runs : (s : indus.Stmt) (n : ℕ) → StmtSuits p.hop p.exits s → AreServed p (stmt_numbers ds s n) → stmt_end ds s n ≤ 2 ^ 64 → (q : Run) (d : Doing Held Held) → Stands p q d → Reaches (stmt_run p.hop [] s d) (meaning_of p.calls (stmt_code (environment p) ds s n) q)
    stmt_runs (indus.assign i x e) n t served few q d s =
        let suits = t.0 d s.shaped in
        let g = expr_reads p.exits (seen_by p.hop [] d) e [] suits in
        let l = reads ds e [] in
        reads_then (λ r. Stands p r (stmt_run p.hop [] (indus.assign i x e) d)) n l (set_name (environment p) (lookup ds x) x (lowered (environment p) ds n l e)) q d s g.0 few served
        (λ r k. target_runs d n l r k i x e suits g.1 (lookup ds x) refl t.1)
    stmt_runs (indus.cell i x j e) n t served few q d s =
        let v = seen_by p.hop [] d in
        let suits_j = t.0 d s.shaped in
        let suits_e = t.1 d s.shaped in
        let m = reads ds j [] in
        let l = reads ds e m in
        let first = expr_reads p.exits v j [] suits_j in
        let second = expr_reads p.exits v e m suits_e in
        reads_then (λ r. Stands p r (stmt_run p.hop [] (indus.cell i x j e) d)) n l (set_array (lookup ds x) (lowered (environment p) ds n l j) (lowered (environment p) ds n l e)) q d s (goes_then p.exits v [] m l first.0 second.0) few served
        (λ r k. array_runs d n l r k i x e suits_e second.1 j suits_j (covers_on p.exits v m l j second.0 first.1) (lookup ds x) refl t.2)
    stmt_runs (indus.push i x e) n t served few q d s = absurd t
    stmt_runs (indus.choice i e x y) n t served few q d s =
        let v = seen_by p.hop [] d in
        let suits = t.0 d s.shaped in
        let g = expr_reads p.exits v e [] suits in
        let l = reads ds e [] in
        let m1 = n + length l in
        let m2 = block_end ds x m1 in
        let up = block_rises ds x m1 in
        let up2 = block_rises ds y m2 in
        let own = numbered_reads ds n l in
        let one = block_code (environment p) ds x m1 in
        let two = block_code (environment p) ds y m2 in
        let rest = served_right p own (block_numbers ds x m1 ++ block_numbers ds y m2) served in
        let f = lowered (environment p) ds n l e in
        let R : Run → Type 0 = λ r. Stands p r (stmt_run p.hop [] (indus.choice i e x y) d) in
        let test = p4.choice 0 f (p4.block 0 one) (maybe_else two) in
        reads_then R n l (next test done) q d s g.0 (omega (arith, few, up, up2)) (served_left p own (block_numbers ds x m1 ++ block_numbers ds y m2) served)
        (λ r k. alone p.calls R test r
        (subst (λ o. Ends R (if_does p.calls o f (p4.block 0 one) (maybe_else two) r)) (sym (applies_none p.hop.switch p.control ds n l e))
        (subst (λ z. Ends R (cond (holds (p4v.value_of f 1 r.store)) (meaning_of p.calls one r) z)) (sym (else_runs p.calls two r))
        (subst (λ u. Ends R (cond (holds u) (meaning_of p.calls one r) (meaning_of p.calls two r))) (sym ((same_now p b d n l r k e suits g.1).value 1))
        (by_bool (holds (value_of v e 1)) (meaning_of p.calls one r) (meaning_of p.calls two r) (block_run p.hop [] x d) (block_run p.hop [] y d)
        (block_runs x m1 t.1 (served_left p (block_numbers ds x m1) (block_numbers ds y m2) rest) (omega (arith, few, up2)) r d k.stands)
        (block_runs y m2 t.2 (served_right p (block_numbers ds x m1) (block_numbers ds y m2) rest) few r d k.stands))))))
    stmt_runs (indus.loop i xs ls x) n t served few q d s = absurd t
    stmt_runs (indus.reject i) n t served few q d s =
        let S : Run → Type 0 = λ r. Stands p r (record d { rejected = true }) in
        let one : (q.store.values (rejected_name ∷ [])).width ≡ 1 = ap (λ (u : Word). u.width) (s.rejected t) in
        alone p.calls S (p4.assign 0 (rejected_name ∷ []) (p4.flag 0 true)) q
        (sets p.calls S q rejected_name (p4.flag 0 true) (plain_now p b d q s)
        (subst (λ w. S (in_store q (set_value q.store (rejected_name ∷ []) w))) (sym (ap (λ n. cast_word (sound_width n) (bit true)) one)) (rejected_stands p q d s true one)))
    stmt_runs (indus.report i m es) n t served few q d s =
        let suits = t.0 d s.shaped in
        let g = exprs_read p.exits (seen_by p.hop [] d) es [] suits in
        let l = stmt_reads ds (indus.report i m es) in
        reads_then (λ r. Stands p r (stmt_run p.hop [] (indus.report i m es) d)) n l (next (tell m (lowered_all (environment p) ds n l es)) done) q d s g.0 few served
        (λ r k. tells d n l r k i m es suits g.1 t.1 t.2)

    pub block_runs : (ss : indus.Stmts) (n : ℕ) → BlockSuits p.hop p.exits ss → AreServed p (block_numbers ds ss n) → block_end ds ss n ≤ 2 ^ 64 → (q : Run) (d : Doing Held Held) → Stands p q d → Reaches (block_run p.hop [] ss d) (meaning_of p.calls (block_code (environment p) ds ss n) q)
    block_runs indus.done n t served few q d s = nothing_more p.calls (λ r. Stands p r d) q s
    block_runs (indus.next o ss) n t served few q d s =
        let m = stmt_end ds o n in
        let up = block_rises ds ss m in
        steps p.calls (λ r. Stands p r (stmt_run p.hop [] o d)) (λ r. Stands p r (block_run p.hop [] ss (stmt_run p.hop [] o d))) (stmt_code (environment p) ds o n) (block_code (environment p) ds ss m) q
        (stmt_runs o n t.0 (served_left p (stmt_numbers ds o n) (block_numbers ds ss m) served) (omega (arith, few, up)) q d s)
        (λ r i. block_runs ss m t.1 (served_right p (stmt_numbers ds o n) (block_numbers ds ss m) served) few r (stmt_run p.hop [] o d) i)
