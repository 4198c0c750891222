-- What statements write: fields of variables of the packet, cells of sensors, the verdict and reports. Behind it the run stands
-- for the state with what was written.
use Rattle.std.proofs.Common.{◌≡◌, ℕ, suc, ◌≤◌, ◌<◌, List, [], ◌∷◌, ◌++◌, map, length, Bool, true, false, cond, not, Some, refl, sym, ap, ◌∙◌, subst, arith, append_assoc, append-nil, nat_lt}
use Rattle.std.specs.Prelude.{slice_set}
use Rattle.std.specs.List.{filter}
use Rattle.std.proofs.Math.Bool.{and-true}
use Rattle.std.proofs.lemmas.Bool.{ltb-true, ltb-false, lt-ltb}
use Rattle.std.proofs.lemmas.List.{set_past, map-set, map-append, length-map}
use Rattle.std.proofs.lemmas.List.Elements.{filter-append}
use Rattle.bit_values.specs.Bits.{Word}
use Rattle.bit_values.specs.Widths.{bit, sound_width, cast_word}
use Rattle.lex_text.specs.Names.{same_text, same_path}
use Rattle.p4_meaning.specs.Store.{set_value}
use Rattle.p4_meaning.specs.Statements.{Run, in_store, put_cells}
use Rattle.network_run.specs.PathMeaning.{Doing, Report}
use Rattle.indus_tree.specs.Tree.{Decl}
use Rattle.indus_tree.specs.State.{Held, lookup, shape_width, put, put_cell}
use Rattle.indus_tree.specs.Reads.{scalar}
use Rattle.indus_tree.specs.Shapes.{AreShaped}
use Rattle.indus_tree.specs.Start.{start_word}
use Rattle.sensor_registers.specs.Registers.{cell_value}
use Rattle.own_code.specs.Relations.{is_report}
use Rattle.own_code.proofs.Apart.{text_decides, apart_names}
use Rattle.monitor_laws.specs.Names.{rejected_name, is_sensor}
use Rattle.monitor_laws.specs.MonitorLaws.{report_digest}
use Rattle.monitor_laws.proofs.Frames.{others_then, others_set}
use Rattle.lowered_code.specs.Names.{sensor_name}
use Rattle.lowered_code.specs.Environment.{tele_path}
use Rattle.lowered_code.specs.Standing.{Setting, environment, HasWidths, Stands}
use Rattle.lowered_code.proofs.Scratch.{widths_set}

-- ---- one word in the place of another

scalar_put : (ws : List Word) (w : Word) (n : ℕ) → length ws ≡ 1 → scalar (put_cell ws 0 w) n ≡ w
scalar_put [] w n e = absurd (omega (arith, e))
scalar_put (x ∷ ws) w n e = ap (λ t. scalar (cond t (w ∷ ws) (x ∷ ws)) n) (lt-ltb 0 (suc (length ws)) (omega arith))

-- the cells of a register where one cell of the sensor is another
pub cells_put : (start : Word) (ws : List Word) (n : ℕ) (u w : Word) → (n < length ws → u ≡ cell_value start w) → slice_set (map (cell_value start) ws) n u ≡ map (cell_value start) (put_cell ws n w)
cells_put start ws n u w is = go (nat_lt n (length ws)) refl
  where
    go : (t : Bool) → nat_lt n (length ws) ≡ t → slice_set (map (cell_value start) ws) n u ≡ map (cell_value start) (cond t (slice_set ws n w) ws)
    go true e = ap (slice_set (map (cell_value start) ws) n) (is (ltb-true n (length ws) e)) ∙ sym (map-set (cell_value start) ws n w)
    go false e = set_past (map (cell_value start) ws) n u (subst (λ m. m ≤ n) (sym (length-map ws (cell_value start))) (ltb-false n (length ws) e))

-- fields of two names are the same where the names are
field_same : (p : Setting) (x y : List ℕ) → same_path (tele_path (environment p) x) (tele_path (environment p) y) ≡ same_text x y
field_same p x y = and-true (same_text x y)

module _ (p : Setting) (q : Run) (d : Doing Held Held) (s : Stands p q d) where
  abbrev ds : List Decl
  ds = p.hop.decls

  -- ---- a field

  abbrev pub with_tele : List ℕ → Word → Doing Held Held
  with_tele x w = record d { tele = put d.tele x (put_cell (d.tele x) 0 w) }

  pub tele_stands : (x : List ℕ) (w v : Word) → length (d.tele x) ≡ 1 → w ≡ cast_word (sound_width (q.store.values (tele_path (environment p) x)).width) v → AreShaped ds (with_tele x w) → Stands p (in_store q (set_value q.store (tele_path (environment p) x) w)) (with_tele x w)
  tele_stands x w v one is shaped =
      let path = tele_path (environment p) x in
      record {
        tele = λ y c at kind. go y c (same_text x y) refl (s.tele y c at kind);
        sensors = s.sensors;
        shaped = shaped;
        fill = s.fill;
        rejected = s.rejected;
        reports = s.reports;
        widths = subst (λ w. HasWidths p.vars (set_value q.store path w)) (sym is) (widths_set p.vars q.store path v s.widths);
        others = others_then p.start q (in_store q (set_value q.store path w)) s.others (others_set q path w refl);
      }
    where
      go : (y : List ℕ) (c : Decl) (t : Bool) → same_text x y ≡ t → q.store.values (tele_path (environment p) y) ≡ scalar (d.tele y) (shape_width c.shape)
          → cond (same_path (tele_path (environment p) x) (tele_path (environment p) y)) w (q.store.values (tele_path (environment p) y)) ≡ scalar (cond (same_text x y) (put_cell (d.tele x) 0 w) (d.tele y)) (shape_width c.shape)
      go y c true e old =
          ap (λ t. cond t w (q.store.values (tele_path (environment p) y))) (field_same p x y ∙ e) ∙ sym (scalar_put (d.tele x) w (shape_width c.shape) one)
          ∙ ap (λ t. scalar (cond t (put_cell (d.tele x) 0 w) (d.tele y)) (shape_width c.shape)) (sym e)
      go y c false e old =
          ap (λ t. cond t w (q.store.values (tele_path (environment p) y))) (field_same p x y ∙ e) ∙ old
          ∙ ap (λ t. scalar (cond t (put_cell (d.tele x) 0 w) (d.tele y)) (shape_width c.shape)) (sym e)

  -- ---- a cell of a sensor's register

  abbrev pub with_sensor : List ℕ → (n : ℕ) → Word → Doing Held Held
  with_sensor x n w = record d { sensors = put d.sensors x (put_cell (d.sensors x) n w) }

  pub sensor_stands : (x : List ℕ) (c : Decl) (n : ℕ) (w : Word) (cells : List Word) → lookup ds x ≡ Some c → cells ≡ map (cell_value (start_word c.start (shape_width c.shape))) (put_cell (d.sensors x) n w) → AreShaped ds (with_sensor x n w)
      → Stands p (record q { cells = put_cells q.cells (sensor_name x) cells }) (with_sensor x n w)
  sensor_stands x c n w cells at is shaped =
      record {
        tele = s.tele;
        sensors = λ y e there kind. go y e there (same_text x y) refl (s.sensors y e there kind);
        shaped = shaped;
        fill = s.fill;
        rejected = s.rejected;
        reports = s.reports;
        widths = s.widths;
        others =
            others_then p.start q (record q { cells = put_cells q.cells (sensor_name x) cells }) s.others
            (record { values = λ y out. refl; headers = refl; cells = λ y out. ap (λ b. cond b cells (q.cells y)) (apart_names is_sensor (sensor_name x) y refl out); digests = refl });
      }
    where
      one_decl : (e : Decl) (y : List ℕ) → x ≡ y → lookup ds y ≡ Some e → c ≡ e
      one_decl e y same there = let two : Some c ≡ Some e = sym at ∙ ap (lookup ds) same ∙ there in cc

      go : (y : List ℕ) (e : Decl) → lookup ds y ≡ Some e → (t : Bool) → same_text x y ≡ t → q.cells (sensor_name y) ≡ map (cell_value (start_word e.start (shape_width e.shape))) (d.sensors y)
          → cond (same_text x y) cells (q.cells (sensor_name y)) ≡ map (cell_value (start_word e.start (shape_width e.shape))) (cond (same_text x y) (put_cell (d.sensors x) n w) (d.sensors y))
      go y e there true f old =
          ap (λ t. cond t cells (q.cells (sensor_name y))) f ∙ is
          ∙ ap (λ (c : Decl). map (cell_value (start_word c.start (shape_width c.shape))) (put_cell (d.sensors x) n w)) (one_decl e y ((text_decides x y).0 f) there)
          ∙ ap (λ t. map (cell_value (start_word e.start (shape_width e.shape))) (cond t (put_cell (d.sensors x) n w) (d.sensors y))) (sym f)
      go y e there false f old =
          ap (λ t. cond t cells (q.cells (sensor_name y))) f ∙ old
          ∙ ap (λ t. map (cell_value (start_word e.start (shape_width e.shape))) (cond t (put_cell (d.sensors x) n w) (d.sensors y))) (sym f)

  -- ---- the verdict

  pub rejected_stands : (t : Bool) → (q.store.values (rejected_name ∷ [])).width ≡ 1 → Stands p (in_store q (set_value q.store (rejected_name ∷ []) (bit t))) (record d { rejected = t })
  rejected_stands t one =
      record {
        tele = s.tele;
        sensors = s.sensors;
        shaped = record { tele = s.shaped.tele; sensors = s.shaped.sensors };
        fill = s.fill;
        rejected = λ e. refl;
        reports = s.reports;
        widths = subst (λ w. HasWidths p.vars (set_value q.store (rejected_name ∷ []) w)) (ap (λ n. cast_word (sound_width n) (bit t)) one ∙ small t) (widths_set p.vars q.store (rejected_name ∷ []) (bit t) s.widths);
        others = others_then p.start q (in_store q (set_value q.store (rejected_name ∷ []) (bit t))) s.others (others_set q (rejected_name ∷ []) (bit t) refl);
      }
    where
      small : (t : Bool) → cast_word 1 (bit t) ≡ bit t
      small true = refl
      small false = refl

  -- ---- a report

  pub told_stands : (r : Report) → Stands p (record q { digests = q.digests ++ report_digest r ∷ [] }) (record d { reports = d.reports ++ r ∷ [] })
  told_stands r =
      record {
        tele = s.tele;
        sensors = s.sensors;
        shaped = record { tele = s.shaped.tele; sensors = s.shaped.sensors };
        fill = s.fill;
        rejected = s.rejected;
        reports =
            filter-append is_report q.digests (report_digest r ∷ [])
            ∙ ap (λ l. l ++ report_digest r ∷ []) s.reports
            ∙ append_assoc (filter is_report p.start.digests) (map report_digest d.reports) (report_digest r ∷ [])
            ∙ ap (λ l. filter is_report p.start.digests ++ l) (sym (map-append report_digest d.reports (r ∷ [])));
        widths = s.widths;
        others =
            others_then p.start q (record q { digests = q.digests ++ report_digest r ∷ [] }) s.others
            (record { values = λ y out. refl; headers = refl; cells = λ y out. refl; digests = filter-append (λ d. not (is_report d)) q.digests (report_digest r ∷ []) ∙ append-nil (filter (λ d. not (is_report d)) q.digests) });
      }
