-- The exit part of a whole property.
use Rattle.std.proofs.Common.{◌≡◌, List, [], ◌∷◌, Bool, true, false, cond, refl, sym, ap, ap₂, ◌∙◌, subst}
use Rattle.std.specs.List.{AllByRecursion}
use Rattle.bit_values.specs.Bits.{Word}
use Rattle.bit_values.specs.Widths.{bit, sound_width, cast_word}
use Rattle.p4_tree.specs.Tree as p4
use Rattle.p4_tree.specs.Tree.{Stmts, done, next, and_then}
use Rattle.p4_meaning.specs.Store.{read, shown, set_value}
use Rattle.p4_meaning.specs.Statements.{Run, in_store, Calls, meaning_of_stmt, meaning_of}
use Rattle.p4_meaning.specs.Tables.{Tables}
use Rattle.network_run.specs.PathMeaning.{Reads, Doing, nothing_yet, exit_part}
use Rattle.indus_tree.specs.Tree.{Property}
use Rattle.indus_tree.specs.State.{Contents, Held}
use Rattle.indus_tree.specs.Shapes.{AreShaped}
use Rattle.indus_tree.specs.Meaning.{block_run, run_of}
use Rattle.indus_tree.specs.Law.{hop_for, law_of}
use Rattle.indus_tree.proofs.ShapesLemmas.{block_keeps}
use Rattle.flat_laws.specs.Numbered.{Numbers}
use Rattle.flat_laws.proofs.Whole.{flat_does_the_same}
use Rattle.monitor_laws.specs.Names.{last_name, rejected_name}
use Rattle.monitor_laws.specs.Monitor.{fields_of}
use Rattle.monitor_laws.specs.MonitorLaws.{MeansTops, StandsFor, Does, Flags}
use Rattle.lookup_names.specs.Keys.{variable}
use Rattle.lowered_code.specs.Environment.{on_switch}
use Rattle.lowered_code.specs.Statements.{Var, block_code, block_vars}
use Rattle.lowered_code.specs.Standing.{Setting, Begins, Stands, Ends}
use Rattle.lowered_code.proofs.Steps.{step, steps, alone, sets, chosen}
use Rattle.lowered_code.proofs.Served.{all_left, all_right}
use Rattle.lowered_code.proofs.Statements.{block_runs}
use Rattle.lowered_code.proofs.Writes.{rejected_stands}
use Rattle.lookup_tables.specs.Tables.{Lookup}
use Rattle.lookup_tables.specs.Finding.{IsSpare}
use Rattle.whole_properties.specs.Whole.{Given, decls, init, tele, check, tele_first, check_first, lookups_of, lookups, checks, lower_monitor, IsFitTele, Keeps}
use Rattle.whole_properties.specs.Asked.{IsGiven, FitsView}
use Rattle.whole_properties.proofs.Facts.{few, few_check, tele_suits, check_suits}
use Rattle.whole_properties.proofs.Parts as parts

module _
    (g : Given) (i : IsGiven g) (calls : Calls) (held : Tables) (means : MeansTops (lower_monitor g) (IsFitTele g) (Keeps g) held calls) (spare : (l : Lookup) → IsSpare (lower_monitor g).exit_locals l)
    (r : Run) (h : Reads Contents) (t z : Held) (s : StandsFor (lower_monitor g) (IsFitTele g) (Keeps g) (fields_of (lower_monitor g).exit_locals) held r h t z) (fits : FitsView g h.view)
    (flags : Flags h.first h.last r.store) where
  abbrev p : Property
  p = g.property

  abbrev vars : List Var
  vars = (lower_monitor g).exit_locals

  abbrev given_flags : true ≡ true → Flags h.first h.last r.store
  given_flags e = flags

  abbrev part : Setting
  part = parts.part g i calls held means true g.egress vars spare r h t z s fits given_flags

  begins : Begins part
  begins = parts.begins g i calls held means true g.egress vars spare r h t z s fits given_flags

  abbrev f : Doing Held Held
  f = parts.started g i calls held means true g.egress vars spare r h t z s fits given_flags

  shaped : AreShaped p.decls (nothing_yet t z)
  shaped = parts.shaped g i calls held means true g.egress vars spare r h t z s fits given_flags

  -- ---- the two blocks

  abbrev tele_code : Stmts
  tele_code = block_code (on_switch h.switch g.egress) (decls g) (tele g) (tele_first g)

  abbrev check_code : Stmts
  check_code = block_code (on_switch h.switch g.egress) (decls g) (check g) (check_first g)

  among_tele :
      (P : Lookup → Type 0) → AllByRecursion P (lookups g) →
      AllByRecursion P (lookups_of g g.egress (tele g) (tele_first g))
  among_tele P h = all_left P (lookups_of g g.egress (tele g) (tele_first g)) _ (all_right P (lookups_of g g.ingress (init g) 0) _ h)

  among_check :
      (P : Lookup → Type 0) → AllByRecursion P (lookups g) →
      AllByRecursion P (lookups_of g g.egress (check g) (check_first g))
  among_check P h = all_right P (lookups_of g g.egress (tele g) (tele_first g)) _ (all_right P (lookups_of g g.ingress (init g) 0) _ h)

  tele_runs :
      (q : Run) (d : Doing Held Held) → Stands part q d →
      Ends (λ r. Stands part r (block_run part.hop [] (tele g) d)) (meaning_of calls tele_code q)
  tele_runs =
      block_runs part begins (tele g) (tele_first g) (tele_suits g i h begins.hop)
      (parts.served g i calls held means true g.egress vars spare r h t z s fits given_flags (tele g) (tele_first g) among_tele (λ q w. all_left _ (block_vars (decls g) (tele g) (tele_first g)) (block_vars (decls g) (check g) (check_first g)) w)) (few_check g i)

  check_runs :
      (q : Run) (d : Doing Held Held) → Stands part q d →
      Ends (λ r. Stands part r (block_run part.hop [] (check g) d)) (meaning_of calls check_code q)
  check_runs =
      block_runs part begins (check g) (check_first g) (check_suits g i h begins.hop)
      (parts.served g i calls held means true g.egress vars spare r h t z s fits given_flags (check g) (check_first g) among_check (λ q w. all_right _ (block_vars (decls g) (tele g) (tele_first g)) (block_vars (decls g) (check g) (check_first g)) w)) (few g i)

  -- ---- behind telemetry, here and there

  abbrev told : Doing Held Held
  told = run_of (hop_for p.decls h) p.tele (nothing_yet t z)

  abbrev told_flat : Doing Held Held
  told_flat = block_run part.hop [] (tele g) f

  told_numbers : Numbers p.decls told told_flat
  told_numbers = ((flat_does_the_same p i.plain).tele (hop_for p.decls h) refl).runs (nothing_yet t z) f shaped (parts.numbers g i calls held means true g.egress vars spare r h t z s fits given_flags)

  told_shaped : AreShaped p.decls told
  told_shaped = block_keeps (hop_for p.decls h) p.tele [] (nothing_yet t z) shaped

  -- nothing is rejected
  abbrev clear : Doing Held Held
  clear = record told { rejected = false }

  abbrev clear_flat : Doing Held Held
  clear_flat = record told_flat { rejected = false }

  clear_numbers : Numbers p.decls clear clear_flat
  clear_numbers = record { tele = told_numbers.tele; sensors = told_numbers.sensors; rejected = refl; reports = told_numbers.reports }

  clear_shaped : AreShaped p.decls clear
  clear_shaped = record { tele = told_shaped.tele; sensors = told_shaped.sensors }

  -- behind the checker
  abbrev checked : Doing Held Held
  checked = run_of (hop_for p.decls h) p.check clear

  abbrev checked_flat : Doing Held Held
  checked_flat = block_run part.hop [] (check g) clear_flat

  checked_numbers : Numbers p.decls checked checked_flat
  checked_numbers = ((flat_does_the_same p i.plain).check (hop_for p.decls h) refl).runs clear clear_flat clear_shaped clear_numbers

  checked_shaped : AreShaped p.decls checked
  checked_shaped = block_keeps (hop_for p.decls h) p.check [] clear clear_shaped

  -- ---- the statements

  abbrev StandsAt : Doing Held Held → Run → Type 0
  StandsAt d q = Stands part q d

  abbrev ending : Bool → Doing Held Held
  ending l = cond l checked_flat told_flat

  abbrev checking : Stmts
  checking = next (p4.assign 0 (rejected_name ∷ []) (p4.flag 0 false)) check_code

  last_read : (q : Run) → Stands part q told_flat → read q.store (last_name ∷ []) ≡ bit h.last
  last_read q e = ap₂ shown (ap (λ g. g []) e.others.headers ∙ s.tele.plain) (e.others.values (last_name ∷ []) refl ∙ flags.is_last)

  checking_runs : (q : Run) → Stands part q told_flat → Ends (StandsAt checked_flat) (meaning_of calls checking q)
  checking_runs q e =
      let one : (q.store.values (rejected_name ∷ [])).width ≡ 1 = ap (λ (u : Word). u.width) (e.rejected refl) in
      step calls (StandsAt clear_flat) (StandsAt checked_flat) (p4.assign 0 (rejected_name ∷ []) (p4.flag 0 false)) check_code q
      (sets calls (StandsAt clear_flat) q rejected_name (p4.flag 0 false) (ap (λ g. g []) e.others.headers ∙ s.tele.plain)
      (subst (λ w. StandsAt clear_flat (in_store q (set_value q.store (rejected_name ∷ []) w))) (sym (ap (λ n. cast_word (sound_width n) (bit false)) one)) (rejected_stands part q told_flat e false one)))
      (λ q1 e1. check_runs q1 clear_flat e1)

  by_last :
      (l : Bool) → h.last ≡ l → (q : Run) → Stands part q told_flat →
      Ends (StandsAt (ending l)) (meaning_of_stmt calls (checks g h.switch) q)
  by_last true is q e = chosen calls (StandsAt checked_flat) (variable last_name) checking q true (last_read q e ∙ ap bit is) refl (λ l. checking_runs q e) (λ l. absurd (cc))
  by_last false is q e = chosen calls (StandsAt told_flat) (variable last_name) checking q false (last_read q e ∙ ap bit is) refl (λ l. absurd (cc)) (λ l. e)

  exit_runs :
      (l : Bool) → h.last ≡ l → Ends (StandsAt (ending l)) (meaning_of calls ((lower_monitor g).exit h.switch) r)
  exit_runs l is =
      steps calls (StandsAt told_flat) (StandsAt (ending l)) tele_code (next (checks g h.switch) done) r
      (tele_runs r f (parts.stands g i calls held means true g.egress vars spare r h t z s fits given_flags))
      (λ q e. alone calls (StandsAt (ending l)) (checks g h.switch) q (by_last l is q e))

  does_by_last :
      (l : Bool) → h.last ≡ l →
      Does (lower_monitor g) (IsFitTele g) (Keeps g) held r (meaning_of calls ((lower_monitor g).exit h.switch) r) h.contents (cond l checked clear)
  does_by_last true is =
      parts.does_of g i calls held means true g.egress vars spare r h t z s fits given_flags (meaning_of calls ((lower_monitor g).exit h.switch) r) checked_flat checked (exit_runs true is) checked_numbers checked_shaped
  does_by_last false is =
      (let d = parts.does_of g i calls held means true g.egress vars spare r h t z s fits given_flags (meaning_of calls ((lower_monitor g).exit h.switch) r) told_flat told (exit_runs false is) told_numbers told_shaped in
      record { words = d.words; fits = d.fits; keeps = record { cells = d.keeps.cells; shaped = d.keeps.shaped; contents = d.keeps.contents; tables = d.keeps.tables }; others = d.others; reports = d.reports; goes = d.goes })

  pub exit_does : Does (lower_monitor g) (IsFitTele g) (Keeps g) held r (meaning_of calls ((lower_monitor g).exit h.switch) r) h.contents (exit_part (law_of p) h t z)
  exit_does = does_by_last h.last refl

  pub exit_verdict :
      h.last ≡ true →
      (meaning_of calls ((lower_monitor g).exit h.switch) r).0.store.values (rejected_name ∷ []) ≡ bit (exit_part (law_of p) h t z).rejected
  exit_verdict is = (exit_runs true is).run.rejected refl ∙ ap bit checked_numbers.rejected ∙ ap (λ l. bit (cond l checked clear).rejected) (sym is)
