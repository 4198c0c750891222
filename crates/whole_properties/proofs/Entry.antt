-- The entry part of a whole property.
use Rattle.std.proofs.Common.{◌≡◌, List, [], true, false, refl}
use Rattle.std.specs.List.{AllByRecursion}
use Rattle.p4_meaning.specs.Statements.{Run, Calls, meaning_of}
use Rattle.p4_meaning.specs.Tables.{Tables}
use Rattle.network_run.specs.PathMeaning.{Reads, Doing, nothing_yet}
use Rattle.indus_tree.specs.Tree.{Property}
use Rattle.indus_tree.specs.State.{Contents, Held}
use Rattle.indus_tree.specs.Meaning.{block_run, run_of}
use Rattle.indus_tree.specs.Law.{hop_for, law_of}
use Rattle.indus_tree.proofs.ShapesLemmas.{block_keeps}
use Rattle.flat_laws.proofs.Whole.{flat_does_the_same}
use Rattle.monitor_laws.specs.Monitor.{fields_of}
use Rattle.monitor_laws.specs.MonitorLaws.{MeansTops, StandsFor, Does, Flags}
use Rattle.lowered_code.specs.Environment.{on_switch}
use Rattle.lowered_code.specs.Statements.{Var, block_code}
use Rattle.lowered_code.proofs.Served.{all_left}
use Rattle.lowered_code.proofs.Statements.{block_runs}
use Rattle.lookup_tables.specs.Tables.{Lookup}
use Rattle.lookup_tables.specs.Finding.{IsSpare}
use Rattle.whole_properties.specs.Whole.{Given, decls, init, lookups_of, lookups, lower_monitor, IsFitTele, Keeps}
use Rattle.whole_properties.specs.Asked.{IsGiven, FitsView}
use Rattle.whole_properties.proofs.Facts.{few_tele, init_suits}
use Rattle.whole_properties.proofs.Parts as parts

module _
    (g : Given) (i : IsGiven g) (calls : Calls) (held : Tables) (means : MeansTops (lower_monitor g) (IsFitTele g) (Keeps g) held calls) (spare : (l : Lookup) → IsSpare (lower_monitor g).entry_locals l)
    (r : Run) (h : Reads Contents) (t z : Held) (s : StandsFor (lower_monitor g) (IsFitTele g) (Keeps g) (fields_of (lower_monitor g).entry_locals) held r h t z) (fits : FitsView g h.view) where
  abbrev p : Property
  p = g.property

  abbrev vars : List Var
  vars = (lower_monitor g).entry_locals

  no_flags : false ≡ true → Flags h.first h.last r.store
  no_flags e = absurd (cc)

  abbrev f : Doing Held Held
  f = parts.started g i calls held means false g.ingress vars spare r h t z s fits no_flags

  among : (P : Lookup → Type 0) → AllByRecursion P (lookups g) → AllByRecursion P (lookups_of g g.ingress (init g) 0)
  among P h = all_left P (lookups_of g g.ingress (init g) 0) _ h

  pub entry_does : Does (lower_monitor g) (IsFitTele g) (Keeps g) held r (meaning_of calls ((lower_monitor g).entry h.switch) r) h.contents ((law_of p).init h (nothing_yet t z))
  entry_does =
      let part = parts.part g i calls held means false g.ingress vars spare r h t z s fits no_flags in
      let begins = parts.begins g i calls held means false g.ingress vars spare r h t z s fits no_flags in
      let shaped = parts.shaped g i calls held means false g.ingress vars spare r h t z s fits no_flags in
      parts.does_of g i calls held means false g.ingress vars spare r h t z s fits no_flags
      (meaning_of calls (block_code (on_switch h.switch g.ingress) (decls g) (init g) 0) r) (block_run part.hop [] (init g) f) (run_of (hop_for p.decls h) p.init (nothing_yet t z))
      (block_runs part begins (init g) 0 (init_suits g i h begins.hop) (parts.served g i calls held means false g.ingress vars spare r h t z s fits no_flags (init g) 0 among (λ q w. w)) (few_tele g i) r f
      (parts.stands g i calls held means false g.ingress vars spare r h t z s fits no_flags))
      (((flat_does_the_same p i.plain).init (hop_for p.decls h) refl).runs (nothing_yet t z) f shaped (parts.numbers g i calls held means false g.ingress vars spare r h t z s fits no_flags))
      (block_keeps (hop_for p.decls h) p.init [] (nothing_yet t z) shaped)
