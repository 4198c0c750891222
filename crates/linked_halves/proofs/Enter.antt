-- The entry half of the linked program does what the forwarding program's does, and the property's entry part.
use Rattle.std.proofs.Common.{◌≡◌, ℕ, ◌%◌, ◌^◌, ◌<◌, List, [], ◌∷◌, ◌++◌, map, Bool, true, false, not, ◌&&◌, cond, Option, Some, None, refl, sym, ap, ap₂, ◌∙◌, subst, append-nil, arith}
use Rattle.std.specs.Prelude.{if◌then◌else◌, nat_eq}
use Rattle.std.specs.List.{filter, AllByRecursion}
use Rattle.std.proofs.Math.Nat.{mod-eq_of_lt}
use Rattle.bit_values.specs.Bits.{Word, word}
use Rattle.bit_values.specs.Widths.{sound_width}
use Rattle.lex_text.specs.Names.{same_text, same_path}
use Rattle.p4_tree.specs.Tree.{Stmts, assign, done, next, and_then}
use Rattle.p4_tree.specs.declared.statement.PTy.{PTy}
use Rattle.p4_meaning.specs.Standard.{headers_root, metadata_root, standard_root, packet_length, ingress_port, egress_spec, parser_error}
use Rattle.p4_meaning.specs.Store.{Store, shown, zero_of, set_value, set_valid, zeroed, made}
use Rattle.p4_meaning.specs.Value.{width_of}
use Rattle.p4_meaning.specs.Statements.{Calls, no_calls, Go, Run, Ended, after, in_store, meaning_of, meaning_of_stmt}
use Rattle.p4_meaning.specs.Parsing.{ParserEnd}
use Rattle.p4_meaning.specs.Tables.{Tables, calls_in}
use Rattle.p4_meaning.specs.Parts.{Parts, whole}
use Rattle.p4_meaning.specs.Pass as pass
use Rattle.p4_meaning.specs.Pass.{Registers, Kept, Queued, calls_of, error_number, store_behind, run_from, is_dropped, unless_dropped, to_egress, entered_from, parts_enter}
use Rattle.p4_meaning.proofs.Sequences.{then_runs}
use Rattle.network_run.specs.Network.{Wiring}
use Rattle.network_run.specs.PathMeaning.{Report, Doing, nothing_yet, reads_at, entry_part}
use Rattle.linkage.specs.Linkage as linkage
use Rattle.linkage.specs.HalvesLaws.{SameQueued, SameDigests, EnterAgrees}
use Rattle.switch_machines.specs.Programs.{view_of, network_digest, entered_of}
use Rattle.own_code.specs.Regions.{is_mine}
use Rattle.own_code.specs.Forwarding.{IsForwarding}
use Rattle.own_code.specs.Relations.{is_report, bare, Alike, IsPort}
use Rattle.own_code.specs.OwnCode.{Ran, AreAlikeCalls}
use Rattle.own_code.proofs.Apart.{both_left, free_apart}
use Rattle.own_code.proofs.Own.{no_calls_alike, all_ran}
use Rattle.packet_lengths.specs.Lengths.{plain_stmt, plain_stmts, KeepLength, AreLengthCalls, plain_store, plainly, Near}
use Rattle.packet_lengths.proofs.Lengths.{no_length_calls}
use Rattle.packet_lengths.proofs.Plainly.{plainly_run, plainly_none}
use Rattle.packet_lengths.proofs.Near.{near_set, own_keeps, both_keep}
use Rattle.monitor_laws.specs.Names.{tele_header, mark_path, rejects_register, is_lowered}
use Rattle.monitor_laws.specs.Telemetry.{mark_field, mark_word, tele_bytes, HasWords, zeros}
use Rattle.monitor_laws.specs.Trees.{number}
use Rattle.monitor_laws.specs.Monitor.{Monitor, fields_of, telemetry_of}
use Rattle.monitor_laws.specs.MonitorLaws.{report_digest, MeansTops, HasTele, Does, MonitorLaws}
use Rattle.monitor_laws.proofs.Paths.{free_above, sensor_mine}
use Rattle.monitor_laws.proofs.Fields.{has_set, has_same, has_moved, all_names, all_region, zeros_zeroed, below_apart}
use Rattle.monitor_laws.proofs.Frames.{others_alike, bare_alike, view_alike, view_long, vars_long, assignment, zeroed_vars, vars_other, vars_headers, vars_alike, vars_fresh}
use Rattle.linked_halves.specs.Widths.{HasSoundFields, HasWidths}
use Rattle.linked_halves.specs.Statements.{vars_of, entry_stmts, entry_stmt}
use Rattle.linked_halves.specs.LinkedParts.{Declarations, Joins, core_parts, linked_parts}
use Rattle.linked_halves.specs.Held.{is_in, KeptBy, HoldsCore, HeldBy}
use Rattle.linked_halves.proofs.Widths.{calls_widths, entry_widths, queued_widths}
use Rattle.linked_halves.proofs.Ports.{unless_port}
use Rattle.linked_halves.proofs.LinkedCalls.{core_alike, core_means, core_lengths}
use Rattle.linked_halves.proofs.QueuedStores.{egress_alike, egress_tele, egress_meta, egress_plain}
use Rattle.linked_halves.proofs.EnterParse.{Begun, Taken, begun_stays, taken_stays, tele_stays, plain_end, linked_end, edge_parsed, link_parsed}

-- the images that are kept are those of what is kept
pub filter-map : {A B : Type 0} (p : B → Bool) (f : A → B) (xs : List A) → filter p (map f xs) ≡ map f (filter (λ x. p (f x)) xs)
filter-map p f [] = refl
filter-map p f (x ∷ xs) =
    elim (p (f x)) as (λ b. cond b (f x ∷ filter p (map f xs)) (filter p (map f xs)) ≡ map f (cond b (x ∷ filter (λ y. p (f y)) xs) (filter (λ y. p (f y)) xs)))
    [ true ↦ ap (λ l. f x ∷ l) (filter-map p f xs) | false ↦ filter-map p f xs ]

-- reports are told as a linkage has them
pub told_back : (rs : List Report) → map network_digest (map report_digest rs) ≡ map linkage.report_digest rs
told_back [] = refl
told_back (r ∷ rs) = ap (λ l. linkage.report_digest r ∷ l) (told_back rs)

-- the digests of alike runs, where the linked one's reports are known
pub same_digests : (a b : Run) (reported : List Report) → Alike a b → filter is_report b.digests ≡ map report_digest reported → SameDigests (map network_digest a.digests) (map network_digest b.digests) reported
same_digests a b reported h told =
    record {
      reports = filter-map linkage.is_report network_digest b.digests ∙ (ap (map network_digest) told ∙ told_back reported);
      others = filter-map (λ d. not (linkage.is_report d)) network_digest b.digests ∙ ap (map network_digest) h.digests;
    }

-- behind the parser
behind_near : (x y : ParserEnd) → Near x.reading.store y.reading.store → y.error ≡ x.error → Near (store_behind x) (store_behind y)
behind_near x y h e = near_set x.reading.store y.reading.store parser_error (word 2 (error_number x.error)) (word 2 (error_number y.error)) refl (ap (λ e. word 2 (error_number e)) e) h

near_run : (x y : Store) (a b : Registers) → Near x y → ((n : List ℕ) → is_mine n ≡ false → b n ≡ a n) → Alike (run_from x a) (plainly (run_from y b))
near_run x y a b h cells = record { values = λ q i. h.alike.values q i; headers = λ q o. h.alike.headers q o; cells = cells; digests = refl }

-- the store when the header is made and marked
abbrev opened : (mark : ℕ) → Store → Store
opened mark s = set_value (set_valid (zeroed s tele_header) tele_header true) mark_path (mark_word mark)

opened_alike : (mark : ℕ) (a b : Run) → Alike a b → Alike a (in_store b (opened mark b.store))
opened_alike mark a b h =
    record {
      values = λ q i. ap (λ t. cond t (mark_word mark) ((zeroed b.store tele_header).values q)) (free_apart mark_path q refl i)
          ∙ ap (λ t. cond t (zero_of (b.store.values q)) (b.store.values q)) (free_above q i)
          ∙ h.values q i;
      headers = λ q o. ap (λ t. cond t (Some true) (b.store.headers q)) (free_apart tele_header q refl o) ∙ h.headers q o;
      cells = λ x i. h.cells x i;
      digests = h.digests;
    }

-- the mark is no variable
mark_single : (n : List ℕ) → same_path mark_path (n ∷ []) ≡ false
mark_single n = go (same_text headers_root n)
  where
    go : (b : Bool) → (b && false) ≡ false
    go true = refl
    go false = refl

-- a port of 9 bits
pub port_is : (w : Word) (port : ℕ) → w ≡ word 9 port → port < 512 → IsPort w
port_is w port e lt = record { width = ap (λ (w : Word). w.width) e; low = subst (λ (w : Word). w.value < 512) (sym e) lt }

-- a control's variables, before what follows them
pub vars_run : (calls : Calls) (ls : List (PTy × List ℕ)) (ss : Stmts) (r : Run) → meaning_of calls (vars_of ls ss) r ≡ meaning_of calls ss (in_store r (zeroed_vars ls r.store))
vars_run calls [] ss r = refl
vars_run calls (l ∷ ls) ss r = vars_run calls ls ss (in_store r (set_value r.store (l.1 ∷ []) (word (sound_width (width_of l.0)) 0)))

pub vars_keep : (ls : List (PTy × List ℕ)) (ss : Stmts) → KeepLength ss → KeepLength (vars_of ls ss)
vars_keep [] ss h = h
vars_keep (l ∷ ls) ss h = (tt, vars_keep ls ss h)

-- rewritten statements one behind the other
pub plain_then : (a b : Stmts) → plain_stmts (and_then a b) ≡ and_then (plain_stmts a) (plain_stmts b)
plain_then done b = refl
plain_then (next s ss) b = ap (next (plain_stmt s)) (plain_then ss b)

module _ {T Z C : Type 0} (m : Monitor T Z C) (Fit : T → Type 0) (Keeps : Z → (ℕ → C) → Kept → Type 0) where
  -- the telemetry behind lowered statements
  pub tele_done : (held : Tables) (a : Run) (e : Ended) (c : ℕ → C) (d : Doing T Z) (t : T) → HasTele m Fit Keeps a.store t → Does m Fit Keeps held a e c d → HasTele m Fit Keeps e.0.store d.tele
  tele_done held a e c d t h r =
      record {
        plain = ap (λ g. g []) r.others.headers ∙ h.plain;
        standard = ap (λ g. g (standard_root ∷ [])) r.others.headers ∙ h.standard;
        valid = ap (λ g. g tele_header) r.others.headers ∙ h.valid;
        mark = r.others.values mark_path refl ∙ h.mark;
        words = r.words;
        fits = r.fits;
      }

  -- how the entry statement ends
  record Opened (held : Tables) (a b : Run) (e : Ended) (c : ℕ → C) (d : Doing T Z) : Type 0 where
    alike : Alike a e.0
    tele : HasTele m Fit Keeps e.0.store d.tele
    keeps : Keeps d.sensors c (record { registers = e.0.cells; tables = held })
    rejects : e.0.cells rejects_register ≡ b.cells rejects_register
    reports : filter is_report e.0.digests ≡ filter is_report b.digests ++ map report_digest d.reports
    came : e.0.store.values ingress_port ≡ b.store.values ingress_port
    goes : e.1 ≡ Go

module _ {T Z C : Type 0} (m : Monitor T Z C) (Fit : T → Type 0) (Keeps : Z → (ℕ → C) → Kept → Type 0) (FitView : List Word → Type 0) (IsVariable : ℕ → Type 0) (IsFitContents : (variable : ℕ) → C → Type 0)
    (laws : MonitorLaws m Fit Keeps FitView IsVariable IsFitContents) (f : Parts) (own : IsForwarding f) (sound : HasSoundFields f) (fit_views : (s : Store) → HasWidths f s → FitView (view_of m.views s)) (sw : ℕ) (links : ℕ → List ℕ) (low : AllByRecursion (λ n. n < 512) (links sw))
    (decls : Declarations) (joins : Joins m f decls) (net : Wiring)
  where
    abbrev core : Parts
    core = core_parts m sw (links sw) f decls

    abbrev linked : Parts
    linked = linked_parts m sw (links sw) f decls

    entry_mine : AllByRecursion (λ g. is_mine g.name ≡ true) (fields_of m.entry_locals)
    entry_mine = all_region (λ n. is_lowered (n ∷ [])) (λ n. is_mine n ≡ true) (fields_of m.entry_locals) (λ n h. both_left (is_mine n) _ h) laws.entry_vars

    view_vars : (calls : Calls) (u : Run) → view_of m.views (meaning_of calls f.ingress.locals u).0.store ≡ view_of m.views u.store
    view_vars calls u = view_long m.views u.store (meaning_of calls f.ingress.locals u).0.store (vars_long calls f.ingress.locals u own.ingress_vars) laws.views

    -- behind the monitor's variables of the control
    abbrev begun_run : Run → Run
    begun_run v = in_store v (zeroed_vars m.entry_locals v.store)

    begun_vars : (port : ℕ) (s : Store) → Begun m.fields port s → Begun m.fields port (zeroed_vars m.entry_locals s)
    begun_vars port s h =
        let headers = vars_headers m.entry_locals s in
        record {
          plain = ap (λ g. g []) headers ∙ h.plain;
          standard = ap (λ g. g (standard_root ∷ [])) headers ∙ h.standard;
          invalid = ap (λ g. g tele_header) headers ∙ h.invalid;
          words = has_same tele_header (mark_field ∷ m.fields) (zeros (mark_field ∷ m.fields)) s (zeroed_vars m.entry_locals s) (λ n. vars_other m.entry_locals s (tele_header ++ n ∷ []) entry_mine refl) h.words;
          arrived = vars_other m.entry_locals s ingress_port entry_mine refl ∙ h.arrived;
          spec = subst IsPort (sym (vars_other m.entry_locals s egress_spec entry_mine refl)) h.spec;
        }

    taken_vars : (port : ℕ) (t : T) (s : Store) → Taken m Fit Keeps port t s → Taken m Fit Keeps port t (zeroed_vars m.entry_locals s)
    taken_vars port t s h =
        let headers = vars_headers m.entry_locals s in
        record {
          tele =
              record {
                plain = ap (λ g. g []) headers ∙ h.tele.plain;
                standard = ap (λ g. g (standard_root ∷ [])) headers ∙ h.tele.standard;
                valid = ap (λ g. g tele_header) headers ∙ h.tele.valid;
                mark = vars_other m.entry_locals s mark_path entry_mine refl ∙ h.tele.mark;
                words = has_same tele_header m.fields (m.words t) s (zeroed_vars m.entry_locals s) (λ n. vars_other m.entry_locals s (tele_header ++ n ∷ []) entry_mine refl) h.tele.words;
                fits = h.tele.fits;
              };
          arrived = vars_other m.entry_locals s ingress_port entry_mine refl ∙ h.arrived;
          spec = subst IsPort (sym (vars_other m.entry_locals s egress_spec entry_mine refl)) h.spec;
        }

    -- the header is made and marked
    opened_tele : (port : ℕ) (s : Store) → Begun m.fields port s → HasTele m Fit Keeps (opened m.mark s) m.property.tele
    opened_tele port s h =
        let t1 = set_valid (zeroed s tele_header) tele_header true in
        let zeroed_words : HasWords tele_header m.fields (zeros m.fields) (zeroed s tele_header) = zeros_zeroed tele_header tele_header m.fields s h.words.1 in
        let made_words : HasWords tele_header m.fields (zeros m.fields) t1 = has_same tele_header m.fields (zeros m.fields) (zeroed s tele_header) t1 (λ n. refl) zeroed_words in
        record {
          plain = h.plain;
          standard = h.standard;
          valid = refl;
          mark = refl;
          words = subst (λ ws. HasWords tele_header m.fields ws (opened m.mark s)) (sym laws.start_zero) (has_set tele_header m.fields (zeros m.fields) t1 mark_path (mark_word m.mark) (below_apart tele_header mark_field.name m.fields laws.apart.0) made_words);
          fits = laws.start_fits;
        }

    opened_vars : (s : Store) → HasWords [] (fields_of m.entry_locals) (zeros (fields_of m.entry_locals)) s → HasWords [] (fields_of m.entry_locals) (zeros (fields_of m.entry_locals)) (opened m.mark s)
    opened_vars s h =
        has_moved [] (fields_of m.entry_locals) (zeros (fields_of m.entry_locals)) s (opened m.mark s)
        (all_names (λ n. (opened m.mark s).values (n ∷ []) ≡ s.values (n ∷ [])) (fields_of m.entry_locals) (λ n. ap (λ b. cond b (mark_word m.mark) (s.values (n ∷ []))) (mark_single n))) h

    -- the header is made and marked, and then init runs
    entry_runs : (calls : Calls) (port : ℕ) (b : Run) → Begun m.fields port b.store → meaning_of calls (entry_stmts m sw (links sw)) b ≡ meaning_of calls (m.entry sw) (in_store b (opened m.mark b.store))
    entry_runs calls port b h =
        let made_run = in_store b (set_valid (zeroed b.store tele_header) tele_header true) in
        let low_mark : m.mark % 2 ^ 8 ≡ m.mark = mod-eq_of_lt laws.marked in
        ap (λ o. meaning_of calls (next (assign 0 mark_path (number 8 m.mark)) (m.entry sw)) (in_store b (made o true b.store tele_header))) h.invalid
        ∙ ap (λ e. after e.1 e.0 (meaning_of calls (m.entry sw))) (assignment calls made_run 0 mark_path (number 8 m.mark) (word 8 0) (word 8 m.mark) refl tt (ap zero_of h.words.0) (ap (word 8) low_mark)
        ∙ ap (λ n. (in_store made_run (set_value made_run.store mark_path (word 8 n)), Go)) low_mark)

    -- the entry statement's test
    entry_test : (calls : Calls) (port : ℕ) (b : Run) → b.store.headers (standard_root ∷ []) ≡ None → b.store.values ingress_port ≡ word 9 port → port < 512 → meaning_of_stmt calls (entry_stmt m sw (links sw)) b ≡ (if is_in port (links sw) then (b, Go) else meaning_of calls (entry_stmts m sw (links sw)) b)
    entry_test calls port b s h lt = unless_port calls ingress_port (links sw) (entry_stmts m sw (links sw)) b port (ap₂ shown s h) lt low

    -- at an edge init runs
    entry_edge : (calls : Calls) (held : Tables) → MeansTops m Fit Keeps held calls → (port : ℕ) (view : List Word) (a b : Run) (z : Z) (c : ℕ → C) → Alike a b → Begun m.fields port b.store → HasWords [] (fields_of m.entry_locals) (zeros (fields_of m.entry_locals)) b.store
        → Keeps z c (record { registers = b.cells; tables = held }) → view_of m.views a.store ≡ view → FitView view → port < 512 → is_in port (links sw) ≡ false
        → Opened m Fit Keeps held a b (meaning_of_stmt calls (entry_stmt m sw (links sw)) b) c (m.property.init (reads_at sw true false view c) (nothing_yet m.property.tele z))
    entry_edge calls held means port view a b z c alike g fresh keeps seen fit lt out =
        let r = reads_at sw true false view c in
        let b' = in_store b (opened m.mark b.store) in
        let d = m.property.init r (nothing_yet m.property.tele z) in
        let alike' = opened_alike m.mark a b alike in
        let tele = opened_tele port b.store g in
        let e = meaning_of calls (m.entry sw) b' in
        let ran : Does m Fit Keeps held b' e c d =
        laws.entry calls held means b' r m.property.tele z refl refl fit
        (record { tele = tele; keeps = keeps; view = view_alike m.views a b' alike' laws.views ∙ seen; fresh = opened_vars b.store fresh }) in
        let same : meaning_of_stmt calls (entry_stmt m sw (links sw)) b ≡ e = entry_test calls port b g.standard g.arrived lt ∙ (ap (λ t. if t then (b, Go) else meaning_of calls (entry_stmts m sw (links sw)) b) out ∙ entry_runs calls port b g) in
        let done : Opened m Fit Keeps held a b e c d =
        record {
          alike = others_alike a b' e.0 alike' ran.others;
          tele = tele_done m Fit Keeps held b' e c d m.property.tele tele ran;
          keeps = ran.keeps;
          rejects = ran.others.cells rejects_register refl;
          reports = ran.reports;
          came = ran.others.values ingress_port refl;
          goes = ran.goes;
        } in
        subst (λ e. Opened m Fit Keeps held a b e c d) (sym same) done

    entry_link : (calls : Calls) (held : Tables) (port : ℕ) (t : T) (a b : Run) (z : Z) (c : ℕ → C) → Alike a b → Taken m Fit Keeps port t b.store → Keeps z c (record { registers = b.cells; tables = held }) → port < 512 → is_in port (links sw) ≡ true
        → Opened m Fit Keeps held a b (meaning_of_stmt calls (entry_stmt m sw (links sw)) b) c (nothing_yet t z)
    entry_link calls held port t a b z c h g keeps lt at =
        let same : meaning_of_stmt calls (entry_stmt m sw (links sw)) b ≡ (b, Go) = entry_test calls port b g.tele.standard g.arrived lt ∙ ap (λ t. if t then (b, Go) else meaning_of calls (entry_stmts m sw (links sw)) b) at in
        let done : Opened m Fit Keeps held a b (b, Go) c (nothing_yet t z) = record { alike = h; tele = g.tele; keeps = keeps; rejects = refl; reports = sym (append-nil (filter is_report b.digests)); came = refl; goes = refl } in
        subst (λ e. Opened m Fit Keeps held a b e c (nothing_yet t z)) (sym same) done

    abbrev Holds : Bool → T → Queued → Queued → Type 0
    Holds first t q q' = HoldsCore m Fit Keeps f links sw first q t q'

    -- both queue the packet, or both drop it
    both_queued : (first : Bool) (port : ℕ) (t : T) (x y : Store) (rest rest' : List ℕ) → HasWidths f x → Alike (bare x) (bare y) → HasTele m Fit Keeps y t → rest' ≡ rest → y.values ingress_port ≡ word 9 port → port < 512 → first ≡ not (is_in port (links sw))
        → SameQueued (Holds first t) (unless_dropped (is_dropped x) (record { store = to_egress f x; rest = rest })) (unless_dropped (is_dropped y) (record { store = to_egress core y; rest = rest' }))
    both_queued first port t x y rest rest' widths h tele same came lt is =
        let drops : is_dropped y ≡ is_dropped x = ap (λ (w : Word). nat_eq w.value 511) (h.values egress_spec refl) in
        let q : Queued = record { store = to_egress f x; rest = rest } in
        let q' : Queued = record { store = to_egress core y; rest = rest' } in
        let held : Holds first t q q' =
        record {
          widths = queued_widths f sound x widths;
          alike = egress_alike m sw (links sw) f decls x y h;
          tele = egress_tele m sw (links sw) f decls Fit Keeps y t tele;
          rest = same;
          going = record { width = refl; low = omega arith };
          spec = record { width = refl; low = omega arith };
          came = port_is (y.values ingress_port) port came lt;
          arrived = is ∙ ap (λ (w : Word). not (is_in w.value (links sw))) (sym came);
        } in
        let queued : (b : Bool) → SameQueued (Holds first t) (unless_dropped b q) (unless_dropped b q') =
        λ b. elim b as (λ b. SameQueued (Holds first t) (unless_dropped b q) (unless_dropped b q')) [ true ↦ tt | false ↦ held ] in
        subst (λ b. SameQueued (Holds first t) (unless_dropped (is_dropped x) q) (unless_dropped b q')) (sym drops) (queued (is_dropped x))

    behind_begun : (port : ℕ) (y : ParserEnd) → Begun m.fields port y.reading.store → Begun m.fields port (plain_store (store_behind y))
    behind_begun port y h =
        record { plain = h.plain; standard = h.standard; invalid = h.invalid; words = has_same tele_header (mark_field ∷ m.fields) (zeros (mark_field ∷ m.fields)) y.reading.store (plain_store (store_behind y)) (λ n. refl) h.words; arrived = h.arrived; spec = h.spec }

    behind_taken : (port : ℕ) (t : T) (y : ParserEnd) → Taken m Fit Keeps port t y.reading.store → Taken m Fit Keeps port t (plain_store (store_behind y))
    behind_taken port t y h =
        let g = h.tele in
        record { tele = record { plain = g.plain; standard = g.standard; valid = g.valid; mark = g.mark; words = has_same tele_header m.fields (m.words t) y.reading.store (plain_store (store_behind y)) (λ n. refl) g.words; fits = g.fits }; arrived = h.arrived; spec = h.spec }

    ingress_keeps : KeepLength (whole core.ingress)
    ingress_keeps =
        both_keep core.ingress.locals core.ingress.body (vars_keep m.entry_locals f.ingress.locals (own_keeps f.ingress.locals own.ingress.locals))
        (((refl, (refl, laws.entry_keeps sw)), tt), own_keeps f.ingress.body own.ingress.body)

    -- what the switches keep
    module _ (a b : Kept) (z : Z) (c : ℕ → C) (k : ℕ) (kept : KeptBy m Fit Keeps f sw a z c k b) where
      -- what actions and tables do, in the forwarding switch, in the linked one, and there before they are rewritten
      abbrev calls : Calls
      calls = calls_of f a.tables

      abbrev core_calls : Calls
      core_calls = calls_in decls.actions decls.tables b.tables

      abbrev linked_calls : Calls
      linked_calls = calls_of linked b.tables

      same_calls : AreAlikeCalls calls core_calls
      same_calls = core_alike m f own decls joins a.tables b.tables kept.tables kept.entries

      means : MeansTops m Fit Keeps b.tables core_calls
      means = core_means m f own decls joins laws.actions_named Fit Keeps b.tables (λ x t is. laws.keeps_named z c b kept.monitor x t is)

      lengths : (n : Word) → AreLengthCalls n core_calls linked_calls
      lengths n = core_lengths m f own decls joins laws.actions_keep n b.tables

      -- behind the program's own variables
      abbrev plain_vars : Run → Run
      plain_vars u = (meaning_of calls f.ingress.locals u).0

      abbrev own_vars : Run → Run
      own_vars v = (meaning_of core_calls f.ingress.locals (begun_run v)).0

      vars_ran : (u v : Run) → Alike u v → Ran (begun_run v) (meaning_of calls f.ingress.locals u) (meaning_of core_calls f.ingress.locals (begun_run v))
      vars_ran u v h = all_ran calls core_calls same_calls f.ingress.locals u (begun_run v) own.ingress.locals (vars_alike m.entry_locals u v entry_mine h)

      fresh_vars : (u v : Run) → Alike u v → HasWords [] (fields_of m.entry_locals) (zeros (fields_of m.entry_locals)) (own_vars v).store
      fresh_vars u v h =
          has_moved [] (fields_of m.entry_locals) (zeros (fields_of m.entry_locals)) (begun_run v).store (own_vars v).store
          (all_region is_mine (λ n. (own_vars v).store.values (n ∷ []) ≡ (begun_run v).store.values (n ∷ [])) (fields_of m.entry_locals) (λ n i. (vars_ran u v h).stays.values (n ∷ []) (ap not i)) entry_mine)
          (vars_fresh m.entry_locals v.store laws.entry_apart)

      -- a linked entry half does what a plain one does, and a part
      abbrev Agrees : (first : Bool) → Doing T Z → (plain linked : pass.Entered) → Type 0
      Agrees first d x y = EnterAgrees net m.property (telemetry_of m) (KeptBy m Fit Keeps f) (HoldsCore m Fit Keeps f links) Fit sw first c k d (entered_of (view_of m.views) a.tables x) (entered_of (λ s. []) b.tables y)

      abbrev LinkedAgrees : (first : Bool) → Doing T Z → (plain linked : pass.Entered) → Type 0
      LinkedAgrees first d x y = EnterAgrees net m.property (telemetry_of m) (KeptBy m Fit Keeps f) (HeldBy m Fit Keeps f links) Fit sw first c k d (entered_of (view_of m.views) a.tables x) (entered_of (λ s. []) b.tables y)

      -- behind the entry statement the program's own ingress runs
      ingress_agrees : (first : Bool) (port : ℕ) (d : Doing T Z) (u v : Run) (rest rest' : List ℕ) → HasWidths f u.store → Alike u v → (own_vars v).cells rejects_register ≡ word 32 (k % 2 ^ 32) ∷ [] → filter is_report (own_vars v).digests ≡ [] → rest' ≡ rest
          → (own_vars v).store.values ingress_port ≡ word 9 port → port < 512 → first ≡ not (is_in port (links sw)) → Opened m Fit Keeps b.tables (plain_vars u) (own_vars v) (meaning_of_stmt core_calls (entry_stmt m sw (links sw)) (own_vars v)) c d
          → Agrees first d (entered_from f a.tables rest u) (entered_from core b.tables rest' v)
      ingress_agrees first port d u v rest rest' widths alike count silent same came lt is h =
          let vars = vars_ran u v alike in
          let e = meaning_of_stmt core_calls (entry_stmt m sw (links sw)) (own_vars v) in
          let body = f.ingress.body in
          let x = (meaning_of calls body (plain_vars u)).0 in
          let y = (meaning_of core_calls body e.0).0 in
          let ran = all_ran calls core_calls same_calls body (plain_vars u) e.0 own.ingress.body h.alike in
          let plain_is : (meaning_of calls (whole f.ingress) u).0 ≡ x =
          ap (λ (r : Ended). r.0) (then_runs calls f.ingress.locals body u) ∙ ap (λ g. (after g (plain_vars u) (meaning_of calls body)).0) vars.goes in
          let core_is : (meaning_of core_calls (whole core.ingress) v).0 ≡ y =
          ap (λ (r : Ended). r.0) (then_runs core_calls core.ingress.locals core.ingress.body v)
          ∙ ap (λ (g : Ended). (after g.1 g.0 (meaning_of core_calls core.ingress.body)).0) (vars_run core_calls m.entry_locals f.ingress.locals v)
          ∙ ap (λ g. (after g (own_vars v) (meaning_of core_calls core.ingress.body)).0) vars.goes_on
          ∙ ap (λ g. (after g e.0 (meaning_of core_calls body)).0) h.goes in
          let told : filter is_report y.digests ≡ map report_digest d.reports = ran.stays.reports ∙ (h.reports ∙ ap (λ l. l ++ map report_digest d.reports) silent) in
          let done : Agrees first d (pass.entered f u.store rest x) (pass.entered core v.store rest' y) =
          record {
            kept =
                record {
                  own = λ n i. ran.alike.cells n i;
                  rejects = ran.stays.cells rejects_register refl ∙ (h.rejects ∙ count);
                  tables = kept.tables;
                  entries = kept.entries;
                  monitor = laws.keeps_same d.sensors c (record { registers = e.0.cells; tables = b.tables }) (record { registers = y.cells; tables = b.tables }) (λ n i. ran.stays.cells n (sensor_mine n i)) (λ n i. refl) h.keeps;
                };
            queued = both_queued first port d.tele x.store y.store rest rest' (calls_widths f a.tables body (plain_vars u) (calls_widths f a.tables f.ingress.locals u widths)) (bare_alike x y ran.alike) (tele_stays m Fit Keeps d.tele e.0 y h.tele ran.stays) same (ran.stays.values ingress_port refl ∙ (h.came ∙ came)) lt is;
            digests = same_digests x y d.reports ran.alike told;
          } in
          subst (λ x. Agrees first d (pass.entered f u.store rest x) (entered_from core b.tables rest' v)) (sym plain_is)
          (subst (λ y. Agrees first d (pass.entered f u.store rest x) (pass.entered core v.store rest' y)) (sym core_is) done)

      -- ---- with the packet's length elsewhere

      -- queued or dropped
      held_plain : (first : Bool) (t : T) (s : Store) (rest : List ℕ) → s.headers (metadata_root ∷ []) ≡ None → (q : Queued) → Holds first t q (record { store = to_egress core (plain_store s); rest = rest }) → HeldBy m Fit Keeps f links sw first q t (record { store = to_egress core s; rest = rest })
      held_plain first t s rest meta q h =
          record { plain = subst (λ u. Holds first t q (record { store = u; rest = rest })) (egress_plain m sw (links sw) f decls s) h; meta = egress_meta m sw (links sw) f decls s meta }

      queued_plain : (first : Bool) (t : T) (b : Bool) (o : Option Queued) (q1 q2 : Queued) → ((q : Queued) → Holds first t q q1 → HeldBy m Fit Keeps f links sw first q t q2) → SameQueued (Holds first t) o (unless_dropped b q1) → SameQueued (λ q q'. HeldBy m Fit Keeps f links sw first q t q') o (unless_dropped b q2)
      queued_plain first t true None q1 q2 f' h = tt
      queued_plain first t true (Some q) q1 q2 f' h = h
      queued_plain first t false None q1 q2 f' h = h
      queued_plain first t false (Some q) q1 q2 f' h = f' q h

      ingress_linked : (first : Bool) (d : Doing T Z) (u v : Run) (rest rest' : List ℕ) → v.store.headers (standard_root ∷ []) ≡ None → v.store.headers (metadata_root ∷ []) ≡ None
          → Agrees first d (entered_from f a.tables rest u) (entered_from core b.tables rest' (plainly v)) → LinkedAgrees first d (entered_from f a.tables rest u) (entered_from linked b.tables rest' v)
      ingress_linked first d u v rest rest' standard meta h =
          let ss = whole core.ingress in
          let x = (meaning_of calls (whole f.ingress) u).0 in
          let y = (meaning_of linked_calls (plain_stmts ss) v).0 in
          let lengths_here = lengths (v.store.values packet_length) in
          let none = plainly_none core_calls linked_calls ss v lengths_here ingress_keeps standard meta in
          let g : Agrees first d (pass.entered f u.store rest x) (pass.entered core (plainly v).store rest' (plainly y)) =
          subst (λ r. Agrees first d (pass.entered f u.store rest x) (pass.entered core (plainly v).store rest' r)) (sym (plainly_run core_calls linked_calls ss v lengths_here ingress_keeps standard meta)) h in
          let done : LinkedAgrees first d (pass.entered f u.store rest x) (pass.entered linked v.store rest' y) =
          record {
            kept = g.kept;
            queued = queued_plain first d.tele (is_dropped y.store) (unless_dropped (is_dropped x.store) (record { store = to_egress f x.store; rest = rest })) (record { store = to_egress core (plain_store y.store); rest = rest' }) (record { store = to_egress core y.store; rest = rest' })
                (λ q held. held_plain first d.tele y.store rest' none.1 q held) g.queued;
            digests = g.digests;
          } in
          subst (λ t. LinkedAgrees first d (entered_from f a.tables rest u) (pass.entered linked v.store rest' (meaning_of linked_calls t v).0)) (plain_then core.ingress.locals core.ingress.body) done

      -- what the header variables read behind the forwarding program's parser
      abbrev pub entry_view : (port : ℕ) → List ℕ → List Word
      entry_view port frame = view_of m.views (parts_enter f a.tables a.registers port frame).entry_state

      -- a frame by an edge port: init runs
      pub enter_edge : (port : ℕ) (t : T) (frame : List ℕ) → port < 512 → is_in port (links sw) ≡ false → t ≡ m.property.tele
          → LinkedAgrees true (entry_part m.property (reads_at sw true false (entry_view port frame) c) t z) (parts_enter f a.tables a.registers port frame) (parts_enter linked b.tables b.registers port frame)
      unfolding parts_enter
      enter_edge port t frame lt out start =
          let x = plain_end m Fit Keeps FitView IsVariable IsFitContents laws f own sw (links sw) low decls port frame in
          let y = linked_end m Fit Keeps FitView IsVariable IsFitContents laws f own sw (links sw) low decls port frame in
          let h = edge_parsed m Fit Keeps FitView IsVariable IsFitContents laws f own sw (links sw) low decls port frame lt out in
          let near = behind_near x y h.alike h.error in
          let u = run_from (store_behind x) a.registers in
          let v = run_from (store_behind y) b.registers in
          let ran = all_ran no_calls no_calls no_calls_alike f.verify u (plainly v) own.verify (near_run (store_behind x) (store_behind y) a.registers b.registers near kept.own) in
          let u' = (meaning_of no_calls f.verify u).0 in
          let v' = (meaning_of no_calls f.verify (plainly v)).0 in
          let widths = entry_widths f sound port frame u refl in
          let w = own_vars v' in
          let vars = vars_ran u' v' ran.alike in
          let g = begun_stays m.fields port (begun_run v') w (begun_vars port v'.store (begun_stays m.fields port (plainly v) v' (behind_begun port y h.fact) ran.stays)) vars.stays in
          let keeps = laws.keeps_same z c b (record { registers = w.cells; tables = b.tables }) (λ n i. vars.stays.cells n (sensor_mine n i) ∙ ran.stays.cells n (sensor_mine n i)) (λ n i. refl) kept.monitor in
          let view = view_of m.views u'.store in
          let d = m.property.init (reads_at sw true false view c) (nothing_yet m.property.tele z) in
          let ended = entry_edge core_calls b.tables means port view (plain_vars u') w z c vars.alike g (fresh_vars u' v' ran.alike) keeps (view_vars calls u') (fit_views u'.store widths) lt out in
          let core_done = ingress_agrees true port d u' v' x.reading.rest y.reading.rest widths ran.alike (vars.stays.cells rejects_register refl ∙ (ran.stays.cells rejects_register refl ∙ kept.rejects)) (vars.stays.reports ∙ ran.stays.reports) h.rest g.arrived lt (ap not (sym out)) ended in
          let keep = own_keeps f.verify own.verify in
          let none = plainly_none no_calls no_calls f.verify v (no_length_calls (v.store.values packet_length)) keep near.standard near.meta in
          let r = (meaning_of no_calls (plain_stmts f.verify) v).0 in
          let done = ingress_linked true d u' r x.reading.rest y.reading.rest none.0 none.1
          (subst (λ r. Agrees true d (entered_from f a.tables x.reading.rest u') (entered_from core b.tables y.reading.rest r)) (sym (plainly_run no_calls no_calls f.verify v (no_length_calls (v.store.values packet_length)) keep near.standard near.meta)) core_done) in
          subst (λ t. LinkedAgrees true (m.property.init (reads_at sw true false view c) (nothing_yet t z)) (parts_enter f a.tables a.registers port frame) (parts_enter linked b.tables b.registers port frame)) (sym start) done

      -- a frame by a link: nothing is done
      pub enter_link : (port : ℕ) (t : T) (frame : List ℕ) → port < 512 → is_in port (links sw) ≡ true → Fit t
          → LinkedAgrees false (entry_part m.property (reads_at sw false false (entry_view port frame) c) t z) (parts_enter f a.tables a.registers port frame) (parts_enter linked b.tables b.registers port (tele_bytes m.mark (m.words t) ++ frame))
      unfolding parts_enter
      enter_link port t frame lt at fits =
          let x = plain_end m Fit Keeps FitView IsVariable IsFitContents laws f own sw (links sw) low decls port frame in
          let y = linked_end m Fit Keeps FitView IsVariable IsFitContents laws f own sw (links sw) low decls port (tele_bytes m.mark (m.words t) ++ frame) in
          let h = link_parsed m Fit Keeps FitView IsVariable IsFitContents laws f own sw (links sw) low decls port frame t lt at fits in
          let near = behind_near x y h.alike h.error in
          let u = run_from (store_behind x) a.registers in
          let v = run_from (store_behind y) b.registers in
          let ran = all_ran no_calls no_calls no_calls_alike f.verify u (plainly v) own.verify (near_run (store_behind x) (store_behind y) a.registers b.registers near kept.own) in
          let u' = (meaning_of no_calls f.verify u).0 in
          let v' = (meaning_of no_calls f.verify (plainly v)).0 in
          let widths = entry_widths f sound port frame u refl in
          let w = own_vars v' in
          let vars = vars_ran u' v' ran.alike in
          let g = taken_stays m Fit Keeps port t (begun_run v') w (taken_vars port t v'.store (taken_stays m Fit Keeps port t (plainly v) v' (behind_taken port t y h.fact) ran.stays)) vars.stays in
          let keeps = laws.keeps_same z c b (record { registers = w.cells; tables = b.tables }) (λ n i. vars.stays.cells n (sensor_mine n i) ∙ ran.stays.cells n (sensor_mine n i)) (λ n i. refl) kept.monitor in
          let d = nothing_yet t z in
          let ended = entry_link core_calls b.tables port t (plain_vars u') w z c vars.alike g keeps lt at in
          let core_done = ingress_agrees false port d u' v' x.reading.rest y.reading.rest widths ran.alike (vars.stays.cells rejects_register refl ∙ (ran.stays.cells rejects_register refl ∙ kept.rejects)) (vars.stays.reports ∙ ran.stays.reports) h.rest g.arrived lt (ap not (sym at)) ended in
          let keep = own_keeps f.verify own.verify in
          let none = plainly_none no_calls no_calls f.verify v (no_length_calls (v.store.values packet_length)) keep near.standard near.meta in
          let r = (meaning_of no_calls (plain_stmts f.verify) v).0 in
          ingress_linked false d u' r x.reading.rest y.reading.rest none.0 none.1
          (subst (λ r. Agrees false d (entered_from f a.tables x.reading.rest u') (entered_from core b.tables y.reading.rest r)) (sym (plainly_run no_calls no_calls f.verify v (no_length_calls (v.store.values packet_length)) keep near.standard near.meta)) core_done)
