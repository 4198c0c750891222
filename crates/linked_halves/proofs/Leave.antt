-- The exit half of the linked program. The program's own egress does the same in both runs, so both drop the
-- packet, or both go on by one port. The linked run then has what the exit part leaves. Onto a link the header goes
-- with the frame; at an edge it is made invalid, and a rejected packet is dropped. Behind egress own code runs once
-- more, in compute checksum, and changes none of this.
use Rattle.std.proofs.Common.{◌≡◌, ℕ, ◌+◌, ◌%◌, ◌^◌, ◌<◌, List, [], ◌∷◌, ◌++◌, map, Bool, true, false, not, cond, Some, None, refl, sym, ap, ap₂, ◌∙◌, subst, arith, append_assoc, add-zero}
use Rattle.std.specs.Prelude.{if◌then◌else◌, nat_eq}
use Rattle.std.specs.Option.{option_map}
use Rattle.std.specs.List.{filter, AllByRecursion}
use Rattle.std.proofs.Math.Nat.{mod-eq_of_lt}
use Rattle.bit_values.specs.Bits.{Word, word, cast}
use Rattle.bit_values.specs.Widths.{bit}
use Rattle.bit_values.specs.BitLists.{number_bits}
use Rattle.bit_writer.specs.Bytes.{words_bits, bytes_of}
use Rattle.lex_text.specs.Names.{same_path}
use Rattle.p4_tree.specs.Tree.{path, done, next}
use Rattle.p4_meaning.specs.Standard.{metadata_root, standard_root, packet_length, ingress_port, egress_spec, egress_port}
use Rattle.p4_meaning.specs.Store.{Store, set_value}
use Rattle.p4_meaning.specs.Statements.{Calls, no_calls, Go, Run, Ended, after, in_store, meaning_of_stmt, meaning_of}
use Rattle.p4_meaning.specs.Parsing.{Field, Header, fields_bits, header_bits, if_valid, deparse_of}
use Rattle.p4_meaning.specs.Tables.{Tables, calls_in}
use Rattle.p4_meaning.specs.Parts.{Parts, whole}
use Rattle.p4_meaning.specs.Pass as pass
use Rattle.p4_meaning.specs.Pass.{Kept, Queued, calls_of, run_from, is_dropped, unless_dropped, left_behind, parts_leave}
use Rattle.p4_meaning.proofs.Sequences.{then_runs}
use Rattle.network_run.specs.Machine.{Going, Leaving}
use Rattle.network_run.specs.Network.{Wiring, at_edge}
use Rattle.network_run.specs.PathMeaning.{Reads, Doing, reads_at, exit_part}
use Rattle.linkage.specs.HalvesLaws.{carried, SameGoing, DropAgrees, GoAgrees, LeaveAgrees}
use Rattle.switch_machines.specs.Programs.{view_of, network_digest, going_of, leaving_of}
use Rattle.own_code.specs.Regions.{is_mine, is_free, is_writable, is_own_header}
use Rattle.own_code.specs.Forwarding.{IsForwarding}
use Rattle.own_code.specs.Relations.{is_report, bare, Alike, IsPort}
use Rattle.own_code.specs.OwnCode.{Ran, AreAlikeCalls}
use Rattle.own_code.proofs.Apart.{both_left, field_writable, apart, apart_names, free_apart}
use Rattle.own_code.proofs.Own.{stays_then, no_calls_alike, all_ran}
use Rattle.packet_lengths.specs.Lengths.{length_path, plain_stmts, KeepLength, AreLengthCalls, plain_store, plainly}
use Rattle.packet_lengths.proofs.Values.{flipped}
use Rattle.packet_lengths.proofs.Lengths.{no_length_calls}
use Rattle.packet_lengths.proofs.Plainly.{plainly_run, plainly_none}
use Rattle.packet_lengths.proofs.Near.{own_keeps, both_keep}
use Rattle.monitor_laws.specs.Names.{tele_header, mark_path, rejects_register, first_name, last_name, is_lowered, is_sensor}
use Rattle.monitor_laws.specs.Telemetry.{mark_field, mark_word, tele_bytes, AreFor, HasWords, zeros}
use Rattle.monitor_laws.specs.Trees.{only_if}
use Rattle.monitor_laws.specs.Monitor.{Monitor, flag_locals, fields_of, telemetry_of}
use Rattle.monitor_laws.specs.MonitorLaws.{report_digest, Flags, MeansTops, HasTele, StandsFor, Does, MonitorLaws}
use Rattle.monitor_laws.proofs.Paths.{sensor_mine}
use Rattle.monitor_laws.proofs.Fields.{has_same, has_moved, all_region}
use Rattle.monitor_laws.proofs.Bytes.{IsWhole, words_written, bytes_of-append, whole_byte, whole_words}
use Rattle.monitor_laws.proofs.Frames.{others_alike, view_alike, zeroed_vars, vars_other, vars_headers, vars_alike, vars_fresh}
use Rattle.linked_halves.specs.Widths.{HasWidths}
use Rattle.linked_halves.specs.Statements.{end_stmts, exit_stmts, exit_stmt}
use Rattle.linked_halves.specs.LinkedParts.{Declarations, Joins, core_parts, linked_parts}
use Rattle.linked_halves.specs.Held.{is_in, KeptBy, HoldsCore, HeldBy}
use Rattle.linked_halves.proofs.Widths.{calls_widths}
use Rattle.linked_halves.proofs.LinkedCalls.{core_alike, core_means, core_lengths}
use Rattle.linked_halves.proofs.Parse.{deparsed_same}
use Rattle.linked_halves.proofs.EnterParse.{tele_stays}
use Rattle.linked_halves.proofs.Enter.{same_digests, tele_done, vars_run, vars_keep, plain_then}
use Rattle.linked_halves.proofs.ExitRuns.{last_run, run_unless, raised, counted, closed, flagged, exit_test, flags_run, rest_runs, end_runs}

-- a word of a known width
word_is : (w : Word) (n : ℕ) → w.width ≡ n → w ≡ word n w.value
word_is w n e = ap (λ k. word k w.value) e

-- a flag of the monitor's is set
flag_alike : (a b : Run) (p : List (List ℕ)) (w : Word) → is_free p ≡ false → Alike a b → Alike a (in_store b (set_value b.store p w))
flag_alike a b p w o h =
    record { values = λ q i. ap (λ t. cond t w (b.store.values q)) (free_apart p q o i) ∙ h.values q i; headers = λ q i. h.headers q i; cells = λ x i. h.cells x i; digests = h.digests }

-- a run that went on
gone : (e : Ended) → e.1 ≡ Go → e ≡ (e.0, Go)
gone e h = ap (λ g. (e.0, g)) h

module _ {T Z C : Type 0} (m : Monitor T Z C) (Fit : T → Type 0) (Keeps : Z → (ℕ → C) → Kept → Type 0) (FitView : List Word → Type 0) (IsVariable : ℕ → Type 0) (IsFitContents : (variable : ℕ) → C → Type 0)
    (laws : MonitorLaws m Fit Keeps FitView IsVariable IsFitContents) (f : Parts) (own : IsForwarding f) (fit_views : (s : Store) → HasWidths f s → FitView (view_of m.views s)) (sw : ℕ) (links : ℕ → List ℕ) (low : AllByRecursion (λ n. n < 512) (links sw))
    (decls : Declarations) (joins : Joins m f decls)
  where
    -- before reads of the packet's length are rewritten, and then
    abbrev core : Parts
    core = core_parts m sw (links sw) f decls

    abbrev linked : Parts
    linked = linked_parts m sw (links sw) f decls

    -- the bytes of a frame, from its headers and the bits that were not consumed
    abbrev bytes_from : Parts → List ℕ → Run → List ℕ
    bytes_from parts rest r = bytes_of (deparse_of parts.headers parts.emits r.store ++ rest)

    all_for : (t : T) → Fit t → AreFor (mark_field ∷ m.fields) (mark_word m.mark ∷ m.words t)
    all_for t fits = (refl, laws.marked, laws.fitting t fits)

    all_whole : (t : T) → Fit t → IsWhole (words_bits (mark_word m.mark ∷ m.words t))
    all_whole t fits = whole_byte m.mark (words_bits (m.words t)) (whole_words m.room m.fields (m.words t) (laws.fitting t fits) laws.whole)

    -- before the frame stands the telemetry where the header is still there, and nothing where it is invalid
    bytes_with : (a b : Run) (t : T) (rest : List ℕ) → Alike a b → HasTele m Fit Keeps b.store t → bytes_from core rest b ≡ tele_bytes m.mark (m.words t) ++ bytes_from f rest a
    bytes_with a b t rest h g =
        let bits = words_bits (mark_word m.mark ∷ m.words t) in
        let mine = ap₂ if_valid g.valid (words_written tele_header (mark_field ∷ m.fields) (mark_word m.mark ∷ m.words t) b.store (all_for t g.fits) (g.mark, g.words)) in
        let others = deparsed_same m.fields f.headers own.headers f.emits a b own.emits h in
        ap₂ (λ (u v : List ℕ). bytes_of ((u ++ v) ++ rest)) mine others
        ∙ ap bytes_of (append_assoc bits (deparse_of f.headers f.emits a.store) rest)
        ∙ bytes_of-append bits (deparse_of f.headers f.emits a.store ++ rest) (all_whole t g.fits)

    bytes_without : (a b : Run) (rest : List ℕ) → Alike a b → b.store.headers tele_header ≡ Some false → bytes_from core rest b ≡ bytes_from f rest a
    bytes_without a b rest h g =
        ap₂ (λ o v. bytes_of ((if_valid o (fields_bits tele_header (mark_field ∷ m.fields) b.store) ++ v) ++ rest)) g (deparsed_same m.fields f.headers own.headers f.emits a b own.emits h)

    -- behind compute checksum, which sees the store alone and is the same in both programs
    abbrev computed : Run → Run
    computed r = (meaning_of no_calls f.compute (bare r.store)).0

    -- the frame that leaves where egress ended in this run
    abbrev frame_of : Parts → List ℕ → Run → List ℕ
    frame_of parts rest r = bytes_from parts rest (computed r)

    compute_ran : (a b : Run) → Alike a b → Ran (bare b.store) (meaning_of no_calls f.compute (bare a.store)) (meaning_of no_calls f.compute (bare b.store))
    compute_ran a b h = all_ran no_calls no_calls no_calls_alike f.compute (bare a.store) (bare b.store) own.compute (record { values = λ q i. h.values q i; headers = λ q i. h.headers q i; cells = λ x i. refl; digests = refl })

    frame_with : (a b : Run) (t : T) (rest : List ℕ) → Alike a b → HasTele m Fit Keeps b.store t → frame_of core rest b ≡ tele_bytes m.mark (m.words t) ++ frame_of f rest a
    frame_with a b t rest h g =
        let ran = compute_ran a b h in
        bytes_with (computed a) (computed b) t rest ran.alike (tele_stays m Fit Keeps t (bare b.store) (computed b) g ran.stays)

    frame_without : (a b : Run) (rest : List ℕ) → Alike a b → b.store.headers tele_header ≡ Some false → frame_of core rest b ≡ frame_of f rest a
    frame_without a b rest h g =
        let ran = compute_ran a b h in
        bytes_without (computed a) (computed b) rest ran.alike (ran.stays.headers tele_header refl ∙ g)

    -- the variables of the control
    abbrev exit_vars : List Field
    exit_vars = fields_of (flag_locals ++ m.exit_locals)

    exit_mine : AllByRecursion (λ g. is_mine g.name ≡ true) exit_vars
    exit_mine = (refl, (refl, (refl, all_region (λ n. is_lowered (n ∷ [])) (λ n. is_mine n ≡ true) (fields_of m.exit_locals) (λ n h. both_left (is_mine n) _ h) laws.exit_vars)))

    -- a passage's exit half
    module _ (net : Wiring) (k : ℕ) (first : Bool) (c : ℕ → C) (wired : (port : ℕ) → is_in port (links sw) ≡ not (at_edge net sw port)) (a b : Kept) (z : Z) (t : T) (q q' : Queued) (kept : KeptBy m Fit Keeps f sw a z c k b) (held : HoldsCore m Fit Keeps f links sw first q t q') where
      -- what actions and tables do, in the forwarding switch and in the linked one before they are rewritten
      abbrev calls : Calls
      calls = calls_of f a.tables

      abbrev core_calls : Calls
      core_calls = calls_in decls.actions decls.tables b.tables

      same_calls : AreAlikeCalls calls core_calls
      same_calls = core_alike m f own decls joins a.tables b.tables kept.tables kept.entries

      means : MeansTops m Fit Keeps b.tables core_calls
      means = core_means m f own decls joins laws.actions_named Fit Keeps b.tables (λ x t is. laws.keeps_named z c b kept.monitor x t is)

      -- in front of egress, where the control's variables are 0
      abbrev begun_run : Run
      begun_run = in_store (run_from q'.store b.registers) (zeroed_vars (flag_locals ++ m.exit_locals) q'.store)

      begun_alike : Alike (run_from q.store a.registers) begun_run
      begun_alike = vars_alike (flag_locals ++ m.exit_locals) (run_from q.store a.registers) (run_from q'.store b.registers) exit_mine (record { values = λ x i. held.alike.values x i; headers = λ x o. held.alike.headers x o; cells = kept.own; digests = refl })

      begun_tele : HasTele m Fit Keeps begun_run.store t
      begun_tele =
          let headers = vars_headers (flag_locals ++ m.exit_locals) q'.store in
          record {
            plain = ap (λ g. g []) headers ∙ held.tele.plain;
            standard = ap (λ g. g (standard_root ∷ [])) headers ∙ held.tele.standard;
            valid = ap (λ g. g tele_header) headers ∙ held.tele.valid;
            mark = vars_other (flag_locals ++ m.exit_locals) q'.store mark_path exit_mine refl ∙ held.tele.mark;
            words = has_same tele_header m.fields (m.words t) q'.store begun_run.store (λ n. vars_other (flag_locals ++ m.exit_locals) q'.store (tele_header ++ n ∷ []) exit_mine refl) held.tele.words;
            fits = held.tele.fits;
          }

      -- behind the program's own variables
      abbrev plain_vars : Run
      plain_vars = (meaning_of calls f.egress.locals (run_from q.store a.registers)).0

      abbrev own_begun : Run
      own_begun = (meaning_of core_calls f.egress.locals begun_run).0

      -- behind egress: in the forwarding program, in the core one the own part alone, and all of it
      abbrev plain_run : Run
      plain_run = (meaning_of calls f.egress.body plain_vars).0

      abbrev own_run : Run
      own_run = (meaning_of core_calls f.egress.body own_begun).0

      abbrev whole_run : Run
      whole_run = (meaning_of core_calls (whole core.egress) (run_from q'.store b.registers)).0

      vars_ran : Ran begun_run (meaning_of calls f.egress.locals (run_from q.store a.registers)) (meaning_of core_calls f.egress.locals begun_run)
      vars_ran = all_ran calls core_calls same_calls f.egress.locals (run_from q.store a.registers) begun_run own.egress.locals begun_alike

      body_ran : Ran own_begun (meaning_of calls f.egress.body plain_vars) (meaning_of core_calls f.egress.body own_begun)
      body_ran = all_ran calls core_calls same_calls f.egress.body plain_vars own_begun own.egress.body vars_ran.alike

      ran : Ran begun_run (meaning_of calls f.egress.body plain_vars) (meaning_of core_calls f.egress.body own_begun)
      ran = record { alike = body_ran.alike; stays = stays_then begun_run own_begun own_run vars_ran.stays body_ran.stays; goes = body_ran.goes; goes_on = body_ran.goes_on }

      own_tele : HasTele m Fit Keeps own_run.store t
      own_tele = tele_stays m Fit Keeps t begun_run own_run begun_tele ran.stays

      own_vars : HasWords [] exit_vars (zeros exit_vars) own_run.store
      own_vars =
          has_moved [] exit_vars (zeros exit_vars) begun_run.store own_run.store
          (all_region is_mine (λ n. own_run.store.values (n ∷ []) ≡ begun_run.store.values (n ∷ [])) exit_vars (λ n h. ran.stays.values (n ∷ []) (ap not h)) exit_mine)
          (vars_fresh (flag_locals ++ m.exit_locals) q'.store laws.exit_apart)

      -- what the linked switch keeps where a run ended so
      abbrev kept_now : Run → Kept
      kept_now r = record { registers = r.cells; tables = b.tables }

      own_kept : Keeps z c (kept_now own_run)
      own_kept = laws.keeps_same z c b (kept_now own_run) (λ n i. ran.stays.cells n (sensor_mine n i)) (λ n i. refl) kept.monitor

      -- the ports
      own_port : own_run.store.values egress_port ≡ q'.store.values egress_port
      own_port = ran.stays.values egress_port refl ∙ vars_other (flag_locals ++ m.exit_locals) q'.store egress_port exit_mine refl

      own_came : own_run.store.values ingress_port ≡ q'.store.values ingress_port
      own_came = ran.stays.values ingress_port refl ∙ vars_other (flag_locals ++ m.exit_locals) q'.store ingress_port exit_mine refl

      own_spec : IsPort (own_run.store.values egress_spec)
      own_spec = ran.stays.spec (subst IsPort (sym (vars_other (flag_locals ++ m.exit_locals) q'.store egress_spec exit_mine refl)) held.spec)

      same_port : own_run.store.values egress_port ≡ plain_run.store.values egress_port
      same_port = ran.alike.values egress_port refl

      same_drop : is_dropped own_run.store ≡ is_dropped plain_run.store
      same_drop = ap (λ (w : Word). nat_eq w.value 511) (ran.alike.values egress_spec refl)

      own_reports : filter is_report own_run.digests ≡ []
      own_reports = ran.stays.reports

      own_rejects : own_run.cells rejects_register ≡ word 32 (k % 2 ^ 32) ∷ []
      own_rejects = ran.stays.cells rejects_register refl ∙ kept.rejects

      whole_is : whole_run ≡ (if is_dropped own_run.store then own_run else (meaning_of core_calls (exit_stmts m sw (links sw)) own_run).0)
      whole_is =
          let tail = next (exit_stmt m sw (links sw)) done in
          ap (λ (e : Ended). e.0) (then_runs core_calls core.egress.locals core.egress.body (run_from q'.store b.registers))
          ∙ ap (λ (g : Ended). (after g.1 g.0 (meaning_of core_calls core.egress.body)).0) (vars_run core_calls (flag_locals ++ m.exit_locals) f.egress.locals (run_from q'.store b.registers))
          ∙ ap (λ g. (after g own_begun (meaning_of core_calls core.egress.body)).0) vars_ran.goes_on
          ∙ ap (λ (e : Ended). e.0) (then_runs core_calls f.egress.body tail own_begun ∙ ap (λ g. after g own_run (meaning_of core_calls tail)) ran.goes_on)
          ∙ last_run core_calls (meaning_of_stmt core_calls (exit_stmt m sw (links sw)) own_run)
          ∙ ap (λ (e : Ended). e.0) (exit_test m sw (links sw) low core_calls own_run own_tele.standard own_spec)
          ∙ run_unless (is_dropped own_run.store) own_run (meaning_of core_calls (exit_stmts m sw (links sw)) own_run)

      -- what is sent where egress ended so
      abbrev plain_leaving : Leaving Kept
      plain_leaving = leaving_of (view_of m.views) a.tables (left_behind f q.rest plain_run)

      abbrev linked_leaving : Run → Leaving Kept
      linked_leaving r = leaving_of (λ s. []) b.tables (left_behind core q'.rest r)

      abbrev sent : pass.Going
      sent = record { port = cast 9 (plain_run.store.values egress_port).value; frame = frame_of f q.rest plain_run; exit_state = plain_run.store }

      abbrev linked_sent : Run → pass.Going
      linked_sent r = record { port = cast 9 (r.store.values egress_port).value; frame = frame_of core q'.rest r; exit_state = r.store }

      abbrev view : List Word
      view = view_of m.views plain_run.store

      fit_view : FitView view
      fit_view = fit_views plain_run.store (calls_widths f a.tables f.egress.body plain_vars (calls_widths f a.tables f.egress.locals (run_from q.store a.registers) held.widths))

      abbrev going : Going
      going = record { port = sent.port; frame = sent.frame; view = view }

      -- the forwarding program drops the packet
      abbrev Drops : Run → Type 0
      Drops r = DropAgrees net m.property (telemetry_of m) (KeptBy m Fit Keeps f) (HeldBy m Fit Keeps f links) Fit sw c k z plain_leaving (linked_leaving r)

      drops : is_dropped plain_run.store ≡ true → Drops whole_run
      drops e =
          let dropped : is_dropped own_run.store ≡ true = same_drop ∙ e in
          let same : whole_run ≡ own_run = whole_is ∙ ap (λ d. if d then own_run else (meaning_of core_calls (exit_stmts m sw (links sw)) own_run).0) dropped in
          let all : Drops own_run =
          record {
            kept = record { own = λ x i. ran.alike.cells x i; rejects = own_rejects; tables = kept.tables; entries = kept.entries; monitor = own_kept };
            going = ap (λ d. option_map (going_of (λ s. [])) (unless_dropped d (linked_sent own_run))) dropped;
            digests = same_digests plain_run own_run [] ran.alike own_reports;
          } in
          subst Drops (sym same) all

      -- it sends the packet, and the exit part follows
      abbrev reads : Bool → Reads C
      reads last = reads_at sw first last view c

      abbrev part : Bool → Doing T Z
      part last = exit_part m.property (reads last) t z

      abbrev Agrees : Bool → Doing T Z → Run → Type 0
      Agrees last d r = GoAgrees net m.property (telemetry_of m) (KeptBy m Fit Keeps f) (HeldBy m Fit Keeps f links) Fit sw last c k d plain_leaving going (linked_leaving r)

      -- a run that goes on by the same port, with a frame
      goes_by : (last : Bool) (t' : T) (r : Run) → is_dropped plain_run.store ≡ false → r.store.values egress_port ≡ own_run.store.values egress_port → r.store.values egress_spec ≡ own_run.store.values egress_spec → frame_of core q'.rest r ≡ carried (telemetry_of m) last t' going.frame
          → SameGoing (telemetry_of m) last false t' going (linked_leaving r).going
      goes_by last t' r undropped port spec frame =
          let P : Bool → Type 0 = λ d. SameGoing (telemetry_of m) last false t' going (option_map (going_of (λ s. [])) (unless_dropped d (linked_sent r))) in
          let up : is_dropped r.store ≡ false = ap (λ (w : Word). nat_eq w.value 511) spec ∙ (same_drop ∙ undropped) in
          let here : P false = (ap (λ (w : Word). cast 9 w.value) (port ∙ same_port), frame) in
          subst P (sym up) here

      module _ (undropped : is_dropped plain_run.store ≡ false) (last : Bool) (at : is_in going.port (links sw) ≡ not last) where
        -- the flags are set
        abbrev flag_run : Run
        flag_run = flagged first last own_run

        flag_run_alike : Alike plain_run flag_run
        flag_run_alike =
            flag_alike plain_run (in_store own_run (set_value own_run.store (first_name ∷ []) (bit first))) (last_name ∷ []) (bit last) refl
            (flag_alike plain_run own_run (first_name ∷ []) (bit first) refl ran.alike)

        flag_tele : HasTele m Fit Keeps flag_run.store t
        flag_tele =
            let g = own_tele in
            record { plain = g.plain; standard = g.standard; valid = g.valid; mark = g.mark; words = has_same tele_header m.fields (m.words t) own_run.store flag_run.store (λ n. refl) g.words; fits = g.fits }

        flag_fresh : HasWords [] (fields_of m.exit_locals) (zeros (fields_of m.exit_locals)) flag_run.store
        flag_fresh =
            let same : (n : List ℕ) → is_lowered (n ∷ []) ≡ true → flag_run.store.values (n ∷ []) ≡ own_run.store.values (n ∷ []) =
            λ n h. ap (λ t. cond t (bit last) (cond (same_path (first_name ∷ []) (n ∷ [])) (bit first) (own_run.store.values (n ∷ [])))) (apart (λ q. not (is_lowered q)) (last_name ∷ []) (n ∷ []) refl (ap not h))
            ∙ ap (λ t. cond t (bit first) (own_run.store.values (n ∷ []))) (apart (λ q. not (is_lowered q)) (first_name ∷ []) (n ∷ []) refl (ap not h)) in
            has_moved [] (fields_of m.exit_locals) (zeros (fields_of m.exit_locals)) own_run.store flag_run.store
            (all_region (λ n. is_lowered (n ∷ [])) (λ n. flag_run.store.values (n ∷ []) ≡ own_run.store.values (n ∷ [])) (fields_of m.exit_locals) same laws.exit_vars) own_vars.1.1.1

        flags : Flags first last flag_run.store
        flags = record { is_first = refl; is_last = refl; is_rejected = own_vars.1.1.0 }

        stands : StandsFor m Fit Keeps (fields_of m.exit_locals) b.tables flag_run (reads last) t z
        stands = record { tele = flag_tele; keeps = own_kept; view = view_alike m.views plain_run flag_run flag_run_alike laws.views; fresh = flag_fresh }

        -- the exit part ran
        abbrev ended : Ended
        ended = meaning_of core_calls (m.exit sw) flag_run

        abbrev told : Run
        told = ended.0

        does : Does m Fit Keeps b.tables flag_run ended c (part last)
        does = laws.exit core_calls b.tables means flag_run (reads last) t z flags fit_view stands

        told_tele : HasTele m Fit Keeps told.store (part last).tele
        told_tele = tele_done m Fit Keeps b.tables flag_run ended c (part last) t flag_tele does

        told_alike : Alike plain_run told
        told_alike = others_alike plain_run flag_run told flag_run_alike does.others

        told_rejects : told.cells rejects_register ≡ word 32 (k % 2 ^ 32) ∷ []
        told_rejects = does.others.cells rejects_register refl ∙ own_rejects

        told_reports : filter is_report told.digests ≡ map report_digest (part last).reports
        told_reports = does.reports ∙ ap (λ l. l ++ map report_digest (part last).reports) own_reports

        told_port : told.store.values egress_port ≡ own_run.store.values egress_port
        told_port = does.others.values egress_port refl

        told_spec : told.store.values egress_spec ≡ own_run.store.values egress_spec
        told_spec = does.others.values egress_spec refl

        told_last : told.store.values (last_name ∷ []) ≡ bit last
        told_last = does.others.values (last_name ∷ []) refl

        whole_told : whole_run ≡ (if last then (meaning_of core_calls end_stmts told).0 else told)
        whole_told =
            let i = (q'.store.values ingress_port).value in
            let n = (own_run.store.values egress_port).value in
            let width : (own_run.store.values egress_port).width ≡ 9 = ap (λ (w : Word). w.width) own_port ∙ held.going.width in
            let lt : n < 512 = subst (λ (w : Word). w.value < 512) (sym own_port) held.going.low in
            let same : n ≡ going.port = sym (mod-eq_of_lt lt) ∙ ap (λ (w : Word). cast 9 w.value) same_port in
            whole_is
            ∙ ap (λ d. if d then own_run else (meaning_of core_calls (exit_stmts m sw (links sw)) own_run).0) (same_drop ∙ undropped)
            ∙ ap (λ (e : Ended). e.0) (flags_run m sw (links sw) low core_calls own_run i n first last own_tele.plain own_tele.standard own_vars.0 own_vars.1.0
            (own_came ∙ word_is (q'.store.values ingress_port) 9 held.came.width) held.came.low held.arrived (word_is (own_run.store.values egress_port) 9 width) lt (ap (λ n. is_in n (links sw)) same ∙ at))
            ∙ rest_runs m sw (links sw) low core_calls flag_run told last (gone ended does.goes) told_tele.plain told_last

      -- onto a link
      goes_link : is_dropped plain_run.store ≡ false → is_in going.port (links sw) ≡ true → Agrees false (part false) whole_run
      goes_link up at =
          let h = does up false at in
          let r = told up false at in
          let alike = told_alike up false at in
          let frame = ap (λ l. frame_of core l r) held.rest ∙ frame_with plain_run r (part false).tele q.rest alike (told_tele up false at) in
          let all : Agrees false (part false) r =
          record {
            kept = record { own = λ x i. alike.cells x i; rejects = told_rejects up false at ∙ ap (λ j. word 32 (j % 2 ^ 32) ∷ []) (sym (add-zero k)); tables = kept.tables; entries = kept.entries; monitor = h.keeps };
            fit = h.fits;
            going = goes_by false (part false).tele r up (told_port up false at) (told_spec up false at) frame;
            digests = same_digests plain_run r (part false).reports alike (told_reports up false at);
          } in
          subst (λ r. Agrees false (part false) r) (sym (whole_told up false at)) all

      -- out by an edge: the checker ran too
      module _ (up : is_dropped plain_run.store ≡ false) (at : is_in going.port (links sw) ≡ false) where
        abbrev checked : Run
        checked = told up true at

        closed_alike : Alike plain_run (closed checked)
        closed_alike =
            let h = told_alike up true at in
            record {
              values = λ x i. h.values x i;
              headers = λ x o. ap (λ b. if b then Some false else checked.store.headers x) (free_apart tele_header x refl o) ∙ h.headers x o;
              cells = λ x i. h.cells x i;
              digests = h.digests;
            }

        -- the packet leaves
        passes : Agrees true (record (part true) { rejected = false }) (closed checked)
        passes =
            let h = does up true at in
            let frame = ap (λ l. frame_of core l (closed checked)) held.rest ∙ frame_without plain_run (closed checked) q.rest closed_alike refl in
            record {
              kept = record { own = λ x i. closed_alike.cells x i; rejects = told_rejects up true at ∙ ap (λ j. word 32 (j % 2 ^ 32) ∷ []) (sym (add-zero k)); tables = kept.tables; entries = kept.entries; monitor = h.keeps };
              fit = h.fits;
              going = goes_by true (part true).tele (closed checked) up (told_port up true at) (told_spec up true at) frame;
              digests = same_digests plain_run (closed checked) (part true).reports closed_alike (told_reports up true at);
            }

        -- the packet is rejected
        rejects : Agrees true (record (part true) { rejected = true }) (counted (closed checked) (k % 2 ^ 32))
        rejects =
            let h = does up true at in
            let more : ((k % 2 ^ 32) % 2 ^ 32 % 2 ^ 32 + 1) % 2 ^ 32 % 2 ^ 32 ≡ (k + 1) % 2 ^ 32 = omega arith in
            let r = counted (closed checked) (k % 2 ^ 32) in
            record {
              kept = record {
                own = λ x i. ap (λ b. if b then raised (k % 2 ^ 32) ∷ [] else checked.cells x) (apart_names is_mine rejects_register x refl i) ∙ closed_alike.cells x i;
                rejects = ap (λ j. word 32 j ∷ []) more;
                tables = kept.tables;
                entries = kept.entries;
                monitor = laws.keeps_same (part true).sensors c (kept_now checked) (kept_now r) (λ x i. ap (λ b. if b then raised (k % 2 ^ 32) ∷ [] else checked.cells x) (apart_names (λ n. not (is_sensor n)) rejects_register x refl (ap not i))) (λ x i. refl) h.keeps;
              };
              fit = h.fits;
              going = tt;
              digests =
                  let d = same_digests plain_run (closed checked) (part true).reports closed_alike (told_reports up true at) in
                  record { reports = d.reports; others = d.others };
            }

        goes_edge : Agrees true (part true) whole_run
        goes_edge =
            let rejected = (part true).rejected in
            let g = told_tele up true at in
            let flag = laws.verdict core_calls b.tables means (flag_run up true at) (reads true) t z (flags up true at) fit_view (stands up true at) refl in
            let P : Bool → Type 0 = λ d. Agrees true (record (part true) { rejected = d }) (if d then counted (closed checked) (k % 2 ^ 32) else closed checked) in
            let both : (d : Bool) → P d = λ d. elim d as P [ true ↦ rejects | false ↦ passes ] in
            subst (λ r. Agrees true (part true) r) (sym (whole_told up true at ∙ end_runs core_calls checked (k % 2 ^ 32) rejected g.plain g.standard g.valid flag (told_rejects up true at))) (both rejected)

      goes_to : (last : Bool) → is_dropped plain_run.store ≡ false → is_in going.port (links sw) ≡ not last → Agrees last (part last) whole_run
      goes_to true up at = goes_edge up at
      goes_to false up at = goes_link up at

      -- the program's own variables are set
      pub plain_goes : (meaning_of calls f.egress.locals (run_from q.store a.registers)).1 ≡ Go
      plain_goes = vars_ran.goes

      leave_by : (o : Bool) → is_dropped plain_run.store ≡ o → LeaveAgrees net m.property (telemetry_of m) (KeptBy m Fit Keeps f) (HeldBy m Fit Keeps f links) Fit sw first c k z t plain_leaving (linked_leaving whole_run) (option_map (going_of (view_of m.views)) (unless_dropped o sent))
      leave_by true e = drops e
      leave_by false e = goes_to (at_edge net sw going.port) e (wired going.port)

      pub core_leaves : LeaveAgrees net m.property (telemetry_of m) (KeptBy m Fit Keeps f) (HeldBy m Fit Keeps f links) Fit sw first c k z t plain_leaving (linked_leaving whole_run) (option_map (going_of (view_of m.views)) (unless_dropped (is_dropped plain_run.store) sent))
      core_leaves = leave_by (is_dropped plain_run.store) refl

    -- ---- with the packet's length elsewhere

    locals_keep : KeepLength core.egress.locals
    locals_keep = vars_keep (flag_locals ++ m.exit_locals) f.egress.locals (own_keeps f.egress.locals own.egress.locals)

    end_keeps : KeepLength end_stmts
    end_keeps = (refl, (((tt, (refl, (tt, (tt, tt)))), tt), tt))

    egress_keeps : KeepLength (whole core.egress)
    egress_keeps =
        both_keep core.egress.locals core.egress.body locals_keep
        (both_keep f.egress.body (next (exit_stmt m sw (links sw)) done) (own_keeps f.egress.body own.egress.body)
        (((refl, (refl, both_keep (m.exit sw) (next (only_if (path 0 (last_name ∷ [])) end_stmts) done) (laws.exit_keeps sw) ((end_keeps, tt), tt))), tt), tt))

    -- the bits of headers do not tell where the length is
    fields_plain : (p : List (List ℕ)) (fs : List Field) (s : Store) → ((n : List ℕ) → same_path packet_length (p ++ n ∷ []) ≡ false) → fields_bits p fs (plain_store s) ≡ fields_bits p fs s
    fields_plain p [] s o = refl
    fields_plain p (g ∷ fs) s o =
        ap₂ (λ (w : Word) (rest : List ℕ). number_bits g.width (cast g.width w.value) ++ rest)
        (ap (λ t. cond t (s.values length_path) (s.values (p ++ g.name ∷ []))) (o g.name)) (fields_plain p fs s o)

    header_plain : (hs : List Header) (p : List (List ℕ)) (s : Store) → AllByRecursion (λ h. is_own_header h.path ≡ true) hs → header_bits hs p (plain_store s) ≡ header_bits hs p s
    header_plain [] p s o = refl
    header_plain (h ∷ hs) p s o =
        ap₂ (λ (u v : List ℕ). cond (same_path h.path p) (if_valid (s.headers h.path) u) v)
        (fields_plain h.path h.fields s (λ n. flipped (h.path ++ n ∷ []) packet_length (apart is_writable (h.path ++ n ∷ []) packet_length (field_writable h.path n o.0) refl))) (header_plain hs p s o.1)

    all_plain : (p : List (List ℕ)) (s : Store) → header_bits core.headers p (plain_store s) ≡ header_bits core.headers p s
    all_plain p s =
        ap₂ (λ (u v : List ℕ). cond (same_path tele_header p) (if_valid (s.headers tele_header) u) v)
        (fields_plain tele_header (mark_field ∷ m.fields) s (λ n. refl)) (header_plain f.headers p s own.headers)

    deparse_plain : (es : List (List (List ℕ))) (s : Store) → deparse_of core.headers es (plain_store s) ≡ deparse_of core.headers es s
    deparse_plain [] s = refl
    deparse_plain (e ∷ es) s = ap₂ (λ (u v : List ℕ). u ++ v) (all_plain e s) (deparse_plain es s)

    going_same : (b : Bool) (g g' : pass.Going) → g.port ≡ g'.port → g.frame ≡ g'.frame → option_map (going_of (λ s. [])) (unless_dropped b g) ≡ option_map (going_of (λ s. [])) (unless_dropped b g')
    going_same true g g' e h = refl
    going_same false g g' e h = ap₂ (λ n l. let r : Going = record { port = n; frame = l; view = [] } in Some r) e h

    -- what is sent
    leaving_plain : (held : Tables) (rest : List ℕ) (r : Run) → r.store.headers (standard_root ∷ []) ≡ None → r.store.headers (metadata_root ∷ []) ≡ None
        → leaving_of (λ s. []) held (left_behind core rest (plainly r)) ≡ leaving_of (λ s. []) held (left_behind linked rest r)
    leaving_plain held rest r standard meta =
        let before = run_from r.store (λ x. []) in
        let c = (meaning_of no_calls (plain_stmts f.compute) before).0 in
        let ran : plainly c ≡ (meaning_of no_calls f.compute (plainly before)).0 = plainly_run no_calls no_calls f.compute before (no_length_calls (before.store.values packet_length)) (own_keeps f.compute own.compute) standard meta in
        let port = cast 9 (r.store.values egress_port).value in
        let sent : List ℕ → Run → pass.Going = λ l q. record { port = port; frame = l; exit_state = q.store } in
        let frame : bytes_of (deparse_of core.headers core.emits (meaning_of no_calls f.compute (plainly before)).0.store ++ rest) ≡ bytes_of (deparse_of core.headers core.emits c.store ++ rest) =
        ap (λ (q : Run). bytes_of (deparse_of core.headers core.emits q.store ++ rest)) (sym ran) ∙ ap (λ l. bytes_of (l ++ rest)) (deparse_plain core.emits c.store) in
        ap (λ g. let l : Leaving Kept = record { after = record { registers = r.cells; tables = held }; digests = map network_digest r.digests; going = g } in l)
        (going_same (is_dropped r.store) (sent (bytes_of (deparse_of core.headers core.emits (meaning_of no_calls f.compute (plainly before)).0.store ++ rest)) (plainly r)) (sent (bytes_of (deparse_of core.headers core.emits c.store ++ rest)) r) refl frame)

    -- a leave of the linked program does what the forwarding program's does, and the exit part
    pub leaves_agree : (net : Wiring) (k : ℕ) (first : Bool) (c : ℕ → C) (wired : (port : ℕ) → is_in port (links sw) ≡ not (at_edge net sw port)) (a b : Kept) (z : Z) (t : T) (q q' : Queued) → KeptBy m Fit Keeps f sw a z c k b → HeldBy m Fit Keeps f links sw first q t q'
        → LeaveAgrees net m.property (telemetry_of m) (KeptBy m Fit Keeps f) (HeldBy m Fit Keeps f links) Fit sw first c k z t (leaving_of (view_of m.views) a.tables (parts_leave f a.tables a.registers q)) (leaving_of (λ s. []) b.tables (parts_leave linked b.tables b.registers q')) (leaving_of (view_of m.views) a.tables (parts_leave f a.tables a.registers q)).going
    unfolding parts_leave
    leaves_agree net k first c wired a b z t q q' kept held =
        let calls = calls_of f a.tables in
        let core_calls = calls_in decls.actions decls.tables b.tables in
        let linked_calls = calls_of linked b.tables in
        let begun = run_from q'.store b.registers in
        let plain_begun = run_from q.store a.registers in
        let ss = whole core.egress in
        let lengths : AreLengthCalls (begun.store.values packet_length) core_calls linked_calls = core_lengths m f own decls joins laws.actions_keep (begun.store.values packet_length) b.tables in
        let standard = held.plain.tele.standard in
        let r = (meaning_of linked_calls (plain_stmts ss) begun).0 in
        let none = plainly_none core_calls linked_calls ss begun lengths egress_keeps standard held.meta in
        let same : plainly r ≡ (meaning_of core_calls ss (plainly begun)).0 = plainly_run core_calls linked_calls ss begun lengths egress_keeps standard held.meta in
        let Agrees : Leaving Kept → Leaving Kept → Type 0 = λ x y. LeaveAgrees net m.property (telemetry_of m) (KeptBy m Fit Keeps f) (HeldBy m Fit Keeps f links) Fit sw first c k z t x y x.going in
        let plain_leaves = leaving_of (view_of m.views) a.tables (left_behind f q.rest (meaning_of calls f.egress.body (meaning_of calls f.egress.locals plain_begun).0).0) in
        let plain_is : (meaning_of calls f.egress.body (meaning_of calls f.egress.locals plain_begun).0).0 ≡ (meaning_of calls (whole f.egress) plain_begun).0 =
        sym (ap (λ (e : Ended). e.0) (then_runs calls f.egress.locals f.egress.body plain_begun)
        ∙ ap (λ g. (after g (meaning_of calls f.egress.locals plain_begun).0 (meaning_of calls f.egress.body)).0) (plain_goes net k first c wired a b z t q (record q' { store = plain_store q'.store }) kept held.plain)) in
        let core_done : Agrees plain_leaves (leaving_of (λ s. []) b.tables (left_behind core q'.rest (meaning_of core_calls ss (plainly begun)).0)) =
        core_leaves net k first c wired a b z t q (record q' { store = plain_store q'.store }) kept held.plain in
        let linked_done : Agrees plain_leaves (leaving_of (λ s. []) b.tables (left_behind linked q'.rest r)) =
        subst (λ l. Agrees plain_leaves l) (ap (λ r. leaving_of (λ s. []) b.tables (left_behind core q'.rest r)) (sym same) ∙ leaving_plain b.tables q'.rest r none.0 none.1) core_done in
        subst (λ x. Agrees (leaving_of (view_of m.views) a.tables (left_behind f q.rest x)) (leaving_of (λ s. []) b.tables (parts_leave linked b.tables b.registers q'))) plain_is
        (subst (λ s. Agrees plain_leaves (leaving_of (λ s. []) b.tables (left_behind linked q'.rest (meaning_of linked_calls s begun).0))) (plain_then core.egress.locals core.egress.body) linked_done)
