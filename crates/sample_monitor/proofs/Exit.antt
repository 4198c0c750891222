-- The exit part: the counter, the reports and the push, and at the last hop a lookup and the verdict.
use Rattle.std.proofs.Common.{◌≡◌, codes, ℕ, ◌+◌, ◌<◌, ◌^◌, List, [], ◌∷◌, ◌++◌, map, length, get_or, Bool, true, false, ◌&&◌, not, refl, sym, ap, ap₂, ◌∙◌, subst, append-nil}
use Rattle.std.specs.Prelude.{if◌then◌else◌}
use Rattle.std.specs.List.{filter}
use Rattle.std.proofs.Math.Nat.{mod-lt}
use Rattle.std.proofs.lemmas.Nat.{pow_pos}
use Rattle.std.proofs.lemmas.List.{length-set}
use Rattle.bit_values.specs.Bits.{Word, word, add}
use Rattle.bit_values.specs.Bits as bits
use Rattle.bit_values.proofs.BitsLemmas.{cast_of_small}
use Rattle.linkage.specs.Linkage.{xor_with}
use Rattle.p4_meaning.specs.Value.{value_of}
use Rattle.bit_values.specs.Widths.{bit, cast_word}
use Rattle.p4_tree.specs.Tree.{path, flag, binary, negation, block, assign, done, next, without}
use Rattle.p4_tree.specs.declared.statement.Op.TheVariants.{BitXor, Equal, Both}
use Rattle.p4_tree.specs.declared.statement.PTy.TheVariants as type
use Rattle.p4_meaning.specs.Store.{read, set_value}
use Rattle.p4_meaning.specs.Statements.{Go, Digest, Run, Ended, in_store, cell_at, cell_set, index_of, Calls, meaning_of_stmt, meaning_of}
use Rattle.p4_meaning.specs.Parsing.{Field}
use Rattle.p4_meaning.specs.Tables.{Tables}
use Rattle.network_run.specs.PathMeaning.{Reads, Doing, nothing_yet, exit_part}
use Rattle.own_code.specs.Relations.{is_report}
use Rattle.monitor_laws.specs.Names.{first_name, last_name, rejected_name, is_lowered}
use Rattle.monitor_laws.specs.Trees.{number}
use Rattle.monitor_laws.specs.Monitor.{fields_of}
use Rattle.monitor_laws.specs.MonitorLaws.{Flags, MeansTops, StandsFor, Does, Others}
use Rattle.monitor_laws.proofs.Frames.{others_same}
use Rattle.sample_monitor.specs.Property.{Tele, pushed, byte_of, first_of, is_member, is_known, cell_of, counted, sample_property, IsFit}
use Rattle.sample_monitor.specs.Sample.{kind_path, five_path, counter_name, cell_name, checks, variable, apply, lookup, cell_index, read_cell, turn_cell, next_cell, write_cell, tell_cell, tell_count, push, reject, check, sample, kept_cell, SampleKeeps}
use Rattle.sample_monitor.proofs.Steps.{report_of, Ends, ends_with, step, nothing_more, chosen}
use Rattle.sample_monitor.proofs.Cells.{turned_low, cell_is, cell_set_is, set_low, get_low}
use Rattle.sample_monitor.proofs.Tests.{rejects_is, turned_is, next_is}
use Rattle.sample_monitor.proofs.Lookups.{found_in, applied_is}
use Rattle.sample_monitor.proofs.States.{At, at_set, at_told, at_counted, no_header, kind_read, variable_read, field_read, sets_variable, writes_variable, applies_it}
use Rattle.sample_monitor.proofs.Push.{pushes, pushed_fits, byte_fits}

-- the verdict is a variable too
abbrev exit_fields : List Field
exit_fields = fields_of ((type.Bool, rejected_name) ∷ sample.exit_locals)

module _ (calls : Calls) (held : Tables) (means : MeansTops sample IsFit SampleKeeps held calls) (a : Run) (h : Reads (List Word)) (t : Tele) (z : List ℕ) (flags : Flags h.first h.last a.store) (s : StandsFor sample IsFit SampleKeeps (fields_of sample.exit_locals) held a h t z) where
  -- the header variable, whether it is known, and the counter's cell
  abbrev kind : Word
  kind = read a.store kind_path

  abbrev known : Bool
  known = is_member (h.contents 0) (byte_of kind.value)

  abbrev cell : ℕ
  cell = get_or z (cell_of t) 0

  abbrev Here : Tele → (rejected : Bool) → (at key found : Word) → List ℕ → List Digest → Run → Type 0
  Here t' b c k f z' ds q = At exit_fields a t' (bit b ∷ c ∷ k ∷ f ∷ []) z' ds q

  -- the reports
  abbrev told_cell : List Digest
  told_cell = report_of (word 16 0 ∷ word 8 cell ∷ bit h.first ∷ []) ∷ []

  abbrev pushed_tele : Tele
  pushed_tele = pushed (byte_of h.switch) t

  abbrev told_both : List Digest
  told_both = told_cell ++ report_of (word 16 1 ∷ pushed_tele.count ∷ []) ∷ []

  -- what holds behind each statement
  abbrev H0 : Run → Type 0
  H0 = Here t false (word 8 0) (word 8 0) (word 1 0) z []

  abbrev H1 : Run → Type 0
  H1 = Here t false (kept_cell cell) (word 8 0) (word 1 0) z []

  abbrev H2 : Run → Type 0
  H2 = Here t false (word 8 cell) (word 8 0) (word 1 0) z []

  abbrev H3 : Run → Type 0
  H3 = Here t false (word 8 cell) (word 8 0) (word 1 0) z told_cell

  abbrev H4 : Run → Type 0
  H4 = Here t false (word 8 cell) (word 8 0) (word 1 0) (counted z (cell_of t)) told_cell

  abbrev H5 : Run → Type 0
  H5 = Here pushed_tele false (word 8 cell) (word 8 0) (word 1 0) (counted z (cell_of t)) told_cell

  abbrev Told : (rejected : Bool) → (key found : Word) → Run → Type 0
  Told b k f = Here pushed_tele b (word 8 cell) k f (counted z (cell_of t)) told_both

  cell_low : cell < 2 ^ 8
  cell_low = get_low z (cell_of t) s.keeps.bytes

  inside : cell_of t < length z
  inside = subst (λ n. cell_of t < n) (sym s.keeps.count) (mod-lt _ (pow_pos 2))

  start : H0 a
  start = record { words = s.tele.words; variables = (flags.is_rejected, s.fresh); others = others_same a; cells = s.keeps.cells; reports = sym (append-nil (filter is_report a.digests)) }

  index_is : (q : Run) → Others a q → q.store.values five_path ≡ t.five → index_of cell_index q.store ≡ cell_of t
  index_is q o is = ap (λ (w : Word). bits.slice w.value 1 0) (field_read a s.tele.plain s.tele.valid q (codes "five") t.five o is)

  reads_it : (q : Run) → H0 q → Ends H1 (meaning_of_stmt calls read_cell q)
  reads_it q i =
      ends_with H1 _ (in_store q (set_value q.store (cell_name ∷ []) (kept_cell cell)), Go)
      (ap (λ s. (in_store q s, Go)) (writes_variable a s.tele.plain s.tele.valid q cell_name (word 8 0) (cell_at (q.cells counter_name) (index_of cell_index q.store)) i.others i.variables.1.0)
      ∙ ap₂ (λ cs n. (in_store q (set_value q.store (cell_name ∷ []) (cast_word 8 (cell_at cs n))), Go)) i.cells (index_is q i.others i.words.0)
      ∙ ap (λ w. (in_store q (set_value q.store (cell_name ∷ []) (cast_word 8 w)), Go)) (cell_is z (cell_of t) inside)
      ∙ ap (λ n. (in_store q (set_value q.store (cell_name ∷ []) (word 8 n)), Go)) (cast_of_small 8 (xor_with 7 cell) (turned_low cell cell_low)))
      (record { run = at_set exit_fields a t t _ (bit false ∷ kept_cell cell ∷ word 8 0 ∷ word 1 0 ∷ []) z [] q (cell_name ∷ []) (kept_cell cell) refl i i.words (i.variables.0, (refl, i.variables.1.1)); goes = refl })

  turns_it : (q : Run) → H1 q → Ends H2 (meaning_of_stmt calls turn_cell q)
  turns_it q i =
      sets_variable a s.tele.plain s.tele.valid calls H2 q cell_name (binary 0 BitXor (variable cell_name) (number 8 7)) (kept_cell cell) (word 8 cell) i.others i.variables.1.0
      (turned_is q.store cell cell_low (variable_read a s.tele.plain s.tele.valid q cell_name (kept_cell cell) i.others i.variables.1.0))
      (subst (λ n. H2 (in_store q (set_value q.store (cell_name ∷ []) (word 8 n)))) (sym (cast_of_small 8 cell cell_low))
      (at_set exit_fields a t t _ (bit false ∷ word 8 cell ∷ word 8 0 ∷ word 1 0 ∷ []) z [] q (cell_name ∷ []) (word 8 cell) refl i i.words (i.variables.0, (refl, i.variables.1.1))))

  -- the flags that the linker set
  flag_read : (q : Run) (x : List ℕ) (b : Bool) → is_lowered (x ∷ []) ≡ false → Others a q → a.store.values (x ∷ []) ≡ bit b → read q.store (x ∷ []) ≡ bit b
  flag_read q x b out o is = variable_read a s.tele.plain s.tele.valid q x (bit b) o (o.values (x ∷ []) out ∙ is)

  tells_it : (q : Run) → H2 q → Ends H3 (meaning_of_stmt calls tell_cell q)
  tells_it q i =
      ends_with H3 _ (record q { digests = q.digests ++ told_cell }, Go)
      (ap₂ (λ u v. (record q { digests = q.digests ++ report_of (word 16 0 ∷ u ∷ v ∷ []) ∷ [] }, Go))
      (variable_read a s.tele.plain s.tele.valid q cell_name (word 8 cell) i.others i.variables.1.0)
      (flag_read q first_name h.first refl i.others flags.is_first))
      (record { run = at_told exit_fields a t _ z [] q _ i; goes = refl })

  writes_it : (q : Run) → H3 q → Ends H4 (meaning_of_stmt calls write_cell q)
  writes_it q i =
      let n = index_of cell_index q.store in
      let cs = q.cells counter_name in
      let new : value_of next_cell 8 q.store ≡ kept_cell (add 8 cell 1) = next_is q.store cell cell_low (variable_read a s.tele.plain s.tele.valid q cell_name (word 8 cell) i.others i.variables.1.0) in
      let written : cell_set cs n (value_of next_cell (cell_at cs n).width q.store) ≡ map kept_cell (counted z (cell_of t)) =
      ap₂ (λ cs n. cell_set cs n (value_of next_cell (cell_at cs n).width q.store)) i.cells (index_is q i.others i.words.0)
      ∙ ap (λ (u : Word). cell_set (map kept_cell z) (cell_of t) (value_of next_cell u.width q.store)) (cell_is z (cell_of t) inside)
      ∙ cell_set_is z (cell_of t) (add 8 cell 1) _ inside (mod-lt (cell + 1) (pow_pos 8)) new in
      record { run = at_counted exit_fields a t _ z (counted z (cell_of t)) told_cell q _ written i; goes = refl }

  pushes_it : (q : Run) → H4 q → Ends H5 (meaning_of_stmt calls (push h.switch) q)
  pushes_it q i =
      pushes calls exit_fields a s.tele.plain s.tele.valid (bit false ∷ word 8 cell ∷ word 8 0 ∷ word 1 0 ∷ []) (counted z (cell_of t)) told_cell h.switch
      (λ x w q v. v) q t s.tele.fits i

  counts_it : (q : Run) → H5 q → Ends (Told false (word 8 0) (word 1 0)) (meaning_of_stmt calls tell_count q)
  counts_it q i =
      ends_with (Told false (word 8 0) (word 1 0)) _ (record q { digests = q.digests ++ report_of (word 16 1 ∷ pushed_tele.count ∷ []) ∷ [] }, Go)
      (ap (λ u. (record q { digests = q.digests ++ report_of (word 16 1 ∷ u ∷ []) ∷ [] }, Go))
      (field_read a s.tele.plain s.tele.valid q (codes "count") pushed_tele.count i.others i.words.1.1.0))
      (record { run = at_told exit_fields a pushed_tele _ (counted z (cell_of t)) told_cell q _ i; goes = refl })

  -- the checker's lookup
  clears : (q : Run) → Told false (word 8 0) (word 1 0) q → Ends (Told false (word 8 0) (word 1 0)) (meaning_of_stmt calls (assign 0 (checks.found ∷ []) (number 1 0)) q)
  clears q i =
      sets_variable a s.tele.plain s.tele.valid calls (Told false (word 8 0) (word 1 0)) q checks.found (number 1 0) (word 1 0) (word 1 0) i.others i.variables.1.1.1.0 refl
      (at_set exit_fields a pushed_tele pushed_tele _ (bit false ∷ word 8 cell ∷ word 8 0 ∷ word 1 0 ∷ []) (counted z (cell_of t)) told_both q (checks.found ∷ []) (word 1 0) refl i i.words
      (i.variables.0, (i.variables.1.0, (i.variables.1.1.0, (refl, tt)))))

  keys : (q : Run) → Told false (word 8 0) (word 1 0) q → Ends (Told false (byte_of kind.value) (word 1 0)) (meaning_of_stmt calls (assign 0 (checks.key ∷ []) (path 0 kind_path)) q)
  keys q i =
      sets_variable a s.tele.plain s.tele.valid calls (Told false (byte_of kind.value) (word 1 0)) q checks.key (path 0 kind_path) (word 8 0) kind i.others i.variables.1.1.0 (kind_read a s.tele.plain s.tele.valid q i.others)
      (at_set exit_fields a pushed_tele pushed_tele _ (bit false ∷ word 8 cell ∷ byte_of kind.value ∷ word 1 0 ∷ []) (counted z (cell_of t)) told_both q (checks.key ∷ []) (byte_of kind.value) refl i i.words
      (i.variables.0, (i.variables.1.0, (refl, i.variables.1.1.1))))

  found : (q : Run) (b : Bool) → Told false (byte_of kind.value) (word 1 0) q → Told false (byte_of kind.value) (bit b) (found_in checks b q)
  found q true i =
      at_set exit_fields a pushed_tele pushed_tele _ (bit false ∷ word 8 cell ∷ byte_of kind.value ∷ word 1 1 ∷ []) (counted z (cell_of t)) told_both q (checks.found ∷ []) (word 1 1) refl i i.words
      (i.variables.0, (i.variables.1.0, (i.variables.1.1.0, (refl, tt))))
  found q false i = i

  looks : (q : Run) → Told false (byte_of kind.value) (word 1 0) q → Ends (Told false (byte_of kind.value) (bit known)) (meaning_of_stmt calls (apply checks) q)
  looks q i =
      applies_it calls (Told false (byte_of kind.value) (bit known)) checks q known
      (means.tables checks.table q refl
      ∙ applied_is checks sample.actions refl refl sample.tables held (h.contents 0) (byte_of kind.value) q (word 1 0) refl s.keeps.checked (no_header a s.tele.plain s.tele.valid q i.others)
      (variable_read a s.tele.plain s.tele.valid q checks.key (byte_of kind.value) i.others i.variables.1.1.0) i.variables.1.1.1.0 refl)
      (found q known i)

  -- the verdict
  abbrev verdict : Bool
  verdict = not known && not h.first

  abbrev Judged : Bool → Run → Type 0
  Judged b = Told b (byte_of kind.value) (bit known)

  sets_it : (q : Run) → Judged false q → Ends (Judged true) (meaning_of_stmt calls (assign 0 (rejected_name ∷ []) (flag 0 true)) q)
  sets_it q i =
      sets_variable a s.tele.plain s.tele.valid calls (Judged true) q rejected_name (flag 0 true) (bit false) (bit true) i.others i.variables.0 refl
      (at_set exit_fields a pushed_tele pushed_tele _ (bit true ∷ word 8 cell ∷ byte_of kind.value ∷ bit known ∷ []) (counted z (cell_of t)) told_both q (rejected_name ∷ []) (bit true) refl i i.words
      (refl, i.variables.1))

  judges : (q : Run) → Judged false q → Ends (Judged verdict) (meaning_of_stmt calls reject q)
  judges q i =
      chosen calls (Judged verdict) 0 (binary 0 Both (binary 0 Equal (variable checks.found) (number 1 0)) (negation 0 (variable first_name))) (block 0 (next (assign 0 (rejected_name ∷ []) (flag 0 true)) done)) without q verdict refl
      (rejects_is q.store checks.found first_name known h.first
      (variable_read a s.tele.plain s.tele.valid q checks.found (bit known) i.others i.variables.1.1.1.0)
      (flag_read q first_name h.first refl i.others flags.is_first))
      (λ is. subst (λ b. Ends (Judged b) (meaning_of calls (next (assign 0 (rejected_name ∷ []) (flag 0 true)) done) q)) (sym is)
      (step calls (Judged true) (Judged true) (assign 0 (rejected_name ∷ []) (flag 0 true)) done q (sets_it q i) (λ p j. nothing_more calls (Judged true) p j)))
      (λ is. (let e : Ended = (q, Go) in let here : Ends (Judged false) e = record { run = i; goes = refl } in subst (λ b. Ends (Judged b) e) (sym is) here))

  checks_it : (q : Run) → Told false (word 8 0) (word 1 0) q → Ends (Judged verdict) (meaning_of calls (lookup checks (next reject done)) q)
  checks_it q i =
      let S0 : Run → Type 0 = Told false (word 8 0) (word 1 0) in
      let S1 : Run → Type 0 = Told false (byte_of kind.value) (word 1 0) in
      step calls S0 (Judged verdict) (assign 0 (checks.found ∷ []) (number 1 0)) (next (assign 0 (checks.key ∷ []) (path 0 kind_path)) (next (apply checks) (next reject done))) q (clears q i)
      (λ p i. step calls S1 (Judged verdict) (assign 0 (checks.key ∷ []) (path 0 kind_path)) (next (apply checks) (next reject done)) p (keys p i)
      (λ p i. step calls (Judged false) (Judged verdict) (apply checks) (next reject done) p (looks p i)
      (λ p i. step calls (Judged verdict) (Judged verdict) reject done p (judges p i)
      (λ p i. nothing_more calls (Judged verdict) p i))))

  -- what holds at the end, at the last hop and elsewhere
  abbrev Final : Bool → Run → Type 0
  Final true = Judged verdict
  Final false = Told false (word 8 0) (word 1 0)

  checks_last : (q : Run) → Told false (word 8 0) (word 1 0) q → Ends (Final h.last) (meaning_of_stmt calls check q)
  checks_last q i =
      chosen calls (Final h.last) 0 (variable last_name) (block 0 (lookup checks (next reject done))) without q h.last refl (flag_read q last_name h.last refl i.others flags.is_last)
      (λ is. subst (λ b. Ends (Final b) (meaning_of calls (lookup checks (next reject done)) q)) (sym is) (checks_it q i))
      (λ is. (let e : Ended = (q, Go) in let here : Ends (Final false) e = record { run = i; goes = refl } in subst (λ b. Ends (Final b) e) (sym is) here))

  pub ran : Ends (Final h.last) (meaning_of calls (sample.exit h.switch) a)
  ran =
      let R = Final h.last in
      let H6 : Run → Type 0 = Told false (word 8 0) (word 1 0) in
      step calls H1 R read_cell (next turn_cell (next tell_cell (next write_cell (next (push h.switch) (next tell_count (next check done)))))) a (reads_it a start)
      (λ p i. step calls H2 R turn_cell (next tell_cell (next write_cell (next (push h.switch) (next tell_count (next check done))))) p (turns_it p i)
      (λ p i. step calls H3 R tell_cell (next write_cell (next (push h.switch) (next tell_count (next check done)))) p (tells_it p i)
      (λ p i. step calls H4 R write_cell (next (push h.switch) (next tell_count (next check done))) p (writes_it p i)
      (λ p i. step calls H5 R (push h.switch) (next tell_count (next check done)) p (pushes_it p i)
      (λ p i. step calls H6 R tell_count (next check done) p (counts_it p i)
      (λ p i. step calls R R check done p (checks_last p i)
      (λ p i. nothing_more calls R p i)))))))

  -- which is what the property's telemetry and checker do
  abbrev told : Doing Tele (List ℕ)
  told = record (sample_property.telemetry h (nothing_yet t z)) { rejected = false }

  is_known_here : is_known h ≡ known
  is_known_here = ap (λ ws. is_member (h.contents 0) (byte_of (first_of ws).value)) (sym s.view)

  doing : (b : Bool) (c k f : Word) (e : Ended) (d : Doing Tele (List ℕ)) → Ends (Here pushed_tele b c k f (counted z (cell_of t)) told_both) e → d ≡ record told { rejected = d.rejected } → Does sample IsFit SampleKeeps held a e h.contents d
  doing b c k f e d r is =
      let done_it : Does sample IsFit SampleKeeps held a e h.contents (record told { rejected = d.rejected }) =
      record {
        words = r.run.words;
        fits = pushed_fits (byte_of h.switch) t (byte_fits h.switch) s.tele.fits;
        keeps =
            record {
              cells = r.run.cells;
              count = length-set z (cell_of t) (add 8 cell 1) ∙ s.keeps.count;
              bytes = set_low z (cell_of t) (add 8 cell 1) (mod-lt (cell + 1) (pow_pos 8)) s.keeps.bytes;
              checked = s.keeps.checked;
              started = s.keeps.started;
            };
        others = r.run.others;
        reports = r.run.reports;
        goes = r.goes;
      } in
      subst (λ d. Does sample IsFit SampleKeeps held a e h.contents d) (sym is) done_it

  pub exit_does : Does sample IsFit SampleKeeps held a (meaning_of calls (sample.exit h.switch) a) h.contents (exit_part sample_property h t z)
  exit_does = by_last h.last (meaning_of calls (sample.exit h.switch) a) ran
    where
      by_last : (l : Bool) (e : Ended) → Ends (Final l) e → Does sample IsFit SampleKeeps held a e h.contents (if l then sample_property.checker h told else told)
      by_last true e r = doing verdict (word 8 cell) (byte_of kind.value) (bit known) e (sample_property.checker h told) r refl
      by_last false e r = doing false (word 8 cell) (word 8 0) (word 1 0) e told r refl

  pub exit_verdict : h.last ≡ true → (meaning_of calls (sample.exit h.switch) a).0.store.values (rejected_name ∷ []) ≡ bit (exit_part sample_property h t z).rejected
  exit_verdict is = by_last h.last is (meaning_of calls (sample.exit h.switch) a) ran
    where
      by_last : (l : Bool) → l ≡ true → (e : Ended) → Ends (Final l) e → e.0.store.values (rejected_name ∷ []) ≡ bit (if l then sample_property.checker h told else told).rejected
      by_last true is e r = r.run.variables.0 ∙ ap (λ b. bit (not b && not h.first)) (sym is_known_here)
      by_last false is e r = absurd (cc)
