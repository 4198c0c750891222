-- The entry part: a lookup of the header variable, and then init.
use Rattle.std.proofs.Common.{◌≡◌, codes, ℕ, List, [], ◌∷◌, Bool, true, false, refl, sym, ap, ◌∙◌, subst, append-nil}
use Rattle.std.specs.Prelude.{if◌then◌else◌}
use Rattle.std.specs.List.{filter}
use Rattle.std.proofs.Math.Nat.{mod-lt}
use Rattle.std.proofs.lemmas.Nat.{pow_pos}
use Rattle.bit_values.specs.Bits.{Word, word}
use Rattle.bit_values.specs.Bits as bits
use Rattle.bit_values.specs.Widths.{bit, sound_width, cast_word}
use Rattle.bit_values.proofs.BitsLemmas.{cast_of_small}
use Rattle.p4_meaning.specs.Store.{read}
use Rattle.p4_meaning.specs.Statements.{Go, Run, Calls, meaning_of_stmt, meaning_of}
use Rattle.p4_meaning.specs.Tables.{Tables}
use Rattle.p4_tree.specs.Tree.{path, binary, slice, block, assign, next, done, without}
use Rattle.p4_tree.specs.declared.statement.Op.TheVariants.{Equal}
use Rattle.network_run.specs.PathMeaning.{Reads, Doing, nothing_yet}
use Rattle.own_code.specs.Relations.{is_report}
use Rattle.monitor_laws.specs.Trees.{number}
use Rattle.monitor_laws.specs.Monitor.{fields_of}
use Rattle.monitor_laws.specs.MonitorLaws.{MeansTops, StandsFor, Does}
use Rattle.monitor_laws.proofs.Frames.{others_same}
use Rattle.sample_monitor.specs.Property.{Tele, five_of, byte_of, first_of, is_member, sample_property, IsFit}
use Rattle.sample_monitor.specs.Sample.{kind_path, five_path, starts, variable, apply, take_five, sample, SampleKeeps}
use Rattle.sample_monitor.proofs.Steps.{Ends, step, nothing_more, chosen}
use Rattle.sample_monitor.proofs.Tests.{one_is}
use Rattle.sample_monitor.proofs.Lookups.{found_in, applied_is}
use Rattle.sample_monitor.proofs.States.{At, at_set, no_header, kind_read, variable_read, sets_variable, sets_field, applies_it}

module _ (calls : Calls) (held : Tables) (means : MeansTops sample IsFit SampleKeeps held calls) (a : Run) (h : Reads (List Word)) (t : Tele) (z : List ℕ) (s : StandsFor sample IsFit SampleKeeps (fields_of sample.entry_locals) held a h t z) where
  -- the header variable, and whether it is known
  abbrev kind : Word
  kind = read a.store kind_path

  abbrev known : Bool
  known = is_member (h.contents 0) (byte_of kind.value)

  abbrev Here : Tele → List Word → Run → Type 0
  Here t' vs q = At (fields_of sample.entry_locals) a t' vs z [] q

  start : Here t (word 8 0 ∷ word 1 0 ∷ []) a
  start = record { words = s.tele.words; variables = s.fresh; others = others_same a; cells = s.keeps.cells; reports = sym (append-nil (filter is_report a.digests)) }

  clears : (q : Run) → Here t (word 8 0 ∷ word 1 0 ∷ []) q → Ends (Here t (word 8 0 ∷ word 1 0 ∷ [])) (meaning_of_stmt calls (assign 0 (starts.found ∷ []) (number 1 0)) q)
  clears q i =
      sets_variable a s.tele.plain s.tele.valid calls (Here t (word 8 0 ∷ word 1 0 ∷ [])) q starts.found (number 1 0) (word 1 0) (word 1 0) i.others i.variables.1.0 refl
      (at_set (fields_of sample.entry_locals) a t t (word 8 0 ∷ word 1 0 ∷ []) (word 8 0 ∷ word 1 0 ∷ []) z [] q (starts.found ∷ []) (word 1 0) refl i i.words (i.variables.0, (refl, tt)))

  keys : (q : Run) → Here t (word 8 0 ∷ word 1 0 ∷ []) q → Ends (Here t (byte_of kind.value ∷ word 1 0 ∷ [])) (meaning_of_stmt calls (assign 0 (starts.key ∷ []) (path 0 kind_path)) q)
  keys q i =
      sets_variable a s.tele.plain s.tele.valid calls (Here t (byte_of kind.value ∷ word 1 0 ∷ [])) q starts.key (path 0 kind_path) (word 8 0) kind i.others i.variables.0 (kind_read a s.tele.plain s.tele.valid q i.others)
      (at_set (fields_of sample.entry_locals) a t t (word 8 0 ∷ word 1 0 ∷ []) (byte_of kind.value ∷ word 1 0 ∷ []) z [] q (starts.key ∷ []) (byte_of kind.value) refl i i.words (refl, i.variables.1))

  found : (q : Run) (b : Bool) → Here t (byte_of kind.value ∷ word 1 0 ∷ []) q → Here t (byte_of kind.value ∷ bit b ∷ []) (found_in starts b q)
  found q true i = at_set (fields_of sample.entry_locals) a t t (byte_of kind.value ∷ word 1 0 ∷ []) (byte_of kind.value ∷ bit true ∷ []) z [] q (starts.found ∷ []) (word 1 1) refl i i.words (i.variables.0, (refl, tt))
  found q false i = i

  looks : (q : Run) → Here t (byte_of kind.value ∷ word 1 0 ∷ []) q → Ends (Here t (byte_of kind.value ∷ bit known ∷ [])) (meaning_of_stmt calls (apply starts) q)
  looks q i =
      applies_it calls (Here t (byte_of kind.value ∷ bit known ∷ [])) starts q known
      (means.tables starts.table q refl
      ∙ applied_is starts sample.actions refl refl sample.tables held (h.contents 0) (byte_of kind.value) q (word 1 0) refl s.keeps.started (no_header a s.tele.plain s.tele.valid q i.others)
      (variable_read a s.tele.plain s.tele.valid q starts.key (byte_of kind.value) i.others i.variables.0) i.variables.1.0 refl)
      (found q known i)

  -- init's own statement
  takes_true : (q : Run) → Here t (byte_of kind.value ∷ bit true ∷ []) q → Ends (Here (record t { five = five_of kind }) (byte_of kind.value ∷ bit true ∷ [])) (meaning_of_stmt calls (assign 0 five_path (slice 0 (path 0 kind_path) 4 0)) q)
  takes_true q i =
      sets_field a s.tele.plain s.tele.valid calls (Here (record t { five = five_of kind }) (byte_of kind.value ∷ bit true ∷ [])) q (codes "five") (slice 0 (path 0 kind_path) 4 0) t.five (five_of kind) i.others i.words.0
      (ap (λ (w : Word). five_of w) (kind_read a s.tele.plain s.tele.valid q i.others))
      (at_set (fields_of sample.entry_locals) a t (record t { five = five_of kind }) (byte_of kind.value ∷ bit true ∷ []) (byte_of kind.value ∷ bit true ∷ []) z [] q five_path (cast_word (sound_width t.five.width) (five_of kind)) refl i
      (five_cast, i.words.1) i.variables)
    where
      five_cast : cast_word (sound_width t.five.width) (five_of kind) ≡ five_of kind
      five_cast = ap (λ n. cast_word (sound_width n) (five_of kind)) s.tele.fits.width ∙ ap (word 5) (cast_of_small 5 (bits.slice kind.value 4 0) (mod-lt _ (pow_pos 5)))

  -- what init does
  abbrev taken : Bool → Tele
  taken b = if b then record t { five = five_of kind } else t

  takes : (q : Run) (b : Bool) → Here t (byte_of kind.value ∷ bit b ∷ []) q → Ends (Here (taken b) (byte_of kind.value ∷ bit b ∷ [])) (meaning_of_stmt calls take_five q)
  takes q b i =
      chosen calls (Here (taken b) (byte_of kind.value ∷ bit b ∷ [])) 0 (binary 0 Equal (variable starts.found) (number 1 1)) (block 0 (next (assign 0 five_path (slice 0 (path 0 kind_path) 4 0)) done)) without q b refl
      (one_is q.store starts.found b (variable_read a s.tele.plain s.tele.valid q starts.found (bit b) i.others i.variables.1.0))
      (λ is. held_true b is i)
      (λ is. held_false b is i)
    where
      held_true : (b : Bool) → b ≡ true → Here t (byte_of kind.value ∷ bit b ∷ []) q → Ends (Here (taken b) (byte_of kind.value ∷ bit b ∷ [])) (meaning_of calls (next (assign 0 five_path (slice 0 (path 0 kind_path) 4 0)) done) q)
      held_true true is i =
          step calls (Here (taken true) (byte_of kind.value ∷ bit true ∷ [])) (Here (taken true) (byte_of kind.value ∷ bit true ∷ [])) (assign 0 five_path (slice 0 (path 0 kind_path) 4 0)) done q (takes_true q i)
          (λ p j. nothing_more calls (Here (taken true) (byte_of kind.value ∷ bit true ∷ [])) p j)
      held_true false is i = absurd (cc)

      held_false : (b : Bool) → b ≡ false → Here t (byte_of kind.value ∷ bit b ∷ []) q → Ends (Here (taken b) (byte_of kind.value ∷ bit b ∷ [])) (q, Go)
      held_false true is i = absurd (cc)
      held_false false is i = record { run = i; goes = refl }

  ran : Ends (Here (taken known) (byte_of kind.value ∷ bit known ∷ [])) (meaning_of calls (sample.entry h.switch) a)
  ran =
      let S0 : Run → Type 0 = Here t (word 8 0 ∷ word 1 0 ∷ []) in
      let S1 : Run → Type 0 = Here t (byte_of kind.value ∷ word 1 0 ∷ []) in
      let S2 : Run → Type 0 = Here t (byte_of kind.value ∷ bit known ∷ []) in
      let S3 : Run → Type 0 = Here (taken known) (byte_of kind.value ∷ bit known ∷ []) in
      step calls S0 S3 (assign 0 (starts.found ∷ []) (number 1 0)) (next (assign 0 (starts.key ∷ []) (path 0 kind_path)) (next (apply starts) (next take_five done))) a (clears a start)
      (λ p i. step calls S1 S3 (assign 0 (starts.key ∷ []) (path 0 kind_path)) (next (apply starts) (next take_five done)) p (keys p i)
      (λ p i. step calls S2 S3 (apply starts) (next take_five done) p (looks p i)
      (λ p i. step calls S3 S3 take_five done p (takes p known i)
      (λ p i. nothing_more calls S3 p i))))

  -- which is what the property's init does
  taken_fits : (b : Bool) → IsFit (taken b)
  taken_fits true = record { width = refl; low = mod-lt _ (pow_pos 5); count = s.tele.fits.count; few = s.tele.fits.few; front = s.tele.fits.front; back = s.tele.fits.back }
  taken_fits false = s.tele.fits

  init_is : (b : Bool) (d : Doing Tele (List ℕ)) → d ≡ (if b then record (nothing_yet t z) { tele = taken true } else nothing_yet t z) → d ≡ record (nothing_yet t z) { tele = taken b }
  init_is true d e = e
  init_is false d e = e

  pub entry_does : Does sample IsFit SampleKeeps held a (meaning_of calls (sample.entry h.switch) a) h.contents (sample_property.init h (nothing_yet t z))
  entry_does =
      let e = meaning_of calls (sample.entry h.switch) a in
      let viewed : kind ≡ first_of h.view = ap first_of s.view in
      let same : sample_property.init h (nothing_yet t z) ≡ record (nothing_yet t z) { tele = taken known } =
      ap (λ w. if is_member (h.contents 0) (byte_of w.value) then record (nothing_yet t z) { tele = record t { five = five_of w } } else nothing_yet t z) (sym viewed) ∙ init_is known _ refl in
      let done_it : Does sample IsFit SampleKeeps held a e h.contents (record (nothing_yet t z) { tele = taken known }) =
      record {
        words = ran.run.words;
        fits = taken_fits known;
        keeps = record { cells = ran.run.cells; count = s.keeps.count; bytes = s.keeps.bytes; checked = s.keeps.checked; started = s.keeps.started };
        others = ran.run.others;
        reports = ran.run.reports;
        goes = ran.goes;
      } in
      subst (λ d. Does sample IsFit SampleKeeps held a e h.contents d) (sym same) done_it
