-- What is in sight in the controls of a program fits.
use Rattle.std.proofs.Common.{◌≡◌, inl, ℕ, ◌+◌, List, map, Some, refl, sym, ap, ◌∙◌, subst, arith}
use Rattle.std.specs.Prelude.{slice_get}
use Rattle.std.specs.Option.{option_map}
use Rattle.std.proofs.lemmas.List.{length-map}
use Rattle.std.proofs.lemmas.Option.{slice_get-map}
use Rattle.bit_values.specs.Bits.{Word}
use Rattle.p4_meaning.specs.Tables.{Tables}
use Rattle.p4_meaning.specs.Parts.{Cells, Parts}
use Rattle.slot_terms.specs.Places.{Places, header_number}
use Rattle.slot_statements.specs.Tables.{NumberedOutcome}
use Rattle.slot_statements.proofs.FlowLemmas.{grows_same}
use Rattle.slot_packets.specs.Headers.{width_in, IsHeaderAt}
use Rattle.slot_packets.proofs.HeaderLemmas.{number_single}
use Rattle.slot_places.specs.ProgramRows.{first_header}
use Rattle.slot_places.specs.ProgramPlaces.{AreProgramPlaces}
use Rattle.slot_places.specs.HeaderSlots as places
use Rattle.slot_controls.specs.Steps.{HeaderSlots}
use Rattle.slot_controls.specs.Callees.{Fits, IsLaidOut, AddsVariables}
use Rattle.slot_parsers.specs.Parses.{heads_of}
use Rattle.slot_parsers.proofs.TakeLemmas.{IsExtract, header_found}
use Rattle.slot_programs.specs.Sight.{slots_at, header_slots, bare_callees, program_callees}
use Rattle.slot_programs.specs.Chooses.{Chooses}

-- no variable is added to places
pub adds_none : (m : Places) → AddsVariables m m
adds_none m = record { grows = grows_same m; next = omega arith; variables = λ p r e. inl e }

some_slots : (a b : HeaderSlots) → Some a ≡ Some b → a ≡ b
some_slots a b e = cc e

-- the header at a path is laid out, by the slots of its number
module _ (p : Parts) (m : Places) (are : AreProgramPlaces p m) where
  laid_out : (q : List (List ℕ)) (n : ℕ) (h : HeaderSlots) → header_number m.headers q ≡ Some n → slice_get (header_slots p) n ≡ Some h → IsLaidOut m n q h
  laid_out q n h e got =
      let f : IsExtract m p.headers (heads_of p) q (0 + n) n = header_found m p.headers 0 (first_header p) q n are.headers (ap (λ hs. header_number hs q) (sym are.paths) ∙ e) in
      let at : IsHeaderAt m n f.header f.first = (let z : 0 + n ≡ n = omega arith in subst (λ k. IsHeaderAt m k f.header f.first) z f.at) in
      let head : places.HeaderSlots = record { first = f.first; widths = map width_in f.header.fields } in
      let same : slots_at head ≡ h = some_slots (slots_at head) h (sym (slice_get-map slots_at (heads_of p) n ∙ ap (option_map slots_at) f.slots) ∙ got) in
      record {
        header = f.header;
        path = number_single m.headers f.header.path q n at.number e;
        named = f.named;
        count = ap (λ (s : HeaderSlots). s.count) (sym same) ∙ length-map f.header.fields width_in;
        fields = subst (λ k. IsHeaderAt m n f.header k) (ap (λ (s : HeaderSlots). s.first) same) at;
      }

  pub bare_fits : (rs : List Cells) (held : Tables) (chosen : ℕ → List Word → NumberedOutcome) → Fits m (bare_callees p rs) held chosen
  bare_fits rs held chosen = record { laid = are.laid; own = λ x t e. absurd (cc e); choices = λ x t ws e. absurd (cc e); headers = laid_out }

  pub program_fits : (held : Tables) (chosen : ℕ → List Word → NumberedOutcome) → Chooses p held chosen → Fits m (program_callees p) held chosen
  program_fits held chosen chooses = record { laid = are.laid; own = chooses.own; choices = λ x t ws e. chooses.numbers p.actions refl x t ws e; headers = laid_out }
