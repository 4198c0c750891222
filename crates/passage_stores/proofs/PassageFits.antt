-- The stores along a passage fit: the first one does, and each step keeps what fits.
use Rattle.std.proofs.Common.{◌≡◌, ℕ, List, [], ◌∷◌, ◌++◌, length, Bool, true, false, cond, ◌||◌, Some, None, refl, sym, ◌∙◌, subst, pow_pos, arith}
use Rattle.bit_values.specs.Bits.{Word, word, cast}
use Rattle.bit_values.proofs.BitsLemmas.{cast-lt}
use Rattle.bit_values.proofs.BytesLemmas.{AreBits-bits_of}
use Rattle.lex_text.specs.Names.{same_path}
use Rattle.p4_tree.specs.Tree.{Stmts, Program}
use Rattle.p4_meaning.specs.Standard.{metadata_root, egress_spec, egress_port, parser_error, standard_paths}
use Rattle.p4_meaning.specs.Store.{Store, set_value}
use Rattle.p4_meaning.specs.Statements.{Run, no_calls, meaning_of}
use Rattle.p4_meaning.specs.Parsing.{Field, Header, ParserError, NoError, PacketTooShort, NoMatch, ParserEnd}
use Rattle.p4_meaning.specs.Tables.{Tables, calls_in}
use Rattle.p4_meaning.specs.Parts.{Parts, struct_fields, parser_type, parser_in, whole, parts_of}
use Rattle.p4_meaning.specs.Pass.{Registers, Queued, Going, error_number, store_behind, is_dropped, unless_dropped, is_field_of, is_header_field, is_one_path, is_declared_path, is_declared_header, declared, to_egress, parts_enter, entered_from, parts_leave, left_behind, enter_of, leave_of}
use Rattle.p4_meaning.specs.Laws.{IsOf}
use Rattle.p4_rules.specs.ProgramRules.{IsWellTyped}
use Rattle.p4_typing_laws.proofs.KeptPlaces.{path_same, set_keeps}
use Rattle.passage_stores.specs.FitStores.{FieldsFit, HeadersFit, IsFit, IsFitQueued, IsFitReading}
use Rattle.passage_stores.specs.PassageStores.{reading_before, parser_end_of, verify_run, ingress_run, egress_run, egress_end, compute_run, PassageStoresFit}
use Rattle.passage_stores.proofs.KeptStores.{IsLong, HavePaths, fit_kept, no_calls_fit, program_calls_fit, stmts_fit}
use Rattle.passage_stores.proofs.ParsedStores.{parse_fits}
use Rattle.passage_stores.proofs.StartStores.{named_paths, begun_fits}

-- ---- one word more

-- another word of the width at a path
pub set_fit : (p : Parts) → HavePaths p.headers → (st : Store) (q : List (List ℕ)) (n : ℕ) (w : Word) → IsOf n (st.values q) → IsOf n w → IsFit p st → IsFit p (set_value st q w)
set_fit p paths st q n w old new h =
    fit_kept p paths st (set_value st q w) (set_keeps IsLong st q w (λ k i. record { word = new.word; width = new.width ∙ sym old.width })) h.plain h

error_word : (e : ParserError) → IsOf 2 (word 2 (error_number e))
error_word NoError = record { word = record { wide = omega arith; narrow = omega arith; in_range = omega arith }; width = refl }
error_word PacketTooShort = record { word = record { wide = omega arith; narrow = omega arith; in_range = omega arith }; width = refl }
error_word NoMatch = record { word = record { wide = omega arith; narrow = omega arith; in_range = omega arith }; width = refl }

pub behind_fits : (p : Parts) → HavePaths p.headers → (e : ParserEnd) → IsFit p e.reading.store → IsFit p (store_behind e)
behind_fits p paths e h = set_fit p paths e.reading.store parser_error 2 (word 2 (error_number e.error)) h.standard.parser (error_word e.error) h

-- ---- what is declared

or_left : (a b : Bool) → a ≡ true → (a || b) ≡ true
or_left true b h = refl
or_left false b h = absurd (cc)

or_right : (a b : Bool) → b ≡ true → (a || b) ≡ true
or_right true b h = refl
or_right false b h = h

-- D: what is declared
module _ (p : Parts) (st : Store) where
  fields_declared : (above : List (List ℕ)) (fs : List Field) → ((q : List (List ℕ)) → is_field_of above fs q ≡ true → is_declared_path p q ≡ true) → FieldsFit above fs st → FieldsFit above fs (declared p st)
  fields_declared above [] sub h = tt
  fields_declared above (f ∷ fs) sub h =
      (let q = above ++ f.name ∷ [] in
      let there = sub q (or_left (same_path q q) (is_field_of above fs q) (path_same q q refl)) in (
        subst (λ (b : Bool). IsOf f.width (cond b (st.values q) (word 1 0))) (sym there) h.0,
        fields_declared above fs (λ z k. sub z (or_right (same_path (above ++ f.name ∷ []) z) (is_field_of above fs z) k)) h.1,
      ))

  headers_declared : (hs : List Header) → ((q : List (List ℕ)) → is_header_field hs q ≡ true → is_declared_path p q ≡ true) → HeadersFit hs st → HeadersFit hs (declared p st)
  headers_declared [] sub h = tt
  headers_declared (g ∷ hs) sub h = (
    fields_declared g.path g.fields (λ q k. sub q (or_left (is_field_of g.path g.fields q) (is_header_field hs q) k)) h.0,
    headers_declared hs (λ q k. sub q (or_right (is_field_of g.path g.fields q) (is_header_field hs q) k)) h.1,
  )

  none_declared : (b : Bool) → st.headers [] ≡ None → cond b (st.headers []) None ≡ None
  none_declared true e = e
  none_declared false e = refl

  declared_fit : IsFit p st → IsFit p (declared p st)
  declared_fit h =
      record {
        headers = headers_declared p.headers (λ q k. or_right (is_one_path standard_paths q) _ (or_right (is_field_of (metadata_root ∷ []) p.metadata q) _ k)) h.headers;
        metadata = fields_declared (metadata_root ∷ []) p.metadata (λ q k. or_right (is_one_path standard_paths q) _ (or_left _ (is_header_field p.headers q) k)) h.metadata;
        standard =
            record {
              entry = h.standard.entry;
              spec = h.standard.spec;
              port = h.standard.port;
              length = h.standard.length;
              error = h.standard.error;
              parser = h.standard.parser;
            };
        plain = none_declared (is_declared_header p.headers []) h.plain;
      }

  pub to_egress_fits : HavePaths p.headers → IsFit p st → IsFit p (to_egress p st)
  to_egress_fits paths h =
      (let a = declared_fit h in
      let w = word 9 (cast 9 (st.values egress_spec).value) in
      let b = set_fit p paths (declared p st) egress_port 9 w a.standard.port (record { word = record { wide = omega arith; narrow = omega arith; in_range = cast-lt 9 (st.values egress_spec).value }; width = refl }) a in
      set_fit p paths (set_value (declared p st) egress_port w) egress_spec 9 (word 9 0) b.standard.spec (record { word = record { wide = omega arith; narrow = omega arith; in_range = pow_pos 9 }; width = refl }) b)

-- ---- a passage

module _ (p : Program) (typed : IsWellTyped p) where
  abbrev pub Of : Parts
  Of = parts_of p

  pub paths : HavePaths Of.headers
  paths = named_paths p.tops (struct_fields p.tops (parser_type (parser_in p) 1))

  start : (port : ℕ) (frame : List ℕ) → IsFitReading Of (reading_before Of port frame)
  start port frame = record { store = begun_fits p typed port (length frame); rest = AreBits-bits_of frame }

  parsed : (port : ℕ) (frame : List ℕ) → IsFitReading Of (parser_end_of Of port frame).reading
  parsed port frame = parse_fits Of paths Of.states (reading_before Of port frame) (start port frame)

  pub verify : (cells : Registers) (port : ℕ) (frame : List ℕ) → IsFit Of (verify_run Of cells port frame).store
  verify cells port frame = behind_fits Of paths (parser_end_of Of port frame) (parsed port frame).store

  pub ingress : (cells : Registers) (port : ℕ) (frame : List ℕ) → IsFit Of (ingress_run Of cells port frame).store
  ingress cells port frame = stmts_fit Of paths no_calls no_calls_fit Of.verify (verify_run Of cells port frame) (verify cells port frame)

  statements : (held : Tables) (ss : Stmts) (r : Run) → IsFit Of r.store → IsFit Of (meaning_of (calls_in Of.actions Of.tables held) ss r).0.store
  statements held ss r h = stmts_fit Of paths (calls_in Of.actions Of.tables held) (program_calls_fit Of.actions Of.tables held) ss r h

  pub egress_ends : (held : Tables) (cells : Registers) (q : Queued) → IsFitQueued Of q → IsFit Of (egress_end Of held cells q).store
  egress_ends held cells q h = statements held (whole Of.egress) (egress_run cells q) h

  -- what is not dropped
  kept_is : {A : Type 0} (b : Bool) (x y : A) → unless_dropped b x ≡ Some y → x ≡ y
  kept_is true x y e = absurd (cc)
  kept_is false x y e = cc

  queued : (held : Tables) (cells : Registers) (port : ℕ) (frame : List ℕ) (q : Queued) → (enter_of p held cells port frame).queued ≡ Some q → IsFitQueued Of q
  unfolding parts_enter
  queued held cells port frame q e =
      (let r = (meaning_of (calls_in Of.actions Of.tables held) (whole Of.ingress) (ingress_run Of cells port frame)).0 in
      subst (λ (x : Queued). IsFitQueued Of x) (kept_is (is_dropped r.store) (record { store = to_egress Of r.store; rest = (parser_end_of Of port frame).reading.rest }) q e)
      (to_egress_fits Of r.store paths (statements held (whole Of.ingress) (ingress_run Of cells port frame) (ingress cells port frame))))

  entry : (held : Tables) (cells : Registers) (port : ℕ) (frame : List ℕ) → IsFit Of (enter_of p held cells port frame).entry_state
  unfolding parts_enter
  entry held cells port frame = ingress cells port frame

  exit : (held : Tables) (cells : Registers) (q : Queued) (g : Going) → IsFitQueued Of q → (leave_of p held cells q).going ≡ Some g → IsFit Of g.exit_state
  unfolding parts_leave
  exit held cells q g h e =
      (let r = (meaning_of (calls_in Of.actions Of.tables held) (whole Of.egress) (egress_run cells q)).0 in
      subst (λ (x : Going). IsFit Of x.exit_state) (kept_is (is_dropped r.store) _ g e) (statements held (whole Of.egress) (egress_run cells q) h))

  enters : (held : Tables) (cells : Registers) (port : ℕ) (frame : List ℕ) → enter_of p held cells port frame ≡ entered_from Of held (parser_end_of Of port frame).reading.rest (ingress_run Of cells port frame)
  unfolding parts_enter
  enters held cells port frame = refl

  leaves : (held : Tables) (cells : Registers) (q : Queued) → leave_of p held cells q ≡ left_behind Of q.rest (egress_end Of held cells q)
  unfolding parts_leave
  leaves held cells q = refl

pub passage_stores_fit : PassageStoresFit
passage_stores_fit p typed =
    record {
      enters = enters p typed;
      leaves = leaves p typed;
      statements = statements p typed;
      bare_statements = λ ss r h. stmts_fit (parts_of p) (paths p typed) no_calls no_calls_fit ss r h;
      start = start p typed;
      parsed = parsed p typed;
      verify = verify p typed;
      ingress = ingress p typed;
      ingress_ends = λ held cells port frame. statements p typed held (whole (parts_of p).ingress) (ingress_run (parts_of p) cells port frame) (ingress p typed cells port frame);
      entry = entry p typed;
      queued = queued p typed;
      egress_ends = egress_ends p typed;
      computed = λ held cells q h. stmts_fit (parts_of p) (paths p typed) no_calls no_calls_fit (parts_of p).compute (compute_run (parts_of p) held cells q) (egress_ends p typed held cells q h);
      exit = exit p typed;
    }
