-- A reading goes on to fit whatever the states of a parser do: an extract gives each field a word of its width, and what is
-- assigned is cast.
use Rattle.std.proofs.Common.{◌≡◌, ℕ, zero, suc, ◌<◌, ◌≤◌, ◌^◌, List, [], ◌∷◌, ◌++◌, length, take, Bool, true, false, cond, codes, Option, Some, None, refl, sym, subst, arith}
use Rattle.std.specs.Prelude.{Result, Ok, Err, nat_lt}
use Rattle.std.proofs.lemmas.List.{length-take}
use Rattle.std.proofs.Math.Pow.{pow_mono}
use Rattle.bit_values.specs.Bits.{Word, word}
use Rattle.bit_values.specs.BitLists.{AreBits, number_of}
use Rattle.bit_values.proofs.BitListsLemmas.{AreBits-take, AreBits-drop, number_of-lt}
use Rattle.lex_text.specs.Names.{same_path}
use Rattle.p4_tree.specs.Tree.{path, Arg, one, Stmt, nothing, block, var, assign, choice, return_, exit_, call, ParserState, Transition}
use Rattle.p4_meaning.specs.Store.{Store}
use Rattle.p4_meaning.specs.Value.{value_of}
use Rattle.p4_meaning.specs.Statements.{assigned, no_calls}
use Rattle.p4_meaning.specs.Parsing.{Field, Header, ParserError, NoError, PacketTooShort, Reading, width_sum, field_taken, fields_taken, with_valid, Parsed, goes_on, stops, extracted, extracted_at, unless_stopped, call_parsed, stmt_parsed, body_parsed, state_after, ParserEnd, parser_end, led, turned, on_turned, found_state, ends_parser, passed_state, turns_of, parse_of}
use Rattle.p4_meaning.specs.Parts.{Parts}
use Rattle.p4_meaning.specs.Pass.{run_from}
use Rattle.p4_meaning.specs.Laws.{IsOf}
use Rattle.p4_typing_laws.specs.Along.{Keeps}
use Rattle.p4_typing_laws.proofs.KeptPlaces.{path_is, keeps_same, keeps_then, set_keeps, assigned_keeps, no_calls_none, stmt_none}
use Rattle.passage_stores.specs.FitStores.{FieldsFit, HeadersFit, IsFitReading}
use Rattle.passage_stores.proofs.KeptStores.{IsLong, HavePaths, fields_kept, fit_kept}

-- ---- a field takes its bits

taken_word : (w n : ℕ) (v : Word) → IsOf w v → (bs : List ℕ) → AreBits bs → IsOf w (word w (number_of (take w bs)))
taken_word w n v h bs bits =
    let some : number_of (take w bs) < 2 ^ length (take w bs) = number_of-lt (take w bs) (AreBits-take w bs bits) in
    let short : length (take w bs) ≤ w = shorter in
    let more : 2 ^ length (take w bs) ≤ 2 ^ w = pow_mono short in
    record {
      word = record { wide = subst (λ (k : ℕ). 1 ≤ k) h.width h.word.wide; narrow = subst (λ (k : ℕ). k ≤ 128) h.width h.word.narrow; in_range = omega (arith, some, more) };
      width = refl;
    }
  where
    shorter : length (take w bs) ≤ w
    shorter = (let e = length-take w bs in omega (arith, e))

-- a store with its rest, over another
pub record Takes (a : Store) (r : Reading) : Type 0 where
  pub store : Keeps IsLong a r.store
  pub plain : r.store.headers [] ≡ None
  pub rest : AreBits r.rest

field_takes : (above : List (List ℕ)) (f : Field) (r : Reading) → IsOf f.width (r.store.values (above ++ f.name ∷ [])) → r.store.headers [] ≡ None → AreBits r.rest → Takes r.store (field_taken above f r)
field_takes above f r h plain bits =
    (let new = taken_word f.width 0 (r.store.values (above ++ f.name ∷ [])) h r.rest bits in
    record {
      store = set_keeps IsLong r.store (above ++ f.name ∷ []) (word f.width (number_of (take f.width r.rest))) (λ k i. record { word = new.word; width = sym h.width });
      plain = plain;
      rest = AreBits-drop f.width r.rest bits;
    })

fields_take : (above : List (List ℕ)) → (above ≡ [] → ⊥) → (fs : List Field) (r : Reading) → FieldsFit above fs r.store → r.store.headers [] ≡ None → AreBits r.rest → Takes r.store (fields_taken above fs r)
fields_take above some [] r h plain bits = record { store = keeps_same IsLong r.store; plain = plain; rest = bits }
fields_take above some (f ∷ fs) r h plain bits =
    (let one = field_takes above f r h.0 plain bits in
    let q = field_taken above f r in
    let more = fields_take above some fs q (fields_kept above some fs r.store q.store one.store h.1) one.plain one.rest in
    record { store = keeps_then IsLong r.store q.store (fields_taken above fs q).store one.store more.store; plain = more.plain; rest = more.rest })

valid_takes : (a : Store) (h : List (List ℕ)) → (h ≡ [] → ⊥) → (r : Reading) → Takes a r → Takes a (with_valid h r)
valid_takes a h some r t =
    record {
      store = record { words = λ q k i. t.store.words q k i };
      plain = go (same_path h []) refl;
      rest = t.rest;
    }
  where
    go : (b : Bool) → same_path h [] ≡ b → cond b (Some true) (r.store.headers []) ≡ None
    go true e = absurd (some (path_is h [] e))
    go false e = t.plain

-- ---- what a state does

abbrev pub ParsedFits : Parts → Parsed → Type 0
ParsedFits p (goes_on r) = IsFitReading p r
ParsedFits p (stops r e) = IsFitReading p r

module _ (p : Parts) (paths : HavePaths p.headers) where
  of_taken : (r q : Reading) → IsFitReading p r → Takes r.store q → IsFitReading p q
  of_taken r q h t = record { store = fit_kept p paths r.store q.store t.store t.plain h.store; rest = t.rest }

  extract_fits : (h : Header) (r : Reading) → (h.path ≡ [] → ⊥) → FieldsFit h.path h.fields r.store → IsFitReading p r → ParsedFits p (extracted h r)
  extract_fits h r some fields fit = go (nat_lt (length r.rest) (width_sum h.fields))
    where
      go : (b : Bool) → ParsedFits p (cond b (stops r PacketTooShort) (goes_on (with_valid h.path (fields_taken h.path h.fields r))))
      go true = fit
      go false = of_taken r (with_valid h.path (fields_taken h.path h.fields r)) fit (valid_takes r.store h.path some (fields_taken h.path h.fields r) (fields_take h.path some h.fields r fields fit.store.plain fit.rest))

  at_fits : (hs : List Header) → HavePaths hs → (x : List (List ℕ)) (r : Reading) → HeadersFit hs r.store → IsFitReading p r → ParsedFits p (extracted_at hs x r)
  at_fits [] some x r fields fit = fit
  at_fits (h ∷ hs) some x r fields fit = go (same_path h.path x) (at_fits hs some.1 x r fields.1 fit)
    where
      go : (b : Bool) → ParsedFits p (extracted_at hs x r) → ParsedFits p (cond b (extracted h r) (extracted_at hs x r))
      go true k = extract_fits h r some.0 fields.0 fit
      go false k = k

  call_fits : (args : List Arg) (r : Reading) → IsFitReading p r → ParsedFits p (call_parsed p.headers args r)
  call_fits (one q (path o names) ∷ []) r fit = at_fits p.headers paths names r fit.store.headers fit
  call_fits _ r fit = fit

  -- any statement
  pub step_fits : (c : Stmt) (r : Reading) → IsFitReading p r → ParsedFits p (stmt_parsed p.headers c r)
  step_fits (nothing q) r fit = fit
  step_fits (block q ss) r fit = fit
  step_fits (var q ty y v) r fit = fit
  step_fits (assign q t v) r fit =
      (let w = value_of v (r.store.values t).width r.store in
      of_taken r (record r { store = assigned r.store t w }) fit (record { store = assigned_keeps IsLong r.store t w; plain = stmt_none no_calls no_calls_none (assign q t v) (run_from r.store (λ x. [])) fit.store.plain; rest = fit.rest }))
  step_fits (choice q c a b) r fit = fit
  step_fits (return_ q) r fit = fit
  step_fits (exit_ q) r fit = fit
  step_fits (call q callee args) r fit = call_fits args r fit

  pub body_fits : (cs : List Stmt) (r : Reading) → IsFitReading p r → ParsedFits p (body_parsed p.headers cs r)
  body_fits [] r fit = fit
  body_fits (c ∷ cs) r fit = go (stmt_parsed p.headers c r) (step_fits c r fit) (body_fits cs)
    where
      go : (d : Parsed) → ParsedFits p d → ((q : Reading) → IsFitReading p q → ParsedFits p (body_parsed p.headers cs q)) → ParsedFits p (unless_stopped d (body_parsed p.headers cs))
      go (goes_on q) k more = more q k
      go (stops q e) k more = k

  -- ---- what a parser does

  led_fits : (o : Result (List ℕ) ParserError) (r : Reading) (more : List ℕ → Reading → ParserEnd) → IsFitReading p r → ((y : List ℕ) (q : Reading) → IsFitReading p q → IsFitReading p (more y q).reading) → IsFitReading p (on_turned (led o r) more).reading
  led_fits (Ok y) r more h k = k y r h
  led_fits (Err e) r more h k = h

  turned_fits : (d : Parsed) (t : Transition) (more : List ℕ → Reading → ParserEnd) → ParsedFits p d → ((y : List ℕ) (q : Reading) → IsFitReading p q → IsFitReading p (more y q).reading) → IsFitReading p (on_turned (turned d t) more).reading
  turned_fits (goes_on r) t more h k = led_fits (state_after t r.store) r more h k
  turned_fits (stops r e) t more h k = h

  passed_fits : (o : Option (ParserState × List ParserState)) (r : Reading) (more : List ParserState → List ℕ → Reading → ParserEnd) → IsFitReading p r
      → ((sts : List ParserState) (y : List ℕ) (q : Reading) → IsFitReading p q → IsFitReading p (more sts y q).reading) → IsFitReading p (passed_state p.headers o r more).reading
  passed_fits None r more h k = h
  passed_fits (Some t) r more h k = turned_fits (body_parsed p.headers t.0.body r) t.0.next (more t.1) (body_fits t.0.body r h) (k t.1)

  turns_fit : (n : ℕ) (sts : List ParserState) (y : List ℕ) (r : Reading) → IsFitReading p r → IsFitReading p (turns_of n p.headers sts y r).reading
  turns_fit zero sts y r h = h
  turns_fit (suc n) sts y r h = go (ends_parser y) (passed_fits (found_state sts y) r (turns_of n p.headers) h (λ us z q k. turns_fit n us z q k))
    where
      go : (b : Bool) → IsFitReading p (passed_state p.headers (found_state sts y) r (turns_of n p.headers)).reading → IsFitReading p (cond b (parser_end r NoError) (passed_state p.headers (found_state sts y) r (turns_of n p.headers))).reading
      go true k = h
      go false k = k

  pub parse_fits : (sts : List ParserState) (r : Reading) → IsFitReading p r → IsFitReading p (parse_of p.headers sts r).reading
  parse_fits sts r h = turns_fit (suc (length sts)) sts (codes "start") r h
