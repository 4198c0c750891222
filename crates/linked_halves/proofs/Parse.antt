-- Own parser states do the same behind the monitor's states, and the deparser writes the same of own headers.
use Rattle.std.specs.Option.{option_map}
use Rattle.std.proofs.Common.{◌≡◌, codes, ℕ, zero, suc, List, [], ◌∷◌, ◌++◌, map, Bool, true, false, not, cond, ◌||◌, Option, Some, None, Result, Ok, Err, refl, sym, ap, ap₂, ◌∙◌, subst}
use Rattle.std.specs.List.{AllByRecursion}
use Rattle.bit_values.specs.Bits.{Word, cast as cast_number}
use Rattle.bit_values.specs.BitLists.{number_bits}
use Rattle.lex_text.specs.Names.{same_text, same_path}
use Rattle.p4_tree.specs.Tree.{Case, Transition, nowhere, to, select, ParserState}
use Rattle.p4_meaning.specs.Store.{Store}
use Rattle.p4_meaning.specs.Value.{value_of}
use Rattle.p4_meaning.specs.Statements.{Run}
use Rattle.p4_meaning.specs.Parsing.{Field, Header, ParserError, NoError, Reading, Parsed, goes_on, stops, extracted, extracted_at, body_parsed, fits_all, first_fit, chosen, state_after, ParserEnd, parser_end, Turned, ends, leads, led, turned, ends_parser, found_state, passed_state, on_turned, turns_of, fields_bits, if_valid, header_bits, deparse_of}
use Rattle.own_code.specs.Regions.{is_mine, is_own_header}
use Rattle.own_code.specs.Forwarding.{IsOwnCase, IsOwnTransition, IsOwnState}
use Rattle.own_code.specs.Relations.{Alike}
use Rattle.own_code.proofs.Apart.{text_decides, apart, apart_names, own_free, field_readable}
use Rattle.packet_lengths.specs.Lengths.{plain_expr, plain_parse, plain_keyset, plain_case, plain_transition, Near}
use Rattle.packet_lengths.specs.Readings.{ExtractOwn, NearReading, NearTurned}
use Rattle.packet_lengths.proofs.NearStates.{reading_same, reading_then, near_state}
use Rattle.monitor_laws.specs.Names.{tele_header}
use Rattle.linked_halves.specs.ParserStates.{own_name, renamed_case, renamed_transition, own_state}
use Rattle.linked_halves.specs.LinkedParts.{telemetry}

-- an own header is not the telemetry header
not_tele : (p : List (List ℕ)) → is_own_header p ≡ true → same_path tele_header p ≡ false
not_tele p o = apart (λ q. not (is_own_header q)) tele_header p refl (ap not o)

-- two own names are the same renamed exactly where they were the same
name_same : (m n : List ℕ) → is_mine m ≡ false → is_mine n ≡ false → same_text (own_name m) (own_name n) ≡ same_text m n
name_same m n i j = go (same_text m (codes "start")) (same_text n (codes "start")) refl refl
  where
    renamed : (s t : Bool) → same_text m (codes "start") ≡ s → same_text n (codes "start") ≡ t → same_text (own_name m) (own_name n) ≡ same_text (cond s (codes "hydra_start") m) (cond t (codes "hydra_start") n)
    renamed s t a c = ap₂ (λ u v. same_text (cond u (codes "hydra_start") m) (cond v (codes "hydra_start") n)) a c

    go : (s t : Bool) → same_text m (codes "start") ≡ s → same_text n (codes "start") ≡ t → same_text (own_name m) (own_name n) ≡ same_text m n
    go true true a c = renamed true true a c ∙ sym ((text_decides m n).1 ((text_decides m (codes "start")).0 a ∙ sym ((text_decides n (codes "start")).0 c)))
    go true false a c = renamed true false a c ∙ apart_names is_mine (codes "hydra_start") n refl j ∙ sym (apart_names (λ z. same_text z (codes "start")) m n a c)
    go false true a c =
        renamed false true a c ∙ apart_names (λ z. not (is_mine z)) m (codes "hydra_start") (ap not i) refl ∙ sym (apart_names (λ z. not (same_text z (codes "start"))) m n (ap not a) (ap not c))
    go false false a c = renamed false false a c

module _ (ds : List Field) (hs : List Header) (headers : AllByRecursion (λ h. is_own_header h.path ≡ true) hs) where
  abbrev all : List Header
  all = telemetry ds ∷ hs

  -- own headers are extracted likewise
  extract : ExtractOwn hs all
  extract = record { own = headers; same = λ p y o. ap (λ b. cond b (extracted (telemetry ds) y) (extracted_at hs p y)) (not_tele p o) }

  -- the state that follows is the same, renamed
  abbrev renamed_option : Option (List ℕ) → Option (List ℕ)
  renamed_option None = None
  renamed_option (Some n) = Some (own_name n)

  abbrev renamed_result : Result (List ℕ) ParserError → Result (List ℕ) ParserError
  renamed_result (Ok n) = Ok (own_name n)
  renamed_result (Err e) = Err e

  renamed_fit : (cs : List Case) (ws : List Word) (s : Store) → first_fit (map renamed_case cs) ws s ≡ renamed_option (first_fit cs ws s)
  renamed_fit [] ws s = refl
  renamed_fit (c ∷ cs) ws s = ap (cond (fits_all c.keys ws s) (Some (own_name c.next))) (renamed_fit cs ws s) ∙ out (fits_all c.keys ws s) (Some c.next) (first_fit cs ws s)
    where
      out : (t : Bool) (u v : Option (List ℕ)) → cond t (renamed_option u) (renamed_option v) ≡ renamed_option (cond t u v)
      out true u v = refl
      out false u v = refl

  renamed_after : (t : Transition) (s : Store) → state_after (renamed_transition t) s ≡ renamed_result (state_after t s)
  renamed_after (nowhere p) s = refl
  renamed_after (to p n) s = refl
  renamed_after (select p es cs) s = ap chosen (renamed_fit cs (map (λ e. value_of e 0 s) es) s) ∙ out (first_fit cs (map (λ e. value_of e 0 s) es) s)
    where
      out : (r : Option (List ℕ)) → chosen (renamed_option r) ≡ renamed_result (chosen r)
      out None = refl
      out (Some n) = refl

  -- and it is own
  abbrev IsOwnResult : Result (List ℕ) ParserError → Type 0
  IsOwnResult (Ok n) = is_mine n ≡ false
  IsOwnResult (Err e) = Unit {0}

  -- what a state leads to is own
  abbrev IsOwnTurned : Turned → Type 0
  IsOwnTurned (ends e) = Unit {0}
  IsOwnTurned (leads n x) = is_mine n ≡ false

  after_own : (t : Transition) (a : Store) → IsOwnTransition t → IsOwnResult (state_after t a)
  after_own (nowhere p) a o = tt
  after_own (to p n) a o = o
  after_own (select p es cs) a o = in_cases cs o.1
    where
      pick : (t : Bool) (n : List ℕ) (r : Option (List ℕ)) → is_mine n ≡ false → IsOwnResult (chosen r) → IsOwnResult (chosen (cond t (Some n) r))
      pick true n r i j = i
      pick false n r i j = j

      in_cases : (cs : List Case) → AllByRecursion IsOwnCase cs → IsOwnResult (chosen (first_fit cs (map (λ e. value_of e 0 a) es) a))
      in_cases [] i = tt
      in_cases (c ∷ cs) i = pick (fits_all c.keys (map (λ e. value_of e 0 a) es) a) c.next (first_fit cs (map (λ e. value_of e 0 a) es) a) i.0.next (in_cases cs i.1)

  turned_own : (r : Parsed) (t : Transition) → IsOwnTransition t → IsOwnTurned (turned r t)
  turned_own (goes_on x) t o = led_own (state_after t x.store) x (after_own t x.store o)
    where
      led_own : (q : Result (List ℕ) ParserError) (x : Reading) → IsOwnResult q → IsOwnTurned (led q x)
      led_own (Ok n) x i = i
      led_own (Err e) x i = tt
  turned_own (stops x e) t o = tt

  -- both parsers end alike, with the same error
  pub record SameEnd (b : Store) (x y : ParserEnd) : Type 0 where
    pub took : NearReading b x.reading y.reading
    pub error : y.error ≡ x.error

  -- both end, or both lead to the same own state
  abbrev BothTurned : Store → Turned → Turned → Type 0
  BothTurned b (ends x) (ends y) = SameEnd b x y
  BothTurned b (leads n x) (leads n' y) = NearReading b x y × (n' ≡ own_name n) × (is_mine n ≡ false)
  BothTurned b (ends x) (leads n y) = ⊥
  BothTurned b (leads n x) (ends y) = ⊥

  -- what both states do, the one of them renamed
  renamed_both : (b : Store) (sts : Parsed) (t : Transition) (r : Turned) → NearTurned b r (turned sts t) → IsOwnTurned r → BothTurned b r (turned sts (renamed_transition t))
  renamed_both b (goes_on y) t r h o = subst (λ q. BothTurned b r (led q y)) (sym (renamed_after t y.store)) (led_both b (state_after t y.store) r y h o)
    where
      led_both : (b : Store) (q : Result (List ℕ) ParserError) (r : Turned) (y : Reading) → NearTurned b r (led q y) → IsOwnTurned r → BothTurned b r (led (renamed_result q) y)
      led_both b (Ok n) (leads m x) y h o = (h.0, ap own_name h.1, o)
      led_both b (Err e) (ends x) y h o = record { took = h.0; error = h.1 }
      led_both b (Ok n) (ends x) y h o = absurd h
      led_both b (Err e) (leads m x) y h o = absurd h
  renamed_both b (stops y e) t (ends x) h o = record { took = h.0; error = h.1 }
  renamed_both b (stops y e) t (leads m x) h o = absurd h

  turned_both : (st : ParserState) (x y : Reading) → IsOwnState st → Near x.store y.store → y.rest ≡ x.rest → BothTurned y.store (turned (body_parsed hs st.body x) st.next) (turned (body_parsed all (map plain_parse st.body) y) (renamed_transition (plain_transition st.next)))
  turned_both st x y o s e =
      renamed_both y.store (body_parsed all (map plain_parse st.body) y) (plain_transition st.next) (turned (body_parsed hs st.body x) st.next) (near_state hs all extract st x y o s e) (turned_own (body_parsed hs st.body x) st.next o.next)

  -- both find a state of their own and the same states behind it, or none
  abbrev BothTaken : Option (ParserState × List ParserState) → Option (ParserState × List ParserState) → Type 0
  BothTaken None None = Unit {0}
  BothTaken (Some t) (Some u) = IsOwnState t.0 × AllByRecursion IsOwnState t.1 × (u.0 ≡ own_state t.0) × (u.1 ≡ map own_state t.1)
  BothTaken None (Some u) = ⊥
  BothTaken (Some t) None = ⊥

  taken_behind : (st : ParserState) (t u : Option (ParserState × List ParserState)) → IsOwnState st → BothTaken t u → BothTaken (option_map (λ v. (v.0, st ∷ v.1)) t) (option_map (λ v. (v.0, own_state st ∷ v.1)) u)
  taken_behind st None None o h = tt
  taken_behind st (Some t) (Some u) o h = (h.0, (o, h.1), h.2, ap (λ l. own_state st ∷ l) h.3)
  taken_behind st None (Some u) o h = absurd h
  taken_behind st (Some t) None o h = absurd h

  taken_if : (s t : Bool) (x x' y y' : Option (ParserState × List ParserState)) → t ≡ s → BothTaken x x' → BothTaken y y' → BothTaken (cond s x y) (cond t x' y')
  taken_if true true x x' y y' e h k = h
  taken_if false false x x' y y' e h k = k
  taken_if true false x x' y y' e h k = absurd (cc)
  taken_if false true x x' y y' e h k = absurd (cc)

  state_both : (sts : List ParserState) (n : List ℕ) → AllByRecursion IsOwnState sts → is_mine n ≡ false → BothTaken (found_state sts n) (found_state (map own_state sts) (own_name n))
  state_both [] n o i = tt
  state_both (st ∷ sts) n o i =
      taken_if (same_text st.name n) (same_text (own_name st.name) (own_name n)) _ _ _ _ (name_same st.name n o.0.name i)
      (o.0, o.1, refl, refl) (taken_behind st (found_state sts n) (found_state (map own_state sts) (own_name n)) o.0 (state_both sts n o.1 i))

  ends_same : (n : List ℕ) → is_mine n ≡ false → ends_parser (own_name n) ≡ ends_parser n
  ends_same n i = ap₂ (λ a b. a || b) (name_same n (codes "accept") i refl) (name_same n (codes "reject") i refl)

  end_if : (b : Store) (s t : Bool) (x x' y y' : ParserEnd) → t ≡ s → SameEnd b x x' → SameEnd b y y' → SameEnd b (cond s x y) (cond t x' y')
  end_if b true true x x' y y' e h k = h
  end_if b false false x x' y y' e h k = k
  end_if b true false x x' y y' e h k = absurd (cc)
  end_if b false true x x' y y' e h k = absurd (cc)

  -- so many turns, from any own state among any own states
  abbrev RunBoth : ℕ → Type 0
  RunBoth k = (l : List ParserState) (m : List ℕ) (u v : Reading) → AllByRecursion IsOwnState l → is_mine m ≡ false → Near u.store v.store → v.rest ≡ u.rest → SameEnd v.store (turns_of k hs l m u) (turns_of k (telemetry ds ∷ hs) (map own_state l) (own_name m) v)

  -- any number of turns from an own state, among own states
  pub runs_both : (k : ℕ) (sts : List ParserState) (n : List ℕ) (x y : Reading) → AllByRecursion IsOwnState sts → is_mine n ≡ false → Near x.store y.store → y.rest ≡ x.rest → SameEnd y.store (turns_of k hs sts n x) (turns_of k (telemetry ds ∷ hs) (map own_state sts) (own_name n) y)
  runs_both zero sts n x y o i s e = record { took = reading_same x y s e; error = refl }
  runs_both (suc k) sts n x y o i s e =
      end_if y.store (ends_parser n) (ends_parser (own_name n)) _ _ _ _ (ends_same n i) (record { took = reading_same x y s e; error = refl })
      (pass (found_state sts n) (found_state (map own_state sts) (own_name n)) (state_both sts n o i) (λ l m u v h j a q. runs_both k l m u v h j a q))
    where
      go : RunBoth k → (sts : List ParserState) → AllByRecursion IsOwnState sts → (r q : Turned) → BothTurned y.store r q → SameEnd y.store (on_turned r (turns_of k hs sts)) (on_turned q (turns_of k (telemetry ds ∷ hs) (map own_state sts)))
      go more sts o (ends u) (ends v) h = h
      go more sts o (leads m u) (leads m' v) h =
          let following = more sts m u v o h.2 h.0.near h.0.rest in
          let all : SameEnd y.store (turns_of k hs sts m u) (turns_of k (telemetry ds ∷ hs) (map own_state sts) (own_name m) v) = record { took = reading_then y.store v.store _ _ h.0.stays following.took; error = following.error } in
          subst (λ z. SameEnd y.store (turns_of k hs sts m u) (turns_of k (telemetry ds ∷ hs) (map own_state sts) z v)) (sym h.1) all
      go more sts o (ends u) (leads m v) h = absurd h
      go more sts o (leads m u) (ends v) h = absurd h

      pass : (t u : Option (ParserState × List ParserState)) → BothTaken t u → RunBoth k → SameEnd y.store (passed_state hs t x (turns_of k hs)) (passed_state (telemetry ds ∷ hs) u y (turns_of k (telemetry ds ∷ hs)))
      pass None None h more = record { took = reading_same x y s e; error = refl }
      pass (Some t) (Some u) h more =
          let both = turned_both t.0 x y h.0 s e in
          let all = go more t.1 h.1 (turned (body_parsed hs t.0.body x) t.0.next) (turned (body_parsed (telemetry ds ∷ hs) (map plain_parse t.0.body) y) (renamed_transition (plain_transition t.0.next))) both in
          subst (λ (v : ParserState). SameEnd y.store (passed_state hs (Some t) x (turns_of k hs)) (passed_state (telemetry ds ∷ hs) (Some (v, u.1)) y (turns_of k (telemetry ds ∷ hs)))) (sym h.2)
          (subst (λ (l : List ParserState). SameEnd y.store (passed_state hs (Some t) x (turns_of k hs)) (passed_state (telemetry ds ∷ hs) (Some (own_state t.0, l)) y (turns_of k (telemetry ds ∷ hs)))) (sym h.3) all)
      pass None (Some u) h more = absurd h
      pass (Some t) None h more = absurd h

  plain_own : (t : Transition) (a : Store) → IsOwnTransition t → IsOwnResult (state_after (plain_transition t) a)
  plain_own (nowhere p) a o = tt
  plain_own (to p n) a o = o
  plain_own (select p es cs) a o = in_cases cs (map (λ e. value_of e 0 a) (map plain_expr es)) o.1
    where
      pick : (t : Bool) (n : List ℕ) (r : Option (List ℕ)) → is_mine n ≡ false → IsOwnResult (chosen r) → IsOwnResult (chosen (cond t (Some n) r))
      pick true n r i j = i
      pick false n r i j = j

      in_cases : (cs : List Case) (ws : List Word) → AllByRecursion IsOwnCase cs → IsOwnResult (chosen (first_fit (map plain_case cs) ws a))
      in_cases [] ws i = tt
      in_cases (c ∷ cs) ws i = pick (fits_all (map plain_keyset c.keys) ws a) c.next (first_fit (map plain_case cs) ws a) i.0.next (in_cases cs ws i.1)

  -- a state to which no own state leads, in front of own states, is never passed
  module _ (first : ParserState) (other : (n : List ℕ) → is_mine n ≡ false → same_text first.name (own_name n) ≡ false) where
    abbrev Passes : ℕ → Type 0
    Passes k = (sts : List ParserState) (n : List ℕ) (y : Reading) → AllByRecursion IsOwnState sts → is_mine n ≡ false → turns_of k (telemetry ds ∷ hs) (first ∷ map own_state sts) (own_name n) y ≡ turns_of k (telemetry ds ∷ hs) (map own_state sts) (own_name n) y

    led_on : (k : ℕ) (sts : List ParserState) (r : Result (List ℕ) ParserError) (y : Reading) → AllByRecursion IsOwnState sts → IsOwnResult r → Passes k → on_turned (led (renamed_result r) y) (turns_of k (telemetry ds ∷ hs) (first ∷ map own_state sts)) ≡ on_turned (led (renamed_result r) y) (turns_of k (telemetry ds ∷ hs) (map own_state sts))
    led_on k sts (Ok n) y o i more = more sts n y o i
    led_on k sts (Err e) y o i more = refl

    turned_on : (k : ℕ) (sts : List ParserState) (r : Parsed) (t : Transition) → AllByRecursion IsOwnState sts → IsOwnTransition t → Passes k → on_turned (turned r (renamed_transition (plain_transition t))) (turns_of k (telemetry ds ∷ hs) (first ∷ map own_state sts)) ≡ on_turned (turned r (renamed_transition (plain_transition t))) (turns_of k (telemetry ds ∷ hs) (map own_state sts))
    turned_on k sts (goes_on y) t o i more =
        let P : Result (List ℕ) ParserError → Type 0 = λ r. on_turned (led r y) (turns_of k (telemetry ds ∷ hs) (first ∷ map own_state sts)) ≡ on_turned (led r y) (turns_of k (telemetry ds ∷ hs) (map own_state sts)) in
        subst P (sym (renamed_after (plain_transition t) y.store)) (led_on k sts (state_after (plain_transition t) y.store) y o (plain_own t y.store i) more)
    turned_on k sts (stops y e) t o i more = refl

    pub passed_over : (k : ℕ) → Passes k
    passed_over zero sts n y o i = refl
    passed_over (suc k) sts n y o i =
        ap (cond (ends_parser (own_name n)) (parser_end y NoError))
        (ap (λ b. passed_state (telemetry ds ∷ hs) (cond b (Some (first, map own_state sts)) (option_map (λ t. (t.0, first ∷ t.1)) (found_state (map own_state sts) (own_name n)))) y (turns_of k (telemetry ds ∷ hs))) (other n i)
        ∙ pass (found_state sts n) (found_state (map own_state sts) (own_name n)) (state_both sts n o i) (λ l m v h j. passed_over k l m v h j))
      where
        pass : (t u : Option (ParserState × List ParserState)) → BothTaken t u → Passes k → passed_state (telemetry ds ∷ hs) (option_map (λ t. (t.0, first ∷ t.1)) u) y (turns_of k (telemetry ds ∷ hs)) ≡ passed_state (telemetry ds ∷ hs) u y (turns_of k (telemetry ds ∷ hs))
        pass None None h more = refl
        pass (Some t) (Some u) h more =
            let all = turned_on k t.1 (body_parsed (telemetry ds ∷ hs) (map plain_parse t.0.body) y) t.0.next h.1 h.0.next more in
            let P : ParserState → List ParserState → Type 0 = λ v l. on_turned (turned (body_parsed (telemetry ds ∷ hs) v.body y) v.next) (turns_of k (telemetry ds ∷ hs) (first ∷ l)) ≡ on_turned (turned (body_parsed (telemetry ds ∷ hs) v.body y) v.next) (turns_of k (telemetry ds ∷ hs) l) in
            subst (λ v. P v u.1) (sym h.2) (subst (λ l. P (own_state t.0) l) (sym h.3) all)
        pass None (Some u) h more = absurd h
        pass (Some t) None h more = absurd h

  -- the deparser
  fields_same : (p : List (List ℕ)) (fs : List Field) (a b : Run) → is_own_header p ≡ true → Alike a b → fields_bits p fs b.store ≡ fields_bits p fs a.store
  fields_same p [] a b o s = refl
  fields_same p (f ∷ fs) a b o s =
      ap₂ (λ (u v : List ℕ). u ++ v) (ap (λ (w : Word). number_bits f.width (cast_number f.width w.value)) (s.values (p ++ f.name ∷ []) (field_readable p f.name o))) (fields_same p fs a b o s)

  header_same : (ks : List Header) (p : List (List ℕ)) (a b : Run) → AllByRecursion (λ h. is_own_header h.path ≡ true) ks → Alike a b → header_bits ks p b.store ≡ header_bits ks p a.store
  header_same [] p a b o s = refl
  header_same (h ∷ ks) p a b o s =
      ap₂ (λ u v. cond (same_path h.path p) u v) (ap₂ if_valid (s.headers h.path (own_free h.path o.0)) (fields_same h.path h.fields a b o.0 s)) (header_same ks p a b o.1 s)

  pub deparsed_same : (ps : List (List (List ℕ))) (a b : Run) → AllByRecursion (λ p. is_own_header p ≡ true) ps → Alike a b → deparse_of (telemetry ds ∷ hs) ps b.store ≡ deparse_of hs ps a.store
  deparsed_same [] a b o s = refl
  deparsed_same (p ∷ ps) a b o s =
      let skip : header_bits (telemetry ds ∷ hs) p b.store ≡ header_bits hs p b.store = ap (λ t. cond t (if_valid (b.store.headers tele_header) (fields_bits tele_header (telemetry ds).fields b.store)) (header_bits hs p b.store)) (not_tele p o.0) in
      ap₂ (λ (u v : List ℕ). u ++ v) (skip ∙ header_same hs p a b headers s) (deparsed_same ps a b o.1 s)
