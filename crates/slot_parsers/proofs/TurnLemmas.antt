-- The parser by numbers of states does what the parser by names does. By induction on the turns: the states that are left are
-- those without a flag.
use Rattle.std.proofs.Common.{◌≡◌, ℕ, zero, suc, List, [], ◌∷◌, length, replicate, get_or, Bool, true, false, if◌then◌else◌, Option, Some, None, refl, sym, ap, ◌∙◌, subst, Decides}
use Rattle.std.specs.Prelude.{slice_get, slice_set, is_none, Result, Ok, Err, codes}
use Rattle.std.specs.Option.{option_map}
use Rattle.std.proofs.lemmas.Bool.{and_parts}
use Rattle.std.proofs.lemmas.Slice.Eq.{bytes_eq-Decides}
use Rattle.lex_text.specs.Names.{same_text}
use Rattle.p4_tree.specs.Tree.{ParserState, Transition}
use Rattle.p4_meaning.specs.Parsing as parsing
use Rattle.p4_meaning.specs.Parsing.{Header, Reading, Parsed, goes_on, stops, ParserError, NoError, ParserEnd, parser_end, found_state, ends_parser, passed_state, on_turned, body_parsed, state_after, turns_of, parse_of}
use Rattle.slot_terms.specs.Places.{Places}
use Rattle.slot_terms.proofs.LaidLemmas.{some_is}
use Rattle.slot_places.specs.HeaderSlots.{HeaderSlots}
use Rattle.slot_parsers.specs.ParserCodes.{Next, StateCode, SlotReading, Stepped, on, halt, slot_end, led, turned, on_turn, state_turn, turns, steps_done}
use Rattle.slot_parsers.specs.Parses.{state_number, are_named, target, with_target, Reads, StepsAlike, EndsAlike, IsStateOf, AreStatesOf, Leads, NumberedStatesParse}
use Rattle.slot_parsers.proofs.StepLemmas.{steps_do}

-- ---- the states that are left

-- the states without a flag; what has none counts as passed
abbrev left_of : List ParserState → List Bool → List ParserState
left_of [] ps = []
left_of (st ∷ sts) [] = []
left_of (st ∷ sts) (true ∷ ps) = left_of sts ps
left_of (st ∷ sts) (false ∷ ps) = st ∷ left_of sts ps

all_left : (sts : List ParserState) → left_of sts (replicate (length sts) false) ≡ sts
all_left [] = refl
all_left (st ∷ sts) = ap (λ l. st ∷ l) (all_left sts)

text_decides : (x y : List ℕ) → Decides (same_text x y) (x ≡ y)
text_decides x y = bytes_eq-Decides x y

-- ---- a name that no state has

no_state : (o : Option ℕ) → is_none o ≡ true → o ≡ None
no_state None e = refl
no_state (Some n) e = absurd (cc e)

other_first : (b : Bool) (o : Option ℕ) → (if b then Some 0 else option_map suc o) ≡ None → (b ≡ false) × (o ≡ None)
other_first true o e = absurd (cc e)
other_first false None e = (refl, refl)
other_first false (Some n) e = absurd (cc e)

-- a state that was found, and the states that are left
abbrev Taken : Type 0
Taken = ParserState × List ParserState

abbrev behind : ParserState → Taken → Taken
behind st t = (t.0, st ∷ t.1)

abbrev found_in : Bool → Taken → Option Taken → Option Taken
found_in b t o = if b then Some t else option_map (behind t.0) o

pass_by : (b : Bool) (t : Taken) (o : Option Taken) → b ≡ false → o ≡ None → found_in b t o ≡ None
pass_by true t o e n = absurd (cc e)
pass_by false t o e n = ap (option_map (behind t.0)) n

none_left : (sts : List ParserState) (ps : List Bool) (x : List ℕ) → state_number sts x ≡ None → found_state (left_of sts ps) x ≡ None
none_left [] ps x e = refl
none_left (st ∷ sts) [] x e = refl
none_left (st ∷ sts) (true ∷ ps) x e = none_left sts ps x (other_first (same_text st.name x) (state_number sts x) e).1
none_left (st ∷ sts) (false ∷ ps) x e =
    let parts = other_first (same_text st.name x) (state_number sts x) e in
    pass_by (same_text st.name x) (st, left_of sts ps) (found_state (left_of sts ps) x) parts.0 (none_left sts ps x parts.1)

-- ---- a name that one state has

-- by its flag the state is found and taken from those that are left, or it is not found
abbrev IsLeft : List ParserState → List Bool → (name : List ℕ) → (number : ℕ) → Bool → Type 0
IsLeft sts ps x n true = found_state (left_of sts ps) x ≡ None
IsLeft sts ps x n false = (st : ParserState) × (slice_get sts n ≡ Some st) × (found_state (left_of sts ps) x ≡ Some (st, left_of sts (slice_set ps n true)))

here : (st : ParserState) (sts : List ParserState) (ps : List Bool) (x : List ℕ) → same_text st.name x ≡ true → state_number sts x ≡ None → IsLeft (st ∷ sts) ps x 0 (get_or ps 0 true)
here st sts [] x e none = refl
here st sts (true ∷ ps) x e none = none_left sts ps x none
here st sts (false ∷ ps) x e none = (st, refl, ap (λ b. found_in b (st, left_of sts ps) (found_state (left_of sts ps) x)) e)

passed_there : (st : ParserState) (sts : List ParserState) (ps : List Bool) (x : List ℕ) (n : ℕ) (b : Bool) → IsLeft sts ps x n b → IsLeft (st ∷ sts) (true ∷ ps) x (suc n) b
passed_there st sts ps x n true h = h
passed_there st sts ps x n false h = (h.0, h.1, h.2)

left_there : (st : ParserState) (sts : List ParserState) (ps : List Bool) (x : List ℕ) (n : ℕ) (b : Bool) → same_text st.name x ≡ false → IsLeft sts ps x n b → IsLeft (st ∷ sts) (false ∷ ps) x (suc n) b
left_there st sts ps x n true e h = pass_by (same_text st.name x) (st, left_of sts ps) (found_state (left_of sts ps) x) e h
left_there st sts ps x n false e h = (
  h.0,
  h.1,
  ap (λ b. found_in b (st, left_of sts ps) (found_state (left_of sts ps) x)) e
      ∙ ap (option_map (behind st)) h.2,
)

there : (st : ParserState) (sts : List ParserState) (ps : List Bool) (x : List ℕ) (n : ℕ) → same_text st.name x ≡ false → ((qs : List Bool) → IsLeft sts qs x n (get_or qs n true)) → IsLeft (st ∷ sts) ps x (suc n) (get_or ps (suc n) true)
there st sts [] x n e more = refl
there st sts (true ∷ ps) x n e more = passed_there st sts ps x n (get_or ps n true) (more ps)
there st sts (false ∷ ps) x n e more = left_there st sts ps x n (get_or ps n true) e (more ps)

left_step : (b : Bool) (o : Option ℕ) (st : ParserState) (sts : List ParserState) (ps : List Bool) (x : List ℕ) (n : ℕ) → same_text st.name x ≡ b → (b ≡ true → o ≡ None) → ((k : ℕ) → o ≡ Some k → (qs : List Bool) → IsLeft sts qs x k (get_or qs k true)) → state_number sts x ≡ o
    → (if b then Some 0 else option_map suc o) ≡ Some n → IsLeft (st ∷ sts) ps x n (get_or ps n true)
left_step true o st sts ps x n e single more is same =
    let zero_is : 0 ≡ n = some_is same in
    subst (λ k. IsLeft (st ∷ sts) ps x k (get_or ps k true)) zero_is (here st sts ps x e (is ∙ single refl))
left_step false None st sts ps x n e single more is same = absurd (cc same)
left_step false (Some k) st sts ps x n e single more is same =
    let suc_is : suc k ≡ n = some_is same in
    subst (λ j. IsLeft (st ∷ sts) ps x j (get_or ps j true)) suc_is (there st sts ps x k e (more k refl))

pub is_left : (sts : List ParserState) → are_named sts ≡ true → (ps : List Bool) (x : List ℕ) (n : ℕ) → state_number sts x ≡ Some n → IsLeft sts ps x n (get_or ps n true)
is_left [] named ps x n e = absurd (cc e)
is_left (st ∷ sts) named ps x n e =
    let parts = and_parts (is_none (state_number sts st.name)) (are_named sts) named in
    let none : state_number sts st.name ≡ None = no_state (state_number sts st.name) parts.0 in
    left_step (same_text st.name x) (state_number sts x) st sts ps x n refl
    (λ same. ap (state_number sts) (sym ((text_decides st.name x).0 same)) ∙ none)
    (λ k is qs. is_left sts parts.1 qs x k is) refl e

-- ---- one turn

-- the code of the state of a number
state_at : (m : Places) (heads : List HeaderSlots) (hs : List Header) (all : List ParserState) (cs : List StateCode) (sts : List ParserState) (n : ℕ) (st : ParserState) → AreStatesOf m heads hs all cs sts → slice_get sts n ≡ Some st → (c : StateCode) × (slice_get cs n ≡ Some c) × IsStateOf m heads hs all c st
state_at m heads hs all [] [] n st are e = absurd (cc e)
state_at m heads hs all (c ∷ cs) [] n st are e = absurd are
state_at m heads hs all [] (t ∷ sts) n st are e = absurd are
state_at m heads hs all (c ∷ cs) (t ∷ sts) zero st are e = (c, refl, subst (IsStateOf m heads hs all c) (some_is e) are.0)
state_at m heads hs all (c ∷ cs) (t ∷ sts) (suc n) st are e = state_at m heads hs all cs sts n st are.1 e

module _ (m : Places) (heads : List HeaderSlots) (hs : List Header) (all : List ParserState) (cs : List StateCode) (named : are_named all ≡ true) (are : AreStatesOf m heads hs all cs all) where
  abbrev Goes : ℕ → Type 0
  Goes k = (ps : List Bool) (x : List ℕ) (r : SlotReading) (s : Reading) → Reads m r s → EndsAlike m (turns heads cs k ps (target all x) r) (turns_of k hs (left_of all ps) x s)

  both_end : (r : SlotReading) (s : Reading) (e : ParserError) → Reads m r s → EndsAlike m (slot_end r e) (parser_end s e)
  both_end r s e reads = record { reads = reads; error = refl }

  led_alike : (k : ℕ) (ps : List Bool) (o : Result (List ℕ) ParserError) (r : SlotReading) (s : Reading) → Reads m r s → Goes k
      → EndsAlike m (on_turn (led (with_target all o) r) (turns heads cs k ps)) (on_turned (parsing.led o s) (turns_of k hs (left_of all ps)))
  led_alike k ps (Ok x) r s reads goes = goes ps x r s reads
  led_alike k ps (Err e) r s reads goes = both_end r s e reads

  turn_alike : (k : ℕ) (ps : List Bool) (n : Next) (t : Transition) (a : Stepped) (b : Parsed) → Leads m all n t → StepsAlike m a b → Goes k
      → EndsAlike m (on_turn (turned a n) (turns heads cs k ps)) (on_turned (parsing.turned b t) (turns_of k hs (left_of all ps)))
  turn_alike k ps n t (on r) (goes_on s) leads_ steps goes =
      subst (λ o. EndsAlike m (on_turn (led o r) (turns heads cs k ps)) (on_turned (parsing.led (state_after t s.store) s) (turns_of k hs (left_of all ps)))) (sym (leads_ r s steps)) (led_alike k ps (state_after t s.store) r s steps goes)
  turn_alike k ps n t (halt r e) (stops s f) leads_ steps goes = record { reads = steps.0; error = steps.1 }
  turn_alike k ps n t (on r) (stops s f) leads_ steps goes = absurd steps
  turn_alike k ps n t (halt r e) (goes_on s) leads_ steps goes = absurd steps

  -- the state of a number, by its flag
  flag_step : (k : ℕ) (ps : List Bool) (x : List ℕ) (n : ℕ) (b : Bool) (r : SlotReading) (s : Reading) → IsLeft all ps x n b → Reads m r s → Goes k
      → EndsAlike m (if b then slot_end r NoError else on_turn (state_turn heads cs (slice_get cs n) r) (turns heads cs k (slice_set ps n true))) (passed_state hs (found_state (left_of all ps) x) s (turns_of k hs))
  flag_step k ps x n true r s is reads goes = subst (λ o. EndsAlike m (slot_end r NoError) (passed_state hs o s (turns_of k hs))) (sym is) (both_end r s NoError reads)
  flag_step k ps x n false r s is reads goes =
      let code = state_at m heads hs all cs all n is.0 are is.1 in
      subst (λ o. EndsAlike m (on_turn (state_turn heads cs (slice_get cs n) r) (turns heads cs k (slice_set ps n true))) (passed_state hs o s (turns_of k hs))) (sym is.2)
      (subst (λ o. EndsAlike m (on_turn (state_turn heads cs o r) (turns heads cs k (slice_set ps n true))) (on_turned (parsing.turned (body_parsed hs is.0.body s) is.0.next) (turns_of k hs (left_of all (slice_set ps n true))))) (sym code.1)
      (turn_alike k (slice_set ps n true) code.0.next is.0.next (steps_done heads code.0.steps r) (body_parsed hs is.0.body s) code.2.next (steps_do m heads hs code.0.steps is.0.body code.2.steps r s reads) goes))

  number_step : (k : ℕ) (ps : List Bool) (x : List ℕ) (o : Option ℕ) (r : SlotReading) (s : Reading) → state_number all x ≡ o → Reads m r s → Goes k
      → EndsAlike m (turns heads cs (suc k) ps o r) (passed_state hs (found_state (left_of all ps) x) s (turns_of k hs))
  number_step k ps x None r s e reads goes = subst (λ o. EndsAlike m (slot_end r NoError) (passed_state hs o s (turns_of k hs))) (sym (none_left all ps x e)) (both_end r s NoError reads)
  number_step k ps x (Some n) r s e reads goes = flag_step k ps x n (get_or ps n true) r s (is_left all named ps x n e) reads goes

  end_step : (k : ℕ) (ps : List Bool) (x : List ℕ) (b : Bool) (r : SlotReading) (s : Reading) → Reads m r s → Goes k
      → EndsAlike m (turns heads cs (suc k) ps (if b then None else state_number all x) r) (if b then parser_end s NoError else passed_state hs (found_state (left_of all ps) x) s (turns_of k hs))
  end_step k ps x true r s reads goes = both_end r s NoError reads
  end_step k ps x false r s reads goes = number_step k ps x (state_number all x) r s refl reads goes

  pub goes_alike : (k : ℕ) → Goes k
  goes_alike zero ps x r s reads = both_end r s NoError reads
  goes_alike (suc k) ps x r s reads = end_step k ps x (ends_parser x) r s reads (goes_alike k)

-- ---- the parser

length-states : (m : Places) (heads : List HeaderSlots) (hs : List Header) (all : List ParserState) (cs : List StateCode) (sts : List ParserState) → AreStatesOf m heads hs all cs sts → length cs ≡ length sts
length-states m heads hs all [] [] are = refl
length-states m heads hs all (c ∷ cs) [] are = absurd are
length-states m heads hs all [] (t ∷ sts) are = absurd are
length-states m heads hs all (c ∷ cs) (t ∷ sts) are = ap suc (length-states m heads hs all cs sts are.1)

pub parses : NumberedStatesParse
parses m heads p c named are start r s reads =
    let many : length c.states ≡ length p.states = length-states m heads p.headers p.states c.states p.states are in
    let n : ℕ = length p.states in
    subst (λ k. EndsAlike m (turns heads c.states (suc k) (replicate k false) c.start r) (parse_of p.headers p.states s)) (sym many)
    (subst (λ x. EndsAlike m (turns heads c.states (suc n) (replicate n false) x r) (parse_of p.headers p.states s)) (sym start)
    (subst (λ l. EndsAlike m (turns heads c.states (suc n) (replicate n false) (target p.states (codes "start")) r) (turns_of (suc n) p.headers l (codes "start") s)) (all_left p.states)
    (goes_alike m heads p.headers p.states c.states named are (suc n) (replicate n false) (codes "start") r s reads)))
