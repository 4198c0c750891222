-- Steps one after the other, and what follows a state.
use Rattle.std.proofs.Common.{◌≡◌, ℕ, List, [], ◌∷◌, ◌++◌, map, Bool, true, false, ◌&&◌, if◌then◌else◌, Option, Some, refl, sym, ap, ap₂, ◌∙◌, subst}
use Rattle.std.specs.Prelude.{Ok, nat_eq, bit_and}
use Rattle.bit_values.specs.Bits.{Word, word}
use Rattle.p4_tree.specs.Tree as tree
use Rattle.p4_tree.specs.Tree.{Expr, Stmt, Keyset, ParserState, Transition}
use Rattle.p4_meaning.specs.Store.{Store}
use Rattle.p4_meaning.specs.Value.{value_of}
use Rattle.p4_meaning.specs.Parsing.{Header, Reading, Parsed, goes_on, stops, unless_stopped, stmt_parsed, body_parsed, fits_each, fits_all, first_fit, chosen}
use Rattle.slot_terms.specs.States.{State}
use Rattle.slot_terms.specs.Terms.{eval}
use Rattle.slot_terms.specs.Typed.{Typed, Gives}
use Rattle.slot_terms.specs.Places.{Places, Shows, Means}
use Rattle.slot_places.specs.HeaderSlots.{HeaderSlots}
use Rattle.slot_parsers.specs.ParserCodes.{Step, Key, any, only, masked, Case, SlotReading, Stepped, on, halt, unless_halted, step_done, steps_done, values_of, fits_keys, fits_case, first_case, led_to}
use Rattle.slot_parsers.specs.Parses.{Reads, StepsAlike, DoesStep, DoSteps, target, with_target}
use Rattle.slot_parsers.specs.Selects.{FitsAlike, FitEach, AreOfKinds, IsCaseOf, CasesAlike, TermsMean, term_in, SelectsLead, KeysFit}

-- ---- statements

module _ (m : Places) (heads : List HeaderSlots) (hs : List Header) where
  after_step : (x : Stepped) (y : Parsed) (cs : List Step) (sts : List Stmt) → StepsAlike m x y → ((r : SlotReading) (s : Reading) → Reads m r s → StepsAlike m (steps_done heads cs r) (body_parsed hs sts s))
      → StepsAlike m (unless_halted x (steps_done heads cs)) (unless_stopped y (body_parsed hs sts))
  after_step (on r) (goes_on s) cs sts h more = more r s h
  after_step (halt r e) (stops s f) cs sts h more = h
  after_step (on r) (stops s f) cs sts h more = absurd h
  after_step (halt r e) (goes_on s) cs sts h more = absurd h

  pub steps_do : (cs : List Step) (sts : List Stmt) → DoSteps m heads hs cs sts → (r : SlotReading) (s : Reading) → Reads m r s → StepsAlike m (steps_done heads cs r) (body_parsed hs sts s)
  steps_do [] [] d r s reads = reads
  steps_do (c ∷ cs) [] d r s reads = absurd d
  steps_do [] (st ∷ sts) d r s reads = absurd d
  steps_do (c ∷ cs) (st ∷ sts) d r s reads = after_step (step_done heads c r) (stmt_parsed hs st s) cs sts (d.0 r s reads) (λ r s h. steps_do cs sts d.1 r s h)

  -- one more
  pub steps_more : (cs : List Step) (sts : List Stmt) (c : Step) (st : Stmt) → DoSteps m heads hs cs sts → DoesStep m heads hs c st → DoSteps m heads hs (cs ++ c ∷ []) (sts ++ st ∷ [])
  steps_more [] [] c st d one = (one, tt)
  steps_more (x ∷ cs) [] c st d one = absurd d
  steps_more [] (y ∷ sts) c st d one = absurd d
  steps_more (x ∷ cs) (y ∷ sts) c st d one = (d.0, steps_more cs sts c st d.1 one)

-- ---- key sets

-- the words that typed terms give
abbrev pub words_of : List Typed → State → List Word
words_of ts s = map (λ t. word t.width (eval s.slots s.valid t.term)) ts

module _ (m : Places) (st : State) (s : Store) (shows : Shows m st.slots st.valid s) where
  pub fit_each : (ts : List Typed) (ks : List Key) (sets : List Keyset) → FitEach m ts ks sets → fits_keys ks (values_of (map term_in ts) st) st ≡ fits_each sets (words_of ts st) s
  fit_each [] [] [] f = refl
  fit_each (t ∷ ts) [] [] f = refl
  fit_each [] (k ∷ ks) (a ∷ sets) f = refl
  fit_each (t ∷ ts) (k ∷ ks) (a ∷ sets) f = ap₂ (λ x y. x && y) (f.0 st s shows) (fit_each ts ks sets f.1)
  fit_each ts [] (a ∷ sets) f = absurd f
  fit_each ts (k ∷ ks) [] f = absurd f

  words_mean : (es : List Expr) (ts : List Typed) → TermsMean m es ts → words_of ts st ≡ map (λ e. value_of e 0 s) es
  words_mean [] [] h = refl
  words_mean (e ∷ es) [] h = absurd h
  words_mean [] (t ∷ ts) h = absurd h
  words_mean (e ∷ es) (t ∷ ts) h = ap₂ (λ (w : Word) (ws : List Word). w ∷ ws) (sym (h.0 st.slots st.valid s shows).is) (words_mean es ts h.1)

  -- one `default` alone
  pub fit_all : (ts : List Typed) (ks : List Key) (sets : List Keyset) → FitEach m ts ks sets → AreOfKinds ks sets → fits_case ks (values_of (map term_in ts) st) st ≡ fits_all sets (words_of ts st) s
  fit_all ts [] [] f k = fit_each ts [] [] f
  fit_all ts (any ∷ []) (tree.any p ∷ []) f k = refl
  fit_all ts (any ∷ x ∷ ks) (tree.any p ∷ y ∷ sets) f k = fit_each ts (any ∷ x ∷ ks) (tree.any p ∷ y ∷ sets) f
  fit_all ts (only t ∷ ks) (tree.only p e ∷ sets) f k = fit_each ts (only t ∷ ks) (tree.only p e ∷ sets) f
  fit_all ts (masked t u ∷ ks) (tree.masked p e i ∷ sets) f k = fit_each ts (masked t u ∷ ks) (tree.masked p e i ∷ sets) f
  fit_all ts (any ∷ []) (tree.any p ∷ y ∷ sets) f k = absurd k.1
  fit_all ts (any ∷ x ∷ ks) (tree.any p ∷ []) f k = absurd k.1
  fit_all ts (any ∷ ks) (tree.only p e ∷ sets) f k = absurd k.0
  fit_all ts (any ∷ ks) (tree.masked p e i ∷ sets) f k = absurd k.0
  fit_all ts (only t ∷ ks) (tree.any p ∷ sets) f k = absurd k.0
  fit_all ts (only t ∷ ks) (tree.masked p e i ∷ sets) f k = absurd k.0
  fit_all ts (masked t u ∷ ks) (tree.any p ∷ sets) f k = absurd k.0
  fit_all ts (masked t u ∷ ks) (tree.only p e ∷ sets) f k = absurd k.0
  fit_all ts [] (a ∷ sets) f k = absurd k
  fit_all ts (x ∷ ks) [] f k = absurd k

  case_step : (all : List ParserState) (b c : Bool) (x : Option ℕ) (y : List ℕ) (o : Option (Option ℕ)) (u : Option (List ℕ)) → b ≡ c → x ≡ target all y → led_to o ≡ with_target all (chosen u)
      → led_to (if b then Some x else o) ≡ with_target all (chosen (if c then Some y else u))
  case_step all true true x y o u e g h = ap Ok g
  case_step all true false x y o u e g h = absurd (cc e)
  case_step all false true x y o u e g h = absurd (cc e)
  case_step all false false x y o u e g h = h

  pub first_is : (all : List ParserState) (ts : List Typed) (cs : List Case) (cases : List tree.Case) → CasesAlike m all ts cs cases
      → led_to (first_case cs (values_of (map term_in ts) st) st) ≡ with_target all (chosen (first_fit cases (words_of ts st) s))
  first_is all ts [] [] h = refl
  first_is all ts (c ∷ cs) [] h = absurd h
  first_is all ts [] (case ∷ cases) h = absurd h
  first_is all ts (c ∷ cs) (case ∷ cases) h =
      case_step all (fits_case c.keys (values_of (map term_in ts) st) st) (fits_all case.keys (words_of ts st) s) c.next case.next (first_case cs (values_of (map term_in ts) st) st) (first_fit cases (words_of ts st) s)
      (fit_all ts c.keys case.keys h.0.each h.0.kinds) h.0.next (first_is all ts cs cases h.1)

  -- a `select` leads where the tree's leads
  pub selects : (all : List ParserState) (es : List Expr) (ts : List Typed) (cs : List Case) (cases : List tree.Case) → TermsMean m es ts → CasesAlike m all ts cs cases
      → led_to (first_case cs (values_of (map term_in ts) st) st) ≡ with_target all (chosen (first_fit cases (map (λ e. value_of e 0 s) es) s))
  selects all es ts cs cases means alike = first_is all ts cs cases alike ∙ ap (λ ws. with_target all (chosen (first_fit cases ws s))) (words_mean es ts means)

-- ---- one key set

pub any_fits : (m : Places) (t : Typed) (p : ℕ) → FitsAlike m t any (tree.any p)
any_fits m t p st s shows = refl

-- the number that a term gives
value_is : (t : Typed) (st : State) (x : Word) → Gives t st.slots st.valid x → eval st.slots st.valid t.term ≡ x.value
value_is t st x gives = sym (ap (λ (w : Word). w.value) gives.is)

pub only_fits : (m : Places) (t u : Typed) (p : ℕ) (e : Expr) → Means m e t.width u → FitsAlike m t (only u.term) (tree.only p e)
only_fits m t u p e means st s shows = ap (λ v. nat_eq (eval st.slots st.valid t.term) v) (value_is u st (value_of e t.width s) (means st.slots st.valid s shows))

pub masked_fits : (m : Places) (t u v : Typed) (p : ℕ) (e k : Expr) → Means m e t.width u → Means m k t.width v → FitsAlike m t (masked u.term v.term) (tree.masked p e k)
masked_fits m t u v p e k means mask st s shows =
    ap₂ (λ a b. nat_eq (bit_and (eval st.slots st.valid t.term) b) (bit_and a b))
    (value_is u st (value_of e t.width s) (means st.slots st.valid s shows)) (value_is v st (value_of k t.width s) (mask st.slots st.valid s shows))

pub keys_fit : KeysFit
keys_fit m w at e k u v means mask =
    ((λ t is. any_fits m t at), (λ t is. only_fits m t u at e (subst (λ x. Means m e x u) (sym is) means)), (λ t is. masked_fits m t u v at e k (subst (λ x. Means m e x u) (sym is) means) (subst (λ x. Means m k x v) (sym is) mask)))

pub selects_lead : SelectsLead
selects_lead m all at es ts cs cases means alike r s reads = selects m r.state s.store reads.follows.shows all es ts cs cases means alike

-- ---- one more

pub cases_more : (m : Places) (all : List ParserState) (ts : List Typed) (cs : List Case) (cases : List tree.Case) (c : Case) (case : tree.Case) → CasesAlike m all ts cs cases → IsCaseOf m all ts c case → CasesAlike m all ts (cs ++ c ∷ []) (cases ++ case ∷ [])
cases_more m all ts [] [] c case h one = (one, tt)
cases_more m all ts (x ∷ cs) [] c case h one = absurd h
cases_more m all ts [] (y ∷ cases) c case h one = absurd h
cases_more m all ts (x ∷ cs) (y ∷ cases) c case h one = (h.0, cases_more m all ts cs cases c case h.1 one)

pub terms_more : (m : Places) (es : List Expr) (ts : List Typed) (e : Expr) (t : Typed) → TermsMean m es ts → Means m e 0 t → TermsMean m (es ++ e ∷ []) (ts ++ t ∷ [])
terms_more m [] [] e t h one = (one, tt)
terms_more m (x ∷ es) [] e t h one = absurd h
terms_more m [] (y ∷ ts) e t h one = absurd h
terms_more m (x ∷ es) (y ∷ ts) e t h one = (h.0, terms_more m es ts e t h.1 one)
