-- The rewritten states of a parser on the linked store: what they assign and extract, and which state follows.
use Rattle.std.specs.Prelude.{nat_eq, nat_lt, bit_and}
use Rattle.std.proofs.Common.{◌≡◌, ℕ, List, [], ◌∷◌, ◌++◌, map, length, take, drop, Bool, true, false, cond, ◌&&◌, Some, Result, Ok, Err, refl, sym, ap, ap₂, ◌∙◌, subst}
use Rattle.std.specs.List.{AllByRecursion}
use Rattle.bit_values.specs.Bits.{Word, word}
use Rattle.bit_values.specs.BitLists.{number_of}
use Rattle.lex_text.specs.Names.{same_path}
use Rattle.p4_tree.specs.Tree.{Expr, path, Arg, one, Stmt, assign, call, Keyset, any, only, masked, Case, Transition, nowhere, to, select, ParserState}
use Rattle.p4_meaning.specs.Store.{Store}
use Rattle.p4_meaning.specs.Value.{value_of}
use Rattle.p4_meaning.specs.Statements.{assigned}
use Rattle.p4_meaning.specs.Parsing.{Field, Header, ParserError, PacketTooShort, Reading, width_sum, field_taken, fields_taken, with_valid, Parsed, goes_on, stops, extracted, extracted_at, unless_stopped, call_parsed, stmt_parsed, body_parsed, fits, fits_each, fits_all, first_fit, chosen, state_after, led, turned}
use Rattle.own_code.specs.Regions.{is_free, is_writable, is_own_header}
use Rattle.own_code.specs.Forwarding.{IsOwnExpr, IsOwnExtract, IsOwnParse, IsOwnKeyset, IsOwnCase, IsOwnTransition, IsOwnState}
use Rattle.own_code.specs.Relations.{bare, Stays}
use Rattle.own_code.proofs.Apart.{field_writable, field_readable, field_spec}
use Rattle.own_code.proofs.Own.{stays_same, stays_then, set_stays, keeps_other, assigned_ran, valid_ran}
use Rattle.packet_lengths.specs.Lengths.{plain_expr, plain_parse, plain_keyset, plain_case, plain_transition, plain_state, Near}
use Rattle.packet_lengths.specs.Readings.{ExtractOwn, NearReading, NearParsed, NearTurned}
use Rattle.packet_lengths.proofs.Near.{alike_bare, own_length, near_set, near_word, near_value, near_values, near_assigned, near_valid}

-- ---- the state that follows

module _ (x y : Store) (near : Near x y) where
  -- key sets fit the same words
  pub near_fits : (k : Keyset) (w : Word) → IsOwnKeyset k → fits (plain_keyset k) w y ≡ fits k w x
  near_fits (any p) w o = refl
  near_fits (only p e) w o = ap (λ (v : Word). nat_eq w.value v.value) (near_value x y e w.width o near)
  near_fits (masked p e m) w o =
      ap₂ (λ (u v : Word). nat_eq (bit_and w.value v.value) (bit_and u.value v.value)) (near_value x y e w.width o.0 near) (near_value x y m w.width o.1 near)

  near_fits_each : (ks : List Keyset) (ws : List Word) → AllByRecursion IsOwnKeyset ks → fits_each (map plain_keyset ks) ws y ≡ fits_each ks ws x
  near_fits_each [] [] o = refl
  near_fits_each [] (w ∷ ws) o = refl
  near_fits_each (k ∷ ks) [] o = refl
  near_fits_each (k ∷ ks) (w ∷ ws) o = ap₂ (λ u v. u && v) (near_fits k w o.0) (near_fits_each ks ws o.1)

  pub near_fits_all : (ks : List Keyset) (ws : List Word) → AllByRecursion IsOwnKeyset ks → fits_all (map plain_keyset ks) ws y ≡ fits_all ks ws x
  near_fits_all (any p ∷ []) ws o = refl
  near_fits_all [] ws o = near_fits_each [] ws o
  near_fits_all (any p ∷ k ∷ ks) ws o = near_fits_each (any p ∷ k ∷ ks) ws o
  near_fits_all (only p e ∷ ks) ws o = near_fits_each (only p e ∷ ks) ws o
  near_fits_all (masked p e m ∷ ks) ws o = near_fits_each (masked p e m ∷ ks) ws o

  pub near_first_fit : (cs : List Case) (ws : List Word) → AllByRecursion IsOwnCase cs → first_fit (map plain_case cs) ws y ≡ first_fit cs ws x
  near_first_fit [] ws o = refl
  near_first_fit (c ∷ cs) ws o = ap₂ (λ t r. cond t (Some c.next) r) (near_fits_all c.keys ws o.0.keys) (near_first_fit cs ws o.1)

  pub near_after : (t : Transition) → IsOwnTransition t → state_after (plain_transition t) y ≡ state_after t x
  near_after (nowhere p) o = refl
  near_after (to p z) o = refl
  near_after (select p es cs) o =
      ap chosen (ap (λ ws. first_fit (map plain_case cs) ws y) (near_values x y es o.0 near) ∙ near_first_fit cs (map (λ e. value_of e 0 x) es) o.1)

-- ---- readings

pub reading_same : (x y : Reading) → Near x.store y.store → y.rest ≡ x.rest → NearReading y.store x y
reading_same x y s e = record { near = s; stays = stays_same (bare y.store); rest = e }

pub reading_then : (b c : Store) (x y : Reading) → Stays (bare b) (bare c) → NearReading c x y → NearReading b x y
reading_then b c x y s t = record { near = t.near; stays = stays_then (bare b) (bare c) (bare y.store) s t.stays; rest = t.rest }

-- an assignment
pub near_assign : (x y : Store) (q : List (List ℕ)) (e : Expr) → is_free q ≡ true → is_writable q ≡ true → IsOwnExpr e → Near x y
    → Near (assigned x q (value_of e (x.values q).width x)) (assigned y q (value_of (plain_expr e) (y.values q).width y))
near_assign x y q e r i o h =
    near_assigned x y q _ _ r i (ap (λ (w : Word). value_of (plain_expr e) w.width y) (near_word x y q r i h) ∙ near_value x y e (x.values q).width o h) h

-- the fields of an own header take the same bits
near_field : (p : List (List ℕ)) (f : Field) (x y : Reading) → is_own_header p ≡ true → Near x.store y.store → y.rest ≡ x.rest → NearReading y.store (field_taken p f x) (field_taken p f y)
near_field p f x y o s e =
    let same = ap (λ l. word f.width (number_of (take f.width l))) e in
    record {
      near = near_set x.store y.store (p ++ f.name ∷ []) _ _ (own_length (p ++ f.name ∷ []) (field_readable p f.name o) (field_writable p f.name o)) same s;
      stays = set_stays (bare y.store) (p ++ f.name ∷ []) _ (field_writable p f.name o) (keeps_other (bare y.store) (p ++ f.name ∷ []) _ (field_spec p f.name o));
      rest = ap (drop f.width) e;
    }

near_fields : (p : List (List ℕ)) (fs : List Field) (x y : Reading) → is_own_header p ≡ true → Near x.store y.store → y.rest ≡ x.rest → NearReading y.store (fields_taken p fs x) (fields_taken p fs y)
near_fields p [] x y o s e = reading_same x y s e
near_fields p (f ∷ fs) x y o s e =
    let first = near_field p f x y o s e in
    reading_then y.store (field_taken p f y).store _ _ first.stays (near_fields p fs (field_taken p f x) (field_taken p f y) o first.near first.rest)

parsed_if : (b : Store) (s t : Bool) (x x' y y' : Parsed) → t ≡ s → NearParsed b x x' → NearParsed b y y' → NearParsed b (cond s x y) (cond t x' y')
parsed_if b true true x x' y y' e h k = h
parsed_if b false false x x' y y' e h k = k
parsed_if b true false x x' y y' e h k = absurd (cc)
parsed_if b false true x x' y y' e h k = absurd (cc)

-- an extract of an own header
near_extracted : (h : Header) (x y : Reading) → is_own_header h.path ≡ true → Near x.store y.store → y.rest ≡ x.rest → NearParsed y.store (extracted h x) (extracted h y)
near_extracted h x y o s e =
    let u = fields_taken h.path h.fields x in
    let v = fields_taken h.path h.fields y in
    let taken = near_fields h.path h.fields x y o s e in
    let made = valid_ran (bare v.store) (bare v.store) h.path true o (alike_bare v.store) in
    let all : NearReading y.store (with_valid h.path u) (with_valid h.path v) =
    record { near = near_valid u.store v.store h.path true o taken.near; stays = stays_then (bare y.store) (bare v.store) _ taken.stays made.stays; rest = taken.rest } in
    parsed_if y.store _ _ (stops x PacketTooShort) (stops y PacketTooShort) (goes_on (with_valid h.path u)) (goes_on (with_valid h.path v)) (ap (λ l. nat_lt (length l) (width_sum h.fields)) e) (reading_same x y s e, refl) all

near_extract : (hs : List Header) (p : List (List ℕ)) (x y : Reading) → AllByRecursion (λ h. is_own_header h.path ≡ true) hs → Near x.store y.store → y.rest ≡ x.rest → NearParsed y.store (extracted_at hs p x) (extracted_at hs p y)
near_extract [] p x y o s e = reading_same x y s e
near_extract (h ∷ hs) p x y o s e =
    parsed_if y.store (same_path h.path p) (same_path h.path p) (extracted h x) (extracted h y) (extracted_at hs p x) (extracted_at hs p y) refl (near_extracted h x y o.0 s e) (near_extract hs p x y o.1 s e)

-- ---- states

module _ (hs every : List Header) (extract : ExtractOwn hs every) where
  -- the statements of a state
  near_call : (args : List Arg) (x y : Reading) → IsOwnExtract args → Near x.store y.store → y.rest ≡ x.rest → NearParsed y.store (call_parsed hs args x) (call_parsed every args y)
  near_call (one p (path q names) ∷ []) x y o s e =
      subst (λ r. NearParsed y.store (extracted_at hs names x) r) (sym (extract.same names y o)) (near_extract hs names x y extract.own s e)
  near_call _ x y o s e = reading_same x y s e

  near_stmt : (st : Stmt) (x y : Reading) → IsOwnParse st → Near x.store y.store → y.rest ≡ x.rest → NearParsed y.store (stmt_parsed hs st x) (stmt_parsed every (plain_parse st) y)
  near_stmt (assign q p v) x y o s e =
      let w = value_of (plain_expr v) (y.store.values p).width y.store in
      let stays = (assigned_ran (bare y.store) (bare y.store) p w w o.0 o.1 (alike_bare y.store) refl).stays in
      record { near = near_assign x.store y.store p v o.0 o.1 o.2 s; stays = stays; rest = e }
  near_stmt (call q callee args) x y o s e = near_call args x y o s e
  near_stmt _ x y o s e = reading_same x y s e

  parsed_after : (b : Store) (r q : Parsed) (f g : Reading → Parsed) → NearParsed b r q → ((x y : Reading) → Near x.store y.store → y.rest ≡ x.rest → NearParsed y.store (f x) (g y)) → NearParsed b (unless_stopped r f) (unless_stopped q g)
  parsed_after b (goes_on x) (goes_on y) f g h k = from (f x) (g y) (k x y h.near h.rest)
    where
      from : (u v : Parsed) → NearParsed y.store u v → NearParsed b u v
      from (goes_on u) (goes_on v) t = reading_then b y.store u v h.stays t
      from (stops u e) (stops v e') t = (reading_then b y.store u v h.stays t.0, t.1)
      from (goes_on u) (stops v e) t = absurd t
      from (stops u e) (goes_on v) t = absurd t
  parsed_after b (stops x e) (stops y e') f g h k = h
  parsed_after b (goes_on x) (stops y e) f g h k = absurd h
  parsed_after b (stops x e) (goes_on y) f g h k = absurd h

  pub near_body : (sts : List Stmt) (x y : Reading) → AllByRecursion IsOwnParse sts → Near x.store y.store → y.rest ≡ x.rest → NearParsed y.store (body_parsed hs sts x) (body_parsed every (map plain_parse sts) y)
  near_body [] x y o s e = reading_same x y s e
  near_body (st ∷ sts) x y o s e =
      parsed_after y.store (stmt_parsed hs st x) (stmt_parsed every (plain_parse st) y) (body_parsed hs sts) (body_parsed every (map plain_parse sts)) (near_stmt st x y o.0 s e) (λ u v a q. near_body sts u v o.1 a q)

  -- a whole state
  near_turned : (b : Store) (r q : Parsed) (t : Transition) → IsOwnTransition t → NearParsed b r q → NearTurned b (turned r t) (turned q (plain_transition t))
  near_turned b (goes_on x) (goes_on y) t o h =
      subst (λ r. NearTurned b (led (state_after t x.store) x) (led r y)) (sym (near_after x.store y.store h.near t o)) (leads_on (state_after t x.store))
    where
      leads_on : (r : Result (List ℕ) ParserError) → NearTurned b (led r x) (led r y)
      leads_on (Ok n) = (h, refl)
      leads_on (Err e) = (h, refl)
  near_turned b (stops x e) (stops y e') t o h = (h.0, h.1)
  near_turned b (goes_on x) (stops y e) t o h = absurd h
  near_turned b (stops x e) (goes_on y) t o h = absurd h

  pub near_state : (st : ParserState) (x y : Reading) → IsOwnState st → Near x.store y.store → y.rest ≡ x.rest
      → NearTurned y.store (turned (body_parsed hs st.body x) st.next) (turned (body_parsed every (plain_state st).body y) (plain_state st).next)
  near_state st x y o s e = near_turned y.store (body_parsed hs st.body x) (body_parsed every (map plain_parse st.body) y) st.next o.next (near_body st.body x y o.body s e)
