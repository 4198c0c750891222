-- In front of ingress the flag's place holds what it held in front of the parser, and no header has the empty path.
use Rattle.std.proofs.Common.{codes, ◌≡◌, ℕ, zero, suc, List, [], ◌∷◌, ◌++◌, length, Bool, true, false, cond, nat_eq, nat_lt, Result, Ok, Err, Option, Some, None, refl, sym, ap, ◌∙◌}
use Rattle.std.specs.List.{AllByRecursion}
use Rattle.std.specs.Option.{option_map}
use Rattle.bit_values.specs.Bits.{Word, word, cast}
use Rattle.bit_values.specs.Widths.{holds, sound_width, cast_word}
use Rattle.lex_text.specs.Names.{same_text, same_path, parent}
use Rattle.p4_tree.specs.Tree.{Expr, path, Arg, one, Stmt, Stmts, MaybeStmt, nothing, block, var, assign, choice, return_, exit_, call, done, next, without, otherwise, ParserState, Transition}
use Rattle.p4_meaning.specs.Standard.{metadata_root, ingress_port, egress_spec, egress_port, packet_length, checksum_error, parser_error, is_assignable}
use Rattle.p4_meaning.specs.Store.{Store, blank, set_value, set_valid, zeroed, made, written, write}
use Rattle.p4_meaning.specs.Value.{value_of}
use Rattle.p4_meaning.specs.Statements.{Act, makes, drops, reads, writes, tells, sums, runs, applies, idle, act_of, application, Flow, Go, Return, Exit, Run, Ended, in_store, after, no_calls, done_by, tested_by, tested, assigned, summed, cell_at, index_of, start_of, meaning_of_stmt, meaning_of_else, meaning_of}
use Rattle.p4_meaning.specs.Checksum.{list_checksum}
use Rattle.p4_meaning.specs.Parsing.{Field, Header, Reading, Parsed, goes_on, stops, ParserError, NoError, PacketTooShort, width_sum, field_taken, fields_taken, with_valid, extracted, extracted_at, unless_stopped, call_parsed, stmt_parsed, body_parsed, state_after, ParserEnd, parser_end, led, turned, on_turned, found_state, ends_parser, passed_state, turns_of, parse_of}
use Rattle.bit_values.specs.Bytes.{bits_of}
use Rattle.p4_meaning.specs.Parts.{Parts}
use Rattle.p4_meaning.specs.Pass.{Registers, zero_fields, no_headers, with_standard, store_before, error_number, store_behind, run_from}
use Rattle.p4_typing_laws.proofs.KeptPlaces.{stmt_none, all_none, no_calls_none}
use Rattle.exit_statements.specs.Controls.{is_long, AreLong}
use Rattle.exit_statements.proofs.Values.{path_decides, not_both}
use Rattle.exit_statements.proofs.Controlled.{longer}

-- ---- one place of a store, which is a variable's

module _ (x : List ℕ) where
  abbrev at : Store → Word
  at s = s.values (x ∷ [])

  -- the place is as it was, and no header has the empty path
  pub record Kept (a b : Store) : Type 0 where
    pub value : b.values (x ∷ []) ≡ a.values (x ∷ [])
    pub plain : b.headers [] ≡ None

  pub kept_same : (s : Store) → s.headers [] ≡ None → Kept s s
  kept_same s e = record { value = refl; plain = e }

  pub kept_then : (a b c : Store) → Kept a b → Kept b c → Kept a c
  kept_then a b c h k = record { value = k.value ∙ h.value; plain = k.plain }

  set_at : (s : Store) (p : List (List ℕ)) (w : Word) → same_path p (x ∷ []) ≡ false → (set_value s p w).values (x ∷ []) ≡ s.values (x ∷ [])
  set_at s p w off = ap (λ (b : Bool). cond b w (s.values (x ∷ []))) off

  pub long_off : (p : List (List ℕ)) → is_long p ≡ true → same_path p (x ∷ []) ≡ false
  long_off p l = go (same_path p (x ∷ [])) refl
    where
      go : (b : Bool) → same_path p (x ∷ []) ≡ b → b ≡ false
      go true e = not_both (is_long p) l (ap is_long ((path_decides p (x ∷ [])).0 e))
      go false e = refl

  long_some : (p : List (List ℕ)) → is_long p ≡ true → same_path p [] ≡ false
  long_some p l = go (same_path p []) refl
    where
      go : (b : Bool) → same_path p [] ≡ b → b ≡ false
      go true e = not_both (is_long p) l (ap is_long ((path_decides p []).0 e))
      go false e = refl

  written_at : (o : Option Bool) (s : Store) (p : List (List ℕ)) (w : Word) → same_path p (x ∷ []) ≡ false → (written o s p w).values (x ∷ []) ≡ s.values (x ∷ [])
  written_at None s p w off = set_at s p w off
  written_at (Some true) s p w off = set_at s p w off
  written_at (Some false) s p w off = refl

  assigned_at : (s : Store) (p : List (List ℕ)) (w : Word) → same_path p (x ∷ []) ≡ false → (assigned s p w).values (x ∷ []) ≡ s.values (x ∷ [])
  assigned_at s p w off = go (is_assignable p)
    where
      go : (b : Bool) → (cond b (write s p (cast_word (sound_width (s.values p).width) w)) s).values (x ∷ []) ≡ s.values (x ∷ [])
      go true = written_at (s.headers (parent p)) s p (cast_word (sound_width (s.values p).width) w) off
      go false = refl

  zeroed_at : (s : Store) (h : List (List ℕ)) → same_path h [] ≡ false → (zeroed s h).values (x ∷ []) ≡ s.values (x ∷ [])
  zeroed_at s h off = ap (λ (b : Bool). cond b (word (s.values (x ∷ [])).width 0) (s.values (x ∷ []))) off

  made_at : (s : Store) (h : List (List ℕ)) (o : Option Bool) → s.headers h ≡ o → (b : Bool) → s.headers [] ≡ None → (made o b s h).values (x ∷ []) ≡ s.values (x ∷ [])
  made_at s h None i b e = refl
  made_at s h (Some true) i true e = refl
  made_at s h (Some true) i false e = refl
  made_at s h (Some false) i true e = zeroed_at s h (go (same_path h []) refl)
    where
      go : (c : Bool) → same_path h [] ≡ c → c ≡ false
      go true k = (let both = sym (ap s.headers ((path_decides h []).0 k) ∙ e) ∙ i in cc)
      go false k = refl
  made_at s h (Some false) i false e = refl

  summed_at : (v : Bool) (es : List Expr) (f : List (List ℕ)) (s : Store) → same_path f (x ∷ []) ≡ false → (summed v es f s).values (x ∷ []) ≡ s.values (x ∷ [])
  summed_at true es f s off = go (nat_eq (value_of (path 0 f) 16 s).value (list_checksum es s))
    where
      go : (b : Bool) → (cond b s (set_value s checksum_error (word 1 1))).values (x ∷ []) ≡ s.values (x ∷ [])
      go true = refl
      go false = set_at s checksum_error (word 1 1) (long_off checksum_error refl)
  summed_at false es f s off = assigned_at s f (word 16 (list_checksum es s)) off

  -- ---- statements that do not write it

  abbrev pub SparesPath : List (List ℕ) → Type 0
  SparesPath p = same_path p (x ∷ []) ≡ false

  abbrev pub SparesAct : Act → Type 0
  SparesAct (makes h b) = Unit {0}
  SparesAct drops = Unit {0}
  SparesAct (reads y t i) = same_path t (x ∷ []) ≡ false
  SparesAct (writes y i v) = Unit {0}
  SparesAct (tells n es) = Unit {0}
  SparesAct (sums v c es f) = same_path f (x ∷ []) ≡ false
  SparesAct (runs y es) = Unit {0}
  SparesAct (applies t) = Unit {0}
  SparesAct idle = Unit {0}

  abbrev mutual
    pub SparesStmt : Stmt → Type 0
    SparesStmt (nothing p) = Unit {0}
    SparesStmt (block p ss) = SpareStmts ss
    SparesStmt (var p ty y e) = same_path (y ∷ []) (x ∷ []) ≡ false
    SparesStmt (assign p target e) = same_path target (x ∷ []) ≡ false
    SparesStmt (choice p e s t) = SparesStmt s × SparesElse t
    SparesStmt (return_ p) = Unit {0}
    SparesStmt (exit_ p) = Unit {0}
    SparesStmt (call p callee args) = SparesAct (act_of callee args)

    pub SparesElse : MaybeStmt → Type 0
    SparesElse without = Unit {0}
    SparesElse (otherwise s) = SparesStmt s

    pub SpareStmts : Stmts → Type 0
    SpareStmts done = Unit {0}
    SpareStmts (next s ss) = SparesStmt s × SpareStmts ss

  act_at : (a : Act) (r : Run) → r.store.headers [] ≡ None → SparesAct a → (done_by no_calls a r).0.store.values (x ∷ []) ≡ r.store.values (x ∷ [])
  act_at (makes h b) r e f = made_at r.store h (r.store.headers h) refl b e
  act_at drops r e f = written_at (r.store.headers (parent egress_spec)) r.store egress_spec (word 9 511) (long_off egress_spec refl)
  act_at (reads y t i) r e f = assigned_at r.store t (cell_at (r.cells y) (index_of i r.store)) f
  act_at (writes y i v) r e f = refl
  act_at (tells n es) r e f = refl
  act_at (sums v c es p) r e f = go (holds (value_of c 1 r.store))
    where
      go : (b : Bool) → (cond b (in_store r (summed v es p r.store)) r).store.values (x ∷ []) ≡ r.store.values (x ∷ [])
      go true = summed_at v es p r.store f
      go false = refl
  act_at (runs y es) r e f = refl
  act_at (applies t) r e f = refl
  act_at idle r e f = refl

  after_at : (f : Flow) (r : Run) (more : Run → Ended) (w : Word) → r.store.values (x ∷ []) ≡ w → (more r).0.store.values (x ∷ []) ≡ w → (after f r more).0.store.values (x ∷ []) ≡ w
  after_at Go r more w h k = k
  after_at Return r more w h k = h
  after_at Exit r more w h k = h

  test_run : (o : Option (List ℕ × Bool)) (e : Expr) (r : Run) → (tested_by no_calls o e r).run ≡ r
  test_run None e r = refl
  test_run (Some t) e r = refl

  mutual
    stmt_at : (s : Stmt) (r : Run) → r.store.headers [] ≡ None → SparesStmt s → (meaning_of_stmt no_calls s r).0.store.values (x ∷ []) ≡ r.store.values (x ∷ [])
    stmt_at (nothing p) r e f = refl
    stmt_at (block p ss) r e f = all_at ss r e f
    stmt_at (var p ty y v) r e f = set_at r.store (y ∷ []) (start_of ty v r.store) f
    stmt_at (assign p t v) r e f = assigned_at r.store t (value_of v (r.store.values t).width r.store) f
    stmt_at (choice p c s t) r e f =
        let same = test_run (application c) c r in
        after_at (tested no_calls c r).flow (tested no_calls c r).run (λ q. cond (tested no_calls c r).hit (meaning_of_stmt no_calls s q) (meaning_of_else no_calls t q)) (r.store.values (x ∷ []))
        (ap (λ (q : Run). q.store.values (x ∷ [])) same)
        (ap (λ (q : Run). (cond (tested no_calls c r).hit (meaning_of_stmt no_calls s q) (meaning_of_else no_calls t q)).0.store.values (x ∷ [])) same ∙ either (tested no_calls c r).hit (stmt_at s r e f.0) (else_at t r e f.1))
      where
        either : (b : Bool) → (meaning_of_stmt no_calls s r).0.store.values (x ∷ []) ≡ r.store.values (x ∷ []) → (meaning_of_else no_calls t r).0.store.values (x ∷ []) ≡ r.store.values (x ∷ [])
            → (cond b (meaning_of_stmt no_calls s r) (meaning_of_else no_calls t r)).0.store.values (x ∷ []) ≡ r.store.values (x ∷ [])
        either true h k = h
        either false h k = k
    stmt_at (return_ p) r e f = refl
    stmt_at (exit_ p) r e f = refl
    stmt_at (call p callee args) r e f = act_at (act_of callee args) r e f

    else_at : (s : MaybeStmt) (r : Run) → r.store.headers [] ≡ None → SparesElse s → (meaning_of_else no_calls s r).0.store.values (x ∷ []) ≡ r.store.values (x ∷ [])
    else_at without r e f = refl
    else_at (otherwise s) r e f = stmt_at s r e f

    all_at : (ss : Stmts) (r : Run) → r.store.headers [] ≡ None → SpareStmts ss → (meaning_of no_calls ss r).0.store.values (x ∷ []) ≡ r.store.values (x ∷ [])
    all_at done r e f = refl
    all_at (next s ss) r e f =
        let one = stmt_at s r e f.0 in
        after_at (meaning_of_stmt no_calls s r).1 (meaning_of_stmt no_calls s r).0 (meaning_of no_calls ss) (r.store.values (x ∷ [])) one
        (all_at ss (meaning_of_stmt no_calls s r).0 (stmt_none no_calls no_calls_none s r e) f.1 ∙ one)

  pub stmts_keep : (ss : Stmts) (r : Run) → r.store.headers [] ≡ None → SpareStmts ss → Kept r.store (meaning_of no_calls ss r).0.store
  stmts_keep ss r e f = record { value = all_at ss r e f; plain = all_none no_calls no_calls_none ss r e }

  -- ---- the parser

  field_keeps : (p : List (List ℕ)) (f : Field) (s : Reading) → is_long p ≡ true → s.store.headers [] ≡ None → Kept s.store (field_taken p f s).store
  field_keeps p f s l e = record { value = set_at s.store (p ++ f.name ∷ []) _ (long_off (p ++ f.name ∷ []) (longer p f.name l)); plain = e }

  fields_keep : (p : List (List ℕ)) (fs : List Field) (s : Reading) → is_long p ≡ true → s.store.headers [] ≡ None → Kept s.store (fields_taken p fs s).store
  fields_keep p [] s l e = kept_same s.store e
  fields_keep p (f ∷ fs) s l e = (let one = field_keeps p f s l e in kept_then s.store (field_taken p f s).store (fields_taken p fs (field_taken p f s)).store one (fields_keep p fs (field_taken p f s) l one.plain))

  valid_keeps : (s : Store) (p : List (List ℕ)) (b : Bool) → is_long p ≡ true → s.headers [] ≡ None → Kept s (set_valid s p b)
  valid_keeps s p b l e = record { value = refl; plain = ap (λ (c : Bool). cond c (Some b) (s.headers [])) (long_some p l) ∙ e }

  -- how a statement of a state leaves the store
  abbrev StepKeeps : Store → Parsed → Type 0
  StepKeeps a (goes_on s) = Kept a s.store
  StepKeeps a (stops s e) = Kept a s.store

  extract_keeps : (h : Header) (s : Reading) → is_long h.path ≡ true → s.store.headers [] ≡ None → StepKeeps s.store (extracted h s)
  extract_keeps h s l e = go (nat_lt (length s.rest) (width_sum h.fields))
    where
      go : (b : Bool) → StepKeeps s.store (cond b (stops s PacketTooShort) (goes_on (with_valid h.path (fields_taken h.path h.fields s))))
      go true = kept_same s.store e
      go false =
          (let taken = fields_keep h.path h.fields s l e in
          kept_then s.store (fields_taken h.path h.fields s).store (with_valid h.path (fields_taken h.path h.fields s)).store taken (valid_keeps (fields_taken h.path h.fields s).store h.path true l taken.plain))

  at_keeps : (hs : List Header) (p : List (List ℕ)) (s : Reading) → AreLong hs → s.store.headers [] ≡ None → StepKeeps s.store (extracted_at hs p s)
  at_keeps [] p s l e = kept_same s.store e
  at_keeps (h ∷ hs) p s l e = go (same_path h.path p) (at_keeps hs p s l.1 e)
    where
      go : (b : Bool) → StepKeeps s.store (extracted_at hs p s) → StepKeeps s.store (cond b (extracted h s) (extracted_at hs p s))
      go true k = extract_keeps h s l.0 e
      go false k = k

  -- a state assigns to other places
  abbrev pub SparesTarget : Stmt → Type 0
  SparesTarget (nothing p) = Unit {0}
  SparesTarget (block p ss) = Unit {0}
  SparesTarget (var p ty y e) = Unit {0}
  SparesTarget (assign p target e) = same_path target (x ∷ []) ≡ false
  SparesTarget (choice p e s t) = Unit {0}
  SparesTarget (return_ p) = Unit {0}
  SparesTarget (exit_ p) = Unit {0}
  SparesTarget (call p callee args) = Unit {0}

  call_keeps : (hs : List Header) (args : List Arg) (s : Reading) → AreLong hs → s.store.headers [] ≡ None → StepKeeps s.store (call_parsed hs args s)
  call_keeps hs (one p (path q names) ∷ []) s l e = at_keeps hs names s l e
  call_keeps hs _ s l e = kept_same s.store e

  none_written : (o : Option Bool) (s : Store) (p : List (List ℕ)) (w : Word) → s.headers [] ≡ None → (written o s p w).headers [] ≡ None
  none_written None s p w e = e
  none_written (Some true) s p w e = e
  none_written (Some false) s p w e = e

  none_assigned : (s : Store) (p : List (List ℕ)) (w : Word) → s.headers [] ≡ None → (assigned s p w).headers [] ≡ None
  none_assigned s p w e = go (is_assignable p)
    where
      go : (b : Bool) → (cond b (write s p (cast_word (sound_width (s.values p).width) w)) s).headers [] ≡ None
      go true = none_written (s.headers (parent p)) s p (cast_word (sound_width (s.values p).width) w) e
      go false = e

  step_keeps : (hs : List Header) (st : Stmt) (s : Reading) → AreLong hs → SparesTarget st → s.store.headers [] ≡ None → StepKeeps s.store (stmt_parsed hs st s)
  step_keeps hs (nothing p) s l f e = kept_same s.store e
  step_keeps hs (block p ss) s l f e = kept_same s.store e
  step_keeps hs (var p ty y v) s l f e = kept_same s.store e
  step_keeps hs (assign p t v) s l f e = record { value = assigned_at s.store t (value_of v (s.store.values t).width s.store) f; plain = none_assigned s.store t (value_of v (s.store.values t).width s.store) e }
  step_keeps hs (choice p c a b) s l f e = kept_same s.store e
  step_keeps hs (return_ p) s l f e = kept_same s.store e
  step_keeps hs (exit_ p) s l f e = kept_same s.store e
  step_keeps hs (call p callee args) s l f e = call_keeps hs args s l e

  body_keeps : (hs : List Header) (sts : List Stmt) (s : Reading) → AreLong hs → AllByRecursion SparesTarget sts → s.store.headers [] ≡ None → StepKeeps s.store (body_parsed hs sts s)
  body_keeps hs [] s l f e = kept_same s.store e
  body_keeps hs (st ∷ sts) s l f e = go (stmt_parsed hs st s) (step_keeps hs st s l f.0 e) (λ q k. body_keeps hs sts q l f.1 k)
    where
      go : (d : Parsed) → StepKeeps s.store d → ((q : Reading) → q.store.headers [] ≡ None → StepKeeps q.store (body_parsed hs sts q)) → StepKeeps s.store (unless_stopped d (body_parsed hs sts))
      go (goes_on q) k more = further (body_parsed hs sts q) (more q k.plain)
        where
          further : (d : Parsed) → StepKeeps q.store d → StepKeeps s.store d
          further (goes_on u) j = kept_then s.store q.store u.store k j
          further (stops u g) j = kept_then s.store q.store u.store k j
      go (stops q g) k more = k

  abbrev pub StatesSpare : List ParserState → Type 0
  StatesSpare sts = AllByRecursion (λ st. AllByRecursion SparesTarget st.body) sts

  -- the state that is found, and those that are left
  abbrev FoundSpares : Option (ParserState × List ParserState) → Type 0
  FoundSpares None = Unit {0}
  FoundSpares (Some t) = AllByRecursion SparesTarget t.0.body × StatesSpare t.1

  abbrev and_first : ParserState → ParserState × List ParserState → ParserState × List ParserState
  and_first st t = (t.0, st ∷ t.1)

  found_spares : (sts : List ParserState) (y : List ℕ) → StatesSpare sts → FoundSpares (found_state sts y)
  found_spares [] y f = tt
  found_spares (st ∷ sts) y f = go (same_text st.name y) (found_state sts y) (found_spares sts y f.1)
    where
      more : (o : Option (ParserState × List ParserState)) → FoundSpares o → FoundSpares (option_map (and_first st) o)
      more None k = tt
      more (Some t) k = (k.0, (f.0, k.1))

      go : (b : Bool) (o : Option (ParserState × List ParserState)) → FoundSpares o → FoundSpares (cond b (Some (st, sts)) (option_map (and_first st) o))
      go true o k = f
      go false o k = more o k

  led_keeps : (a : Store) (r : Result (List ℕ) ParserError) (q : Reading) (more : List ℕ → Reading → ParserEnd) → Kept a q.store → ((y : List ℕ) (u : Reading) → u.store.headers [] ≡ None → Kept u.store (more y u).reading.store) → Kept a (on_turned (led r q) more).reading.store
  led_keeps a (Ok y) q more k m = kept_then a q.store (more y q).reading.store k (m y q k.plain)
  led_keeps a (Err e) q more k m = k

  turned_keeps : (a : Store) (d : Parsed) (t : Transition) (more : List ℕ → Reading → ParserEnd) → StepKeeps a d → ((y : List ℕ) (u : Reading) → u.store.headers [] ≡ None → Kept u.store (more y u).reading.store) → Kept a (on_turned (turned d t) more).reading.store
  turned_keeps a (goes_on q) t more k m = led_keeps a (state_after t q.store) q more k m
  turned_keeps a (stops q e) t more k m = k

  passed_keeps : (hs : List Header) (o : Option (ParserState × List ParserState)) (s : Reading) (more : List ParserState → List ℕ → Reading → ParserEnd) → AreLong hs → FoundSpares o → s.store.headers [] ≡ None
      → ((sts : List ParserState) → StatesSpare sts → (y : List ℕ) (u : Reading) → u.store.headers [] ≡ None → Kept u.store (more sts y u).reading.store) → Kept s.store (passed_state hs o s more).reading.store
  passed_keeps hs None s more l f e m = kept_same s.store e
  passed_keeps hs (Some t) s more l f e m = turned_keeps s.store (body_parsed hs t.0.body s) t.0.next (more t.1) (body_keeps hs t.0.body s l f.0 e) (m t.1 f.1)

  turns_keep : (n : ℕ) (hs : List Header) (sts : List ParserState) (y : List ℕ) (s : Reading) → AreLong hs → StatesSpare sts → s.store.headers [] ≡ None → Kept s.store (turns_of n hs sts y s).reading.store
  turns_keep zero hs sts y s l f e = kept_same s.store e
  turns_keep (suc n) hs sts y s l f e = go (ends_parser y) (passed_keeps hs (found_state sts y) s (turns_of n hs) l (found_spares sts y f) e (λ us g z u k. turns_keep n hs us z u l g k))
    where
      go : (b : Bool) → Kept s.store (passed_state hs (found_state sts y) s (turns_of n hs)).reading.store → Kept s.store (cond b (parser_end s NoError) (passed_state hs (found_state sts y) s (turns_of n hs))).reading.store
      go true k = kept_same s.store e
      go false k = k

  pub parse_keeps : (hs : List Header) (sts : List ParserState) (s : Reading) → AreLong hs → StatesSpare sts → s.store.headers [] ≡ None → Kept s.store (parse_of hs sts s).reading.store
  parse_keeps hs sts s l f e = turns_keep (suc (length sts)) hs sts (codes "start") s l f e

  -- ---- in front of the parser

  zero_keeps : (p : List (List ℕ)) (fs : List Field) (s : Store) → ((f : Field) → is_long (p ++ f.name ∷ []) ≡ true) → s.headers [] ≡ None → Kept s (zero_fields p fs s)
  zero_keeps p [] s l e = kept_same s e
  zero_keeps p (f ∷ fs) s l e =
      (let next_store = set_value s (p ++ f.name ∷ []) (word (sound_width f.width) 0) in
      kept_then s next_store (zero_fields p fs next_store) (record { value = set_at s (p ++ f.name ∷ []) (word (sound_width f.width) 0) (long_off (p ++ f.name ∷ []) (l f)); plain = e }) (zero_keeps p fs next_store l e))

  headers_keep : (hs : List Header) (s : Store) → AreLong hs → s.headers [] ≡ None → Kept s (no_headers hs s)
  headers_keep [] s l e = kept_same s e
  headers_keep (h ∷ hs) s l e =
      (let one = valid_keeps s h.path false l.0 e in
      let two = zero_keeps h.path h.fields (set_valid s h.path false) (λ f. longer h.path f.name l.0) one.plain in
      let both = kept_then s (set_valid s h.path false) (zero_fields h.path h.fields (set_valid s h.path false)) one two in
      kept_then s (zero_fields h.path h.fields (set_valid s h.path false)) (no_headers hs (zero_fields h.path h.fields (set_valid s h.path false))) both (headers_keep hs (zero_fields h.path h.fields (set_valid s h.path false)) l.1 both.plain))

  set_keeps : (s : Store) (p : List (List ℕ)) (w : Word) → is_long p ≡ true → s.headers [] ≡ None → Kept s (set_value s p w)
  set_keeps s p w l e = record { value = set_at s p w (long_off p l); plain = e }

  set_more : (a s : Store) (p : List (List ℕ)) (w : Word) → is_long p ≡ true → Kept a s → Kept a (set_value s p w)
  set_more a s p w l k = kept_then a s (set_value s p w) k (set_keeps s p w l k.plain)

  standard_keeps : (port len : ℕ) (s : Store) → s.headers [] ≡ None → Kept s (with_standard port len s)
  standard_keeps port len s e =
      set_more s _ parser_error (word 2 0) refl
      (set_more s _ checksum_error (word 1 0) refl
      (set_more s _ packet_length (word 32 (cast 32 len)) refl
      (set_more s _ egress_port (word 9 0) refl
      (set_more s _ egress_spec (word 9 0) refl
      (set_more s s ingress_port (word 9 (cast 9 port)) refl (kept_same s e))))))

  pub before_keeps : (p : Parts) (port len : ℕ) → AreLong p.headers → Kept blank (store_before p port len)
  before_keeps p port len l =
      (let one = headers_keep p.headers blank l refl in
      let two = zero_keeps (metadata_root ∷ []) p.metadata (no_headers p.headers blank) (λ f. refl) one.plain in
      let both = kept_then blank (no_headers p.headers blank) (zero_fields (metadata_root ∷ []) p.metadata (no_headers p.headers blank)) one two in
      kept_then blank (zero_fields (metadata_root ∷ []) p.metadata (no_headers p.headers blank)) (store_before p port len) both (standard_keeps port len (zero_fields (metadata_root ∷ []) p.metadata (no_headers p.headers blank)) both.plain))

  -- the store in front of ingress
  pub starts : (p : Parts) (cells : Registers) (port : ℕ) (frame : List ℕ) → AreLong p.headers → StatesSpare p.states → SpareStmts p.verify
      → Kept blank (meaning_of no_calls p.verify (run_from (store_behind (parse_of p.headers p.states (record { store = store_before p port (length frame); rest = bits_of frame }))) cells)).0.store
  starts p cells port frame l f v =
      (let before = before_keeps p port (length frame) l in
      let reading : Reading = record { store = store_before p port (length frame); rest = bits_of frame } in
      let e = parse_of p.headers p.states reading in
      let parsed = kept_then blank reading.store e.reading.store before (parse_keeps p.headers p.states reading l f before.plain) in
      let behind = kept_then blank e.reading.store (store_behind e) parsed (set_keeps e.reading.store parser_error (word 2 (error_number e.error)) refl parsed.plain) in
      kept_then blank (store_behind e) (meaning_of no_calls p.verify (run_from (store_behind e) cells)).0.store behind (stmts_keep p.verify (run_from (store_behind e) cells) behind.plain v))
