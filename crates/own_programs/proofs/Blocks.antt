-- Statements that break no rule, leave nothing and tell no reports are own.
use Rattle.std.proofs.Common.{◌≡◌, inl, ℕ, List, [], ◌∷◌, ◌++◌, map, true, false, not, ◌||◌, Option, Some, None}
use Rattle.std.specs.List.{AllByRecursion}
use Rattle.bit_values.specs.Bits.{Word}
use Rattle.rule_tests.specs.Tests.{IsFine}
use Rattle.p4_tree.specs.Tree.{path, Arg, one, many, Stmt, Stmts, MaybeStmt, nothing, block, var, assign, choice, return_, exit_, call, done, next, without, otherwise, stmts_from, and_then, Keyset, any, only, masked, Case, Transition, nowhere, to, select, ParserState}
use Rattle.p4_meaning.specs.Scope as meaning
use Rattle.p4_meaning.specs.Scope.{first_name, path_under, constant_at}
use Rattle.p4_meaning.specs.Under.{constant_or_path, arg_under, stmt_under, else_under, stmts_under, keyset_under, case_under, transition_under, state_under}
use Rattle.p4_meaning.specs.Parts.{emitted, emits_of}
use Rattle.p4_scopes.specs.Scopes.{Stands, missing, held, is_missing, Scope}
use Rattle.p4_scopes.specs.Uses.{holds_header}
use Rattle.p4_statement_rules.specs.Forms.{Form, unknown, ill, drops, digests, sums, extracts, emits, applies, reads_cell, writes_cell, makes_valid, acts, takes_call, form_of}
use Rattle.p4_statement_rules.specs.Calls.{single_tests, form_tests}
use Rattle.p4_statement_rules.specs.Statements.{after, stmt_tests, block_tests, else_tests}
use Rattle.p4_statement_rules.specs.declared.rule.Part.{Part}
use Rattle.p4_statement_rules.specs.declared.rule.Part.TheVariants as place
use Rattle.p4_declaration_rules.specs.Parsers.{states_tests}
use Rattle.p4_rule_laws.specs.Old.{OldPath, OldArgs, OldStmt, OldElse, OldStmts}
use Rattle.p4_rule_laws.specs.OldPrograms.{OldKeyset, OldKeysets, OldCases, OldTransition, OldStates}
use Rattle.p4_typing_laws.proofs.Fine.{twice_not, neither}
use Rattle.exit_statements.specs.Without.{no_exits, test_leaves, stmt_leaves, else_leaves, stmts_leave}
use Rattle.own_code.specs.Regions.{is_own_header}
use Rattle.own_code.specs.Forwarding.{IsOwnStmt, IsOwnElse, AreOwnStmts, IsOwnExtract, IsOwnParse, IsOwnKeyset, IsOwnCase, IsOwnTransition, IsOwnState}
use Rattle.own_programs.specs.OwnPrograms.{is_own, stmt_tells_reports, else_tells_reports, stmts_tell_reports}
use Rattle.own_programs.proofs.Names.{broken, own_not, first_own, path_own, expr_own, exprs_own, start_own, test_own}
use Rattle.own_programs.proofs.Places.{is_held_header, IsPlace, place_after, header_own, target_own}
use Rattle.own_programs.proofs.Calls.{call_own}

-- ---- statements of controls and actions

module _ (sc : meaning.Scope) where
  mutual
    stmt_own : (c : Stmt) (h : Part) (s : Scope) → IsPlace s sc → OldStmt is_own c → stmt_leaves no_exits c ≡ false → stmt_tells_reports c ≡ false → IsFine (stmt_tests h s c) → IsOwnStmt (stmt_under sc c)
    stmt_own (nothing p) h s b o l t f = tt
    stmt_own (block p ss) h s b o l t f = block_own ss h s b o l t f.1
    stmt_own (var p ty x e) h s b o l t f = (own_not (first_name sc x) (first_own sc x o.1), start_own sc e o.2)
    stmt_own (assign p x e) h s b o l t f = (path_own sc x o.0, target_own s sc b x o.0 f.1.0.0 (twice_not _ f.1.0.1.0) (inl (twice_not _ f.1.0.1.1)), expr_own sc e o.1)
    stmt_own (choice p e a c) h s b o l t f =
        (let l1 = neither (test_leaves no_exits e) (stmt_leaves no_exits a || else_leaves no_exits c) l in
        let l2 = neither (stmt_leaves no_exits a) (else_leaves no_exits c) l1.1 in
        let t1 = neither (stmt_tells_reports a) (else_tells_reports c) t in
        (test_own sc e o.0, stmt_own a h s b o.1 l2.0 t1.0 f.1.1.0, else_own c h s b o.2 l2.1 t1.1 f.1.1.1))
    stmt_own (return_ p) h s b o l t f = broken l
    stmt_own (exit_ p) h s b o l t f = broken l
    stmt_own (call p x args) h s b o l t f = call_own s sc b p x args o.0 o.1 f.1 t

    else_own : (c : MaybeStmt) (h : Part) (s : Scope) → IsPlace s sc → OldElse is_own c → else_leaves no_exits c ≡ false → else_tells_reports c ≡ false → IsFine (else_tests h s c) → IsOwnElse (else_under sc c)
    else_own without h s b o l t f = tt
    else_own (otherwise c) h s b o l t f = stmt_own c h s b o l t f

    pub block_own : (ss : Stmts) (h : Part) (s : Scope) → IsPlace s sc → OldStmts is_own ss → stmts_leave no_exits ss ≡ false → stmts_tell_reports ss ≡ false → IsFine (block_tests h s ss) → AreOwnStmts (stmts_under sc ss)
    block_own done h s b o l t f = tt
    block_own (next c ss) h s b o l t f =
        (let l1 = neither (stmt_leaves no_exits c) (stmts_leave no_exits ss) l in
        let t1 = neither (stmt_tells_reports c) (stmts_tell_reports ss) t in
        (stmt_own c h s b o.0 l1.0 t1.0 f.0, block_own ss h (after s c) (place_after h s sc c b f.0) o.1 l1.1 t1.1 f.1))

pub and_own : (a b : Stmts) → AreOwnStmts a → AreOwnStmts b → AreOwnStmts (and_then a b)
and_own done b h k = k
and_own (next s ss) b h k = (h.0, and_own ss b h.1 k)

-- ---- one header as an argument

holds_held : (st : Stands) → is_missing st ≡ false → holds_header st ≡ true → is_held_header st ≡ true
holds_held missing h k = broken h
holds_held (held a t) h k = k
holds_held _ h k = k

module _ (s : Scope) (sc : meaning.Scope) (b : IsPlace s sc) where
  path_header : (x : List (List ℕ)) → OldPath is_own x → is_missing (s x) ≡ false → not (holds_header (s x)) ≡ false → is_own_header (path_under sc x) ≡ true
  path_header x o h k = header_own s sc b x o (holds_held (s x) h (twice_not _ k))

  constant_extract : (p q : ℕ) (w : Option Word) (x : List (List ℕ)) → is_own_header x ≡ true → IsOwnExtract (one p (constant_or_path q w x) ∷ [])
  constant_extract p q None x h = h
  constant_extract p q (Some w) x h = tt

  extract_own : (p : ℕ) (args : List Arg) → OldArgs is_own args → IsFine (single_tests p holds_header s args) → IsOwnExtract (map (arg_under sc) args)
  extract_own p [] o f = broken f
  extract_own p (one q (path t x) ∷ []) o f = constant_extract q t (constant_at sc x) (path_under sc x) (path_header x o.0 f.0 f.1)
  extract_own p (one q e ∷ []) o f = broken f
  extract_own p (many q es ∷ []) o f = broken f
  extract_own p (a ∷ c ∷ rest) o f = broken f

  constant_emit : (p q : ℕ) (w : Option Word) (x : List (List ℕ)) → is_own_header x ≡ true → AllByRecursion (λ y. is_own_header y ≡ true) (emitted (one p (constant_or_path q w x) ∷ []))
  constant_emit p q None x h = (h, tt)
  constant_emit p q (Some w) x h = tt

  emit_own : (p : ℕ) (args : List Arg) → OldArgs is_own args → IsFine (single_tests p holds_header s args) → AllByRecursion (λ y. is_own_header y ≡ true) (emitted (map (arg_under sc) args))
  emit_own p [] o f = broken f
  emit_own p (one q (path t x) ∷ []) o f = constant_emit q t (constant_at sc x) (path_under sc x) (path_header x o.0 f.0 f.1)
  emit_own p (one q e ∷ []) o f = broken f
  emit_own p (many q es ∷ []) o f = broken f
  emit_own p (a ∷ c ∷ rest) o f = broken f

-- ---- which call stands where

extracts_there : (p : ℕ) (s : Scope) (g : Form) (args : List Arg) → not (takes_call place.State g) ≡ false → IsFine (form_tests p s g args) → IsFine (single_tests p holds_header s args)
extracts_there p s extracts args k f = f
extracts_there p s (sums true) args k f = broken k
extracts_there p s (sums false) args k f = broken k
extracts_there p s unknown args k f = broken k
extracts_there p s ill args k f = broken k
extracts_there p s drops args k f = broken k
extracts_there p s digests args k f = broken k
extracts_there p s emits args k f = broken k
extracts_there p s applies args k f = broken k
extracts_there p s (reads_cell j) args k f = broken k
extracts_there p s (writes_cell j) args k f = broken k
extracts_there p s makes_valid args k f = broken k
extracts_there p s (acts js) args k f = broken k

emits_there : (p : ℕ) (s : Scope) (g : Form) (args : List Arg) → not (takes_call place.Deparser g) ≡ false → IsFine (form_tests p s g args) → IsFine (single_tests p holds_header s args)
emits_there p s emits args k f = f
emits_there p s (sums true) args k f = broken k
emits_there p s (sums false) args k f = broken k
emits_there p s unknown args k f = broken k
emits_there p s ill args k f = broken k
emits_there p s drops args k f = broken k
emits_there p s digests args k f = broken k
emits_there p s extracts args k f = broken k
emits_there p s applies args k f = broken k
emits_there p s (reads_cell j) args k f = broken k
emits_there p s (writes_cell j) args k f = broken k
emits_there p s makes_valid args k f = broken k
emits_there p s (acts js) args k f = broken k

-- ---- the deparser

pub all_and : {A : Type 0} (P : A → Type 0) (xs ys : List A) → AllByRecursion P xs → AllByRecursion P ys → AllByRecursion P (xs ++ ys)
all_and P [] ys h k = k
all_and P (x ∷ xs) ys h k = (h.0, all_and P xs ys h.1 k)

module _ (sc : meaning.Scope) where
  pub emits_own : (ss : Stmts) (s : Scope) → IsPlace s sc → OldStmts is_own ss → IsFine (block_tests place.Deparser s ss) → AllByRecursion (λ y. is_own_header y ≡ true) (emits_of (stmts_under sc ss))
  emits_own done s b o f = tt
  emits_own (next (call p x args) ss) s b o f = all_and (λ y. is_own_header y ≡ true) (emitted (map (arg_under sc) args)) (emits_of (stmts_under sc ss)) (emit_own s sc b p args o.0.1 (emits_there p s (form_of s x) args f.0.0 f.0.1)) (emits_own ss s b o.1 f.1)
  emits_own (next (nothing p) ss) s b o f = emits_own ss s b o.1 f.1
  emits_own (next (block p c) ss) s b o f = emits_own ss s b o.1 f.1
  emits_own (next (var p t x e) ss) s b o f = emits_own ss (after s (var p t x e)) (place_after place.Deparser s sc (var p t x e) b f.0) o.1 f.1
  emits_own (next (assign p x e) ss) s b o f = emits_own ss s b o.1 f.1
  emits_own (next (choice p e c d) ss) s b o f = emits_own ss s b o.1 f.1
  emits_own (next (return_ p) ss) s b o f = emits_own ss s b o.1 f.1
  emits_own (next (exit_ p) ss) s b o f = emits_own ss s b o.1 f.1

  -- ---- parser states

  parse_own : (c : Stmt) (s : Scope) → IsPlace s sc → OldStmt is_own c → IsFine (stmt_tests place.State s c) → IsOwnParse (stmt_under sc c)
  parse_own (assign p x e) s b o f = (path_own sc x o.0, target_own s sc b x o.0 f.1.0.0 (twice_not _ f.1.0.1.0) (inl (twice_not _ f.1.0.1.1)), expr_own sc e o.1)
  parse_own (call p x args) s b o f = extract_own s sc b p args o.1 (extracts_there p s (form_of s x) args f.0 f.1)
  parse_own _ s b o f = tt

  parses_own : (cs : List Stmt) (s : Scope) → IsPlace s sc → OldStmts is_own (stmts_from cs) → IsFine (block_tests place.State s (stmts_from cs)) → AllByRecursion IsOwnParse (map (stmt_under sc) cs)
  parses_own [] s b o f = tt
  parses_own (c ∷ cs) s b o f = (parse_own c s b o.0 f.0, parses_own cs (after s c) (place_after place.State s sc c b f.0) o.1 f.1)

  keyset_own : (k : Keyset) → OldKeyset is_own k → IsOwnKeyset (keyset_under sc k)
  keyset_own (any p) o = tt
  keyset_own (only p e) o = expr_own sc e o
  keyset_own (masked p e m) o = (expr_own sc e o.0, expr_own sc m o.1)

  keysets_own : (ks : List Keyset) → OldKeysets is_own ks → AllByRecursion IsOwnKeyset (map (keyset_under sc) ks)
  keysets_own [] o = tt
  keysets_own (k ∷ ks) o = (keyset_own k o.0, keysets_own ks o.1)

  cases_own : (cs : List Case) → OldCases is_own cs → AllByRecursion IsOwnCase (map (case_under sc) cs)
  cases_own [] o = tt
  cases_own (c ∷ cs) o = (record { keys = keysets_own c.keys o.0; next = own_not c.next o.1 }, cases_own cs o.2)

  transition_own : (t : Transition) → OldTransition is_own t → IsOwnTransition (transition_under sc t)
  transition_own (nowhere p) o = tt
  transition_own (to p x) o = own_not x o
  transition_own (select p es cs) o = (exprs_own sc es o.0, cases_own cs o.1)

  pub states_own : (all sts : List ParserState) (s : Scope) → IsPlace s sc → OldStates is_own sts → IsFine (states_tests all s sts) → AllByRecursion IsOwnState (map (state_under sc) sts)
  states_own all [] s b o f = tt
  states_own all (st ∷ sts) s b o f = (
    record { name = own_not st.name o.0; body = parses_own st.body s b o.1 f.0.1.0; next = transition_own st.next o.2 },
    states_own all sts s b o.3 f.1,
  )
