-- The tests of a declaration rest on the scope at the declaration's names alone.
use Rattle.std.proofs.Common.{◌≡◌, ℕ, List, [], ◌∷◌, Bool, true, false, cond, not, refl, ap, subst, codes, Option, Some, None}
use Rattle.rule_tests.specs.Tests.{test, both}
use Rattle.p4_tree.specs.Tree.{Expr, num, flag, path, valid, applied, error_name, negation, inversion, opposite, binary, conditional, slice, cast, Stmts, stmts_from, call, done, next, Keyset, any, only, masked, Case, Transition, nowhere, to, select, ParserState, Local, local_action, local_table, local_register, local_const, local_var, Control, Parser, Top, constant, typedef, header_type, struct_type, register, parser, control}
use Rattle.p4_tree.specs.Tree as tree
use Rattle.p4_tree.specs.declared.statement.PTy.{PTy}
use Rattle.p4_tree.specs.declared.program.Param.{Param}
use Rattle.p4_tree.specs.declared.program.Register.{Register}
use Rattle.p4_parser_states.specs.Cycles.{state_names}
use Rattle.p4_scopes.specs.Kinds.{as_number, as_value}
use Rattle.p4_scopes.specs.Scopes.{Stands, missing, typed, held, cells, act, rows, state, function, algorithm, other, Scope, is_missing, alias, fields, value, action, table, parser_state, part, declare, thing_in, kind_in, fields_bits, own}
use Rattle.p4_scopes.specs.Scopes as scope
use Rattle.p4_scopes.specs.Uses.{is_constant, is_action, most_in}
use Rattle.p4_scopes.specs.declared.kind.Kind.{Kind}
use Rattle.p4_scopes.specs.declared.thing.Thing.{Thing}
use Rattle.p4_scopes.specs.declared.thing.Thing.TheVariants.{Header, Struct}
use Rattle.p4_scopes.specs.declared.thing.Access.TheVariants.{Writable, Fixed, Constant}
use Rattle.p4_statement_rules.specs.declared.rule.ProgramRule.TheVariants.{NoSuchName, KindDiffers}
use Rattle.p4_statement_rules.specs.declared.rule.Part.{Part}
use Rattle.p4_statement_rules.specs.declared.rule.Part.TheVariants as place
use Rattle.p4_declaration_rules.specs.Digests.{most_of, most_of_default, greatest, most_of_table}
use Rattle.p4_declaration_rules.specs.Declarations.{const_tests, typedef_tests, register_tests, params_tests, with_params, action_tests, fields_tests, bits_over, is_no_number, is_no_field}
use Rattle.p4_declaration_rules.specs.Tables.{keys_tests, listed_tests, known_args, default_args, default_tests, table_tests}
use Rattle.p4_declaration_rules.specs.Parsers.{is_state_name, with_state, with_ends, before_states, in_states, way_access, with_ways, ways_tests, onto_tests, simple_tests, key_tests, keyset_tests, each_keyset, keysets_tests, cases_tests, transition_tests, with_states, states_names, state_tests, states_tests, parser_tests}
use Rattle.p4_declaration_rules.specs.Controls.{action_part, declared_tests, local_tests, after_local, locals_tests, after_locals, form_emits, stmt_emits, emitted_behind, emits_tests, once_tests, in_control, control_tests, part_in, top_tests, after_top, tops_tests, after_tops}
use Rattle.p4_rule_laws.specs.Old.{Names, OldPath, Alike, OldType, OldFields, OldExpr, OldExprs, OldStmt, OldStmts}
use Rattle.p4_rule_laws.specs.OldPrograms.{OldKeys, OldDefault, OldTable, OldWays, OldKeyset, OldKeysets, OldCases, OldTransition, OldStates, OldParser, OldLocal, OldLocals, OldControl, OldTop, OldTops}
use Rattle.p4_rule_laws.proofs.AlikeScopes.{thing_alike, kind_alike, declare_alike, fields_bits_alike, alike_back, skip_alike}
use Rattle.p4_rule_laws.proofs.AlikeExprs.{own_alike, expr_alike, new_alike, type_tests_alike, scalar_alike, free_alike, all_free_alike, constant_alike}
use Rattle.p4_rule_laws.proofs.AlikeStmts.{form_alike, var_alike, block_alike, most_alike}

module _ (old : Names) (s t : Scope) (a : Alike old s t) where
  -- ---- declarations of single values

  const_alike : (p : ℕ) (y : PTy) (x : List ℕ) (e : Expr) → OldType old y → old x ≡ true → OldExpr old e → const_tests p s y x e ≡ const_tests p t y x e
  const_alike p y x e o u v =
      let f = new_alike old s t a p x u in
      let g = scalar_alike old s t a p y o in
      let h = kind_alike old s t a y o in
      let i = constant_alike old s t a (kind_in s y) e v in
      cc

  typedef_alike : (p : ℕ) (y : PTy) (x : List ℕ) → OldType old y → old x ≡ true → typedef_tests p s y x ≡ typedef_tests p t y x
  typedef_alike p y x o u = let f = new_alike old s t a p x u in let g = scalar_alike old s t a p y o in cc

  register_alike : (r : Register) → old r.name ≡ true → OldType old r.ty → register_tests s r ≡ register_tests t r
  register_alike r o u = let f = new_alike old s t a r.at r.name o in let g = scalar_alike old s t a r.at r.ty u in cc

  -- ---- tables

  keys_alike : (ks : List (Expr × List ℕ)) → OldKeys old ks → keys_tests s ks ≡ keys_tests t ks
  keys_alike [] o = refl
  keys_alike (k ∷ ks) o = let f = free_alike old s t a k.0 o.0 in let g = keys_alike ks o.1 in cc

  listed_alike : (p : ℕ) (xs : List (List ℕ)) → OldPath old xs → listed_tests p s xs ≡ listed_tests p t xs
  listed_alike p [] o = refl
  listed_alike p (x ∷ xs) o =
      let f = ap (λ st. both (test p NoSuchName (is_missing st)) (test p KindDiffers (not (is_action st)))) (a.same (x ∷ []) (o.0, tt)) in
      let g = listed_alike p xs o.1 in
      cc

  known_args_alike : (ks : List Kind) (es : List Expr) → OldExprs old es → known_args s ks es ≡ known_args t ks es
  known_args_alike [] es o = refl
  known_args_alike (k ∷ ks) [] o = refl
  known_args_alike (k ∷ ks) (e ∷ es) o = let f = constant_alike old s t a k e o.0 in let g = known_args_alike ks es o.1 in cc

  default_args_alike : (p : ℕ) (st : Stands) (es : List Expr) → OldExprs old es → default_args p s st es ≡ default_args p t st es
  default_args_alike p (act ks m) es o = let f = known_args_alike ks es o in cc
  default_args_alike p missing es o = refl
  default_args_alike p (typed f h) es o = refl
  default_args_alike p (held c h) es o = refl
  default_args_alike p (cells k) es o = refl
  default_args_alike p (rows m) es o = refl
  default_args_alike p state es o = refl
  default_args_alike p (function f) es o = refl
  default_args_alike p algorithm es o = refl
  default_args_alike p other es o = refl

  default_alike : (p : ℕ) (xs : List (List ℕ)) (d : Option (List ℕ × List Expr)) → OldDefault old d → default_tests p s xs d ≡ default_tests p t xs d
  default_alike p xs None o = refl
  default_alike p xs (Some d) o =
      let e = default_args_alike p (s (d.0 ∷ [])) d.1 o.1 in
      let f = a.same (d.0 ∷ []) (o.0, tt) in
      cc

  table_alike : (b : tree.Table) → OldTable old b → table_tests s b ≡ table_tests t b
  table_alike b o =
      let e = new_alike old s t a b.at b.name o.name in
      let f = keys_alike b.keys o.keys in
      let g = listed_alike b.at b.actions o.actions in
      let h = default_alike b.at b.actions b.default o.default in
      cc

  greatest_alike : (xs : List (List ℕ)) → OldPath old xs → greatest s xs ≡ greatest t xs
  greatest_alike [] o = refl
  greatest_alike (x ∷ xs) o = let e = ap most_in (a.same (x ∷ []) (o.0, tt)) in let f = greatest_alike xs o.1 in cc

  most_default_alike : (d : Option (List ℕ × List Expr)) → OldDefault old d → most_of_default s d ≡ most_of_default t d
  most_default_alike None o = refl
  most_default_alike (Some d) o = ap most_in (a.same (d.0 ∷ []) (o.0, tt))

  most_table_alike : (b : tree.Table) → OldTable old b → most_of_table s b.actions b.default ≡ most_of_table t b.actions b.default
  most_table_alike b o = let e = greatest_alike b.actions o.actions in let f = most_default_alike b.default o.default in cc

  -- ---- headers and structs

  pub fields_alike : (p : ℕ) (misfit : Thing → Bool) (fs : List (PTy × List ℕ)) → OldFields old fs → fields_tests p misfit s fs ≡ fields_tests p misfit t fs
  fields_alike p misfit [] o = refl
  fields_alike p misfit (f ∷ fs) o =
      let e = type_tests_alike old s t a p f.0 o.0 in
      let g = thing_alike old s t a f.0 o.0 in
      let h = fields_alike p misfit fs o.2 in
      cc

  pub bits_over_alike : (fs : List (PTy × List ℕ)) → OldFields old fs → bits_over s fs ≡ bits_over t fs
  bits_over_alike [] o = refl
  bits_over_alike (f ∷ fs) o = let e = kind_alike old s t a f.0 o.0 in let g = bits_over_alike fs o.2 in cc

  -- ---- how a state goes on

  onto_alike : (p : ℕ) (b : Bool) (x : List ℕ) → old x ≡ true → onto_tests p b (s (x ∷ [])) ≡ onto_tests p b (t (x ∷ []))
  onto_alike p b x o = ap (onto_tests p b) (a.same (x ∷ []) (o, tt))

  simple_alike : (e : Expr) → OldExpr old e → simple_tests s e ≡ simple_tests t e
  simple_alike (path p x) o = ap (λ st. test p KindDiffers (not (is_constant st))) (a.same x o)
  simple_alike (num p n) o = refl
  simple_alike (flag p b) o = refl
  simple_alike (valid p x) o = refl
  simple_alike (applied p y h) o = refl
  simple_alike (error_name p x) o = refl
  simple_alike (negation p b) o = refl
  simple_alike (inversion p b) o = refl
  simple_alike (opposite p b) o = refl
  simple_alike (binary p op b c) o = refl
  simple_alike (conditional p b c d) o = refl
  simple_alike (slice p b h l) o = refl
  simple_alike (cast p y b) o = refl

  key_alike : (k : Kind) (e : Expr) → OldExpr old e → key_tests s k e ≡ key_tests t k e
  key_alike k e o = let f = expr_alike old s t a k e o in let g = simple_alike e o in cc

  keyset_alike : (k : Kind) (q : Keyset) → OldKeyset old q → keyset_tests s k q ≡ keyset_tests t k q
  keyset_alike k (any p) o = refl
  keyset_alike k (only p e) o = key_alike k e o
  keyset_alike k (masked p e m) o = let f = key_alike (as_number k) e o.0 in let g = key_alike (as_number k) m o.1 in cc

  each_keyset_alike : (es : List Expr) (ks : List Keyset) → OldExprs old es → OldKeysets old ks → each_keyset s es ks ≡ each_keyset t es ks
  each_keyset_alike [] ks o u = refl
  each_keyset_alike (e ∷ es) [] o u = refl
  each_keyset_alike (e ∷ es) (k ∷ ks) o u =
      let f = own_alike old s t a e o.0 in
      let g = keyset_alike (as_value (own s e)) k u.0 in
      let h = each_keyset_alike es ks o.1 u.1 in
      cc

  pub keysets_alike : (p : ℕ) (es : List Expr) (ks : List Keyset) → OldExprs old es → OldKeysets old ks → keysets_tests p s es ks ≡ keysets_tests p t es ks
  keysets_alike p es (any q ∷ []) o u = refl
  keysets_alike p es [] o u = let f = each_keyset_alike es [] o u in cc
  keysets_alike p es (only q e ∷ ks) o u = let f = each_keyset_alike es (only q e ∷ ks) o u in cc
  keysets_alike p es (masked q e m ∷ ks) o u = let f = each_keyset_alike es (masked q e m ∷ ks) o u in cc
  keysets_alike p es (any q ∷ k ∷ ks) o u = let f = each_keyset_alike es (any q ∷ k ∷ ks) o u in cc

  cases_alike : (k : List ℕ → Bool) (p : ℕ) (es : List Expr) (cs : List Case) → OldExprs old es → OldCases old cs → cases_tests k p s es cs ≡ cases_tests k p t es cs
  cases_alike k p es [] o u = refl
  cases_alike k p es (c ∷ cs) o u =
      let f = keysets_alike p es c.keys o u.0 in
      let g = onto_alike p (k c.next) c.next u.1 in
      let h = cases_alike k p es cs o u.2 in
      cc

  transition_alike : (k : List ℕ → Bool) (n : Transition) → OldTransition old n → transition_tests k s n ≡ transition_tests k t n
  transition_alike k (nowhere p) o = refl
  transition_alike k (to p x) o = onto_alike p (k x) x o
  transition_alike k (select p es cs) o = let f = all_free_alike old s t a es o.0 in let g = cases_alike k p es cs o.0 o.1 in cc

  pub state_alike : (all : List ParserState) (st : ParserState) → OldStmts old (stmts_from st.body) → OldTransition old st.next → state_tests all s st ≡ state_tests all t st
  state_alike all st o u = let f = block_alike old s t a place.State (stmts_from st.body) o in let g = transition_alike (is_state_name (state_names all)) st.next u in cc

  pub states_alike : (all sts : List ParserState) → OldStates old sts → states_tests all s sts ≡ states_tests all t sts
  states_alike all [] o = refl
  states_alike all (st ∷ sts) o = let f = state_alike all st o.1 o.2 in let g = states_alike all sts o.3 in cc

  -- ---- what a deparser emits

  stmt_emits_alike : (c : tree.Stmt) → OldStmt old c → stmt_emits s c ≡ stmt_emits t c
  stmt_emits_alike (tree.nothing p) o = refl
  stmt_emits_alike (tree.block p b) o = refl
  stmt_emits_alike (tree.var p y x e) o = refl
  stmt_emits_alike (tree.assign p x e) o = refl
  stmt_emits_alike (tree.choice p e b c) o = refl
  stmt_emits_alike (tree.return_ p) o = refl
  stmt_emits_alike (tree.exit_ p) o = refl
  stmt_emits_alike (call p x bs) o = ap (λ f. form_emits f bs) (form_alike old s t a x o.0)

  emits_alike : (before : List (List (List ℕ))) (b : Stmts) → OldStmts old b → emits_tests s before b ≡ emits_tests t before b
  emits_alike before done o = refl
  emits_alike before (next c rest) o =
      let f = stmt_emits_alike c o.0 in
      let g = emits_alike (emitted_behind (stmt_emits s c) before) rest o.1 in
      cc

  pub once_alike : (h : Part) (b : Stmts) → OldStmts old b → once_tests h s b ≡ once_tests h t b
  once_alike place.Deparser b o = emits_alike [] b o
  once_alike place.State b o = refl
  once_alike place.Verify b o = refl
  once_alike place.Apply b o = refl
  once_alike place.Action b o = refl
  once_alike place.Compute b o = refl
  once_alike place.Other b o = refl

-- ---- actions

pub with_params_alike : (old : Names) (s t : Scope) → Alike old s t → (qs : List (PTy × List ℕ)) → OldFields old qs → Alike old (with_params s qs) (with_params t qs)
with_params_alike old s t a [] o = a
with_params_alike old s t a (q ∷ qs) o = with_params_alike old (declare s q.1 (value Fixed q.0)) (declare t q.1 (value Fixed q.0)) (declare_alike old s t a q.1 (value Fixed q.0) o.0) qs o.2

pub params_alike : (old : Names) (s t : Scope) → Alike old s t → (p : ℕ) (qs : List (PTy × List ℕ)) → OldFields old qs → params_tests p s qs ≡ params_tests p t qs
params_alike old s t a p [] o = refl
params_alike old s t a p (q ∷ qs) o =
    let e = new_alike old s t a p q.1 o.1 in
    let g = scalar_alike old s t a p q.0 o.0 in
    let f = params_alike old (declare s q.1 (value Fixed q.0)) (declare t q.1 (value Fixed q.0)) (declare_alike old s t a q.1 (value Fixed q.0) o.0) p qs o.2 in
    cc

action_alike : (old : Names) (s t : Scope) → Alike old s t → (h : Part) (b : tree.Action) → old b.name ≡ true → OldFields old b.params → OldStmts old b.body → action_tests h s b ≡ action_tests h t b
action_alike old s t a h b o u v =
    let e = new_alike old s t a b.at b.name o in
    let f = params_alike old s t a b.at b.params u in
    let g = block_alike old _ _ (with_params_alike old s t a b.params u) h b.body v in
    cc

-- ---- declarations of a control

declared_alike : (old : Names) (s t : Scope) → Alike old s t → (h : Part) (l : Local) → OldLocal old l → declared_tests h s l ≡ declared_tests h t l
declared_alike old s t a h (local_action p b) o = action_alike old s t a (action_part h) b o.0 o.1 o.2
declared_alike old s t a h (local_table p b) o = table_alike old s t a b o
declared_alike old s t a h (local_register p r) o = register_alike old s t a r o.0 o.1
declared_alike old s t a h (local_const p y x e) o = const_alike old s t a p y x e o.0 o.1 o.2
declared_alike old s t a h (local_var p y x e) o = var_alike old s t a p y x e o.0 o.1 o.2

pub local_alike : (old : Names) (s t : Scope) → Alike old s t → (h : Part) (l : Local) → OldLocal old l → local_tests h s l ≡ local_tests h t l
local_alike old s t a h l o = let e = declared_alike old s t a h l o in cc

pub after_local_alike : (old : Names) (s t : Scope) → Alike old s t → (l : Local) → OldLocal old l → Alike old (after_local s l) (after_local t l)
after_local_alike old s t a (local_action p b) o =
    let P : ℕ → Type 0 = λ m. Alike old (declare s b.name (action b.params (most_of s b.body))) (declare t b.name (action b.params m)) in
    subst P (most_alike old s t a b.body o.2) (declare_alike old s t a b.name (action b.params (most_of s b.body)) o.1)
after_local_alike old s t a (local_table p b) o =
    let P : ℕ → Type 0 = λ m. Alike old (declare s b.name (table (most_of_table s b.actions b.default))) (declare t b.name (table m)) in
    subst P (most_table_alike old s t a b o) (declare_alike old s t a b.name (table (most_of_table s b.actions b.default)) tt)
after_local_alike old s t a (local_register p r) o = declare_alike old s t a r.name (scope.register r.ty) o.1
after_local_alike old s t a (local_const p y x e) o = declare_alike old s t a x (value Constant y) o.0
after_local_alike old s t a (local_var p y x e) o = declare_alike old s t a x (value Writable y) o.0

pub locals_alike : (old : Names) (s t : Scope) → Alike old s t → (h : Part) (ls : List Local) → OldLocals old ls → locals_tests h s ls ≡ locals_tests h t ls
locals_alike old s t a h [] o = refl
locals_alike old s t a h (l ∷ ls) o =
    let e = local_alike old s t a h l o.0 in
    let f = locals_alike old (after_local s l) (after_local t l) (after_local_alike old s t a l o.0) h ls o.1 in
    cc

pub after_locals_alike : (old : Names) (s t : Scope) → Alike old s t → (ls : List Local) → OldLocals old ls → Alike old (after_locals s ls) (after_locals t ls)
after_locals_alike old s t a [] o = a
after_locals_alike old s t a (l ∷ ls) o = after_locals_alike old (after_local s l) (after_local t l) (after_local_alike old s t a l o.0) ls o.1

-- ---- parameters of parsers and controls

pub ways_alike : (old : Names) (s t : Scope) → Alike old s t → (qs : List Param) → OldWays old qs → ways_tests s qs ≡ ways_tests t qs
ways_alike old s t a [] o = refl
ways_alike old s t a (q ∷ qs) o =
    let e = new_alike old s t a q.at q.name o.1 in
    let f = type_tests_alike old s t a q.at q.ty o.0 in
    let g = ways_alike old (declare s q.name (value (way_access q.way) q.ty)) (declare t q.name (value (way_access q.way) q.ty)) (declare_alike old s t a q.name (value (way_access q.way) q.ty) o.0) qs o.2 in
    cc

pub with_ways_alike : (old : Names) (s t : Scope) → Alike old s t → (qs : List Param) → OldWays old qs → Alike old (with_ways s qs) (with_ways t qs)
with_ways_alike old s t a [] o = a
with_ways_alike old s t a (q ∷ qs) o = with_ways_alike old (declare s q.name (value (way_access q.way) q.ty)) (declare t q.name (value (way_access q.way) q.ty)) (declare_alike old s t a q.name (value (way_access q.way) q.ty) o.0) qs o.2

-- ---- parsers

-- the second has the name of a state in sight where the first has it, or none of them is looked up
pub with_state_alike : (old : Names) (s t : Scope) → Alike old s t → (n : List ℕ) → Alike old (with_state s n) (with_state t n)
with_state_alike old s t a n = by (old n) refl
  where
    both_same : (b c : Bool) → b ≡ c → Alike old (cond b (declare s n parser_state) s) (cond c (declare t n parser_state) t)
    both_same true true e = declare_alike old s t a n parser_state tt
    both_same false false e = a
    both_same true false e = absurd (cc)
    both_same false true e = absurd (cc)

    not_seen : old n ≡ false → (b c : Bool) → Alike old (cond b (declare s n parser_state) s) (cond c (declare t n parser_state) t)
    not_seen e true true = declare_alike old s t a n parser_state tt
    not_seen e false false = a
    not_seen e true false = alike_back old t (declare s n parser_state) (skip_alike old t s (alike_back old s t a) n parser_state e)
    not_seen e false true = skip_alike old s t a n parser_state e

    by : (b : Bool) → old n ≡ b → Alike old (with_state s n) (with_state t n)
    by true e = both_same (is_missing (s (n ∷ []))) (is_missing (t (n ∷ []))) (ap is_missing (a.same (n ∷ []) (e, tt)))
    by false e = not_seen e (is_missing (s (n ∷ []))) (is_missing (t (n ∷ [])))

pub with_ends_alike : (old : Names) (s t : Scope) → Alike old s t → Alike old (with_ends s) (with_ends t)
with_ends_alike old s t a = with_state_alike old (with_state s (codes "accept")) (with_state t (codes "accept")) (with_state_alike old s t a (codes "accept")) (codes "reject")

pub before_states_alike : (old : Names) (s t : Scope) → Alike old s t → (d : Parser) → OldWays old d.params → Alike old (before_states s d) (before_states t d)
before_states_alike old s t a d o = with_ends_alike old (with_ways s d.params) (with_ways t d.params) (with_ways_alike old s t a d.params o)

pub with_states_alike : (old : Names) (s t : Scope) → Alike old s t → (sts : List ParserState) → OldStates old sts → Alike old (with_states s sts) (with_states t sts)
with_states_alike old s t a [] o = a
with_states_alike old s t a (st ∷ sts) o = with_states_alike old (with_state s st.name) (with_state t st.name) (with_state_alike old s t a st.name) sts o.3

pub states_names_alike : (old : Names) (s t : Scope) → Alike old s t → (sts : List ParserState) → OldStates old sts → states_names s sts ≡ states_names t sts
states_names_alike old s t a [] o = refl
states_names_alike old s t a (st ∷ sts) o =
    let e = new_alike old s t a st.at st.name o.0 in
    let f = states_names_alike old (with_state s st.name) (with_state t st.name) (with_state_alike old s t a st.name) sts o.3 in
    cc

pub parser_alike : (old : Names) (s t : Scope) → Alike old s t → (d : Parser) → OldParser old d → parser_tests s d ≡ parser_tests t d
parser_alike old s t a d o =
    let b = before_states_alike old s t a d o.params in
    let c = with_states_alike old (before_states s d) (before_states t d) b d.states o.states in
    let e = new_alike old s t a d.at d.name o.name in
    let f = ways_alike old s t a d.params o.params in
    let g = states_names_alike old (before_states s d) (before_states t d) b d.states o.states in
    let h = ap (onto_tests d.at (is_state_name (state_names d.states) (codes "start"))) (c.same (codes "start" ∷ []) (o.start, tt)) in
    let i = states_alike old (in_states s d) (in_states t d) c d.states d.states o.states in
    cc

-- ---- controls

pub in_control_alike : (old : Names) (s t : Scope) → Alike old s t → (c : Control) → OldControl old c → Alike old (in_control s c) (in_control t c)
in_control_alike old s t a c o = after_locals_alike old (with_ways s c.params) (with_ways t c.params) (with_ways_alike old s t a c.params o.params) c.locals o.locals

pub control_alike : (old : Names) (s t : Scope) → Alike old s t → (h : Part) (c : Control) → OldControl old c → control_tests h s c ≡ control_tests h t c
control_alike old s t a h c o =
    let b = with_ways_alike old s t a c.params o.params in
    let d = in_control_alike old s t a c o in
    let e = new_alike old s t a c.at c.name o.name in
    let f = ways_alike old s t a c.params o.params in
    let g = locals_alike old _ _ b h c.locals o.locals in
    let i = block_alike old _ _ d h c.apply o.apply in
    let j = once_alike old _ _ d h c.apply o.apply in
    cc

-- ---- declarations at top level

pub top_alike : (old : Names) (s t : Scope) → Alike old s t → (main : List (List ℕ)) (y : Top) → OldTop old y → top_tests main s y ≡ top_tests main t y
top_alike old s t a main (constant p y x e) o = const_alike old s t a p y x e o.0 o.1 o.2
top_alike old s t a main (typedef p y x) o = typedef_alike old s t a p y x o.0 o.1
top_alike old s t a main (header_type p x fs) o =
    let e = new_alike old s t a p x o.0 in
    let f = fields_alike old s t a p is_no_number fs o.1 in
    let g = bits_over_alike old s t a fs o.1 in
    cc
top_alike old s t a main (struct_type p x fs) o = let e = new_alike old s t a p x o.0 in let f = fields_alike old s t a p is_no_field fs o.1 in cc
top_alike old s t a main (register p r) o = register_alike old s t a r o.0 o.1
top_alike old s t a main (parser p d) o = parser_alike old s t a d o
top_alike old s t a main (control p c) o = control_alike old s t a (part_in main c.name) c o

pub after_top_alike : (old : Names) (s t : Scope) → Alike old s t → (y : Top) → OldTop old y → Alike old (after_top s y) (after_top t y)
after_top_alike old s t a (constant p y x e) o = declare_alike old s t a x (value Constant y) o.0
after_top_alike old s t a (typedef p y x) o = declare_alike old s t a x (alias y) o.0
after_top_alike old s t a (header_type p x fs) o =
    let P : ℕ → Type 0 = λ m. Alike old (declare s x (fields (Header (fields_bits s fs)) fs)) (declare t x (fields (Header m) fs)) in
    subst P (fields_bits_alike old s t a fs o.1) (declare_alike old s t a x (fields (Header (fields_bits s fs)) fs) o.1)
after_top_alike old s t a (struct_type p x fs) o = declare_alike old s t a x (fields Struct fs) o.1
after_top_alike old s t a (register p r) o = declare_alike old s t a r.name (scope.register r.ty) o.1
after_top_alike old s t a (parser p d) o = declare_alike old s t a d.name part tt
after_top_alike old s t a (control p c) o = declare_alike old s t a c.name part tt

pub tops_alike : (old : Names) (s t : Scope) → Alike old s t → (main : List (List ℕ)) (ys : List Top) → OldTops old ys → tops_tests main s ys ≡ tops_tests main t ys
tops_alike old s t a main [] o = refl
tops_alike old s t a main (y ∷ ys) o =
    let e = top_alike old s t a main y o.0 in
    let f = tops_alike old (after_top s y) (after_top t y) (after_top_alike old s t a y o.0) main ys o.1 in
    cc

pub after_tops_alike : (old : Names) (s t : Scope) → Alike old s t → (ys : List Top) → OldTops old ys → Alike old (after_tops s ys) (after_tops t ys)
after_tops_alike old s t a [] o = a
after_tops_alike old s t a (y ∷ ys) o = after_tops_alike old (after_top s y) (after_top t y) (after_top_alike old s t a y o.0) ys o.1
