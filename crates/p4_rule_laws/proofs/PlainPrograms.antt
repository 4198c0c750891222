-- Places don't count in what is tested of declarations and programs.
use Rattle.std.proofs.Common.{◌≡◌, ℕ, zero, suc, List, [], ◌∷◌, Bool, true, false, cond, not, ◌||◌, map, refl, sym, ap, ◌∙◌, subst, codes, Option, Some, None, is_some}
use Rattle.std.specs.Option.{option_map}
use Rattle.lex_text.specs.Names.{same_text}
use Rattle.rule_tests.specs.Tests.{test, both, IsFine}
use Rattle.rule_tests.proofs.FirstBroken.{fine_unbroken, unbroken_fine}
use Rattle.p4_tree.specs.Places.{plain, plain_arg, plain_stmt, plain_stmts, plain_param, plain_register, plain_keyset, plain_case, plain_transition, plain_state, plain_parser, plain_action, plain_key, plain_default, plain_table, plain_local, plain_control, plain_top, plain_program, IsSameProgram}
use Rattle.p4_tree.specs.Tree.{Expr, num, flag, path, valid, applied, error_name, negation, inversion, opposite, binary, conditional, slice, cast, Arg, one, many, Stmt, Stmts, nothing, block, var, assign, choice, return_, exit_, call, done, next, stmts_from, Keyset, any, only, masked, Case, Transition, nowhere, to, select, ParserState, Local, local_action, local_table, local_register, local_const, local_var, Control, Parser, Top, constant, typedef, header_type, struct_type, register, parser, control, Program}
use Rattle.p4_tree.specs.Tree as tree
use Rattle.p4_tree.specs.declared.statement.PTy.{PTy}
use Rattle.p4_tree.specs.declared.program.Param.{Param}
use Rattle.p4_tree.specs.declared.program.Register.{Register}
use Rattle.p4_meaning.specs.Scope.{param_at, param_type}
use Rattle.p4_meaning.specs.Parts.{parser_named, control_named, struct_fields, parser_type, parser_in}
use Rattle.p4_parser_states.specs.Cycles.{case_targets, targets, leads, state_names, reaches_by, is_on_cycle}
use Rattle.p4_scopes.specs.Kinds.{as_number, as_value}
use Rattle.p4_scopes.specs.Scopes.{Stands, missing, typed, held, cells, act, rows, state, function, algorithm, other, is_missing, Scope, core, value, action, table, declare, kind_in, own}
use Rattle.p4_scopes.specs.Uses.{is_scalar, is_header}
use Rattle.p4_scopes.specs.declared.kind.Kind.{Kind}
use Rattle.p4_scopes.specs.declared.thing.Thing.{Thing}
use Rattle.p4_scopes.specs.declared.thing.Access.TheVariants.{Fixed}
use Rattle.p4_statement_rules.specs.Forms.{Form, unknown, ill, drops, digests, sums, extracts, emits, applies, reads_cell, writes_cell, makes_valid, acts, form_of, path_in}
use Rattle.p4_statement_rules.specs.Calls.{as_many}
use Rattle.p4_statement_rules.specs.Statements.{block_tests}
use Rattle.p4_statement_rules.specs.declared.rule.ProgramRule.TheVariants.{KindDiffers}
use Rattle.p4_statement_rules.specs.declared.rule.Part.{Part}
use Rattle.p4_statement_rules.specs.declared.rule.Part.TheVariants as place
use Rattle.p4_declaration_rules.specs.Digests.{most_of, most_of_default, most_of_table}
use Rattle.p4_declaration_rules.specs.Declarations.{const_tests, typedef_tests, register_tests, params_tests, with_params, action_tests, is_no_number, is_no_field, fields_tests, header_tests, struct_tests}
use Rattle.p4_declaration_rules.specs.Tables.{keys_tests, all_key_kinds, has_key_kind, has_two_prefixes, ill_matched, listed_tests, known_args, default_args, default_tests, table_tests}
use Rattle.p4_declaration_rules.specs.Parsers.{is_state_name, with_state, before_states, in_states, way_access, with_ways, ways_tests, simple_tests, key_tests, keyset_tests, each_keyset, keysets_tests, cases_tests, transition_tests, with_states, states_names, state_tests, states_tests, parser_tests}
use Rattle.p4_declaration_rules.specs.Controls.{action_part, declared_tests, local_tests, after_local, locals_tests, after_locals, some_path, arg_path, form_emits, stmt_emits, emit_at, emit_tests, emitted_behind, emits_tests, once_tests, in_control, control_tests, part_in, top_tests, after_top, tops_tests, most_of_part, most_of_top, most_of_tops}
use Rattle.p4_declaration_rules.specs.Firsts.{top_name, first_top, first_tops}
use Rattle.p4_rules.specs.Mains.{leaves_out, leaves_some_out, has_controls, names_parts, Wanted, core_type, headers, metadata, is_wanted, parser_wants, checksum_wants, apply_wants, deparser_wants, is_struct_of, Structs, structs_of, wanted_tests, parser_params, control_params, parts_params, main_tests}
use Rattle.p4_rules.specs.Limits.{fields_bytes, header_bytes, local_cells, locals_cells, top_cells, tops_cells, limit_tests}
use Rattle.p4_rules.specs.ProgramRules.{program_scope, program_tests, IsWellTyped}
use Rattle.p4_rule_laws.proofs.PlainExprs.{at_none, unplaced, fine_unplaced, fine_placed, Same, own_plain, expr_plain, free_plain, all_free_plain, constant_plain, type_plain, scalar_plain, path_in_plain, many_plain, var_plain, block_plain, most_plain}

-- ---- declarations of single values

const_plain : (p : ℕ) (s : Scope) (t : PTy) (x : List ℕ) (e : Expr) → Same (const_tests p s t x e) (const_tests 0 s t x (plain e))
const_plain p s t x e = let f = scalar_plain p s t in let g = constant_plain s (kind_in s t) e in cc

typedef_plain : (p : ℕ) (s : Scope) (t : PTy) (x : List ℕ) → Same (typedef_tests p s t x) (typedef_tests 0 s t x)
typedef_plain p s t x = let f = scalar_plain p s t in cc

register_plain : (s : Scope) (r : Register) → Same (register_tests s r) (register_tests s (plain_register r))
register_plain s r = let f = scalar_plain r.at s r.ty in cc

params_plain : (p : ℕ) (s : Scope) (qs : List (PTy × List ℕ)) → Same (params_tests p s qs) (params_tests 0 s qs)
params_plain p s [] = refl
params_plain p s (q ∷ qs) = let f = scalar_plain p s q.0 in let g = params_plain p (declare s q.1 (value Fixed q.0)) qs in cc

action_plain : (h : Part) (s : Scope) (a : tree.Action) → Same (action_tests h s a) (action_tests h s (plain_action a))
action_plain h s a = let f = params_plain a.at s a.params in let g = block_plain h (with_params s a.params) a.body in cc

fields_plain : (p : ℕ) (misfit : Thing → Bool) (s : Scope) (fs : List (PTy × List ℕ)) → Same (fields_tests p misfit s fs) (fields_tests 0 misfit s fs)
fields_plain p misfit s [] = refl
fields_plain p misfit s (f ∷ fs) = let e = type_plain p s f.0 in let g = fields_plain p misfit s fs in cc

header_plain : (p : ℕ) (s : Scope) (x : List ℕ) (fs : List (PTy × List ℕ)) → Same (header_tests p s x fs) (header_tests 0 s x fs)
header_plain p s x fs = let e = fields_plain p is_no_number s fs in cc

struct_plain : (p : ℕ) (s : Scope) (x : List ℕ) (fs : List (PTy × List ℕ)) → Same (struct_tests p s x fs) (struct_tests 0 s x fs)
struct_plain p s x fs = let e = fields_plain p is_no_field s fs in cc

-- ---- tables

keys_plain : (s : Scope) (ks : List (Expr × List ℕ)) → Same (keys_tests s ks) (keys_tests s (map plain_key ks))
keys_plain s [] = refl
keys_plain s (k ∷ ks) = let f = free_plain s k.0 in let g = keys_plain s ks in cc

kinds_plain : (ks : List (Expr × List ℕ)) → all_key_kinds ks ≡ all_key_kinds (map plain_key ks)
kinds_plain [] = refl
kinds_plain (k ∷ ks) = let f = kinds_plain ks in cc

kind_plain : (x : List ℕ) (ks : List (Expr × List ℕ)) → has_key_kind ks x ≡ has_key_kind (map plain_key ks) x
kind_plain x [] = refl
kind_plain x (k ∷ ks) = let f = kind_plain x ks in cc

prefixes_plain : (ks : List (Expr × List ℕ)) → has_two_prefixes ks ≡ has_two_prefixes (map plain_key ks)
prefixes_plain [] = refl
prefixes_plain (k ∷ ks) = let f = kind_plain (codes "lpm") ks in let g = prefixes_plain ks in cc

matched_plain : (ks : List (Expr × List ℕ)) → ill_matched ks ≡ ill_matched (map plain_key ks)
matched_plain ks = let e = kinds_plain ks in let f = prefixes_plain ks in let g = kind_plain (codes "lpm") ks in let h = kind_plain (codes "ternary") ks in cc

listed_plain : (p : ℕ) (s : Scope) (xs : List (List ℕ)) → Same (listed_tests p s xs) (listed_tests 0 s xs)
listed_plain p s [] = refl
listed_plain p s (x ∷ xs) = let f = listed_plain p s xs in cc

known_args_plain : (s : Scope) (ks : List Kind) (es : List Expr) → Same (known_args s ks es) (known_args s ks (map plain es))
known_args_plain s [] es = refl
known_args_plain s (k ∷ ks) [] = refl
known_args_plain s (k ∷ ks) (e ∷ es) = let f = constant_plain s k e in let g = known_args_plain s ks es in cc

default_args_plain : (p : ℕ) (s : Scope) (st : Stands) (es : List Expr) → Same (default_args p s st es) (default_args 0 s st (map plain es))
default_args_plain p s (act ks m) es = let f = many_plain plain ks es in let g = known_args_plain s ks es in cc
default_args_plain p s missing es = refl
default_args_plain p s (typed f h) es = refl
default_args_plain p s (held c h) es = refl
default_args_plain p s (cells k) es = refl
default_args_plain p s (rows m) es = refl
default_args_plain p s state es = refl
default_args_plain p s (function f) es = refl
default_args_plain p s algorithm es = refl
default_args_plain p s other es = refl

default_plain : (p : ℕ) (s : Scope) (xs : List (List ℕ)) (d : Option (List ℕ × List Expr)) → Same (default_tests p s xs d) (default_tests 0 s xs (option_map plain_default d))
default_plain p s xs None = refl
default_plain p s xs (Some d) = let e = default_args_plain p s (s (d.0 ∷ [])) d.1 in cc

table_plain : (s : Scope) (t : tree.Table) → Same (table_tests s t) (table_tests s (plain_table t))
table_plain s t =
    let e = matched_plain t.keys in
    let f = keys_plain s t.keys in
    let g = listed_plain t.at s t.actions in
    let h = default_plain t.at s t.actions t.default in
    cc

most_default_plain : (s : Scope) (d : Option (List ℕ × List Expr)) → most_of_default s d ≡ most_of_default s (option_map plain_default d)
most_default_plain s None = refl
most_default_plain s (Some d) = refl

most_table_plain : (s : Scope) (xs : List (List ℕ)) (d : Option (List ℕ × List Expr)) → most_of_table s xs d ≡ most_of_table s xs (option_map plain_default d)
most_table_plain s xs d = let e = most_default_plain s d in cc

-- ---- parsers

ways_plain : (s : Scope) (qs : List Param) → Same (ways_tests s qs) (ways_tests s (map plain_param qs))
ways_plain s [] = refl
ways_plain s (q ∷ qs) = let e = type_plain q.at s q.ty in let f = ways_plain (declare s q.name (value (way_access q.way) q.ty)) qs in cc

with_ways_plain : (s : Scope) (qs : List Param) → with_ways s qs ≡ with_ways s (map plain_param qs)
with_ways_plain s [] = refl
with_ways_plain s (q ∷ qs) = with_ways_plain (declare s q.name (value (way_access q.way) q.ty)) qs

simple_plain : (s : Scope) (e : Expr) → Same (simple_tests s e) (simple_tests s (plain e))
simple_plain s (num p n) = refl
simple_plain s (flag p b) = refl
simple_plain s (path p x) = refl
simple_plain s (valid p x) = refl
simple_plain s (applied p t h) = refl
simple_plain s (error_name p x) = refl
simple_plain s (negation p a) = refl
simple_plain s (inversion p a) = refl
simple_plain s (opposite p a) = refl
simple_plain s (binary p op a b) = refl
simple_plain s (conditional p c a b) = refl
simple_plain s (slice p a h l) = refl
simple_plain s (cast p t a) = refl

key_plain : (s : Scope) (k : Kind) (e : Expr) → Same (key_tests s k e) (key_tests s k (plain e))
key_plain s k e = let f = expr_plain s k e in let g = simple_plain s e in cc

keyset_plain : (s : Scope) (k : Kind) (q : Keyset) → Same (keyset_tests s k q) (keyset_tests s k (plain_keyset q))
keyset_plain s k (any p) = refl
keyset_plain s k (only p e) = key_plain s k e
keyset_plain s k (masked p e m) = let f = key_plain s (as_number k) e in let g = key_plain s (as_number k) m in cc

each_plain : (s : Scope) (es : List Expr) (ks : List Keyset) → Same (each_keyset s es ks) (each_keyset s (map plain es) (map plain_keyset ks))
each_plain s [] ks = refl
each_plain s (e ∷ es) [] = refl
each_plain s (e ∷ es) (k ∷ ks) =
    let f = own_plain s e in
    let g = keyset_plain s (as_value (own s e)) k in
    let h = each_plain s es ks in
    cc

both_many : {A B : Type 0} (f : A → A) (g : B → B) (xs : List A) (ys : List B) → as_many xs ys ≡ as_many (map f xs) (map g ys)
both_many f g [] [] = refl
both_many f g [] (y ∷ ys) = refl
both_many f g (x ∷ xs) [] = refl
both_many f g (x ∷ xs) (y ∷ ys) = both_many f g xs ys

some_keys : (p : ℕ) (s : Scope) (es : List Expr) (ks : List Keyset) → Same (both (test p KindDiffers (not (as_many es ks))) (each_keyset s es ks)) (both (test 0 KindDiffers (not (as_many (map plain es) (map plain_keyset ks)))) (each_keyset s (map plain es) (map plain_keyset ks)))
some_keys p s es ks = let f = both_many plain plain_keyset es ks in let g = each_plain s es ks in cc

keysets_plain : (p : ℕ) (s : Scope) (es : List Expr) (ks : List Keyset) → Same (keysets_tests p s es ks) (keysets_tests 0 s (map plain es) (map plain_keyset ks))
keysets_plain p s es (any q ∷ []) = refl
keysets_plain p s es [] = some_keys p s es []
keysets_plain p s es (only q e ∷ ks) = some_keys p s es (only q e ∷ ks)
keysets_plain p s es (masked q e m ∷ ks) = some_keys p s es (masked q e m ∷ ks)
keysets_plain p s es (any q ∷ k ∷ ks) = some_keys p s es (any q ∷ k ∷ ks)

cases_plain : (k : List ℕ → Bool) (p : ℕ) (s : Scope) (es : List Expr) (cs : List Case) → Same (cases_tests k p s es cs) (cases_tests k 0 s (map plain es) (map plain_case cs))
cases_plain k p s es [] = refl
cases_plain k p s es (c ∷ cs) = let f = keysets_plain p s es c.keys in let g = cases_plain k p s es cs in cc

transition_plain : (k : List ℕ → Bool) (s : Scope) (n : Transition) → Same (transition_tests k s n) (transition_tests k s (plain_transition n))
transition_plain k s (nowhere p) = refl
transition_plain k s (to p x) = refl
transition_plain k s (select p es cs) = let f = all_free_plain s es in let g = cases_plain k p s es cs in cc

cases_targets : (cs : List Case) → case_targets cs ≡ case_targets (map plain_case cs)
cases_targets [] = refl
cases_targets (c ∷ cs) = ap (λ xs. c.next ∷ xs) (cases_targets cs)

targets_plain : (n : Transition) → targets n ≡ targets (plain_transition n)
targets_plain (nowhere p) = refl
targets_plain (to p x) = refl
targets_plain (select p es cs) = cases_targets cs

leads_plain : (sts : List ParserState) (x y : List ℕ) → leads sts x y ≡ leads (map plain_state sts) x y
leads_plain [] x y = refl
leads_plain (st ∷ sts) x y = let e = targets_plain st.next in let f = leads_plain sts x y in cc

states_named : (sts : List ParserState) → state_names sts ≡ state_names (map plain_state sts)
states_named [] = refl
states_named (st ∷ sts) = ap (λ xs. st.name ∷ xs) (states_named sts)

reaches_plain : (sts : List ParserState) (zs : List (List ℕ)) (x y : List ℕ) → reaches_by sts zs x y ≡ reaches_by (map plain_state sts) zs x y
reaches_plain sts [] x y = leads_plain sts x y
reaches_plain sts (z ∷ zs) x y =
    let e = reaches_plain sts zs x y in
    let f = reaches_plain sts zs x z in
    let g = reaches_plain sts zs z y in
    cc

cycle_plain : (sts : List ParserState) (st : ParserState) → is_on_cycle sts st ≡ is_on_cycle (map plain_state sts) (plain_state st)
cycle_plain sts st = reaches_plain sts (state_names sts) st.name st.name ∙ ap (λ zs. reaches_by (map plain_state sts) zs st.name st.name) (states_named sts)

body_plain : (ss : List Stmt) → plain_stmts (stmts_from ss) ≡ stmts_from (map plain_stmt ss)
body_plain [] = refl
body_plain (c ∷ ss) = ap (next (plain_stmt c)) (body_plain ss)

state_plain : (all : List ParserState) (s : Scope) (st : ParserState) → Same (state_tests all s st) (state_tests (map plain_state all) s (plain_state st))
state_plain all s st =
    let e = cycle_plain all st in
    let f = block_plain place.State s (stmts_from st.body) ∙ ap (λ b. unplaced (block_tests place.State s b)) (body_plain st.body) in
    let g = transition_plain (is_state_name (state_names all)) s st.next ∙ ap (λ ns. unplaced (transition_tests (is_state_name ns) s (plain_transition st.next))) (states_named all) in
    cc

states_plain : (all : List ParserState) (s : Scope) (sts : List ParserState) → Same (states_tests all s sts) (states_tests (map plain_state all) s (map plain_state sts))
states_plain all s [] = refl
states_plain all s (st ∷ sts) = let e = state_plain all s st in let f = states_plain all s sts in cc

with_states_plain : (s : Scope) (sts : List ParserState) → with_states s sts ≡ with_states s (map plain_state sts)
with_states_plain s [] = refl
with_states_plain s (st ∷ sts) = with_states_plain (with_state s st.name) sts

names_plain : (s : Scope) (sts : List ParserState) → Same (states_names s sts) (states_names s (map plain_state sts))
names_plain s [] = refl
names_plain s (st ∷ sts) = let e = names_plain (with_state s st.name) sts in cc

parser_plain : (s : Scope) (d : Parser) → Same (parser_tests s d) (parser_tests s (plain_parser d))
parser_plain s d =
    let e = ways_plain s d.params in
    let u = with_ways_plain s d.params in
    let v = with_states_plain (before_states s d) d.states in
    let f = names_plain (before_states s d) d.states in
    let g = states_plain d.states (in_states s d) d.states in
    let h = states_named d.states in
    cc

-- ---- controls

declared_plain : (h : Part) (s : Scope) (l : Local) → Same (declared_tests h s l) (declared_tests h s (plain_local l))
declared_plain h s (local_action p a) = action_plain (action_part h) s a
declared_plain h s (local_table p t) = table_plain s t
declared_plain h s (local_register p r) = register_plain s r
declared_plain h s (local_const p t x e) = const_plain p s t x e
declared_plain h s (local_var p t x e) = var_plain p s t x e

local_plain : (h : Part) (s : Scope) (l : Local) → Same (local_tests h s l) (local_tests h s (plain_local l))
local_plain h s l = let e = declared_plain h s l in cc

after_local_plain : (s : Scope) (l : Local) → after_local s l ≡ after_local s (plain_local l)
after_local_plain s (local_action p a) = ap (λ m. declare s a.name (action a.params m)) (most_plain s a.body)
after_local_plain s (local_table p t) = ap (λ m. declare s t.name (table m)) (most_table_plain s t.actions t.default)
after_local_plain s (local_register p r) = refl
after_local_plain s (local_const p t x e) = refl
after_local_plain s (local_var p t x e) = refl

locals_plain : (h : Part) (s : Scope) (ls : List Local) → Same (locals_tests h s ls) (locals_tests h s (map plain_local ls))
locals_plain h s [] = refl
locals_plain h s (l ∷ ls) =
    let e = local_plain h s l in
    let f = locals_plain h (after_local s l) ls in
    let g = ap (λ u. unplaced (locals_tests h u (map plain_local ls))) (after_local_plain s l) in
    cc

after_locals_plain : (s : Scope) (ls : List Local) → after_locals s ls ≡ after_locals s (map plain_local ls)
after_locals_plain s [] = refl
after_locals_plain s (l ∷ ls) = after_locals_plain (after_local s l) ls ∙ ap (λ u. after_locals u (map plain_local ls)) (after_local_plain s l)

some_plain : (x : Option (ℕ × List (List ℕ))) → some_path x ≡ some_path (option_map at_none x)
some_plain None = refl
some_plain (Some x) = refl

arg_path_plain : (bs : List Arg) → arg_path bs ≡ arg_path (map plain_arg bs)
arg_path_plain [] = refl
arg_path_plain (one p e ∷ []) = some_plain (path_in e) ∙ ap some_path (sym (path_in_plain e))
arg_path_plain (many p es ∷ []) = refl
arg_path_plain (one p e ∷ b ∷ bs) = refl
arg_path_plain (many p es ∷ b ∷ bs) = refl

form_emits_plain : (f : Form) (bs : List Arg) → form_emits f bs ≡ form_emits f (map plain_arg bs)
form_emits_plain emits bs = arg_path_plain bs
form_emits_plain unknown bs = refl
form_emits_plain ill bs = refl
form_emits_plain drops bs = refl
form_emits_plain digests bs = refl
form_emits_plain (sums v) bs = refl
form_emits_plain extracts bs = refl
form_emits_plain applies bs = refl
form_emits_plain (reads_cell k) bs = refl
form_emits_plain (writes_cell k) bs = refl
form_emits_plain makes_valid bs = refl
form_emits_plain (acts ks) bs = refl

stmt_emits_plain : (s : Scope) (c : Stmt) → stmt_emits s c ≡ stmt_emits s (plain_stmt c)
stmt_emits_plain s (call p x bs) = form_emits_plain (form_of s x) bs
stmt_emits_plain s (nothing p) = refl
stmt_emits_plain s (block p b) = refl
stmt_emits_plain s (var p t x e) = refl
stmt_emits_plain s (assign p x e) = refl
stmt_emits_plain s (choice p e a b) = refl
stmt_emits_plain s (return_ p) = refl
stmt_emits_plain s (exit_ p) = refl

emit_plain : (before : List (List (List ℕ))) (p q : ℕ) (now : List (List (List ℕ))) → Same (emit_tests before p now) (emit_tests before q now)
emit_plain before p q [] = refl
emit_plain before p q (x ∷ xs) = refl

emits_plain : (s : Scope) (before : List (List (List ℕ))) (b : Stmts) → Same (emits_tests s before b) (emits_tests s before (plain_stmts b))
emits_plain s before done = refl
emits_plain s before (next c b) =
    let e = emit_plain before (emit_at c) (emit_at (plain_stmt c)) (stmt_emits s c) in
    let f = stmt_emits_plain s c in
    let g = emits_plain s (emitted_behind (stmt_emits s c) before) b in
    cc

once_plain : (h : Part) (s : Scope) (b : Stmts) → Same (once_tests h s b) (once_tests h s (plain_stmts b))
once_plain place.Deparser s b = emits_plain s [] b
once_plain place.State s b = refl
once_plain place.Verify s b = refl
once_plain place.Apply s b = refl
once_plain place.Action s b = refl
once_plain place.Compute s b = refl
once_plain place.Other s b = refl

in_control_plain : (s : Scope) (c : Control) → in_control s c ≡ in_control s (plain_control c)
in_control_plain s c = after_locals_plain (with_ways s c.params) c.locals ∙ ap (λ u. after_locals u (map plain_local c.locals)) (with_ways_plain s c.params)

control_plain : (h : Part) (s : Scope) (c : Control) → Same (control_tests h s c) (control_tests h s (plain_control c))
control_plain h s c =
    let e = ways_plain s c.params in
    let u = with_ways_plain s c.params in
    let f = locals_plain h (with_ways s c.params) c.locals in
    let v = in_control_plain s c in
    let g = block_plain h (in_control s c) c.apply in
    let i = once_plain h (in_control s c) c.apply in
    let j = ap (λ w. unplaced (locals_tests h w (map plain_local c.locals))) u in
    let k = ap (λ w. unplaced (block_tests h w (plain_stmts c.apply))) v in
    let l = ap (λ w. unplaced (once_tests h w (plain_stmts c.apply))) v in
    cc

-- ---- declarations at top level

top_plain : (main : List (List ℕ)) (s : Scope) (y : Top) → Same (top_tests main s y) (top_tests main s (plain_top y))
top_plain main s (constant p t x e) = const_plain p s t x e
top_plain main s (typedef p t x) = typedef_plain p s t x
top_plain main s (header_type p x fs) = header_plain p s x fs
top_plain main s (struct_type p x fs) = struct_plain p s x fs
top_plain main s (register p r) = register_plain s r
top_plain main s (parser p d) = parser_plain s d
top_plain main s (control p c) = control_plain (part_in main c.name) s c

after_top_plain : (s : Scope) (y : Top) → after_top s y ≡ after_top s (plain_top y)
after_top_plain s (constant p t x e) = refl
after_top_plain s (typedef p t x) = refl
after_top_plain s (header_type p x fs) = refl
after_top_plain s (struct_type p x fs) = refl
after_top_plain s (register p r) = refl
after_top_plain s (parser p d) = refl
after_top_plain s (control p c) = refl

tops_plain : (main : List (List ℕ)) (s : Scope) (ys : List Top) → Same (tops_tests main s ys) (tops_tests main s (map plain_top ys))
tops_plain main s [] = refl
tops_plain main s (y ∷ ys) =
    let e = top_plain main s y in
    let f = tops_plain main (after_top s y) ys in
    let g = ap (λ u. unplaced (tops_tests main u (map plain_top ys))) (after_top_plain s y) in
    cc

top_name_plain : (y : Top) → top_name y ≡ top_name (plain_top y)
top_name_plain (constant p t x e) = refl
top_name_plain (typedef p t x) = refl
top_name_plain (header_type p x fs) = refl
top_name_plain (struct_type p x fs) = refl
top_name_plain (register p r) = refl
top_name_plain (parser p d) = refl
top_name_plain (control p c) = refl

first_top_plain : (s : Scope) (y : Top) → first_top s y ≡ first_top s (plain_top y)
first_top_plain s y = ap (λ u. cond (is_missing (s (top_name y ∷ []))) u s) (after_top_plain s y) ∙ ap (λ n. cond (is_missing (s (n ∷ []))) (after_top s (plain_top y)) s) (top_name_plain y)

first_tops_plain : (s : Scope) (ys : List Top) → first_tops s ys ≡ first_tops s (map plain_top ys)
first_tops_plain s [] = refl
first_tops_plain s (y ∷ ys) = first_tops_plain (first_top s y) ys ∙ ap (λ u. first_tops u (map plain_top ys)) (first_top_plain s y)

-- ---- main

parser_step : (b : Bool) (d : Parser) (u v : Option Parser) → u ≡ option_map plain_parser v → cond b (Some (plain_parser d)) u ≡ option_map plain_parser (cond b (Some d) v)
parser_step true d u v e = refl
parser_step false d u v e = e

control_step : (b : Bool) (c : Control) (u v : Option Control) → u ≡ option_map plain_control v → cond b (Some (plain_control c)) u ≡ option_map plain_control (cond b (Some c) v)
control_step true c u v e = refl
control_step false c u v e = e

parser_named_plain : (ts : List Top) (x : List ℕ) → parser_named (map plain_top ts) x ≡ option_map plain_parser (parser_named ts x)
parser_named_plain [] x = refl
parser_named_plain (constant p t n e ∷ ts) x = parser_named_plain ts x
parser_named_plain (typedef p t n ∷ ts) x = parser_named_plain ts x
parser_named_plain (header_type p n fs ∷ ts) x = parser_named_plain ts x
parser_named_plain (struct_type p n fs ∷ ts) x = parser_named_plain ts x
parser_named_plain (register p r ∷ ts) x = parser_named_plain ts x
parser_named_plain (parser p d ∷ ts) x = parser_step (same_text d.name x) d (parser_named (map plain_top ts) x) (parser_named ts x) (parser_named_plain ts x)
parser_named_plain (control p c ∷ ts) x = parser_named_plain ts x

control_named_plain : (ts : List Top) (x : List ℕ) → control_named (map plain_top ts) x ≡ option_map plain_control (control_named ts x)
control_named_plain [] x = refl
control_named_plain (constant p t n e ∷ ts) x = control_named_plain ts x
control_named_plain (typedef p t n ∷ ts) x = control_named_plain ts x
control_named_plain (header_type p n fs ∷ ts) x = control_named_plain ts x
control_named_plain (struct_type p n fs ∷ ts) x = control_named_plain ts x
control_named_plain (register p r ∷ ts) x = control_named_plain ts x
control_named_plain (parser p d ∷ ts) x = control_named_plain ts x
control_named_plain (control p c ∷ ts) x = control_step (same_text c.name x) c (control_named (map plain_top ts) x) (control_named ts x) (control_named_plain ts x)

left_out_plain : (main : List (List ℕ)) (ts : List Top) → leaves_some_out main ts ≡ leaves_some_out main (map plain_top ts)
left_out_plain main [] = refl
left_out_plain main (constant p t n e ∷ ts) = ap (λ b. leaves_out main (constant p t n e) || b) (left_out_plain main ts)
left_out_plain main (typedef p t n ∷ ts) = ap (λ b. leaves_out main (typedef p t n) || b) (left_out_plain main ts)
left_out_plain main (header_type p n fs ∷ ts) = ap (λ b. leaves_out main (header_type p n fs) || b) (left_out_plain main ts)
left_out_plain main (struct_type p n fs ∷ ts) = ap (λ b. leaves_out main (struct_type p n fs) || b) (left_out_plain main ts)
left_out_plain main (register p r ∷ ts) = ap (λ b. leaves_out main (register p r) || b) (left_out_plain main ts)
left_out_plain main (parser p d ∷ ts) = ap (λ b. leaves_out main (parser p d) || b) (left_out_plain main ts)
left_out_plain main (control p c ∷ ts) = ap (λ b. leaves_out main (control p c) || b) (left_out_plain main ts)

struct_fields_plain : (ts : List Top) (x : List ℕ) → struct_fields ts x ≡ struct_fields (map plain_top ts) x
struct_fields_plain [] x = refl
struct_fields_plain (constant p t n e ∷ ts) x = struct_fields_plain ts x
struct_fields_plain (typedef p t n ∷ ts) x = struct_fields_plain ts x
struct_fields_plain (header_type p n fs ∷ ts) x = struct_fields_plain ts x
struct_fields_plain (struct_type p n fs ∷ ts) x = ap (cond (same_text n x) fs) (struct_fields_plain ts x)
struct_fields_plain (register p r ∷ ts) x = struct_fields_plain ts x
struct_fields_plain (parser p d ∷ ts) x = struct_fields_plain ts x
struct_fields_plain (control p c ∷ ts) x = struct_fields_plain ts x

some_of : {A B : Type 0} (f : A → B) (o : Option A) → is_some (option_map f o) ≡ is_some o
some_of f None = refl
some_of f (Some a) = refl

parser_is : (ts : List Top) (x : List ℕ) → is_some (parser_named ts x) ≡ is_some (parser_named (map plain_top ts) x)
parser_is ts x = sym (ap is_some (parser_named_plain ts x) ∙ some_of plain_parser (parser_named ts x))

control_is : (ts : List Top) (x : List ℕ) → is_some (control_named ts x) ≡ is_some (control_named (map plain_top ts) x)
control_is ts x = sym (ap is_some (control_named_plain ts x) ∙ some_of plain_control (control_named ts x))

controls_are : (ts : List Top) (xs : List (List ℕ)) → has_controls ts xs ≡ has_controls (map plain_top ts) xs
controls_are ts [] = refl
controls_are ts (x ∷ xs) = let f = control_is ts x in let g = controls_are ts xs in cc

parts_named : (ts : List Top) (main : List (List ℕ)) → names_parts ts main ≡ names_parts (map plain_top ts) main
parts_named ts [] = refl
parts_named ts (d ∷ []) = refl
parts_named ts (d ∷ v ∷ []) = refl
parts_named ts (d ∷ v ∷ i ∷ []) = refl
parts_named ts (d ∷ v ∷ i ∷ e ∷ []) = refl
parts_named ts (d ∷ v ∷ i ∷ e ∷ k ∷ []) = refl
parts_named ts (d ∷ v ∷ i ∷ e ∷ k ∷ m ∷ []) = let f = parser_is ts d in let g = controls_are ts (v ∷ i ∷ e ∷ k ∷ m ∷ []) in cc
parts_named ts (d ∷ v ∷ i ∷ e ∷ k ∷ m ∷ n ∷ r) = refl

type_at : (qs : List Param) (n : ℕ) → param_type (param_at qs n) ≡ param_type (param_at (map plain_param qs) n)
type_at [] n = refl
type_at (q ∷ qs) zero = refl
type_at (q ∷ qs) (suc n) = type_at qs n

parser_type_plain : (o : Option Parser) (n : ℕ) → parser_type o n ≡ parser_type (option_map plain_parser o) n
parser_type_plain None n = refl
parser_type_plain (Some d) n = type_at d.params n

type_of_parser : (p : Program) (n : ℕ) → parser_type (parser_in p) n ≡ parser_type (parser_in (plain_program p)) n
type_of_parser p n = parser_type_plain (parser_in p) n ∙ ap (λ o. parser_type o n) (sym (parser_named_plain p.tops _))

in_role_plain : (fits : Thing → Bool) (s : Scope) (ts : List Top) (x : List ℕ) → is_struct_of fits s ts x ≡ is_struct_of fits s (map plain_top ts) x
in_role_plain fits s ts x = let e = struct_fields_plain ts x in cc

abbrev structs : List ℕ → List ℕ → Bool → Bool → Structs
structs h m a b = record { headers_type = h; metadata_type = m; has_headers = a; has_metadata = b }

made : (h h' m m' : List ℕ) (a a' b b' : Bool) → h ≡ h' → m ≡ m' → a ≡ a' → b ≡ b' → structs h m a b ≡ structs h' m' a' b'
made h h' m m' a a' b b' e f g i = cc

structs_plain : (s : Scope) (p : Program) → structs_of s p ≡ structs_of s (plain_program p)
structs_plain s p =
    let h = type_of_parser p 1 in
    let m = type_of_parser p 2 in
    let a = in_role_plain is_header s p.tops (parser_type (parser_in p) 1) ∙ ap (is_struct_of is_header s (map plain_top p.tops)) h in
    let b = in_role_plain is_scalar s p.tops (parser_type (parser_in p) 2) ∙ ap (is_struct_of is_scalar s (map plain_top p.tops)) m in
    made (parser_type (parser_in p) 1) (parser_type (parser_in (plain_program p)) 1) (parser_type (parser_in p) 2) (parser_type (parser_in (plain_program p)) 2) _ _ _ _ h m a b

wanted_plain : (p : ℕ) (r : Structs) (ws : List Wanted) (qs : List Param) → Same (wanted_tests p r ws qs) (wanted_tests 0 r ws (map plain_param qs))
wanted_plain p r [] [] = refl
wanted_plain p r [] (q ∷ qs) = let e = wanted_plain p r [] qs in cc
wanted_plain p r (w ∷ ws) [] = refl
wanted_plain p r (w ∷ ws) (q ∷ qs) =
    let e = wanted_plain p r ws qs in
    let f = is_wanted_plain r w q in
    cc
  where
    is_wanted_plain : (r : Structs) (w : Wanted) (q : Param) → is_wanted r w q ≡ is_wanted r w (plain_param q)
    is_wanted_plain r (core_type w x) q = refl
    is_wanted_plain r (headers w) q = refl
    is_wanted_plain r (metadata w) q = refl

parser_params_plain : (p : ℕ) (r : Structs) (o : Option Parser) → Same (parser_params p r o) (parser_params 0 r (option_map plain_parser o))
parser_params_plain p r None = refl
parser_params_plain p r (Some d) = wanted_plain p r parser_wants d.params

control_params_plain : (p : ℕ) (r : Structs) (ws : List Wanted) (o : Option Control) → Same (control_params p r ws o) (control_params 0 r ws (option_map plain_control o))
control_params_plain p r ws None = refl
control_params_plain p r ws (Some c) = wanted_plain p r ws c.params

parser_at : (p : ℕ) (r : Structs) (ts : List Top) (x : List ℕ) → Same (parser_params p r (parser_named ts x)) (parser_params 0 r (parser_named (map plain_top ts) x))
parser_at p r ts x = parser_params_plain p r (parser_named ts x) ∙ ap (λ o. unplaced (parser_params 0 r o)) (sym (parser_named_plain ts x))

control_at : (p : ℕ) (r : Structs) (ws : List Wanted) (ts : List Top) (x : List ℕ) → Same (control_params p r ws (control_named ts x)) (control_params 0 r ws (control_named (map plain_top ts) x))
control_at p r ws ts x = control_params_plain p r ws (control_named ts x) ∙ ap (λ o. unplaced (control_params 0 r ws o)) (sym (control_named_plain ts x))

parts_plain : (p : ℕ) (r : Structs) (ts : List Top) (main : List (List ℕ)) → Same (parts_params p r ts main) (parts_params 0 r (map plain_top ts) main)
parts_plain p r ts [] = refl
parts_plain p r ts (d ∷ []) = refl
parts_plain p r ts (d ∷ v ∷ []) = refl
parts_plain p r ts (d ∷ v ∷ i ∷ []) = refl
parts_plain p r ts (d ∷ v ∷ i ∷ e ∷ []) = refl
parts_plain p r ts (d ∷ v ∷ i ∷ e ∷ k ∷ []) = refl
parts_plain p r ts (d ∷ v ∷ i ∷ e ∷ k ∷ m ∷ []) =
    let f = parser_at p r ts d in
    let g = control_at p r checksum_wants ts v in
    let h = control_at p r apply_wants ts i in
    let j = control_at p r apply_wants ts e in
    let l = control_at p r checksum_wants ts k in
    let n = control_at p r deparser_wants ts m in
    cc
parts_plain p r ts (d ∷ v ∷ i ∷ e ∷ k ∷ m ∷ n ∷ o) = refl

main_plain : (s : Scope) (p : Program) → Same (main_tests s p) (main_tests s (plain_program p))
main_plain s p =
    let e = parts_named p.tops p.main in
    let f = left_out_plain p.main p.tops in
    let g = parts_plain p.at (structs_of s p) p.tops p.main in
    let h = ap (λ r. unplaced (parts_params 0 r (map plain_top p.tops) p.main)) (structs_plain s p) in
    cc

-- ---- limits

header_bytes_plain : (s : Scope) (p : Program) → header_bytes s p ≡ header_bytes s (plain_program p)
header_bytes_plain s p =
    let e = ap (λ (r : Structs). r.headers_type) (structs_plain s p) in
    ap (fields_bytes s) (struct_fields_plain p.tops (structs_of s p).headers_type ∙ ap (struct_fields (map plain_top p.tops)) e)

most_part_plain : (h : Part) (s : Scope) (c : Control) → most_of_part h s c ≡ most_of_part h s (plain_control c)
most_part_plain place.Apply s c = most_plain (in_control s c) c.apply ∙ ap (λ u. most_of u (plain_stmts c.apply)) (in_control_plain s c)
most_part_plain place.State s c = refl
most_part_plain place.Verify s c = refl
most_part_plain place.Action s c = refl
most_part_plain place.Compute s c = refl
most_part_plain place.Deparser s c = refl
most_part_plain place.Other s c = refl

most_top_plain : (main : List (List ℕ)) (s : Scope) (y : Top) → most_of_top main s y ≡ most_of_top main s (plain_top y)
most_top_plain main s (constant p t n e) = refl
most_top_plain main s (typedef p t n) = refl
most_top_plain main s (header_type p n fs) = refl
most_top_plain main s (struct_type p n fs) = refl
most_top_plain main s (register p r) = refl
most_top_plain main s (parser p d) = refl
most_top_plain main s (control p c) = most_part_plain (part_in main c.name) s c

most_tops_plain : (main : List (List ℕ)) (s : Scope) (ts : List Top) → most_of_tops main s ts ≡ most_of_tops main s (map plain_top ts)
most_tops_plain main s [] = refl
most_tops_plain main s (y ∷ ts) =
    let e = most_top_plain main s y in
    let f = most_tops_plain main (after_top s y) ts in
    let u = ap (λ v. most_of_tops main v (map plain_top ts)) (after_top_plain s y) in
    cc

local_cells_plain : (l : Local) → local_cells l ≡ local_cells (plain_local l)
local_cells_plain (local_action p a) = refl
local_cells_plain (local_table p t) = refl
local_cells_plain (local_register p r) = refl
local_cells_plain (local_const p t x e) = refl
local_cells_plain (local_var p t x e) = refl

locals_cells_plain : (ls : List Local) → locals_cells ls ≡ locals_cells (map plain_local ls)
locals_cells_plain [] = refl
locals_cells_plain (l ∷ ls) = let e = local_cells_plain l in let f = locals_cells_plain ls in cc

top_cells_plain : (y : Top) → top_cells y ≡ top_cells (plain_top y)
top_cells_plain (constant p t n e) = refl
top_cells_plain (typedef p t n) = refl
top_cells_plain (header_type p n fs) = refl
top_cells_plain (struct_type p n fs) = refl
top_cells_plain (register p r) = refl
top_cells_plain (parser p d) = refl
top_cells_plain (control p c) = locals_cells_plain c.locals

cells_plain : (ts : List Top) → tops_cells ts ≡ tops_cells (map plain_top ts)
cells_plain [] = refl
cells_plain (y ∷ ts) = let e = top_cells_plain y in let f = cells_plain ts in cc

limit_plain : (s : Scope) (p : Program) → Same (limit_tests s p) (limit_tests s (plain_program p))
limit_plain s p =
    let e = header_bytes_plain s p in
    let f = most_tops_plain p.main core p.tops in
    let g = cells_plain p.tops in
    cc

-- ---- programs

program_plain : (p : Program) → Same (program_tests p) (program_tests (plain_program p))
program_plain p =
    let e = main_plain (program_scope p) p in
    let f = limit_plain (program_scope p) p in
    let g = tops_plain p.main core p.tops in
    let u = first_tops_plain core p.tops in
    let h = ap (λ s. unplaced (main_tests s (plain_program p))) u in
    let i = ap (λ s. unplaced (limit_tests s (plain_program p))) u in
    cc

-- a program is well typed where one that is the same but for places is
pub well_typed_anywhere : (p q : Program) → IsSameProgram p q → IsWellTyped p → IsWellTyped q
well_typed_anywhere p q e w =
    let f = fine_unplaced (program_tests p) (unbroken_fine (program_tests p) w) in
    let same : Same (program_tests p) (program_tests q) = program_plain p ∙ (ap (λ x. unplaced (program_tests x)) e ∙ sym (program_plain q)) in
    fine_unbroken (program_tests q) (fine_placed (program_tests q) (subst IsFine same f))

pub block_anywhere : (h : Part) (s : Scope) (b c : Stmts) → plain_stmts b ≡ plain_stmts c → IsFine (block_tests h s b) → IsFine (block_tests h s c)
block_anywhere h s b c e f =
    let same : Same (block_tests h s b) (block_tests h s c) = block_plain h s b ∙ (ap (λ x. unplaced (block_tests h s x)) e ∙ sym (block_plain h s c)) in
    fine_placed (block_tests h s c) (subst IsFine same (fine_unplaced (block_tests h s b) f))
