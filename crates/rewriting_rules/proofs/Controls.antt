-- Declarations of controls, and controls, with other values: they break no rule where the given ones break none, and
-- what is in sight behind them is the same.
use Rattle.std.proofs.Common.{◌≡◌, codes, ℕ, List, [], ◌∷◌, Bool, true, false, not, ◌&&◌, ◌||◌, Option, refl, sym, ap, ap₂, ◌∙◌, subst}
use Rattle.std.specs.List.{AllZip}
use Rattle.lex_text.specs.Names.{same_text}
use Rattle.rule_tests.specs.Tests.{IsFine}
use Rattle.p4_tree.specs.Tree.{Expr, Arg, Stmt, Stmts, nothing, block, var, assign, choice, return_, exit_, call, Action, Table, Local, local_action, local_table, Control}
use Rattle.p4_tree.specs.declared.statement.PTy.{PTy}
use Rattle.p4_scopes.specs.Scopes.{Scope, action, declare}
use Rattle.p4_statement_rules.specs.Forms.{Form, unknown, ill, drops, digests, sums, extracts, emits, applies, reads_cell, writes_cell, makes_valid, acts, form_of}
use Rattle.p4_statement_rules.specs.Statements.{var_tests, after, stmt_tests, block_tests}
use Rattle.p4_statement_rules.specs.declared.rule.Part.{Part}
use Rattle.p4_statement_rules.specs.declared.rule.Part.TheVariants as place
use Rattle.p4_declaration_rules.specs.Declarations.{with_params, action_tests}
use Rattle.p4_declaration_rules.specs.Digests.{most_of}
use Rattle.p4_declaration_rules.specs.Tables.{keys_tests, is_key_kind, all_key_kinds, has_key_kind, has_two_prefixes, ill_matched, table_tests}
use Rattle.p4_declaration_rules.specs.Parsers.{with_ways}
use Rattle.p4_declaration_rules.specs.Controls.{action_part, local_tests, after_local, locals_tests, after_locals, form_emits, stmt_emits, emit_at, emitted_behind, emits_tests, once_tests, control_tests, in_control, most_of_body, most_of_part}
use Rattle.p4_rule_laws.specs.Replaced as replaced
use Rattle.p4_rule_laws.specs.Replaced.{CallReplaced, StmtReplaced, same}
use Rattle.p4_rule_laws.proofs.ReplacedLemmas as law
use Rattle.p4_rule_laws.proofs.ReplacedLemmas.{free_replaced, most_replaced}
use Rattle.rewriting_laws.specs.Standing.{MayStandFor}
use Rattle.rewritten_programs.specs.Rewritten.{StartRewritten, no_start, in_start, BlockRewritten, none_left, first_then, ActionRewritten, KeyRewritten, TableRewritten, LocalRewritten, in_action, in_table, local_register_stays, local_const_stays, in_local_var, ControlRewritten}
use Rattle.rewriting_rules.specs.Knows.{Knows}
use Rattle.rewriting_rules.proofs.Knows.{local_knows, locals_know, params_know, ways_know}
use Rattle.rewriting_rules.proofs.Statements.{stmt_replaced, block_replaced}

-- ---- actions

action_fine : (h : Part) (s : Scope) → Knows s → (a b : Action) → ActionRewritten MayStandFor a b → IsFine (action_tests h s a) → IsFine (action_tests h s b)
action_fine h s k a b r f =
    let inner = params_know a.at a.params s k f.1.0 in
    let body = law.block_replaced (block_replaced r.body h (with_params s a.params) inner f.1.1) h f.1.1 in
    subst (λ (c : Action). IsFine (action_tests h s c)) (sym r.rest) (f.0, (f.1.0, body))

action_most : (h : Part) (s t : Scope) → Knows s → (a b : Action) → ActionRewritten MayStandFor a b → IsFine (action_tests h s a) → most_of t b.body ≡ most_of t a.body
action_most h s t k a b r f = most_replaced (block_replaced r.body h (with_params s a.params) (params_know a.at a.params s k f.1.0) f.1.1) h t f.1.1

action_after : (p : ℕ) (h : Part) (s : Scope) → Knows s → (a b : Action) → ActionRewritten MayStandFor a b → IsFine (action_tests h s a) → after_local s (local_action p b) ≡ after_local s (local_action p a)
action_after p h s k a b r f =
    ap (λ (c : Action). declare s c.name (action c.params (most_of s b.body))) r.rest
    ∙ ap (λ (n : ℕ). declare s a.name (action a.params n)) (action_most h s s k a b r f)

-- ---- tables: keys are matched in the same ways

abbrev Keys : Type 0
Keys = List (Expr × List ℕ)

abbrev KeysRewritten : Keys → Keys → Type 0
KeysRewritten = AllZip (KeyRewritten MayStandFor)

kinds_same : (ks ls : Keys) → KeysRewritten ks ls → all_key_kinds ls ≡ all_key_kinds ks
kinds_same [] [] r = refl
kinds_same [] (l ∷ ls) r = absurd r
kinds_same (k ∷ ks) [] r = absurd r
kinds_same (k ∷ ks) (l ∷ ls) r = ap₂ (λ (x : List ℕ) (b : Bool). is_key_kind x && b) r.0.1 (kinds_same ks ls r.1)

kind_same : (ks ls : Keys) → KeysRewritten ks ls → (x : List ℕ) → has_key_kind ls x ≡ has_key_kind ks x
kind_same [] [] r x = refl
kind_same [] (l ∷ ls) r x = absurd r
kind_same (k ∷ ks) [] r x = absurd r
kind_same (k ∷ ks) (l ∷ ls) r x = ap₂ (λ (y : List ℕ) (b : Bool). same_text y x || b) r.0.1 (kind_same ks ls r.1 x)

prefixes_same : (ks ls : Keys) → KeysRewritten ks ls → has_two_prefixes ls ≡ has_two_prefixes ks
prefixes_same [] [] r = refl
prefixes_same [] (l ∷ ls) r = absurd r
prefixes_same (k ∷ ks) [] r = absurd r
prefixes_same (k ∷ ks) (l ∷ ls) r = let e = r.0.1 in let f = kind_same ks ls r.1 (codes "lpm") in let g = prefixes_same ks ls r.1 in cc

matched_same : (ks ls : Keys) → KeysRewritten ks ls → ill_matched ls ≡ ill_matched ks
matched_same ks ls r = λ i. not (kinds_same ks ls r i) || prefixes_same ks ls r i || (kind_same ks ls r (codes "lpm") i && kind_same ks ls r (codes "ternary") i)

keys_fine : (s : Scope) → Knows s → (ks ls : Keys) → KeysRewritten ks ls → IsFine (keys_tests s ks) → IsFine (keys_tests s ls)
keys_fine s k [] [] r f = tt
keys_fine s k [] (l ∷ ls) r f = absurd r
keys_fine s k (y ∷ ks) [] r f = absurd r
keys_fine s k (y ∷ ks) (l ∷ ls) r f = (free_replaced s y.0 l.0 (r.0.0.typed s k.sound) f.0, keys_fine s k ks ls r.1 f.1)

table_fine : (s : Scope) → Knows s → (t u : Table) → TableRewritten MayStandFor t u → IsFine (table_tests s t) → IsFine (table_tests s u)
table_fine s k t u r f = subst (λ (v : Table). IsFine (table_tests s v)) (sym r.rest) (f.0, (matched_same t.keys u.keys r.keys ∙ f.1.0, (keys_fine s k t.keys u.keys r.keys f.1.1.0, f.1.1.1)))

table_after : (p : ℕ) (s : Scope) (t u : Table) → TableRewritten MayStandFor t u → after_local s (local_table p u) ≡ after_local s (local_table p t)
table_after p s t u r = ap (λ (v : Table). after_local s (local_table p v)) r.rest

-- ---- variables

start_fine : (s : Scope) → Knows s → (p : ℕ) (t : PTy) (x : List ℕ) (d e : Option Expr) → StartRewritten MayStandFor d e → IsFine (var_tests p s t x d) → IsFine (var_tests p s t x e)
start_fine s k p t x _ _ no_start f = f
start_fine s k p t x _ _ (in_start r) f = (f.0, (f.1.0, ((r.typed s k.sound).wherever _ f.1.1).fine))

-- ---- all that a control declares

local_fine : (h : Part) (s : Scope) → Knows s → (l m : Local) → LocalRewritten MayStandFor l m → IsFine (local_tests h s l) → IsFine (local_tests h s m)
local_fine h s k _ _ (in_action {a = a} {b = b} p r) f = (f.0, action_fine (action_part h) s k a b r f.1)
local_fine h s k _ _ (in_table {t = t} {u = u} p r) f = (f.0, table_fine s k t u r f.1)
local_fine h s k _ _ (local_register_stays p r) f = f
local_fine h s k _ _ (local_const_stays p t x e) f = f
local_fine h s k _ _ (in_local_var {d = d} {e = e} p t x r) f = (f.0, start_fine s k p t x d e r f.1)

local_after : (h : Part) (s : Scope) → Knows s → (l m : Local) → LocalRewritten MayStandFor l m → IsFine (local_tests h s l) → after_local s m ≡ after_local s l
local_after h s k _ _ (in_action {a = a} {b = b} p r) f = action_after p (action_part h) s k a b r f.1
local_after h s k _ _ (in_table {t = t} {u = u} p r) f = table_after p s t u r
local_after h s k _ _ (local_register_stays p r) f = refl
local_after h s k _ _ (local_const_stays p t x e) f = refl
local_after h s k _ _ (in_local_var p t x r) f = refl

abbrev LocalsRewritten : List Local → List Local → Type 0
LocalsRewritten = AllZip (LocalRewritten MayStandFor)

pub locals_after : (h : Part) (ls ms : List Local) (s : Scope) → Knows s → LocalsRewritten ls ms → IsFine (locals_tests h s ls) → after_locals s ms ≡ after_locals s ls
locals_after h [] [] s k r f = refl
locals_after h [] (m ∷ ms) s k r f = absurd r
locals_after h (l ∷ ls) [] s k r f = absurd r
locals_after h (l ∷ ls) (m ∷ ms) s k r f = ap (λ (t : Scope). after_locals t ms) (local_after h s k l m r.0 f.0) ∙ locals_after h ls ms (after_local s l) (local_knows h s k l f.0) r.1 f.1

pub locals_fine : (h : Part) (ls ms : List Local) (s : Scope) → Knows s → LocalsRewritten ls ms → IsFine (locals_tests h s ls) → IsFine (locals_tests h s ms)
locals_fine h [] [] s k r f = tt
locals_fine h [] (m ∷ ms) s k r f = absurd r
locals_fine h (l ∷ ls) [] s k r f = absurd r
locals_fine h (l ∷ ls) (m ∷ ms) s k r f =
    (local_fine h s k l m r.0 f.0, subst (λ (t : Scope). IsFine (locals_tests h t ms)) (sym (local_after h s k l m r.0 f.0)) (locals_fine h ls ms (after_local s l) (local_knows h s k l f.0) r.1 f.1))

-- ---- a header is emitted once: what is emitted stays

form_emits_same : (s : Scope) (f : Form) (xs ys : List Arg) → CallReplaced s f xs ys → form_emits f ys ≡ form_emits f xs
form_emits_same s emits xs ys r = ap (form_emits emits) (sym r)
form_emits_same s unknown xs ys r = refl
form_emits_same s ill xs ys r = refl
form_emits_same s drops xs ys r = refl
form_emits_same s digests xs ys r = refl
form_emits_same s (sums v) xs ys r = refl
form_emits_same s extracts xs ys r = refl
form_emits_same s applies xs ys r = refl
form_emits_same s (reads_cell k) xs ys r = refl
form_emits_same s (writes_cell k) xs ys r = refl
form_emits_same s makes_valid xs ys r = refl
form_emits_same s (acts ks) xs ys r = refl

stmt_emits_same : {s : Scope} {c d : Stmt} → StmtReplaced s c d → stmt_emits s d ≡ stmt_emits s c
stmt_emits_same same = refl
stmt_emits_same (replaced.in_block p r) = refl
stmt_emits_same (replaced.in_start p t x r) = refl
stmt_emits_same (replaced.in_value p x r) = refl
stmt_emits_same (replaced.in_test p n r a b) = refl
stmt_emits_same (replaced.in_branches p a b) = refl
stmt_emits_same (replaced.in_args {s = s} {xs = xs} {ys = ys} p x r) = form_emits_same s (form_of s x) xs ys r

emit_at_same : {s : Scope} {c d : Stmt} → StmtReplaced s c d → emit_at d ≡ emit_at c
emit_at_same same = refl
emit_at_same (replaced.in_block p r) = refl
emit_at_same (replaced.in_start p t x r) = refl
emit_at_same (replaced.in_value p x r) = refl
emit_at_same (replaced.in_test p n r a b) = refl
emit_at_same (replaced.in_branches p a b) = refl
emit_at_same (replaced.in_args p x r) = refl

-- nothing is declared in the deparser
broken : {A : Type 0} → true ≡ false → A
broken h = absurd (cc)

stays_there : (s : Scope) (c : Stmt) → IsFine (stmt_tests place.Deparser s c) → after s c ≡ s
stays_there s (nothing p) f = refl
stays_there s (block p b) f = refl
stays_there s (var p t x e) f = broken f.0
stays_there s (assign p x e) f = refl
stays_there s (choice p e a b) f = refl
stays_there s (return_ p) f = refl
stays_there s (exit_ p) f = refl
stays_there s (call p x args) f = refl

emits_same : {a b : Stmts} → BlockRewritten MayStandFor a b → (s : Scope) → Knows s → IsFine (block_tests place.Deparser s a) → (before : List (List (List ℕ))) → emits_tests s before b ≡ emits_tests s before a
emits_same none_left s k f before = refl
emits_same (first_then {c = c} {d = d} {a = a} {b = b} r q) s k f before =
    let one = stmt_replaced r place.Deparser s k f.0 in
    let e = stmt_emits_same one in
    let g = emit_at_same one in
    let rest = emits_same q s k (subst (λ (t : Scope). IsFine (block_tests place.Deparser t a)) (stays_there s c f.0) f.1) (emitted_behind (stmt_emits s c) before) in
    cc

once_fine : (h : Part) (s : Scope) → Knows s → (a b : Stmts) → BlockRewritten MayStandFor a b → IsFine (block_tests h s a) → IsFine (once_tests h s a) → IsFine (once_tests h s b)
once_fine place.Deparser s k a b r f g = subst IsFine (sym (emits_same r s k f [])) g
once_fine place.State s k a b r f g = g
once_fine place.Verify s k a b r f g = g
once_fine place.Apply s k a b r f g = g
once_fine place.Action s k a b r f g = g
once_fine place.Compute s k a b r f g = g
once_fine place.Other s k a b r f g = g

-- ---- controls

pub inside_same : (h : Part) (s : Scope) → Knows s → (c d : Control) → ControlRewritten MayStandFor c d → IsFine (control_tests h s c) → in_control s d ≡ in_control s c
inside_same h s k c d r f =
    ap (λ (e : Control). after_locals (with_ways s e.params) d.locals) r.rest
    ∙ locals_after h c.locals d.locals (with_ways s c.params) (ways_know c.params s k f.1.0) r.locals f.1.1.0

pub control_fine : (h : Part) (s : Scope) → Knows s → (c d : Control) → ControlRewritten MayStandFor c d → IsFine (control_tests h s c) → IsFine (control_tests h s d)
control_fine h s k c d r f =
    let ways = ways_know c.params s k f.1.0 in
    let inner = locals_know h c.locals (with_ways s c.params) ways f.1.1.0 in
    let locals = locals_fine h c.locals d.locals (with_ways s c.params) ways r.locals f.1.1.0 in
    let apply = law.block_replaced (block_replaced r.apply h (in_control s c) inner f.1.1.1.0) h f.1.1.1.0 in
    let once = once_fine h (in_control s c) inner c.apply d.apply r.apply f.1.1.1.0 f.1.1.1.1 in
    let P : Scope → Type 0 = λ t. IsFine (block_tests h t d.apply) × IsFine (once_tests h t d.apply) in
    let here = subst P (sym (locals_after h c.locals d.locals (with_ways s c.params) ways r.locals f.1.1.0)) (apply, once) in
    subst (λ (e : Control). IsFine (control_tests h s e)) (sym r.rest) (f.0, (f.1.0, (locals, here)))

most_body : (h : Part) (s : Scope) (a b : Stmts) → most_of s b ≡ most_of s a → most_of_body h s b ≡ most_of_body h s a
most_body place.Apply s a b e = e
most_body place.State s a b e = refl
most_body place.Verify s a b e = refl
most_body place.Action s a b e = refl
most_body place.Compute s a b e = refl
most_body place.Deparser s a b e = refl
most_body place.Other s a b e = refl

pub control_most : (h : Part) (s : Scope) → Knows s → (c d : Control) → ControlRewritten MayStandFor c d → IsFine (control_tests h s c) → most_of_part h s d ≡ most_of_part h s c
control_most h s k c d r f =
    let ways = ways_know c.params s k f.1.0 in
    let inner = locals_know h c.locals (with_ways s c.params) ways f.1.1.0 in
    ap (λ (t : Scope). most_of_body h t d.apply) (inside_same h s k c d r f)
    ∙ most_body h (in_control s c) c.apply d.apply (most_replaced (block_replaced r.apply h (in_control s c) inner f.1.1.1.0) h (in_control s c) f.1.1.1.0)
