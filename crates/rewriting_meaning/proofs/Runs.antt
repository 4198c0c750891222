-- Statements with other expressions do the same, where what is in sight shows what the scope says at each statement to
-- which the run comes.
use Rattle.std.proofs.Common.{◌≡◌, ℕ, ◌≤◌, List, [], ◌∷◌, map, Bool, true, false, cond, not, Option, Some, None, refl, sym, ap, ◌∙◌, subst}
use Rattle.std.specs.Option.{option_map}
use Rattle.bit_values.specs.Bits.{Word}
use Rattle.bit_values.specs.Widths.{holds, sound_width, cast_word}
use Rattle.std.specs.List.{AllZip}
use Rattle.rule_tests.specs.Tests.{IsFine}
use Rattle.p4_tree.specs.Tree.{Expr, num, flag, path, valid, applied, error_name, negation, inversion, opposite, binary, conditional, slice, cast, Arg, Stmt, Stmts, MaybeStmt, var, Local, local_action, local_table, local_register, local_const, local_var}
use Rattle.p4_tree.specs.declared.statement.PTy.{PTy}
use Rattle.p4_meaning.specs.Store.{Store, set_value}
use Rattle.p4_meaning.specs.Value.{value_of, width_of}
use Rattle.p4_meaning.specs.Statements.{Flow, Go, Return, Exit, Run, Ended, in_store, assigned, start_of, application, Calls, Tested, act_of, done_by, tested_by, tested, meaning_of_stmt, meaning_of_else, meaning_of}
use Rattle.p4_meaning.specs.Statements as meant
use Rattle.p4_meaning.specs.Scope as meaning
use Rattle.p4_meaning.specs.Scope.{full_name, constant_at, path_under, first_name, type_under, seen}
use Rattle.p4_meaning.specs.Under.{constant_or_path, callee_under, expr_under, arg_under, stmt_under, else_under, stmts_under, behind_local, settings_under}
use Rattle.p4_meaning.specs.Parts.{Parts}
use Rattle.p4_meaning.proofs.Seen.{value_seen}
use Rattle.p4_scopes.specs.Scopes.{Stands, missing, typed, held, cells, act, rows, state, function, algorithm, other, Scope, is_missing, value_kind, kind_in}
use Rattle.p4_scopes.specs.Uses.{reads, is_table}
use Rattle.p4_scopes.specs.declared.kind.Kind.{Kind}
use Rattle.p4_scopes.specs.declared.kind.Kind.TheVariants.{Truth}
use Rattle.p4_statement_rules.specs.Expressions.{expr_tests}
use Rattle.p4_statement_rules.specs.Forms.{form_of}
use Rattle.p4_statement_rules.specs.Calls.{form_tests}
use Rattle.p4_statement_rules.specs.Statements as rules
use Rattle.p4_statement_rules.specs.Statements.{if_tests, var_tests, stmt_tests, else_tests, block_tests}
use Rattle.p4_statement_rules.specs.declared.rule.Part.{Part}
use Rattle.p4_rule_laws.specs.Replaced.{is_outcome}
use Rattle.p4_rule_laws.proofs.ReplacedLemmas.{test_is_value}
use Rattle.p4_declaration_rules.specs.Controls.{after_local, locals_tests}
use Rattle.p4_typing_laws.specs.Soundness.{kind_width}
use Rattle.p4_typing_laws.specs.Widths.{Shows}
use Rattle.p4_typing_laws.specs.Along.{AlongStmt, AlongElse, Along}
use Rattle.p4_typing_laws.proofs.Fine.{twice_not}
use Rattle.p4_typing_laws.proofs.SoundScopes.{kind_most}
use Rattle.p4_typing_laws.proofs.SoundPlaces.{truth_most}
use Rattle.passage_stores.specs.SeenStores.{Sees, AlongSettings}
use Rattle.rewriting_laws.specs.Standing.{MayStandFor}
use Rattle.rewritten_programs.specs.Values.{is_value}
use Rattle.rewritten_programs.specs.Rewritten.{ArgsRewritten, StartRewritten, no_start, in_start, TestRewritten, outcome, in_test, StmtRewritten, lone, returns, exits, in_block, in_var, in_assign, in_choice, in_call, ElseRewritten, no_else, in_else, BlockRewritten, none_left, first_then, LocalRewritten, in_action, in_table, local_register_stays, local_const_stays, in_local_var}
use Rattle.rewriting_meaning.specs.Sights.{DoSame, IsSeen, IsFitlySeen}

-- an expression of the running program and what may stand for it have one value
pub runs_same : (p : Parts) (s : Scope) (sc : meaning.Scope) (st : Store) → Sees p s sc st → (e f : Expr) → MayStandFor e f → (want : Kind) → kind_width want ≤ 128 → IsFine (expr_tests s want e) → (w : ℕ) → value_of (expr_under sc f) w st ≡ value_of (expr_under sc e) w st
runs_same p s sc st sees e f r want cap fine w =
    value_seen sc st sees.words sees.fits.headers f w ∙ (r.valued s sees.sound want cap fine (seen sc st) sees.shows w ∙ sym (value_seen sc st sees.words sees.fits.headers e w))

-- ---- tests

broken : {A : Type 0} → true ≡ false → A
broken h = absurd (cc)

-- an expression that breaks no rule applies no table
named_none : (p : ℕ) (o : Option Word) (x : List (List ℕ)) → application (constant_or_path p o x) ≡ None
named_none p None x = refl
named_none p (Some w) x = refl

fine_none : (s : Scope) (sc : meaning.Scope) (w : Kind) (e : Expr) → IsFine (expr_tests s w e) → application (expr_under sc e) ≡ None
fine_none s sc w (num p n) f = refl
fine_none s sc w (flag p b) f = refl
fine_none s sc w (path p x) f = named_none p (constant_at sc x) (path_under sc x)
fine_none s sc w (valid p x) f = refl
fine_none s sc w (applied p t h) f = broken f.1.1
fine_none s sc w (error_name p x) f = refl
fine_none s sc w (negation p a) f = ap (option_map (λ t. (t.0, not t.1))) (fine_none s sc Truth a f.1)
fine_none s sc w (inversion p a) f = refl
fine_none s sc w (opposite p a) f = refl
fine_none s sc w (binary p op a b) f = refl
fine_none s sc w (conditional p c a b) f = refl
fine_none s sc w (slice p a h l) f = refl
fine_none s sc w (cast p t a) f = refl

-- what is assigned has a width that a value can have
target_most : (s : Scope) (st : Store) → Shows s st → (x : List (List ℕ)) → is_missing (s x) ≡ false → reads (s x) ≡ true → kind_width (value_kind (s x)) ≤ 128
target_most s st shows x h k = (let v = shows.values x h k in subst (λ (n : ℕ). n ≤ 128) v.width v.word.narrow)

-- a table stands there
is_rows : (at : Stands) → is_missing at ≡ false → is_table at ≡ true → (m : ℕ) × (at ≡ rows m)
is_rows (rows m) k h = (m, refl)
is_rows missing k h = broken k
is_rows (typed g t) some h = broken (sym h)
is_rows (held a t) some h = broken (sym h)
is_rows (cells k) some h = broken (sym h)
is_rows (act ks m) some h = broken (sym h)
is_rows state some h = broken (sym h)
is_rows (function g) some h = broken (sym h)
is_rows algorithm some h = broken (sym h)
is_rows other some h = broken (sym h)

-- ---- statements that follow

branches : (fl : Flow) (hit : Bool) (r : Run) (f g f' g' : Run → Ended) → (fl ≡ Go → hit ≡ true → f' r ≡ f r) → (fl ≡ Go → hit ≡ false → g' r ≡ g r)
    → meant.after fl r (λ q. cond hit (f' q) (g' q)) ≡ meant.after fl r (λ q. cond hit (f q) (g q))
branches Go true r f g f' g' i j = i refl refl
branches Go false r f g f' g' i j = j refl refl
branches Return hit r f g f' g' i j = refl
branches Exit hit r f g f' g' i j = refl

follows : (fl : Flow) (r : Run) (f g : Run → Ended) → (fl ≡ Go → g r ≡ f r) → meant.after fl r g ≡ meant.after fl r f
follows Go r f g i = i refl
follows Return r f g i = refl
follows Exit r f g i = refl

-- ---- statements

-- calls_same: so do calls alone
module _ (pt : Parts) (calls other : Calls)
    (calls_same : (p : ℕ) (s : Scope) (sc : meaning.Scope) (r : Run) → Sees pt s sc r.store → DoSame s sc calls other r → (x : List (List ℕ)) (xs ys : List Arg) → ArgsRewritten MayStandFor (is_value x) 0 xs ys → IsFine (form_tests p s (form_of s x) xs)
    → done_by other (act_of (callee_under sc x) (map (arg_under sc) ys)) r ≡ done_by calls (act_of (callee_under sc x) (map (arg_under sc) xs)) r)
  where
    -- a test of what a table in sight does
    same_outcome : (s : Scope) (sc : meaning.Scope) (r : Run) → DoSame s sc calls other r → (x : List ℕ) (m : ℕ) → s (x ∷ []) ≡ rows m → (want : Bool) (e : Expr) → tested_by other (Some (full_name sc x, want)) e r ≡ tested_by calls (Some (full_name sc x, want)) e r
    same_outcome s sc r k x m e want f = ap (λ (a : Tested). record a { hit = cond want a.hit (not a.hit) }) (k.tables x m e)

    outcome_same : (h : Part) (s : Scope) (sc : meaning.Scope) (r : Run) → DoSame s sc calls other r → (e : Expr) → is_outcome e ≡ true → IsFine (if_tests h s e) → tested other (expr_under sc e) r ≡ tested calls (expr_under sc e) r
    outcome_same h s sc r k (applied p t b) o f = (let there = is_rows (s (t ∷ [])) f.0 (twice_not (is_table (s (t ∷ []))) f.1.0) in same_outcome s sc r k t there.0 there.1 b (expr_under sc (applied p t b)))
    outcome_same h s sc r k (negation q (applied p t b)) o f =
        (let there = is_rows (s (t ∷ [])) f.0 (twice_not (is_table (s (t ∷ []))) f.1.0) in same_outcome s sc r k t there.0 there.1 (not b) (expr_under sc (negation q (applied p t b))))
    outcome_same h s sc r k _ o f = broken (sym o)

    free_test : (e f : Expr) (r : Run) → application e ≡ None → application f ≡ None → value_of f 1 r.store ≡ value_of e 1 r.store → tested other f r ≡ tested calls e r
    free_test e f r i j v =
        ap (λ o. tested_by other o f r) j ∙ (ap (λ (x : Word). record { run = r; flow = Go; hit = holds x }) v ∙ sym (ap (λ o. tested_by calls o e r) i))

    test_same : (h : Part) (s : Scope) (sc : meaning.Scope) {e f : Expr} → TestRewritten MayStandFor e f → IsFine (if_tests h s e) → (r : Run) → Sees pt s sc r.store → DoSame s sc calls other r → tested other (expr_under sc f) r ≡ tested calls (expr_under sc e) r
    test_same h s sc (outcome {e = e} o) f r sees k = outcome_same h s sc r k e o f
    test_same h s sc (in_test {e = e} {f = g} o q) f r sees k =
        let fine = test_is_value s h e o f in
        let also = ((q.typed s sees.sound).wherever Truth fine).fine in
        free_test (expr_under sc e) (expr_under sc g) r (fine_none s sc Truth e fine) (fine_none s sc Truth g also) (runs_same pt s sc r.store sees e g q Truth truth_most fine 1)

    var_same : (p : ℕ) (t : PTy) (x : List ℕ) (s : Scope) (sc : meaning.Scope) {d e : Option Expr} → StartRewritten MayStandFor d e → IsFine (var_tests p s t x d) → (r : Run) → Sees pt s sc r.store → meaning_of_stmt other (stmt_under sc (var p t x e)) r ≡ meaning_of_stmt calls (stmt_under sc (var p t x d)) r
    var_same p t x s sc no_start f r sees = refl
    var_same p t x s sc (in_start {e = e} {f = g} q) f r sees =
        ap (λ (v : Word). (in_store r (set_value r.store (first_name sc x ∷ []) (cast_word (sound_width (width_of (type_under sc.types t))) v)), Go))
        (runs_same pt s sc r.store sees e g q (kind_in s t) (kind_most p s sees.sound t f.1.0) f.1.1 (width_of (type_under sc.types t)))

    -- the first values of a control's variables
    abbrev SettingsSame : Part → List Local → List Local → Type 0
    SettingsSame h ls ms = (s : Scope) (sc : meaning.Scope) → IsFine (locals_tests h s ls) → (r : Run) → AlongSettings calls (IsFitlySeen pt) s sc ls r → meaning_of other (settings_under sc ms) r ≡ meaning_of calls (settings_under sc ls) r

    setting_same : (h : Part) (ls ms : List Local) → SettingsSame h ls ms → (l m : Local) → LocalRewritten MayStandFor l m → SettingsSame h (l ∷ ls) (m ∷ ms)
    setting_same h ls ms more _ _ (in_action {a = a} {b = b} p i) s sc f r w = more (after_local s (local_action p a)) sc f.1 r w
    setting_same h ls ms more _ _ (in_table {t = t} {u = u} p i) s sc f r w = more (after_local s (local_table p t)) sc f.1 r w
    setting_same h ls ms more _ _ (local_register_stays p c) s sc f r w = more (after_local s (local_register p c)) sc f.1 r w
    setting_same h ls ms more _ _ (local_const_stays p t x e) s sc f r w = more (after_local s (local_const p t x e)) (behind_local sc (local_const p t x e)) f.1 r w
    setting_same h ls ms more _ _ (in_local_var {d = d} {e = e} p t x i) s sc f r w =
        ap (λ (u : Ended). meant.after u.1 u.0 (meaning_of other (settings_under sc ms))) (var_same p t x s sc i f.0.1 r w.0.0)
        ∙ more (after_local s (local_var p t x d)) sc f.1 (meaning_of_stmt calls (stmt_under sc (var p t x d)) r).0 w.1

    pub settings_same : (h : Part) (ls ms : List Local) → AllZip (LocalRewritten MayStandFor) ls ms → SettingsSame h ls ms
    settings_same h [] [] q s sc f r w = refl
    settings_same h [] (m ∷ ms) q s sc f r w = absurd q
    settings_same h (l ∷ ls) [] q s sc f r w = absurd q
    settings_same h (l ∷ ls) (m ∷ ms) q s sc f r w = setting_same h ls ms (settings_same h ls ms q.1) l m q.0 s sc f r w

    module _ (sc : meaning.Scope) where
      mutual
        stmt_same : {c d : Stmt} → StmtRewritten MayStandFor c d → (h : Part) (s : Scope) → IsFine (stmt_tests h s c) → (r : Run) → AlongStmt calls (IsSeen pt calls other) s sc c r → meaning_of_stmt other (stmt_under sc d) r ≡ meaning_of_stmt calls (stmt_under sc c) r
        stmt_same (lone p) h s f r w = refl
        stmt_same (returns p) h s f r w = refl
        stmt_same (exits p) h s f r w = refl
        stmt_same (in_block p q) h s f r w = block_same q h s f.1 r w.1
        stmt_same (in_var p t x q) h s f r w = var_same p t x s sc q f.1 r w.0
        stmt_same (in_assign {e = e} {f = g} p x q) h s f r w =
            ap (λ (v : Word). (in_store r (assigned r.store (path_under sc x) v), Go))
            (runs_same pt s sc r.store w.0 e g q (value_kind (s x)) (target_most s (seen sc r.store) w.0.shows x f.1.0.0 (twice_not (reads (s x)) f.1.0.1.0)) f.1.1 (r.store.values (path_under sc x)).width)
        stmt_same (in_choice {e = e} {f = g} {a = a} {b = b} {c = c} {d = d} p q i j) h s f r w =
            let same = test_same h s sc q f.1.0 r w.0.0 w.0.1 in
            let t = tested calls (expr_under sc e) r in
            ap (λ (u : Tested). meant.after u.flow u.run (λ q. cond u.hit (meaning_of_stmt other (stmt_under sc b) q) (meaning_of_else other (else_under sc d) q))) same
            ∙ branches t.flow t.hit t.run (meaning_of_stmt calls (stmt_under sc a)) (meaning_of_else calls (else_under sc c)) (meaning_of_stmt other (stmt_under sc b)) (meaning_of_else other (else_under sc d))
            (λ go hit. stmt_same i h s f.1.1.0 t.run (w.1 go hit)) (λ go hit. else_same j h s f.1.1.1 t.run (w.2 go hit))
        stmt_same (in_call {xs = xs} {ys = ys} p x q) h s f r w = calls_same p s sc r w.0 w.1 x xs ys q f.1

        else_same : {c d : MaybeStmt} → ElseRewritten MayStandFor c d → (h : Part) (s : Scope) → IsFine (else_tests h s c) → (r : Run) → AlongElse calls (IsSeen pt calls other) s sc c r → meaning_of_else other (else_under sc d) r ≡ meaning_of_else calls (else_under sc c) r
        else_same no_else h s f r w = refl
        else_same (in_else q) h s f r w = stmt_same q h s f r w

        pub block_same : {a b : Stmts} → BlockRewritten MayStandFor a b → (h : Part) (s : Scope) → IsFine (block_tests h s a) → (r : Run) → Along calls (IsSeen pt calls other) s sc a r → meaning_of other (stmts_under sc b) r ≡ meaning_of calls (stmts_under sc a) r
        block_same none_left h s f r w = refl
        block_same (first_then {c = c} {d = d} {a = a} {b = b} i j) h s f r w =
            let e = meaning_of_stmt calls (stmt_under sc c) r in
            ap (λ (u : Ended). meant.after u.1 u.0 (meaning_of other (stmts_under sc b))) (stmt_same i h s f.0 r w.0)
            ∙ follows e.1 e.0 (meaning_of calls (stmts_under sc a)) (meaning_of other (stmts_under sc b)) (λ go. block_same j h (rules.after s c) f.1 e.0 (w.1 go))
