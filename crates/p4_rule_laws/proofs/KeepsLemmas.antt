-- A fine declaration takes a name that stands for nothing, so whatever stands for something goes on to do so; and
-- declarations of names that are not old leave what old names stand for.
use Rattle.std.proofs.Common.{◌≡◌, ℕ, List, [], ◌∷◌, Bool, true, false, cond, not, refl, sym, ap, ◌∙◌, codes}
use Rattle.std.proofs.lemmas.Slice.Eq.{bytes_eq-Decides}
use Rattle.lex_text.specs.Names.{same_text}
use Rattle.rule_tests.specs.Tests.{IsFine}
use Rattle.p4_tree.specs.Tree.{Stmt, Stmts, nothing, block, var, assign, choice, return_, exit_, call, done, next, ParserState, Local, local_action, local_table, local_register, local_const, local_var, Top, constant, typedef, header_type, struct_type, register, parser, control}
use Rattle.p4_tree.specs.declared.statement.PTy.{PTy}
use Rattle.p4_tree.specs.declared.program.Param.{Param}
use Rattle.p4_scopes.specs.Scopes.{Scope, is_missing, What, alias, fields, value, action, table, parser_state, part, behind, declare, fields_bits}
use Rattle.p4_scopes.specs.Scopes as scope
use Rattle.p4_scopes.specs.declared.thing.Thing.TheVariants.{Header, Struct}
use Rattle.p4_scopes.specs.declared.thing.Access.TheVariants.{Writable, Fixed, Constant}
use Rattle.p4_statement_rules.specs.Statements.{after, after_all, stmt_tests, block_tests}
use Rattle.p4_statement_rules.specs.declared.rule.Part.{Part}
use Rattle.p4_declaration_rules.specs.Digests.{most_of, most_of_table}
use Rattle.p4_declaration_rules.specs.Declarations.{params_tests, with_params}
use Rattle.p4_declaration_rules.specs.Parsers.{way_access, with_ways, ways_tests, with_state, with_ends, with_states, states_names}
use Rattle.p4_declaration_rules.specs.Controls.{local_tests, after_local, locals_tests, after_locals, top_tests, after_top, tops_tests, after_tops}
use Rattle.p4_rule_laws.specs.Old.{Names, Alike}
use Rattle.p4_rule_laws.specs.Kept.{Keeps, NewTops, NewLocals, NewStates, NewVar, NewVars}
use Rattle.p4_rule_laws.proofs.AlikeScopes.{skip_alike}

pub keeps_self : (s : Scope) → Keeps s s
keeps_self s = record { kept = λ x xs m. refl }

keeps_both : (s t u : Scope) → Keeps s t → Keeps t u → (x : List ℕ) (xs : List (List ℕ)) → is_missing (s (x ∷ [])) ≡ false → u (x ∷ xs) ≡ s (x ∷ xs)
keeps_both s t u a b x xs m = b.kept x xs (ap is_missing (a.kept x [] m) ∙ m) ∙ a.kept x xs m

pub keeps_trans : (s t u : Scope) → Keeps s t → Keeps t u → Keeps s u
keeps_trans s t u a b = record { kept = keeps_both s t u a b }

clash : (b : Bool) → not b ≡ false → b ≡ false → ⊥
clash true h k = let c : true ≡ false = k in cc
clash false h k = let c : true ≡ false = h in cc

declare_step : (s : Scope) (n : List ℕ) (w : What) (x : List ℕ) (xs : List (List ℕ)) (b : Bool) → same_text n x ≡ b → not (is_missing (s (n ∷ []))) ≡ false → is_missing (s (x ∷ [])) ≡ false → cond b (behind s w xs) (s (x ∷ xs)) ≡ s (x ∷ xs)
declare_step s n w x xs true e f m = let same : n ≡ x = (bytes_eq-Decides n x).0 e in absurd (clash (is_missing (s (n ∷ []))) f (ap (λ y. is_missing (s (y ∷ []))) same ∙ m))
declare_step s n w x xs false e f m = refl

-- a declaration of a name that stands for nothing leaves all others
pub declare_keeps : (s : Scope) (n : List ℕ) (w : What) → not (is_missing (s (n ∷ []))) ≡ false → Keeps s (declare s n w)
unfolding declare
declare_keeps s n w f = record { kept = λ x xs m. declare_step s n w x xs (same_text n x) refl f m }

declared_step : (s : Scope) (n : List ℕ) (w : What) (xs : List (List ℕ)) (b : Bool) → same_text n n ≡ b → cond b (behind s w xs) (s (n ∷ xs)) ≡ behind s w xs
declared_step s n w xs true e = refl
declared_step s n w xs false e = absurd (let h : same_text n n ≡ true = (bytes_eq-Decides n n).1 refl in let c : false ≡ true = sym e ∙ h in cc)

-- a declared name stands for what is declared
pub declared : (s : Scope) (n : List ℕ) (w : What) (xs : List (List ℕ)) → declare s n w (n ∷ xs) ≡ behind s w xs
unfolding declare
declared s n w xs = declared_step s n w xs (same_text n n) refl

-- any other name stands for what it stood for
pub undeclared : (s : Scope) (n : List ℕ) (w : What) (x : List ℕ) (xs : List (List ℕ)) → same_text n x ≡ false → declare s n w (x ∷ xs) ≡ s (x ∷ xs)
unfolding declare
undeclared s n w x xs e = ap (λ (b : Bool). cond b (behind s w xs) (s (x ∷ xs))) e

-- ---- what is in sight stays

pub after_keeps : (h : Part) (s : Scope) (c : Stmt) → IsFine (stmt_tests h s c) → Keeps s (after s c)
after_keeps h s (var p t x e) f = declare_keeps s x (value Writable t) f.1.0
after_keeps h s (nothing p) f = keeps_self s
after_keeps h s (block p b) f = keeps_self s
after_keeps h s (assign p x e) f = keeps_self s
after_keeps h s (choice p e a b) f = keeps_self s
after_keeps h s (return_ p) f = keeps_self s
after_keeps h s (exit_ p) f = keeps_self s
after_keeps h s (call p x args) f = keeps_self s

pub after_all_keeps : (h : Part) (s : Scope) (b : Stmts) → IsFine (block_tests h s b) → Keeps s (after_all s b)
after_all_keeps h s done f = keeps_self s
after_all_keeps h s (next c b) f = keeps_trans s (after s c) (after_all (after s c) b) (after_keeps h s c f.0) (after_all_keeps h (after s c) b f.1)

pub after_local_keeps : (h : Part) (s : Scope) (l : Local) → IsFine (local_tests h s l) → Keeps s (after_local s l)
after_local_keeps h s (local_action p a) f = declare_keeps s a.name (action a.params (most_of s a.body)) f.1.0
after_local_keeps h s (local_table p t) f = declare_keeps s t.name (table (most_of_table s t.actions t.default)) f.1.0
after_local_keeps h s (local_register p r) f = declare_keeps s r.name (scope.register r.ty) f.1.0
after_local_keeps h s (local_const p t x e) f = declare_keeps s x (value Constant t) f.1.0
after_local_keeps h s (local_var p t x e) f = declare_keeps s x (value Writable t) f.1.0

pub after_locals_keeps : (h : Part) (s : Scope) (ls : List Local) → IsFine (locals_tests h s ls) → Keeps s (after_locals s ls)
after_locals_keeps h s [] f = keeps_self s
after_locals_keeps h s (l ∷ ls) f = keeps_trans s (after_local s l) (after_locals (after_local s l) ls) (after_local_keeps h s l f.0) (after_locals_keeps h (after_local s l) ls f.1)

pub with_params_keeps : (p : ℕ) (s : Scope) (qs : List (PTy × List ℕ)) → IsFine (params_tests p s qs) → Keeps s (with_params s qs)
with_params_keeps p s [] f = keeps_self s
with_params_keeps p s (q ∷ qs) f = keeps_trans s (declare s q.1 (value Fixed q.0)) (with_params (declare s q.1 (value Fixed q.0)) qs) (declare_keeps s q.1 (value Fixed q.0) f.0.0) (with_params_keeps p (declare s q.1 (value Fixed q.0)) qs f.1)

pub with_ways_keeps : (s : Scope) (qs : List Param) → IsFine (ways_tests s qs) → Keeps s (with_ways s qs)
with_ways_keeps s [] f = keeps_self s
with_ways_keeps s (q ∷ qs) f = keeps_trans s (declare s q.name (value (way_access q.way) q.ty)) (with_ways (declare s q.name (value (way_access q.way) q.ty)) qs) (declare_keeps s q.name (value (way_access q.way) q.ty) f.0.0) (with_ways_keeps (declare s q.name (value (way_access q.way) q.ty)) qs f.1)

pub with_state_keeps : (s : Scope) (n : List ℕ) → Keeps s (with_state s n)
with_state_keeps s n = by (is_missing (s (n ∷ []))) refl
  where
    by : (b : Bool) → is_missing (s (n ∷ [])) ≡ b → Keeps s (cond b (declare s n parser_state) s)
    by true e = declare_keeps s n parser_state (ap not e)
    by false e = keeps_self s

pub with_ends_keeps : (s : Scope) → Keeps s (with_ends s)
with_ends_keeps s = keeps_trans s (with_state s (codes "accept")) (with_ends s) (with_state_keeps s (codes "accept")) (with_state_keeps (with_state s (codes "accept")) (codes "reject"))

pub with_states_keeps : (s : Scope) (sts : List ParserState) → IsFine (states_names s sts) → Keeps s (with_states s sts)
with_states_keeps s [] f = keeps_self s
with_states_keeps s (st ∷ sts) f = keeps_trans s (with_state s st.name) (with_states (with_state s st.name) sts) (with_state_keeps s st.name) (with_states_keeps (with_state s st.name) sts f.1)

pub after_top_keeps : (main : List (List ℕ)) (s : Scope) (y : Top) → IsFine (top_tests main s y) → Keeps s (after_top s y)
after_top_keeps main s (constant p t x e) f = declare_keeps s x (value Constant t) f.0
after_top_keeps main s (typedef p t x) f = declare_keeps s x (alias t) f.0
after_top_keeps main s (header_type p x fs) f = declare_keeps s x (fields (Header (fields_bits s fs)) fs) f.0
after_top_keeps main s (struct_type p x fs) f = declare_keeps s x (fields Struct fs) f.0
after_top_keeps main s (register p r) f = declare_keeps s r.name (scope.register r.ty) f.0
after_top_keeps main s (parser p d) f = declare_keeps s d.name part f.0
after_top_keeps main s (control p c) f = declare_keeps s c.name part f.0

pub after_tops_keeps : (main : List (List ℕ)) (s : Scope) (ys : List Top) → IsFine (tops_tests main s ys) → Keeps s (after_tops s ys)
after_tops_keeps main s [] f = keeps_self s
after_tops_keeps main s (y ∷ ys) f = keeps_trans s (after_top s y) (after_tops (after_top s y) ys) (after_top_keeps main s y f.0) (after_tops_keeps main (after_top s y) ys f.1)

-- ---- declarations of names that are not old

pub skip_top : (old : Names) (s t : Scope) → Alike old s t → (y : Top) → NewTops old (y ∷ []) → Alike old s (after_top t y)
skip_top old s t a (constant p u x e) n = skip_alike old s t a x (value Constant u) n.0
skip_top old s t a (typedef p u x) n = skip_alike old s t a x (alias u) n.0
skip_top old s t a (header_type p x fs) n = skip_alike old s t a x (fields (Header (fields_bits t fs)) fs) n.0
skip_top old s t a (struct_type p x fs) n = skip_alike old s t a x (fields Struct fs) n.0
skip_top old s t a (register p r) n = skip_alike old s t a r.name (scope.register r.ty) n.0
skip_top old s t a (parser p d) n = skip_alike old s t a d.name part n.0
skip_top old s t a (control p c) n = skip_alike old s t a c.name part n.0

pub skip_tops : (old : Names) (s t : Scope) → Alike old s t → (ys : List Top) → NewTops old ys → Alike old s (after_tops t ys)
skip_tops old s t a [] n = a
skip_tops old s t a (y ∷ ys) n = skip_tops old s (after_top t y) (skip_top old s t a y (n.0, tt)) ys n.1

pub skip_local : (old : Names) (s t : Scope) → Alike old s t → (l : Local) → NewLocals old (l ∷ []) → Alike old s (after_local t l)
skip_local old s t a (local_action p b) n = skip_alike old s t a b.name (action b.params (most_of t b.body)) n.0
skip_local old s t a (local_table p b) n = skip_alike old s t a b.name (table (most_of_table t b.actions b.default)) n.0
skip_local old s t a (local_register p r) n = skip_alike old s t a r.name (scope.register r.ty) n.0
skip_local old s t a (local_const p u x e) n = skip_alike old s t a x (value Constant u) n.0
skip_local old s t a (local_var p u x e) n = skip_alike old s t a x (value Writable u) n.0

pub skip_locals : (old : Names) (s t : Scope) → Alike old s t → (ls : List Local) → NewLocals old ls → Alike old s (after_locals t ls)
skip_locals old s t a [] n = a
skip_locals old s t a (l ∷ ls) n = skip_locals old s (after_local t l) (skip_local old s t a l (n.0, tt)) ls n.1

pub skip_states : (old : Names) (s t : Scope) → Alike old s t → (sts : List ParserState) → NewStates old sts → Alike old s (with_states t sts)
skip_states old s t a [] n = a
skip_states old s t a (st ∷ sts) n = skip_states old s (with_state t st.name) (by (is_missing (t (st.name ∷ [])))) sts n.1
  where
    by : (b : Bool) → Alike old s (cond b (declare t st.name parser_state) t)
    by true = skip_alike old s t a st.name parser_state n.0
    by false = a

skip_stmt : (old : Names) (s t : Scope) → Alike old s t → (c : Stmt) → NewVar old c → Alike old s (after t c)
skip_stmt old s t a (var p u x e) n = skip_alike old s t a x (value Writable u) n
skip_stmt old s t a (nothing p) n = a
skip_stmt old s t a (block p b) n = a
skip_stmt old s t a (assign p x e) n = a
skip_stmt old s t a (choice p e b c) n = a
skip_stmt old s t a (return_ p) n = a
skip_stmt old s t a (exit_ p) n = a
skip_stmt old s t a (call p x args) n = a

pub skip_stmts : (old : Names) (s t : Scope) → Alike old s t → (b : Stmts) → NewVars old b → Alike old s (after_all t b)
skip_stmts old s t a done n = a
skip_stmts old s t a (next c b) n = skip_stmts old s (after t c) (skip_stmt old s t a c n.0) b n.1
