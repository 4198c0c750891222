-- What is known of names along a program and along statements: those of the architecture stand for what they do.
use Rattle.std.proofs.Common.{◌≡◌, ℕ, List, [], ◌∷◌, Bool, true, false, cond, ◌||◌, codes, refl, sym, ap, ◌∙◌}
use Rattle.lex_text.specs.Names.{same_text}
use Rattle.rule_tests.specs.Tests.{IsFine}
use Rattle.p4_tree.specs.Tree.{Stmt, nothing, block, var, assign, choice, return_, exit_, call, Local, local_action, local_table, local_register, local_const, local_var, ParserState}
use Rattle.p4_tree.specs.declared.statement.PTy.{PTy}
use Rattle.p4_tree.specs.declared.program.Param.{Param}
use Rattle.p4_meaning.specs.Scope as meaning
use Rattle.p4_meaning.specs.Scope.{is_among, full, full_name, own_names}
use Rattle.p4_meaning.specs.Under.{behind_local, behind_locals}
use Rattle.p4_scopes.specs.Scopes.{Stands, function, is_missing, Scope, What, alias, fields, value, action, table, parser_state, part, behind, declare, core_name, core}
use Rattle.p4_scopes.specs.Scopes as scope
use Rattle.p4_scopes.specs.declared.thing.Function.{Function}
use Rattle.p4_scopes.specs.declared.thing.Access.TheVariants.{Writable, Fixed, Constant}
use Rattle.p4_statement_rules.specs.Statements.{after, stmt_tests}
use Rattle.p4_statement_rules.specs.declared.rule.Part.{Part}
use Rattle.p4_declaration_rules.specs.Digests.{most_of, most_of_table}
use Rattle.p4_declaration_rules.specs.Declarations.{params_tests, with_params}
use Rattle.p4_declaration_rules.specs.Parsers.{way_access, with_ways, ways_tests, with_state, with_ends, with_states}
use Rattle.p4_declaration_rules.specs.Controls.{local_tests, locals_tests, after_local}
use Rattle.p4_typing_laws.proofs.Fine.{twice_not}
use Rattle.p4_typing_laws.proofs.CallCounts.{text_is}
use Rattle.p4_typing_laws.proofs.CountedNames.{KeepsCore, core_keeps, declare_keeps}
use Rattle.p4_typing_laws.proofs.CountedLocals.{own_missing}
use Rattle.p4_typing_laws.proofs.FullNames.{full_has, no_function}
use Rattle.passage_stores.specs.SeenStores.{is_function, KnowsCalls}
use Rattle.passage_stores.proofs.DeclaredTypes.{broken}

-- ---- by the rules

pub record KnowsNames (s : Scope) : Type 0 where
  pub core : KeepsCore s
  pub functions : (x : List ℕ) (f : Function) → s (x ∷ []) ≡ function f → core_name x ≡ function f

pub core_names : KnowsNames core
unfolding core
core_names = record { core = core_keeps; functions = λ x f e. e }

-- no declaration is of a function
no_function_declared : (s : Scope) (w : What) (f : Function) → behind s w [] ≡ function f → ⊥
no_function_declared s (alias t) f e = cc
no_function_declared s (fields h fs) f e = cc
no_function_declared s (value a t) f e = cc
no_function_declared s (scope.register t) f e = cc
no_function_declared s (action ps m) f e = cc
no_function_declared s (table m) f e = cc
no_function_declared s parser_state f e = cc
no_function_declared s part f e = cc

pub declare_names : (s : Scope) → KnowsNames s → (n : List ℕ) (w : What) → is_missing (s (n ∷ [])) ≡ true → KnowsNames (declare s n w)
unfolding declare
declare_names s k n w new = record { core = declare_keeps s k.core n w new; functions = λ x f e. go x f (same_text n x) e }
  where
    go : (x : List ℕ) (f : Function) (b : Bool) → cond b (behind s w []) (s (x ∷ [])) ≡ function f → core_name x ≡ function f
    go x f true e = absurd (no_function_declared s w f e)
    go x f false e = k.functions x f e

pub ways_names : (qs : List Param) (s : Scope) → KnowsNames s → IsFine (ways_tests s qs) → KnowsNames (with_ways s qs)
ways_names [] s k f = k
ways_names (q ∷ qs) s k f = ways_names qs (declare s q.name (value (way_access q.way) q.ty)) (declare_names s k q.name (value (way_access q.way) q.ty) (twice_not _ f.0.0)) f.1

pub params_names : (at : ℕ) (ps : List (PTy × List ℕ)) (s : Scope) → KnowsNames s → IsFine (params_tests at s ps) → KnowsNames (with_params s ps)
params_names at [] s k f = k
params_names at (q ∷ ps) s k f = params_names at ps (declare s q.1 (value Fixed q.0)) (declare_names s k q.1 (value Fixed q.0) (twice_not _ f.0.0)) f.1

state_names : (s : Scope) (x : List ℕ) → KnowsNames s → KnowsNames (with_state s x)
state_names s x k = go (is_missing (s (x ∷ []))) refl
  where
    go : (b : Bool) → is_missing (s (x ∷ [])) ≡ b → KnowsNames (cond b (declare s x parser_state) s)
    go true e = declare_names s k x parser_state e
    go false e = k

pub ends_names : (s : Scope) → KnowsNames s → KnowsNames (with_ends s)
ends_names s k = state_names (with_state s (codes "accept")) (codes "reject") (state_names s (codes "accept") k)

pub states_names : (us : List ParserState) (s : Scope) → KnowsNames s → KnowsNames (with_states s us)
states_names [] s k = k
states_names (u ∷ us) s k = states_names us (with_state s u.name) (state_names s u.name k)

pub local_names : (h : Part) (s : Scope) → KnowsNames s → (l : Local) → IsFine (local_tests h s l) → KnowsNames (after_local s l)
local_names h s k (local_action p a) f = declare_names s k a.name (action a.params (most_of s a.body)) (twice_not _ f.1.0)
local_names h s k (local_table p t) f = declare_names s k t.name (table (most_of_table s t.actions t.default)) (twice_not _ f.1.0)
local_names h s k (local_register p r) f = declare_names s k r.name (scope.register r.ty) (twice_not _ f.1.0)
local_names h s k (local_const p t x e) f = declare_names s k x (value Constant t) (twice_not _ f.1.0)
local_names h s k (local_var p t x e) f = declare_names s k x (value Writable t) (twice_not _ f.1.0)

pub after_names : (h : Part) (s : Scope) → KnowsNames s → (c : Stmt) → IsFine (stmt_tests h s c) → KnowsNames (after s c)
after_names h s k (nothing p) f = k
after_names h s k (block p b) f = k
after_names h s k (var p t x e) f = declare_names s k x (value Writable t) (twice_not _ f.1.0)
after_names h s k (assign p x e) f = k
after_names h s k (choice p e a b) f = k
after_names h s k (return_ p) f = k
after_names h s k (exit_ p) f = k
after_names h s k (call p x args) f = k

-- ---- in the meaning

pub record OwnsNone (sc : meaning.Scope) : Type 0 where
  pub full : (x : List ℕ) → is_function x ≡ true → full_name sc x ≡ x
  pub plain : (x : List ℕ) → is_function x ≡ false → is_function (full_name sc x) ≡ false

pub knows_calls : (s : Scope) (sc : meaning.Scope) → KnowsNames s → OwnsNone sc → KnowsCalls s sc
knows_calls s sc k o = record { core = k.core.kept; functions = k.functions; full = o.full; plain = o.plain }

-- outside of controls nothing is owned
pub outside_owns : (sc : meaning.Scope) → sc.own ≡ [] → OwnsNone sc
outside_owns sc e = record { full = λ x h. same x; plain = λ x h. ap is_function (same x) ∙ h }
  where
    same : (x : List ℕ) → full_name sc x ≡ x
    same x = ap (λ (o : List (List ℕ)). cond (is_among o x) (full sc.control x) x) e

-- the names that are called alone stand
function_there : (x : List ℕ) → is_function x ≡ true → is_missing (core_name x) ≡ false
function_there x h = go (same_text x (codes "mark_to_drop")) (same_text x (codes "digest")) (same_text x (codes "verify_checksum")) (same_text x (codes "update_checksum")) refl refl refl refl h
  where
    at : (y : List ℕ) → is_missing (core_name y) ≡ false → same_text x y ≡ true → is_missing (core_name x) ≡ false
    at y k e = ap (λ (z : List ℕ). is_missing (core_name z)) (text_is x y e) ∙ k

    go : (a b c d : Bool) → same_text x (codes "mark_to_drop") ≡ a → same_text x (codes "digest") ≡ b → same_text x (codes "verify_checksum") ≡ c → same_text x (codes "update_checksum") ≡ d → (a || b || c || d) ≡ true → is_missing (core_name x) ≡ false
    go true b c d i j k l m = at (codes "mark_to_drop") refl i
    go false true c d i j k l m = at (codes "digest") refl j
    go false false true d i j k l m = at (codes "verify_checksum") refl k
    go false false false true i j k l m = at (codes "update_checksum") refl l
    go false false false false i j k l m = broken (sym m)

-- in a control, whose own names are new
pub control_owns : (h : Part) (sd : meaning.Scope) (ls : List Local) (s : Scope) → sd.own ≡ own_names ls → KnowsNames s → IsFine (locals_tests h s ls) → OwnsNone sd
control_owns h sd ls s e k f = record { full = λ x i. full_is x i (is_among (own_names ls) x) refl; plain = λ x i. plain_is x i (is_among sd.own x) }
  where
    full_is : (x : List ℕ) → is_function x ≡ true → (b : Bool) → is_among (own_names ls) x ≡ b → full_name sd x ≡ x
    full_is x i true j =
        (let new = own_missing h ls s f x j in
        let there = function_there x i in
        broken (sym new ∙ ap is_missing (k.core.kept x there) ∙ there))
    full_is x i false j = ap (λ (o : List (List ℕ)). cond (is_among o x) (full sd.control x) x) e ∙ ap (λ (b : Bool). cond b (full sd.control x) x) j

    plain_is : (x : List ℕ) → is_function x ≡ false → (b : Bool) → is_function (cond b (full sd.control x) x) ≡ false
    plain_is x i true = no_function (full sd.control x) (full_has sd.control x)
    plain_is x i false = i

pub local_owns : (sd : meaning.Scope) (l : Local) → OwnsNone sd → OwnsNone (behind_local sd l)
local_owns sd (local_action p a) o = o
local_owns sd (local_table p t) o = o
local_owns sd (local_register p r) o = o
local_owns sd (local_const p t x e) o = record { full = o.full; plain = o.plain }
local_owns sd (local_var p t x e) o = o

pub locals_own : (ls : List Local) (sd : meaning.Scope) → OwnsNone sd → OwnsNone (behind_locals sd ls)
locals_own [] sd o = o
locals_own (l ∷ ls) sd o = locals_own ls (behind_local sd l) (local_owns sd l o)
