-- The declarations of a control: its variables, actions and tables are own.
use Rattle.std.proofs.Common.{◌≡◌, ℕ, List, [], ◌∷◌, ◌++◌, map, Bool, false, cond, codes, Option, Some, None, refl, sym, ap, ◌∙◌}
use Rattle.std.specs.List.{list_any, AllByRecursion}
use Rattle.lex_text.specs.Names.{same_text}
use Rattle.rule_tests.specs.Tests.{IsFine}
use Rattle.p4_tree.specs.Tree.{Expr, Local, local_action, local_table, local_register, local_const, local_var}
use Rattle.p4_tree.specs.declared.statement.PTy.{PTy}
use Rattle.p4_meaning.specs.Scope as meaning
use Rattle.p4_meaning.specs.Scope.{is_among, full, full_name, first_name, own_names}
use Rattle.p4_meaning.specs.Under.{behind_local, settings_under}
use Rattle.p4_meaning.specs.Actions.{Action, in_action, param_under, action_under, actions_in, action_named}
use Rattle.p4_meaning.specs.Tables.{key_under, default_under, tables_in}
use Rattle.p4_meaning.specs.Parts.{registers_in}
use Rattle.p4_scopes.specs.Scopes.{Scope}
use Rattle.p4_statement_rules.specs.declared.rule.Part.{Part}
use Rattle.p4_declaration_rules.specs.Declarations.{with_params}
use Rattle.p4_declaration_rules.specs.Controls.{action_part, after_local, locals_tests}
use Rattle.p4_rule_laws.specs.Old.{OldPath, OldFields}
use Rattle.p4_rule_laws.specs.OldPrograms.{OldKeys, OldDefault, OldLocals}
use Rattle.p4_typing_laws.proofs.Fine.{neither}
use Rattle.p4_typing_laws.proofs.FullNames.{full_has, among_head, other_text, Knows, knows_rest}
use Rattle.exit_statements.specs.Without.{no_exits, stmts_leave}
use Rattle.exit_programs.specs.Laws.{local_leaves}
use Rattle.p4_typing_laws.specs.Plain.{has_point}
use Rattle.own_code.specs.Regions.{is_mine}
use Rattle.own_code.specs.Forwarding.{IsOwnExpr, AreOwnStmts, AreVars, IsOwnAction, IsOwnTable}
use Rattle.own_programs.specs.OwnPrograms.{is_own, stmts_tell_reports, local_tells_reports}
use Rattle.own_programs.proofs.Names.{broken, own_not, name_own, first_own, expr_own, start_own}
use Rattle.own_programs.proofs.Places.{IsPlace, place_local, place_action}
use Rattle.own_programs.proofs.Blocks.{block_own}

-- ---- variables

pub settings_own : (ls : List Local) (sd : meaning.Scope) → OldLocals is_own ls → AreOwnStmts (settings_under sd ls)
settings_own [] sd o = tt
settings_own (local_var p t x e ∷ ls) sd o = ((own_not (first_name sd x) (first_own sd x o.0.1), start_own sd e o.0.2), settings_own ls sd o.1)
settings_own (local_action p a ∷ ls) sd o = settings_own ls sd o.1
settings_own (local_table p t ∷ ls) sd o = settings_own ls sd o.1
settings_own (local_register p r ∷ ls) sd o = settings_own ls sd o.1
settings_own (local_const p t x e ∷ ls) sd o = settings_own ls (behind_local sd (local_const p t x e)) o.1

pub settings_vars : (ls : List Local) (sd : meaning.Scope) → AreVars (settings_under sd ls)
settings_vars [] sd = tt
settings_vars (local_var p t x e ∷ ls) sd = settings_vars ls sd
settings_vars (local_action p a ∷ ls) sd = settings_vars ls sd
settings_vars (local_table p t ∷ ls) sd = settings_vars ls sd
settings_vars (local_register p r ∷ ls) sd = settings_vars ls sd
settings_vars (local_const p t x e ∷ ls) sd = settings_vars ls (behind_local sd (local_const p t x e))

-- ---- tables and registers

keys_own : (sd : meaning.Scope) (ks : List (Expr × List ℕ)) → OldKeys is_own ks → AllByRecursion (λ k. IsOwnExpr k.value) (map (key_under sd) ks)
keys_own sd [] o = tt
keys_own sd (k ∷ ks) o = (expr_own sd k.0 o.0, keys_own sd ks o.1)

names_own : (sd : meaning.Scope) (xs : List (List ℕ)) → OldPath is_own xs → AllByRecursion (λ x. is_mine x ≡ false) (map (full_name sd) xs)
names_own sd [] o = tt
names_own sd (x ∷ xs) o = (own_not (full_name sd x) (name_own sd x o.0), names_own sd xs o.1)

-- `NoAction`, where no default is written
default_own : (sd : meaning.Scope) (as' : List Action) (d : Option (List ℕ × List Expr)) → OldDefault is_own d → is_mine (default_under sd as' d).action ≡ false
default_own sd as' None o = refl
default_own sd as' (Some d) o = own_not (full_name sd d.0) (name_own sd d.0 o.0)

pub tables_own : (as' : List Action) (ls : List Local) (sd : meaning.Scope) → OldLocals is_own ls → AllByRecursion IsOwnTable (tables_in sd as' ls)
tables_own as' [] sd o = tt
tables_own as' (local_table p t ∷ ls) sd o = (
  record {
    name = own_not (full_name sd t.name) (name_own sd t.name o.0.name);
    keys = keys_own sd t.keys o.0.keys;
    actions = (default_own sd as' t.default o.0.default, names_own sd t.actions o.0.actions);
  },
  tables_own as' ls sd o.1,
)
tables_own as' (local_var p t x e ∷ ls) sd o = tables_own as' ls sd o.1
tables_own as' (local_action p a ∷ ls) sd o = tables_own as' ls sd o.1
tables_own as' (local_register p r ∷ ls) sd o = tables_own as' ls sd o.1
tables_own as' (local_const p t x e ∷ ls) sd o = tables_own as' ls (behind_local sd (local_const p t x e)) o.1

pub registers_own : (ls : List Local) (sd : meaning.Scope) → OldLocals is_own ls → AllByRecursion (λ c. is_mine c.name ≡ false) (registers_in sd ls)
registers_own [] sd o = tt
registers_own (local_register p r ∷ ls) sd o = (own_not (full_name sd r.name) (name_own sd r.name o.0.0), registers_own ls sd o.1)
registers_own (local_var p t x e ∷ ls) sd o = registers_own ls sd o.1
registers_own (local_action p a ∷ ls) sd o = registers_own ls sd o.1
registers_own (local_table p t ∷ ls) sd o = registers_own ls sd o.1
registers_own (local_const p t x e ∷ ls) sd o = registers_own ls sd o.1

-- ---- actions

params_own : (sd : meaning.Scope) (qs : List (PTy × List ℕ)) → OldFields is_own qs → AllByRecursion (λ q. is_mine q.name ≡ false) (map (param_under sd) qs)
params_own sd [] o = tt
params_own sd (q ∷ qs) o = (own_not (first_name sd q.1) (first_own sd q.1 o.1), params_own sd qs o.2)

still_outer : (sd : meaning.Scope) (l : Local) → sd.inner ≡ None → (behind_local sd l).inner ≡ None
still_outer sd (local_const p t x e) e0 = e0
still_outer sd (local_var p t x e) e0 = e0
still_outer sd (local_action p a) e0 = e0
still_outer sd (local_table p t) e0 = e0
still_outer sd (local_register p r) e0 = e0

pub actions_own : (h : Part) (ls : List Local) (s : Scope) (sd : meaning.Scope) → sd.inner ≡ None → IsPlace s sd → OldLocals is_own ls → list_any local_leaves ls ≡ false → list_any local_tells_reports ls ≡ false → IsFine (locals_tests h s ls) → AllByRecursion IsOwnAction (actions_in sd ls)
actions_own h [] s sd outer b o l t f = tt
actions_own h (local_action p a ∷ ls) s sd outer b o l t f =
    (let l1 = neither (stmts_leave no_exits a.body) (list_any local_leaves ls) l in
    let t1 = neither (stmts_tell_reports a.body) (list_any local_tells_reports ls) t in (
      record {
        name = own_not (full_name sd a.name) (name_own sd a.name o.0.0);
        params = params_own (in_action sd a) a.params o.0.1;
        body = block_own (in_action sd a) a.body (action_part h) (with_params s a.params) (place_action (action_part h) s sd a outer b f.0.1) o.0.2 l1.0 t1.0 f.0.1.1.1;
      },
      actions_own h ls (after_local s (local_action p a)) sd outer (place_local h s sd (local_action p a) b f.0) o.1 l1.1 t1.1 f.1,
    ))
actions_own h (local_table p u ∷ ls) s sd outer b o l t f = actions_own h ls (after_local s (local_table p u)) sd outer (place_local h s sd (local_table p u) b f.0) o.1 l t f.1
actions_own h (local_register p r ∷ ls) s sd outer b o l t f = actions_own h ls (after_local s (local_register p r)) sd outer (place_local h s sd (local_register p r) b f.0) o.1 l t f.1
actions_own h (local_const p u x e ∷ ls) s sd outer b o l t f = actions_own h ls (after_local s (local_const p u x e)) (behind_local sd (local_const p u x e)) (still_outer sd (local_const p u x e) outer) (place_local h s sd (local_const p u x e) b f.0) o.1 l t f.1
actions_own h (local_var p u x e ∷ ls) s sd outer b o l t f = actions_own h ls (after_local s (local_var p u x e)) sd outer (place_local h s sd (local_var p u x e) b f.0) o.1 l t f.1

-- none is called `NoAction`, since a point stands in each full name
no_action_name : (c x : List ℕ) → same_text (full c x) (codes "NoAction") ≡ false
no_action_name c x = other_text (full c x) (codes "NoAction") (λ e. broken (sym (full_has c x) ∙ ap has_point e))

pub no_action_in : (c : List ℕ) (ls : List Local) (sd : meaning.Scope) → Knows c sd ls → (rest : List Action) → action_named (actions_in sd ls ++ rest) (codes "NoAction") ≡ action_named rest (codes "NoAction")
no_action_in c [] sd k rest = refl
no_action_in c (local_action p a ∷ ls) sd k rest =
    (let named : full_name sd a.name ≡ full sd.control a.name = ap (λ (b : Bool). cond b (full sd.control a.name) a.name) (k.names a.name (among_head a.name (own_names ls))) in
    let other : same_text (full_name sd a.name) (codes "NoAction") ≡ false = ap (λ (y : List ℕ). same_text y (codes "NoAction")) named ∙ no_action_name sd.control a.name in
    ap (λ (b : Bool). cond b (Some (action_under sd a)) (action_named (actions_in sd ls ++ rest) (codes "NoAction"))) other ∙ no_action_in c ls sd (knows_rest c sd (local_action p a) ls k) rest)
no_action_in c (local_table p u ∷ ls) sd k rest = no_action_in c ls sd (knows_rest c sd (local_table p u) ls k) rest
no_action_in c (local_register p r ∷ ls) sd k rest = no_action_in c ls sd (knows_rest c sd (local_register p r) ls k) rest
no_action_in c (local_const p u x e ∷ ls) sd k rest = no_action_in c ls (behind_local sd (local_const p u x e)) (knows_rest c sd (local_const p u x e) ls k) rest
no_action_in c (local_var p u x e ∷ ls) sd k rest = no_action_in c ls sd (knows_rest c sd (local_var p u x e) ls k) rest
