-- What is known of a scope stays known behind each declaration that breaks no rule.
use Rattle.std.proofs.Common.{ℕ, List, [], ◌∷◌}
use Rattle.rule_tests.specs.Tests.{IsFine}
use Rattle.p4_tree.specs.Tree.{Stmt, nothing, block, var, assign, choice, return_, exit_, call, Local, local_action, local_table, local_register, local_const, local_var, Control, Top, constant, typedef, header_type, struct_type, register, parser, control}
use Rattle.p4_tree.specs.declared.statement.PTy.{PTy}
use Rattle.p4_tree.specs.declared.program.Param.{Param}
use Rattle.p4_scopes.specs.Scopes as scope
use Rattle.p4_scopes.specs.Scopes.{Scope, alias, fields, value, action, table, part, core, fields_bits}
use Rattle.p4_scopes.specs.declared.thing.Thing.TheVariants.{Header, Struct}
use Rattle.p4_scopes.specs.declared.thing.Access.TheVariants.{Writable, Fixed, Constant}
use Rattle.p4_statement_rules.specs.Statements.{after, stmt_tests}
use Rattle.p4_statement_rules.specs.declared.rule.Part.{Part}
use Rattle.p4_declaration_rules.specs.Declarations.{params_tests, with_params}
use Rattle.p4_declaration_rules.specs.Digests.{most_of, most_of_table}
use Rattle.p4_declaration_rules.specs.Parsers.{way_access, with_ways, ways_tests}
use Rattle.p4_declaration_rules.specs.Controls.{local_tests, after_local, locals_tests, after_locals, control_tests, in_control, top_tests, after_top}
use Rattle.p4_typing_laws.proofs.Fine.{twice_not}
use Rattle.p4_typing_laws.proofs.SoundScopes.{value_sound, core_sound}
use Rattle.p4_typing_laws.proofs.SoundPlaces.{after_sound, local_sound, top_sound}
use Rattle.p4_typing_laws.proofs.CountedNames.{core_keeps, declare_keeps, quiet_calls, action_calls, table_calls, core_calls}
use Rattle.rewriting_rules.specs.Knows.{Any, Knows}

pub core_knows : Knows core
core_knows = record { sound = core_sound; core = core_keeps; calls = core_calls Any Any }

pub after_knows : (h : Part) (s : Scope) → Knows s → (c : Stmt) → IsFine (stmt_tests h s c) → Knows (after s c)
after_knows h s k (nothing p) f = k
after_knows h s k (block p b) f = k
after_knows h s k (var p t x e) f =
    record {
      sound = after_sound h s k.sound (var p t x e) f;
      core = declare_keeps s k.core x (value Writable t) (twice_not _ f.1.0);
      calls = quiet_calls Any Any s k.calls x (value Writable t) tt;
    }
after_knows h s k (assign p x e) f = k
after_knows h s k (choice p e a b) f = k
after_knows h s k (return_ p) f = k
after_knows h s k (exit_ p) f = k
after_knows h s k (call p x args) f = k

pub local_knows : (h : Part) (s : Scope) → Knows s → (l : Local) → IsFine (local_tests h s l) → Knows (after_local s l)
local_knows h s k (local_action p a) f =
    record {
      sound = local_sound h s k.sound (local_action p a) f;
      core = declare_keeps s k.core a.name (action a.params (most_of s a.body)) (twice_not _ f.1.0);
      calls = action_calls Any Any s k.calls a.name a.params (most_of s a.body) tt;
    }
local_knows h s k (local_table p t) f =
    record {
      sound = local_sound h s k.sound (local_table p t) f;
      core = declare_keeps s k.core t.name (table (most_of_table s t.actions t.default)) (twice_not _ f.1.0);
      calls = table_calls Any Any s k.calls t.name (most_of_table s t.actions t.default) tt;
    }
local_knows h s k (local_register p r) f =
    record {
      sound = local_sound h s k.sound (local_register p r) f;
      core = declare_keeps s k.core r.name (scope.register r.ty) (twice_not _ f.1.0);
      calls = quiet_calls Any Any s k.calls r.name (scope.register r.ty) tt;
    }
local_knows h s k (local_const p t x e) f =
    record {
      sound = local_sound h s k.sound (local_const p t x e) f;
      core = declare_keeps s k.core x (value Constant t) (twice_not _ f.1.0);
      calls = quiet_calls Any Any s k.calls x (value Constant t) tt;
    }
local_knows h s k (local_var p t x e) f =
    record {
      sound = local_sound h s k.sound (local_var p t x e) f;
      core = declare_keeps s k.core x (value Writable t) (twice_not _ f.1.0);
      calls = quiet_calls Any Any s k.calls x (value Writable t) tt;
    }

pub locals_know : (h : Part) (ls : List Local) (s : Scope) → Knows s → IsFine (locals_tests h s ls) → Knows (after_locals s ls)
locals_know h [] s k f = k
locals_know h (l ∷ ls) s k f = locals_know h ls (after_local s l) (local_knows h s k l f.0) f.1

pub params_know : (p : ℕ) (qs : List (PTy × List ℕ)) (s : Scope) → Knows s → IsFine (params_tests p s qs) → Knows (with_params s qs)
params_know p [] s k f = k
params_know p (q ∷ qs) s k f =
    let next : Knows (scope.declare s q.1 (value Fixed q.0)) = record {
      sound = value_sound p s k.sound q.1 Fixed q.0 f.0.1.0;
      core = declare_keeps s k.core q.1 (value Fixed q.0) (twice_not _ f.0.0);
      calls = quiet_calls Any Any s k.calls q.1 (value Fixed q.0) tt;
    } in
    params_know p qs (scope.declare s q.1 (value Fixed q.0)) next f.1

pub ways_know : (qs : List Param) (s : Scope) → Knows s → IsFine (ways_tests s qs) → Knows (with_ways s qs)
ways_know [] s k f = k
ways_know (q ∷ qs) s k f =
    let a = way_access q.way in
    let next : Knows (scope.declare s q.name (value a q.ty)) = record {
      sound = value_sound q.at s k.sound q.name a q.ty f.0.1;
      core = declare_keeps s k.core q.name (value a q.ty) (twice_not _ f.0.0);
      calls = quiet_calls Any Any s k.calls q.name (value a q.ty) tt;
    } in
    ways_know qs (scope.declare s q.name (value a q.ty)) next f.1

pub inside_knows : (h : Part) (s : Scope) → Knows s → (c : Control) → IsFine (control_tests h s c) → Knows (in_control s c)
inside_knows h s k c f = locals_know h c.locals (with_ways s c.params) (ways_know c.params s k f.1.0) f.1.1.0

pub top_knows : (main : List (List ℕ)) (s : Scope) → Knows s → (t : Top) → IsFine (top_tests main s t) → Knows (after_top s t)
top_knows main s k (constant p t x e) f =
    record { sound = top_sound main s k.sound (constant p t x e) f; core = declare_keeps s k.core x (value Constant t) (twice_not _ f.0); calls = quiet_calls Any Any s k.calls x (value Constant t) tt }
top_knows main s k (typedef p t x) f =
    record { sound = top_sound main s k.sound (typedef p t x) f; core = declare_keeps s k.core x (alias t) (twice_not _ f.0); calls = quiet_calls Any Any s k.calls x (alias t) tt }
top_knows main s k (header_type p x fs) f =
    record { sound = top_sound main s k.sound (header_type p x fs) f; core = declare_keeps s k.core x (fields (Header (fields_bits s fs)) fs) (twice_not _ f.0); calls = quiet_calls Any Any s k.calls x (fields (Header (fields_bits s fs)) fs) tt }
top_knows main s k (struct_type p x fs) f =
    record { sound = top_sound main s k.sound (struct_type p x fs) f; core = declare_keeps s k.core x (fields Struct fs) (twice_not _ f.0); calls = quiet_calls Any Any s k.calls x (fields Struct fs) tt }
top_knows main s k (register p r) f =
    record { sound = top_sound main s k.sound (register p r) f; core = declare_keeps s k.core r.name (scope.register r.ty) (twice_not _ f.0); calls = quiet_calls Any Any s k.calls r.name (scope.register r.ty) tt }
top_knows main s k (parser p d) f =
    record { sound = top_sound main s k.sound (parser p d) f; core = declare_keeps s k.core d.name part (twice_not _ f.0); calls = quiet_calls Any Any s k.calls d.name part tt }
top_knows main s k (control p c) f =
    record { sound = top_sound main s k.sound (control p c) f; core = declare_keeps s k.core c.name part (twice_not _ f.0); calls = quiet_calls Any Any s k.calls c.name part tt }
