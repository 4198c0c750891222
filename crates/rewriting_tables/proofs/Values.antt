-- What the keys of tables and the parameters of actions hold is the same with other values.
use Rattle.std.proofs.Common.{◌≡◌, ℕ, List, [], ◌∷◌, ◌++◌, refl, ap, ap₂, ◌∙◌}
use Rattle.std.specs.List.{AllZip}
use Rattle.rule_tests.specs.Tests.{IsFine}
use Rattle.p4_tree.specs.Tree.{Expr, Action, Local, Control, Top, control}
use Rattle.p4_scopes.specs.Kinds.{as_value}
use Rattle.p4_scopes.specs.Scopes.{Scope, own}
use Rattle.p4_statement_rules.specs.declared.rule.Part.{Part}
use Rattle.p4_declaration_rules.specs.Tables.{keys_tests}
use Rattle.p4_declaration_rules.specs.Parsers.{with_ways}
use Rattle.p4_declaration_rules.specs.Controls.{part_in, local_tests, after_local, locals_tests, top_tests, after_top, tops_tests}
use Rattle.value_shapes.specs.Values.{value_of, key_values, param_values, local_values, locals_values, top_values, tops_values}
use Rattle.value_shapes.specs.declared.values.Holder.{Holder}
use Rattle.value_shapes.specs.declared.values.Holder.TheVariants.{Keys, Params}
use Rattle.value_shapes.specs.declared.values.ValueShape.{ValueShape}
use Rattle.rewriting_laws.specs.Standing.{MayStandFor}
use Rattle.rewritten_programs.specs.Rewritten.{KeyRewritten, LocalRewritten, in_action, in_table, local_register_stays, local_const_stays, in_local_var, TopRewritten, constant_stays, typedef_stays, header_stays, struct_stays, register_stays, parser_stays, in_control}
use Rattle.rewriting_rules.specs.Knows.{Knows}
use Rattle.rewriting_rules.proofs.Knows.{local_knows, ways_know, top_knows}
use Rattle.rewriting_rules.proofs.Controls.{locals_after}
use Rattle.rewriting_rules.proofs.Programs.{TopsRewritten}

keys_same : (s : Scope) → Knows s → (ks ls : List (Expr × List ℕ)) → AllZip (KeyRewritten MayStandFor) ks ls → IsFine (keys_tests s ks) → key_values s ls ≡ key_values s ks
keys_same s k [] [] r f = refl
keys_same s k [] (l ∷ ls) r f = absurd r
keys_same s k (y ∷ ks) [] r f = absurd r
keys_same s k (y ∷ ks) (l ∷ ls) r f =
    ap₂ (λ (v : ValueShape) (vs : List ValueShape). v ∷ vs) (ap value_of ((r.0.0.typed s k.sound).wherever (as_value (own s y.0)) f.0).kind) (keys_same s k ks ls r.1 f.1)

local_same : (b : Holder) (h : Part) (s : Scope) → Knows s → (l m : Local) → LocalRewritten MayStandFor l m → IsFine (local_tests h s l) → local_values b s m ≡ local_values b s l
local_same Keys h s k _ _ (in_action p r) f = refl
local_same Keys h s k _ _ (in_table {t = t} {u = u} p r) f = ap (λ (vs : List ValueShape). vs ∷ []) (keys_same s k t.keys u.keys r.keys f.1.1.1.0)
local_same Keys h s k _ _ (local_register_stays p r) f = refl
local_same Keys h s k _ _ (local_const_stays p t x e) f = refl
local_same Keys h s k _ _ (in_local_var p t x r) f = refl
local_same Params h s k _ _ (in_action p r) f = ap (λ (a : Action). param_values s a.params ∷ []) r.rest
local_same Params h s k _ _ (in_table p r) f = refl
local_same Params h s k _ _ (local_register_stays p r) f = refl
local_same Params h s k _ _ (local_const_stays p t x e) f = refl
local_same Params h s k _ _ (in_local_var p t x r) f = refl

-- what is in sight behind a declaration stays
local_after : (h : Part) (s : Scope) → Knows s → (l m : Local) → LocalRewritten MayStandFor l m → IsFine (local_tests h s l) → after_local s m ≡ after_local s l
local_after h s k l m r f = locals_after h (l ∷ []) (m ∷ []) s k (r, tt) (f, tt)

locals_same : (b : Holder) (h : Part) (ls ms : List Local) (s : Scope) → Knows s → AllZip (LocalRewritten MayStandFor) ls ms → IsFine (locals_tests h s ls) → locals_values b s ms ≡ locals_values b s ls
locals_same b h [] [] s k r f = refl
locals_same b h [] (m ∷ ms) s k r f = absurd r
locals_same b h (l ∷ ls) [] s k r f = absurd r
locals_same b h (l ∷ ls) (m ∷ ms) s k r f =
    ap₂ (λ (xs ys : List (List ValueShape)). xs ++ ys) (local_same b h s k l m r.0 f.0)
    (ap (λ (t : Scope). locals_values b t ms) (local_after h s k l m r.0 f.0) ∙ locals_same b h ls ms (after_local s l) (local_knows h s k l f.0) r.1 f.1)

top_same : (b : Holder) (main : List (List ℕ)) (s : Scope) → Knows s → (t u : Top) → TopRewritten MayStandFor t u → IsFine (top_tests main s t) → top_values b s u ≡ top_values b s t
top_same b main s k _ _ (constant_stays p t x e) f = refl
top_same b main s k _ _ (typedef_stays p t x) f = refl
top_same b main s k _ _ (header_stays p x fs) f = refl
top_same b main s k _ _ (struct_stays p x fs) f = refl
top_same b main s k _ _ (register_stays p r) f = refl
top_same b main s k _ _ (parser_stays p d) f = refl
top_same b main s k _ _ (in_control {c = c} {d = d} p r) f =
    ap (λ (e : Control). locals_values b (with_ways s e.params) d.locals) r.rest
    ∙ locals_same b (part_in main c.name) c.locals d.locals (with_ways s c.params) (ways_know c.params s k f.1.0) r.locals f.1.1.0

top_after : (s : Scope) (t u : Top) → TopRewritten MayStandFor t u → after_top s u ≡ after_top s t
top_after s _ _ (constant_stays p t x e) = refl
top_after s _ _ (typedef_stays p t x) = refl
top_after s _ _ (header_stays p x fs) = refl
top_after s _ _ (struct_stays p x fs) = refl
top_after s _ _ (register_stays p r) = refl
top_after s _ _ (parser_stays p d) = refl
top_after s _ _ (in_control p r) = ap (λ (e : Control). after_top s (control p e)) r.rest

pub tops_same : (b : Holder) (main : List (List ℕ)) (ts us : List Top) (s : Scope) → Knows s → TopsRewritten ts us → IsFine (tops_tests main s ts) → tops_values b s us ≡ tops_values b s ts
tops_same b main [] [] s k r f = refl
tops_same b main [] (u ∷ us) s k r f = absurd r
tops_same b main (t ∷ ts) [] s k r f = absurd r
tops_same b main (t ∷ ts) (u ∷ us) s k r f =
    ap₂ (λ (xs ys : List (List ValueShape)). xs ++ ys) (top_same b main s k t u r.0 f.0)
    (ap (λ (v : Scope). tops_values b v us) (top_after s t u r.0) ∙ tops_same b main ts us (after_top s t) (top_knows main s k t f.0) r.1 f.1)
