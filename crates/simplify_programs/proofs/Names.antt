-- Tables, registers and actions keep their names.
use Rattle.std.proofs.Common.{◌≡◌, ℕ, List, [], ◌∷◌, ◌++◌, codes, refl, ap, ap₂, ◌∙◌}
use Rattle.std.specs.List.{AllZip}
use Rattle.p4_tree.specs.Tree.{Action, Table, Local, local_action, local_table, Control, Top, Program}
use Rattle.p4_types.specs.Numbers.{Sort, tables, registers, actions, local_name, all_dotted, locals_names, top_names, tops_names, names}
use Rattle.rewriting_laws.specs.Standing.{MayStandFor}
use Rattle.rewritten_programs.specs.Rewritten.{ActionRewritten, TableRewritten, LocalRewritten, in_action, in_table, local_register_stays, local_const_stays, in_local_var, ControlRewritten, TopRewritten, constant_stays, typedef_stays, header_stays, struct_stays, register_stays, parser_stays, in_control, ProgramRewritten}

action_name : (s : Sort) (p : ℕ) (a b : Action) → ActionRewritten MayStandFor a b → local_name s (local_action p b) ≡ local_name s (local_action p a)
action_name tables p a b r = refl
action_name registers p a b r = refl
action_name actions p a b r = ap (λ (c : Action). c.name ∷ []) r.rest

table_name : (s : Sort) (p : ℕ) (t u : Table) → TableRewritten MayStandFor t u → local_name s (local_table p u) ≡ local_name s (local_table p t)
table_name tables p t u r = ap (λ (v : Table). v.name ∷ []) r.rest
table_name registers p t u r = refl
table_name actions p t u r = refl

local_same : (s : Sort) (l m : Local) → LocalRewritten MayStandFor l m → local_name s m ≡ local_name s l
local_same s _ _ (in_action {a = a} {b = b} p r) = action_name s p a b r
local_same s _ _ (in_table {t = t} {u = u} p r) = table_name s p t u r
local_same s _ _ (local_register_stays p r) = refl
local_same s _ _ (local_const_stays p t x e) = refl
local_same tables _ _ (in_local_var p t x r) = refl
local_same registers _ _ (in_local_var p t x r) = refl
local_same actions _ _ (in_local_var p t x r) = refl

locals_same : (s : Sort) (c : List ℕ) (ls ms : List Local) → AllZip (LocalRewritten MayStandFor) ls ms → locals_names s c ms ≡ locals_names s c ls
locals_same s c [] [] r = refl
locals_same s c [] (m ∷ ms) r = absurd r
locals_same s c (l ∷ ls) [] r = absurd r
locals_same s c (l ∷ ls) (m ∷ ms) r = ap₂ (λ (xs ys : List (List ℕ)). all_dotted c xs ++ ys) (local_same s l m r.0) (locals_same s c ls ms r.1)

control_same : (s : Sort) (c d : Control) → ControlRewritten MayStandFor c d → locals_names s d.name d.locals ≡ locals_names s c.name c.locals
control_same s c d r = ap (λ (e : Control). locals_names s e.name d.locals) r.rest ∙ locals_same s c.name c.locals d.locals r.locals

top_same : (s : Sort) (t u : Top) → TopRewritten MayStandFor t u → top_names s u ≡ top_names s t
top_same s _ _ (constant_stays p t x e) = refl
top_same s _ _ (typedef_stays p t x) = refl
top_same s _ _ (header_stays p x fs) = refl
top_same s _ _ (struct_stays p x fs) = refl
top_same s _ _ (register_stays p r) = refl
top_same s _ _ (parser_stays p d) = refl
top_same tables _ _ (in_control {c = c} {d = d} p r) = control_same tables c d r
top_same registers _ _ (in_control {c = c} {d = d} p r) = control_same registers c d r
top_same actions _ _ (in_control {c = c} {d = d} p r) = control_same actions c d r

tops_same : (s : Sort) (ts us : List Top) → AllZip (TopRewritten MayStandFor) ts us → tops_names s us ≡ tops_names s ts
tops_same s [] [] r = refl
tops_same s [] (u ∷ us) r = absurd r
tops_same s (t ∷ ts) [] r = absurd r
tops_same s (t ∷ ts) (u ∷ us) r = ap₂ (λ (xs ys : List (List ℕ)). xs ++ ys) (top_same s t u r.0) (tops_same s ts us r.1)

pub names_stay : (s : Sort) (p q : Program) → ProgramRewritten MayStandFor p q → names s q ≡ names s p
names_stay tables p q r = tops_same tables p.tops q.tops r.tops
names_stay registers p q r = tops_same registers p.tops q.tops r.tops
names_stay actions p q r = ap (λ (xs : List (List ℕ)). xs ++ codes "NoAction" ∷ []) (tops_same actions p.tops q.tops r.tops)
