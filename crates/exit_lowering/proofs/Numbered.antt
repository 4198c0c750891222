-- Tables, registers and actions have the numbers that they had.
use Rattle.std.proofs.Common.{codes, ◌≡◌, ℕ, List, [], ◌∷◌, ◌++◌, map, Bool, true, false, refl, ap, ap₂, ◌∙◌}
use Rattle.p4_tree.specs.Tree.{Local, local_action, local_table, local_register, local_const, local_var, Top, constant, typedef, header_type, struct_type, register, parser, control, Program}
use Rattle.p4_types.specs.Numbers.{Sort, tables, registers, actions, local_name, all_dotted, locals_names, top_names, tops_names, names}
use Rattle.exit_statements.specs.Without.{Exits}
use Rattle.exit_programs.specs.Programs.{exits_in, local_without, control_leaves, with_flag, top_without, program_without}

one : (s : Sort) (l : Local) → local_name s (local_without l) ≡ local_name s l
one tables (local_action p a) = refl
one tables (local_table p t) = refl
one tables (local_register p r) = refl
one tables (local_const p t x e) = refl
one tables (local_var p t x e) = refl
one registers (local_action p a) = refl
one registers (local_table p t) = refl
one registers (local_register p r) = refl
one registers (local_const p t x e) = refl
one registers (local_var p t x e) = refl
one actions (local_action p a) = refl
one actions (local_table p t) = refl
one actions (local_register p r) = refl
one actions (local_const p t x e) = refl
one actions (local_var p t x e) = refl

mapped : (s : Sort) (c : List ℕ) (ls : List Local) → locals_names s c (map local_without ls) ≡ locals_names s c ls
mapped s c [] = refl
mapped s c (l ∷ ls) = ap₂ (λ (xs ys : List (List ℕ)). all_dotted c xs ++ ys) (one s l) (mapped s c ls)

flagged : (s : Sort) (c : List ℕ) (b : Bool) (ls : List Local) → locals_names s c (with_flag b ls) ≡ locals_names s c ls
flagged s c false ls = refl
flagged tables c true ls = refl
flagged registers c true ls = refl
flagged actions c true ls = refl

top_same : (s : Sort) (m : Exits) (t : Top) → top_names s (top_without m t) ≡ top_names s t
top_same s m (constant p t x e) = refl
top_same s m (typedef p t x) = refl
top_same s m (header_type p x fs) = refl
top_same s m (struct_type p x fs) = refl
top_same s m (register p r) = refl
top_same s m (parser p d) = refl
top_same tables m (control p c) = flagged tables c.name (control_leaves m c) (map local_without c.locals) ∙ mapped tables c.name c.locals
top_same registers m (control p c) = flagged registers c.name (control_leaves m c) (map local_without c.locals) ∙ mapped registers c.name c.locals
top_same actions m (control p c) = flagged actions c.name (control_leaves m c) (map local_without c.locals) ∙ mapped actions c.name c.locals

tops_same : (s : Sort) (m : Exits) (ts : List Top) → tops_names s (map (top_without m) ts) ≡ tops_names s ts
tops_same s m [] = refl
tops_same s m (t ∷ ts) = ap₂ (λ (xs ys : List (List ℕ)). xs ++ ys) (top_same s m t) (tops_same s m ts)

pub numbers_same : (s : Sort) (p : Program) → names s (program_without p) ≡ names s p
numbers_same tables p = tops_same tables (exits_in p) p.tops
numbers_same registers p = tops_same registers (exits_in p) p.tops
numbers_same actions p = ap (λ (xs : List (List ℕ)). xs ++ codes "NoAction" ∷ []) (tops_same actions (exits_in p) p.tops)
