-- How many tables there are: as many as the program has names of tables.
use Rattle.std.proofs.Common.{◌≡◌, ℕ, suc, ◌+◌, ◌<◌, Bool, true, false, cond, List, [], ◌∷◌, length, Some, refl, ap, arith, length-append}
use Rattle.std.proofs.lemmas.List.{length-map}
use Rattle.lex_text.specs.Names.{same_text}
use Rattle.p4_tree.specs.Tree.{Local, local_action, local_table, local_register, local_const, local_var, Top, constant, typedef, header_type, struct_type, register, parser, control, Program}
use Rattle.p4_meaning.specs.Scope as meaning
use Rattle.p4_meaning.specs.Under.{no_scope, behind_top, behind_local, in_control}
use Rattle.p4_meaning.specs.Actions.{Action}
use Rattle.p4_meaning.specs.Tables.{Table, tables_in, tables_of}
use Rattle.p4_meaning.specs.Parts.{parts_of}
use Rattle.p4_types.specs.Numbers.{tables, names, locals_names, tops_names, number_from, number_in}
use Rattle.p4_tables.specs.State.{Held}
use Rattle.p4_tables.specs.Programs.{keys_hold, params_hold, tables_before, state_before, shapes}
use Rattle.value_shapes.specs.declared.values.ValueShape.{ValueShape}

-- a name's number is below the number of names
below : (m : ℕ) (xs : List (List ℕ)) (x : List ℕ) (n : ℕ) → Some n ≡ number_from m xs x → n < m + length xs
below m [] x n e = absurd cc
below m (y ∷ ys) x n e = by (below (suc m) ys x n) (same_text y x) e
  where
    by : (Some n ≡ number_from (suc m) ys x → n < suc m + length ys) → (b : Bool) → Some n ≡ cond b (Some m) (number_from (suc m) ys x) → n < m + suc (length ys)
    by again true e =
        let is : n ≡ m = cc in
        omega (arith, is)
    by again false e =
        let lt = again e in
        omega (arith, lt)

locals_many : (c : List ℕ) (as' : List Action) (ls : List Local) (sc : meaning.Scope) → length (tables_in sc as' ls) ≡ length (locals_names tables c ls)
locals_many c as' [] sc = refl
locals_many c as' (local_action p a ∷ ls) sc = locals_many c as' ls (behind_local sc (local_action p a))
locals_many c as' (local_table p t ∷ ls) sc = ap suc (locals_many c as' ls sc)
locals_many c as' (local_register p r ∷ ls) sc = locals_many c as' ls (behind_local sc (local_register p r))
locals_many c as' (local_const p ty x e ∷ ls) sc = locals_many c as' ls (behind_local sc (local_const p ty x e))
locals_many c as' (local_var p ty x e ∷ ls) sc = locals_many c as' ls (behind_local sc (local_var p ty x e))

tops_many : (as' : List Action) (ts : List Top) (sc : meaning.Scope) → length (tables_of sc as' ts) ≡ length (tops_names tables ts)
tops_many as' [] sc = refl
tops_many as' (constant p ty x e ∷ ts) sc = tops_many as' ts (behind_top sc (constant p ty x e))
tops_many as' (typedef p ty x ∷ ts) sc = tops_many as' ts (behind_top sc (typedef p ty x))
tops_many as' (header_type p x fs ∷ ts) sc = tops_many as' ts (behind_top sc (header_type p x fs))
tops_many as' (struct_type p x fs ∷ ts) sc = tops_many as' ts (behind_top sc (struct_type p x fs))
tops_many as' (register p r ∷ ts) sc = tops_many as' ts (behind_top sc (register p r))
tops_many as' (parser p d ∷ ts) sc = tops_many as' ts (behind_top sc (parser p d))
tops_many as' (control p c ∷ ts) sc =
    let here = locals_many c.name as' c.locals (in_control 0 1 2 sc c) in
    let behind = tops_many as' ts sc in
    let one = length-append (tables_in (in_control 0 1 2 sc c) as' c.locals) (tables_of sc as' ts) in
    let other = length-append (locals_names tables c.name c.locals) (tops_names tables ts) in
    omega (arith, here, behind, one, other)

before_many : (as' : List Action) (pss : List (List ValueShape)) (ts : List Table) (kss : List (List ValueShape)) → length (tables_before as' pss ts kss) ≡ length ts
before_many as' pss [] kss = refl
before_many as' pss (t ∷ ts) [] = ap suc (before_many as' pss ts [])
before_many as' pss (t ∷ ts) (ks ∷ kss) = ap suc (before_many as' pss ts kss)

-- the table of a name is there
pub numbered : (p : Program) (st : List Held) (x : List ℕ) (n : ℕ) → shapes st ≡ shapes (state_before p) → Some n ≡ number_in (names tables p) x → n < length (shapes st)
unfolding state_before
numbered p st x n is found =
    let as' = (parts_of p).actions in
    let pss = params_hold p in
    let kss = keys_hold p in
    let lt = below 0 (names tables p) x n found in
    let tabs = tops_many as' p.tops no_scope in
    let all = before_many as' pss (parts_of p).tables kss in
    let seen = length-map (tables_before as' pss (parts_of p).tables kss) (λ (h : Held). h.shape) in
    let same = ap length is in
    omega (arith, lt, tabs, all, seen, same)
