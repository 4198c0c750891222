-- Each register of a program has its name.
use Rattle.std.proofs.Common.{◌≡◌, ℕ, suc, ◌+◌, List, [], ◌∷◌, ◌++◌, length, map, refl, ap, ap₂, sym, ◌∙◌, append_assoc, length-append}
use Rattle.std.proofs.lemmas.List.{length-map}
use Rattle.p4_tree.specs.Tree.{Local, local_action, local_table, local_register, local_const, local_var, Top, constant, typedef, header_type, struct_type, register, parser, control, Program}
use Rattle.p4_meaning.specs.Scope.{Scope}
use Rattle.p4_meaning.specs.Under.{in_control}
use Rattle.p4_meaning.specs.Parts.{Cells, registers_in, registers_of, parts_of}
use Rattle.p4_types.specs.Numbers.{registers, locals_names, tops_names, names}

locals_named : (sc : Scope) (c : List ℕ) (ls : List Local) → length (locals_names registers c ls) ≡ length (registers_in sc ls)
locals_named sc c [] = refl
locals_named sc c (local_register p r ∷ ls) = ap suc (locals_named sc c ls)
locals_named sc c (local_action p a ∷ ls) = locals_named sc c ls
locals_named sc c (local_table p t ∷ ls) = locals_named sc c ls
locals_named sc c (local_const p t x e ∷ ls) = locals_named sc c ls
locals_named sc c (local_var p t x e ∷ ls) = locals_named sc c ls

tops_named : (ts : List Top) (sc : Scope) → length (tops_names registers ts) ≡ length (registers_of sc ts)
tops_named [] sc = refl
tops_named (register p r ∷ ts) sc = ap suc (tops_named ts sc)
tops_named (control p c ∷ ts) sc =
    length-append (locals_names registers c.name c.locals) (tops_names registers ts)
    ∙ ap₂ (λ (m n : ℕ). m + n) (locals_named (in_control 0 1 2 sc c) c.name c.locals) (tops_named ts sc)
    ∙ sym (length-append (registers_in (in_control 0 1 2 sc c) c.locals) (registers_of sc ts))
tops_named (constant p t x e ∷ ts) sc = tops_named ts _
tops_named (typedef p t x ∷ ts) sc = tops_named ts _
tops_named (header_type p x fs ∷ ts) sc = tops_named ts _
tops_named (struct_type p x fs ∷ ts) sc = tops_named ts _
tops_named (parser p d ∷ ts) sc = tops_named ts _

pub all_named : (p : Program) → length (names registers p) ≡ length (parts_of p).registers
all_named p = tops_named p.tops _

-- those of one declaration more
pub names_more : (first before one more now old : List (List ℕ)) → old ≡ first ++ before → now ≡ old ++ one → before ++ one ≡ more → now ≡ first ++ more
names_more first before one more now old so_far is next =
    is ∙ ap (λ xs. xs ++ one) so_far ∙ append_assoc first before one ∙ ap (λ xs. first ++ xs) next

-- there are as many names as registers
pub each_named : {A B : Type 0} (p : Program) (v : A → List ℕ) (w : B → Cells) (xs : List A) (rs : List B) → map v xs ≡ names registers p → map w rs ≡ (parts_of p).registers → length xs ≡ length rs
each_named p v w xs rs e f = sym (length-map xs v) ∙ ap length e ∙ all_named p ∙ sym (ap length f) ∙ length-map rs w
