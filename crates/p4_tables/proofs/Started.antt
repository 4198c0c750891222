-- A well-typed program's tables are sound before anything is loaded: each has one prefix at most.
use Rattle.std.proofs.Common.{◌≡◌, ℕ, List, [], ◌∷◌, ◌++◌, map, Bool, true, false, cond, refl, codes, arith}
use Rattle.std.specs.Prelude.{not, ◌&&◌, ◌||◌, nat_eq}
use Rattle.std.specs.List.{AllByRecursion}
use Rattle.std.proofs.lemmas.Bool.{and_cases, and_left, and_right, or_parts, or_from, or_left, eq-eqb}
use Rattle.std.proofs.Common.{inl, inr}
use Rattle.lex_text.specs.Names.{same_text}
use Rattle.rule_tests.specs.Tests.{IsFine}
use Rattle.rule_tests.proofs.FirstBroken.{unbroken_fine}
use Rattle.p4_tree.specs.Tree.{Expr, Local, local_action, local_table, local_register, local_const, local_var, Top, constant, typedef, header_type, struct_type, register, parser, control, Program}
use Rattle.p4_meaning.specs.Scope as meaning
use Rattle.p4_meaning.specs.Under.{no_scope, behind_top, behind_local, in_control}
use Rattle.p4_meaning.specs.Actions.{Action}
use Rattle.p4_meaning.specs.Tables.{Table, key_under, tables_in, tables_of}
use Rattle.p4_meaning.specs.Parts.{parts_of}
use Rattle.p4_scopes.specs.Scopes.{Scope, core}
use Rattle.p4_statement_rules.specs.declared.rule.Part.{Part}
use Rattle.p4_declaration_rules.specs.Tables as rules
use Rattle.p4_declaration_rules.specs.Tables.{has_key_kind, all_key_kinds}
use Rattle.p4_declaration_rules.specs.Parsers.{with_ways}
use Rattle.p4_declaration_rules.specs.Controls.{after_local, after_top, locals_tests, tops_tests, part_in}
use Rattle.p4_rules.specs.ProgramRules.{program_tests, IsWellTyped}
use Rattle.table_shapes.specs.Shapes.{is_lpm, has_lpm, has_two_prefixes, has_action}
use Rattle.p4_tables.specs.State.{entries_in}
use Rattle.value_shapes.specs.Values.{tops_values}
use Rattle.p4_tables.specs.Programs.{kind_of, key_shapes, action_place, action_shape, tables_before, state_before}
use Rattle.value_shapes.specs.declared.values.ValueShape.{ValueShape}
use Rattle.value_shapes.specs.declared.values.Holder.TheVariants.{Keys, Params}
use Rattle.p4_tables.specs.Kept.{IsSound, AreSound}
use Rattle.table_shapes.specs.declared.shape.KeyKind.TheVariants.{Exact, Lpm, Ternary}

-- ---- the keys of a table

-- a key that does not say so is not matched by its first bits
no_lpm_key : (x : List ℕ) → same_text x (codes "lpm") ≡ false → is_lpm (kind_of x) ≡ false
no_lpm_key x none = go (same_text x (codes "ternary")) (same_text x (codes "lpm")) none
  where
    go : (t l : Bool) → l ≡ false → is_lpm (cond t Ternary (cond l Lpm Exact)) ≡ false
    go true l h = refl
    go false true h = h
    go false false h = refl

module _ (sc : meaning.Scope) where
  no_lpm : (ks : List (Expr × List ℕ)) (ws : List ValueShape) → has_key_kind ks (codes "lpm") ≡ false → has_lpm (key_shapes (map (key_under sc) ks) ws) ≡ false
  no_lpm [] ws none = refl
  no_lpm (k ∷ ks) [] none = (let h = or_parts (same_text k.1 (codes "lpm")) (has_key_kind ks (codes "lpm")) none in or_from _ _ (no_lpm_key k.1 h.0) (no_lpm ks [] h.1))
  no_lpm (k ∷ ks) (w ∷ ws) none = (let h = or_parts (same_text k.1 (codes "lpm")) (has_key_kind ks (codes "lpm")) none in or_from _ _ (no_lpm_key k.1 h.0) (no_lpm ks ws h.1))

  first_lpm : (k : Expr × List ℕ) (ks : List (Expr × List ℕ)) (ws : List ValueShape) → (same_text k.1 (codes "lpm") && has_key_kind ks (codes "lpm")) ≡ false → (is_lpm (kind_of k.1) && has_lpm (key_shapes (map (key_under sc) ks) ws)) ≡ false
  first_lpm k ks ws none =
      elim (and_cases (same_text k.1 (codes "lpm")) (has_key_kind ks (codes "lpm")) none) [
        | inl h ↦ and_left _ _ (no_lpm_key k.1 h)
        | inr h ↦ and_right _ _ (no_lpm ks ws h)
      ]

  one_prefix : (ks : List (Expr × List ℕ)) (ws : List ValueShape) → rules.has_two_prefixes ks ≡ false → has_two_prefixes (key_shapes (map (key_under sc) ks) ws) ≡ false
  one_prefix [] ws none = refl
  one_prefix (k ∷ ks) [] none = (let h = or_parts (same_text k.1 (codes "lpm") && has_key_kind ks (codes "lpm")) (rules.has_two_prefixes ks) none in or_from _ _ (first_lpm k ks [] h.0) (one_prefix ks [] h.1))
  one_prefix (k ∷ ks) (w ∷ ws) none = (let h = or_parts (same_text k.1 (codes "lpm") && has_key_kind ks (codes "lpm")) (rules.has_two_prefixes ks) none in or_from _ _ (first_lpm k ks ws h.0) (one_prefix ks ws h.1))

-- ---- the tables of a program

abbrev pub HasOnePrefix : Table → Type 0
HasOnePrefix t = (ws : List ValueShape) → has_two_prefixes (key_shapes t.keys ws) ≡ false

all_append : {A : Type 0} (P : A → Type 0) (xs ys : List A) → AllByRecursion P xs → AllByRecursion P ys → AllByRecursion P (xs ++ ys)
all_append P [] ys h g = g
all_append P (x ∷ xs) ys h g = (h.0, all_append P xs ys h.1 g)

well_matched : (ks : List (Expr × List ℕ)) → rules.ill_matched ks ≡ false → rules.has_two_prefixes ks ≡ false
well_matched ks none = (or_parts (not (all_key_kinds ks)) (rules.has_two_prefixes ks) (or_parts (not (all_key_kinds ks) || rules.has_two_prefixes ks) _ none).0).1

locals_prefixed : (h : Part) (as' : List Action) (ls : List Local) (s : Scope) (sc : meaning.Scope) → IsFine (locals_tests h s ls) → AllByRecursion HasOnePrefix (tables_in sc as' ls)
locals_prefixed h as' [] s sc fine = tt
locals_prefixed h as' (local_action p a ∷ ls) s sc fine = locals_prefixed h as' ls (after_local s (local_action p a)) (behind_local sc (local_action p a)) fine.1
locals_prefixed h as' (local_table p t ∷ ls) s sc fine = (λ ws. one_prefix sc t.keys ws (well_matched t.keys fine.0.1.1.0), locals_prefixed h as' ls (after_local s (local_table p t)) sc fine.1)
locals_prefixed h as' (local_register p r ∷ ls) s sc fine = locals_prefixed h as' ls (after_local s (local_register p r)) (behind_local sc (local_register p r)) fine.1
locals_prefixed h as' (local_const p ty x e ∷ ls) s sc fine = locals_prefixed h as' ls (after_local s (local_const p ty x e)) (behind_local sc (local_const p ty x e)) fine.1
locals_prefixed h as' (local_var p ty x e ∷ ls) s sc fine = locals_prefixed h as' ls (after_local s (local_var p ty x e)) (behind_local sc (local_var p ty x e)) fine.1

tops_prefixed : (main : List (List ℕ)) (as' : List Action) (ts : List Top) (s : Scope) (sc : meaning.Scope) → IsFine (tops_tests main s ts) → AllByRecursion HasOnePrefix (tables_of sc as' ts)
tops_prefixed main as' [] s sc fine = tt
tops_prefixed main as' (constant p ty x e ∷ ts) s sc fine = tops_prefixed main as' ts (after_top s (constant p ty x e)) (behind_top sc (constant p ty x e)) fine.1
tops_prefixed main as' (typedef p ty x ∷ ts) s sc fine = tops_prefixed main as' ts (after_top s (typedef p ty x)) (behind_top sc (typedef p ty x)) fine.1
tops_prefixed main as' (header_type p x fs ∷ ts) s sc fine = tops_prefixed main as' ts (after_top s (header_type p x fs)) (behind_top sc (header_type p x fs)) fine.1
tops_prefixed main as' (struct_type p x fs ∷ ts) s sc fine = tops_prefixed main as' ts (after_top s (struct_type p x fs)) (behind_top sc (struct_type p x fs)) fine.1
tops_prefixed main as' (register p r ∷ ts) s sc fine = tops_prefixed main as' ts (after_top s (register p r)) (behind_top sc (register p r)) fine.1
tops_prefixed main as' (parser p d ∷ ts) s sc fine = tops_prefixed main as' ts (after_top s (parser p d)) (behind_top sc (parser p d)) fine.1
tops_prefixed main as' (control p c ∷ ts) s sc fine =
    all_append HasOnePrefix (tables_in (in_control 0 1 2 sc c) as' c.locals) (tables_of sc as' ts)
    (locals_prefixed (part_in main c.name) as' c.locals (with_ways s c.params) (in_control 0 1 2 sc c) fine.0.1.1.0)
    (tops_prefixed main as' ts (after_top s (control p c)) sc fine.1)

-- ---- before anything is loaded

-- a default that is written is the one that is written
written_first : (n : ℕ) (b : Bool) → (nat_eq n n || b) ≡ true
written_first n b = or_left (nat_eq n n) b (eq-eqb n n refl)

each_before : (as' : List Action) (pss : List (List ValueShape)) (ts : List Table) (kss : List (List ValueShape)) → AllByRecursion HasOnePrefix ts → AllByRecursion IsSound (tables_before as' pss ts kss)
each_before as' pss [] kss h = tt
each_before as' pss (t ∷ ts) [] h = (record { one_prefix = h.0 []; taken = tt; apart = tt; default = written_first (action_place as' t.default.action) (has_action (map (action_shape as' pss) t.actions) (action_place as' t.default.action)); fixed = λ e. refl }, each_before as' pss ts [] h.1)
each_before as' pss (t ∷ ts) (ks ∷ kss) h = (record { one_prefix = h.0 ks; taken = tt; apart = tt; default = written_first (action_place as' t.default.action) (has_action (map (action_shape as' pss) t.actions) (action_place as' t.default.action)); fixed = λ e. refl }, each_before as' pss ts kss h.1)

none_before : (as' : List Action) (pss : List (List ValueShape)) (ts : List Table) (kss : List (List ValueShape)) → entries_in (tables_before as' pss ts kss) ≡ 0
none_before as' pss [] kss = refl
none_before as' pss (t ∷ ts) [] = (let rest = none_before as' pss ts [] in omega (arith, rest))
none_before as' pss (t ∷ ts) (ks ∷ kss) = (let rest = none_before as' pss ts kss in omega (arith, rest))

pub no_entries : (p : Program) → entries_in (state_before p) ≡ 0
unfolding state_before
no_entries p = none_before (parts_of p).actions (tops_values Params core p.tops) (parts_of p).tables (tops_values Keys core p.tops)

pub sound_before : (p : Program) → IsWellTyped p → AreSound (state_before p)
unfolding state_before
sound_before p typed =
    let fine : IsFine (program_tests p) = unbroken_fine (program_tests p) typed in
    let none = none_before (parts_of p).actions (tops_values Params core p.tops) (parts_of p).tables (tops_values Keys core p.tops) in
    record {
      each = each_before (parts_of p).actions (tops_values Params core p.tops) (parts_of p).tables (tops_values Keys core p.tops) (tops_prefixed p.main (parts_of p).actions p.tops core no_scope fine.0);
      few = omega (arith, none);
    }
