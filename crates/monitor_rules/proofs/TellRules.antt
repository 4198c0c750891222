-- What the trees of a property tell.
use Rattle.std.proofs.Common.{◌≡◌, codes, ℕ, List, [], ◌∷◌, ◌++◌, map, Bool, true, false, Option, Some, refl, sym, ap, ap₂, ◌∙◌, subst, arith}
use Rattle.std.specs.Prelude.{max}
use Rattle.std.specs.List.{AllByRecursion}
use Rattle.lex_text.specs.Names.{same_text}
use Rattle.indus_tree.specs.Tree.{Shape, one, list, set, dict, Decl}
use Rattle.p4_tree.specs.Tree.{done, next}
use Rattle.p4_meaning.specs.Scope.{Roots}
use Rattle.p4_scopes.specs.Scopes.{Scope, What, Stands, missing, core, declare, action, table, is_missing, add_up}
use Rattle.p4_scopes.specs.Uses.{most_in}
use Rattle.p4_declaration_rules.specs.Digests.{most_of, most_of_table}
use Rattle.p4_declaration_rules.specs.Controls.{after_locals}
use Rattle.p4_rule_laws.specs.Kept.{Keeps}
use Rattle.monitor_laws.specs.Monitor.{flag_locals}
use Rattle.control_tables.specs.Tables.{actions_of, default_of, params_of, body_of}
use Rattle.lookup_names.specs.Names.{table_name, action_name}
use Rattle.lowered_code.specs.Environment.{in_control}
use Rattle.lowered_code.specs.Statements.{Var, vars_in, lookups_in, block_numbers, block_code}
use Rattle.lowered_code.proofs.Served.{lookups_both}
use Rattle.linked_rules.specs.Passes as asked
use Rattle.linked_rules.specs.Passes.{front_scope}
use Rattle.linked_rules.specs.Digests.{Tells}
use Rattle.whole_properties.specs.Whole.{Given, decls, init, tele, check, tele_first, check_first}
use Rattle.whole_properties.specs.Asked.{IsGiven}
use Rattle.lower_blocks.specs.Trees.{var_tree, action_tree, table_tree, locals_for, checks_of}
use Rattle.monitor_trees.specs.Trees.{trees_of}
use Rattle.monitor_rules.specs.Told.{told_in, entry_told, exit_told}
use Rattle.monitor_rules.proofs.LocalRules.{Applies, declare_other, declare_here, after_append, flip, Looks, LooksApart, OtherNumbers, NoAct, NoLook, acts_others, looks_others}
use Rattle.monitor_rules.proofs.ToldRules.{told_low, TablesSilent, block_told, block_before}
use Rattle.monitor_rules.proofs.PassRules.{tables_at, IsPart, entry_part, exit_part, exit_numbers, exit_locals_are, apart_looks, core_digest, core_none}

-- ---- actions and tables of lookups tell nothing

none_act : (n : ℕ) (ls : Looks) → OtherNumbers n ls → NoAct (action_name n) ls
none_act n [] h = tt
none_act n (l ∷ ls) h = (flip (action_name n) (action_name l.0) h.0, none_act n ls h.1)

none_look : (n : ℕ) (ls : Looks) → OtherNumbers n ls → NoLook (table_name n) ls
none_look n [] h = tt
none_look n (l ∷ ls) h = (flip (table_name n) (table_name l.0) h.0, none_look n ls h.1)

each : (P : ℕ × Decl → Type 0) → ((l : ℕ × Decl) → P l) → (ls : Looks) → AllByRecursion P ls
each P f [] = tt
each P f (l ∷ ls) = (f l, each P f ls)

abbrev ActsSilent : Scope → Looks → Type 0
ActsSilent s ls = AllByRecursion (λ l. most_in (s (action_name l.0 ∷ [])) ≡ 0) ls

acts_silent : (s : Scope) (ls : Looks) → LooksApart ls → ActsSilent (after_locals s (map action_tree ls)) ls
acts_silent s [] a = tt
acts_silent s (l ∷ ls) a =
    let w = action (params_of (l.1).shape) (most_of s (body_of l.0 (l.1).shape)) in
    (ap most_in (acts_others (declare s (action_name l.0) w) ls (action_name l.0) [] (none_act l.0 ls a.0) ∙ declare_here s (action_name l.0) w []), acts_silent (declare s (action_name l.0) w) ls a.1)

table_silent : (s : Scope) (n : ℕ) (k : Shape) → most_in (s (action_name n ∷ [])) ≡ 0 → most_in (s (codes "NoAction" ∷ [])) ≡ 0 → most_of_table s (actions_of n k) (Some (default_of n k)) ≡ 0
table_silent s n (one t) a m = ap₂ max a (ap (λ k. max k 0) a)
table_silent s n (list t k) a m = ap₂ max a (ap (λ k. max k 0) a)
table_silent s n (set ts) a m = ap₂ max m (ap₂ (λ j k. max j (max k 0)) a m)
table_silent s n (dict ts t) a m = ap₂ max m (ap₂ (λ j k. max j (max k 0)) a m)

looks_silent : (s : Scope) (ls : Looks) → LooksApart ls → ActsSilent s ls → most_in (s (codes "NoAction" ∷ [])) ≡ 0 → TablesSilent (after_locals s (map table_tree ls)) ls
looks_silent s [] a h m = tt
looks_silent s (l ∷ ls) a h m =
    let w = table (most_of_table s (actions_of l.0 (l.1).shape) (Some (default_of l.0 (l.1).shape))) in
    let z = declare s (table_name l.0) w in (
      ap most_in (looks_others z ls (table_name l.0) [] (none_look l.0 ls a.0) ∙ declare_here s (table_name l.0) w []) ∙ table_silent s l.0 (l.1).shape h.0 m,
      looks_silent z ls a.1 (kept l w ls h.1) (ap most_in (declare_other s (table_name l.0) w (codes "NoAction") [] refl) ∙ m),
    )
  where
    kept : (l : ℕ × Decl) (w : What) (ls : Looks) → ActsSilent s ls → ActsSilent (declare s (table_name l.0) w) ls
    kept l w [] h = tt
    kept l w (m ∷ ls) h = (ap most_in (declare_other s (table_name l.0) w (action_name m.0) [] refl) ∙ h.0, kept l w ls h.1)

none_most : (st : Stands) → is_missing st ≡ true → most_in st ≡ 0
none_most missing h = refl
none_most _ h = absurd (cc h)

module _ (g : Given) (i : IsGiven g) where
  abbrev ds : List Decl
  ds = decls g

  module _ (fl : List Var) (rs : List (ℕ × Option Decl)) (p : IsPart g i fl rs) (v z : Scope) (k : Keeps (after_locals v (locals_for (fl ++ vars_in rs) (lookups_in rs))) z) (c : Keeps core z) where
    abbrev vs : List Var
    vs = fl ++ vars_in rs

    abbrev ls : Looks
    ls = lookups_in rs

    abbrev A1 : Scope
    A1 = after_locals v (map var_tree vs)

    abbrev A2 : Scope
    A2 = after_locals A1 (map action_tree ls)

    abbrev A3 : Scope
    A3 = after_locals A2 (map table_tree ls)

    behind_is : after_locals v (locals_for vs ls) ≡ A3
    behind_is = after_append v (map var_tree vs) (map action_tree ls ++ map table_tree ls) ∙ after_append A1 (map action_tree ls) (map table_tree ls)

    -- the miss tells nothing
    miss_at : A3 (codes "NoAction" ∷ []) ≡ A2 (codes "NoAction" ∷ [])
    miss_at = looks_others A2 ls (codes "NoAction") [] (each (λ l. same_text (table_name l.0) (codes "NoAction") ≡ false) (λ l. refl) ls)

    miss_silent : most_in (A2 (codes "NoAction" ∷ [])) ≡ 0
    miss_silent = ap most_in (sym miss_at) ∙ ap (λ (w : Scope). most_in (w (codes "NoAction" ∷ []))) (sym behind_is) ∙ go (is_missing (after_locals v (locals_for vs ls) (codes "NoAction" ∷ []))) refl
      where
        go : (b : Bool) → is_missing (after_locals v (locals_for vs ls) (codes "NoAction" ∷ [])) ≡ b → most_in (after_locals v (locals_for vs ls) (codes "NoAction" ∷ [])) ≡ 0
        go true e = none_most (after_locals v (locals_for vs ls) (codes "NoAction" ∷ [])) e
        go false e = ap most_in (sym (k.kept (codes "NoAction") [] e)) ∙ core_none g i z c

    inner_silent : TablesSilent A3 ls
    inner_silent = looks_silent A2 ls (apart_looks g i fl rs p) (acts_silent A1 ls (apart_looks g i fl rs p)) miss_silent

    pub tables_silent : TablesSilent z ls
    tables_silent = go ls (subst (λ w. TablesSilent w ls) (sym behind_is) inner_silent) (tables_at g i fl rs p v z k)
      where
        go : (ms : Looks) → TablesSilent (after_locals v (locals_for vs ls)) ms → AllByRecursion (Applies (after_locals v (locals_for vs ls))) ms → TablesSilent z ms
        go [] h a = tt
        go (m ∷ ms) h a = (ap most_in (k.kept (table_name m.0) [] (ap is_missing a.0.1)) ∙ h.0, go ms h.1 a.1)

  module _ (S : Scope) (H M : List ℕ) (r s : Roots) where
    entry_tells : (n : ℕ) (v z : Scope) → asked.Offers r (front_scope (trees_of g r s) n) z → Keeps (after_locals v (trees_of g r s).entry_locals) z → most_of z (trees_of g r s).entry ≡ entry_told g
    entry_tells n v z o k = block_told z r ds (core_digest g i z o.core) (init g) 0 (tables_silent [] (block_numbers ds (init g) 0) (entry_part g i) v z k o.core)

    exit_tells : (n : ℕ) (v z : Scope) → asked.Offers s (front_scope (trees_of g r s) n) z → Keeps (after_locals v (trees_of g r s).exit_locals) z → most_of z (trees_of g r s).exit ≡ exit_told g
    exit_tells n v z o k =
        let tn = block_numbers ds (tele g) (tele_first g) in
        let cn = block_numbers ds (check g) (check_first g) in
        let all = tables_silent flag_locals (exit_numbers g i) (exit_part g i) v z (subst (λ ls. Keeps (after_locals v ls) z) (exit_locals_are g i r s) k) o.core in
        let two = subst (TablesSilent z) (lookups_both ds tn cn) all in
        let code = block_code (in_control s) ds (check g) (check_first g) in
        block_before z s ds (core_digest g i z o.core) (tele g) (tele_first g) (next (checks_of code) done) (told_in (check g)) (left_of (lookups_in tn) (lookups_in cn) two)
        (ap (λ k. add_up (add_up 0 (max (add_up 0 k) 0)) 0) (block_told z s ds (core_digest g i z o.core) (check g) (check_first g) (right_of (lookups_in tn) (lookups_in cn) two)) ∙ (let low = told_low (check g) in omega (arith, low))) (told_low (check g))
      where
        left_of : (a b : Looks) → TablesSilent z (a ++ b) → TablesSilent z a
        left_of [] b h = tt
        left_of (x ∷ a) b h = (h.0, left_of a b h.1)

        right_of : (a b : Looks) → TablesSilent z (a ++ b) → TablesSilent z b
        right_of [] b h = h
        right_of (x ∷ a) b h = right_of a b h.1

    pub tells : Tells (trees_of g r s) S H M r s (entry_told g) (exit_told g)
    tells = record { entry = λ n v z o w k. entry_tells n v z o k; exit = λ n v z o w k. exit_tells n v z o k }
