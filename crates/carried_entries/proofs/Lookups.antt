-- What the tables of lookups and their actions hold where they are declared: a table's keys are the variables that are declared
-- in front of it.
use Rattle.std.proofs.Common.{◌≡◌, ℕ, suc, ◌+◌, List, [], ◌∷◌, ◌++◌, map, Bool, true, false, cond, Option, Some, None, refl, sym, ap, ap₂, ◌∙◌, subst, append_assoc, arith}
use Rattle.std.specs.List.{AllByRecursion}
use Rattle.lex_text.specs.Names.{same_text}
use Rattle.rule_tests.specs.Tests.{IsFine}
use Rattle.p4_tree.specs.Tree as tree
use Rattle.p4_tree.specs.Tree.{Local}
use Rattle.p4_tree.specs.declared.statement.PTy.{PTy}
use Rattle.p4_tree.specs.declared.statement.PTy.TheVariants as type
use Rattle.p4_meaning.specs.Scope.{Roots, full}
use Rattle.p4_scopes.specs.Scopes.{Stands, held, value_kind, is_missing, Scope, value, declare, own, kinds_in}
use Rattle.p4_scopes.specs.declared.kind.Kind.{Kind}
use Rattle.p4_scopes.specs.declared.kind.Kind.TheVariants.{Number}
use Rattle.p4_scopes.specs.declared.thing.Thing.TheVariants.{Scalar}
use Rattle.p4_scopes.specs.declared.thing.Access.TheVariants.{Writable}
use Rattle.p4_statement_rules.specs.declared.rule.Part.{Part}
use Rattle.p4_declaration_rules.specs.Controls.{locals_tests, after_local, after_locals}
use Rattle.p4_rule_laws.specs.Kept.{Keeps}
use Rattle.p4_rule_laws.proofs.KeepsLemmas.{declared, after_local_keeps, after_locals_keeps}
use Rattle.p4_typing_laws.proofs.CallCounts.{text_same}
use Rattle.indus_tree.specs.Tree.{Shape, one, list, set, dict, Decl}
use Rattle.indus_tree.specs.State.{width_of}
use Rattle.indus_tree.specs.declared.tree.DeclKind.{DeclKind}
use Rattle.indus_tree.specs.declared.tree.DeclKind.TheVariants.{Tele, Sensor, Header, Control}
use Rattle.indus_tree.specs.declared.tree.Ty.{Ty}
use Rattle.indus_tree.specs.declared.tree.Ty.TheVariants as ty
use Rattle.lookup_names.specs.Names as plain
use Rattle.lookup_names.specs.Names.{key_name}
use Rattle.lookup_names.specs.Keys.{key_types}
use Rattle.control_tables.specs.Tables.{keys_from, params_of}
use Rattle.lowered_code.specs.Names.{table_name, action_name}
use Rattle.lowered_code.specs.Expressions.{bits_type}
use Rattle.lowered_code.specs.Statements.{Var, key_vars, kept_types, read_vars, vars_in, control_kind, lookups_in}
use Rattle.linked_programs.specs.Rewritten.{key_with, local_with}
use Rattle.lower_blocks.specs.Trees.{var_tree, action_tree, table_tree}
use Rattle.linked_rules.specs.Held.{key_kinds}
use Rattle.carried_entries.proofs.Named.{item_kinds, holds_of, locals_hold_of}

abbrev pub every : List ℕ → Bool
every x = true

-- ---- variables

-- what stands there is a variable of a type of bits
abbrev pub HoldsBits : PTy → Stands → Type 0
HoldsBits (type.Bit w) st = st ≡ held Writable (Scalar (Number w))
HoldsBits type.Bool st = Unit {0}
HoldsBits (type.Named x) st = Unit {0}

abbrev pub IsHere : Scope → Var → Type 0
IsHere s v = HoldsBits v.0 (s (v.1 ∷ []))

bits_kept : (t : PTy) (x : List ℕ) (r s : Scope) → Keeps r s → HoldsBits t (r (x ∷ [])) → HoldsBits t (s (x ∷ []))
bits_kept (type.Bit w) x r s k h = k.kept x [] (ap is_missing h) ∙ h
bits_kept type.Bool x r s k h = tt
bits_kept (type.Named y) x r s k h = tt

all_kept : (vs : List Var) (r s : Scope) → Keeps r s → AllByRecursion (IsHere r) vs → AllByRecursion (IsHere s) vs
all_kept [] r s k h = tt
all_kept (v ∷ vs) r s k h = (bits_kept v.0 v.1 r s k h.0, all_kept vs r s k h.1)

here_declared : (s : Scope) (t : PTy) (x : List ℕ) → HoldsBits t (declare s x (value Writable t) (x ∷ []))
here_declared s (type.Bit w) x = declared s x (value Writable (type.Bit w)) []
here_declared s type.Bool x = tt
here_declared s (type.Named y) x = tt

pub front_fine : (h : Part) (ls ms : List Local) (s : Scope) → IsFine (locals_tests h s (ls ++ ms)) → IsFine (locals_tests h s ls) × IsFine (locals_tests h (after_locals s ls) ms)
front_fine h [] ms s f = (tt, f)
front_fine h (l ∷ ls) ms s f = (let rest = front_fine h ls ms (after_local s l) f.1 in ((f.0, rest.0), rest.1))

module _ (r : Roots) where
  abbrev pub vars_with : List Var → List Local
  vars_with vs = map (local_with r) (map var_tree vs)

  abbrev pub actions_with : List (ℕ × Decl) → List Local
  actions_with ls = map (local_with r) (map action_tree ls)

  abbrev pub tables_with : List (ℕ × Decl) → List Local
  tables_with ls = map (local_with r) (map table_tree ls)

  pub vars_here : (h : Part) (vs : List Var) (s : Scope) → IsFine (locals_tests h s (vars_with vs)) → AllByRecursion (IsHere (after_locals s (vars_with vs))) vs
  vars_here h [] s f = tt
  vars_here h (v ∷ vs) s f =
      (let t = declare s v.1 (value Writable v.0) in
      (bits_kept v.0 v.1 t (after_locals t (vars_with vs)) (after_locals_keeps h t (vars_with vs) f.1) (here_declared s v.0 v.1), vars_here h vs t f.1))

-- ---- the variables of keys

abbrev pub KeysHere : Scope → ℕ × Decl → Type 0
KeysHere s l = AllByRecursion (IsHere s) (key_vars l.0 0 (key_types (l.1).shape))

keys_kept : (ls : List (ℕ × Decl)) (r s : Scope) → Keeps r s → AllByRecursion (KeysHere r) ls → AllByRecursion (KeysHere s) ls
keys_kept [] r s k h = tt
keys_kept (l ∷ ls) r s k h = (all_kept (key_vars l.0 0 (key_types (l.1).shape)) r s k h.0, keys_kept ls r s k h.1)

pub all_behind : (P : Var → Type 0) (vs ws : List Var) → AllByRecursion P (vs ++ ws) → AllByRecursion P vs × AllByRecursion P ws
all_behind P [] ws h = (tt, h)
all_behind P (v ∷ vs) ws h = (let rest = all_behind P vs ws h.1 in ((h.0, rest.0), rest.1))

pub both_here : (s : Scope) (ls ms : List (ℕ × Decl)) → AllByRecursion (KeysHere s) ls → AllByRecursion (KeysHere s) ms → AllByRecursion (KeysHere s) (ls ++ ms)
both_here s [] ms a b = b
both_here s (l ∷ ls) ms a b = (a.0, both_here s ls ms a.1 b)

-- the variables of reads are those of the keys of their lookups among others
pub lookups_here : (s : Scope) (rs : List (ℕ × Option Decl)) → AllByRecursion (IsHere s) (vars_in rs) → AllByRecursion (KeysHere s) (lookups_in rs)
lookups_here s [] h = tt
lookups_here s ((n, None) ∷ rs) h = lookups_here s rs h
lookups_here s ((n, Some d) ∷ rs) h = (let parts = all_behind (IsHere s) (read_vars n (Some d)) (vars_in rs) h in both_here s (control_kind d.kind n d) (lookups_in rs) (of_kind d.kind refl parts.0) (lookups_here s rs parts.1))
  where
    of_kind : (k : DeclKind) → d.kind ≡ k → AllByRecursion (IsHere s) (read_vars n (Some d)) → AllByRecursion (KeysHere s) (control_kind k n d)
    of_kind Tele e i = tt
    of_kind Sensor e i = tt
    of_kind Header e i = tt
    of_kind Control e i = (subst (λ (k : DeclKind). AllByRecursion (IsHere s) (key_vars n 0 (kept_types k d.shape))) e i.1, tt)

-- ---- what tables and actions hold

abbrev pub number_of : Ty → Kind
number_of t = Number (width_of t)

-- the kinds of the keys of a lookup's table, and of the parameters of its action
abbrev pub wanted_keys : Shape → List Kind
wanted_keys d = map number_of (key_types d)

abbrev pub wanted_params : Shape → List Kind
wanted_params (one t) = number_of t ∷ []
wanted_params (list t n) = number_of t ∷ []
wanted_params (set ts) = []
wanted_params (dict ts t) = number_of t ∷ []

params_wanted : (s : Scope) (d : Shape) → kinds_in s (params_of d) ≡ wanted_params d
params_wanted s (one t) = refl
params_wanted s (list t n) = refl
params_wanted s (set ts) = refl
params_wanted s (dict ts t) = refl

key_wanted : (s : Scope) (t : Ty) (x : List ℕ) → IsHere s (bits_type t, x) → own s (tree.path 0 (x ∷ [])) ≡ number_of t
key_wanted s (ty.Bit w) x h = ap value_kind h
key_wanted s ty.Bool x h = ap value_kind h

one_more : (i : ℕ) → i + 1 ≡ suc i
one_more i = omega arith

keys_wanted : (r : Roots) (s : Scope) (n i : ℕ) (ts : List Ty) → AllByRecursion (IsHere s) (key_vars n i ts) → key_kinds s (map (key_with r) (keys_from n i ts)) ≡ map number_of ts
keys_wanted r s n i [] h = refl
keys_wanted r s n i (t ∷ ts) h =
    ap₂ (λ (k : Kind) (ks : List Kind). k ∷ ks) (key_wanted s t (key_name n i) h.0)
    (ap (λ (j : ℕ). key_kinds s (map (key_with r) (keys_from n j ts))) (one_more i) ∙ keys_wanted r s n (suc i) ts h.1)

-- ---- found by their names

pub hold_append : (ls ms : List Local) (s : Scope) → locals_hold_of every s (ls ++ ms) ≡ locals_hold_of every s ls ++ locals_hold_of every (after_locals s ls) ms
hold_append [] ms s = refl
hold_append (l ∷ ls) ms s =
    ap (λ (is : List (List ℕ × List Kind)). holds_of every s l ++ is) (hold_append ls ms (after_local s l))
    ∙ sym (append_assoc (holds_of every s l) (locals_hold_of every (after_local s l) ls) (locals_hold_of every (after_locals (after_local s l) ls) ms))

pub item_append : (c : List ℕ) (is js : List (List ℕ × List Kind)) (x : List ℕ) (other : List Kind) → item_kinds c (is ++ js) x other ≡ item_kinds c is x (item_kinds c js x other)
item_append c [] js x other = refl
item_append c (i ∷ is) js x other = ap (λ (k : List Kind). cond (same_text (full c i.0) x) i.1 k) (item_append c is js x other)

module _ (r : Roots) (c : List ℕ) where
  no_vars : (vs : List Var) (s : Scope) → locals_hold_of every s (vars_with r vs) ≡ []
  no_vars [] s = refl
  no_vars (v ∷ vs) s = no_vars vs (declare s v.1 (value Writable v.0))

  -- no action has a table's name
  past_actions : (n : ℕ) (ls : List (ℕ × Decl)) (s : Scope) (other : List Kind) → item_kinds c (locals_hold_of every s (actions_with r ls)) (table_name c n) other ≡ other
  past_actions n [] s other = refl
  past_actions n (l ∷ ls) s other = past_actions n ls (after_local s (local_with r (action_tree l))) other

  -- the names of these are those of no other
  abbrev pub TablesDiffer : List (ℕ × Decl) → Type 0
  TablesDiffer [] = Unit {0}
  TablesDiffer (l ∷ ls) = AllByRecursion (λ (m : ℕ × Decl). same_text (table_name c l.0) (table_name c m.0) ≡ false) ls × TablesDiffer ls

  abbrev pub ActionsDiffer : List (ℕ × Decl) → Type 0
  ActionsDiffer [] = Unit {0}
  ActionsDiffer (l ∷ ls) = AllByRecursion (λ (m : ℕ × Decl). same_text (action_name c l.0) (action_name c m.0) ≡ false) ls × ActionsDiffer ls

  -- each is found with what is wanted
  abbrev pub TableFound : List (List ℕ × List Kind) → List Kind → ℕ × Decl → Type 0
  TableFound is other l = item_kinds c is (table_name c l.0) other ≡ wanted_keys (l.1).shape

  abbrev pub ActionFound : List (List ℕ × List Kind) → List Kind → ℕ × Decl → Type 0
  ActionFound is other l = item_kinds c is (action_name c l.0) other ≡ wanted_params (l.1).shape

  tables_behind : (n : ℕ) (ks : List Kind) (is : List (List ℕ × List Kind)) (other : List Kind) (ls : List (ℕ × Decl)) → AllByRecursion (λ (m : ℕ × Decl). same_text (table_name c n) (table_name c m.0) ≡ false) ls
      → AllByRecursion (TableFound is other) ls → AllByRecursion (TableFound ((plain.table_name n, ks) ∷ is) other) ls
  tables_behind n ks is other [] d h = tt
  tables_behind n ks is other (l ∷ ls) d h = (ap (λ (b : Bool). cond b ks (item_kinds c is (table_name c l.0) other)) d.0 ∙ h.0, tables_behind n ks is other ls d.1 h.1)

  tables_found : (h : Part) (ls : List (ℕ × Decl)) (s : Scope) (other : List Kind) → TablesDiffer ls → AllByRecursion (KeysHere s) ls → IsFine (locals_tests h s (tables_with r ls)) → AllByRecursion (TableFound (locals_hold_of every s (tables_with r ls)) other) ls
  tables_found h [] s other d k f = tt
  tables_found h (l ∷ ls) s other d k f =
      (let t = after_local s (local_with r (table_tree l)) in
      let keeps = after_local_keeps h s (local_with r (table_tree l)) f.0 in
      let here : key_kinds s (map (key_with r) (keys_from l.0 0 (key_types (l.1).shape))) ≡ wanted_keys (l.1).shape = keys_wanted r s l.0 0 (key_types (l.1).shape) k.0 in (
        ap (λ (b : Bool). cond b (key_kinds s (map (key_with r) (keys_from l.0 0 (key_types (l.1).shape)))) (item_kinds c (locals_hold_of every t (tables_with r ls)) (table_name c l.0) other)) (text_same (table_name c l.0) (table_name c l.0) refl) ∙ here,
        tables_behind l.0 (key_kinds s (map (key_with r) (keys_from l.0 0 (key_types (l.1).shape)))) (locals_hold_of every t (tables_with r ls)) other ls d.0 (tables_found h ls t other d.1 (keys_kept ls s t keeps k.1) f.1),
      ))

  actions_behind : (n : ℕ) (ks : List Kind) (is : List (List ℕ × List Kind)) (other : List Kind) (ls : List (ℕ × Decl)) → AllByRecursion (λ (m : ℕ × Decl). same_text (action_name c n) (action_name c m.0) ≡ false) ls
      → AllByRecursion (ActionFound is other) ls → AllByRecursion (ActionFound ((plain.action_name n, ks) ∷ is) other) ls
  actions_behind n ks is other [] d h = tt
  actions_behind n ks is other (l ∷ ls) d h = (ap (λ (b : Bool). cond b ks (item_kinds c is (action_name c l.0) other)) d.0 ∙ h.0, actions_behind n ks is other ls d.1 h.1)

  actions_found : (ls : List (ℕ × Decl)) (s : Scope) (other : List Kind) → ActionsDiffer ls → AllByRecursion (ActionFound (locals_hold_of every s (actions_with r ls)) other) ls
  actions_found [] s other d = tt
  actions_found (l ∷ ls) s other d =
      (let t = after_local s (local_with r (action_tree l)) in (
        ap (λ (b : Bool). cond b (kinds_in s (params_of (l.1).shape)) (item_kinds c (locals_hold_of every t (actions_with r ls)) (action_name c l.0) other)) (text_same (action_name c l.0) (action_name c l.0) refl) ∙ params_wanted s (l.1).shape,
        actions_behind l.0 (kinds_in s (params_of (l.1).shape)) (locals_hold_of every t (actions_with r ls)) other ls d.0 (actions_found ls t other d.1),
      ))

  -- ---- in a control

  -- the declarations of lookups, in front of others
  abbrev pub all_with : List Var → List (ℕ × Decl) → List Local → List Local
  all_with vs ls ms = vars_with r vs ++ (actions_with r ls ++ (tables_with r ls ++ ms))

  module _ (h : Part) (vs : List Var) (ls : List (ℕ × Decl)) (ms : List Local) (s : Scope) (fine : IsFine (locals_tests h s (all_with vs ls ms))) where
    abbrev s1 : Scope
    s1 = after_locals s (vars_with r vs)

    abbrev s2 : Scope
    s2 = after_locals (after_locals s (vars_with r vs)) (actions_with r ls)

    abbrev s3 : Scope
    s3 = after_locals (after_locals (after_locals s (vars_with r vs)) (actions_with r ls)) (tables_with r ls)

    first : IsFine (locals_tests h s (vars_with r vs)) × IsFine (locals_tests h s1 (actions_with r ls ++ (tables_with r ls ++ ms)))
    first = front_fine h (vars_with r vs) (actions_with r ls ++ (tables_with r ls ++ ms)) s fine

    second : IsFine (locals_tests h s1 (actions_with r ls)) × IsFine (locals_tests h s2 (tables_with r ls ++ ms))
    second = front_fine h (actions_with r ls) (tables_with r ls ++ ms) s1 first.1

    third : IsFine (locals_tests h s2 (tables_with r ls)) × IsFine (locals_tests h s3 ms)
    third = front_fine h (tables_with r ls) ms s2 second.1

    items : locals_hold_of every s (all_with vs ls ms) ≡ locals_hold_of every s1 (actions_with r ls) ++ (locals_hold_of every s2 (tables_with r ls) ++ locals_hold_of every s3 ms)
    items =
        hold_append (vars_with r vs) (actions_with r ls ++ (tables_with r ls ++ ms)) s
        ∙ (ap (λ (is : List (List ℕ × List Kind)). is ++ locals_hold_of every s1 (actions_with r ls ++ (tables_with r ls ++ ms))) (no_vars vs s)
        ∙ (hold_append (actions_with r ls) (tables_with r ls ++ ms) s1 ∙ ap (λ (is : List (List ℕ × List Kind)). locals_hold_of every s1 (actions_with r ls) ++ is) (hold_append (tables_with r ls) ms s2)))

    apart_items : (x : List ℕ) (other : List Kind)
        → item_kinds c (locals_hold_of every s (all_with vs ls ms)) x other
        ≡ item_kinds c (locals_hold_of every s1 (actions_with r ls)) x (item_kinds c (locals_hold_of every s2 (tables_with r ls)) x (item_kinds c (locals_hold_of every s3 ms) x other))
    apart_items x other =
        ap (λ (is : List (List ℕ × List Kind)). item_kinds c is x other) items
        ∙ (item_append c (locals_hold_of every s1 (actions_with r ls)) (locals_hold_of every s2 (tables_with r ls) ++ locals_hold_of every s3 ms) x other
        ∙ ap (λ (k : List Kind). item_kinds c (locals_hold_of every s1 (actions_with r ls)) x k) (item_append c (locals_hold_of every s2 (tables_with r ls)) (locals_hold_of every s3 ms) x other))

    pub vars_seen : AllByRecursion (IsHere s1) vs
    vars_seen = vars_here r h vs s first.0

    each_table : (other : List Kind) (ns : List (ℕ × Decl)) → ((x : List ℕ) → AllByRecursion (TableFound (locals_hold_of every s2 (tables_with r ls)) (item_kinds c (locals_hold_of every s3 ms) x other)) ns)
        → AllByRecursion (TableFound (locals_hold_of every s (all_with vs ls ms)) other) ns
    each_table other [] k = tt
    each_table other (n ∷ ns) k = (
      apart_items (table_name c n.0) other ∙ (past_actions n.0 ls s1 (item_kinds c (locals_hold_of every s2 (tables_with r ls)) (table_name c n.0) (item_kinds c (locals_hold_of every s3 ms) (table_name c n.0) other)) ∙ (k (table_name c n.0)).0),
      each_table other ns (λ x. (k x).1),
    )

    pub all_tables : (other : List Kind) → TablesDiffer ls → AllByRecursion (KeysHere s1) ls → AllByRecursion (TableFound (locals_hold_of every s (all_with vs ls ms)) other) ls
    all_tables other d k = each_table other ls (λ x. tables_found h ls s2 (item_kinds c (locals_hold_of every s3 ms) x other) d (keys_kept ls s1 s2 (after_locals_keeps h s1 (actions_with r ls) second.0) k) third.0)

    each_action : (other : List Kind) (ns : List (ℕ × Decl))
        → ((x : List ℕ) → AllByRecursion (ActionFound (locals_hold_of every s1 (actions_with r ls)) (item_kinds c (locals_hold_of every s2 (tables_with r ls)) x (item_kinds c (locals_hold_of every s3 ms) x other))) ns)
        → AllByRecursion (ActionFound (locals_hold_of every s (all_with vs ls ms)) other) ns
    each_action other [] k = tt
    each_action other (n ∷ ns) k = (apart_items (action_name c n.0) other ∙ (k (action_name c n.0)).0, each_action other ns (λ x. (k x).1))

    pub all_actions : (other : List Kind) → ActionsDiffer ls → AllByRecursion (ActionFound (locals_hold_of every s (all_with vs ls ms)) other) ls
    all_actions other d = each_action other ls (λ x. actions_found ls s1 (item_kinds c (locals_hold_of every s2 (tables_with r ls)) x (item_kinds c (locals_hold_of every s3 ms) x other)) d)
