-- The variables, actions and tables of a control: they break no rule of P4 where their names are new, and what they leave in
-- sight.
use Rattle.std.proofs.Common.{◌≡◌, codes, ℕ, suc, ◌+◌, List, [], ◌∷◌, ◌++◌, map, Bool, true, false, cond, not, ◌&&◌, ◌||◌, Some, refl, sym, ap, ap₂, ◌∙◌, subst, arith}
use Rattle.std.specs.List.{AllByRecursion}
use Rattle.lex_text.specs.Names.{same_text}
use Rattle.rule_tests.specs.Tests.{IsFine}
use Rattle.indus_tree.specs.Tree.{Shape, one, list, set, dict, Decl}
use Rattle.indus_tree.specs.State.{shape_width, width_of}
use Rattle.indus_tree.specs.declared.tree.Ty.{Ty}
use Rattle.p4_tree.specs.Tree as p4
use Rattle.p4_tree.specs.Tree.{Expr, Local}
use Rattle.p4_tree.specs.declared.statement.PTy.{PTy}
use Rattle.p4_tree.specs.declared.statement.PTy.TheVariants as type
use Rattle.p4_scopes.specs.Kinds as to
use Rattle.p4_scopes.specs.Scopes.{Scope, held, act, rows, What, value, action, table, behind, declare, is_missing, thing_in, kinds_in, value_kind}
use Rattle.p4_scopes.specs.Uses as uses
use Rattle.p4_scopes.specs.declared.kind.Kind.{Kind}
use Rattle.p4_scopes.specs.declared.kind.Kind.TheVariants as t
use Rattle.p4_scopes.specs.declared.thing.Thing.TheVariants.{Scalar}
use Rattle.p4_scopes.specs.declared.thing.Access.TheVariants.{Writable, Fixed}
use Rattle.p4_statement_rules.specs.Expressions.{expr_tests, scalar_tests}
use Rattle.p4_statement_rules.specs.Calls.{target_tests}
use Rattle.p4_statement_rules.specs.declared.rule.Part.TheVariants as place
use Rattle.p4_declaration_rules.specs.Declarations.{action_tests}
use Rattle.p4_declaration_rules.specs.Digests.{most_of, most_of_table}
use Rattle.p4_declaration_rules.specs.Tables.{keys_tests, all_key_kinds, has_key_kind, has_two_prefixes, ill_matched, listed_tests, default_args, default_tests, table_tests}
use Rattle.p4_declaration_rules.specs.Controls.{locals_tests, after_local, after_locals}
use Rattle.p4_typing_laws.proofs.CallCounts.{text_is, text_same}
use Rattle.monitor_laws.specs.Telemetry.{AreApart}
use Rattle.monitor_laws.specs.Monitor.{fields_of}
use Rattle.control_tables.specs.Tables.{keys_from, actions_of, default_of, params_of, body_of, action_of, table_of}
use Rattle.lookup_names.specs.Names.{table_name, action_name, found_name, key_name, value_name}
use Rattle.lookup_names.specs.Keys.{key_types, variable}
use Rattle.monitor_laws.specs.Trees.{number}
use Rattle.lowered_code.specs.Statements.{Var}
use Rattle.lower_blocks.specs.Trees.{var_tree, action_tree, table_tree}
use Rattle.monitor_rules.proofs.FormRules.{place as wide, IsWidth, self_widths, variable_typed, number_typed}

-- ---- declarations

pub declare_other : (s : Scope) (n : List ℕ) (w : What) (x : List ℕ) (xs : List (List ℕ)) → same_text n x ≡ false → declare s n w (x ∷ xs) ≡ s (x ∷ xs)
unfolding declare
declare_other s n w x xs h = ap (λ b. cond b (behind s w xs) (s (x ∷ xs))) h

pub declare_here : (s : Scope) (n : List ℕ) (w : What) (xs : List (List ℕ)) → declare s n w (n ∷ xs) ≡ behind s w xs
unfolding declare
declare_here s n w xs = ap (λ b. cond b (behind s w xs) (s (n ∷ xs))) (text_same n n refl)

pub after_append : (s : Scope) (a b : List Local) → after_locals s (a ++ b) ≡ after_locals (after_locals s a) b
after_append s [] b = refl
after_append s (l ∷ a) b = after_append (after_local s l) a b

-- ---- variables

abbrev pub kind_at : PTy → Kind
kind_at (type.Bit w) = t.Number w
kind_at type.Bool = t.Truth
kind_at (type.Named x) = t.Unknown

-- the type of a variable is one of single values, whatever is in sight
pub record IsSingle (ty : PTy) : Type 0 where
  pub fine : (s : Scope) → IsFine (scalar_tests 0 s ty)
  pub thing : (s : Scope) → thing_in s ty ≡ Scalar (kind_at ty)

abbrev pub IsVar : Var → Type 0
IsVar v = IsSingle v.0

abbrev pub NoVar : List ℕ → List Var → Type 0
NoVar x vs = AllByRecursion (λ v. same_text v.1 x ≡ false) vs

abbrev pub VarsNew : Scope → List Var → Type 0
VarsNew s vs = AllByRecursion (λ v. is_missing (s (v.1 ∷ [])) ≡ true) vs

abbrev Past : List ℕ → List Var → Type 0
Past x vs = AllByRecursion (λ f. same_text x f.name ≡ false) (fields_of vs)

new_behind : (s : Scope) (v : Var) (vs : List Var) → Past v.1 vs → VarsNew s vs → VarsNew (declare s v.1 (value Writable v.0)) vs
new_behind s v [] p h = tt
new_behind s v (u ∷ vs) p h = (ap is_missing (declare_other s v.1 (value Writable v.0) u.1 [] p.0) ∙ h.0, new_behind s v vs p.1 h.1)

pub vars_fine :
    (s : Scope) (vs : List Var) (rest : List Local) → AllByRecursion IsVar vs → AreApart (fields_of vs) → VarsNew s vs →
    IsFine (locals_tests place.Apply (after_locals s (map var_tree vs)) rest) → IsFine (locals_tests place.Apply s (map var_tree vs ++ rest))
vars_fine s [] rest i a n k = k
vars_fine s (v ∷ vs) rest i a n k = ((refl, (ap not n.0, (i.0.fine s, tt))), vars_fine (declare s v.1 (value Writable v.0)) vs rest i.1 a.1 (new_behind s v vs a.0 n.1) k)

pub vars_others : (s : Scope) (vs : List Var) (x : List ℕ) (xs : List (List ℕ)) → NoVar x vs → after_locals s (map var_tree vs) (x ∷ xs) ≡ s (x ∷ xs)
vars_others s [] x xs h = refl
vars_others s (v ∷ vs) x xs h = vars_others (declare s v.1 (value Writable v.0)) vs x xs h.1 ∙ declare_other s v.1 (value Writable v.0) x xs h.0

pub flip : (x y : List ℕ) → same_text x y ≡ false → same_text y x ≡ false
flip x y h = go (same_text y x) refl
  where
    go : (b : Bool) → same_text y x ≡ b → b ≡ false
    go true e = absurd (let z : true ≡ false = sym (text_same x y (sym (text_is y x e))) ∙ h in cc z)
    go false e = refl

past_none : (x : List ℕ) (vs : List Var) → Past x vs → NoVar x vs
past_none x [] h = tt
past_none x (v ∷ vs) h = (flip x v.1 h.0, past_none x vs h.1)

-- each stands for a value of its type
abbrev pub AreHeld : Scope → List Var → Type 0
AreHeld s vs = AllByRecursion (λ v. s (v.1 ∷ []) ≡ held Writable (Scalar (kind_at v.0))) vs

pub vars_stand : (s : Scope) (vs : List Var) → AllByRecursion IsVar vs → AreApart (fields_of vs) → AreHeld (after_locals s (map var_tree vs)) vs
vars_stand s [] i a = tt
vars_stand s (v ∷ vs) i a =
    let z = declare s v.1 (value Writable v.0) in
    (vars_others z vs v.1 [] (past_none v.1 vs a.0) ∙ declare_here s v.1 (value Writable v.0) [] ∙ ap (held Writable) (i.0.thing s), vars_stand z vs i.1 a.1)

-- where more is declared under other names, they stand for the same
pub held_kept : (s z : Scope) (vs : List Var) → AllByRecursion (λ v. z (v.1 ∷ []) ≡ s (v.1 ∷ [])) vs → AreHeld s vs → AreHeld z vs
held_kept s z [] k h = tt
held_kept s z (v ∷ vs) k h = (k.0 ∙ h.0, held_kept s z vs k.1 h.1)

-- ---- actions

abbrev pub Looks : Type 0
Looks = List (ℕ × Decl)

abbrev pub kinds_of : Shape → List Kind
kinds_of (one ty) = t.Number (shape_width (one ty)) ∷ []
kinds_of (list ty n) = t.Number (shape_width (list ty n)) ∷ []
kinds_of (set ts) = []
kinds_of (dict ts ty) = t.Number (shape_width (dict ts ty)) ∷ []

-- names by numbers that differ from n
abbrev pub OtherNumbers : ℕ → Looks → Type 0
OtherNumbers n ls = AllByRecursion (λ l. same_text (found_name n) (found_name l.0) ≡ false) ls

abbrev pub LooksApart : Looks → Type 0
LooksApart [] = Unit {0}
LooksApart (l ∷ ls) = OtherNumbers l.0 ls × LooksApart ls

-- what an action asks of what is in sight before it
pub record MayAct (s : Scope) (l : ℕ × Decl) : Type 0 where
  pub found : s (found_name l.0 ∷ []) ≡ wide (shape_width (l.1).shape)
  pub new : is_missing (s (action_name l.0 ∷ [])) ≡ true
  pub width : IsWidth (shape_width (l.1).shape)

value_fine : (s : Scope) (n w : ℕ) → is_missing (s (value_name ∷ [])) ≡ true → s (found_name n ∷ []) ≡ wide w → IsWidth w → (ps : List (PTy × List ℕ)) → ps ≡ (type.Bit w, value_name) ∷ [] →
    is_missing (s (action_name n ∷ [])) ≡ true → IsFine (action_tests place.Action s (record { at = 0; name = action_name n; params = ps; body = p4.next (p4.assign 0 (found_name n ∷ []) (variable value_name)) p4.done }))
value_fine s n w fresh found i ps e new =
    subst (λ ps. IsFine (action_tests place.Action s (record { at = 0; name = action_name n; params = ps; body = p4.next (p4.assign 0 (found_name n ∷ []) (variable value_name)) p4.done }))) (sym e) (
      ap not new,
      (
        (((ap not fresh, ((ap₂ (λ (a b : Bool). a || b) i.some i.few), refl)), tt)),
        ((refl, (subst (λ st. IsFine (target_tests 0 st)) (sym at_found) (refl, (refl, refl)), subst (λ k. IsFine (expr_tests inner k (variable value_name))) (sym (ap value_kind at_found)) typed)), tt),
      ),
    )
  where
    inner : Scope
    inner = declare s value_name (value Fixed (type.Bit w))

    at_found : declare s value_name (value Fixed (type.Bit w)) (found_name n ∷ []) ≡ wide w
    at_found = declare_other s value_name (value Fixed (type.Bit w)) (found_name n) [] refl ∙ found

    at_value : declare s value_name (value Fixed (type.Bit w)) (value_name ∷ []) ≡ held Fixed (Scalar (t.Number w))
    at_value = declare_here s value_name (value Fixed (type.Bit w)) []

    typed : IsFine (expr_tests (declare s value_name (value Fixed (type.Bit w))) (t.Number w) (variable value_name))
    typed = (ap is_missing at_value, (ap (λ st. not (uses.reads st)) at_value, (ap (λ st. to.widths_differ (value_kind st) (t.Number w)) at_value ∙ self_widths w, ap (λ st. to.kinds_differ (value_kind st) (t.Number w)) at_value)))

act_fine : (s : Scope) (l : ℕ × Decl) → is_missing (s (value_name ∷ [])) ≡ true → MayAct s l → IsFine (action_tests place.Action s (action_of l.0 (l.1).shape))
act_fine s l fresh m = go (l.1).shape m.found m.width
  where
    go : (k : Shape) → s (found_name l.0 ∷ []) ≡ wide (shape_width k) → IsWidth (shape_width k) → IsFine (action_tests place.Action s (action_of l.0 k))
    go (one ty) f i = value_fine s l.0 (shape_width (one ty)) fresh f i _ refl m.new
    go (list ty n) f i = value_fine s l.0 (shape_width (list ty n)) fresh f i _ refl m.new
    go (dict ts ty) f i = value_fine s l.0 (shape_width (dict ts ty)) fresh f i _ refl m.new
    go (set ts) f i = (ap not m.new, (tt, ((refl, (subst (λ st. IsFine (target_tests 0 st)) (sym f) (refl, (refl, refl)), subst (λ k. IsFine (expr_tests s k (number 1 1))) (sym (ap value_kind f)) (number_typed s 1 1 (record { some = refl; few = refl })))), tt)))

abbrev action_what : Scope → ℕ × Decl → What
action_what s l = action (params_of (l.1).shape) (most_of s (body_of l.0 (l.1).shape))

acts_step : (s : Scope) (l : ℕ × Decl) (ls : Looks) → OtherNumbers l.0 ls → AllByRecursion (MayAct s) ls → AllByRecursion (MayAct (declare s (action_name l.0) (action_what s l))) ls
acts_step s l [] a h = tt
acts_step s l (m ∷ ls) a h = (
  record {
    found = declare_other s (action_name l.0) (action_what s l) (found_name m.0) [] refl ∙ h.0.found;
    new = ap is_missing (declare_other s (action_name l.0) (action_what s l) (action_name m.0) [] a.0) ∙ h.0.new;
    width = h.0.width;
  },
  acts_step s l ls a.1 h.1,
)

pub acts_fine :
    (s : Scope) (ls : Looks) (rest : List Local) → is_missing (s (value_name ∷ [])) ≡ true → LooksApart ls → AllByRecursion (MayAct s) ls →
    IsFine (locals_tests place.Apply (after_locals s (map action_tree ls)) rest) → IsFine (locals_tests place.Apply s (map action_tree ls ++ rest))
acts_fine s [] rest fresh a m k = k
acts_fine s (l ∷ ls) rest fresh a m k = (
  (refl, act_fine s l fresh m.0),
  acts_fine (declare s (action_name l.0) (action_what s l)) ls rest (ap is_missing (declare_other s (action_name l.0) (action_what s l) value_name [] refl) ∙ fresh) a.1 (acts_step s l ls a.0 m.1) k,
)

abbrev pub NoAct : List ℕ → Looks → Type 0
NoAct x ls = AllByRecursion (λ l. same_text (action_name l.0) x ≡ false) ls

pub acts_others : (s : Scope) (ls : Looks) (x : List ℕ) (xs : List (List ℕ)) → NoAct x ls → after_locals s (map action_tree ls) (x ∷ xs) ≡ s (x ∷ xs)
acts_others s [] x xs h = refl
acts_others s (l ∷ ls) x xs h = acts_others (declare s (action_name l.0) (action_what s l)) ls x xs h.1 ∙ declare_other s (action_name l.0) (action_what s l) x xs h.0

numbers_none : (n : ℕ) (ls : Looks) → OtherNumbers n ls → NoAct (action_name n) ls
numbers_none n [] h = tt
numbers_none n (l ∷ ls) h = (flip (action_name n) (action_name l.0) h.0, numbers_none n ls h.1)

kinds_are : (s : Scope) (k : Shape) → kinds_in s (params_of k) ≡ kinds_of k
kinds_are s (one ty) = refl
kinds_are s (list ty n) = refl
kinds_are s (set ts) = refl
kinds_are s (dict ts ty) = refl

abbrev pub Acts : Scope → ℕ × Decl → Type 0
Acts s l = (m : ℕ) × (s (action_name l.0 ∷ []) ≡ act (kinds_of (l.1).shape) m)

pub acts_stand : (s : Scope) (ls : Looks) → LooksApart ls → AllByRecursion (Acts (after_locals s (map action_tree ls))) ls
acts_stand s [] a = tt
acts_stand s (l ∷ ls) a =
    let z = declare s (action_name l.0) (action_what s l) in (
      (
        most_of s (body_of l.0 (l.1).shape),
        acts_others z ls (action_name l.0) [] (numbers_none l.0 ls a.0) ∙ declare_here s (action_name l.0) (action_what s l) [] ∙ ap (λ ks. act ks (most_of s (body_of l.0 (l.1).shape))) (kinds_are s (l.1).shape),
      ),
      acts_stand z ls a.1,
    )

-- ---- tables

-- the variables of a key
abbrev pub KeysAt : Scope → (n i : ℕ) → List Ty → Type 0
KeysAt s n i [] = Unit {0}
KeysAt s n i (ty ∷ ts) = (s (key_name n i ∷ []) ≡ wide (width_of ty)) × KeysAt s n (suc i) ts

-- what a table asks of what is in sight before it
pub record MayLook (s : Scope) (l : ℕ × Decl) : Type 0 where
  pub acts : Acts s l
  pub keys : KeysAt s l.0 0 (key_types (l.1).shape)
  pub new : is_missing (s (table_name l.0 ∷ [])) ≡ true
  pub width : IsWidth (shape_width (l.1).shape)

abbrev pub HasMiss : Scope → Type 0
HasMiss s = s (codes "NoAction" ∷ []) ≡ act [] 0

keys_fine : (s : Scope) (n i : ℕ) (ts : List Ty) → KeysAt s n i ts → IsFine (keys_tests s (keys_from n i ts))
keys_fine s n i [] h = tt
keys_fine s n i (ty ∷ ts) h =
    let here : suc i ≡ i + 1 = omega arith in (
      subst (λ k. IsFine (expr_tests s (to.as_value k) (variable (key_name n i)))) (sym (ap value_kind h.0)) (variable_typed s (key_name n i ∷ []) (width_of ty) h.0),
      keys_fine s n (i + 1) ts (subst (λ j. KeysAt s n j ts) here h.1),
    )

all_exact : (n i : ℕ) (ts : List Ty) → all_key_kinds (keys_from n i ts) ≡ true
all_exact n i [] = refl
all_exact n i (ty ∷ ts) = all_exact n (i + 1) ts

no_kind : (n i : ℕ) (ts : List Ty) → has_key_kind (keys_from n i ts) (codes "lpm") ≡ false
no_kind n i [] = refl
no_kind n i (ty ∷ ts) = no_kind n (i + 1) ts

no_prefixes : (n i : ℕ) (ts : List Ty) → has_two_prefixes (keys_from n i ts) ≡ false
no_prefixes n i [] = refl
no_prefixes n i (ty ∷ ts) = no_prefixes n (i + 1) ts

well_matched : (n : ℕ) (ts : List Ty) → ill_matched (keys_from n 0 ts) ≡ false
well_matched n ts =
    ap₂ (λ (a b : Bool). a || b) (ap₂ (λ (a b : Bool). not a || b) (all_exact n 0 ts) (no_prefixes n 0 ts)) (ap (λ (a : Bool). a && has_key_kind (keys_from n 0 ts) (codes "ternary")) (no_kind n 0 ts))

look_fine : (s : Scope) (l : ℕ × Decl) → HasMiss s → MayLook s l → IsFine (table_tests s (table_of l.0 (l.1).shape))
look_fine s l miss m = go (l.1).shape m.acts.1 m.keys m.width
  where
    n : ℕ
    n = l.0

    self : (same_text (action_name l.0) (action_name l.0)) ≡ true
    self = text_same (action_name l.0) (action_name l.0) refl

    listed : (ks : List Kind) (o : ℕ) → s (action_name l.0 ∷ []) ≡ act ks o → IsFine (listed_tests 0 s (action_name l.0 ∷ []))
    listed ks o e = ((ap is_missing e, ap (λ st. not (uses.is_action st)) e), tt)

    scalar : (w : ℕ) → s (action_name l.0 ∷ []) ≡ act (t.Number w ∷ []) m.acts.0 → IsWidth w → IsFine (default_tests 0 s (action_name l.0 ∷ []) (Some (action_name l.0, number w 0 ∷ [])))
    scalar w e i = (ap (λ (b : Bool). not (b || false)) self, subst (λ st. IsFine (default_args 0 s st (number w 0 ∷ []))) (sym e) (refl, ((number_typed s w 0 i, tt), tt)))

    missing : (ks : List Kind) → s (action_name l.0 ∷ []) ≡ act ks m.acts.0 → IsFine (listed_tests 0 s (action_name l.0 ∷ codes "NoAction" ∷ []))
    missing ks e = ((ap is_missing e, ap (λ st. not (uses.is_action st)) e), ((ap is_missing miss, ap (λ st. not (uses.is_action st)) miss), tt))

    default_miss : IsFine (default_tests 0 s (action_name l.0 ∷ codes "NoAction" ∷ []) (Some (codes "NoAction", [])))
    default_miss = (refl, subst (λ st. IsFine (default_args 0 s st [])) (sym miss) (refl, tt))

    go : (k : Shape) → s (action_name l.0 ∷ []) ≡ act (kinds_of k) m.acts.0 → KeysAt s l.0 0 (key_types k) → IsWidth (shape_width k) → IsFine (table_tests s (table_of l.0 k))
    go (one ty) e ks i = (ap not m.new, (refl, (tt, (refl, (listed (kinds_of (one ty)) m.acts.0 e, scalar (shape_width (one ty)) e i)))))
    go (list ty j) e ks i = (ap not m.new, (refl, (tt, (refl, (listed (kinds_of (list ty j)) m.acts.0 e, scalar (shape_width (list ty j)) e i)))))
    go (set ts) e ks i = (ap not m.new, (well_matched l.0 ts, (keys_fine s l.0 0 ts ks, (refl, (missing (kinds_of (set ts)) e, default_miss)))))
    go (dict ts ty) e ks i = (ap not m.new, (well_matched l.0 ts, (keys_fine s l.0 0 ts ks, (refl, (missing (kinds_of (dict ts ty)) e, default_miss)))))

abbrev table_what : Scope → ℕ × Decl → What
table_what s l = table (most_of_table s (actions_of l.0 (l.1).shape) (Some (default_of l.0 (l.1).shape)))

keys_step : (s : Scope) (l : ℕ × Decl) (n i : ℕ) (ts : List Ty) → KeysAt s n i ts → KeysAt (declare s (table_name l.0) (table_what s l)) n i ts
keys_step s l n i [] h = tt
keys_step s l n i (ty ∷ ts) h = (declare_other s (table_name l.0) (table_what s l) (key_name n i) [] refl ∙ h.0, keys_step s l n (suc i) ts h.1)

looks_step : (s : Scope) (l : ℕ × Decl) (ls : Looks) → OtherNumbers l.0 ls → AllByRecursion (MayLook s) ls → AllByRecursion (MayLook (declare s (table_name l.0) (table_what s l))) ls
looks_step s l [] a h = tt
looks_step s l (m ∷ ls) a h = (
  record {
    acts = (h.0.acts.0, declare_other s (table_name l.0) (table_what s l) (action_name m.0) [] refl ∙ h.0.acts.1);
    keys = keys_step s l m.0 0 (key_types (m.1).shape) h.0.keys;
    new = ap is_missing (declare_other s (table_name l.0) (table_what s l) (table_name m.0) [] a.0) ∙ h.0.new;
    width = h.0.width;
  },
  looks_step s l ls a.1 h.1,
)

pub looks_fine : (s : Scope) (ls : Looks) → HasMiss s → LooksApart ls → AllByRecursion (MayLook s) ls → IsFine (locals_tests place.Apply s (map table_tree ls))
looks_fine s [] miss a m = tt
looks_fine s (l ∷ ls) miss a m = (
  (refl, look_fine s l miss m.0),
  looks_fine (declare s (table_name l.0) (table_what s l)) ls (declare_other s (table_name l.0) (table_what s l) (codes "NoAction") [] refl ∙ miss) a.1 (looks_step s l ls a.0 m.1),
)

abbrev pub NoLook : List ℕ → Looks → Type 0
NoLook x ls = AllByRecursion (λ l. same_text (table_name l.0) x ≡ false) ls

pub looks_others : (s : Scope) (ls : Looks) (x : List ℕ) (xs : List (List ℕ)) → NoLook x ls → after_locals s (map table_tree ls) (x ∷ xs) ≡ s (x ∷ xs)
looks_others s [] x xs h = refl
looks_others s (l ∷ ls) x xs h = looks_others (declare s (table_name l.0) (table_what s l)) ls x xs h.1 ∙ declare_other s (table_name l.0) (table_what s l) x xs h.0

tables_none : (n : ℕ) (ls : Looks) → OtherNumbers n ls → NoLook (table_name n) ls
tables_none n [] h = tt
tables_none n (l ∷ ls) h = (flip (table_name n) (table_name l.0) h.0, tables_none n ls h.1)

abbrev pub Applies : Scope → ℕ × Decl → Type 0
Applies s l = (m : ℕ) × (s (table_name l.0 ∷ []) ≡ rows m)

pub looks_stand : (s : Scope) (ls : Looks) → LooksApart ls → AllByRecursion (Applies (after_locals s (map table_tree ls))) ls
looks_stand s [] a = tt
looks_stand s (l ∷ ls) a =
    let z = declare s (table_name l.0) (table_what s l) in
    ((most_of_table s (actions_of l.0 (l.1).shape) (Some (default_of l.0 (l.1).shape)), looks_others z ls (table_name l.0) [] (tables_none l.0 ls a.0) ∙ declare_here s (table_name l.0) (table_what s l) []), looks_stand z ls a.1)
