-- The declarations of a part: they break no rule, and what they leave in sight.
use Rattle.std.proofs.Common.{◌≡◌, codes, ℕ, suc, ◌<◌, ◌≤◌, ◌^◌, List, [], ◌∷◌, ◌++◌, map, Bool, true, false, ◌||◌, Option, Some, None, refl, ap, ap₂, ◌∙◌, subst, arith}
use Rattle.std.specs.List.{AllByRecursion}
use Rattle.lex_text.specs.Names.{same_text}
use Rattle.rule_tests.specs.Tests.{IsFine}
use Rattle.indus_tree.specs.Tree.{Decl}
use Rattle.indus_tree.specs.State.{shape_width, width_of}
use Rattle.indus_tree.specs.declared.tree.DeclKind.{DeclKind}
use Rattle.indus_tree.specs.declared.tree.DeclKind.TheVariants.{Tele, Sensor, Header, Control}
use Rattle.indus_tree.specs.declared.tree.Ty.{Ty}
use Rattle.indus_tree.specs.declared.tree.Ty.TheVariants as ty
use Rattle.p4_scopes.specs.Scopes.{Scope, held, is_missing}
use Rattle.p4_scopes.specs.declared.kind.Kind.TheVariants as t
use Rattle.p4_scopes.specs.declared.thing.Thing.TheVariants.{Scalar}
use Rattle.p4_scopes.specs.declared.thing.Access.TheVariants.{Writable}
use Rattle.p4_statement_rules.specs.declared.rule.Part.TheVariants as place
use Rattle.p4_declaration_rules.specs.Controls.{locals_tests, after_locals}
use Rattle.monitor_laws.specs.Telemetry.{AreApart}
use Rattle.monitor_laws.specs.Monitor.{fields_of}
use Rattle.lookup_names.specs.Names.{table_name, action_name, found_name, key_name, value_name}
use Rattle.lookup_names.specs.Keys.{key_types}
use Rattle.lowered_code.specs.Expressions.{value_type, bits_type}
use Rattle.lowered_code.specs.Statements.{Var, key_vars, kept_types, control_kind, read_vars, read_lookups, vars_in, lookups_in}
use Rattle.lowered_code.proofs.Rising.{AreRising, rising_up}
use Rattle.lowered_code.proofs.Numbers.{found_apart}
use Rattle.lowered_code.proofs.Variables.{each_name}
use Rattle.lowered_code.proofs.Widths.{value_width}
use Rattle.lower_blocks.specs.Trees.{var_tree, action_tree, table_tree, locals_for}
use Rattle.monitor_rules.proofs.FormRules.{place as wide, IsWidth}
use Rattle.monitor_rules.proofs.LocalRules.{after_append, kind_at, IsSingle, IsVar, NoVar, VarsNew, AreHeld, held_kept, vars_fine, vars_others, vars_stand, Looks, LooksApart, OtherNumbers, MayAct, acts_fine, NoAct, acts_others, Acts, acts_stand, KeysAt, MayLook, HasMiss, looks_fine, NoLook, looks_others, Applies, looks_stand}

abbrev Reads : Type 0
Reads = List (ℕ × Option Decl)

held_left : (s : Scope) (a b : List Var) → AreHeld s (a ++ b) → AreHeld s a
held_left s [] b h = tt
held_left s (v ∷ a) b h = (h.0, held_left s a b h.1)

held_right : (s : Scope) (a b : List Var) → AreHeld s (a ++ b) → AreHeld s b
held_right s [] b h = h
held_right s (v ∷ a) b h = held_right s a b h.1

bits_kind : (ty : Ty) → kind_at (bits_type ty) ≡ t.Number (width_of ty)
bits_kind (ty.Bit w) = refl
bits_kind ty.Bool = refl

-- the variables of a read
pub found_held : (s : Scope) (n : ℕ) (d : Decl) → AreHeld s (read_vars n (Some d)) → s (found_name n ∷ []) ≡ wide (shape_width d.shape)
found_held s n d h = h.0 ∙ ap (λ k. held Writable (Scalar k)) (bits_kind (value_type d.shape) ∙ ap t.Number (value_width d.shape))

keys_held : (s : Scope) (n i : ℕ) (ts : List Ty) → AreHeld s (key_vars n i ts) → KeysAt s n i ts
keys_held s n i [] h = tt
keys_held s n i (ty ∷ ts) h = (h.0 ∙ ap (λ k. held Writable (Scalar k)) (bits_kind ty), keys_held s n (suc i) ts h.1)

-- the widths of what is read
abbrev pub AreWide : Reads → Type 0
AreWide rs = AllByRecursion (λ r. (d : Decl) → r.1 ≡ Some d → IsWidth (shape_width d.shape)) rs

-- what holds of a read's lookup, where it is one, holds of all lookups
looks_of : (P : ℕ × Decl → Type 0) (s : Scope) (rs : Reads) → AreHeld s (vars_in rs) → AreWide rs →
    ((n : ℕ) (d : Decl) → AreHeld s (read_vars n (Some d)) → IsWidth (shape_width d.shape) → d.kind ≡ Control → P (n, d)) → AllByRecursion P (lookups_in rs)
looks_of P s [] h w f = tt
looks_of P s (r ∷ rs) h w f = by_decl r.1 (held_left s (read_vars r.0 r.1) (vars_in rs) h) w.0 (looks_of P s rs (held_right s (read_vars r.0 r.1) (vars_in rs) h) w.1 f)
  where
    by_kind : (d : Decl) (k : DeclKind) → d.kind ≡ k → AreHeld s (read_vars r.0 (Some d)) → IsWidth (shape_width d.shape) → AllByRecursion P (lookups_in rs) → AllByRecursion P (control_kind k r.0 d ++ lookups_in rs)
    by_kind d Tele e h i l = l
    by_kind d Sensor e h i l = l
    by_kind d Header e h i l = l
    by_kind d Control e h i l = (f r.0 d h i e, l)

    by_decl : (o : Option Decl) → AreHeld s (read_vars r.0 o) → ((d : Decl) → o ≡ Some d → IsWidth (shape_width d.shape)) → AllByRecursion P (lookups_in rs) → AllByRecursion P (read_lookups r.0 o ++ lookups_in rs)
    by_decl None h i l = l
    by_decl (Some d) h i l = by_kind d d.kind refl h (i d refl) l

control_keys : (s : Scope) (n : ℕ) (d : Decl) → d.kind ≡ Control → AreHeld s (read_vars n (Some d)) → KeysAt s n 0 (key_types d.shape)
control_keys s n d k h = keys_held s n 0 (key_types d.shape) (subst (λ k. AreHeld s (key_vars n 0 (kept_types k d.shape))) k h.1)

all_names : (P : List ℕ → Type 0) (f : (n : ℕ) → P (found_name n)) (k : (n i : ℕ) → P (key_name n i)) (rs : Reads) → AllByRecursion (λ v. P v.1) (vars_in rs)
all_names P f k rs = each_name P f k [] rs

all_looks : (P : ℕ × Decl → Type 0) → ((l : ℕ × Decl) → P l) → (ls : Looks) → AllByRecursion P ls
all_looks P f [] = tt
all_looks P f (l ∷ ls) = (f l, all_looks P f ls)

all_vars : (P : Var → Type 0) (a b : List Var) → AllByRecursion P a → AllByRecursion P b → AllByRecursion P (a ++ b)
all_vars P [] b h k = k
all_vars P (v ∷ a) b h k = (h.0, all_vars P a b h.1 k)

both_looks : (P Q R : ℕ × Decl → Type 0) → ((l : ℕ × Decl) → P l → Q l → R l) → (ls : Looks) → AllByRecursion P ls → AllByRecursion Q ls → AllByRecursion R ls
both_looks P Q R f [] h k = tt
both_looks P Q R f (l ∷ ls) h k = (f l h.0 k.0, both_looks P Q R f ls h.1 k.1)

-- numbers tell lookups apart
numbers_apart : (n a b : ℕ) (ls : Looks) → n < a → b ≤ 2 ^ 64 → AreRising a b ls → OtherNumbers n ls
numbers_apart n a b [] lt few h = tt
numbers_apart n a b (l ∷ ls) lt few h =
    let up = rising_up (suc l.0) b ls h.1 in
    let low : l.0 < 2 ^ 64 = omega (arith, up, few) in
    let less : n < l.0 = (let k = h.0 in omega (arith, lt, k)) in
    let n_low : n < 2 ^ 64 = omega (arith, less, low) in
    (found_apart n l.0 n_low low (λ e. omega (arith, less, e)), numbers_apart n (suc l.0) b ls (omega (arith, less)) few h.1)

pub looks_apart : (a b : ℕ) (ls : Looks) → b ≤ 2 ^ 64 → AreRising a b ls → LooksApart ls
looks_apart a b [] few h = tt
looks_apart a b (l ∷ ls) few h = (numbers_apart l.0 (suc l.0) b ls (omega arith) few h.1, looks_apart (suc l.0) b ls few h.1)

-- variables in front of those of reads
pub record AreFlags (fl : List Var) : Type 0 where
  pub single : AllByRecursion IsVar fl
  pub acts : (n : ℕ) → NoVar (action_name n) fl
  pub tables : (n : ℕ) → NoVar (table_name n) fl
  pub value : NoVar value_name fl
  pub no_act : (ls : Looks) → AllByRecursion (λ v. NoAct v.1 ls) fl
  pub no_look : (ls : Looks) → AllByRecursion (λ v. NoLook v.1 ls) fl

no_miss : (rs : Reads) → NoVar (codes "NoAction") (vars_in rs)
no_miss rs = all_names (λ x. same_text x (codes "NoAction") ≡ false) (λ n. refl) (λ n i. refl) rs

pub type_single : (ty : Ty) → IsWidth (width_of ty) → IsSingle (bits_type ty)
type_single (ty.Bit w) i = record { fine = λ s. (ap₂ (λ (a b : Bool). a || b) i.some i.few, refl); thing = λ s. refl }
type_single ty.Bool i = record { fine = λ s. (refl, refl); thing = λ s. refl }

module _ (fl : List Var) (flags : AreFlags fl) (rs : Reads) (single : AllByRecursion IsVar (vars_in rs)) (apart : AreApart (fields_of (fl ++ vars_in rs))) (looks : LooksApart (lookups_in rs)) (widths : AreWide rs) where
  abbrev vs : List Var
  vs = fl ++ vars_in rs

  abbrev ls : Looks
  ls = lookups_in rs

  all_single : AllByRecursion IsVar vs
  all_single = all_vars IsVar fl (vars_in rs) flags.single single

  no_vars : (x : List ℕ) → NoVar x fl → NoVar x (vars_in rs) → NoVar x vs
  no_vars x h k = all_vars (λ v. same_text v.1 x ≡ false) fl (vars_in rs) h k

  module _ (v : Scope) where
    abbrev A1 : Scope
    A1 = after_locals v (map var_tree vs)

    abbrev A2 : Scope
    A2 = after_locals A1 (map action_tree ls)

    abbrev A3 : Scope
    A3 = after_locals A2 (map table_tree ls)

    pub behind_is : after_locals v (locals_for vs ls) ≡ A3
    behind_is = after_append v (map var_tree vs) (map action_tree ls ++ map table_tree ls) ∙ after_append A1 (map action_tree ls) (map table_tree ls)

    first_held : AreHeld A1 vs
    first_held = vars_stand v vs all_single apart

    reads_held : AreHeld A1 (vars_in rs)
    reads_held = held_right A1 fl (vars_in rs) first_held

    -- a name that is none of the declared ones
    pub others_are : (x : List ℕ) (xs : List (List ℕ)) → NoVar x vs → NoAct x ls → NoLook x ls → A3 (x ∷ xs) ≡ v (x ∷ xs)
    others_are x xs a b c = looks_others A2 ls x xs c ∙ acts_others A1 ls x xs b ∙ vars_others v vs x xs a

    pub all_held : AreHeld A3 vs
    all_held = held_kept A1 A3 vs (kept vs (all_vars (λ v. NoAct v.1 ls) fl (vars_in rs) (flags.no_act ls) (all_names (λ x. NoAct x ls) (λ n. all_looks (λ l. same_text (action_name l.0) (found_name n) ≡ false) (λ l. refl) ls) (λ n i. all_looks (λ l. same_text (action_name l.0) (key_name n i) ≡ false) (λ l. refl) ls) rs))
        (all_vars (λ v. NoLook v.1 ls) fl (vars_in rs) (flags.no_look ls) (all_names (λ x. NoLook x ls) (λ n. all_looks (λ l. same_text (table_name l.0) (found_name n) ≡ false) (λ l. refl) ls) (λ n i. all_looks (λ l. same_text (table_name l.0) (key_name n i) ≡ false) (λ l. refl) ls) rs))) first_held
      where
        kept : (us : List Var) → AllByRecursion (λ v. NoAct v.1 ls) us → AllByRecursion (λ v. NoLook v.1 ls) us → AllByRecursion (λ u. A3 (u.1 ∷ []) ≡ A1 (u.1 ∷ [])) us
        kept [] a b = tt
        kept (u ∷ us) a b = (looks_others A2 ls u.1 [] b.0 ∙ acts_others A1 ls u.1 [] a.0, kept us a.1 b.1)

    pub all_applied : AllByRecursion (Applies A3) ls
    all_applied = looks_stand A2 ls looks

    -- ---- the rules

    module _ (new : VarsNew v vs) (value_new : is_missing (v (value_name ∷ [])) ≡ true) (act_new : (n : ℕ) → is_missing (v (action_name n ∷ [])) ≡ true) (table_new : (n : ℕ) → is_missing (v (table_name n ∷ [])) ≡ true) (miss : HasMiss v) where
      acts_ready : AllByRecursion (MayAct A1) ls
      acts_ready =
          looks_of (MayAct A1) A1 rs reads_held widths
          (λ n d h i k.
          record {
            found = found_held A1 n d h;
            new = ap is_missing (vars_others v vs (action_name n) [] (no_vars (action_name n) (flags.acts n) (all_names (λ x. same_text x (action_name n) ≡ false) (λ m. refl) (λ m j. refl) rs))) ∙ act_new n;
            width = i;
          })

      keys_kept : (n i : ℕ) (ts : List Ty) → KeysAt A1 n i ts → KeysAt A2 n i ts
      keys_kept n i [] h = tt
      keys_kept n i (ty ∷ ts) h = (acts_others A1 ls (key_name n i) [] (all_looks (λ l. same_text (action_name l.0) (key_name n i) ≡ false) (λ l. refl) ls) ∙ h.0, keys_kept n (suc i) ts h.1)

      record IsReady (l : ℕ × Decl) : Type 0 where
        keys : KeysAt A2 l.0 0 (key_types (l.1).shape)
        width : IsWidth (shape_width (l.1).shape)

      looks_ready : AllByRecursion (MayLook A2) ls
      looks_ready =
          both_looks (Acts A2) IsReady (MayLook A2)
          (λ l a b.
          record {
            acts = a;
            keys = b.keys;
            new =
                ap is_missing
                (acts_others A1 ls (table_name l.0) [] (all_looks (λ m. same_text (action_name m.0) (table_name l.0) ≡ false) (λ m. refl) ls)
                ∙ vars_others v vs (table_name l.0) [] (no_vars (table_name l.0) (flags.tables l.0) (all_names (λ x. same_text x (table_name l.0) ≡ false) (λ m. refl) (λ m j. refl) rs)))
                ∙ table_new l.0;
            width = b.width;
          })
          ls (acts_stand A1 ls looks)
          (looks_of IsReady A1 rs reads_held widths (λ n d h i k. record { keys = keys_kept n 0 (key_types d.shape) (control_keys A1 n d k h); width = i }))

      pub locals_fine : NoVar (codes "NoAction") fl → IsFine (locals_tests place.Apply v (locals_for vs ls))
      locals_fine free =
          vars_fine v vs (map action_tree ls ++ map table_tree ls) all_single apart new
          (acts_fine A1 ls (map table_tree ls) (ap is_missing (vars_others v vs value_name [] (no_vars value_name flags.value (all_names (λ x. same_text x value_name ≡ false) (λ m. refl) (λ m j. refl) rs))) ∙ value_new) looks acts_ready
          (looks_fine A2 ls
          (acts_others A1 ls (codes "NoAction") [] (all_looks (λ l. same_text (action_name l.0) (codes "NoAction") ≡ false) (λ l. refl) ls) ∙ vars_others v vs (codes "NoAction") [] (no_vars (codes "NoAction") free (no_miss rs)) ∙ miss)
          looks looks_ready))
