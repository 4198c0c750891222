-- Full names: a point stands between the name of what a control declares and the control's name, and in no plain name.
use Rattle.std.proofs.Common.{◌≡◌, ℕ, List, [], ◌∷◌, ◌++◌, Bool, true, false, not, cond, ◌||◌, nat_eq, codes, Some, None, refl, sym, ap, ◌∙◌, subst}
use Rattle.std.proofs.lemmas.Bool.{not-true}
use Rattle.lex_text.specs.Names.{same_text}
use Rattle.p4_tree.specs.Tree.{Local, local_action, local_table, local_register, local_const, local_var, Top, constant, typedef, header_type, struct_type, register, parser, control, Control}
use Rattle.p4_meaning.specs.Scope as meaning
use Rattle.p4_meaning.specs.Scope.{is_among, full, full_name, own_names}
use Rattle.p4_meaning.specs.Under.{behind_top, behind_local, in_control}
use Rattle.p4_meaning.specs.Actions.{Action, actions_in, actions_of, action_named}
use Rattle.p4_meaning.specs.Tables.{Table, tables_in, table_named}
use Rattle.p4_typing_laws.specs.Plain.{has_point, is_plain, IsPlain, IsPlainLocal, HavePlainNames}
use Rattle.std.specs.List.{AllByRecursion}
use Rattle.p4_typing_laws.proofs.CallCounts.{text_is, text_same, is_function_name}

pub head_same : {A : Type 0} (x y : A) (xs ys : List A) → (x ∷ xs) ≡ (y ∷ ys) → x ≡ y
head_same x y xs ys e = cc

pub tail_same : {A : Type 0} (x y : A) (xs ys : List A) → (x ∷ xs) ≡ (y ∷ ys) → xs ≡ ys
tail_same x y xs ys e = cc

-- what begins a plain name is no point, and what follows is plain
plain_head : (b : ℕ) (bs : List ℕ) → IsPlain (b ∷ bs) → b ≡ 46 → ⊥
plain_head b bs h e = (let c : false ≡ true = subst (λ (n : ℕ). is_plain (n ∷ bs) ≡ true) e h in cc)

plain_tail : (b : ℕ) (bs : List ℕ) → IsPlain (b ∷ bs) → IsPlain bs
plain_tail b bs h = go (nat_eq b 46) h
  where
    go : (c : Bool) → not (c || has_point bs) ≡ true → IsPlain bs
    go true k = absurd (let c : false ≡ true = k in cc)
    go false k = k

-- plain names and the names around them are known from full names
pub full_apart : (a b c d : List ℕ) → IsPlain a → IsPlain b → full c a ≡ full d b → (a ≡ b) × (c ≡ d)
full_apart [] [] c d h k e = (refl, tail_same 46 46 c d e)
full_apart [] (y ∷ ys) c d h k e = absurd (plain_head y ys k (sym (head_same 46 y c (ys ++ 46 ∷ d) e)))
full_apart (x ∷ xs) [] c d h k e = absurd (plain_head x xs h (head_same x 46 (xs ++ 46 ∷ c) d e))
full_apart (x ∷ xs) (y ∷ ys) c d h k e =
    (let same = head_same x y (xs ++ 46 ∷ c) (ys ++ 46 ∷ d) e in
    let more = full_apart xs ys c d (plain_tail x xs h) (plain_tail y ys k) (tail_same x y (xs ++ 46 ∷ c) (ys ++ 46 ∷ d) e) in
    let rest = more.0 in
    (cc, more.1))

-- ---- points

or_right : (a b : Bool) → b ≡ true → (a || b) ≡ true
or_right true b h = refl
or_right false b h = h

pub full_has : (c x : List ℕ) → has_point (full c x) ≡ true
full_has c [] = refl
full_has c (b ∷ bs) = or_right (nat_eq b 46) (has_point (full c bs)) (full_has c bs)

-- a plain name has none, so that it is no full name
pub plain_no_point : (x : List ℕ) → IsPlain x → has_point x ≡ false
plain_no_point x h = not-true (has_point x) h

pub plain_not_full : (x : List ℕ) → IsPlain x → (c y : List ℕ) → x ≡ full c y → ⊥
plain_not_full x h c y e = (let k : true ≡ false = sym (full_has c y) ∙ sym (ap has_point e) ∙ plain_no_point x h in cc)

pub no_other : (y n : List ℕ) → has_point y ≡ true → has_point n ≡ false → same_text y n ≡ false
no_other y n h k = go (same_text y n) refl
  where
    go : (b : Bool) → same_text y n ≡ b → same_text y n ≡ false
    go true e = (let same = ap has_point (text_is y n e) in let c : true ≡ false = sym h ∙ same ∙ k in absurd (cc))
    go false e = e

pub no_function : (y : List ℕ) → has_point y ≡ true → is_function_name y ≡ false
no_function y h = go _ _ _ _ (no_other y (codes "mark_to_drop") h refl) (no_other y (codes "digest") h refl) (no_other y (codes "verify_checksum") h refl) (no_other y (codes "update_checksum") h refl)
  where
    go : (a b c d : Bool) → a ≡ false → b ≡ false → c ≡ false → d ≡ false → (a || b || c || d) ≡ false
    go true b c d e f g i = absurd (cc)
    go false true c d e f g i = absurd (cc)
    go false false true d e f g i = absurd (cc)
    go false false false true e f g i = absurd (cc)
    go false false false false e f g i = refl

pub other_text : (x y : List ℕ) → (x ≡ y → ⊥) → same_text x y ≡ false
other_text x y h = go (same_text x y) refl
  where
    go : (b : Bool) → same_text x y ≡ b → same_text x y ≡ false
    go true e = absurd (h (text_is x y e))
    go false e = e

-- ---- the names of a control's declarations

pub among_head : (y : List ℕ) (ys : List (List ℕ)) → is_among (y ∷ ys) y ≡ true
among_head y ys = ap (λ (b : Bool). b || is_among ys y) (text_same y y refl)

pub among_tail : (y : List ℕ) (ys : List (List ℕ)) (x : List ℕ) → is_among ys x ≡ true → is_among (y ∷ ys) x ≡ true
among_tail y ys x h = or_right (same_text y x) (is_among ys x) h

-- a scope of a control knows the names that these declarations of it have
pub record Knows (c : List ℕ) (sc : meaning.Scope) (ls : List Local) : Type 0 where
  pub control : sc.control ≡ c
  pub names : (x : List ℕ) → is_among (own_names ls) x ≡ true → is_among sc.own x ≡ true

pub known_full : (c : List ℕ) (sc : meaning.Scope) (ls : List Local) → Knows c sc ls → (x : List ℕ) → is_among (own_names ls) x ≡ true → full_name sc x ≡ full c x
known_full c sc ls k x h = ap (λ (b : Bool). cond b (full sc.control x) x) (k.names x h) ∙ ap (λ (d : List ℕ). full d x) k.control

pub knows_rest : (c : List ℕ) (sc : meaning.Scope) (l : Local) (ls : List Local) → Knows c sc (l ∷ ls) → Knows c (behind_local sc l) ls
knows_rest c sc (local_action p a) ls k = record { control = k.control; names = λ x h. k.names x (among_tail a.name (own_names ls) x h) }
knows_rest c sc (local_table p t) ls k = record { control = k.control; names = λ x h. k.names x (among_tail t.name (own_names ls) x h) }
knows_rest c sc (local_register p r) ls k = record { control = k.control; names = λ x h. k.names x (among_tail r.name (own_names ls) x h) }
knows_rest c sc (local_const p t x e) ls k = record { control = k.control; names = λ x h. k.names x h }
knows_rest c sc (local_var p t x e) ls k = record { control = k.control; names = λ x h. k.names x h }

-- ---- what a full name finds

pub named_other : (as' : List Action) (a : Action) (y : List ℕ) → (a.name ≡ y → ⊥) → action_named (a ∷ as') y ≡ action_named as' y
named_other as' a y h = ap (λ (b : Bool). cond b (Some a) (action_named as' y)) (other_text a.name y h)

pub table_other : (ts : List Table) (t : Table) (y : List ℕ) → (t.name ≡ y → ⊥) → table_named (t ∷ ts) y ≡ table_named ts y
table_other ts t y h = ap (λ (b : Bool). cond b (Some t) (table_named ts y)) (other_text t.name y h)

-- a name that is no full name under this control finds none of the control's declarations
pub skip_actions : (c y : List ℕ) → ((x : List ℕ) → IsPlain x → full c x ≡ y → ⊥) → (ls : List Local) (sc : meaning.Scope) → Knows c sc ls → AllByRecursion IsPlainLocal ls → (rest : List Action) → action_named (actions_in sc ls ++ rest) y ≡ action_named rest y
skip_actions c y apart [] sc k h rest = refl
skip_actions c y apart (local_action p a ∷ ls) sc k h rest =
    named_other _ _ y (λ e. apart a.name h.0 (sym (known_full c sc (local_action p a ∷ ls) k a.name (among_head a.name (own_names ls))) ∙ e))
    ∙ skip_actions c y apart ls sc (knows_rest c sc (local_action p a) ls k) h.1 rest
skip_actions c y apart (local_table p t ∷ ls) sc k h rest = skip_actions c y apart ls sc (knows_rest c sc (local_table p t) ls k) h.1 rest
skip_actions c y apart (local_register p r ∷ ls) sc k h rest = skip_actions c y apart ls sc (knows_rest c sc (local_register p r) ls k) h.1 rest
skip_actions c y apart (local_const p t x e ∷ ls) sc k h rest = skip_actions c y apart ls (behind_local sc (local_const p t x e)) (knows_rest c sc (local_const p t x e) ls k) h.1 rest
skip_actions c y apart (local_var p t x e ∷ ls) sc k h rest = skip_actions c y apart ls sc (knows_rest c sc (local_var p t x e) ls k) h.1 rest

pub skip_tables : (as' : List Action) (c y : List ℕ) → ((x : List ℕ) → IsPlain x → full c x ≡ y → ⊥) → (ls : List Local) (sc : meaning.Scope) → Knows c sc ls → AllByRecursion IsPlainLocal ls → (rest : List Table) → table_named (tables_in sc as' ls ++ rest) y ≡ table_named rest y
skip_tables as' c y apart [] sc k h rest = refl
skip_tables as' c y apart (local_action p a ∷ ls) sc k h rest = skip_tables as' c y apart ls sc (knows_rest c sc (local_action p a) ls k) h.1 rest
skip_tables as' c y apart (local_table p t ∷ ls) sc k h rest =
    table_other _ _ y (λ e. apart t.name h.0 (sym (known_full c sc (local_table p t ∷ ls) k t.name (among_head t.name (own_names ls))) ∙ e))
    ∙ skip_tables as' c y apart ls sc (knows_rest c sc (local_table p t) ls k) h.1 rest
skip_tables as' c y apart (local_register p r ∷ ls) sc k h rest = skip_tables as' c y apart ls sc (knows_rest c sc (local_register p r) ls k) h.1 rest
skip_tables as' c y apart (local_const p t x e ∷ ls) sc k h rest = skip_tables as' c y apart ls (behind_local sc (local_const p t x e)) (knows_rest c sc (local_const p t x e) ls k) h.1 rest
skip_tables as' c y apart (local_var p t x e ∷ ls) sc k h rest = skip_tables as' c y apart ls sc (knows_rest c sc (local_var p t x e) ls k) h.1 rest

-- at the beginning of a control
pub knows_all : (h m s : ℕ) (sc : meaning.Scope) (c : Control) → Knows c.name (in_control h m s sc c) c.locals
knows_all h m s sc c = record { control = refl; names = λ x e. e }

-- a name without a point is no action's
pub none_named : (ts : List Top) (sc : meaning.Scope) (y : List ℕ) → has_point y ≡ false → HavePlainNames ts → action_named (actions_of sc ts) y ≡ None
none_named [] sc y h k = refl
none_named (constant p t x e ∷ ts) sc y h k = none_named ts (behind_top sc (constant p t x e)) y h k.1
none_named (typedef p t x ∷ ts) sc y h k = none_named ts (behind_top sc (typedef p t x)) y h k
none_named (header_type p x fs ∷ ts) sc y h k = none_named ts sc y h k
none_named (struct_type p x fs ∷ ts) sc y h k = none_named ts sc y h k
none_named (register p r ∷ ts) sc y h k = none_named ts sc y h k.1
none_named (parser p d ∷ ts) sc y h k = none_named ts sc y h k
none_named (control p c ∷ ts) sc y h k =
    skip_actions c.name y (λ x q e. (let has : has_point y ≡ true = sym (ap has_point e) ∙ full_has c.name x in let c : false ≡ true = sym h ∙ has in cc)) c.locals (in_control 0 1 2 sc c) (knows_all 0 1 2 sc c) k.0.0 (actions_of sc ts)
    ∙ none_named ts sc y h k.1
