-- Actions by the numbers of their names.
use Rattle.std.proofs.Common.{◌≡◌, ℕ, zero, suc, List, [], ◌∷◌, map, Bool, true, false, ◌||◌, if◌then◌else◌, is_none, codes, nat_eq, Option, Some, None, refl, sym, ap, ap₂, ◌∙◌}
use Rattle.std.specs.Prelude.{slice_get}
use Rattle.std.proofs.lemmas.Bool.{eqb-true, or_left}
use Rattle.bit_values.specs.Bits.{Word}
use Rattle.lex_text.specs.Names.{same_text}
use Rattle.p4_meaning.specs.Scope.{is_among}
use Rattle.p4_meaning.specs.Actions.{Action, action_named}
use Rattle.p4_meaning.specs.Tables.{Table}
use Rattle.value_shapes.specs.declared.values.ValueShape.{ValueShape}
use Rattle.table_shapes.specs.Shapes.{ActionShape, has_action, have_widths, takes}
use Rattle.p4_tables.specs.Named.{action_name}
use Rattle.p4_tables.specs.Programs.{action_place, action_shape}
use Rattle.slot_programs.specs.Chooses.{names_of, may_run}
use Rattle.slot_programs.proofs.NameLemmas.{same_is, same_self, or_right}

-- ---- the action of a name, and its number

pub place_found : (as' : List Action) (y : List ℕ) → slice_get as' (action_place as' y) ≡ action_named as' y
place_found [] y = refl
place_found (a ∷ as') y = go (place_found as' y) (same_text a.name y)
  where
    go : slice_get as' (action_place as' y) ≡ action_named as' y → (b : Bool) → slice_get (a ∷ as') (if b then 0 else suc (action_place as' y)) ≡ (if b then Some a else action_named as' y)
    go more true = refl
    go more false = more

name_found : (as' : List Action) (y : List ℕ) (a : Action) → action_named as' y ≡ Some a → action_name as' (action_place as' y) ≡ y
name_found [] y a e = absurd (cc e)
name_found (b ∷ bs) y a e = go (λ h. name_found bs y a h) (same_text b.name y) refl e
  where
    go : (action_named bs y ≡ Some a → action_name bs (action_place bs y) ≡ y) → (t : Bool) → same_text b.name y ≡ t → (if t then Some b else action_named bs y) ≡ Some a → action_name (b ∷ bs) (if t then 0 else suc (action_place bs y)) ≡ y
    go more true is h = same_is b.name y is
    go more false is h = more h

name_none : (as' : List Action) (y : List ℕ) → action_named as' y ≡ None → action_name as' (action_place as' y) ≡ codes "NoAction"
name_none [] y e = refl
name_none (b ∷ bs) y e = go (λ h. name_none bs y h) (same_text b.name y) e
  where
    go : (action_named bs y ≡ None → action_name bs (action_place bs y) ≡ codes "NoAction") → (t : Bool) → (if t then Some b else action_named bs y) ≡ None → action_name (b ∷ bs) (if t then 0 else suc (action_place bs y)) ≡ codes "NoAction"
    go more true h = absurd (cc h)
    go more false h = more h

-- the action of a name stands at the number of the name
at_name : (as' : List Action) (y : List ℕ) → action_named as' (codes "NoAction") ≡ None → action_named as' (action_name as' (action_place as' y)) ≡ action_named as' y
at_name as' y none = go (action_named as' y) refl
  where
    go : (o : Option Action) → action_named as' y ≡ o → action_named as' (action_name as' (action_place as' y)) ≡ action_named as' y
    go None e = ap (action_named as') (name_none as' y e) ∙ none ∙ sym e
    go (Some a) e = ap (action_named as') (name_found as' y a e)

-- ---- actions of the same names

abbrev Names : Type 0
Names = List (List ℕ)

head_is : (x y : List ℕ) (xs ys : Names) → (x ∷ xs) ≡ (y ∷ ys) → x ≡ y
head_is x y xs ys e = cc e

tail_is : (x y : List ℕ) (xs ys : Names) → (x ∷ xs) ≡ (y ∷ ys) → xs ≡ ys
tail_is x y xs ys e = cc e

place_same : (as' bs : List Action) → names_of as' ≡ names_of bs → (y : List ℕ) → action_place as' y ≡ action_place bs y
place_same [] [] e y = refl
place_same [] (b ∷ bs) e y = absurd (cc e)
place_same (a ∷ as') [] e y = absurd (cc e)
place_same (a ∷ as') (b ∷ bs) e y = ap₂ (λ x n. if same_text x y then 0 else suc n) (head_is a.name b.name (names_of as') (names_of bs) e) (place_same as' bs (tail_is a.name b.name (names_of as') (names_of bs) e) y)

name_same : (as' bs : List Action) → names_of as' ≡ names_of bs → (n : ℕ) → action_name as' n ≡ action_name bs n
name_same [] [] e n = refl
name_same [] (b ∷ bs) e n = absurd (cc e)
name_same (a ∷ as') [] e n = absurd (cc e)
name_same (a ∷ as') (b ∷ bs) e zero = head_is a.name b.name (names_of as') (names_of bs) e
name_same (a ∷ as') (b ∷ bs) e (suc n) = name_same as' bs (tail_is a.name b.name (names_of as') (names_of bs) e) n

none_same : (as' bs : List Action) → names_of as' ≡ names_of bs → (y : List ℕ) → action_named bs y ≡ None → action_named as' y ≡ None
none_same [] bs e y none = refl
none_same (a ∷ as') [] e y none = absurd (cc e)
none_same (a ∷ as') (b ∷ bs) e y none =
    ap (λ x. if same_text x y then Some a else action_named as' y) (head_is a.name b.name (names_of as') (names_of bs) e)
    ∙ go (λ h. none_same as' bs (tail_is a.name b.name (names_of as') (names_of bs) e) y h) (same_text b.name y) none
  where
    go : (action_named bs y ≡ None → action_named as' y ≡ None) → (t : Bool) → (if t then Some b else action_named bs y) ≡ None → (if t then Some a else action_named as' y) ≡ None
    go more true h = absurd (cc h)
    go more false h = more h

-- ---- what a table runs

-- a number is that of a name that a table lists
pub record Runs (as' : List Action) (t : Table) (n : ℕ) : Type 0 where
  pub name : List ℕ
  pub listed : is_among (t.default.action ∷ t.actions) name ≡ true
  pub number : n ≡ action_place as' name

-- by its number an action of any list of these names is found as by its name
pub number_runs : (bs : List Action) → action_named bs (codes "NoAction") ≡ None → (t : Table) (n : ℕ) → Runs bs t n → (as' : List Action) → names_of as' ≡ names_of bs → slice_get as' n ≡ action_named as' (action_name bs n)
number_runs bs none t n runs as' same =
    let own : n ≡ action_place as' runs.name = runs.number ∙ sym (place_same as' bs same runs.name) in
    ap (slice_get as') own ∙ place_found as' runs.name ∙ sym (at_name as' runs.name (none_same as' bs same (codes "NoAction") none))
    ∙ ap (action_named as') (ap (action_name as') (sym own) ∙ name_same as' bs same n)

none_test : (o : Option Action) → o ≡ None → is_none o ≡ true
none_test None e = refl
none_test (Some a) e = absurd (cc e)

-- and the table may run it
pub name_runs : (as' : List Action) → action_named as' (codes "NoAction") ≡ None → (t : Table) (n : ℕ) → Runs as' t n → may_run as' t (action_name as' n) ≡ true
name_runs as' none t n runs = go (action_named as' runs.name) refl
  where
    is : action_name as' n ≡ action_name as' (action_place as' runs.name)
    is = ap (action_name as') runs.number

    go : (o : Option Action) → action_named as' runs.name ≡ o → may_run as' t (action_name as' n) ≡ true
    go None e =
        or_right (is_among (t.default.action ∷ t.actions) (action_name as' n)) (is_none (action_named as' (action_name as' n)))
        (none_test (action_named as' (action_name as' n)) (ap (action_named as') (is ∙ name_none as' runs.name e) ∙ none))
    go (Some a) e =
        or_left (is_among (t.default.action ∷ t.actions) (action_name as' n)) (is_none (action_named as' (action_name as' n)))
        (ap (is_among (t.default.action ∷ t.actions)) (is ∙ name_found as' runs.name a e) ∙ runs.listed)

-- ---- the lists of tables

record Lists (as' : List Action) (xs : Names) (n : ℕ) : Type 0 where
  name : List ℕ
  listed : is_among xs name ≡ true
  number : n ≡ action_place as' name

has_lists : (as' : List Action) (pss : List (List ValueShape)) (xs : Names) (n : ℕ) → has_action (map (action_shape as' pss) xs) n ≡ true → Lists as' xs n
has_lists as' pss [] n e = absurd (cc e)
has_lists as' pss (x ∷ xs) n e = go (λ h. has_lists as' pss xs n h) (nat_eq (action_place as' x) n) refl e
  where
    go : (has_action (map (action_shape as' pss) xs) n ≡ true → Lists as' xs n) → (b : Bool) → nat_eq (action_place as' x) n ≡ b → (b || has_action (map (action_shape as' pss) xs) n) ≡ true → Lists as' (x ∷ xs) n
    go more true is h = record { name = x; listed = or_left (same_text x x) (is_among xs x) (same_self x); number = sym (eqb-true (action_place as' x) n is) }
    go more false is h = (let l = more h in record { name = l.name; listed = or_right (same_text x l.name) (is_among xs l.name) l.listed; number = l.number })

takes_has : (as' : List ActionShape) (n : ℕ) (ws : List Word) → takes as' n ws ≡ true → has_action as' n ≡ true
takes_has [] n ws e = e
takes_has (a ∷ as') n ws e = go (λ h. takes_has as' n ws h) (nat_eq a.number n) e
  where
    go : (takes as' n ws ≡ true → has_action as' n ≡ true) → (b : Bool) → (if b then have_widths a.params ws else takes as' n ws) ≡ true → (b || has_action as' n) ≡ true
    go more true h = refl
    go more false h = more h

-- the action of an entry is one of a table's list
pub taken_runs : (as' : List Action) (pss : List (List ValueShape)) (t : Table) (n : ℕ) (ws : List Word) → takes (map (action_shape as' pss) t.actions) n ws ≡ true → Runs as' t n
taken_runs as' pss t n ws e =
    let l = has_lists as' pss t.actions n (takes_has (map (action_shape as' pss) t.actions) n ws e) in
    record { name = l.name; listed = or_right (same_text t.default.action l.name) (is_among t.actions l.name) l.listed; number = l.number }

-- so is a default, or it is the one that is written
pub default_runs : (as' : List Action) (pss : List (List ValueShape)) (t : Table) (n : ℕ) → (nat_eq (action_place as' t.default.action) n || has_action (map (action_shape as' pss) t.actions) n) ≡ true → Runs as' t n
default_runs as' pss t n e = go (nat_eq (action_place as' t.default.action) n) refl e
  where
    go : (b : Bool) → nat_eq (action_place as' t.default.action) n ≡ b → (b || has_action (map (action_shape as' pss) t.actions) n) ≡ true → Runs as' t n
    go true is h = record { name = t.default.action; listed = or_left (same_text t.default.action t.default.action) (is_among t.actions t.default.action) (same_self t.default.action); number = sym (eqb-true (action_place as' t.default.action) n is) }
    go false is h = (let l = has_lists as' pss t.actions n h in record { name = l.name; listed = or_right (same_text t.default.action l.name) (is_among t.actions l.name) l.listed; number = l.number })
