-- Bodies of actions, one after the other.
use Rattle.std.proofs.Common.{◌≡◌, ◌≢◌, ℕ, zero, suc, ◌+◌, ◌<◌, ◌≤◌, List, [], ◌∷◌, ◌++◌, length, drop, map, Bool, true, false, not, ◌&&◌, ◌||◌, is_some, if◌then◌else◌, Option, Some, None, refl, sym, ap, ◌∙◌, subst, arith, nat_eq}
use Rattle.std.proofs.lemmas.Bool.Decides.{nat_tests}
use Rattle.std.proofs.lemmas.Bool.{and_from}
use Rattle.std.proofs.lemmas.Result.{err_from_is_err_and}
use Rattle.std.specs.Prelude.{max, slice_get, Result, Err, IsErr, IsErrAnd, IfErr}
use Rattle.slot_terms.specs.declared.fault.Fault.{Fault}
use Rattle.slot_terms.specs.declared.fault.Fault.TheVariants as fault
use Rattle.lex_text.specs.Names.{same_text}
use Rattle.p4_meaning.specs.Scope.{is_among}
use Rattle.p4_meaning.specs.Actions.{Action, action_named}
use Rattle.p4_meaning.specs.Tables.{Table}
use Rattle.p4_meaning.specs.DigestBound.{most_named, most_of_action, most_of_table, greatest}
use Rattle.p4_statements.proofs.RegistersLemmas.{text_decides}
use Rattle.slot_terms.specs.Places.{Places, IsLaid}
use Rattle.slot_statements.specs.Parameters.{with_params, masked_from}
use Rattle.slot_statements.specs.Known.{are_free}
use Rattle.slot_statements.proofs.KnownLemmas.{not_second}
use Rattle.slot_controls.specs.Steps.{ActionSlots, Step, Steps, group, steps_from, most_told, most_told_one, run, run_all}
use Rattle.slot_controls.specs.Callees.{Callees, bare, lists}
use Rattle.slot_controls.specs.StepRuns.{DoAllSteps, Either, HasBody, HaveBodies, IsBody, IsBodyOf}
use Rattle.slot_control_codes.specs.Known.{bare_calls, has_bodies, has_body, known_calls, steps_behind_all}
use Rattle.slot_control_codes.specs.Found.{IsBodyMore, most_listed}

-- ---- a body behind others

module _ (P : List (ℕ × ℕ) → Step → Type 0) (none : Type 0) (i : ℕ) (y : ActionSlots) (c : Step) where
  -- what was there stays
  body_kept : (xs : List ActionSlots) (cs : List Step) → HasBody P ⊥ i xs (steps_from cs) → HasBody P none i (xs ++ y ∷ []) (steps_from (cs ++ c ∷ []))
  body_kept [] [] h = absurd h
  body_kept [] (d ∷ cs) h = absurd h
  body_kept (x ∷ xs) [] h = absurd h
  body_kept (x ∷ xs) (d ∷ cs) h = go (λ k. body_kept xs cs k) (nat_eq x.number i) h
    where
      go : (HasBody P ⊥ i xs (steps_from cs) → HasBody P none i (xs ++ y ∷ []) (steps_from (cs ++ c ∷ []))) → (b : Bool) → Either b (P x.params d) (HasBody P ⊥ i xs (steps_from cs)) → Either b (P x.params d) (HasBody P none i (xs ++ y ∷ []) (steps_from (cs ++ c ∷ [])))
      go more true k = k
      go more false k = more k

  -- the new one is found where none was
  body_new : (xs : List ActionSlots) (cs : List Step) → nat_eq y.number i ≡ true → P y.params c → HasBody (λ ps d. ⊥) (Unit {0}) i xs (steps_from cs) → HasBody P none i (xs ++ y ∷ []) (steps_from (cs ++ c ∷ []))
  body_new [] [] e p h = subst (λ b. Either b (P y.params c) none) (sym e) p
  body_new [] (d ∷ cs) e p h = absurd h
  body_new (x ∷ xs) [] e p h = absurd h
  body_new (x ∷ xs) (d ∷ cs) e p h = go (λ k. body_new xs cs e p k) (nat_eq x.number i) h
    where
      go : (HasBody (λ ps d. ⊥) (Unit {0}) i xs (steps_from cs) → HasBody P none i (xs ++ y ∷ []) (steps_from (cs ++ c ∷ []))) → (b : Bool) → Either b ⊥ (HasBody (λ ps d. ⊥) (Unit {0}) i xs (steps_from cs)) → Either b (P x.params d) (HasBody P none i (xs ++ y ∷ []) (steps_from (cs ++ c ∷ [])))
      go more true k = absurd k
      go more false k = more k

-- another number has none still
body_other : (i : ℕ) (y : ActionSlots) (c : Step) (xs : List ActionSlots) (cs : List Step) → nat_eq y.number i ≡ false → HasBody (λ ps d. ⊥) (Unit {0}) i xs (steps_from cs) → HasBody (λ ps d. ⊥) (Unit {0}) i (xs ++ y ∷ []) (steps_from (cs ++ c ∷ []))
body_other i y c [] [] e h = subst (λ b. Either b ⊥ (Unit {0})) (sym e) tt
body_other i y c [] (d ∷ cs) e h = absurd h
body_other i y c (x ∷ xs) [] e h = absurd h
body_other i y c (x ∷ xs) (d ∷ cs) e h = go (λ k. body_other i y c xs cs e k) (nat_eq x.number i) h
  where
    go : (HasBody (λ ps d. ⊥) (Unit {0}) i xs (steps_from cs) → HasBody (λ ps d. ⊥) (Unit {0}) i (xs ++ y ∷ []) (steps_from (cs ++ c ∷ []))) → (b : Bool) → Either b ⊥ (HasBody (λ ps d. ⊥) (Unit {0}) i xs (steps_from cs)) → Either b ⊥ (HasBody (λ ps d. ⊥) (Unit {0}) i (xs ++ y ∷ []) (steps_from (cs ++ c ∷ [])))
    go more true k = k
    go more false k = more k

-- ---- what a table may run

is_same : (n i : ℕ) → nat_eq n i ≡ true → n ≡ i
is_same n i e = grind (arith, nat_tests, e)

is_apart : (n i : ℕ) → nat_eq n i ≡ false → n ≢ i
is_apart n i e h = grind (arith, nat_tests, e, h)

are_apart : (n i : ℕ) → n < i → nat_eq n i ≡ false
are_apart n i lt = grind (arith, nat_tests, lt)

are_same : (n : ℕ) → nat_eq n n ≡ true
are_same n = grind (arith, nat_tests)

one_action : (a b : Action) → Some a ≡ Some b → a ≡ b
one_action a b e = cc e

module _ (k : Callees) (m : Places) (t : Table) (n : ℕ) (a : Action) (at : slice_get k.actions n ≡ Some a) (xs : List ActionSlots) (cs : List Step) (have : HaveBodies k m t n xs (steps_from cs)) where
  -- an action that it may not run, and one whose name names none
  passed : (ys : List ActionSlots) (ds : List Step) → ys ≡ xs → ds ≡ cs → ((b : Action) → lists t a.name ≡ true → action_named k.actions a.name ≡ Some b → ⊥) → HaveBodies k m t (n + 1) ys (steps_from ds)
  passed ys ds same steps never = subst (λ zs. HaveBodies k m t (n + 1) zs (steps_from ds)) (sym same) (subst (λ es. HaveBodies k m t (n + 1) xs (steps_from es)) (sym steps) (record {
    own = λ i b c lt is listed first. own i b c lt is listed first (nat_eq n i) refl;
    others = λ i le. have.others i (omega (arith, le));
  }))
    where
      own : (i : ℕ) (b c : Action) → i < n + 1 → slice_get k.actions i ≡ Some b → lists t b.name ≡ true → action_named k.actions b.name ≡ Some c → (q : Bool) → nat_eq n i ≡ q → HasBody (IsBodyOf k m c) ⊥ i xs (steps_from cs)
      own i b c lt is listed first true e =
          let here : a ≡ b = one_action a b (sym at ∙ subst (λ j. slice_get k.actions j ≡ Some b) (sym (is_same n i e)) is) in
          absurd (never c (subst (λ (d : Action). lists t d.name ≡ true) (sym here) listed) (subst (λ (d : Action). action_named k.actions d.name ≡ Some c) (sym here) first))
      own i b c lt is listed first false e = (let z : n ≢ i = is_apart n i e in have.own i b c (omega (arith, lt, z)) is listed first)

  pub have_unlisted : (ys : List ActionSlots) (ds : List Step) → ys ≡ xs → ds ≡ cs → lists t a.name ≡ false → HaveBodies k m t (n + 1) ys (steps_from ds)
  have_unlisted ys ds same steps e = passed ys ds same steps (λ b listed first. let z : false ≡ true = sym e ∙ listed in cc z)

  pub have_unnamed : (ys : List ActionSlots) (ds : List Step) → ys ≡ xs → ds ≡ cs → action_named k.actions a.name ≡ None → HaveBodies k m t (n + 1) ys (steps_from ds)
  have_unnamed ys ds same steps e = passed ys ds same steps (λ b listed first. let z : None ≡ Some b = sym e ∙ first in cc z)

  -- an action that it may run
  pub have_more : (ys : List ActionSlots) (ds : List Step) (b : Action) → action_named k.actions a.name ≡ Some b → IsBodyMore k m b n xs ys cs ds → HaveBodies k m t (n + 1) ys (steps_from ds)
  have_more ys ds b named more = subst (λ zs. HaveBodies k m t (n + 1) zs (steps_from ds)) (sym more.slots) (subst (λ es. HaveBodies k m t (n + 1) (xs ++ y ∷ []) (steps_from es)) (sym more.steps) (record {
    own = λ i d c lt is listed first. own i d c lt is listed first (nat_eq n i) refl;
    others = λ i le. body_other i y more.step xs cs (are_apart n i (omega (arith, le))) (have.others i (omega (arith, le)));
  }))
    where
      y : ActionSlots
      y = record { number = n; params = more.params }

      own : (i : ℕ) (d c : Action) → i < n + 1 → slice_get k.actions i ≡ Some d → lists t d.name ≡ true → action_named k.actions d.name ≡ Some c → (q : Bool) → nat_eq n i ≡ q → HasBody (IsBodyOf k m c) ⊥ i (xs ++ y ∷ []) (steps_from (cs ++ more.step ∷ []))
      own i d c lt is listed first true e =
          let here : a ≡ d = one_action a d (sym at ∙ subst (λ j. slice_get k.actions j ≡ Some d) (sym (is_same n i e)) is) in
          let same : b ≡ c = one_action b c (sym named ∙ subst (λ (z : Action). action_named k.actions z.name ≡ Some c) (sym here) first) in
          body_new (IsBodyOf k m c) ⊥ i y more.step xs cs e (subst (λ z. IsBodyOf k m z more.params more.step) same more.does) (have.others i (let z : n ≡ i = is_same n i e in omega (arith, z)))
      own i d c lt is listed first false e = (let z : n ≢ i = is_apart n i e in body_kept (IsBodyOf k m c) ⊥ i y more.step xs cs (have.own i d c (omega (arith, lt, z)) is listed first))

-- at first there are none
pub have_none : (k : Callees) (m : Places) (t : Table) → HaveBodies k m t 0 [] (steps_from [])
have_none k m t = record { own = λ i a b lt is listed first. absurd (omega (arith, lt)); others = λ i le. tt }

-- ---- digests

-- a body behind others
pub one-append : (cs : List Step) (c : Step) → most_told_one (steps_from (cs ++ c ∷ [])) ≡ max (most_told_one (steps_from cs)) (most_told c)
one-append [] c = omega arith
one-append (x ∷ cs) c = (let e : most_told_one (steps_from (cs ++ c ∷ [])) ≡ max (most_told_one (steps_from cs)) (most_told c) = one-append cs c in omega (arith, e))

among_least : (as' : List Action) (names : List (List ℕ)) (x : List ℕ) → is_among names x ≡ true → most_named as' x ≤ greatest as' names
among_least as' [] x e = absurd (cc e)
among_least as' (z ∷ zs) x e = go (λ h. among_least as' zs x h) (same_text z x) refl e
  where
    go : (is_among zs x ≡ true → most_named as' x ≤ greatest as' zs) → (b : Bool) → same_text z x ≡ b → (b || is_among zs x) ≡ true → most_named as' x ≤ max (most_named as' z) (greatest as' zs)
    go more true s h = (let q : most_named as' z ≡ most_named as' x = ap (most_named as') ((text_decides z x).0 s) in omega (arith, q))
    go more false s h = (let le : most_named as' x ≤ greatest as' zs = more h in omega (arith, le))

-- what is listed is among the names
listed_below : (as' : List Action) (t : Table) (rest : List Action) → most_listed as' t rest ≤ most_of_table as' (Some t)
listed_below as' t [] = omega arith
listed_below as' t (a ∷ rest) =
    let le : most_listed as' t rest ≤ most_of_table as' (Some t) = listed_below as' t rest in
    let one : (if lists t a.name then most_named as' a.name else 0) ≤ most_of_table as' (Some t) = go (lists t a.name) refl in
    omega (arith, le, one)
  where
    go : (b : Bool) → lists t a.name ≡ b → (if b then most_named as' a.name else 0) ≤ most_of_table as' (Some t)
    go true e = among_least as' (t.default.action ∷ t.actions) a.name e
    go false e = omega arith

-- and what is named is listed
named_below : (all : List Action) (t : Table) (x : List ℕ) (a : Action) (as' : List Action) → lists t x ≡ true → action_named as' x ≡ Some a → most_named all x ≤ most_listed all t as'
named_below all t x a [] listed e = absurd (cc e)
named_below all t x a (b ∷ as') listed e = go (λ h. named_below all t x a as' listed h) (same_text b.name x) refl e
  where
    go : (action_named as' x ≡ Some a → most_named all x ≤ most_listed all t as') → (q : Bool) → same_text b.name x ≡ q → (if q then Some b else action_named as' x) ≡ Some a → most_named all x ≤ max (if lists t b.name then most_named all b.name else 0) (most_listed all t as')
    go more true s h =
        let same : b.name ≡ x = (text_decides b.name x).0 s in
        let here : (if lists t b.name then most_named all b.name else 0) ≡ most_named all x = ap (λ y. if lists t y then most_named all y else 0) same ∙ ap (λ q. if q then most_named all x else 0) listed in
        omega (arith, here)
    go more false s h = (let le : most_named all x ≤ most_listed all t as' = more h in omega (arith, le))

one_named : (as' : List Action) (t : Table) (x : List ℕ) → lists t x ≡ true → most_named as' x ≤ most_listed as' t as'
one_named as' t x listed = go (action_named as' x) refl
  where
    go : (o : Option Action) → action_named as' x ≡ o → most_named as' x ≤ most_listed as' t as'
    go None e = (let z : most_named as' x ≡ 0 = ap most_of_action e in omega (arith, z))
    go (Some a) e = named_below as' t x a as' listed e

all_named : (as' : List Action) (t : Table) (names : List (List ℕ)) → ((x : List ℕ) → is_among names x ≡ true → lists t x ≡ true) → greatest as' names ≤ most_listed as' t as'
all_named as' t [] among = omega arith
all_named as' t (z ∷ zs) among =
    let one : most_named as' z ≤ most_listed as' t as' = one_named as' t z (among z (first z zs)) in
    let rest : greatest as' zs ≤ most_listed as' t as' = all_named as' t zs (λ x e. among x (later z zs x e)) in
    omega (arith, one, rest)
  where
    or_second : (a b : Bool) → b ≡ true → (a || b) ≡ true
    or_second true b e = refl
    or_second false b e = e

    first : (z : List ℕ) (zs : List (List ℕ)) → is_among (z ∷ zs) z ≡ true
    first z zs = ap (λ b. b || is_among zs z) ((text_decides z z).1 refl)

    later : (z : List ℕ) (zs : List (List ℕ)) (x : List ℕ) → is_among zs x ≡ true → is_among (z ∷ zs) x ≡ true
    later z zs x e = or_second (same_text z x) (is_among zs x) e

-- the greatest number of both is the same
pub listed_all : (as' : List Action) (t : Table) → most_listed as' t as' ≡ most_of_table as' (Some t)
listed_all as' t =
    let le : most_listed as' t as' ≤ most_of_table as' (Some t) = listed_below as' t as' in
    let ge : greatest as' (t.default.action ∷ t.actions) ≤ most_listed as' t as' = all_named as' t (t.default.action ∷ t.actions) (λ x e. e) in
    omega (arith, le, ge)

-- ---- when an action has a body

-- b: what calls stand for in it; n: behind its parameters
pub body_known : (k b : Callees) (m n q : Places) (a : Action) → b ≡ bare k → n ≡ with_params m a.params → are_free m a.params ≡ true → steps_behind_all (known_calls b) a.body n ≡ Some q → has_body k.headers a m ≡ true
body_known k b m n q a is behind free known =
    and_from (are_free m a.params) (is_some (steps_behind_all (bare_calls k.headers) a.body (with_params m a.params))) free
    (ap is_some (subst (λ p. steps_behind_all (bare_calls k.headers) a.body p ≡ Some q) behind (subst (λ c. steps_behind_all (known_calls c) a.body n ≡ Some q) is known)))

pub body_unknown : (k b : Callees) (m n : Places) (a : Action) → b ≡ bare k → n ≡ with_params m a.params → steps_behind_all (known_calls b) a.body n ≡ None → has_body k.headers a m ≡ false
body_unknown k b m n a is behind known =
    not_second (are_free m a.params) (is_some (steps_behind_all (bare_calls k.headers) a.body (with_params m a.params)))
    (ap is_some (subst (λ p. steps_behind_all (bare_calls k.headers) a.body p ≡ None) behind (subst (λ c. steps_behind_all (known_calls c) a.body n ≡ None) is known)))

pub body_full : (k : Callees) (m : Places) (a : Action) → are_free m a.params ≡ false → has_body k.headers a m ≡ false
body_full k m a full = ap (λ b. b && is_some (steps_behind_all (bare_calls k.headers) a.body (with_params m a.params))) full

-- what is made of an action's body
pub body_is : (k b : Callees) (m n q : Places) (a : Action) (body : Steps) → b ≡ bare k → n ≡ with_params m a.params → IsLaid m → are_free m a.params ≡ true → DoAllSteps b n q body a.body → IsBody k m a (λ chosen. run_all chosen body)
body_is k b m n q a body is behind laid free does = record {
  laid = laid;
  free = free;
  last = q;
  does = subst (λ p. DoAllSteps (bare k) p q body a.body) behind (subst (λ c. DoAllSteps c n q body a.body) is does);
}

-- behind others
pub body_more :
    (k b : Callees) (m n q : Places) (a : Action) (number : ℕ) (xs ys : List ActionSlots) (cs ds : List Step) (ps : List (ℕ × ℕ)) (body : Steps) (c : Step) → b ≡ bare k → n ≡ with_params m a.params → IsLaid m → are_free m a.params ≡ true
    → ps ≡ masked_from m.next a.params → c ≡ group body → DoAllSteps b n q body a.body → ys ≡ xs ++ record { number = number; params = ps } ∷ [] → ds ≡ cs ++ c ∷ [] → IsBodyMore k m a number xs ys cs ds
body_more k b m n q a number xs ys cs ds ps body c is behind laid free masks made does slots steps = record {
  params = ps;
  step = c;
  slots = slots;
  steps = steps;
  does = (masks, subst (λ z. IsBody k m a (λ chosen. run chosen z)) (sym made) (body_is k b m n q a body is behind laid free does));
}

-- what the exit of a `?` answers
pub at_exit : {T P : Type 0} {e : Fault} (r : Result T Fault) → IsErr r × IsErrAnd r (λ y. y ≡ e) → (e ≡ fault.Unknown → P) → IfErr r (λ f. f ≡ fault.Unknown → P)
at_exit {T} {P} {e} r exit blames =
    let p = err_from_is_err_and r exit.1 in
    subst (λ x. IfErr x (λ f. f ≡ fault.Unknown → P)) (sym (p.1 ∙ ap Err p.2)) blames
