-- The test of what a state reaches is exact, and ranks that fall along steps leave no cycle.
use Rattle.std.proofs.Common.{◌≡◌, ◌⊎◌, inl, inr, ℕ, ◌<◌, List, [], ◌∷◌, Bool, true, false, ◌||◌, ◌&&◌, refl, sym, ◌∙◌, ap, subst, arith}
use Rattle.std.proofs.lemmas.Slice.Eq.{bytes_eq-Decides}
use Rattle.lex_text.specs.Names.{same_text}
use Rattle.p4_tree.specs.Tree.{ParserState}
use Rattle.p4_parser_states.specs.Cycles.{is_among, targets, leads, state_names, direct, onward, Reaches, reaches_by, reaches, is_on_cycle}
use Rattle.p4_parser_states.specs.Graphs.{In}
use Rattle.p4_parser_states.proofs.Core.{steps_on}

-- ---- tests

or_left : (a b : Bool) → a ≡ true → (a || b) ≡ true
or_left true b h = refl
or_left false b h = let c : false ≡ true = h in absurd (cc)

or_right : (a b : Bool) → b ≡ true → (a || b) ≡ true
or_right true b h = refl
or_right false b h = h

or_either : (a b : Bool) → (a || b) ≡ true → (a ≡ true) ⊎ (b ≡ true)
or_either true b h = inl refl
or_either false b h = inr h

and_both : (a b : Bool) → a ≡ true → b ≡ true → (a && b) ≡ true
and_both true b h k = k
and_both false b h k = let c : false ≡ true = h in absurd (cc)

and_parts : (a b : Bool) → (a && b) ≡ true → (a ≡ true) × (b ≡ true)
and_parts true b h = (refl, h)
and_parts false b h = let c : false ≡ true = h in absurd (cc)

-- ---- names

pub text_is : (x y : List ℕ) → same_text x y ≡ true → x ≡ y
text_is x y h = (bytes_eq-Decides x y).0 h

pub text_same : (x y : List ℕ) → x ≡ y → same_text x y ≡ true
text_same x y e = (bytes_eq-Decides x y).1 e

pub among_in : (ys : List (List ℕ)) (x : List ℕ) → is_among ys x ≡ true → In x ys
among_in [] x h = let c : false ≡ true = h in absurd (cc)
among_in (y ∷ ys) x h = by (among_in ys x) (or_either (same_text y x) (is_among ys x) h)
  where
    by : (is_among ys x ≡ true → In x ys) → (same_text y x ≡ true) ⊎ (is_among ys x ≡ true) → In x (y ∷ ys)
    by ih (inl e) = inl (sym (text_is y x e))
    by ih (inr e) = inr (ih e)

pub in_among : (ys : List (List ℕ)) (x : List ℕ) → In x ys → is_among ys x ≡ true
in_among [] x h = absurd h
in_among (y ∷ ys) x (inl e) = or_left (same_text y x) (is_among ys x) (text_same y x (sym e))
in_among (y ∷ ys) x (inr h) = or_right (same_text y x) (is_among ys x) (in_among ys x h)

-- ---- where states lead

-- a state that leads from the first name to the second
pub record IsLead (sts : List ParserState) (x y : List ℕ) : Type 0 where
  pub state : ParserState
  pub among : In state sts
  pub named : state.name ≡ x
  pub target : In y (targets state.next)

pub leads_from : (sts : List ParserState) (x y : List ℕ) → leads sts x y ≡ true → IsLead sts x y
leads_from [] x y h = let c : false ≡ true = h in absurd (cc)
leads_from (st ∷ sts) x y h = by (leads_from sts x y) (or_either (same_text st.name x && is_among (targets st.next) y) (leads sts x y) h)
  where
    here : (same_text st.name x ≡ true) × (is_among (targets st.next) y ≡ true) → IsLead (st ∷ sts) x y
    here k = record { state = st; among = inl refl; named = text_is st.name x k.0; target = among_in (targets st.next) y k.1 }

    there : IsLead sts x y → IsLead (st ∷ sts) x y
    there l = record { state = l.state; among = inr l.among; named = l.named; target = l.target }

    by : (leads sts x y ≡ true → IsLead sts x y) → ((same_text st.name x && is_among (targets st.next) y) ≡ true) ⊎ (leads sts x y ≡ true) → IsLead (st ∷ sts) x y
    by ih (inl e) = here (and_parts (same_text st.name x) (is_among (targets st.next) y) e)
    by ih (inr e) = there (ih e)

pub leads_by : (sts : List ParserState) (st : ParserState) (x y : List ℕ) → In st sts → st.name ≡ x → In y (targets st.next) → leads sts x y ≡ true
leads_by [] st x y i e t = absurd i
leads_by (s ∷ sts) st x y (inl h) e t =
    let P : ParserState → Type 0 = λ u. In y (targets u.next) in
    or_left (same_text s.name x && is_among (targets s.next) y) (leads sts x y)
    (and_both (same_text s.name x) (is_among (targets s.next) y)
    (text_same s.name x (ap (λ (u : ParserState). u.name) (sym h) ∙ e))
    (in_among (targets s.next) y (subst P h t)))
leads_by (s ∷ sts) st x y (inr i) e t = or_right (same_text s.name x && is_among (targets s.next) y) (leads sts x y) (leads_by sts st x y i e t)

names_in : (sts : List ParserState) (st : ParserState) → In st sts → In st.name (state_names sts)
names_in [] st i = absurd i
names_in (s ∷ sts) st (inl e) = inl (ap (λ (u : ParserState). u.name) e)
names_in (s ∷ sts) st (inr i) = inr (names_in sts st i)

-- what leads on is a state
pub leads_named : (sts : List ParserState) (x y : List ℕ) → leads sts x y ≡ true → In x (state_names sts)
leads_named sts x y h =
    let l : IsLead sts x y = leads_from sts x y h in
    let P : List ℕ → Type 0 = λ z. In z (state_names sts) in
    subst P l.named (names_in sts l.state l.among)

pub reaches_named : (sts : List ParserState) (x y : List ℕ) → Reaches sts x y → In x (state_names sts)
reaches_named sts x y (direct h) = leads_named sts x y h
reaches_named sts x y (onward {y = z} h r) = leads_named sts x z h

-- ---- the test is exact

module _ (sts : List ParserState) where
  sound_step : (z : List ℕ) (zs : List (List ℕ)) → ((x y : List ℕ) → reaches_by sts zs x y ≡ true → Reaches sts x y) → (x y : List ℕ)
      → (reaches_by sts zs x y ≡ true) ⊎ ((reaches_by sts zs x z && reaches_by sts zs z y) ≡ true) → Reaches sts x y
  sound_step z zs ih x y (inl h) = ih x y h
  sound_step z zs ih x y (inr h) =
      let k : (reaches_by sts zs x z ≡ true) × (reaches_by sts zs z y ≡ true) = and_parts (reaches_by sts zs x z) (reaches_by sts zs z y) h in
      steps_on (λ (u v : List ℕ). leads sts u v ≡ true) x z y (ih x z k.0) (ih z y k.1)

  by_sound : (zs : List (List ℕ)) (x y : List ℕ) → reaches_by sts zs x y ≡ true → Reaches sts x y
  by_sound [] x y h = direct h
  by_sound (z ∷ zs) x y h = sound_step z zs (by_sound zs) x y (or_either (reaches_by sts zs x y) (reaches_by sts zs x z && reaches_by sts zs z y) h)

  by_lead : (zs : List (List ℕ)) (x y : List ℕ) → leads sts x y ≡ true → reaches_by sts zs x y ≡ true
  by_lead [] x y h = h
  by_lead (z ∷ zs) x y h = or_left (reaches_by sts zs x y) (reaches_by sts zs x z && reaches_by sts zs z y) (by_lead zs x y h)

  through : (z : List ℕ) (zs : List (List ℕ)) (x y : List ℕ) → reaches_by sts zs x z ≡ true → reaches_by sts zs z y ≡ true → reaches_by sts (z ∷ zs) x y ≡ true
  through z zs x y h k = or_right (reaches_by sts zs x y) (reaches_by sts zs x z && reaches_by sts zs z y) (and_both (reaches_by sts zs x z) (reaches_by sts zs z y) h k)

  here_step : (z : List ℕ) (zs : List (List ℕ)) (x y : List ℕ) → leads sts x z ≡ true
      → (reaches_by sts zs z y ≡ true) ⊎ ((reaches_by sts zs z z && reaches_by sts zs z y) ≡ true) → reaches_by sts (z ∷ zs) x y ≡ true
  here_step z zs x y e (inl h) = through z zs x y (by_lead zs x z e) h
  here_step z zs x y e (inr h) = through z zs x y (by_lead zs x z e) (and_parts (reaches_by sts zs z z) (reaches_by sts zs z y) h).1

  there_step : (z : List ℕ) (zs : List (List ℕ)) (x w y : List ℕ) → ((c : List ℕ) → reaches_by sts zs w c ≡ true → reaches_by sts zs x c ≡ true)
      → (reaches_by sts zs w y ≡ true) ⊎ ((reaches_by sts zs w z && reaches_by sts zs z y) ≡ true) → reaches_by sts (z ∷ zs) x y ≡ true
  there_step z zs x w y ih (inl h) = or_left (reaches_by sts zs x y) (reaches_by sts zs x z && reaches_by sts zs z y) (ih y h)
  there_step z zs x w y ih (inr h) =
      let k : (reaches_by sts zs w z ≡ true) × (reaches_by sts zs z y ≡ true) = and_parts (reaches_by sts zs w z) (reaches_by sts zs z y) h in
      through z zs x y (ih z k.0) k.1

  step_cases : (z : List ℕ) (zs : List (List ℕ)) (x w y : List ℕ) → leads sts x w ≡ true
      → ((c : List ℕ) → In w zs → reaches_by sts zs w c ≡ true → reaches_by sts zs x c ≡ true) → In w (z ∷ zs)
      → reaches_by sts (z ∷ zs) w y ≡ true → reaches_by sts (z ∷ zs) x y ≡ true
  step_cases z zs x w y e ih (inl same) h =
      let P : List ℕ → Type 0 = λ u. (leads sts x u ≡ true) × (reaches_by sts (z ∷ zs) u y ≡ true) in
      let q : P z = subst P same (e, h) in
      here_step z zs x y q.0 (or_either (reaches_by sts zs z y) (reaches_by sts zs z z && reaches_by sts zs z y) q.1)
  step_cases z zs x w y e ih (inr i) h =
      there_step z zs x w y (λ c. ih c i) (or_either (reaches_by sts zs w y) (reaches_by sts zs w z && reaches_by sts zs z y) h)

  by_step : (zs : List (List ℕ)) (x w y : List ℕ) → leads sts x w ≡ true → In w zs → reaches_by sts zs w y ≡ true → reaches_by sts zs x y ≡ true
  by_step [] x w y e i h = absurd i
  by_step (z ∷ zs) x w y e i h = step_cases z zs x w y e (λ c j k. by_step zs x w c e j k) i h

  complete : (x y : List ℕ) → Reaches sts x y → reaches_by sts (state_names sts) x y ≡ true
  complete x y (direct e) = by_lead (state_names sts) x y e
  complete x y (onward {y = w} e r) = by_step (state_names sts) x w y e (reaches_named sts w y r) (complete w y r)

pub reaches_sound : (sts : List ParserState) (x y : List ℕ) → reaches sts x y ≡ true → Reaches sts x y
reaches_sound sts x y h = by_sound sts (state_names sts) x y h

pub reaches_complete : (sts : List ParserState) (x y : List ℕ) → Reaches sts x y → reaches sts x y ≡ true
reaches_complete sts x y r = complete sts x y r

pub not_reached : (sts : List ParserState) (x y : List ℕ) → (Reaches sts x y → ⊥) → reaches sts x y ≡ false
not_reached sts x y h = by (reaches sts x y) refl
  where
    by : (b : Bool) → reaches sts x y ≡ b → b ≡ false
    by true e = absurd (h (reaches_sound sts x y e))
    by false e = refl

-- ---- ranks

module _ (sts : List ParserState) (rank : List ℕ → ℕ) (falls : (x y : List ℕ) → leads sts x y ≡ true → is_among (state_names sts) y ≡ true → rank y < rank x) where
  rank_falls : (x y : List ℕ) → In y (state_names sts) → Reaches sts x y → rank y < rank x
  rank_falls x y i (direct h) = falls x y h (in_among (state_names sts) y i)
  rank_falls x y i (onward {y = z} h r) =
      let a : rank z < rank x = falls x z h (in_among (state_names sts) z (reaches_named sts z y r)) in
      let b : rank y < rank z = rank_falls z y i r in
      omega (arith, a, b)

  pub no_cycle : (st : ParserState) → is_on_cycle sts st ≡ false
  no_cycle st = not_reached sts st.name st.name (λ r. let a : rank st.name < rank st.name = rank_falls st.name st.name (reaches_named sts st.name st.name r) r in omega (arith, a))
