-- A parser with new states in front of its own is fine: old names stand for the same in its states, and no state reaches
-- itself by a new way, since the given states lead to no new one.
use Rattle.std.proofs.Common.{◌≡◌, ◌⊎◌, inl, inr, ℕ, List, [], ◌∷◌, ◌++◌, Bool, true, false, cond, not, ◌&&◌, ◌||◌, refl, sym, ap, ◌∙◌, subst, codes}
use Rattle.std.proofs.lemmas.Slice.Eq.{bytes_eq-Decides}
use Rattle.lex_text.specs.Names.{same_text}
use Rattle.rule_tests.specs.Tests.{IsFine}
use Rattle.p4_tree.specs.Tree.{Expr, stmts_from, Case, Transition, nowhere, to, select, ParserState}
use Rattle.p4_parser_states.specs.Cycles.{is_among, case_targets, targets, leads, state_names, direct, onward, Reaches, reaches}
use Rattle.p4_parser_states.specs.Laws.{ReachesIsExact}
use Rattle.p4_scopes.specs.Scopes.{Stands, missing, state, Scope, is_missing, parser_state, behind, declare}
use Rattle.p4_statement_rules.specs.declared.rule.Part.TheVariants as place
use Rattle.p4_declaration_rules.specs.Parsers.{is_state_name, with_state, onto_tests, cases_tests, transition_tests, with_states, states_names, start_tests, states_tests}
use Rattle.p4_rule_laws.specs.Old.{Names, OldPath, Alike, OldExprs}
use Rattle.p4_rule_laws.specs.OldPrograms.{OldCases, OldTransition, OldStates}
use Rattle.p4_rule_laws.specs.Growth.{StatesGrow}
use Rattle.p4_rule_laws.specs.Entered.{renamed_cases, renamed_transition, renamed_states, entered, IsMoved, NoCycles, FineFlows, Enters}
use Rattle.p4_rule_laws.proofs.AlikeExprs.{all_free_alike}
use Rattle.p4_rule_laws.proofs.AlikeStmts.{block_alike}
use Rattle.p4_rule_laws.proofs.AlikePrograms.{keysets_alike}
use Rattle.p4_rule_laws.proofs.KeepsLemmas.{declared, undeclared, with_states_keeps}
use Rattle.p4_rule_laws.proofs.WiderLemmas.{told}
use Rattle.p4_rule_laws.proofs.JoinedLemmas.{names_joined, states_joined}

no_case : {A : Type 0} → true ≡ false → A
no_case e = absurd (cc)

either_true : (a b : Bool) → (a || b) ≡ true → (a ≡ true) ⊎ (b ≡ true)
either_true true b e = inl refl
either_true false b e = inr e

both_parts : (a b : Bool) → (a && b) ≡ true → (a ≡ true) × (b ≡ true)
both_parts true b e = (refl, e)
both_parts false b e = no_case (sym e)

right_true : (a b : Bool) → b ≡ true → (a || b) ≡ true
right_true true b e = refl
right_true false b e = e

left_true : (a b : Bool) → a ≡ true → (a || b) ≡ true
left_true true b e = refl
left_true false b e = no_case (sym e)

not_last : (a b : Bool) → (a || false) ≡ true → (a || b) ≡ true
not_last true b e = refl
not_last false b e = no_case (sym e)

-- a state goes on to names of states alone
pub onto_name : (p : ℕ) (b : Bool) (st : Stands) → IsFine (onto_tests p b st) → b ≡ true
onto_name p true st f = refl
onto_name p false st f = no_case (sym (ap not f.0) ∙ f.1)

pub onto_fine : (p : ℕ) (b : Bool) (st : Stands) → b ≡ true → IsFine (onto_tests p b st)
onto_fine p true st e = (refl, refl)
onto_fine p false st e = no_case (sym e)

text_same : (x y : List ℕ) → x ≡ y → same_text x y ≡ true
text_same x y e = (bytes_eq-Decides x y).1 e

text_is : (x y : List ℕ) → same_text x y ≡ true → x ≡ y
text_is x y e = (bytes_eq-Decides x y).0 e

-- ---- what names stand for behind states

abbrev state_at : List (List ℕ) → Stands
state_at [] = state
state_at (x ∷ xs) = missing

behind_state : (s : Scope) (xs : List (List ℕ)) → behind s parser_state xs ≡ state_at xs
behind_state s [] = refl
behind_state s (x ∷ xs) = refl

state_none : (s : Scope) (n : List ℕ) → with_state s n [] ≡ s []
unfolding declare
state_none s n = by (is_missing (s (n ∷ [])))
  where
    by : (b : Bool) → cond b (declare s n parser_state) s [] ≡ s []
    by true = refl
    by false = refl

with_none : (s : Scope) (sts : List ParserState) → with_states s sts [] ≡ s []
with_none s [] = refl
with_none s (st ∷ sts) = with_none (with_state s st.name) sts ∙ state_none s st.name

-- another name
state_others : (s : Scope) (n x : List ℕ) (xs : List (List ℕ)) → same_text n x ≡ false → with_state s n (x ∷ xs) ≡ s (x ∷ xs)
state_others s n x xs e = by (is_missing (s (n ∷ [])))
  where
    by : (b : Bool) → cond b (declare s n parser_state) s (x ∷ xs) ≡ s (x ∷ xs)
    by true = undeclared s n parser_state x xs e
    by false = refl

-- a name that stood for nothing
new_state : (s : Scope) (n : List ℕ) → not (is_missing (s (n ∷ []))) ≡ false → with_state s n ≡ declare s n parser_state
new_state s n f = by (is_missing (s (n ∷ []))) f
  where
    by : (b : Bool) → not b ≡ false → cond b (declare s n parser_state) s ≡ declare s n parser_state
    by true e = refl
    by false e = no_case e

-- the name itself stands for something
state_there : (s : Scope) (n : List ℕ) → is_missing (with_state s n (n ∷ [])) ≡ false
state_there s n = by (is_missing (s (n ∷ []))) refl
  where
    by : (b : Bool) → is_missing (s (n ∷ [])) ≡ b → is_missing (cond b (declare s n parser_state) s (n ∷ [])) ≡ false
    by true e = ap is_missing (declared s n parser_state [])
    by false e = e

left_none : (a b : Bool) → (a || b) ≡ false → a ≡ false
left_none true b e = e
left_none false b e = refl

right_none : (a b : Bool) → (a || b) ≡ false → b ≡ false
right_none true b e = no_case e
right_none false b e = e

pub with_others : (s : Scope) (sts : List ParserState) (x : List ℕ) (xs : List (List ℕ)) → is_among (state_names sts) x ≡ false → with_states s sts (x ∷ xs) ≡ s (x ∷ xs)
with_others s [] x xs n = refl
with_others s (st ∷ sts) x xs n =
    with_others (with_state s st.name) sts x xs (right_none (same_text st.name x) (is_among (state_names sts) x) n)
    ∙ state_others s st.name x xs (left_none (same_text st.name x) (is_among (state_names sts) x) n)

pub with_own : (s : Scope) (sts : List ParserState) (x : List ℕ) (xs : List (List ℕ)) → IsFine (states_names s sts) → is_among (state_names sts) x ≡ true → with_states s sts (x ∷ xs) ≡ state_at xs
with_own s [] x xs f i = no_case (sym i)
with_own s (st ∷ sts) x xs f i = by (with_own (with_state s st.name) sts x xs f.1) (is_among (state_names sts) x) refl i
  where
    by : (is_among (state_names sts) x ≡ true → with_states (with_state s st.name) sts (x ∷ xs) ≡ state_at xs) → (b : Bool) → is_among (state_names sts) x ≡ b → (same_text st.name x || b) ≡ true → with_states (with_state s st.name) sts (x ∷ xs) ≡ state_at xs
    by ih true e i = ih e
    by ih false e i =
        let h : same_text st.name x ≡ true = here (same_text st.name x) i in
        let k : with_state s st.name (x ∷ xs) ≡ declare s st.name parser_state (x ∷ xs) = ap (λ (u : Scope). u (x ∷ xs)) (new_state s st.name f.0) in
        with_others (with_state s st.name) sts x xs e ∙ (k ∙ (ap (λ (y : List ℕ). declare s st.name parser_state (y ∷ xs)) (sym (text_is st.name x h)) ∙ (declared s st.name parser_state xs ∙ behind_state s xs)))
      where
        here : (a : Bool) → (a || false) ≡ true → a ≡ true
        here true e = refl
        here false e = e

-- ---- names of states

pub among_joined : (a b : List ParserState) (x : List ℕ) → is_among (state_names (a ++ b)) x ≡ (is_among (state_names a) x || is_among (state_names b) x)
among_joined [] b x = refl
among_joined (st ∷ a) b x = ap (λ c. same_text st.name x || c) (among_joined a b x) ∙ sym (or_assoc (same_text st.name x) (is_among (state_names a) x) (is_among (state_names b) x))
  where
    or_assoc : (a b c : Bool) → ((a || b) || c) ≡ (a || (b || c))
    or_assoc true b c = refl
    or_assoc false b c = refl

leads_joined : (a b : List ParserState) (x y : List ℕ) → leads (a ++ b) x y ≡ true → (leads a x y ≡ true) ⊎ (leads b x y ≡ true)
leads_joined [] b x y e = inr e
leads_joined (st ∷ a) b x y e = by (leads_joined a b x y) (either_true (same_text st.name x && is_among (targets st.next) y) (leads (a ++ b) x y) e)
  where
    onto : (leads a x y ≡ true) ⊎ (leads b x y ≡ true) → (leads (st ∷ a) x y ≡ true) ⊎ (leads b x y ≡ true)
    onto (inl f) = inl (right_true (same_text st.name x && is_among (targets st.next) y) (leads a x y) f)
    onto (inr f) = inr f

    by : (leads (a ++ b) x y ≡ true → (leads a x y ≡ true) ⊎ (leads b x y ≡ true)) → ((same_text st.name x && is_among (targets st.next) y) ≡ true) ⊎ (leads (a ++ b) x y ≡ true) → (leads (st ∷ a) x y ≡ true) ⊎ (leads b x y ≡ true)
    by ih (inl f) = inl (left_true (same_text st.name x && is_among (targets st.next) y) (leads a x y) f)
    by ih (inr f) = onto (ih f)

leads_named : (sts : List ParserState) (x y : List ℕ) → leads sts x y ≡ true → is_among (state_names sts) x ≡ true
leads_named [] x y e = e
leads_named (st ∷ sts) x y e = by (leads_named sts x y) (either_true (same_text st.name x && is_among (targets st.next) y) (leads sts x y) e)
  where
    by : (leads sts x y ≡ true → is_among (state_names sts) x ≡ true) → ((same_text st.name x && is_among (targets st.next) y) ≡ true) ⊎ (leads sts x y ≡ true) → is_among (state_names (st ∷ sts)) x ≡ true
    by ih (inl f) = left_true (same_text st.name x) (is_among (state_names sts) x) (both_parts (same_text st.name x) (is_among (targets st.next) y) f).0
    by ih (inr f) = right_true (same_text st.name x) (is_among (state_names sts) x) (ih f)

reaches_named : (sts : List ParserState) (x y : List ℕ) → Reaches sts x y → is_among (state_names sts) x ≡ true
reaches_named sts x y (direct h) = leads_named sts x y h
reaches_named sts x y (onward {y = z} h r) = leads_named sts x z h

module _ (old : Names) (r : List ℕ → List ℕ) (one : (x y : List ℕ) → old x ≡ true → old y ≡ true → same_text (r x) (r y) ≡ same_text x y) where
  among_renamed : (sts : List ParserState) → OldStates old sts → (x : List ℕ) → old x ≡ true → is_among (state_names (renamed_states r sts)) (r x) ≡ is_among (state_names sts) x
  among_renamed [] o x u = refl
  among_renamed (st ∷ sts) o x u = let e = one st.name x o.0 u in let f = among_renamed sts o.3 x u in cc

  -- a name that is a renamed target is that of an old one
  record IsTarget (ys : List (List ℕ)) (y : List ℕ) : Type 0 where
    was : List ℕ
    is_old : old was ≡ true
    named : y ≡ r was
    among : is_among ys was ≡ true

  target_of_case : (cs : List Case) → OldCases old cs → (y : List ℕ) → is_among (case_targets (renamed_cases r cs)) y ≡ true → IsTarget (case_targets cs) y
  target_of_case [] o y e = no_case (sym e)
  target_of_case (c ∷ cs) o y e = by (target_of_case cs o.2 y) (either_true (same_text (r c.next) y) (is_among (case_targets (renamed_cases r cs)) y) e)
    where
      onto : IsTarget (case_targets cs) y → IsTarget (case_targets (c ∷ cs)) y
      onto i = record { was = i.was; is_old = i.is_old; named = i.named; among = right_true (same_text c.next i.was) (is_among (case_targets cs) i.was) i.among }

      by : (is_among (case_targets (renamed_cases r cs)) y ≡ true → IsTarget (case_targets cs) y) → (same_text (r c.next) y ≡ true) ⊎ (is_among (case_targets (renamed_cases r cs)) y ≡ true) → IsTarget (case_targets (c ∷ cs)) y
      by ih (inl f) = record { was = c.next; is_old = o.1; named = sym (text_is (r c.next) y f); among = left_true (same_text c.next c.next) (is_among (case_targets cs) c.next) (text_same c.next c.next refl) }
      by ih (inr f) = onto (ih f)

  target_of : (n : Transition) → OldTransition old n → (y : List ℕ) → is_among (targets (renamed_transition r n)) y ≡ true → IsTarget (targets n) y
  target_of (nowhere p) o y e = no_case (sym e)
  target_of (to p x) o y e = by (either_true (same_text (r x) y) false e)
    where
      by : (same_text (r x) y ≡ true) ⊎ (false ≡ true) → IsTarget (x ∷ []) y
      by (inl f) = record { was = x; is_old = o; named = sym (text_is (r x) y f); among = left_true (same_text x x) false (text_same x x refl) }
      by (inr f) = no_case (sym f)
  target_of (select p es cs) o y e = target_of_case cs o.1 y e

  -- a name that a renamed state leads to is that of an old one
  record IsImage (y : List ℕ) : Type 0 where
    was : List ℕ
    is_old : old was ≡ true
    named : y ≡ r was

  image_from : (sts : List ParserState) → OldStates old sts → (x y : List ℕ) → leads (renamed_states r sts) x y ≡ true → IsImage y
  image_from [] o x y e = no_case (sym e)
  image_from (st ∷ sts) o x y e = by (image_from sts o.3 x y) (either_true (same_text (r st.name) x && is_among (targets (renamed_transition r st.next)) y) (leads (renamed_states r sts) x y) e)
    where
      here : IsTarget (targets st.next) y → IsImage y
      here i = record { was = i.was; is_old = i.is_old; named = i.named }

      by : (leads (renamed_states r sts) x y ≡ true → IsImage y) → ((same_text (r st.name) x && is_among (targets (renamed_transition r st.next)) y) ≡ true) ⊎ (leads (renamed_states r sts) x y ≡ true) → IsImage y
      by ih (inl f) = here (target_of st.next o.2 y (both_parts (same_text (r st.name) x) (is_among (targets (renamed_transition r st.next)) y) f).1)
      by ih (inr f) = ih f

  -- where a renamed state leads, the given one led
  record IsLed (sts : List ParserState) (x y : List ℕ) : Type 0 where
    was : List ℕ
    is_old : old was ≡ true
    named : y ≡ r was
    led : leads sts x was ≡ true

  led_from : (sts : List ParserState) → OldStates old sts → (x : List ℕ) → old x ≡ true → (y : List ℕ) → leads (renamed_states r sts) (r x) y ≡ true → IsLed sts x y
  led_from [] o x u y e = no_case (sym e)
  led_from (st ∷ sts) o x u y e = by (led_from sts o.3 x u y) (either_true (same_text (r st.name) (r x) && is_among (targets (renamed_transition r st.next)) y) (leads (renamed_states r sts) (r x) y) e)
    where
      onto : IsLed sts x y → IsLed (st ∷ sts) x y
      onto l = record { was = l.was; is_old = l.is_old; named = l.named; led = right_true (same_text st.name x && is_among (targets st.next) l.was) (leads sts x l.was) l.led }

      here : (same_text (r st.name) (r x) ≡ true) → IsTarget (targets st.next) y → IsLed (st ∷ sts) x y
      here f i =
          let n : same_text st.name x ≡ true = sym (one st.name x o.0 u) ∙ f in
          let both : (same_text st.name x && is_among (targets st.next) i.was) ≡ true = let g = i.among in cc in
          record { was = i.was; is_old = i.is_old; named = i.named; led = left_true (same_text st.name x && is_among (targets st.next) i.was) (leads sts x i.was) both }

      by : (leads (renamed_states r sts) (r x) y ≡ true → IsLed sts x y) → ((same_text (r st.name) (r x) && is_among (targets (renamed_transition r st.next)) y) ≡ true) ⊎ (leads (renamed_states r sts) (r x) y ≡ true) → IsLed (st ∷ sts) x y
      by ih (inl f) = let g = both_parts (same_text (r st.name) (r x)) (is_among (targets (renamed_transition r st.next)) y) f in here g.0 (target_of st.next o.2 y g.1)
      by ih (inr f) = onto (ih f)

-- ---- the parser that is made

module _ (exact : ReachesIsExact) (old : Names) (r : List ℕ → List ℕ) (s t : Scope) (added sts : List ParserState) (n : Enters old r t added sts) (a : Alike old s t) where
  abbrev made : List ParserState
  made = entered r added sts

  -- each old name is that of a given state where it is that of one that is made
  same_names : (x : List ℕ) → old x ≡ true → is_among (state_names made) x ≡ is_among (state_names sts) x
  same_names x o = among_joined added (renamed_states r sts) x ∙ by (n.moved x o)
    where
      kept : r x ≡ x → (is_among (state_names added) x || is_among (state_names (renamed_states r sts)) x) ≡ is_among (state_names sts) x
      kept e =
          let P : List ℕ → Type 0 = λ y. (is_among (state_names added) y || is_among (state_names (renamed_states r sts)) y) ≡ is_among (state_names sts) x in
          let f = n.apart x o in
          let g = among_renamed old r n.one sts n.given x o in
          let h : (is_among (state_names added) (r x) || is_among (state_names (renamed_states r sts)) (r x)) ≡ is_among (state_names sts) x = ap (λ b. b || is_among (state_names (renamed_states r sts)) (r x)) f ∙ g in
          subst P e h

      by : (r x ≡ x) ⊎ IsMoved r t added sts x → (is_among (state_names added) x || is_among (state_names (renamed_states r sts)) x) ≡ is_among (state_names sts) x
      by (inl e) = kept e
      by (inr m) = left_true (is_among (state_names added) x) (is_among (state_names (renamed_states r sts)) x) m.taken ∙ sym m.given

  -- what a given state is called is a name of one that is made
  own_names : (x : List ℕ) → old x ≡ true → is_among (state_names sts) x ≡ true → is_among (state_names made) (r x) ≡ true
  own_names x o i = among_joined added (renamed_states r sts) (r x) ∙ right_true (is_among (state_names added) (r x)) (is_among (state_names (renamed_states r sts)) (r x)) (among_renamed old r n.one sts n.given x o ∙ i)

  -- ---- names

  abbrev IsFree : Scope → Scope → Type 0
  IsFree u v = (x : List ℕ) → old x ≡ true → is_missing (u (x ∷ [])) ≡ true → is_missing (v (r x ∷ [])) ≡ true

  free_first : IsFree s (with_states t added)
  free_first x o f = ap is_missing (with_others t added (r x) [] (n.apart x o)) ∙ by (n.moved x o)
    where
      by : (r x ≡ x) ⊎ IsMoved r t added sts x → is_missing (t (r x ∷ [])) ≡ true
      by (inl e) = ap (λ (y : List ℕ). is_missing (t (y ∷ []))) e ∙ (ap is_missing (sym (a.same (x ∷ []) (o, tt))) ∙ f)
      by (inr m) = m.free

  free_step : (u v : Scope) → IsFree u v → (y : List ℕ) → old y ≡ true → IsFree (with_state u y) (with_state v (r y))
  free_step u v f y p x o i = by (same_text y x) refl
    where
      by : (b : Bool) → same_text y x ≡ b → is_missing (with_state v (r y) (r x ∷ [])) ≡ true
      by true e = no_case (sym i ∙ (ap (λ (z : List ℕ). is_missing (with_state u y (z ∷ []))) (sym (text_is y x e)) ∙ state_there u y))
      by false e =
          let g : is_missing (u (x ∷ [])) ≡ true = sym (ap is_missing (state_others u y x [] e)) ∙ i in
          ap is_missing (state_others v (r y) (r x) [] (n.one y x p o ∙ e)) ∙ f x o g

  names_from : (u v : Scope) → IsFree u v → (ys : List ParserState) → OldStates old ys → IsFine (states_names u ys) → IsFine (states_names v (renamed_states r ys))
  names_from u v f [] o g = tt
  names_from u v f (st ∷ ys) o g = (
    taken (is_missing (v (r st.name ∷ []))) (f st.name o.0 (not_false (is_missing (u (st.name ∷ []))) g.0)),
    names_from (with_state u st.name) (with_state v (r st.name)) (free_step u v f st.name o.0) ys o.3 g.1,
  )
    where
      not_false : (b : Bool) → not b ≡ false → b ≡ true
      not_false true e = refl
      not_false false e = no_case e

      taken : (b : Bool) → b ≡ true → not b ≡ false
      taken b e = ap not e

  names_enter : IsFine (states_names s sts) → IsFine (states_names t made)
  names_enter f = names_joined t added (renamed_states r sts) n.names (names_from s (with_states t added) free_first sts n.given f)

  -- the names of both parsers' states are new, so that they are in sight
  module _ (g : IsFine (states_names s sts)) where
    alike_at : (x : List (List ℕ)) → OldPath old x → with_states s sts x ≡ with_states t made x
    alike_at [] o = with_none s sts ∙ (a.same [] tt ∙ sym (with_none t made))
    alike_at (x ∷ xs) o = by (is_among (state_names sts) x) refl
      where
        by : (b : Bool) → is_among (state_names sts) x ≡ b → with_states s sts (x ∷ xs) ≡ with_states t made (x ∷ xs)
        by true e = with_own s sts x xs g e ∙ sym (with_own t made x xs (names_enter g) (same_names x o.0 ∙ e))
        by false e = with_others s sts x xs e ∙ (a.same (x ∷ xs) o ∙ sym (with_others t made x xs (same_names x o.0 ∙ e)))

    states_alike : Alike old (with_states s sts) (with_states t made)
    states_alike = record { same = alike_at }

  -- ---- how states go on

  renamed_name : (x : List ℕ) → old x ≡ true → is_state_name (state_names sts) x ≡ true → is_state_name (state_names made) (r x) ≡ true
  renamed_name x o i = by (is_among (state_names sts) x) refl
    where
      stays : is_among (state_names sts) x ≡ false → (r x ≡ x) ⊎ IsMoved r t added sts x → r x ≡ x
      stays e (inl g) = g
      stays e (inr m) = no_case (sym m.given ∙ e)

      by : (b : Bool) → is_among (state_names sts) x ≡ b → is_state_name (state_names made) (r x) ≡ true
      by true e = right_true (same_text (r x) (codes "accept") || same_text (r x) (codes "reject")) (is_among (state_names made) (r x)) (own_names x o e)
      by false e =
          let P : List ℕ → Type 0 = λ y. is_state_name (state_names made) y ≡ true in
          let h = sym (ap (λ (b : Bool). same_text x (codes "accept") || same_text x (codes "reject") || b) e) ∙ i in
          subst P (sym (stays e (n.moved x o))) (not_last (same_text x (codes "accept") || same_text x (codes "reject")) (is_among (state_names made) x) h)

  onto_renamed : (p : ℕ) (x : List ℕ) (st u : Stands) → old x ≡ true → IsFine (onto_tests p (is_state_name (state_names sts) x) st) → IsFine (onto_tests p (is_state_name (state_names made) (r x)) u)
  onto_renamed p x st u o f = onto_fine p (is_state_name (state_names made) (r x)) u (renamed_name x o (onto_name p (is_state_name (state_names sts) x) st f))

  module _ (g : IsFine (states_names s sts)) where
    cases_enter : (p : ℕ) (es : List Expr) → OldExprs old es → (cs : List Case) → OldCases old cs → IsFine (cases_tests (is_state_name (state_names sts)) p (with_states s sts) es cs) → IsFine (cases_tests (is_state_name (state_names made)) p (with_states t made) es (renamed_cases r cs))
    cases_enter p es u [] o f = tt
    cases_enter p es u (c ∷ cs) o f = (
      (subst IsFine (keysets_alike old (with_states s sts) (with_states t made) (states_alike g) p es c.keys u o.0) f.0.0, onto_renamed p c.next (with_states s sts (c.next ∷ [])) (with_states t made (r c.next ∷ [])) o.1 f.0.1),
      cases_enter p es u cs o.2 f.1,
    )

    transition_enter : (y : Transition) → OldTransition old y → IsFine (transition_tests (is_state_name (state_names sts)) (with_states s sts) y) → IsFine (transition_tests (is_state_name (state_names made)) (with_states t made) (renamed_transition r y))
    transition_enter (nowhere p) o f = f
    transition_enter (to p x) o f = onto_renamed p x (with_states s sts (x ∷ [])) (with_states t made (r x ∷ [])) o f
    transition_enter (select p es cs) o f = (subst IsFine (all_free_alike old (with_states s sts) (with_states t made) (states_alike g) es o.0) f.0, cases_enter p es o.0 cs o.1 f.1)

  -- ---- cycles

  -- what a given state reaches behind the new ones, it reached
  record IsReached (x y : List ℕ) : Type 0 where
    was : List ℕ
    is_old : old was ≡ true
    named : y ≡ r was
    reached : Reaches sts x was

  not_added : (x : List ℕ) → old x ≡ true → (y : List ℕ) → leads added (r x) y ≡ true → ⊥
  not_added x o y e = no_case (sym (leads_named added (r x) y e) ∙ n.apart x o)

  led_back : (x : List ℕ) → old x ≡ true → (y : List ℕ) → leads made (r x) y ≡ true → IsLed old r n.one sts x y
  led_back x o y e = by (leads_joined added (renamed_states r sts) (r x) y e)
    where
      by : (leads added (r x) y ≡ true) ⊎ (leads (renamed_states r sts) (r x) y ≡ true) → IsLed old r n.one sts x y
      by (inl f) = absurd (not_added x o y f)
      by (inr f) = led_from old r n.one sts n.given x o y f

  reached_back : (u y : List ℕ) → Reaches made u y → (x : List ℕ) → old x ≡ true → u ≡ r x → IsReached x y
  reached_back u y (direct h) x o e =
      let l = led_back x o y (ap (λ v. leads made v y) (sym e) ∙ h) in
      record { was = l.was; is_old = l.is_old; named = l.named; reached = direct l.led }
  reached_back u y (onward {y = w} h q) x o e =
      let l = led_back x o w (ap (λ v. leads made v w) (sym e) ∙ h) in
      let k = reached_back w y q l.was l.is_old l.named in
      record { was = k.was; is_old = k.is_old; named = k.named; reached = onward l.led k.reached }

  given_cycle : (x : List ℕ) → old x ≡ true → Reaches made (r x) (r x) → Reaches sts x x
  given_cycle x o q =
      let k = reached_back (r x) (r x) q x o refl in
      let same : k.was ≡ x = text_is k.was x (sym (n.one k.was x k.is_old o) ∙ text_same (r k.was) (r x) (sym k.named)) in
      let P : List ℕ → Type 0 = λ y. Reaches sts x y in
      subst P same k.reached

  no_given_cycle : (x : List ℕ) → old x ≡ true → reaches sts x x ≡ false → reaches made (r x) (r x) ≡ false
  no_given_cycle x o f = told (reaches made (r x) (r x)) (λ e. no_case (sym ((exact sts x x).1 (given_cycle x o ((exact made (r x) (r x)).0 e))) ∙ f))

  -- what leads to a new state is a new state
  led_among : (x y : List ℕ) → is_among (state_names added) y ≡ true → leads made x y ≡ true → leads added x y ≡ true
  led_among x y i e = by (leads_joined added (renamed_states r sts) x y e)
    where
      no_image : IsImage old r n.one y → leads added x y ≡ true
      no_image k = no_case (sym i ∙ (ap (is_among (state_names added)) k.named ∙ n.apart k.was k.is_old))

      by : (leads added x y ≡ true) ⊎ (leads (renamed_states r sts) x y ≡ true) → leads added x y ≡ true
      by (inl f) = f
      by (inr f) = no_image (image_from old r n.one sts n.given x y f)

  reached_among : (x y : List ℕ) → Reaches made x y → is_among (state_names added) y ≡ true → Reaches added x y
  reached_among x y (direct h) i = direct (led_among x y i h)
  reached_among x y (onward {y = w} h q) i =
      let k = reached_among w y q i in
      onward (led_among x w (reaches_named added w y k) h) k

  no_added_cycle : (x : List ℕ) → is_among (state_names added) x ≡ true → reaches added x x ≡ false → reaches made x x ≡ false
  no_added_cycle x i f = told (reaches made x x) (λ e. no_case (sym ((exact added x x).1 (reached_among x x ((exact made x x).0 e) i)) ∙ f))

  -- ---- states

  added_fine : (ys : List ParserState) → ((x : List ℕ) → is_among (state_names ys) x ≡ true → is_among (state_names added) x ≡ true) → NoCycles added ys → FineFlows made (with_states t made) ys → IsFine (states_tests made (with_states t made) ys)
  added_fine [] i c f = tt
  added_fine (st ∷ ys) i c f =
      let here : is_among (state_names (st ∷ ys)) st.name ≡ true = left_true (same_text st.name st.name) (is_among (state_names ys) st.name) (text_same st.name st.name refl) in (
        (no_added_cycle st.name (i st.name here) c.0, (f.0, f.1)),
        added_fine ys (λ x h. i x (right_true (same_text st.name x) (is_among (state_names ys) x) h)) c.1 f.2,
      )

  given_fine : IsFine (states_names s sts) → (ys : List ParserState) → OldStates old ys → IsFine (states_tests sts (with_states s sts) ys) → IsFine (states_tests made (with_states t made) (renamed_states r ys))
  given_fine g [] o f = tt
  given_fine g (st ∷ ys) o f = (
    (no_given_cycle st.name o.0 f.0.0, (subst IsFine (block_alike old (with_states s sts) (with_states t made) (states_alike g) place.State (stmts_from st.body) o.1) f.0.1.0, transition_enter g st.next o.2 f.0.1.1)),
    given_fine g ys o.3 f.1,
  )

  states_enter : IsFine (states_names s sts) → IsFine (states_tests sts (with_states s sts) sts) → IsFine (states_tests made (with_states t made) made)
  states_enter g f = states_joined made (with_states t made) added (renamed_states r sts) (added_fine added (λ x h. h) n.cycles (n.flows (with_states_keeps t made (names_enter g)))) (given_fine g sts n.given f)

  start_enters : (p : ℕ) → IsFine (start_tests p (with_states s sts) sts) → IsFine (start_tests p (with_states t made) made)
  start_enters p f =
      let h = onto_name p (is_state_name (state_names sts) (codes "start")) (with_states s sts (codes "start" ∷ [])) f in
      onto_fine p (is_state_name (state_names made) (codes "start")) (with_states t made (codes "start" ∷ [])) (ap (λ (b : Bool). same_text (codes "start") (codes "accept") || same_text (codes "start") (codes "reject") || b) (same_names (codes "start") n.start) ∙ h)

-- states with new ones in front of them
pub entered_grow : ReachesIsExact → (old : Names) (r : List ℕ → List ℕ) (s t : Scope) (added sts : List ParserState) → Enters old r t added sts → StatesGrow old s t sts (entered r added sts)
entered_grow exact old r s t added sts n =
    record {
      names = λ a f. names_enter exact old r s t added sts n a f;
      start = λ p a f. start_enters exact old r s t added sts n a p f;
      states = λ a g f. states_enter exact old r s t added sts n a g f;
    }
