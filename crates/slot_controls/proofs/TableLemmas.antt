-- Applications of tables do what they mean.
use Rattle.std.proofs.Common.{◌≡◌, ℕ, zero, suc, ◌<◌, ◌≤◌, length, map, List, [], ◌∷◌, Bool, true, false, ◌||◌, is_none, if◌then◌else◌, Option, Some, None, refl, sym, ap, ◌∙◌, subst, arith, nat_eq}
use Rattle.std.specs.Prelude.{nat_lt, slice_get}
use Rattle.std.specs.List.{AllByRecursion}
use Rattle.bit_values.specs.Bits.{Word}
use Rattle.lex_text.specs.Names.{same_text}
use Rattle.p4_meaning.specs.Statements as meaning
use Rattle.p4_meaning.specs.Statements.{Run, Tested}
use Rattle.p4_meaning.specs.Choice.{Entry, fits_keys, rank_of, higher, choice_of}
use Rattle.p4_meaning.specs.Actions.{Action, action_named, act, act_if, bound}
use Rattle.p4_meaning.specs.Tables.{Table, Tables, Entries, table_named, apply_if, chosen_runs, test_behind, has_ternary, key_words}
use Rattle.p4_statements.specs.Outcomes.{Outcome, outcome_in, outcome_from}
use Rattle.p4_statements.proofs.RegistersLemmas.{text_decides}
use Rattle.slot_terms.specs.Places.{Places, Follows}
use Rattle.slot_statements.specs.Codes as codes
use Rattle.slot_statements.specs.Actions.{bind_words}
use Rattle.slot_statements.specs.Parameters.{with_params, masked_from}
use Rattle.slot_statements.specs.Tables.{NumberedOutcome, key_word}
use Rattle.slot_statements.proofs.KnownLemmas.{free_names}
use Rattle.slot_statements.proofs.ActionLemmas.{words_follow}
use Rattle.slot_statements.proofs.TableLemmas.{keys_are}
use Rattle.slot_controls.specs.Steps.{ActionSlots, Application, Step, Steps, SlotRun, plain, applies, done, next, in_state, body_ended, run_behind, position, bound_for, chosen_run, outcome_for, is_asked, run, run_nth}
use Rattle.slot_controls.specs.Callees.{Callees, IsChoice, RunsOwn, lists, may_run, table_number}
use Rattle.slot_controls.specs.StepRuns.{Stands, StepEnds, DoesAct, Either, HasBody, HaveBodies, IsApplication, IsBodyOf, Applies}
use Rattle.slot_controls.proofs.ActLemmas.{nothing_ends}
use Rattle.slot_controls.proofs.CallLemmas.{body_ends}
use Rattle.slot_controls.proofs.LengthLemmas.{words_valid}

-- ---- the body of a number

-- what is said of the body of the number that is chosen is said of what runs; and what is said where there is none, of what
-- does nothing
chosen_by :
    (chosen : ℕ → List Word → NumberedOutcome) (P : List (ℕ × ℕ) → Step → Type 0) (none : Type 0) (xs : List ActionSlots) (bs : Steps) (p : NumberedOutcome) (u : SlotRun) (R : SlotRun × meaning.Flow → Type 0)
    → ((ps : List (ℕ × ℕ)) (c : Step) → P ps c → R (body_ended (run chosen c (in_state u (bind_words ps p.args u.state))))) → (none → R (u, meaning.Go)) → HasBody P none p.action xs bs → R (chosen_run (run_nth chosen bs) xs p u)
chosen_by chosen P none [] done p u R found other has = other has
chosen_by chosen P none [] (next c cs) p u R found other has = absurd has
chosen_by chosen P none (x ∷ xs) done p u R found other has = absurd has
chosen_by chosen P none (x ∷ xs) (next c cs) p u R found other has = go (λ h. chosen_by chosen P none xs cs p u R found other h) (nat_eq x.number p.action) has
  where
    go : (HasBody P none p.action xs cs → R (chosen_run (run_nth chosen cs) xs p u)) → (b : Bool) → Either b (P x.params c) (HasBody P none p.action xs cs)
        → R (body_ended (run_nth chosen (next c cs) (if b then 0 else suc (position xs p.action)) (in_state u (if b then bind_words x.params p.args u.state else bound_for xs p.action p.args u.state))))
    go rest true h = found x.params c h
    go rest false h = rest h

-- ---- what tables run

some_action : (a b : Action) → Some a ≡ Some b → a ≡ b
some_action a b e = cc e

none_above : (xs : List Action) (i : ℕ) → slice_get xs i ≡ None → length xs ≤ i
none_above [] i e = omega arith
none_above (x ∷ xs) zero e = absurd (cc e)
none_above (x ∷ xs) (suc i) e = (let le : length xs ≤ i = none_above xs i e in omega (arith, le))

some_below : (xs : List Action) (i : ℕ) (a : Action) → slice_get xs i ≡ Some a → i < length xs
some_below [] i a e = absurd (cc e)
some_below (x ∷ xs) zero a e = omega arith
some_below (x ∷ xs) (suc i) a e = (let lt : i < length xs = some_below xs i a e in omega (arith, lt))

-- an action that is found has the name
pub named_so : (as' : List Action) (x : List ℕ) (a : Action) → action_named as' x ≡ Some a → a.name ≡ x
named_so [] x a e = absurd (cc e)
named_so (b ∷ as') x a e = go (λ h. named_so as' x a h) (same_text b.name x) refl e
  where
    go : (action_named as' x ≡ Some a → a.name ≡ x) → (t : Bool) → same_text b.name x ≡ t → (if t then Some b else action_named as' x) ≡ Some a → a.name ≡ x
    go rest true s h = ap (λ (c : Action). c.name) (sym (some_action b a h)) ∙ (text_decides b.name x).0 s
    go rest false s h = rest h

-- what a table runs is an action of its list, and the first of its name
record IsOwn (k : Callees) (t : Table) (a : Action) : Type 0 where
  listed : lists t a.name ≡ true
  first : action_named k.actions a.name ≡ Some a

own_named : (k : Callees) (t : Table) (x : List ℕ) (a : Action) → may_run k.actions t x ≡ true → action_named k.actions x ≡ Some a → IsOwn k t a
own_named k t x a may named =
    let same : a.name ≡ x = named_so k.actions x a named in
    record { listed = subst (λ y. lists t y ≡ true) (sym same) (go (lists t x) refl may); first = subst (λ y. action_named k.actions y ≡ Some a) (sym same) named }
  where
    go : (b : Bool) → lists t x ≡ b → (b || is_none (action_named k.actions x)) ≡ true → b ≡ true
    go true e h = refl
    go false e h = absurd (let z : is_none (Some a) ≡ true = subst (λ o. is_none o ≡ true) named h in cc z)

-- what holds of all entries holds of the one that is chosen
chosen_holds : (P : Entry → Type 0) (t : Bool) (es : List Entry) (ks : List Word) (e : Entry) → AllByRecursion P es → choice_of t es ks ≡ Some e → P e
chosen_holds P t [] ks e h is = absurd (cc is)
chosen_holds P t (x ∷ xs) ks e h is = go (λ f at. chosen_holds P t xs ks f h.1 at) (fits_keys x.keys ks) (choice_of t xs ks) refl is
  where
    some_is : (c d : Entry) → Some c ≡ Some d → c ≡ d
    some_is c d k = cc k

    pick : (b : Bool) (f : Entry) → P f → P (if b then f else x)
    pick true f p = p
    pick false f p = h.0

    go : ((f : Entry) → choice_of t xs ks ≡ Some f → P f) → (b : Bool) (o : Option Entry) → choice_of t xs ks ≡ o → (if b then Some (higher t x o) else o) ≡ Some e → P e
    go rest true None at k = subst P (some_is x e k) h.0
    go rest true (Some f) at k = subst P (some_is (higher t x (Some f)) e k) (pick (nat_lt (rank_of t x) (rank_of t f)) f (rest f at))
    go rest false None at k = absurd (cc k)
    go rest false (Some f) at k = rest e (at ∙ k)

own_from : (k : Callees) (t : Table) (h : Entries) (o : Option Entry) (a : Action) → may_run k.actions t h.default.action ≡ true → ((e : Entry) → o ≡ Some e → may_run k.actions t e.action ≡ true) → (outcome_from k.actions h o).action ≡ Some a → IsOwn k t a
own_from k t h None a default each e = own_named k t h.default.action a default e
own_from k t h (Some f) a default each e = own_named k t f.action a (each f refl) e

own_outcome : (k : Callees) (t : Table) (h : Entries) (ws : List Word) (a : Action) → RunsOwn k.actions t h → (outcome_in k.actions (Some t) h ws).action ≡ Some a → IsOwn k t a
own_outcome k t h ws a own e = own_from k t h (choice_of (has_ternary t.keys) h.listed ws) a own.default (λ f is. chosen_holds (λ g. may_run k.actions t g.action ≡ true) (has_ternary t.keys) h.listed ws f own.entries is) e

-- what is chosen is what an outcome says
outcome_runs : (as' : List Action) (d : Entries) (o : Option Entry) (r : Run) → chosen_runs as' d.default o r ≡ test_behind (act_if (outcome_from as' d o).action (outcome_from as' d o).args r) (outcome_from as' d o).hit
outcome_runs as' d None r = refl
outcome_runs as' d (Some e) r = refl

-- ---- applications

-- an application ends as in the trees' meaning, and both say alike whether it is a hit
pub record AppliedEnds (k : Callees) (m : Places) (x : SlotRun × meaning.Flow) (hit : Bool) (y : Tested) : Type 0 where
  pub ends : StepEnds k m m x (y.run, y.flow)
  pub same : hit ≡ y.hit

module _ (k : Callees) (m : Places) (t : Table) (xs : List ActionSlots) (bs : Steps) (has : HaveBodies k m t (length k.actions) xs bs) (base : Places) (held : Tables) (chosen : ℕ → List Word → NumberedOutcome) (u : SlotRun) (r : Run)
    (stands : Stands base k m held chosen u r) where
  -- the action of the number that is chosen
  action_runs : (p : NumberedOutcome) (o : Option Action) → slice_get k.actions p.action ≡ o → ((a : Action) → o ≡ Some a → IsOwn k t a) → StepEnds k m m (chosen_run (run_nth chosen bs) xs p u) (act_if o p.args r)
  action_runs p None at own =
      chosen_by chosen (λ ps c. ⊥) (Unit {0}) xs bs p u (λ z. StepEnds k m m z (r, meaning.Go)) (λ ps c h. absurd h) (λ h. nothing_ends k m u r stands.follows stands.beside) (has.others p.action (none_above k.actions p.action at))
  action_runs p (Some a) at own =
      let is : IsOwn k t a = own a refl in
      chosen_by chosen (IsBodyOf k m a) ⊥ xs bs p u (λ z. StepEnds k m m z (act a p.args r))
      (λ ps c h.
      let words : Follows (with_params m a.params) (bind_words (masked_from m.next a.params) p.args u.state).slots (bind_words (masked_from m.next a.params) p.args u.state).valid (bound a.params p.args r.store) =
      words_follow m a.params p.args u.state r.store h.1.laid (free_names m a.params h.1.free) stands.follows in
      body_ends k m a (λ chosen. run chosen c) h.1 base held chosen u (in_state u (bind_words ps p.args u.state)) r p.args stands
      (subst (λ qs. Follows (with_params m a.params) (bind_words qs p.args u.state).slots (bind_words qs p.args u.state).valid (bound a.params p.args r.store)) (sym h.0) words)
      (words_valid ps p.args u.state) refl refl)
      (λ h. absurd h) (has.own p.action a a (some_below k.actions p.action a at) at is.listed is.first)

  -- what is chosen runs as an outcome says
  outcome_ends : (p : NumberedOutcome) (o : Outcome) → IsChoice k.actions p o → ((a : Action) → o.action ≡ Some a → IsOwn k t a) → AppliedEnds k m (chosen_run (run_nth chosen bs) xs p u) p.hit (test_behind (act_if o.action o.args r) o.hit)
  outcome_ends p o is own = record { ends = subst (λ ws. StepEnds k m m (chosen_run (run_nth chosen bs) xs p u) (act_if o.action ws r)) is.args (action_runs p o.action is.action own); same = is.hit }

pub applied_ends :
    (k : Callees) (m : Places) (x : List ℕ) (t : Table) (bs : Steps) (a : Application) → table_named k.tables x ≡ Some t → IsApplication k m (table_number k.tables x) (Some t) (Some (bs, a))
    → (base : Places) (held : Tables) (chosen : ℕ → List Word → NumberedOutcome) (u : SlotRun) (r : Run) → Stands base k m held chosen u r
    → AppliedEnds k m (chosen_run (run_nth chosen bs) a.actions (outcome_for chosen a u.state) u) (outcome_for chosen a u.state).hit (apply_if k.actions (Some t) (held x) r)
applied_ends k m x t bs a named is base held chosen u r stands =
    let words : map (key_word u.state) a.keys ≡ key_words t.keys r.store = keys_are m t.keys a.keys u.state r is.1 stands.follows in
    let ws : List Word = key_words t.keys r.store in
    let p : NumberedOutcome = chosen (table_number k.tables x) ws in
    let same : outcome_for chosen a u.state ≡ p = ap (λ vs. chosen a.table vs) words ∙ ap (λ i. chosen i ws) is.0 in
    let ends : AppliedEnds k m (chosen_run (run_nth chosen bs) a.actions p u) p.hit (test_behind (act_if (outcome_in k.actions (Some t) (held x) ws).action (outcome_in k.actions (Some t) (held x) ws).args r) (outcome_in k.actions (Some t) (held x) ws).hit) =
    outcome_ends k m t a.actions bs is.2 base held chosen u r stands p (outcome_in k.actions (Some t) (held x) ws) (stands.fits.choices x t ws named) (λ b e. own_outcome k t (held x) ws b (stands.fits.own x t named) e) in
    subst (λ q. AppliedEnds k m (chosen_run (run_nth chosen bs) a.actions q u) q.hit (apply_if k.actions (Some t) (held x) r)) (sym same)
    (subst (λ y. AppliedEnds k m (chosen_run (run_nth chosen bs) a.actions p u) p.hit y) (sym (outcome_runs k.actions (held x) (choice_of (has_ternary t.keys) (held x).listed ws) r)) ends)

-- behind an application by itself nothing is done
then_nothing : (f : meaning.Flow) (u : SlotRun) (b : Bool) → run_behind f u (λ z. if b then (z, meaning.Go) else (z, meaning.Go)) ≡ (u, f)
then_nothing meaning.Go u true = refl
then_nothing meaning.Go u false = refl
then_nothing meaning.Return u b = refl
then_nothing meaning.Exit u b = refl

applied_none : (k : Callees) (m : Places) (x : List ℕ) → table_named k.tables x ≡ None → DoesAct k m (plain codes.skip) (meaning.applies x)
applied_none k m x none base held chosen u r stands =
    subst (λ o. StepEnds k m m (u, meaning.Go) ((apply_if k.actions o (held x) r).run, (apply_if k.actions o (held x) r).flow)) (sym none) (nothing_ends k m u r stands.follows stands.beside)

pub none_there : (k : Callees) (m : Places) (i : ℕ) (o : Option Table) → IsApplication k m i o None → o ≡ None
none_there k m i None is = refl
none_there k m i (Some t) is = absurd is

pub applies_none : (k : Callees) (m : Places) (x : List ℕ) → Applies k m x None → DoesAct k m (plain codes.skip) (meaning.applies x)
applies_none k m x is = applied_none k m x (none_there k m (table_number k.tables x) (table_named k.tables x) is)

applied_some : (k : Callees) (m : Places) (x : List ℕ) (bs : Steps) (a : Application) (asked : Bool) (o : Option Table) → table_named k.tables x ≡ o → IsApplication k m (table_number k.tables x) o (Some (bs, a))
    → DoesAct k m (applies bs a asked (plain codes.skip) (plain codes.skip)) (meaning.applies x)
applied_some k m x bs a asked None e is base held chosen u r stands = absurd is
applied_some k m x bs a asked (Some t) e is base held chosen u r stands =
    let all = applied_ends k m x t bs a e is base held chosen u r stands in
    let p : NumberedOutcome = outcome_for chosen a u.state in
    subst (λ o. StepEnds k m m (run chosen (applies bs a asked (plain codes.skip) (plain codes.skip)) u) ((apply_if k.actions o (held x) r).run, (apply_if k.actions o (held x) r).flow)) (sym e)
    (subst (λ z. StepEnds k m m z ((apply_if k.actions (Some t) (held x) r).run, (apply_if k.actions (Some t) (held x) r).flow))
    (sym (then_nothing (chosen_run (run_nth chosen bs) a.actions p u).1 (chosen_run (run_nth chosen bs) a.actions p u).0 (is_asked asked p.hit))) all.ends)

pub applies_some : (k : Callees) (m : Places) (x : List ℕ) (bs : Steps) (a : Application) (asked : Bool) → Applies k m x (Some (bs, a)) → DoesAct k m (applies bs a asked (plain codes.skip) (plain codes.skip)) (meaning.applies x)
applies_some k m x bs a asked is = applied_some k m x bs a asked (table_named k.tables x) refl is
