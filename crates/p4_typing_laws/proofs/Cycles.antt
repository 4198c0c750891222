-- No state of a well-typed program's parsers reaches itself: the rule's test is exact, and what runs leads where what is
-- declared leads.
use Rattle.std.proofs.Common.{◌≡◌, ◌⊎◌, inl, inr, ℕ, List, [], ◌∷◌, Bool, true, false, ◌||◌, ◌&&◌, cond, map, Option, Some, None, refl, sym, ap, ◌∙◌, subst}
use Rattle.std.specs.List.{AllByRecursion}
use Rattle.std.proofs.lemmas.Slice.Eq.{bytes_eq-Decides}
use Rattle.rule_tests.specs.Tests.{IsFine}
use Rattle.lex_text.specs.Names.{same_text}
use Rattle.p4_tree.specs.Tree.{Case, Transition, nowhere, to, select, ParserState, Parser, Top, constant, typedef, header_type, struct_type, register, parser, control}
use Rattle.p4_parser_states.specs.Cycles.{is_among, case_targets, targets, leads, direct, onward, Reaches, reaches, is_on_cycle}
use Rattle.p4_parser_states.specs.Laws.{ReachesIsExact}
use Rattle.p4_meaning.specs.Scope as meaning
use Rattle.p4_meaning.specs.Under.{case_under, transition_under, state_under, no_scope, in_parser}
use Rattle.p4_meaning.specs.Parts.{parser_named, scope_at_parser, states_of, named_in, parser_in}
use Rattle.p4_scopes.specs.Scopes.{Scope, core}
use Rattle.p4_declaration_rules.specs.Parsers.{states_tests}
use Rattle.p4_declaration_rules.specs.Controls.{tops_tests}
use Rattle.p4_typing_laws.specs.States.{parsers_in, HasNoCycle, ReachesNone, NoStateReachesItself}
use Rattle.p4_typing_laws.proofs.Fine.{typed_fine}

-- ---- as it is tested

states_free : (all sts : List ParserState) (s : Scope) → IsFine (states_tests all s sts) → AllByRecursion (λ st. is_on_cycle all st ≡ false) sts
states_free all [] s f = tt
states_free all (st ∷ sts) s f = (f.0.0, states_free all sts s f.1)

tops_free : (main : List (List ℕ)) (ts : List Top) (s : Scope) → IsFine (tops_tests main s ts) → AllByRecursion HasNoCycle (parsers_in ts)
tops_free main [] s f = tt
tops_free main (constant p t x e ∷ ts) s f = tops_free main ts _ f.1
tops_free main (typedef p t x ∷ ts) s f = tops_free main ts _ f.1
tops_free main (header_type p x fs ∷ ts) s f = tops_free main ts _ f.1
tops_free main (struct_type p x fs ∷ ts) s f = tops_free main ts _ f.1
tops_free main (register p r ∷ ts) s f = tops_free main ts _ f.1
tops_free main (parser p d ∷ ts) s f = (states_free d.states d.states _ f.0.1.1.1.1, tops_free main ts _ f.1)
tops_free main (control p c ∷ ts) s f = tops_free main ts _ f.1

-- ---- as it is reached

or_either : (a b : Bool) → (a || b) ≡ true → (a ≡ true) ⊎ (b ≡ true)
or_either true b h = inl refl
or_either false b h = inr h

and_first : (a b : Bool) → (a && b) ≡ true → a ≡ true
and_first true b h = refl
and_first false b h = let c : false ≡ true = h in absurd (cc)

-- a name that leads somewhere is a state's, and so none that reaches itself
module _ (exact : ReachesIsExact) (all : List ParserState) (x : List ℕ) (loop : Reaches all x x) where
  named_free : (st : ParserState) → same_text st.name x ≡ true → is_on_cycle all st ≡ false → ⊥
  named_free st e h =
      let same : st.name ≡ x = (bytes_eq-Decides st.name x).0 e in
      let on : reaches all x x ≡ true = (exact all x x).1 loop in
      let off : reaches all x x ≡ false = subst (λ (y : List ℕ). reaches all y y ≡ false) same h in
      let c : true ≡ false = sym on ∙ off in cc

  lead_free : (sts : List ParserState) (y : List ℕ) → leads sts x y ≡ true → AllByRecursion (λ st. is_on_cycle all st ≡ false) sts → ⊥
  lead_free [] y h f = let c : false ≡ true = h in cc
  lead_free (st ∷ sts) y h f = go (λ e. lead_free sts y e f.1) (or_either (same_text st.name x && is_among (targets st.next) y) (leads sts x y) h)
    where
      go : (leads sts x y ≡ true → ⊥) → ((same_text st.name x && is_among (targets st.next) y) ≡ true) ⊎ (leads sts x y ≡ true) → ⊥
      go more (inl e) = named_free st (and_first (same_text st.name x) (is_among (targets st.next) y) e) f.0
      go more (inr e) = more e

first_step : (sts : List ParserState) (x z : List ℕ) → Reaches sts x z → (y : List ℕ) × (leads sts x y ≡ true)
first_step sts x z (direct h) = (z, h)
first_step sts x z (onward {y = y} h t) = (y, h)

reaches_none : ReachesIsExact → (d : Parser) → HasNoCycle d → ReachesNone d
reaches_none exact d f x loop = (let step = first_step d.states x x loop in lead_free exact d.states x loop d.states step.0 step.1 f)

all_reach_none : ReachesIsExact → (ds : List Parser) → AllByRecursion HasNoCycle ds → AllByRecursion ReachesNone ds
all_reach_none exact [] f = tt
all_reach_none exact (d ∷ ds) f = (reaches_none exact d f.0, all_reach_none exact ds f.1)

-- ---- as it runs

case_same : (sc : meaning.Scope) (cs : List Case) → case_targets (map (case_under sc) cs) ≡ case_targets cs
case_same sc [] = refl
case_same sc (c ∷ cs) = ap (λ (xs : List (List ℕ)). c.next ∷ xs) (case_same sc cs)

targets_same : (sc : meaning.Scope) (t : Transition) → targets (transition_under sc t) ≡ targets t
targets_same sc (nowhere p) = refl
targets_same sc (to p x) = refl
targets_same sc (select p es cs) = case_same sc cs

leads_same : (sc : meaning.Scope) (sts : List ParserState) (x y : List ℕ) → leads (map (state_under sc) sts) x y ≡ leads sts x y
leads_same sc [] x y = refl
leads_same sc (st ∷ sts) x y =
    ap (λ (ys : List (List ℕ)). (same_text st.name x && is_among ys y) || leads (map (state_under sc) sts) x y) (targets_same sc st.next)
    ∙ ap (λ (b : Bool). (same_text st.name x && is_among (targets st.next) y) || b) (leads_same sc sts x y)

steps_back : (sc : meaning.Scope) (sts : List ParserState) (x y : List ℕ) → Reaches (map (state_under sc) sts) x y → Reaches sts x y
steps_back sc sts x y (direct h) = direct (sym (leads_same sc sts x y) ∙ h)
steps_back sc sts x y (onward {y = z} h t) = onward (sym (leads_same sc sts x z) ∙ h) (steps_back sc sts z y t)

no_steps : (x y : List ℕ) → Reaches [] x y → ⊥
no_steps x y (direct h) = let c : false ≡ true = h in cc
no_steps x y (onward h t) = let c : false ≡ true = h in cc

-- the parser of a name is one that is declared
abbrev pub OfIt : (Parser → Type 0) → Option Parser → Type 0
OfIt P None = Unit {0}
OfIt P (Some d) = P d

named_one : (P : Parser → Type 0) (x : List ℕ) (ts : List Top) → AllByRecursion P (parsers_in ts) → OfIt P (parser_named ts x)
named_one P x [] h = tt
named_one P x (constant p t y e ∷ ts) h = named_one P x ts h
named_one P x (typedef p t y ∷ ts) h = named_one P x ts h
named_one P x (header_type p y fs ∷ ts) h = named_one P x ts h
named_one P x (struct_type p y fs ∷ ts) h = named_one P x ts h
named_one P x (register p r ∷ ts) h = named_one P x ts h
named_one P x (control p c ∷ ts) h = named_one P x ts h
named_one P x (parser p d ∷ ts) h = go (same_text d.name x) (named_one P x ts h.1)
  where
    go : (b : Bool) → OfIt P (parser_named ts x) → OfIt P (cond b (Some d) (parser_named ts x))
    go true k = h.0
    go false k = k

running_none : (sc : meaning.Scope) (o : Option Parser) → OfIt ReachesNone o → (x : List ℕ) → Reaches (states_of sc o) x x → ⊥
running_none sc None h x r = no_steps x x r
running_none sc (Some d) h x r = h x (steps_back (in_parser sc d) d.states x x r)

pub no_cycle : ReachesIsExact → NoStateReachesItself
no_cycle exact =
    record {
      tested = λ p h. tops_free p.main p.tops core (typed_fine p h).0;
      reached = λ p h. all_reach_none exact (parsers_in p.tops) (tops_free p.main p.tops core (typed_fine p h).0);
      running = λ p h x r. running_none (scope_at_parser no_scope p.tops (named_in p.main 0)) (parser_in p) (named_one ReachesNone (named_in p.main 0) p.tops (all_reach_none exact (parsers_in p.tops) (tops_free p.main p.tops core (typed_fine p h).0))) x r;
    }
