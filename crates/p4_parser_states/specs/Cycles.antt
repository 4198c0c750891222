-- Which states of a parser lead where, and which of them reach themselves.
use Rattle.std.specs.Prelude.{◌≡◌, ℕ, List, [], ◌∷◌, Bool, true, false, ◌&&◌, ◌||◌}
use Rattle.lex_text.specs.Names.{same_text}
use Rattle.p4_tree.specs.Tree.{Case, Transition, nowhere, to, select, ParserState}

-- a name is one of the list
abbrev pub is_among : List (List ℕ) → List ℕ → Bool
is_among [] x = false
is_among (y ∷ ys) x = same_text y x || is_among ys x

-- the states that cases name
abbrev pub case_targets : List Case → List (List ℕ)
case_targets [] = []
case_targets (c ∷ cs) = c.next ∷ case_targets cs

-- the states that a transition names
abbrev pub targets : Transition → List (List ℕ)
targets (nowhere p) = []
targets (to p x) = x ∷ []
targets (select p es cs) = case_targets cs

-- a state of the first name goes on to the second name
abbrev pub leads : List ParserState → (from onto : List ℕ) → Bool
leads [] x y = false
leads (st ∷ sts) x y = (same_text st.name x && is_among (targets st.next) y) || leads sts x y

abbrev pub state_names : List ParserState → List (List ℕ)
state_names [] = []
state_names (st ∷ sts) = st.name ∷ state_names sts

-- one step or more of what leads from one to the other
pub data Steps {A : Type 0} (R : A → A → Type 0) : A → A → Type 0 where
  direct : {x y : A} → R x y → Steps R x y
  onward : {x y z : A} → R x y → Steps R y z → Steps R x z

-- one step or more lead from one name to another
abbrev pub Reaches : List ParserState → (from onto : List ℕ) → Type 0
Reaches sts = Steps (λ x y. leads sts x y ≡ true)

module _ (sts : List ParserState) where
  -- the same as a test, where the steps between pass these names alone (Floyd and Warshall)
  abbrev pub reaches_by : (between : List (List ℕ)) → (from onto : List ℕ) → Bool
  reaches_by [] x y = leads sts x y
  reaches_by (z ∷ zs) x y = reaches_by zs x y || (reaches_by zs x z && reaches_by zs z y)

  abbrev pub reaches : (from onto : List ℕ) → Bool
  reaches = reaches_by (state_names sts)

-- a state reaches itself
abbrev pub is_on_cycle : List ParserState → ParserState → Bool
is_on_cycle sts st = reaches sts st.name st.name
