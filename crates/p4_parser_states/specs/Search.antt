-- What holds while the search runs. Open states stand in the order in which they were opened, and fall into components, one
-- behind the other, whose states reach one another; a component begins at each start.
use Rattle.std.specs.Prelude.{◌≡◌, ◌⊎◌, ℕ, ◌+◌, ◌-◌, ◌<◌, ◌≤◌, List, [], ◌∷◌, ◌++◌, Bool, true, false, length, take, slice_index_or}
use Rattle.p4_parser_states.specs.Cycles.{Steps}
use Rattle.p4_parser_states.specs.Graphs.{In, Follows, Tells}
use Rattle.p4_parser_states.specs.declared.search.Mark.{Mark}
use Rattle.p4_parser_states.specs.declared.search.Mark.TheVariants.{New, Open, Done}
use Rattle.p4_parser_states.specs.declared.search.Search.{Search}

abbrev pub IsDone : Mark → Type 0
IsDone New = ⊥
IsDone (Open p) = ⊥
IsDone (Done c) = Unit {0}

-- a component begins behind the first place, up to the second
pub record IsBetween (Starts : ℕ → Type 0) (p q : ℕ) : Type 0 where
  pub start : ℕ
  pub starts : Starts start
  pub behind : p < start
  pub within : start ≤ q

-- it is open, in the component of the place or in a later one
pub record IsOpenFrom (mark : ℕ → Mark) (Starts : ℕ → Type 0) (p x : ℕ) : Type 0 where
  pub place : ℕ
  pub is : mark x ≡ Open place
  pub later : (b : ℕ) → Starts b → b ≤ p → b ≤ place

-- what is known of marks, open states, what waits to be followed, and starts
pub record IsSound (R : ℕ → ℕ → Type 0) (mark : ℕ → Mark) (node : ℕ → ℕ) (size : ℕ) (Waits : ℕ → ℕ → Type 0) (Starts : ℕ → Type 0) : Type 0 where
  pub open_at : (x p : ℕ) → mark x ≡ Open p → (p < size) × (node p ≡ x)
  pub at_open : (p : ℕ) → p < size → mark (node p) ≡ Open p
  pub waits : (p x : ℕ) → Waits p x → (p < size) × R (node p) x
  -- what follows an open state waits, is done, or is open
  pub onto : (p x : ℕ) → p < size → R (node p) x → Waits p x ⊎ (IsDone (mark x) ⊎ IsOpenFrom mark Starts p x)
  pub upward : (p q : ℕ) → p < q → q < size → Steps R (node p) (node q)
  -- in one component it goes back too
  pub back : (p q : ℕ) → p < q → q < size → Steps R (node q) (node p) ⊎ IsBetween Starts p q
  pub closed : (x y : ℕ) → IsDone (mark x) → R x y → IsDone (mark y)
  pub told : (x : ℕ) (c : Bool) → mark x ≡ Done c → Tells R c x

-- each is in this relation to all behind it
abbrev pub Rises : (ℕ → ℕ → Type 0) → List ℕ → Type 0
Rises R [] = Unit {0}
Rises R (x ∷ xs) = ((y : ℕ) → In y xs → R x y) × Rises R xs

-- the places of what waits
abbrev pub places : List (ℕ × ℕ) → List ℕ
places [] = []
places (w ∷ ws) = w.0 ∷ places ws

abbrev pub mark_in : Search → ℕ → Mark
mark_in s x = slice_index_or s.marks.items x New

-- the state that is open at a place
abbrev pub node_in : Search → ℕ → ℕ
node_in s p = slice_index_or s.stack.items p 0

-- what the search holds is right for the graph
pub record IsSearch (g : List (List ℕ)) (s : Search) : Type 0 where
  pub sound : IsSound (Follows g) (mark_in s) (node_in s) (length s.stack.items) (λ p x. In (p, x) s.waiting.items) (λ b. In b s.starts.items)
  pub marked : length s.marks.items ≡ length g
  pub waiting_rise : Rises (λ p q. p ≤ q) (places s.waiting.items)
  pub starts_rise : Rises (λ p q. p < q) s.starts.items
  pub starts_open : (b : ℕ) → In b s.starts.items → b < length s.stack.items
  pub based : 0 < length s.stack.items → In 0 s.starts.items

-- what was done stays so, and what was seen stays seen
pub record Keeps (old new : Search) : Type 0 where
  pub done : (x : ℕ) (c : Bool) → mark_in old x ≡ Done c → mark_in new x ≡ Done c
  pub seen : (x : ℕ) → mark_in new x ≡ New → mark_in old x ≡ New

-- it was not seen, and all that is open reaches it
pub record IsNext (g : List (List ℕ)) (s : Search) (x : ℕ) : Type 0 where
  pub fresh : mark_in s x ≡ New
  pub within : x < length g
  pub reached : (p : ℕ) → p < length s.stack.items → Steps (Follows g) (node_in s p) x

-- the last of the list
abbrev pub IsLast : {A : Type 0} → List A → A → Type 0
IsLast xs x = xs ≡ take (length xs - 1) xs ++ x ∷ []

-- it waits at the end, behind a state of the component that begins at the start
pub record IsAwaited (s : Search) (start x : ℕ) : Type 0 where
  pub place : ℕ
  pub within : start ≤ place
  pub last : IsLast s.waiting.items (place, x)

-- it is done, or open in the component that begins at the start
abbrev pub IsSettled : (start : ℕ) → Mark → Type 0
IsSettled start New = ⊥
IsSettled start (Open p) = start ≤ p
IsSettled start (Done c) = Unit {0}

-- whether the component that begins at the start, which is the last, has several states, or one that follows itself
abbrev pub HasCycle : List (List ℕ) → Search → (start : ℕ) → Bool → Type 0
HasCycle g s start true = (start + 1 < length s.stack.items) ⊎ Follows g (node_in s start) (node_in s start)
HasCycle g s start false = (length s.stack.items ≤ start + 1) × (Follows g (node_in s start) (node_in s start) → ⊥)

-- what is left to do without a new state
abbrev pub work : Search → ℕ
work s = length s.waiting.items + length s.starts.items

-- the search came on by one step
pub record IsStep (g : List (List ℕ)) (old new : Search) : Type 0 where
  pub search : IsSearch g new
  pub keeps : Keeps old new
  pub less : work new < work old

-- what waits last is passed where what follows is settled
abbrev pub Passes : (old new : Search) → Type 0
Passes old new =
    (g : List (List ℕ)) (start x : ℕ) → IsSearch g old → IsLast old.starts.items start → IsAwaited old start x
    → IsSettled start (mark_in old x) → IsStep g old new

-- the last two components become one where the last leads to an earlier one
abbrev pub Joins : (old new : Search) → Type 0
Joins old new =
    (g : List (List ℕ)) (start x at : ℕ) → IsSearch g old → IsLast old.starts.items start → IsAwaited old start x
    → mark_in old x ≡ Open at → at < start → IsStep g old new

-- how many states were not seen
abbrev pub unseen : List Mark → ℕ
unseen [] = 0
unseen (New ∷ ms) = 1 + unseen ms
unseen (Open p ∷ ms) = unseen ms
unseen (Done c ∷ ms) = unseen ms

-- what is known of a state in the end
abbrev pub told : Mark → Bool
told New = false
told (Open p) = false
told (Done c) = c
