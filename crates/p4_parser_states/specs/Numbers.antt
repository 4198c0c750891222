-- The names of states as numbers, and the graph that the states make of them.
use Rattle.std.specs.Prelude.{◌≡◌, ℕ, List, [], ◌++◌, Bool, false, slice_index_or, slice_set, Option, Some, None, String, string_bytes}
use Rattle.std.specs.List.{position, filter_map}
use Rattle.std.specs.Str.{bytes_eq}
use Rattle.std.specs.declared.alloc.Global.{Global}
use Rattle.p4_tree.specs.Tree.{ParserState}
use Rattle.p4_parser_states.specs.Cycles.{targets}
use Rattle.p4_parser_states.specs.Graphs.{In, Follows}

-- the number of a name: its place in the table
abbrev pub number_in : List (String Global) → List ℕ → Option ℕ
number_in ks x = position (λ k. bytes_eq x (string_bytes k)) ks

-- the graph with more behind one of its numbers
abbrev pub add_to : List (List ℕ) → Option ℕ → List ℕ → List (List ℕ)
add_to g None ys = g
add_to g (Some i) ys = slice_set g i (slice_index_or g i [] ++ ys)

-- the graph with where a state leads
abbrev pub add_state : (List ℕ → Option ℕ) → List (List ℕ) → ParserState → List (List ℕ)
add_state num g st = add_to g (num st.name) (filter_map num (targets st.next))

-- a state leads from the first number to the second
pub record IsEdge (num : List ℕ → Option ℕ) (sts : List ParserState) (i j : ℕ) : Type 0 where
  pub state : ParserState
  pub onto : List ℕ
  pub among : In state sts
  pub target : In onto (targets state.next)
  pub from_number : num state.name ≡ Some i
  pub onto_number : num onto ≡ Some j

-- the graph has the steps of these states
pub record HasSteps (num : List ℕ → Option ℕ) (sts : List ParserState) (g : List (List ℕ)) : Type 0 where
  pub sound : (i j : ℕ) → Follows g i j → IsEdge num sts i j
  pub whole : (i j : ℕ) → IsEdge num sts i j → Follows g i j

-- the answer for a number; a name that has none leads nowhere
abbrev pub answer_at : List Bool → Option ℕ → Bool
answer_at bs None = false
answer_at bs (Some i) = slice_index_or bs i false
