-- Statements over slots, and what they do. Read `Terms` of `slot_terms` before it and `Runs` after it.
use Rattle.std.specs.Prelude.{ℕ, List, [], ◌∷◌, map, Bool, true, Option, Some, None, if◌then◌else◌, nat_eq, slice_set}
use Rattle.p4_meaning.specs.Statements.{Flow, Go, Return, Exit}
use Rattle.slot_terms.specs.States.{State}
use Rattle.slot_terms.specs.Terms.{Term, term_of, eval, valid_at}
use Rattle.slot_statements.specs.declared.code.Code as code_code
use Rattle.slot_statements.specs.declared.code.Code.TheOpen as layer
use Rattle.slot_statements.specs.declared.code.Code.TheFolds.{fold-Code}

mutual
  -- a statement over slots
  pub data Code : Type 0 where
    skip : Code
    group : Codes → Code
    set : (slot : ℕ) (header : Option ℕ) (value : Term) → Code
    branch : (test : Term) (where_it_holds elsewhere : Code) → Code
    returns : Code
    exits : Code

  -- statements one after the other
  pub data Codes : Type 0 where
    done : Codes
    next : Code → Codes → Codes

-- the same, of a list
abbrev pub codes_from : List Code → Codes
codes_from [] = done
codes_from (c ∷ cs) = next c (codes_from cs)

-- one node
abbrev pub code_layer : layer.Code-F Code → Code
code_layer layer.Skip = skip
code_layer (layer.Group cs) = group (codes_from cs.items)
code_layer (layer.Set i h t) = set i h (term_of t)
code_layer (layer.If t a b) = branch (term_of t) a.value b.value
code_layer layer.Return = returns
code_layer layer.Exit = exits

-- the same as the code has them
abbrev pub code_of : code_code.Code → Code
code_of = fold-Code Code code_layer

abbrev pub codes_of : List code_code.Code → Codes
codes_of cs = codes_from (map code_of cs)

-- a state, and how the last statement ended
abbrev pub ended : State → Flow → State × Flow
ended s f = (s, f)

-- whether a write to a place does anything: to a field of an invalid header it does nothing
abbrev pub writes : Option ℕ → List Bool → Bool
writes None valid = true
writes (Some n) valid = valid_at valid n

-- a slot gets a number; where there is no such slot nothing is done
abbrev pub put : State → ℕ → ℕ → State
put s i v = record s { slots = slice_set s.slots i v }

-- what follows is done where what was before did not leave
abbrev pub behind : Flow → State → (State → State × Flow) → State × Flow
behind Go s more = more s
behind Return s more = (s, Return)
behind Exit s more = (s, Exit)

abbrev mutual
  -- what a statement does, and how it ends
  pub exec : Code → State → State × Flow
  exec skip s = (s, Go)
  exec (group cs) s = exec_all cs s
  exec (set i h t) s = ((if writes h s.valid then put s i (eval s.slots s.valid t) else s), Go)
  exec (branch t a b) s = if nat_eq (eval s.slots s.valid t) 1 then exec a s else exec b s
  exec returns s = (s, Return)
  exec exits s = (s, Exit)

  pub exec_all : Codes → State → State × Flow
  exec_all done s = (s, Go)
  exec_all (next c cs) s = behind (exec c s).1 (exec c s).0 (exec_all cs)
