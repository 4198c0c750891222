-- No state of a well-typed program's parsers reaches itself. Read `Cycles` of `p4_parser_states` before it.
use Rattle.std.specs.Prelude.{◌≡◌, ℕ, List, [], ◌∷◌, false}
use Rattle.std.specs.List.{AllByRecursion}
use Rattle.p4_tree.specs.Tree.{Parser, Top, constant, typedef, header_type, struct_type, register, parser, control, Program}
use Rattle.p4_parser_states.specs.Cycles.{Reaches, is_on_cycle}
use Rattle.p4_meaning.specs.Parts.{states_in}
use Rattle.p4_rules.specs.ProgramRules.{IsWellTyped}

-- the parsers that are declared
abbrev pub parsers_in : List Top → List Parser
parsers_in [] = []
parsers_in (constant p t x e ∷ ts) = parsers_in ts
parsers_in (typedef p t x ∷ ts) = parsers_in ts
parsers_in (header_type p x fs ∷ ts) = parsers_in ts
parsers_in (struct_type p x fs ∷ ts) = parsers_in ts
parsers_in (register p r ∷ ts) = parsers_in ts
parsers_in (parser p d ∷ ts) = d ∷ parsers_in ts
parsers_in (control p c ∷ ts) = parsers_in ts

-- no state is on a cycle, as the rule tests it
abbrev pub HasNoCycle : Parser → Type 0
HasNoCycle d = AllByRecursion (λ st. is_on_cycle d.states st ≡ false) d.states

-- no name is reached from itself by one step or more
abbrev pub ReachesNone : Parser → Type 0
ReachesNone d = (x : List ℕ) → Reaches d.states x x → ⊥

pub record NoStateReachesItself : Type 0 where
  pub tested : (p : Program) → IsWellTyped p → AllByRecursion HasNoCycle (parsers_in p.tops)
  pub reached : (p : Program) → IsWellTyped p → AllByRecursion ReachesNone (parsers_in p.tops)
  -- nor is it so among the states that run
  pub running : (p : Program) → IsWellTyped p → (x : List ℕ) → Reaches (states_in p) x x → ⊥
