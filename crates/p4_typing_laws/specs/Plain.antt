-- Names without a point: what is asked of the names that a program declares, and of which of them it is asked that they have
-- none. Read `Scope` of `p4_meaning` before it, and `Counted`, `Tied` and `Runs` after it.
use Rattle.std.specs.Prelude.{◌≡◌, ℕ, List, [], ◌∷◌, Bool, true, not, nat_eq}
use Rattle.std.specs.List.{AllByRecursion, list_any}
use Rattle.p4_tree.specs.Tree.{Local, local_action, local_table, local_register, local_const, local_var, Top, constant, typedef, header_type, struct_type, register, parser, control}
use Rattle.p4_meaning.specs.Scope.{names_in}

-- a point stands in the full name of what a control or an action declares, as the meaning has it
abbrev pub has_point : List ℕ → Bool
has_point x = list_any (λ b. nat_eq b 46) x

-- no point stands in a name: so it is in every text. The meaning puts a point between the name of what a control declares
-- and the control's name, and would else take one for another
abbrev pub is_plain : List ℕ → Bool
is_plain x = not (has_point x)

abbrev pub IsPlain : List ℕ → Type 0
IsPlain x = is_plain x ≡ true

-- ---- what is asked of names

-- `Thing` is asked of the names of registers, actions and tables, and `Value` of those of constants and variables
abbrev pub HasName : (Thing Value : List ℕ → Type 0) → Local → Type 0
HasName Thing Value (local_action p a) = Thing a.name
HasName Thing Value (local_table p t) = Thing t.name
HasName Thing Value (local_register p r) = Thing r.name
HasName Thing Value (local_const p t x e) = Value x
HasName Thing Value (local_var p t x e) = Value x

-- and so in the whole program; the variables of blocks are those of controls' bodies
abbrev pub HaveNames : (Thing Value : List ℕ → Type 0) → List Top → Type 0
HaveNames Thing Value [] = Unit {0}
HaveNames Thing Value (constant p t x e ∷ ts) = Value x × HaveNames Thing Value ts
HaveNames Thing Value (typedef p t x ∷ ts) = HaveNames Thing Value ts
HaveNames Thing Value (header_type p x fs ∷ ts) = HaveNames Thing Value ts
HaveNames Thing Value (struct_type p x fs ∷ ts) = HaveNames Thing Value ts
HaveNames Thing Value (register p r ∷ ts) = Thing r.name × HaveNames Thing Value ts
HaveNames Thing Value (parser p d ∷ ts) = HaveNames Thing Value ts
HaveNames Thing Value (control p c ∷ ts) = (AllByRecursion (HasName Thing Value) c.locals × AllByRecursion Value (names_in c.apply)) × HaveNames Thing Value ts

-- ---- which names are plain

-- the names of registers, and those of the actions and tables of controls
abbrev pub IsPlainLocal : Local → Type 0
IsPlainLocal = HasName IsPlain (λ x. Unit {0})

abbrev pub HavePlainNames : List Top → Type 0
HavePlainNames = HaveNames IsPlain (λ x. Unit {0})

-- the names of the program's constants, and those of the constants and variables of controls, also inside blocks
abbrev pub IsPlainValue : Local → Type 0
IsPlainValue = HasName (λ x. Unit {0}) IsPlain

abbrev pub HavePlainValues : List Top → Type 0
HavePlainValues = HaveNames (λ x. Unit {0}) IsPlain
