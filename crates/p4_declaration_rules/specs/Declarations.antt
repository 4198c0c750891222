-- What is tested of declarations that stand at top level and in controls alike, and of headers and structs. Read
-- `Statements` of `p4_statement_rules` before it and `Tables` after it.
use Rattle.std.specs.Prelude.{ℕ, ◌+◌, ◌%◌, List, [], ◌∷◌, Bool, true, false, not, ◌||◌, nat_eq, nat_lt}
use Rattle.rule_tests.specs.Tests.{Tests, fine, test, both}
use Rattle.p4_tree.specs.Tree.{Expr, Action}
use Rattle.p4_tree.specs.declared.statement.PTy.{PTy}
use Rattle.p4_tree.specs.declared.program.Register.{Register}
use Rattle.p4_scopes.specs.Kinds.{width_in}
use Rattle.p4_scopes.specs.Scopes.{Scope, value, declare, thing_in, kind_in}
use Rattle.p4_scopes.specs.declared.kind.Kind.TheVariants.{Number, Unknown}
use Rattle.p4_scopes.specs.declared.thing.Thing.{Thing}
use Rattle.p4_scopes.specs.declared.thing.Thing.TheVariants.{Scalar, Header}
use Rattle.p4_scopes.specs.declared.thing.Access.TheVariants.{Fixed}
use Rattle.p4_parser_states.specs.Cycles.{is_among}
use Rattle.p4_statement_rules.specs.Expressions.{new_tests, type_tests, scalar_tests, constant_tests}
use Rattle.p4_statement_rules.specs.Statements.{block_tests}
use Rattle.p4_statement_rules.specs.declared.rule.ProgramRule.{ProgramRule}
use Rattle.p4_statement_rules.specs.declared.rule.ProgramRule.TheVariants.{NameTwice, KindDiffers, BadSize}
use Rattle.p4_statement_rules.specs.declared.rule.Part.{Part}

-- ---- names

-- some name stands twice
abbrev pub has_twice : List (List ℕ) → Bool
has_twice [] = false
has_twice (x ∷ xs) = is_among xs x || has_twice xs

-- ---- constants, other names of types, registers

abbrev pub const_tests : (at : ℕ) → Scope → PTy → List ℕ → Expr → Tests ProgramRule
const_tests p s t x e = both (new_tests p s x) (both (scalar_tests p s t) (constant_tests s (kind_in s t) e))

abbrev pub typedef_tests : (at : ℕ) → Scope → PTy → List ℕ → Tests ProgramRule
typedef_tests p s t x = both (new_tests p s x) (scalar_tests p s t)

abbrev pub register_tests : Scope → Register → Tests ProgramRule
register_tests s r = both (new_tests r.at s r.name) (both (scalar_tests r.at s r.ty) (test r.at BadSize (nat_eq r.count 0 || nat_lt 4194304 r.count)))

-- ---- actions

-- the parameters of an action
abbrev pub params_tests : (at : ℕ) → Scope → List (PTy × List ℕ) → Tests ProgramRule
params_tests p s [] = fine
params_tests p s (q ∷ qs) = both (both (new_tests p s q.1) (scalar_tests p s q.0)) (params_tests p (declare s q.1 (value Fixed q.0)) qs)

abbrev pub with_params : Scope → List (PTy × List ℕ) → Scope
with_params s [] = s
with_params s (q ∷ qs) = with_params (declare s q.1 (value Fixed q.0)) qs

-- an action, whose statements stand in such a part
abbrev pub action_tests : Part → Scope → Action → Tests ProgramRule
action_tests h s a = both (new_tests a.at s a.name) (both (params_tests a.at s a.params) (block_tests h (with_params s a.params) a.body))

-- ---- headers and structs

-- a truth value, or what is no single value
abbrev pub is_no_number : Thing → Bool
is_no_number (Scalar (Number w)) = false
is_no_number (Scalar Unknown) = false
is_no_number _ = true

-- what is neither a single value nor a header
abbrev pub is_no_field : Thing → Bool
is_no_field (Scalar k) = false
is_no_field (Header n) = false
is_no_field _ = true

-- fields of which each passes a test; a field's name is in no scope, and stands once
abbrev pub fields_tests : (at : ℕ) → (misfit : Thing → Bool) → Scope → List (PTy × List ℕ) → Tests ProgramRule
fields_tests p misfit s [] = fine
fields_tests p misfit s (f ∷ fs) = both (both (type_tests p s f.0) (test p KindDiffers (misfit (thing_in s f.0)))) (fields_tests p misfit s fs)

abbrev pub field_names : List (PTy × List ℕ) → List (List ℕ)
field_names [] = []
field_names (f ∷ fs) = f.1 ∷ field_names fs

-- the bits of the fields of a header, over what fills bytes
abbrev pub bits_over : Scope → List (PTy × List ℕ) → ℕ
bits_over s [] = 0
bits_over s (f ∷ fs) = (width_in (kind_in s f.0) + bits_over s fs) % 8

-- a header holds numbers, and has whole bytes
abbrev pub header_tests : (at : ℕ) → Scope → List ℕ → List (PTy × List ℕ) → Tests ProgramRule
header_tests p s x fs =
    both (new_tests p s x)
    (both (test p NameTwice (has_twice (field_names fs)))
    (both (fields_tests p is_no_number s fs)
    (test p BadSize (not (nat_eq (bits_over s fs) 0)))))

-- a struct holds single values and headers
abbrev pub struct_tests : (at : ℕ) → Scope → List ℕ → List (PTy × List ℕ) → Tests ProgramRule
struct_tests p s x fs =
    both (new_tests p s x)
    (both (test p NameTwice (has_twice (field_names fs)))
    (fields_tests p is_no_field s fs))
