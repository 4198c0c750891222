-- What the loops go over, of the program's values. Read the specs that callers rest on before it.
use Rattle.std.specs.Prelude.{◌≡◌, ℕ, List, [], ◌∷◌, map, Bool, true, false, not, Option, Some, None}
use Rattle.std.specs.Borrow.{Bor}
use Rattle.std.specs.Global.{Vec}
use Rattle.rule_tests.specs.Tests.{Tests, fine, test, both}
use Rattle.p4_tree.specs.Tree.{Expr, Keyset, any, ParserState}
use Rattle.p4_parser_states.specs.Cycles.{is_among, state_names}
use Rattle.p4_scopes.specs.Kinds.{as_value}
use Rattle.p4_scopes.specs.Scopes.{Scope, own}
use Rattle.p4_scopes.specs.declared.kind.Kind.{Kind}
use Rattle.p4_scopes.specs.declared.thing.Thing.{Thing}
use Rattle.p4_statement_rules.specs.Calls.{as_many}
use Rattle.p4_statement_rules.specs.declared.rule.ProgramRule.{ProgramRule}
use Rattle.p4_statement_rules.specs.declared.rule.ProgramRule.TheVariants.{KindDiffers}
use Rattle.p4_declaration_rules.specs.Declarations.{is_no_number, is_no_field}
use Rattle.p4_declaration_rules.specs.Parsers.{keyset_tests}
use Rattle.p4_declaration_rules.specs.declared.declarations.Wanted.{Wanted}
use Rattle.p4_declaration_rules.specs.declared.declarations.Wanted.TheVariants as wanted

-- what a field may not be
abbrev pub misfit_of : Wanted → Thing → Bool
misfit_of wanted.Number = is_no_number
misfit_of wanted.Field = is_no_field

-- one `default` alone
abbrev pub is_default : List Keyset → Bool
is_default (any q ∷ []) = true
is_default _ = false

-- what the values of a `select` are
abbrev pub wanted_kinds : Scope → List Expr → List Kind
wanted_kinds s [] = []
wanted_kinds s (e ∷ es) = as_value (own s e) ∷ wanted_kinds s es

-- keys for values of these kinds
abbrev pub each_wanted : Scope → List Kind → List Keyset → Tests ProgramRule
each_wanted s [] keys = fine
each_wanted s (k ∷ ks) [] = fine
each_wanted s (k ∷ ks) (key ∷ keys) = both (keyset_tests s k key) (each_wanted s ks keys)

-- as many keys as there are kinds
abbrev pub all_wanted : (at : ℕ) → Scope → List Kind → List Keyset → Tests ProgramRule
all_wanted p s ks keys = both (test p KindDiffers (not (as_many ks keys))) (each_wanted s ks keys)

-- the members of a list of one, or of none
abbrev pub as_list : {A : Type 0} → Option A → List A
as_list None = []
as_list (Some x) = x ∷ []

-- the paths that a table of texts holds
abbrev pub path_in : Vec (Bor (List ℕ)) → List (List ℕ)
path_in texts = map (λ x. x.now) texts.items

abbrev pub paths_in : List (Vec (Bor (List ℕ))) → List (List (List ℕ))
paths_in all = map path_in all

-- the names that a table holds
abbrev pub named : List (Bor (List ℕ)) → List (List ℕ)
named ks = map (λ k. k.now) ks

-- the table holds the names of these states
abbrev pub IsNameTable : List (Bor (List ℕ)) → List ParserState → Type 0
IsNameTable ks sts = (x : List ℕ) → is_among (named ks) x ≡ is_among (state_names sts) x
