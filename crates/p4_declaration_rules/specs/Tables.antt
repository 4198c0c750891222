-- What is tested of tables. Read `Declarations` before it and `Parsers` after it.
use Rattle.std.specs.Prelude.{ℕ, List, [], ◌∷◌, Bool, true, false, not, ◌&&◌, ◌||◌, codes, Option, Some, None}
use Rattle.lex_text.specs.Names.{same_text}
use Rattle.rule_tests.specs.Tests.{Tests, fine, test, both}
use Rattle.p4_tree.specs.Tree.{Expr, Table}
use Rattle.p4_scopes.specs.Scopes.{Stands, missing, act, Scope, is_missing}
use Rattle.p4_scopes.specs.Uses.{is_action}
use Rattle.p4_scopes.specs.declared.kind.Kind.{Kind}
use Rattle.p4_statement_rules.specs.Expressions.{new_tests, free_tests, constant_tests}
use Rattle.p4_statement_rules.specs.Calls.{as_many}
use Rattle.p4_statement_rules.specs.declared.rule.ProgramRule.{ProgramRule}
use Rattle.p4_statement_rules.specs.declared.rule.ProgramRule.TheVariants.{NameTwice, NoSuchName, KindDiffers, WrongPlace, KeyKinds}
use Rattle.p4_parser_states.specs.Cycles.{is_among}
use Rattle.p4_declaration_rules.specs.Declarations.{has_twice}

-- ---- keys

abbrev pub keys_tests : Scope → List (Expr × List ℕ) → Tests ProgramRule
keys_tests s [] = fine
keys_tests s (k ∷ ks) = both (free_tests s k.0) (keys_tests s ks)

abbrev pub is_key_kind : List ℕ → Bool
is_key_kind x = same_text x (codes "exact") || same_text x (codes "lpm") || same_text x (codes "ternary")

abbrev pub all_key_kinds : List (Expr × List ℕ) → Bool
all_key_kinds [] = true
all_key_kinds (k ∷ ks) = is_key_kind k.1 && all_key_kinds ks

-- some key is matched in this way
abbrev pub has_key_kind : List (Expr × List ℕ) → List ℕ → Bool
has_key_kind [] x = false
has_key_kind (k ∷ ks) x = same_text k.1 x || has_key_kind ks x

-- two keys are matched by prefixes
abbrev pub has_two_prefixes : List (Expr × List ℕ) → Bool
has_two_prefixes [] = false
has_two_prefixes (k ∷ ks) = (same_text k.1 (codes "lpm") && has_key_kind ks (codes "lpm")) || has_two_prefixes ks

-- a way of matching that there is not, two prefixes, or a prefix beside a mask
abbrev pub ill_matched : List (Expr × List ℕ) → Bool
ill_matched ks = not (all_key_kinds ks) || has_two_prefixes ks || (has_key_kind ks (codes "lpm") && has_key_kind ks (codes "ternary"))

-- ---- actions

-- the actions of a table, of which each stands there once
abbrev pub listed_tests : (at : ℕ) → Scope → List (List ℕ) → Tests ProgramRule
listed_tests p s [] = fine
listed_tests p s (x ∷ xs) = both (both (test p NoSuchName (is_missing (s (x ∷ [])))) (test p KindDiffers (not (is_action (s (x ∷ [])))))) (listed_tests p s xs)

-- the arguments of a default action, which are known before the program runs
abbrev pub known_args : Scope → List Kind → List Expr → Tests ProgramRule
known_args s [] es = fine
known_args s (k ∷ ks) [] = fine
known_args s (k ∷ ks) (e ∷ es) = both (constant_tests s k e) (known_args s ks es)

abbrev pub default_args : (at : ℕ) → Scope → Stands → List Expr → Tests ProgramRule
default_args p s missing es = test p NoSuchName true
default_args p s (act ks m) es = both (test p KindDiffers (not (as_many ks es))) (known_args s ks es)
default_args p s _ es = test p KindDiffers true

-- a default action is one of the table's
abbrev pub default_tests : (at : ℕ) → Scope → List (List ℕ) → Option (List ℕ × List Expr) → Tests ProgramRule
default_tests p s xs None = fine
default_tests p s xs (Some d) = both (test p WrongPlace (not (is_among xs d.0))) (default_args p s (s (d.0 ∷ [])) d.1)

-- ---- tables

abbrev pub table_tests : Scope → Table → Tests ProgramRule
table_tests s t =
    both (new_tests t.at s t.name)
    (both (test t.at KeyKinds (ill_matched t.keys))
    (both (keys_tests s t.keys)
    (both (test t.at NameTwice (has_twice t.actions))
    (both (listed_tests t.at s t.actions)
    (default_tests t.at s t.actions t.default)))))
