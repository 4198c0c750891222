-- Keys are tested by what the values of a `select` are.
use Rattle.std.proofs.Common.{◌≡◌, ◌∙◌, ℕ, Bool, true, false, not, List, [], ◌∷◌, length, map, refl, sym, ap, arith}
use Rattle.rule_tests.specs.Tests.{Tests, fine, test, both}
use Rattle.p4_tree.specs.Tree.{Expr, Keyset, any, only, masked}
use Rattle.p4_tree.specs.View.{keyset_of}
use Rattle.p4_tree.specs.declared.program.Keyset as code
use Rattle.p4_scopes.specs.Kinds.{as_value}
use Rattle.p4_scopes.specs.Scopes.{Scope, own}
use Rattle.p4_scopes.specs.declared.kind.Kind.{Kind}
use Rattle.p4_statement_rules.specs.Calls.{as_many}
use Rattle.p4_statement_rules.specs.declared.rule.ProgramRule.{ProgramRule}
use Rattle.p4_statement_rules.specs.declared.rule.ProgramRule.TheVariants.{KindDiffers}
use Rattle.p4_declaration_rules.specs.Tables.{known_args}
use Rattle.p4_declaration_rules.specs.Parsers.{keyset_tests, each_keyset, keysets_tests}
use Rattle.p4_declaration_rules.specs.Loops.{is_default, wanted_kinds, each_wanted, all_wanted}

pub as_many_wanted : (s : Scope) (es : List Expr) (keys : List Keyset) → as_many (wanted_kinds s es) keys ≡ as_many es keys
as_many_wanted s [] [] = refl
as_many_wanted s [] (k ∷ ks) = refl
as_many_wanted s (e ∷ es) [] = refl
as_many_wanted s (e ∷ es) (k ∷ ks) = as_many_wanted s es ks

pub each_by_kinds : (s : Scope) (es : List Expr) (keys : List Keyset) → each_wanted s (wanted_kinds s es) keys ≡ each_keyset s es keys
each_by_kinds s [] keys = refl
each_by_kinds s (e ∷ es) [] = refl
each_by_kinds s (e ∷ es) (k ∷ ks) = ap (both (keyset_tests s (as_value (own s e)) k)) (each_by_kinds s es ks)

-- one `default` alone fits all values
pub default_fits : (p : ℕ) (s : Scope) (es : List Expr) (keys : List Keyset) → is_default keys ≡ true → keysets_tests p s es keys ≡ fine
default_fits p s es [] h = absurd (let c : false ≡ true = h in cc)
default_fits p s es (any q ∷ []) h = refl
default_fits p s es (only q e ∷ []) h = absurd (let c : false ≡ true = h in cc)
default_fits p s es (masked q e m ∷ []) h = absurd (let c : false ≡ true = h in cc)
default_fits p s es (k ∷ l ∷ ks) h = absurd (none k h)
  where
    none : (k : Keyset) → is_default (k ∷ l ∷ ks) ≡ true → ⊥
    none (any q) e = let c : false ≡ true = e in absurd cc
    none (only q e) f = let c : false ≡ true = f in absurd cc
    none (masked q e m) f = let c : false ≡ true = f in absurd cc

-- other keys are tested one by one
abbrev by_each : (p : ℕ) → Scope → List Expr → List Keyset → Tests ProgramRule
by_each p s es keys = both (test p KindDiffers (not (as_many es keys))) (each_keyset s es keys)

each_key : (p : ℕ) (s : Scope) (es : List Expr) (keys : List Keyset) → is_default keys ≡ false → keysets_tests p s es keys ≡ by_each p s es keys
each_key p s es [] h = refl
each_key p s es (any q ∷ []) h = absurd (let c : true ≡ false = h in cc)
each_key p s es (only q e ∷ []) h = refl
each_key p s es (masked q e m ∷ []) h = refl
each_key p s es (any q ∷ l ∷ ks) h = refl
each_key p s es (only q e ∷ l ∷ ks) h = refl
each_key p s es (masked q e m ∷ l ∷ ks) h = refl

pub each_fits : (p : ℕ) (s : Scope) (es : List Expr) (keys : List Keyset) → is_default keys ≡ false
    → keysets_tests p s es keys ≡ all_wanted p s (wanted_kinds s es) keys
each_fits p s es keys h =
    each_key p s es keys h
    ∙ ap (λ (b : Bool). both (test p KindDiffers (not b)) (each_keyset s es keys)) (sym (as_many_wanted s es keys))
    ∙ ap (both (test p KindDiffers (not (as_many (wanted_kinds s es) keys)))) (sym (each_by_kinds s es keys))

-- keys are counted
pub keysets_counted : (keys : List code.Keyset) → length (map keyset_of keys) ≡ length keys
keysets_counted [] = refl
keysets_counted (k ∷ keys) = let more : length (map keyset_of keys) ≡ length keys = keysets_counted keys in omega (arith, more)

-- nothing is left

pub no_keys : (s : Scope) (ks : List Kind) → each_wanted s ks [] ≡ fine
no_keys s [] = refl
no_keys s (k ∷ ks) = refl

pub no_known_args : (s : Scope) (ks : List Kind) → known_args s ks [] ≡ fine
no_known_args s [] = refl
no_known_args s (k ∷ ks) = refl
