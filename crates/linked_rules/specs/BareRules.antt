-- The lowering with nothing but the mark and the flags keeps what is promised for the rules, so that no promise
-- contradicts another. Read `Passes`, `Digests` and `Form` before it, and `Bare` of `linked_programs`.
use Rattle.std.specs.Prelude.{ℕ, List}
use Rattle.p4_meaning.specs.Scope.{Roots}
use Rattle.p4_scopes.specs.Scopes.{Scope}
use Rattle.linked_programs.specs.Bare.{bare}
use Rattle.linked_rules.specs.Passes.{Passes}
use Rattle.linked_rules.specs.Digests.{Tells}
use Rattle.linked_rules.specs.Form.{DeclaresItsOwn}

pub record KeepsTheRules (S : Scope) (H M : List ℕ) (r q : Roots) : Type 0 where
  pub passes : Passes bare S H M r q
  pub tells : Tells bare S H M r q 0 0
  pub names : DeclaresItsOwn bare

abbrev pub RulesCanBeKept : Type 0
RulesCanBeKept = (S : Scope) (H M : List ℕ) (r q : Roots) → KeepsTheRules S H M r q
