-- Why a property is refused.
use Rattle.std.specs.Prelude.{◌≡◌, ℕ, Some}
use Rattle.indus_tree.specs.Tree.{Property}
use Rattle.indus_rules.specs.Sites.{property_sites}
use Rattle.indus_rules.specs.Rules.{first, Breaks}
use Rattle.indus_rules.specs.declared.rule.Rule.{Rule}
use Rattle.indus_types.specs.declared.fault.TypeFault.{TypeFault}
use Rattle.indus_types.specs.declared.fault.TypeFault.TheVariants.{Type_, NoMemory}

-- of the sites at which a rule is broken the first is answered, a node before its parts, and of several rules that are
-- broken at one site the first in the order of `Rule`; want of memory says nothing
abbrev pub HasCause : Property → TypeFault → Type 0
HasCause property (Type_ at rule) = first (property_sites property) ≡ Some (at, rule)
HasCause property NoMemory = Unit {0}

-- the rule that is answered is broken at that place
abbrev pub AnsweredIsBroken : Type 0
AnsweredIsBroken = (p : Property) (at : ℕ) (rule : Rule) → HasCause p (Type_ at rule) → Breaks rule at p
