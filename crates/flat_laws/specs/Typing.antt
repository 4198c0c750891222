-- Flat code and the numbered scalars make a property of their own. Read `Meaning` before it.
use Rattle.std.specs.Prelude.{List}
use Rattle.indus_tree.specs.Tree.{block_from, Property}
use Rattle.indus_rules.specs.Rules.{IsWellTyped}
use Rattle.lower_lists.specs.Flat.{flat_of}
use Rattle.flat_laws.specs.Numbered.{numbered}
use Rattle.flat_laws.specs.Meaning.{IsPlainProperty}

-- the property of flat code
abbrev pub flat_property : Property → Property
flat_property p = record p { decls = numbered p.decls; init = block_from (flat_of p.decls p.init); tele = block_from (flat_of p.decls p.tele); check = block_from (flat_of p.decls p.check) }

-- it breaks no rule
abbrev pub FlatCodeIsWellTyped : Type 0
FlatCodeIsWellTyped = (p : Property) → IsPlainProperty p → IsWellTyped (flat_property p)
