-- What a rule knows of its answers is a fact: it has one proof at most.
use Rattle.std.proofs.Common.{ℕ, List, [], ◌∷◌, Option, Some, None}
use Rattle.std.proofs.Props.{props}
use Rattle.rule_tests.specs.Tests.{Tests, fine, test, both, IsFine}
use Rattle.p4_tree.specs.Tree.{Expr, num, flag, path, valid, applied, error_name, negation, inversion, opposite, binary, conditional, slice, cast}
use Rattle.p4_tree.specs.declared.statement.PTy.{PTy}
use Rattle.p4_tree.specs.declared.statement.PTy.TheVariants as type
use Rattle.p4_tree.specs.declared.statement.Expr as code
use Rattle.p4_printer.specs.CanSpell.{CanSpellExpr, CanSpellScalar, CanSpellPath, EachCan, IsName}
use Rattle.rewriting_laws.specs.Standing.{MayStandFor, MayStandIfAny}

pub fine_prop : {R : Type 0} (t : Tests R) → IsProp (IsFine t)
fine_prop fine = hlevel props
fine_prop (test p r b) = hlevel props
fine_prop (both a b) = let x = fine_prop a in let y = fine_prop b in hlevel (x, y)

names_prop : (xs : List (List ℕ)) → IsProp (EachCan IsName xs)
names_prop [] = hlevel props
names_prop (x ∷ xs) = let y = names_prop xs in hlevel (y, props)

path_prop : (xs : List (List ℕ)) → IsProp (CanSpellPath xs)
path_prop [] = hlevel props
path_prop (x ∷ xs) = let y = names_prop xs in hlevel (y, props)

scalar_prop : (t : PTy) → IsProp (CanSpellScalar t)
scalar_prop (type.Bit w) = hlevel props
scalar_prop type.Bool = hlevel props
scalar_prop (type.Named x) = hlevel props

pub spell_prop : (e : Expr) → IsProp (CanSpellExpr e)
spell_prop (num p n) = hlevel props
spell_prop (flag p b) = hlevel props
spell_prop (path p x) = path_prop x
spell_prop (valid p x) = path_prop x
spell_prop (applied p t h) = hlevel props
spell_prop (error_name p x) = hlevel props
spell_prop (negation p a) = spell_prop a
spell_prop (inversion p a) = spell_prop a
spell_prop (opposite p a) = spell_prop a
spell_prop (binary p op a b) = let x = spell_prop a in let y = spell_prop b in hlevel (x, y)
spell_prop (conditional p t a b) = let x = spell_prop t in let y = spell_prop a in let z = spell_prop b in hlevel (x, y, z)
spell_prop (slice p a h l) = let x = spell_prop a in hlevel (x, props)
spell_prop (cast p t a) = let x = spell_prop a in let y = scalar_prop t in hlevel (x, y)

pub stand_prop : (e f : Expr) → IsProp (MayStandFor e f)
stand_prop e f = hlevel (fine_prop, spell_prop, props)

pub any_prop : (e : Expr) (o : Option code.Expr) → IsProp (MayStandIfAny e o)
any_prop e None = hlevel props
any_prop e (Some f) = stand_prop _ _
