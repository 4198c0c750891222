-- A fine expression agrees with its place.
use Rattle.std.proofs.Common.{◌≡◌, true, false, Option, Some, None, IsSome, ◌⊎◌, inl, inr, refl}
use Rattle.indus_tree.specs.Tree.{Expr, num, flag, read, count, index, member, negation, inversion, binary, cast, Decl}
use Rattle.indus_tree.specs.State.{lookup}
use Rattle.indus_scopes.specs.Scopes.{Sight, role_from, item_of, builtin_of}
use Rattle.indus_scopes.specs.Uses.{is_missing}
use Rattle.indus_rules.specs.Rules.{cites_missing}
use Rattle.indus_rules.specs.declared.rule.Rule.TheVariants.{NoSuchName, WidthDiffers}
use Rattle.indus_scopes.specs.declared.kind.Kind.{Kind}
use Rattle.indus_types.specs.Facts.{CitesKnown, FineAgrees}
use Rattle.indus_types.proofs.Widths.{head_fine, kind_fine}

known_step : (i b : Option Kind) (d : Option Decl) → is_missing (role_from i b d) ≡ false → IsSome i ⊎ IsSome b ⊎ IsSome d
known_step (Some k) b d h = inl refl
known_step None (Some k) d h = inr (inl refl)
known_step None None (Some d) h = inr (inr refl)
known_step None None None h = absurd (let c : true ≡ false = h in cc)

cites : (g : Sight) (e : Expr) → cites_missing g e ≡ false → CitesKnown g e
cites g (read p x) h = known_step (item_of g.decls g.loops x) (builtin_of x) (lookup g.decls x) h
cites g (count p x) h = known_step (item_of g.decls g.loops x) (builtin_of x) (lookup g.decls x) h
cites g (index p x ks) h = known_step (item_of g.decls g.loops x) (builtin_of x) (lookup g.decls x) h
cites g (member p ks x) h = known_step (item_of g.decls g.loops x) (builtin_of x) (lookup g.decls x) h
cites g (num p n) h = tt
cites g (flag p b) h = tt
cites g (negation p a) h = tt
cites g (inversion p a) h = tt
cites g (binary p op a b) h = tt
cites g (cast p w a) h = tt

pub fine_agrees : FineAgrees
fine_agrees g want e f = record { known = cites g e (head_fine g want e f NoSuchName); kind = kind_fine g want e f; width = head_fine g want e f WidthDiffers }
