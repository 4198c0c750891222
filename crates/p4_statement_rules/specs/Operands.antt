-- What the operands of an expression are, found once for all its levels: a list from which each level takes its own.
use Rattle.std.specs.Prelude.{◌≡◌, List, [], ◌∷◌}
use Rattle.p4_tree.specs.Tree.{Expr, num, flag, path, valid, applied, error_name, negation, inversion, opposite, binary, conditional, slice, cast}
use Rattle.p4_scopes.specs.Scopes.{Scope, own}
use Rattle.p4_scopes.specs.declared.kind.Kind.{Kind}
use Rattle.p4_scopes.specs.declared.kind.Kind.TheVariants.{Unknown}

abbrev pub top : List Kind → Kind
top [] = Unknown
top (k ∷ ks) = k

abbrev pub below : List Kind → List Kind
below [] = []
below (k ∷ ks) = ks

-- the kinds of an expression's operands, level by level, in front of others
abbrev pub noted : Scope → Expr → List Kind → List Kind
noted s (num p n) ks = ks
noted s (flag p b) ks = ks
noted s (path p x) ks = ks
noted s (valid p x) ks = ks
noted s (applied p t h) ks = ks
noted s (error_name p x) ks = ks
noted s (negation p a) ks = noted s a ks
noted s (inversion p a) ks = own s a ∷ noted s a ks
noted s (opposite p a) ks = own s a ∷ noted s a ks
noted s (binary p op a b) ks = own s a ∷ own s b ∷ noted s a (noted s b ks)
noted s (conditional p c a b) ks = own s a ∷ own s b ∷ noted s c (noted s a (noted s b ks))
noted s (slice p a h l) ks = own s a ∷ noted s a ks
noted s (cast p t a) ks = own s a ∷ noted s a ks

-- what is left behind those of an expression
abbrev pub left : Expr → List Kind → List Kind
left (num p n) ks = ks
left (flag p b) ks = ks
left (path p x) ks = ks
left (valid p x) ks = ks
left (applied p t h) ks = ks
left (error_name p x) ks = ks
left (negation p a) ks = left a ks
left (inversion p a) ks = left a (below ks)
left (opposite p a) ks = left a (below ks)
left (binary p op a b) ks = left b (left a (below (below ks)))
left (conditional p c a b) ks = left b (left a (left c (below (below ks))))
left (slice p a h l) ks = left a (below ks)
left (cast p t a) ks = left a (below ks)

-- the kinds of an expression's operands come first
abbrev pub IsNoted : Scope → Expr → List Kind → Type 0
IsNoted s (num p n) ks = Unit {0}
IsNoted s (flag p b) ks = Unit {0}
IsNoted s (path p x) ks = Unit {0}
IsNoted s (valid p x) ks = Unit {0}
IsNoted s (applied p t h) ks = Unit {0}
IsNoted s (error_name p x) ks = Unit {0}
IsNoted s (negation p a) ks = IsNoted s a ks
IsNoted s (inversion p a) ks = (top ks ≡ own s a) × IsNoted s a (below ks)
IsNoted s (opposite p a) ks = (top ks ≡ own s a) × IsNoted s a (below ks)
IsNoted s (binary p op a b) ks = (top ks ≡ own s a) × (top (below ks) ≡ own s b) × IsNoted s a (below (below ks)) × IsNoted s b (left a (below (below ks)))
IsNoted s (conditional p c a b) ks = (top ks ≡ own s a) × (top (below ks) ≡ own s b) × IsNoted s c (below (below ks)) × IsNoted s a (left c (below (below ks))) × IsNoted s b (left a (left c (below (below ks))))
IsNoted s (slice p a h l) ks = (top ks ≡ own s a) × IsNoted s a (below ks)
IsNoted s (cast p t a) ks = (top ks ≡ own s a) × IsNoted s a (below ks)
