-- Layers where nothing is declared.
use Rattle.std.proofs.Common.{◌≡◌, ◌++◌, None, ap₂}
use Rattle.p4_meaning.specs.Scope.{Scope}
use Rattle.p4_meaning.specs.Under.{no_scope}
use Rattle.p4_resolved.specs.Scopes.{at_part, at_top}
use Rattle.p4_resolved.specs.declared.layer.Layer.{Layer}

-- one scope in another
abbrev inside : (part top : Scope) → Scope
inside a b = record { roots = a.roots; control = a.control; own = a.own; constants = a.constants ++ b.constants; types = a.types ++ b.types; inner = None }

pub outside_twice : (t l : Layer) → at_top t ≡ no_scope → at_top l ≡ no_scope → at_part t l ≡ no_scope
outside_twice t l ht hl = ap₂ inside hl ht
