-- Packets and switches that fit a property's declarations, and what then holds of a fine expression: the width that
-- the meaning finds is the one that the rules gave.
use Rattle.std.specs.Prelude.{◌≡◌, ℕ, List, false, true}
use Rattle.indus_tree.specs.Tree.{Expr}
use Rattle.indus_tree.specs.Reads.{Seen, name_word}
use Rattle.indus_tree.specs.Value.{own_width}
use Rattle.indus_scopes.specs.Scopes.{Sight, role_of, read_kind, own}
use Rattle.indus_scopes.specs.Uses.{is_missing, reads}
use Rattle.indus_rules.specs.Sites.{expr_sites}
use Rattle.indus_rules.specs.Rules.{Fine}
use Rattle.indus_scopes.specs.declared.kind.Kind.{Kind}
use Rattle.indus_scopes.specs.declared.kind.Kind.TheVariants.{Number, Truth, Unknown}

-- the bits of a value of a kind; a truth value is one bit
abbrev pub kind_width : Kind → ℕ
kind_width (Number w) = w
kind_width Truth = 1
kind_width Unknown = 0

-- each name that can be read has a word of its declared width
pub record Fits (g : Sight) (s : Seen) : Type 0 where
  pub decls : s.hop.decls ≡ g.decls
  pub names : (x : List ℕ) → is_missing (role_of g x) ≡ false → reads (role_of g x) ≡ true → (name_word s x).width ≡ kind_width (read_kind (role_of g x))

-- of a fine expression the width that the meaning finds is the static one
abbrev pub KnowsWidths : Type 0
KnowsWidths = (g : Sight) (s : Seen) → Fits g s → (e : Expr) (want : Kind) → Fine (expr_sites g want e) → own_width s e ≡ kind_width (own g e)
