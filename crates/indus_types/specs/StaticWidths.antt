-- The static width of an expression at its place, and that the expression's value has it. Read `Fits` before it.
use Rattle.std.specs.Prelude.{◌≡◌, ℕ, ◌≤◌, List, [], ◌++◌, map, All, Option, Some, None}
use Rattle.bit_values.specs.Bits.{Word}
use Rattle.bit_values.specs.Widths.{either_width}
use Rattle.rule_sites.specs.Sites.{Sites, nowhere, here, both}
use Rattle.indus_tree.specs.Tree.{Expr, inversion, binary, cast, Stmts, assign, cell, push, loop, Decl, Property}
use Rattle.network_run.specs.PathMeaning.{Doing}
use Rattle.indus_tree.specs.State.{Contents, single, members, pairs, Hop, Held, lookup, width_of, shape_width, held_width}
use Rattle.indus_tree.specs.declared.tree.Ty.{Ty}
use Rattle.bit_values.specs.Operators.{left_place, right_place}
use Rattle.indus_tree.specs.Operators.{class_of}
use Rattle.indus_tree.specs.declared.tree.Op.{Op}
use Rattle.indus_tree.specs.Reads.{Seen, item_in}
use Rattle.indus_tree.specs.Value.{own_width, value_of}
use Rattle.indus_tree.specs.Meaning.{seen_by, named, turns_of}
use Rattle.indus_tree.specs.Shapes.{HasWidth, AreShaped}
use Rattle.indus_tree.specs.declared.tree.DeclKind.TheVariants.{Tele, Sensor, Header, Control}
use Rattle.indus_scopes.specs.Kinds.{kind_of, join, as_number, left_want, right_want}
use Rattle.indus_scopes.specs.Scopes.{Sight, role_of, read_kind, index_kind, item_of, builtin_of, own}
use Rattle.indus_rules.specs.Sites.{Site, at_expr, at_stmt, at_decl, at_edition, push_want, expr_sites, stmt_sites, property_sites, sight}
use Rattle.indus_scopes.specs.Items.{within}
use Rattle.indus_rules.specs.Rules.{Fine, IsWellTyped}
use Rattle.indus_scopes.specs.declared.kind.Kind.{Kind}
use Rattle.indus_scopes.specs.declared.kind.Kind.TheVariants.{Number}
use Rattle.indus_scopes.specs.declared.scope.Block.{Block}
use Rattle.indus_types.specs.Fits.{kind_width, Fits}

-- the static width of an expression: its own where the rules give it one, and that of its place where they give none
abbrev pub static_width : Sight → (want : Kind) → Expr → ℕ
static_width g want e = either_width (kind_width (own g e)) (kind_width want)

-- ---- sights with sound widths

-- a width that a value can have
pub record IsWidth (w : ℕ) : Type 0 where
  pub least : 1 ≤ w
  pub most : w ≤ 128

-- the values of declared variables and the items of the loops around have such widths, and no declared name is one of
-- the language's own
pub record IsSound (g : Sight) : Type 0 where
  pub decls : (x : List ℕ) (d : Decl) → lookup g.decls x ≡ Some d → IsWidth (shape_width d.shape)
  pub apart : (x : List ℕ) (d : Decl) → lookup g.decls x ≡ Some d → builtin_of x ≡ None
  pub items : (x : List ℕ) (k : Kind) → item_of g.decls g.loops x ≡ Some k → IsWidth (kind_width k)

-- what is in sight in a block of a well-typed property, and in a loop of such a block, has sound widths
pub record SightsAreSound : Type 0 where
  pub blocks : (p : Property) → IsWellTyped p → (b : Block) → IsSound (sight p b)
  pub loops : (g : Sight) → IsSound g → (p : ℕ) (ns ls : List (List ℕ)) (a : Stmts) → Fine (stmt_sites g (loop p ns ls a)) → IsSound (within g ns ls)

-- ---- packets and switches of the declared widths

-- the values of a control variable have the width
abbrev pub GiveWidth : ℕ → Contents → Type 0
GiveWidth w (single x) = HasWidth w x
GiveWidth w (members ks) = Unit {0}
GiveWidth w (pairs es) = All (λ (e : List Word × Word). HasWidth w e.1) es

-- a hop shows words of the declared widths
pub record ShowsDeclared (ds : List Decl) (h : Hop) : Type 0 where
  pub headers : (x : List ℕ) (d : Decl) → lookup ds x ≡ Some d → d.kind ≡ Header → HasWidth (shape_width d.shape) (h.headers x)
  pub contents : (x : List ℕ) (d : Decl) → lookup ds x ≡ Some d → d.kind ≡ Control → GiveWidth (shape_width d.shape) (h.contents x)

-- a name is an item here and there or in neither, and the item's word has the width of its list's items
abbrev pub IsItem : Option Kind → Option Word → Type 0
IsItem None None = Unit {0}
IsItem None (Some w) = ⊥
IsItem (Some k) None = ⊥
IsItem (Some k) (Some w) = HasWidth (kind_width k) w

-- what an expression sees has the declared widths
pub record SeesDeclared (g : Sight) (s : Seen) : Type 0 where
  pub decls : s.hop.decls ≡ g.decls
  pub hop : ShowsDeclared g.decls s.hop
  pub items : (x : List ℕ) → IsItem (item_of g.decls g.loops x) (item_in s.items x)
  pub tele : (x : List ℕ) (d : Decl) → lookup g.decls x ≡ Some d → d.kind ≡ Tele → All (HasWidth (shape_width d.shape)) (s.tele x)
  pub sensors : (x : List ℕ) (d : Decl) → lookup g.decls x ≡ Some d → d.kind ≡ Sensor → All (HasWidth (shape_width d.shape)) (s.sensors x)

-- the statements of a block see so where variables keep to their declarations, and those of a loop do in each turn
pub record SightsAreSeen : Type 0 where
  pub blocks : (p : Property) (b : Block) (h : Hop) (d : Doing Held Held) → h.decls ≡ p.decls → ShowsDeclared p.decls h → AreShaped p.decls d → SeesDeclared (sight p b) (seen_by h [] d)
  pub turns :
      (g : Sight) (h : Hop) (i : List (List ℕ × Word)) (d : Doing Held Held) → SeesDeclared g (seen_by h i d)
      → (p : ℕ) (ns ls : List (List ℕ)) (a : Stmts) → Fine (stmt_sites g (loop p ns ls a))
      → All (λ ws. (c : Doing Held Held) → AreShaped g.decls c → SeesDeclared (within g ns ls) (seen_by h (i ++ named ns ws) c)) (turns_of (map d.tele ls))
  -- and what they see fits their sight
  pub fits : (g : Sight) (s : Seen) → IsSound g → SeesDeclared g s → Fits g s

-- ---- values

-- the width that the meaning hands to an expression gives it the width that the wanted kind gives it. The width of the
-- wanted kind does; and where an expression has a width of its own each does
abbrev pub Serves : Sight → (want : Kind) → Expr → (w : ℕ) → Type 0
Serves g want e w = either_width (kind_width (own g e)) w ≡ static_width g want e

-- the static width can be a width, and the value has it
pub record HasStaticWidth (g : Sight) (want : Kind) (e : Expr) : Type 0 where
  pub sound : IsWidth (static_width g want e)
  pub wanted : (s : Seen) → SeesDeclared g s → (value_of s e (kind_width want)).width ≡ static_width g want e
  pub served : (s : Seen) → SeesDeclared g s → (w : ℕ) → Serves g want e w → (value_of s e w).width ≡ static_width g want e

-- P holds of each expression of some sites, with what is in sight and what is wanted there
abbrev pub EachExpr : (P : Sight → Kind → Expr → Type 0) → Sites Site → Type 0
EachExpr P nowhere = Unit {0}
EachExpr P (here (at_expr g want e)) = P g want e
EachExpr P (here (at_stmt g c)) = Unit {0}
EachExpr P (here (at_decl b d)) = Unit {0}
EachExpr P (here (at_edition p)) = Unit {0}
EachExpr P (both a b) = EachExpr P a × EachExpr P b

-- a fine expression has its static width, and so has each expression of a well-typed property
pub record ValuesHaveStaticWidths : Type 0 where
  pub fine : (g : Sight) → IsSound g → (want : Kind) (e : Expr) → Fine (expr_sites g want e) → HasStaticWidth g want e
  pub each : (p : Property) → IsWellTyped p → EachExpr HasStaticWidth (property_sites p)

-- ---- the widths that the meaning hands on

-- the width that the meaning hands to each part of a fine expression or statement serves what is wanted of the part. A
-- test's and a negation's place has 1 and a reported value's 0, as is wanted there, by definition
pub record PartsAreServed : Type 0 where
  pub left : (g : Sight) (s : Seen) → Fits g s → (want : Kind) (p : ℕ) (op : Op) (a b : Expr) → Fine (expr_sites g want (binary p op a b)) → (w : ℕ) → Serves g want (binary p op a b) w → Serves g (left_want op (own g a) (own g b) want) a (left_place (class_of op) (own_width s a) (own_width s b) w)
  pub right : (g : Sight) (s : Seen) → Fits g s → (want : Kind) (p : ℕ) (op : Op) (a b : Expr) → Fine (expr_sites g want (binary p op a b)) → (w : ℕ) → Serves g want (binary p op a b) w → Serves g (right_want op (own g a) (own g b) want) b (right_place (class_of op) (own_width s a) (own_width s b) w)
  pub turned : (g : Sight) (want : Kind) (p : ℕ) (a : Expr) → Fine (expr_sites g want (inversion p a)) → (w : ℕ) → Serves g want (inversion p a) w → Serves g (as_number (join (own g a) want)) a w
  pub cast_from : (g : Sight) (want : Kind) (p v : ℕ) (a : Expr) → Fine (expr_sites g want (cast p v a)) → Serves g (as_number (own g a)) a 0
  -- the width that a target is declared with is the one that is wanted of its value
  pub assigned : (g : Sight) (p : ℕ) (x : List ℕ) (e : Expr) → Fine (stmt_sites g (assign p x e)) → held_width (lookup g.decls x) ≡ kind_width (read_kind (role_of g x))
  pub cell_value : (g : Sight) (p : ℕ) (x : List ℕ) (i e : Expr) → Fine (stmt_sites g (cell p x i e)) → held_width (lookup g.decls x) ≡ kind_width (index_kind (role_of g x))
  pub pushed : (g : Sight) (p : ℕ) (x : List ℕ) (e : Expr) → Fine (stmt_sites g (push p x e)) → held_width (lookup g.decls x) ≡ kind_width (push_want (role_of g x))
  -- and so is that of a part of a key
  pub key : (t : Ty) → width_of t ≡ kind_width (kind_of t)
  -- an index has a place of any width
  pub index : (g : Sight) (s : Seen) → Fits g s → (e : Expr) → Fine (expr_sites g (as_number (join (own g e) (Number 128))) e) → Serves g (as_number (join (own g e) (Number 128))) e (either_width (own_width s e) 128)
