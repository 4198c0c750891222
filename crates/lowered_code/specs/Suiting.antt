-- What is asked of flat code that is lowered. It follows from the rules of types: names are used as what they stand for, keys
-- have as many parts as their types, and what has no width of its own has one from its place. Read `Expressions` before it.
use Rattle.std.specs.Prelude.{◌≡◌, codes, ℕ, ◌≤◌, ◌<◌, ◌^◌, List, [], ◌∷◌, length, Bool, true, false, Option, Some, None, MatchBool}
use Rattle.bit_values.specs.Widths.{either_width, sound_width}
use Rattle.lex_text.specs.Names.{same_text}
use Rattle.network_run.specs.PathMeaning.{Doing}
use Rattle.indus_tree.specs.Tree as indus
use Rattle.indus_tree.specs.Tree.{Expr, Exprs, num, flag, read, count, index, member, negation, inversion, binary, cast, none, more, exprs_count, Shape, one, list, set, dict, Decl}
use Rattle.indus_tree.specs.State.{Hop, Held, lookup, width_of}
use Rattle.indus_tree.specs.Reads.{Seen}
use Rattle.indus_tree.specs.Shapes.{AreShaped}
use Rattle.indus_tree.specs.Meaning.{seen_by}
use Rattle.indus_tree.specs.Value.{own_width, value_of}
use Rattle.indus_tree.specs.declared.tree.DeclKind.{DeclKind}
use Rattle.indus_tree.specs.declared.tree.DeclKind.TheVariants.{Tele, Sensor, Header, Control}
use Rattle.indus_tree.specs.declared.tree.Ty.{Ty}
use Rattle.indus_tree.specs.declared.tree.Ty.TheVariants as ty
use Rattle.lowered_code.specs.Expressions.{value_type, is_bare}

-- ---- names and types

-- a name of the language's own; the entry part has no flags
abbrev pub IsBuiltIn : (exits : Bool) → List ℕ → Type 0
IsBuiltIn exits x =
    MatchBool (same_text x (codes "first_hop")) (exits ≡ true) (MatchBool (same_text x (codes "last_hop")) (exits ≡ true) (same_text x (codes "switch_id") ≡ true))

abbrev pub IsScalar : Shape → Type 0
IsScalar (one t) = Unit {0}
IsScalar (list t n) = ⊥
IsScalar (set ks) = ⊥
IsScalar (dict ks t) = ⊥

-- the type has a width that a value can have
abbrev pub IsSound : Ty → Type 0
IsSound t = sound_width (width_of t) ≡ width_of t

-- ---- values, of what is seen

-- the value has the width of the expression's own, or else that of its place
abbrev pub HasPlace : Seen → Expr → Type 0
HasPlace v e = (w : ℕ) → (value_of v e w).width ≡ sound_width (either_width (own_width v e) w)

-- an expression of a type: its own width is the type's, and a number may have none
abbrev pub IsOfType : Seen → Ty → Expr → Type 0
IsOfType v (ty.Bit w) e = either_width (own_width v e) w ≡ w
IsOfType v ty.Bool e = own_width v e ≡ 1

-- an index: what is not bare has a width of its own
pub record IsIndex (v : Seen) (e : Expr) : Type 0 where
  pub place : HasPlace v e
  pub own : is_bare e ≡ false → 1 ≤ own_width v e

-- ---- expressions

module _ (exits : Bool) (v : Seen) where
  -- as many parts as types, each of its type
  abbrev pub PartsFit : List Ty → Exprs → Type 0
  PartsFit [] none = Unit {0}
  PartsFit [] (more e es) = ⊥
  PartsFit (t ∷ ts) none = ⊥
  PartsFit (t ∷ ts) (more e es) = IsOfType v t e × IsSound t × PartsFit ts es

  abbrev pub OneIndex : Exprs → Type 0
  OneIndex none = ⊥
  OneIndex (more e none) = IsIndex v e
  OneIndex (more e (more f es)) = ⊥

  abbrev pub SuitsName : Option Decl → List ℕ → Type 0
  SuitsName None x = IsBuiltIn exits x
  SuitsName (Some c) x = IsScalar c.shape

  abbrev pub ShapeIndexed : DeclKind → Shape → Exprs → Type 0
  ShapeIndexed Sensor (list t n) ks = OneIndex ks × (n < 2 ^ 128)
  ShapeIndexed Control (dict ts t) ks = PartsFit ts ks × (length ts < 2 ^ 64)
  ShapeIndexed k s ks = ⊥

  abbrev pub ShapeHolds : DeclKind → Shape → Exprs → Type 0
  ShapeHolds Control (set ts) ks = PartsFit ts ks × (length ts < 2 ^ 64)
  ShapeHolds k s ks = ⊥

  abbrev pub SuitsIndex : Option Decl → Exprs → Type 0
  SuitsIndex None ks = ⊥
  SuitsIndex (Some c) ks = ShapeIndexed c.kind c.shape ks

  abbrev pub SuitsMember : Option Decl → Exprs → Type 0
  SuitsMember None ks = ⊥
  SuitsMember (Some c) ks = ShapeHolds c.kind c.shape ks

  abbrev mutual
    pub Suits : Expr → Type 0
    Suits (num p n) = Unit {0}
    Suits (flag p b) = Unit {0}
    Suits (read p x) = SuitsName (lookup v.hop.decls x) x
    Suits (count p x) = ⊥
    Suits (index p x ks) = SuitsIndex (lookup v.hop.decls x) ks × AllSuit ks
    Suits (member p ks x) = SuitsMember (lookup v.hop.decls x) ks × AllSuit ks
    Suits (negation p e) = Suits e
    Suits (inversion p e) = HasPlace v e × Suits e
    Suits (binary p o e f) = Suits e × Suits f
    Suits (cast p w e) = Suits e

    pub AllSuit : Exprs → Type 0
    AllSuit none = Unit {0}
    AllSuit (more e es) = Suits e × AllSuit es

-- ---- statements

module _ (h : Hop) (exits : Bool) where
  -- it holds in each state that keeps to the declarations
  abbrev pub Always : (Seen → Type 0) → Type 0
  Always P = (d : Doing Held Held) → AreShaped h.decls d → P (seen_by h [] d)

  abbrev pub KindSuits : DeclKind → Decl → Expr → Type 0
  KindSuits Tele c e = IsScalar c.shape × Always (λ v. IsOfType v (value_type c.shape) e)
  KindSuits Sensor c e = IsScalar c.shape × Always (λ v. IsOfType v (value_type c.shape) e)
  KindSuits Header c e = ⊥
  KindSuits Control c e = ⊥

  abbrev pub TargetSuits : Option Decl → Expr → Type 0
  TargetSuits None e = ⊥
  TargetSuits (Some c) e = KindSuits c.kind c e

  abbrev pub ArraySuits : Option Decl → Expr → Type 0
  ArraySuits None e = ⊥
  ArraySuits (Some c) e = (c.kind ≡ Sensor) × Always (λ v. IsOfType v (value_type c.shape) e)

  abbrev mutual
    -- flat code has no pushes and no loops
    pub StmtSuits : indus.Stmt → Type 0
    StmtSuits (indus.assign p x e) = Always (λ v. Suits exits v e) × TargetSuits (lookup h.decls x) e
    StmtSuits (indus.cell p x i e) = Always (λ v. Suits exits v i) × Always (λ v. Suits exits v e) × ArraySuits (lookup h.decls x) e
    StmtSuits (indus.push p x e) = ⊥
    StmtSuits (indus.choice p t x y) = Always (λ v. Suits exits v t) × BlockSuits x × BlockSuits y
    StmtSuits (indus.loop p xs ls x) = ⊥
    StmtSuits (indus.reject p) = exits ≡ true
    StmtSuits (indus.report p n es) = Always (λ v. AllSuit exits v es) × (n < 2 ^ 16) × (exprs_count es ≤ 8)

    pub BlockSuits : indus.Stmts → Type 0
    BlockSuits indus.done = Unit {0}
    BlockSuits (indus.next s ss) = StmtSuits s × BlockSuits ss
