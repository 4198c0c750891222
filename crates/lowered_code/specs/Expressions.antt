-- Expressions of flat code in P4. What has to be read by statements of its own, a sensor or a control variable, is read
-- before and stands in a variable. Read `Same` and `Environment` before it.
use Rattle.std.specs.Prelude.{codes, ℕ, suc, ◌+◌, List, [], ◌∷◌, Bool, false, ◌&&◌, ◌||◌, Option, Some, None, if◌then◌else◌, nat_eq}
use Rattle.bit_values.specs.Widths.{bit}
use Rattle.lex_text.specs.Names.{same_text}
use Rattle.indus_tree.specs.Tree.{Expr, Exprs, num, flag, read, count, index, member, negation, inversion, binary, cast, none, more, Shape, one, list, set, dict, Decl}
use Rattle.indus_tree.specs.State.{lookup}
use Rattle.indus_tree.specs.declared.tree.DeclKind.{DeclKind}
use Rattle.indus_tree.specs.declared.tree.DeclKind.TheVariants.{Tele, Sensor, Header, Control}
use Rattle.indus_tree.specs.declared.tree.Ty.{Ty}
use Rattle.indus_tree.specs.declared.tree.Ty.TheVariants as ty
use Rattle.indus_tree.specs.declared.tree.Op as indus_op
use Rattle.indus_tree.specs.declared.tree.Op.TheVariants as op
use Rattle.p4_tree.specs.Tree as p4
use Rattle.p4_tree.specs.declared.statement.PTy.{PTy}
use Rattle.p4_tree.specs.declared.statement.PTy.TheVariants as type
use Rattle.p4_tree.specs.declared.statement.Op as p4_op
use Rattle.p4_tree.specs.declared.statement.Op.TheVariants as p4o
use Rattle.monitor_laws.specs.Names.{first_name, last_name}
use Rattle.monitor_laws.specs.Trees.{number}
use Rattle.lookup_names.specs.Names.{found_name}
use Rattle.lookup_names.specs.Keys.{variable}
use Rattle.lowered_code.specs.Same.{same_expr}
use Rattle.lowered_code.specs.Environment.{Environment, tele_path}

-- the same operator in P4
abbrev pub lowered_op : indus_op.Op → p4_op.Op
lowered_op op.Mul = p4o.Mul
lowered_op op.Add = p4o.Add
lowered_op op.Sub = p4o.Sub
lowered_op op.Shl = p4o.Shl
lowered_op op.Shr = p4o.Shr
lowered_op op.BitAnd = p4o.BitAnd
lowered_op op.BitXor = p4o.BitXor
lowered_op op.BitOr = p4o.BitOr
lowered_op op.Less = p4o.Less
lowered_op op.LessEq = p4o.LessEq
lowered_op op.More = p4o.More
lowered_op op.MoreEq = p4o.MoreEq
lowered_op op.Equal = p4o.Equal
lowered_op op.Differ = p4o.Differ
lowered_op op.Both = p4o.Both
lowered_op op.Either = p4o.Either

-- ---- types

-- the type of one value of a shape
abbrev pub value_type : Shape → Ty
value_type (one t) = t
value_type (list t n) = t
value_type (set ks) = ty.Bool
value_type (dict ks t) = t

-- fields, cells and variables hold bits: a truth value is one
abbrev pub bits_type : Ty → PTy
bits_type (ty.Bit w) = type.Bit w
bits_type ty.Bool = type.Bit 1

-- bits as a value of a type, and a value of a type as bits
abbrev pub of_bits : Ty → p4.Expr → p4.Expr
of_bits (ty.Bit w) e = e
of_bits ty.Bool e = p4.cast 0 type.Bool e

-- a truth value as one bit: a written one is written so, and what is bits that are read as a truth value is these bits
abbrev pub as_bit : p4.Expr → p4.Expr
as_bit (p4.flag p b) = number 1 (bit b).value
as_bit (p4.cast p type.Bool (p4.path q x)) = p4.path q x
as_bit e = p4.cast 0 (type.Bit 1) e

abbrev pub to_bits : Ty → p4.Expr → p4.Expr
to_bits (ty.Bit w) e = e
to_bits ty.Bool e = as_bit e

-- the declaration of what an expression reads, where it reads a variable
abbrev pub read_decl : List Decl → Expr → Option Decl
read_decl ds (read p x) = lookup ds x
read_decl ds (index p x ks) = lookup ds x
read_decl ds (member p ks x) = lookup ds x
read_decl ds _ = None

-- ---- what is read before a statement, one behind the other

abbrev pub is_in : List Expr → Expr → Bool
is_in [] e = false
is_in (f ∷ fs) e = same_expr f e || is_in fs e

-- the place of the first that is the same
abbrev pub place_in : List Expr → Expr → ℕ
place_in [] e = 0
place_in (f ∷ fs) e = if same_expr f e then 0 else suc (place_in fs e)

-- ---- expressions

abbrev pub built_in : Environment → List ℕ → p4.Expr
built_in a x =
    if same_text x (codes "first_hop") then variable first_name
    else if same_text x (codes "last_hop") then variable last_name
    else a.switch

-- base: the number of the first of what is read before
module _ (a : Environment) (ds : List Decl) (base : ℕ) (before : List Expr) where
  -- the variable of what was read before
  abbrev pub found : Expr → Ty → p4.Expr
  found e t = of_bits t (variable (found_name (base + place_in before e)))

  abbrev pub name_by_kind : DeclKind → Expr → List ℕ → Decl → p4.Expr
  name_by_kind Tele e x d = of_bits (value_type d.shape) (p4.path 0 (tele_path a x))
  name_by_kind Sensor e x d = found e (value_type d.shape)
  name_by_kind Header e x d = a.view d
  name_by_kind Control e x d = found e (value_type d.shape)

  abbrev pub name_for : Option Decl → Expr → List ℕ → p4.Expr
  name_for None e x = built_in a x
  name_for (Some d) e x = name_by_kind d.kind e x d

  abbrev pub found_for : Option Decl → Expr → p4.Expr
  found_for None e = p4.flag 0 false
  found_for (Some d) e = found e (value_type d.shape)

  abbrev mutual
    -- flat code has no counts of lists
    pub lowered : Expr → p4.Expr
    lowered (num p n) = p4.num 0 n
    lowered (flag p b) = p4.flag 0 b
    lowered (read p x) = name_for (lookup ds x) (read p x) x
    lowered (count p x) = p4.flag 0 false
    lowered (index p x ks) = found_for (lookup ds x) (index p x ks)
    lowered (member p ks x) = found_for (lookup ds x) (member p ks x)
    lowered (negation p e) = p4.negation 0 (lowered e)
    lowered (inversion p e) = p4.inversion 0 (lowered e)
    lowered (binary p o e f) = p4.binary 0 (lowered_op o) (lowered e) (lowered f)
    lowered (cast p w e) = p4.cast 0 (type.Bit w) (lowered e)

    pub lowered_all : Exprs → List p4.Expr
    lowered_all none = []
    lowered_all (more e es) = lowered e ∷ lowered_all es

-- the expression has no width of its own
abbrev pub is_bare : Expr → Bool
is_bare (num p n) = nat_eq n.width 0
is_bare (inversion p a) = is_bare a
is_bare (binary p op.Mul a b) = is_bare a && is_bare b
is_bare (binary p op.Add a b) = is_bare a && is_bare b
is_bare (binary p op.Sub a b) = is_bare a && is_bare b
is_bare (binary p op.BitAnd a b) = is_bare a && is_bare b
is_bare (binary p op.BitXor a b) = is_bare a && is_bare b
is_bare (binary p op.BitOr a b) = is_bare a && is_bare b
is_bare (binary p op.Shl a b) = is_bare a
is_bare (binary p op.Shr a b) = is_bare a
is_bare _ = false

-- an index, which is compared with the size of an array, in 128 bits
abbrev pub as_index : Expr → p4.Expr → p4.Expr
as_index e i = if is_bare e then i else p4.cast 0 (type.Bit 128) i
