-- The test of a lowered `if` applies no table, and an `else` of nothing is none.
use Rattle.std.proofs.Common.{◌≡◌, codes, ℕ, List, Bool, true, false, cond, not, Option, Some, None, refl, ap}
use Rattle.std.specs.Option.{option_map}
use Rattle.bit_values.specs.Bits.{cast as cast_number}
use Rattle.lex_text.specs.Names.{same_text, parent}
use Rattle.p4_tree.specs.Tree as p4
use Rattle.p4_tree.specs.Tree.{Stmts, done, next}
use Rattle.p4_meaning.specs.Statements.{Run, application, Calls, meaning_of_else, meaning_of}
use Rattle.indus_tree.specs.Tree as indus
use Rattle.indus_tree.specs.Tree.{Expr, Decl}
use Rattle.indus_tree.specs.State.{lookup}
use Rattle.indus_tree.specs.declared.tree.DeclKind.{DeclKind}
use Rattle.indus_tree.specs.declared.tree.DeclKind.TheVariants.{Tele, Sensor, Header, Control}
use Rattle.indus_tree.specs.declared.tree.Ty.{Ty}
use Rattle.indus_tree.specs.declared.tree.Ty.TheVariants as ty
use Rattle.monitor_laws.specs.Names.{first_name, last_name}
use Rattle.monitor_laws.specs.Trees.{number}
use Rattle.lookup_names.specs.Keys.{variable}
use Rattle.lowered_code.specs.Environment.{view_of, on_switch}
use Rattle.lowered_code.specs.Expressions.{value_type, of_bits, built_in, name_by_kind, name_for, found_for, lowered}
use Rattle.lowered_code.specs.Statements.{maybe_else}

bits_apply : (t : Ty) (p : List (List ℕ)) → application (of_bits t (p4.path 0 p)) ≡ None
bits_apply (ty.Bit w) p = refl
bits_apply ty.Bool p = refl

view_applies : (c : Decl) → application (view_of c) ≡ None
view_applies c = go c.valid
  where
    go : (t : Bool) → application (cond t (p4.valid 0 (parent c.path)) (p4.path 0 c.path)) ≡ None
    go true = refl
    go false = refl

module _ (switch : ℕ) (control : List ℕ) (ds : List Decl) (base : ℕ) (before : List Expr) where
  built_in_applies : (x : List ℕ) → application (built_in (on_switch switch control) x) ≡ None
  built_in_applies x = go (same_text x (codes "first_hop")) (same_text x (codes "last_hop"))
    where
      go : (t u : Bool) → application (cond t (variable first_name) (cond u (variable last_name) (number 16 (cast_number 16 switch)))) ≡ None
      go true u = refl
      go false true = refl
      go false false = refl

  kind_applies : (k : DeclKind) (e : Expr) (x : List ℕ) (c : Decl) → application (name_by_kind (on_switch switch control) ds base before k e x c) ≡ None
  kind_applies Tele e x c = bits_apply (value_type c.shape) _
  kind_applies Sensor e x c = bits_apply (value_type c.shape) _
  kind_applies Header e x c = view_applies c
  kind_applies Control e x c = bits_apply (value_type c.shape) _

  name_applies : (o : Option Decl) (e : Expr) (x : List ℕ) → application (name_for (on_switch switch control) ds base before o e x) ≡ None
  name_applies None e x = built_in_applies x
  name_applies (Some c) e x = kind_applies c.kind e x c

  found_applies : (o : Option Decl) (e : Expr) → application (found_for (on_switch switch control) ds base before o e) ≡ None
  found_applies None e = refl
  found_applies (Some c) e = bits_apply (value_type c.shape) _

  pub applies_none : (e : Expr) → application (lowered (on_switch switch control) ds base before e) ≡ None
  applies_none (indus.num p n) = refl
  applies_none (indus.flag p b) = refl
  applies_none (indus.read p x) = name_applies (lookup ds x) (indus.read p x) x
  applies_none (indus.count p x) = refl
  applies_none (indus.index p x ks) = found_applies (lookup ds x) (indus.index p x ks)
  applies_none (indus.member p ks x) = found_applies (lookup ds x) (indus.member p ks x)
  applies_none (indus.negation p e) = ap (λ (o : Option (List ℕ × Bool)). option_map (λ t. (t.0, not t.1)) o) (applies_none e)
  applies_none (indus.inversion p e) = refl
  applies_none (indus.binary p o e f) = refl
  applies_none (indus.cast p w e) = refl

pub else_runs : (calls : Calls) (ss : Stmts) (q : Run) → meaning_of_else calls (maybe_else ss) q ≡ meaning_of calls ss q
else_runs calls done q = refl
else_runs calls (next s ss) q = refl
