-- What is read before a statement: each sensor and each control variable that its expressions read, a key's parts before
-- what they are the key of, and what is read twice once. Read `Expressions` before it and `Statements` after it.
use Rattle.std.specs.Prelude.{codes, ℕ, suc, List, [], ◌∷◌, ◌++◌, Option, Some, None, if◌then◌else◌, nat_eq}
use Rattle.indus_tree.specs.Tree.{Expr, Exprs, num, flag, read, count, index, member, negation, inversion, binary, cast, none, more, Shape, one, list, set, dict, Decl}
use Rattle.indus_tree.specs.State.{lookup, shape_width, width_of}
use Rattle.indus_tree.specs.Start.{start_word}
use Rattle.indus_tree.specs.declared.tree.DeclKind.{DeclKind}
use Rattle.indus_tree.specs.declared.tree.DeclKind.TheVariants.{Tele, Sensor, Header, Control}
use Rattle.indus_tree.specs.declared.tree.Ty.{Ty}
use Rattle.p4_tree.specs.Tree as p4
use Rattle.p4_tree.specs.Tree.{Stmt, Stmts, done, next, and_then}
use Rattle.p4_tree.specs.declared.statement.Op.TheVariants as p4o
use Rattle.monitor_laws.specs.Trees.{number, only_if}
use Rattle.lookup_names.specs.Names.{found_name, key_name}
use Rattle.lookup_names.specs.Keys.{key_types, variable}
use Rattle.lowered_code.specs.Names.{sensor_name}
use Rattle.lowered_code.specs.Environment.{Environment}
use Rattle.lowered_code.specs.Expressions.{to_bits, read_decl, is_in, lowered, as_index}

-- ---- which reads there are, behind others

abbrev pub with_read : List Expr → Expr → List Expr
with_read l e = if is_in l e then l else l ++ e ∷ []

abbrev pub reads_by_kind : DeclKind → Expr → List Expr → List Expr
reads_by_kind Tele e l = l
reads_by_kind Sensor e l = with_read l e
reads_by_kind Header e l = l
reads_by_kind Control e l = with_read l e

abbrev pub name_reads : Option Decl → Expr → List Expr → List Expr
name_reads None e l = l
name_reads (Some d) e l = reads_by_kind d.kind e l

module _ (ds : List Decl) where
  abbrev mutual
    pub reads : Expr → (before : List Expr) → List Expr
    reads (num p n) l = l
    reads (flag p b) l = l
    reads (read p x) l = name_reads (lookup ds x) (read p x) l
    reads (count p x) l = l
    reads (index p x ks) l = with_read (all_reads ks l) (index p x ks)
    reads (member p ks x) l = with_read (all_reads ks l) (member p ks x)
    reads (negation p e) l = reads e l
    reads (inversion p e) l = reads e l
    reads (binary p o e f) l = reads f (reads e l)
    reads (cast p w e) l = reads e l

    pub all_reads : Exprs → (before : List Expr) → List Expr
    all_reads none l = l
    all_reads (more e es) l = all_reads es (reads e l)

-- ---- one read, which has a number

-- 0 stands in the variable
abbrev pub clear : (n w : ℕ) → Stmt
clear n w = p4.assign 0 (found_name n ∷ []) (number w 0)

-- it does before a lookup that may miss, which leaves it there; the table of a scalar has no miss, and always writes it
abbrev pub cleared : (n : ℕ) → Shape → Stmts
cleared n (one t) = done
cleared n (list t size) = done
cleared n (set ts) = next (clear n 1) done
cleared n (dict ts t) = next (clear n (width_of t)) done

-- a cell of a sensor's register stands in it
abbrev pub take_cell : (n : ℕ) → List ℕ → p4.Expr → Stmt
take_cell n x i = p4.call 0 (sensor_name x ∷ codes "read" ∷ []) (p4.one 0 (variable (found_name n)) ∷ p4.one 0 i ∷ [])

abbrev pub start_of : Decl → ℕ
start_of d = (start_word d.start (shape_width d.shape)).value

-- a cell holds the sensor's value xor the initial one, which is not written where it is 0
abbrev pub turned : (start w : ℕ) → p4.Expr → p4.Expr
turned start w e = if nat_eq start 0 then e else p4.binary 0 p4o.BitXor e (number w start)

abbrev pub turn : (n w start : ℕ) → Stmts
turn n w start = if nat_eq start 0 then done else next (p4.assign 0 (found_name n ∷ []) (turned start w (variable (found_name n)))) done

abbrev pub take_sensor : (n : ℕ) → Decl → p4.Expr → Stmts
take_sensor n d i = next (take_cell n d.name i) (turn n (shape_width d.shape) (start_of d))

abbrev pub keys_of : Expr → Exprs
keys_of (index p x ks) = ks
keys_of (member p ks x) = ks
keys_of _ = none

module _ (a : Environment) (ds : List Decl) (base : ℕ) where
  abbrev pub apply : (n : ℕ) → Stmt
  apply n = p4.call 0 (a.table n ∷ codes "apply" ∷ []) []

  -- the parts of a key, from the i-th on, stand in variables
  abbrev pub keyed : List Expr → (n i : ℕ) → List Ty → Exprs → Stmts → Stmts
  keyed l n i [] ks rest = rest
  keyed l n i (t ∷ ts) none rest = rest
  keyed l n i (t ∷ ts) (more e es) rest = next (p4.assign 0 (key_name n i ∷ []) (to_bits t (lowered a ds base l e))) (keyed l n (suc i) ts es rest)

  -- an array is read where the index is below its size, and elsewhere there is 0
  abbrev pub read_array : List Expr → (n : ℕ) → Decl → (size : ℕ) → Exprs → Stmts
  read_array l n d size none = done
  read_array l n d size (more e es) =
      next (clear n (shape_width d.shape))
      (next (p4.assign 0 (key_name n 0 ∷ []) (as_index e (lowered a ds base l e)))
      (next (only_if (p4.binary 0 p4o.Less (variable (key_name n 0)) (number 128 size)) (take_sensor n d (variable (key_name n 0))))
      done))

  abbrev pub read_sensor : List Expr → (n : ℕ) → Decl → Shape → Exprs → Stmts
  read_sensor l n d (one t) ks = take_sensor n d (number 1 0)
  read_sensor l n d (list t size) ks = read_array l n d size ks
  read_sensor l n d (set ts) ks = done
  read_sensor l n d (dict ts t) ks = done

  abbrev pub read_control : List Expr → (n : ℕ) → Decl → Exprs → Stmts
  read_control l n d ks = and_then (cleared n d.shape) (keyed l n 0 (key_types d.shape) ks (next (apply n) done))

  abbrev pub read_kind : DeclKind → List Expr → (n : ℕ) → Decl → Exprs → Stmts
  read_kind Tele l n d ks = done
  read_kind Sensor l n d ks = read_sensor l n d d.shape ks
  read_kind Header l n d ks = done
  read_kind Control l n d ks = read_control l n d ks

  abbrev pub read_stmts : Option Decl → List Expr → (n : ℕ) → Exprs → Stmts
  read_stmts None l n ks = done
  read_stmts (Some d) l n ks = read_kind d.kind l n d ks

  -- reads behind others, the first of which has the number n
  abbrev pub reads_stmts : (before : List Expr) (n : ℕ) → List Expr → Stmts
  reads_stmts l n [] = done
  reads_stmts l n (e ∷ es) = and_then (read_stmts (read_decl ds e) l n (keys_of e)) (reads_stmts (l ++ e ∷ []) (suc n) es)
