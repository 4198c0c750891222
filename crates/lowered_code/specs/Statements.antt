-- Statements of flat code in P4. Each has a number from which on it numbers what it reads. Read `Reads` before it.
use Rattle.std.specs.Prelude.{codes, ℕ, suc, ◌+◌, List, [], ◌∷◌, ◌++◌, length, true, Option, Some, None}
use Rattle.indus_tree.specs.Tree as indus
use Rattle.indus_tree.specs.Tree.{Expr, Shape, one, list, set, dict, Decl}
use Rattle.indus_tree.specs.State.{lookup, shape_width}
use Rattle.indus_tree.specs.declared.tree.DeclKind.{DeclKind}
use Rattle.indus_tree.specs.declared.tree.DeclKind.TheVariants.{Tele, Sensor, Header, Control}
use Rattle.indus_tree.specs.declared.tree.Ty.{Ty}
use Rattle.indus_tree.specs.declared.tree.Ty.TheVariants as ty
use Rattle.linkage.specs.Linkage.{report_receiver}
use Rattle.p4_tree.specs.Tree as p4
use Rattle.p4_tree.specs.Tree.{Stmt, Stmts, MaybeStmt, done, next, and_then, without, otherwise}
use Rattle.p4_tree.specs.declared.statement.PTy.{PTy}
use Rattle.monitor_laws.specs.Names.{rejected_name}
use Rattle.monitor_laws.specs.Trees.{number}
use Rattle.lookup_names.specs.Names.{found_name, key_name}
use Rattle.lookup_names.specs.Keys.{key_types}
use Rattle.lowered_code.specs.Names.{sensor_name}
use Rattle.lowered_code.specs.Environment.{Environment, tele_path}
use Rattle.lowered_code.specs.Expressions.{value_type, bits_type, to_bits, read_decl, lowered, lowered_all}
use Rattle.lowered_code.specs.Reads.{start_of, turned, reads, all_reads, reads_stmts}

-- ---- writes

-- a cell of a sensor is given a value
abbrev pub put_sensor : Decl → (index value : p4.Expr) → Stmts
put_sensor d i v =
    next
    (p4.call 0 (sensor_name d.name ∷ codes "write" ∷ [])
    (p4.one 0 i ∷ p4.one 0 (turned (start_of d) (shape_width d.shape) (to_bits (value_type d.shape) v)) ∷ []))
    done

abbrev pub set_kind : Environment → DeclKind → Decl → List ℕ → p4.Expr → Stmts
set_kind a Tele d x v = next (p4.assign 0 (tele_path a x) (to_bits (value_type d.shape) v)) done
set_kind a Sensor d x v = put_sensor d (number 1 0) v
set_kind a Header d x v = done
set_kind a Control d x v = done

abbrev pub set_name : Environment → Option Decl → List ℕ → p4.Expr → Stmts
set_name a None x v = done
set_name a (Some d) x v = set_kind a d.kind d x v

abbrev pub set_array : Option Decl → (index value : p4.Expr) → Stmts
set_array None i v = done
set_array (Some d) i v = put_sensor d i v

-- a report is told
abbrev pub tell : (number_of : ℕ) → List p4.Expr → Stmt
tell n es = p4.call 0 (codes "digest" ∷ []) (p4.one 0 (number 32 report_receiver) ∷ p4.many 0 (number 16 n ∷ es) ∷ [])

abbrev pub maybe_else : Stmts → MaybeStmt
maybe_else done = without
maybe_else (next s ss) = otherwise (p4.block 0 (next s ss))

-- ---- numbers

-- what a statement reads before it does anything; flat code has no pushes and no loops
abbrev pub stmt_reads : List Decl → indus.Stmt → List Expr
stmt_reads ds (indus.assign p x e) = reads ds e []
stmt_reads ds (indus.cell p x i e) = reads ds e (reads ds i [])
stmt_reads ds (indus.push p x e) = []
stmt_reads ds (indus.choice p t a b) = reads ds t []
stmt_reads ds (indus.loop p xs ls a) = []
stmt_reads ds (indus.reject p) = []
stmt_reads ds (indus.report p m es) = all_reads ds es []

module _ (ds : List Decl) where
  -- the number behind those reads
  abbrev pub behind : indus.Stmt → (base : ℕ) → ℕ
  behind s n = n + length (stmt_reads ds s)

  abbrev mutual
    -- the number behind a statement
    pub stmt_end : indus.Stmt → (base : ℕ) → ℕ
    stmt_end (indus.assign p x e) n = behind (indus.assign p x e) n
    stmt_end (indus.cell p x i e) n = behind (indus.cell p x i e) n
    stmt_end (indus.push p x e) n = n
    stmt_end (indus.choice p t a b) n = block_end b (block_end a (behind (indus.choice p t a b) n))
    stmt_end (indus.loop p xs ls a) n = n
    stmt_end (indus.reject p) n = n
    stmt_end (indus.report p m es) n = behind (indus.report p m es) n

    pub block_end : indus.Stmts → (base : ℕ) → ℕ
    block_end indus.done n = n
    block_end (indus.next s ss) n = block_end ss (stmt_end s n)

-- ---- code

module _ (a : Environment) (ds : List Decl) where
  abbrev pub with_reads : (base : ℕ) → indus.Stmt → (List Expr → Stmts) → Stmts
  with_reads n s f = and_then (reads_stmts a ds n [] n (stmt_reads ds s)) (f (stmt_reads ds s))

  abbrev mutual
    pub stmt_code : indus.Stmt → (base : ℕ) → Stmts
    stmt_code (indus.assign p x e) n = with_reads n (indus.assign p x e) (λ l. set_name a (lookup ds x) x (lowered a ds n l e))
    stmt_code (indus.cell p x i e) n = with_reads n (indus.cell p x i e) (λ l. set_array (lookup ds x) (lowered a ds n l i) (lowered a ds n l e))
    stmt_code (indus.push p x e) n = done
    stmt_code (indus.choice p t b c) n =
        with_reads n (indus.choice p t b c)
        (λ l. next (p4.choice 0 (lowered a ds n l t) (p4.block 0 (block_code b (n + length l))) (maybe_else (block_code c (block_end ds b (n + length l))))) done)
    stmt_code (indus.loop p xs ls b) n = done
    stmt_code (indus.reject p) n = next (p4.assign 0 (rejected_name ∷ []) (p4.flag 0 true)) done
    stmt_code (indus.report p m es) n = with_reads n (indus.report p m es) (λ l. next (tell m (lowered_all a ds n l es)) done)

    pub block_code : indus.Stmts → (base : ℕ) → Stmts
    block_code indus.done n = done
    block_code (indus.next s ss) n = and_then (stmt_code s n) (block_code ss (stmt_end ds s n))

-- ---- what is declared

-- a variable that is declared: its type and its name
abbrev pub Var : Type 0
Var = PTy × List ℕ

abbrev pub key_vars : (n i : ℕ) → List Ty → List Var
key_vars n i [] = []
key_vars n i (t ∷ ts) = (bits_type t, key_name n i) ∷ key_vars n (suc i) ts

-- the types of the variables of a key; an index has 128 bits
abbrev pub kept_types : DeclKind → Shape → List Ty
kept_types Sensor (list t n) = ty.Bit 128 ∷ []
kept_types k s = key_types s

abbrev pub read_vars : (n : ℕ) → Option Decl → List Var
read_vars n None = []
read_vars n (Some d) = (bits_type (value_type d.shape), found_name n) ∷ key_vars n 0 (kept_types d.kind d.shape)

-- a control variable that is looked up, with the number of its lookup
abbrev pub control_kind : DeclKind → (n : ℕ) → Decl → List (ℕ × Decl)
control_kind Tele n d = []
control_kind Sensor n d = []
control_kind Header n d = []
control_kind Control n d = (n, d) ∷ []

abbrev pub read_lookups : (n : ℕ) → Option Decl → List (ℕ × Decl)
read_lookups n None = []
read_lookups n (Some d) = control_kind d.kind n d

-- the variables of reads, and the lookups among them
abbrev pub vars_in : List (ℕ × Option Decl) → List Var
vars_in [] = []
vars_in (r ∷ rs) = read_vars r.0 r.1 ++ vars_in rs

abbrev pub lookups_in : List (ℕ × Option Decl) → List (ℕ × Decl)
lookups_in [] = []
lookups_in (r ∷ rs) = read_lookups r.0 r.1 ++ lookups_in rs

module _ (ds : List Decl) where
  -- the reads of a block, each with its number
  abbrev pub numbered_reads : (n : ℕ) → List Expr → List (ℕ × Option Decl)
  numbered_reads n [] = []
  numbered_reads n (e ∷ es) = (n, read_decl ds e) ∷ numbered_reads (suc n) es

  abbrev mutual
    pub stmt_numbers : indus.Stmt → (base : ℕ) → List (ℕ × Option Decl)
    stmt_numbers (indus.assign p x e) n = numbered_reads n (stmt_reads ds (indus.assign p x e))
    stmt_numbers (indus.cell p x i e) n = numbered_reads n (stmt_reads ds (indus.cell p x i e))
    stmt_numbers (indus.push p x e) n = []
    stmt_numbers (indus.choice p t b c) n =
        numbered_reads n (stmt_reads ds (indus.choice p t b c))
        ++ (block_numbers b (behind ds (indus.choice p t b c) n) ++ block_numbers c (block_end ds b (behind ds (indus.choice p t b c) n)))
    stmt_numbers (indus.loop p xs ls b) n = []
    stmt_numbers (indus.reject p) n = []
    stmt_numbers (indus.report p m es) n = numbered_reads n (stmt_reads ds (indus.report p m es))

    pub block_numbers : indus.Stmts → (base : ℕ) → List (ℕ × Option Decl)
    block_numbers indus.done n = []
    block_numbers (indus.next s ss) n = stmt_numbers s n ++ block_numbers ss (stmt_end ds s n)

  -- the variables of a block
  abbrev pub block_vars : indus.Stmts → (base : ℕ) → List Var
  block_vars ss n = vars_in (block_numbers ss n)

  -- the control variables that a block looks up, each with the number of its lookup
  abbrev pub block_lookups : indus.Stmts → (base : ℕ) → List (ℕ × Decl)
  block_lookups ss n = lookups_in (block_numbers ss n)
