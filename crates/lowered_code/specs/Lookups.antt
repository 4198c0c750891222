-- What the application of a lookup's table has to do, and what reads need. Read `Standing` before it.
use Rattle.std.specs.Prelude.{◌≡◌, ℕ, suc, List, [], ◌∷◌, length, false, Option, Some, None}
use Rattle.std.specs.List.{AllByRecursion}
use Rattle.bit_values.specs.Bits.{Word, word}
use Rattle.bit_values.specs.Widths.{bit}
use Rattle.lex_text.specs.Names.{same_text}
use Rattle.indus_tree.specs.Tree.{Shape, one, list, set, dict, Decl}
use Rattle.indus_tree.specs.State.{Contents, lookup, width_of}
use Rattle.indus_tree.specs.Reads.{single_word}
use Rattle.indus_tree.specs.Keys.{held_in, found_in}
use Rattle.indus_tree.specs.declared.tree.DeclKind.TheVariants.{Control}
use Rattle.p4_meaning.specs.Store.{Store}
use Rattle.p4_meaning.specs.Statements.{Go, Run, Tested, Calls}
use Rattle.monitor_laws.specs.Names.{rejected_name}
use Rattle.monitor_laws.specs.MonitorLaws.{Others}
use Rattle.lookup_names.specs.Names.{found_name, key_name}
use Rattle.lookup_names.specs.Keys.{key_types}
use Rattle.lowered_code.specs.Names.{table_name}
use Rattle.lowered_code.specs.Statements.{Var, vars_in, lookups_in}
use Rattle.lowered_code.specs.Standing.{Setting, HasWidths}

-- a control variable is a scalar, a set or a dict
abbrev pub IsLookup : Shape → Type 0
IsLookup (one t) = Unit {0}
IsLookup (list t n) = ⊥
IsLookup (set ks) = Unit {0}
IsLookup (dict ks t) = Unit {0}

-- what the contents of a variable of a shape have at a key, as bits
abbrev pub looked_up : Shape → Contents → (key : List Word) → Word
looked_up (one t) c ks = single_word c (width_of t)
looked_up (list t n) c ks = word 1 0
looked_up (set ts) c ks = bit (held_in c ks)
looked_up (dict ts t) c ks = found_in c ks (width_of t)

-- the parts of a key, from the i-th on, stand in their variables
abbrev pub AreKeys : (n i : ℕ) → List Word → Store → Type 0
AreKeys n i [] s = Unit {0}
AreKeys n i (w ∷ ws) s = (s.values (key_name n i ∷ []) ≡ w) × AreKeys n (suc i) ws s

-- from the run q to the run r nothing was written but variables of reads: of those that hold what is found the n-th alone
pub record Scratch (vars : List Var) (n : ℕ) (q r : Run) : Type 0 where
  pub long : (x y : List ℕ) (rest : List (List ℕ)) → r.store.values (x ∷ y ∷ rest) ≡ q.store.values (x ∷ y ∷ rest)
  pub found : (m : ℕ) → same_text (found_name n) (found_name m) ≡ false → r.store.values (found_name m ∷ []) ≡ q.store.values (found_name m ∷ [])
  pub rejected : r.store.values (rejected_name ∷ []) ≡ q.store.values (rejected_name ∷ [])
  pub headers : r.store.headers ≡ q.store.headers
  pub cells : r.cells ≡ q.cells
  pub digests : r.digests ≡ q.digests
  pub widths : HasWidths vars q.store → HasWidths vars r.store
  pub others : Others q r

-- the application of a table went on, and left what the lookup of a key finds
pub record Applied (vars : List Var) (n : ℕ) (c : Decl) (k : Contents) (key : List Word) (q : Run) (t : Tested) : Type 0 where
  pub scratch : Scratch vars n q t.run
  pub goes : t.flow ≡ Go
  pub found : t.run.store.values (found_name n ∷ []) ≡ looked_up c.shape k key

-- a word that stands in the variable before: 0 where a miss leaves it, and for a scalar any of its width
abbrev pub IsReady : Shape → Word → Type 0
IsReady (one t) u = u.width ≡ width_of t
IsReady (list t n) u = u.width ≡ width_of t
IsReady (set ts) u = u ≡ word 1 0
IsReady (dict ts t) u = u ≡ word (width_of t) 0

-- the n-th table does so, where the variable of what is found is ready and the key stands in its variables
abbrev pub Applies : Calls → List Var → (control : List ℕ) (n : ℕ) → Decl → Contents → Type 0
Applies calls vars control n c k =
    (q : Run) (key : List Word) → q.store.headers [] ≡ None → IsReady c.shape (q.store.values (found_name n ∷ [])) → AreKeys n 0 key q.store → length key ≡ length (key_types c.shape)
    → Applied vars n c k key q (calls.apply_table (table_name control n) q)

-- the lookup of a declared control variable finds what the variable has at the hop
abbrev pub Finds : Setting → ℕ × Decl → Type 0
Finds p l = lookup p.hop.decls l.1.name ≡ Some l.1 → l.1.kind ≡ Control → Applies p.calls p.vars p.control l.0 l.1 (p.hop.contents l.1.name)

-- numbered reads can be made: their variables are declared, and their lookups find what they should
pub record AreServed (p : Setting) (rs : List (ℕ × Option Decl)) : Type 0 where
  pub declared : (s : Store) → HasWidths p.vars s → HasWidths (vars_in rs) s
  pub found : AllByRecursion (Finds p) (lookups_in rs)
