-- What names stand for at a place of a program, and what of a store is seen there. Paths of stores begin with the fixed
-- roots, whatever the parameters are called; what a control or an action declares has a name that no other has.
-- Read `Statements` before it and `Under` after it.
use Rattle.std.specs.Prelude.{ℕ, zero, suc, List, [], ◌∷◌, ◌++◌, Bool, false, ◌||◌, Option, Some, None, if◌then◌else◌}
use Rattle.bit_values.specs.Bits.{Word}
use Rattle.lex_text.specs.Names.{same_text}
use Rattle.p4_tree.specs.Tree.{Stmt, Stmts, MaybeStmt, nothing, block, var, assign, choice, return_, exit_, call, done, next, without, otherwise, Local, local_action, local_table, local_register, local_const, local_var}
use Rattle.p4_tree.specs.declared.statement.PTy.{PTy}
use Rattle.p4_tree.specs.declared.statement.PTy.TheVariants as type
use Rattle.p4_tree.specs.declared.program.Param.{Param}
use Rattle.p4_meaning.specs.Standard.{headers_root, metadata_root, standard_root}
use Rattle.p4_meaning.specs.Store.{Store}

-- ---- parameters

-- the parameter at a place
abbrev pub param_at : List Param → ℕ → Option Param
param_at [] n = None
param_at (p ∷ ps) zero = Some p
param_at (p ∷ ps) (suc n) = param_at ps n

-- the name that a type is
abbrev pub type_name : PTy → List ℕ
type_name (type.Named x) = x
type_name _ = []

-- the name of a parameter, and of its type; nothing where there is none
abbrev pub param_name : Option Param → List ℕ
param_name None = []
param_name (Some p) = p.name

abbrev pub param_type : Option Param → List ℕ
param_type None = []
param_type (Some p) = type_name p.ty

-- the names that a parser or control gives to the headers, the metadata and the standard metadata
pub record Roots : Type 0 where
  pub headers : List ℕ
  pub metadata : List ℕ
  pub standard : List ℕ

-- outside parsers and controls
abbrev pub no_roots : Roots
no_roots = record { headers = []; metadata = []; standard = [] }

-- the roots, where the three parameters stand at these places
abbrev pub roots_of : List Param → (headers metadata standard : ℕ) → Roots
roots_of ps h m s = record { headers = param_name (param_at ps h); metadata = param_name (param_at ps m); standard = param_name (param_at ps s) }

-- the fixed root of a name
abbrev pub root_of : Roots → List ℕ → List ℕ
root_of r x =
    if same_text r.headers x then headers_root else
    if same_text r.metadata x then metadata_root else
    if same_text r.standard x then standard_root else x

-- ---- scopes

-- the action around a place, and all names that it declares: its parameters and its variables
pub record Inner : Type 0 where
  pub action : List ℕ
  pub names : List (List ℕ)

pub record Scope : Type 0 where
  pub roots : Roots
  -- the control around, and the names of its registers, tables and actions
  pub control : List ℕ
  pub own : List (List ℕ)
  -- the constants in sight with their words, and the typedefs with the types that they stand for, the nearest first
  pub constants : List (List ℕ × Word)
  pub types : List (List ℕ × PTy)
  pub inner : Option Inner

-- the name is one of these
abbrev pub is_among : List (List ℕ) → List ℕ → Bool
is_among [] x = false
is_among (y ∷ ys) x = same_text y x || is_among ys x

-- the full name of what is declared in a control or an action. The plain name stands first, so that what begins a name
-- begins its full name; a point stands in no plain name
abbrev pub full : (around x : List ℕ) → List ℕ
full around x = x ++ 46 ∷ around

-- the full name of a register, a table or an action
abbrev pub full_name : Scope → List ℕ → List ℕ
full_name sc x = if is_among sc.own x then full sc.control x else x

-- the action around declares the name
abbrev pub is_inner : Option Inner → List ℕ → Bool
is_inner None x = false
is_inner (Some i) x = is_among i.names x

-- the full name of what an action declares
abbrev pub inner_name : Option Inner → (control x : List ℕ) → List ℕ
inner_name None c x = x
inner_name (Some i) c x = full c (full i.action x)

-- what a path's first name is in a store: of what the action around declares its full name, of a root the fixed one
abbrev pub first_name : Scope → List ℕ → List ℕ
first_name sc x = if is_inner sc.inner x then inner_name sc.inner sc.control x else root_of sc.roots x

-- the path of a store that a path is
abbrev pub path_under : Scope → List (List ℕ) → List (List ℕ)
path_under sc [] = []
path_under sc (x ∷ rest) = first_name sc x ∷ rest

-- the word of the nearest constant of a name
abbrev pub constant_named : List (List ℕ × Word) → List ℕ → Option Word
constant_named [] x = None
constant_named (c ∷ cs) x = if same_text c.0 x then Some c.1 else constant_named cs x

-- the word of the constant that a path is, which no declaration of the action around hides
abbrev pub constant_at : Scope → List (List ℕ) → Option Word
constant_at sc [] = None
constant_at sc (x ∷ []) = if is_inner sc.inner x then None else constant_named sc.constants x
constant_at sc (x ∷ y ∷ rest) = None

-- the type that the nearest typedef of a name stands for, and else the name
abbrev pub type_named : List (List ℕ × PTy) → List ℕ → PTy
type_named [] x = type.Named x
type_named (t ∷ ts) x = if same_text t.0 x then t.1 else type_named ts x

abbrev pub type_under : List (List ℕ × PTy) → PTy → PTy
type_under ts (type.Bit w) = type.Bit w
type_under ts type.Bool = type.Bool
type_under ts (type.Named x) = type_named ts x

-- ---- what is seen

abbrev pub constant_or : Option Word → Word → Word
constant_or None w = w
constant_or (Some c) w = c

-- what of a store the names at a place stand for
abbrev pub seen : Scope → Store → Store
seen sc s =
    record {
      values = λ p. constant_or (constant_at sc p) (s.values (path_under sc p));
      headers = λ p. s.headers (path_under sc p);
    }

-- ---- names that are declared

-- the names of a control's registers, tables and actions
abbrev pub own_names : List Local → List (List ℕ)
own_names [] = []
own_names (local_action p a ∷ ls) = a.name ∷ own_names ls
own_names (local_table p t ∷ ls) = t.name ∷ own_names ls
own_names (local_register p r ∷ ls) = r.name ∷ own_names ls
own_names (local_const p ty x e ∷ ls) = own_names ls
own_names (local_var p ty x e ∷ ls) = own_names ls

abbrev mutual
  -- the names of the variables that statements declare, at any depth
  pub names_in_stmt : Stmt → List (List ℕ)
  names_in_stmt (nothing p) = []
  names_in_stmt (block p ss) = names_in ss
  names_in_stmt (var p ty x e) = x ∷ []
  names_in_stmt (assign p target e) = []
  names_in_stmt (choice p e a b) = names_in_stmt a ++ names_in_else b
  names_in_stmt (return_ p) = []
  names_in_stmt (exit_ p) = []
  names_in_stmt (call p callee args) = []

  pub names_in_else : MaybeStmt → List (List ℕ)
  names_in_else without = []
  names_in_else (otherwise s) = names_in_stmt s

  pub names_in : Stmts → List (List ℕ)
  names_in done = []
  names_in (next s ss) = names_in_stmt s ++ names_in ss
