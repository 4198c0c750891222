-- Where lowered code stands: what it takes from the control around it. One definition of lowered code serves the tree that
-- is written and what of it runs. Read `Names` before it.
use Rattle.std.specs.Prelude.{codes, ℕ, List, [], ◌∷◌, if◌then◌else◌}
use Rattle.bit_values.specs.Bits.{cast as cast_number}
use Rattle.lex_text.specs.Names.{same_text, parent}
use Rattle.indus_tree.specs.Tree.{Decl}
use Rattle.p4_tree.specs.Tree.{Expr, path, valid}
use Rattle.p4_meaning.specs.Standard.{headers_root, metadata_root, standard_root}
use Rattle.p4_meaning.specs.Scope.{Roots}
use Rattle.monitor_laws.specs.Trees.{number}
use Rattle.lookup_names.specs.Names as plain
use Rattle.lowered_code.specs.Names.{tele_name, table_name}

pub record Environment : Type 0 where
  -- the name of the headers
  pub headers : List ℕ
  -- what a header variable reads
  pub view : Decl → Expr
  -- the number of the switch
  pub switch : Expr
  -- the name of a lookup's table
  pub table : (number : ℕ) → List ℕ

-- the field of a numbered scalar
abbrev pub tele_path : Environment → List ℕ → List (List ℕ)
tele_path a x = a.headers ∷ codes "hydra_tele" ∷ tele_name x ∷ []

-- ---- what runs on a switch: fixed names of headers and metadata, full names of tables, and the switch's number

-- what a header variable reads
abbrev pub view_of : Decl → Expr
view_of d = if d.valid then valid 0 (parent d.path) else path 0 d.path

abbrev pub on_switch : (switch : ℕ) (control : List ℕ) → Environment
on_switch s c = record { headers = headers_root; view = view_of; switch = number 16 (cast_number 16 s); table = table_name c }

-- ---- what is written: the names that a control gives its parameters, plain names of tables, and a constant for the
-- switch's number, so that one tree serves all switches

abbrev pub switch_name : List ℕ
switch_name = codes "hydra_switch"

-- the parameter's name in the place of a fixed one
abbrev pub rooted : Roots → List ℕ → List ℕ
rooted r x =
    if same_text headers_root x then r.headers else
    if same_text metadata_root x then r.metadata else
    if same_text standard_root x then r.standard else x

abbrev pub rooted_path : Roots → List (List ℕ) → List (List ℕ)
rooted_path r [] = []
rooted_path r (x ∷ xs) = rooted r x ∷ xs

abbrev pub rooted_view : Roots → Decl → Expr
rooted_view r d = if d.valid then valid 0 (rooted_path r (parent d.path)) else path 0 (rooted_path r d.path)

abbrev pub in_control : Roots → Environment
in_control r = record { headers = r.headers; view = rooted_view r; switch = path 0 (switch_name ∷ []); table = plain.table_name }
