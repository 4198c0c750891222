-- What is in scope where lowered trees stand, as their resolution asks it. Read `Gives` of `linked_programs` before it.
use Rattle.std.specs.Prelude.{◌≡◌, codes, ℕ, List, [], ◌∷◌, Bool, true, false, ◌||◌, Some, None}
use Rattle.std.specs.List.{AllByRecursion}
use Rattle.lex_text.specs.Names.{same_text}
use Rattle.indus_tree.specs.Tree.{Decl}
use Rattle.indus_tree.specs.State.{lookup}
use Rattle.indus_tree.specs.declared.tree.DeclKind.TheVariants.{Header}
use Rattle.p4_tree.specs.Tree.{Expr, path, valid}
use Rattle.p4_meaning.specs.Standard.{headers_root, metadata_root, standard_root}
use Rattle.p4_meaning.specs.Scope.{Scope, Roots, root_of, first_name, full_name, constant_at}
use Rattle.own_code.specs.Regions.{is_mine}
use Rattle.lookup_names.specs.Names as plain
use Rattle.lowered_code.specs.Names.{sensor_name, table_name}
use Rattle.lowered_code.specs.Environment.{view_of, switch_name}
use Rattle.linked_programs.specs.Gives.{StandForRoots, switch_word}

abbrev pub is_root : List ℕ → Bool
is_root x = same_text headers_root x || (same_text metadata_root x || same_text standard_root x)

-- a path of two names or more, or a test of a header, that begins with a fixed root
abbrev pub IsRooted : Expr → Type 0
IsRooted (path p (x ∷ y ∷ xs)) = is_root x ≡ true
IsRooted (valid p (x ∷ xs)) = is_root x ≡ true
IsRooted _ = ⊥

-- so does what each header variable reads
abbrev pub AreRooted : List Decl → Type 0
AreRooted ds = (x : List ℕ) (d : Decl) → lookup ds x ≡ Some d → d.kind ≡ Header → IsRooted (view_of d)

-- s: the number of the switch; r: the names of the control's parameters
pub record Stage (s : ℕ) (r : Roots) (sc : Scope) : Type 0 where
  pub roots : StandForRoots r sc
  pub mine : (x : List ℕ) → is_mine x ≡ true → first_name sc x ≡ x
  pub inside : (x : List ℕ) → is_mine x ≡ true → root_of sc.roots x ≡ x
  pub constants : (x : List ℕ) → is_mine x ≡ true → same_text switch_name x ≡ false → constant_at sc (x ∷ []) ≡ None
  pub switch : constant_at sc (switch_name ∷ []) ≡ Some (switch_word s)
  pub registers : (x : List ℕ) → full_name sc (sensor_name x) ≡ sensor_name x
  pub digest : full_name sc (codes "digest") ≡ codes "digest"
  pub no_action : full_name sc (codes "NoAction") ≡ codes "NoAction"

-- the tables of lookups are declared in the control
abbrev pub AreNamed : Scope → (control : List ℕ) → List (ℕ × Decl) → Type 0
AreNamed sc c ls = AllByRecursion (λ l. full_name sc (plain.table_name l.0) ≡ table_name c l.0) ls
