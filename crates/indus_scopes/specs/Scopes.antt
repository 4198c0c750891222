-- What a name stands for at a place, and what an expression is of its own. Read `Kinds` before it.
use Rattle.std.specs.Prelude.{ℕ, List, [], ◌∷◌, ◌||◌, Option, Some, None, if◌then◌else◌, codes}
use Rattle.lex_text.specs.Names.{same_text}
use Rattle.rule_sites.specs.Sites.{or_else}
use Rattle.indus_tree.specs.Tree.{Expr, num, flag, read, count, index, member, negation, inversion, binary, cast, Shape, one, list, dict, Decl}
use Rattle.indus_tree.specs.State.{lookup}
use Rattle.indus_tree.specs.View.{decl_of}
use Rattle.indus_tree.specs.declared.tree.DeclKind.{DeclKind}
use Rattle.indus_tree.specs.declared.tree.DeclKind.TheVariants.{Sensor}
use Rattle.indus_scopes.specs.Kinds.{kind_of, as_number, binary_kind}
use Rattle.indus_scopes.specs.declared.kind.Kind.{Kind}
use Rattle.indus_scopes.specs.declared.kind.Kind.TheVariants.{Number, Truth, Unknown}
use Rattle.indus_scopes.specs.declared.scope.Block.{Block}
use Rattle.indus_scopes.specs.declared.scope.Loop as code_loop
use Rattle.indus_scopes.specs.declared.scope.Role as code_role
use Rattle.indus_scopes.specs.declared.scope.Role.TheVariants.{Missing, Item, Builtin, Variable}

-- a surrounding loop: the names of its items, and the lists that it walks
pub record Around : Type 0 where
  pub names : List (List ℕ)
  pub lists : List (List ℕ)

-- what is in sight at a place: the property's edition, the declarations, the surrounding loops, innermost first, and the block
pub record Sight : Type 0 where
  pub edition : ℕ
  pub decls : List Decl
  pub loops : List Around
  pub block : Block

-- what a name stands for: nothing, an item of a surrounding loop, a name of the language's own, or a variable
pub data Stands : Type 0 where
  missing : Stands
  item : Kind → Stands
  builtin : Kind → Stands
  variable : Decl → Stands

-- one item of a list
abbrev pub shape_item : Shape → Kind
shape_item (list t n) = kind_of t
shape_item _ = Unknown

abbrev pub item_kind : Option Decl → Kind
item_kind None = Unknown
item_kind (Some d) = shape_item d.shape

abbrev pub list_item : List Decl → List ℕ → Kind
list_item ds x = item_kind (lookup ds x)

-- an item of a loop with these names and lists
abbrev pub item_in : List Decl → (names lists : List (List ℕ)) → List ℕ → Option Kind
item_in ds [] ls x = None
item_in ds (n ∷ ns) [] x = if same_text n x then Some Unknown else item_in ds ns [] x
item_in ds (n ∷ ns) (l ∷ ls) x = if same_text n x then Some (list_item ds l) else item_in ds ns ls x

-- an item of one of the loops
abbrev pub item_of : List Decl → List Around → List ℕ → Option Kind
item_of ds [] x = None
item_of ds (l ∷ ls) x = or_else (item_in ds l.names l.lists x) (item_of ds ls x)

-- a name that each property has without a declaration
abbrev pub builtin_of : List ℕ → Option Kind
builtin_of x = if same_text x (codes "first_hop") || same_text x (codes "last_hop") then Some Truth else if same_text x (codes "switch_id") then Some (Number 16) else None

abbrev pub role_from : Option Kind → Option Kind → Option Decl → Stands
role_from (Some k) b d = item k
role_from None (Some k) d = builtin k
role_from None None (Some d) = variable d
role_from None None None = missing

-- what a name stands for. In a well-typed property no name stands for two things
abbrev pub role_of : Sight → List ℕ → Stands
role_of s x = role_from (item_of s.decls s.loops x) (builtin_of x) (lookup s.decls x)

-- one value, read by its name alone
abbrev pub scalar_kind : Shape → Kind
scalar_kind (one t) = kind_of t
scalar_kind _ = Unknown

-- one value, read at a key: a cell of an array, or a value of a dict
abbrev pub element_kind : DeclKind → Shape → Kind
element_kind Sensor (list t n) = kind_of t
element_kind k (dict ks t) = kind_of t
element_kind k s = Unknown

abbrev pub read_kind : Stands → Kind
read_kind missing = Unknown
read_kind (item k) = k
read_kind (builtin k) = k
read_kind (variable d) = scalar_kind d.shape

abbrev pub index_kind : Stands → Kind
index_kind (variable d) = element_kind d.kind d.shape
index_kind _ = Unknown

-- what an expression is, whatever its place wants
abbrev pub own : Sight → Expr → Kind
own s (num p n) = Number n.width
own s (flag p b) = Truth
own s (read p x) = read_kind (role_of s x)
own s (count p x) = Number 8
own s (index p x ks) = index_kind (role_of s x)
own s (member p ks x) = Truth
own s (negation p a) = Truth
own s (inversion p a) = as_number (own s a)
own s (binary p op a b) = binary_kind op (own s a) (own s b)
own s (cast p w a) = Number w

-- ---- of the program's values

abbrev pub loop_of : code_loop.Loop → Around
loop_of l = record { names = l.names.now; lists = l.lists.now }

abbrev pub stands : code_role.Role → Stands
stands Missing = missing
stands (Item k) = item k
stands (Builtin k) = builtin k
stands (Variable d) = variable (decl_of d.now)
