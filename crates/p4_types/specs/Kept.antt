-- What the tables of numbers hold. Read `Numbers` before it.
use Rattle.std.specs.Prelude.{◌≡◌, ℕ, ◌+◌, nat_eq, min, List, [], ◌∷◌, ◌++◌, length, Option, Some, None, String, string_bytes, if◌then◌else◌}
use Rattle.std.specs.Option.{option_or}
use Rattle.std.specs.Borrow.{Bor}
use Rattle.std.specs.declared.alloc.Global.{Global}
pub use Rattle.p4_resolved.specs.Rows.{at_name}
use Rattle.p4_types.specs.Numbers.{Sort, tables, registers, actions, dotted, number_from, number_in}
use Rattle.p4_types.specs.declared.numbers.Sort as code
use Rattle.p4_types.specs.declared.numbers.Sort.TheVariants as sort
use Rattle.p4_types.specs.declared.numbers.Group.{Group}
use Rattle.p4_types.specs.declared.numbers.Numbering.{Numbering}

abbrev pub sort_of : code.Sort → Sort
sort_of sort.Tables = tables
sort_of sort.Registers = registers
sort_of sort.Actions = actions

-- the member of a list of one, if there is one
abbrev pub as_list : Option (Bor (List ℕ)) → List (List ℕ)
as_list None = []
as_list (Some x) = x.now ∷ []

-- what stands behind a front, where the text begins with it
abbrev pub behind : (front x : List ℕ) → Option (List ℕ)
behind [] x = Some x
behind (b ∷ bs) [] = None
behind (b ∷ bs) (y ∷ ys) = if nat_eq b y then behind bs ys else None

-- what a table has at what stands behind a front
abbrev pub at_rest : List (String Global × ℕ) → Option (List ℕ) → Option ℕ
at_rest es None = None
at_rest es (Some rest) = at_name es rest

-- the number of a name in a group
abbrev pub number_in_group : Group → List ℕ → Option ℕ
number_in_group g x = at_rest g.numbers.entries (behind (string_bytes g.front) x)

-- these words behind a front
abbrev pub fronted : (front : List ℕ) → List (List ℕ) → List (List ℕ)
fronted front [] = []
fronted front (x ∷ xs) = (front ++ x) ∷ fronted front xs

-- the group has these names more
pub record Gains (g h : Group) (more : List (List ℕ)) : Type 0 where
  pub front : h.front ≡ g.front
  pub next : h.next ≡ g.next + length more
  pub found : (x : List ℕ) → number_in_group h x ≡ option_or (number_in_group g x) (number_from g.next (fronted (string_bytes g.front) more) x)

-- these are all names of a control, and each is found by its number, the first by this one
pub record IsGroup (g : Group) (control : List ℕ) (start : ℕ) (all : List (List ℕ)) : Type 0 where
  pub front : string_bytes g.front ≡ dotted control []
  pub next : g.next ≡ start + length all
  pub found : (x : List ℕ) → number_in_group g x ≡ number_from start all x

-- the lesser of two numbers, where there are
abbrev pub lesser : Option ℕ → Option ℕ → Option ℕ
lesser None o = o
lesser (Some m) None = Some m
lesser (Some m) (Some n) = Some (min m n)

-- the least number of a name in these groups, where this one was found before
abbrev pub least : (found : Option ℕ) → List Group → List ℕ → Option ℕ
least found [] x = found
least found (g ∷ gs) x = least (lesser found (number_in_group g x)) gs x

-- the number of a name
abbrev pub number_of : Numbering → List ℕ → Option ℕ
number_of n x = least (number_in_group n.plain x) n.controls.items x

-- these are all names, and each is found by its number
pub record IsNumbering (n : Numbering) (all : List (List ℕ)) : Type 0 where
  pub plain : string_bytes n.plain.front ≡ []
  pub count : n.plain.next ≡ length all
  pub found : (x : List ℕ) → number_of n x ≡ number_in all x

-- the names stand behind those before
abbrev pub Adds : (before after : Numbering) → List (List ℕ) → Type 0
Adds n m more = (all : List (List ℕ)) → IsNumbering n all → IsNumbering m (all ++ more)
