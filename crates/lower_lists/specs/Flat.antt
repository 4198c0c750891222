-- Flat code: what is done in place of a statement, over numbered scalars. There are no loops, no pushes, and no counts and
-- members of lists left. What is new has the place of the token from which it comes. Read `Names` before it.
use Rattle.std.specs.Prelude.{ℕ, zero, suc, ◌+◌, ◌-◌, ◌/◌, List, [], ◌∷◌, ◌++◌, length, map, slice_index, Bool, true, false, nat_eq, nat_le, if◌then◌else◌, Option, Some, None}
use Rattle.std.specs.List.{list_any}
use Rattle.lex_text.specs.Names.{same_text}
use Rattle.indus_tree.specs.Tree.{Shape, one, list, set, dict, Expr, Exprs, num, flag, read, count, index, member, negation, inversion, binary, cast, none, more, Stmt, Stmts, assign, cell, push, choice, loop, reject, report, done, next, block_from, Decl}
use Rattle.indus_tree.specs.State.{lookup}
use Rattle.indus_tree.specs.Hops.{variable_number}
use Rattle.indus_tree.specs.declared.tree.DeclKind.{DeclKind}
use Rattle.indus_tree.specs.declared.tree.DeclKind.TheVariants.{Tele, Sensor, Header, Control}
use Rattle.indus_tree.specs.declared.tree.Op.{Op}
use Rattle.indus_tree.specs.declared.tree.Op.TheVariants.{Less, Equal, Both, Either}
use Rattle.indus_types.specs.Sums.{smallest}
use Rattle.list_pushes.specs.Names.{item_name, count_name}
pub use Rattle.list_pushes.specs.Pushes.{byte, only, move, moves, nothing, clear, count_more, pushed, push_to}
use Rattle.lower_lists.specs.declared.place.ListPlace.{ListPlace}
use Rattle.lower_lists.specs.declared.place.Bound.{Bound}

-- ---- names

-- a list, with the number of its variable
abbrev pub list_of_shape : (variable : ℕ) → Shape → Option ListPlace
list_of_shape v (one t) = None
list_of_shape v (list t n) = Some (record { number = v; item = t; size = n })
list_of_shape v (set ks) = None
list_of_shape v (dict ks t) = None

abbrev pub list_in : Option ℕ → Option Decl → Option ListPlace
list_in (Some v) (Some d) = list_of_shape v d.shape
list_in _ _ = None

-- the list of a name
abbrev pub list_of : List Decl → List ℕ → Option ListPlace
list_of ds x = list_in (variable_number ds x) (lookup ds x)

abbrev pub number_in : Option ListPlace → ℕ
number_in None = 0
number_in (Some l) = l.number

abbrev pub list_number : List Decl → List ℕ → ℕ
list_number ds x = number_in (list_of ds x)

abbrev pub name_of_kind : DeclKind → (variable : ℕ) → List ℕ → List ℕ
name_of_kind Tele v x = item_name v 0
name_of_kind Sensor v x = x
name_of_kind Header v x = x
name_of_kind Control v x = x

abbrev pub name_in : Option ℕ → Option Decl → List ℕ → List ℕ
name_in (Some v) (Some d) x = name_of_kind d.kind v x
name_in _ _ x = x

-- what stands in place of a name outside loops: a variable of the packet's is numbered, and other names stay
abbrev pub target : List Decl → List ℕ → List ℕ
target ds x = name_in (variable_number ds x) (lookup ds x) x

-- the item of a surrounding loop that has the name
abbrev pub found : List Bound → List ℕ → Option Bound
found [] x = None
found (b ∷ bs) x = if same_text b.name x then Some b else found bs x

abbrev pub or_item : Option Bound → List ℕ → List ℕ
or_item None x = x
or_item (Some b) x = item_name b.list b.turn

-- what stands in place of a name that is read: in each turn an item is a place of its list
abbrev pub source : List Decl → List Bound → List ℕ → List ℕ
source ds bs x = or_item (found bs x) (target ds x)

-- ---- tests

-- the list has an item at a place
abbrev pub has_item : (at variable place : ℕ) → Expr
has_item p v i = binary p Less (byte p i) (read p (count_name v))

-- it has one there that is equal. The item stands first, so that the other side has a place of the item's width
abbrev pub is_item : (at : ℕ) → Expr → (variable place : ℕ) → Expr
is_item p e v i = binary p Both (has_item p v i) (binary p Equal (read p (item_name v i)) e)

-- so many tests from the first on, joined by halves, so that the tree stays low. `fuel` is no less than `many`
abbrev pub halves : (at : ℕ) → Op → (test : ℕ → Expr) → (fuel first many : ℕ) → Expr
halves p op test zero first n = test first
halves p op test (suc fuel) first n =
    elim (nat_le n 1) [
      | true ↦ test first
      | false ↦ binary p op (halves p op test fuel first (n / 2)) (halves p op test fuel (first + n / 2) (n - n / 2))
    ]

abbrev pub joined : (at : ℕ) → Op → (of_none : Bool) → (test : ℕ → Expr) → (many : ℕ) → Expr
joined p op b test zero = flag p b
joined p op b test (suc n) = halves p op test (suc n) 0 (suc n)

-- one of the list's items is equal
abbrev pub any_item : (at : ℕ) → Expr → ListPlace → Expr
any_item p e l = joined p Either false (is_item p e l.number) l.size

-- each of the lists has an item at a place
abbrev pub all_have : (at : ℕ) → (variables : List ℕ) → (place : ℕ) → Expr
all_have p vs i = joined p Both true (λ k. has_item p (slice_index vs k) i) (length vs)

-- ---- expressions

abbrev pub flat_member : (at : ℕ) → Exprs → List ℕ → Option ListPlace → Expr
flat_member p ks x None = member p ks x
flat_member p none x (Some l) = flag p false
flat_member p (more e es) x (Some l) = any_item p e l

module _ (ds : List Decl) (bs : List Bound) where
  abbrev mutual
    pub flat_expr : Expr → Expr
    flat_expr (num p n) = num p n
    flat_expr (flag p b) = flag p b
    flat_expr (read p x) = read p (source ds bs x)
    flat_expr (count p x) = read p (count_name (list_number ds x))
    flat_expr (index p x ks) = index p x (flat_exprs ks)
    flat_expr (member p ks x) = flat_member p (flat_exprs ks) x (list_of ds x)
    flat_expr (negation p a) = negation p (flat_expr a)
    flat_expr (inversion p a) = inversion p (flat_expr a)
    flat_expr (binary p op a b) = binary p op (flat_expr a) (flat_expr b)
    flat_expr (cast p w a) = cast p w (flat_expr a)

    pub flat_exprs : Exprs → Exprs
    flat_exprs none = none
    flat_exprs (more e es) = more (flat_expr e) (flat_exprs es)

-- ---- pushes

abbrev pub flat_push : (at : ℕ) → Expr → Option ListPlace → List Stmt
flat_push p e None = []
flat_push p e (Some l) = push_to p e l.number l.size l.item

-- ---- loops

-- the numbers in turn, each once
abbrev pub distinct_behind : (kept : List ℕ) → List ℕ → List ℕ
distinct_behind kept [] = kept
distinct_behind kept (v ∷ vs) = distinct_behind (if list_any (λ k. nat_eq k v) kept then kept else kept ++ v ∷ []) vs

abbrev pub distinct : List ℕ → List ℕ
distinct vs = distinct_behind [] vs

-- the items of one turn, beside the numbers of their lists
abbrev pub bound_to : (names : List (List ℕ)) → (variables : List ℕ) → (turn : ℕ) → List Bound
bound_to [] vs k = []
bound_to (x ∷ xs) [] k = []
bound_to (x ∷ xs) (v ∷ vs) k = record { name = x; list = v; turn = k } ∷ bound_to xs vs k

-- so many turns, each done where each list has an item there
abbrev pub turns : (at : ℕ) → (body : List Bound → List Stmt) → (names : List (List ℕ)) → (variables : List ℕ) → List Bound → (many : ℕ) → List Stmt
turns p body xs vs bs zero = []
turns p body xs vs bs (suc k) = turns p body xs vs bs k ++ choice p (all_have p (distinct vs) k) (block_from (body (bs ++ bound_to xs vs k))) done ∷ []

-- ---- statements

module _ (ds : List Decl) where
  abbrev mutual
    pub flat_stmt : Stmt → List Bound → List Stmt
    flat_stmt (assign p x e) bs = assign p (target ds x) (flat_expr ds bs e) ∷ []
    flat_stmt (cell p x i e) bs = cell p x (flat_expr ds bs i) (flat_expr ds bs e) ∷ []
    flat_stmt (push p x e) bs = flat_push p (flat_expr ds bs e) (list_of ds x)
    flat_stmt (choice p e a b) bs = choice p (flat_expr ds bs e) (block_from (flat_block a bs)) (block_from (flat_block b bs)) ∷ []
    flat_stmt (loop p xs ls a) bs = turns p (flat_block a) xs (map (list_number ds) ls) bs (smallest ds ls)
    flat_stmt (reject p) bs = reject p ∷ []
    flat_stmt (report p n es) bs = report p n (flat_exprs ds bs es) ∷ []

    pub flat_block : Stmts → List Bound → List Stmt
    flat_block done bs = []
    flat_block (next s rest) bs = flat_stmt s bs ++ flat_block rest bs

  -- a block outside loops
  abbrev pub flat_of : Stmts → List Stmt
  flat_of ss = flat_block ss []
