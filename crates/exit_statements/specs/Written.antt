-- Statements without exits as they are written, and under a scope. Read `Without` before it, and `Under` of the meaning.
use Rattle.std.specs.Prelude.{codes, ◌≡◌, ℕ, List, [], ◌∷◌, Bool, ◌||◌, None}
use Rattle.lex_text.specs.Names.{same_text}
use Rattle.p4_tree.specs.Tree.{Stmts}
use Rattle.p4_meaning.specs.Scope.{Scope, full_name, first_name, constant_at, names_in}
use Rattle.p4_meaning.specs.Under.{stmts_under}
use Rattle.exit_statements.specs.Without.{Body, Flags, Exits, stmts_without}

-- the flags by the names that they have in a store
abbrev pub flags_under : Scope → Flags → Flags
flags_under sc n = record { left = first_name sc n.left; returned = first_name sc n.returned }

-- what may exit, by the names that are written
abbrev pub exits_written : Scope → Exits → Exits
exits_written sc m = record { action = λ x. m.action (full_name sc x); table = λ t. m.table (full_name sc t) }

-- a function of the architecture, which no program declares
abbrev pub is_function : List ℕ → Bool
is_function x = same_text x (codes "mark_to_drop") || (same_text x (codes "digest") || (same_text x (codes "verify_checksum") || same_text x (codes "update_checksum")))

-- full names are those of functions exactly where plain ones are, and no constant has a flag's name
pub record ShowsFlags (sc : Scope) (n : Flags) : Type 0 where
  pub functions : (x : List ℕ) → is_function (full_name sc x) ≡ is_function x
  pub left : constant_at sc (n.left ∷ []) ≡ None
  pub returned : constant_at sc (n.returned ∷ []) ≡ None

-- written statements without exits are, under a scope, those under the scope without exits
abbrev pub NamesAgree : Type 0
NamesAgree = (sc : Scope) (n : Flags) (m : Exits) (body : Body) (left : Bool) (ss : Stmts) → ShowsFlags sc n
    → stmts_under sc (stmts_without n (exits_written sc m) body left ss) ≡ stmts_without (flags_under sc n) m body left (stmts_under sc ss)

-- they declare the variables of the given ones, in order
abbrev pub DeclareSame : Type 0
DeclareSame = (n : Flags) (m : Exits) (body : Body) (left : Bool) (ss : Stmts) → names_in (stmts_without n m body left ss) ≡ names_in ss
