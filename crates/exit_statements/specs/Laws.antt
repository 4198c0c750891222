-- What holds of statements without exits. Read `Alike` before it.
use Rattle.std.specs.Prelude.{◌≡◌, ℕ, List, [], ◌∷◌, Bool, true, false, not}
use Rattle.lex_text.specs.Names.{same_text}
use Rattle.p4_tree.specs.Tree.{Stmts}
use Rattle.p4_meaning.specs.Statements.{Go, Run, Calls, meaning_of}
use Rattle.exit_statements.specs.Without.{Body, Flags, Exits, no_exits, stmts_leave, stmts_without}
use Rattle.exit_statements.specs.Free.{Hides, HidesFlags, AreFreeStmts}
use Rattle.exit_statements.specs.Alike.{Alike, Tell, Ends, Agrees}

-- of variables, those that actions declare of their own are hidden from their callers, and these are shown
pub record Keeps (own seen : List ℕ → Bool) (hides : Hides) : Type 0 where
  pub own_hidden : (x : List ℕ) → own x ≡ true → hides (x ∷ []) ≡ true
  pub seen_shown : (x : List ℕ) → seen x ≡ true → hides (x ∷ []) ≡ false

-- names that are not an action's own
abbrev pub is_other : (own : List ℕ → Bool) → List ℕ → Bool
is_other own x = not (own x)

-- for all calls that agree, and whatever is hidden: where two runs agree and no flag is set, they agree behind the given
-- statements and those without exits, and the flags say how the given ones ended
abbrev pub ListsAgree : Type 0
ListsAgree = (n : Flags) (body : Body) (own seen : List ℕ → Bool) (m : Exits) (c d : Calls) → same_text n.returned n.left ≡ false
    → Agrees n body (Keeps own seen) m c d → (hides : Hides) → HidesFlags n hides → Keeps own seen hides
    → (ss : Stmts) (left : Bool) (a b : Run) → AreFreeStmts n (is_other own) hides ss → Alike hides a b → Tell n body Go b
    → Ends n body hides hides (meaning_of c ss a) (meaning_of d (stmts_without n m body left ss) b)

-- no `exit` and no `return` is left
abbrev pub NoneIsLeft : Type 0
NoneIsLeft = (n : Flags) (m : Exits) (body : Body) (left : Bool) (ss : Stmts) → stmts_leave no_exits (stmts_without n m body left ss) ≡ false

-- statements that cannot leave stay as they are
abbrev pub StaySame : Type 0
StaySame = (n : Flags) (m : Exits) (body : Body) (ss : Stmts) → stmts_leave m ss ≡ false → stmts_without n m body false ss ≡ ss
