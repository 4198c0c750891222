-- Lists of statements, one behind the other.
use Rattle.std.proofs.Common.{◌≡◌, ℕ, Bool, true, false, nat_eq, length, List, [], ◌∷◌, ◌++◌, refl, sym, ap, ◌∙◌}
use Rattle.p4_tree.specs.Tree.{Stmts, done, next, and_then, block, otherwise}
use Rattle.p4_tree.specs.View.{stmt_of, stmts_of}
use Rattle.p4_tree.specs.declared.statement.Stmt as code
use Rattle.lowered_code.specs.Statements.{maybe_else}

stmts_append : (xs ys : List code.Stmt) → stmts_of (xs ++ ys) ≡ and_then (stmts_of xs) (stmts_of ys)
stmts_append [] ys = refl
stmts_append (x ∷ xs) ys = ap (next (stmt_of x)) (stmts_append xs ys)

joined : (a b c : Stmts) → and_then (and_then a b) c ≡ and_then a (and_then b c)
joined done b c = refl
joined (next s a) b c = ap (next s) (joined a b c)

pub joined_done : (a : Stmts) → and_then a done ≡ a
joined_done done = refl
joined_done (next s a) = ap (next s) (joined_done a)

-- a list that was appended
pub block_is : (new old more : List code.Stmt) (a b : Stmts) → new ≡ old ++ more → stmts_of old ≡ a → stmts_of more ≡ b → stmts_of new ≡ and_then a b
block_is new old more a b appended first rest = ap stmts_of appended ∙ stmts_append old more ∙ ap (λ x. and_then x (stmts_of more)) first ∙ ap (and_then a) rest

-- the same, with statements behind it
pub block_more : (new old more : List code.Stmt) (b rest : Stmts) → new ≡ old ++ more → stmts_of more ≡ b
    → and_then (stmts_of new) rest ≡ and_then (stmts_of old) (and_then b rest)
block_more new old more b rest appended is =
    ap (λ x. and_then x rest) (block_is new old more (stmts_of old) b appended refl is) ∙ joined (stmts_of old) b rest

-- a statement that was pushed, with statements behind it
pub stmt_more : (new old : List code.Stmt) (s : code.Stmt) (rest : Stmts) → new ≡ old ++ s ∷ [] → and_then (stmts_of new) rest ≡ and_then (stmts_of old) (next (stmt_of s) rest)
stmt_more new old s rest pushed = block_more new old (s ∷ []) (next (stmt_of s) done) rest pushed refl

-- an `else` with statements
pub some_else : (xs : List code.Stmt) (n : ℕ) (b : Bool) → n ≡ length xs → b ≡ nat_eq n 0 → b ≡ false → otherwise (block 0 (stmts_of xs)) ≡ maybe_else (stmts_of xs)
some_else [] n b e f g = absurd (let h : true ≡ false = ap (λ (m : ℕ). nat_eq m 0) (sym e) ∙ sym f ∙ g in cc)
some_else (x ∷ xs) n b e f g = refl
