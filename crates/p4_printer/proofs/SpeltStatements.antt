-- What can be spelled is spelled but for places: variables and statements.
use Rattle.std.proofs.Common.{◌≡◌, ℕ, ◌+◌, Bool, true, false, List, [], ◌∷◌, ◌++◌, length, map, Option, Some, None, refl, sym, ap, subst, inl, inr}
use Rattle.std.specs.Option.{option_map}
use Rattle.std.proofs.lemmas.List.{append-nil}
use Rattle.lex_words.specs.Seen.{Lexeme, key}
use Rattle.lex_words.specs.declared.key.Key.TheVariants as k
use Rattle.p4_tree.specs.Tree.{Expr, Arg, one, many, Stmt, Stmts, nothing, block, var, assign, choice, return_, exit_, call, done, next, without, otherwise}
use Rattle.p4_tree.specs.Places.{plain, plain_arg, plain_stmt, plain_stmts}
use Rattle.p4_tree.specs.declared.statement.PTy.{PTy}
use Rattle.p4_spelling.specs.Operators.{top}
use Rattle.p4_spelling.specs.Lists.{SpellsSome}
use Rattle.p4_spelling.specs.Expressions.{Spells}
use Rattle.p4_spelling.specs.Statements.{SpellsStart, no_start, a_start, SpellsVar, a_var, SpellsConst, a_const, SpellsArg, an_expr, several, SpellsAssign, an_assign, SpellsStmt, a_semicolon, a_block, an_assignment, a_call, a_return, an_exit, an_if, an_if_else, SpellsBlock, in_braces, SpellsMany, no_more, then_var, then_stmt}
use Rattle.p4_printer.specs.Expressions.{lexemes_of_type, lexemes_of_path, lexemes_of_expr, lexemes_of_arg, lexemes_of_args}
use Rattle.p4_printer.specs.Statements.{lexemes_of_start, lexemes_of_var, lexemes_of_stmt, lexemes_of_stmts}
use Rattle.p4_printer.specs.Programs.{lexemes_of_constant}
use Rattle.p4_printer.specs.CanSpell.{MayCan, CanSpellPath, CanSpellExpr, CanSpellArg, CanSpellVar, CanSpellConst, CanSpellStmt, CanSpellStmts, IsVar}
use Rattle.p4_printer.proofs.Spelt.{Spelt, two, three, spelt_some, spelt_type, spelt_path, spelt_expr, spelt_exprs}

-- ---- variables, constants and arguments

spelt_start : (e : Option Expr) → MayCan CanSpellExpr e → (p : ℕ) → Spelt (option_map plain) SpellsStart p e (lexemes_of_start e)
spelt_start None c p = record { tree = None; same = refl; spells = no_start }
spelt_start (Some e) c p = let r = spelt_expr e c (p + 1) in record { tree = Some r.tree; same = ap Some r.same; spells = a_start r.spells }

abbrev pub SpellsVarOf : PTy → List ℕ → (p : ℕ) → Option Expr → List Lexeme → Type 0
SpellsVarOf t x p e u = SpellsVar p t x e u

abbrev pub SpellsConstOf : PTy → List ℕ → (p : ℕ) → Expr → List Lexeme → Type 0
SpellsConstOf t x p e u = SpellsConst p t x e u

pub spelt_var : (t : PTy) (x : List ℕ) (e : Option Expr) → CanSpellVar t x e → (p : ℕ) → Spelt (option_map plain) (SpellsVarOf t x) p e (lexemes_of_var t x e)
spelt_var t x e c p = let r = spelt_start e c.2 (p + length (lexemes_of_type t) + 1) in record { tree = r.tree; same = r.same; spells = a_var x (spelt_type t c.0) r.spells }

pub spelt_const : (t : PTy) (x : List ℕ) (e : Expr) → CanSpellConst t x e → (p : ℕ) → Spelt plain (SpellsConstOf t x) p e (lexemes_of_constant t x e)
spelt_const t x e c p = let r = spelt_expr e c.2 (p + 1 + length (lexemes_of_type t) + 1 + 1) in record { tree = r.tree; same = r.same; spells = a_const x (spelt_type t c.0) r.spells }

spelt_arg : (a : Arg) → CanSpellArg a → (p : ℕ) → Spelt plain_arg SpellsArg p a (lexemes_of_arg a)
spelt_arg (one q e) c p = let r = spelt_expr e c p in record { tree = one p r.tree; same = ap (one 0) r.same; spells = an_expr r.spells }
spelt_arg (many q es) c p = let r = spelt_exprs es c (p + 1) in record { tree = many p r.tree; same = ap (many 0) r.same; spells = several r.spells }

pub spelt_assign : (q : ℕ) (xs : List (List ℕ)) (e : Expr) → CanSpellPath xs → CanSpellExpr e → (p : ℕ) → Spelt plain_stmt SpellsAssign p (assign q xs e) (lexemes_of_stmt (assign q xs e))
spelt_assign q xs e c d p =
    let r = spelt_expr e d (p + length (lexemes_of_path xs) + 1) in
    record { tree = assign p xs r.tree; same = ap (assign 0 xs) r.same; spells = an_assign (spelt_path xs c) r.spells }

-- ---- statements

abbrev Statement : Bool → (p : ℕ) → Stmt → List Lexeme → Type 0
Statement closed p s u = Spelt plain_stmt (SpellsStmt closed) p s u

if_of : {closed : Bool} {p q : ℕ} {e : Expr} {a : Stmt} {u v : List Lexeme} → closed ≡ false → Spelt plain (Spells top) (p + 1 + 1) e u → Statement false (p + 1 + 1 + length u + 1) a v
    → Statement closed p (choice q e a without) (key k.If ∷ key k.Open ∷ (u ++ key k.Close ∷ (v ++ [])))
if_of {p = p} {q = q} {e = e} {a = a} {u = u} {v = v} is x y =
    subst (λ b. Statement b p (choice q e a without) (key k.If ∷ key k.Open ∷ (u ++ key k.Close ∷ (v ++ [])))) (sym is)
    (record {
      tree = choice p x.tree y.tree without;
      same = two (λ s t. choice 0 s t without) x.same y.same;
      spells = subst (λ z. SpellsStmt false p (choice p x.tree y.tree without) (key k.If ∷ key k.Open ∷ (u ++ key k.Close ∷ z))) (sym (append-nil v)) (an_if x.spells y.spells);
    })

if_else_of : {closed : Bool} {p q : ℕ} {e : Expr} {a b : Stmt} {u v w : List Lexeme} → Spelt plain (Spells top) (p + 1 + 1) e u → Statement true (p + 1 + 1 + length u + 1) a v
    → Statement closed (p + 1 + 1 + length u + 1 + length v + 1) b w → Statement closed p (choice q e a (otherwise b)) (key k.If ∷ key k.Open ∷ (u ++ key k.Close ∷ (v ++ key k.Else ∷ w)))
if_else_of {p = p} x y z = record {
  tree = choice p x.tree y.tree (otherwise z.tree);
  same = three (λ r s t. choice 0 r s (otherwise t)) x.same y.same z.same;
  spells = an_if_else x.spells y.spells z.spells;
}

many_of : {p : ℕ} {s : Stmt} {ss : Stmts} {u v : List Lexeme} → Statement false p s u → Spelt plain_stmts SpellsMany (p + length u) ss v → Spelt plain_stmts SpellsMany p (next s ss) (u ++ v)
many_of x y = record { tree = next x.tree y.tree; same = two next x.same y.same; spells = then_stmt x.spells y.spells }

with_var : {p : ℕ} {ss : Stmts} {v : List Lexeme} (s : Stmt) → IsVar s → Spelt plain_stmts SpellsMany (p + length (lexemes_of_stmt s)) ss v → Spelt plain_stmts SpellsMany p (next s ss) (lexemes_of_stmt s ++ v)
with_var {p = p} (var q t x e) c y =
    let r = spelt_var t x e c p in
    record { tree = next (var p t x r.tree) y.tree; same = two (λ z w. next (var 0 t x z) w) r.same y.same; spells = then_var r.spells y.spells }
with_var _ c y = absurd c

block_of : {closed : Bool} {p q : ℕ} {ss : Stmts} {u : List Lexeme} → Spelt plain_stmts SpellsMany (p + 1) ss u → Statement closed p (block q ss) (key k.BraceOpen ∷ (u ++ key k.BraceClose ∷ []))
block_of {p = p} x = record { tree = block p x.tree; same = ap (block 0) x.same; spells = a_block (in_braces x.spells) }

call_of : {closed : Bool} {p : ℕ} (q : ℕ) (xs : List (List ℕ)) (args : List Arg) → CanSpellPath xs → Spelt (map plain_arg) (SpellsSome SpellsArg) (p + length (lexemes_of_path xs) + 1) args (lexemes_of_args args)
    → Statement closed p (call q xs args) (lexemes_of_stmt (call q xs args))
call_of {p = p} q xs args c x = record { tree = call p xs x.tree; same = ap (call 0 xs) x.same; spells = a_call (spelt_path xs c) x.spells }

mutual
  pub spelt_stmt : (closed : Bool) (s : Stmt) → CanSpellStmt closed s → (p : ℕ) → Spelt plain_stmt (SpellsStmt closed) p s (lexemes_of_stmt s)
  spelt_stmt closed (nothing q) c p = record { tree = nothing p; same = refl; spells = a_semicolon }
  spelt_stmt closed (block q ss) c p = block_of (spelt_many ss c (p + 1))
  spelt_stmt closed (var q t x e) c p = absurd c
  spelt_stmt closed (assign q xs e) c p = let r = spelt_assign q xs e c.0 c.1 p in record { tree = r.tree; same = r.same; spells = an_assignment r.spells }
  spelt_stmt closed (choice q e a without) c p = if_of c.2 (spelt_expr e c.0 (p + 1 + 1)) (spelt_stmt false a c.1 (p + 1 + 1 + length (lexemes_of_expr e) + 1))
  spelt_stmt closed (choice q e a (otherwise b)) c p =
      if_else_of (spelt_expr e c.0 (p + 1 + 1)) (spelt_stmt true a c.1 (p + 1 + 1 + length (lexemes_of_expr e) + 1))
      (spelt_stmt closed b c.2 (p + 1 + 1 + length (lexemes_of_expr e) + 1 + length (lexemes_of_stmt a) + 1))
  spelt_stmt closed (return_ q) c p = record { tree = return_ p; same = refl; spells = a_return }
  spelt_stmt closed (exit_ q) c p = record { tree = exit_ p; same = refl; spells = an_exit }
  spelt_stmt closed (call q xs args) c p = call_of q xs args c.0 (spelt_some plain_arg SpellsArg CanSpellArg lexemes_of_arg spelt_arg args c.1 (p + length (lexemes_of_path xs) + 1))

  pub spelt_many : (ss : Stmts) → CanSpellStmts ss → (p : ℕ) → Spelt plain_stmts SpellsMany p ss (lexemes_of_stmts ss)
  spelt_many done c p = record { tree = done; same = refl; spells = no_more }
  spelt_many (next s ss) c p =
      let rest = spelt_many ss c.1 (p + length (lexemes_of_stmt s)) in
      elim c.0 [ inl i ↦ many_of (spelt_stmt false s i p) rest | inr i ↦ with_var s i rest ]

pub spelt_block : (ss : Stmts) → CanSpellStmts ss → (p : ℕ) → Spelt plain_stmts SpellsBlock p ss (key k.BraceOpen ∷ (lexemes_of_stmts ss ++ key k.BraceClose ∷ []))
spelt_block ss c p = let r = spelt_many ss c (p + 1) in record { tree = r.tree; same = r.same; spells = in_braces r.spells }
