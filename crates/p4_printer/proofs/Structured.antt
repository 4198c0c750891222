-- What is spelled can be spelled: lists, expressions and statements.
use Rattle.std.proofs.Common.{ℕ, Bool, List, [], ◌∷◌, ◌++◌, Option, refl, arith, inl, inr}
use Rattle.lex_text.specs.declared.token.Words.TheVariants.{P4}
use Rattle.lex_words.specs.Seen.{Lexeme}
use Rattle.lex_words.specs.Written.{AreLexemes}
use Rattle.p4_tree.specs.Tree.{Expr, Arg, Stmt, Stmts}
use Rattle.p4_tree.specs.declared.statement.PTy.{PTy}
use Rattle.p4_spelling.specs.Operators.{top}
use Rattle.p4_spelling.specs.Lists.{SpellsList, SpellsSome, SpellsEach, last, then, no_item, items, no_more, one_more}
use Rattle.p4_spelling.specs.Types.{SpellsScalar, SpellsType, a_bool, a_bit, bits, a_scalar, a_name}
use Rattle.p4_spelling.specs.Expressions.{SpellsPath, last_name, then_names, SpellsPostfix, a_number, a_true, a_false, an_error, a_path, a_validity, an_application, in_brackets, a_slice, Spells, a_postfix, a_not, an_inversion, an_opposite, a_cast, tighter, joined, a_conditional}
use Rattle.p4_spelling.specs.Statements as stmts
use Rattle.p4_spelling.specs.Statements.{SpellsStart, no_start, a_start, SpellsVar, a_var, SpellsConst, a_const, SpellsArg, an_expr, several, SpellsAssign, an_assign, SpellsStmt, a_semicolon, a_block, an_assignment, a_call, a_return, an_exit, an_if, an_if_else, SpellsBlock, in_braces, SpellsMany, then_var, then_stmt}
use Rattle.p4_printer.specs.CanSpell.{IsName, EachCan, SomeCan, MayCan, CanSpellScalar, CanSpellType, CanSpellPath, CanSpellExpr, CanSpellArg, CanSpellVar, CanSpellConst, CanSpellStmt, CanSpellStmts}
use Rattle.p4_printer.proofs.Fits.{each_of}

-- ---- parts of lexemes

pub are_left : (u v : List Lexeme) → AreLexemes P4 (u ++ v) → AreLexemes P4 u
are_left [] v a = tt
are_left (x ∷ u) v a = (a.0, are_left u v a.1)

pub are_right : (u v : List Lexeme) → AreLexemes P4 (u ++ v) → AreLexemes P4 v
are_right [] v a = a
are_right (x ∷ u) v a = are_right u v a.1

-- ---- lists

module _ {A : Type 0} (S : (p : ℕ) → A → List Lexeme → Type 0) (C : A → Type 0) (go : (p : ℕ) (a : A) (u : List Lexeme) → S p a u → AreLexemes P4 u → C a) where
  pub each_can : {p : ℕ} {list : List A} {u : List Lexeme} → SpellsEach S p list u → AreLexemes P4 u → EachCan C list
  each_can no_more a = tt
  each_can {p = p} (one_more {a = x} {u = u} {v = v} s t) a = (go p x u s (are_left u v a), each_can t (are_right u v a))

  pub list_can : {p : ℕ} {list : List A} {u : List Lexeme} → SpellsList S p list u → AreLexemes P4 u → SomeCan C list
  list_can {p = p} (last {a = x} {u = u} s) a = (go p x u s a, tt)
  list_can {p = p} (then {a = x} {rest = rest} {u = u} s t) a = (go p x u s (are_left u _ a), each_of C rest (list_can t (are_right u _ a).1))

  pub some_can : {p : ℕ} {list : List A} {u : List Lexeme} → SpellsSome S p list u → AreLexemes P4 u → EachCan C list
  some_can no_item a = tt
  some_can (items {list = list} s) a = each_of C list (list_can s a)

-- ---- types and paths

scalar_can : {t : PTy} {u : List Lexeme} → SpellsScalar t u → CanSpellScalar t
scalar_can a_bool = tt
scalar_can a_bit = omega arith
scalar_can (bits n low) = low

scalar_type : {t : PTy} {u : List Lexeme} → SpellsScalar t u → CanSpellType t
scalar_type a_bool = tt
scalar_type a_bit = omega arith
scalar_type (bits n low) = low

pub type_can : {t : PTy} {u : List Lexeme} → SpellsType t u → AreLexemes P4 u → CanSpellType t
type_can (a_scalar s) a = scalar_type s
type_can (a_name x) a = a.0

pub path_can : {xs : List (List ℕ)} {u : List Lexeme} → SpellsPath xs u → AreLexemes P4 u → CanSpellPath xs
path_can (last_name x) a = (a.0, tt)
path_can (then_names x {xs = xs} s) a = (a.0, each_of IsName xs (path_can s a.1.1))

-- ---- expressions

mutual
  postfix_can : {p : ℕ} {t : Expr} {u : List Lexeme} → SpellsPostfix p t u → AreLexemes P4 u → CanSpellExpr t
  postfix_can (a_number n) a = a.0
  postfix_can a_true a = tt
  postfix_can a_false a = tt
  postfix_can (an_error x) a = a.1.1.0
  postfix_can (a_path s) a = path_can s a
  postfix_can (a_validity {u = u} s) a = path_can s (are_left u _ a)
  postfix_can (an_application t hit) a = a.0
  postfix_can (in_brackets {u = u} s) a = can s (are_left u _ a.1)
  postfix_can (a_slice {u = u} high low h l s) a = (postfix_can s (are_left u _ a), h, l)

  pub can : {l p : ℕ} {t : Expr} {u : List Lexeme} → Spells l p t u → AreLexemes P4 u → CanSpellExpr t
  can (a_postfix s) a = postfix_can s a
  can (a_not s) a = can s a.1
  can (an_inversion s) a = can s a.1
  can (an_opposite s) a = can s a.1
  can (a_cast {u = u} s t) a = (scalar_can s, can t (are_right u _ a.1).1)
  can (tighter s) a = can s a
  can (joined {u = u} x op e s t) a = (can s (are_left u _ a), can t (are_right u _ a).1)
  can (a_conditional {u = u} {v = v} s t r) a = (can s (are_left u _ a), can t (are_left v _ (are_right u _ a).1), can r (are_right v _ (are_right u _ a).1).1)

pub exprs_can : (p : ℕ) (t : Expr) (u : List Lexeme) → Spells top p t u → AreLexemes P4 u → CanSpellExpr t
exprs_can p t u s a = can s a

-- ---- variables, constants and arguments

start_can : {p : ℕ} {e : Option Expr} {u : List Lexeme} → SpellsStart p e u → AreLexemes P4 u → MayCan CanSpellExpr e
start_can no_start a = tt
start_can (a_start s) a = can s a.1

pub var_can : {p : ℕ} {t : PTy} {x : List ℕ} {e : Option Expr} {u : List Lexeme} → SpellsVar p t x e u → AreLexemes P4 u → CanSpellVar t x e
var_can (a_var {u = u} {v = v} x s r) a = (type_can s (are_left u _ a), (are_right u _ a).0, start_can r (are_left v _ (are_right u _ a).1))

pub const_can : {p : ℕ} {t : PTy} {x : List ℕ} {e : Expr} {u : List Lexeme} → SpellsConst p t x e u → AreLexemes P4 u → CanSpellConst t x e
const_can (a_const {u = u} {v = v} x s r) a = (type_can s (are_left u _ a.1), (are_right u _ a.1).0, can r (are_left v _ (are_right u _ a.1).1.1))

arg_can : (p : ℕ) (t : Arg) (u : List Lexeme) → SpellsArg p t u → AreLexemes P4 u → CanSpellArg t
arg_can p _ _ (an_expr s) a = can s a
arg_can p _ _ (several {u = u} s) a = list_can (Spells top) CanSpellExpr exprs_can s (are_left u _ a.1)

-- ---- statements

pub assign_can : (closed : Bool) {p : ℕ} {s : Stmt} {u : List Lexeme} → SpellsAssign p s u → AreLexemes P4 u → CanSpellStmt closed s
assign_can closed (an_assign {u = u} {v = v} s r) a = (path_can s (are_left u _ a), can r (are_left v _ (are_right u _ a).1))

mutual
  stmt_can : {closed : Bool} {p : ℕ} {t : Stmt} {u : List Lexeme} → SpellsStmt closed p t u → AreLexemes P4 u → CanSpellStmt closed t
  stmt_can a_semicolon a = tt
  stmt_can (a_block s) a = block_can s a
  stmt_can {closed = closed} (an_assignment s) a = assign_can closed s a
  stmt_can (a_call {u = u} {v = v} s r) a = (path_can s (are_left u _ a), some_can SpellsArg CanSpellArg arg_can r (are_left v _ (are_right u _ a).1))
  stmt_can a_return a = tt
  stmt_can an_exit a = tt
  stmt_can (an_if {u = u} s r) a = (can s (are_left u _ a.1.1), stmt_can r (are_right u _ a.1.1).1, refl)
  stmt_can (an_if_else {u = u} {v = v} s r t) a = (can s (are_left u _ a.1.1), stmt_can r (are_left v _ (are_right u _ a.1.1).1), stmt_can t (are_right v _ (are_right u _ a.1.1).1).1)

  pub block_can : {p : ℕ} {ss : Stmts} {u : List Lexeme} → SpellsBlock p ss u → AreLexemes P4 u → CanSpellStmts ss
  block_can (in_braces {u = u} s) a = many_can s (are_left u _ a.1)

  many_can : {p : ℕ} {ss : Stmts} {u : List Lexeme} → SpellsMany p ss u → AreLexemes P4 u → CanSpellStmts ss
  many_can stmts.no_more a = tt
  many_can (then_var {u = u} {v = v} s r) a = (inr (var_can s (are_left u v a)), many_can r (are_right u v a))
  many_can (then_stmt {u = u} {v = v} s r) a = (inl (stmt_can s (are_left u v a)), many_can r (are_right u v a))
