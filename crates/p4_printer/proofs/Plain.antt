-- What is printed rests on no place.
use Rattle.std.proofs.Common.{◌≡◌, ℕ, Bool, List, [], ◌∷◌, ◌++◌, map, Option, Some, None, refl, sym, ap, ◌∙◌}
use Rattle.std.specs.Option.{option_map}
use Rattle.lex_words.specs.Seen.{Lexeme, name, key}
use Rattle.lex_words.specs.declared.key.Key.TheVariants as k
use Rattle.p4_tree.specs.Tree.{Expr, num, flag, path, valid, applied, error_name, negation, inversion, opposite, binary, conditional, slice, cast, Arg, one, many, Stmt, Stmts, MaybeStmt, nothing, block, var, assign, choice, return_, exit_, call, done, next, without, otherwise, stmts_from, Keyset, any, only, masked, Case, Transition, nowhere, to, select, ParserState, Action, Table, Local, local_action, local_table, local_register, local_const, local_var, Control, Parser, Top, constant, typedef, header_type, struct_type, register, parser, control, Program}
use Rattle.p4_tree.specs.Places.{plain, plain_arg, plain_stmt, plain_else, plain_stmts, plain_param, plain_keyset, plain_case, plain_transition, plain_state, plain_parser, plain_action, plain_key, plain_default, plain_table, plain_local, plain_control, plain_top, plain_program}
use Rattle.p4_tree.specs.declared.statement.PTy.{PTy}
use Rattle.p4_tree.specs.declared.program.Param.{Param}
use Rattle.p4_printer.specs.Layout.{in_row, separated, bracketed, braced, text_of}
use Rattle.p4_printer.specs.Expressions.{key_of_op, lexemes_of_type, lexemes_of_path, lexemes_of_bounds, lexemes_of_expr, lexemes_of_exprs, lexemes_of_arg}
use Rattle.p4_printer.specs.Statements.{lexemes_of_start, lexemes_of_var, lexemes_of_stmt, lexemes_of_else, lexemes_of_stmts}
use Rattle.p4_printer.specs.Programs.{lexemes_of_param, lexemes_of_keyset, lexemes_of_keys, lexemes_of_case, lexemes_of_transition, lexemes_of_state, lexemes_of_parser, lexemes_of_constant, lexemes_of_action_params, lexemes_of_action, lexemes_of_key, lexemes_of_action_list, lexemes_of_size, lexemes_of_fixed, lexemes_of_default, lexemes_of_table, lexemes_of_local, lexemes_of_control, lexemes_of_top, lexemes_of_main, lexemes_of_includes, lexemes_of_program}
use Rattle.p4_printer.specs.Laws.{SameHaveOneText}
use Rattle.p4_printer.proofs.Spelt.{two, three}
use Rattle.p4_spelling.specs.Words.{apply_name, key_name, default_name}

-- lists of what rests on no place
map_plain : {A : Type 0} (g : A → A) (f : A → List Lexeme) → ((a : A) → f (g a) ≡ f a) → (list : List A) → map f (map g list) ≡ map f list
map_plain g f go [] = refl
map_plain g f go (a ∷ rest) = two (λ s t. s ∷ t) (go a) (map_plain g f go rest)

-- ---- expressions and statements

expr_plain : (t : Expr) → lexemes_of_expr (plain t) ≡ lexemes_of_expr t
expr_plain (num p n) = refl
expr_plain (flag p b) = refl
expr_plain (path p xs) = refl
expr_plain (valid p xs) = refl
expr_plain (applied p x b) = refl
expr_plain (error_name p x) = refl
expr_plain (negation p a) = ap (λ z. bracketed (key k.Not ∷ z)) (expr_plain a)
expr_plain (inversion p a) = ap (λ z. bracketed (key k.Tilde ∷ z)) (expr_plain a)
expr_plain (opposite p a) = ap (λ z. bracketed (key k.Minus ∷ z)) (expr_plain a)
expr_plain (binary p o a b) = two (λ u v. bracketed (u ++ key (key_of_op o) ∷ v)) (expr_plain a) (expr_plain b)
expr_plain (conditional p t a b) = three (λ u v w. bracketed (u ++ key k.Question ∷ (v ++ key k.Colon ∷ w))) (expr_plain t) (expr_plain a) (expr_plain b)
expr_plain (slice p a high low) = ap (λ z. z ++ lexemes_of_bounds high low) (expr_plain a)
expr_plain (cast p t a) = ap (λ z. bracketed (key k.Open ∷ (lexemes_of_type t ++ key k.Close ∷ z))) (expr_plain a)

exprs_plain : (es : List Expr) → lexemes_of_exprs (map plain es) ≡ lexemes_of_exprs es
exprs_plain es = ap (separated (key k.Comma)) (map_plain plain lexemes_of_expr expr_plain es)

arg_plain : (a : Arg) → lexemes_of_arg (plain_arg a) ≡ lexemes_of_arg a
arg_plain (one p e) = expr_plain e
arg_plain (many p es) = ap braced (exprs_plain es)

start_plain : (e : Option Expr) → lexemes_of_start (option_map plain e) ≡ lexemes_of_start e
start_plain None = refl
start_plain (Some e) = ap (λ z. key k.Assign ∷ z) (expr_plain e)

var_plain : (t : PTy) (x : List ℕ) (e : Option Expr) → lexemes_of_var t x (option_map plain e) ≡ lexemes_of_var t x e
var_plain t x e = ap (λ z. lexemes_of_type t ++ name x ∷ (z ++ key k.Semicolon ∷ [])) (start_plain e)

const_plain : (t : PTy) (x : List ℕ) (e : Expr) → lexemes_of_constant t x (plain e) ≡ lexemes_of_constant t x e
const_plain t x e = ap (λ z. key k.Const ∷ (lexemes_of_type t ++ name x ∷ key k.Assign ∷ (z ++ key k.Semicolon ∷ []))) (expr_plain e)

call_plain : (xs : List (List ℕ)) (args : List Arg) → lexemes_of_stmt (call 0 xs (map plain_arg args)) ≡ lexemes_of_stmt (call 0 xs args)
call_plain xs args = ap (λ z. lexemes_of_path xs ++ key k.Open ∷ (z ++ key k.Close ∷ key k.Semicolon ∷ [])) (ap (separated (key k.Comma)) (map_plain plain_arg lexemes_of_arg arg_plain args))

choice_plain : {u v w x y z : List Lexeme} → u ≡ x → v ≡ y → w ≡ z → key k.If ∷ key k.Open ∷ (u ++ key k.Close ∷ (v ++ w)) ≡ key k.If ∷ key k.Open ∷ (x ++ key k.Close ∷ (y ++ z))
choice_plain p q r = three (λ u v w. key k.If ∷ key k.Open ∷ (u ++ key k.Close ∷ (v ++ w))) p q r

mutual
  stmt_plain : (s : Stmt) → lexemes_of_stmt (plain_stmt s) ≡ lexemes_of_stmt s
  stmt_plain (nothing p) = refl
  stmt_plain (block p ss) = ap braced (stmts_plain ss)
  stmt_plain (var p t x e) = var_plain t x e
  stmt_plain (assign p xs e) = ap (λ z. lexemes_of_path xs ++ key k.Assign ∷ (z ++ key k.Semicolon ∷ [])) (expr_plain e)
  stmt_plain (choice p e a b) = choice_plain (expr_plain e) (stmt_plain a) (else_plain b)
  stmt_plain (return_ p) = refl
  stmt_plain (exit_ p) = refl
  stmt_plain (call p xs args) = call_plain xs args

  else_plain : (s : MaybeStmt) → lexemes_of_else (plain_else s) ≡ lexemes_of_else s
  else_plain without = refl
  else_plain (otherwise s) = ap (λ z. key k.Else ∷ z) (stmt_plain s)

  stmts_plain : (ss : Stmts) → lexemes_of_stmts (plain_stmts ss) ≡ lexemes_of_stmts ss
  stmts_plain done = refl
  stmts_plain (next s ss) = two (λ u v. u ++ v) (stmt_plain s) (stmts_plain ss)

-- ---- parsers

params_plain : (ds : List Param) → map lexemes_of_param (map plain_param ds) ≡ map lexemes_of_param ds
params_plain ds = map_plain plain_param lexemes_of_param (λ d. refl) ds

keyset_plain : (s : Keyset) → lexemes_of_keyset (plain_keyset s) ≡ lexemes_of_keyset s
keyset_plain (any p) = refl
keyset_plain (only p e) = expr_plain e
keyset_plain (masked p e m) = two (λ u v. u ++ key k.Mask ∷ v) (expr_plain e) (expr_plain m)

keys_plain : (ss : List Keyset) → lexemes_of_keys (map plain_keyset ss) ≡ lexemes_of_keys ss
keys_plain [] = refl
keys_plain (s ∷ []) = keyset_plain s
keys_plain (s ∷ t ∷ rest) = ap (λ z. bracketed (separated (key k.Comma) z)) (map_plain plain_keyset lexemes_of_keyset keyset_plain (s ∷ t ∷ rest))

case_plain : (d : Case) → lexemes_of_case (plain_case d) ≡ lexemes_of_case d
case_plain d = ap (λ z. z ++ key k.Colon ∷ name d.next ∷ key k.Semicolon ∷ []) (keys_plain d.keys)

transition_plain : (t : Transition) → lexemes_of_transition (plain_transition t) ≡ lexemes_of_transition t
transition_plain (nowhere p) = refl
transition_plain (to p x) = refl
transition_plain (select p es cs) = two (λ u v. key k.Transition ∷ key k.Select ∷ key k.Open ∷ (u ++ key k.Close ∷ braced (in_row v))) (exprs_plain es) (map_plain plain_case lexemes_of_case case_plain cs)

body_plain : (ss : List Stmt) → lexemes_of_stmts (stmts_from (map plain_stmt ss)) ≡ lexemes_of_stmts (stmts_from ss)
body_plain [] = refl
body_plain (s ∷ rest) = two (λ u v. u ++ v) (stmt_plain s) (body_plain rest)

state_plain : (s : ParserState) → lexemes_of_state (plain_state s) ≡ lexemes_of_state s
state_plain s = two (λ u v. key k.State ∷ name s.name ∷ key k.BraceOpen ∷ (u ++ (v ++ key k.BraceClose ∷ []))) (body_plain s.body) (transition_plain s.next)

parser_plain : (d : Parser) → lexemes_of_parser (plain_parser d) ≡ lexemes_of_parser d
parser_plain d =
    two (λ u v. key k.Parser ∷ name d.name ∷ key k.Open ∷ (separated (key k.Comma) u ++ key k.Close ∷ braced (in_row v))) (params_plain d.params) (map_plain plain_state lexemes_of_state state_plain d.states)

-- ---- controls

action_plain : (d : Action) → lexemes_of_action (plain_action d) ≡ lexemes_of_action d
action_plain d = ap (λ z. key k.Action ∷ name d.name ∷ key k.Open ∷ (lexemes_of_action_params d.params ++ key k.Close ∷ braced z)) (stmts_plain d.body)

key_plain : (e : Expr × List ℕ) → lexemes_of_key (plain_key e) ≡ lexemes_of_key e
key_plain e = ap (λ z. z ++ key k.Colon ∷ name e.1 ∷ key k.Semicolon ∷ []) (expr_plain e.0)

default_plain : (b : Bool) (d : Option (List ℕ × List Expr)) → lexemes_of_default b (option_map plain_default d) ≡ lexemes_of_default b d
default_plain b None = refl
default_plain b (Some d) = ap (λ z. lexemes_of_fixed b ++ name default_name ∷ key k.Assign ∷ name d.0 ∷ key k.Open ∷ (z ++ key k.Close ∷ key k.Semicolon ∷ [])) (exprs_plain d.1)

table_plain : (d : Table) → lexemes_of_table (plain_table d) ≡ lexemes_of_table d
table_plain d =
    two (λ u v. key k.Table ∷ name d.name ∷ braced ((name key_name ∷ key k.Assign ∷ braced (in_row u)) ++ (lexemes_of_action_list d.actions ++ (lexemes_of_size d.size ++ v)))) (map_plain plain_key lexemes_of_key key_plain d.keys)
    (default_plain d.fixed d.default)

local_plain : (d : Local) → lexemes_of_local (plain_local d) ≡ lexemes_of_local d
local_plain (local_action p d) = action_plain d
local_plain (local_table p d) = table_plain d
local_plain (local_register p d) = refl
local_plain (local_const p t x e) = const_plain t x e
local_plain (local_var p t x e) = var_plain t x e

control_plain : (d : Control) → lexemes_of_control (plain_control d) ≡ lexemes_of_control d
control_plain d =
    three (λ u v w. key k.Control ∷ name d.name ∷ key k.Open ∷ (separated (key k.Comma) u ++ key k.Close ∷ key k.BraceOpen ∷ (in_row v ++ name apply_name ∷ (braced w ++ key k.BraceClose ∷ [])))) (params_plain d.params)
    (map_plain plain_local lexemes_of_local local_plain d.locals) (stmts_plain d.apply)

-- ---- programs

top_plain : (d : Top) → lexemes_of_top (plain_top d) ≡ lexemes_of_top d
top_plain (constant p t x e) = const_plain t x e
top_plain (typedef p t x) = refl
top_plain (header_type p x fs) = refl
top_plain (struct_type p x fs) = refl
top_plain (register p d) = refl
top_plain (parser p d) = parser_plain d
top_plain (control p d) = control_plain d

program_plain : (t : Program) → lexemes_of_program (plain_program t) ≡ lexemes_of_program t
program_plain t = ap (λ z. lexemes_of_includes ++ (in_row z ++ lexemes_of_main t.main)) (map_plain plain_top lexemes_of_top top_plain t.tops)

pub same_have_one_text : SameHaveOneText
same_have_one_text s t e = ap text_of (sym (program_plain s) ∙ ap lexemes_of_program e ∙ program_plain t)
