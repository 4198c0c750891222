-- The lexemes of declarations and of whole programs.
use Rattle.std.specs.Prelude.{ℕ, List, [], ◌∷◌, ◌++◌, map, Bool, true, false, Option, Some, None, codes}
use Rattle.lex_words.specs.Seen.{Lexeme, name, number, key, include}
use Rattle.lex_words.specs.declared.key.Key.{Key}
use Rattle.lex_words.specs.declared.key.Key.TheVariants as k
use Rattle.p4_tree.specs.Tree.{Expr, Stmts, stmts_from, Keyset, any, only, masked, Case, Transition, nowhere, to, select, ParserState, Action, Table, Local, local_action, local_table, local_register, local_const, local_var, Control, Parser, Top, constant, typedef, header_type, struct_type, register, parser, control, Program}
use Rattle.p4_tree.specs.declared.statement.PTy.{PTy}
use Rattle.p4_tree.specs.declared.program.Param.{Param}
use Rattle.p4_tree.specs.declared.program.Register.{Register}
use Rattle.p4_tree.specs.declared.program.Way.{Way}
use Rattle.p4_tree.specs.declared.program.Way.TheVariants as way
use Rattle.p4_spelling.specs.Words.{apply_name, key_name, size_name, actions_name, default_name, main_name}
use Rattle.p4_printer.specs.Layout.{text_of, bare, in_row, separated, bracketed, braced}
use Rattle.p4_printer.specs.Expressions.{lexemes_of_type, lexemes_of_expr, lexemes_of_exprs}
use Rattle.p4_printer.specs.Statements.{lexemes_of_var, lexemes_of_stmts}

-- ---- parsers

-- the lexeme before a parameter's type, where it has one
abbrev pub lexemes_of_way : Way → List Lexeme
lexemes_of_way way.Plain = []
lexemes_of_way way.Into = key k.In ∷ []
lexemes_of_way way.Out = key k.Out ∷ []
lexemes_of_way way.Both = key k.Inout ∷ []

-- the lexemes of a parameter
abbrev pub lexemes_of_param : Param → List Lexeme
lexemes_of_param p = lexemes_of_way p.way ++ (lexemes_of_type p.ty ++ name p.name ∷ [])

-- the lexemes of parameters with commas between
abbrev pub lexemes_of_params : List Param → List Lexeme
lexemes_of_params ps = separated (key k.Comma) (map lexemes_of_param ps)

-- the lexemes of a key of a `select`
abbrev pub lexemes_of_keyset : Keyset → List Lexeme
lexemes_of_keyset (any p) = key k.Default ∷ []
lexemes_of_keyset (only p e) = lexemes_of_expr e
lexemes_of_keyset (masked p e m) = lexemes_of_expr e ++ key k.Mask ∷ lexemes_of_expr m

-- the lexemes of a case's keys: one stands plain, several stand in round brackets
abbrev pub lexemes_of_keys : List Keyset → List Lexeme
lexemes_of_keys (s ∷ []) = lexemes_of_keyset s
lexemes_of_keys ss = bracketed (separated (key k.Comma) (map lexemes_of_keyset ss))

-- the lexemes of a case
abbrev pub lexemes_of_case : Case → List Lexeme
lexemes_of_case c = lexemes_of_keys c.keys ++ key k.Colon ∷ name c.next ∷ key k.Semicolon ∷ []

-- the lexemes of a way to one state
abbrev pub lexemes_of_next : List ℕ → List Lexeme
lexemes_of_next x = key k.Transition ∷ name x ∷ key k.Semicolon ∷ []

-- the lexemes of a `select`
abbrev pub lexemes_of_select : List Expr → List Case → List Lexeme
lexemes_of_select es cases = key k.Transition ∷ key k.Select ∷ key k.Open ∷ (lexemes_of_exprs es ++ key k.Close ∷ braced (in_row (map lexemes_of_case cases)))

-- the lexemes of how a state goes on
abbrev pub lexemes_of_transition : Transition → List Lexeme
lexemes_of_transition (nowhere p) = []
lexemes_of_transition (to p x) = lexemes_of_next x
lexemes_of_transition (select p es cases) = lexemes_of_select es cases

-- the lexemes of a parser's state
abbrev pub lexemes_of_state : ParserState → List Lexeme
lexemes_of_state s = key k.State ∷ name s.name ∷ key k.BraceOpen ∷ (lexemes_of_stmts (stmts_from s.body) ++ (lexemes_of_transition s.next ++ key k.BraceClose ∷ []))

-- the lexemes of a parser
abbrev pub lexemes_of_parser : Parser → List Lexeme
lexemes_of_parser d = key k.Parser ∷ name d.name ∷ key k.Open ∷ (lexemes_of_params d.params ++ key k.Close ∷ braced (in_row (map lexemes_of_state d.states)))

-- ---- controls

-- the lexemes of a register
abbrev pub lexemes_of_register : Register → List Lexeme
lexemes_of_register r = key k.Register ∷ key k.Less ∷ (lexemes_of_type r.ty ++ key k.More ∷ key k.Open ∷ number (bare r.count) ∷ key k.Close ∷ name r.name ∷ key k.Semicolon ∷ [])

-- the lexemes of a constant
abbrev pub lexemes_of_constant : PTy → List ℕ → Expr → List Lexeme
lexemes_of_constant ty x e = key k.Const ∷ (lexemes_of_type ty ++ name x ∷ key k.Assign ∷ (lexemes_of_expr e ++ key k.Semicolon ∷ []))

-- the lexemes of a parameter of an action
abbrev pub lexemes_of_action_param : PTy × List ℕ → List Lexeme
lexemes_of_action_param f = lexemes_of_type f.0 ++ name f.1 ∷ []

-- the lexemes of the parameters of an action
abbrev pub lexemes_of_action_params : List (PTy × List ℕ) → List Lexeme
lexemes_of_action_params fs = separated (key k.Comma) (map lexemes_of_action_param fs)

-- the lexemes of an action
abbrev pub lexemes_of_action : Action → List Lexeme
lexemes_of_action a = key k.Action ∷ name a.name ∷ key k.Open ∷ (lexemes_of_action_params a.params ++ key k.Close ∷ braced (lexemes_of_stmts a.body))

-- the lexemes of a table's key, with the name of its kind
abbrev pub lexemes_of_key : Expr × List ℕ → List Lexeme
lexemes_of_key e = lexemes_of_expr e.0 ++ key k.Colon ∷ name e.1 ∷ key k.Semicolon ∷ []

-- the lexemes of an action that a table lists
abbrev pub lexemes_of_listed : List ℕ → List Lexeme
lexemes_of_listed x = name x ∷ key k.Semicolon ∷ []

-- the lexemes of a table's keys and of its actions
abbrev pub lexemes_of_key_list : List (Expr × List ℕ) → List Lexeme
lexemes_of_key_list es = name key_name ∷ key k.Assign ∷ braced (in_row (map lexemes_of_key es))

abbrev pub lexemes_of_action_list : List (List ℕ) → List Lexeme
lexemes_of_action_list xs = name actions_name ∷ key k.Assign ∷ braced (in_row (map lexemes_of_listed xs))

-- the lexemes of a table's size, where one is written
abbrev pub lexemes_of_size : Option ℕ → List Lexeme
lexemes_of_size None = []
lexemes_of_size (Some n) = name size_name ∷ key k.Assign ∷ number (bare n) ∷ key k.Semicolon ∷ []

-- the lexeme before a default action that is `const`
abbrev pub lexemes_of_fixed : Bool → List Lexeme
lexemes_of_fixed true = key k.Const ∷ []
lexemes_of_fixed false = []

-- the lexemes of an action with its arguments
abbrev pub lexemes_of_given : List ℕ × List Expr → List Lexeme
lexemes_of_given d = name d.0 ∷ key k.Open ∷ (lexemes_of_exprs d.1 ++ key k.Close ∷ key k.Semicolon ∷ [])

-- the lexemes of a table's default action, where one is written
abbrev pub lexemes_of_default : (fixed : Bool) → Option (List ℕ × List Expr) → List Lexeme
lexemes_of_default b None = []
lexemes_of_default b (Some d) = lexemes_of_fixed b ++ name default_name ∷ key k.Assign ∷ lexemes_of_given d

-- the lexemes of a table's properties: keys, actions, size and default action
abbrev pub lexemes_of_properties : Table → List Lexeme
lexemes_of_properties t = lexemes_of_key_list t.keys ++ (lexemes_of_action_list t.actions ++ (lexemes_of_size t.size ++ lexemes_of_default t.fixed t.default))

-- the lexemes of a table
abbrev pub lexemes_of_table : Table → List Lexeme
lexemes_of_table t = key k.Table ∷ name t.name ∷ braced (lexemes_of_properties t)

-- the lexemes of a declaration inside a control
abbrev pub lexemes_of_local : Local → List Lexeme
lexemes_of_local (local_action p a) = lexemes_of_action a
lexemes_of_local (local_table p t) = lexemes_of_table t
lexemes_of_local (local_register p r) = lexemes_of_register r
lexemes_of_local (local_const p ty x e) = lexemes_of_constant ty x e
lexemes_of_local (local_var p ty x start) = lexemes_of_var ty x start

-- the lexemes of the inside of a control
abbrev pub lexemes_of_inside : List Local → Stmts → List Lexeme
lexemes_of_inside locals ss = in_row (map lexemes_of_local locals) ++ name apply_name ∷ (braced (lexemes_of_stmts ss) ++ key k.BraceClose ∷ [])

-- the lexemes of a control
abbrev pub lexemes_of_control : Control → List Lexeme
lexemes_of_control d = key k.Control ∷ name d.name ∷ key k.Open ∷ (lexemes_of_params d.params ++ key k.Close ∷ key k.BraceOpen ∷ lexemes_of_inside d.locals d.apply)

-- ---- programs

-- the lexemes of a field
abbrev pub lexemes_of_field : PTy × List ℕ → List Lexeme
lexemes_of_field f = lexemes_of_type f.0 ++ name f.1 ∷ key k.Semicolon ∷ []

-- the lexemes of a header type or a struct: which of the two, its name and its fields
abbrev pub lexemes_of_fields : (kind : Key) → List ℕ → List (PTy × List ℕ) → List Lexeme
lexemes_of_fields kind x fields = key kind ∷ name x ∷ braced (in_row (map lexemes_of_field fields))

-- the lexemes of a typedef
abbrev pub lexemes_of_typedef : PTy → List ℕ → List Lexeme
lexemes_of_typedef ty x = key k.Typedef ∷ (lexemes_of_type ty ++ name x ∷ key k.Semicolon ∷ [])

-- the lexemes of a declaration at top level
abbrev pub lexemes_of_top : Top → List Lexeme
lexemes_of_top (constant p ty x e) = lexemes_of_constant ty x e
lexemes_of_top (typedef p ty x) = lexemes_of_typedef ty x
lexemes_of_top (header_type p x fields) = lexemes_of_fields k.Header x fields
lexemes_of_top (struct_type p x fields) = lexemes_of_fields k.Struct x fields
lexemes_of_top (register p r) = lexemes_of_register r
lexemes_of_top (parser p d) = lexemes_of_parser d
lexemes_of_top (control p d) = lexemes_of_control d

-- the lexemes of a parser or control that `main` names
abbrev pub lexemes_of_part : List ℕ → List Lexeme
lexemes_of_part x = name x ∷ key k.Open ∷ key k.Close ∷ []

-- the lexemes of `main`
abbrev pub lexemes_of_main : List (List ℕ) → List Lexeme
lexemes_of_main names = key k.V1Switch ∷ key k.Open ∷ (separated (key k.Comma) (map lexemes_of_part names) ++ key k.Close ∷ name main_name ∷ key k.Semicolon ∷ [])

-- what every program includes; it is no part of the tree
abbrev pub lexemes_of_includes : List Lexeme
lexemes_of_includes = include (codes "#include <core.p4>") ∷ include (codes "#include <v1model.p4>") ∷ []

-- the lexemes of a program
abbrev pub lexemes_of_program : Program → List Lexeme
lexemes_of_program p = lexemes_of_includes ++ (in_row (map lexemes_of_top p.tops) ++ lexemes_of_main p.main)

-- the text of a program
abbrev pub program_text : Program → List ℕ
program_text p = text_of (lexemes_of_program p)
