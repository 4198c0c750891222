-- What is spelled can be spelled: declarations and programs.
use Rattle.std.proofs.Common.{ℕ, List, [], ◌∷◌, Some, refl}
use Rattle.lex_text.specs.declared.token.Words.TheVariants.{P4}
use Rattle.lex_words.specs.Seen.{Lexeme}
use Rattle.lex_words.specs.Written.{AreLexemes}
use Rattle.p4_tree.specs.Tree.{Expr, Stmt, Keyset, Case, Transition, ParserState, Action, Table, Local, Control, Parser, Top, Program}
use Rattle.p4_tree.specs.declared.statement.PTy.{PTy}
use Rattle.p4_tree.specs.declared.program.Param.{Param}
use Rattle.p4_tree.specs.declared.program.Register.{Register}
use Rattle.p4_spelling.specs.Operators.{top}
use Rattle.p4_spelling.specs.Types.{SpellsParam, a_param, SpellsArgument, an_argument, SpellsField, a_field, SpellsClosed, closed, both_closed, SpellsRegister, a_register}
use Rattle.p4_spelling.specs.Expressions.{Spells}
use Rattle.p4_spelling.specs.Parsers as parsers
use Rattle.p4_spelling.specs.Parsers.{SpellsParserStmt, an_assignment, SpellsSimple, SpellsKeyset, a_default, a_low_line, a_value, a_mask, SpellsKeys, one_key, SpellsCase, a_case, SpellsNext, no_transition, a_transition, a_select, SpellsState, a_state, SpellsParser, a_parser}
use Rattle.p4_spelling.specs.Controls as controls
use Rattle.p4_spelling.specs.Controls.{SpellsAction, TableProp, keys, size, actions, default, SpellsKey, a_key, SpellsActionName, with_brackets, SpellsArguments, no_brackets, SpellsFixed, fixed, free, SpellsTableProp, the_keys, the_size, the_actions, the_default, keys_in, actions_in, size_in, default_in, fixed_in, SpellsTable, SpellsLocal, SpellsControl, a_control}
use Rattle.p4_spelling.specs.Programs as programs
use Rattle.p4_spelling.specs.Programs.{SpellsTop, SpellsIncludes, SpellsPart, a_part, SpellsProgram, a_program}
use Rattle.p4_spelling.specs.Statements.{an_assign}
use Rattle.p4_printer.specs.CanSpell.{EachCan, SomeCan, MayCan, IsName, IsCount, CanSpellType, CanSpellExpr, CanSpellParserStmt, CanSpellSimple, CanSpellKeyset, CanSpellCase, CanSpellNext, CanSpellState, CanSpellParam, CanSpellParser, CanSpellField, CanSpellAction, CanSpellKey, CanSpellDefault, CanSpellTable, CanSpellRegister, CanSpellLocal, CanSpellControl, CanSpellTop, CanSpell}
use Rattle.p4_printer.specs.Laws.{SpelledCanBe}
use Rattle.p4_printer.proofs.Structured.{are_left, are_right, each_can, list_can, some_can, type_can, path_can, can, exprs_can, var_can, const_can, block_can}

-- ---- parameters, fields and registers

param_can : (p : ℕ) (d : Param) (u : List Lexeme) → SpellsParam p d u → AreLexemes P4 u → CanSpellParam d
param_can p _ _ (a_param {u = u} {v = v} x w t) a = (type_can t (are_left v _ (are_right u _ a)), (are_right v _ (are_right u _ a)).0)

argument_can : (p : ℕ) (f : PTy × List ℕ) (u : List Lexeme) → SpellsArgument p f u → AreLexemes P4 u → CanSpellField f
argument_can p _ _ (an_argument {u = u} x t) a = (type_can t (are_left u _ a), (are_right u _ a).0)

field_can : (p : ℕ) (f : PTy × List ℕ) (u : List Lexeme) → SpellsField p f u → AreLexemes P4 u → CanSpellField f
field_can p _ _ (a_field {u = u} x t) a = (type_can t (are_left u _ a), (are_right u _ a).0)

closed_can : {t : PTy} {u : List Lexeme} → SpellsClosed t u → AreLexemes P4 u → CanSpellType t
closed_can (closed {u = u} s) a = type_can s (are_left u _ a)
closed_can (both_closed n low) a = low

register_can : {p : ℕ} {d : Register} {u : List Lexeme} → SpellsRegister p d u → AreLexemes P4 u → CanSpellRegister d
register_can (a_register {u = u} n x s) a = let b = are_right u _ a.1.1 in (closed_can s (are_left u _ a.1.1), b.1.0.1, b.1.1.1.0)

-- ---- parsers

parser_stmt_can : (p : ℕ) (s : Stmt) (u : List Lexeme) → SpellsParserStmt p s u → AreLexemes P4 u → CanSpellParserStmt s
parser_stmt_can p _ _ (an_assignment (an_assign {u = u} {v = v} s r)) a = (path_can s (are_left u _ a), can r (are_left v _ (are_right u _ a).1))
parser_stmt_can p _ _ (parsers.a_call {u = u} {v = v} s r) a = (path_can s (are_left u _ a), path_can r (are_left v _ (are_right u _ a).1))

simple_can : {p : ℕ} {e : Expr} {u : List Lexeme} → SpellsSimple p e u → AreLexemes P4 u → CanSpellSimple e
simple_can (parsers.a_number n) a = a.0
simple_can (parsers.a_name x) a = a.0
simple_can parsers.a_true a = tt
simple_can parsers.a_false a = tt

keyset_can : (p : ℕ) (s : Keyset) (u : List Lexeme) → SpellsKeyset p s u → AreLexemes P4 u → CanSpellKeyset s
keyset_can p _ _ a_default a = tt
keyset_can p _ _ a_low_line a = tt
keyset_can p _ _ (a_value s) a = simple_can s a
keyset_can p _ _ (a_mask {u = u} s r) a = (simple_can s (are_left u _ a), simple_can r (are_right u _ a).1)

keys_can : {p : ℕ} {ss : List Keyset} {u : List Lexeme} → SpellsKeys p ss u → AreLexemes P4 u → SomeCan CanSpellKeyset ss
keys_can {p = p} (one_key {s = s} {u = u} x) a = (keyset_can p s u x a, tt)
keys_can (parsers.in_brackets {u = u} s) a = list_can SpellsKeyset CanSpellKeyset keyset_can s (are_left u _ a.1)

case_can : (p : ℕ) (d : Case) (u : List Lexeme) → SpellsCase p d u → AreLexemes P4 u → CanSpellCase d
case_can p _ _ (a_case {u = u} x s) a = (keys_can s (are_left u _ a), (are_right u _ a).1.0)

next_can : {p : ℕ} {t : Transition} {u : List Lexeme} → SpellsNext p t u → AreLexemes P4 u → CanSpellNext t
next_can no_transition a = tt
next_can (a_transition x) a = a.1.0
next_can (a_select {u = u} {v = v} s r) a =
    let b = are_right u _ a.1.1.1 in
    (list_can (Spells top) CanSpellExpr exprs_can s (are_left u _ a.1.1.1), each_can SpellsCase CanSpellCase case_can r (are_left v _ b.1.1))

state_can : (p : ℕ) (s : ParserState) (u : List Lexeme) → SpellsState p s u → AreLexemes P4 u → CanSpellState s
state_can p _ _ (a_state {u = u} {v = v} x s r) a = (a.1.0, each_can SpellsParserStmt CanSpellParserStmt parser_stmt_can s (are_left u _ a.1.1.1), next_can r (are_left v _ (are_right u _ a.1.1.1)))

parser_can : {p : ℕ} {d : Parser} {u : List Lexeme} → SpellsParser p d u → AreLexemes P4 u → CanSpellParser d
parser_can (a_parser {u = u} {v = v} x s r) a =
    let b = are_right u _ a.1.1.1 in
    (a.1.0, list_can SpellsParam CanSpellParam param_can s (are_left u _ a.1.1.1), each_can SpellsState CanSpellState state_can r (are_left v _ b.1.1))

-- ---- tables

key_can : (p : ℕ) (e : Expr × List ℕ) (u : List Lexeme) → SpellsKey p e u → AreLexemes P4 u → CanSpellKey e
key_can p _ _ (a_key {u = u} x s) a = (can s (are_left u _ a), (are_right u _ a).1.0)

listed_can : (p : ℕ) (x : List ℕ) (u : List Lexeme) → SpellsActionName p x u → AreLexemes P4 u → IsName x
listed_can p _ _ (controls.a_name x) a = a.0
listed_can p _ _ (with_brackets x) a = a.0

arguments_can : {p : ℕ} {es : List Expr} {u : List Lexeme} → SpellsArguments p es u → AreLexemes P4 u → EachCan CanSpellExpr es
arguments_can no_brackets a = tt
arguments_can (controls.in_brackets {u = u} s) a = some_can (Spells top) CanSpellExpr exprs_can s (are_left u _ a.1)

-- a property of a table can be spelled
abbrev PropCan : TableProp → Type 0
PropCan (keys es) = EachCan CanSpellKey es
PropCan (size n) = IsCount n
PropCan (actions xs) = EachCan IsName xs
PropCan (default b d) = CanSpellDefault b (Some d)

prop_can : (p : ℕ) (x : TableProp) (u : List Lexeme) → SpellsTableProp p x u → AreLexemes P4 u → PropCan x
prop_can p _ _ (the_keys {u = u} s) a = each_can SpellsKey CanSpellKey key_can s (are_left u _ a.1.1.1)
prop_can p _ _ (the_size n) a = a.1.1.0.1
prop_can p _ _ (the_actions {u = u} s) a = each_can SpellsActionName IsName listed_can s (are_left u _ a.1.1.1)
prop_can p _ _ (the_default {u = u} {v = v} x f s) a = let b = are_right u _ a in (b.1.1.0, arguments_can s (are_left v _ b.1.1.1))

in_keys : (ps : List TableProp) → EachCan PropCan ps → EachCan CanSpellKey (keys_in ps)
in_keys [] c = tt
in_keys (keys es ∷ ps) c = c.0
in_keys (size n ∷ ps) c = in_keys ps c.1
in_keys (actions xs ∷ ps) c = in_keys ps c.1
in_keys (default b d ∷ ps) c = in_keys ps c.1

in_actions : (ps : List TableProp) → EachCan PropCan ps → EachCan IsName (actions_in ps)
in_actions [] c = tt
in_actions (keys es ∷ ps) c = in_actions ps c.1
in_actions (size n ∷ ps) c = in_actions ps c.1
in_actions (actions xs ∷ ps) c = c.0
in_actions (default b d ∷ ps) c = in_actions ps c.1

in_size : (ps : List TableProp) → EachCan PropCan ps → MayCan IsCount (size_in ps)
in_size [] c = tt
in_size (keys es ∷ ps) c = in_size ps c.1
in_size (size n ∷ ps) c = c.0
in_size (actions xs ∷ ps) c = in_size ps c.1
in_size (default b d ∷ ps) c = in_size ps c.1

in_default : (ps : List TableProp) → EachCan PropCan ps → CanSpellDefault (fixed_in ps) (default_in ps)
in_default [] c = refl
in_default (keys es ∷ ps) c = in_default ps c.1
in_default (size n ∷ ps) c = in_default ps c.1
in_default (actions xs ∷ ps) c = in_default ps c.1
in_default (default b d ∷ ps) c = c.0

table_can : {p : ℕ} {d : Table} {u : List Lexeme} → SpellsTable p d u → AreLexemes P4 u → CanSpellTable d
table_can (controls.a_table {ps = ps} {u = u} x s once) a =
    let c = each_can SpellsTableProp PropCan prop_can s (are_left u _ a.1.1.1) in
    (a.1.0, in_keys ps c, in_actions ps c, in_size ps c, in_default ps c)

-- ---- controls

action_can : {p : ℕ} {d : Action} {u : List Lexeme} → SpellsAction p d u → AreLexemes P4 u → CanSpellAction d
action_can (controls.an_action {u = u} x s r) a = (a.1.0, some_can SpellsArgument CanSpellField argument_can s (are_left u _ a.1.1.1), block_can r (are_right u _ a.1.1.1).1)

local_can : (p : ℕ) (d : Local) (u : List Lexeme) → SpellsLocal p d u → AreLexemes P4 u → CanSpellLocal d
local_can p _ _ (controls.an_action s) a = action_can s a
local_can p _ _ (controls.a_table s) a = table_can s a
local_can p _ _ (controls.a_register s) a = register_can s a
local_can p _ _ (controls.a_const s) a = const_can s a
local_can p _ _ (controls.a_var e s) a = (e, var_can s a)

control_can : {p : ℕ} {d : Control} {u : List Lexeme} → SpellsControl p d u → AreLexemes P4 u → CanSpellControl d
control_can (a_control {u = u} {v = v} {w = w} x s r t) a =
    let b = are_right u _ a.1.1.1 in
    let d = are_right v _ b.1.1 in
    (a.1.0, list_can SpellsParam CanSpellParam param_can s (are_left u _ a.1.1.1), each_can SpellsLocal CanSpellLocal local_can r (are_left v _ b.1.1), block_can t (are_left w _ d.1))

-- ---- programs

top_can : (p : ℕ) (d : Top) (u : List Lexeme) → SpellsTop p d u → AreLexemes P4 u → CanSpellTop d
top_can p _ _ (programs.a_const s) a = const_can s a
top_can p _ _ (programs.a_typedef {u = u} x s) a = (type_can s (are_left u _ a.1), (are_right u _ a.1).0)
top_can p _ _ (programs.a_register s) a = register_can s a
top_can p _ _ (programs.a_parser s) a = parser_can s a
top_can p _ _ (programs.a_control s) a = control_can s a
top_can p _ _ (programs.a_header {u = u} x s) a = (a.1.0, each_can SpellsField CanSpellField field_can s (are_left u _ a.1.1.1))
top_can p _ _ (programs.a_struct {u = u} x s) a = (a.1.0, each_can SpellsField CanSpellField field_can s (are_left u _ a.1.1.1))

part_can : (p : ℕ) (x : List ℕ) (u : List Lexeme) → SpellsPart p x u → AreLexemes P4 u → IsName x
part_can p _ _ (a_part x) a = a.0

program_can : {t : Program} {u : List Lexeme} → SpellsProgram t u → AreLexemes P4 u → CanSpell t
program_can (a_program {s = s} {u = u} {v = v} i r t) a =
    let b = are_right s _ a in
    let d = are_right u _ b in
    record { tops = each_can SpellsTop CanSpellTop top_can r (are_left u _ b); main = list_can SpellsPart IsName part_can t (are_left v _ d.1.1) }

pub spelled_can_be : SpelledCanBe
spelled_can_be t s = program_can s.spells s.fair
