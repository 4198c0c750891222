-- The lexemes of a program close each round bracket that they open.
use Rattle.std.proofs.Common.{ℕ, Bool, List, [], ◌∷◌, refl}
use Rattle.lex_words.specs.declared.key.Key.TheVariants as k
use Rattle.lex_words.specs.Seen.{Lexeme, name, number, key, include}
use Rattle.lex_words.proofs.Even.{Even, flat, plain, joined, brackets}
use Rattle.p4_tree.specs.Tree.{Expr, Stmt, Keyset, Case, Transition, ParserState, Parser, Action, Table, Local, Control, Top, Program}
use Rattle.p4_tree.specs.declared.statement.PTy.{PTy}
use Rattle.p4_tree.specs.declared.program.Way.{Way}
use Rattle.p4_tree.specs.declared.program.Param.{Param}
use Rattle.p4_tree.specs.declared.program.Register.{Register}
use Rattle.p4_spelling.specs.Words.{apply_name, key_name, actions_name, default_name}
use Rattle.p4_spelling.specs.Lists.{SpellsList, SpellsSome, SpellsEach}
use Rattle.p4_spelling.specs.Types.{SpellsClosed, closed, both_closed, SpellsRegister, a_register, SpellsWay, plain as no_way, into, out, both, SpellsParam, a_param, SpellsArgument, an_argument, SpellsField, a_field}
use Rattle.p4_spelling.specs.Parsers as parsers
use Rattle.p4_spelling.specs.Controls as controls
use Rattle.p4_spelling.specs.Programs as programs
use Rattle.p4_reader.proofs.Balance.{even_type, even_path, even_expr, even_exprs, even_list, even_some, even_var, even_const, even_assign, even_block}
use Rattle.p4_decls.proofs.Repeats.{even_each}

-- ---- registers, parameters and fields

pub even_closed : {t : PTy} {u : List Lexeme} → SpellsClosed t u → Even u
even_closed (closed {u = u} s) = joined u _ (even_type s) (flat _ (λ b. refl))
even_closed (both_closed n low) = flat _ (λ b. refl)

pub even_register : {p : ℕ} {d : Register} {u : List Lexeme} → SpellsRegister p d u → Even u
even_register (a_register {u = u} n x s) =
    joined (key k.Register ∷ key k.Less ∷ []) _ (flat _ (λ b. refl)) (joined u _ (even_closed s) (brackets (number n ∷ []) _ (flat _ (λ b. refl)) (flat _ (λ b. refl))))

pub even_way : {w : Way} {u : List Lexeme} → SpellsWay w u → Even u
even_way no_way = flat _ (λ b. refl)
even_way into = flat _ (λ b. refl)
even_way out = flat _ (λ b. refl)
even_way both = flat _ (λ b. refl)

pub even_param : {p : ℕ} {d : Param} {u : List Lexeme} → SpellsParam p d u → Even u
even_param (a_param {u = u} {v = v} x w s) = joined u _ (even_way w) (joined v _ (even_type s) (flat _ (λ b. refl)))

pub even_params : {p : ℕ} {ps : List Param} {u : List Lexeme} → SpellsList SpellsParam p ps u → Even u
even_params s = even_list SpellsParam (λ p a u x. even_param x) s

pub even_argument : {p : ℕ} {d : PTy × List ℕ} {u : List Lexeme} → SpellsArgument p d u → Even u
even_argument (an_argument {u = u} x s) = joined u _ (even_type s) (flat _ (λ b. refl))

pub even_arguments : {p : ℕ} {ps : List (PTy × List ℕ)} {u : List Lexeme} → SpellsSome SpellsArgument p ps u → Even u
even_arguments s = even_some SpellsArgument (λ p a u x. even_argument x) s

pub even_field : {p : ℕ} {d : PTy × List ℕ} {u : List Lexeme} → SpellsField p d u → Even u
even_field (a_field {u = u} x s) = joined u _ (even_type s) (flat _ (λ b. refl))

pub even_fields : {p : ℕ} {ps : List (PTy × List ℕ)} {u : List Lexeme} → SpellsEach SpellsField p ps u → Even u
even_fields s = even_each (λ p a u x. even_field x) s

-- ---- parsers

pub even_step : {p : ℕ} {s : Stmt} {u : List Lexeme} → parsers.SpellsParserStmt p s u → Even u
even_step (parsers.an_assignment s) = even_assign s
even_step (parsers.a_call {u = u} {v = v} s r) = joined u _ (even_path s) (brackets v _ (even_path r) (flat _ (λ b. refl)))

pub even_steps : {p : ℕ} {ss : List Stmt} {u : List Lexeme} → SpellsEach parsers.SpellsParserStmt p ss u → Even u
even_steps s = even_each (λ p a u x. even_step x) s

pub even_simple : {p : ℕ} {e : Expr} {u : List Lexeme} → parsers.SpellsSimple p e u → Even u
even_simple (parsers.a_number n) = flat _ (λ b. refl)
even_simple (parsers.a_name x) = flat _ (λ b. refl)
even_simple parsers.a_true = flat _ (λ b. refl)
even_simple parsers.a_false = flat _ (λ b. refl)

pub even_keyset : {p : ℕ} {s : Keyset} {u : List Lexeme} → parsers.SpellsKeyset p s u → Even u
even_keyset parsers.a_default = flat _ (λ b. refl)
even_keyset parsers.a_low_line = flat _ (λ b. refl)
even_keyset (parsers.a_value s) = even_simple s
even_keyset (parsers.a_mask {u = u} {v = v} s r) = joined u _ (even_simple s) (plain (key k.Mask) v (λ b. refl) (even_simple r))

pub even_keysets : {p : ℕ} {ss : List Keyset} {u : List Lexeme} → SpellsList parsers.SpellsKeyset p ss u → Even u
even_keysets s = even_list parsers.SpellsKeyset (λ p a u x. even_keyset x) s

pub even_keys : {p : ℕ} {ss : List Keyset} {u : List Lexeme} → parsers.SpellsKeys p ss u → Even u
even_keys (parsers.one_key s) = even_keyset s
even_keys (parsers.in_brackets {u = u} s) = brackets u [] (even_keysets s) (flat _ (λ b. refl))

pub even_case : {p : ℕ} {c : Case} {u : List Lexeme} → parsers.SpellsCase p c u → Even u
even_case (parsers.a_case {u = u} x s) = joined u _ (even_keys s) (flat _ (λ b. refl))

pub even_cases : {p : ℕ} {cs : List Case} {u : List Lexeme} → SpellsEach parsers.SpellsCase p cs u → Even u
even_cases s = even_each (λ p a u x. even_case x) s

pub even_next : {p : ℕ} {t : Transition} {u : List Lexeme} → parsers.SpellsNext p t u → Even u
even_next parsers.no_transition = flat _ (λ b. refl)
even_next (parsers.a_transition x) = flat _ (λ b. refl)
even_next (parsers.a_select {u = u} {v = v} s r) =
    joined (key k.Transition ∷ key k.Select ∷ []) _ (flat _ (λ b. refl)) (brackets u _ (even_exprs s) (plain (key k.BraceOpen) _ (λ b. refl) (joined v _ (even_cases r) (flat _ (λ b. refl)))))

pub even_state : {p : ℕ} {s : ParserState} {u : List Lexeme} → parsers.SpellsState p s u → Even u
even_state (parsers.a_state {u = u} {v = v} x s t) =
    joined (key k.State ∷ name x ∷ key k.BraceOpen ∷ []) _ (flat _ (λ b. refl)) (joined u _ (even_steps s) (joined v _ (even_next t) (flat _ (λ b. refl))))

pub even_states : {p : ℕ} {ss : List ParserState} {u : List Lexeme} → SpellsEach parsers.SpellsState p ss u → Even u
even_states s = even_each (λ p a u x. even_state x) s

pub even_parser : {p : ℕ} {d : Parser} {u : List Lexeme} → parsers.SpellsParser p d u → Even u
even_parser (parsers.a_parser {u = u} {v = v} x s t) =
    joined (key k.Parser ∷ name x ∷ []) _ (flat _ (λ b. refl)) (brackets u _ (even_params s) (plain (key k.BraceOpen) _ (λ b. refl) (joined v _ (even_states t) (flat _ (λ b. refl)))))

-- ---- tables

pub even_key : {p : ℕ} {x : Expr × List ℕ} {u : List Lexeme} → controls.SpellsKey p x u → Even u
even_key (controls.a_key {u = u} x s) = joined u _ (even_expr s) (flat _ (λ b. refl))

pub even_table_keys : {p : ℕ} {xs : List (Expr × List ℕ)} {u : List Lexeme} → SpellsEach controls.SpellsKey p xs u → Even u
even_table_keys s = even_each (λ p a u x. even_key x) s

pub even_action_name : {p : ℕ} {x : List ℕ} {u : List Lexeme} → controls.SpellsActionName p x u → Even u
even_action_name (controls.a_name x) = flat _ (λ b. refl)
even_action_name (controls.with_brackets x) = plain (name x) _ (λ b. refl) (brackets [] _ (flat _ (λ b. refl)) (flat _ (λ b. refl)))

pub even_action_names : {p : ℕ} {xs : List (List ℕ)} {u : List Lexeme} → SpellsEach controls.SpellsActionName p xs u → Even u
even_action_names s = even_each (λ p a u x. even_action_name x) s

pub even_given : {p : ℕ} {es : List Expr} {u : List Lexeme} → controls.SpellsArguments p es u → Even u
even_given controls.no_brackets = flat _ (λ b. refl)
even_given (controls.in_brackets {u = u} s) = brackets u [] (even_some _ (λ p a u x. even_expr x) s) (flat _ (λ b. refl))

pub even_fixed : {f : Bool} {u : List Lexeme} → controls.SpellsFixed f u → Even u
even_fixed controls.fixed = flat _ (λ b. refl)
even_fixed controls.free = flat _ (λ b. refl)

pub even_prop : {p : ℕ} {a : controls.TableProp} {u : List Lexeme} → controls.SpellsTableProp p a u → Even u
even_prop (controls.the_keys {u = u} s) = joined (name key_name ∷ key k.Assign ∷ key k.BraceOpen ∷ []) _ (flat _ (λ b. refl)) (joined u _ (even_table_keys s) (flat _ (λ b. refl)))
even_prop (controls.the_size n) = flat _ (λ b. refl)
even_prop (controls.the_actions {u = u} s) = joined (name actions_name ∷ key k.Assign ∷ key k.BraceOpen ∷ []) _ (flat _ (λ b. refl)) (joined u _ (even_action_names s) (flat _ (λ b. refl)))
even_prop (controls.the_default {u = u} {v = v} x f s) =
    joined u _ (even_fixed f) (joined (name default_name ∷ key k.Assign ∷ name x ∷ []) _ (flat _ (λ b. refl)) (joined v _ (even_given s) (flat _ (λ b. refl))))

pub even_props : {p : ℕ} {ps : List controls.TableProp} {u : List Lexeme} → SpellsEach controls.SpellsTableProp p ps u → Even u
even_props s = even_each (λ p a u x. even_prop x) s

pub even_table : {p : ℕ} {d : Table} {u : List Lexeme} → controls.SpellsTable p d u → Even u
even_table (controls.a_table {u = u} x s o) = joined (key k.Table ∷ name x ∷ key k.BraceOpen ∷ []) _ (flat _ (λ b. refl)) (joined u _ (even_props s) (flat _ (λ b. refl)))

-- ---- controls

pub even_action : {p : ℕ} {d : Action} {u : List Lexeme} → controls.SpellsAction p d u → Even u
even_action (controls.an_action {u = u} {v = v} x s t) = joined (key k.Action ∷ name x ∷ []) _ (flat _ (λ b. refl)) (brackets u v (even_arguments s) (even_block t))

pub even_local : {p : ℕ} {d : Local} {u : List Lexeme} → controls.SpellsLocal p d u → Even u
even_local (controls.an_action s) = even_action s
even_local (controls.a_table s) = even_table s
even_local (controls.a_register s) = even_register s
even_local (controls.a_const s) = even_const s
even_local (controls.a_var e s) = even_var s

pub even_locals : {p : ℕ} {ds : List Local} {u : List Lexeme} → SpellsEach controls.SpellsLocal p ds u → Even u
even_locals s = even_each (λ p a u x. even_local x) s

pub even_control : {p : ℕ} {d : Control} {u : List Lexeme} → controls.SpellsControl p d u → Even u
even_control (controls.a_control {u = u} {v = v} {w = w} x s d t) =
    joined (key k.Control ∷ name x ∷ []) _ (flat _ (λ b. refl)) (brackets u _ (even_params s) (plain (key k.BraceOpen) _ (λ b. refl)
    (joined v _ (even_locals d) (plain (name apply_name) _ (λ b. refl) (joined w _ (even_block t) (flat _ (λ b. refl)))))))

-- ---- programs

pub even_top : {p : ℕ} {d : Top} {u : List Lexeme} → programs.SpellsTop p d u → Even u
even_top (programs.a_const s) = even_const s
even_top (programs.a_typedef {u = u} x s) = plain (key k.Typedef) _ (λ b. refl) (joined u _ (even_type s) (flat _ (λ b. refl)))
even_top (programs.a_register s) = even_register s
even_top (programs.a_parser s) = even_parser s
even_top (programs.a_control s) = even_control s
even_top (programs.a_header {u = u} x s) = joined (key k.Header ∷ name x ∷ key k.BraceOpen ∷ []) _ (flat _ (λ b. refl)) (joined u _ (even_fields s) (flat _ (λ b. refl)))
even_top (programs.a_struct {u = u} x s) = joined (key k.Struct ∷ name x ∷ key k.BraceOpen ∷ []) _ (flat _ (λ b. refl)) (joined u _ (even_fields s) (flat _ (λ b. refl)))

pub even_tops : {p : ℕ} {ts : List Top} {u : List Lexeme} → SpellsEach programs.SpellsTop p ts u → Even u
even_tops s = even_each (λ p a u x. even_top x) s

pub even_includes : {u : List Lexeme} → programs.SpellsIncludes u → Even u
even_includes programs.no_include = flat _ (λ b. refl)
even_includes (programs.an_include s {u = u} r) = plain (include s) u (λ b. refl) (even_includes r)

pub even_part : {p : ℕ} {x : List ℕ} {u : List Lexeme} → programs.SpellsPart p x u → Even u
even_part (programs.a_part x) = plain (name x) _ (λ b. refl) (brackets [] [] (flat _ (λ b. refl)) (flat _ (λ b. refl)))

pub even_parts : {p : ℕ} {xs : List (List ℕ)} {u : List Lexeme} → SpellsList programs.SpellsPart p xs u → Even u
even_parts s = even_list programs.SpellsPart (λ p a u x. even_part x) s

pub even_program : {t : Program} {u : List Lexeme} → programs.SpellsProgram t u → Even u
even_program (programs.a_program {s = s} {u = u} {v = v} f t r) =
    joined s _ (even_includes f) (joined u _ (even_tops t) (plain (key k.V1Switch) _ (λ b. refl) (brackets v _ (even_parts r) (flat _ (λ b. refl)))))
