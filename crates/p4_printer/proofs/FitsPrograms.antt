-- What is printed of declarations and programs fits, where they are low.
use Rattle.std.proofs.Common.{ℕ, ◌-◌, ◌≤◌, ◌<◌, ◌^◌, Bool, true, false, List, [], ◌∷◌, ◌++◌, map, max, Option, Some, None, refl, arith}
use Rattle.p4_tree.specs.Tree.{Expr, num, flag, path, one, Stmt, assign, call, stmts_from, Keyset, any, only, masked, Case, Transition, nowhere, to, select, ParserState, Action, Table, Local, local_action, local_table, local_register, local_const, local_var, Control, Parser, Top, constant, typedef, header_type, struct_type, register, parser, control, Program}
use Rattle.p4_tree.specs.Height.{highest, height_if, expr_height, stmt_height, transition_height, state_height, parser_height, action_height, table_height, local_height, control_height, top_height, height}
use Rattle.p4_tree.specs.declared.statement.PTy.{PTy}
use Rattle.p4_tree.specs.declared.program.Param.{Param}
use Rattle.p4_tree.specs.declared.program.Register.{Register}
use Rattle.p4_tree.specs.declared.program.Way.{Way}
use Rattle.p4_tree.specs.declared.program.Way.TheVariants as way
use Rattle.p4_printer.specs.Layout.{in_row, braced}
use Rattle.p4_printer.specs.Expressions.{lexemes_of_expr}
use Rattle.p4_printer.specs.Statements.{lexemes_of_stmt, lexemes_of_stmts}
use Rattle.p4_printer.specs.Programs.{lexemes_of_way, lexemes_of_param, lexemes_of_params, lexemes_of_keyset, lexemes_of_keys, lexemes_of_case, lexemes_of_transition, lexemes_of_state, lexemes_of_parser, lexemes_of_register, lexemes_of_action_param, lexemes_of_action, lexemes_of_key, lexemes_of_listed, lexemes_of_size, lexemes_of_fixed, lexemes_of_default, lexemes_of_table, lexemes_of_local, lexemes_of_control, lexemes_of_field, lexemes_of_top, lexemes_of_part, lexemes_of_main}
use Rattle.p4_printer.specs.CanSpell.{EachCan, SomeCan, MayCan, IsName, IsCount, CanSpellExpr, CanSpellParserStmt, CanSpellSimple, CanSpellKeyset, CanSpellCase, CanSpellNext, CanSpellState, CanSpellParam, CanSpellParser, CanSpellField, CanSpellAction, CanSpellKey, CanSpellDefault, CanSpellTable, CanSpellRegister, CanSpellLocal, CanSpellControl, CanSpellTop, CanSpell}
use Rattle.p4_printer.proofs.Fits.{Fits, nil, joins, on, on_name, on_number, bracket, with_heights, each_of, fits_each, fits_list, the_flag, the_Header, the_Control, the_Const, the_Typedef, the_Struct, the_Register, the_Parser, the_In, the_Out, the_Inout, the_State, the_Transition, the_Select, the_Default, the_Action, the_Table, the_V1Switch, the_Mask, the_BraceOpen, the_BraceClose, the_Less, the_More, the_Semicolon, the_Colon, the_Assign}
use Rattle.p4_printer.proofs.FitsExpressions.{fits_type, fits_path, fits, fits_exprs, fits_var, fits_const, fits_assign, fits_block}

-- ---- parameters and fields

fits_way : (m : ℕ) (w : Way) → Fits m (lexemes_of_way w)
fits_way m way.Plain = nil
fits_way m way.Into = on the_In nil
fits_way m way.Out = on the_Out nil
fits_way m way.Both = on the_Inout nil

fits_params : (m : ℕ) (ds : List Param) → SomeCan CanSpellParam ds → Fits m (lexemes_of_params ds)
fits_params m ds c = fits_list m CanSpellParam lexemes_of_param (λ d i. joins (fits_way m d.way) (joins (fits_type m d.ty i.0) (on_name i.1 nil))) ds (each_of CanSpellParam ds c)

fits_fields : (m : ℕ) (fs : List (PTy × List ℕ)) → EachCan CanSpellField fs → Fits m (braced (in_row (map lexemes_of_field fs)))
fits_fields m fs c = on the_BraceOpen (joins (fits_each m CanSpellField lexemes_of_field (λ f i. joins (fits_type m f.0 i.0) (on_name i.1 (on the_Semicolon nil))) fs c) (on the_BraceClose nil))

count : (n : ℕ) → IsCount n → (0 ≤ 128) × (n < 2 ^ 128)
count n c = (omega arith, c)

fits_register : (m : ℕ) (d : Register) → CanSpellRegister d → 1 ≤ m → Fits m (lexemes_of_register d)
fits_register m d c low = on the_Register (on the_Less (joins (fits_type m d.ty c.0) (on the_More (bracket m low (on_number (count d.count c.1) nil) (on_name c.2 (on the_Semicolon nil))))))

-- ---- parsers

fits_parser_stmt : (m : ℕ) (s : Stmt) → CanSpellParserStmt s → stmt_height s ≤ m → Fits m (lexemes_of_stmt s)
fits_parser_stmt m (assign p xs e) c low = fits_assign m p xs e c.0 c.1 (omega (arith, low))
fits_parser_stmt m (call p xs (one q (path r ys) ∷ [])) c low = joins (fits_path m xs c.0) (bracket m (omega (arith, low)) (joins (fits_path (m - 1) ys c.1) nil) (on the_Semicolon nil))
fits_parser_stmt m (call p xs _) c low = absurd c.1
fits_parser_stmt m _ c low = absurd c

fits_body : (m : ℕ) (ss : List Stmt) → EachCan CanSpellParserStmt ss → highest stmt_height ss ≤ m → Fits m (lexemes_of_stmts (stmts_from ss))
fits_body m [] c low = nil
fits_body m (s ∷ rest) c low = joins (fits_parser_stmt m s c.0 (omega (arith, low))) (fits_body m rest c.1 (omega (arith, low)))

fits_simple : (m : ℕ) (e : Expr) → CanSpellSimple e → Fits m (lexemes_of_expr e)
fits_simple m (num p n) c = on_number c nil
fits_simple m (path p (x ∷ [])) c = on_name c nil
fits_simple m (flag p b) c = on (the_flag b) nil
fits_simple m _ c = absurd c

fits_keyset : (m : ℕ) (s : Keyset) → CanSpellKeyset s → Fits m (lexemes_of_keyset s)
fits_keyset m (any p) c = on the_Default nil
fits_keyset m (only p e) c = fits_simple m e c
fits_keyset m (masked p e x) c = joins (fits_simple m e c.0) (on the_Mask (fits_simple m x c.1))

fits_keys : (m : ℕ) (ss : List Keyset) → SomeCan CanSpellKeyset ss → 1 ≤ m → Fits m (lexemes_of_keys ss)
fits_keys m [] c low = absurd c
fits_keys m (s ∷ []) c low = fits_keyset m s c.0
fits_keys m (s ∷ t ∷ rest) c low = bracket m low (fits_list (m - 1) CanSpellKeyset lexemes_of_keyset (λ s i. fits_keyset (m - 1) s i) (s ∷ t ∷ rest) c) nil

fits_case : (m : ℕ) (d : Case) → CanSpellCase d → 1 ≤ m → Fits m (lexemes_of_case d)
fits_case m d c low = joins (fits_keys m d.keys c.0 low) (on the_Colon (on_name c.1 (on the_Semicolon nil)))

fits_next : (m : ℕ) (t : Transition) → CanSpellNext t → transition_height t ≤ m → Fits m (lexemes_of_transition t)
fits_next m (nowhere p) c low = nil
fits_next m (to p x) c low = on the_Transition (on_name c (on the_Semicolon nil))
fits_next m (select p es cs) c low =
    on the_Transition (on the_Select (bracket m (omega (arith, low)) (fits_exprs (m - 1) es (each_of CanSpellExpr es c.0) (omega (arith, low)))
    (on the_BraceOpen (joins (fits_each m CanSpellCase lexemes_of_case (λ d i. fits_case m d i (omega (arith, low))) cs c.1) (on the_BraceClose nil)))))

fits_state : (m : ℕ) (s : ParserState) → CanSpellState s → state_height s ≤ m → Fits m (lexemes_of_state s)
fits_state m s c low = on the_State (on_name c.0 (on the_BraceOpen (joins (fits_body m s.body c.1 (omega (arith, low))) (joins (fits_next m s.next c.2 (omega (arith, low))) (on the_BraceClose nil)))))

fits_parser : (m : ℕ) (d : Parser) → CanSpellParser d → parser_height d ≤ m → Fits m (lexemes_of_parser d)
fits_parser m d c low =
    on the_Parser (on_name c.0 (bracket m (omega (arith, low)) (fits_params (m - 1) d.params c.1) (on the_BraceOpen (joins
    (fits_each m (λ s. CanSpellState s × (state_height s ≤ m)) lexemes_of_state (λ s i. fits_state m s i.0 i.1) d.states (with_heights CanSpellState state_height m d.states c.2 (omega (arith, low))))
    (on the_BraceClose nil)))))

-- ---- controls

fits_action : (m : ℕ) (d : Action) → CanSpellAction d → action_height d ≤ m → Fits m (lexemes_of_action d)
fits_action m d c low =
    on the_Action (on_name c.0 (bracket m (omega (arith, low)) (fits_list (m - 1) CanSpellField lexemes_of_action_param (λ f i. joins (fits_type (m - 1) f.0 i.0) (on_name i.1 nil)) d.params c.1)
    (fits_block d.body c.2 m (omega (arith, low)))))

fits_key : (m : ℕ) (e : Expr × List ℕ) → CanSpellKey e → expr_height e.0 ≤ m → Fits m (lexemes_of_key e)
fits_key m e c low = joins (fits e.0 c.0 m low) (on the_Colon (on_name c.1 (on the_Semicolon nil)))

fits_size : (m : ℕ) (n : Option ℕ) → MayCan IsCount n → Fits m (lexemes_of_size n)
fits_size m None c = nil
fits_size m (Some n) c = on_name (refl, refl) (on the_Assign (on_number (count n c) (on the_Semicolon nil)))

fits_fixed : (m : ℕ) (b : Bool) → Fits m (lexemes_of_fixed b)
fits_fixed m true = on the_Const nil
fits_fixed m false = nil

abbrev default_height : List ℕ × List Expr → ℕ
default_height d = highest expr_height d.1

fits_default : (m : ℕ) (b : Bool) (d : Option (List ℕ × List Expr)) → CanSpellDefault b d → 1 ≤ m → height_if default_height d ≤ m - 1 → Fits m (lexemes_of_default b d)
fits_default m b None c low le = nil
fits_default m b (Some d) c low le = joins (fits_fixed m b) (on_name (refl, refl) (on the_Assign (on_name c.0 (bracket m low (fits_exprs (m - 1) d.1 c.1 le) (on the_Semicolon nil)))))

fits_table : (m : ℕ) (d : Table) → CanSpellTable d → table_height d ≤ m → Fits m (lexemes_of_table d)
fits_table m d c low =
    let keys = fits_each m (λ e. CanSpellKey e × (expr_height e.0 ≤ m)) lexemes_of_key (λ e i. fits_key m e i.0 i.1) d.keys (with_heights CanSpellKey (λ e. expr_height e.0) m d.keys c.1 (omega (arith, low))) in
    let actions = fits_each m IsName lexemes_of_listed (λ x i. on_name i (on the_Semicolon nil)) d.actions c.2 in
    on the_Table (on_name c.0 (on the_BraceOpen (joins
    (joins (on_name (refl, refl) (on the_Assign (on the_BraceOpen (joins keys (on the_BraceClose nil)))))
    (joins (on_name (refl, refl) (on the_Assign (on the_BraceOpen (joins actions (on the_BraceClose nil)))))
    (joins (fits_size m d.size c.3) (fits_default m d.fixed d.default c.4 (omega (arith, low)) (omega (arith, low))))))
    (on the_BraceClose nil))))

fits_local : (m : ℕ) (d : Local) → CanSpellLocal d → local_height d ≤ m → Fits m (lexemes_of_local d)
fits_local m (local_action p d) c low = fits_action m d c (omega (arith, low))
fits_local m (local_table p d) c low = fits_table m d c (omega (arith, low))
fits_local m (local_register p d) c low = fits_register m d c (omega (arith, low))
fits_local m (local_const p t x e) c low = fits_const m t x e c (omega (arith, low))
fits_local m (local_var p t x e) c low = fits_var m t x e c.1 (omega (arith, low))

fits_control : (m : ℕ) (d : Control) → CanSpellControl d → control_height d ≤ m → Fits m (lexemes_of_control d)
fits_control m d c low =
    on the_Control (on_name c.0 (bracket m (omega (arith, low)) (fits_params (m - 1) d.params c.1) (on the_BraceOpen (joins
    (fits_each m (λ l. CanSpellLocal l × (local_height l ≤ m)) lexemes_of_local (λ l i. fits_local m l i.0 i.1) d.locals (with_heights CanSpellLocal local_height m d.locals c.2 (omega (arith, low))))
    (on_name (refl, refl) (joins (fits_block d.apply c.3 m (omega (arith, low))) (on the_BraceClose nil)))))))

-- ---- programs

fits_top : (m : ℕ) (d : Top) → CanSpellTop d → top_height d ≤ m → Fits m (lexemes_of_top d)
fits_top m (constant p t x e) c low = fits_const m t x e c (omega (arith, low))
fits_top m (typedef p t x) c low = on the_Typedef (joins (fits_type m t c.0) (on_name c.1 (on the_Semicolon nil)))
fits_top m (header_type p x fs) c low = on the_Header (on_name c.0 (fits_fields m fs c.1))
fits_top m (struct_type p x fs) c low = on the_Struct (on_name c.0 (fits_fields m fs c.1))
fits_top m (register p d) c low = fits_register m d c (omega (arith, low))
fits_top m (parser p d) c low = fits_parser m d c (omega (arith, low))
fits_top m (control p d) c low = fits_control m d c (omega (arith, low))

fits_part : (m : ℕ) (x : List ℕ) → IsName x → 1 ≤ m → Fits m (lexemes_of_part x)
fits_part m x c low = on_name c (bracket m low nil nil)

fits_main : (m : ℕ) (xs : List (List ℕ)) → SomeCan IsName xs → 2 ≤ m → Fits m (lexemes_of_main xs)
fits_main m xs c low =
    on the_V1Switch (bracket m (omega (arith, low)) (fits_list (m - 1) IsName lexemes_of_part (λ x i. fits_part (m - 1) x i (omega (arith, low))) xs (each_of IsName xs c)) (on_name (refl, refl) (on the_Semicolon nil)))

-- a program's lexemes behind the inclusions
pub fits_rest : (t : Program) → CanSpell t → Fits (max (height t) 2) (in_row (map lexemes_of_top t.tops) ++ lexemes_of_main t.main)
fits_rest t c =
    let m = max (height t) 2 in
    joins (fits_each m (λ d. CanSpellTop d × (top_height d ≤ m)) lexemes_of_top (λ d i. fits_top m d i.0 i.1) t.tops (with_heights CanSpellTop top_height m t.tops c.tops (omega arith)))
    (fits_main m t.main c.main (omega arith))
