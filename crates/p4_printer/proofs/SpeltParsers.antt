-- What can be spelled is spelled but for places: parameters, fields and parsers.
use Rattle.std.proofs.Common.{◌≡◌, ℕ, ◌+◌, true, false, List, [], ◌∷◌, ◌++◌, length, map, refl, sym, ap, subst, ◌∙◌, append_assoc}
use Rattle.std.proofs.lemmas.List.{append-nil}
use Rattle.lex_words.specs.Seen.{name, number, key}
use Rattle.lex_words.specs.declared.key.Key.TheVariants as k
use Rattle.p4_tree.specs.Tree.{Expr, num, flag, path, one, Stmt, assign, call, stmts_from, Keyset, any, only, masked, Case, Transition, nowhere, to, select, ParserState, Parser}
use Rattle.p4_tree.specs.Places.{plain, plain_stmt, plain_param, plain_register, plain_keyset, plain_case, plain_transition, plain_state, plain_parser}
use Rattle.p4_tree.specs.declared.statement.PTy.{PTy}
use Rattle.p4_tree.specs.declared.program.Param.{Param}
use Rattle.p4_tree.specs.declared.program.Register.{Register}
use Rattle.p4_tree.specs.declared.program.Way.{Way}
use Rattle.p4_tree.specs.declared.program.Way.TheVariants as way
use Rattle.p4_spelling.specs.Lists.{SpellsList, SpellsEach, no_more, one_more}
use Rattle.p4_spelling.specs.Types as types
use Rattle.p4_spelling.specs.Types.{SpellsWay, SpellsParam, a_param, SpellsArgument, an_argument, SpellsField, a_field, SpellsClosed, closed, SpellsRegister, a_register}
use Rattle.p4_spelling.specs.Parsers as parsers
use Rattle.p4_spelling.specs.Parsers.{SpellsParserStmt, an_assignment, SpellsSimple, SpellsKeyset, a_default, a_value, a_mask, SpellsKeys, one_key, in_brackets, SpellsCase, a_case, SpellsNext, no_transition, a_transition, a_select, SpellsState, a_state, SpellsParser, a_parser}
use Rattle.p4_printer.specs.Layout.{bare}
use Rattle.p4_printer.specs.Expressions.{lexemes_of_type, lexemes_of_path, lexemes_of_expr, lexemes_of_exprs}
use Rattle.p4_printer.specs.Statements.{lexemes_of_stmt, lexemes_of_stmts}
use Rattle.p4_printer.specs.Programs.{lexemes_of_way, lexemes_of_param, lexemes_of_params, lexemes_of_keyset, lexemes_of_keys, lexemes_of_case, lexemes_of_transition, lexemes_of_state, lexemes_of_parser, lexemes_of_register, lexemes_of_action_param, lexemes_of_field}
use Rattle.p4_printer.specs.CanSpell.{EachCan, SomeCan, CanSpellParserStmt, CanSpellSimple, CanSpellKeyset, CanSpellCase, CanSpellNext, CanSpellState, CanSpellParam, CanSpellParser, CanSpellField, CanSpellRegister}
use Rattle.p4_printer.proofs.Spelt.{Spelt, two, spelt_each, spelt_list, spelt_type, spelt_path, spelt_exprs}
use Rattle.p4_printer.proofs.SpeltStatements.{spelt_assign}

-- ---- parameters and fields

spelt_way : (w : Way) → SpellsWay w (lexemes_of_way w)
spelt_way way.Plain = types.plain
spelt_way way.Into = types.into
spelt_way way.Out = types.out
spelt_way way.Both = types.both

pub spelt_param : (d : Param) → CanSpellParam d → (p : ℕ) → Spelt plain_param SpellsParam p d (lexemes_of_param d)
spelt_param d c p = record { tree = record { at = p; way = d.way; ty = d.ty; name = d.name }; same = refl; spells = a_param d.name (spelt_way d.way) (spelt_type d.ty c.0) }

pub spelt_argument : (f : PTy × List ℕ) → CanSpellField f → (p : ℕ) → Spelt (λ z. z) SpellsArgument p f (lexemes_of_action_param f)
spelt_argument f c p = record { tree = f; same = refl; spells = an_argument f.1 (spelt_type f.0 c.0) }

pub spelt_field : (f : PTy × List ℕ) → CanSpellField f → (p : ℕ) → Spelt (λ z. z) SpellsField p f (lexemes_of_field f)
spelt_field f c p = record { tree = f; same = refl; spells = a_field f.1 (spelt_type f.0 c.0) }

map_same : {A : Type 0} (xs : List A) → map (λ z. z) xs ≡ xs
map_same [] = refl
map_same (x ∷ xs) = ap (λ z. x ∷ z) (map_same xs)

-- a list of what has no places
pub plain_list : {A : Type 0} (xs ys : List A) → map (λ z. z) xs ≡ map (λ z. z) ys → xs ≡ ys
plain_list xs ys e = sym (map_same xs) ∙ e ∙ map_same ys

pub spelt_register : (d : Register) → CanSpellRegister d → (p : ℕ) → Spelt plain_register SpellsRegister p d (lexemes_of_register d)
spelt_register d c p =
    let t = lexemes_of_type d.ty in
    let tree : Register = record { at = p; ty = d.ty; count = d.count; name = d.name } in
    record {
      tree = tree;
      same = refl;
      spells = subst (λ z. SpellsRegister p tree (key k.Register ∷ key k.Less ∷ z)) (append_assoc t (key k.More ∷ []) (key k.Open ∷ number (bare d.count) ∷ key k.Close ∷ name d.name ∷ key k.Semicolon ∷ []))
          (a_register (bare d.count) d.name (closed (spelt_type d.ty c.0)));
    }

-- ---- parsers

spelt_call : (q r t : ℕ) (xs ys : List (List ℕ)) → CanSpellParserStmt (call q xs (one r (path t ys) ∷ [])) → (p : ℕ)
    → Spelt plain_stmt SpellsParserStmt p (call q xs (one r (path t ys) ∷ [])) (lexemes_of_stmt (call q xs (one r (path t ys) ∷ [])))
spelt_call q r t xs ys c p =
    let u = lexemes_of_path xs in
    let v = lexemes_of_path ys in
    let at = p + length u + 1 in
    record {
      tree = call p xs (one at (path at ys) ∷ []);
      same = refl;
      spells = subst (λ z. SpellsParserStmt p (call p xs (one at (path at ys) ∷ [])) (u ++ key k.Open ∷ (z ++ key k.Close ∷ key k.Semicolon ∷ []))) (sym (append-nil v)) (parsers.a_call (spelt_path xs c.0) (spelt_path ys c.1));
    }

spelt_parser_stmt : (s : Stmt) → CanSpellParserStmt s → (p : ℕ) → Spelt plain_stmt SpellsParserStmt p s (lexemes_of_stmt s)
spelt_parser_stmt (assign q xs e) c p = let r = spelt_assign q xs e c.0 c.1 p in record { tree = r.tree; same = r.same; spells = an_assignment r.spells }
spelt_parser_stmt (call q xs (one r (path t ys) ∷ [])) c p = spelt_call q r t xs ys c p
spelt_parser_stmt (call q xs _) c p = absurd c.1
spelt_parser_stmt _ c p = absurd c

spelt_simple : (e : Expr) → CanSpellSimple e → (p : ℕ) → Spelt plain SpellsSimple p e (lexemes_of_expr e)
spelt_simple (num q n) c p = record { tree = num p n; same = refl; spells = parsers.a_number n }
spelt_simple (path q (x ∷ [])) c p = record { tree = path p (x ∷ []); same = refl; spells = parsers.a_name x }
spelt_simple (flag q true) c p = record { tree = flag p true; same = refl; spells = parsers.a_true }
spelt_simple (flag q false) c p = record { tree = flag p false; same = refl; spells = parsers.a_false }
spelt_simple _ c p = absurd c

spelt_keyset : (s : Keyset) → CanSpellKeyset s → (p : ℕ) → Spelt plain_keyset SpellsKeyset p s (lexemes_of_keyset s)
spelt_keyset (any q) c p = record { tree = any p; same = refl; spells = a_default }
spelt_keyset (only q e) c p = let r = spelt_simple e c p in record { tree = only p r.tree; same = ap (only 0) r.same; spells = a_value r.spells }
spelt_keyset (masked q e m) c p =
    let r = spelt_simple e c.0 p in
    let s = spelt_simple m c.1 (p + length (lexemes_of_expr e) + 1) in
    record { tree = masked p r.tree s.tree; same = two (masked 0) r.same s.same; spells = a_mask r.spells s.spells }

spelt_keys : (ss : List Keyset) → SomeCan CanSpellKeyset ss → (p : ℕ) → Spelt (map plain_keyset) SpellsKeys p ss (lexemes_of_keys ss)
spelt_keys [] c p = absurd c
spelt_keys (s ∷ []) c p = let r = spelt_keyset s c.0 p in record { tree = r.tree ∷ []; same = ap (λ z. z ∷ []) r.same; spells = one_key r.spells }
spelt_keys (s ∷ t ∷ rest) c p =
    let r = spelt_list plain_keyset SpellsKeyset CanSpellKeyset lexemes_of_keyset spelt_keyset (s ∷ t ∷ rest) c (p + 1) in
    record { tree = r.tree; same = r.same; spells = in_brackets r.spells }

spelt_case : (d : Case) → CanSpellCase d → (p : ℕ) → Spelt plain_case SpellsCase p d (lexemes_of_case d)
spelt_case d c p =
    let r = spelt_keys d.keys c.0 p in
    record { tree = record { keys = r.tree; next = d.next }; same = ap (λ (z : List Keyset). let x : Case = record { keys = z; next = d.next } in x) r.same; spells = a_case d.next r.spells }

spelt_next : (t : Transition) → CanSpellNext t → (p : ℕ) → Spelt plain_transition SpellsNext p t (lexemes_of_transition t)
spelt_next (nowhere q) c p = record { tree = nowhere p; same = refl; spells = no_transition }
spelt_next (to q x) c p = record { tree = to p x; same = refl; spells = a_transition x }
spelt_next (select q es cs) c p =
    let r = spelt_exprs es c.0 (p + 1 + 1 + 1) in
    let s = spelt_each plain_case SpellsCase CanSpellCase lexemes_of_case spelt_case cs c.1 (p + 1 + 1 + 1 + length (lexemes_of_exprs es) + 1 + 1) in
    record { tree = select p r.tree s.tree; same = two (select 0) r.same s.same; spells = a_select r.spells s.spells }

-- statements of a state, in a row
spelt_body : (ss : List Stmt) → EachCan CanSpellParserStmt ss → (p : ℕ) → Spelt (map plain_stmt) (SpellsEach SpellsParserStmt) p ss (lexemes_of_stmts (stmts_from ss))
spelt_body [] c p = record { tree = []; same = refl; spells = no_more }
spelt_body (s ∷ rest) c p =
    let x = spelt_parser_stmt s c.0 p in
    let y = spelt_body rest c.1 (p + length (lexemes_of_stmt s)) in
    record { tree = x.tree ∷ y.tree; same = two (λ a b. a ∷ b) x.same y.same; spells = one_more x.spells y.spells }

abbrev state_with : List ℕ → List Stmt → Transition → ParserState
state_with x ss t = record { at = 0; name = x; body = ss; next = t }

spelt_state : (s : ParserState) → CanSpellState s → (p : ℕ) → Spelt plain_state SpellsState p s (lexemes_of_state s)
spelt_state s c p =
    let x = spelt_body s.body c.1 (p + 1 + 1 + 1) in
    let y = spelt_next s.next c.2 (p + 1 + 1 + 1 + length (lexemes_of_stmts (stmts_from s.body))) in
    record { tree = record { at = p; name = s.name; body = x.tree; next = y.tree }; same = two (state_with s.name) x.same y.same; spells = a_state s.name x.spells y.spells }

pub spelt_params : (ds : List Param) → SomeCan CanSpellParam ds → (p : ℕ) → Spelt (map plain_param) (SpellsList SpellsParam) p ds (lexemes_of_params ds)
spelt_params ds c p = spelt_list plain_param SpellsParam CanSpellParam lexemes_of_param spelt_param ds c p

abbrev parser_with : List ℕ → List Param → List ParserState → Parser
parser_with x ps ss = record { at = 0; name = x; params = ps; states = ss }

pub spelt_parser : (d : Parser) → CanSpellParser d → (p : ℕ) → Spelt plain_parser SpellsParser p d (lexemes_of_parser d)
spelt_parser d c p =
    let x = spelt_params d.params c.1 (p + 1 + 1 + 1) in
    let y = spelt_each plain_state SpellsState CanSpellState lexemes_of_state spelt_state d.states c.2 (p + 1 + 1 + 1 + length (lexemes_of_params d.params) + 1 + 1) in
    record { tree = record { at = p; name = d.name; params = x.tree; states = y.tree }; same = two (parser_with d.name) x.same y.same; spells = a_parser d.name x.spells y.spells }
