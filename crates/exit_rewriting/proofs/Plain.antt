-- What is spelled has no name with a point: a name is letters, digits and `_`.
use Rattle.std.proofs.Common.{◌≡◌, ℕ, Bool, true, false, not, ◌&&◌, ◌||◌, ◌⊎◌, List, [], ◌∷◌, Option, Some, None, nat_eq, refl, sym, ap, ◌∙◌, inl, inr}
use Rattle.std.specs.List.{list_all}
use Rattle.std.proofs.lemmas.Bool.Decides.{Decides-eqb}
use Rattle.lex_text.specs.NameToken.{is_name_start, is_name_byte}
use Rattle.p4_tree.specs.Tree.{Expr, num, flag, path, valid, applied, error_name, negation, inversion, opposite, binary, conditional, slice, cast, Arg, one, many, Stmt, Stmts, nothing, block, var, assign, choice, return_, exit_, call, done, next, without, otherwise, stmts_from, Keyset, any, only, masked, Case, Transition, nowhere, to, select, ParserState, Table, Local, local_action, local_table, local_register, local_const, local_var, Control, Parser, Top, constant, typedef, header_type, struct_type, register, parser, control}
use Rattle.p4_tree.specs.declared.statement.PTy.{PTy}
use Rattle.p4_tree.specs.declared.statement.PTy.TheVariants as type
use Rattle.p4_tree.specs.declared.program.Param.{Param}
use Rattle.p4_printer.specs.CanSpell.{IsName, EachCan, SomeCan, MayCan, IsVar, IsPathAlone, CanSpellType, CanSpellPath, CanSpellExpr, CanSpellArg, CanSpellStmt, CanSpellStmts, CanSpellParserStmt, CanSpellSimple, CanSpellKeyset, CanSpellCase, CanSpellNext, CanSpellState, CanSpellParam, CanSpellParser, CanSpellField, CanSpellKey, CanSpellDefault, CanSpellTable, CanSpellLocal, CanSpellControl, CanSpellTop}
use Rattle.p4_rule_laws.specs.Old.{OldPath, OldType, OldFields, OldExpr, OldExprs, OldStart, OldArgs, OldStmt, OldStmts}
use Rattle.p4_rule_laws.specs.OldPrograms.{OldKeys, OldDefault, OldTable, OldWays, OldKeyset, OldKeysets, OldCases, OldTransition, OldStates, OldParser, OldLocal, OldLocals, OldControl, OldTop, OldTops}
use Rattle.p4_typing_laws.specs.Plain.{has_point, is_plain}
use Rattle.exit_rewriting.specs.Laws.{PlainIfSpelled}

-- ---- names

-- a byte that passes a test that a point does not pass is no point
no_point : (test : ℕ → Bool) → test 46 ≡ false → (b : ℕ) → test b ≡ true → nat_eq b 46 ≡ false
no_point test out b h = by (nat_eq b 46) refl
  where
    by : (c : Bool) → nat_eq b 46 ≡ c → c ≡ false
    by false e = refl
    by true e = absurd (let c : true ≡ false = sym h ∙ ap test ((Decides-eqb b 46).0 e) ∙ out in cc)

and_left : (a b : Bool) → (a && b) ≡ true → a ≡ true
and_left true b h = refl
and_left false b h = h

and_right : (a b : Bool) → (a && b) ≡ true → b ≡ true
and_right true b h = h
and_right false b h = absurd (let c : false ≡ true = h in cc)

or_neither : (a b : Bool) → a ≡ false → b ≡ false → (a || b) ≡ false
or_neither true b h i = h
or_neither false b h i = i

bytes_plain : (bs : List ℕ) → list_all is_name_byte bs ≡ true → has_point bs ≡ false
bytes_plain [] h = refl
bytes_plain (b ∷ bs) h =
    or_neither (nat_eq b 46) (has_point bs) (no_point is_name_byte refl b (and_left (is_name_byte b) (list_all is_name_byte bs) h)) (bytes_plain bs (and_right (is_name_byte b) (list_all is_name_byte bs) h))

name_plain : (x : List ℕ) → IsName x → is_plain x ≡ true
name_plain [] c = absurd (let e : false ≡ true = c.0 in cc)
name_plain (b ∷ bs) c =
    ap not (or_neither (nat_eq b 46) (has_point bs) (no_point is_name_start refl b (and_left (is_name_start b) (list_all is_name_byte bs) c.0)) (bytes_plain bs (and_right (is_name_start b) (list_all is_name_byte bs) c.0)))

names_plain : (xs : List (List ℕ)) → EachCan IsName xs → OldPath is_plain xs
names_plain [] c = tt
names_plain (x ∷ xs) c = (name_plain x c.0, names_plain xs c.1)

path_plain : (xs : List (List ℕ)) → CanSpellPath xs → OldPath is_plain xs
path_plain [] c = tt
path_plain (x ∷ xs) c = (name_plain x c.0, names_plain xs c.1)

-- ---- types and expressions

type_plain : (t : PTy) → CanSpellType t → OldType is_plain t
type_plain (type.Bit w) c = tt
type_plain type.Bool c = tt
type_plain (type.Named x) c = name_plain x c

fields_plain : (fs : List (PTy × List ℕ)) → EachCan CanSpellField fs → OldFields is_plain fs
fields_plain [] c = tt
fields_plain (f ∷ fs) c = (type_plain f.0 c.0.0, name_plain f.1 c.0.1, fields_plain fs c.1)

expr_plain : (e : Expr) → CanSpellExpr e → OldExpr is_plain e
expr_plain (num p n) c = tt
expr_plain (flag p b) c = tt
expr_plain (path p x) c = path_plain x c
expr_plain (valid p x) c = path_plain x c
expr_plain (applied p t h) c = name_plain t c
expr_plain (error_name p x) c = tt
expr_plain (negation p a) c = expr_plain a c
expr_plain (inversion p a) c = expr_plain a c
expr_plain (opposite p a) c = expr_plain a c
expr_plain (binary p op a b) c = (expr_plain a c.0, expr_plain b c.1)
expr_plain (conditional p t a b) c = (expr_plain t c.0, expr_plain a c.1, expr_plain b c.2)
expr_plain (slice p a h l) c = expr_plain a c.0
expr_plain (cast p t a) c = expr_plain a c.1

exprs_plain : (es : List Expr) → EachCan CanSpellExpr es → OldExprs is_plain es
exprs_plain [] c = tt
exprs_plain (e ∷ es) c = (expr_plain e c.0, exprs_plain es c.1)

some_plain : (es : List Expr) → SomeCan CanSpellExpr es → OldExprs is_plain es
some_plain [] c = tt
some_plain (e ∷ es) c = (expr_plain e c.0, exprs_plain es c.1)

start_plain : (e : Option Expr) → MayCan CanSpellExpr e → OldStart is_plain e
start_plain None c = tt
start_plain (Some e) c = expr_plain e c

args_plain : (args : List Arg) → EachCan CanSpellArg args → OldArgs is_plain args
args_plain [] c = tt
args_plain (one p e ∷ args) c = (expr_plain e c.0, args_plain args c.1)
args_plain (many p es ∷ args) c = (some_plain es c.0, args_plain args c.1)

-- ---- statements

var_plain : (s : Stmt) → IsVar s → OldStmt is_plain s
var_plain (var p ty x e) c = (type_plain ty c.0, name_plain x c.1, start_plain e c.2)
var_plain _ c = absurd c

item_plain : (s : Stmt) → (CanSpellStmt false s → OldStmt is_plain s) → CanSpellStmt false s ⊎ IsVar s → OldStmt is_plain s
item_plain s can (inl c) = can c
item_plain s can (inr c) = var_plain s c

mutual
  stmt_plain : (closed : Bool) (s : Stmt) → CanSpellStmt closed s → OldStmt is_plain s
  stmt_plain closed (nothing p) c = tt
  stmt_plain closed (block p ss) c = stmts_plain ss c
  stmt_plain closed (var p ty x e) c = absurd c
  stmt_plain closed (assign p target e) c = (path_plain target c.0, expr_plain e c.1)
  stmt_plain closed (choice p e s without) c = (expr_plain e c.0, stmt_plain false s c.1, tt)
  stmt_plain closed (choice p e s (otherwise t)) c = (expr_plain e c.0, stmt_plain true s c.1, stmt_plain closed t c.2)
  stmt_plain closed (return_ p) c = tt
  stmt_plain closed (exit_ p) c = tt
  stmt_plain closed (call p callee args) c = (path_plain callee c.0, args_plain args c.1)

  stmts_plain : (ss : Stmts) → CanSpellStmts ss → OldStmts is_plain ss
  stmts_plain done c = tt
  stmts_plain (next s ss) c = (item_plain s (λ d. stmt_plain false s d) c.0, stmts_plain ss c.1)

-- ---- tables

keys_plain : (ks : List (Expr × List ℕ)) → EachCan CanSpellKey ks → OldKeys is_plain ks
keys_plain [] c = tt
keys_plain (k ∷ ks) c = (expr_plain k.0 c.0.0, keys_plain ks c.1)

default_plain : (fixed : Bool) (d : Option (List ℕ × List Expr)) → CanSpellDefault fixed d → OldDefault is_plain d
default_plain fixed None c = tt
default_plain fixed (Some d) c = (name_plain d.0 c.0, exprs_plain d.1 c.1)

table_plain : (t : Table) → CanSpellTable t → OldTable is_plain t
table_plain t c = record { name = name_plain t.name c.0; keys = keys_plain t.keys c.1; actions = names_plain t.actions c.2; default = default_plain t.fixed t.default c.4 }

-- ---- parsers

ways_plain : (qs : List Param) → EachCan CanSpellParam qs → OldWays is_plain qs
ways_plain [] c = tt
ways_plain (q ∷ qs) c = (type_plain q.ty c.0.0, name_plain q.name c.0.1, ways_plain qs c.1)

some_ways : (qs : List Param) → SomeCan CanSpellParam qs → OldWays is_plain qs
some_ways [] c = tt
some_ways (q ∷ qs) c = (type_plain q.ty c.0.0, name_plain q.name c.0.1, ways_plain qs c.1)

simple_plain : (e : Expr) → CanSpellSimple e → OldExpr is_plain e
simple_plain (num p n) c = tt
simple_plain (path p (x ∷ [])) c = (name_plain x c, tt)
simple_plain (flag p b) c = tt
simple_plain _ c = absurd c

keyset_plain : (k : Keyset) → CanSpellKeyset k → OldKeyset is_plain k
keyset_plain (any p) c = tt
keyset_plain (only p e) c = simple_plain e c
keyset_plain (masked p e m) c = (simple_plain e c.0, simple_plain m c.1)

keysets_plain : (ks : List Keyset) → EachCan CanSpellKeyset ks → OldKeysets is_plain ks
keysets_plain [] c = tt
keysets_plain (k ∷ ks) c = (keyset_plain k c.0, keysets_plain ks c.1)

some_keysets : (ks : List Keyset) → SomeCan CanSpellKeyset ks → OldKeysets is_plain ks
some_keysets [] c = tt
some_keysets (k ∷ ks) c = (keyset_plain k c.0, keysets_plain ks c.1)

cases_plain : (cs : List Case) → EachCan CanSpellCase cs → OldCases is_plain cs
cases_plain [] c = tt
cases_plain (k ∷ cs) c = (some_keysets k.keys c.0.0, name_plain k.next c.0.1, cases_plain cs c.1)

next_plain : (t : Transition) → CanSpellNext t → OldTransition is_plain t
next_plain (nowhere p) c = tt
next_plain (to p x) c = name_plain x c
next_plain (select p es cs) c = (some_plain es c.0, cases_plain cs c.1)

alone_plain : (args : List Arg) → IsPathAlone args → OldArgs is_plain args
alone_plain (one p (path q xs) ∷ []) c = (path_plain xs c, tt)
alone_plain _ c = absurd c

parser_stmt_plain : (s : Stmt) → CanSpellParserStmt s → OldStmt is_plain s
parser_stmt_plain (assign p target e) c = (path_plain target c.0, expr_plain e c.1)
parser_stmt_plain (call p callee args) c = (path_plain callee c.0, alone_plain args c.1)
parser_stmt_plain _ c = absurd c

parser_stmts_plain : (ss : List Stmt) → EachCan CanSpellParserStmt ss → OldStmts is_plain (stmts_from ss)
parser_stmts_plain [] c = tt
parser_stmts_plain (s ∷ ss) c = (parser_stmt_plain s c.0, parser_stmts_plain ss c.1)

states_plain : (sts : List ParserState) → EachCan CanSpellState sts → OldStates is_plain sts
states_plain [] c = tt
states_plain (s ∷ sts) c = (name_plain s.name c.0.0, parser_stmts_plain s.body c.0.1, next_plain s.next c.0.2, states_plain sts c.1)

parser_plain : (d : Parser) → CanSpellParser d → OldParser is_plain d
parser_plain d c = record { name = name_plain d.name c.0; params = some_ways d.params c.1; states = states_plain d.states c.2; start = refl }

-- ---- controls

local_plain : (l : Local) → CanSpellLocal l → OldLocal is_plain l
local_plain (local_action p a) c = (name_plain a.name c.0, fields_plain a.params c.1, stmts_plain a.body c.2)
local_plain (local_table p t) c = table_plain t c
local_plain (local_register p r) c = (name_plain r.name c.2, type_plain r.ty c.0)
local_plain (local_const p ty x e) c = (type_plain ty c.0, name_plain x c.1, expr_plain e c.2)
local_plain (local_var p ty x e) c = (type_plain ty c.1.0, name_plain x c.1.1, start_plain e c.1.2)

locals_plain : (ls : List Local) → EachCan CanSpellLocal ls → OldLocals is_plain ls
locals_plain [] c = tt
locals_plain (l ∷ ls) c = (local_plain l c.0, locals_plain ls c.1)

control_plain : (d : Control) → CanSpellControl d → OldControl is_plain d
control_plain d c = record { name = name_plain d.name c.0; params = some_ways d.params c.1; locals = locals_plain d.locals c.2; apply = stmts_plain d.apply c.3 }

-- ---- programs

top_plain : (t : Top) → CanSpellTop t → OldTop is_plain t
top_plain (constant p ty x e) c = (type_plain ty c.0, name_plain x c.1, expr_plain e c.2)
top_plain (typedef p ty x) c = (type_plain ty c.0, name_plain x c.1)
top_plain (header_type p x fs) c = (name_plain x c.0, fields_plain fs c.1)
top_plain (struct_type p x fs) c = (name_plain x c.0, fields_plain fs c.1)
top_plain (register p r) c = (name_plain r.name c.2, type_plain r.ty c.0)
top_plain (parser p d) c = parser_plain d c
top_plain (control p d) c = control_plain d c

tops_plain : (ts : List Top) → EachCan CanSpellTop ts → OldTops is_plain ts
tops_plain [] c = tt
tops_plain (t ∷ ts) c = (top_plain t c.0, tops_plain ts c.1)

pub plain_if_spelled : PlainIfSpelled
plain_if_spelled p c = record { tops = tops_plain p.tops c.tops }
