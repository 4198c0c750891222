-- The places of parsers and controls rise.
use Rattle.std.proofs.Common.{◌≡◌, ℕ, ◌+◌, ◌≤◌, List, [], ◌∷◌, ◌++◌, length, refl, arith}
use Rattle.std.proofs.lemmas.List.{length-append}
use Rattle.lex_words.specs.Seen.{Lexeme, name, key}
use Rattle.lex_words.specs.declared.key.Key.TheVariants as k
use Rattle.p4_tree.specs.Tree.{Expr, Stmt, Keyset, Case, Transition, ParserState, Parser, Action, Table, Local, Control}
use Rattle.p4_tree.specs.declared.program.Param.{Param}
use Rattle.p4_tree.specs.declared.program.Register.{Register}
use Rattle.p4_spelling.specs.Words.{apply_name, key_name, default_name}
use Rattle.p4_spelling.specs.Operators.{top}
use Rattle.p4_spelling.specs.Lists.{SpellsEach, no_more, one_more}
use Rattle.p4_spelling.specs.Types.{SpellsRegister, a_register, SpellsParam, a_param}
use Rattle.p4_spelling.specs.Expressions.{Spells}
use Rattle.p4_spelling.specs.Parsers as s
use Rattle.p4_spelling.specs.Parsers.{SpellsParserStmt, SpellsSimple, SpellsKeyset, SpellsKeys, SpellsCase, SpellsNext, SpellsState, SpellsParser}
use Rattle.p4_spelling.specs.Controls as c
use Rattle.p4_spelling.specs.Controls.{SpellsAction, TableProp, keys, size, actions, default, SpellsKey, SpellsArguments, SpellsTableProp, keys_in, default_in, SpellsTable, SpellsLocal, SpellsControl}
use Rattle.p4_spelling.specs.Rising.{IsBetween, EachRises, MayRise, Rises, StmtRises, KeysetRises, CaseRises, NextRises, ParamRises, StateRises, ParserRises, ActionRises, KeyRises, DefaultRises, TableRises, LocalRises, ControlRises}
use Rattle.p4_spelling.proofs.Wider.{wide_each, wide_may, wider, wider_stmt, wider_stmts, wider_keyset, wider_case, wider_next, wider_param, wider_state, wider_key, wider_default, wider_local}
use Rattle.p4_spelling.proofs.ListsRise.{list_rises, some_rise, each_rises}
use Rattle.p4_spelling.proofs.StatementsRise.{rises, exprs_rise, var_rises, const_rises, assign_rises, body_rises}

-- ---- parameters and registers

pub param_rises : (p : ℕ) (d : Param) (u : List Lexeme) → SpellsParam p d u → ParamRises p (p + length u) d
param_rises p _ _ (a_param {u = u} {v = v} x w t) = (omega arith, omega (arith, length-append u (v ++ name x ∷ []), length-append v (name x ∷ [])))

pub register_rises : {p : ℕ} {d : Register} {u : List Lexeme} → SpellsRegister p d u → IsBetween p (p + length u) p × (d.at ≡ p)
register_rises (a_register n x t) = ((omega arith, omega arith), refl)

-- ---- parsers

parser_stmt_rises : (p : ℕ) (t : Stmt) (u : List Lexeme) → SpellsParserStmt p t u → StmtRises p (p + length u) t
parser_stmt_rises p _ _ (s.an_assignment a) = assign_rises a
parser_stmt_rises p _ _ (s.a_call {u = u} {v = v} a b) = (
  omega arith,
  (
    p + length (u ++ key k.Open ∷ (v ++ key k.Close ∷ key k.Semicolon ∷ [])),
    (omega arith, (omega arith, omega (arith, length-append u (key k.Open ∷ (v ++ key k.Close ∷ key k.Semicolon ∷ [])), length-append v (key k.Close ∷ key k.Semicolon ∷ [])))),
    omega arith,
  ),
)

simple_rises : {p : ℕ} {e : Expr} {u : List Lexeme} → SpellsSimple p e u → Rises p (p + length u) e
simple_rises (s.a_number n) = (omega arith, omega arith)
simple_rises (s.a_name x) = (omega arith, omega arith)
simple_rises s.a_true = (omega arith, omega arith)
simple_rises s.a_false = (omega arith, omega arith)

keyset_rises : (p : ℕ) (x : Keyset) (u : List Lexeme) → SpellsKeyset p x u → KeysetRises p (p + length u) x
keyset_rises p _ _ s.a_default = (omega arith, omega arith)
keyset_rises p _ _ s.a_low_line = (omega arith, omega arith)
keyset_rises p _ _ (s.a_value a) = (omega arith, simple_rises a)
keyset_rises p _ _ (s.a_mask {m = m} {u = u} {v = v} a b) = (
  omega arith,
  (p + length u, simple_rises a, wider m (p + length u + 1) (p + length u + 1 + length v) (p + length u + 1) (p + length (u ++ key k.Mask ∷ v)) (omega arith) (omega (arith, length-append u (key k.Mask ∷ v))) (simple_rises b)),
)

keys_rise : {p : ℕ} {xs : List Keyset} {u : List Lexeme} → SpellsKeys p xs u → EachRises KeysetRises p (p + length u) xs
keys_rise {p = p} (s.one_key {s = x} {u = u} a) = (p + length u, keyset_rises p x u a, omega arith)
keys_rise {p = p} (s.in_brackets {ss = xs} {u = u} a) =
    wide_each KeysetRises wider_keyset xs (p + 1) (p + 1 + length u) p (p + length (key k.Open ∷ (u ++ key k.Close ∷ []))) (omega arith) (omega (arith, length-append u (key k.Close ∷ [])))
    (list_rises SpellsKeyset KeysetRises wider_keyset keyset_rises a)

case_rises : (p : ℕ) (x : Case) (u : List Lexeme) → SpellsCase p x u → CaseRises p (p + length u) x
case_rises p _ _ (s.a_case {ss = xs} {u = u} x a) =
    wide_each KeysetRises wider_keyset xs p (p + length u) p (p + length (u ++ key k.Colon ∷ name x ∷ key k.Semicolon ∷ [])) (omega arith) (omega (arith, length-append u (key k.Colon ∷ name x ∷ key k.Semicolon ∷ []))) (keys_rise a)

next_rises : {p : ℕ} {x : Transition} {u : List Lexeme} → SpellsNext p x u → NextRises p (p + length u) x
next_rises s.no_transition = (omega arith, omega arith)
next_rises (s.a_transition x) = (omega arith, omega arith)
next_rises {p = p} (s.a_select {es = es} {cs = cs} {u = u} {v = v} a b) = (
  omega arith,
  (
    p + 1 + 1 + 1 + length u,
    wide_each Rises wider es (p + 1 + 1 + 1) (p + 1 + 1 + 1 + length u) (p + 1) (p + 1 + 1 + 1 + length u) (omega arith) (omega arith) (list_rises (Spells top) Rises wider exprs_rise a),
    wide_each CaseRises wider_case cs (p + 1 + 1 + 1 + length u + 1 + 1) (p + 1 + 1 + 1 + length u + 1 + 1 + length v) (p + 1 + 1 + 1 + length u)
        (p + length (key k.Transition ∷ key k.Select ∷ key k.Open ∷ (u ++ key k.Close ∷ key k.BraceOpen ∷ (v ++ key k.BraceClose ∷ [])))) (omega arith)
        (omega (arith, length-append u (key k.Close ∷ key k.BraceOpen ∷ (v ++ key k.BraceClose ∷ [])), length-append v (key k.BraceClose ∷ []))) (each_rises SpellsCase CaseRises wider_case case_rises b),
  ),
)

state_rises : (p : ℕ) (x : ParserState) (u : List Lexeme) → SpellsState p x u → StateRises p (p + length u) x
state_rises p _ _ (s.a_state {ss = ss} {t = t} {u = u} {v = v} x a b) = (
  omega arith,
  (
    p + 1 + 1 + 1 + length u,
    wide_each StmtRises wider_stmt ss (p + 1 + 1 + 1) (p + 1 + 1 + 1 + length u) (p + 1) (p + 1 + 1 + 1 + length u) (omega arith) (omega arith)
        (each_rises SpellsParserStmt StmtRises wider_stmt parser_stmt_rises a),
    wider_next t (p + 1 + 1 + 1 + length u) (p + 1 + 1 + 1 + length u + length v) (p + 1 + 1 + 1 + length u) (p + length (key k.State ∷ name x ∷ key k.BraceOpen ∷ (u ++ (v ++ key k.BraceClose ∷ [])))) (omega arith)
        (omega (arith, length-append u (v ++ key k.BraceClose ∷ []), length-append v (key k.BraceClose ∷ []))) (next_rises b),
  ),
)

pub parser_rises : {p : ℕ} {d : Parser} {u : List Lexeme} → SpellsParser p d u → (d.at ≡ p) × ParserRises p (p + length u) d
parser_rises {p = p} (s.a_parser {ps = ps} {ss = ss} {u = u} {v = v} x a b) = (
  refl,
  (
    omega arith,
    (
      p + 1 + 1 + 1 + length u,
      wide_each ParamRises wider_param ps (p + 1 + 1 + 1) (p + 1 + 1 + 1 + length u) (p + 1) (p + 1 + 1 + 1 + length u) (omega arith) (omega arith) (list_rises SpellsParam ParamRises wider_param param_rises a),
      wide_each StateRises wider_state ss (p + 1 + 1 + 1 + length u + 1 + 1) (p + 1 + 1 + 1 + length u + 1 + 1 + length v) (p + 1 + 1 + 1 + length u)
          (p + length (key k.Parser ∷ name x ∷ key k.Open ∷ (u ++ key k.Close ∷ key k.BraceOpen ∷ (v ++ key k.BraceClose ∷ [])))) (omega arith)
          (omega (arith, length-append u (key k.Close ∷ key k.BraceOpen ∷ (v ++ key k.BraceClose ∷ [])), length-append v (key k.BraceClose ∷ []))) (each_rises SpellsState StateRises wider_state state_rises b),
    ),
  ),
)

-- ---- actions

action_rises : {p : ℕ} {d : Action} {u : List Lexeme} → SpellsAction p d u → (d.at ≡ p) × ActionRises p (p + length u) d
action_rises {p = p} (c.an_action {ss = ss} {u = u} {v = v} x a b) = (
  refl,
  (
    omega arith,
    wider_stmts ss (p + 1 + 1 + 1 + length u + 1) (p + 1 + 1 + 1 + length u + 1 + length v) (p + 1) (p + length (key k.Action ∷ name x ∷ key k.Open ∷ (u ++ key k.Close ∷ v))) (omega arith)
        (omega (arith, length-append u (key k.Close ∷ v))) (body_rises b),
  ),
)

-- ---- tables

key_rises : (p : ℕ) (x : Expr × List ℕ) (u : List Lexeme) → SpellsKey p x u → KeyRises p (p + length u) x
key_rises p _ _ (c.a_key {e = e} {u = u} x a) =
    wider e p (p + length u) p (p + length (u ++ key k.Colon ∷ name x ∷ key k.Semicolon ∷ [])) (omega arith) (omega (arith, length-append u (key k.Colon ∷ name x ∷ key k.Semicolon ∷ []))) (rises a)

arguments_rise : {p : ℕ} {es : List Expr} {u : List Lexeme} → SpellsArguments p es u → EachRises Rises p (p + length u) es
arguments_rise c.no_brackets = omega arith
arguments_rise {p = p} (c.in_brackets {es = es} {u = u} a) =
    wide_each Rises wider es (p + 1) (p + 1 + length u) p (p + length (key k.Open ∷ (u ++ key k.Close ∷ []))) (omega arith) (omega (arith, length-append u (key k.Close ∷ []))) (some_rise (Spells top) Rises wider exprs_rise a)

-- what a property says
PropRises : (p q : ℕ) → TableProp → Type 0
PropRises p q (keys es) = EachRises KeyRises p q es
PropRises p q (size n) = p ≤ q
PropRises p q (actions xs) = p ≤ q
PropRises p q (default f d) = DefaultRises p q d

prop_rises : {p : ℕ} {x : TableProp} {u : List Lexeme} → SpellsTableProp p x u → PropRises p (p + length u) x
unfolding PropRises
prop_rises {p = p} (c.the_keys {es = es} {u = u} a) =
    wide_each KeyRises wider_key es (p + 1 + 1 + 1) (p + 1 + 1 + 1 + length u) p (p + length (name key_name ∷ key k.Assign ∷ key k.BraceOpen ∷ (u ++ key k.BraceClose ∷ []))) (omega arith)
    (omega (arith, length-append u (key k.BraceClose ∷ []))) (each_rises SpellsKey KeyRises wider_key key_rises a)
prop_rises (c.the_size n) = omega arith
prop_rises (c.the_actions a) = omega arith
prop_rises {p = p} (c.the_default {es = es} {u = u} {v = v} x f a) =
    wide_each Rises wider es (p + length u + 1 + 1 + 1) (p + length u + 1 + 1 + 1 + length v) p (p + length (u ++ name default_name ∷ key k.Assign ∷ name x ∷ (v ++ key k.Semicolon ∷ []))) (omega arith)
    (omega (arith, length-append u (name default_name ∷ key k.Assign ∷ name x ∷ (v ++ key k.Semicolon ∷ [])), length-append v (key k.Semicolon ∷ []))) (arguments_rise a)

-- what all properties say of keys and of the default
record PropsRise (p q : ℕ) (list : List TableProp) : Type 0 where
  keyed : EachRises KeyRises p q (keys_in list)
  defaulted : MayRise DefaultRises p q (default_in list)

wider_props : (list : List TableProp) (p q p' q' : ℕ) → p' ≤ p → q ≤ q' → PropsRise p q list → PropsRise p' q' list
wider_props list p q p' q' low high x = record {
  keyed = wide_each KeyRises wider_key (keys_in list) p q p' q' low high x.keyed;
  defaulted = wide_may DefaultRises wider_default (default_in list) p q p' q' low high x.defaulted;
}

-- r: where the first property ends
one_prop : (p r q : ℕ) (x : TableProp) (list : List TableProp) → p ≤ r → r ≤ q → PropRises p r x → PropsRise p q list → PropsRise p q (x ∷ list)
unfolding PropRises
one_prop p r q (keys es) list low high x y = record { keyed = wide_each KeyRises wider_key es p r p q (omega arith) high x; defaulted = y.defaulted }
one_prop p r q (size n) list low high x y = record { keyed = y.keyed; defaulted = y.defaulted }
one_prop p r q (actions xs) list low high x y = record { keyed = y.keyed; defaulted = y.defaulted }
one_prop p r q (default f d) list low high x y = record { keyed = y.keyed; defaulted = wider_default d p r p q (omega arith) high x }

props_rise : {p : ℕ} {list : List TableProp} {u : List Lexeme} → SpellsEach SpellsTableProp p list u → PropsRise p (p + length u) list
props_rise no_more = record { keyed = omega arith; defaulted = omega arith }
props_rise {p = p} (one_more {a = x} {rest = rest} {u = u} {v = v} a b) =
    let len = length-append u v in
    one_prop p (p + length u) (p + length (u ++ v)) x rest (omega arith) (omega (arith, len)) (prop_rises a)
    (wider_props rest (p + length u) (p + length u + length v) p (p + length (u ++ v)) (omega arith) (omega (arith, len)) (props_rise b))

table_rises : {p : ℕ} {d : Table} {u : List Lexeme} → SpellsTable p d u → (d.at ≡ p) × TableRises p (p + length u) d
table_rises {p = p} (c.a_table {ps = list} {u = u} x a once) =
    let r = wider_props list (p + 1 + 1 + 1) (p + 1 + 1 + 1 + length u) (p + 1) (p + length (key k.Table ∷ name x ∷ key k.BraceOpen ∷ (u ++ key k.BraceClose ∷ []))) (omega arith) (omega (arith, length-append u (key k.BraceClose ∷ []))) (props_rise a) in
    (refl, (omega arith, omega arith, r.keyed, r.defaulted))

-- ---- controls

local_rises : (p : ℕ) (x : Local) (u : List Lexeme) → SpellsLocal p x u → LocalRises p (p + length u) x
local_rises p _ _ (c.an_action a) = let r = action_rises a in (omega arith, r.0, r.1)
local_rises p _ _ (c.a_table a) = let r = table_rises a in (omega arith, r.0, r.1)
local_rises p _ _ (c.a_register a) = register_rises a
local_rises p _ _ (c.a_const a) = (omega arith, const_rises a)
local_rises p _ _ (c.a_var e a) = (omega arith, var_rises a)

pub control_rises : {p : ℕ} {d : Control} {u : List Lexeme} → SpellsControl p d u → (d.at ≡ p) × ControlRises p (p + length u) d
control_rises {p = p} (c.a_control {ps = ps} {ds = ds} {ss = ss} {u = u} {v = v} {w = w} x a b body) = (
  refl,
  (
    omega arith,
    (
      p + 1 + 1 + 1 + length u,
      p + 1 + 1 + 1 + length u + 1 + 1 + length v,
      wide_each ParamRises wider_param ps (p + 1 + 1 + 1) (p + 1 + 1 + 1 + length u) (p + 1) (p + 1 + 1 + 1 + length u) (omega arith) (omega arith) (list_rises SpellsParam ParamRises wider_param param_rises a),
      wide_each LocalRises wider_local ds (p + 1 + 1 + 1 + length u + 1 + 1) (p + 1 + 1 + 1 + length u + 1 + 1 + length v) (p + 1 + 1 + 1 + length u) (p + 1 + 1 + 1 + length u + 1 + 1 + length v) (omega arith) (omega arith)
          (each_rises SpellsLocal LocalRises wider_local local_rises b),
      wider_stmts ss (p + 1 + 1 + 1 + length u + 1 + 1 + length v + 1) (p + 1 + 1 + 1 + length u + 1 + 1 + length v + 1 + length w) (p + 1 + 1 + 1 + length u + 1 + 1 + length v)
          (p + length (key k.Control ∷ name x ∷ key k.Open ∷ (u ++ key k.Close ∷ key k.BraceOpen ∷ (v ++ name apply_name ∷ (w ++ key k.BraceClose ∷ []))))) (omega arith)
          (omega (arith, length-append u (key k.Close ∷ key k.BraceOpen ∷ (v ++ name apply_name ∷ (w ++ key k.BraceClose ∷ []))), length-append v (name apply_name ∷ (w ++ key k.BraceClose ∷ [])), length-append w (key k.BraceClose ∷ []))) (body_rises body),
    ),
  ),
)
