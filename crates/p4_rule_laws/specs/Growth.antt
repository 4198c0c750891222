-- Programs that are made of others: new declarations, fields and local declarations, other parameters, bodies and states. `s`
-- is the scope of the given part, `t` that of what is made of it, and old names are those of the given program. Read `Old`,
-- `OldPrograms` and `Kept` before it and `Entered` after it.
use Rattle.std.specs.Prelude.{◌≡◌, ℕ, List, [], ◌∷◌, ◌++◌, Bool, true, false, ◌||◌}
use Rattle.lex_text.specs.Names.{same_text}
use Rattle.rule_tests.specs.Tests.{IsFine}
use Rattle.p4_tree.specs.Tree.{Expr, Stmts, ParserState, Action, Table, Local, Control, Parser, Top, struct_type, parser, control, Program}
use Rattle.p4_tree.specs.declared.statement.PTy.{PTy}
use Rattle.p4_tree.specs.declared.program.Param.{Param}
use Rattle.p4_scopes.specs.Scopes.{typed, Scope, value, behind, declare, field_at}
use Rattle.p4_scopes.specs.declared.thing.Thing.{Thing}
use Rattle.p4_scopes.specs.declared.thing.Thing.TheVariants.{Struct}
use Rattle.p4_scopes.specs.declared.thing.Access.{Access}
use Rattle.p4_statement_rules.specs.Expressions.{type_tests}
use Rattle.p4_statement_rules.specs.Statements.{block_tests}
use Rattle.p4_statement_rules.specs.declared.rule.Part.{Part}
use Rattle.p4_statement_rules.specs.declared.rule.Part.TheVariants as place
use Rattle.p4_declaration_rules.specs.Declarations.{params_tests, with_params, is_no_field, fields_tests, field_names, has_twice}
use Rattle.p4_declaration_rules.specs.Parsers.{way_access, start_tests, with_states, states_names, states_tests, parser_tests}
use Rattle.p4_declaration_rules.specs.Controls.{local_tests, after_local, once_tests, part_in, top_tests, after_top, control_tests}
use Rattle.p4_declaration_rules.specs.Firsts.{top_name}
use Rattle.p4_rules.specs.Mains.{all_fields}
use Rattle.p4_rule_laws.specs.Old.{Names, OldPath, Alike, OldType, OldFields}
use Rattle.p4_rule_laws.specs.OldPrograms.{OldWays, OldLocal, OldTop}
use Rattle.p4_rule_laws.specs.Kept.{Keeps, local_name, NewFields}

-- ---- fields

-- fields for a struct, in front of its own and behind them
pub record More : Type 0 where
  pub front : List (PTy × List ℕ)
  pub back : List (PTy × List ℕ)

abbrev pub with_more : More → List (PTy × List ℕ) → List (PTy × List ℕ)
with_more m fs = m.front ++ (fs ++ m.back)

-- their names are new
pub record MoreIsNew (old : Names) (m : More) : Type 0 where
  pub front : NewFields old m.front
  pub back : NewFields old m.back

-- their names stand once, and each is a field of a struct
pub record MoreFits (at : ℕ) (u : Scope) (m : More) : Type 0 where
  pub once : has_twice (field_names (m.front ++ m.back)) ≡ false
  pub front : IsFine (fields_tests at is_no_field u m.front)
  pub back : IsFine (fields_tests at is_no_field u m.back)

-- ---- what is in sight

-- old names stand for the same in both scopes; what was in sight behind the new declarations in front, in the scope `u`,
-- still is; and a struct of the given program has the new fields
pub record Sees (old : Names) (more : List ℕ → More) (u s t : Scope) : Type 0 where
  pub alike : Alike old s t
  pub front : Keeps u t
  pub wider : (x : List ℕ) → old x ≡ true → s (x ∷ []) ≡ typed false Struct → (y : List ℕ) (xs : List (List ℕ)) → old y ≡ false → t (x ∷ y ∷ xs) ≡ field_at u ((more x).front ++ (more x).back) y xs

-- ---- parameters of parsers and controls

-- a type in the place of another, for a parameter that is used so: old names behind it stand for the same
pub record TypeGrows (old : Names) (a : Access) (p : ℕ) (s t : Scope) (y z : PTy) : Type 0 where
  pub fine : Alike old s t → IsFine (type_tests p s y) → IsFine (type_tests p t z)
  pub alike : Alike old s t → (xs : List (List ℕ)) → OldPath old xs → behind s (value a y) xs ≡ behind t (value a z) xs

abbrev pub with_type : Param → PTy → Param
with_type q z = record q { ty = z }

-- parameters of the same names, with other types in the place of some
pub data ParamsGrow (old : Names) : Scope → Scope → List Param → List Param → Type 0 where
  no_param : {s t : Scope} → ParamsGrow old s t [] []
  same_param :
      {s t : Scope} {qs rs : List Param} (q : Param) → OldType old q.ty → old q.name ≡ true
      → ParamsGrow old (declare s q.name (value (way_access q.way) q.ty)) (declare t q.name (value (way_access q.way) q.ty)) qs rs → ParamsGrow old s t (q ∷ qs) (q ∷ rs)
  other_type :
      {s t : Scope} {qs rs : List Param} (q : Param) (z : PTy) → old q.name ≡ true → TypeGrows old (way_access q.way) q.at s t q.ty z
      → ParamsGrow old (declare s q.name (value (way_access q.way) q.ty)) (declare t q.name (value (way_access q.way) z)) qs rs → ParamsGrow old s t (q ∷ qs) (with_type q z ∷ rs)

-- ---- bodies

-- the part in which headers are emitted
abbrev pub is_deparser : Part → Bool
is_deparser place.Deparser = true
is_deparser _ = false

-- the statements of a control in the place of others
pub record BodyGrows (old : Names) (h : Part) (s t : Scope) (b c : Stmts) : Type 0 where
  pub fine : Alike old s t → IsFine (block_tests h s b) → IsFine (block_tests h t c)
  pub once : Alike old s t → IsFine (once_tests h s b) → IsFine (once_tests h t c)

-- the statements of an action in the place of others
pub record ActionGrows (old : Names) (h : Part) (s t : Scope) (a : Action) (c : Stmts) : Type 0 where
  pub fine : Alike old (with_params s a.params) (with_params t a.params) → IsFine (params_tests a.at t a.params) → IsFine (block_tests h (with_params s a.params) a.body) → IsFine (block_tests h (with_params t a.params) c)

-- ---- local declarations

-- an action with another body
abbrev pub with_body : Action → Stmts → Action
with_body a c = record a { body = c }

-- a table with other keys
abbrev pub with_keys : Table → List (Expr × List ℕ) → Table
with_keys b ks = record b { keys = ks }

-- a local declaration of a control of this part in the place of another, in a scope in which what is in sight in v still
-- is
pub record LocalGrows (old : Names) (h : Part) (v s t : Scope) (l m : Local) : Type 0 where
  pub fine : Keeps v t → Alike old s t → IsFine (local_tests h s l) → IsFine (local_tests h t m)
  pub alike : Keeps v t → Alike old s t → IsFine (local_tests h s l) → Alike old (after_local s l) (after_local t m)

-- local declarations with new ones before, between and behind them, and others in the place of some
pub data LocalsGrow (old : Names) (h : Part) (v : Scope) : Scope → Scope → List Local → List Local → Type 0 where
  no_local : {s t : Scope} → LocalsGrow old h v s t [] []
  same_local : {s t : Scope} {ls ms : List Local} (l : Local) → OldLocal old l → LocalsGrow old h v (after_local s l) (after_local t l) ls ms → LocalsGrow old h v s t (l ∷ ls) (l ∷ ms)
  new_local : {s t : Scope} {ls ms : List Local} (m : Local) → old (local_name m) ≡ false → (Keeps v t → IsFine (local_tests h t m)) → LocalsGrow old h v s (after_local t m) ls ms → LocalsGrow old h v s t ls (m ∷ ms)
  other_local : {s t : Scope} {ls ms : List Local} (l m : Local) → LocalGrows old h v s t l m → LocalsGrow old h v (after_local s l) (after_local t m) ls ms → LocalsGrow old h v s t (l ∷ ls) (m ∷ ms)

-- ---- states

-- the states of a parser in the place of others
pub record StatesGrow (old : Names) (s t : Scope) (sts tts : List ParserState) : Type 0 where
  pub names : Alike old s t → IsFine (states_names s sts) → IsFine (states_names t tts)
  pub start : (p : ℕ) → Alike old s t → IsFine (start_tests p (with_states s sts) sts) → IsFine (start_tests p (with_states t tts) tts)
  pub states : Alike old s t → IsFine (states_names s sts) → IsFine (states_tests sts (with_states s sts) sts) → IsFine (states_tests tts (with_states t tts) tts)

-- ---- programs

abbrev pub is_struct_type : Top → Bool
is_struct_type (struct_type p x fs) = true
is_struct_type _ = false

-- some struct has the name
abbrev pub has_struct : List Top → List ℕ → Bool
has_struct [] x = false
has_struct (struct_type p n fs ∷ ys) x = same_text n x || has_struct ys x
has_struct (y ∷ ys) x = has_struct ys x

-- a parser or a control
abbrev pub is_part : Top → Bool
is_part (parser p d) = true
is_part (control p c) = true
is_part _ = false

abbrev pub parser_with : Parser → List Param → List ParserState → Parser
parser_with d rs tts = record d { params = rs; states = tts }

abbrev pub control_with : Control → List Param → List Local → Stmts → Control
control_with c rs ms b = record c { params = rs; locals = ms; apply = b }

-- parameters in the place of others, which they are unless they may change
abbrev pub MayStand : (change : Bool) → List Param → List Param → Type 0
MayStand true qs rs = Unit {0}
MayStand false qs rs = qs ≡ rs

-- new declarations that are no parsers or controls
abbrev pub NewInFront : Names → List Top → Type 0
NewInFront old [] = Unit {0}
NewInFront old (z ∷ zs) = (is_part z ≡ false) × (old (top_name z) ≡ false) × NewInFront old zs

-- declarations at top level, with new ones that are no parsers or controls before, between and behind them, more fields
-- for each struct by its name, other states for parsers, and other local declarations and statements for controls; the
-- parameters of parsers and controls may change or not. What is new is fine where it sees what is declared in front, in the
-- scope `u`, and the new fields
pub data TopsGrow (old : Names) (more : List ℕ → More) (change : Bool) (main : List (List ℕ)) (u : Scope) : Scope → Scope → List Top → List Top → Type 0 where
  no_top : {s t : Scope} → TopsGrow old more change main u s t [] []
  same_top : {s t : Scope} {ys zs : List Top} (y : Top) → is_struct_type y ≡ false → OldTop old y → TopsGrow old more change main u (after_top s y) (after_top t y) ys zs → TopsGrow old more change main u s t (y ∷ ys) (y ∷ zs)
  new_top : {s t : Scope} {ys zs : List Top} (z : Top) → is_part z ≡ false → old (top_name z) ≡ false → (Sees old more u s t → IsFine (top_tests main t z)) → TopsGrow old more change main u s (after_top t z) ys zs → TopsGrow old more change main u s t ys (z ∷ zs)
  wider_struct :
      {s t : Scope} {ys zs : List Top} (p : ℕ) (x : List ℕ) (fs : List (PTy × List ℕ)) → old x ≡ true → OldFields old fs → MoreIsNew old (more x) → MoreFits p u (more x)
      → TopsGrow old more change main u (after_top s (struct_type p x fs)) (after_top t (struct_type p x (with_more (more x) fs))) ys zs → TopsGrow old more change main u s t (struct_type p x fs ∷ ys) (struct_type p x (with_more (more x) fs) ∷ zs)
  other_states :
      {s t : Scope} {ys zs : List Top} (p : ℕ) (d : Parser) (rs : List Param) (tts : List ParserState) → MayStand change d.params rs → OldWays old d.params
      → (Sees old more u s t → IsFine (parser_tests s d) → IsFine (parser_tests t (parser_with d rs tts)))
      → TopsGrow old more change main u (after_top s (parser p d)) (after_top t (parser p (parser_with d rs tts))) ys zs → TopsGrow old more change main u s t (parser p d ∷ ys) (parser p (parser_with d rs tts) ∷ zs)
  other_control :
      {s t : Scope} {ys zs : List Top} (p : ℕ) (c : Control) (rs : List Param) (ms : List Local) (b : Stmts) → MayStand change c.params rs
      → (Sees old more u s t → IsFine (control_tests (part_in main c.name) s c) → IsFine (control_tests (part_in main c.name) t (control_with c rs ms b)))
      → TopsGrow old more change main u (after_top s (control p c)) (after_top t (control p (control_with c rs ms b))) ys zs → TopsGrow old more change main u s t (control p c ∷ ys) (control p (control_with c rs ms b) ∷ zs)

-- the new fields of a struct pass the test that its role asks of each field
pub record InRole (fits : Thing → Bool) (t : Scope) (m : More) : Type 0 where
  pub front : all_fields fits t m.front ≡ true
  pub back : all_fields fits t m.back ≡ true

-- the given program with these declarations at top level: new ones, and then what is made of its own
abbrev pub grown : Program → (at : ℕ) → (front zs : List Top) → Program
grown p q front zs = record p { at = q; tops = front ++ zs }
