-- What is tested of controls and of declarations at top level. Read `Parsers` before it and `Firsts` after it.
use Rattle.std.specs.Prelude.{ℕ, List, [], ◌∷◌, Bool, false, ◌||◌, Option, Some, None, if◌then◌else◌}
use Rattle.lex_text.specs.Names.{same_text, same_path}
use Rattle.rule_tests.specs.Tests.{Tests, fine, test, both}
use Rattle.p4_tree.specs.Tree.{Arg, one, Stmt, Stmts, call, done, next, Local, local_action, local_table, local_register, local_const, local_var, Control, Top, constant, typedef, header_type, struct_type, register, parser, control}
use Rattle.p4_scopes.specs.Scopes as scope
use Rattle.p4_scopes.specs.Scopes.{Scope, alias, fields, value, action, table, part, declare, fields_bits, add_up}
use Rattle.p4_scopes.specs.declared.thing.Thing.TheVariants.{Header, Struct}
use Rattle.p4_scopes.specs.declared.thing.Access.TheVariants.{Writable, Constant}
use Rattle.p4_statement_rules.specs.Expressions.{new_tests}
use Rattle.p4_statement_rules.specs.Forms.{Form, emits, form_of, has_calls_alone, path_in}
use Rattle.p4_statement_rules.specs.Statements.{var_tests, block_tests}
use Rattle.p4_statement_rules.specs.declared.rule.ProgramRule.{ProgramRule}
use Rattle.p4_statement_rules.specs.declared.rule.ProgramRule.TheVariants.{NameTwice, WrongPlace}
use Rattle.p4_statement_rules.specs.declared.rule.Part.{Part}
use Rattle.p4_statement_rules.specs.declared.rule.Part.TheVariants as place
use Rattle.p4_declaration_rules.specs.Digests.{most_of, most_of_table}
use Rattle.p4_declaration_rules.specs.Declarations.{const_tests, typedef_tests, register_tests, action_tests, header_tests, struct_tests}
use Rattle.p4_declaration_rules.specs.Tables.{table_tests}
use Rattle.p4_declaration_rules.specs.Parsers.{with_ways, ways_tests, parser_tests}

-- ---- declarations of a control

-- where the statements of an action of a control stand
abbrev pub action_part : Part → Part
action_part place.Apply = place.Action
action_part _ = place.Other

abbrev pub local_at : Local → ℕ
local_at (local_action p a) = p
local_at (local_table p t) = p
local_at (local_register p r) = p
local_at (local_const p t x e) = p
local_at (local_var p t x e) = p

abbrev pub declared_tests : Part → Scope → Local → Tests ProgramRule
declared_tests h s (local_action p a) = action_tests (action_part h) s a
declared_tests h s (local_table p t) = table_tests s t
declared_tests h s (local_register p r) = register_tests s r
declared_tests h s (local_const p t x e) = const_tests p s t x e
declared_tests h s (local_var p t x e) = var_tests p s t x e

-- a control that has its one call alone declares nothing
abbrev pub local_tests : Part → Scope → Local → Tests ProgramRule
local_tests h s l = both (test (local_at l) WrongPlace (has_calls_alone h)) (declared_tests h s l)

abbrev pub after_local : Scope → Local → Scope
after_local s (local_action p a) = declare s a.name (action a.params (most_of s a.body))
after_local s (local_table p t) = declare s t.name (table (most_of_table s t.actions t.default))
after_local s (local_register p r) = declare s r.name (scope.register r.ty)
after_local s (local_const p t x e) = declare s x (value Constant t)
after_local s (local_var p t x e) = declare s x (value Writable t)

abbrev pub locals_tests : Part → Scope → List Local → Tests ProgramRule
locals_tests h s [] = fine
locals_tests h s (l ∷ ls) = both (local_tests h s l) (locals_tests h (after_local s l) ls)

abbrev pub after_locals : Scope → List Local → Scope
after_locals s [] = s
after_locals s (l ∷ ls) = after_locals (after_local s l) ls

-- ---- a header is emitted once

abbrev pub some_path : Option (ℕ × List (List ℕ)) → List (List (List ℕ))
some_path None = []
some_path (Some x) = x.1 ∷ []

abbrev pub arg_path : List Arg → List (List (List ℕ))
arg_path (one p e ∷ []) = some_path (path_in e)
arg_path _ = []

-- what a call of this form emits
abbrev pub form_emits : Form → List Arg → List (List (List ℕ))
form_emits emits args = arg_path args
form_emits _ args = []

abbrev pub stmt_emits : Scope → Stmt → List (List (List ℕ))
stmt_emits s (call p x args) = form_emits (form_of s x) args
stmt_emits s _ = []

abbrev pub is_one_of : List (List (List ℕ)) → List (List ℕ) → Bool
is_one_of [] x = false
is_one_of (y ∷ ys) x = same_path y x || is_one_of ys x

abbrev pub emit_at : Stmt → ℕ
emit_at (call p x args) = p
emit_at _ = 0

-- what is emitted here was emitted before
abbrev pub emit_tests : (before : List (List (List ℕ))) → (at : ℕ) → (now : List (List (List ℕ))) → Tests ProgramRule
emit_tests before p [] = fine
emit_tests before p (x ∷ xs) = test p NameTwice (is_one_of before x)

abbrev pub emitted_behind : (now before : List (List (List ℕ))) → List (List (List ℕ))
emitted_behind [] before = before
emitted_behind (x ∷ xs) before = x ∷ before

abbrev pub emits_tests : Scope → (before : List (List (List ℕ))) → Stmts → Tests ProgramRule
emits_tests s before done = fine
emits_tests s before (next c rest) = both (emit_tests before (emit_at c) (stmt_emits s c)) (emits_tests s (emitted_behind (stmt_emits s c) before) rest)

abbrev pub once_tests : Part → Scope → Stmts → Tests ProgramRule
once_tests place.Deparser s ss = emits_tests s [] ss
once_tests _ s ss = fine

-- ---- controls

-- what is in sight in a control's statements
abbrev pub in_control : Scope → Control → Scope
in_control s c = after_locals (with_ways s c.params) c.locals

abbrev pub control_tests : Part → Scope → Control → Tests ProgramRule
control_tests h s c =
    both (new_tests c.at s c.name)
    (both (ways_tests s c.params)
    (both (locals_tests h (with_ways s c.params) c.locals)
    (both (block_tests h (in_control s c) c.apply)
    (once_tests h (in_control s c) c.apply))))

-- ---- declarations at top level

-- the part that the control of a name is, by its place in `main`: behind the parser verify checksum, ingress, egress,
-- compute checksum and the deparser
abbrev pub part_in : List (List ℕ) → List ℕ → Part
part_in (d ∷ v ∷ i ∷ e ∷ k ∷ m ∷ []) x =
    if same_text v x then place.Verify else
    if same_text i x then place.Apply else
    if same_text e x then place.Apply else
    if same_text k x then place.Compute else
    if same_text m x then place.Deparser else place.Other
part_in _ x = place.Other

abbrev pub top_tests : (main : List (List ℕ)) → Scope → Top → Tests ProgramRule
top_tests main s (constant p t x e) = const_tests p s t x e
top_tests main s (typedef p t x) = typedef_tests p s t x
top_tests main s (header_type p x fs) = header_tests p s x fs
top_tests main s (struct_type p x fs) = struct_tests p s x fs
top_tests main s (register p r) = register_tests s r
top_tests main s (parser p d) = parser_tests s d
top_tests main s (control p c) = control_tests (part_in main c.name) s c

abbrev pub after_top : Scope → Top → Scope
after_top s (constant p t x e) = declare s x (value Constant t)
after_top s (typedef p t x) = declare s x (alias t)
after_top s (header_type p x fs) = declare s x (fields (Header (fields_bits s fs)) fs)
after_top s (struct_type p x fs) = declare s x (fields Struct fs)
after_top s (register p r) = declare s r.name (scope.register r.ty)
after_top s (parser p d) = declare s d.name part
after_top s (control p c) = declare s c.name part

abbrev pub tops_tests : (main : List (List ℕ)) → Scope → List Top → Tests ProgramRule
tops_tests main s [] = fine
tops_tests main s (t ∷ ts) = both (top_tests main s t) (tops_tests main (after_top s t) ts)

abbrev pub after_tops : Scope → List Top → Scope
after_tops s [] = s
after_tops s (t ∷ ts) = after_tops (after_top s t) ts

-- ---- digests

-- the most digests that the statements of such a part give
abbrev pub most_of_body : Part → Scope → Stmts → ℕ
most_of_body place.Apply s ss = most_of s ss
most_of_body _ s ss = 0

abbrev pub most_of_part : Part → Scope → Control → ℕ
most_of_part h s c = most_of_body h (in_control s c) c.apply

abbrev pub most_of_top : (main : List (List ℕ)) → Scope → Top → ℕ
most_of_top main s (control p c) = most_of_part (part_in main c.name) s c
most_of_top main s _ = 0

-- the most that ingress gives, and egress
abbrev pub most_of_tops : (main : List (List ℕ)) → Scope → List Top → ℕ
most_of_tops main s [] = 0
most_of_tops main s (t ∷ ts) = add_up (most_of_top main s t) (most_of_tops main (after_top s t) ts)
