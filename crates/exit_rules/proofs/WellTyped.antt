-- A program without exits is well typed, and what is counted of it is the same. What declarations at top level leave in
-- sight is the same, so that only controls differ.
use Rattle.std.proofs.Common.{◌≡◌, ℕ, List, [], ◌∷◌, map, Bool, true, false, cond, refl, sym, ap, ap₂, ◌∙◌, subst, Option, Some, nat_lt, arith}
use Rattle.std.proofs.lemmas.List.{append-nil}
use Rattle.lex_text.specs.Names.{same_text}
use Rattle.rule_tests.specs.Tests.{IsFine}
use Rattle.rule_tests.proofs.FirstBroken.{unbroken_fine}
use Rattle.p4_tree.specs.Tree.{Local, local_action, local_table, local_register, local_const, local_var, Parser, Top, constant, typedef, header_type, struct_type, register, parser, control, Program}
use Rattle.p4_tree.specs.declared.statement.PTy.{PTy}
use Rattle.p4_meaning.specs.Parts.{parser_named, struct_fields, named_in, parser_in, parser_type}
use Rattle.p4_scopes.specs.Scopes.{is_missing, Scope, core, add_up}
use Rattle.p4_declaration_rules.specs.Controls.{part_in, after_top, tops_tests, most_of_top, most_of_tops}
use Rattle.p4_declaration_rules.specs.Firsts.{first_top, first_tops}
use Rattle.p4_rules.specs.Limits.{fields_bytes, header_bytes, most_of_program, add_cells, local_cells, locals_cells, top_cells, tops_cells, cells, limit_tests}
use Rattle.p4_rules.specs.ProgramRules.{program_scope, program_tests, IsWellTyped}
use Rattle.p4_rule_laws.specs.OldPrograms.{OldTop, OldTops}
use Rattle.p4_rule_laws.specs.Growth.{More, TopsGrow, no_top, same_top, wider_struct, other_control}
use Rattle.p4_rule_laws.proofs.RolesGrow.{program_grows}
use Rattle.exit_statements.specs.Without.{Exits}
use Rattle.exit_programs.specs.Programs.{flags, exits_in, local_without, with_flag, control_leaves, control_without, top_without, program_without}
use Rattle.exit_programs.specs.Names.{is_given, HasGivenNames}
use Rattle.exit_rules.specs.Laws.{HasOwnSums}
use Rattle.exit_rules.proofs.Declared.{left_top}
use Rattle.exit_rules.proofs.Alone.{core_sums, top_sums}
use Rattle.exit_rules.proofs.Controls.{AreFree, control_fine, control_count}

-- ---- what is in sight

left_new : is_given flags.left ≡ false
left_new = refl

returned_new : is_given flags.returned ≡ false
returned_new = refl

core_free : AreFree core
unfolding core
core_free = record { left = refl; returned = refl }

top_free : (s : Scope) (y : Top) → OldTop is_given y → AreFree s → AreFree (after_top s y)
top_free s y o f = record {
  left = ap is_missing (left_top is_given flags.left left_new s y o) ∙ f.left;
  returned = ap is_missing (left_top is_given flags.returned returned_new s y o) ∙ f.returned;
}

after_same : (m : Exits) (s : Scope) (y : Top) → after_top s (top_without m y) ≡ after_top s y
after_same m s (constant p t x e) = refl
after_same m s (typedef p t x) = refl
after_same m s (header_type p x fs) = refl
after_same m s (struct_type p x fs) = refl
after_same m s (register p r) = refl
after_same m s (parser p d) = refl
after_same m s (control p c) = refl

first_same : (m : Exits) (s : Scope) (y : Top) → first_top s (top_without m y) ≡ first_top s y
first_same m s (constant p t x e) = refl
first_same m s (typedef p t x) = refl
first_same m s (header_type p x fs) = refl
first_same m s (struct_type p x fs) = refl
first_same m s (register p r) = refl
first_same m s (parser p d) = refl
first_same m s (control p c) = refl

firsts_same : (m : Exits) (s : Scope) (ys : List Top) → first_tops s (map (top_without m) ys) ≡ first_tops s ys
firsts_same m s [] = refl
firsts_same m s (y ∷ ys) = ap (λ t. first_tops t (map (top_without m) ys)) (first_same m s y) ∙ firsts_same m (first_top s y) ys

scope_same : (p : Program) → program_scope (program_without p) ≡ program_scope p
scope_same p = firsts_same (exits_in p) core p.tops

-- ---- declarations at top level

-- no struct gets fields
abbrev no_fields : List ℕ → More
no_fields x = record { front = []; back = [] }

tops_grow : (m : Exits) (main : List (List ℕ)) (u s : Scope) (ys : List Top) → OldTops is_given ys → HasOwnSums s → AreFree s → TopsGrow is_given no_fields false main u s s ys (map (top_without m) ys)
tops_grow m main u s [] o w f = no_top
tops_grow m main u s (constant p t x e ∷ ys) o w f = same_top (constant p t x e) refl o.0 (tops_grow m main u (after_top s (constant p t x e)) ys o.1 (top_sums s w (constant p t x e)) (top_free s (constant p t x e) o.0 f))
tops_grow m main u s (typedef p t x ∷ ys) o w f = same_top (typedef p t x) refl o.0 (tops_grow m main u (after_top s (typedef p t x)) ys o.1 (top_sums s w (typedef p t x)) (top_free s (typedef p t x) o.0 f))
tops_grow m main u s (header_type p x fs ∷ ys) o w f = same_top (header_type p x fs) refl o.0 (tops_grow m main u (after_top s (header_type p x fs)) ys o.1 (top_sums s w (header_type p x fs)) (top_free s (header_type p x fs) o.0 f))
tops_grow m main u s (register p r ∷ ys) o w f = same_top (register p r) refl o.0 (tops_grow m main u (after_top s (register p r)) ys o.1 (top_sums s w (register p r)) (top_free s (register p r) o.0 f))
tops_grow m main u s (parser p d ∷ ys) o w f = same_top (parser p d) refl o.0 (tops_grow m main u (after_top s (parser p d)) ys o.1 (top_sums s w (parser p d)) (top_free s (parser p d) o.0 f))
tops_grow m main u s (struct_type p x fs ∷ ys) o w f =
    let zs = map (top_without m) ys in
    let P : List (PTy × List ℕ) → Type 0 = λ gs. TopsGrow is_given no_fields false main u (after_top s (struct_type p x fs)) (after_top s (struct_type p x gs)) ys zs in
    let Q : List (PTy × List ℕ) → Type 0 = λ gs. TopsGrow is_given no_fields false main u s s (struct_type p x fs ∷ ys) (struct_type p x gs ∷ zs) in
    let rest = tops_grow m main u (after_top s (struct_type p x fs)) ys o.1 (top_sums s w (struct_type p x fs)) (top_free s (struct_type p x fs) o.0 f) in
    subst Q (append-nil fs) (wider_struct p x fs o.0.0 o.0.1 (record { front = tt; back = tt }) (record { once = refl; front = tt; back = tt }) (subst P (sym (append-nil fs)) rest))
tops_grow m main u s (control p c ∷ ys) o w f =
    other_control p c c.params (control_without m c).locals (control_without m c).apply refl (λ e g. control_fine is_given left_new returned_new m s f c o.0 main w g)
    (tops_grow m main u (after_top s (control p c)) ys o.1 (top_sums s w (control p c)) (top_free s (control p c) o.0 f))

-- ---- bytes

parser_step : (m : Exits) (ys : List Top) (x : List ℕ) → parser_named (map (top_without m) ys) x ≡ parser_named ys x
parser_step m [] x = refl
parser_step m (parser p d ∷ ys) x = ap (λ o. cond (same_text d.name x) (Some d) o) (parser_step m ys x)
parser_step m (constant p t y e ∷ ys) x = parser_step m ys x
parser_step m (typedef p t y ∷ ys) x = parser_step m ys x
parser_step m (header_type p y fs ∷ ys) x = parser_step m ys x
parser_step m (struct_type p y fs ∷ ys) x = parser_step m ys x
parser_step m (register p r ∷ ys) x = parser_step m ys x
parser_step m (control p c ∷ ys) x = parser_step m ys x

fields_step : (m : Exits) (ys : List Top) (x : List ℕ) → struct_fields (map (top_without m) ys) x ≡ struct_fields ys x
fields_step m [] x = refl
fields_step m (struct_type p y fs ∷ ys) x = ap (λ gs. cond (same_text y x) fs gs) (fields_step m ys x)
fields_step m (parser p d ∷ ys) x = fields_step m ys x
fields_step m (constant p t y e ∷ ys) x = fields_step m ys x
fields_step m (typedef p t y ∷ ys) x = fields_step m ys x
fields_step m (header_type p y fs ∷ ys) x = fields_step m ys x
fields_step m (register p r ∷ ys) x = fields_step m ys x
fields_step m (control p c ∷ ys) x = fields_step m ys x

pub bytes_same : (p : Program) → header_bytes (program_scope (program_without p)) (program_without p) ≡ header_bytes (program_scope p) p
bytes_same p =
    ap₂ (λ (s : Scope) (fs : List (PTy × List ℕ)). fields_bytes s fs) (scope_same p)
    (fields_step (exits_in p) p.tops (parser_type (parser_in (program_without p)) 1) ∙ ap (λ (d : Option Parser). struct_fields p.tops (parser_type d 1)) (parser_step (exits_in p) p.tops (named_in p.main 0)))

-- ---- cells

none_first : (a b : ℕ) → add_cells 0 (add_cells a b) ≡ add_cells a b
none_first a b = omega arith

within : (ls : List Local) → add_cells 0 (locals_cells ls) ≡ locals_cells ls
within [] = refl
within (l ∷ ls) = none_first (local_cells l) (locals_cells ls)

local_same : (l : Local) → local_cells (local_without l) ≡ local_cells l
local_same (local_action p a) = refl
local_same (local_table p t) = refl
local_same (local_register p r) = refl
local_same (local_const p t x e) = refl
local_same (local_var p t x e) = refl

locals_same : (ls : List Local) → locals_cells (map local_without ls) ≡ locals_cells ls
locals_same [] = refl
locals_same (l ∷ ls) = ap₂ add_cells (local_same l) (locals_same ls)

flag_same : (b : Bool) (ls : List Local) → locals_cells (with_flag b ls) ≡ locals_cells ls
flag_same true ls = within ls
flag_same false ls = refl

top_same : (m : Exits) (y : Top) → top_cells (top_without m y) ≡ top_cells y
top_same m (constant p t x e) = refl
top_same m (typedef p t x) = refl
top_same m (header_type p x fs) = refl
top_same m (struct_type p x fs) = refl
top_same m (register p r) = refl
top_same m (parser p d) = refl
top_same m (control p c) = flag_same (control_leaves m c) (map local_without c.locals) ∙ locals_same c.locals

tops_same : (m : Exits) (ys : List Top) → tops_cells (map (top_without m) ys) ≡ tops_cells ys
tops_same m [] = refl
tops_same m (y ∷ ys) = ap₂ add_cells (top_same m y) (tops_same m ys)

pub cells_same : (p : Program) → cells (program_without p) ≡ cells p
cells_same p = tops_same (exits_in p) p.tops

-- ---- digests

module _ (m : Exits) (main : List (List ℕ)) where
  top_count : (s : Scope) (y : Top) → OldTop is_given y → AreFree s → IsFine (tops_tests main s (y ∷ [])) → most_of_top main s (top_without m y) ≡ most_of_top main s y
  top_count s (constant p t x e) o free f = refl
  top_count s (typedef p t x) o free f = refl
  top_count s (header_type p x fs) o free f = refl
  top_count s (struct_type p x fs) o free f = refl
  top_count s (register p r) o free f = refl
  top_count s (parser p d) o free f = refl
  top_count s (control p c) o free f = control_count is_given left_new returned_new m s free c o (part_in main c.name) f.0

  tops_count : (s : Scope) (ys : List Top) → OldTops is_given ys → AreFree s → IsFine (tops_tests main s ys) → most_of_tops main s (map (top_without m) ys) ≡ most_of_tops main s ys
  tops_count s [] o free f = refl
  tops_count s (y ∷ ys) o free f =
      ap₂ add_up (top_count s y o.0 free (f.0, tt))
      (ap (λ t. most_of_tops main t (map (top_without m) ys)) (after_same m s y) ∙ tops_count (after_top s y) ys o.1 (top_free s y o.0 free) f.1)

pub digests_same : (p : Program) → IsWellTyped p → HasGivenNames p → most_of_program (program_without p) ≡ most_of_program p
digests_same p w g = tops_count (exits_in p) p.main core p.tops g.tops core_free (unbroken_fine (program_tests p) w).0

-- ---- the whole

limits_same : (p : Program) → IsWellTyped p → HasGivenNames p → IsFine (limit_tests (program_scope (program_without p)) (program_without p))
limits_same p w g =
    let f = (unbroken_fine (program_tests p) w).1.1 in (
      ap (nat_lt 2304) (bytes_same p) ∙ f.0,
      (ap (nat_lt 20480) (digests_same p w g) ∙ f.1.0, ap (nat_lt 4210689) (cells_same p) ∙ f.1.1),
    )

pub stays_well_typed : (p : Program) → IsWellTyped p → HasGivenNames p → IsWellTyped (program_without p)
stays_well_typed p w g =
    program_grows is_given no_fields p p.at [] (map (top_without (exits_in p)) p.tops) tt (tops_grow (exits_in p) p.main core core p.tops g.tops core_sums core_free) tt w
    (record { front = refl; back = refl }) (record { front = refl; back = refl }) (limits_same p w g)
