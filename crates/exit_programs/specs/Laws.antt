-- What holds of programs without exits. Read `Without` before it, `DigestBound` of the meaning and `Height` of the tree.
use Rattle.std.specs.Prelude.{◌≡◌, ◌≤◌, ℕ, ◌+◌, ◌*◌, List, [], ◌∷◌, ◌++◌, map, Bool, true, false, ◌||◌, Some}
use Rattle.std.specs.List.{list_any}
use Rattle.p4_tree.specs.Tree.{Local, local_action, local_table, local_register, local_const, local_var, Control, Top, constant, typedef, header_type, struct_type, register, parser, control, Program}
use Rattle.p4_tree.specs.declared.program.Param.{Param}
use Rattle.p4_tree.specs.Height.{height}
use Rattle.p4_meaning.specs.Scope.{is_among, names_in}
use Rattle.p4_meaning.specs.Actions.{params_in}
use Rattle.p4_meaning.specs.Parts.{control_in, parts_of}
use Rattle.p4_meaning.specs.DigestBound.{digest_bound}
use Rattle.p4_rules.specs.ProgramRules.{IsWellTyped}
use Rattle.exit_statements.specs.Without.{no_exits, stmts_leave}
use Rattle.exit_statements.specs.Bounds.{sizes}
use Rattle.exit_programs.specs.Programs.{exits_in, control_without, program_without}
use Rattle.exit_programs.specs.Names.{is_given, HasGivenNames}
use Rattle.exit_programs.specs.Without.{parts_without}

-- ---- what leaves

-- an `exit` or a `return` stands there
abbrev pub local_leaves : Local → Bool
local_leaves (local_action p a) = stmts_leave no_exits a.body
local_leaves _ = false

abbrev pub top_leaves : Top → Bool
top_leaves (control p c) = list_any local_leaves c.locals || stmts_leave no_exits c.apply
top_leaves _ = false

abbrev pub program_leaves : Program → Bool
program_leaves p = list_any top_leaves p.tops

-- no `exit` and no `return` is left
abbrev pub NoneIsLeft : Type 0
NoneIsLeft = (p : Program) → program_leaves (program_without p) ≡ false

-- a program without either stays as it is
abbrev pub StaysAsItIs : Type 0
StaysAsItIs = (p : Program) → program_leaves p ≡ false → program_without p ≡ p

-- ---- what runs

-- a control of such a part stays as it is
abbrev pub Stays : Program → (place : ℕ) → Type 0
Stays p n = (c : Control) → control_in p n ≡ Some c → control_without (exits_in p) c ≡ c

-- the parts are the given ones, with actions, ingress and egress without exits, where verify checksum, compute checksum and
-- the deparser stay
abbrev pub PartsAgree : Type 0
PartsAgree = (p : Program) → IsWellTyped p → HasGivenNames p → Stays p 1 → Stays p 4 → Stays p 5 → parts_of (program_without p) ≡ parts_without p

-- the bound on digests is the same
abbrev pub BoundStays : Type 0
BoundStays = (p : Program) → digest_bound (parts_without p) ≡ digest_bound (parts_of p)

-- ---- names

abbrev pub param_names : List Param → List (List ℕ)
param_names ps = map (λ (q : Param). q.name) ps

-- the names that a declaration declares, at any depth
abbrev pub local_names : Local → List (List ℕ)
local_names (local_action p a) = a.name ∷ (params_in a.params ++ names_in a.body)
local_names (local_table p t) = t.name ∷ []
local_names (local_register p r) = r.name ∷ []
local_names (local_const p ty x e) = x ∷ []
local_names (local_var p ty x e) = x ∷ []

abbrev pub locals_names : List Local → List (List ℕ)
locals_names [] = []
locals_names (l ∷ ls) = local_names l ++ locals_names ls

abbrev pub top_names : Top → List (List ℕ)
top_names (constant p ty x e) = x ∷ []
top_names (typedef p ty x) = x ∷ []
top_names (header_type p x fs) = x ∷ map (λ f. f.1) fs
top_names (struct_type p x fs) = x ∷ map (λ f. f.1) fs
top_names (register p r) = r.name ∷ []
top_names (parser p d) = d.name ∷ (param_names d.params ++ map (λ s. s.name) d.states)
top_names (control p c) = c.name ∷ (param_names c.params ++ (locals_names c.locals ++ names_in c.apply))

abbrev pub tops_names : List Top → List (List ℕ)
tops_names [] = []
tops_names (t ∷ ts) = top_names t ++ tops_names ts

-- each name that it declares and the given program does not begins with `hydra_`, and it declares each name that the given
-- one declares
abbrev pub NamesStand : Type 0
NamesStand = (p : Program) (x : List ℕ) → is_given x ≡ true → is_among (tops_names (program_without p).tops) x ≡ is_among (tops_names p.tops) x

-- ---- what grows

-- how many declarations of controls and statements there are
abbrev pub local_size : Local → ℕ
local_size (local_action p a) = 1 + sizes a.body
local_size _ = 1

abbrev pub locals_size : List Local → ℕ
locals_size [] = 0
locals_size (l ∷ ls) = local_size l + locals_size ls

abbrev pub top_size : Top → ℕ
top_size (control p c) = 1 + locals_size c.locals + sizes c.apply
top_size _ = 1

abbrev pub program_size : List Top → ℕ
program_size [] = 0
program_size (t ∷ ts) = top_size t + program_size ts

-- at most five times as many
abbrev pub SizeBounded : Type 0
SizeBounded = (p : Program) → program_size (program_without p).tops ≤ 5 * program_size p.tops

-- at most three times as high
abbrev pub HeightBounded : Type 0
HeightBounded = (p : Program) → height (program_without p) ≤ 3 * height p
