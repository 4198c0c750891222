-- What may exit, as the code keeps it. Read `Groups` before it, and `Programs` of `exit_programs`.
use Rattle.std.specs.Prelude.{ℕ, List, [], ◌∷◌, map, Bool, true, false, if◌then◌else◌, codes}
use Rattle.std.specs.List.{list_any}
use Rattle.lex_text.specs.Names.{same_text}
use Rattle.p4_tree.specs.Tree.{Local, local_action, local_table, local_register, local_const, local_var, Control, Top, control}
use Rattle.p4_meaning.specs.Scope.{full}
use Rattle.exit_statements.specs.Without.{Body, in_action, in_control, Exits}
use Rattle.exit_statements.specs.Actions.{stmts_exit}
use Rattle.exit_programs.specs.Programs.{name_in}
use Rattle.exit_rewriting.specs.declared.flags.Body as code_body
use Rattle.exit_rewriting.specs.declared.flags.Body.TheVariants as body
use Rattle.exit_rewriting.specs.declared.place.Place.{Place}
use Rattle.exit_rewriting.specs.declared.exits.Exiting.{Exiting}
use Rattle.exit_rewriting.specs.Groups.{fulled, is_marked_in}
use Rattle.exit_rewriting.specs.Marks.{Mark, marked, from_each, is_marked}

abbrev pub body_of : code_body.Body → Body
body_of body.InAction = in_action
body_of body.InControl = in_control

-- ---- names at a place

-- what marks the names that a control declares
abbrev pub own_marks : Local → List Mark
own_marks (local_action p a) = marked a.name true ∷ []
own_marks (local_table p t) = marked t.name true ∷ []
own_marks (local_register p r) = marked r.name true ∷ []
own_marks (local_const p ty x e) = []
own_marks (local_var p ty x e) = []

-- the full name of a name at a place
abbrev pub name_at : Place → List ℕ → List ℕ
name_at p x = if is_marked p.own x then full p.control x else x

-- ---- what may exit

-- an action of a control, marked by whether it may exit
abbrev pub action_marks : Local → List Mark
action_marks (local_action p a) = marked a.name (stmts_exit a.body) ∷ []
action_marks (local_table p t) = []
action_marks (local_register p r) = []
action_marks (local_const p ty x e) = []
action_marks (local_var p ty x e) = []

-- a table, marked by whether an action of its list may exit; `f` gives full names
abbrev pub table_marks : (exits : List ℕ → Bool) (f : List ℕ → List ℕ) → Local → List Mark
table_marks exits f (local_action p a) = []
table_marks exits f (local_table p t) = marked t.name (list_any (λ x. exits (f x)) t.actions) ∷ []
table_marks exits f (local_register p r) = []
table_marks exits f (local_const p ty x e) = []
table_marks exits f (local_var p ty x e) = []

-- those of a control by full names, and of a declaration at top level
abbrev pub control_action_marks : Control → List Mark
control_action_marks c = map (fulled c.name) (from_each action_marks c.locals)

abbrev pub control_table_marks : (exits : List ℕ → Bool) → Control → List Mark
control_table_marks exits c = map (fulled c.name) (from_each (table_marks exits (name_in c)) c.locals)

abbrev pub all_action_marks : Top → List Mark
all_action_marks (control p c) = control_action_marks c
all_action_marks _ = []

abbrev pub all_table_marks : (exits : List ℕ → Bool) → Top → List Mark
all_table_marks exits (control p c) = control_table_marks exits c
all_table_marks exits _ = []

-- what may exit, by full names
abbrev pub exits_from : Exiting → Exits
exits_from e = record { action = is_marked_in e.actions; table = is_marked_in e.tables }

-- the same by the names that are written at a place
abbrev pub exits_by : Exiting → Place → Exits
exits_by e p = record { action = λ x. is_marked_in e.actions (name_at p x); table = λ t. is_marked_in e.tables (name_at p t) }

-- a call may leave: what its arguments are does not count
abbrev pub callee_leaves : Exits → List (List ℕ) → Bool
callee_leaves m [] = false
callee_leaves m (x ∷ []) =
    if same_text x (codes "mark_to_drop") then false else
    if same_text x (codes "digest") then false else
    if same_text x (codes "verify_checksum") then false else
    if same_text x (codes "update_checksum") then false else m.action x
callee_leaves m (x ∷ verb ∷ []) =
    if same_text verb (codes "read") then false else
    if same_text verb (codes "write") then false else
    if same_text verb (codes "apply") then m.table x else false
callee_leaves m (x ∷ y ∷ z ∷ rest) = false
