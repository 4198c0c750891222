-- What the keys of own tables and the parameters of own actions hold, by the rules, is the same in a linked program. Read
-- `Promises` before it, and `Controls` of `p4_declaration_rules`.
use Rattle.std.specs.Prelude.{◌≡◌, ℕ, ◌<◌, ◌^◌, List, [], ◌∷◌, ◌++◌, if◌then◌else◌}
use Rattle.p4_tree.specs.Tree.{Expr, Local, local_action, local_table, Top, control, Program}
use Rattle.p4_scopes.specs.Scopes.{Scope, kinds_in, own, core}
use Rattle.p4_scopes.specs.declared.kind.Kind.{Kind}
use Rattle.p4_declaration_rules.specs.Parsers.{with_ways}
use Rattle.p4_declaration_rules.specs.Controls.{after_local, after_top}
use Rattle.own_programs.specs.OwnPrograms.{is_own}
use Rattle.linked_programs.specs.Lowered.{Lowered}
use Rattle.linked_programs.specs.Linked.{linked}
use Rattle.linked_hosts.specs.Linkable.{IsGiven, Linkable}
use Rattle.linked_rules.specs.Promises.{KeepsRules}

-- the kinds of keys, with this in sight
abbrev pub key_kinds : Scope → List (Expr × List ℕ) → List Kind
key_kinds s [] = []
key_kinds s (k ∷ ks) = own s k.0 ∷ key_kinds s ks

-- a table with the kinds of its keys, and an action with those of its parameters, where the name is the program's own
abbrev pub holds : Scope → Local → List (List ℕ × List Kind)
holds s (local_table p t) = if is_own t.name then (t.name, key_kinds s t.keys) ∷ [] else []
holds s (local_action p a) = if is_own a.name then (a.name, kinds_in s a.params) ∷ [] else []
holds s _ = []

abbrev pub locals_hold : Scope → List Local → List (List ℕ × List Kind)
locals_hold s [] = []
locals_hold s (l ∷ ls) = holds s l ++ locals_hold (after_local s l) ls

-- those of each control, by its name
abbrev pub tops_hold : Scope → List Top → List (List ℕ × List (List ℕ × List Kind))
tops_hold s [] = []
tops_hold s (control p c ∷ ts) = (c.name, locals_hold (with_ways s c.params) c.locals) ∷ tops_hold (after_top s (control p c)) ts
tops_hold s (t ∷ ts) = tops_hold (after_top s t) ts

abbrev pub LinkedHolds : Type 0
LinkedHolds =
    (l : Lowered) (p : Program) → IsGiven p → (k : Linkable p) → KeepsRules l p k →
    (size s : ℕ) (links : List ℕ) → s < 2 ^ 16 → tops_hold core (linked l size s links p).tops ≡ tops_hold core p.tops
