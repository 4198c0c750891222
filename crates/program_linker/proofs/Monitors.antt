-- The monitor's trees, by the names of a program's ingress and egress.
use Rattle.std.proofs.Common.{◌≡◌, ℕ, List, Option, ◌++◌, ap, ◌∙◌}
use Rattle.indus_tree.specs.Tree.{Property}
use Rattle.tele_layout.specs.Telemetry.{first_byte}
use Rattle.p4_tree.specs.Tree.{Program}
use Rattle.p4_meaning.specs.Scope.{Roots}
use Rattle.lowered_code.specs.Environment.{in_control}
use Rattle.lower_blocks.specs.Trees.{Lowered, lowered_trees, mapped, entry_lookups, exit_lookups}
use Rattle.whole_properties.specs.Whole.{Given}
use Rattle.monitor_trees.specs.Trees.{marked}
use Rattle.program_linker.specs.Parts.{name_at, roots_at, lowered_in, rows_in}

abbrev given : Property → (ingress egress : List ℕ) → Given
given p i e = record { property = p; ingress = i; egress = e }

pub monitor_is : (p : Property) (f : Program) (mark : ℕ) (i e : List ℕ) (r q : Roots) (t : Lowered) → mark ≡ first_byte p.edition → i ≡ name_at f 2 → e ≡ name_at f 3
    → r ≡ roots_at f 2 → q ≡ roots_at f 3 → t ≡ lowered_trees (given p i e) (in_control r) (in_control q) → marked mark t ≡ lowered_in p f
monitor_is p f mark i e r q t is_mark is_i is_e is_r is_q is =
    ap (λ (m : ℕ). marked m t) is_mark
    ∙ ap (marked (first_byte p.edition))
    (is
    ∙ ap (λ (x : List ℕ). lowered_trees (given p x e) (in_control r) (in_control q)) is_i
    ∙ ap (λ (x : List ℕ). lowered_trees (given p (name_at f 2) x) (in_control r) (in_control q)) is_e
    ∙ ap (λ (x : Roots). lowered_trees (given p (name_at f 2) (name_at f 3)) (in_control x) (in_control q)) is_r
    ∙ ap (λ (x : Roots). lowered_trees (given p (name_at f 2) (name_at f 3)) (in_control (roots_at f 2)) (in_control x)) is_q)

abbrev Rows : Type 0
Rows = List (List ℕ × (List ℕ × Option ℕ))

pub rows_are : (p : Property) (f : Program) (i e : List ℕ) (rows : Rows) → i ≡ name_at f 2 → e ≡ name_at f 3
    → rows ≡ mapped p i (entry_lookups (given p i e)) ++ mapped p e (exit_lookups (given p i e)) → rows ≡ rows_in p f
rows_are p f i e rows is_i is_e is =
    is
    ∙ ap (λ (x : List ℕ). mapped p x (entry_lookups (given p x e)) ++ mapped p e (exit_lookups (given p x e))) is_i
    ∙ ap (λ (x : List ℕ). mapped p (name_at f 2) (entry_lookups (given p (name_at f 2) x)) ++ mapped p x (exit_lookups (given p (name_at f 2) x))) is_e
