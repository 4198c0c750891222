-- Too many items are the fault of what the program counts.
use Rattle.std.proofs.Common.{◌≡◌, ℕ, List, Result, Ok, Err, sym, ap, ◌∙◌}
use Rattle.std.specs.Prelude.{⊤}
use Rattle.indus_tree.specs.Tree.{Property}
use Rattle.indus_tree.specs.State.{Contents}
use Rattle.network_run.specs.Events.{Event}
use Rattle.table_items.specs.Items.{within_limits}
use Rattle.table_items.specs.declared.fault.TooMany.{TooMany}
use Rattle.job_course.specs.declared.status.Status.TheVariants.{BadNetwork}
use Rattle.job_course.specs.Course.{IsFault}
use Rattle.job_course.specs.Steps.{Settles, Rejects}
use Rattle.job_course.proofs.Courses.{reader_settles, reader_rejects}
use Rattle.control_course.specs.Lines.{too_many_line}

module _ (name : List ℕ) (p : Property) (css : List (List Contents)) (es : List (Event Contents)) (counted entries : List ℕ) (same : counted ≡ entries) (r : Result ⊤ TooMany) (is : r ≡ within_limits p counted css es) where
  answer_is : (x : Result ⊤ TooMany) → r ≡ x → within_limits p entries css es ≡ x
  answer_is x e = sym (is ∙ ap (λ (ns : List ℕ). within_limits p ns css es) same) ∙ e

  pub are_few : (x : ⊤) → r ≡ Ok x → Settles (λ y. within_limits p entries css es ≡ Ok y) (IsFault BadNetwork (too_many_line name) (within_limits p entries css es)) x
  are_few x e = reader_settles BadNetwork (too_many_line name) (within_limits p entries css es) x (answer_is (Ok x) e)

  pub are_many : (f : TooMany) (line : List ℕ) → r ≡ Err f → line ≡ too_many_line name f → Rejects (λ y. within_limits p entries css es ≡ Ok y) (IsFault BadNetwork (too_many_line name) (within_limits p entries css es)) BadNetwork line
  are_many f line e said = reader_rejects BadNetwork (too_many_line name) (within_limits p entries css es) f line tt (answer_is (Err f) e) said
