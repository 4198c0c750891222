-- Steps of the program, for what the case says.
use Rattle.std.proofs.Common.{◌≡◌, ℕ, List, length, map, Option, Some, Ok, Result, subst}
use Rattle.std.specs.Prelude.{⊤}
use Rattle.std.specs.Global.{Vec}
use Rattle.outside.specs.State.{StoreState}
use Rattle.indus_tree.specs.Tree.{Property}
use Rattle.indus_tree.specs.View.{property_of}
use Rattle.indus_tree.specs.declared.tree.Property as code
use Rattle.indus_values.specs.declared.state.ControlValue.{ControlValue}
use Rattle.network_file.specs.Events.{event_of}
use Rattle.network_file.specs.declared.event.Event.{Event}
use Rattle.p4_tables.specs.State.{Held, entries_in}
use Rattle.table_items.specs.Items.{within_limits}
use Rattle.table_items.specs.Views.{contents_view}
use Rattle.schedule_file.specs.Views.{event_views}
use Rattle.job_course.specs.declared.status.Status.TheVariants.{BadNetwork}
use Rattle.job_course.specs.declared.status.Stop.{Stop}
use Rattle.job_course.specs.Course.{IsFault}
use Rattle.job_course.specs.Steps.{Follows, Judged}
use Rattle.job_course.proofs.Courses.{judged_follows}
use Rattle.property_course.specs.Files.{typed_property}
use Rattle.table_course.specs.Files.{events_course}
use Rattle.control_course.specs.Lines.{too_many_line}
use Rattle.control_course.specs.Files.{items_answer}
use Rattle.case_course.specs.Packets.{Packets}
use Rattle.run_job.specs.Course.{Base, around}

-- a property's file of this name
pub of_name : (m n : List ℕ) → m ≡ n → (s t : StoreState) (r : Result code.Property Stop) → Follows (typed_property m) property_of s t r → Follows (typed_property n) property_of s t r
of_name m n same s t r h = subst (λ (x : List ℕ). Follows (typed_property x) property_of s t r) same h

-- a schedule of so many packets
pub of_count : (name : Option (List ℕ)) (b : Base) (ps : Packets) (n : ℕ) → n ≡ length ps.arrivals → (s t : StoreState) (r : Result (Vec Event) Stop)
    → Follows (events_course name (record { packets = n; decls = Some b.property.decls; names = b.host.network.names })) event_views s t r → Follows (events_course name (around b ps)) event_views s t r
of_count name b ps n same s t r h = subst (λ (m : ℕ). Follows (events_course name (record { packets = m; decls = Some b.property.decls; names = b.host.network.names })) event_views s t r) same h

-- the number of table items, of what vectors hold
module _ (p : Property) (s : StoreState) (r : Result ⊤ Stop) where
  pub items_follow : (m n : List ℕ) → m ≡ n → (ts us : List (List Held)) → ts ≡ us → (cs ds : List (Vec ControlValue)) → cs ≡ ds → (es fs : List Event) → es ≡ fs
      → Judged (λ x. within_limits p (map entries_in ts) (map contents_view cs) (map event_of es) ≡ Ok x) (IsFault BadNetwork (too_many_line m) (within_limits p (map entries_in ts) (map contents_view cs) (map event_of es))) (λ x. x) r
      → Follows (items_answer n p (map entries_in us) (map contents_view ds) (map event_of fs)) (λ x. x) s s r
  items_follow m n name ts us tables cs ds contents es fs events h =
      subst (λ (x : List Event). Follows (items_answer n p (map entries_in us) (map contents_view ds) (map event_of x)) (λ x. x) s s r) events
      (subst (λ (x : List (Vec ControlValue)). Follows (items_answer n p (map entries_in us) (map contents_view x) (map event_of es)) (λ x. x) s s r) contents
      (subst (λ (x : List (List Held)). Follows (items_answer n p (map entries_in x) (map contents_view cs) (map event_of es)) (λ x. x) s s r) tables
      (subst (λ (x : List ℕ). Follows (items_answer x p (map entries_in ts) (map contents_view cs) (map event_of es)) (λ x. x) s s r) name (judged_follows _ _ _ s r h))))
