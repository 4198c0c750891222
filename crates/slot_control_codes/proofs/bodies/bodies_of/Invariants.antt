use Rattle.std.proofs.Common.{◌≡◌, map, drop}
use Rattle.std.specs.Prelude.{max}
use Rattle.p4_parts.specs.PartsIn.{action_in, table_in}
use Rattle.slot_terms.specs.Places.{places_of}
use Rattle.slot_controls.specs.Steps.{action_slots_of, most_told_one, steps_of}
use Rattle.slot_controls.specs.StepRuns.{HaveBodies}
use Rattle.slot_control_codes.specs.Callees.{callees_of}
use Rattle.slot_control_codes.specs.Known.{has_bodies}
use Rattle.slot_control_codes.specs.Found.{most_listed}
use Rattle.slot_control_codes.proofs.bodies.bodies_of.Given as goal

abbrev pub invariant-loop-i : goal.invariant-loop-i
invariant-loop-i l = record {
  same : places_of l.places ≡ places_of l.fn.places;
  have : HaveBodies (callees_of l.k) (places_of l.fn.places) (table_in l.t) l.i (map action_slots_of l.bodies.slots.items) (steps_of l.bodies.steps.items);
  known : has_bodies (callees_of l.k) (table_in l.t) (map action_in (drop l.i l.k.actions.now)) (places_of l.fn.places) ≡ has_bodies (callees_of l.k) (table_in l.t) (callees_of l.k).actions (places_of l.fn.places);
  told : max (most_told_one (steps_of l.bodies.steps.items)) (most_listed (callees_of l.k).actions (table_in l.t) (map action_in (drop l.i l.k.actions.now))) ≡ most_listed (callees_of l.k).actions (table_in l.t) (callees_of l.k).actions;
}
