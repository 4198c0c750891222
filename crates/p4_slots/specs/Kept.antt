-- What holds of a switch over slots and of a place. Read `Plans`, `SlotPlaces` and `Machines` before it.
use Rattle.std.specs.Prelude.{◌≡◌, ◌+◌, ◌≤◌, [], length, true, vec_capacity}
use Rattle.p4_tree.specs.View.{program_of}
use Rattle.p4_meaning.specs.Parts.{parts_of}
use Rattle.p4_tables.specs.Programs.{IsStateOf}
use Rattle.slot_terms.specs.States.{state_of}
use Rattle.slot_terms.specs.declared.state.State as code_state
use Rattle.slot_controls.specs.Callees.{AreWide}
use Rattle.slot_controls.specs.declared.externs.Externs as code_externs
use Rattle.slot_metadata.specs.Laws.{IsStored}
use Rattle.slot_passages.specs.Laws.{HasSize}
use Rattle.slot_passages.specs.declared.work.Work as code_work
use Rattle.p4_slots.specs.Plans.{IsSlotPlan, code_in}
use Rattle.p4_slots.specs.SlotPlaces.{places_for}
use Rattle.p4_slots.specs.declared.plan.SlotPlan.{SlotPlan}
use Rattle.p4_slots.specs.declared.place.SlotQueued.TheInside as place
use Rattle.p4_slots.specs.declared.machine.SlotMachine.TheInside as machine

-- what a passage works in has room for it: flags, keys, slots, cells as wide as the registers, and digests, of which none is
-- there yet
pub record IsReady (x : SlotPlan) (w : code_work.Work) (s : code_state.State) (e : code_externs.Externs) : Type 0 where
  pub flags : length w.passed.items ≡ length (code_in x).parser.states
  pub keys : length w.keys.items ≡ x.coded.keys
  pub size : HasSize (places_for (parts_of (program_of x.program))) (state_of s)
  pub cells : AreWide (parts_of (program_of x.program)).registers e.registers.items
  pub none : e.digests.items ≡ []
  pub digests : x.most_digests ≤ vec_capacity e.digests

-- its plan is one, its tables are tables of its program, and it has room for a passage and for a frame
pub record IsSlotMachine (s : machine.Inside) : Type 0 where
  pub plan : IsSlotPlan s.plan.value
  pub tables : IsStateOf (program_of s.plan.value.program) s.tables
  pub ready : IsReady s.plan.value s.work s.state s.externs
  pub frame : length s.frame.items ≡ s.plan.value.header_bytes + 65791

-- it has the slots of its program and room for a rest; and where a packet waits, the slots can be taken up again
pub record IsSlotPlace (q : place.Inside) : Type 0 where
  pub size : HasSize (places_for (parts_of (program_of q.plan.value.program))) (state_of q.state)
  pub stored : q.full ≡ true → IsStored (places_for (parts_of (program_of q.plan.value.program))) (state_of q.state)
  pub skip : q.skip ≤ 7
  pub rest : length q.rest.items ≤ 65791
  pub room : q.room ≤ vec_capacity q.rest
