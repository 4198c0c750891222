-- Halves over slots, by a plan, as those of its program.
use Rattle.std.proofs.Common.{◌≡◌, ℕ, ◌≤◌, List, [], length, map, take, Option, refl, sym, ap, ◌∙◌, subst}
use Rattle.std.specs.Prelude.{vec_capacity}
use Rattle.std.proofs.lemmas.List.{length-map}
use Rattle.std.specs.Option.{option_map}
use Rattle.bit_values.specs.Bits.{Word}
use Rattle.p4_tree.specs.View.{program_of}
use Rattle.p4_meaning.specs.Parts.{Parts, parts_of}
use Rattle.p4_meaning.specs.Pass.{parts_leave, start_cells}
use Rattle.p4_parts.specs.PartsIn.{parts_in}
use Rattle.p4_statements.specs.Runs.{digest_of}
use Rattle.p4_statements.specs.Cells.{cells_in}
use Rattle.p4_tables.specs.State.{Held}
use Rattle.p4_tables.specs.Laws.{RunsListed}
use Rattle.p4_tables.specs.Programs.{IsStateOf}
use Rattle.p4_tables.specs.Named.{tables_in}
use Rattle.p4_machine.specs.Passages.{entry_in}
use Rattle.slot_terms.specs.Places.{Places, path_of, places_of}
use Rattle.slot_terms.specs.States.{State, state_of}
use Rattle.slot_terms.specs.declared.state.State as code_state
use Rattle.slot_places.specs.ProgramPlaces.{ArePlaced}
use Rattle.slot_controls.specs.Callees.{AreWide, named_cells}
use Rattle.slot_controls.specs.Steps.{SlotRun, slot_run}
use Rattle.slot_controls.specs.declared.externs.Externs as code_externs
use Rattle.slot_metadata.specs.Laws.{IsStored}
use Rattle.slot_passages.specs.Halves.{SlotEntered, SlotLeft, enter, leave, left_of}
use Rattle.slot_passages.specs.declared.passage.Out.{Out}
use Rattle.slot_passages.specs.Programs.{IsProgramCode}
use Rattle.slot_passages.specs.Room.{HasRoom}
use Rattle.slot_passages.specs.Laws.{HasSize, Begins, EntersAlike, LeavesAlike, EntriesAgree, ExitsAgree}
use Rattle.slot_passages.specs.declared.work.Work as code_work
use Rattle.slot_programs.specs.Room.{room_of}
use Rattle.slot_tables.specs.Choices.{TablesChoose, choices_in}
use Rattle.p4_slots.specs.SlotPlaces.{places_for, queued_by}
use Rattle.p4_slots.specs.Machines.{cells_by}
use Rattle.p4_slots.specs.Plans.{IsCoded, IsSlotPlan, code_in}
use Rattle.p4_slots.specs.Kept.{IsReady}
use Rattle.p4_slots.specs.declared.plan.SlotPlan.{SlotPlan}

-- the places of a program are those that its plan has
pub placed_is : (p : Parts) (m : Places) → ArePlaced p (room_of p) m → m ≡ places_for p
placed_is p m a = λ i. record { rows = a.rows i; headers = a.headers i; next = a.next i; size = a.size i }

module _ (choose : TablesChoose) (x : SlotPlan) (is : IsSlotPlan x) (st : List Held) (state : IsStateOf (program_of x.program) st) (listed : RunsListed st) where
  -- the code is that of the program
  code_is : IsProgramCode (parts_of (program_of x.program)) (room_of (parts_of (program_of x.program))) (places_for (parts_of (program_of x.program))) (tables_in (parts_of (program_of x.program)) st) (choices_in st) (code_in x)
  code_is =
      let p = parts_of (program_of x.program) in
      let coded : IsCoded p x.coded = subst (λ (q : Parts). IsCoded q x.coded) is.parts is.coded in
      subst (λ (n : Places). IsProgramCode p (room_of p) n (tables_in p st) (choices_in st) (code_in x)) (placed_is p (places_of x.coded.places) coded.placed)
      (coded.code (tables_in p st) (choices_in st) (choose (program_of x.program) st state listed))

  module _ (w : code_work.Work) (s : code_state.State) (e : code_externs.Externs) (ready : IsReady x w s e) where
    -- before a half
    begins : Begins (parts_of (program_of x.program)).registers (places_for (parts_of (program_of x.program))) (slot_run s e) (cells_by x.program e.registers.items)
    begins = record { size = ready.size; cells = record { wide = ready.cells; named = λ n. refl }; digests = ap (map digest_of) ready.none }

    pub entered_alike : EntriesAgree → (port : ℕ) (frame : List ℕ) (y : SlotEntered) → y ≡ enter (choices_in st) (code_in x) port frame (slot_run s e)
        → EntersAlike (parts_of (program_of x.program)) (places_for (parts_of (program_of x.program))) y (entry_in (program_of x.program) st (cells_by x.program e.registers.items) port frame)
    entered_alike agree port frame y made =
        let p = parts_of (program_of x.program) in
        subst (λ (z : SlotEntered). EntersAlike p (places_for p) z (entry_in (program_of x.program) st (cells_by x.program e.registers.items) port frame)) (sym made)
        (agree p (room_of p) (places_for p) (tables_in p st) (choices_in st) (code_in x) code_is port frame (slot_run s e) (cells_by x.program e.registers.items) begins)

    pub left_alike : ExitsAgree → IsStored (places_for (parts_of (program_of x.program))) (state_of s) → (rest : List ℕ) (y : SlotLeft) → y ≡ leave (choices_in st) (code_in x) rest (slot_run s e)
        → LeavesAlike (parts_of (program_of x.program)) (places_for (parts_of (program_of x.program))) y (parts_leave (parts_of (program_of x.program)) (tables_in (parts_of (program_of x.program)) st) (cells_by x.program e.registers.items) (queued_by x.program (state_of s) rest))
    left_alike agree stored rest y made =
        let p = parts_of (program_of x.program) in
        subst (λ (z : SlotLeft). LeavesAlike p (places_for p) z (parts_leave p (tables_in p st) (cells_by x.program e.registers.items) (queued_by x.program (state_of s) rest))) (sym made)
        (agree p (room_of p) (places_for p) (tables_in p st) (choices_in st) (code_in x) code_is rest (slot_run s e) (cells_by x.program e.registers.items) begins stored)

-- room for a passage stays
pub ready_after : (x : SlotPlan) (w v : code_work.Work) (s t : code_state.State) (e f : code_externs.Externs) → IsReady x w s e
    → length v.passed.items ≡ length w.passed.items → length v.keys.items ≡ length w.keys.items → HasSize (places_for (parts_of (program_of x.program))) (state_of t)
    → AreWide (parts_of (program_of x.program)).registers f.registers.items → f.digests.items ≡ [] → vec_capacity f.digests ≡ vec_capacity e.digests → IsReady x v t f
ready_after x w v s t e f r flags keys size wide none room =
    record { flags = flags ∙ r.flags; keys = keys ∙ r.keys; size = size; cells = wide; none = none; digests = subst (λ (n : ℕ). x.most_digests ≤ n) (sym room) r.digests }

-- room for the code of a plan
pub has_room : (x : SlotPlan) (w : code_work.Work) (s : code_state.State) (e : code_externs.Externs) → IsSlotPlan x → IsReady x w s e → HasRoom (length w.passed.items) (length w.keys.items) (code_in x)
has_room x w s e is r =
    subst (λ (n : ℕ). HasRoom n (length w.keys.items) (code_in x)) (sym r.flags) (subst (λ (n : ℕ). HasRoom (length (code_in x).parser.states) n (code_in x)) (sym r.keys) is.coded.room)

-- where a packet goes by a buffer is where it goes
pub going_is : (o : Option Out) (u : SlotRun) (buffer : List ℕ) (g : Option (ℕ × List ℕ)) → g ≡ option_map (λ (z : Out). (z.port, take z.length buffer)) o → (let y : SlotLeft = record { run = u; going = g } in y) ≡ left_of o u buffer
going_is o u buffer g e = λ i. record { run = u; going = e i }

-- as many slots and headers as a plan's places have
pub empty_size : (x : SlotPlan) (s : State) → IsSlotPlan x → length s.slots ≡ x.coded.places.size → length s.valid ≡ length x.coded.places.headers.items → HasSize (places_for (parts_of (program_of x.program))) s
empty_size x s is slots valid =
    let coded : IsCoded (parts_of (program_of x.program)) x.coded = subst (λ (q : Parts). IsCoded q x.coded) is.parts is.coded in
    record {
      slots = slots ∙ coded.placed.size;
      valid = valid ∙ sym (length-map x.coded.places.headers.items path_of) ∙ ap (λ (l : List (List (List ℕ))). length l) coded.placed.headers;
    }

-- registers of a plan's parts are those of its program
pub registers_start : (x : SlotPlan) (cells : List (List Word)) → IsSlotPlan x → cells_in (named_cells (parts_in x.parts).registers cells) ≡ start_cells (parts_in x.parts).registers
    → cells_in (named_cells (parts_of (program_of x.program)).registers cells) ≡ start_cells (parts_of (program_of x.program)).registers
registers_start x cells is e = subst (λ (q : Parts). cells_in (named_cells q.registers cells) ≡ start_cells q.registers) is.parts e

pub registers_wide : (x : SlotPlan) (cells : List (List Word)) → IsSlotPlan x → AreWide (parts_in x.parts).registers cells → AreWide (parts_of (program_of x.program)).registers cells
registers_wide x cells is e = subst (λ (q : Parts). AreWide q.registers cells) is.parts e
