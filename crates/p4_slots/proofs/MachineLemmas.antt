-- What a switch over slots does, by what its plan's halves do.
use Rattle.std.proofs.Common.{◌≡◌, ℕ, ◌+◌, ◌≤◌, List, length, vec_len, drop, arith, Bool, true, false, if◌then◌else◌, Option, Some, None, sym, ap, ap₂, ◌∙◌, subst}
use Rattle.std.proofs.Math.Path.{fun_ext}
use Rattle.bit_values.specs.Bytes.{bits_of}
use Rattle.bit_values.specs.Bits.{Word}
use Rattle.p4_tree.specs.View.{program_of}
use Rattle.p4_tree.specs.declared.program.Program.{Program}
use Rattle.p4_meaning.specs.Parts.{parts_of}
use Rattle.p4_rules.specs.Limits.{header_bytes, most_of_program}
use Rattle.p4_rules.specs.ProgramRules.{program_scope}
use Rattle.p4_statements.specs.declared.run.Digest.{Digest}
use Rattle.std.specs.Global.{Vec}
use Rattle.p4_meaning.specs.Pass.{Registers, Queued, parts_leave}
use Rattle.p4_tables.specs.State.{Held}
use Rattle.p4_tables.specs.Programs.{IsStateOf}
use Rattle.p4_tables.specs.Named.{tables_in}
use Rattle.p4_machine.specs.Passages.{entry_in, exit_from, passage_in}
use Rattle.p4_machine.specs.Buffers.{IsMadeFor, IsPlaceFor}
use Rattle.p4_machine.specs.declared.needs.Needs.{Needs}
use Rattle.slot_controls.specs.Callees.{AreCells, AreWide}
use Rattle.slot_controls.specs.declared.externs.Externs as code_externs
use Rattle.slot_controls.specs.Steps.{SlotRun}
use Rattle.slot_passages.specs.Halves.{SlotEntered, SlotLeft, entered_of}
use Rattle.slot_passages.specs.Laws.{HasSize, EntersAlike, LeavesAlike}
use Rattle.slot_passages.specs.declared.work.Work as code_work
use Rattle.slot_metadata.specs.Laws.{IsStored}
use Rattle.slot_terms.specs.States.{State}
use Rattle.slot_terms.specs.declared.state.State as code_state
use Rattle.p4_slots.specs.SlotPlaces.{SlotPlace, places_for, place_in, queued_by, waiting_in}
use Rattle.p4_slots.specs.Machines.{MachineState, cells_by, cells_of}
use Rattle.p4_slots.specs.Plans.{IsSlotPlan}
use Rattle.p4_slots.specs.Kept.{IsReady}
use Rattle.p4_slots.specs.declared.plan.SlotPlan.{SlotPlan}
use Rattle.p4_slots.proofs.PlaceLemmas.{queued_along}

-- ---- a plan that is lent

pub lent_plan : (x y : SlotPlan) → x ≡ y → IsSlotPlan y → IsSlotPlan x
lent_plan x y same is = subst IsSlotPlan (sym same) is

pub lent_tables : (x y : SlotPlan) (st : List Held) → x ≡ y → IsStateOf (program_of y.program) st → IsStateOf (program_of x.program) st
lent_tables x y st same is = subst (λ (z : SlotPlan). IsStateOf (program_of z.program) st) (sym same) is

pub lent_ready : (x y : SlotPlan) (w : code_work.Work) (s : code_state.State) (e : code_externs.Externs) → x ≡ y → IsReady y w s e → IsReady x w s e
lent_ready x y w s e same is = subst (λ (z : SlotPlan). IsReady z w s e) (sym same) is

-- ---- registers

-- the cells by the numbers are those by the names
pub cells_after : (p : Program) (cells : List (List Word)) (r : Registers) → AreCells (parts_of (program_of p)).registers cells r → cells_by p cells ≡ r
cells_after p cells r are = fun_ext (λ x. sym (are.named x))

-- ---- the entry half

pub entered_by : (x : SlotPlan) (i n : MachineState) (y : SlotEntered) (port : ℕ) (frame : List ℕ) → x.program ≡ i.program → i ≡ n
    → EntersAlike (parts_of (program_of x.program)) (places_for (parts_of (program_of x.program))) y (entry_in (program_of x.program) i.tables (cells_by x.program i.registers) port frame)
    → EntersAlike (parts_of (program_of n.program)) (places_for (parts_of (program_of n.program))) y (entry_in (program_of n.program) n.tables (cells_of n) port frame)
entered_by x i n y port frame same is e =
    subst (λ (m : MachineState). EntersAlike (parts_of (program_of m.program)) (places_for (parts_of (program_of m.program))) y (entry_in (program_of m.program) m.tables (cells_of m) port frame)) is
    (subst (λ (p : Program). EntersAlike (parts_of (program_of p)) (places_for (parts_of (program_of p))) y (entry_in (program_of p) i.tables (cells_by p i.registers) port frame)) same e)

-- ---- what waits

-- where a packet waits in a place of the program
pub waits : (p : Program) (q : SlotPlace) (s : State) (rest : List ℕ) (skip : ℕ) → IsPlaceFor (program_of p) (place_in q) → q.full ≡ true → s ≡ q.state → rest ≡ q.rest → skip ≡ q.skip
    → Some (queued_by p s (drop skip (bits_of rest))) ≡ waiting_in q
waits p q s rest skip same full is left taken =
    ap (λ (z : State). Some (queued_by p z (drop skip (bits_of rest)))) is
    ∙ ap (λ (l : List ℕ). Some (queued_by p q.state (drop skip (bits_of l)))) left
    ∙ ap (λ (k : ℕ). Some (queued_by p q.state (drop k (bits_of q.rest)))) taken
    ∙ sym (ap Some (queued_along (program_of p) (program_of q.program) same q.state (drop q.skip (bits_of q.rest))))
    ∙ sym (ap (λ (b : Bool). if b then Some (queued_by q.program q.state (drop q.skip (bits_of q.rest))) else None) full)

-- where none does
pub none_waits : (q : SlotPlace) → q.full ≡ false → None ≡ waiting_in q
none_waits q none = sym (ap (λ (b : Bool). if b then Some (queued_by q.program q.state (drop q.skip (bits_of q.rest))) else None) none)

-- a packet that comes to a place of the program
pub held : (p : Program) (q r : SlotPlace) (s : State) (rest : List ℕ) (o : Option Queued) → IsPlaceFor (program_of p) (place_in q) → waiting_in r ≡ Some (queued_by q.program s rest) → Some (queued_by p s rest) ≡ o → waiting_in r ≡ o
held p q r s rest o same is queued = is ∙ ap Some (queued_along (program_of p) (program_of q.program) same s rest) ∙ queued

-- ---- the exit half

pub left_by : (x : SlotPlan) (i n : MachineState) (y : SlotLeft) (s : State) (rest : List ℕ) → x.program ≡ i.program → i ≡ n
    → LeavesAlike (parts_of (program_of x.program)) (places_for (parts_of (program_of x.program))) y (parts_leave (parts_of (program_of x.program)) (tables_in (parts_of (program_of x.program)) i.tables) (cells_by x.program i.registers) (queued_by x.program s rest))
    → LeavesAlike (parts_of (program_of n.program)) (places_for (parts_of (program_of n.program))) y (parts_leave (parts_of (program_of n.program)) (tables_in (parts_of (program_of n.program)) n.tables) (cells_of n) (queued_by n.program s rest))
left_by x i n y s rest same is e =
    subst (λ (m : MachineState). LeavesAlike (parts_of (program_of m.program)) (places_for (parts_of (program_of m.program))) y (parts_leave (parts_of (program_of m.program)) (tables_in (parts_of (program_of m.program)) m.tables) (cells_of m) (queued_by m.program s rest))) is
    (subst (λ (p : Program). LeavesAlike (parts_of (program_of p)) (places_for (parts_of (program_of p))) y (parts_leave (parts_of (program_of p)) (tables_in (parts_of (program_of p)) i.tables) (cells_by p i.registers) (queued_by p s rest))) same e)

-- ---- a passage

-- the exit half behind an entry half
pub passage_is : (p : Program) (st : List Held) (named : Registers) (port : ℕ) (frame : List ℕ) (cells : List (List Word)) (s : State) (rest : List ℕ)
    → AreCells (parts_of (program_of p)).registers cells (entry_in (program_of p) st named port frame).registers → Some (queued_by p s rest) ≡ (entry_in (program_of p) st named port frame).queued
    → exit_from (parts_of (program_of p)) (tables_in (parts_of (program_of p)) st) (cells_by p cells) (entry_in (program_of p) st named port frame).digests (Some (queued_by p s rest)) ≡ passage_in (program_of p) st named port frame
passage_is p st named port frame cells s rest are queued =
    ap₂ (λ (r : Registers) (o : Option Queued). exit_from (parts_of (program_of p)) (tables_in (parts_of (program_of p)) st) r (entry_in (program_of p) st named port frame).digests o) (cells_after p cells (entry_in (program_of p) st named port frame).registers are) queued

-- ---- buffers

pub most_is : (x : SlotPlan) (p : Program) (n : Needs) → IsSlotPlan x → x.program ≡ p → IsMadeFor (program_of p) n → n.most_digests ≡ x.most_digests
most_is x p n is same made = made.most_digests ∙ sym (is.most_digests ∙ ap (λ (z : Program). most_of_program (program_of z)) same)

pub bytes_are : (x : SlotPlan) (p : Program) (n : Needs) → IsSlotPlan x → x.program ≡ p → IsMadeFor (program_of p) n → n.header_bytes ≡ x.header_bytes
bytes_are x p n is same made = made.header_bytes ∙ sym (is.header_bytes ∙ ap (λ (z : Program). header_bytes (program_scope (program_of z)) (program_of z)) same)

-- the digests of a half fit into a buffer
pub told_fit : (told : Vec Digest) (before most now : ℕ) → vec_len told ≤ most → before + most ≤ now → before + length told.items ≤ now
told_fit told before most now few fits = (let same = told.ok.0 in omega (arith, same, few, fits))

-- an entry half that ends so
pub entered_at : (n : MachineState) (o r : Option ℕ) (u : SlotRun) (port : ℕ) (frame : List ℕ) → o ≡ r
    → EntersAlike (parts_of (program_of n.program)) (places_for (parts_of (program_of n.program))) (entered_of o u frame) (entry_in (program_of n.program) n.tables (cells_of n) port frame)
    → EntersAlike (parts_of (program_of n.program)) (places_for (parts_of (program_of n.program))) (entered_of r u frame) (entry_in (program_of n.program) n.tables (cells_of n) port frame)
entered_at n o r u port frame is e =
    subst (λ (z : Option ℕ). EntersAlike (parts_of (program_of n.program)) (places_for (parts_of (program_of n.program))) (entered_of z u frame) (entry_in (program_of n.program) n.tables (cells_of n) port frame)) is e

-- what is so of the program in the view is so of the plan's
pub size_in : (n i : MachineState) (s : State) → i ≡ n → HasSize (places_for (parts_of (program_of n.program))) s → HasSize (places_for (parts_of (program_of i.program))) s
size_in n i s is h = subst (λ (m : MachineState). HasSize (places_for (parts_of (program_of m.program))) s) (sym is) h

pub wide_in : (n i : MachineState) (cells : List (List Word)) → i ≡ n → AreWide (parts_of (program_of n.program)).registers cells → AreWide (parts_of (program_of i.program)).registers cells
wide_in n i cells is h = subst (λ (m : MachineState). AreWide (parts_of (program_of m.program)).registers cells) (sym is) h

pub size_out : (n i : MachineState) (s : State) → i ≡ n → HasSize (places_for (parts_of (program_of i.program))) s → HasSize (places_for (parts_of (program_of n.program))) s
size_out n i s is h = subst (λ (m : MachineState). HasSize (places_for (parts_of (program_of m.program))) s) is h

pub stored_in : (p q : Program) (s : State) → q ≡ p → IsStored (places_for (parts_of (program_of p))) s → IsStored (places_for (parts_of (program_of q))) s
stored_in p q s is h = subst (λ (z : Program). IsStored (places_for (parts_of (program_of z))) s) (sym is) h
