use Rattle.std.proofs.Common.{◌≡◌, ◌≤◌, List, length, sym, ap, subst, ◌∙◌}
use Rattle.p4_tree.specs.View.{program_of}
use Rattle.p4_meaning.specs.Parts.{Parts, parts_of}
use Rattle.p4_parts.specs.PartsIn.{parts_in}
use Rattle.p4_tables.specs.State.{Held, entries_in}
use Rattle.p4_tables.specs.Programs.{state_before, IsStateOf}
use Rattle.p4_tables.specs.Kept.{AreSound}
use Rattle.p4_tables.specs.Carried.{AreRefilled, HoldsCarried}
use Rattle.p4_tables.proofs.Started.{sound_before}
use Rattle.p4_tables.proofs.Refilled.{before_long, as_many, carried_in, carried_is, carried_shapes, carried_sound, carried_named, carried_refilled, carried_few}
use Rattle.p4_tables.proofs.state.TableState.carried.Goals as goal

pub carry-requires : goal.carry-requires
carry-requires c =
    let p = program_of c.args.from.now in
    let own : parts_in c.in_ok-parts.parts ≡ parts_of p = c.in_ok-parts.ensures ∙ ap (λ x. parts_of (program_of x)) c.program.ensures.same in
    record {
      actions = c.as_slice-list.ensures.value;
      count = ap (λ (f : Parts). length f.tables) own ∙ (sym (before_long p) ∙ (sym (as_many c.args.self.now (state_before p) c.requires.state.same) ∙ sym (ap length c.tables.ensures.same)));
    }

pub of-requires : goal.of-requires
of-requires c =
    let p = program_of c.args.from.now in
    let q = program_of c.args.to.now in
    let st = c.args.self.now in
    let own : parts_in c.in_ok-parts.parts ≡ parts_of p = c.in_ok-parts.ensures ∙ ap (λ x. parts_of (program_of x)) c.program.ensures.same in
    let other : parts_in c.in_ok-target.target ≡ parts_of q = c.in_ok-target.ensures ∙ ap (λ x. parts_of (program_of x)) c.program-2.ensures.same in
    let first : c.in_ok-tables.tables.items ≡ state_before q = c.in_ok-tables.ensures ∙ ap (λ x. state_before (program_of x)) c.program-3.ensures.same in
    let is : c.carry.new.tables.items ≡ carried_in p q st = carried_is p q st _ _ _ _ _ own other c.tables.ensures.same first c.in_ok-carry.ensures in
    subst AreSound (sym is) (carried_sound p q st c.requires.state.same c.requires.stands c.tables.ensures.sound (sound_before q c.program-3.ensures.typed))

pub returns-clause-state : goal.returns-clause-state
returns-clause-state c =
    let p = program_of c.args.from.now in
    let q = program_of c.args.to.now in
    let st = c.args.self.now in
    let own : parts_in c.in_ok-parts.parts ≡ parts_of p = c.in_ok-parts.ensures ∙ ap (λ x. parts_of (program_of x)) c.program.ensures.same in
    let other : parts_in c.in_ok-target.target ≡ parts_of q = c.in_ok-target.ensures ∙ ap (λ x. parts_of (program_of x)) c.program-2.ensures.same in
    let first : c.in_ok-tables.tables.items ≡ state_before q = c.in_ok-tables.ensures ∙ ap (λ x. state_before (program_of x)) c.program-3.ensures.same in
    let is : c.carry.new.tables.items ≡ carried_in p q st = carried_is p q st _ _ _ _ _ own other c.tables.ensures.same first c.in_ok-carry.ensures in
    let now : carried_in p q st ≡ c.of.result = sym (c.of.ensures ∙ is) in
    subst (IsStateOf q) now (record { same = carried_shapes p q st })

pub returns-clause-held : goal.returns-clause-held
returns-clause-held c =
    let p = program_of c.args.from.now in
    let q = program_of c.args.to.now in
    let st = c.args.self.now in
    let own : parts_in c.in_ok-parts.parts ≡ parts_of p = c.in_ok-parts.ensures ∙ ap (λ x. parts_of (program_of x)) c.program.ensures.same in
    let other : parts_in c.in_ok-target.target ≡ parts_of q = c.in_ok-target.ensures ∙ ap (λ x. parts_of (program_of x)) c.program-2.ensures.same in
    let first : c.in_ok-tables.tables.items ≡ state_before q = c.in_ok-tables.ensures ∙ ap (λ x. state_before (program_of x)) c.program-3.ensures.same in
    let is : c.carry.new.tables.items ≡ carried_in p q st = carried_is p q st _ _ _ _ _ own other c.tables.ensures.same first c.in_ok-carry.ensures in
    let now : carried_in p q st ≡ c.of.result = sym (c.of.ensures ∙ is) in
    subst (HoldsCarried p st q) now (carried_named p q st c.requires.state.same c.requires.stands c.tables.ensures.sound)

pub returns-clause-refilled : goal.returns-clause-refilled
returns-clause-refilled c =
    let p = program_of c.args.from.now in
    let q = program_of c.args.to.now in
    let st = c.args.self.now in
    let own : parts_in c.in_ok-parts.parts ≡ parts_of p = c.in_ok-parts.ensures ∙ ap (λ x. parts_of (program_of x)) c.program.ensures.same in
    let other : parts_in c.in_ok-target.target ≡ parts_of q = c.in_ok-target.ensures ∙ ap (λ x. parts_of (program_of x)) c.program-2.ensures.same in
    let first : c.in_ok-tables.tables.items ≡ state_before q = c.in_ok-tables.ensures ∙ ap (λ x. state_before (program_of x)) c.program-3.ensures.same in
    let is : c.carry.new.tables.items ≡ carried_in p q st = carried_is p q st _ _ _ _ _ own other c.tables.ensures.same first c.in_ok-carry.ensures in
    let now : carried_in p q st ≡ c.of.result = sym (c.of.ensures ∙ is) in
    subst (AreRefilled (parts_of p) st (parts_of q) (state_before q)) now (carried_refilled p q st c.requires.state.same c.requires.stands)

pub returns-clause-few : goal.returns-clause-few
returns-clause-few c =
    let p = program_of c.args.from.now in
    let q = program_of c.args.to.now in
    let st = c.args.self.now in
    let own : parts_in c.in_ok-parts.parts ≡ parts_of p = c.in_ok-parts.ensures ∙ ap (λ x. parts_of (program_of x)) c.program.ensures.same in
    let other : parts_in c.in_ok-target.target ≡ parts_of q = c.in_ok-target.ensures ∙ ap (λ x. parts_of (program_of x)) c.program-2.ensures.same in
    let first : c.in_ok-tables.tables.items ≡ state_before q = c.in_ok-tables.ensures ∙ ap (λ x. state_before (program_of x)) c.program-3.ensures.same in
    let is : c.carry.new.tables.items ≡ carried_in p q st = carried_is p q st _ _ _ _ _ own other c.tables.ensures.same first c.in_ok-carry.ensures in
    let now : carried_in p q st ≡ c.of.result = sym (c.of.ensures ∙ is) in
    subst (λ (hs : List Held). entries_in hs ≤ entries_in st) now (carried_few p q st c.requires.state.same c.requires.stands)
