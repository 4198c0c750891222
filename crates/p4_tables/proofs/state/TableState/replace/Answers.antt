use Rattle.std.proofs.Common.{◌≤◌, map, ap, subst, sym, ◌∙◌}
use Rattle.std.specs.Option.{option_map}
use Rattle.p4_tables.specs.State.{entries_in}
use Rattle.p4_tables.specs.Programs.{shapes}
use Rattle.table_entries.specs.View.{entry_of, given_act}
use Rattle.p4_tables.specs.Kept.{AreSound}
use Rattle.p4_tables.proofs.Changed.{replaced_shapes}
use Rattle.p4_tables.proofs.Stays.{behind_replace}
use Rattle.p4_tables.proofs.state.TableState.replace.Goals as goal

pub count_in-self-inside-requires : goal.count_in-self-inside-requires
count_in-self-inside-requires c =
    let sound = behind_replace c.self.inside.tables.items c.put_all.new.tables.items c.args.self.now c.args.table _ _ c.self.view_is c.requires.number c.self.invariant.sound c.requires.free c.in_ok-put_all.ensures.ok in
    subst (λ hs. entries_in hs ≤ 65536) (sym c.deref.ensures.value) sound.few

pub invariant_of-self : goal.invariant_of-self
invariant_of-self c =
    let same = sym c.in_err-put_all.ensures.err in
    record { sound = subst AreSound same c.self.invariant.sound; count = c.self.invariant.count ∙ ap entries_in same }

pub invariant_of-self-2 : goal.invariant_of-self-2
invariant_of-self-2 c =
    let sound = behind_replace c.self.inside.tables.items c.put_all.new.tables.items c.args.self.now c.args.table _ _ c.self.view_is c.requires.number c.self.invariant.sound c.requires.free c.in_ok-put_all.ensures.ok in
    record { sound = sound; count = c.count_in-self-inside.ensures ∙ ap entries_in c.deref.ensures.value }

pub returns-clause-shapes : goal.returns-clause-shapes
returns-clause-shapes c =
    let st = c.self.inside.tables.items in
    ap shapes c.in_ok-put_all.ensures.ok ∙ replaced_shapes st c.args.table (map entry_of c.args.list.items) (option_map given_act c.args.default) ∙ ap shapes c.self.view_is
