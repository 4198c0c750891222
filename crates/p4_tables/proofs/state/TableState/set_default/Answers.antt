use Rattle.std.proofs.Common.{◌≡◌, ◌<◌, None, length, sym, ap, subst, ◌∙◌}
use Rattle.table_entries.specs.Entries.{Act}
use Rattle.p4_tables.specs.Programs.{shapes}
use Rattle.p4_tables.specs.Faults.{default_fault_in, default_fault}
use Rattle.p4_tables.proofs.Changed.{within, default_shapes}
use Rattle.p4_tables.proofs.Stays.{default_not_refused, behind_default}
use Rattle.p4_tables.proofs.state.TableState.set_default.Goals as goal

pub invariant_of-self : goal.invariant_of-self
invariant_of-self c =
    let tables = c.self.inside.tables.items in
    let there : c.args.table < length tables = subst (λ (st : _). c.args.table < length st) (sym c.self.view_is) c.requires in
    let default : Act = record { action = c.args.action; args = c.args.args.items } in
    let none : default_fault tables c.args.table default ≡ None =
    default_not_refused tables c.args.table c.index.result.now default (within tables c.args.self.now c.args.table c.self.view_is c.requires) c.index.ensures (sym (ap (λ s. default_fault_in s default) c.shape.ensures) ∙ sym c.default_fault_in.ensures ∙ c.in-None.is)
    in
    let kept = behind_default tables c.put_default.new.tables.items c.args.table c.self.inside.count default there c.self.invariant.sound c.self.invariant.count none c.put_default.ensures in
    record { sound = kept.sound; count = kept.count }

pub returns-in-None-clause-shapes : goal.returns-in-None-clause-shapes
returns-in-None-clause-shapes c =
    let st = c.self.inside.tables.items in
    ap shapes c.put_default.ensures ∙ default_shapes st c.args.table (record { action = c.args.action; args = c.args.args.items }) ∙ ap shapes c.self.view_is
