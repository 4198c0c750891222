use Rattle.std.proofs.Common.{◌≡◌, ◌<◌, None, [], ◌∷◌, ◌++◌, length, sym, ap, subst, ◌∙◌}
use Rattle.p4_tables.specs.State.{held_at}
use Rattle.p4_tables.specs.Programs.{shapes}
use Rattle.p4_tables.specs.Faults.{entry_fault}
use Rattle.table_entries.specs.View.{entry_of}
use Rattle.p4_tables.proofs.Changed.{within, listed_shapes}
use Rattle.p4_tables.proofs.Stays.{not_refused, behind_insert}
use Rattle.p4_tables.proofs.state.TableState.insert.Goals as goal

pub invariant_of-self-in-None : goal.invariant_of-self-in-None
invariant_of-self-in-None c =
    let tables = c.self.inside.tables.items in
    let there : c.args.table < length tables = subst (λ (st : _). c.args.table < length st) (sym c.self.view_is) c.requires in
    let none : entry_fault tables c.args.table (entry_of c.args.e) ≡ None =
    not_refused tables c.args.table c.self.inside.count c.index.result.now (entry_of c.args.e) (within tables c.args.self.now c.args.table c.self.view_is c.requires) c.index.ensures c.self.invariant.count (sym c.in_ok-fault.ensures ∙ c.in-None.is)
    in
    let kept = behind_insert tables c.put_entry.new.tables.items c.args.table c.self.inside.count (entry_of c.args.e) there c.self.invariant.sound c.self.invariant.count none c.in_ok-put_entry-in-None.ensures.ok in
    record { sound = kept.sound; count = kept.count }

pub returns-in_ok-put_entry-in-None-clause-shapes : goal.returns-in_ok-put_entry-in-None-clause-shapes
returns-in_ok-put_entry-in-None-clause-shapes c =
    let st = c.self.inside.tables.items in
    ap shapes c.in_ok-put_entry-in-None.ensures.ok ∙ listed_shapes st c.args.table ((held_at st c.args.table).listed ++ entry_of c.args.e ∷ []) ∙ ap shapes c.self.view_is
