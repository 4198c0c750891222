use Rattle.std.proofs.Common.{◌≡◌, sym, ap, subst, ◌∙◌}
use Rattle.p4_tree.specs.View.{program_of}
use Rattle.p4_tables.specs.State.{entries_in}
use Rattle.p4_tables.specs.Programs.{state_before}
use Rattle.p4_tables.specs.Kept.{AreSound}
use Rattle.p4_tables.proofs.Started.{no_entries, sound_before}
use Rattle.p4_tables.proofs.state.TableState.new.Goals as goal

pub invariant_of-result : goal.invariant_of-result
invariant_of-result c =
    let p = program_of c.args.p.now in
    let is : c.in_ok-tables.tables.items ≡ state_before p = c.in_ok-tables.ensures ∙ ap (λ q. state_before (program_of q)) c.program.ensures.same in
    record {
      sound = subst AreSound (sym is) (sound_before p c.program.ensures.typed);
      count = sym (ap entries_in is ∙ no_entries p);
    }
