use Rattle.table_file.proofs.load.load_entries.Goals as goal

pub each_switch-requires : goal.each_switch-requires
each_switch-requires c = c.in_ok-states.ensures.kept
