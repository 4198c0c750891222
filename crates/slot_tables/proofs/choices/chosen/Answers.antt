use Rattle.p4_tables.specs.State.{held_at}
use Rattle.table_entries.specs.View.{chosen_act}
use Rattle.slot_tables.proofs.AnswerLemmas.{answered}
use Rattle.slot_tables.proofs.choices.chosen.Goals as goal

pub returns : goal.returns
returns c = answered (held_at c.args.state.now c.args.table) c.args.keys.now (chosen_act c.choose-chosen.result) c.choose-chosen.result.hit c.choose-chosen.ensures.hit c.choose-chosen.ensures.miss
