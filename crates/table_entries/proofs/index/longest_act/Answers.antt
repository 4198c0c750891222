use Rattle.std.proofs.Common.{sym, ◌∙◌}
use Rattle.table_entries.specs.Signs.{sign_act, wanted}
use Rattle.table_entries.proofs.Noted.{shorter}
use Rattle.table_entries.proofs.index.longest_act.Goals as goal

pub loop-act-preserved : goal.loop-act-preserved
loop-act-preserved c = shorter (λ n. sign_act c.args.kinds.now c.args.signs.now (wanted c.args.kinds.now n c.args.keys.now)) c.loop-act.length c.in_ok-act.act c.in_ok-act.ensures.told (sym c.is_some.ensures ∙ c.if-is_some.false) c.if-length-eq0.false ∙ c.loop-act.invariant
