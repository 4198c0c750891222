use Rattle.std.proofs.Common.{sym, ◌∙◌}
use Rattle.indus_scopes.specs.Sights.{scope_of}
use Rattle.indus_scopes.proofs.Entering.{none_seen, one_seen}
use Rattle.indus_scopes.proofs.loops.repeats.Goals as goal

pub loop-i-init : goal.loop-i-init
loop-i-init c = none_seen (scope_of c.args.scope.now) c.args.names.now c.new-seen.result.keys c.new-seen.ensures.empty

pub loop-i-preserved : goal.loop-i-preserved
loop-i-preserved c =
    one_seen (scope_of c.args.scope.now) c.args.names.now c.loop-i.i c.index-names-i.result c.loop-i.seen.keys c.insert.new.self.keys c.in_ok-from_str.field-0 c.loop-i-test.true c.index-names-i.is c.loop-i.invariant
    (sym c.is_known.ensures ∙ c.if-is_known.false) (c.in_ok-from_str.ensures.ok ∙ c.as_str.ensures) c.in_ok-insert.ensures.keys
