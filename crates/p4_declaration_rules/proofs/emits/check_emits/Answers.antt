use Rattle.p4_scopes.specs.View.{scope_of}
use Rattle.p4_declaration_rules.proofs.Emitted.{emit_next, emit_none}
use Rattle.p4_declaration_rules.proofs.emits.check_emits.Goals.{in-Some+in_ok-check_emit-in-Some, in-None}
use Rattle.p4_declaration_rules.proofs.emits.check_emits.Goals as goal

pub loop-s-preserved : goal.loop-s-preserved
loop-s-preserved c =
    elim c.match-stmt_emits.branch [
      | in-Some+in_ok-check_emit-in-Some w ↦ rw (w.found-is, w.emitted-is)
          (emit_next (scope_of c.args.scope.now) c.loop-s.found.first _ c.loop-s.emitted.keys c.args.body.now c.loop-s.s-index c.s-item.result c.loop-s-test.true c.s-item.is
          _ _ _ _ w.in-Some.ensures.emits w.in-Some.ensures.place w.in_ok-check_emit-in-Some.ensures.found w.in_ok-check_emit-in-Some.ensures.emitted c.loop-s.invariant)
      | in-None w ↦ rw (w.found-is, w.emitted-is)
          (emit_none (scope_of c.args.scope.now) c.loop-s.found.first _ c.loop-s.emitted.keys c.args.body.now c.loop-s.s-index c.s-item.result c.loop-s-test.true c.s-item.is
          w.in-None.ensures.emits c.loop-s.invariant)
    ]
