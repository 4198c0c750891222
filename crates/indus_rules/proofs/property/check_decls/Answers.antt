use Rattle.std.proofs.Common.{sym, ◌∙◌}
use Rattle.indus_rules.proofs.Steps.{next_decl}
use Rattle.indus_rules.proofs.property.check_decls.Goals as goal

pub loop-i-preserved : goal.loop-i-preserved
loop-i-preserved c =
    next_decl c.args.decls.now c.loop-i.i c.index-decls-i.result c.loop-i.names.keys c.insert.new.self.keys c.in_ok-from_str.field-0 c.loop-i-test.true c.index-decls-i.is c.loop-i.invariant
    (sym c.rule_of_next.ensures ∙ c.in_default.is) (sym c.check_start.ensures ∙ c.in_default-check_start.is) (c.in_ok-from_str.ensures.ok ∙ c.as_str.ensures) c.in_ok-insert.ensures.keys
