use Rattle.std.proofs.Common.{map, sym, ap, ◌∙◌, arith}
use Rattle.p4_meaning.specs.Actions.{action_named}
use Rattle.p4_parts.specs.PartsIn.{action_in}
use Rattle.p4_parts.specs.declared.parts.Action as code_action
use Rattle.p4_machine.proofs.LoadedLemmas.{name_there, none_numbered}
use Rattle.p4_machine.proofs.loaded.action_at.Goals as goal

pub returns-then-number-actions : goal.returns-then-number-actions
returns-then-number-actions c =
    c.action_named.ensures
    ∙ ap (action_named (map action_in c.args.actions.now)) (c.as_str.ensures ∙ ap (λ (a : code_action.Action). a.name) (sym c.index-actions-number.is) ∙ sym (name_there c.args.actions.now c.args.number c.index-actions-number.result (omega arith) c.index-actions-number.is))

pub returns-else-number-actions : goal.returns-else-number-actions
returns-else-number-actions c =
    c.action_named-else-number-actions.ensures
    ∙ ap (action_named (map action_in c.args.actions.now)) (sym (none_numbered c.args.actions.now c.args.number (omega arith)))
