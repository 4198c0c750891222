use Rattle.std.proofs.Common.{◌-◌, length, take, drop, List, map, refl, ap, ◌∙◌}
use Rattle.p4_tree.specs.View.{arg_of, expr_of}
use Rattle.p4_tree.specs.declared.statement.Arg as code_arg
use Rattle.slot_control_codes.specs.Acts.{sum_behind}
use Rattle.slot_control_codes.proofs.TreeLemmas.{sum_args}
use Rattle.slot_control_codes.proofs.calls.sum_of.Goals as goal

pub returns-in-Many-list : goal.returns-in-Many-list
returns-in-Many-list c =
    let rest : List code_arg.Arg = take (length c.args.args.now - 1) (drop 1 c.args.args.now) in
    let behind : List code_arg.Arg = take (length rest - 1) (drop 1 rest) in
    c.sum_behind.ensures ∙ ap (λ es. sum_behind c.args.verifies (expr_of c.in-One.condition) (map expr_of es) (map arg_of behind)) c.deref.ensures.value
    ∙ sum_args c.args.verifies c.args.args.now rest behind c.condition-item.result c.list-item.result c.in-One.field-0 c.in-Many-list.field-0 c.in-One.condition c.in-Many-list.list
    c.in-len1-up.len_at_least c.condition-item.is c.in-One.is refl c.in-len1-up-rest.len_at_least c.list-item.is c.in-Many-list.is refl
