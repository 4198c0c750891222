use Rattle.std.proofs.Common.{List, map, refl, sym, ◌∙◌}
use Rattle.p4_tree.specs.View.{arg_of}
use Rattle.p4_tree.specs.declared.statement.Arg as code
use Rattle.link_faults.specs.WrittenNames.{names_of_arg, names_of_args}
use Rattle.link_checks.proofs.Walks.{stops, goes}
use Rattle.link_checks.proofs.names.in_args.Goals as goal

pub returns-then-is_some : goal.returns-then-is_some
returns-then-is_some c =
    stops (λ (xs : List code.Arg). names_of_args (map arg_of xs)) (λ (x : code.Arg). names_of_arg (arg_of x)) (λ x xs. refl) c.args.args.now c.loop-arg.arg-index c.arg-item.result c.loop-arg-test.true c.arg-item.is c.loop-arg.invariant
    c.in_arg-taken.result (c.in_arg-taken.ensures) (sym c.is_some.ensures ∙ c.if-is_some.true)

pub loop-arg-preserved : goal.loop-arg-preserved
loop-arg-preserved c =
    goes (λ (xs : List code.Arg). names_of_args (map arg_of xs)) (λ (x : code.Arg). names_of_arg (arg_of x)) (λ x xs. refl) c.args.args.now c.loop-arg.arg-index c.arg-item.result c.loop-arg-test.true c.arg-item.is c.loop-arg.invariant
    c.in_arg-taken.result (c.in_arg-taken.ensures) (sym c.is_some.ensures ∙ c.if-is_some.false)
