use Rattle.std.proofs.Common.{◌≡◌, Bool, sym, subst}
use Rattle.p4_tree.specs.View.{arg_of}
use Rattle.rewritten_programs.specs.Rewritten.{ArgRewritten}
use Rattle.rewritten_programs.specs.Values.{is_value}
use Rattle.simplify_rules.specs.Simplified.{IsSimplified}
use Rattle.simplify_trees.proofs.ArgumentLists.{none_yet, one_arg_more, all_args}
use Rattle.simplify_trees.proofs.arguments.args.Goals as goal

pub loop-number-init : goal.loop-number-init
loop-number-init g c = none_yet (IsSimplified (g.R.Offers.Answers c.args.rules.now)) (is_value c.args.callee.now) c.in_ok-made.made.items c.in_ok-made.ensures.items

pub loop-number-preserved : goal.loop-number-preserved
loop-number-preserved g c =
    let E = IsSimplified (g.R.Offers.Answers c.args.rules.now) in
    one_arg_more E (is_value c.args.callee.now) c.args.list.now c.loop-number.made.items c.push.new.self.items c.loop-number.number c.index-list-number.result c.in_ok-arg.field-0
    c.loop-number-test.true c.index-list-number.is c.loop-number.invariant
    (subst (λ (v : Bool). ArgRewritten E v (arg_of c.index-list-number.result) (arg_of c.in_ok-arg.field-0)) c.is_value.ensures c.in_ok-arg.ensures) c.in_ok-push.ensures.items

pub returns : goal.returns
returns g c = all_args (IsSimplified (g.R.Offers.Answers c.args.rules.now)) (is_value c.args.callee.now) c.args.list.now c.loop-number.made.items c.loop-number.number c.loop-number-test.false c.loop-number.invariant
