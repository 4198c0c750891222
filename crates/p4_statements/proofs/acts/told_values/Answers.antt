use Rattle.std.proofs.Common.{List, map, take, ap, sym, ◌∙◌}
use Rattle.std.proofs.lemmas.List.{take-map}
use Rattle.bit_values.specs.Bits.{Word}
use Rattle.p4_tree.specs.Tree.{Expr}
use Rattle.p4_tree.specs.View.{expr_of}
use Rattle.p4_tree.specs.declared.statement.Expr as code
use Rattle.p4_meaning.specs.Value.{value_of}
use Rattle.p4_packets.specs.Fields.{store_of}
use Rattle.p4_statements.proofs.acts.told_values.Goals as goal

pub returns : goal.returns
returns c =
    let f : Expr → Word = λ e. value_of e 0 (store_of c.args.s.now) in
    let values : List code.Expr → List Word = λ es. map f (map expr_of es) in
    c.values_of.ensures
    ∙ ap values c.first_nine.ensures
    ∙ ap (map f) (sym (take-map expr_of 9 c.args.list.now))
    ∙ sym (take-map f 9 (map expr_of c.args.list.now))
