use Rattle.std.proofs.Common.{ℕ, List, [], ◌∷◌, Option, map, ap, sym, ◌∙◌}
use Rattle.std.specs.Option.{option_map}
use Rattle.std.specs.Global.{Vec}
use Rattle.p4_tree.specs.View.{default_of, expr_of}
use Rattle.p4_tree.specs.declared.statement.Expr as code_expr
use Rattle.link_faults.specs.WrittenNames.{first_taken, names_of_default, names_of_exprs}
use Rattle.link_checks.proofs.text.in_default.Goals as goal

pub returns-in-Some : goal.returns-in-Some
returns-in-Some c =
    let d = c.in-Some.d in
    c.first.ensures (d.0 ∷ []) (names_of_exprs (map expr_of d.1.items)) c.in_name.ensures
    (c.in_exprs.ensures ∙ ap (λ (es : List code_expr.Expr). first_taken (names_of_exprs (map expr_of es))) c.deref.ensures.value)
    ∙ ap (λ (o : Option (List ℕ × Vec code_expr.Expr)). first_taken (names_of_default (option_map default_of o))) (sym c.in-Some.is)
