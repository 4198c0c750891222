use Rattle.std.proofs.Common.{ℕ, List, [], ◌∷◌, ◌++◌, map, ap, ◌∙◌}
use Rattle.p4_tree.specs.View.{default_of, key_of}
use Rattle.std.specs.Option.{option_map}
use Rattle.p4_tree.specs.declared.statement.Expr as code_expr
use Rattle.link_faults.specs.WrittenNames.{first_taken, names_of_default, names_of_keys}
use Rattle.link_checks.proofs.text.in_table.Goals as goal

pub returns : goal.returns
returns c =
    let t = c.args.t.now in
    let keys = names_of_keys (map key_of t.keys.items) in
    let default = names_of_default (option_map default_of t.default) in
    c.first-2.ensures (t.name ∷ []) (keys ++ (t.actions.items ++ default)) c.in_name.ensures
    (c.first-lists.ensures keys (t.actions.items ++ default) (c.in_keys.ensures ∙ ap (λ (ks : List (code_expr.Expr × List ℕ)). first_taken (names_of_keys (map key_of ks))) c.deref.ensures.value)
    (c.first.ensures t.actions.items default (c.in_names.ensures ∙ ap (λ (xs : List (List ℕ)). first_taken xs) c.deref-2.ensures.value) c.in_default.ensures))
