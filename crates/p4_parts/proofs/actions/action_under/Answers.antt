use Rattle.std.proofs.Common.{List, ℕ, Some, map, ap, ap₂, ◌∙◌}
use Rattle.p4_tree.specs.View.{stmts_of}
use Rattle.p4_tree.specs.declared.statement.PTy.{PTy}
use Rattle.p4_meaning.specs.Scope.{Scope, full_name}
use Rattle.p4_meaning.specs.Under.{stmts_under}
use Rattle.p4_meaning.specs.Actions.{param_under}
use Rattle.p4_resolved.specs.Scopes.{at_part, inner_of}
use Rattle.p4_resolved.specs.declared.layer.Inner.{Inner}
use Rattle.p4_parts.proofs.ActionsLemmas.{action_is}
use Rattle.p4_parts.proofs.actions.action_under.Goals as goal

pub returns : goal.returns
returns c =
    let sc = c.within-sc.ensures ∙ ap (λ (i : Inner). record (at_part c.args.top.now c.args.layer.now) { inner = Some (inner_of i) }) c.deref.ensures ∙ c.in_ok-inner.ensures (at_part c.args.top.now c.args.layer.now) in
    action_is _ _ _ _ _ _
    (c.in_ok-name.ensures ∙ ap (λ (s : Scope). full_name s c.args.a.now.name) c.within.ensures)
    (c.in_ok-params.ensures ∙ ap₂ (λ (s : Scope) (ps : List (PTy × List ℕ)). map (param_under s) ps) sc c.deref-2.ensures.value)
    (c.in_ok-body.ensures ∙ ap₂ (λ (s : Scope) ss. stmts_under s (stmts_of ss)) sc c.deref-3.ensures.value)
