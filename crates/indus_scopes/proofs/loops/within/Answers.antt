use Rattle.std.proofs.Common.{ap, sym, subst, ◌∙◌, ◌+◌, ◌∷◌, ◌++◌, [], List, map}
use Rattle.indus_tree.specs.View.{decl_of}
use Rattle.indus_scopes.specs.Items.{kind_at}
use Rattle.indus_scopes.specs.Sights.{scope_of}
use Rattle.indus_scopes.specs.declared.kind.Kind.{Kind}
use Rattle.indus_scopes.proofs.Entering.{Grown, none_grown, one_grown, one_read}
use Rattle.indus_scopes.proofs.loops.within.Goals as goal

pub loop-i-init : goal.loop-i-init
loop-i-init c = none_grown (scope_of c.args.scope) c.args.names.now c.args.lists.now c.args.scope.items.keys c.args.scope.kinds.items c.args.scope.listed c.args.scope.kinded c.args.scope.once c.requires

pub loop-i-preserved : goal.loop-i-preserved
loop-i-preserved c =
    let kinds = c.in_ok-push.ensures.items ∙ ap (λ (k : Kind). c.loop-i.kinds.items ++ k ∷ []) (c.kind_at.ensures ∙ ap (kind_at (map decl_of c.args.scope.decls.decls.now)) (one_read c.args.lists.now c.loop-i.i c.get.result c.get.ensures.lookup.0 c.get.ensures.lookup.1)) in
    let P : List Kind → Type 0 = λ js. Grown (scope_of c.args.scope) c.args.names.now c.args.lists.now (c.loop-i.i + 1) c.insert.new.self.keys js in
    subst P (sym kinds)
    (one_grown (scope_of c.args.scope) c.args.names.now c.args.lists.now c.loop-i.i c.index-names-i.result c.loop-i.items.keys c.insert.new.self.keys c.in_ok-from_str.field-0 c.loop-i.kinds.items c.loop-i-test.true c.index-names-i.is c.loop-i.invariant
    (c.in_ok-from_str.ensures.ok ∙ c.as_str.ensures) c.in_ok-insert.ensures.keys)
