use Rattle.std.proofs.Common.{ap, ◌∙◌, ◌-◌, ℕ, List, String, Global, map, length}
use Rattle.indus_tree.specs.View.{decl_of}
use Rattle.indus_scopes.specs.Items.{distinct}
use Rattle.indus_scopes.specs.NameTable.{texts}
use Rattle.indus_scopes.proofs.Entering.{left_loop}
use Rattle.indus_scopes.proofs.loops.outside.Goals as goal

pub invariant_of-result : goal.invariant_of-result
invariant_of-result c =
    let left = left_loop (map decl_of c.args.scope.decls.decls.now) c.args.scope.loops.items c.remove-inner.new.self.items c.remove-inner.result c.args.scope.items.keys c.args.scope.kinds.items c.saturating_sub-left.result
    c.remove-inner.ensures.value c.remove-inner.ensures.items c.args.scope.listed c.args.scope.kinded c.args.scope.once
    (c.saturating_sub-left.ensures ∙ ap (λ (n : ℕ). n - length c.remove-inner.result.names.now) c.len.ensures.len) in
    record {
      listed = ap texts c.truncate.ensures.keys ∙ left.listed;
      kinded = c.truncate-2.ensures.items ∙ left.kinded;
      once = ap (λ (ks : List (String Global)). distinct (texts ks)) c.truncate.ensures.keys ∙ left.once;
    }
