use Rattle.std.proofs.Common.{ap, ◌∙◌, List, Some, None, map, slice_get}
use Rattle.indus_tree.specs.View.{decl_of}
use Rattle.indus_scopes.specs.Scopes.{item_of, loop_of}
use Rattle.indus_scopes.specs.declared.kind.Kind.{Kind}
use Rattle.indus_scopes.proofs.Entering.{one_read}
use Rattle.indus_scopes.proofs.ItemNames.{item_found}
use Rattle.indus_scopes.proofs.sight.Scope.item.Goals as goal

pub returns-in-Some : goal.returns-in-Some
returns-in-Some c =
    c.copied.ensures ∙ one_read c.deref.result.now c.in-Some.i c.get.result c.get.ensures.lookup.0 c.get.ensures.lookup.1 ∙ ap (λ (ks : List Kind). slice_get ks c.in-Some.i) c.deref.ensures.value
    ∙ item_found (map decl_of c.args.self.now.decls.decls.now) (map loop_of c.args.self.now.loops.items) c.args.self.now.items.keys c.args.self.now.kinds.items c.as_str.result.now (Some c.in-Some.i) c.args.self.now.listed c.args.self.now.kinded c.args.self.now.once c.in-Some.ensures.index
    ∙ ap (item_of (map decl_of c.args.self.now.decls.decls.now) (map loop_of c.args.self.now.loops.items)) c.as_str.ensures

pub returns-in-None : goal.returns-in-None
returns-in-None c =
    item_found (map decl_of c.args.self.now.decls.decls.now) (map loop_of c.args.self.now.loops.items) c.args.self.now.items.keys c.args.self.now.kinds.items c.as_str.result.now None c.args.self.now.listed c.args.self.now.kinded c.args.self.now.once c.in-None.ensures.index
    ∙ ap (item_of (map decl_of c.args.self.now.decls.decls.now) (map loop_of c.args.self.now.loops.items)) c.as_str.ensures
