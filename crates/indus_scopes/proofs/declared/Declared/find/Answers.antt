use Rattle.std.proofs.Common.{◌∙◌, ap, map}
use Rattle.indus_tree.specs.State.{lookup}
use Rattle.indus_tree.specs.View.{decl_of}
use Rattle.indus_scopes.proofs.Names.{found_there, one_of}
use Rattle.indus_scopes.proofs.declared.Declared.find.Goals as goal

pub returns-in-Some : goal.returns-in-Some
returns-in-Some c =
    one_of c.args.self.now.decls.now c.in-Some.i c.get.result c.get.ensures.lookup.0 c.get.ensures.lookup.1 ∙ found_there _ _ _ _ c.args.self.now.named c.in-Some.ensures.index
    ∙ ap (lookup (map decl_of c.args.self.now.decls.now)) c.as_str.ensures

pub returns-in-None : goal.returns-in-None
returns-in-None c = found_there _ _ _ _ c.args.self.now.named c.in-None.ensures.index ∙ ap (lookup (map decl_of c.args.self.now.decls.now)) c.as_str.ensures
