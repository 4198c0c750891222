use Rattle.std.proofs.Common.{ap, [], ◌∙◌}
use Rattle.p4_scopes.specs.Scopes.{typed_thing}
use Rattle.p4_scopes.specs.Resolving.{end_of}
use Rattle.p4_scopes.specs.declared.resolved.Resolved.{Resolved}
use Rattle.p4_scopes.proofs.Found.{type_is}
use Rattle.p4_scopes.proofs.scope.Scope.thing_in.Goals as goal

pub returns : goal.returns
returns c = c.thing.ensures ∙ ap (λ (r : Resolved). typed_thing (end_of r)) c.resolve.ensures ∙ ap typed_thing (type_is [] c.args.self.now c.args.t.now)
