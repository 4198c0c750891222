use Rattle.std.proofs.Common.{ap, ◌∙◌, List}
use Rattle.p4_scopes.specs.View.{Declaration}
use Rattle.p4_scopes.specs.Resolving.{last_at}
use Rattle.p4_scopes.specs.Kept.{in_sight}
use Rattle.p4_scopes.proofs.scope.Scope.newest.Goals as goal

pub returns-in-Some : goal.returns-in-Some
returns-in-Some c =
    ap in_sight c.in-Some.ensures.value ∙ c.self.invariant.named c.args.name.now
    ∙ ap (λ (ds : List Declaration). last_at ds c.args.name.now) c.self.view_is
