use Rattle.p4_scopes.proofs.Held.{no_names}
use Rattle.p4_scopes.proofs.scope.Scope.find.Goals as goal

pub returns-in-empty : goal.returns-in-empty
returns-in-empty c = no_names c.args.self.now c.args.path.now c.in-empty.len_below
