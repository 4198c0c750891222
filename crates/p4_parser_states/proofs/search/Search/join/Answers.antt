use Rattle.p4_parser_states.proofs.Passing.{components_joined, whole}
use Rattle.p4_parser_states.proofs.search.Search.join.Goals as goal

pub returns : goal.returns
returns c = λ g start x at h last a is below. components_joined g c.args.self.now c.pop.new.self start x at (whole c.args.self.now.starts c.pop.new.self.items c.pop.ensures.rest) h last a is below
