use Rattle.p4_parser_states.proofs.Passing.{passed, whole}
use Rattle.p4_parser_states.proofs.search.Search.pass.Goals as goal

pub returns : goal.returns
returns c = λ g start x h last a settled. passed g c.args.self.now c.pop.new.self start x (whole c.args.self.now.waiting c.pop.new.self.items c.pop.ensures.rest) h last a settled
