use Rattle.std.proofs.Common.{ap, ◌∙◌}
use Rattle.p4_meaning.specs.Store.{Store}
use Rattle.p4_meaning.specs.Pass.{store_behind}
use Rattle.p4_parts.specs.PartsIn.{parts_in}
use Rattle.p4_packets.specs.Ends.{parser_ends_from}
use Rattle.p4_packets.proofs.parser.parse_frame.Goals as goal

pub returns-clause-store : goal.returns-clause-store
returns-clause-store c =
    c.in_ok-at.ensures.store ∙ ap (λ (s : Store). store_behind (parser_ends_from (parts_in c.args.p.now) s c.args.frame.now)) c.in_ok-s.ensures

pub returns-clause-rest : goal.returns-clause-rest
returns-clause-rest c =
    c.in_ok-at.ensures.rest ∙ ap (λ (s : Store). (parser_ends_from (parts_in c.args.p.now) s c.args.frame.now).reading.rest) c.in_ok-s.ensures
