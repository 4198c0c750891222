use Rattle.p4_rule_laws.proofs.AlikeExprs.{own_alike, expr_alike, scalar_alike}
use Rattle.p4_rule_laws.proofs.AlikeStmts.{stmt_alike, block_alike, most_alike}
use Rattle.p4_rule_laws.proofs.AlikePrograms.{locals_alike, ways_alike, states_alike, parser_alike, control_alike, tops_alike}
use Rattle.p4_rule_laws.proofs.laws.tests_rest_on_names.Goals as goal

pub returns : goal.returns
returns c =
    record {
      kinds = own_alike;
      expressions = expr_alike;
      types = scalar_alike;
      statements = stmt_alike;
      blocks = block_alike;
      digests = most_alike;
      locals = locals_alike;
      params = ways_alike;
      states = states_alike;
      parsers = parser_alike;
      controls = control_alike;
      programs = tops_alike;
    }
