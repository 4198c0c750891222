use Rattle.p4_rule_laws.proofs.GrowthLemmas.{locals_grow, params_grow, same_params, parser_grows, control_grows, tops_grow}
use Rattle.p4_rule_laws.proofs.growth.declarations_grow.Goals as goal

pub returns : goal.returns
returns c =
    record {
      locals = λ old h v s t ls ms g n a f. locals_grow g n a f;
      params = λ old s t qs rs g a f. params_grow g a f;
      same_params = same_params;
      parsers = parser_grows;
      controls = control_grows;
      tops = λ old more change main u s t ys zs g w f. tops_grow g w f;
    }
