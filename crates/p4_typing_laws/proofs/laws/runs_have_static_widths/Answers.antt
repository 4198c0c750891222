use Rattle.p4_typing_laws.proofs.RunWidths.{fits_show, runs_at, each_words}
use Rattle.p4_typing_laws.proofs.laws.runs_have_static_widths.Goals as goal

pub returns : goal.returns
returns c =
    record {
      shown = fits_show;
      values = λ p s sc tied words st fits want m e f. runs_at p s sc tied st fits c.names_stand_for_what_is_seen.ensures.value c.names_stand_for_what_is_seen.ensures.width words want m e f;
      words = each_words c.names_stand_for_what_is_seen.ensures.constants;
    }
