use Rattle.std.proofs.Common.{ap, ◌∙◌, map}
use Rattle.p4_tree.specs.View.{case_of}
use Rattle.p4_meaning.specs.Parsing.{chosen, first_fit}
use Rattle.p4_packets.specs.Fields.{store_of}
use Rattle.p4_packets.proofs.select.selected.Goals as goal

pub returns : goal.returns
returns c =
    c.chosen.ensures
    ∙ ap chosen (c.first_fit.ensures ∙ ap (λ ks. first_fit (map case_of c.args.cases.now) ks (store_of c.args.s.now)) (c.deref.ensures.value ∙ c.in_ok-keys.ensures))
