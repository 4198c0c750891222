use Rattle.p4_rule_laws.proofs.ReplacesLemmas.{replaces_trans, parts_replaced}
use Rattle.p4_rule_laws.proofs.ReplacedLemmas.{test_replaced, after_all_replaced, block_replaced, most_replaced}
use Rattle.p4_rule_laws.proofs.laws.replaced_stays_fine.Goals as goal

pub returns : goal.returns
returns c =
    record {
      parts = λ s e f r. parts_replaced r;
      through = replaces_trans;
      tests = λ h s e f n r g. test_replaced s h e f n r g;
      blocks = λ h s a b r g. block_replaced r h g;
      scope = λ s a b r. after_all_replaced r;
      digests = λ h s t a b r g. most_replaced r h t g;
    }
