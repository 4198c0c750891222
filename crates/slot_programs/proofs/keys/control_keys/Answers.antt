use Rattle.std.proofs.Common.{subst}
use Rattle.slot_controls.specs.Steps.{steps_of, HaveFewKeys}
use Rattle.slot_controls.proofs.KeyLemmas.{few_more_all}
use Rattle.slot_programs.proofs.keys.control_keys.Goals as goal

pub returns : goal.returns
returns c = record {
  settings = few_more_all c.most_keys.result c.greater.result (steps_of c.args.c.now.settings.items) c.greater.ensures.left (subst (λ xs. HaveFewKeys c.most_keys.result (steps_of xs)) c.deref.ensures.value c.most_keys.ensures.enough);
  body = few_more_all c.most_keys-2.result c.greater.result (steps_of c.args.c.now.body.items) c.greater.ensures.right (subst (λ xs. HaveFewKeys c.most_keys-2.result (steps_of xs)) c.deref-2.ensures.value c.most_keys-2.ensures.enough);
}
