use Rattle.std.proofs.lemmas.Result.{IfOk-weaker}
use Rattle.serde_json.specs.View.{view}
use Rattle.load_maker.proofs.PlainValues.{json_of}
use Rattle.load_maker.proofs.files.json_text.Goals as goal

pub returns-clause-text : goal.returns-clause-text
returns-clause-text c = IfOk-weaker c.to_vec.result _ _ (λ b text. text c.requires.whole) c.to_vec.ensures.text

pub returns-clause-json : goal.returns-clause-json
returns-clause-json c = json_of (view c.args.value.now) c.to_vec.result c.requires c.to_vec.ensures.text c.to_vec.ensures.utf8 c.to_vec.ensures.reads_back
