use Rattle.std.proofs.Common.{◌∙◌, sym, arith}
use Rattle.commands.proofs.Numbers.{parsed}
use Rattle.commands.proofs.load.number_of.Goals as goal

pub returns : goal.returns
returns c = c.ok.ensures.value ∙ parsed c.args.word.now c.parse.result (omega (arith, c.if-word-gt20.false)) (sym c.begins_with_plus.ensures ∙ c.if-begins_with_plus.false) c.parse.ensures.value.0
