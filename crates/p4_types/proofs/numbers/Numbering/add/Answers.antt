use Rattle.std.proofs.Common.{string_bytes, refl}
use Rattle.p4_types.proofs.Numbered.{plain_more}
use Rattle.p4_types.proofs.numbers.Numbering.add.Goals as goal

pub returns : goal.returns
returns c = λ all so. plain_more c.args.self.now _ all so (string_bytes c.args.name) c.in_ok-add.ensures refl
