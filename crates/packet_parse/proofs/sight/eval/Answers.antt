use Rattle.std.proofs.Common.{sym, ◌∙◌}
use Rattle.p4_tree.specs.View.{expr_of, program_of}
use Rattle.p4_meaning.specs.Scope.{seen}
use Rattle.p4_meaning.proofs.Seen.{value_seen}
use Rattle.p4_types.proofs.Alike.{value_alike}
use Rattle.packet_parse.specs.Sight.{in_sight}
use Rattle.packet_parse.proofs.sight.eval.Goals as goal

pub returns-clause-meaning : goal.returns-clause-meaning
returns-clause-meaning c = λ sc st shows.
    c.value_of.ensures
    ∙ value_alike (in_sight (program_of c.args.p.now) c.args.s.now) (seen sc st) (expr_of c.args.e.now) c.args.width shows.same
    ∙ sym (value_seen sc st shows.words shows.nameless (expr_of c.args.e.now) c.args.width)
