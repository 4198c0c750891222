use Rattle.std.proofs.Common.{ap, ◌∙◌}
use Rattle.p4_tree.specs.View.{program_of}
use Rattle.p4_tree.specs.declared.program.Program as code_program
use Rattle.packet_parse.specs.Stores.{deparsed}
use Rattle.packet_parse.proofs.packet.run_deparser.Goals as goal

pub returns : goal.returns
returns c =
    c.in_ok-frame.ensures ∙ ap (λ (g : code_program.Program). deparsed (program_of g) c.args.s.now c.args.rest.now) c.program.ensures.same
