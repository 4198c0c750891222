use Rattle.std.proofs.Common.{map, ap, ◌∙◌}
use Rattle.p4_tree.specs.View.{program_of}
use Rattle.p4_tree.specs.declared.program.Program as code_program
use Rattle.p4_meaning.specs.Parts.{parser_in}
use Rattle.packet_parse.specs.Stores.{behind_parser, consumed, parser_end, parser_scope, shown_standard, shown_valid, shown_value}
use Rattle.packet_parse.proofs.Ended.{consumed_is}
use Rattle.packet_parse.proofs.packet.run_parser.Goals as goal

pub returns-clause-consumed : goal.returns-clause-consumed
returns-clause-consumed c =
    consumed_is c.args.frame.now (parser_end (program_of c.program.result.now) c.args.s.now c.args.frame.now).reading.rest c.in_ok-at.at c.in_ok-at.ensures.rest c.in_ok-at.ensures.within
    ∙ ap (λ (g : code_program.Program). consumed (program_of g) c.args.s.now c.args.frame.now) c.program.ensures.same

pub returns-clause-valid : goal.returns-clause-valid
returns-clause-valid c =
    c.in_ok-at.ensures.valid
    ∙ ap (λ (g : code_program.Program). map (shown_valid (parser_scope (parser_in (program_of g))) (behind_parser (program_of g) c.args.s.now c.args.frame.now)) c.args.s.now.valid.items) c.program.ensures.same

pub returns-clause-values : goal.returns-clause-values
returns-clause-values c =
    c.in_ok-at.ensures.values
    ∙ ap (λ (g : code_program.Program). map (shown_value (parser_scope (parser_in (program_of g))) (behind_parser (program_of g) c.args.s.now c.args.frame.now)) c.args.s.now.values.items) c.program.ensures.same

pub returns-clause-standard : goal.returns-clause-standard
returns-clause-standard c =
    c.in_ok-at.ensures.standard
    ∙ ap (λ (g : code_program.Program). shown_standard (behind_parser (program_of g) c.args.s.now c.args.frame.now)) c.program.ensures.same
