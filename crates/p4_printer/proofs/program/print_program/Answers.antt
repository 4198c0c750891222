-- What the text says follows from what it is.
use Rattle.std.proofs.Common.{sym, subst}
use Rattle.p4_tree.specs.View.{program_of}
use Rattle.p4_printer.specs.Printed.{IsPrinted}
use Rattle.p4_printer.proofs.Whole.{text_is_printed}
use Rattle.p4_printer.proofs.program.print_program.Goals as goal

pub returns-clause-says : goal.returns-clause-says
returns-clause-says c = let t = program_of c.args.p.now in subst (IsPrinted t) (sym c.in_ok-text.ensures) (text_is_printed t c.requires)
