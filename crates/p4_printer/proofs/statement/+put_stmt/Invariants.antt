use Rattle.std.proofs.Common.{◌≡◌, ◌++◌, take}
use Rattle.p4_tree.specs.View.{stmts_of}
use Rattle.p4_printer.specs.Layout.{written}
use Rattle.p4_printer.specs.Statements.{lexemes_of_stmts}
use Rattle.p4_printer.proofs.statement.+put_stmt.Given as goal

abbrev pub invariant-put_stmts-loop-s : goal.invariant-put_stmts-loop-s
invariant-put_stmts-loop-s l = l.out ≡ written l.initial.out (lexemes_of_stmts (stmts_of (take l.s-index l.list)))
