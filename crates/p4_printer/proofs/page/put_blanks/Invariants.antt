use Rattle.std.proofs.Common.{◌≡◌, ◌++◌, ◌*◌, string_bytes}
use Rattle.std.specs.Prelude.{replicate}
use Rattle.p4_printer.proofs.page.put_blanks.Given as goal

abbrev pub invariant-loop : goal.invariant-loop
invariant-loop l = string_bytes l.text ≡ string_bytes l.initial.text ++ replicate (4 * l.counter) 32
