use Rattle.program_linker.proofs.Typed.{breaks_none}
use Rattle.program_linker.proofs.programs.typed.Goals as goal

pub unreachable-requires : goal.unreachable-requires
unreachable-requires c = breaks_none _ _ _ c.requires (rw c.in-Err-Type_.field-0-is at c.in-Err-Type_.ensures.cause)
