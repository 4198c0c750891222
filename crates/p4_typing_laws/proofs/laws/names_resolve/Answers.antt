use Rattle.p4_typing_laws.proofs.Agreement.{agrees}
use Rattle.p4_typing_laws.proofs.FineUses.{each_agrees, parts_named}
use Rattle.p4_typing_laws.proofs.laws.names_resolve.Goals as goal

pub returns : goal.returns
returns c = record { expressions = agrees; programs = each_agrees; parts = parts_named }
