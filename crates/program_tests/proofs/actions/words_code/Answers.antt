use Rattle.std.proofs.Common.{map, sym, subst}
use Rattle.p4_parts.specs.PartsIn.{param_in}
use Rattle.slot_terms.specs.Places.{places_of, IsLaid}
use Rattle.slot_statements.proofs.CallLemmas.{params_laid}
use Rattle.program_tests.proofs.actions.words_code.Goals as goal

pub stmts_code-requires : goal.stmts_code-requires
stmts_code-requires c =
    subst IsLaid (sym c.in_ok-masked.ensures.places)
    (params_laid (places_of c.args.places.now) (map param_in c.deref.result.now) c.requires c.in_ok-masked.ensures.free)
