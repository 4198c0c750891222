use Rattle.p4_rule_laws.proofs.KeptFine.{kept_path, own_kept, expr_kept, stmt_kept, block_kept}
use Rattle.p4_rule_laws.proofs.laws.fine_stays_fine.Goals as goal

pub returns : goal.returns
returns c = record { paths = kept_path; kinds = own_kept; expressions = expr_kept; statements = stmt_kept; blocks = block_kept }
