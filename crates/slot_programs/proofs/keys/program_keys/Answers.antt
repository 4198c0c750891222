use Rattle.std.proofs.Common.{arith}
use Rattle.slot_passages.specs.Codes.{control_of}
use Rattle.slot_programs.proofs.KeyLemmas.{more_keys}
use Rattle.slot_programs.proofs.keys.program_keys.Goals as goal

pub returns-clause-verify : goal.returns-clause-verify
returns-clause-verify c = more_keys c.control_keys.result c.greater.result (control_of c.args.c.now.verify) (omega (arith, c.greater.ensures.left, c.greater-checksums.ensures.left)) c.control_keys.ensures

pub returns-clause-compute : goal.returns-clause-compute
returns-clause-compute c = more_keys c.control_keys-2.result c.greater.result (control_of c.args.c.now.compute) (omega (arith, c.greater.ensures.left, c.greater-checksums.ensures.right)) c.control_keys-2.ensures

pub returns-clause-ingress : goal.returns-clause-ingress
returns-clause-ingress c = more_keys c.control_keys-3.result c.greater.result (control_of c.args.c.now.ingress) (omega (arith, c.greater.ensures.right, c.greater-bodies.ensures.left)) c.control_keys-3.ensures

pub returns-clause-egress : goal.returns-clause-egress
returns-clause-egress c = more_keys c.control_keys-4.result c.greater.result (control_of c.args.c.now.egress) (omega (arith, c.greater.ensures.right, c.greater-bodies.ensures.right)) c.control_keys-4.ensures
