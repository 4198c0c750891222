use Rattle.p4_meaning.specs.Standard.{packet_length}
use Rattle.packet_lengths.proofs.Lengths.{no_length_calls, test_ends, all_ends}
use Rattle.packet_lengths.proofs.LengthCalls.{length_calls}
use Rattle.packet_lengths.proofs.Plainly.{plainly_ends}
use Rattle.packet_lengths.proofs.laws.rewritten_code_has_the_plain_length.Goals as goal

pub returns-clause-statements : goal.returns-clause-statements
returns-clause-statements c = λ n e d same ss a b keep lengths. all_ends n e d same ss a b keep lengths

pub returns-clause-tests : goal.returns-clause-tests
returns-clause-tests c = λ n i d same e a b lengths. test_ends n i d same e a b lengths

pub returns-clause-calls : goal.returns-clause-calls
returns-clause-calls c = λ n actions tables held keep. length_calls n actions keep tables held

pub returns-clause-no_calls : goal.returns-clause-no_calls
returns-clause-no_calls c = λ n. no_length_calls n

pub returns-clause-runs : goal.returns-clause-runs
returns-clause-runs c = λ e d same ss b keep standard meta. plainly_ends e d ss b (same (b.store.values packet_length)) keep standard meta
