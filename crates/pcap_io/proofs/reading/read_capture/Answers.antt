use Rattle.pcap_io.specs.declared.fault.CaptureFault.TheVariants.{TornRecord, TooLong}
use Rattle.pcap_io.proofs.OneAnswer.{held_answered, fault_answered, answer_is, refusal_asks}
use Rattle.pcap_io.proofs.OneAnswer.{answer_holds}
use Rattle.pcap_io.proofs.RunLemmas.{held_short}
use Rattle.pcap_io.proofs.reading.read_capture.Goals as goal

pub returns-clause-held : goal.returns-clause-held
returns-clause-held c = λ rs h. held_answered c.args.file.now c.capture.result rs c.capture.ensures h

pub returns-clause-torn_record : goal.returns-clause-torn_record
returns-clause-torn_record c = λ at. record {
  only = answer_is c.args.file.now c.capture.result _ c.capture.ensures;
  always = λ h. fault_answered c.args.file.now c.capture.result _ c.capture.ensures (refusal_asks c.args.file.now (TornRecord at) h (λ e. cc));
}

pub returns-clause-too_long : goal.returns-clause-too_long
returns-clause-too_long c = λ at. record {
  only = answer_is c.args.file.now c.capture.result _ c.capture.ensures;
  always = λ h. fault_answered c.args.file.now c.capture.result _ c.capture.ensures (refusal_asks c.args.file.now (TooLong at) h (λ e. cc));
}

pub returns-clause-short : goal.returns-clause-short
returns-clause-short c = held_short c.args.file.now c.capture.result (answer_holds c.args.file.now c.capture.result c.capture.ensures)
