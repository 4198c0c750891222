use Rattle.pcap_io.proofs.WrittenLemmas.{written_holds}
use Rattle.pcap_io.proofs.writing.write_capture.Goals as goal

pub returns-clause-held : goal.returns-clause-held
returns-clause-held c = λ short. written_holds c.args.list.now c.written.result c.written.ensures.bytes c.written.ensures.in_range short
