-- A program in which no name is taken can be linked.
use Rattle.exit_rewriting.proofs.Plain.{plain_if_spelled}
use Rattle.exit_rewriting.proofs.Spelled.{stays_spelled}
use Rattle.link_faults.proofs.Taken.{none_is_taken, none_tells}
use Rattle.faultless_programs.specs.Given.{NoFaultCanLink}

pub no_fault_can_link : NoFaultCanLink
no_fault_can_link f well spelled free =
    record {
      program = record { typed = well; given = none_is_taken f free; plain = plain_if_spelled f spelled; quiet = none_tells f free };
      spelled = stays_spelled f spelled;
    }
