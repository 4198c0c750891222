-- What the parts of the call say of the whole.
use Rattle.std.proofs.Common.{◌≡◌, ℕ, List, Some, sym, subst, inl, inr, string_bytes}
use Rattle.outside.specs.Causes.{Rose}
use Rattle.outside.specs.State.{StoreState, SinkState}
use Rattle.job_course.specs.declared.status.Status.{Status}
use Rattle.job_course.specs.declared.status.Status.TheVariants.{Done, BadWords, ReadFault, BadProperty, NotLinked, BadProgram, BadNetwork, BadCapture, WriteFault, NoMemory}
use Rattle.job_course.specs.declared.status.Stop.{Stop}
use Rattle.job_course.specs.declared.status.Stop.TheVariants.{Refused, Starved}
use Rattle.job_course.specs.Course.{Course}
use Rattle.job_course.specs.Delivery.{Delivered, Refuses}
use Rattle.job_course.specs.Ending.{HasWritten, HasStopped, HasPut, Work, IsRefused, AnswersCommand}
use Rattle.job_course.specs.Output.{Out}
use Rattle.job_course.specs.Lines.{memory_line}
use Rattle.job_course.specs.Plan.{Makes, PlansStop}
use Rattle.job_course.specs.Steps.{OnlyRead, Stops, IsRefusal}

module _ {J : Type 0} (Outputs : J → Out → Type 0) where
  module _ (c : Course J) (s t u : StoreState) (k m : SinkState) (out : Out) (made : Makes Outputs c s t out) where
    work : Work Outputs c s out
    work = record {
      job = made.job;
      may = made.finds.may;
      outputs = made.outputs;
      given = made.finds.given;
      alone = made.finds.alone;
    }

    -- what was written since the reads was written since the call began
    written : HasWritten out.files t.files u.files → HasWritten out.files s.files u.files
    written h = subst (λ x. HasWritten out.files x u.files) made.finds.reads.files h

    stopped : (n : ℕ) → HasStopped out.files n t.files u.files → HasStopped out.files n s.files u.files
    stopped n h = subst (λ x. HasStopped out.files n x u.files) made.finds.reads.files h

    rose : Rose t.write_faults u.write_faults → Rose s.write_faults u.write_faults
    rose h = subst (λ x. Rose x u.write_faults) made.finds.reads.write_faults h

    pub delivered : (status : Status) → Delivered out t u k m status → AnswersCommand Outputs c s u k m status
    delivered Done d = record { out = out; work = work; written = written d.written; taken = d.taken }
    delivered BadWords d = d
    delivered ReadFault d = absurd d
    delivered BadProperty d = absurd d
    delivered NotLinked d = absurd d
    delivered BadProgram d = absurd d
    delivered BadNetwork d = absurd d
    delivered BadCapture d = absurd d
    delivered WriteFault d = record {
      out = out;
      work = work;
      cause = elim d.cause [
        | inl h ↦ inl (record { place = h.place; stopped = stopped h.place h.stopped; rose = rose h.rose; put = h.put })
        | inr h ↦ inr (record { written = written h.written; failed = h.failed })
      ];
    }
    delivered NoMemory d = record {
      put = d.put;
      files = inr (record {
        out = out;
        work = work;
        place = d.place;
        stopped = stopped d.place d.stopped;
      });
    }

  -- a refusal is answered by its status
  refused_at : (c : Course J) (s t : StoreState) (k m : SinkState) (status : Status) → IsRefusal status
      → IsRefused c s t k m status → AnswersCommand Outputs c s t k m status
  refused_at c s t k m Done kind h = absurd kind
  refused_at c s t k m BadWords kind h = kind
  refused_at c s t k m ReadFault kind h = h
  refused_at c s t k m BadProperty kind h = h
  refused_at c s t k m NotLinked kind h = h
  refused_at c s t k m BadProgram kind h = h
  refused_at c s t k m BadNetwork kind h = h
  refused_at c s t k m BadCapture kind h = h
  refused_at c s t k m WriteFault kind h = absurd kind
  refused_at c s t k m NoMemory kind h = absurd kind

  pub refused : (c : Course J) (s t : StoreState) (k m : SinkState) (answer status : Status) (line : List ℕ)
      → Stops c s t status line → answer ≡ status → HasPut line k m → AnswersCommand Outputs c s t k m answer
  refused c s t k m answer status line stop is put = subst (λ x. AnswersCommand Outputs c s t k m x) (sym is) (refused_at c s t k m status stop.kind (record {
    reads = stop.reads;
    line = line;
    put = put;
    form = stop.form;
    count = stop.count;
    name = stop.name;
    admitted = stop.admitted;
  }))

  pub starved : (c : Course J) (s t : StoreState) (k m : SinkState) (answer : Status)
      → OnlyRead s t → answer ≡ NoMemory → HasPut (memory_line) k m → AnswersCommand Outputs c s t k m answer
  starved c s t k m answer reads is put =
      subst (λ x. AnswersCommand Outputs c s t k m x) (sym is) (record { put = put; files = inl reads })

  pub answered_stop : (c : Course J) (s t : StoreState) (k m : SinkState) (answer : Status) (stop : Stop)
      → PlansStop c s t stop → Refuses stop k m answer → AnswersCommand Outputs c s t k m answer
  answered_stop c s t k m answer (Refused r) plan h = refused c s t k m answer r.status (string_bytes r.line) plan h.0 h.1
  answered_stop c s t k m answer Starved plan h = starved c s t k m answer plan h.0 h.1
