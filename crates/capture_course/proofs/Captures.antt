-- A capture is the one that its bytes hold, or is refused for a cause that they have.
use Rattle.std.proofs.Common.{◌≡◌, ◌≢◌, ℕ, List, Result, Ok, Err, refl, sym}
use Rattle.pcap_io.specs.Record.{Record}
use Rattle.pcap_io.specs.Holds.{Holds}
use Rattle.pcap_io.specs.Answer.{Refuses}
use Rattle.pcap_io.specs.declared.fault.CaptureFault.{CaptureFault}
use Rattle.pcap_io.specs.declared.fault.CaptureFault.TheVariants.{NoMemory}
use Rattle.pcap_io.proofs.OneAnswer.{Asks-one, held_asks, refusal_asks}
use Rattle.job_course.specs.declared.status.Status.TheVariants.{BadCapture}
use Rattle.job_course.specs.Steps.{Settles, Rejects}
use Rattle.capture_course.specs.Lines.{capture_line}
use Rattle.capture_course.specs.Files.{IsNoCapture}

abbrev held : List Record → Result (List Record) CaptureFault
held rs = Ok rs

abbrev refused : CaptureFault → Result (List Record) CaptureFault
refused f = Err f

not_both : (bytes : List ℕ) (rs : List Record) (f : CaptureFault) → Holds bytes rs → f ≢ NoMemory → Refuses bytes f → ⊥
not_both bytes rs f h some cause =
    let same : held rs ≡ refused f = Asks-one bytes (held rs) (refused f) (held_asks bytes rs h) (refusal_asks bytes f cause some) in absurd cc

misread : (name bytes line : List ℕ) (rs : List Record) → ((f : CaptureFault) × (f ≢ NoMemory) × Refuses bytes f × (line ≡ capture_line name f)) → Holds bytes rs → ⊥
misread name bytes line rs (f, some, cause, e) h = not_both bytes rs f h some cause

pub is_held : (name bytes : List ℕ) (rs : List Record) → Holds bytes rs → Settles (Holds bytes) (IsNoCapture name bytes) rs
is_held name bytes rs h = record {
  given = h;
  alone = λ other w.
      let same : held rs ≡ held other = Asks-one bytes (held rs) (held other) (held_asks bytes rs h) (held_asks bytes other w) in cc;
  free = λ s l no. misread name bytes l rs no.1 h;
}

pub is_no_capture : (name bytes line : List ℕ) (f : CaptureFault) → f ≢ NoMemory → Refuses bytes f → line ≡ capture_line name f → Rejects (Holds bytes) (IsNoCapture name bytes) BadCapture line
is_no_capture name bytes line f some cause e = record {
  kind = tt;
  admitted = (refl, (f, some, cause, e));
  given = λ rs h. not_both bytes rs f h some cause;
  other = λ s l no. no.0;
}
