-- Which records a file holds: read Record and Fields first, then Faults.
use Rattle.std.specs.Prelude.{◌≡◌, ℕ, ◌+◌, ◌≤◌, List, [], ◌∷◌, length, take, drop}
use Rattle.pcap_io.specs.declared.form.Form.{Form}
use Rattle.pcap_io.specs.declared.form.Order.TheVariants.{Little}
use Rattle.pcap_io.specs.Record.{Record}
use Rattle.pcap_io.specs.Fields.{field, magic_of, micros_of}

-- the 24 bytes of a file header are there, and begin with the magic number of this form
pub record HasMagic (form : Form) (file : List ℕ) : Type 0 where
  pub whole : 24 ≤ length file
  pub magic : field Little 4 0 file ≡ magic_of form.order form.precision

-- the version is 2.4
pub record HasVersion (form : Form) (file : List ℕ) : Type 0 where
  pub major : field form.order 2 4 file ≡ 2
  pub minor : field form.order 2 6 file ≡ 4

-- the file begins with a file header of this form, of version 2.4, for Ethernet frames. The zone at
-- offset 8, the accuracy at 12 and the snapshot length at 16 may be any
pub record HasHeader (form : Form) (file : List ℕ) : Type 0 where
  pub magic : HasMagic form file
  pub version : HasVersion form file
  pub link_type : field form.order 4 20 file ≡ 1

-- the record stands at this offset: 16 bytes of record header, and then as many bytes as were
-- captured. The original length, at 12 of the record header, may be any
pub record StandsAt (form : Form) (file : List ℕ) (at : ℕ) (r : Record) : Type 0 where
  pub whole : at + (16 + length r.bytes) ≤ length file
  pub seconds : field form.order 4 at file ≡ r.seconds
  pub micros : micros_of form.precision (field form.order 4 (at + 4) file) ≡ r.micros
  pub captured : field form.order 4 (at + 8) file ≡ length r.bytes
  pub short : length r.bytes ≤ 65535
  pub bytes : take (length r.bytes) (drop (at + 16) file) ≡ r.bytes

-- the records stand one behind the other, the first at `start`, and the last ends at `end`
abbrev pub Run : Form → List ℕ → List Record → ℕ → ℕ → Type 0
Run form file [] start end = start ≡ end
Run form file (r ∷ rs) start end =
    StandsAt form file start r × Run form file rs (start + (16 + length r.bytes)) end

-- the file holds these records: a header, then the records, and nothing else
abbrev pub Holds : List ℕ → List Record → Type 0
Holds file rs = (form : Form) × HasHeader form file × Run form file rs 24 (length file)
