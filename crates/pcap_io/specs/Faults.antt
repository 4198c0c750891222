-- When each fault comes: the first place of the file that is wrong decides. Read Holds first.
use Rattle.std.specs.Prelude.{◌≡◌, ◌≢◌, ℕ, ◌+◌, ◌≤◌, ◌<◌, ◌⊎◌, List, length, Result, Err}
use Rattle.pcap_io.specs.declared.fault.CaptureFault.{CaptureFault}
use Rattle.pcap_io.specs.declared.fault.CaptureFault.TheVariants as fault
use Rattle.pcap_io.specs.declared.form.Form.{Form}
use Rattle.pcap_io.specs.declared.form.Order.TheVariants.{Little}
use Rattle.pcap_io.specs.Record.{Record}
use Rattle.pcap_io.specs.Fields.{field, magic_of}
use Rattle.pcap_io.specs.Holds.{HasMagic, HasVersion, HasHeader, Run}

-- there are the bytes of a file header, and they begin with no magic number
pub record HasBadMagic (file : List ℕ) : Type 0 where
  pub whole : 24 ≤ length file
  pub magic : (form : Form) → field Little 4 0 file ≢ magic_of form.order form.precision

-- the magic number is right, and the version another than 2.4
abbrev pub HasBadVersion : List ℕ → Type 0
HasBadVersion file = (form : Form) × HasMagic form file × ¬ HasVersion form file

-- the magic number and the version are right, and the link type is another than Ethernet's
abbrev pub HasOtherLink : List ℕ → Type 0
HasOtherLink file =
    (form : Form) × HasMagic form file × HasVersion form file × (field form.order 4 20 file ≢ 1)

-- the header is right, and whole records stand from there up to this offset
abbrev pub Reaches : Form → List ℕ → ℕ → Type 0
Reaches form file at = HasHeader form file × ((rs : List Record) × Run form file rs 24 at)

-- the captured length that the record header at this offset says
abbrev pub captured_at : Form → List ℕ → ℕ → ℕ
captured_at form file at = field form.order 4 (at + 8) file

-- the file ends inside the record header at this offset
abbrev pub IsHeaderCut : List ℕ → ℕ → Type 0
IsHeaderCut file at = (at < length file) × (length file < at + 16)

-- the file ends inside the captured bytes of the record at this offset
pub record IsBodyCut (form : Form) (file : List ℕ) (at : ℕ) : Type 0 where
  pub header : at + 16 ≤ length file
  pub short : captured_at form file at ≤ 65535
  pub cut : length file < at + (16 + captured_at form file at)

-- the file ends inside the record at this offset
abbrev pub IsCut : Form → List ℕ → ℕ → Type 0
IsCut form file at = IsHeaderCut file at ⊎ IsBodyCut form file at

-- the record header at this offset says a captured length over 65,535
pub record IsLong (form : Form) (file : List ℕ) (at : ℕ) : Type 0 where
  pub header : at + 16 ≤ length file
  pub long : 65535 < captured_at form file at

-- the first record that is not whole stands at this offset, and the file ends inside it
abbrev pub HasTornRecord : List ℕ → ℕ → Type 0
HasTornRecord file at = (form : Form) × Reaches form file at × IsCut form file at

-- the first record that is too long stands at this offset, and those before it are whole
abbrev pub HasLongRecord : List ℕ → ℕ → Type 0
HasLongRecord file at = (form : Form) × Reaches form file at × IsLong form file at

-- the answer is this fault exactly where its cause stands, unless memory runs out
pub record ComesWhere {X : Type 0} (result : Result X CaptureFault) (f : CaptureFault) (cause : Type 0)
    : Type 0 where
  pub only : result ≡ Err f → cause
  pub always : cause → (result ≡ Err f) ⊎ (result ≡ Err fault.NoMemory)
