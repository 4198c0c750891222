-- The captures of a case, as steps of a command: which refusals there are, and what they give. Read `Course` of
-- job_course, and `Lines`, before it.
use Rattle.std.specs.Prelude.{◌≡◌, ◌≢◌, ◌⊎◌, ℕ, ◌+◌, ◌-◌, ◌*◌, ◌<◌, ◌≤◌, List, [], ◌∷◌, ◌++◌, length, codes}
use Rattle.pcap_io.specs.Record.{Record}
use Rattle.pcap_io.specs.Holds.{Holds}
use Rattle.pcap_io.specs.Answer.{Refuses}
use Rattle.pcap_io.specs.declared.fault.CaptureFault.{CaptureFault}
use Rattle.pcap_io.specs.declared.fault.CaptureFault.TheVariants.{NoMemory}
use Rattle.job_course.specs.declared.status.Status.{Status}
use Rattle.job_course.specs.declared.status.Status.TheVariants.{BadCapture}
use Rattle.job_course.specs.declared.status.Area.TheVariants as area
use Rattle.job_course.specs.Course.{Course, file, decide, and_then, give}
use Rattle.job_course.specs.Lines.{cause_line}
use Rattle.capture_course.specs.Lines.{capture_line}

-- ---- one file

-- the bytes are no capture, for a cause that they have
abbrev pub IsNoCapture : (name bytes : List ℕ) → Status → (line : List ℕ) → Type 0
IsNoCapture name bytes s l =
    (s ≡ BadCapture) × ((f : CaptureFault) × (f ≢ NoMemory) × Refuses bytes f × (l ≡ capture_line name f))

-- ---- all files

-- the captures of these files, in order, where all files that are left have at most so many bytes together. A file with
-- which there are more is refused before its contents are looked at
unfoldable pub captures_from : (left : ℕ) → (found : List (List Record)) → (names : List (List ℕ)) → Course (List (List Record))
captures_from left found [] = give found
captures_from left found (n ∷ ns) =
    and_then (file n left area.Capture) (λ bytes.
    and_then (decide (Holds bytes) (IsNoCapture n bytes)) (λ records.
    captures_from (left - length bytes) (found ++ records ∷ []) ns))

-- ---- the limits

abbrev pub sum_of : {X : Type 0} → (X → ℕ) → List X → ℕ
sum_of f [] = 0
sum_of f (x ∷ xs) = f x + sum_of f xs

-- how many packets captures have
abbrev pub packets_in : List (List Record) → ℕ
packets_in cs = sum_of length cs

-- how many bytes were captured, in one file and in all
abbrev pub bytes_of : List Record → ℕ
bytes_of rs = sum_of (λ r. length r.bytes) rs

abbrev pub bytes_in : List (List Record) → ℕ
bytes_in cs = sum_of bytes_of cs

-- the most bytes that all packets carry over all switches that they pass
abbrev pub volume_of : (room hops : ℕ) → List (List Record) → ℕ
volume_of room hops cs = (bytes_in cs + packets_in cs * (room + 16)) * hops

abbrev pub IsInLimits : (room hops : ℕ) → List (List Record) → Type 0
IsInLimits room hops cs = (packets_in cs ≤ 100000) × (volume_of room hops cs ≤ 2147483648)

abbrev pub AreFew : (room hops : ℕ) → (read cs : List (List Record)) → Type 0
AreFew room hops read cs = (cs ≡ read) × IsInLimits room hops read

-- the number of packets is tested first; a refusal names the case
abbrev pub AreMany : (name : List ℕ) → (room hops : ℕ) → List (List Record) → Status → (line : List ℕ) → Type 0
AreMany name room hops cs s l =
    (s ≡ BadCapture)
    × (((100000 < packets_in cs) × (l ≡ cause_line area.Capture name (codes "Packets")))
    ⊎ ((packets_in cs ≤ 100000) × (2147483648 < volume_of room hops cs) × (l ≡ cause_line area.Capture name (codes "Volume"))))

-- the captures of a case of this name, in at most 64 MiB together
abbrev pub captures_course : (name : List ℕ) → (room hops : ℕ) → (names : List (List ℕ)) → Course (List (List Record))
captures_course name room hops names = and_then (captures_from 67108864 [] names) (λ cs. decide (AreFew room hops cs) (AreMany name room hops cs))
