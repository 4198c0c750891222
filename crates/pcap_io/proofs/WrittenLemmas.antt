-- What is written holds its records.
--
-- The records are taken one by one: the bytes so far are a front of the file, whose length is the
-- offset of the next record, and each number of a record header reads back as it was written.
use Rattle.std.proofs.Common.{◌≡◌, ℕ, ◌+◌, ◌≤◌, ◌<◌, List, [], ◌∷◌, ◌++◌, length, take, drop, get_or, All, refl, sym, ap, subst, ◌∙◌, append_assoc, arith}
use Rattle.std.specs.Prelude.{Result, Ok, Err, IfOk, OnOk}
use Rattle.std.specs.Global.{Vec}
use Rattle.std.specs.declared.alloc.AllocError.{AllocError}
use Rattle.std.specs.List.{flat_map, AllByRecursion}
use Rattle.std.proofs.Math.Seq.{drop-append-add, drop-append_seam, take-append_seam}
use Rattle.std.proofs.lemmas.List.{append-nil, length-append, take_more, map_push}
use Rattle.std.proofs.lemmas.Grind.{flat_map-append}
use Rattle.std.proofs.lemmas.List.Concat.{flat_map-cons}
use Rattle.std.proofs.lemmas.List.Elements.{All-more, recursion_from_All}
use Rattle.byteorder.specs.Endian.{little_bytes}
use Rattle.byteorder.specs.Numbers.{little_number-reads_back}
use Rattle.pcap_io.specs.declared.captured.Captured.{Captured}
use Rattle.pcap_io.specs.declared.form.Order.TheVariants.{Little}
use Rattle.pcap_io.specs.declared.form.Precision.TheVariants.{Micros}
use Rattle.pcap_io.specs.declared.form.Form.{Form}
use Rattle.pcap_io.specs.Record.{Record, record_of, records_of}
use Rattle.pcap_io.specs.Holds.{HasHeader, StandsAt, Run, Holds}
use Rattle.pcap_io.specs.Written.{header_bytes, record_bytes, capture_bytes}
use Rattle.pcap_io.specs.Answer.{IsInRange}

-- the form that is written
abbrev written_form : Form
written_form = record { order = Little; precision = Micros }

-- a record has 16 bytes before its captured bytes
length-record_bytes : (r : Record) → length (record_bytes r) ≡ 16 + length r.bytes
unfolding record_bytes
length-record_bytes r = omega arith

-- a written record stands behind what was written before it
record_stands : (front more : List ℕ) (r : Record) → IsInRange r → length r.bytes ≤ 65535
    → StandsAt written_form (front ++ (record_bytes r ++ more)) (length front) r
unfolding record_bytes
record_stands front more r in_range short =
    let file = front ++ (record_bytes r ++ more) in
    let len = length-append front (record_bytes r ++ more) in
    let len_more = length-append (record_bytes r) more in
    let len_record = length-record_bytes r in
    let size = little_bytes 4 (length r.bytes) in
    let all : drop (length front) file ≡ record_bytes r ++ more = drop-append_seam front (record_bytes r ++ more) in
    let behind : (k : ℕ) → drop (length front + k) file ≡ drop k (record_bytes r ++ more) = λ k. drop-append-add front (record_bytes r ++ more) k in
    record {
      whole = omega arith;
      seconds = rw all (little_number-reads_back 4 r.seconds ((little_bytes 4 r.micros ++ (size ++ (size ++ r.bytes))) ++ more) in_range.seconds);
      micros = rw (behind 4) (little_number-reads_back 4 r.micros ((size ++ (size ++ r.bytes)) ++ more) in_range.micros);
      captured = rw (behind 8) (little_number-reads_back 4 (length r.bytes) ((size ++ r.bytes) ++ more) (omega arith));
      short = short;
      bytes = rw (behind 16) (take-append_seam r.bytes more);
    }

-- a frame whose captured bytes can be read back
abbrev IsShort : Captured → Type 0
IsShort c = length c.bytes.items ≤ 65535

-- the records that are written behind a front run from its length to the end
written_run : (front : List ℕ) (cs : List Captured) → AllByRecursion (λ c. IsInRange (record_of c)) cs → AllByRecursion IsShort cs
    → Run written_form (front ++ flat_map record_bytes (records_of cs)) (records_of cs) (length front) (length (front ++ flat_map record_bytes (records_of cs)))
written_run front [] in_range short = ap length (sym (append-nil front))
written_run front (c ∷ cs) in_range short =
    let r = record_of c in
    let rest = flat_map record_bytes (records_of cs) in
    let file = front ++ flat_map record_bytes (records_of (c ∷ cs)) in
    let is : file ≡ front ++ (record_bytes r ++ rest) = ap (λ (x : List ℕ). front ++ x) (flat_map-cons record_bytes r (records_of cs)) in
    let grouped : (front ++ record_bytes r) ++ rest ≡ file = append_assoc front (record_bytes r) rest ∙ sym is in
    let first : StandsAt written_form file (length front) r = subst (λ (x : List ℕ). StandsAt written_form x (length front) r) (sym is) (record_stands front rest r in_range.0 short.0) in
    let start : length (front ++ record_bytes r) ≡ length front + (16 + length r.bytes) = omega (arith, length-append front (record_bytes r), length-record_bytes r) in
    let others = written_run (front ++ record_bytes r) cs in_range.1 short.1 in
    let there : Run written_form file (records_of cs) (length (front ++ record_bytes r)) (length file) = subst (λ (x : List ℕ). Run written_form x (records_of cs) (length (front ++ record_bytes r)) (length x)) grouped others in
    (first, subst (λ (x : ℕ). Run written_form file (records_of cs) x (length file)) start there)

-- what is written begins with a header
header_stands : (rest : List ℕ) → HasHeader written_form (header_bytes ++ rest)
unfolding header_bytes
header_stands rest = record {
  magic = record { whole = omega arith; magic = refl };
  version = record { major = refl; minor = refl };
  link_type = refl;
}

-- the header has 24 bytes
length-header_bytes : length header_bytes ≡ 24
unfolding header_bytes
length-header_bytes = refl

-- the file that is written for the frames holds them
pub capture_bytes-holds : (cs : List Captured) → All (λ c. IsInRange (record_of c)) cs → All (λ c. length c.bytes.items ≤ 65535) cs
    → Holds (capture_bytes (records_of cs)) (records_of cs)
capture_bytes-holds cs in_range short =
    let run = written_run header_bytes cs (recursion_from_All (λ c. IsInRange (record_of c)) cs in_range) (recursion_from_All IsShort cs short) in
    let file = capture_bytes (records_of cs) in
    (written_form, header_stands (flat_map record_bytes (records_of cs)), subst (λ (x : ℕ). Run written_form file (records_of cs) x (length file)) length-header_bytes run)

-- and so does what a writer answers that gives it
pub written_holds : (cs : List Captured) (result : Result (Vec ℕ) AllocError) → IfOk result (λ file. file.items ≡ capture_bytes (records_of cs))
    → OnOk result (All (λ c. IsInRange (record_of c)) cs) → All (λ c. length c.bytes.items ≤ 65535) cs
    → IfOk result (λ file. Holds file.items (records_of cs))
written_holds cs (Ok file) bytes in_range short = subst (λ (x : List ℕ). Holds x (records_of cs)) (sym bytes) (capture_bytes-holds cs in_range short)
written_holds cs (Err e) bytes in_range short = tt

-- one more record: the bytes, and the numbers in range
pub written_more : (out : List ℕ) (cs : List Captured) (i : ℕ) (c : Captured) → i < length cs → c ≡ get_or cs i c
    → out ≡ header_bytes ++ flat_map record_bytes (records_of (take i cs))
    → out ++ record_bytes (record_of c) ≡ header_bytes ++ flat_map record_bytes (records_of (take (i + 1) cs))
written_more out cs i c inside item so_far =
    let more : take (i + 1) cs ≡ take i cs ++ c ∷ [] = take_more cs i c inside ∙ ap (λ (x : Captured). take i cs ++ x ∷ []) (sym item) in
    let one : flat_map record_bytes (record_of c ∷ []) ≡ record_bytes (record_of c) = flat_map-cons record_bytes (record_of c) [] ∙ append-nil (record_bytes (record_of c)) in
    rw (more, map_push record_of (take i cs) c, flat_map-append record_bytes (records_of (take i cs)) (record_of c ∷ []), one, so_far)
    (append_assoc header_bytes (flat_map record_bytes (records_of (take i cs))) (record_bytes (record_of c)))

pub in_range_more : (cs : List Captured) (i : ℕ) (c : Captured) → i < length cs → c ≡ get_or cs i c
    → All (λ x. IsInRange (record_of x)) (take i cs) → IsInRange (record_of c) → All (λ x. IsInRange (record_of x)) (take (i + 1) cs)
in_range_more cs i c inside item so_far here =
    All-more (λ x. IsInRange (record_of x)) cs i c inside so_far (subst (λ (x : Captured). IsInRange (record_of x)) item here)
