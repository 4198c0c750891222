-- A file has one answer.
--
-- What the header says is a function of the bytes, `header_of`. Behind a right header two runs of
-- records that end where no record stands are the same run (`Run-one`), and the reason to end there
-- is one alone (`Ends-one`). So a file asks for one answer (`Asks-one`), and the answer that the
-- reader found is the one that a cause, or the records held, ask for.
use Rattle.std.proofs.Common.{◌≡◌, ◌≢◌, ◌⊎◌, inl, inr, ℕ, ◌+◌, ◌<◌, ◌==◌, Bool, true, false, not, ◌&&◌, nat_lt, if◌then◌else◌, List, [], ◌∷◌, length, Option, Some, None, Result, Ok, Err, refl, sym, ap, subst, ◌∙◌, arith}
use Rattle.std.specs.Prelude.{IfOk, MatchResult}
use Rattle.std.specs.Global.{Vec}
use Rattle.std.proofs.lemmas.Bool.{lt-ltb, le-ltb, eqb-true, ne_eqb}
use Rattle.pcap_io.specs.declared.captured.Captured.{Captured}
use Rattle.pcap_io.specs.declared.fault.CaptureFault.{CaptureFault}
use Rattle.pcap_io.specs.declared.fault.CaptureFault.TheVariants as fault
use Rattle.pcap_io.specs.declared.form.Order.{Order}
use Rattle.pcap_io.specs.declared.form.Order.TheVariants.{Little, Big}
use Rattle.pcap_io.specs.declared.form.Precision.{Precision}
use Rattle.pcap_io.specs.declared.form.Precision.TheVariants.{Micros, Nanos}
use Rattle.pcap_io.specs.declared.form.Form.{Form}
use Rattle.pcap_io.specs.Record.{Record, records_of}
use Rattle.pcap_io.specs.Fields.{field, magic_of}
use Rattle.pcap_io.specs.Holds.{HasMagic, HasHeader, StandsAt, Run, Holds}
use Rattle.pcap_io.specs.Faults.{HasBadMagic, HasBadVersion, HasOtherLink, IsCut, IsLong}
use Rattle.pcap_io.specs.Answer.{Refuses, IsAnswer}
use Rattle.pcap_io.proofs.RunLemmas.{StandsAt-one, none_at_end, none_at_cut, none_at_long}

-- ---- the header

-- the form that a magic number says
abbrev form_of_magic : ℕ → Option Form
form_of_magic n =
    if n == 0xa1b2c3d4 then Some (record { order = Little; precision = Micros })
    else (if n == 0xa1b23c4d then Some (record { order = Little; precision = Nanos })
    else (if n == 0xd4c3b2a1 then Some (record { order = Big; precision = Micros })
    else (if n == 0x4d3cb2a1 then Some (record { order = Big; precision = Nanos })
    else None)))

-- what the rest of a header says, once the magic number says a form
abbrev header_of_form : List ℕ → Option Form → Result Form CaptureFault
header_of_form file None = Err fault.BadMagic
header_of_form file (Some form) =
    if not (field form.order 2 4 file == 2 && field form.order 2 6 file == 4) then Err fault.BadVersion
    else (if field form.order 4 20 file == 1 then Ok form else Err fault.NotEthernet)

-- what the header says: a form, or its first fault
abbrev header_of : List ℕ → Result Form CaptureFault
header_of file = if nat_lt (length file) 24 then Err fault.ShortHeader else header_of_form file (form_of_magic (field Little 4 0 file))

-- a magic number says its own form
says_form : (order : Order) (precision : Precision) → form_of_magic (magic_of order precision) ≡ Some (record { order = order; precision = precision })
says_form Little Micros = refl
says_form Little Nanos = refl
says_form Big Micros = refl
says_form Big Nanos = refl

-- behind a magic number the rest of the header decides
behind_magic : (form : Form) (file : List ℕ) → HasMagic form file → header_of file ≡ header_of_form file (Some form)
behind_magic form file h =
    let whole = h.whole in
    let long : nat_lt (length file) 24 ≡ false = le-ltb (length file) 24 whole in
    rw (long, h.magic, says_form form.order form.precision) refl

-- another number is no magic number
no_form : (n : ℕ) → ((form : Form) → n ≢ magic_of form.order form.precision) → form_of_magic n ≡ None
no_form n other =
    rw (
      ne_eqb n 0xa1b2c3d4 (other (record { order = Little; precision = Micros })),
      ne_eqb n 0xa1b23c4d (other (record { order = Little; precision = Nanos })),
      ne_eqb n 0xd4c3b2a1 (other (record { order = Big; precision = Micros })),
      ne_eqb n 0x4d3cb2a1 (other (record { order = Big; precision = Nanos })),
    ) refl

pub header_short : (file : List ℕ) → length file < 24 → header_of file ≡ Err fault.ShortHeader
header_short file short = rw (lt-ltb (length file) 24 short) refl

pub header_bad_magic : (file : List ℕ) → HasBadMagic file → header_of file ≡ Err fault.BadMagic
header_bad_magic file h =
    let whole = h.whole in
    let long : nat_lt (length file) 24 ≡ false = le-ltb (length file) 24 whole in
    rw (long, no_form (field Little 4 0 file) h.magic) refl

-- two tests that are not both met
not_both : (a b c d : ℕ) → (a ≡ c → b ≡ d → ⊥) → not (a == c && b == d) ≡ true
not_both a b c d h = cases (a == c) (b == d) refl refl
  where
    cases : (p q : Bool) → (a == c) ≡ p → (b == d) ≡ q → not (p && q) ≡ true
    cases true true e f = absurd (h (eqb-true a c e) (eqb-true b d f))
    cases true false e f = refl
    cases false q e f = refl

pub header_bad_version : (file : List ℕ) → HasBadVersion file → header_of file ≡ Err fault.BadVersion
header_bad_version file h =
    let form = h.0 in
    let other = not_both (field form.order 2 4 file) (field form.order 2 6 file) 2 4 (λ a b. h.2 (record { major = a; minor = b })) in
    behind_magic form file h.1 ∙ rw other refl

pub header_other_link : (file : List ℕ) → HasOtherLink file → header_of file ≡ Err fault.NotEthernet
header_other_link file h =
    let form = h.0 in
    behind_magic form file h.1 ∙ rw (h.2.major, h.2.minor, ne_eqb (field form.order 4 20 file) 1 h.3) refl

pub header_right : (form : Form) (file : List ℕ) → HasHeader form file → header_of file ≡ Ok form
header_right form file h = behind_magic form file h.magic ∙ rw (h.version.major, h.version.minor, h.link_type) refl

-- ---- the records

-- why a run of these records ends at this offset, and the answer then
abbrev Ends : Form → List ℕ → List Record → ℕ → Result (List Record) CaptureFault → Type 0
Ends form file rs at o =
    ((at ≡ length file) × (o ≡ Ok rs))
    ⊎ ((IsCut form file at × (o ≡ Err (fault.TornRecord at)))
    ⊎ (IsLong form file at × (o ≡ Err (fault.TooLong at))))

-- no record stands where a run ends
none_behind : (form : Form) (file : List ℕ) (rs : List Record) (at : ℕ) (o : Result (List Record) CaptureFault) (r : Record)
    → Ends form file rs at o → StandsAt form file at r → ⊥
none_behind form file rs at o r (inl end) = none_at_end form file at r end.0
none_behind form file rs at o r (inr (inl cut)) = none_at_cut form file at r cut.0
none_behind form file rs at o r (inr (inr long)) = none_at_long form file at r long.0

-- a cut file has some bytes of the record
cut_inside : (form : Form) (file : List ℕ) (at : ℕ) → IsCut form file at → at < length file
cut_inside form file at (inl cut) = cut.0
cut_inside form file at (inr cut) = let header = cut.header in omega arith

-- no file is cut where a captured length is too great
cut_not_long : (form : Form) (file : List ℕ) (at : ℕ) → IsCut form file at → IsLong form file at → ⊥
cut_not_long form file at (inl cut) long = let short = cut.1 in let header = long.header in omega arith
cut_not_long form file at (inr cut) long = let short = cut.short in let above = long.long in omega arith

-- there is one reason to end at an offset
Ends-one : (form : Form) (file : List ℕ) (rs : List Record) (at : ℕ) (o p : Result (List Record) CaptureFault)
    → Ends form file rs at o → Ends form file rs at p → o ≡ p
Ends-one form file rs at o p (inl a) (inl b) = a.1 ∙ sym b.1
Ends-one form file rs at o p (inl a) (inr (inl b)) = let inside = cut_inside form file at b.0 in let end = a.0 in absurd (omega arith)
Ends-one form file rs at o p (inl a) (inr (inr b)) = let header = b.0.header in let end = a.0 in absurd (omega arith)
Ends-one form file rs at o p (inr (inl a)) (inl b) = let inside = cut_inside form file at a.0 in let end = b.0 in absurd (omega arith)
Ends-one form file rs at o p (inr (inl a)) (inr (inl b)) = a.1 ∙ sym b.1
Ends-one form file rs at o p (inr (inl a)) (inr (inr b)) = absurd (cut_not_long form file at a.0 b.0)
Ends-one form file rs at o p (inr (inr a)) (inl b) = let header = a.0.header in let end = b.0 in absurd (omega arith)
Ends-one form file rs at o p (inr (inr a)) (inr (inl b)) = absurd (cut_not_long form file at b.0 a.0)
Ends-one form file rs at o p (inr (inr a)) (inr (inr b)) = a.1 ∙ sym b.1

-- two runs from one offset, each to an offset where no record stands, are one run
Run-one : (form : Form) (file : List ℕ) (rs qs : List Record) (start a b : ℕ)
    → Run form file rs start a → Run form file qs start b
    → ((r : Record) → StandsAt form file a r → ⊥) → ((r : Record) → StandsAt form file b r → ⊥) → (rs ≡ qs) × (a ≡ b)
Run-one form file [] [] start a b run other none nothing = (refl, sym run ∙ other)
Run-one form file [] (q ∷ qs) start a b run other none nothing = absurd (none q (subst (λ (x : ℕ). StandsAt form file x q) run other.0))
Run-one form file (r ∷ rs) [] start a b run other none nothing = absurd (nothing r (subst (λ (x : ℕ). StandsAt form file x r) other run.0))
Run-one form file (r ∷ rs) (q ∷ qs) start a b run other none nothing =
    let same = StandsAt-one form file start r q run.0 other.0 in
    let there : Run form file rs (start + (16 + length q.bytes)) a = subst (λ (x : Record). Run form file rs (start + (16 + length x.bytes)) a) same run.1 in
    let rest = Run-one form file rs qs (start + (16 + length q.bytes)) a b there other.1 none nothing in
    (ap (λ (x : Record). x ∷ rs) same ∙ ap (λ (xs : List Record). q ∷ xs) rest.0, rest.1)

-- behind a header of this form the records ask for this answer
abbrev RunAsks : Form → List ℕ → Result (List Record) CaptureFault → Type 0
RunAsks form file o = (rs : List Record) × (at : ℕ) × Run form file rs 24 at × Ends form file rs at o

RunAsks-one : (form : Form) (file : List ℕ) (o p : Result (List Record) CaptureFault) → RunAsks form file o → RunAsks form file p → o ≡ p
RunAsks-one form file o p a b =
    let same = Run-one form file a.0 b.0 24 a.1 b.1 a.2 b.2 (λ r. none_behind form file a.0 a.1 o r a.3) (λ r. none_behind form file b.0 b.1 p r b.3) in
    let ends : Ends form file b.0 a.1 o = subst (λ (rs : List Record). Ends form file rs a.1 o) same.0 a.3 in
    let there : Ends form file b.0 b.1 o = subst (λ (at : ℕ). Ends form file b.0 at o) same.1 ends in
    Ends-one form file b.0 b.1 o p there b.3

-- ---- the file

-- the file asks for this answer: its header has the fault, or its records ask for it
abbrev pub Asks : List ℕ → Result (List Record) CaptureFault → Type 0
Asks file o = ((f : CaptureFault) × (header_of file ≡ Err f) × (o ≡ Err f)) ⊎ ((form : Form) × (header_of file ≡ Ok form) × RunAsks form file o)

pub Asks-one : (file : List ℕ) (o p : Result (List Record) CaptureFault) → Asks file o → Asks file p → o ≡ p
Asks-one file o p (inl a) (inl b) =
    let same : a.0 ≡ b.0 = cc (a.1, b.1) in
    a.2 ∙ ap (λ (f : CaptureFault). Err f) same ∙ sym b.2
Asks-one file o p (inl a) (inr b) = absurd (cc (a.1, b.1))
Asks-one file o p (inr a) (inl b) = absurd (cc (a.1, b.1))
Asks-one file o p (inr a) (inr b) =
    let same : a.0 ≡ b.0 = cc (a.1, b.1) in
    RunAsks-one b.0 file o p (subst (λ (form : Form). RunAsks form file o) same a.2) b.2

-- a cause asks for its fault, but for want of memory
pub refusal_asks : (file : List ℕ) (f : CaptureFault) → Refuses file f → f ≢ fault.NoMemory → Asks file (Err f)
refusal_asks file fault.NoMemory h some = absurd (some refl)
refusal_asks file fault.ShortHeader h some = inl (fault.ShortHeader, header_short file h, refl)
refusal_asks file fault.BadMagic h some = inl (fault.BadMagic, header_bad_magic file h, refl)
refusal_asks file fault.BadVersion h some = inl (fault.BadVersion, header_bad_version file h, refl)
refusal_asks file fault.NotEthernet h some = inl (fault.NotEthernet, header_other_link file h, refl)
refusal_asks file (fault.TornRecord at) h some = inr (h.0, header_right h.0 file h.1.0, (h.1.1.0, at, h.1.1.1, inr (inl (h.2, refl))))
refusal_asks file (fault.TooLong at) h some = inr (h.0, header_right h.0 file h.1.0, (h.1.1.0, at, h.1.1.1, inr (inr (h.2, refl))))

-- the records that a file holds are what it asks for
pub held_asks : (file : List ℕ) (rs : List Record) → Holds file rs → Asks file (Ok rs)
held_asks file rs h = inr (h.0, header_right h.0 file h.1, (rs, length file, h.2, inl (refl, refl)))

-- ---- the reader's answer

-- the answer, of records without where they lie
abbrev seen : Result (Vec Captured) CaptureFault → Result (List Record) CaptureFault
seen (Ok list) = Ok (records_of list.items)
seen (Err f) = Err f

-- two faults that are answered alike are the same
abbrev failed : CaptureFault → Result (Vec Captured) CaptureFault
failed f = Err f

err_is : (f g : CaptureFault) → failed f ≡ failed g → f ≡ g
err_is f g e = cc

-- whether a fault is want of memory
is_memory : (f : CaptureFault) → (f ≡ fault.NoMemory) ⊎ (f ≢ fault.NoMemory)
is_memory fault.NoMemory = inl refl
is_memory fault.ShortHeader = inr (λ e. cc)
is_memory fault.BadMagic = inr (λ e. cc)
is_memory fault.BadVersion = inr (λ e. cc)
is_memory fault.NotEthernet = inr (λ e. cc)
is_memory (fault.TornRecord at) = inr (λ e. cc)
is_memory (fault.TooLong at) = inr (λ e. cc)

-- the answer is what the file asks for, or memory ran out behind a right header
abbrev AskedOrNoMemory : List ℕ → Result (Vec Captured) CaptureFault → Type 0
AskedOrNoMemory file result = Asks file (seen result) ⊎ ((result ≡ Err fault.NoMemory) × ((form : Form) × HasHeader form file))

fault_asked : (file : List ℕ) (f : CaptureFault) → Refuses file f → (f ≡ fault.NoMemory) ⊎ (f ≢ fault.NoMemory) → AskedOrNoMemory file (Err f)
fault_asked file f a (inl is) = inr (ap (λ (g : CaptureFault). failed g) is, subst (λ (g : CaptureFault). Refuses file g) is a)
fault_asked file f a (inr some) = inl (refusal_asks file f a some)

answer_asked : (file : List ℕ) (result : Result (Vec Captured) CaptureFault) → IsAnswer file result → AskedOrNoMemory file result
answer_asked file (Ok list) a = inl (held_asks file (records_of list.items) a)
answer_asked file (Err f) a = fault_asked file f a (is_memory f)

-- a fault that the reader's answer shows is the answer
err_seen : (result : Result (Vec Captured) CaptureFault) (f : CaptureFault) → seen result ≡ Err f → result ≡ Err f
err_seen (Ok list) f e = absurd cc
err_seen (Err g) f e = ap (λ (h : CaptureFault). Err h) (cc)

-- a fault that the file asks for is answered, unless memory runs out
pub fault_answered : (file : List ℕ) (result : Result (Vec Captured) CaptureFault) (f : CaptureFault) → IsAnswer file result → Asks file (Err f)
    → (result ≡ Err f) ⊎ (result ≡ Err fault.NoMemory)
fault_answered file result f a asks = elim (answer_asked file result a) [
  | inl found ↦ inl (err_seen result f (Asks-one file (seen result) (Err f) found asks))
  | inr memory ↦ inr memory.0
]

-- the records that the file holds are answered, unless memory runs out
pub held_answered : (file : List ℕ) (result : Result (Vec Captured) CaptureFault) (rs : List Record) → IsAnswer file result → Holds file rs
    → MatchResult result (λ list. records_of list.items ≡ rs) (λ f. f ≡ fault.NoMemory)
held_answered file (Ok list) rs a h =
    let same = Asks-one file (Ok (records_of list.items)) (Ok rs) (held_asks file (records_of list.items) a) (held_asks file rs h) in
    cc
held_answered file (Err f) rs a h = elim (answer_asked file (Err f) a) [
  | inl found ↦ absurd (cc (Asks-one file (Err f) (Ok rs) found (held_asks file rs h)))
  | inr memory ↦ err_is f fault.NoMemory memory.0
]

-- what the reader answers is so
pub answer_is : (file : List ℕ) (result other : Result (Vec Captured) CaptureFault) → IsAnswer file result → result ≡ other → IsAnswer file other
answer_is file result other a e = subst (λ (r : Result (Vec Captured) CaptureFault). IsAnswer file r) e a

-- what the reader answers, the file holds
pub answer_holds : (file : List ℕ) (result : Result (Vec Captured) CaptureFault) → IsAnswer file result → IfOk result (λ list. Holds file (records_of list.items))
answer_holds file (Ok list) a = a
answer_holds file (Err f) a = tt
