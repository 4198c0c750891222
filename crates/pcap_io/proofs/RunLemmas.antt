-- Runs of records: one more record at the end, and where a run cannot go on.
use Rattle.std.proofs.Common.{◌≡◌, inl, inr, ℕ, ◌+◌, ◌≤◌, List, [], ◌∷◌, ◌++◌, length, take, drop, sym, ap, ◌∙◌, arith}
use Rattle.std.specs.Prelude.{All, Result, Ok, Err, IfOk}
use Rattle.std.specs.List.{AllByRecursion}
use Rattle.std.specs.Global.{Vec}
use Rattle.std.proofs.lemmas.List.Elements.{All-from_recursion}
use Rattle.pcap_io.specs.declared.captured.Captured.{Captured}
use Rattle.pcap_io.specs.declared.fault.CaptureFault.{CaptureFault}
use Rattle.pcap_io.specs.declared.form.Form.{Form}
use Rattle.pcap_io.specs.Record.{Record, records_of}
use Rattle.pcap_io.specs.Holds.{StandsAt, Run, Holds}
use Rattle.pcap_io.specs.Faults.{IsCut, IsLong}

-- a record that stands where a run ends goes on with it
pub Run-push : (form : Form) (file : List ℕ) (rs : List Record) (r : Record) (start at end : ℕ)
    → Run form file rs start at → StandsAt form file at r → end ≡ at + (16 + length r.bytes) → Run form file (rs ++ r ∷ []) start end
Run-push form file [] r start at end run stands e = (rw run stands, omega arith)
Run-push form file (q ∷ qs) r start at end run stands e = (run.0, Run-push form file qs r (start + (16 + length q.bytes)) at end run.1 stands e)

-- records with the same parts are the same
same_parts : (r q : Record) → r.seconds ≡ q.seconds → r.micros ≡ q.micros → r.bytes ≡ q.bytes → r ≡ q
same_parts r q s m b =
    ap (λ (x : ℕ). record { seconds = x; micros = r.micros; bytes = r.bytes }) s
    ∙ ap (λ (x : ℕ). record { seconds = q.seconds; micros = x; bytes = r.bytes }) m
    ∙ ap (λ (x : List ℕ). record { seconds = q.seconds; micros = q.micros; bytes = x }) b

-- one record at most stands at an offset
pub StandsAt-one : (form : Form) (file : List ℕ) (at : ℕ) (r q : Record) → StandsAt form file at r → StandsAt form file at q → r ≡ q
StandsAt-one form file at r q a b =
    let len : length r.bytes ≡ length q.bytes = sym a.captured ∙ b.captured in
    same_parts r q (sym a.seconds ∙ b.seconds) (sym a.micros ∙ b.micros)
    (sym a.bytes ∙ ap (λ (n : ℕ). take n (drop (at + 16) file)) len ∙ b.bytes)

-- no record stands where the file ends
pub none_at_end : (form : Form) (file : List ℕ) (at : ℕ) (r : Record) → at ≡ length file → StandsAt form file at r → ⊥
none_at_end form file at r e stands = let whole = stands.whole in omega arith

-- no record stands where the file is cut
pub none_at_cut : (form : Form) (file : List ℕ) (at : ℕ) (r : Record) → IsCut form file at → StandsAt form file at r → ⊥
none_at_cut form file at r (inl cut) stands = let whole = stands.whole in let short = cut.1 in omega arith
none_at_cut form file at r (inr cut) stands =
    let whole = stands.whole in
    let captured = stands.captured in
    let short = cut.cut in
    omega arith

-- no record stands where a captured length is too great
pub none_at_long : (form : Form) (file : List ℕ) (at : ℕ) (r : Record) → IsLong form file at → StandsAt form file at r → ⊥
none_at_long form file at r long stands =
    let short = stands.short in
    let captured = stands.captured in
    let above = long.long in
    omega arith

-- the records of a run are short
Run-short_by_recursion : (form : Form) (file : List ℕ) (cs : List Captured) (start end : ℕ) → Run form file (records_of cs) start end
    → AllByRecursion (λ c. length c.bytes.items ≤ 65535) cs
Run-short_by_recursion form file [] start end run = tt
Run-short_by_recursion form file (c ∷ cs) start end run =
    (run.0.short, Run-short_by_recursion form file cs (start + (16 + length c.bytes.items)) end run.1)

pub Run-short : (form : Form) (file : List ℕ) (cs : List Captured) (start end : ℕ) → Run form file (records_of cs) start end
    → All (λ c. length c.bytes.items ≤ 65535) cs
Run-short form file cs start end run =
    All-from_recursion (λ c. length c.bytes.items ≤ 65535) cs (Run-short_by_recursion form file cs start end run)

-- and so are those that a reader answers
pub held_short : (file : List ℕ) (result : Result (Vec Captured) CaptureFault) → IfOk result (λ list. Holds file (records_of list.items))
    → IfOk result (λ list. All (λ c. length c.bytes.items ≤ 65535) list.items)
held_short file (Ok list) h = Run-short h.0 file list.items 24 (length file) h.2
held_short file (Err f) h = tt
