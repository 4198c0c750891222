-- Captured frames are short, and few.
use Rattle.std.proofs.Common.{ℕ, ◌+◌, ◌-◌, ◌≤◌, List, [], ◌∷◌, ◌++◌, length, map, sym, subst, arith, length-append}
use Rattle.std.proofs.lemmas.List.{length-map}
use Rattle.std.specs.List.{All}
use Rattle.std.proofs.lemmas.List.Elements.{All-nil, All-cons, All-head, All-tail, All-append, All-push}
use Rattle.pcap_io.specs.Record.{Record}
use Rattle.pcap_io.specs.Holds.{Run, Holds}
use Rattle.pcap_io.specs.declared.form.Form.{Form}
use Rattle.network_run.specs.NetworkRun.{longest_frame}
use Rattle.network_file.specs.Network.{Network, Port}
use Rattle.path_runner.specs.Conditions.{IsAtEdge}
use Rattle.job_course.specs.Course.{and_then}
use Rattle.capture_course.specs.Files.{captures_from, captures_course, packets_in}
use Rattle.case_course.specs.Packets.{arrival_at, arrivals_of}
use Rattle.case_course.proofs.PlaceLemmas.{IsPlace}

abbrev pub AreShort : List Record → Type 0
AreShort rs = All (λ r. length r.bytes ≤ 65535) rs

run_short : (form : Form) (file : List ℕ) (rs : List Record) (start end : ℕ) → Run form file rs start end → AreShort rs
run_short form file [] start end h = All-nil (λ r. length r.bytes ≤ 65535)
run_short form file (r ∷ rs) start end h =
    All-cons (λ r. length r.bytes ≤ 65535) r rs h.0.short (run_short form file rs (start + (16 + length r.bytes)) end h.1)

held_short : (file : List ℕ) (rs : List Record) → Holds file rs → AreShort rs
held_short file rs h = run_short h.0 file rs 24 (length file) h.2

all_short : (left : ℕ) (found : List (List Record)) (names : List (List ℕ)) (cs : List (List Record)) → All AreShort found → (captures_from left found names).may cs → All AreShort cs
unfolding captures_from and_then
all_short left found [] cs h may = subst (All AreShort) (sym may) h
all_short left found (n ∷ ns) cs h (bytes, within, (rs, holds, may)) =
    all_short (left - length bytes) (found ++ rs ∷ []) ns cs (All-push AreShort found rs h (held_short bytes rs holds)) may

module _ (name : List ℕ) (room hops : ℕ) (names : List (List ℕ)) (cs : List (List Record)) where
  pub captures_are_short : (captures_course name room hops names).may cs → All AreShort cs
  unfolding and_then
  captures_are_short (read, may, (is, limits)) = subst (All AreShort) (sym is) (all_short 67108864 [] names read (All-nil AreShort) may)

  pub captures_are_few : (captures_course name room hops names).may cs → packets_in cs ≤ 100000
  unfolding and_then
  captures_are_few (read, may, (is, limits)) = subst (λ (rss : List (List Record)). packets_in rss ≤ 100000) (sym is) limits.0

-- there are no more packets than records
pub few_arrive : (ps : List Port) (rss : List (List Record)) → length (arrivals_of ps rss) ≤ packets_in rss
few_arrive [] rss = omega arith
few_arrive (p ∷ ps) [] = omega arith
few_arrive (p ∷ ps) (rs ∷ rss) =
    let rest = few_arrive ps rss in
    let all = length-append (map (arrival_at p) rs) (arrivals_of ps rss) in
    let one = length-map rs (arrival_at p) in
    omega (arith, rest, all, one)

module _ (n : Network) where
  one_arrives : (p : Port) (rs : List Record) → IsPlace n p → AreShort rs → All (IsAtEdge n longest_frame) (map (arrival_at p) rs)
  one_arrives p [] place h = All-nil (IsAtEdge n longest_frame)
  one_arrives p (r ∷ rs) place h =
      All-cons (IsAtEdge n longest_frame) (arrival_at p r) (map (arrival_at p) rs)
      (record { switch = place.switch; port = place.port; edge = place.edge; short = All-head (λ r. length r.bytes ≤ 65535) r rs h })
      (one_arrives p rs place (All-tail (λ r. length r.bytes ≤ 65535) r rs h))

  pub all_arrive : (ps : List Port) (rss : List (List Record)) → All (IsPlace n) ps → All AreShort rss → All (IsAtEdge n longest_frame) (arrivals_of ps rss)
  all_arrive [] rss h k = All-nil (IsAtEdge n longest_frame)
  all_arrive (p ∷ ps) [] h k = All-nil (IsAtEdge n longest_frame)
  all_arrive (p ∷ ps) (rs ∷ rss) h k =
      All-append (IsAtEdge n longest_frame) (map (arrival_at p) rs) (arrivals_of ps rss)
      (one_arrives p rs (All-head (IsPlace n) p ps h) (All-head AreShort rs rss k))
      (all_arrive ps rss (All-tail (IsPlace n) p ps h) (All-tail AreShort rs rss k))
