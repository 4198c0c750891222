-- The files of a switch, port by port.
use Rattle.std.proofs.Common.{◌≡◌, ℕ, zero, suc, ◌+◌, ◌<◌, ◌≤◌, List, [], ◌∷◌, ◌++◌, length, map, drop, get_or, slice_get, Some, refl, sym, ap, subst, ◌∙◌, arith}
use Rattle.std.proofs.lemmas.List.{append_assoc, append-nil}
use Rattle.network_run.specs.Network.{Sent}
use Rattle.pcap_io.specs.Record.{Record}
use Rattle.run_captures.specs.Captures.{Time, Front, record_for, frames_at, port_file, ports_files, switch_files, switches_files}
use Rattle.run_captures.specs.Sorted.{switch_of, port_of, those_at, AreSorted, lists_files}
use Rattle.run_captures.proofs.Sorting.{frames_are}

-- the list of a place, and those behind it
pub list_here : {A : Type 0} (v : A → List Sent) (xs : List A) (i : ℕ) (d : A) → i < length xs → drop i (map v xs) ≡ v (get_or xs i d) ∷ drop (i + 1) (map v xs)
list_here v [] i d lt = absurd (omega arith)
list_here v (x ∷ xs) zero d lt = refl
list_here v (x ∷ xs) (suc i) d lt =
    let next : suc i + 1 ≡ suc (i + 1) = omega arith in
    list_here v xs i d (omega arith) ∙ ap (λ (n : ℕ). v (get_or xs i d) ∷ drop n (map v (x ∷ xs))) (sym next)

pub none_left : {A : Type 0} (v : A → List Sent) (xs : List A) (i : ℕ) → length xs ≤ i → drop i (map v xs) ≡ []
none_left v [] zero le = refl
none_left v [] (suc i) le = refl
none_left v (x ∷ xs) zero le = absurd (omega arith)
none_left v (x ∷ xs) (suc i) le = none_left v xs i (omega arith)

module _ {A : Type 0} (f : Front) (n : List ℕ) (v : A → List Sent) (xs : List A) (i : ℕ) (before total : List (List ℕ × List ℕ)) (ts : List Time) (so_far : before ++ lists_files f n ts i (drop i (map v xs)) ≡ total) where
  pub file_more : (d : A) → i < length xs → (before ++ port_file f n i (map (record_for ts) (v (get_or xs i d)))) ++ lists_files f n ts (i + 1) (drop (i + 1) (map v xs)) ≡ total
  file_more d lt =
      append_assoc before (port_file f n i (map (record_for ts) (v (get_or xs i d)))) (lists_files f n ts (i + 1) (drop (i + 1) (map v xs)))
      ∙ ap (λ ls. before ++ lists_files f n ts i ls) (sym (list_here v xs i d lt))
      ∙ so_far

-- lists of frames by ports give the files of these ports
ports_of : (f : Front) (n : List ℕ) (ts : List Time) (xs : List Sent) (s p : ℕ) (ls : List (List Sent))
    → ((i : ℕ) → i < length ls → map (record_for ts) (get_or ls i []) ≡ frames_at ts s (p + i) xs) → lists_files f n ts p ls ≡ ports_files f n ts xs s p (length ls)
ports_of f n ts xs s p [] h = refl
ports_of f n ts xs s p (l ∷ ls) h =
    let at_first : p + 0 ≡ p = omega arith in
    let first : map (record_for ts) l ≡ frames_at ts s p xs = h 0 (omega arith) ∙ ap (λ q. frames_at ts s q xs) at_first in
    ap (λ rs. port_file f n p rs ++ lists_files f n ts (p + 1) ls) first
    ∙ ap (λ fs. port_file f n p (frames_at ts s p xs) ++ fs) (ports_of f n ts xs s (p + 1) ls (λ i lt.
    let later : p + suc i ≡ (p + 1) + i = omega arith in h (suc i) (omega (arith, lt)) ∙ ap (λ q. frames_at ts s q xs) later))

-- a switch's frames by their ports give its files
pub files_of_switch : (f : Front) (n : List ℕ) (ts : List Time) (xs : List Sent) (s : ℕ) (ls : List (List Sent)) → AreSorted port_of 511 (those_at switch_of s xs) ls → lists_files f n ts 0 ls ≡ switch_files f n ts xs s
unfolding switch_files
files_of_switch f n ts xs s ls a =
    ports_of f n ts xs s 0 ls (λ i lt. let count = a.count in
    let zero_first : 0 + i ≡ i = omega arith in
    ap (map (record_for ts)) (a.each i (omega (arith, lt, count))) ∙ frames_are ts s i xs ∙ ap (λ q. frames_at ts s q xs) (sym zero_first))
    ∙ ap (λ c. ports_files f n ts xs s 0 c) a.count

-- ---- switches

-- the name of a place, and those behind it
name_here : (ns : List (List ℕ)) (i : ℕ) (n : List ℕ) → slice_get ns i ≡ Some n → drop i ns ≡ n ∷ drop (i + 1) ns
name_here [] i n e = absurd cc
name_here (m ∷ ns) zero n e = let is : m ≡ n = cc in ap (λ k. k ∷ ns) is
name_here (m ∷ ns) (suc i) n e =
    let next : suc i + 1 ≡ suc (i + 1) = omega arith in
    name_here ns i n e ∙ ap (λ (k : ℕ). n ∷ drop k (m ∷ ns)) (sym next)

pub no_name_left : (ns : List (List ℕ)) (i : ℕ) → length ns ≤ i → drop i ns ≡ []
no_name_left [] zero le = refl
no_name_left [] (suc i) le = refl
no_name_left (m ∷ ns) zero le = absurd (omega arith)
no_name_left (m ∷ ns) (suc i) le = no_name_left ns i (omega arith)

module _ (f : Front) (ts : List Time) (xs : List Sent) (ns : List (List ℕ)) (i : ℕ) (before total : List (List ℕ × List ℕ)) (so_far : before ++ switches_files f ts xs i (drop i ns) ≡ total) where
  pub switch_more : (n : List ℕ) → slice_get ns i ≡ Some n → (before ++ switch_files f n ts xs i) ++ switches_files f ts xs (i + 1) (drop (i + 1) ns) ≡ total
  switch_more n e =
      append_assoc before (switch_files f n ts xs i) (switches_files f ts xs (i + 1) (drop (i + 1) ns))
      ∙ ap (λ ms. before ++ switches_files f ts xs i ms) (sym (name_here ns i n e))
      ∙ so_far

  pub switch_end : length ns ≤ i → before ≡ total
  switch_end le = sym (append-nil before) ∙ ap (λ ms. before ++ switches_files f ts xs i ms) (sym (no_name_left ns i le)) ∙ so_far
