-- The files that are written, and the summary.
use Rattle.std.proofs.Common.{◌≡◌, ℕ, ◌≤◌, Result, Ok, Err, IfOk, List, [], ◌∷◌, ◌++◌, length, map, All, refl, ap, sym, ◌∙◌, subst, arith, append_assoc}
use Rattle.std.proofs.Math.ListN.{get_or-map}
use Rattle.std.proofs.lemmas.List.{length-map}
use Rattle.network_run.specs.Network.{Sent}
use Rattle.run_captures.specs.Captures.{Time, Front, switches_files}
use Rattle.report_writer.specs.Texts.{reports_of, cells_of, summary_of}
use Rattle.path_runner.specs.Nets.{State}
use Rattle.forward_run.specs.Job.{Job}
use Rattle.forward_run.specs.Run.{run_of}
use Rattle.forward_texts.specs.Rows.{report_of, switches_cells}
use Rattle.forward_run.specs.Files.{counts_of}
use Rattle.forward_run.specs.Switches.{IsEndOf}

-- what follows of an answer
pub if_ok : {A E : Type 0} (P R : A → Type 0) (r : Result A E) → ((a : A) → P a → R a) → IfOk r P → IfOk r R
if_ok P R (Ok a) f h = f a h
if_ok P R (Err e) f h = tt

abbrev pub Files : Type 0
Files = List (List ℕ × List ℕ)

-- three files behind others
pub three_more : (some one two three all : Files) (a b c : List ℕ × List ℕ) → one ≡ some ++ a ∷ [] → two ≡ one ++ b ∷ [] → three ≡ two ++ c ∷ [] → some ≡ all → three ≡ all ++ (a ∷ b ∷ c ∷ [])
three_more some one two three all a b c e f g h =
    g
    ∙ ap (λ (fs : Files). fs ++ c ∷ []) (f ∙ ap (λ (fs : Files). fs ++ b ∷ []) (e ∙ ap (λ (fs : Files). fs ++ a ∷ []) h))
    ∙ append_assoc (all ++ a ∷ []) (b ∷ []) (c ∷ [])
    ∙ append_assoc all (a ∷ []) (b ∷ c ∷ [])

-- the frames of the program are as short as those that it shows, and so as frames of links are
pub short_items : {A : Type 0} (v : A → Sent) (xs : List A) → All (λ x. length x.frame ≤ 65535) (map v xs) → All (λ x. length (v x).frame ≤ 65791) xs
short_items v xs h = λ k d lt.
    let short = subst (λ (x : Sent). length x.frame ≤ 65535) (get_or-map v xs k d) (h k (v d) (omega (arith, length-map xs v, lt))) in
    omega (arith, short)

module _ (j : Job) (s : State) (at_end : IsEndOf j s) where
  pub captures_are : (f : Front) (ts : List Time) → j.times ≡ ts → switches_files f ts s.traffic.edges 0 s.network.names ≡ switches_files f j.times (run_of j).edges 0 j.network.names
  captures_are f ts e = rw (at_end.network, sym e, sym at_end.shows.edges) refl

  pub digests_are : reports_of (map (report_of s.network.names) s.traffic.told) ≡ reports_of (map (report_of j.network.names) (run_of j).told)
  digests_are = rw (at_end.network, sym at_end.shows.told) refl

  pub cells_are : cells_of (switches_cells j.program (run_of j).switches 0 s.network.names) ≡ cells_of (switches_cells j.program (run_of j).switches 0 j.network.names)
  cells_are = rw at_end.network refl

  pub summary_is : (packets sent : ℕ) → length j.packets ≡ packets → sent ≡ length s.traffic.edges → summary_of (record { packets = packets; sent = sent; dropped = s.traffic.dropped; rejected = 0; lost = s.traffic.lost; reports = 0 }) ≡ summary_of (counts_of (length j.packets) (run_of j))
  summary_is packets sent e f = rw (f, sym e, sym at_end.shows.edges, sym at_end.shows.dropped, sym at_end.shows.lost) refl
