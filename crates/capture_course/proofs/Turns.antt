-- The files of captures, one after the other: what loops meet.
use Rattle.std.proofs.Common.{◌≡◌, ℕ, ◌+◌, ◌-◌, ◌<◌, ◌≤◌, List, [], ◌∷◌, ◌++◌, map, length, drop, get_or, Result, Ok, Err, refl, sym, ap, subst, ◌∙◌}
use Rattle.std.specs.Global.{Vec}
use Rattle.outside.specs.State.{StoreState}
use Rattle.pcap_io.specs.Record.{Record}
use Rattle.pcap_io.specs.Holds.{Holds}
use Rattle.pcap_io.specs.declared.captured.Captured.{Captured}
use Rattle.case_file.specs.declared.case.Capture.{Capture}
use Rattle.json_parts.proofs.TurnLemmas.{drop_map, drop_all}
use Rattle.job_course.specs.declared.status.Stop.{Stop}
use Rattle.job_course.specs.declared.status.Area.TheVariants as area
use Rattle.job_course.specs.Course.{file}
use Rattle.job_course.specs.Steps.{Follows, Judged}
use Rattle.job_course.proofs.Courses.{follows_then, follows_first, follows_give, judged_follows}
use Rattle.capture_course.specs.Files.{IsNoCapture, captures_from}
use Rattle.capture_course.specs.Views.{list_of, lists_of, name_of, names_of}

abbrev Answer : Type 0
Answer = Result (Vec (Vec Captured)) Stop

-- what keeps to the course from a place of the list on
abbrev pub FollowsFrom : (left : ℕ) → (found : List (List Record)) → (names : List (List ℕ)) → StoreState → StoreState → Answer → Type 0
FollowsFrom left found names s t r = Follows (captures_from left found names) (λ v. lists_of v.items) s t r

module _ (cs : List Capture) (i left : ℕ) (found : List (List Record)) (d : Capture) (lt : i < length cs) where
  here : name_of (get_or cs i d) ∷ drop (i + 1) (names_of cs) ≡ drop i (names_of cs)
  here = sym (drop_map name_of cs i d lt)

  -- the file was refused
  pub stop_at_file : (s t : StoreState) (e : Stop) → Follows {A = Vec ℕ} (file (name_of (get_or cs i d)) left area.Capture) (λ b. b.items) s t (Err e) → FollowsFrom left found (drop i (names_of cs)) s t (Err e)
  unfolding captures_from
  stop_at_file s t e h = subst (λ ns. FollowsFrom left found ns s t (Err e)) here (follows_first _ h)

  module _ (s t : StoreState) (b : Vec ℕ) (read : Follows (file (name_of (get_or cs i d)) left area.Capture) (λ b. b.items) s t (Ok b)) where
    contents : (bytes : List ℕ) → bytes ≡ b.items → (o : Result (Vec Captured) Stop) → Judged (Holds bytes) (IsNoCapture (name_of (get_or cs i d)) bytes) list_of o → Judged (Holds b.items) (IsNoCapture (name_of (get_or cs i d)) b.items) list_of o
    contents bytes same o h = subst (λ bs. Judged (Holds bs) (IsNoCapture (name_of (get_or cs i d)) bs) list_of o) same h

    -- its contents were
    pub stop_at_contents : (bytes : List ℕ) → bytes ≡ b.items → (e : Stop) → Judged {A = Vec Captured} (Holds bytes) (IsNoCapture (name_of (get_or cs i d)) bytes) list_of (Err e) → FollowsFrom left found (drop i (names_of cs)) s t (Err e)
    unfolding captures_from
    stop_at_contents bytes same e h = subst (λ ns. FollowsFrom left found ns s t (Err e)) here (follows_then _ read (follows_first {Q = Vec Captured} _ {first = list_of} (judged_follows _ _ _ _ _ (contents bytes same (Err e) h))))

    -- neither was
    pub go_on : (bytes : List ℕ) → bytes ≡ b.items → (v : Vec Captured) → Judged (Holds bytes) (IsNoCapture (name_of (get_or cs i d)) bytes) list_of (Ok v)
        → (u : StoreState) (r : Answer) → FollowsFrom (left - length b.items) (found ++ list_of v ∷ []) (drop (i + 1) (names_of cs)) t u r → FollowsFrom left found (drop i (names_of cs)) s u r
    unfolding captures_from
    go_on bytes same v h u r next = subst (λ ns. FollowsFrom left found ns s u r) here (follows_then _ read (follows_then {Q = Vec Captured} _ {first = list_of} {q = v} (judged_follows _ _ _ _ _ (contents bytes same (Ok v) h)) next))

-- no file is left
pub stop_at_end : (cs : List Capture) (i left : ℕ) (v : Vec (Vec Captured)) (s : StoreState) → length cs ≤ i → FollowsFrom left (lists_of v.items) (drop i (names_of cs)) s s (Ok v)
unfolding captures_from
stop_at_end cs i left v s le = subst (λ ns. FollowsFrom left (lists_of v.items) ns s s (Ok v)) (sym (drop_all name_of cs i le)) (follows_give _ refl)
