-- Steps of the program, for what the case says.
use Rattle.std.proofs.Common.{◌≡◌, Bool, ℕ, List, [], ◌∷◌, map, Result, Ok, refl, sym, subst, ap, ◌∙◌}
use Rattle.std.specs.Global.{Vec}
use Rattle.serde_json.specs.Data.{Data}
use Rattle.outside.specs.State.{StoreState}
use Rattle.network_file.specs.Network.{Network}
use Rattle.pcap_io.specs.declared.captured.Captured.{Captured}
use Rattle.case_file.specs.Case.{case_of}
use Rattle.case_file.specs.Views.{capture_views, case_view}
use Rattle.case_file.specs.declared.case.Capture.{Capture}
use Rattle.case_file.specs.declared.case.Case.{Case}
use Rattle.job_course.specs.declared.status.Status.TheVariants.{BadNetwork}
use Rattle.job_course.specs.declared.status.Stop.{Stop}
use Rattle.job_course.specs.Course.{IsFault}
use Rattle.job_course.specs.Steps.{Follows, Judged}
use Rattle.job_course.proofs.Courses.{judged_follows}
use Rattle.network_course.specs.Files.{case_answer, network_course, places_answer}
use Rattle.network_course.specs.Lines.{shape_line, place_line}
use Rattle.network_course.specs.Places.{places_of}
use Rattle.network_course.specs.Views.{place_views}
use Rattle.network_course.specs.declared.places.Place.{Place}
use Rattle.capture_course.specs.Files.{captures_course}
use Rattle.capture_course.specs.Views.{lists_of, names_of}

-- the files of a case's captures
file_names : (cs : List Capture) → map (λ x. x.file) (capture_views cs) ≡ names_of cs
file_names [] = refl
file_names (c ∷ cs) = ap (λ (ns : List (List ℕ)). c.file.now ∷ ns) (file_names cs)

pub of_names : (name : List ℕ) (room hops : ℕ) (cs ds : List Capture) → ds ≡ cs → (s t : StoreState) (r : Result (Vec (Vec Captured)) Stop)
    → Follows (captures_course name room hops (names_of ds)) (λ v. lists_of v.items) s t r → Follows (captures_course name room hops (map (λ x. x.file) (capture_views cs))) (λ v. lists_of v.items) s t r
of_names name room hops cs ds same s t r h =
    subst (λ (ns : List (List ℕ)). Follows (captures_course name room hops ns) (λ v. lists_of v.items) s t r) (ap names_of same ∙ sym (file_names cs)) h

-- the case of a value
pub case_follows : (needs : Bool) (name : List ℕ) (d : Data) (s : StoreState) (r : Result Case Stop)
    → Judged (λ c. case_of needs d ≡ Ok c) (IsFault BadNetwork (shape_line name) (case_of needs d)) case_view r → Follows (case_answer needs name d) case_view s s r
case_follows needs name d s r h = judged_follows _ _ _ s r h

-- a network for a program with so many cells
pub of_cells : (name : List ℕ) (m n : ℕ) → m ≡ n → (s t : StoreState) (r : Result Network Stop) → Follows (network_course name m) (λ n. n) s t r → Follows (network_course name n) (λ n. n) s t r
of_cells name m n same s t r h = subst (λ k. Follows (network_course name k) (λ n. n) s t r) same h

-- where its captures enter
pub places_follow : (name : List ℕ) (n : Network) (cs ds : List Capture) → ds ≡ cs → (s : StoreState) (r : Result (Vec Place) Stop)
    → Judged (λ ps. places_of n (capture_views ds) ≡ Ok ps) (IsFault BadNetwork (place_line name) (places_of n (capture_views ds))) (λ v. place_views v.items) r
    → Follows (places_answer name n (capture_views cs)) (λ v. place_views v.items) s s r
places_follow name n cs ds same s r h = subst (λ (xs : List Capture). Follows (places_answer name n (capture_views xs)) (λ v. place_views v.items) s s r) same (judged_follows _ _ _ s r h)
