-- What the two networks show at a moment, and how the digests, the verdicts and the counts of one
-- half join those so far.
use Rattle.std.proofs.Common.{◌≡◌, ◌≢◌, ℕ, ◌+◌, ◌≤◌, List, [], ◌∷◌, ◌++◌, length, map, Bool, true, false, not, cond, Option, Some, None, refl, ap, sym, ◌∙◌, subst, arith, length-append}
use Rattle.std.specs.List.{filter, AllByRecursion}
use Rattle.std.specs.Prelude.{nat_lt, ◌||◌}
use Rattle.std.proofs.lemmas.List.Elements.{filter-append}
use Rattle.std.proofs.lemmas.List.{map-append}
use Rattle.std.proofs.lemmas.Bool.Decides.{nat_tests}
use Rattle.network_run.specs.Machine.{Digest}
use Rattle.network_run.specs.Network.{Place, Over, Told, Net, times, one_if}
use Rattle.network_run.specs.NetworkRun.{put, told_by, longest_frame}
use Rattle.network_run.specs.PathMeaning.{Report, Reported, Property, Path, reported_by, is_rejected, rejects}
use Rattle.network_run.specs.RunLaws.{IsOver}
use Rattle.network_run.proofs.Numbers.{nat_eq_self, nat_eq_other, put_one, put_cases, put_same}
use Rattle.linkage.specs.Linkage.{Telemetry, is_report, report_digest, told_report, monitored, Counts}
use Rattle.linkage.specs.HalvesLaws.{SameDigests}
use Rattle.linkage.proofs.Lists.{filter_same, all_and, all_one_more, times_append}

-- what both networks show at a moment agrees with the path
pub record Shows {S Q S' Q' C T Z : Type 0} (p : Property T Z C) (telemetry : Telemetry T) (plain : Net S Q C) (linked : Net S' Q' C) (path : Path T Z) : Type 0 where
  pub wires : map (λ x. x.sent) linked.wires ≡ map (monitored p telemetry path) plain.wires
  pub edges : linked.edges ≡ filter (λ x. not (rejects path x.packet)) plain.edges
  pub reports : filter (λ t. is_report t.digest) linked.told ≡ map told_report path.reports
  pub digests : filter (λ t. not (is_report t.digest)) linked.told ≡ plain.told
  pub counts : Counts path plain linked

-- the digests of a half that pass a test
told_filter : (i s : ℕ) (test : Digest → Bool) (ds : List Digest) → filter (λ t. test t.digest) (told_by i s ds) ≡ told_by i s (filter test ds)
told_filter i s test [] = refl
told_filter i s test (d ∷ ds) =
    let first : Told = record { packet = i; switch = s; digest = d } in
    elim (test d) as (λ b. cond b (first ∷ filter (λ t. test t.digest) (told_by i s ds)) (filter (λ t. test t.digest) (told_by i s ds)) ≡ told_by i s (cond b (d ∷ filter test ds) (filter test ds)))
    [ true ↦ ap (λ ts. first ∷ ts) (told_filter i s test ds) | false ↦ told_filter i s test ds ]

told_map : (i s : ℕ) (rs : List Report) → told_by i s (map report_digest rs) ≡ map told_report (reported_by i s rs)
told_map i s [] = refl
told_map i s (r ∷ rs) = ap (λ ts. record { packet = i; switch = s; digest = report_digest r } ∷ ts) (told_map i s rs)

-- the reports of a half join those so far
pub told_reports : (i s : ℕ) (told : List Told) (reports : List Reported) (da db : List Digest) (rs : List Report) → SameDigests da db rs → filter (λ t. is_report t.digest) told ≡ map told_report reports → filter (λ t. is_report t.digest) (told ++ told_by i s db) ≡ map told_report (reports ++ reported_by i s rs)
told_reports i s told reports da db rs same h =
    filter-append (λ t. is_report t.digest) told (told_by i s db) ∙ (rw (h, told_filter i s is_report db, same.reports, told_map i s rs) (sym (map-append told_report reports (reported_by i s rs))))

-- and so do its other digests
pub told_others : (i s : ℕ) (told plain : List Told) (da db : List Digest) (rs : List Report) → SameDigests da db rs → filter (λ t. not (is_report t.digest)) told ≡ plain → filter (λ t. not (is_report t.digest)) (told ++ told_by i s db) ≡ plain ++ told_by i s da
told_others i s told plain da db rs same h =
    filter-append (λ t. not (is_report t.digest)) told (told_by i s db) ∙ (rw (h, told_filter i s (λ d. not (is_report d)) db, same.others))

pub not_both : (b : Bool) → b ≡ true → b ≡ false → ⊥
not_both b t f = (cc)

-- the limits of both networks refuse the same frames
pub limit_same : (size : ℕ) (t f : List ℕ) → length t ≡ size → nat_lt (longest_frame + size) (length (t ++ f)) ≡ nat_lt longest_frame (length f)
limit_same size t f e =
    let q : length (t ++ f) ≡ size + length f = omega (arith, length-append t f, e) in
    grind (arith, nat_tests, q)

pub within : (b : Bool) (n : ℕ) → (b || nat_lt longest_frame n) ≡ false → n ≤ longest_frame
within true n h = absurd (not_both true refl h)
within false n h = grind (arith, nat_tests, h)

-- one more that is rejected
pub times_rejected : (verdicts : ℕ → Option Bool) (i j : ℕ) (xs ys : List ℕ) → verdicts i ≡ None → times j ys ≡ times j xs + one_if (is_rejected (verdicts j)) → times j (ys ++ i ∷ []) ≡ times j xs + one_if (is_rejected (put verdicts i (Some true) j))
times_rejected verdicts i j xs ys none h =
    put_cases (λ j u. times j (ys ++ i ∷ []) ≡ times j xs + one_if (is_rejected u)) verdicts i (Some true) j (λ e. there j e h) (λ n. elsewhere j n h)
  where
    there : (j : ℕ) → j ≡ i → times j ys ≡ times j xs + one_if (is_rejected (verdicts j)) → times j (ys ++ i ∷ []) ≡ times j xs + 1
    there j e h =
        let none' : verdicts j ≡ None = ap verdicts e ∙ none in
        let zero' : one_if (is_rejected (verdicts j)) ≡ 0 = rw none' in
        let one' : times j (i ∷ []) ≡ 1 = rw (e, nat_eq_self i) in
        omega (arith, times_append j ys (i ∷ []), h, zero', one')

    elsewhere : (j : ℕ) → j ≢ i → times j ys ≡ times j xs + one_if (is_rejected (verdicts j)) → times j (ys ++ i ∷ []) ≡ times j xs + one_if (is_rejected (verdicts j))
    elsewhere j n h =
        let none_of : times j (i ∷ []) ≡ 0 = rw (nat_eq_other i j (λ e. n (sym e))) in
        omega (arith, times_append j ys (i ∷ []), h, none_of)

-- no more, for one that is not
pub times_accepted : (verdicts : ℕ → Option Bool) (i j : ℕ) (xs ys : List ℕ) → verdicts i ≡ None → times j ys ≡ times j xs + one_if (is_rejected (verdicts j)) → times j ys ≡ times j xs + one_if (is_rejected (put verdicts i (Some false) j))
times_accepted verdicts i j xs ys none h =
    put_cases (λ j u. times j ys ≡ times j xs + one_if (is_rejected (verdicts j)) → times j ys ≡ times j xs + one_if (is_rejected u)) verdicts i (Some false) j (λ e h. let none' : verdicts j ≡ None = ap verdicts e ∙ none in rw none' at h) (λ n h. h) h

-- a verdict on a packet that is not over changes nothing for those that are
module _ {Q : Type 0} (packets : ℕ → Place Q) (verdicts : ℕ → Option Bool) (i : ℕ) (moves : IsOver (packets i) → ⊥) where
  not_it : (j : ℕ) → j ≡ i → IsOver (packets j) → ⊥
  not_it j e o = moves (subst (λ k. IsOver (packets k)) e o)

  over_kept : (to : Place Q) (j : ℕ) → IsOver (packets j) → IsOver (put packets i to j)
  over_kept to = put_one (λ j u. IsOver (packets j) → IsOver u) packets i to (λ j. (λ e o. absurd (not_it j e o), λ o. o))

  verdict_kept : (v : Option Bool) (j : ℕ) → IsOver (packets j) → put verdicts i v j ≡ verdicts j
  verdict_kept v = put_one (λ j u. IsOver (packets j) → u ≡ verdicts j) verdicts i v (λ j. (λ e o. absurd (not_it j e o), λ o. refl))

  pub all_over : {X : Type 0} (of : X → ℕ) (to : Place Q) (xs : List X) → AllByRecursion (λ x. IsOver (packets (of x))) xs → AllByRecursion (λ x. IsOver (put packets i to (of x))) xs
  all_over of to xs = all_and (λ x. IsOver (packets (of x))) (λ x. IsOver (put packets i to (of x))) xs (λ x. over_kept to (of x))

  pub all_over_more : {X : Type 0} (of : X → ℕ) (xs : List X) (x : X) → of x ≡ i → AllByRecursion (λ x. IsOver (packets (of x))) xs → AllByRecursion (λ x. IsOver (put packets i Over (of x))) (xs ++ x ∷ [])
  all_over_more of xs x e o =
      let P : ℕ → Type 0 = λ j. IsOver (put packets i Over j) in
      all_one_more (λ x. P (of x)) xs x (all_over of Over xs o) (subst P (sym e) (subst IsOver (sym (put_same packets i Over)) tt))

  pub passed_same : {X : Type 0} (of : X → ℕ) (v : Option Bool) (xs : List X) → AllByRecursion (λ x. IsOver (packets (of x))) xs → filter (λ x. not (is_rejected (put verdicts i v (of x)))) xs ≡ filter (λ x. not (is_rejected (verdicts (of x)))) xs
  passed_same of v xs o =
      filter_same (λ x. not (is_rejected (put verdicts i v (of x)))) (λ x. not (is_rejected (verdicts (of x)))) xs
      (all_and (λ x. IsOver (packets (of x))) (λ x. not (is_rejected (put verdicts i v (of x))) ≡ not (is_rejected (verdicts (of x)))) xs (λ x o. ap (λ u. not (is_rejected u)) (verdict_kept v (of x) o)) o)

  pub passed_more : {X : Type 0} (of : X → ℕ) (v : Option Bool) (xs : List X) (x : X) → of x ≡ i → AllByRecursion (λ x. IsOver (packets (of x))) xs → filter (λ x. not (is_rejected (put verdicts i v (of x)))) (xs ++ x ∷ []) ≡ filter (λ x. not (is_rejected (verdicts (of x)))) xs ++ cond (not (is_rejected v)) (x ∷ []) []
  passed_more of v xs x e o =
      filter-append (λ x. not (is_rejected (put verdicts i v (of x)))) xs (x ∷ []) ∙ rw (passed_same of v xs o, e, put_same verdicts i v)
