-- All files that the made case asks for are among those that are made.
use Rattle.std.proofs.Common.{◌≡◌, ℕ, ◌-◌, List, [], ◌∷◌, ◌++◌, length, map, codes, true, Some, None, inl, inr, Result, Ok, refl, sym, ◌∙◌, ap, subst}
use Rattle.serde_json.specs.Data.{Data}
use Rattle.serde_json.specs.Read.{read}
use Rattle.pcap_io.specs.Record.{Record}
use Rattle.outside.specs.Files.{Files}
use Rattle.outside.specs.State.{StoreState}
use Rattle.job_course.specs.declared.status.Stop.{Stop}
use Rattle.job_course.specs.Steps.{Follows}
use Rattle.case_file.specs.Case.{Case, case_of}
use Rattle.p4_rules.specs.Limits.{cells}
use Rattle.job_course.specs.Course.{and_then, give}
use Rattle.property_course.specs.Files.{typed_property}
use Rattle.program_course.specs.Files.{forwarding_program}
use Rattle.network_course.specs.Files.{value_course, case_answer, network_course}
use Rattle.capture_course.specs.Files.{captures_from}
use Rattle.case_course.specs.Course.{ground_course, packets_course}
use Rattle.run_job.specs.Course.{Base, Task, base_course, rest_course, task_from, run_course}
use Rattle.load_maker.specs.Numbers.{numbers}
use Rattle.load_maker.specs.Draws.{packets}
use Rattle.load_maker.specs.Captures.{capture, capture_name}
use Rattle.load_maker.specs.Values.{case_data, file_name}
use Rattle.load_maker.specs.Made.{case_text, made_files, capture_files}
use Rattle.load_job.specs.Within.{held_by}
use Rattle.load_job.specs.Course.{load_course}
use Rattle.load_job.specs.Made.{made_case, made_capture}
use Rattle.load_job.proofs.Held.{IsHeld, AreHeld, first_held, here, there, all_there, numbered_held}
use Rattle.load_job.proofs.Closed.{IsThere, IsClosed, named}
use Rattle.load_job.proofs.Cases.{case_is_made}
use Rattle.load_job.proofs.Within.{follows_within}

-- ---- steps

module _ (f : Files) where
  value_closed : (x : List ℕ) → IsThere f x → IsClosed f (value_course x)
  unfolding and_then
  value_closed x held n asks = elim asks [ inl is ↦ named f x n held is | inr p ↦ absurd p.2 ]

  property_closed : (x : List ℕ) → IsThere f x → IsClosed f (typed_property x)
  unfolding and_then
  property_closed x held n asks = elim asks [
    | inl a ↦ elim a [ inl is ↦ named f x n held is | inr p ↦ absurd p.2 ]
    | inr p ↦ absurd p.2
  ]

  program_closed : (x : List ℕ) → IsThere f x → IsClosed f (forwarding_program x)
  unfolding and_then
  program_closed x held n asks = elim asks [
    | inl a ↦ elim a [
      | inl b ↦ elim b [ inl is ↦ named f x n held is | inr p ↦ absurd p.2 ]
      | inr p ↦ absurd p.2
    ]
    | inr p ↦ absurd p.2
  ]

  network_closed : (x : List ℕ) (cells : ℕ) → IsThere f x → IsClosed f (network_course x cells)
  unfolding and_then
  network_closed x cells held n asks = elim asks [
    | inl a ↦ value_closed x held n a
    | inr p ↦ elim p.2 [ inl a ↦ absurd a | inr q ↦ absurd q.2 ]
  ]

  -- all of these
  abbrev AreThere : List (List ℕ) → Type 0
  AreThere [] = Unit {0}
  AreThere (n ∷ ns) = IsThere f n × AreThere ns

  are_there : (xs : List (List ℕ × List ℕ)) (ns : List (List ℕ)) → held_by xs ≡ f → AreHeld xs ns → AreThere ns
  are_there xs [] is held = tt
  are_there xs (n ∷ ns) is (first, rest) = (subst (λ (g : Files). g n ≡ None → ⊥) is first.held, are_there xs ns is rest)

  captures_closed : (left : ℕ) (found : List (List Record)) (names : List (List ℕ)) → AreThere names → IsClosed f (captures_from left found names)
  unfolding captures_from and_then
  captures_closed left found [] held n asks = absurd asks
  captures_closed left found (x ∷ xs) (first, rest) n asks = elim asks [
    | inl is ↦ named f x n first is
    | inr p ↦ elim p.2 [
      | inl a ↦ absurd a
      | inr q ↦ captures_closed (left - length p.0) (found ++ q.0 ∷ []) xs rest n q.2
    ]
  ]

-- ---- the made case

module _ (n : ℕ) (out : List ℕ) (reads : read (case_text out) ≡ Some (case_data out)) where
  abbrev f : Files
  f = held_by (made_files n out)

  abbrev name : List ℕ
  name = file_name out (codes "case.json")

  abbrev c : Case
  c = made_case out

  -- what stands behind the first files
  abbrev rest : List (List ℕ × List ℕ)
  rest = capture_files n out

  held_case : IsHeld (made_files n out) name
  held_case = here _ _ _

  held_network : IsHeld (made_files n out) c.network
  held_network = there _ _ _ (here _ _ _)

  held_program : IsHeld (made_files n out) c.program
  held_program = there _ _ _ (there _ _ _ (here _ _ _))

  held_property : IsHeld (made_files n out) (file_name out (codes "path.indus"))
  held_property = there _ _ _ (there _ _ _ (there _ _ _ (here _ _ _)))

  held_entries : IsHeld (made_files n out) (file_name out (codes "entries.json"))
  held_entries = there _ _ _ (there _ _ _ (there _ _ _ (there _ _ _ (here _ _ _))))

  held_control : IsHeld (made_files n out) (file_name out (codes "control.json"))
  held_control = there _ _ _ (there _ _ _ (there _ _ _ (there _ _ _ (there _ _ _ (here _ _ _)))))

  named_files : (ks : List ℕ) → map (capture_name out) ks ≡ map (λ x. x.file) (map (made_capture out) ks)
  named_files [] = refl
  named_files (k ∷ ks) = ap (λ (ns : List (List ℕ)). capture_name out k ∷ ns) (named_files ks)

  -- the captures are held, behind the six other files
  six_on : AreHeld (made_files n out) (map (capture_name out) (numbers 16))
  six_on =
      all_there _ _ _ (all_there _ _ _ (all_there _ _ _ (all_there _ _ _ (all_there _ _ _ (all_there _ _ _
      (numbered_held (capture_name out) (λ k. capture k (packets n)) (numbers 16)))))))

  held_captures : AreHeld (made_files n out) (map (λ x. x.file) c.captures)
  held_captures = subst (AreHeld (made_files n out)) (named_files (numbers 16)) six_on

  -- the case file says the made case
  case_is : (d : Data) → (value_course name).gives f d → d ≡ case_data out
  unfolding and_then
  case_is d (bytes, (is, short), (utf8, said)) =
      let same : bytes ≡ case_text out = cc (first_held name (case_text out) _, is) in
      let again : read (case_text out) ≡ Some d = subst (λ (bs : List ℕ). read bs ≡ Some d) same said in
      cc (again, reads)

  base_closed : IsClosed f (base_course name c)
  unfolding base_course ground_course and_then
  base_closed m asks = elim asks [
    | inl a ↦ property_closed f (file_name out (codes "path.indus")) held_property.held m a
    | inr p ↦ elim p.2 [
      | inl a ↦ elim a [
        | inl b ↦ program_closed f c.program held_program.held m b
        | inr q ↦ elim q.2 [
          | inl b ↦ network_closed f c.network (cells q.0) held_network.held m b
          | inr r ↦ elim r.2 [ inl b ↦ absurd b | inr s ↦ absurd s.2 ]
        ]
      ]
      | inr q ↦ elim q.2 [ inl a ↦ absurd a | inr r ↦ absurd r.2 ]
    ]
  ]

  rest_closed : (b : Base) → IsClosed f (rest_course name c b)
  unfolding rest_course packets_course and_then
  rest_closed b m asks = elim asks [
    | inl a ↦ elim a [ inl d ↦ value_closed f (file_name out (codes "entries.json")) held_entries.held m d | inr p ↦ absurd p.2 ]
    | inr p ↦ elim p.2 [
      | inl a ↦ elim a [ inl d ↦ value_closed f (file_name out (codes "control.json")) held_control.held m d | inr q ↦ absurd q.2 ]
      | inr q ↦ elim q.2 [
        | inl a ↦ elim a [
          | inl d ↦ elim d [ inl e ↦ captures_closed f 67108864 [] (map (λ x. x.file) c.captures) (are_there f (made_files n out) _ refl held_captures) m e | inr r ↦ absurd r.2 ]
          | inr r ↦ absurd r.2
        ]
        | inr r ↦ elim r.2 [
          | inl a ↦ absurd a
          | inr s ↦ elim s.2 [ inl a ↦ absurd a | inr t ↦ absurd t.2 ]
        ]
      ]
    ]
  ]

  -- what is asked for behind a case
  abbrev Behind : List ℕ → Case → Type 0
  Behind m k = (and_then (base_course name k) (λ b. and_then (rest_course name k b) (λ r. give (task_from k b r)))).asks f m

  behind : (m : List ℕ) → Behind m c → IsThere f m
  unfolding and_then
  behind m asks = elim asks [
    | inl a ↦ base_closed m a
    | inr p ↦ elim p.2 [ inl a ↦ rest_closed p.0 m a | inr q ↦ absurd q.2 ]
  ]

  asks_for_what_is_made : IsClosed f (run_course name)
  unfolding run_course and_then
  asks_for_what_is_made m asks = elim asks [
    | inl a ↦ value_closed f name held_case.held m a
    | inr p ↦ elim p.2 [
      | inl a ↦ absurd a
      | inr q ↦ behind m (subst (Behind m) (case_is_made out q.0 (subst (λ (x : Data). case_of true x ≡ Ok q.0) (case_is p.0 p.1) q.1)) q.2)
    ]
  ]

  -- what is read of them, in a store that holds them and never fails, is what is to be done
  pub made_follows : {A : Type 0} (view : A → Task) (case : List ℕ) (held : Files) (s t u : StoreState) (r : Result A Stop) → case ≡ name → held ≡ f → s.files ≡ Some held → t.read_faults ≡ 0
      → Follows (run_course case) view s t r → Follows (load_course n out) view u u r
  made_follows view case held s t u r e h told sure follows =
      follows_within (run_course name) f s t (told ∙ ap Some h) sure asks_for_what_is_made view u r
      (subst (λ (x : List ℕ). Follows (run_course x) view s t r) e follows)
