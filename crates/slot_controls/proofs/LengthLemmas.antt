-- What runs keeps of how many headers it is known whether they are valid.
use Rattle.std.proofs.Common.{◌≡◌, ℕ, zero, suc, length, length-set, List, [], ◌∷◌, Bool, true, false, if◌then◌else◌, refl, ap, ◌∙◌, nat_eq}
use Rattle.std.specs.Prelude.{bit_and}
use Rattle.bit_values.specs.Bits.{Word}
use Rattle.p4_meaning.specs.Statements.{Flow, Go, Return, Exit, cell_at}
use Rattle.slot_terms.specs.States.{State}
use Rattle.slot_terms.specs.Terms.{Term, eval, valid_at}
use Rattle.slot_statements.specs.Codes as codes
use Rattle.slot_statements.specs.Codes.{Code, Codes, writes, put, behind, exec, exec_all}
use Rattle.slot_statements.specs.Actions.{bind, bind_words}
use Rattle.slot_statements.specs.Tables.{NumberedOutcome}
use Rattle.slot_packets.specs.Validity.{with_validity}
use Rattle.slot_controls.specs.Steps as steps
use Rattle.slot_controls.specs.Steps.{ActionSlots, Step, Steps, plain, group, branch, calls, applies, makes, done, next, SlotRun, reads, tells, verifies, updates, in_state, run_behind, numbered_cells, words_at, words_checksum, position, bound_for, chosen_run, outcome_for, is_asked, run, run_all, run_nth}

behind_valid : (f : Flow) (s z : State) (more : State → State × Flow) → ((y : State) → (more y).0.valid ≡ y.valid) → s.valid ≡ z.valid → (behind f s more).0.valid ≡ z.valid
behind_valid Go s z more h e = h s ∙ e
behind_valid Return s z more h e = e
behind_valid Exit s z more h e = e

either_valid : (b : Bool) (s : State) (x y : State × Flow) → x.0.valid ≡ s.valid → y.0.valid ≡ s.valid → (if b then x else y).0.valid ≡ s.valid
either_valid true s x y f g = f
either_valid false s x y f g = g

put_valid : (b : Bool) (s : State) (i v : ℕ) → (if b then put s i v else s).valid ≡ s.valid
put_valid true s i v = refl
put_valid false s i v = refl

pub bind_valid : (is : List ℕ) (ts : List Term) (s : State) → (bind is ts s).valid ≡ s.valid
bind_valid [] ts s = refl
bind_valid (i ∷ is) [] s = refl
bind_valid (i ∷ is) (t ∷ ts) s = bind_valid is ts (put s i (eval s.slots s.valid t))

pub words_valid : (ps : List (ℕ × ℕ)) (ws : List Word) (s : State) → (bind_words ps ws s).valid ≡ s.valid
words_valid [] ws s = refl
words_valid (p ∷ ps) [] s = words_valid ps [] (put s p.0 0)
words_valid (p ∷ ps) (w ∷ ws) s = words_valid ps ws (put s p.0 (bit_and w.value p.1))

mutual
  exec_valid : (c : Code) (s : State) → (exec c s).0.valid ≡ s.valid
  exec_valid codes.skip s = refl
  exec_valid (codes.group cs) s = exec_all_valid cs s
  exec_valid (codes.set i h t) s = put_valid (writes h s.valid) s i (eval s.slots s.valid t)
  exec_valid (codes.branch t a b) s = either_valid (nat_eq (eval s.slots s.valid t) 1) s (exec a s) (exec b s) (exec_valid a s) (exec_valid b s)
  exec_valid codes.returns s = refl
  exec_valid codes.exits s = refl

  exec_all_valid : (cs : Codes) (s : State) → (exec_all cs s).0.valid ≡ s.valid
  exec_all_valid codes.done s = refl
  exec_all_valid (codes.next c cs) s = behind_valid (exec c s).1 (exec c s).0 s (exec_all cs) (λ y. exec_all_valid cs y) (exec_valid c s)

bound_valid : (as' : List ActionSlots) (n : ℕ) (ws : List Word) (s : State) → (bound_for as' n ws s).valid ≡ s.valid
bound_valid [] n ws s = refl
bound_valid (a ∷ as') n ws s = go (nat_eq a.number n) (bound_valid as' n ws s)
  where
    go : (b : Bool) → (bound_for as' n ws s).valid ≡ s.valid → (if b then bind_words a.params ws s else bound_for as' n ws s).valid ≡ s.valid
    go true e = words_valid a.params ws s
    go false e = e

validity_length : (is b : Bool) (n i k : ℕ) (s : State) → length (with_validity is b n i k s).valid ≡ length s.valid
validity_length true true n i k s = refl
validity_length true false n i k s = length-set s.valid n false
validity_length false true n i k s = length-set s.valid n true
validity_length false false n i k s = refl

verified_valid : (b : Bool) (s : State) (i : ℕ) → (if b then s else put s i 1).valid ≡ s.valid
verified_valid true s i = refl
verified_valid false s i = refl

behind_length : (f : Flow) (u z : SlotRun) (more : SlotRun → SlotRun × Flow) → ((y : SlotRun) → length (more y).0.state.valid ≡ length y.state.valid) → length u.state.valid ≡ length z.state.valid
    → length (run_behind f u more).0.state.valid ≡ length z.state.valid
behind_length Go u z more h e = h u ∙ e
behind_length Return u z more h e = e
behind_length Exit u z more h e = e

either_length : (b : Bool) (u : SlotRun) (x y : SlotRun × Flow) → length x.0.state.valid ≡ length u.state.valid → length y.0.state.valid ≡ length u.state.valid → length (if b then x else y).0.state.valid ≡ length u.state.valid
either_length true u x y f g = f
either_length false u x y f g = g

module _ (chosen : ℕ → List Word → NumberedOutcome) where
  mutual
    pub run_length : (c : Step) (u : SlotRun) → length (run chosen c u).0.state.valid ≡ length u.state.valid
    run_length (plain c) u = ap length (exec_valid c u.state)
    run_length (group cs) u = run_all_length cs u
    run_length (branch t a b) u = either_length (nat_eq (eval u.state.slots u.state.valid t) 1) u (run chosen a u) (run chosen b u) (run_length a u) (run_length b u)
    run_length (calls is ts body) u = run_all_length body (in_state u (bind is ts u.state)) ∙ ap length (bind_valid is ts u.state)
    run_length (applies bs x asked a b) u =
        let p : NumberedOutcome = outcome_for chosen x u.state in
        behind_length (chosen_run (run_nth chosen bs) x.actions p u).1 (chosen_run (run_nth chosen bs) x.actions p u).0 u (λ z. if is_asked asked p.hit then run chosen a z else run chosen b z)
        (λ y. either_length (is_asked asked p.hit) y (run chosen a y) (run chosen b y) (run_length a y) (run_length b y))
        (run_nth_length bs (position x.actions p.action) (in_state u (bound_for x.actions p.action p.args u.state)) ∙ ap length (bound_valid x.actions p.action p.args u.state))
    run_length (makes n h b) u = validity_length (valid_at u.state.valid n) b n h.first h.count u.state
    run_length (reads n t i) u = ap length (put_valid (writes t.header u.state.valid) u.state t.slot (bit_and (cell_at (numbered_cells u.cells n) (eval u.state.slots u.state.valid i)).value t.mask))
    run_length (steps.writes n i v) u = refl
    run_length (tells n ts) u = refl
    run_length (verifies ts f i) u = ap length (verified_valid (nat_eq (eval u.state.slots u.state.valid f) (words_checksum (words_at u.state ts))) u.state i)
    run_length (updates ts t) u = ap length (put_valid (writes t.header u.state.valid) u.state t.slot (bit_and (words_checksum (words_at u.state ts)) t.mask))

    pub run_all_length : (cs : Steps) (u : SlotRun) → length (run_all chosen cs u).0.state.valid ≡ length u.state.valid
    run_all_length done u = refl
    run_all_length (next c cs) u = behind_length (run chosen c u).1 (run chosen c u).0 u (run_all chosen cs) (λ y. run_all_length cs y) (run_length c u)

    pub run_nth_length : (cs : Steps) (i : ℕ) (u : SlotRun) → length (run_nth chosen cs i u).0.state.valid ≡ length u.state.valid
    run_nth_length done i u = refl
    run_nth_length (next c cs) zero u = run_length c u
    run_nth_length (next c cs) (suc i) u = run_nth_length cs i u

  -- the action that a table chooses
  pub chosen_length : (bs : Steps) (as' : List ActionSlots) (p : NumberedOutcome) (u : SlotRun) → length (chosen_run (run_nth chosen bs) as' p u).0.state.valid ≡ length u.state.valid
  chosen_length bs as' p u = run_nth_length bs (position as' p.action) (in_state u (bound_for as' p.action p.args u.state)) ∙ ap length (bound_valid as' p.action p.args u.state)
