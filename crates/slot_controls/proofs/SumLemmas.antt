-- Digests and checksums.
use Rattle.std.proofs.Common.{◌≡◌, ℕ, List, [], ◌∷◌, ◌++◌, map, take, Bool, true, false, if◌then◌else◌, nat_eq, Some, refl, sym, ap, ◌∙◌, subst, arith}
use Rattle.std.specs.Prelude.{slice_set}
use Rattle.bit_values.specs.Bits.{word, IsWord}
use Rattle.bit_values.specs.Widths.{holds}
use Rattle.p4_tree.specs.Tree.{Expr, path}
use Rattle.p4_meaning.specs.Standard.{checksum_error, is_assignable}
use Rattle.p4_meaning.specs.Store.{Store, set_value}
use Rattle.p4_meaning.specs.Value.{value_of}
use Rattle.p4_meaning.specs.Checksum.{list_checksum}
use Rattle.p4_meaning.specs.Statements as meaning
use Rattle.p4_meaning.specs.Statements.{Digest, Flow, Go, Run, Ended, in_store, assigned, summed}
use Rattle.slot_terms.specs.Terms.{eval}
use Rattle.slot_terms.specs.Typed.{Typed}
use Rattle.slot_terms.specs.Places.{Place, Places, place_at, Follows, IsLaid, Means}
use Rattle.slot_terms.specs.States.{State}
use Rattle.slot_statements.specs.Codes as codes
use Rattle.slot_statements.specs.Codes.{put}
use Rattle.slot_statements.proofs.StoreLemmas.{set_follows}
use Rattle.slot_controls.specs.Steps.{SlotRun, plain, branch, tells, verifies, updates, in_state, stored, words_at, words_checksum, verified}
use Rattle.slot_controls.specs.Callees.{Callees}
use Rattle.slot_controls.specs.StepRuns.{HoldsAlike, StepEnds, DoesAct, MeanAll, target_at}
use Rattle.slot_controls.proofs.ActLemmas.{still_alike, nothing_ends}
use Rattle.slot_controls.proofs.WordLemmas.{stored_follows, none_assigned, number_is, words_are}

pub tells_do : (k : Callees) (m : Places) (n : ℕ) (es : List Expr) (ts : List Typed) → MeanAll m es ts → DoesAct k m (tells n ts) (meaning.tells n es)
tells_do k m n es ts mean base held chosen u r stands =
    let words : words_at u.state ts ≡ map (λ e. value_of e 0 r.store) es = words_are m es ts u.state r.store mean stands.follows in
    record {
      ends = record { flow = refl; kept = stands.follows; grown = λ g. stands.follows };
      beside = record {
        cells = stands.beside.cells;
        digests = ap (λ (ds : List Digest). ds ++ record { receiver = n; values = take 9 (words_at u.state ts) } ∷ []) stands.beside.digests ∙ ap (λ ws. r.digests ++ record { receiver = n; values = take 9 ws } ∷ []) words;
      };
    }

-- ---- checksums

-- the checksum of the words that terms give
sum_is : (m : Places) (es : List Expr) (ts : List Typed) (s : State) (y : Store) → MeanAll m es ts → Follows m s.slots s.valid y → words_checksum (words_at s ts) ≡ list_checksum es y
sum_is m es ts s y mean follows = ap words_checksum (words_are m es ts s y mean follows)

verify_at : (m : Places) (r : Place) (s : State) (y : Store) (b : Bool) → IsLaid m → place_at m.rows checksum_error ≡ Some r → r.width ≡ 1 → Follows m s.slots s.valid y
    → Follows m (if b then s else put s r.slot 1).slots (if b then s else put s r.slot 1).valid (if b then y else set_value y checksum_error (word 1 1))
verify_at m r s y true laid is one follows = follows
verify_at m r s y false laid is one follows =
    let word_is : IsWord (word r.width 1) = subst (λ w. IsWord (word w 1)) (sym one) (record { wide = omega arith; narrow = omega arith; in_range = omega arith }) in
    subst (λ w. Follows m (slice_set s.slots r.slot 1) s.valid (set_value y checksum_error (word w 1))) one (set_follows m s.slots s.valid y checksum_error r 1 laid follows is word_is)

verified_follows : (m : Places) (es : List Expr) (p : List (List ℕ)) (r : Place) (f : Typed) (ts : List Typed) (s : State) (y : Store) → IsLaid m → place_at m.rows checksum_error ≡ Some r → r.width ≡ 1 → MeanAll m es ts → Means m (path 0 p) 16 f → Follows m s.slots s.valid y
    → (let z : State = verified (eval s.slots s.valid f.term) (words_checksum (words_at s ts)) r.slot s in Follows m z.slots z.valid (summed true es p y))
verified_follows m es p r f ts s y laid is one mean field follows =
    let n : ℕ = eval s.slots s.valid f.term in
    let w : ℕ = words_checksum (words_at s ts) in
    let z : State = verified n w r.slot s in
    let same : nat_eq n w ≡ nat_eq (value_of (path 0 p) 16 y).value (list_checksum es y) = ap (λ a. nat_eq a w) (number_is m (path 0 p) 16 f s y field follows) ∙ ap (nat_eq (value_of (path 0 p) 16 y).value) (sum_is m es ts s y mean follows) in
    subst (λ b. Follows m z.slots z.valid (if b then y else set_value y checksum_error (word 1 1))) same (verify_at m r s y (nat_eq n w) laid is one follows)

updated_follows : (m : Places) (es : List Expr) (p : List (List ℕ)) (r : Place) (ts : List Typed) (s : State) (y : Store) → IsLaid m → place_at m.rows p ≡ Some r → is_assignable p ≡ true → MeanAll m es ts → Follows m s.slots s.valid y
    → (let z : State = stored (target_at r) (words_checksum (words_at s ts)) s in Follows m z.slots z.valid (summed false es p y))
updated_follows m es p r ts s y laid is may mean follows =
    let w : ℕ = words_checksum (words_at s ts) in
    let z : State = stored (target_at r) w s in
    subst (λ n. Follows m z.slots z.valid (assigned y p (word 16 n))) (sum_is m es ts s y mean follows) (stored_follows m p r laid is may s y (word 16 w) follows)

-- what a checksum's step does, where its condition holds
if_holds : (k : Callees) (m : Places) (b : Bool) (u : SlotRun) (r : Run) (z : State) (y : Store) → Follows m u.state.slots u.state.valid r.store → Follows m z.slots z.valid y → HoldsAlike k u r
    → StepEnds k m m (if b then (in_state u z, Go) else (u, Go)) ((if b then in_store r y else r), Go)
if_holds k m true u r z y follows after beside = record { ends = record { flow = refl; kept = after; grown = λ g. after }; beside = still_alike k u (in_state u z) r (in_store r y) beside refl refl (record { cells = refl; digests = refl }) }
if_holds k m false u r z y follows after beside = nothing_ends k m u r follows beside

-- the condition's term tests what the condition does
test_is : (m : Places) (c : Expr) (t : Typed) (s : State) (y : Store) → Means m c 1 t → Follows m s.slots s.valid y → nat_eq (eval s.slots s.valid t.term) 1 ≡ holds (value_of c 1 y)
test_is m c t s y means follows = ap (λ n. nat_eq n 1) (number_is m c 1 t s y means follows)

pub verifies_do :
    (k : Callees) (m : Places) (c : Expr) (es : List Expr) (p : List (List ℕ)) (r : Place) (t f : Typed) (ts : List Typed) → IsLaid m → place_at m.rows checksum_error ≡ Some r → r.width ≡ 1
    → Means m c 1 t → MeanAll m es ts → Means m (path 0 p) 16 f → DoesAct k m (branch t.term (verifies ts f.term r.slot) (plain codes.skip)) (meaning.sums true c es p)
verifies_do k m c es p r t f ts laid is one test mean field base held chosen u y stands =
    let s : State = u.state in
    let z : State = verified (eval s.slots s.valid f.term) (words_checksum (words_at s ts)) r.slot s in
    let b : Bool = nat_eq (eval s.slots s.valid t.term) 1 in
    subst (λ h. StepEnds k m m (if b then (in_state u z, Go) else (u, Go)) ((if h then in_store y (summed true es p y.store) else y), Go)) (test_is m c t s y.store test stands.follows)
    (if_holds k m b u y z (summed true es p y.store) stands.follows (verified_follows m es p r f ts s y.store laid is one mean field stands.follows) stands.beside)

pub updates_do :
    (k : Callees) (m : Places) (c : Expr) (es : List Expr) (p : List (List ℕ)) (r : Place) (t : Typed) (ts : List Typed) → IsLaid m → place_at m.rows p ≡ Some r → is_assignable p ≡ true
    → Means m c 1 t → MeanAll m es ts → DoesAct k m (branch t.term (updates ts (target_at r)) (plain codes.skip)) (meaning.sums false c es p)
updates_do k m c es p r t ts laid is may test mean base held chosen u y stands =
    let s : State = u.state in
    let z : State = stored (target_at r) (words_checksum (words_at s ts)) s in
    let b : Bool = nat_eq (eval s.slots s.valid t.term) 1 in
    subst (λ h. StepEnds k m m (if b then (in_state u z, Go) else (u, Go)) ((if h then in_store y (summed false es p y.store) else y), Go)) (test_is m c t s y.store test stands.follows)
    (if_holds k m b u y z (summed false es p y.store) stands.follows (updated_follows m es p r ts s y.store laid is may mean stands.follows) stands.beside)

-- of what no statement may write
none_summed : (b : Bool) (r : Run) (y : Store) → y ≡ r.store → (if b then in_store r y else r) ≡ r
none_summed true r y e = ap (in_store r) e
none_summed false r y e = refl

pub updates_nowhere : (k : Callees) (m : Places) (c : Expr) (es : List Expr) (p : List (List ℕ)) → is_assignable p ≡ false → DoesAct k m (plain codes.skip) (meaning.sums false c es p)
updates_nowhere k m c es p not base held chosen u y stands =
    subst (λ z. StepEnds k m m (u, Go) (z, Go)) (sym (none_summed (holds (value_of c 1 y.store)) y (summed false es p y.store) (none_assigned y.store p (word 16 (list_checksum es y.store)) not)))
    (nothing_ends k m u y stands.follows stands.beside)
