-- Tests of ports.
use Rattle.std.proofs.Common.{◌≡◌, codes, ℕ, zero, suc, ◌%◌, ◌<◌, List, [], ◌∷◌, map, Bool, true, false, not, cond, ◌&&◌, ◌||◌, Option, Some, None, refl, sym, ap, ap₂, ◌∙◌}
use Rattle.std.specs.Prelude.{if◌then◌else◌, nat_eq}
use Rattle.std.specs.List.{AllByRecursion}
use Rattle.std.specs.Option.{option_map}
use Rattle.std.proofs.Math.Nat.{mod-eq_of_lt}
use Rattle.bit_values.specs.Bits.{Word, word}
use Rattle.bit_values.specs.Widths.{bit, holds, either_width, sound_width, cast_word}
use Rattle.p4_tree.specs.Tree.{Expr, flag, binary}
use Rattle.p4_tree.specs.declared.statement.Op.TheVariants.{Either}
use Rattle.p4_meaning.specs.Store.{Store, read}
use Rattle.p4_meaning.specs.Value.{value_of}
use Rattle.p4_meaning.specs.Statements.{Calls, Go, Run, Ended, after, application, tested_by, meaning_of, meaning_of_stmt}
use Rattle.p4_meaning.specs.Parsing.{first_fit}
use Rattle.p4_tree.specs.Tree.{Stmts}
use Rattle.monitor_laws.specs.Trees.{number, only_if}
use Rattle.linked_halves.specs.ParserStates.{link_cases}
use Rattle.linked_halves.specs.Statements.{port_test, joined_pairs, joined, any_of, is_port_of, none_of}
use Rattle.linked_halves.specs.Held.{is_in}

and_true : (b : Bool) → (b && true) ≡ b
and_true true = refl
and_true false = refl

or_false : (b : Bool) → (b || false) ≡ b
or_false true = refl
or_false false = refl

or_or : (a b c : Bool) → ((a || b) || c) ≡ (a || (b || c))
or_or true b c = refl
or_or false b c = refl

holds_cast : (b : Bool) → holds (cast_word 1 (bit b)) ≡ b
holds_cast true = refl
holds_cast false = refl

holds_bit : (b : Bool) → holds (bit b) ≡ b
holds_bit true = refl
holds_bit false = refl

-- the first case that fits the port of arrival
pub case_is : (links : List ℕ) (s : Store) (port : ℕ) → port < 512 → AllByRecursion (λ n. n < 512) links → first_fit (link_cases links) (word 9 port ∷ []) s ≡ Some (if is_in port links then codes "hydra_taken" else codes "hydra_start")
case_is [] s port lt low = refl
case_is (n ∷ ns) s port lt low =
    ap₂ (λ (b : Bool) (r : Option (List ℕ)). cond b (Some (codes "hydra_taken")) r)
    (and_true (nat_eq port (n % 512)) ∙ ap (nat_eq port) (mod-eq_of_lt low.0))
    (case_is ns s port lt low.1)
    ∙ out (nat_eq port n) (is_in port ns)
  where
    out : (a b : Bool) → cond a (Some (codes "hydra_taken")) (Some (if b then codes "hydra_taken" else codes "hydra_start")) ≡ Some (if a || b then codes "hydra_taken" else codes "hydra_start")
    out true b = refl
    out false b = refl

-- ---- tests that are joined

-- some of these hold
abbrev some_true : List Bool → Bool
some_true [] = false
some_true (b ∷ bs) = b || some_true bs

abbrev pairs_true : List Bool → List Bool
pairs_true [] = []
pairs_true (a ∷ []) = a ∷ []
pairs_true (a ∷ b ∷ bs) = (a || b) ∷ pairs_true bs

abbrev joined_true : ℕ → List Bool → List Bool
joined_true zero bs = bs
joined_true (suc n) bs = joined_true n (pairs_true bs)

some_pairs : (bs : List Bool) → some_true (pairs_true bs) ≡ some_true bs
some_pairs [] = refl
some_pairs (a ∷ []) = refl
some_pairs (a ∷ b ∷ bs) = or_or a b (some_true (pairs_true bs)) ∙ ap (λ c. a || (b || c)) (some_pairs bs)

some_joined : (n : ℕ) (bs : List Bool) → some_true (joined_true n bs) ≡ some_true bs
some_joined zero bs = refl
some_joined (suc n) bs = some_joined n (pairs_true bs) ∙ some_pairs bs

module _ (s : Store) where
  -- the tests have these outcomes, and apply no table
  abbrev Tests : List Expr → List Bool → Type 0
  Tests [] [] = Unit {0}
  Tests [] (b ∷ bs) = ⊥
  Tests (e ∷ es) [] = ⊥
  Tests (e ∷ es) (b ∷ bs) = (value_of e 1 s ≡ bit b) × (application e ≡ None) × Tests es bs

  either_is : (e f : Expr) (a b : Bool) → value_of e 1 s ≡ bit a → value_of f 1 s ≡ bit b → value_of (binary 0 Either e f) 1 s ≡ bit (a || b)
  either_is e f a b h k =
      ap₂ (λ (u v : Word). bit (holds (cast_word 1 u) || holds (cast_word 1 v))) h k
      ∙ ap₂ (λ (u v : Bool). bit (u || v)) (holds_cast a) (holds_cast b)

  tests_pairs : (es : List Expr) (bs : List Bool) → Tests es bs → Tests (joined_pairs es) (pairs_true bs)
  tests_pairs [] [] h = tt
  tests_pairs [] (b ∷ bs) h = absurd h
  tests_pairs (e ∷ es) [] h = absurd h
  tests_pairs (e ∷ []) (b ∷ []) h = h
  tests_pairs (e ∷ []) (b ∷ c ∷ bs) h = absurd h.2
  tests_pairs (e ∷ f ∷ es) (b ∷ []) h = absurd h.2
  tests_pairs (e ∷ f ∷ es) (b ∷ c ∷ bs) h = (either_is e f b c h.0 h.2.0, refl, tests_pairs es bs h.2.2)

  tests_joined : (n : ℕ) (es : List Expr) (bs : List Bool) → Tests es bs → Tests (joined n es) (joined_true n bs)
  tests_joined zero es bs h = h
  tests_joined (suc n) es bs h = tests_joined n (joined_pairs es) (pairs_true bs) (tests_pairs es bs h)

  any_is : (es : List Expr) (bs : List Bool) → Tests es bs → value_of (any_of es) 1 s ≡ bit (some_true bs)
  any_is [] [] h = refl
  any_is [] (b ∷ bs) h = absurd h
  any_is (e ∷ es) [] h = absurd h
  any_is (e ∷ []) (b ∷ []) h = h.0 ∙ ap bit (sym (or_false b))
  any_is (e ∷ []) (b ∷ c ∷ bs) h = absurd h.2
  any_is (e ∷ f ∷ es) (b ∷ []) h = absurd h.2
  any_is (e ∷ f ∷ es) (b ∷ c ∷ bs) h = either_is e (any_of (f ∷ es)) b (some_true (c ∷ bs)) h.0 (any_is (f ∷ es) (c ∷ bs) h.2)

  any_plain : (es : List Expr) (bs : List Bool) → Tests es bs → application (any_of es) ≡ None
  any_plain [] bs h = refl
  any_plain (e ∷ es) [] h = absurd h
  any_plain (e ∷ []) (b ∷ bs) h = h.1
  any_plain (e ∷ f ∷ es) (b ∷ bs) h = refl

module _ (p : List (List ℕ)) (s : Store) (port : ℕ) (e : read s p ≡ word 9 port) (lt : port < 512) where
  port_tests : (links : List ℕ) → AllByRecursion (λ n. n < 512) links → Tests s (map (port_test p) links) (map (nat_eq port) links)
  port_tests [] low = tt
  port_tests (n ∷ ns) low =
      let same : value_of (port_test p n) 1 s ≡ bit (nat_eq port n) =
      ap (λ (u : Word). bit (nat_eq (cast_word (sound_width (either_width u.width 0)) u).value (cast_word (sound_width (either_width u.width 0)) (value_of (number 0 n) (either_width u.width 0) s)).value)) e
      ∙ ap₂ (λ (a b : ℕ). bit (nat_eq a b)) (mod-eq_of_lt lt) (ap (λ m. m % 512) (mod-eq_of_lt low.0) ∙ mod-eq_of_lt low.0) in
      (same, refl, port_tests ns low.1)

  some_is : (links : List ℕ) → some_true (map (nat_eq port) links) ≡ is_in port links
  some_is [] = refl
  some_is (n ∷ ns) = ap (λ b. nat_eq port n || b) (some_is ns)

  -- the test of ports
  pub one_of_is : (links : List ℕ) → AllByRecursion (λ n. n < 512) links → value_of (is_port_of p links) 1 s ≡ bit (is_in port links)
  one_of_is links low =
      any_is s (joined 9 (map (port_test p) links)) (joined_true 9 (map (nat_eq port) links)) (tests_joined s 9 (map (port_test p) links) (map (nat_eq port) links) (port_tests links low))
      ∙ ap bit (some_joined 9 (map (nat_eq port) links) ∙ some_is links)

  -- and of none of them
  pub none_of_is : (links : List ℕ) → AllByRecursion (λ n. n < 512) links → value_of (none_of p links) 1 s ≡ bit (not (is_in port links))
  none_of_is links low = ap (λ (w : Word). bit (not (holds w))) (one_of_is links low) ∙ ap (λ b. bit (not b)) (holds_bit (is_in port links))

-- what stands in a test that applies no table
pub tested_alone : (calls : Calls) (e : Expr) (ss : Stmts) (b : Run) → application e ≡ None → meaning_of_stmt calls (only_if e ss) b ≡ (if holds (value_of e 1 b.store) then meaning_of calls ss b else (b, Go))
tested_alone calls e ss b plain =
    ap (λ (o : Option (List ℕ × Bool)). after (tested_by calls o e b).flow (tested_by calls o e b).run (λ q. if (tested_by calls o e b).hit then meaning_of calls ss q else (q, Go))) plain

-- and in the test of ports
pub unless_port : (calls : Calls) (p : List (List ℕ)) (links : List ℕ) (ss : Stmts) (b : Run) (port : ℕ) → read b.store p ≡ word 9 port → port < 512 → AllByRecursion (λ n. n < 512) links → meaning_of_stmt calls (only_if (none_of p links) ss) b ≡ (if is_in port links then (b, Go) else meaning_of calls ss b)
unless_port calls p links ss b port e lt low =
    let tests = tests_joined b.store 9 (map (port_test p) links) (map (nat_eq port) links) (port_tests p b.store port e lt links low) in
    let plain = any_plain b.store (joined 9 (map (port_test p) links)) (joined_true 9 (map (nat_eq port) links)) tests in
    tested_alone calls (none_of p links) ss b (ap (option_map (λ (t : List ℕ × Bool). (t.0, not t.1))) plain)
    ∙ ap (λ w. if holds w then meaning_of calls ss b else (b, Go)) (none_of_is p b.store port e lt links low)
    ∙ out (is_in port links) (meaning_of calls ss b) (b, Go)
  where
    out : (t : Bool) (x y : Ended) → (if holds (bit (not t)) then x else y) ≡ (if t then y else x)
    out true x y = refl
    out false x y = refl

-- ---- trees of tests

-- what changes no test of a port changes no tests that are joined
module _ (change : Expr → Expr) (both : (a b : Expr) → change (binary 0 Either a b) ≡ binary 0 Either (change a) (change b)) (none : change (flag 0 false) ≡ flag 0 false) where
  pairs_changed : (es : List Expr) → map change (joined_pairs es) ≡ joined_pairs (map change es)
  pairs_changed [] = refl
  pairs_changed (a ∷ []) = refl
  pairs_changed (a ∷ b ∷ es) = ap₂ (λ (x : Expr) (l : List Expr). x ∷ l) (both a b) (pairs_changed es)

  joined_changed : (n : ℕ) (es : List Expr) → map change (joined n es) ≡ joined n (map change es)
  joined_changed zero es = refl
  joined_changed (suc n) es = joined_changed n (joined_pairs es) ∙ ap (joined n) (pairs_changed es)

  any_changed : (es : List Expr) → change (any_of es) ≡ any_of (map change es)
  any_changed [] = none
  any_changed (a ∷ []) = refl
  any_changed (a ∷ b ∷ es) = both a (any_of (b ∷ es)) ∙ ap (binary 0 Either (change a)) (any_changed (b ∷ es))

  tests_changed : (p : List (List ℕ)) → ((n : ℕ) → change (port_test p n) ≡ port_test p n) → (ports : List ℕ) → map change (map (port_test p) ports) ≡ map (port_test p) ports
  tests_changed p same [] = refl
  tests_changed p same (n ∷ ns) = ap₂ (λ (x : Expr) (l : List Expr). x ∷ l) (same n) (tests_changed p same ns)

  pub port_of_changed : (p : List (List ℕ)) → ((n : ℕ) → change (port_test p n) ≡ port_test p n) → (ports : List ℕ) → change (is_port_of p ports) ≡ is_port_of p ports
  port_of_changed p same ports = any_changed (joined 9 (map (port_test p) ports)) ∙ ap any_of (joined_changed 9 (map (port_test p) ports) ∙ ap (joined 9) (tests_changed p same ports))
