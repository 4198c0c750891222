-- The switch whose tables hold a set of bytes, and its map.
use Rattle.std.proofs.Common.{◌≡◌, ℕ, zero, suc, ◌≤◌, List, [], ◌∷◌, length, get_or, Some, refl, subst, arith}
use Rattle.std.specs.Prelude.{slice_get}
use Rattle.p4_meaning.specs.Parts.{parts_of}
use Rattle.p4_scopes.specs.Scopes.{declare}
use Rattle.p4_tables.specs.State.{Held, entries_in}
use Rattle.p4_tables.specs.Programs.{state_before}
use Rattle.indus_tree.specs.State.{Contents}
use Rattle.control_maps.specs.Numbers.{HasShape, keys_of, AreUnequal, IsMapOf, IsSettable, load_in, set_in}
use Rattle.path_runner.specs.Nets.{Switch}
use Rattle.path_runner.specs.Conditions.{AreMapped}
use Rattle.network_tests.specs.Guarding.{bytes, guarding, guards, guard_switch, set_of}

-- the tables where the set has 7
abbrev pub seven_held : List Held
seven_held = load_in guards (λ v. set_of (7 ∷ [])) (state_before guarding)

is_map : IsMapOf (parts_of guarding) seven_held guards
unfolding state_before declare
is_map = (
  record { long = refl; there = omega arith; named = refl; form = record { keys = refl; first = refl; fixed = refl }; misses = λ m. refl },
  (((λ e. absurd (omega (arith, e))), tt), (record { long = refl; there = omega arith; named = refl; form = record { keys = refl; first = refl; fixed = refl }; misses = λ m. refl }, (tt, tt))),
)

pub is_mapped : AreMapped (guard_switch (set_of (7 ∷ [])) ∷ []) (guards ∷ [])
is_mapped zero x at = let is : guard_switch (set_of (7 ∷ [])) ≡ x = (cc) in subst (λ (y : Switch). IsMapOf (parts_of y.program) y.tables guards) is is_map
is_mapped (suc k) x at = absurd (cc)

-- both tables take contents of the set's shape
both_take : (c : Contents) → HasShape bytes c → AreUnequal (keys_of c) → entries_in (set_in guards 0 c seven_held) ≤ 65536 → IsSettable seven_held guards 0 c
both_take c shape keys few = ((λ own. record { shape = shape; keys = keys; few = few }), ((λ own. record { shape = shape; keys = keys; few = few }), tt))

pub takes_two : IsSettable seven_held guards 0 (set_of (8 ∷ 9 ∷ []))
unfolding state_before
takes_two = both_take (set_of (8 ∷ 9 ∷ [])) (refl, (refl, tt)) ((refl, tt), (tt, tt)) (omega arith)

pub takes_same : IsSettable seven_held guards 0 (set_of (7 ∷ []))
unfolding state_before
takes_same = both_take (set_of (7 ∷ [])) (refl, tt) (tt, tt) (omega arith)
