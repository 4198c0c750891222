-- Captures enter by edge ports of switches that are there.
use Rattle.std.proofs.Common.{◌≡◌, ℕ, ◌<◌, ◌≤◌, List, [], length, Bool, true, false, Option, Some, None, Ok, Err, refl, subst, arith, nat_lt, ltb-false}
use Rattle.std.specs.Option.{option_map_or}
use Rattle.std.specs.List.{All}
use Rattle.std.specs.Str.{bytes_eq}
use Rattle.std.proofs.lemmas.List.Elements.{All-nil}
use Rattle.std.proofs.lemmas.List.Quantifiers.{position-Some}
use Rattle.network_run.specs.Network.{at_edge}
use Rattle.network_file.specs.Network.{Network, Port, number_of, last_port}
use Rattle.network_file.specs.Wiring.{wiring_of}
use Rattle.json_parts.proofs.TurnLemmas.{all_hold}
use Rattle.case_file.specs.Case.{Capture, capture_path}
use Rattle.network_course.specs.Places.{edge_port, place_at, places_of}
use Rattle.network_course.specs.declared.places.PlaceFault.TheVariants.{NoSuchSwitch, LinkedPort}

pub record IsPlace (n : Network) (p : Port) : Type 0 where
  pub switch : p.0 < length n.names
  pub port : p.1 ≤ last_port
  pub edge : at_edge (wiring_of n) p.0 p.1 ≡ true

module _ (n : Network) (i : ℕ) (p : Port) where
  tested : (switch port : ℕ) → switch < length n.names → (a b : Bool) → nat_lt last_port port ≡ a → at_edge (wiring_of n) switch port ≡ b → edge_port n i switch port ≡ Ok p → IsPlace n p
  tested switch port there true b high edge h =
      let e : edge_port n i switch port ≡ Err (LinkedPort (capture_path i)) = rw high refl in absurd cc
  tested switch port there false false high edge h =
      let e : edge_port n i switch port ≡ Err (LinkedPort (capture_path i)) = rw (high, edge) refl in absurd cc
  tested switch port there false true high edge h =
      let e : edge_port n i switch port ≡ Ok (switch, port) = rw (high, edge) refl in
      let is : (switch, port) ≡ p = cc in
      subst (IsPlace n) is (record { switch = there; port = omega (arith, ltb-false, high); edge = edge })

  found : (c : Capture) (s : Option ℕ) → number_of n.names c.switch ≡ s → option_map_or (λ switch. edge_port n i switch c.port) s (Err (NoSuchSwitch (capture_path i))) ≡ Ok p → IsPlace n p
  found c None is h = absurd cc
  found c (Some s) is h =
      let there = (position-Some (bytes_eq c.switch) n.names s [] is).0 in
      tested s c.port there (nat_lt last_port c.port) (at_edge (wiring_of n) s c.port) refl refl h

one_place : (n : Network) (i : ℕ) (c : Capture) (p : Port) → place_at n i c ≡ Ok p → IsPlace n p
unfolding place_at
one_place n i c p h = found n i p c (number_of n.names c.switch) refl h

pub are_places : (n : Network) (cs : List Capture) (ps : List Port) → places_of n cs ≡ Ok ps → All (IsPlace n) ps
are_places n cs ps h = all_hold (place_at n) (IsPlace n) (λ i c p. one_place n i c p) [] 0 cs ps (All-nil (IsPlace n)) h
