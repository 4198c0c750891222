-- The far end of a link has a link, and is a port of a switch of the network.
use Rattle.std.proofs.Common.{◌≡◌, ℕ, ◌<◌, List, [], ◌∷◌, Bool, true, false, ◌&&◌, Option, Some, refl, subst}
use Rattle.std.specs.Prelude.{◌==◌, if◌then◌else◌, is_none, All}
use Rattle.std.proofs.lemmas.List.Elements.{All-head, All-tail}
use Rattle.network_run.specs.Network.{Link, Wiring, far_end_among, far_end, IsLinkOf, IsWiring, port_count}
use Rattle.network_run.proofs.Numbers.{nat_eq_self}

-- what is known of the far end of a link
pub record FarEnd (net : Wiring) (links : List Link) (far : ℕ × ℕ) : Type 0 where
  pub linked : is_none (far_end_among links far.0 far.1) ≡ false
  pub known : far.0 < net.switches
  pub low : far.1 < port_count

either_some : (b c : Bool) (X Y : ℕ × ℕ) (F : Option (ℕ × ℕ)) → is_none F ≡ false → is_none (if b then Some X else (if c then Some Y else F)) ≡ false
either_some true c X Y F h = refl
either_some false true X Y F h = refl
either_some false false X Y F h = h

one_ends : (l : Link) (ls : List Link) → is_none (far_end_among (l ∷ ls) l.one l.one_port) ≡ false
one_ends l ls = rw (nat_eq_self l.one, nat_eq_self l.one_port)

other_ends : (l : Link) (ls : List Link) → is_none (far_end_among (l ∷ ls) l.other l.other_port) ≡ false
other_ends l ls =
    let P : Bool → Type 0 = λ b. is_none (if b then Some (l.other, l.other_port) else (if l.other == l.other && l.other_port == l.other_port then Some (l.one, l.one_port) else far_end_among ls l.other l.other_port)) ≡ false in
    let go : (b : Bool) → P b = λ b. elim b as P [ true ↦ refl | false ↦ rw (nat_eq_self l.other, nat_eq_self l.other_port) ] in
    go (l.other == l.one && l.other_port == l.one_port)

far_ends : (net : Wiring) (ls : List Link) (s port : ℕ) (far : ℕ × ℕ) → All (IsLinkOf net) ls → far_end_among ls s port ≡ Some far → FarEnd net ls far
far_ends net [] s port far h e = absurd (cc)
far_ends net (l ∷ ls) s port far h e =
    pick (All-head (IsLinkOf net) l ls h) (s == l.one && port == l.one_port) (s == l.other && port == l.other_port) e (λ q. far_ends net ls s port far (All-tail (IsLinkOf net) l ls h) q)
  where
    pick : IsLinkOf net l → (a b : Bool) → (if a then Some (l.other, l.other_port) else (if b then Some (l.one, l.one_port) else far_end_among ls s port)) ≡ Some far → (far_end_among ls s port ≡ Some far → FarEnd net ls far) → FarEnd net (l ∷ ls) far
    pick is true b e more =
        let q : (l.other, l.other_port) ≡ far = (cc) in
        subst (FarEnd net (l ∷ ls)) q (record { linked = other_ends l ls; known = is.other; low = is.other_port })
    pick is false true e more =
        let q : (l.one, l.one_port) ≡ far = (cc) in
        subst (FarEnd net (l ∷ ls)) q (record { linked = one_ends l ls; known = is.one; low = is.one_port })
    pick is false false e more =
        let there = more e in
        record {
          linked = either_some (far.0 == l.one && far.1 == l.one_port) (far.0 == l.other && far.1 == l.other_port) (l.other, l.other_port) (l.one, l.one_port) (far_end_among ls far.0 far.1) there.linked;
          known = there.known;
          low = there.low;
        }

-- what is known of the far end of a port of a network
pub far_end_is : (net : Wiring) → IsWiring net → (s port : ℕ) (far : ℕ × ℕ) → far_end net s port ≡ Some far → FarEnd net net.links far
far_end_is net is s port far e = far_ends net net.links s port far is e
