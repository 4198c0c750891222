-- The ports of a switch among both ends of each link.
use Rattle.std.proofs.Common.{◌≡◌, ℕ, ◌<◌, ◌^◌, Bool, true, false, List, [], ◌∷◌, ◌++◌, All, refl, sym, ap, subst, ◌∙◌, arith}
use Rattle.std.specs.Prelude.{nat_eq, if◌then◌else◌}
use Rattle.std.proofs.lemmas.List.{append_assoc}
use Rattle.std.proofs.lemmas.Bool.{eqb-true, eq-eqb}
use Rattle.std.proofs.lemmas.List.Elements.{All-nil, All-cons, All-head, All-tail}
use Rattle.network_run.specs.Network.{Link, IsLinkOf}
use Rattle.network_file.specs.Network.{Port, one_end, other_end}
use Rattle.network_file.specs.Wiring.{linked_ports, wiring_of}
use Rattle.network_file.specs.Ends.{ends_of, links_in, IsNetwork}

-- of the first of two ends, where it is the switch's
abbrev pub here : ℕ → Port → List ℕ
here s e = if nat_eq s e.0 then e.1 ∷ [] else []

abbrev pub near : List (Port × Port) → ℕ → List ℕ
near [] s = []
near (e ∷ es) s = here s e.0 ++ near es s

pub near_ends : (ls : List Link) (s : ℕ) → near (ends_of ls) s ≡ linked_ports ls s
near_ends [] s = refl
near_ends (l ∷ ls) s = ap (λ ps. here s (l.one, l.one_port) ++ (here s (l.other, l.other_port) ++ ps)) (near_ends ls s)

abbrev pub IsLow : Port × Port → Type 0
IsLow e = e.0.1 < 2 ^ 16

low : (w : List (List ℕ)) (all : List Link) (ls : List Link) → All (IsLinkOf (wiring_of (record { names = w; links = all }))) ls → All IsLow (ends_of ls)
low w all [] h = All-nil IsLow
low w all (l ∷ ls) h =
    let P = IsLinkOf (wiring_of (record { names = w; links = all })) in
    let is = All-head P l ls h in
    let one = is.one_port in
    let other = is.other_port in
    let a : l.one_port < 2 ^ 16 = omega (arith, one) in
    let b : l.other_port < 2 ^ 16 = omega (arith, other) in
    All-cons IsLow (one_end l, other_end l) ((other_end l, one_end l) ∷ ends_of ls) a
    (All-cons IsLow (other_end l, one_end l) (ends_of ls) b (low w all ls (All-tail P l ls h)))

pub all_low : (names : List (List ℕ)) (ends : List (Port × Port)) → IsNetwork names ends → All IsLow ends
all_low names ends is = subst (All IsLow) (sym is.paired) (low names (links_in ends) (links_in ends) is.wiring)

pub near_network : (names : List (List ℕ)) (ends : List (Port × Port)) (s : ℕ) → IsNetwork names ends → near ends s ≡ linked_ports (links_in ends) s
near_network names ends s is = ap (λ (es : List (Port × Port)). near es s) is.paired ∙ near_ends (links_in ends) s

-- one end more
pub next_here : (s : ℕ) (e f : Port) (ps : List ℕ) (es : List (Port × Port)) → e.0 ≡ s → (ps ++ e.1 ∷ []) ++ near es s ≡ ps ++ near ((e, f) ∷ es) s
next_here s e f ps es is =
    append_assoc ps (e.1 ∷ []) (near es s) ∙ ap (λ (b : Bool). ps ++ ((if b then e.1 ∷ [] else []) ++ near es s)) (sym (eq-eqb s e.0 (sym is)))

pub next_other : (s : ℕ) (e f : Port) (ps : List ℕ) (es : List (Port × Port)) → (e.0 ≡ s → ⊥) → ps ++ near es s ≡ ps ++ near ((e, f) ∷ es) s
next_other s e f ps es other =
    ap (λ (b : Bool). ps ++ ((if b then e.1 ∷ [] else []) ++ near es s)) (sym (differ (nat_eq s e.0) refl))
  where
    differ : (b : Bool) → nat_eq s e.0 ≡ b → nat_eq s e.0 ≡ false
    differ false q = q
    differ true q = absurd (other (sym (eqb-true s e.0 q)))
