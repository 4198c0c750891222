-- One packet more.
use Rattle.std.proofs.Common.{◌≡◌, ℕ, ◌+◌, List, [], ◌∷◌, ◌++◌, map, sym, ap, ◌∙◌, add-one}
use Rattle.load_maker.specs.Numbers.{numbers}
use Rattle.load_maker.specs.Draws.{next_state, packet, state_after}
use Rattle.load_maker.specs.declared.packet.Packet.{Packet}
use Rattle.load_maker.proofs.MoreNumbers.{map_more}

pub state_more : (x k s : ℕ) → s ≡ state_after x k → next_state (next_state (next_state s)) ≡ state_after x (k + 1)
unfolding state_after
state_more x k s e = ap (λ y. next_state (next_state (next_state y))) e ∙ ap (state_after x) (sym (add-one k))

pub packet_more : (x k s : ℕ) (ps : List Packet) (p : Packet) → s ≡ state_after x k
    → ps ≡ map (λ i. packet i (state_after x i)) (numbers k) → p ≡ packet k s
    → ps ++ p ∷ [] ≡ map (λ i. packet i (state_after x i)) (numbers (k + 1))
packet_more x k s ps p e drawn is =
    ap (λ qs. qs ++ p ∷ []) drawn
    ∙ ap (λ q. map (λ i. packet i (state_after x i)) (numbers k) ++ q ∷ []) (is ∙ ap (packet k) e)
    ∙ sym (map_more (λ i. packet i (state_after x i)) k)
