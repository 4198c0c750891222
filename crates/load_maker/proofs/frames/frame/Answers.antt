use Rattle.std.proofs.Common.{rules, ◌≡◌, List, ℕ, [], ◌∷◌, ◌++◌, ◌∙◌, ap, replicate, append_assoc}
use Rattle.load_maker.specs.Fabric.{hardware_bytes}
use Rattle.load_maker.specs.Frames.{frame, ipv4_header}
use Rattle.load_maker.proofs.frames.frame.Goals as goal

-- five parts, one behind the other
five : (a b d e f o o1 o2 o3 o4 o5 : List ℕ) → o ≡ [] → o1 ≡ o ++ a → o2 ≡ o1 ++ b → o3 ≡ o2 ++ d → o4 ≡ o3 ++ e → o5 ≡ o4 ++ f
    → o5 ≡ a ++ (b ++ (d ++ (e ++ f)))
five a b d e f o o1 o2 o3 o4 o5 z p q r s t = rw (t, s, r, q, p, z) (simp append_assoc)

pub returns-clause-bytes : goal.returns-clause-bytes
unfolding frame
returns-clause-bytes c =
    let p = c.args.packet.now in
    let zeros : c.deref.result.now ≡ replicate p.length 0 = search rules in
    let header : c.ipv4_header.result ≡ ipv4_header p = c.ipv4_header.ensures in
    let to : c.hardware_bytes.result ≡ hardware_bytes p.destination.hardware = c.hardware_bytes.ensures in
    let from : c.hardware_bytes-2.result ≡ hardware_bytes p.source.hardware = c.hardware_bytes-2.ensures in
    five (hardware_bytes p.destination.hardware) (hardware_bytes p.source.hardware) (8 ∷ 0 ∷ []) (ipv4_header p) (replicate p.length 0) _ _ _ _ _ _
    c.new-frame.ensures.items
    (c.in_ok-extend_from_slice.ensures.items ∙ ap (λ (x : List ℕ). c.new-frame.result.items ++ x) to)
    (c.in_ok-extend_from_slice-2.ensures.items ∙ ap (λ (x : List ℕ). c.extend_from_slice.new.self.items ++ x) from)
    c.in_ok-extend_from_slice-3.ensures.items
    (c.in_ok-extend_from_slice-4.ensures.items ∙ ap (λ (x : List ℕ). c.extend_from_slice-3.new.self.items ++ x) header)
    (c.in_ok-extend_from_slice-5.ensures.items ∙ ap (λ (x : List ℕ). c.extend_from_slice-4.new.self.items ++ x) zeros)
