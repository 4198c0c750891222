use Rattle.std.proofs.Common.{◌≡◌, List, ℕ, ◌++◌, append_assoc}
use Rattle.pcap_io.specs.Written.{header_bytes}
use Rattle.pcap_io.proofs.writing.put_header.Goals as goal

-- seven parts, one behind the other
seven : (out a b d e f g h o1 o2 o3 o4 o5 o6 o7 : List ℕ) → o1 ≡ out ++ a → o2 ≡ o1 ++ b → o3 ≡ o2 ++ d → o4 ≡ o3 ++ e → o5 ≡ o4 ++ f → o6 ≡ o5 ++ g → o7 ≡ o6 ++ h
    → o7 ≡ out ++ (a ++ (b ++ (d ++ (e ++ (f ++ (g ++ h))))))
seven out a b d e f g h o1 o2 o3 o4 o5 o6 o7 p q r s t u v = rw (v, u, t, s, r, q, p) (simp append_assoc)

pub returns : goal.returns
unfolding header_bytes
returns c = seven _ _ _ _ _ _ _ _ _ _ _ _ _ _ _
    c.in_ok-put_u32.ensures c.in_ok-put_u16.ensures c.in_ok-put_u16-2.ensures c.in_ok-put_u32-2.ensures
    c.in_ok-put_u32-3.ensures c.in_ok-put_u32-4.ensures c.in_ok-put_u32-5.ensures
