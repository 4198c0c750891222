use Rattle.std.proofs.Common.{◌≡◌, List, ℕ, ◌++◌, length, append_assoc}
use Rattle.byteorder.specs.Endian.{little_bytes}
use Rattle.pcap_io.specs.Written.{record_bytes}
use Rattle.pcap_io.proofs.writing.put_record.Goals as goal

-- five parts, one behind the other
five : (out a b d e f o1 o2 o3 o4 o5 : List ℕ) → o1 ≡ out ++ a → o2 ≡ o1 ++ b → o3 ≡ o2 ++ d → o4 ≡ o3 ++ e → o5 ≡ o4 ++ f → o5 ≡ out ++ (a ++ (b ++ (d ++ (e ++ f))))
five out a b d e f o1 o2 o3 o4 o5 p q r s t = rw (t, s, r, q, p) (simp append_assoc)

pub returns-clause-bytes : goal.returns-clause-bytes
unfolding record_bytes
returns-clause-bytes c =
    let len = length c.args.bytes.now in
    five c.args.out.now.items (little_bytes 4 c.args.seconds) (little_bytes 4 c.args.micros) (little_bytes 4 len) (little_bytes 4 len) c.args.bytes.now _ _ _ _ _
    c.in_ok-put_u32.ensures c.in_ok-put_u32-2.ensures c.in_ok-put_u32-3.ensures c.in_ok-put_u32-4.ensures c.in_ok-extend_from_slice.ensures.items
