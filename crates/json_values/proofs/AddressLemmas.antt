-- The bytes of an address in turn.
use Rattle.std.proofs.Common.{◌≡◌, ℕ, zero, suc, ◌+◌, ◌-◌, ◌*◌, ◌^◌, ◌<◌, ◌≤◌, List, Option, Some, None, sym, arith, add-one}
use Rattle.std.proofs.Math.Nat.{pow-suc}
use Rattle.std.specs.Prelude.{option_map}
use Rattle.json_values.specs.declared.address.Form.{Form}
use Rattle.json_values.specs.Texts.{byte_of, front_of, bytes_from}

-- at most five bytes were read, so there is room for one more
pub in_room : (i before : ℕ) → i ≤ 5 → before < 256 ^ i → before < 2 ^ 40
in_room zero before few small = omega (arith, small)
in_room (suc zero) before few small = omega (arith, small)
in_room (suc (suc zero)) before few small = omega (arith, small)
in_room (suc (suc (suc zero))) before few small = omega (arith, small)
in_room (suc (suc (suc (suc zero)))) before few small = omega (arith, small)
in_room (suc (suc (suc (suc (suc zero))))) before few small = small
in_room (suc (suc (suc (suc (suc (suc i)))))) before few small = absurd (omega (arith, few))

-- one byte more
pub in_room_next : (i before byte : ℕ) → before < 256 ^ i → byte < 256 → before * 256 + byte < 256 ^ (i + 1)
in_room_next i before byte small one = rw (add-one, pow-suc) (omega (arith, small, one))

module _ (form : Form) (marks i before : ℕ) (text : List ℕ) (total : Option ℕ) (so_far : bytes_from form (marks - i) before text ≡ total) where
  -- before a mark
  pub byte_stop : i < marks → None ≡ front_of form text → total ≡ None
  byte_stop lt none =
      let one_more : marks - i ≡ suc (marks - (i + 1)) = omega arith in
      sym (rw (one_more, ← none) at so_far)

  pub byte_more : (byte : ℕ) (behind : List ℕ) → i < marks → Some (byte, behind) ≡ front_of form text → bytes_from form (marks - (i + 1)) (before * 256 + byte) behind ≡ total
  byte_more byte behind lt is =
      let one_more : marks - i ≡ suc (marks - (i + 1)) = omega arith in
      rw (one_more, ← is) at so_far

  -- behind the last mark
  pub byte_end : marks ≤ i → total ≡ option_map (λ n. before * 256 + n) (byte_of form text)
  byte_end le =
      let none_left : marks - i ≡ 0 = omega arith in
      sym (rw none_left at so_far)
