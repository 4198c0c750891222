-- A parameter behind others.
use Rattle.std.proofs.Common.{◌≡◌, ℕ, ◌+◌, ◌<◌, zero, suc, List, [], ◌∷◌, ◌++◌, Bool, length, take, get_or, nat_eq, cond, arith, refl, sym, ap, ap₂, ◌∙◌}
use Rattle.std.proofs.Math.Dec.{eqb-suc-suc, eqb-suc-zero, eqb-zero-suc}
use Rattle.std.proofs.Math.Seq.{take-suc}
use Rattle.p4_tree.specs.declared.program.Param.{Param}
use Rattle.parted_programs.specs.Parted.{retyped, with_new}

retyped_behind : (n : ℕ) (xs : List Param) (x : Param) → retyped n (xs ++ x ∷ []) ≡ retyped n xs ++ cond (nat_eq (length (retyped n xs)) n) (with_new x) x ∷ []
retyped_behind zero [] x = refl
retyped_behind (suc n) [] x = ap (λ (b : Bool). cond b (with_new x) x ∷ []) (sym (eqb-zero-suc n))
retyped_behind zero (y ∷ xs) x = ap (λ (b : Bool). with_new y ∷ (xs ++ cond b (with_new x) x ∷ [])) (sym (eqb-suc-zero (length xs)))
retyped_behind (suc n) (y ∷ xs) x =
    ap (λ (zs : List Param). y ∷ zs) (retyped_behind n xs x) ∙ ap (λ (b : Bool). y ∷ (retyped n xs ++ cond b (with_new x) x ∷ [])) (sym (eqb-suc-suc (length (retyped n xs)) n))

pub retyped_pushed :
    (n i : ℕ) (ps all new : List Param) (x p : Param) (len : ℕ) → i < length ps → x ≡ get_or ps i x → all ≡ retyped n (take i ps) → len ≡ length all → p ≡ cond (nat_eq len n) (with_new x) x → new ≡ all ++ p ∷ []
    → new ≡ retyped n (take (i + 1) ps)
retyped_pushed n i ps all new x p len low is_x is_all is_len is_p is_new =
    (let more : suc i ≡ i + 1 = omega arith in
    is_new ∙ ap₂ (λ (zs : List Param) (y : Param). zs ++ y ∷ []) is_all (is_p ∙ ap (λ (k : ℕ). cond (nat_eq k n) (with_new x) x) (is_len ∙ ap length is_all)) ∙ sym (retyped_behind n (take i ps) x)
    ∙ ap (retyped n) (ap (λ (y : Param). take i ps ++ y ∷ []) is_x ∙ sym (take-suc ps i x low) ∙ ap (λ (k : ℕ). take k ps) more))
