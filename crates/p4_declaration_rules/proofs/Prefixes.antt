-- Behind the first prefix, there are two where there is another one.
use Rattle.std.proofs.Common.{◌≡◌, List, [], ◌∷◌, Bool, true, false, ◌&&◌, ◌||◌, codes, ℕ, suc, ◌+◌, ◌-◌, ◌<◌, length, map, take, drop, drop-cons, get_or, refl, sym, ap, ◌∙◌, arith}
use Rattle.std.proofs.Math.Seq.{take-length}
use Rattle.std.proofs.lemmas.List.{length-drop}
use Rattle.lex_text.specs.Names.{same_text}
use Rattle.p4_tree.specs.Tree.{Expr}
use Rattle.p4_tree.specs.View.{key_of}
use Rattle.p4_tree.specs.declared.statement.Expr as code
use Rattle.p4_declaration_rules.specs.Tables.{has_key_kind, has_two_prefixes}

absorbed : (a h t : Bool) → (h || t) ≡ h → ((a || h) || ((a && h) || t)) ≡ (a || h)
absorbed true h t e = refl
absorbed false h t e = e

pub one_prefix : (ks : List (Expr × List ℕ)) → (has_key_kind ks (codes "lpm") || has_two_prefixes ks) ≡ has_key_kind ks (codes "lpm")
one_prefix [] = refl
one_prefix (k ∷ ks) = absorbed (same_text k.1 (codes "lpm")) (has_key_kind ks (codes "lpm")) (has_two_prefixes ks) (one_prefix ks)

behind_one : (k : Expr × List ℕ) (ks : List (Expr × List ℕ)) → same_text k.1 (codes "lpm") ≡ true → has_two_prefixes (k ∷ ks) ≡ has_key_kind ks (codes "lpm")
behind_one k ks h = ap (λ (b : Bool). (b && has_key_kind ks (codes "lpm")) || has_two_prefixes ks) h ∙ one_prefix ks

-- the first prefix stands here
pub first_prefix : (keys : List (code.Expr × List ℕ)) (i : ℕ) (k : code.Expr × List ℕ) → i < length keys → k ≡ get_or keys i k → same_text k.1 (codes "lpm") ≡ true
    → has_key_kind (map key_of (drop (i + 1) keys)) (codes "lpm") ≡ has_two_prefixes (map key_of (drop i keys))
first_prefix keys i k lt is h =
    let more : i + 1 ≡ suc i = omega arith in
    let step : drop i keys ≡ k ∷ drop (i + 1) keys = drop-cons keys i k lt ∙ ap (λ x. x ∷ drop (suc i) keys) (sym is) ∙ ap (λ (m : ℕ). k ∷ drop m keys) (sym more) in
    sym (ap (λ xs. has_two_prefixes (map key_of xs)) step ∙ behind_one (key_of k) (map key_of (drop (i + 1) keys)) h)

-- all that is left
pub rest_whole : {A : Type 0} (xs : List A) (n : ℕ) → take (length xs - n) (drop n xs) ≡ drop n xs
rest_whole xs n = ap (λ (m : ℕ). take m (drop n xs)) (sym (length-drop n xs)) ∙ take-length (drop n xs)
