-- A table of names beside the list of their bytes.
use Rattle.std.proofs.Common.{◌≡◌, ℕ, suc, ◌+◌, Bool, cond, not, ◌||◌, List, [], ◌∷◌, ◌++◌, length, String, Global, string_bytes, refl, ap}
use Rattle.std.specs.List.{prefix_len, position, list_any}
use Rattle.std.specs.Str.{bytes_eq}
use Rattle.json_parts.specs.Views.{owned}

prefix_owned : (q : List ℕ) (ks : List (String Global)) → prefix_len (λ k. not (bytes_eq q (string_bytes k))) ks ≡ prefix_len (λ n. not (bytes_eq q n)) (owned ks)
prefix_owned q [] = refl
prefix_owned q (k ∷ ks) = ap (λ (m : ℕ). cond (not (bytes_eq q (string_bytes k))) (1 + m) 0) (prefix_owned q ks)

pub length_owned : (ks : List (String Global)) → length ks ≡ length (owned ks)
length_owned [] = refl
length_owned (k ∷ ks) = ap suc (length_owned ks)

-- a name's number in the table is its number in the list
pub position_owned : (q : List ℕ) (ks : List (String Global)) → position (λ k. bytes_eq q (string_bytes k)) ks ≡ position (bytes_eq q) (owned ks)
position_owned q ks = rw (prefix_owned q ks, length_owned ks) refl

-- a name is in the table where it is in the list
pub any_owned : (q : List ℕ) (ks : List (String Global)) → list_any (λ k. bytes_eq q (string_bytes k)) ks ≡ list_any (bytes_eq q) (owned ks)
any_owned q [] = refl
any_owned q (k ∷ ks) = ap (λ (b : Bool). bytes_eq q (string_bytes k) || b) (any_owned q ks)

pub owned_push : (ks : List (String Global)) (k : String Global) → owned (ks ++ k ∷ []) ≡ owned ks ++ string_bytes k ∷ []
owned_push [] k = refl
owned_push (x ∷ ks) k = ap (λ (ns : List (List ℕ)). string_bytes x ∷ ns) (owned_push ks k)
