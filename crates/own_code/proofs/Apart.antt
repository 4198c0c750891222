-- Paths of different regions are different paths.
use Rattle.std.proofs.Common.{◌≡◌, ℕ, List, [], ◌∷◌, ◌++◌, Bool, true, false, not, ◌&&◌, refl, ap, ◌∙◌, subst, Decides}
use Rattle.std.proofs.lemmas.Slice.Eq.{slice_eq-Decides, bytes_eq-Decides}
use Rattle.lex_text.specs.Names.{same_text, same_path, parent}
use Rattle.p4_meaning.specs.Standard.{headers_root, standard_root, metadata_root, egress_spec}
use Rattle.own_code.specs.Regions.{is_mine, is_free, is_writable, is_own_header}

pub path_decides : (p q : List (List ℕ)) → Decides (same_path p q) (p ≡ q)
path_decides p q = slice_eq-Decides bytes_eq-Decides p q (same_path p q) refl

pub text_decides : (p q : List ℕ) → Decides (same_text p q) (p ≡ q)
text_decides p q = bytes_eq-Decides p q

pub not_both : {A : Type 0} {b : Bool} → b ≡ true → b ≡ false → A
not_both t f = absurd (cc)

-- a path of a region is none outside it
pub apart : (Q : List (List ℕ) → Bool) (p q : List (List ℕ)) → Q p ≡ true → Q q ≡ false → same_path p q ≡ false
apart Q p q i o =
    let go : (b : Bool) → same_path p q ≡ b → b ≡ false = λ b. elim b as (λ b. same_path p q ≡ b → b ≡ false) [ true ↦ λ e. not_both i (ap Q ((path_decides p q).0 e) ∙ o) | false ↦ λ e. refl ] in
    go (same_path p q) refl

-- the same of names
pub apart_names : (Q : List ℕ → Bool) (x y : List ℕ) → Q x ≡ true → Q y ≡ false → same_text x y ≡ false
apart_names Q x y i o =
    let go : (b : Bool) → same_text x y ≡ b → b ≡ false = λ b. elim b as (λ b. same_text x y ≡ b → b ≡ false) [ true ↦ λ e. not_both i (ap Q ((text_decides x y).0 e) ∙ o) | false ↦ λ e. refl ] in
    go (same_text x y) refl

pub both_left : (a b : Bool) → (a && b) ≡ true → a ≡ true
both_left true b h = refl
both_left false b h = h

pub both_right : (a b : Bool) → (a && b) ≡ true → b ≡ true
both_right true b h = h
both_right false b h = absurd (cc)

-- a free path is none of the monitor's, whose path is given
pub free_apart : (p q : List (List ℕ)) → is_free p ≡ false → is_free q ≡ true → same_path p q ≡ false
free_apart p q o i = apart (λ q. not (is_free q)) p q (ap not o) (ap not i)

-- the header that a free path may be a field of is free
pub free_parent : (p : List (List ℕ)) → is_free p ≡ true → is_free (parent p) ≡ true
free_parent [] h = refl
free_parent (x ∷ []) h = refl
free_parent (x ∷ y ∷ []) h = both_left (not (is_mine x)) (not (is_mine y)) h
free_parent (x ∷ y ∷ z ∷ []) h = h
free_parent (x ∷ y ∷ z ∷ w ∷ rest) h = h

and_none : (b : Bool) → (b && false) ≡ false
and_none true = refl
and_none false = refl

-- a variable of a control
pub single_writable : (x : List ℕ) → is_mine x ≡ false → is_writable (x ∷ []) ≡ true
single_writable x o = ap not o

pub single_spec : (x : List ℕ) → same_path (x ∷ []) egress_spec ≡ false
single_spec x = and_none (same_text x standard_root)

-- an own header is one of the struct of headers
own_root : (x y : List ℕ) → is_own_header (x ∷ y ∷ []) ≡ true → headers_root ≡ x
own_root x y e = (text_decides headers_root x).0 (both_left (same_text headers_root x) (not (is_mine y)) e)

own_rest : (x y : List ℕ) → is_own_header (x ∷ y ∷ []) ≡ true → not (is_mine y) ≡ true
own_rest x y e = both_right (same_text headers_root x) (not (is_mine y)) e

pub own_free : (h : List (List ℕ)) → is_own_header h ≡ true → is_free h ≡ true
own_free [] e = refl
own_free (x ∷ []) e = absurd (cc)
own_free (x ∷ y ∷ []) e = subst (λ x. is_free (x ∷ y ∷ []) ≡ true) (own_root x y e) (own_rest x y e)
own_free (x ∷ y ∷ z ∷ rest) e = absurd (cc)

pub own_writable : (h : List (List ℕ)) → is_own_header h ≡ true → is_writable h ≡ true
own_writable [] e = absurd (cc)
own_writable (x ∷ []) e = absurd (cc)
own_writable (x ∷ y ∷ []) e = subst (λ x. is_writable (x ∷ y ∷ []) ≡ true) (own_root x y e) (ap (λ b. b && true) (own_rest x y e))
own_writable (x ∷ y ∷ z ∷ rest) e = absurd (cc)

-- a path below an own header is writable
pub below_writable : (q h : List (List ℕ)) → is_own_header h ≡ true → h ≡ parent q → is_writable q ≡ true
below_writable [] h e is = not_both (subst (λ h. is_own_header h ≡ true) is e) refl
below_writable (x ∷ []) h e is = not_both (subst (λ h. is_own_header h ≡ true) is e) refl
below_writable (x ∷ y ∷ []) h e is = not_both (subst (λ h. is_own_header h ≡ true) is e) refl
below_writable (x ∷ y ∷ z ∷ []) h e is = subst (λ h. is_writable h ≡ true) is (own_writable h e)
below_writable (x ∷ y ∷ z ∷ w ∷ rest) h e is = subst (λ h. is_writable h ≡ true) is (own_writable h e)

-- a field of an own header
pub field_writable : (h : List (List ℕ)) (n : List ℕ) → is_own_header h ≡ true → is_writable (h ++ n ∷ []) ≡ true
field_writable [] n e = absurd (cc)
field_writable (x ∷ []) n e = absurd (cc)
field_writable (x ∷ y ∷ []) n e = subst (λ x. is_writable (x ∷ y ∷ n ∷ []) ≡ true) (own_root x y e) (ap (λ b. b && true) (own_rest x y e))
field_writable (x ∷ y ∷ z ∷ rest) n e = absurd (cc)

pub field_readable : (h : List (List ℕ)) (n : List ℕ) → is_own_header h ≡ true → is_free (h ++ n ∷ []) ≡ true
field_readable [] n e = absurd (cc)
field_readable (x ∷ []) n e = absurd (cc)
field_readable (x ∷ y ∷ []) n e = subst (λ x. is_free (x ∷ y ∷ n ∷ []) ≡ true) (own_root x y e) (own_rest x y e)
field_readable (x ∷ y ∷ z ∷ rest) n e = absurd (cc)

pub field_spec : (h : List (List ℕ)) (n : List ℕ) → is_own_header h ≡ true → same_path (h ++ n ∷ []) egress_spec ≡ false
field_spec [] n e = absurd (cc)
field_spec (x ∷ []) n e = absurd (cc)
field_spec (x ∷ y ∷ []) n e = subst (λ x. same_path (x ∷ y ∷ n ∷ []) egress_spec ≡ false) (own_root x y e) refl
field_spec (x ∷ y ∷ z ∷ rest) n e = absurd (cc)

-- a field of the metadata
pub metadata_writable : (n : List ℕ) → is_mine n ≡ false → is_writable (metadata_root ∷ n ∷ []) ≡ true
metadata_writable n o = ap (λ b. not b && true) o

pub metadata_spec : (n : List ℕ) → same_path (metadata_root ∷ n ∷ []) egress_spec ≡ false
metadata_spec n = refl
