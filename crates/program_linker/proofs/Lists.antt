-- A loop that makes a list of another, which it takes item by item.
use Rattle.std.proofs.Common.{◌≡◌, List, [], ◌∷◌, ◌++◌, length, map, subst, sym, ap, ◌∙◌, arith, append_assoc, append-nil}
use Rattle.std.proofs.lemmas.List.{map-append}
use Rattle.std.specs.List.{AllZip}

module _ {X A : Type 0} (view : X → A) (R : A → A → Type 0) where
  -- whatever is made of the items that are left goes behind what is made
  abbrev pub AreMade : (all left made : List X) → Type 0
  AreMade all left made = (ys : List A) → AllZip R (map view left) ys → AllZip R (map view all) (map view made ++ ys)

  pub one_more : (all left rest made now : List X) (x y : X) → left ≡ x ∷ rest → R (view x) (view y) → now ≡ made ++ y ∷ [] → AreMade all left made → AreMade all rest now
  one_more all left rest made now x y l r n h ys more =
      let both : AllZip R (map view left) (view y ∷ ys) = subst (λ (zs : List X). AllZip R (map view zs) (view y ∷ ys)) (sym l) (r, more) in
      let is : map view now ++ ys ≡ map view made ++ (view y ∷ ys) =
      ap (λ (zs : List X). map view zs ++ ys) n
      ∙ ap (λ (zs : List A). zs ++ ys) (map-append view made (y ∷ []))
      ∙ append_assoc (map view made) (view y ∷ []) ys in
      subst (AllZip R (map view all)) (sym is) (h (view y ∷ ys) both)

  pub all_made : (all left made : List X) → length left ≡ 0 → AreMade all left made → AllZip R (map view all) (map view made)
  all_made all [] made none h = subst (AllZip R (map view all)) (append-nil (map view made)) (h [] tt)
  all_made all (x ∷ xs) made none h = absurd (omega (arith, none))
