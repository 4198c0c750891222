-- A walk along a list, which stops at the first name that is taken.
use Rattle.std.proofs.Common.{◌≡◌, ℕ, ◌+◌, ◌<◌, Bool, true, false, List, [], ◌∷◌, ◌++◌, length, get_or, drop, drop-cons, add-one, Option, Some, None, Bor, refl, sym, ap, ap₂, ◌∙◌}
use Rattle.std.specs.Option.{is_some}
use Rattle.link_faults.specs.WrittenNames.{Names, first_taken}
use Rattle.link_checks.specs.View.{text_of}
use Rattle.link_checks.proofs.Firsts.{some_front, none_front}

item_left : {A : Type 0} (list : List A) (i : ℕ) (s : A) → i < length list → s ≡ get_or list i s → drop i list ≡ s ∷ drop (i + 1) list
item_left {A} list i s lt is = drop-cons list i s lt ∙ ap₂ (λ (y : A) (n : ℕ). y ∷ drop n list) (sym is) (sym (add-one i))

-- all: the names of a list; n: those of an item
module _ {X : Type 0} (all : List X → Names) (n : X → Names) (step : (x : X) (xs : List X) → first_taken (n x ++ all xs) ≡ first_taken (all (x ∷ xs))) where
  whole : (list : List X) (i : ℕ) (x : X) → i < length list → x ≡ get_or list i x → first_taken (all (drop i list)) ≡ first_taken (all list)
      → first_taken (n x ++ all (drop (i + 1) list)) ≡ first_taken (all list)
  whole list i x lt is left = step x (drop (i + 1) list) ∙ (ap (λ (ys : List X). first_taken (all ys)) (sym (item_left list i x lt is)) ∙ left)

  pub stops : (list : List X) (i : ℕ) (x : X) → i < length list → x ≡ get_or list i x → first_taken (all (drop i list)) ≡ first_taken (all list)
      → (t : Option (Bor (List ℕ))) → text_of t ≡ first_taken (n x) → is_some t ≡ true → text_of t ≡ first_taken (all list)
  stops list i x lt is left None found some = absurd cc
  stops list i x lt is left (Some v) found some = some_front v.now (n x) (all (drop (i + 1) list)) found ∙ whole list i x lt is left

  pub goes : (list : List X) (i : ℕ) (x : X) → i < length list → x ≡ get_or list i x → first_taken (all (drop i list)) ≡ first_taken (all list)
      → (t : Option (Bor (List ℕ))) → text_of t ≡ first_taken (n x) → is_some t ≡ false → first_taken (all (drop (i + 1) list)) ≡ first_taken (all list)
  goes list i x lt is left None found some = none_front (first_taken (all (drop (i + 1) list))) (n x) (all (drop (i + 1) list)) found refl ∙ whole list i x lt is left
  goes list i x lt is left (Some v) found some = absurd cc
