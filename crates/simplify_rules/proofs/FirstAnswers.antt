-- A walk along rules, which stops at the first one that has an answer.
use Rattle.std.proofs.Common.{◌≡◌, inl, inr, ℕ, ◌+◌, ◌<◌, ◌≤◌, List, [], ◌∷◌, length, get_or, drop, drop-cons, add-one, Option, Some, None, refl, sym, ap₂, ◌∙◌, subst}
use Rattle.std.proofs.lemmas.List.{drop_all}
use Rattle.p4_tree.specs.Tree.{Expr}
use Rattle.simplify_rules.specs.FirstAnswer.{IsFirstAnswer}

item_left : {R : Type 0} (rules : List R) (i : ℕ) (x : R) → i < length rules → x ≡ get_or rules i x → drop i rules ≡ x ∷ drop (i + 1) rules
item_left {R} rules i x lt is = drop-cons rules i x lt ∙ ap₂ (λ (y : R) (n : ℕ). y ∷ drop n rules) (sym is) (sym (add-one i))

module _ {R : Type 0} (A : R → Expr → Option Expr → Type 0) (e : Expr) where
  -- what the rules from here on answer all of them do
  abbrev pub IsLeft : List R → ℕ → Type 0
  IsLeft rules i = (o : Option Expr) → IsFirstAnswer A (drop i rules) e o → IsFirstAnswer A rules e o

  front : (x : R) (rest : List R) (o : Option Expr) → A x e None → IsFirstAnswer A rest e o → IsFirstAnswer A (x ∷ rest) e o
  front x rest None a f = (a, f)
  front x rest (Some g) a f = inr (a, f)

  pub answer_found : (rules : List R) (i : ℕ) (x : R) → i < length rules → x ≡ get_or rules i x → IsLeft rules i → (f : Expr) → A x e (Some f) → IsFirstAnswer A rules e (Some f)
  answer_found rules i x lt is left f a =
      let here : IsFirstAnswer A (x ∷ drop (i + 1) rules) e (Some f) = inl a in
      left (Some f) (subst (λ (xs : List R). IsFirstAnswer A xs e (Some f)) (sym (item_left rules i x lt is)) here)

  pub none_found : (rules : List R) (i : ℕ) (x : R) → i < length rules → x ≡ get_or rules i x → IsLeft rules i → A x e None → IsLeft rules (i + 1)
  none_found rules i x lt is left a = λ o f. left o (subst (λ (xs : List R). IsFirstAnswer A xs e o) (sym (item_left rules i x lt is)) (front x (drop (i + 1) rules) o a f))

  pub none_left : (rules : List R) (i : ℕ) → length rules ≤ i → IsLeft rules i → IsFirstAnswer A rules e None
  none_left rules i le left = (let here : IsFirstAnswer A [] e None = refl in left None (subst (λ (xs : List R). IsFirstAnswer A xs e None) (sym (drop_all i rules le)) here))
