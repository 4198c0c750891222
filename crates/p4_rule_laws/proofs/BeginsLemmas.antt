-- One old name that becomes a new one: old names are told apart as before.
use Rattle.std.proofs.Common.{◌≡◌, ◌⊎◌, inl, inr, ℕ, List, [], ◌∷◌, Bool, true, false, cond, refl, sym, ap, ◌∙◌, subst}
use Rattle.std.proofs.lemmas.Slice.Eq.{bytes_eq-Decides}
use Rattle.lex_text.specs.Names.{same_text}
use Rattle.p4_tree.specs.Tree.{ParserState}
use Rattle.p4_parser_states.specs.Cycles.{is_among, state_names}
use Rattle.p4_scopes.specs.Scopes.{Scope, is_missing}
use Rattle.p4_rule_laws.specs.Old.{Names}
use Rattle.p4_rule_laws.specs.Entered.{IsMoved, Enters, renamed_to, Begins}
use Rattle.p4_rule_laws.proofs.WiderLemmas.{told, new_is_other, old_is_other}

module _ (old : Names) (from onto : List ℕ) (new : old onto ≡ false) where
  text_same : (x y : List ℕ) → x ≡ y → same_text x y ≡ true
  text_same x y e = (bytes_eq-Decides x y).1 e

  text_is : (x y : List ℕ) → same_text x y ≡ true → x ≡ y
  text_is x y e = (bytes_eq-Decides x y).0 e

  no_case : {A : Type 0} → true ≡ false → A
  no_case e = absurd (cc)

  other_text : (x y : List ℕ) → (x ≡ y → ⊥) → same_text x y ≡ false
  other_text x y n = told (same_text x y) (λ e. n (text_is x y e))

  pub one_apart : (x y : List ℕ) → old x ≡ true → old y ≡ true → same_text (renamed_to from onto x) (renamed_to from onto y) ≡ same_text x y
  one_apart x y o u = by (same_text x from) (same_text y from) refl refl
    where
      by : (b c : Bool) → same_text x from ≡ b → same_text y from ≡ c → same_text (cond b onto x) (cond c onto y) ≡ same_text x y
      by true true e f = text_same onto onto refl ∙ sym (text_same x y (text_is x from e ∙ sym (text_is y from f)))
      by true false e f = new_is_other old onto y new u ∙ sym (other_text x y (λ same. no_case (sym e ∙ (ap (λ z. same_text z from) same ∙ f))))
      by false true e f = old_is_other old x onto o new ∙ sym (other_text x y (λ same. no_case (sym f ∙ (sym (ap (λ z. same_text z from) same) ∙ e))))
      by false false e f = refl

pub begins_enter : (old : Names) (from onto : List ℕ) (t : Scope) (added sts : List ParserState) → Begins old from onto t added sts → Enters old (renamed_to from onto) t added sts
begins_enter old from onto t added sts n = record { given = n.given; start = n.start; one = one_apart old from onto n.is_new; apart = apart; moved = moved; names = n.names; cycles = n.cycles; flows = n.flows }
  where
    apart : (x : List ℕ) → old x ≡ true → is_among (state_names added) (renamed_to from onto x) ≡ false
    apart x o = by (same_text x from) refl
      where
        by : (b : Bool) → same_text x from ≡ b → is_among (state_names added) (cond b onto x) ≡ false
        by true e = n.is_apart
        by false e = n.others x o (told (same_text from x) (λ h. let k : same_text x from ≡ true = (bytes_eq-Decides x from).1 (sym ((bytes_eq-Decides from x).0 h)) in let c : false ≡ true = sym e ∙ k in cc))

    here : (x : List ℕ) → x ≡ from → IsMoved (λ z. onto) t added sts x
    here x e =
        let P : List ℕ → Type 0 = λ z. is_among (state_names sts) z ≡ true in
        let Q : List ℕ → Type 0 = λ z. is_among (state_names added) z ≡ true in
        record { given = subst P (sym e) n.is_given; taken = subst Q (sym e) n.is_taken; free = n.is_free }

    moved : (x : List ℕ) → old x ≡ true → (renamed_to from onto x ≡ x) ⊎ IsMoved (renamed_to from onto) t added sts x
    moved x o = by (same_text x from) refl
      where
        by : (b : Bool) → same_text x from ≡ b → (renamed_to from onto x ≡ x) ⊎ IsMoved (renamed_to from onto) t added sts x
        by true e =
            let m = here x ((bytes_eq-Decides x from).0 e) in
            inr (record { given = m.given; taken = m.taken; free = ap (λ (c : Bool). is_missing (t (cond c onto x ∷ []))) e ∙ n.is_free })
        by false e = inl (ap (λ (c : Bool). cond c onto x) e)
