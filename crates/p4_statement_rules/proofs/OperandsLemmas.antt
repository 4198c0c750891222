-- What is noted comes first, and behind it is what was there before.
use Rattle.std.proofs.Common.{◌≡◌, List, refl, sym, ap, ◌∙◌, subst}
use Rattle.p4_tree.specs.Tree.{Expr, num, flag, path, valid, applied, error_name, negation, inversion, opposite, binary, conditional, slice, cast}
use Rattle.p4_scopes.specs.Scopes.{Scope}
use Rattle.p4_scopes.specs.declared.kind.Kind.{Kind}
use Rattle.p4_statement_rules.specs.Operands.{noted, left, IsNoted}

left_noted : (s : Scope) (e : Expr) (ks : List Kind) → left e (noted s e ks) ≡ ks
left_noted s (num p n) ks = refl
left_noted s (flag p b) ks = refl
left_noted s (path p x) ks = refl
left_noted s (valid p x) ks = refl
left_noted s (applied p t h) ks = refl
left_noted s (error_name p x) ks = refl
left_noted s (negation p a) ks = left_noted s a ks
left_noted s (inversion p a) ks = left_noted s a ks
left_noted s (opposite p a) ks = left_noted s a ks
left_noted s (binary p op a b) ks = ap (left b) (left_noted s a (noted s b ks)) ∙ left_noted s b ks
left_noted s (conditional p c a b) ks = ap (λ (x : List Kind). left b (left a x)) (left_noted s c (noted s a (noted s b ks))) ∙ ap (left b) (left_noted s a (noted s b ks)) ∙ left_noted s b ks
left_noted s (slice p a h l) ks = left_noted s a ks
left_noted s (cast p t a) ks = left_noted s a ks

-- behind what another expression has noted
behind : (s : Scope) (a b : Expr) (ks : List Kind) → IsNoted s b ks → IsNoted s b (left a (noted s a ks))
behind s a b ks h = (let P : List Kind → Type 0 = λ x. IsNoted s b x in subst P (sym (left_noted s a ks)) h)

pub is_noted : (s : Scope) (e : Expr) (ks : List Kind) → IsNoted s e (noted s e ks)
is_noted s (num p n) ks = tt
is_noted s (flag p b) ks = tt
is_noted s (path p x) ks = tt
is_noted s (valid p x) ks = tt
is_noted s (applied p t h) ks = tt
is_noted s (error_name p x) ks = tt
is_noted s (negation p a) ks = is_noted s a ks
is_noted s (inversion p a) ks = (refl, is_noted s a ks)
is_noted s (opposite p a) ks = (refl, is_noted s a ks)
is_noted s (binary p op a b) ks = (refl, refl, is_noted s a (noted s b ks), behind s a b (noted s b ks) (is_noted s b ks))
is_noted s (conditional p c a b) ks =
    let first : IsNoted s a (left c (noted s c (noted s a (noted s b ks)))) = behind s c a (noted s a (noted s b ks)) (is_noted s a (noted s b ks)) in
    let second : IsNoted s b (left a (left c (noted s c (noted s a (noted s b ks))))) =
    (let P : List Kind → Type 0 = λ x. IsNoted s b (left a x) in subst P (sym (left_noted s c (noted s a (noted s b ks)))) (behind s a b (noted s b ks) (is_noted s b ks))) in
    (refl, refl, is_noted s c (noted s a (noted s b ks)), first, second)
is_noted s (slice p a h l) ks = (refl, is_noted s a ks)
is_noted s (cast p t a) ks = (refl, is_noted s a ks)
