-- Parameters of which one has the new struct in the place of an empty one.
use Rattle.std.proofs.Common.{◌≡◌, ◌∷◌, [], ◌∙◌, ℕ, List, Bool, true, false, cond, not, refl, sym, ap, subst, zero, suc}
use Rattle.lex_text.specs.Names.{same_text}
use Rattle.own_programs.proofs.Names.{broken}
use Rattle.p4_declaration_rules.specs.Parsers.{way_access, ways_tests}
use Rattle.p4_rule_laws.proofs.GrowthLemmas.{same_params}
use Rattle.p4_rule_laws.proofs.KeepsLemmas.{undeclared}
use Rattle.p4_rule_laws.proofs.WiderLemmas.{old_is_other}
use Rattle.p4_rule_laws.specs.Growth.{ParamsGrow, TypeGrows, no_param, other_type, same_param}
use Rattle.p4_rule_laws.specs.OldPrograms.{OldWays}
use Rattle.p4_scopes.specs.Scopes.{Scope, Stands, What, as_held, as_typed, behind, declare, held, is_missing, missing, thing_in, type_at, typed, typed_thing, value}
use Rattle.p4_scopes.specs.Uses.{is_type}
use Rattle.p4_scopes.specs.declared.thing.Access.{Access}
use Rattle.p4_statement_rules.specs.Expressions.{type_tests}
use Rattle.p4_tree.specs.declared.program.Param.{Param}
use Rattle.p4_tree.specs.declared.statement.PTy.{PTy}
use Rattle.p4_typing_laws.proofs.Fine.{twice_not}
use Rattle.parted_programs.proofs.EmptyStruct.{IsEmptyStruct}
use Rattle.parted_programs.specs.Laws.{is_other_name}
use Rattle.parted_programs.specs.Parted.{new_metadata, retyped}
use Rattle.rule_tests.specs.Tests.{IsFine}
use Rattle.p4_tree.specs.declared.statement.PTy.TheVariants as type

-- the parameter at a position is of the named type
abbrev pub IsOfType : List ℕ → (at : ℕ) → List Param → Type 0
IsOfType m n [] = Unit {0}
IsOfType m zero (q ∷ qs) = q.ty ≡ type.Named m
IsOfType m (suc n) (q ∷ qs) = IsOfType m n qs

-- a type stands there
abbrev pub is_typed : Stands → Bool
is_typed (typed f t) = true
is_typed _ = false

typed_by_tests : (st : Stands) → is_missing st ≡ false → is_type st ≡ true → is_typed st ≡ true
typed_by_tests (typed f t) h k = refl
typed_by_tests missing h k = broken h
typed_by_tests _ h k = k

pub typed_there : (st : Stands) → is_typed st ≡ true → is_missing st ≡ false
typed_there (typed f t) h = refl
typed_there _ h = broken (sym h)

-- an empty struct still is one behind a declaration of another name
passed : (s : Scope) (n : List ℕ) (w : What) (x : List ℕ) → same_text n x ≡ false → IsEmptyStruct s x → IsEmptyStruct (declare s n w) x
passed s n w x e i = record { self = undeclared s n w x [] e ∙ i.self; below = λ y ys. undeclared s n w x (y ∷ ys) e ∙ i.below y ys }

-- a name that is a type behind a parameter was one before
empty_next : (m : List ℕ) (s : Scope) (n : List ℕ) (a : Access) (ty : PTy) → (is_typed (s (m ∷ [])) ≡ true → IsEmptyStruct s m) → is_typed (declare s n (value a ty) (m ∷ [])) ≡ true → IsEmptyStruct (declare s n (value a ty)) m
unfolding declare
empty_next m s n a ty k h = go (same_text n m) refl h
  where
    go : (b : Bool) → same_text n m ≡ b → is_typed (cond b (behind s (value a ty) []) (s (m ∷ []))) ≡ true → IsEmptyStruct (declare s n (value a ty)) m
    go true e j = broken (sym j)
    go false e j = passed s n (value a ty) m e (k j)

type_grows : (m : List ℕ) (a : Access) (p : ℕ) (s t : Scope) (ty : PTy) → ty ≡ type.Named m → IsEmptyStruct s m → IsEmptyStruct t new_metadata → TypeGrows is_other_name a p s t ty (type.Named new_metadata)
type_grows m a p s t ty is i e = record { fine = λ w f. (ap is_missing e.self, ap (λ (st : Stands). not (is_type st)) e.self); alike = λ w xs o. same xs }
  where
    same : (xs : List (List ℕ)) → behind s (value a ty) xs ≡ behind t (value a (type.Named new_metadata)) xs
    same [] = ap (λ (y : PTy). held a (thing_in s y)) is ∙ ap (λ (st : Stands). held a (typed_thing (as_typed st))) (i.self ∙ sym e.self)
    same (x ∷ xs) = ap (λ (y : PTy). as_held a (type_at s y (x ∷ xs))) is ∙ ap (λ (st : Stands). as_held a (as_typed st)) (i.below x xs ∙ sym (e.below x xs))

pub retyped_grows :
    (m : List ℕ) (n : ℕ) (qs : List Param) (s t : Scope) → OldWays is_other_name qs → IsOfType m n qs → (is_typed (s (m ∷ [])) ≡ true → IsEmptyStruct s m) → IsEmptyStruct t new_metadata → IsFine (ways_tests s qs)
    → ParamsGrow is_other_name s t qs (retyped n qs)
retyped_grows m n [] s t o is k e f = no_param
retyped_grows m zero (q ∷ qs) s t o is k e f =
    other_type q (type.Named new_metadata) o.1 (type_grows m (way_access q.way) q.at s t q.ty is (k (named q.at q.ty is f.0.1)) e)
    (same_params is_other_name (declare s q.name (value (way_access q.way) q.ty)) (declare t q.name (value (way_access q.way) (type.Named new_metadata))) qs o.2)
  where
    named : (p : ℕ) (ty : PTy) → ty ≡ type.Named m → IsFine (type_tests p s ty) → is_typed (s (m ∷ [])) ≡ true
    named p ty i g = (let h = subst (λ (y : PTy). IsFine (type_tests p s y)) i g in typed_by_tests (s (m ∷ [])) h.0 (twice_not _ h.1))
retyped_grows m (suc n) (q ∷ qs) s t o is k e f =
    same_param q o.0 o.1
    (retyped_grows m n qs (declare s q.name (value (way_access q.way) q.ty)) (declare t q.name (value (way_access q.way) q.ty)) o.2 is (empty_next m s q.name (way_access q.way) q.ty k)
    (passed t q.name (value (way_access q.way) q.ty) new_metadata (old_is_other is_other_name q.name new_metadata o.1 refl) e) f.1)
