-- A struct with more fields of new names is fine.
use Rattle.std.proofs.Common.{◌≡◌, ℕ, List, [], ◌∷◌, ◌++◌, Bool, true, false, ◌||◌, refl, ap, ◌∙◌, subst, cond, not, sym}
use Rattle.lex_text.specs.Names.{same_text}
use Rattle.rule_tests.specs.Tests.{IsFine}
use Rattle.p4_tree.specs.declared.statement.PTy.{PTy}
use Rattle.p4_tree.specs.declared.statement.PTy.TheVariants as type
use Rattle.p4_parser_states.specs.Cycles.{is_among}
use Rattle.p4_scopes.specs.Uses.{is_type}
use Rattle.p4_scopes.specs.Scopes.{Scope, Stands, is_missing, as_typed, typed_thing, type_at, field_at}
use Rattle.p4_scopes.specs.declared.thing.Thing.{Thing}
use Rattle.p4_statement_rules.specs.Expressions.{type_tests}
use Rattle.p4_declaration_rules.specs.Declarations.{has_twice, is_no_field, fields_tests, field_names, struct_tests}
use Rattle.p4_rule_laws.specs.Old.{Names, Alike, OldFields}
use Rattle.p4_rule_laws.specs.Kept.{NewFields, Keeps}
use Rattle.p4_rule_laws.specs.Growth.{More, with_more, MoreIsNew, MoreFits}
use Rattle.p4_rule_laws.proofs.AlikeExprs.{new_alike}
use Rattle.p4_rule_laws.proofs.AlikePrograms.{fields_alike}
use Rattle.p4_rule_laws.proofs.WiderLemmas.{new_is_other, old_is_other}

pub fields_joined : (p : ℕ) (misfit : Thing → Bool) (s : Scope) (a b : List (PTy × List ℕ)) → IsFine (fields_tests p misfit s a) → IsFine (fields_tests p misfit s b) → IsFine (fields_tests p misfit s (a ++ b))
fields_joined p misfit s [] b f g = g
fields_joined p misfit s (x ∷ a) b f g = (f.0, fields_joined p misfit s a b f.1 g)

-- what is in sight stays what it is
type_keeps : (u t : Scope) → Keeps u t → (p : ℕ) (y : PTy) → IsFine (type_tests p u y) → (xs : List (List ℕ)) → type_at t y xs ≡ type_at u y xs
type_keeps u t k p (type.Bit w) f xs = refl
type_keeps u t k p type.Bool f xs = refl
type_keeps u t k p (type.Named n) f xs = ap as_typed (k.kept n xs f.0)

type_stays : (u t : Scope) → Keeps u t → (p : ℕ) (y : PTy) → IsFine (type_tests p u y) → IsFine (type_tests p t y)
type_stays u t k p (type.Bit w) f = f
type_stays u t k p type.Bool f = f
type_stays u t k p (type.Named n) f = let P : Stands → Type 0 = λ st. (is_missing st ≡ false) × (not (is_type st) ≡ false) in subst P (sym (k.kept n [] f.0)) f

fields_keep : (u t : Scope) → Keeps u t → (p : ℕ) (misfit : Thing → Bool) (fs : List (PTy × List ℕ)) → IsFine (fields_tests p misfit u fs) → IsFine (fields_tests p misfit t fs)
fields_keep u t k p misfit [] f = tt
fields_keep u t k p misfit (g ∷ fs) f =
    let e = ap (λ st. misfit (typed_thing st)) (type_keeps u t k p g.0 f.0.0 []) in
    ((type_stays u t k p g.0 f.0.0, e ∙ f.0.1), fields_keep u t k p misfit fs f.1)

pub field_keeps : (u t : Scope) → Keeps u t → (p : ℕ) (misfit : Thing → Bool) (fs : List (PTy × List ℕ)) → IsFine (fields_tests p misfit u fs) → (y : List ℕ) (xs : List (List ℕ)) → field_at t fs y xs ≡ field_at u fs y xs
field_keeps u t k p misfit [] f y xs = refl
field_keeps u t k p misfit (g ∷ fs) f y xs =
    let e = type_keeps u t k p g.0 f.0.0 xs in
    let h = field_keeps u t k p misfit fs f.1 y xs in
    cc

-- a new name is that of a new field
old_passed : (old : Names) (t : Scope) (gs : List (PTy × List ℕ)) (fs : List (PTy × List ℕ)) → OldFields old fs → (y : List ℕ) (xs : List (List ℕ)) → old y ≡ false → field_at t (fs ++ gs) y xs ≡ field_at t gs y xs
old_passed old t gs [] o y xs n = refl
old_passed old t gs (f ∷ fs) o y xs n = ap (λ (b : Bool). cond b (type_at t f.0 xs) (field_at t (fs ++ gs) y xs)) (old_is_other old f.1 y o.1 n) ∙ old_passed old t gs fs o.2 y xs n

new_field : (old : Names) (t : Scope) (bs gs fs : List (PTy × List ℕ)) → OldFields old fs → (y : List ℕ) (xs : List (List ℕ)) → old y ≡ false → field_at t (bs ++ (fs ++ gs)) y xs ≡ field_at t (bs ++ gs) y xs
new_field old t [] gs fs o y xs n = old_passed old t gs fs o y xs n
new_field old t (b ∷ bs) gs fs o y xs n = ap (cond (same_text b.1 y) (type_at t b.0 xs)) (new_field old t bs gs fs o y xs n)

pub more_fields : (old : Names) (u t : Scope) → Keeps u t → (p : ℕ) (m : More) → MoreFits p u m → (fs : List (PTy × List ℕ)) → OldFields old fs → (y : List ℕ) (xs : List (List ℕ)) → old y ≡ false → field_at t (with_more m fs) y xs ≡ field_at u (m.front ++ m.back) y xs
more_fields old u t k p m w fs o y xs n =
    new_field old t m.front m.back fs o y xs n ∙ field_keeps u t k p is_no_field (m.front ++ m.back) (fields_joined p is_no_field u m.front m.back w.front w.back) y xs

-- an old name is not among new ones, and a new one not among old ones
old_not_among : (old : Names) (gs : List (PTy × List ℕ)) → NewFields old gs → (x : List ℕ) → old x ≡ true → is_among (field_names gs) x ≡ false
old_not_among old [] n x o = refl
old_not_among old (g ∷ gs) n x o = ap (λ b. b || is_among (field_names gs) x) (new_is_other old g.1 x n.0 o) ∙ old_not_among old gs n.1 x o

among_more : (old : Names) (gs : List (PTy × List ℕ)) → NewFields old gs → (fs : List (PTy × List ℕ)) (x : List ℕ) → old x ≡ true → is_among (field_names (fs ++ gs)) x ≡ is_among (field_names fs) x
among_more old gs n [] x o = old_not_among old gs n x o
among_more old gs n (f ∷ fs) x o = ap (λ b. same_text f.1 x || b) (among_more old gs n fs x o)

-- old fields between others are passed over by a new name
among_between : (old : Names) (bs gs fs : List (PTy × List ℕ)) → OldFields old fs → (x : List ℕ) → old x ≡ false → is_among (field_names (bs ++ (fs ++ gs))) x ≡ is_among (field_names (bs ++ gs)) x
among_between old [] gs [] o x n = refl
among_between old [] gs (f ∷ fs) o x n = ap (λ b. b || is_among (field_names (fs ++ gs)) x) (old_is_other old f.1 x o.1 n) ∙ among_between old [] gs fs o.2 x n
among_between old (b ∷ bs) gs fs o x n = ap (λ c. same_text b.1 x || c) (among_between old bs gs fs o x n)

left_false : (a b : Bool) → (a || b) ≡ false → a ≡ false
left_false true b e = e
left_false false b e = refl

right_false : (a b : Bool) → (a || b) ≡ false → b ≡ false
right_false true b e = let c : true ≡ false = e in absurd (cc)
right_false false b e = e

both_false : (a b : Bool) → a ≡ false → b ≡ false → (a || b) ≡ false
both_false a b e f = cc

none_behind : (bs gs : List (PTy × List ℕ)) → has_twice (field_names (bs ++ gs)) ≡ false → has_twice (field_names gs) ≡ false
none_behind [] gs e = e
none_behind (b ∷ bs) gs e = none_behind bs gs (right_false (is_among (field_names (bs ++ gs)) b.1) (has_twice (field_names (bs ++ gs))) e)

behind_once : (old : Names) (gs : List (PTy × List ℕ)) → NewFields old gs → has_twice (field_names gs) ≡ false → (fs : List (PTy × List ℕ)) → OldFields old fs → has_twice (field_names fs) ≡ false → has_twice (field_names (fs ++ gs)) ≡ false
behind_once old gs n k [] o e = k
behind_once old gs n k (f ∷ fs) o e =
    both_false (is_among (field_names (fs ++ gs)) f.1) (has_twice (field_names (fs ++ gs)))
    (among_more old gs n fs f.1 o.1 ∙ left_false (is_among (field_names fs) f.1) (has_twice (field_names fs)) e)
    (behind_once old gs n k fs o.2 (right_false (is_among (field_names fs) f.1) (has_twice (field_names fs)) e))

all_once : (old : Names) (bs gs : List (PTy × List ℕ)) → NewFields old bs → NewFields old gs → has_twice (field_names (bs ++ gs)) ≡ false → (fs : List (PTy × List ℕ)) → OldFields old fs → has_twice (field_names fs) ≡ false → has_twice (field_names (bs ++ (fs ++ gs))) ≡ false
all_once old [] gs nb ng k fs o e = behind_once old gs ng k fs o e
all_once old (b ∷ bs) gs nb ng k fs o e =
    both_false (is_among (field_names (bs ++ (fs ++ gs))) b.1) (has_twice (field_names (bs ++ (fs ++ gs))))
    (among_between old bs gs fs o b.1 nb.0 ∙ left_false (is_among (field_names (bs ++ gs)) b.1) (has_twice (field_names (bs ++ gs))) k)
    (all_once old bs gs nb.1 ng (right_false (is_among (field_names (bs ++ gs)) b.1) (has_twice (field_names (bs ++ gs))) k) fs o e)

pub struct_grows : (old : Names) (s t : Scope) → Alike old s t → (p : ℕ) (x : List ℕ) (fs : List (PTy × List ℕ)) (m : More) → old x ≡ true → OldFields old fs → (u : Scope) → Keeps u t → MoreIsNew old m → MoreFits p u m → IsFine (struct_tests p s x fs) → IsFine (struct_tests p t x (with_more m fs))
struct_grows old s t a p x fs m ox o u k n w f =
    let own = subst IsFine (fields_alike old s t a p is_no_field fs o) f.1.1 in (
      subst IsFine (new_alike old s t a p x ox) f.0,
      (
        all_once old m.front m.back n.front n.back w.once fs o f.1.0,
        fields_joined p is_no_field t m.front (fs ++ m.back) (fields_keep u t k p is_no_field m.front w.front) (fields_joined p is_no_field t fs m.back own (fields_keep u t k p is_no_field m.back w.back)),
      ),
    )
