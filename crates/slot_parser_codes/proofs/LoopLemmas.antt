-- Loops over lists, and the widths of keys.
use Rattle.std.proofs.Common.{◌≡◌, ℕ, zero, suc, ◌+◌, ◌<◌, ◌≤◌, List, [], ◌∷◌, ◌++◌, map, length, take, drop, get_or, Bool, true, false, ◌&&◌, refl, sym, ap, ◌∙◌, subst, arith}
use Rattle.std.proofs.lemmas.List.{map-append}
use Rattle.std.specs.Prelude.{Result, Ok, Err, IfOk}
use Rattle.p4_tree.specs.Tree as tree
use Rattle.p4_tree.specs.Tree.{Expr, Stmt, assign, ParserState}
use Rattle.p4_meaning.specs.Parsing.{Header}
use Rattle.slot_terms.specs.Typed.{Typed, typed_of}
use Rattle.slot_terms.specs.Places.{Places, Means}
use Rattle.slot_terms.specs.declared.typed.Typed as code_typed
use Rattle.slot_statements.proofs.TreeLemmas.{drop_one, one_more}
use Rattle.slot_places.specs.HeaderSlots.{HeaderSlots}
use Rattle.slot_parsers.specs.ParserCodes.{only, masked, StateCode}
use Rattle.slot_parsers.specs.Parses.{DoesStep, IsStateOf, AreStatesOf}
use Rattle.slot_parsers.specs.Extracts.{DoesAssign}
use Rattle.slot_parsers.specs.Code.{step_of}
use Rattle.slot_parsers.specs.declared.codes.Step as code_step
use Rattle.slot_terms.specs.declared.fault.Fault.{Fault}
use Rattle.slot_parsers.specs.Selects.{FitsInWidth, width_at}
use Rattle.slot_parsers.proofs.StepLemmas.{only_fits, masked_fits}
use Rattle.slot_parser_codes.specs.KnownParsers.{all_pass}

-- one item more passes
pub passed_more : {X Y : Type 0} (view : X → Y) (test : Y → Bool) (o : Bool) (xs : List X) (i : ℕ) (x : X) → i < length xs → x ≡ get_or xs i x → test (view x) ≡ true → all_pass test (map view (drop i xs)) ≡ o → all_pass test (map view (drop (i + 1) xs)) ≡ o
passed_more view test o xs i x lt is one all =
    let e : all_pass test (map view (x ∷ drop (i + 1) xs)) ≡ o = subst (λ ys. all_pass test (map view ys) ≡ o) (drop_one xs i x lt is) all in
    sym (ap (λ b. b && all_pass test (map view (drop (i + 1) xs))) one) ∙ e

-- an item that does not pass
pub not_passed : {X Y : Type 0} (view : X → Y) (test : Y → Bool) (o : Bool) (xs : List X) (i : ℕ) (x : X) → i < length xs → x ≡ get_or xs i x → test (view x) ≡ false → all_pass test (map view (drop i xs)) ≡ o → o ≡ false
not_passed view test o xs i x lt is one all =
    let e : all_pass test (map view (x ∷ drop (i + 1) xs)) ≡ o = subst (λ ys. all_pass test (map view ys) ≡ o) (drop_one xs i x lt is) all in
    sym e ∙ ap (λ b. b && all_pass test (map view (drop (i + 1) xs))) one

-- a relation of what was made and of the items passed holds of one more
pub one_more_made :
    {A B X Y : Type 0} (R : List B → List Y → Type 0) (made : A → B) (view : X → Y) (xs : List X) (i : ℕ) (x : X) (old new : List A) (a : A) → i < length xs → x ≡ get_or xs i x → new ≡ old ++ a ∷ []
    → R (map made old ++ made a ∷ []) (map view (take i xs) ++ view x ∷ []) → R (map made new) (map view (take (i + 1) xs))
one_more_made R made view xs i x old new a lt is push h =
    subst (λ ys. R (map made new) ys) (sym (one_more view xs i x lt is))
    (subst (λ bs. R bs (map view (take i xs) ++ view x ∷ [])) (sym (ap (map made) push ∙ map-append made old (a ∷ []))) h)

longer : {B : Type 0} (l : List B) (b : B) → length (l ++ b ∷ []) ≡ length l + 1
longer [] b = refl
longer (x ∷ l) b = omega (arith, longer l b)

pub one_longer : {A B : Type 0} (made : A → B) (old new : List A) (a : A) (i : ℕ) → new ≡ old ++ a ∷ [] → length (map made old) ≡ i → length (map made new) ≡ i + 1
one_longer made old new a i push count = ap (λ l. length (map made l)) push ∙ ap length (map-append made old (a ∷ [])) ∙ longer (map made old) (made a) ∙ ap (λ n. n + 1) count

-- ---- key sets

pub only_in_width : (m : Places) (w at : ℕ) (e : Expr) (u : Typed) → Means m e w u → FitsInWidth m w (only u.term) (tree.only at e)
only_in_width m w at e u means t is = only_fits m t u at e (subst (λ x. Means m e x u) (sym is) means)

pub masked_in_width : (m : Places) (w at : ℕ) (e k : Expr) (u v : Typed) → Means m e w u → Means m k w v → FitsInWidth m w (masked u.term v.term) (tree.masked at e k)
masked_in_width m w at e k u v means mask t is = masked_fits m t u v at e k (subst (λ x. Means m e x u) (sym is) means) (subst (λ x. Means m k x v) (sym is) mask)

pub width_within : (ts : List code_typed.Typed) (i : ℕ) (t : code_typed.Typed) → i < length ts → t ≡ get_or ts i t → t.width ≡ width_at (map typed_of ts) i
width_within [] i t lt is = absurd (omega (arith, lt))
width_within (x ∷ ts) zero t lt is = ap (λ (y : code_typed.Typed). y.width) is
width_within (x ∷ ts) (suc i) t lt is = width_within ts i t (omega (arith, lt)) is

pub width_past : (ts : List code_typed.Typed) (i : ℕ) → length ts ≤ i → 0 ≡ width_at (map typed_of ts) i
width_past [] i le = refl
width_past (x ∷ ts) zero le = absurd (omega (arith, le))
width_past (x ∷ ts) (suc i) le = width_past ts i (omega (arith, le))

-- ---- states

pub states_more :
    (m : Places) (heads : List HeaderSlots) (hs : List Header) (all : List ParserState) (cs : List StateCode) (sts : List ParserState) (c : StateCode) (st : ParserState) → AreStatesOf m heads hs all cs sts → IsStateOf m heads hs all c st
    → AreStatesOf m heads hs all (cs ++ c ∷ []) (sts ++ st ∷ [])
states_more m heads hs all [] [] c st are one = (one, tt)
states_more m heads hs all (x ∷ cs) [] c st are one = absurd are
states_more m heads hs all [] (y ∷ sts) c st are one = absurd are
states_more m heads hs all (x ∷ cs) (y ∷ sts) c st are one = (are.0, states_more m heads hs all cs sts c st are.1 one)

-- ---- statements

pub step_assigns :
    (m : Places) (heads : List HeaderSlots) (hs : List Header) (made : Result code_step.Step Fault) (p : ℕ) (names : List (List ℕ)) (e : Expr) (st : Stmt) → st ≡ assign p names e → IfOk made (λ c. DoesAssign m (step_of c) names e)
    → IfOk made (λ c. DoesStep m heads hs (step_of c) st)
step_assigns m heads hs (Ok c) p names e st is does = subst (λ x. DoesStep m heads hs (step_of c) x) (sym is) (does heads hs)
step_assigns m heads hs (Err f) p names e st is does = tt
