-- A choice among entries is the same whatever actions are called.
use Rattle.std.proofs.Common.{◌≡◌, ℕ, List, [], ◌∷◌, map, Bool, true, false, if◌then◌else◌, Option, Some, None, refl, ap, ◌∙◌, subst}
use Rattle.std.specs.Prelude.{nat_lt}
use Rattle.std.specs.Option.{option_map}
use Rattle.std.specs.List.{AllByRecursion}
use Rattle.bit_values.specs.Bits.{Word}
use Rattle.p4_meaning.specs.Choice.{fits_keys, prefix_of, higher, choice_of}
use Rattle.table_entries.specs.Entries.{Entry, named}

abbrev rank : Bool → Entry → ℕ
rank t e = if t then e.priority else prefix_of e.keys

abbrev above : Bool → Entry → Option Entry → Entry
above t e None = e
above t e (Some f) = if nat_lt (rank t e) (rank t f) then f else e

-- the entry that one walk over all entries finds, by the numbers of actions
abbrev pub found : Bool → List Entry → List Word → Option Entry
found t [] keys = None
found t (e ∷ es) keys = if fits_keys e.keys keys then Some (above t e (found t es keys)) else found t es keys

pub found_named : (name : ℕ → List ℕ) (t : Bool) (es : List Entry) (keys : List Word) → choice_of t (map (named name) es) keys ≡ option_map (named name) (found t es keys)
found_named name t [] keys = refl
found_named name t (e ∷ es) keys = ap (λ o. if fits_keys e.keys keys then Some (higher t (named name e) o) else o) (found_named name t es keys) ∙ go (fits_keys e.keys keys) (found t es keys)
  where
    pick : (b : Bool) (f : Entry) → (if b then named name f else named name e) ≡ named name (if b then f else e)
    pick true f = refl
    pick false f = refl

    go : (b : Bool) (o : Option Entry) → (if b then Some (higher t (named name e) (option_map (named name) o)) else option_map (named name) o) ≡ option_map (named name) (if b then Some (above t e o) else o)
    go true None = refl
    go true (Some f) = ap Some (pick (nat_lt (rank t e) (rank t f)) f)
    go false o = refl

-- what holds of all entries holds of the one that is found
pub found_holds : (P : Entry → Type 0) (t : Bool) (es : List Entry) (keys : List Word) (e : Entry) → AllByRecursion P es → found t es keys ≡ Some e → P e
found_holds P t [] keys e h is = absurd (cc is)
found_holds P t (x ∷ xs) keys e h is = go (λ f at. found_holds P t xs keys f h.1 at) (fits_keys x.keys keys) (found t xs keys) refl is
  where
    some_is : (c d : Entry) → Some c ≡ Some d → c ≡ d
    some_is c d k = cc k

    pick : (b : Bool) (f : Entry) → P f → P (if b then f else x)
    pick true f p = p
    pick false f p = h.0

    go : ((f : Entry) → found t xs keys ≡ Some f → P f) → (b : Bool) (o : Option Entry) → found t xs keys ≡ o → (if b then Some (above t x o) else o) ≡ Some e → P e
    go rest true None at k = subst P (some_is x e k) h.0
    go rest true (Some f) at k = subst P (some_is (above t x (Some f)) e k) (pick (nat_lt (rank t x) (rank t f)) f (rest f at))
    go rest false None at k = absurd (cc k)
    go rest false (Some f) at k = rest e (at ∙ k)
