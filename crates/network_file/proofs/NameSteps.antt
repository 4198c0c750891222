-- A name beside the table of the names before it, and names that are there or not.
use Rattle.std.proofs.Common.{◌≡◌, ℕ, ◌+◌, subst, Bool, true, false, cond, not, ◌||◌, List, [], ◌∷◌, ◌++◌, Ok, Err, String, Global, string_bytes, refl, sym, ap, ◌∙◌}
use Rattle.std.specs.Prelude.{◌↔◌, ◌≢◌, All, AllPairs, Option, IsNone, is_some}
use Rattle.std.specs.List.{list_any}
use Rattle.std.specs.Str.{bytes_eq}
use Rattle.std.proofs.lemmas.List.Elements.{All-nil, All-cons, All-head, All-tail}
use Rattle.std.proofs.lemmas.Slice.Eq.{bytes_eq-Decides}
use Rattle.std.proofs.lemmas.Bool.{false_from_ne_true, both_ways}
use Rattle.std.proofs.lemmas.List.Quantifiers.{all_pairs_push}
use Rattle.json_parts.specs.Answers.{◌>>=◌}
use Rattle.json_parts.specs.Turns.{in_turn}
use Rattle.json_parts.specs.Views.{owned}
use Rattle.json_parts.proofs.NameLemmas.{any_owned, owned_push}
use Rattle.network_file.specs.declared.fault.NetworkFault.TheVariants as fault
use Rattle.network_file.specs.Named.{switch_path}
use Rattle.network_file.specs.Network.{with_name}

abbrev is_there : List (String Global) → String Global → Bool
is_there ks k = list_any (λ x. bytes_eq (string_bytes k) (string_bytes x)) ks

pub not_true : (b : Bool) → not b ≡ true → b ≡ false
not_true true e = absurd cc
not_true false e = refl

pub not_false : (b : Bool) → not b ≡ false → b ≡ true
not_false true e = refl
not_false false e = absurd cc

-- `added` is what the table answers, `new` its keys afterwards
module _ (ks : List (String Global)) (k : String Global) (added : Bool) (i : ℕ) (name : List ℕ) (same : string_bytes k ≡ name) (answer : added ≡ not (is_there ks k)) where
  -- a name that is new
  pub with_new_name : (new : List (String Global)) → new ≡ cond (is_there ks k) ks (ks ++ k ∷ []) → added ≡ true → with_name (owned ks) i name ≡ Ok (owned new)
  with_new_name new n fresh =
      let absent : is_there ks k ≡ false = not_true _ (sym answer ∙ fresh) in
      let here : list_any (bytes_eq name) (owned ks) ≡ false = rw (← same) (sym (any_owned (string_bytes k) ks) ∙ absent) in
      let keys : owned new ≡ owned ks ++ name ∷ [] = rw (← same) (ap owned (n ∙ ap (λ (b : Bool). cond b ks (ks ++ k ∷ [])) absent) ∙ owned_push ks k) in
      rw (here, keys) refl

  -- a name that stood before
  pub with_old_name : added ≡ false → with_name (owned ks) i name ≡ Err (fault.NameTwice (switch_path i))
  with_old_name old =
      let there : is_there ks k ≡ true = not_false _ (sym answer ∙ old) in
      let here : list_any (bytes_eq name) (owned ks) ≡ true = rw (← same) (sym (any_owned (string_bytes k) ks) ∙ there) in
      rw here refl

-- no name is this one, exactly where the test finds none
module _ (name : List ℕ) where
  neither : (a b : Bool) → (a || b) ≡ false → (a ≡ false) × (b ≡ false)
  neither true b e = absurd cc
  neither false b e = (refl, e)

  differs : (known : List ℕ) → bytes_eq name known ≡ false → known ≢ name
  differs known e same = both_ways (bytes_eq name known) e ((bytes_eq-Decides name known).1 (sym same))

  found_false : (known : List ℕ) → known ≢ name → bytes_eq name known ≡ false
  found_false known other = false_from_ne_true _ (λ t. other (sym ((bytes_eq-Decides name known).0 t)))

  none_before : (names : List (List ℕ)) → list_any (bytes_eq name) names ≡ false → All (λ known. known ≢ name) names
  none_before [] e = All-nil (λ known. known ≢ name)
  none_before (n ∷ ns) e =
      let parts = neither _ _ e in
      All-cons (λ known. known ≢ name) n ns (differs n parts.0) (none_before ns parts.1)

  none_after : (names : List (List ℕ)) → All (λ known. known ≢ name) names → list_any (bytes_eq name) names ≡ false
  none_after [] h = refl
  none_after (n ∷ ns) h =
      rw (found_false n (All-head (λ known. known ≢ name) n ns h)) (none_after ns (All-tail (λ known. known ≢ name) n ns h))

  pub none_is : (r : Option ℕ) (names : List (List ℕ)) → is_some r ≡ list_any (bytes_eq name) names → IsNone r ↔ All (λ known. known ≢ name) names
  none_is r names e = (λ none. none_before names (sym e ∙ none), λ all. e ∙ none_after names all)

-- the names are all different
abbrev AreDifferent : List (List ℕ) → Type 0
AreDifferent names = AllPairs (λ one other. one ≢ other) names

pub names_differ : (found : List (List ℕ)) (i : ℕ) (names all : List (List ℕ)) → AreDifferent found → in_turn with_name found i names ≡ Ok all → AreDifferent all
unfolding in_turn
names_differ found i [] all h e =
    let is : found ≡ all = cc in subst AreDifferent is h
names_differ found i (n ∷ ns) all h e = by (λ k more. names_differ (found ++ n ∷ []) (i + 1) ns all k more) (list_any (bytes_eq n) found) refl e
  where
    by : (AreDifferent (found ++ n ∷ []) → in_turn with_name (found ++ n ∷ []) (i + 1) ns ≡ Ok all → AreDifferent all) → (b : Bool) → list_any (bytes_eq n) found ≡ b
        → (cond b (Err (fault.NameTwice (switch_path i))) (Ok (found ++ n ∷ [])) >>= λ more. in_turn with_name more (i + 1) ns) ≡ Ok all → AreDifferent all
    by again true is r = absurd cc
    by again false is r = again (all_pairs_push (λ one other. one ≢ other) found n h (none_before n found is)) r
