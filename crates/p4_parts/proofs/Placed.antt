-- The places of names, and what is at them.
use Rattle.std.proofs.Common.{◌≡◌, ℕ, suc, ◌+◌, ◌<◌, ◌≤◌, nat_lt, Bool, true, false, cond, List, [], ◌∷◌, ◌++◌, map, length, get_or, slice_get, Option, Some, None, is_some, String, string_bytes, option_map, refl, sym, ap, ◌∙◌, arith, if◌then◌else◌}
use Rattle.std.proofs.lemmas.List.{length-map}
use Rattle.std.proofs.lemmas.Bool.{ltb-false}
use Rattle.std.proofs.lemmas.Option.{same_Some, slice_get-get_or}
use Rattle.std.proofs.lemmas.Slice.Eq.{bytes_eq-Decides}
use Rattle.std.specs.Option.{option_or}
use Rattle.std.specs.declared.alloc.Global.{Global}
use Rattle.indexmap.specs.IndexMap.{insert_entry}
use Rattle.lex_text.specs.Names.{same_text}
use Rattle.p4_meaning.specs.Actions as actions
use Rattle.p4_meaning.specs.Actions.{action_named}
use Rattle.p4_resolved.specs.Rows.{at_name}
use Rattle.p4_resolved.proofs.Rows.{same_keys, set_entry, flip}
use Rattle.p4_parts.specs.PartsIn.{action_in}
use Rattle.p4_parts.specs.Places.{first_in, Tells, action_names}
use Rattle.p4_parts.specs.declared.parts.Action.{Action}

texts : (a x : List ℕ) → same_text a x ≡ true → a ≡ x
texts a x h = (bytes_eq-Decides a x).0 h

-- what is at a place of actions
abbrev pub at_place : List Action → Option ℕ → Option actions.Action
at_place as' None = None
at_place as' (Some n) = option_map action_in (slice_get as' n)

-- ---- one name more

first_more : (ys : List (List ℕ)) (y x : List ℕ) → first_in (ys ++ y ∷ []) x ≡ option_or (first_in ys x) (if same_text y x then Some (length ys) else None)
first_more [] y x = by (same_text y x)
  where
    by : (b : Bool) → (if b then Some 0 else option_map suc None) ≡ (if b then Some 0 else None)
    by true = refl
    by false = refl
first_more (z ∷ zs) y x = by (same_text z x) (first_more zs y x)
  where
    shift : (b : Bool) (o : Option ℕ) → option_map suc (option_or o (if b then Some (length zs) else None)) ≡ option_or (option_map suc o) (if b then Some (suc (length zs)) else None)
    shift b (Some n) = refl
    shift true None = refl
    shift false None = refl

    by : (b : Bool) → first_in (zs ++ y ∷ []) x ≡ option_or (first_in zs x) (if same_text y x then Some (length zs) else None)
        → (if b then Some 0 else option_map suc (first_in (zs ++ y ∷ []) x)) ≡ option_or (if b then Some 0 else option_map suc (first_in zs x)) (if same_text y x then Some (suc (length zs)) else None)
    by true rest = refl
    by false rest = ap (option_map suc) rest ∙ shift (same_text y x) (first_in zs x)

-- a name that stands already
pub tells_again : (es : List (String Global × ℕ)) (names : List (List ℕ)) (y z : List ℕ) → z ≡ y → true ≡ is_some (at_name es z) → Tells es names → Tells es (names ++ y ∷ [])
tells_again es names y z same there told x =
    told x ∙ by (same_text y x) refl (first_in names x) refl ∙ sym (first_more names y x)
  where
    none : {P : Type 0} → same_text y x ≡ true → first_in names x ≡ None → P
    none t f =
        let is : true ≡ false =
        there ∙ ap is_some (ap (at_name es) (same ∙ texts y x t) ∙ told x ∙ f) in
        absurd (let n : true ≡ false = is in cc)

    by : (b : Bool) → same_text y x ≡ b → (o : Option ℕ) → first_in names x ≡ o → o ≡ option_or o (if b then Some (length names) else None)
    by b t (Some n) f = refl
    by false t None f = refl
    by true t None f = none t f

-- a new name
pub tells_more : (es fs : List (String Global × ℕ)) (names : List (List ℕ)) (y z : List ℕ) (key : String Global) (n : ℕ) → z ≡ y → false ≡ is_some (at_name es z) → string_bytes key ≡ y → n ≡ length names
    → fs ≡ insert_entry same_keys es key n → Tells es names → Tells fs (names ++ y ∷ [])
tells_more es fs names y z key n same out named count set told x =
    ap (λ l. at_name l x) set ∙ set_entry es key n x
    ∙ ap (λ (b : Bool). cond b (Some n) (at_name es x)) (flip x (string_bytes key) ∙ ap (λ k. same_text k x) named)
    ∙ ap (λ (o : Option ℕ). cond (same_text y x) (Some n) o) (told x)
    ∙ ap (λ (m : ℕ). cond (same_text y x) (Some m) (first_in names x)) count
    ∙ by (same_text y x) refl (first_in names x) refl ∙ sym (first_more names y x)
  where
    some : {P : Type 0} (m : ℕ) → same_text y x ≡ true → first_in names x ≡ Some m → P
    some m t f =
        let is : false ≡ true =
        out ∙ ap is_some (ap (at_name es) (same ∙ texts y x t) ∙ told x ∙ f) in
        absurd (let n : false ≡ true = is in cc)

    by : (b : Bool) → same_text y x ≡ b → (o : Option ℕ) → first_in names x ≡ o → cond b (Some (length names)) o ≡ option_or o (if b then Some (length names) else None)
    by true t (Some m) f = some m t f
    by true t None f = refl
    by false t (Some m) f = refl
    by false t None f = refl

-- ---- what is at the place of a name

pub place_of_named : (as' : List Action) (x : List ℕ) (o : Option ℕ) → first_in (action_names as') x ≡ o → at_place as' o ≡ action_named (map action_in as') x
place_of_named [] x o is = ap (at_place []) (sym is)
place_of_named (a ∷ as') x o is = ap (at_place (a ∷ as')) (sym is) ∙ by (same_text a.name x) (place_of_named as' x (first_in (action_names as') x) refl)
  where
    shift : (p : Option ℕ) → at_place (a ∷ as') (option_map suc p) ≡ at_place as' p
    shift None = refl
    shift (Some n) = refl

    by : (b : Bool) → at_place as' (first_in (action_names as') x) ≡ action_named (map action_in as') x
        → at_place (a ∷ as') (if b then Some 0 else option_map suc (first_in (action_names as') x)) ≡ (if b then Some (action_in a) else action_named (map action_in as') x)
    by true rest = refl
    by false rest = shift (first_in (action_names as') x) ∙ rest

first_within : (ys : List (List ℕ)) (x : List ℕ) (n : ℕ) → first_in ys x ≡ Some n → n < length ys
first_within [] x n h = absurd (let f : None ≡ Some n = h in cc)
first_within (y ∷ ys) x n h = by (same_text y x) (first_in ys x) (first_within ys x) h
  where
    by : (b : Bool) (o : Option ℕ) → ((m : ℕ) → o ≡ Some m → m < length ys) → (if b then Some 0 else option_map suc o) ≡ Some n → n < length (y ∷ ys)
    by true o rest e = let is : 0 ≡ n = same_Some 0 n e in omega (arith, is)
    by false (Some m) rest e = let is : suc m ≡ n = same_Some (suc m) n e in let lt : m < length ys = rest m refl in omega (arith, is, lt)
    by false None rest e = absurd (let f : None ≡ Some n = e in cc)

pub place_within : (as' : List Action) (x : List ℕ) (n : ℕ) → first_in (action_names as') x ≡ Some n → n < length as'
place_within as' x n h = let lt : n < length (action_names as') = first_within (action_names as') x n h in let same : length (action_names as') ≡ length as' = length-map as' (λ (a : Action). a.name) in omega (arith, lt, same)

pub named_there : (as' : List Action) (x : List ℕ) (n : ℕ) (a : Action) → first_in (action_names as') x ≡ Some n → a ≡ get_or as' n a → Some (action_in a) ≡ action_named (map action_in as') x
named_there as' x n a h is =
    ap (option_map action_in) (sym (slice_get-get_or as' n a (place_within as' x n h) ∙ ap Some (sym is))) ∙ place_of_named as' x (Some n) h

pub named_past : {P : Type 0} (as' : List Action) (x : List ℕ) (n : ℕ) → first_in (action_names as') x ≡ Some n → false ≡ nat_lt n (length as') → P
named_past as' x n h past =
    let lt : n < length as' = place_within as' x n h in
    let le : length as' ≤ n = ltb-false n (length as') (sym past) in
    absurd (omega (arith, lt, le))

pub named_nowhere : (as' : List Action) (x : List ℕ) → first_in (action_names as') x ≡ None → None ≡ action_named (map action_in as') x
named_nowhere as' x h = place_of_named as' x None h

-- ---- how many stand before the first

abbrev pub place_or : ℕ → Option ℕ → ℕ
place_or count None = count
place_or count (Some n) = n

pub place_step : (count place : ℕ) (b : Bool) (o : Option ℕ) → place_or count o ≡ place → place_or (suc count) (cond b (Some 0) (option_map suc o)) ≡ cond b 0 (suc place)
place_step count place true o rest = refl
place_step count place false None rest = ap suc rest
place_step count place false (Some n) rest = ap suc rest
