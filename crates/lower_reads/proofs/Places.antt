-- The table of declarations' names, where one declaration goes behind the others.
use Rattle.std.proofs.Common.{◌≡◌, ℕ, suc, ◌+◌, ◌<◌, ◌≤◌, Bool, true, false, cond, List, [], ◌∷◌, ◌++◌, map, take, length, get_or, Option, Some, None, is_some, String, Global, string_bytes, refl, sym, ap, subst, ◌∙◌, arith}
use Rattle.std.specs.Option.{option_or}
use Rattle.std.specs.Str.{bytes_eq}
use Rattle.std.proofs.lemmas.Slice.Eq.{bytes_eq-Decides}
use Rattle.std.proofs.lemmas.List.{length-map, length-take-le}
use Rattle.lex_text.specs.Names.{same_text}
use Rattle.indus_tree.specs.Tree.{Decl}
use Rattle.indus_tree.specs.Hops.{variable_number, variable_number_from}
use Rattle.indus_tree.specs.View.{decl_of}
use Rattle.indus_tree.specs.declared.tree.Decl as code
use Rattle.p4_types.specs.Kept.{at_name}
use Rattle.p4_types.proofs.Numbered.{flip, map_more}
use Rattle.lower_reads.specs.Places.{HasPlaces}

entry_more : (es : List (String Global × ℕ)) (k : String Global) (v : ℕ) (x : List ℕ) → at_name (es ++ (k, v) ∷ []) x ≡ option_or (at_name es x) (cond (bytes_eq x (string_bytes k)) (Some v) None)
entry_more [] k v x = refl
entry_more (e ∷ es) k v x = step (bytes_eq x (string_bytes e.0)) (entry_more es k v x)
  where
    step : (b : Bool) → at_name (es ++ (k, v) ∷ []) x ≡ option_or (at_name es x) (cond (bytes_eq x (string_bytes k)) (Some v) None)
        → cond b (Some e.1) (at_name (es ++ (k, v) ∷ []) x) ≡ option_or (cond b (Some e.1) (at_name es x)) (cond (bytes_eq x (string_bytes k)) (Some v) None)
    step true h = refl
    step false h = h

-- a name that is new
pub new_place : (es new : List (String Global × ℕ)) (k : String Global) (v : ℕ) (name x : List ℕ) → string_bytes k ≡ name → new ≡ es ++ (k, v) ∷ []
    → at_name new x ≡ option_or (at_name es x) (cond (same_text name x) (Some v) None)
new_place es new k v name x named entries =
    ap (λ fs. at_name fs x) entries
    ∙ entry_more es k v x
    ∙ ap (λ (z : List ℕ). option_or (at_name es x) (cond (bytes_eq x z) (Some v) None)) named
    ∙ ap (λ (b : Bool). option_or (at_name es x) (cond b (Some v) None)) (flip x name)

-- a name that is there
pub old_place : (es : List (String Global × ℕ)) (v : ℕ) (name x : List ℕ) → is_some (at_name es name) ≡ true
    → at_name es x ≡ option_or (at_name es x) (cond (same_text name x) (Some v) None)
old_place es v name x there = kept (at_name es x) refl (same_text name x) refl
  where
    kept : (o : Option ℕ) → at_name es x ≡ o → (b : Bool) → same_text name x ≡ b → o ≡ option_or o (cond b (Some v) None)
    kept (Some w) e b f = refl
    kept None e false f = refl
    kept None e true f =
        let same : name ≡ x = (bytes_eq-Decides name x).0 f in
        absurd (let c : false ≡ true = sym (ap (λ (o : Option ℕ). is_some o) e) ∙ ap (λ (y : List ℕ). is_some (at_name es y)) (sym same) ∙ there in cc)

number_more : (n : ℕ) (ds : List Decl) (d : Decl) (x : List ℕ) → variable_number_from n (ds ++ d ∷ []) x ≡ option_or (variable_number_from n ds x) (cond (same_text d.name x) (Some (n + length ds)) None)
number_more n [] d x = let e : n ≡ n + 0 = omega arith in ap (λ (m : ℕ). cond (same_text d.name x) (Some m) None) e
number_more n (e ∷ ds) d x = step (same_text e.name x) (number_more (n + 1) ds d x)
  where
    step : (b : Bool) → variable_number_from (n + 1) (ds ++ d ∷ []) x ≡ option_or (variable_number_from (n + 1) ds x) (cond (same_text d.name x) (Some (n + 1 + length ds)) None)
        → cond b (Some n) (variable_number_from (n + 1) (ds ++ d ∷ []) x) ≡ option_or (cond b (Some n) (variable_number_from (n + 1) ds x)) (cond (same_text d.name x) (Some (n + suc (length ds))) None)
    step true h = refl
    step false h =
        let next : n + 1 + length ds ≡ n + suc (length ds) = omega arith in
        h ∙ ap (λ (m : ℕ). option_or (variable_number_from (n + 1) ds x) (cond (same_text d.name x) (Some m) None)) next

-- the next declaration of a list
pub next_place : (es new : List (String Global × ℕ)) (ds : List code.Decl) (i : ℕ) (d : code.Decl) → i < length ds → d ≡ get_or ds i d
    → HasPlaces es (map decl_of (take i ds))
    → ((x : List ℕ) → at_name new x ≡ option_or (at_name es x) (cond (same_text d.name x) (Some i) None))
    → HasPlaces new (map decl_of (take (i + 1) ds))
next_place es new ds i d lt is so step x =
    let many : 0 + length (map decl_of (take i ds)) ≡ i = (let a = length-map (take i ds) decl_of in let b = length-take-le i ds (omega arith) in omega arith) in
    step x
    ∙ ap (λ (o : Option ℕ). option_or o (cond (same_text d.name x) (Some i) None)) (so x)
    ∙ ap (λ (m : ℕ). option_or (variable_number (map decl_of (take i ds)) x) (cond (same_text d.name x) (Some m) None)) (sym many)
    ∙ sym (number_more 0 (map decl_of (take i ds)) (decl_of d) x)
    ∙ ap (λ es. variable_number es x) (sym (map_more decl_of ds i d lt is))
