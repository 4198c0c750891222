-- What a table of marks holds where one more goes behind those before.
use Rattle.std.proofs.Common.{◌≡◌, ℕ, ◌+◌, ◌<◌, Bool, true, false, cond, List, [], ◌∷◌, ◌++◌, map, take, length, get_or, Option, Some, None, is_some, String, Global, string_bytes, append_assoc, refl, sym, ap, subst, ◌∙◌}
use Rattle.std.specs.Option.{option_or}
use Rattle.std.specs.Str.{bytes_eq}
use Rattle.std.proofs.lemmas.List.{append-nil}
use Rattle.std.proofs.lemmas.Slice.Eq.{bytes_eq-Decides}
use Rattle.lex_text.specs.Names.{same_text}
use Rattle.p4_types.specs.Kept.{at_name}
use Rattle.p4_types.proofs.Numbered.{flip, map_more}
use Rattle.exit_rewriting.specs.Marks.{Mark, marked, first_mark, mark_at, AreMarks, Adds, from_each}
use Rattle.exit_rewriting.specs.declared.marks.Marks.{Marks}

-- ---- the first of a name

pub first_both : (xs ys : List Mark) (x : List ℕ) → first_mark (xs ++ ys) x ≡ option_or (first_mark xs x) (first_mark ys x)
first_both [] ys x = refl
first_both (m ∷ xs) ys x = step (same_text m.name x) (first_both xs ys x)
  where
    step : (b : Bool) → first_mark (xs ++ ys) x ≡ option_or (first_mark xs x) (first_mark ys x)
        → cond b (Some m.value) (first_mark (xs ++ ys) x) ≡ option_or (cond b (Some m.value) (first_mark xs x)) (first_mark ys x)
    step true h = refl
    step false h = h

or_nothing : (o : Option Bool) → o ≡ option_or o None
or_nothing None = refl
or_nothing (Some b) = refl

entry_more : (es : List (String Global × Bool)) (k : String Global) (v : Bool) (x : List ℕ) → at_name (es ++ (k, v) ∷ []) x ≡ option_or (at_name es x) (cond (bytes_eq x (string_bytes k)) (Some v) None)
entry_more [] k v x = refl
entry_more (e ∷ es) k v x = step (bytes_eq x (string_bytes e.0)) (entry_more es k v x)
  where
    step : (b : Bool) → at_name (es ++ (k, v) ∷ []) x ≡ option_or (at_name es x) (cond (bytes_eq x (string_bytes k)) (Some v) None)
        → cond b (Some e.1) (at_name (es ++ (k, v) ∷ []) x) ≡ option_or (cond b (Some e.1) (at_name es x)) (cond (bytes_eq x (string_bytes k)) (Some v) None)
    step true h = refl
    step false h = h

pub not_there : (o : Option Bool) → is_some o ≡ false → o ≡ None
not_there None h = refl
not_there (Some b) h = absurd (let c : true ≡ false = h in cc)

-- ---- one name more

-- a name that is new
pub add_new : (m n : Marks) (k : String Global) (v : Bool) → n.table.entries ≡ m.table.entries ++ (k, v) ∷ [] → Adds m n (marked (string_bytes k) v ∷ [])
add_new m n k v entries all so x =
    ap (λ es. at_name es x) entries
    ∙ entry_more m.table.entries k v x
    ∙ ap (λ (o : Option Bool). option_or o (cond (bytes_eq x (string_bytes k)) (Some v) None)) (so x)
    ∙ ap (λ (b : Bool). option_or (first_mark all x) (cond b (Some v) None)) (flip x (string_bytes k))
    ∙ sym (first_both all (marked (string_bytes k) v ∷ []) x)

-- a name that is there
pub add_again : (m : Marks) (y : List ℕ) (v : Bool) → is_some (mark_at m y) ≡ true → Adds m m (marked y v ∷ [])
add_again m y v there all so x = so x ∙ kept (first_mark all x) refl (same_text y x) refl ∙ sym (first_both all (marked y v ∷ []) x)
  where
    kept : (o : Option Bool) → first_mark all x ≡ o → (b : Bool) → same_text y x ≡ b → first_mark all x ≡ option_or (first_mark all x) (cond (same_text y x) (Some v) None)
    kept (Some w) e b f = e ∙ sym (ap (λ (o : Option Bool). option_or o (cond (same_text y x) (Some v) None)) e)
    kept None e false f = or_nothing (first_mark all x) ∙ ap (λ (b : Bool). option_or (first_mark all x) (cond b (Some v) None)) (sym f)
    kept None e true f =
        let same : y ≡ x = (bytes_eq-Decides y x).0 f in
        absurd (let c : false ≡ true = sym (ap (λ (o : Option Bool). is_some o) e) ∙ sym (ap (λ (o : Option Bool). is_some o) (so x)) ∙ ap (λ z. is_some (mark_at m z)) (sym same) ∙ there in cc)

-- ---- what each item of a list gives

pub each_push : {A : Type 0} (f : A → List Mark) (xs : List A) (a : A) → from_each f (xs ++ a ∷ []) ≡ from_each f xs ++ f a
each_push f [] a = append-nil (f a)
each_push f (x ∷ xs) a = ap (λ ms. f x ++ ms) (each_push f xs a) ∙ sym (append_assoc (f x) (from_each f xs) (f a))

module _ {A B : Type 0} (f : B → List Mark) (view : A → B) (xs : List A) where
  pub each_next : (i : ℕ) (x : A) → i < length xs → x ≡ get_or xs i x → from_each f (map view (take i xs)) ++ f (view x) ≡ from_each f (map view (take (i + 1) xs))
  each_next i x lt is = sym (ap (from_each f) (map_more view xs i x lt is) ∙ each_push f (map view (take i xs)) (view x))

  pub are_next : (m n : Marks) (i : ℕ) (x : A) → i < length xs → x ≡ get_or xs i x → AreMarks m (from_each f (map view (take i xs))) → Adds m n (f (view x)) → AreMarks n (from_each f (map view (take (i + 1) xs)))
  are_next m n i x lt is so more =
      let P : List Mark → Type 0 = λ ms. AreMarks n ms in
      subst P (each_next i x lt is) (more (from_each f (map view (take i xs))) so)
