-- Paths and calls: what is read is spelled so.
use Rattle.std.proofs.Common.{◌≡◌, ℕ, zero, suc, ◌+◌, ◌-◌, ◌≤◌, Bool, true, false, cond, List, [], ◌∷◌, ◌++◌, length, Option, Some, None, refl, sym, ap, subst, ◌∙◌, arith, append_assoc}
use Rattle.std.proofs.lemmas.List.{append-nil}
use Rattle.std.proofs.lemmas.Bool.{eqb-true, ltb-false}
use Rattle.std.specs.Prelude.{slice_get, nat_lt, ◌==◌}
use Rattle.lex_text.specs.Names.{same_text, parent}
use Rattle.lex_words.specs.declared.key.Key.TheVariants.{Dot, Open, Close}
use Rattle.lex_words.specs.Seen.{Lexeme, name, key, at_key}
use Rattle.lex_words.specs.Reading.{more_of, named_at}
use Rattle.lex_words.proofs.Spelled.{Reads, Reads-bind, Reads-wrong, Reads-ok, Reads-spent, Reads-cond, Reads-either, Reads-expect, Reads-named, Reads-open}
use Rattle.p4_tree.specs.Tree.{Expr, path, valid, applied}
use Rattle.p4_tree.specs.Height.{expr_height}
use Rattle.p4_spelling.specs.Words.{valid_name, apply_name, outcome_name}
use Rattle.p4_spelling.specs.Expressions.{SpellsPath, last_name, then_names, SpellsPostfix, a_path, a_validity, an_application}
use Rattle.p4_expressions.specs.Reading.{last_of, calls, is_called, more_names_at, names_at, validity_at, application_at, applied_at, called_at, call_of, path_at}
use Rattle.p4_expressions.proofs.CompleteSteps.{path_some}
use Rattle.p4_expressions.proofs.SoundSteps.{some_name, Any, text_is, Reads-outcome}

-- ---- the last name of a path

-- the lexemes of a path of two names or more: those before the last name, and that name
pub record Split (xs : List (List ℕ)) (x : List ℕ) (u : List Lexeme) : Type 0 where
  pub front : List Lexeme
  pub spells : SpellsPath (parent xs) front
  pub same : u ≡ front ++ key Dot ∷ name x ∷ []

pub path_split : {xs : List (List ℕ)} {u : List Lexeme} → SpellsPath xs u → (x : List ℕ) → last_of xs ≡ Some x → 1 ≤ length (parent xs) → Split xs x u
path_split (last_name y) x e le = absurd (omega (arith, le))
path_split (then_names y (last_name z)) x e le = record { front = name y ∷ []; spells = last_name y; same = (let s : z ≡ x = (let f : Some z ≡ Some x = e in cc) in ap (λ r. name y ∷ key Dot ∷ name r ∷ []) s) }
path_split (then_names y (then_names z {xs = xs} {u = u} s)) x e le =
    let r = path_split (then_names z s) x e (longer xs (path_some s)) in
    record { front = name y ∷ key Dot ∷ r.front; spells = then_names y r.spells; same = ap (λ v. name y ∷ key Dot ∷ v) r.same }
  where
    longer : (xs : List (List ℕ)) → 1 ≤ length xs → 1 ≤ length (parent (z ∷ xs))
    longer [] le = absurd (omega (arith, le))
    longer (a ∷ rest) le = omega arith

-- the lexeme of a path of one name
pub path_single : {xs : List (List ℕ)} {u : List Lexeme} → SpellsPath xs u → (t : List ℕ) → length xs ≡ 1 → last_of xs ≡ Some t → u ≡ name t ∷ []
path_single (last_name x) t one e = let s : x ≡ t = (let f : Some x ≡ Some t = e in cc) in ap (λ r. name r ∷ []) s
path_single (then_names x s) t one e = absurd (omega (arith, one, path_some s))

-- ---- names that are called

pub length-parent : (xs : List (List ℕ)) → length (parent xs) ≡ length xs - 1
length-parent [] = omega arith
length-parent (x ∷ []) = omega arith
length-parent (x ∷ y ∷ rest) = omega (arith, length-parent (y ∷ rest))

pub called_long : (xs : List (List ℕ)) → is_called xs ≡ true → 2 ≤ length xs
called_long xs e = by (nat_lt (length xs) 2) (ltb-false (length xs) 2) e
  where
    by : (z : Bool) → (z ≡ false → 2 ≤ length xs) → cond z false (calls (length xs) (last_of xs)) ≡ true → 2 ≤ length xs
    by true f g = absurd cc
    by false f g = f refl

-- the last of them is `isValid`, or they are two and it is `apply`
pub called_apply : (xs : List (List ℕ)) (x : List ℕ) → last_of xs ≡ Some x → is_called xs ≡ true → same_text x valid_name ≡ false → (same_text x apply_name ≡ true) × (length xs ≡ 2)
called_apply xs x e is other = by (nat_lt (length xs) 2) (same_text x valid_name) (same_text x apply_name) (length xs == 2) other (eqb-true (length xs) 2)
    (ap (λ o. cond (nat_lt (length xs) 2) false (calls (length xs) o)) (sym e) ∙ is)
  where
    by : (z v a t : Bool) → v ≡ false → (t ≡ true → length xs ≡ 2) → cond z false (cond v true (cond a t false)) ≡ true → (a ≡ true) × (length xs ≡ 2)
    by true v a t f g h = absurd cc
    by false true a t f g h = absurd cc
    by false false true t f g h = (refl, g h)
    by false false false t f g h = absurd cc

module _ (ws : List Lexeme) (n : ℕ) where
  -- ---- names

  -- behind the name x
  Reads-more : (b k q : ℕ) (x : List ℕ) → Reads ws (λ xs v. SpellsPath (x ∷ xs) (name x ∷ v)) Any b b q (more_of ws Dot (named_at ws n) k q)
  unfolding more_of
  Reads-more b zero q x = Reads-spent ws _ _ b b q
  Reads-more b (suc k) q x =
      Reads-either ws _ _ b b b q Dot _ _ refl (some_name ∷ [], name some_name ∷ [], then_names x (last_name some_name), tt)
      (Reads-named ws n _ _ b b (q + 1) _ (λ y. (y ∷ [], [], then_names x (last_name y), tt)) (λ y w.
      Reads-bind ws (λ zs v. SpellsPath (y ∷ zs) (name y ∷ v)) _ Any _ b b b (q + 1 + 1) _ _ (Reads-more b k (q + 1 + 1) y)
      (λ zs v s. (y ∷ zs, [], rw (append-nil v) (then_names x s), λ _. tt))
      (λ z v st s _. Reads-ok ws _ _ b z.1 _ (rw (append-nil v) (then_names x s)) tt)))
      (Reads-ok ws _ _ b q [] (last_name x) tt)

  -- behind the first name x
  pub Reads-more_names : (b i : ℕ) (x : List ℕ) → Reads ws (λ xs v. SpellsPath xs (name x ∷ v)) Any b b i (more_names_at ws n x i)
  unfolding more_names_at
  Reads-more_names b i x =
      Reads-bind ws (λ xs v. SpellsPath (x ∷ xs) (name x ∷ v)) _ Any _ b b b i _ _ (Reads-more b n i x)
      (λ xs v s. (x ∷ xs, [], rw (append-nil v) s, λ _. tt))
      (λ y v st s _. Reads-ok ws _ _ b y.1 _ (rw (append-nil v) s) tt)

  pub Reads-names : (b i : ℕ) → Reads ws SpellsPath Any b b i (names_at ws n i)
  unfolding names_at
  Reads-names b i = Reads-named ws n _ _ b b i _ (λ x. (x ∷ [], [], last_name x, tt)) (λ x w. Reads-more_names b (i + 1) x)

  -- ---- calls. low: a node alone is not too high

  module _ (h b p : ℕ) (low : 1 ≤ h) where
    abbrev Low : Expr → Type 0
    Low t = expr_height t ≤ h

    -- u: the lexemes of the header and of `isValid`
    Reads-validity : (q : ℕ) (xs : List (List ℕ)) (u : List Lexeme) → SpellsPostfix p (valid p xs) (u ++ key Open ∷ key Close ∷ []) → Reads ws (λ t v. SpellsPostfix p t (u ++ v)) Low b b q (validity_at ws n b p xs q)
    unfolding validity_at
    Reads-validity q xs u s =
        Reads-open ws n _ _ b b q _ (valid p xs) (key Close ∷ []) s low (λ c e.
        Reads-expect ws _ _ c b b (q + 1) Close _ (valid p xs) [] (ap (λ (x : ℕ). Some x) (sym e)) s low
        (Reads-ok ws _ _ b (q + 1 + 1) _ s low))

    abbrev asked : Bool → List Lexeme
    asked hit = key Open ∷ key Close ∷ key Dot ∷ name (outcome_name hit) ∷ []

    -- u: the lexemes of the table and of `apply`
    Reads-application : (q : ℕ) (t : List ℕ) (u : List Lexeme) → ((hit : Bool) → SpellsPostfix p (applied p t hit) (u ++ asked hit)) → Reads ws (λ a v. SpellsPostfix p a (u ++ v)) Low b b q (application_at ws n b p t q)
    unfolding application_at
    Reads-application q t u s =
        Reads-open ws n _ _ b b q _ (applied p t true) (key Close ∷ key Dot ∷ name (outcome_name true) ∷ []) (s true) low (λ c e.
        Reads-expect ws _ _ c b b (q + 1) Close _ (applied p t true) (key Dot ∷ name (outcome_name true) ∷ []) (ap (λ (x : ℕ). Some x) (sym e)) (s true) low
        (Reads-expect ws _ _ b b b (q + 1 + 1) Dot _ (applied p t true) (name (outcome_name true) ∷ []) refl (s true) low
        (Reads-outcome ws n _ _ b b (q + 1 + 1 + 1) _ (λ hit. (applied p t hit, [], s hit, low)) (λ hit.
        Reads-ok ws _ _ b (q + 1 + 1 + 1 + 1) _ (s hit) low))))

    -- the names xs before `apply`
    Reads-applied : (q : ℕ) (xs : List (List ℕ)) (front u : List Lexeme) → SpellsPath xs front → length xs ≡ 1 → u ≡ front ++ key Dot ∷ name apply_name ∷ []
        → (o : Option (List ℕ)) → last_of xs ≡ o → Reads ws (λ a v. SpellsPostfix p a (u ++ v)) Low b b q (applied_at ws n b p o q)
    unfolding applied_at
    Reads-applied q xs front u s one same None e = Reads-wrong ws _ _ b b q
    Reads-applied q xs front u s one same (Some t) e =
        let f : u ≡ name t ∷ key Dot ∷ name apply_name ∷ [] = same ∙ ap (λ v. v ++ key Dot ∷ name apply_name ∷ []) (path_single s t one e) in
        Reads-application q t u (λ hit. subst (λ v. SpellsPostfix p (applied p t hit) (v ++ asked hit)) (sym f) (an_application t hit))

    -- `(` goes on behind the names xs
    Reads-called : (q : ℕ) (xs : List (List ℕ)) (x : List ℕ) (u : List Lexeme) → SpellsPath xs u → last_of xs ≡ Some x → is_called xs ≡ true → Reads ws (λ t v. SpellsPostfix p t (u ++ v)) Low b b q (called_at ws n b p (parent xs) x q)
    unfolding called_at
    Reads-called q xs x u s e is =
        let long : 1 ≤ length (parent xs) = omega (arith, called_long xs is, length-parent xs) in
        let r = path_split s x e long in
        Reads-cond ws _ _ b b q (same_text x valid_name) _ _
        (λ valid_is.
        let f : u ≡ r.front ++ key Dot ∷ name valid_name ∷ [] = r.same ∙ ap (λ y. r.front ++ key Dot ∷ name y ∷ []) (text_is x valid_name valid_is) in
        let g : u ++ key Open ∷ key Close ∷ [] ≡ r.front ++ key Dot ∷ name valid_name ∷ key Open ∷ key Close ∷ [] = ap (λ v. v ++ key Open ∷ key Close ∷ []) f ∙ append_assoc r.front (key Dot ∷ name valid_name ∷ []) (key Open ∷ key Close ∷ []) in
        Reads-validity q (parent xs) u (subst (λ v. SpellsPostfix p (valid p (parent xs)) v) (sym g) (a_validity r.spells)))
        (λ not_valid.
        let two = called_apply xs x e is not_valid in
        let alone : length (parent xs) ≡ 1 = omega (arith, two.1, length-parent xs) in
        Reads-applied q (parent xs) r.front u r.spells alone (r.same ∙ ap (λ y. r.front ++ key Dot ∷ name y ∷ []) (text_is x apply_name two.0)) (last_of (parent xs)) refl)

    Reads-call : (q : ℕ) (xs : List (List ℕ)) (u : List Lexeme) → SpellsPath xs u → (o : Option (List ℕ)) → last_of xs ≡ o → is_called xs ≡ true → Reads ws (λ t v. SpellsPostfix p t (u ++ v)) Low b b q (call_of ws n b p (parent xs) o q)
    unfolding call_of
    Reads-call q xs u s None e is = Reads-wrong ws _ _ b b q
    Reads-call q xs u s (Some x) e is = Reads-called q xs x u s e is

    pub Reads-path : Reads ws (SpellsPostfix p) Low b b p (path_at ws n b p)
    unfolding path_at
    Reads-path =
        Reads-bind ws SpellsPath _ Any _ b b b p _ _ (Reads-names b p)
        (λ xs u s. (path p xs, [], rw (append-nil u) (a_path s), λ _. low))
        (λ x u st s _. Reads-cond ws _ _ b b x.1 (at_key Open (slice_get ws x.1)) _ _
        (λ _. Reads-cond ws _ _ b b x.1 (is_called x.0) _ _
        (λ is. Reads-call x.1 x.0 u s (last_of x.0) refl is)
        (λ _. Reads-ok ws _ _ b x.1 _ (rw (append-nil u) (a_path s)) low))
        (λ _. Reads-ok ws _ _ b x.1 _ (rw (append-nil u) (a_path s)) low))
