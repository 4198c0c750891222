-- Operands that are joined: the turns of a chain, what it rests on, and what it says of the lexemes, for any table of levels and any trees.
use Rattle.std.proofs.Common.{◌≡◌, ℕ, zero, suc, ◌+◌, ◌-◌, ◌≤◌, ◌<◌, Bool, true, false, cond, List, [], ◌∷◌, ◌++◌, length, Option, Some, None, Ok, Err, refl, sym, ap, subst, ◌∙◌, arith, append_assoc, length-append}
use Rattle.std.proofs.lemmas.List.{append-nil}
use Rattle.std.proofs.lemmas.Bool.{eqb-true, leb-true, leb-false, le-leb, lt-leb}
use Rattle.std.specs.Prelude.{slice_get, nat_le, ◌==◌}
use Rattle.lex_words.specs.declared.key.Key.{Key}
use Rattle.lex_words.specs.Seen.{Lexeme, key, key_in}
use Rattle.lex_words.specs.Brackets.{left_by}
use Rattle.lex_words.specs.Reading.{high, Read, ◌>>=◌, look}
use Rattle.lex_words.specs.Joins.{of_level, join_in, turn, chain}
use Rattle.lex_words.proofs.KeyCodes.{at_key-is, found_is_key}
use Rattle.lex_words.proofs.Standing.{Stands-length}
use Rattle.lex_words.proofs.Locality.{Follows, Follows-bind, Follows-later, Follows-spent, Follows-ok, Follows-look}
use Rattle.lex_words.proofs.Spelled.{Reads, Reads-bind, Reads-map, Reads-lexeme, Reads-high, Reads-ok, Reads-spent, Reads-cond}

-- ---- what a key joins

abbrev pub level_join : {J : Type 0} → ℕ → J → Option (ℕ × J)
level_join l x = Some (l, x)

module _ {J : Type 0} where
  of_level-test : (m d : ℕ) (x y : J) (t : Bool) → (t ≡ true → d ≡ m) → cond t (Some y) None ≡ Some x → level_join d y ≡ level_join m x
  of_level-test m d x y true eq f = let z = eq refl in let s : y ≡ x = cc in ap (λ i. level_join i y) z ∙ ap (level_join m) s
  of_level-test m d x y false eq f = absurd cc

  of_level-is : (m : ℕ) (o : Option (ℕ × J)) (x : J) → of_level m o ≡ Some x → o ≡ level_join m x
  of_level-is m None x e = absurd cc
  of_level-is m (Some (d, y)) x e = of_level-test m d x y (d == m) (eqb-true d m) e

  module _ (table : Key → Option (ℕ × J)) where
    join_key : (l : ℕ) (o : Option Key) (x : J) → join_in table l o ≡ Some x → (k : Key) × (o ≡ Some k) × (table k ≡ level_join l x)
    join_key l None x e = absurd cc
    join_key l (Some k) x e = (k, refl, of_level-is l (table k) x e)

    -- the lexeme of what joins
    pub join_lexeme : (l : ℕ) (o : Option Lexeme) (x : J) → join_in table l (key_in o) ≡ Some x → (k : Key) × (o ≡ Some (key k)) × (table k ≡ level_join l x)
    join_lexeme l o x e =
        let k = join_key l (key_in o) x e in
        (k.0, at_key-is k.0 o (found_is_key k.0 o k.1), k.2)

    -- what joins in one list joins in the same list
    pub join_along : (l : ℕ) (vs ws : List Lexeme) (q : ℕ) (o : Option J) → vs ≡ ws → o ≡ join_in table l (key_in (slice_get vs q)) → join_in table l (key_in (slice_get ws q)) ≡ o
    join_along l vs ws q o same e = ap (λ v. join_in table l (key_in (slice_get v q))) (sym same) ∙ sym e

module _ {T J : Type 0} (table : Key → Option (ℕ × J)) (height : T → ℕ) where
  -- ---- the turns

  module _ (right : (l p : ℕ) → T → J → ℕ → Read T) (ws : List Lexeme) (h l p : ℕ) where
    abbrev Chain : ℕ → T → ℕ → Read T
    Chain k a q = chain table height right ws h l p k a q

    pub chain_ends : (k q : ℕ) (a : T) → 0 < k → join_in table (l + 1) (key_in (slice_get ws q)) ≡ None → Chain k a q ≡ Ok (a, q)
    unfolding chain
    chain_ends zero q a lt e = absurd (omega arith)
    chain_ends (suc k) q a lt e = rw e refl

    pub chain_high : (k q : ℕ) (a : T) (x : J) → 0 < k → join_in table (l + 1) (key_in (slice_get ws q)) ≡ Some x → h ≤ height a → Chain k a q ≡ Err (high q)
    unfolding chain
    chain_high zero q a x lt e le = absurd (omega arith)
    chain_high (suc k) q a x lt e le = let t : nat_le h (height a) ≡ true = le-leb h (height a) le in rw (e, t) refl

    pub chain_goes_on : (k q : ℕ) (a : T) (x : J) → 0 < k → join_in table (l + 1) (key_in (slice_get ws q)) ≡ Some x → height a < h → Chain k a q ≡ (right l p a x (q + 1) >>= λ y. Chain (k - 1) y.0 y.1)
    unfolding chain
    chain_goes_on zero q a x lt e le = absurd (omega arith)
    chain_goes_on (suc k) q a x lt e le =
        let t : nat_le h (height a) ≡ false = lt-leb h (height a) le in
        let j : suc k - 1 ≡ k = omega arith in
        rw (e, t, j) refl

  -- ---- what it rests on

  module _ (ws vs : List Lexeme) (Hs Bs : Type 0) (h j : ℕ) (le : h ≤ j) (hs : Hs → h ≡ j) (right right' : (l p : ℕ) → T → J → ℕ → Read T)
      (lower : (l p : ℕ) (a : T) (x : J) (i : ℕ) → Follows ws vs Hs Bs i (right l p a x i) (right' l p a x i)) where
    Follows-turn : (a : T) (i : ℕ) (o : Option J) (f g : J → Read T) → ((x : J) → Follows ws vs Hs Bs i (f x) (g x)) → Follows ws vs Hs Bs i (turn height h a i o f) (turn height j a i o g)
    Follows-turn a i None f g e = Follows-ok ws vs Hs Bs i i a (omega arith)
    Follows-turn a i (Some x) f g e = go (nat_le h (height a)) (nat_le j (height a)) (leb-true j (height a)) (λ v. ap (λ (y : ℕ). nat_le y (height a)) (hs v)) (le-leb h (height a))
      where
        go : (b c : Bool) → (c ≡ true → j ≤ height a) → (Hs → b ≡ c) → (h ≤ height a → b ≡ true) → Follows ws vs Hs Bs i (cond b (Err (high i)) (f x)) (cond c (Err (high i)) (g x))
        go true true p q r = record { shows = (omega arith, λ _ _. refl) }
        go true false p q r = record { shows = (omega arith, λ _ v. absurd (let e = q v in cc)) }
        go false true p q r = absurd (let e = r (omega (arith, p refl)) in cc)
        go false false p q r = e x

    pub Follows-chain : (l p k k' : ℕ) (a : T) (i : ℕ) → k ≤ k' → Follows ws vs Hs Bs i (chain table height right ws h l p k a i) (chain table height right' vs j l p k' a i)
    unfolding chain look
    Follows-chain l p zero k' a i kk = Follows-spent ws vs Hs Bs i _
    Follows-chain l p (suc k) zero a i kk = absurd (omega arith)
    Follows-chain l p (suc k) (suc k') a i kk =
        Follows-look ws vs Hs Bs i (λ o. turn height h a i (join_in table (l + 1) (key_in o)) (λ x. right l p a x (i + 1) >>= λ y. chain table height right ws h l p k y.0 y.1))
        (λ o. turn height j a i (join_in table (l + 1) (key_in o)) (λ x. right' l p a x (i + 1) >>= λ y. chain table height right' vs j l p k' y.0 y.1))
        (λ o. Follows-turn a i (join_in table (l + 1) (key_in o)) _ _ (λ x.
        Follows-later ws vs Hs Bs i _ _ (Follows-bind ws vs Hs Bs (i + 1) _ _ _ _ (lower l p a x (i + 1)) (λ y. Follows-chain l p k k' y.0 y.1 (omega arith)))))

-- ---- what it says of the lexemes

-- the shortest right side behind lexemes u and a key; m: the height of the left side
pub record Finish {T : Type 0} (S : T → List Lexeme → Type 0) (height : T → ℕ) (m : ℕ) (u : List Lexeme) (k : Key) : Type 0 where
  pub tree : T
  pub rest : List Lexeme
  pub spells : S tree (u ++ key k ∷ rest)
  pub tall : height tree ≤ m + 1

-- S: which lexemes spell a tree of a level from a place on. b: how many brackets may be opened, before a chain as behind it.
module _ {T J : Type 0} (table : Key → Option (ℕ × J)) (height : T → ℕ) (S : (l p : ℕ) → T → List Lexeme → Type 0) (plain : (k : Key) (x : ℕ × J) (b : ℕ) → table k ≡ Some x → left_by (key k) b ≡ Some b)
    (finish : (l p q : ℕ) (a : T) (k : Key) (x : J) (u : List Lexeme) → table k ≡ level_join (suc l) x → S (suc l) p a u → q ≡ p + length u → Finish (S (suc l) p) height (height a) u k)
    (right : (l p : ℕ) → T → J → ℕ → Read T) (ws : List Lexeme) (h b : ℕ)
    (sound : (l p i : ℕ) (a : T) (u : List Lexeme) (k : Key) (x : J) → table k ≡ level_join (suc l) x → S (suc l) p a u → i ≡ p + length u → height a < h
    → Reads ws (λ t v. S (suc l) p t (u ++ key k ∷ v)) (λ t. height t ≤ h) b b (i + 1) (right l p a x (i + 1))) where
  abbrev Low : T → Type 0
  Low t = height t ≤ h

  Reads-turn : (l p i : ℕ) (a : T) (u : List Lexeme) (o : Option J) (f : J → Read T) → S (suc l) p a u → i ≡ p + length u → height a ≤ h
      → ((x : J) → o ≡ Some x → (k : Key) × (slice_get ws i ≡ Some (key k)) × (table k ≡ level_join (suc l) x))
      → ((x : J) (k : Key) → slice_get ws i ≡ Some (key k) → table k ≡ level_join (suc l) x → height a < h → Reads ws (λ t v. S (suc l) p t (u ++ v)) Low b b i (f x))
      → Reads ws (λ t v. S (suc l) p t (u ++ v)) Low b b i (turn height h a i o f)
  Reads-turn l p i a u None f s e low is go = Reads-ok ws _ _ b i a (rw (append-nil u) s) low
  Reads-turn l p i a u (Some x) f s e low is go =
      let k = is x refl in
      let z = finish l p i a k.0 x u k.2 s e in
      Reads-cond ws _ _ b b i (nat_le h (height a)) (Err (high i)) (f x)
      (λ _. Reads-high ws _ _ b b i (key k.0) z.tree z.rest k.1 z.spells)
      (λ lt. go x k.0 k.1 k.2 (leb-false h (height a) lt))

  pub Reads-chain : (l p k i : ℕ) (a : T) (u : List Lexeme) → S (suc l) p a u → i ≡ p + length u → height a ≤ h
      → Reads ws (λ t v. S (suc l) p t (u ++ v)) Low b b i (chain table height right ws h l p k a i)
  unfolding chain
  Reads-chain l p zero i a u s e low = Reads-spent ws _ _ b b i
  Reads-chain l p (suc k) i a u s e low =
      Reads-turn l p i a u (join_in table (l + 1) (key_in (slice_get ws i))) _ s e low
      (λ x is. let j = join_lexeme table (l + 1) (slice_get ws i) x is in (j.0, j.1, j.2 ∙ ap (λ (y : ℕ). level_join y x) (omega arith)))
      (λ x y w o lt.
      let z = finish l p i a y x u o s e in
      Reads-lexeme ws _ _ b b b i (key y) _ w (plain y _ b o) (z.tree, z.rest, z.spells, omega (arith, z.tall, lt))
      (Reads-bind ws (λ t v. S (suc l) p t (u ++ key y ∷ v)) _ Low _ b b b (i + 1) _ _ (sound l p i a u y x o s e lt)
      (λ t v z. (t, [], rw (append-nil v) z, λ fits. fits))
      (λ t v st z low'.
      let long : t.1 ≡ p + length (u ++ key y ∷ v) = omega (arith, e, Stands-length ws (i + 1) t.1 v st, length-append u (key y ∷ v)) in
      Reads-map ws _ _ _ _ b b t.1 _ (λ r v' c. subst (λ q. S (suc l) p r q) (append_assoc u (key y ∷ v) v') c) (λ r c. c)
      (Reads-chain l p k t.1 t.0 (u ++ key y ∷ v) z long low'))))
