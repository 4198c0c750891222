-- Words in fields: where they stay, and the store in which fields are filled with them.
use Rattle.std.proofs.Common.{◌≡◌, ℕ, List, [], ◌∷◌, ◌++◌, Bool, true, false, cond, ◌&&◌, refl, sym, ap, ◌∙◌}
use Rattle.std.specs.List.{AllByRecursion}
use Rattle.bit_values.specs.Bits.{Word, word}
use Rattle.bit_values.specs.Widths.{sound_width}
use Rattle.lex_text.specs.Names.{same_text, same_path, parent}
use Rattle.p4_meaning.specs.Store.{Store, set_value, zero_of, zeroed}
use Rattle.p4_meaning.specs.Pass.{zero_fields}
use Rattle.p4_meaning.specs.Parsing.{Field}
use Rattle.own_code.proofs.Apart.{text_decides}
use Rattle.monitor_laws.specs.Telemetry.{AreFor, HasWords, AreApart, zeros}

-- ---- fields below one path

and_true : (b : Bool) → (b && true) ≡ b
and_true true = refl
and_true false = refl

-- two names below one path are the same path where they are the same name
pub same_below : (p : List (List ℕ)) (n m : List ℕ) → same_path (p ++ n ∷ []) (p ++ m ∷ []) ≡ same_text n m
same_below [] n m = and_true (same_text n m)
same_below (x ∷ p) n m = ap (λ b. b && same_path (p ++ n ∷ []) (p ++ m ∷ [])) ((text_decides x x).1 refl) ∙ same_below p n m

-- a write elsewhere leaves words in their fields
pub has_set : (p : List (List ℕ)) (fs : List Field) (ws : List Word) (s : Store) (q : List (List ℕ)) (w : Word) → AllByRecursion (λ f. same_path q (p ++ f.name ∷ []) ≡ false) fs → HasWords p fs ws s → HasWords p fs ws (set_value s q w)
has_set p [] [] s q w o h = tt
has_set p [] (v ∷ ws) s q w o h = absurd h
has_set p (f ∷ fs) [] s q w o h = absurd h
has_set p (f ∷ fs) (v ∷ ws) s q w o h = (ap (λ b. cond b w (s.values (p ++ f.name ∷ []))) o.0 ∙ h.0, has_set p fs ws s q w o.1 h.1)

-- words stay where their fields' paths read the same
pub has_moved : (p : List (List ℕ)) (fs : List Field) (ws : List Word) (s s' : Store) → AllByRecursion (λ f. s'.values (p ++ f.name ∷ []) ≡ s.values (p ++ f.name ∷ [])) fs → HasWords p fs ws s → HasWords p fs ws s'
has_moved p [] [] s s' o h = tt
has_moved p [] (v ∷ ws) s s' o h = absurd h
has_moved p (f ∷ fs) [] s s' o h = absurd h
has_moved p (f ∷ fs) (v ∷ ws) s s' o h = (o.0 ∙ h.0, has_moved p fs ws s s' o.1 h.1)

-- a fact of all names
pub all_names : (P : List ℕ → Type 0) (fs : List Field) → ((n : List ℕ) → P n) → AllByRecursion (λ f. P f.name) fs
all_names P [] h = tt
all_names P (f ∷ fs) h = (h f.name, all_names P fs h)

-- or of those of a region
pub all_region : (Q : List ℕ → Bool) (P : List ℕ → Type 0) (fs : List Field) → ((n : List ℕ) → Q n ≡ true → P n) → AllByRecursion (λ f. Q f.name ≡ true) fs → AllByRecursion (λ f. P f.name) fs
all_region Q P [] h o = tt
all_region Q P (f ∷ fs) h o = (h f.name o.0, all_region Q P fs h o.1)

-- and where all names below the path read the same
pub has_same : (p : List (List ℕ)) (fs : List Field) (ws : List Word) (s s' : Store) → ((n : List ℕ) → s'.values (p ++ n ∷ []) ≡ s.values (p ++ n ∷ [])) → HasWords p fs ws s → HasWords p fs ws s'
has_same p fs ws s s' same h = has_moved p fs ws s s' (all_names (λ n. s'.values (p ++ n ∷ []) ≡ s.values (p ++ n ∷ [])) fs same) h

-- ---- fields that are filled

-- the store in which the fields hold the words
abbrev pub fill : List (List ℕ) → List Field → List Word → Store → Store
fill p [] ws s = s
fill p (f ∷ fs) [] s = s
fill p (f ∷ fs) (w ∷ ws) s = fill p fs ws (set_value s (p ++ f.name ∷ []) w)

-- fields of other paths are filled
pub fill_other : (p : List (List ℕ)) (fs : List Field) (ws : List Word) (s : Store) (q : List (List ℕ)) → AllByRecursion (λ f. same_path (p ++ f.name ∷ []) q ≡ false) fs → (fill p fs ws s).values q ≡ s.values q
fill_other p [] ws s q o = refl
fill_other p (f ∷ fs) [] s q o = refl
fill_other p (f ∷ fs) (w ∷ ws) s q o =
    fill_other p fs ws (set_value s (p ++ f.name ∷ []) w) q o.1 ∙ ap (λ b. cond b w (s.values q)) o.0

pub fill_headers : (p : List (List ℕ)) (fs : List Field) (ws : List Word) (s : Store) → (fill p fs ws s).headers ≡ s.headers
fill_headers p [] ws s = refl
fill_headers p (f ∷ fs) [] s = refl
fill_headers p (f ∷ fs) (w ∷ ws) s = fill_headers p fs ws (set_value s (p ++ f.name ∷ []) w)

turned : (p : List (List ℕ)) (n : List ℕ) (fs : List Field) → AllByRecursion (λ g. same_text n g.name ≡ false) fs → AllByRecursion (λ g. same_path (p ++ g.name ∷ []) (p ++ n ∷ []) ≡ false) fs
turned p n [] o = tt
turned p n (g ∷ fs) o = (same_below p g.name n ∙ swapped (same_text g.name n) refl, turned p n fs o.1)
  where
    swapped : (b : Bool) → same_text g.name n ≡ b → same_text g.name n ≡ false
    swapped true e = absurd (let is : true ≡ false = sym ((text_decides n g.name).1 (sym ((text_decides g.name n).0 e))) ∙ o.0 in cc)
    swapped false e = e

-- words in the fields that they filled
pub fill_has : (p : List (List ℕ)) (fs : List Field) (ws : List Word) (s : Store) → AreApart fs → AreFor fs ws → HasWords p fs ws (fill p fs ws s)
fill_has p [] [] s a h = tt
fill_has p [] (w ∷ ws) s a h = absurd h
fill_has p (f ∷ fs) [] s a h = absurd h
fill_has p (f ∷ fs) (w ∷ ws) s a h =
    let q = p ++ f.name ∷ [] in
    let t = set_value s q w in
    (fill_other p fs ws t q (turned p f.name fs a.0) ∙ ap (λ b. cond b w (s.values q)) (same_below p f.name f.name ∙ (text_decides f.name f.name).1 refl), fill_has p fs ws t a.1 h.2)

-- fields that are 0 are filled with zeros
pub zero_is : (p : List (List ℕ)) (fs : List Field) (s : Store) → zero_fields p fs s ≡ fill p fs (zeros fs) s
zero_is p [] s = refl
zero_is p (f ∷ fs) s = zero_is p fs (set_value s (p ++ f.name ∷ []) (word (sound_width f.width) 0))

-- zeros that were filled in
pub zeros_has : (p : List (List ℕ)) (fs : List Field) (s : Store) → AreApart fs → HasWords p fs (zeros fs) (fill p fs (zeros fs) s)
zeros_has p [] s a = tt
zeros_has p (f ∷ fs) s a =
    let q = p ++ f.name ∷ [] in
    let w = word (sound_width f.width) 0 in
    let t = set_value s q w in
    (fill_other p fs (zeros fs) t q (turned p f.name fs a.0) ∙ ap (λ b. cond b w (s.values q)) (same_below p f.name f.name ∙ (text_decides f.name f.name).1 refl), zeros_has p fs t a.1)

-- zeros stay where a header's fields become 0
zero_word : (b : Bool) (n : ℕ) (v : Word) → v ≡ word n 0 → cond b (zero_of v) v ≡ word n 0
zero_word true n v e = ap zero_of e
zero_word false n v e = e

pub zeros_zeroed : (p h : List (List ℕ)) (fs : List Field) (s : Store) → HasWords p fs (zeros fs) s → HasWords p fs (zeros fs) (zeroed s h)
zeros_zeroed p h [] s k = tt
zeros_zeroed p h (f ∷ fs) s k = (zero_word (same_path h (parent (p ++ f.name ∷ []))) (sound_width f.width) (s.values (p ++ f.name ∷ [])) k.0, zeros_zeroed p h fs s k.1)

-- a name that is none of the fields
pub below_apart : (p : List (List ℕ)) (n : List ℕ) (fs : List Field) → AllByRecursion (λ g. same_text n g.name ≡ false) fs → AllByRecursion (λ g. same_path (p ++ n ∷ []) (p ++ g.name ∷ []) ≡ false) fs
below_apart p n [] o = tt
below_apart p n (g ∷ fs) o = (same_below p n g.name ∙ o.0, below_apart p n fs o.1)
