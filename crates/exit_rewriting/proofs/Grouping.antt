-- What the controls' marks have at full names.
use Rattle.std.proofs.Common.{◌≡◌, ℕ, ◌+◌, ◌<◌, Bool, true, false, ◌&&◌, cond, List, [], ◌∷◌, ◌++◌, map, take, length, get_or, Option, Some, None, MatchOption, nat_eq, append_assoc, length-append, refl, sym, ap, ap₂, subst, ◌∙◌, arith}
use Rattle.std.specs.Option.{option_or}
use Rattle.std.specs.Borrow.{Bor}
use Rattle.std.specs.Str.Pattern.{FindsTextSuffix, StripsSuffix}
use Rattle.std.proofs.lemmas.Slice.Eq.{bytes_eq-Decides}
use Rattle.lex_text.specs.Names.{same_text}
use Rattle.p4_meaning.specs.Scope.{full}
use Rattle.exit_rewriting.specs.Marks.{Mark, as_text, first_mark, AreMarks, from_each}
use Rattle.exit_rewriting.specs.Groups.{behind_byte, front_by, before_point, front_of, mark_if, mark_in, first_in, fulled, AreGroups, Grows}
use Rattle.exit_rewriting.specs.declared.groups.Group.{Group}
use Rattle.exit_rewriting.specs.declared.groups.Groups.{Groups}
use Rattle.exit_rewriting.proofs.Marking.{first_both, each_next}

-- ---- fronts

abbrev same_rest : List ℕ → Option (List ℕ) → Bool
same_rest y None = false
same_rest y (Some x) = same_text y x

same_is : (x y : List ℕ) → same_text x y ≡ true → x ≡ y
same_is x y h = (bytes_eq-Decides x y).0 h

is_same : (x y : List ℕ) → x ≡ y → same_text x y ≡ true
is_same x y h = (bytes_eq-Decides x y).1 h

-- two tests that hold of the same are one
both_ways : (a b : Bool) → (a ≡ true → b ≡ true) → (b ≡ true → a ≡ true) → a ≡ b
both_ways true b f g = sym (f refl)
both_ways false true f g = g refl
both_ways false false f g = refl

flipped : (x y : List ℕ) → same_text x y ≡ same_text y x
flipped x y = both_ways (same_text x y) (same_text y x) (λ h. is_same y x (sym (same_is x y h))) (λ h. is_same x y (sym (same_is y x h)))

-- a longer text is another
longer : (a : ℕ) (y e : List ℕ) → same_text ((a ∷ y) ++ e) e ≡ false
longer a y e = by (same_text ((a ∷ y) ++ e) e) refl
  where
    by : (b : Bool) → same_text ((a ∷ y) ++ e) e ≡ b → b ≡ false
    by false h = refl
    by true h =
        let same : length ((a ∷ y) ++ e) ≡ length e = ap length (same_is ((a ∷ y) ++ e) e h) in
        let size : length ((a ∷ y) ++ e) ≡ length (a ∷ y) + length e = length-append (a ∷ y) e in
        absurd (omega arith)

-- a text with this end is another where what stands before the end is another
pub same_front : (e y x : List ℕ) → same_text (y ++ e) x ≡ same_rest y (front_by e x)
same_front e [] [] = flipped e [] ∙ by (same_text [] e)
  where
    by : (b : Bool) → b ≡ same_rest [] (cond b (Some []) None)
    by true = refl
    by false = refl
same_front e [] (b ∷ x) = flipped e (b ∷ x) ∙ by (same_text (b ∷ x) e) (front_by e x)
  where
    by : (c : Bool) (o : Option (List ℕ)) → c ≡ same_rest [] (cond c (Some []) (behind_byte b o))
    by true o = refl
    by false None = refl
    by false (Some r) = refl
same_front e (a ∷ y) [] = by (same_text [] e)
  where
    by : (b : Bool) → false ≡ same_rest (a ∷ y) (cond b (Some []) None)
    by true = refl
    by false = refl
same_front e (a ∷ y) (b ∷ x) = by (same_text (b ∷ x) e) refl (front_by e x) (same_front e y x)
  where
    by : (c : Bool) → same_text (b ∷ x) e ≡ c → (o : Option (List ℕ)) → same_text (y ++ e) x ≡ same_rest y o
        → (nat_eq a b && same_text (y ++ e) x) ≡ same_rest (a ∷ y) (cond c (Some []) (behind_byte b o))
    by true h o g = ap (same_text ((a ∷ y) ++ e)) (same_is (b ∷ x) e h) ∙ longer a y e
    by false h None g = ap (λ (d : Bool). nat_eq a b && d) g ∙ neither (nat_eq a b)
      where
        neither : (d : Bool) → (d && false) ≡ false
        neither true = refl
        neither false = refl
    by false h (Some r) g = ap (λ (d : Bool). nat_eq a b && d) g

front_is : (e x r : List ℕ) → front_by e x ≡ Some r → x ≡ r ++ e
front_is e x r h = sym (same_is (r ++ e) x (same_front e r x ∙ ap (same_rest r) h ∙ is_same r r refl))

front_found : (e y : List ℕ) → front_by e (y ++ e) ≡ Some y
front_found e y = by (front_by e (y ++ e)) (sym (same_front e y (y ++ e)) ∙ is_same (y ++ e) (y ++ e) refl)
  where
    by : (o : Option (List ℕ)) → same_rest y o ≡ true → o ≡ Some y
    by None h = absurd (let c : false ≡ true = h in cc)
    by (Some r) h = ap Some (sym (same_is y r h))

-- what `strip_suffix` gives
pub stripped : (e x r : List ℕ) → StripsSuffix (FindsTextSuffix e) x r → front_by e x ≡ Some r
stripped e x r h = ap (front_by e) (h.1.1 ∙ ap (λ (t : List ℕ). t ++ e) (sym h.2)) ∙ front_found e r

pub not_stripped : (e x : List ℕ) → FindsTextSuffix e x None → front_by e x ≡ None
not_stripped e x h = by (front_by e x) refl
  where
    by : (o : Option (List ℕ)) → front_by e x ≡ o → front_by e x ≡ None
    by None k = k
    by (Some r) k = absurd (h r (front_is e x r k))

pub front_text : (e x : List ℕ) (o : Option (Bor (List ℕ))) → MatchOption o (FindsTextSuffix e x None) (λ r. StripsSuffix (FindsTextSuffix e) x r.now) → as_text o ≡ front_by e x
front_text e x None h = sym (not_stripped e x h)
front_text e x (Some r) h = sym (stripped e x r.now h)

-- a full name is another where the plain one is another
same_full : (c y x : List ℕ) → same_text (full c y) x ≡ same_rest y (front_of c x)
same_full c y x =
    ap (λ (t : List ℕ). same_text t x) (sym (append_assoc y (46 ∷ []) c))
    ∙ same_front c (y ++ 46 ∷ []) x
    ∙ by (front_by c x)
  where
    by : (o : Option (List ℕ)) → same_rest (y ++ 46 ∷ []) o ≡ same_rest y (before_point o)
    by None = refl
    by (Some r) = same_front (46 ∷ []) y r

-- ---- groups

abbrev first_if : List Mark → Option (List ℕ) → Option Bool
first_if ms None = None
first_if ms (Some x) = first_mark ms x

full_first : (c x : List ℕ) (o : Option (List ℕ)) → ((y : List ℕ) → same_text (full c y) x ≡ same_rest y o) → (ms : List Mark) → first_if ms o ≡ first_mark (map (fulled c) ms) x
full_first c x None h [] = refl
full_first c x (Some r) h [] = refl
full_first c x None h (m ∷ ms) =
    full_first c x None h ms ∙ sym (ap (λ (b : Bool). cond b (Some m.value) (first_mark (map (fulled c) ms) x)) (h m.name))
full_first c x (Some r) h (m ∷ ms) =
    ap (λ (o : Option Bool). cond (same_text m.name r) (Some m.value) o) (full_first c x (Some r) h ms)
    ∙ sym (ap (λ (b : Bool). cond b (Some m.value) (first_mark (map (fulled c) ms) x)) (h m.name))

in_group : (g : Group) (c : List ℕ) (ms : List Mark) → g.control ≡ c → AreMarks g.marks ms → (x : List ℕ) → mark_in g x ≡ first_mark (map (fulled c) ms) x
in_group g c ms name so x =
    ap (λ (y : List ℕ). mark_if g.marks (front_of y x)) name
    ∙ by (front_of c x)
    ∙ full_first c x (front_of c x) (λ y. same_full c y x) ms
  where
    by : (o : Option (List ℕ)) → mark_if g.marks o ≡ first_if ms o
    by None = refl
    by (Some r) = so r

or_nothing : (o : Option Bool) → option_or o None ≡ o
or_nothing None = refl
or_nothing (Some b) = refl

first_push : (gs : List Group) (g : Group) (x : List ℕ) → first_in (gs ++ g ∷ []) x ≡ option_or (first_in gs x) (mark_in g x)
first_push [] g x = or_nothing (mark_in g x)
first_push (f ∷ gs) g x = step (mark_in f x) (first_push gs g x)
  where
    step : (o : Option Bool) → first_in (gs ++ g ∷ []) x ≡ option_or (first_in gs x) (mark_in g x) → option_or o (first_in (gs ++ g ∷ []) x) ≡ option_or (option_or o (first_in gs x)) (mark_in g x)
    step None h = h
    step (Some b) h = refl

-- a control with its marks goes behind those before
pub grows : (m n : Groups) (g : Group) (c : List ℕ) (ms : List Mark) → n.groups.items ≡ m.groups.items ++ g ∷ [] → g.control ≡ c → AreMarks g.marks ms → Grows m n (map (fulled c) ms)
grows m n g c ms items name so all before x =
    ap (λ (gs : List Group). first_in gs x) items
    ∙ first_push m.groups.items g x
    ∙ ap₂ option_or (before x) (in_group g c ms name so x)
    ∙ sym (first_both all (map (fulled c) ms) x)

module _ {A B : Type 0} (f : B → List Mark) (view : A → B) (xs : List A) where
  pub groups_next : (m n : Groups) (i : ℕ) (x : A) → i < length xs → x ≡ get_or xs i x → AreGroups m (from_each f (map view (take i xs))) → Grows m n (f (view x)) → AreGroups n (from_each f (map view (take (i + 1) xs)))
  groups_next m n i x lt is so more =
      let P : List Mark → Type 0 = λ ms. AreGroups n ms in
      subst P (each_next f view xs i x lt is) (more (from_each f (map view (take i xs))) so)
