-- Keys that are read have the widths of their types, and no two of them are equal.
use Rattle.std.proofs.Common.{◌≡◌, ℕ, ◌+◌, List, [], ◌∷◌, ◌++◌, map, length, get_or, Bool, true, false, cond, ◌&&◌, nat_eq, Result, Ok, Err, refl, sym, ap, ap₂, ◌∙◌, subst, append_assoc, append-nil, arith}
use Rattle.std.specs.Prelude.{◌==◌}
use Rattle.std.specs.List.{list_any, AllByRecursion}
use Rattle.std.proofs.lemmas.Bool.{eqb-true, or_parts}
use Rattle.std.proofs.lemmas.Bool.Decides.{nat_tests}
use Rattle.std.proofs.lemmas.List.{map_push}
use Rattle.serde_json.specs.Data.{Data}
use Rattle.bit_values.specs.Bits.{Word}
use Rattle.indus_tree.specs.State.{width_of}
use Rattle.indus_tree.specs.Keys.{same_words}
use Rattle.indus_tree.specs.declared.tree.Ty.{Ty}
use Rattle.indus_tree.specs.declared.tree.Ty.TheVariants as ty
use Rattle.indus_rules.specs.Rules.{bad_width, bad_widths}
use Rattle.indus_types.proofs.Widths.{neither}
use Rattle.table_faults.specs.declared.table.TableFault.{TableFault}
use Rattle.table_faults.specs.declared.table.TableFault.TheVariants as fault
use Rattle.json_parts.specs.Answers.{◌>>=◌}
use Rattle.json_parts.specs.Paths.{item_below}
use Rattle.json_parts.specs.Turns.{in_turn, behind, all_of}
use Rattle.json_values.specs.Words.{word_at, list_at}
use Rattle.control_file.specs.Keys.{kind_of, part_at, parts_at, key_at, numbers_of, same_numbers, fresh}
use Rattle.control_file.specs.Contents.{with_new}
use Rattle.control_maps.specs.Numbers.{HasTypes, AreUnequal}
use Rattle.read_contents.proofs.Words.{read_then, ok_same, word_fits}

-- ---- one key

here : (front : List Ty) (t : Ty) (back : List Ty) (d : Ty) → get_or (front ++ t ∷ back) (length front) d ≡ t
here [] t back d = refl
here (u ∷ front) t back d = here front t back d

pushed_long : (front : List Ty) (t : Ty) → length (front ++ t ∷ []) ≡ length front + 1
pushed_long [] t = refl
pushed_long (u ∷ front) t = let more = pushed_long front t in omega (arith, more)

module _ (path : List ℕ) (types : List Ty) where
  part_fits : (front : List Ty) (t : Ty) (back : List Ty) (i : ℕ) (d : Data) (w : Word) → types ≡ front ++ t ∷ back → i ≡ length front → bad_width t ≡ false → part_at path types i d ≡ Ok w → w.width ≡ width_of t
  part_fits front t back i d w is at good e =
      let type : get_or types i ty.Bool ≡ t = ap₂ (λ (ts : List Ty) (n : ℕ). get_or ts n ty.Bool) is at ∙ here front t back ty.Bool in
      (word_fits t (item_below path i) d w good (ap (λ (u : Ty). word_at (item_below path i) (kind_of u) d) (sym type) ∙ e)).width

  -- some parts were found for the types in front
  parts_fit :
      (front back : List Ty) (i : ℕ) (found : List Word) (ds : List Data) (key : List Word) → types ≡ front ++ back → i ≡ length front
      → length ds ≡ length back → bad_widths back ≡ false → HasTypes front found → in_turn (behind (part_at path types)) found i ds ≡ Ok key
      → HasTypes types key
  unfolding in_turn
  parts_fit front [] i found [] key is at long good so_far e =
      let same : found ≡ key = ok_same found key e in
      subst (HasTypes types) same (so_far ∙ ap (map width_of) (sym (is ∙ append-nil front)))
  parts_fit front [] i found (d ∷ ds) key is at long good so_far e = absurd (omega (arith, long))
  parts_fit front (t ∷ back) i found [] key is at long good so_far e = absurd (omega (arith, long))
  parts_fit front (t ∷ back) i found (d ∷ ds) key is at long good so_far e =
      read_then (behind (part_at path types) found i d) (λ more. in_turn (behind (part_at path types)) more (i + 1) ds) key e
      (λ more first rest.
      read_then (part_at path types i d) (λ y. Ok (found ++ y ∷ [])) more first
      (λ w part next.
      let fine = neither (bad_width t) (bad_widths back) good in
      let more_is : found ++ w ∷ [] ≡ more = ok_same _ _ next in
      parts_fit (front ++ t ∷ []) back (i + 1) more ds key (is ∙ sym (append_assoc front (t ∷ []) back)) (let l = pushed_long front t in omega (arith, l, at))
      (omega (arith, long)) fine.1
      (subst (HasTypes (front ++ t ∷ [])) more_is
      (map_push (λ (u : Word). u.width) found w
      ∙ (ap₂ (λ (us : List ℕ) (u : ℕ). us ++ u ∷ []) so_far (part_fits front t back i d w is at fine.0 part) ∙ sym (map_push width_of front t))))
      rest))

of_length : (path : List ℕ) (types : List Ty) (ds : List Data) (key : List Word) (f : TableFault) (b : Bool) → length ds == length types ≡ b → bad_widths types ≡ false
    → cond b (all_of (part_at path types) ds) (Err f) ≡ Ok key → HasTypes types key
of_length path types ds key f true long good e = parts_fit path types [] types 0 [] ds key refl refl (eqb-true (length ds) (length types) long) good refl e
of_length path types ds key f false long good e = absurd (cc e)

many_fit : (path : List ℕ) (types : List Ty) (d : Data) (key : List Word) → bad_widths types ≡ false → (list_at path d >>= λ ds. parts_at path types ds) ≡ Ok key → HasTypes types key
many_fit path types d key good e =
    read_then (list_at path d) (λ ds. parts_at path types ds) key e
    (λ ds is parts. of_length path types ds key (fault.Shape path) (length ds == length types) refl good parts)

pub key_fits : (path : List ℕ) (types : List Ty) (d : Data) (key : List Word) → bad_widths types ≡ false → key_at path types d ≡ Ok key → HasTypes types key
key_fits path [] d key good e = many_fit path [] d key good e
key_fits path (t ∷ []) d key good e =
    read_then (word_at path (kind_of t) d) (λ w. Ok (w ∷ [])) key e
    (λ w is one.
    let same : w ∷ [] ≡ key = ok_same _ _ one in
    subst (HasTypes (t ∷ [])) same (ap (λ n. n ∷ []) (word_fits t path d w (neither (bad_width t) false good).0 is).width))
key_fits path (t ∷ u ∷ types) d key good e = many_fit path (t ∷ u ∷ types) d key good e

-- ---- keys that differ

flip : (a b : ℕ) → nat_eq a b ≡ nat_eq b a
flip a b = grind (arith, nat_tests)

-- the numbers of two keys are the same where their words are
same_either : (a b : List Word) → same_numbers (numbers_of a) (numbers_of b) ≡ same_words b a
same_either [] [] = refl
same_either [] (y ∷ ys) = refl
same_either (x ∷ xs) [] = refl
same_either (x ∷ xs) (y ∷ ys) = ap₂ (λ (s t : Bool). s && t) (flip x.value y.value) (same_either xs ys)

pub all_pushed : {A : Type 0} (P : A → Type 0) (xs : List A) (x : A) → AllByRecursion P xs → P x → AllByRecursion P (xs ++ x ∷ [])
all_pushed P [] x h p = (p, tt)
all_pushed P (y ∷ xs) x h p = (h.0, all_pushed P xs x h.1 p)

unequal_pushed : (ks : List (List Word)) (k : List Word) → AreUnequal ks → AllByRecursion (λ j. same_words j k ≡ false) ks → AreUnequal (ks ++ k ∷ [])
unequal_pushed [] k h new = (tt, tt)
unequal_pushed (j ∷ ks) k h new = (all_pushed (λ i. same_words j i ≡ false) ks k h.0 new.0, unequal_pushed ks k h.1 new.1)

pub is_fresh : (path : List ℕ) (before : List (List ℕ)) (key : List Word) → fresh path before key ≡ Ok (tt {0}) → list_any (same_numbers (numbers_of key)) before ≡ false
is_fresh path before key e = go (list_any (same_numbers (numbers_of key)) before) e
  where
    go : (b : Bool) → cond b (Err (fault.KeyTwice path)) (Ok (tt {0})) ≡ Ok (tt {0}) → b ≡ false
    go true e = absurd (cc e)
    go false e = refl

-- ---- things with keys, one after the other

module _ {X : Type 0} (key : X → List Word) (P : X → Type 0) where
  abbrev numbers : X → List ℕ
  numbers x = numbers_of (key x)

  new_key : (found : List X) (x : X) → list_any (same_numbers (numbers x)) (map numbers found) ≡ false → AllByRecursion (λ j. same_words j (key x) ≡ false) (map key found)
  new_key [] x e = tt
  new_key (y ∷ found) x e =
      let both = or_parts (same_numbers (numbers x) (numbers y)) (list_any (same_numbers (numbers x)) (map numbers found)) e in
      (sym (same_either (key x) (key y)) ∙ both.0, new_key found x both.1)

  -- they are what is asked, and no two have equal keys
  pub record AreNew (xs : List X) : Type 0 where
    pub each : AllByRecursion P xs
    pub keys : AreUnequal (map key xs)

  none_new : AreNew []
  none_new = record { each = tt; keys = tt }

  one_new : (found : List X) (x : X) → AreNew found → P x → list_any (same_numbers (numbers x)) (map numbers found) ≡ false → AreNew (found ++ x ∷ [])
  one_new found x h p new =
      record {
        each = all_pushed P found x h.each p;
        keys = subst AreUnequal (sym (map_push key found x)) (unequal_pushed (map key found) (key x) h.keys (new_key found x new));
      }

  module _ (read : (number : ℕ) → (before : List (List ℕ)) → Data → Result X TableFault)
      (is : (number : ℕ) (before : List (List ℕ)) (d : Data) (x : X) → read number before d ≡ Ok x → P x × (list_any (same_numbers (numbers x)) before ≡ false)) where
    all_new : (found : List X) (i : ℕ) (ds : List Data) (xs : List X) → AreNew found → in_turn (with_new numbers read) found i ds ≡ Ok xs → AreNew xs
    unfolding in_turn
    all_new found i [] xs h e = let same : found ≡ xs = ok_same found xs e in subst AreNew same h
    all_new found i (d ∷ ds) xs h e =
        read_then (with_new numbers read found i d) (λ more. in_turn (with_new numbers read) more (i + 1) ds) xs e
        (λ more first rest.
        read_then (read i (map numbers found) d) (λ x. Ok (found ++ x ∷ [])) more first
        (λ x one next.
        let same : found ++ x ∷ [] ≡ more = ok_same _ _ next in
        let it = is i (map numbers found) d x one in
        all_new more (i + 1) ds xs (subst AreNew same (one_new found x h it.0 it.1)) rest))

    pub read_new : (ds : List Data) (xs : List X) → in_turn (with_new numbers read) [] 0 ds ≡ Ok xs → AreNew xs
    read_new ds xs e = all_new [] 0 ds xs none_new e
