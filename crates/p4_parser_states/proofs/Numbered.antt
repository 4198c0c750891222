-- The names of states as numbers, and that the graph of the numbers reaches what the states reach.
use Rattle.std.proofs.Common.{◌≡◌, ◌⊎◌, inl, inr, ℕ, zero, suc, ◌+◌, ◌<◌, List, [], ◌∷◌, ◌++◌, Bool, true, false, cond, not, ◌||◌, map, length, take, get_or, set, Option, Some, None, String, Global, Vec, string_bytes, append_assoc, refl, sym, ◌∙◌, ap, subst, arith, ◌≢◌}
use Rattle.std.specs.List.{list_any, position_or_len, filter_map, cons_option}
use Rattle.std.specs.Str.{bytes_eq}
use Rattle.std.proofs.lemmas.Bool.{lt-ltb}
use Rattle.std.proofs.lemmas.List.Quantifiers.{position-Some}
use Rattle.std.proofs.lemmas.List.{get_or_default, get_or-set_same, get_or-set_other, map-append}
use Rattle.std.proofs.lemmas.List.Elements.{filter_map-append}
use Rattle.std.proofs.Math.Seq.{take-suc}
use Rattle.std.proofs.lemmas.Slice.Eq.{bytes_eq-Decides}
use Rattle.p4_tree.specs.Tree.{Case, ParserState}
use Rattle.p4_tree.specs.View.{state_of}
use Rattle.p4_tree.specs.declared.program.ParserState as code
use Rattle.p4_parser_states.specs.Cycles.{case_targets, targets, leads, Steps, direct, onward, Reaches, is_on_cycle}
use Rattle.p4_parser_states.specs.Graphs.{In, Follows, IsGraph, Tells, graph_of}
use Rattle.p4_parser_states.specs.Numbers.{number_in, add_to, add_state, IsEdge, HasSteps, answer_at}
use Rattle.p4_parser_states.proofs.Core.{order}
use Rattle.p4_parser_states.proofs.Lists.{in_front, in_behind, in_either, in_last, last_in}
use Rattle.p4_parser_states.proofs.Reaching.{IsLead, leads_from, leads_by, reaches_complete, not_reached}

-- ---- the table of names

found_at : (ks : List (String Global)) (x : List ℕ) (i : ℕ) → number_in ks x ≡ Some i → (i < length ks) × ((k : String Global) × (get_or ks i k ≡ k) × (x ≡ string_bytes k))
found_at [] x i h = absurd (let c : None ≡ Some i = h in cc)
found_at (k ∷ ks) x i h =
    let p : (i < length (k ∷ ks)) × (bytes_eq x (string_bytes (get_or (k ∷ ks) i k)) ≡ true) × ((j : ℕ) → j < i → bytes_eq x (string_bytes (get_or (k ∷ ks) j k)) ≡ false) =
    position-Some (λ u. bytes_eq x (string_bytes u)) (k ∷ ks) i k h in
    (p.0, (get_or (k ∷ ks) i k, get_or_default (k ∷ ks) i (get_or (k ∷ ks) i k) k p.0, (bytes_eq-Decides x (string_bytes (get_or (k ∷ ks) i k))).0 p.1))

pub number_below : (ks : List (String Global)) (x : List ℕ) (i : ℕ) → number_in ks x ≡ Some i → i < length ks
number_below ks x i h = (found_at ks x i h).0

-- one number is of one name
pub number_names : (ks : List (String Global)) (x y : List ℕ) (i : ℕ) → number_in ks x ≡ Some i → number_in ks y ≡ Some i → x ≡ y
number_names ks x y i h k =
    let a : (i < length ks) × ((u : String Global) × (get_or ks i u ≡ u) × (x ≡ string_bytes u)) = found_at ks x i h in
    let b : (i < length ks) × ((u : String Global) × (get_or ks i u ≡ u) × (y ≡ string_bytes u)) = found_at ks y i k in
    let e : a.1.0 ≡ b.1.0 = sym a.1.1 ∙ get_or_default ks i a.1.0 b.1.0 a.0 ∙ b.1.1 in
    a.1.2 ∙ ap (λ (u : String Global). string_bytes u) e ∙ sym b.1.2

any_of : (ks : List (String Global)) (x : List ℕ) → In x (map string_bytes ks) → list_any (λ k. bytes_eq x (string_bytes k)) ks ≡ true
any_of [] x h = absurd h
any_of (k ∷ ks) x (inl e) = ap (λ (b : Bool). b || list_any (λ k. bytes_eq x (string_bytes k)) ks) ((bytes_eq-Decides x (string_bytes k)).1 e)
any_of (k ∷ ks) x (inr h) = or_true (bytes_eq x (string_bytes k)) (list_any (λ k. bytes_eq x (string_bytes k)) ks) (any_of ks x h)
  where
    or_true : (a b : Bool) → b ≡ true → (a || b) ≡ true
    or_true true b e = refl
    or_true false b e = e

below_step : (b c : Bool) (n len : ℕ) → (c ≡ true → n < len) → (b || c) ≡ true → cond (not b) (1 + n) 0 < suc len
below_step true c n len ih h = omega arith
below_step false c n len ih h = let k : n < len = ih h in omega (arith, k)

place_below : (p : String Global → Bool) (ks : List (String Global)) → list_any p ks ≡ true → position_or_len p ks < length ks
place_below p [] h = let c : false ≡ true = h in absurd (cc)
place_below p (k ∷ ks) h = below_step (p k) (list_any p ks) (position_or_len p ks) (length ks) (place_below p ks) h

pub number_some : (ks : List (String Global)) (x : List ℕ) → In x (map string_bytes ks) → (i : ℕ) × (number_in ks x ≡ Some i)
number_some ks x h =
    let p : String Global → Bool = λ k. bytes_eq x (string_bytes k) in
    let n : ℕ = position_or_len (λ k. bytes_eq x (string_bytes k)) ks in
    (n, ap (λ (b : Bool). cond b (Some n) None) (lt-ltb n (length ks) (place_below (λ k. bytes_eq x (string_bytes k)) ks (any_of ks x h))))

-- ---- the table grows

texts_append : (ks : List (String Global)) (k : String Global) → map string_bytes (ks ++ k ∷ []) ≡ map string_bytes ks ++ string_bytes k ∷ []
texts_append [] k = refl
texts_append (x ∷ ks) k = ap (λ (ns : List (List ℕ)). string_bytes x ∷ ns) (texts_append ks k)

any_in_texts : (ks : List (String Global)) (x : List ℕ) → list_any (λ k. bytes_eq x (string_bytes k)) ks ≡ true → In x (map string_bytes ks)
any_in_texts [] x h = let c : false ≡ true = h in absurd (cc)
any_in_texts (k ∷ ks) x h = by (any_in_texts ks x) (bytes_eq x (string_bytes k)) refl h
  where
    by : (list_any (λ u. bytes_eq x (string_bytes u)) ks ≡ true → In x (map string_bytes ks)) → (b : Bool) → bytes_eq x (string_bytes k) ≡ b → (b || list_any (λ k. bytes_eq x (string_bytes k)) ks) ≡ true → In x (map string_bytes (k ∷ ks))
    by ih true e h = inl ((bytes_eq-Decides x (string_bytes k)).0 e)
    by ih false e h = inr (ih h)

abbrev pub insert_it : Bool → List (String Global) → String Global → List (String Global)
insert_it there ks k = cond there ks (ks ++ k ∷ [])

inserted : (ks new : List (String Global)) (k : String Global) (x : List ℕ) (b : Bool) → list_any (λ y. bytes_eq (string_bytes k) (string_bytes y)) ks ≡ b → new ≡ insert_it b ks k
    → In x (map string_bytes ks) ⊎ (x ≡ string_bytes k) → In x (map string_bytes new)
inserted ks new k x true e n (inl h) = let P : List (String Global) → Type 0 = λ us. In x (map string_bytes us) in subst P (sym n) h
inserted ks new k x true e n (inr h) =
    let P : List (String Global) → Type 0 = λ us. In x (map string_bytes us) in
    let Q : List ℕ → Type 0 = λ y. In y (map string_bytes ks) in
    subst P (sym n) (subst Q (sym h) (any_in_texts ks (string_bytes k) e))
inserted ks new k x false e n h =
    let P : List (List ℕ) → Type 0 = λ us. In x us in
    subst P (sym (ap (λ (us : List (String Global)). map string_bytes us) n ∙ texts_append ks k)) (by h)
  where
    by : In x (map string_bytes ks) ⊎ (x ≡ string_bytes k) → In x (map string_bytes ks ++ string_bytes k ∷ [])
    by (inl i) = in_front x (map string_bytes ks) (string_bytes k ∷ []) i
    by (inr e) = let Q : List ℕ → Type 0 = λ y. In y (map string_bytes ks ++ string_bytes k ∷ []) in subst Q (sym e) (last_in (map string_bytes ks) (string_bytes k))

-- the names of some states are in the table
abbrev pub HasNames : List (List ℕ) → List (String Global) → Type 0
HasNames xs ks = (x : List ℕ) → In x xs → In x (map string_bytes ks)

pub names_more : (xs : List (List ℕ)) (y : List ℕ) (ks new : List (String Global)) (k : String Global) → HasNames xs ks → string_bytes k ≡ y
    → new ≡ insert_it (list_any (λ u. bytes_eq (string_bytes k) (string_bytes u)) ks) ks k → HasNames (xs ++ y ∷ []) new
names_more xs y ks new k h same n x i = inserted ks new k x (list_any (λ u. bytes_eq (string_bytes k) (string_bytes u)) ks) refl n (by (in_last x xs y i))
  where
    by : In x xs ⊎ (x ≡ y) → In x (map string_bytes ks) ⊎ (x ≡ string_bytes k)
    by (inl j) = inl (h x j)
    by (inr e) = inr (e ∙ sym same)

-- ---- the graph grows

filter_in : (num : List ℕ → Option ℕ) (ys : List (List ℕ)) (j : ℕ) → In j (filter_map num ys) → (y : List ℕ) × (In y ys × (num y ≡ Some j))
filter_in num [] j h = absurd h
filter_in num (y ∷ ys) j h = by (filter_in num ys j) (num y) refl h
  where
    later : ((z : List ℕ) × (In z ys × (num z ≡ Some j))) → (z : List ℕ) × (In z (y ∷ ys) × (num z ≡ Some j))
    later k = (k.0, (inr k.1.0, k.1.1))

    by : (In j (filter_map num ys) → (z : List ℕ) × (In z ys × (num z ≡ Some j))) → (o : Option ℕ) → num y ≡ o → In j (cons_option o (filter_map num ys)) → (z : List ℕ) × (In z (y ∷ ys) × (num z ≡ Some j))
    by ih None e k = later (ih k)
    by ih (Some i) e (inl k) = (y, (inl refl, e ∙ ap Some (sym k)))
    by ih (Some i) e (inr k) = later (ih k)

in_filter : (num : List ℕ → Option ℕ) (ys : List (List ℕ)) (y : List ℕ) (j : ℕ) → In y ys → num y ≡ Some j → In j (filter_map num ys)
in_filter num [] y j h e = absurd h
in_filter num (z ∷ ys) y j (inl h) e = let P : Option ℕ → Type 0 = λ o. In j (cons_option o (filter_map num ys)) in subst P (sym (ap num (sym h) ∙ e)) (inl refl)
in_filter num (z ∷ ys) y j (inr h) e = by (num z) (in_filter num ys y j h e)
  where
    by : (o : Option ℕ) → In j (filter_map num ys) → In j (cons_option o (filter_map num ys))
    by None k = k
    by (Some i) k = inr k

pub no_steps : (num : List ℕ → Option ℕ) (g : List (List ℕ)) → ((i j : ℕ) → Follows g i j → ⊥) → HasSteps num [] g
no_steps num g none = record { sound = λ i j f. absurd (none i j f); whole = λ i j e. absurd e.among }

module _ (num : List ℕ → Option ℕ) (sts : List ParserState) (st : ParserState) (g : List (List ℕ)) (h : HasSteps num sts g) where
  old_edge : (i j : ℕ) → IsEdge num sts i j → IsEdge num (sts ++ st ∷ []) i j
  old_edge i j e = record { state = e.state; onto = e.onto; among = in_front e.state sts (st ∷ []) e.among; target = e.target; from_number = e.from_number; onto_number = e.onto_number }

  new_edge : (i j : ℕ) → num st.name ≡ Some i → ((y : List ℕ) × (In y (targets st.next) × (num y ≡ Some j))) → IsEdge num (sts ++ st ∷ []) i j
  new_edge i j e k = record { state = st; onto = k.0; among = last_in sts st; target = k.1.0; from_number = e; onto_number = k.1.1 }

  -- an edge of the states, or one of the last
  which : (i j : ℕ) (e : IsEdge num (sts ++ st ∷ []) i j) → In e.state sts ⊎ (e.state ≡ st) → IsEdge num sts i j ⊎ ((num st.name ≡ Some i) × In j (filter_map num (targets st.next)))
  which i j e (inl k) = inl (record { state = e.state; onto = e.onto; among = k; target = e.target; from_number = e.from_number; onto_number = e.onto_number })
  which i j e (inr k) =
      let P : ParserState → Type 0 = λ u. In e.onto (targets u.next) in
      inr (ap (λ (u : ParserState). num u.name) (sym k) ∙ e.from_number, in_filter num (targets st.next) e.onto j (subst P k e.target) e.onto_number)

  added_none : num st.name ≡ None → HasSteps num (sts ++ st ∷ []) g
  added_none none = record { sound = λ i j f. old_edge i j (h.sound i j f); whole = λ i j e. by i j (which i j e (in_last e.state sts st e.among)) }
    where
      by : (i j : ℕ) → IsEdge num sts i j ⊎ ((num st.name ≡ Some i) × In j (filter_map num (targets st.next))) → Follows g i j
      by i j (inl e) = h.whole i j e
      by i j (inr e) = let k : None ≡ Some i = sym none ∙ e.0 in absurd (cc)

  added_row : (k : ℕ) → k < length g → num st.name ≡ Some k → HasSteps num (sts ++ st ∷ []) (set g k (get_or g k [] ++ filter_map num (targets st.next)))
  added_row k within named = record { sound = λ i j f. from i j f (order i k); whole = λ i j e. onto i j (which i j e (in_last e.state sts st e.among)) (order i k) }
    where
      here : (i : ℕ) → i ≡ k → get_or (set g k (get_or g k [] ++ filter_map num (targets st.next))) i [] ≡ get_or g i [] ++ filter_map num (targets st.next)
      here i e =
          ap (λ (n : ℕ). get_or (set g k (get_or g k [] ++ filter_map num (targets st.next))) n []) e ∙ get_or-set_same g k (get_or g k [] ++ filter_map num (targets st.next)) [] within
          ∙ ap (λ (n : ℕ). get_or g n [] ++ filter_map num (targets st.next)) (sym e)

      there : (i : ℕ) → i ≢ k → get_or (set g k (get_or g k [] ++ filter_map num (targets st.next))) i [] ≡ get_or g i []
      there i d = get_or-set_other g k i (get_or g k [] ++ filter_map num (targets st.next)) [] d

      same_from : (i j : ℕ) → i ≡ k → In j (get_or g i []) ⊎ In j (filter_map num (targets st.next)) → IsEdge num (sts ++ st ∷ []) i j
      same_from i j e (inl f) = old_edge i j (h.sound i j f)
      same_from i j e (inr f) = new_edge i j (named ∙ ap Some (sym e)) (filter_in num (targets st.next) j f)

      other_from : (i j : ℕ) → i ≢ k → Follows (set g k (get_or g k [] ++ filter_map num (targets st.next))) i j → IsEdge num (sts ++ st ∷ []) i j
      other_from i j d f = let P : List ℕ → Type 0 = λ row. In j row in old_edge i j (h.sound i j (subst P (there i d) f))

      from : (i j : ℕ) → Follows (set g k (get_or g k [] ++ filter_map num (targets st.next))) i j → (i < k) ⊎ ((i ≡ k) ⊎ (k < i)) → IsEdge num (sts ++ st ∷ []) i j
      from i j f (inl l) = other_from i j (λ e. omega (arith, e, l)) f
      from i j f (inr (inl e)) = let P : List ℕ → Type 0 = λ row. In j row in same_from i j e (in_either j (get_or g i []) (filter_map num (targets st.next)) (subst P (here i e) f))
      from i j f (inr (inr l)) = other_from i j (λ e. omega (arith, e, l)) f

      other_onto : (i j : ℕ) → i ≢ k → IsEdge num sts i j ⊎ ((num st.name ≡ Some i) × In j (filter_map num (targets st.next))) → Follows (set g k (get_or g k [] ++ filter_map num (targets st.next))) i j
      other_onto i j d (inl e) = let P : List ℕ → Type 0 = λ row. In j row in subst P (sym (there i d)) (h.whole i j e)
      other_onto i j d (inr e) = absurd (d (let o : Some k ≡ Some i = sym named ∙ e.0 in cc))

      both : (i j : ℕ) → IsEdge num sts i j ⊎ ((num st.name ≡ Some i) × In j (filter_map num (targets st.next))) → In j (get_or g i [] ++ filter_map num (targets st.next))
      both i j (inl e) = in_front j (get_or g i []) (filter_map num (targets st.next)) (h.whole i j e)
      both i j (inr e) = in_behind j (get_or g i []) (filter_map num (targets st.next)) e.1

      onto : (i j : ℕ) → IsEdge num sts i j ⊎ ((num st.name ≡ Some i) × In j (filter_map num (targets st.next))) → (i < k) ⊎ ((i ≡ k) ⊎ (k < i))
          → Follows (set g k (get_or g k [] ++ filter_map num (targets st.next))) i j
      onto i j e (inl l) = other_onto i j (λ d. omega (arith, d, l)) e
      onto i j e (inr (inl d)) = let P : List ℕ → Type 0 = λ row. In j row in subst P (sym (here i d)) (both i j e)
      onto i j e (inr (inr l)) = other_onto i j (λ d. omega (arith, d, l)) e

  -- a state more
  pub steps_more : ((i : ℕ) → num st.name ≡ Some i → i < length g) → HasSteps num (sts ++ st ∷ []) (add_state num g st)
  steps_more within = by (num st.name) refl
    where
      by : (o : Option ℕ) → num st.name ≡ o → HasSteps num (sts ++ st ∷ []) (add_to g o (filter_map num (targets st.next)))
      by None e = added_none e
      by (Some k) e = added_row k (within k e) e

-- ---- the graph reaches what the states reach

module _ (ks : List (String Global)) (sts : List ParserState) (g : List (List ℕ)) (h : HasSteps (number_in ks) sts g) where
  pub graph_within : length g ≡ length ks → IsGraph g
  graph_within size = record { within = λ i j f. (let e : IsEdge (number_in ks) sts i j = h.sound i j f in let k : j < length ks = number_below ks e.onto j e.onto_number in omega (arith, k, size)) }

  by_numbers : (i j : ℕ) → Steps (Follows g) i j → (x y : List ℕ) → number_in ks x ≡ Some i → number_in ks y ≡ Some j → Reaches sts x y
  by_numbers i j (direct f) x y a b =
      let e : IsEdge (number_in ks) sts i j = h.sound i j f in
      let P : List ℕ → Type 0 = λ z. In z (targets e.state.next) in
      direct (leads_by sts e.state x y e.among (number_names ks e.state.name x i e.from_number a) (subst P (number_names ks e.onto y j e.onto_number b) e.target))
  by_numbers i j (onward {y = k} f r) x y a b =
      let e : IsEdge (number_in ks) sts i k = h.sound i k f in
      onward (leads_by sts e.state x e.onto e.among (number_names ks e.state.name x i e.from_number a) e.target) (by_numbers k j r e.onto y e.onto_number b)

  to_edge : (x y : List ℕ) (i j : ℕ) → leads sts x y ≡ true → number_in ks x ≡ Some i → number_in ks y ≡ Some j → Follows g i j
  to_edge x y i j l a b =
      let e : IsLead sts x y = leads_from sts x y l in
      h.whole i j (record { state = e.state; onto = y; among = e.among; target = e.target; from_number = ap (λ (z : List ℕ). number_in ks z) e.named ∙ a; onto_number = b })

  module _ (known : (st : ParserState) → In st sts → In st.name (map string_bytes ks)) where
    has_number : (x y : List ℕ) → leads sts x y ≡ true → (i : ℕ) × (number_in ks x ≡ Some i)
    has_number x y l =
        let e : IsLead sts x y = leads_from sts x y l in
        let P : List ℕ → Type 0 = λ z. In z (map string_bytes ks) in
        number_some ks x (subst P e.named (known e.state e.among))

    first_number : (x y : List ℕ) → Reaches sts x y → (i : ℕ) × (number_in ks x ≡ Some i)
    first_number x y (direct l) = has_number x y l
    first_number x y (onward {y = z} l r) = has_number x z l

    to_numbers : (x y : List ℕ) → Reaches sts x y → (i j : ℕ) → number_in ks x ≡ Some i → number_in ks y ≡ Some j → Steps (Follows g) i j
    to_numbers x y (direct l) i j a b = direct (to_edge x y i j l a b)
    to_numbers x y (onward {y = z} l r) i j a b =
        let k : (n : ℕ) × (number_in ks z ≡ Some n) = first_number z y r in
        onward (to_edge x z i k.0 l a k.1) (to_numbers z y r k.0 j k.1 b)

    told_right : (st : ParserState) (i : ℕ) (b : Bool) → number_in ks st.name ≡ Some i → Tells (Follows g) b i → b ≡ is_on_cycle sts st
    told_right st i true e r = sym (reaches_complete sts st.name st.name (by_numbers i i r st.name st.name e e))
    told_right st i false e n = sym (not_reached sts st.name st.name (λ r. n (to_numbers st.name st.name r i i e e)))

    -- what is told of numbers is right of states
    pub answered : (bs : List Bool) → length g ≡ length ks → ((i : ℕ) → i < length g → Tells (Follows g) (get_or bs i false) i)
        → (st : ParserState) → In st sts → answer_at bs (number_in ks st.name) ≡ is_on_cycle sts st
    answered bs size tells st among =
        let k : (n : ℕ) × (number_in ks st.name ≡ Some n) = number_some ks st.name (known st among) in
        let l : k.0 < length ks = number_below ks st.name k.0 k.1 in
        ap (λ (o : Option ℕ). answer_at bs o) k.1 ∙ told_right st k.0 (get_or bs k.0 false) k.1 (tells k.0 (omega (arith, l, size)))

-- ---- lists in loops

pub map_more : {A B : Type 0} (f : A → B) (xs : List A) (i : ℕ) (x : A) → i < length xs → x ≡ get_or xs i x → map f (take (i + 1) xs) ≡ map f (take i xs) ++ f x ∷ []
map_more f xs i x h e =
    let more : i + 1 ≡ suc i = omega arith in
    ap (λ (n : ℕ). map f (take n xs)) more ∙ ap (map f) (take-suc xs i x h ∙ ap (λ y. take i xs ++ y ∷ []) (sym e)) ∙ map-append f (take i xs) (x ∷ [])

case_more : (cs : List Case) (c : Case) → case_targets (cs ++ c ∷ []) ≡ case_targets cs ++ c.next ∷ []
case_more [] c = refl
case_more (d ∷ cs) c = ap (λ (ns : List (List ℕ)). d.next ∷ ns) (case_more cs c)

-- the numbers of one case more
pub row_more : {A : Type 0} (f : A → Case) (num : List ℕ → Option ℕ) (cs : List A) (i : ℕ) (c : A) (a b d : List ℕ) → i < length cs → c ≡ get_or cs i c
    → b ≡ a ++ filter_map num (case_targets (map f (take i cs))) → d ≡ b ++ filter_map num ((f c).next ∷ [])
    → d ≡ a ++ filter_map num (case_targets (map f (take (i + 1) cs)))
row_more f num cs i c a b d h e is more =
    let front : List (List ℕ) = case_targets (map f (take i cs)) in
    more ∙ ap (λ (row : List ℕ). row ++ filter_map num ((f c).next ∷ [])) is
    ∙ append_assoc a (filter_map num front) (filter_map num ((f c).next ∷ []))
    ∙ ap (λ (row : List ℕ). a ++ row) (sym (filter_map-append num front ((f c).next ∷ [])))
    ∙ ap (λ (ns : List (List ℕ)). a ++ filter_map num ns) (sym (ap case_targets (map_more f cs i c h e) ∙ case_more (map f (take i cs)) (f c)))

-- a row more in which nothing is
pub rows_more : (fs : List (Vec ℕ Global)) (v : Vec ℕ Global) → ((i j : ℕ) → Follows (graph_of fs) i j → ⊥) → v.items ≡ [] → (i j : ℕ) → Follows (graph_of (fs ++ v ∷ [])) i j → ⊥
rows_more [] v none e zero j f = let P : List ℕ → Type 0 = λ row. In j row in let k : In j [] = subst P e f in absurd k
rows_more [] v none e (suc i) j f = absurd f
rows_more (u ∷ fs) v none e zero j f = none zero j f
rows_more (u ∷ fs) v none e (suc i) j f = rows_more fs v (λ m n k. none (suc m) n k) e i j f

-- all answers are right
pub all_answered : (sts : List ParserState) (ks : List (String Global)) (bs : List Bool) (xs : List code.ParserState)
    → ((st : ParserState) → In st (map state_of xs) → answer_at bs (number_in ks st.name) ≡ is_on_cycle sts st)
    → map (λ st. answer_at bs (number_in ks st.name)) xs ≡ map (is_on_cycle sts) (map state_of xs)
all_answered sts ks bs [] h = refl
all_answered sts ks bs (x ∷ xs) h =
    let first : answer_at bs (number_in ks x.name) ≡ is_on_cycle sts (state_of x) = h (state_of x) (inl refl) in
    let rest : map (λ (st : code.ParserState). answer_at bs (number_in ks st.name)) xs ≡ map (is_on_cycle sts) (map state_of xs) = all_answered sts ks bs xs (λ st i. h st (inr i)) in
    cc

-- the names of states are those of their trees
pub names_known : (ks : List (String Global)) (xs : List code.ParserState) → ((x : List ℕ) → In x (map (λ (st : code.ParserState). st.name) xs) → In x (map string_bytes ks))
    → (st : ParserState) → In st (map state_of xs) → In st.name (map string_bytes ks)
names_known ks [] h st i = absurd i
names_known ks (x ∷ xs) h st (inl e) = h st.name (inl (ap (λ (u : ParserState). u.name) e))
names_known ks (x ∷ xs) h st (inr i) = names_known ks xs (λ y j. h y (inr j)) st i

-- no rows have nothing in them
pub no_rows : (fs : List (Vec ℕ Global)) → fs ≡ [] → (i j : ℕ) → Follows (graph_of fs) i j → ⊥
no_rows fs e i j f = let P : List (Vec ℕ Global) → Type 0 = λ us. Follows (graph_of us) i j in let k : Follows (graph_of []) i j = subst P e f in absurd k
