-- A table of the same shape takes the entries that a table holds.
use Rattle.std.proofs.Common.{◌≡◌, ℕ, ◌+◌, ◌<◌, ◌≤◌, List, [], ◌∷◌, ◌++◌, length, map, Bool, true, false, not, ◌&&◌, ◌||◌, cond, Some, None, refl, sym, ap, ap₂, ◌∙◌, subst, arith, inl, inr}
use Rattle.std.specs.Prelude.{nat_eq, nat_le}
use Rattle.std.specs.List.{AllByRecursion}
use Rattle.std.proofs.lemmas.Bool.{eqb-true}
use Rattle.std.proofs.lemmas.Bool.Decides.{leb_tells}
use Rattle.std.proofs.lemmas.List.{get_or-set_same, length-set, map-append, length-append}
use Rattle.table_shapes.specs.Shapes.{ActionShape, Shape, has_ternary, are_for_keys, has_action, takes}
use Rattle.table_faults.specs.declared.entry.EntryFault.TheVariants.{NoSuchAction, WidthDiffers, SameEntry, SamePriority, TableLimit}
use Rattle.table_entries.specs.Entries.{Entry, same_keys, same_entry, has_same, has_priority}
use Rattle.p4_tables.specs.State.{Held, no_table, held_at, entries_in, inserted}
use Rattle.p4_tables.specs.Faults.{takes_entry, entry_fault, AreAccepted}
use Rattle.p4_tables.specs.Kept.{clash, AreApart}
use Rattle.p4_tables.proofs.Sound.{entries_set}
use Rattle.value_shapes.specs.declared.values.ValueShape.{ValueShape}
use Rattle.p4_meaning.specs.Actions.{Action}
use Rattle.p4_tables.specs.Named.{action_name}
use Rattle.p4_tables.specs.Programs.{action_place, action_shape}
use Rattle.table_laws.specs.Loaded.{IsActionName}
use Rattle.p4_tables.specs.Carried.{same_number, renumbered}
use Rattle.p4_tables.proofs.Renumbered.{same_takes, same_has, takes_has, both_true}
use Rattle.table_laws.specs.Loaded.{SameNumbersAreApart, IsSameShape, SameShapesTakeTheSame}

and_false : (b : Bool) → (b && false) ≡ false
and_false true = refl
and_false false = refl

-- ---- entries that do not clash

-- none of these clashes with one that comes later
abbrev AreFree : (ternary : Bool) → List Entry → Entry → Type 0
AreFree t done e = AllByRecursion (λ f. clash t f e ≡ false) done

no_same : (t : Bool) (f e : Entry) → clash t f e ≡ false → same_entry t f e ≡ false
no_same true f e h = ap (λ (b : Bool). same_keys f.keys e.keys && b) h ∙ and_false (same_keys f.keys e.keys)
no_same false f e h = ap (λ (b : Bool). b && true) h

has_none : (re : ℕ → ℕ) (t : Bool) (done : List Entry) (e : Entry) → AreFree t done e → has_same t (map (renumbered re) done) (renumbered re e) ≡ false
has_none re t [] e h = refl
has_none re t (f ∷ fs) e h = ap₂ (λ (a b : Bool). a || b) (no_same t f e h.0) (has_none re t fs e h.1)

no_priority : (re : ℕ → ℕ) (done : List Entry) (e : Entry) → AreFree true done e → has_priority (map (renumbered re) done) e.priority ≡ false
no_priority re [] e h = refl
no_priority re (f ∷ fs) e h = ap₂ (λ (a b : Bool). a || b) h.0 (no_priority re fs e h.1)

priority_free : (re : ℕ → ℕ) (t : Bool) (done : List Entry) (e : Entry) → AreFree t done e → (t && has_priority (map (renumbered re) done) e.priority) ≡ false
priority_free re true done e h = no_priority re done e h
priority_free re false done e h = refl

-- ---- an entry that is free

none_of : (a b c d e : Bool) → a ≡ true → b ≡ true → c ≡ false → d ≡ false → e ≡ false
    → cond (not a) (Some NoSuchAction) (cond (not b) (Some WidthDiffers) (cond c (Some SameEntry) (cond d (Some SamePriority) (cond e (Some TableLimit) None)))) ≡ None
none_of true true false false false h i j k l = refl
none_of false b c d e h i j k l = absurd (let x : false ≡ true = h in cc)
none_of true false c d e h i j k l = absurd (let x : false ≡ true = i in cc)
none_of true true true d e h i j k l = absurd (let x : true ≡ false = j in cc)
none_of true true false true e h i j k l = absurd (let x : true ≡ false = k in cc)
none_of true true false false true h i j k l = absurd (let x : true ≡ false = l in cc)

under : (n : ℕ) → n < 65536 → nat_le 65536 n ≡ false
under n lt = elim (leb_tells 65536 n) [ inl h ↦ (let k = h.1 in absurd (omega arith)) | inr h ↦ h.0 ]

module _ (re : ℕ → ℕ) (a : Shape) where
  -- the table so far
  record IsFilling (st : List Held) (n : ℕ) (done rest : List Entry) : Type 0 where
    there : n < length st
    same : IsSameShape re a (held_at st n).shape
    listed : (held_at st n).listed ≡ map (renumbered re) done
    few : entries_in st + length rest ≤ 65536
    free : AllByRecursion (λ e. AreFree (has_ternary a.keys) done e) rest

  free_fault : (st : List Held) (n : ℕ) (done : List Entry) (e : Entry) (rest : List Entry) → IsFilling st n done (e ∷ rest) → takes_entry a e ≡ true → entry_fault st n (renumbered re e) ≡ None
  free_fault st n done e rest now taken =
      let h = held_at st n in
      let parts = both_true (are_for_keys a.keys e.keys) (takes a.actions e.action e.args) taken in
      let has = takes_has a.actions e.action e.args parts.1 in
      let one = now.same.apart e.action has in
      let t : has_ternary (held_at st n).shape.keys ≡ has_ternary a.keys = ap has_ternary now.same.keys in
      none_of (has_action (held_at st n).shape.actions (re e.action)) (takes_entry (held_at st n).shape (renumbered re e)) (has_same (has_ternary (held_at st n).shape.keys) (held_at st n).listed (renumbered re e))
      (has_ternary (held_at st n).shape.keys && has_priority (held_at st n).listed e.priority) (nat_le 65536 (entries_in st))
      (ap (λ (xs : List ActionShape). has_action xs (re e.action)) now.same.actions ∙ (same_has re a.actions e.action one ∙ has))
      (ap₂ (λ (x y : Bool). x && y) (ap (λ ks. are_for_keys ks e.keys) now.same.keys ∙ parts.0) (ap (λ (xs : List ActionShape). takes xs (re e.action) e.args) now.same.actions ∙ (same_takes re a.actions e.action e.args one ∙ parts.1)))
      (ap₂ (λ (b : Bool) (es : List Entry). has_same b es (renumbered re e)) t now.listed ∙ has_none re (has_ternary a.keys) done e now.free.0)
      (ap₂ (λ (b : Bool) (es : List Entry). b && has_priority es e.priority) t now.listed ∙ priority_free re (has_ternary a.keys) done e now.free.0)
      (under (entries_in st) (let f = now.few in omega arith))

  one_more : (t : Bool) (done : List Entry) (e f : Entry) → AreFree t done f → clash t e f ≡ false → AreFree t (done ++ e ∷ []) f
  one_more t [] e f h k = (k, tt)
  one_more t (g ∷ done) e f h k = (h.0, one_more t done e f h.1 k)

  all_more : (t : Bool) (done : List Entry) (e : Entry) (rest : List Entry) → AllByRecursion (λ f. AreFree t done f) rest → AllByRecursion (λ f. clash t e f ≡ false) rest → AllByRecursion (λ f. AreFree t (done ++ e ∷ []) f) rest
  all_more t done e [] h k = tt
  all_more t done e (f ∷ rest) h k = (one_more t done e f h.0 k.0, all_more t done e rest h.1 k.1)

  next : (st : List Held) (n : ℕ) (done : List Entry) (e : Entry) (rest : List Entry) → IsFilling st n done (e ∷ rest) → AllByRecursion (λ f. clash (has_ternary a.keys) e f ≡ false) rest → IsFilling (inserted st n (renumbered re e)) n (done ++ e ∷ []) rest
  next st n done e rest now apart =
      let new : Held = record (held_at st n) { listed = (held_at st n).listed ++ renumbered re e ∷ [] } in
      let is : held_at (inserted st n (renumbered re e)) n ≡ record (held_at st n) { listed = (held_at st n).listed ++ renumbered re e ∷ [] } = get_or-set_same st n (record (held_at st n) { listed = (held_at st n).listed ++ renumbered re e ∷ [] }) no_table now.there in
      record {
        there = (let l = length-set st n (record (held_at st n) { listed = (held_at st n).listed ++ renumbered re e ∷ [] }) in let t = now.there in omega arith);
        same = subst (λ (h : Held). IsSameShape re a h.shape) (sym is) now.same;
        listed = ap (λ (h : Held). h.listed) is ∙ (ap (λ (es : List Entry). es ++ renumbered re e ∷ []) now.listed ∙ sym (map-append (renumbered re) done (e ∷ [])));
        few = (let k = entries_set st n (record (held_at st n) { listed = (held_at st n).listed ++ renumbered re e ∷ [] }) now.there in let l = length-append (held_at st n).listed (renumbered re e ∷ []) in let f = now.few in omega arith);
        free = all_more (has_ternary a.keys) done e rest now.free.1 apart;
      }

  all_accepted : (st : List Held) (n : ℕ) (done rest : List Entry) → IsFilling st n done rest → AllByRecursion (λ e. takes_entry a e ≡ true) rest → AreApart (has_ternary a.keys) rest → AreAccepted st n (map (renumbered re) rest)
  all_accepted st n done [] now taken apart = tt
  all_accepted st n done (e ∷ rest) now taken apart =
      (free_fault st n done e rest now taken.0, all_accepted (inserted st n (renumbered re e)) n (done ++ e ∷ []) rest (next st n done e rest now apart.0) taken.1 apart.1)

nothing_clashes : (t : Bool) (rest : List Entry) → AllByRecursion (λ e. AreFree t [] e) rest
nothing_clashes t [] = tt
nothing_clashes t (e ∷ rest) = (tt, nothing_clashes t rest)

pub same_shapes_take_the_same : SameShapesTakeTheSame
same_shapes_take_the_same re h st n sound there same empty few =
    all_accepted re h.shape st n [] h.listed (record { there = there; same = same; listed = empty; few = few; free = nothing_clashes (has_ternary h.shape.keys) h.listed }) sound.taken sound.apart

-- ---- numbers in two programs

record IsNamed (from to : List Action) (n : ℕ) : Type 0 where
  name : List ℕ
  is : action_place from name ≡ n
  here : IsActionName from name
  there : IsActionName to name

named_one : (from to : List Action) (pss : List (List ValueShape)) (xs : List (List ℕ)) → AllByRecursion (IsActionName from) xs → AllByRecursion (IsActionName to) xs → (n : ℕ) → has_action (map (action_shape from pss) xs) n ≡ true → IsNamed from to n
named_one from to pss [] h k n e = absurd (let c : false ≡ true = e in cc)
named_one from to pss (y ∷ ys) h k n e = go (nat_eq (action_place from y) n) refl e (named_one from to pss ys h.1 k.1 n)
  where
    go : (b : Bool) → nat_eq (action_place from y) n ≡ b → (b || has_action (map (action_shape from pss) ys) n) ≡ true → (has_action (map (action_shape from pss) ys) n ≡ true → IsNamed from to n) → IsNamed from to n
    go true i f more = record { name = y; is = eqb-true (action_place from y) n i; here = h.0; there = k.0 }
    go false i f more = more f

number_of : (from to : List Action) (y : List ℕ) → IsActionName from y → IsActionName to y → action_name to (same_number from to (action_place from y)) ≡ y
number_of from to y h k = ap (λ (z : List ℕ). action_name to (action_place to z)) h ∙ k

each_apart : (from to : List Action) (pss : List (List ValueShape)) (n : ℕ) → IsNamed from to n → (xs : List (List ℕ)) → AllByRecursion (IsActionName from) xs → AllByRecursion (IsActionName to) xs
    → AllByRecursion (λ (x : ActionShape). same_number from to x.number ≡ same_number from to n → x.number ≡ n) (map (action_shape from pss) xs)
each_apart from to pss n z [] h k = tt
each_apart from to pss n z (y ∷ ys) h k = (
  λ e. (let same : y ≡ z.name = sym (number_of from to y h.0 k.0) ∙ (ap (action_name to) (e ∙ ap (same_number from to) (sym z.is)) ∙ number_of from to z.name z.here z.there) in ap (action_place from) same ∙ z.is),
  each_apart from to pss n z ys h.1 k.1,
)

pub same_numbers_are_apart : SameNumbersAreApart
same_numbers_are_apart from to pss xs h k n e = each_apart from to pss n (named_one from to pss xs h k n e) xs h k
