-- What is held stays sound: entries that no reason refuses, and defaults.
use Rattle.std.proofs.Common.{◌≡◌, ℕ, zero, suc, ◌+◌, ◌<◌, List, [], ◌∷◌, ◌++◌, length, get_or, set, Bool, true, false, cond, Option, Some, None, refl, sym, ap, subst, ◌∙◌, arith, length-append, append_assoc}
use Rattle.std.proofs.lemmas.Bool.{false≢true, not-false, or_parts, leb-false, or_right}
use Rattle.std.proofs.lemmas.List.{get_or-set_same, set-set, length-set, append-nil}
use Rattle.std.specs.Prelude.{not, ◌&&◌, nat_eq, nat_le}
use Rattle.std.specs.List.{AllByRecursion}
use Rattle.table_shapes.specs.Shapes.{Shape, has_ternary, has_action, takes}
use Rattle.table_entries.specs.Entries.{Entry, Act, same_keys, has_same, has_priority}
use Rattle.p4_tables.specs.State.{Held, no_table, held_at, entries_in, with_listed, inserted, with_default, replaced}
use Rattle.p4_tables.specs.Faults.{takes_entry, fault_in, entry_fault, default_fault_in, default_fault, AreAccepted, IsReplaceable}
use Rattle.p4_tables.specs.Kept.{clash, AreApart, IsSound, AreSound}

-- ---- lists

pub all_push : {A : Type 0} (P : A → Type 0) (xs : List A) (y : A) → AllByRecursion P xs → P y → AllByRecursion P (xs ++ y ∷ [])
all_push P [] y h p = (p, tt)
all_push P (x ∷ xs) y h p = (h.0, all_push P xs y h.1 p)

pub all_set : {A : Type 0} (P : A → Type 0) (xs : List A) (i : ℕ) (y : A) → AllByRecursion P xs → P y → AllByRecursion P (set xs i y)
all_set P [] i y h p = tt
all_set P (x ∷ xs) zero y h p = (p, h.1)
all_set P (x ∷ xs) (suc i) y h p = (h.0, all_set P xs i y h.1 p)

pub all_at : {A : Type 0} (P : A → Type 0) (xs : List A) (i : ℕ) (d : A) → AllByRecursion P xs → i < length xs → P (get_or xs i d)
all_at P [] i d h lt = absurd (omega arith)
all_at P (x ∷ xs) zero d h lt = h.0
all_at P (x ∷ xs) (suc i) d h lt = all_at P xs i d h.1 (omega arith)

-- the number of entries, where one table holds others
pub entries_set : (st : List Held) (n : ℕ) (h : Held) → n < length st → entries_in (set st n h) + length (held_at st n).listed ≡ entries_in st + length h.listed
entries_set [] n h lt = absurd (omega arith)
entries_set (g ∷ gs) zero h lt = omega arith
entries_set (g ∷ gs) (suc n) h lt = let rest : entries_in (set gs n h) + length (held_at gs n).listed ≡ entries_in gs + length h.listed = entries_set gs n h (omega arith) in omega arith

-- ---- an entry that is not refused

-- a reason that is not given, and none behind it
passed : {A : Type 0} (b : Bool) (x : A) (rest : Option A) → cond b (Some x) rest ≡ None → (b ≡ false) × (rest ≡ None)
passed true x rest h = absurd (cc h)
passed false x rest h = (refl, h)

pub record IsFree (h : Held) (count : ℕ) (e : Entry) : Type 0 where
  pub taken : takes_entry h.shape e ≡ true
  pub new : has_same (has_ternary h.shape.keys) h.listed e ≡ false
  pub apart : (has_ternary h.shape.keys && has_priority h.listed e.priority) ≡ false
  pub few : count < 65536

pub free : (h : Held) (count : ℕ) (e : Entry) → fault_in h count e ≡ None → IsFree h count e
free h count e none =
    let listed = passed (not (has_action h.shape.actions e.action)) _ _ none in
    let wide = passed (not (takes_entry h.shape e)) _ _ listed.1 in
    let same = passed (has_same (has_ternary h.shape.keys) h.listed e) _ _ wide.1 in
    let priority = passed (has_ternary h.shape.keys && has_priority h.listed e.priority) _ _ same.1 in
    let few = passed (nat_le 65536 count) _ _ priority.1 in
    record {
      taken = not-false (takes_entry h.shape e) wide.0;
      new = same.0;
      apart = priority.0;
      few = leb-false 65536 count few.0;
    }

-- it clashes with none that is held
apart_from : (t : Bool) (es : List Entry) (e : Entry) → has_same t es e ≡ false → (t && has_priority es e.priority) ≡ false → AllByRecursion (λ f. clash t f e ≡ false) es
apart_from t [] e same priority = tt
apart_from true (f ∷ fs) e same priority =
    let p = or_parts (nat_eq f.priority e.priority) (has_priority fs e.priority) priority in
    let s = or_parts (same_keys f.keys e.keys && nat_eq f.priority e.priority) (has_same true fs e) same in
    (p.0, apart_from true fs e s.1 p.1)
apart_from false (f ∷ fs) e same priority =
    let s = or_parts (same_keys f.keys e.keys && true) (has_same false fs e) same in
    (keys (same_keys f.keys e.keys) s.0, apart_from false fs e s.1 refl)
  where
    keys : (b : Bool) → (b && true) ≡ false → b ≡ false
    keys true h = h
    keys false h = refl

apart_push : (t : Bool) (es : List Entry) (e : Entry) → AreApart t es → AllByRecursion (λ f. clash t f e ≡ false) es → AreApart t (es ++ e ∷ [])
apart_push t [] e h a = (tt, tt)
apart_push t (f ∷ fs) e h a = (all_push (λ g. clash t f g ≡ false) fs e h.0 a.0, apart_push t fs e h.1 a.1)

sound_push : (h : Held) (count : ℕ) (e : Entry) → IsSound h → IsFree h count e → IsSound (record h { listed = h.listed ++ e ∷ [] })
sound_push h count e s f =
    record {
      one_prefix = s.one_prefix;
      taken = all_push (λ g. takes_entry h.shape g ≡ true) h.listed e s.taken f.taken;
      apart = apart_push (has_ternary h.shape.keys) h.listed e s.apart (apart_from (has_ternary h.shape.keys) h.listed e f.new f.apart);
      default = s.default;
      fixed = s.fixed;
    }

pub inserted_sound : (st : List Held) (n : ℕ) (e : Entry) → n < length st → AreSound st → entry_fault st n e ≡ None → AreSound (inserted st n e)
inserted_sound st n e lt s none =
    let f : IsFree (held_at st n) (entries_in st) e = free (held_at st n) (entries_in st) e none in
    let h : Held = record (held_at st n) { listed = (held_at st n).listed ++ e ∷ [] } in
    let counted = entries_set st n h lt in
    let more = length-append (held_at st n).listed (e ∷ []) in
    let few : entries_in st < 65536 = f.few in
    record {
      each = all_set IsSound st n h s.each (sound_push (held_at st n) (entries_in st) e (all_at IsSound st n no_table s.each lt) f);
      few = omega (arith, counted, more);
    }

-- ---- a default, and a table that is emptied

-- a default that is not refused runs an action of the list
listed_default : (s : Shape) (d : Act) → default_fault_in s d ≡ None → has_action s.actions d.action ≡ true
listed_default s d none = not-false (has_action s.actions d.action) (passed (not (has_action s.actions d.action)) _ _ none).0

-- and stands in the place of one that is not `const`
free_default : (s : Shape) (d : Act) → default_fault_in s d ≡ None → s.fixed ≡ false
free_default s d none =
    let listed = passed (not (has_action s.actions d.action)) _ _ none in
    let wide = passed (not (takes s.actions d.action d.args)) _ _ listed.1 in
    (passed s.fixed _ _ wide.1).0

pub default_sound : (st : List Held) (n : ℕ) (d : Act) → n < length st → AreSound st → default_fault st n d ≡ None → AreSound (with_default st n d)
default_sound st n d lt s none =
    let here : IsSound (held_at st n) = all_at IsSound st n no_table s.each lt in
    let counted = entries_set st n (record (held_at st n) { default = d }) lt in
    let few = s.few in
    record {
      each = all_set IsSound st n _ s.each (record { one_prefix = here.one_prefix; taken = here.taken; apart = here.apart; default = or_right _ _ (listed_default (held_at st n).shape d none); fixed = λ e. absurd (false≢true (sym (free_default (held_at st n).shape d none) ∙ e)) });
      few = omega (arith, counted, few);
    }

pub emptied_sound : (st : List Held) (n : ℕ) → n < length st → AreSound st → AreSound (with_listed st n [])
emptied_sound st n lt s =
    let here : IsSound (held_at st n) = all_at IsSound st n no_table s.each lt in
    let counted = entries_set st n (record (held_at st n) { listed = [] }) lt in
    let few = s.few in
    record {
      each = all_set IsSound st n _ s.each (record { one_prefix = here.one_prefix; taken = tt; apart = tt; default = here.default; fixed = here.fixed });
      few = omega (arith, counted, few);
    }

-- ---- a list of entries

-- an entry behind those that a table was given
inserted_behind : (st : List Held) (n : ℕ) (ls : List Entry) (e : Entry) → n < length st → inserted (with_listed st n ls) n e ≡ with_listed st n (ls ++ e ∷ [])
inserted_behind st n ls e lt =
    ap (λ (h : Held). set (with_listed st n ls) n (record h { listed = h.listed ++ e ∷ [] })) (get_or-set_same st n (record (held_at st n) { listed = ls }) no_table lt)
    ∙ set-set st n (record (held_at st n) { listed = ls }) (record (held_at st n) { listed = ls ++ e ∷ [] })

accepted_sound : (st : List Held) (n : ℕ) (ls es : List Entry) → n < length st → AreSound (with_listed st n ls) → AreAccepted (with_listed st n ls) n es → AreSound (with_listed st n (ls ++ es))
accepted_sound st n ls [] lt s h = subst (λ (l : List Entry). AreSound (with_listed st n l)) (sym (append-nil ls)) s
accepted_sound st n ls (e ∷ es) lt s h =
    let is : inserted (with_listed st n ls) n e ≡ with_listed st n (ls ++ e ∷ []) = inserted_behind st n ls e lt in
    let there : n < length (with_listed st n ls) = omega (arith, length-set st n (record (held_at st n) { listed = ls })) in
    let sound : AreSound (with_listed st n (ls ++ e ∷ [])) = subst AreSound is (inserted_sound (with_listed st n ls) n e there s h.0) in
    let rest : AreAccepted (with_listed st n (ls ++ e ∷ [])) n es = subst (λ (g : List Held). AreAccepted g n es) is h.1 in
    subst (λ (l : List Entry). AreSound (with_listed st n l)) (append_assoc ls (e ∷ []) es) (accepted_sound st n (ls ++ e ∷ []) es lt sound rest)

pub replaced_sound : (st : List Held) (n : ℕ) (es : List Entry) (d : Option Act) → n < length st → AreSound st → IsReplaceable st n es d → AreSound (replaced st n es d)
replaced_sound st n es None lt s h = accepted_sound st n [] es lt (emptied_sound st n lt s) h.entries
replaced_sound st n es (Some d) lt s h =
    let there : n < length (with_listed st n es) = omega (arith, length-set st n (record (held_at st n) { listed = es })) in
    default_sound (with_listed st n es) n d there (accepted_sound st n [] es lt (emptied_sound st n lt s) h.entries) h.default
