-- A table of the form that is given for a variable takes the variable's contents.
use Rattle.std.proofs.Common.{◌≡◌, ℕ, ◌+◌, ◌<◌, ◌≤◌, List, [], ◌∷◌, length, map, Bool, true, false, not, ◌&&◌, ◌||◌, cond, Some, None, refl, sym, ap, ap₂, ◌∙◌, subst, arith}
use Rattle.std.specs.Prelude.{nat_eq, slice_get, if◌then◌else◌}
use Rattle.std.specs.List.{AllByRecursion}
use Rattle.std.proofs.lemmas.Bool.{eq-eqb}
use Rattle.std.proofs.lemmas.List.{get_or-set_same, length-set}
use Rattle.bit_values.specs.Bits.{Word}
use Rattle.p4_meaning.specs.Choice.{exact}
use Rattle.p4_meaning.specs.Parts.{Parts}
use Rattle.table_faults.specs.declared.entry.EntryFault.TheVariants.{NoSuchAction, WidthDiffers, ConstDefault}
use Rattle.table_shapes.specs.Shapes as table
use Rattle.table_shapes.specs.Shapes.{ActionShape, has_ternary, has_two_prefixes, are_for_keys, has_action, have_widths, takes}
use Rattle.table_shapes.specs.declared.shape.KeyShape.{KeyShape}
use Rattle.table_entries.specs.Entries.{Entry, same_keys}
use Rattle.p4_tables.specs.State.{Held, no_table, held_at, entries_in, written_in, with_listed}
use Rattle.p4_tables.specs.Faults.{takes_entry, default_fault_in, AreAccepted, IsAccepted, IsReplaceable}
use Rattle.p4_tables.specs.Kept.{clash, AreApart, IsSound}
use Rattle.p4_tables.specs.Carried.{renumbered, action_renumbered}
use Rattle.table_laws.specs.Loaded.{IsSameShape}
use Rattle.table_laws.proofs.Carries.{same_shapes_take_the_same}
use Rattle.indus_tree.specs.Tree.{Shape, one, list, set, dict}
use Rattle.indus_tree.specs.State.{Contents, single, members, pairs, width_of}
use Rattle.indus_tree.specs.Keys.{same_words}
use Rattle.indus_tree.specs.declared.tree.Ty.{Ty}
use Rattle.control_tables.specs.Contents.{entry_for, entries_for, default_for}
use Rattle.lookup_names.specs.Keys.{key_types}
use Rattle.control_maps.specs.Numbers.{Numbered, HasTypes, HasShape, keys_of, AreUnequal, exact_keys, params_for, HasForm, IsOfForm}

-- ---- keys

no_ternary : (ts : List Ty) → has_ternary (exact_keys ts) ≡ false
no_ternary [] = refl
no_ternary (t ∷ ts) = no_ternary ts

no_prefixes : (ts : List Ty) → has_two_prefixes (exact_keys ts) ≡ false
no_prefixes [] = refl
no_prefixes (t ∷ ts) = no_prefixes ts

keys_taken : (ts : List Ty) (key : List Word) → HasTypes ts key → are_for_keys (exact_keys ts) (map exact key) ≡ true
keys_taken [] [] h = refl
keys_taken [] (w ∷ ws) h = absurd (cc)
keys_taken (t ∷ ts) [] h = absurd (cc)
keys_taken (t ∷ ts) (w ∷ ws) h =
    let one : w.width ≡ width_of t = (cc) in
    let rest : map (λ (w : Word). w.width) ws ≡ map width_of ts = (cc) in
    ap₂ (λ (a b : Bool). a && b) (eq-eqb w.width (width_of t) one) (keys_taken ts ws rest)

same_exact : (k j : List Word) → same_keys (map exact k) (map exact j) ≡ same_words k j
same_exact [] [] = refl
same_exact [] (w ∷ ws) = refl
same_exact (v ∷ vs) [] = refl
same_exact (v ∷ vs) (w ∷ ws) = ap (λ b. nat_eq v.value w.value && b) (same_exact vs ws)

-- ---- actions

has_first : (xs : List ActionShape) (a : ActionShape) → slice_get xs 0 ≡ Some a → has_action xs a.number ≡ true
has_first [] a e = absurd (cc)
has_first (x ∷ xs) a e = let is : x ≡ a = (cc) in ap (λ b. b || has_action xs a.number) (eq-eqb x.number a.number (ap (λ (y : ActionShape). y.number) is))

takes_first : (xs : List ActionShape) (a : ActionShape) (ws : List Word) → slice_get xs 0 ≡ Some a → have_widths a.params ws ≡ true → takes xs a.number ws ≡ true
takes_first [] a ws e h = absurd (cc)
takes_first (x ∷ xs) a ws e h =
    let is : x ≡ a = (cc) in
    ap (λ b. cond b (have_widths x.params ws) (takes xs a.number ws)) (eq-eqb x.number a.number (ap (λ (y : ActionShape). y.number) is))
    ∙ (ap (λ (y : ActionShape). have_widths y.params ws) is ∙ h)

one_width : (w : Word) (n : ℕ) → w.width ≡ n → (nat_eq w.width n && true) ≡ true
one_width w n e = ap (λ b. b && true) (eq-eqb w.width n e)

-- ---- entries

module _ (s : table.Shape) (a : ℕ) where
  entry_taken : (d : Shape) → HasForm s a d → (key args : List Word) → HasTypes (key_types d) key → have_widths (params_for d) args ≡ true → takes_entry s (entry_for a key args) ≡ true
  entry_taken d form key args h k =
      ap₂ (λ (a b : Bool). a && b) (ap (λ (ks : List KeyShape). are_for_keys ks (map exact key)) form.keys ∙ keys_taken (key_types d) key h)
      (takes_first s.actions (record { number = a; params = params_for d }) args form.first k)

  members_taken : (ts : List Ty) → HasForm s a (set ts) → (ks : List (List Word)) → AllByRecursion (HasTypes ts) ks → AllByRecursion (λ e. takes_entry s e ≡ true) (map (λ k. entry_for a k []) ks)
  members_taken ts form [] h = tt
  members_taken ts form (k ∷ ks) h = (entry_taken (set ts) form k [] h.0 refl, members_taken ts form ks h.1)

  pairs_taken : (ts : List Ty) (t : Ty) → HasForm s a (dict ts t) → (es : List (List Word × Word)) → AllByRecursion (λ e. HasTypes ts e.0 × (e.1.width ≡ width_of t)) es → AllByRecursion (λ e. takes_entry s e ≡ true) (map (λ e. entry_for a e.0 (e.1 ∷ [])) es)
  pairs_taken ts t form [] h = tt
  pairs_taken ts t form (e ∷ es) h = (entry_taken (dict ts t) form e.0 (e.1 ∷ []) h.0.0 (one_width e.1 (width_of t) h.0.1), pairs_taken ts t form es h.1)

  all_taken : (d : Shape) (c : Contents) → HasForm s a d → HasShape d c → AllByRecursion (λ e. takes_entry s e ≡ true) (entries_for a c)
  all_taken (one t) (single w) form h = tt
  all_taken (one t) (members ks) form h = absurd h
  all_taken (one t) (pairs es) form h = absurd h
  all_taken (list t n) c form h = absurd h
  all_taken (set ts) (single w) form h = absurd h
  all_taken (set ts) (members ks) form h = members_taken ts form ks h
  all_taken (set ts) (pairs es) form h = absurd h
  all_taken (dict ts t) (single w) form h = absurd h
  all_taken (dict ts t) (members ks) form h = absurd h
  all_taken (dict ts t) (pairs es) form h = pairs_taken ts t form es h

  -- no two of them are the same
  member_apart : (k : List Word) (ks : List (List Word)) → AllByRecursion (λ j. same_words k j ≡ false) ks → AllByRecursion (λ f. clash false (entry_for a k []) f ≡ false) (map (λ k. entry_for a k []) ks)
  member_apart k [] h = tt
  member_apart k (j ∷ js) h = (same_exact k j ∙ h.0, member_apart k js h.1)

  members_apart : (ks : List (List Word)) → AreUnequal ks → AreApart false (map (λ k. entry_for a k []) ks)
  members_apart [] h = tt
  members_apart (k ∷ ks) h = (member_apart k ks h.0, members_apart ks h.1)

  pair_apart : (e : List Word × Word) (es : List (List Word × Word)) → AllByRecursion (λ j. same_words e.0 j ≡ false) (map (λ e. e.0) es) → AllByRecursion (λ f. clash false (entry_for a e.0 (e.1 ∷ [])) f ≡ false) (map (λ e. entry_for a e.0 (e.1 ∷ [])) es)
  pair_apart e [] h = tt
  pair_apart e (f ∷ fs) h = (same_exact e.0 f.0 ∙ h.0, pair_apart e fs h.1)

  pairs_apart : (es : List (List Word × Word)) → AreUnequal (map (λ e. e.0) es) → AreApart false (map (λ e. entry_for a e.0 (e.1 ∷ [])) es)
  pairs_apart [] h = tt
  pairs_apart (e ∷ es) h = (pair_apart e es h.0, pairs_apart es h.1)

  all_apart : (c : Contents) → AreUnequal (keys_of c) → AreApart false (entries_for a c)
  all_apart (single w) h = tt
  all_apart (members ks) h = members_apart ks h
  all_apart (pairs es) h = pairs_apart es h

  -- a table that holds them is sound
  sound : (d : Shape) (c : Contents) → HasForm s a d → HasShape d c → AreUnequal (keys_of c) → IsSound (record { shape = s; listed = entries_for a c; default = written_in s })
  sound d c form h k =
      record {
        one_prefix = ap has_two_prefixes form.keys ∙ no_prefixes (key_types d);
        taken = all_taken d c form h;
        apart = subst (λ b. AreApart b (entries_for a c)) (sym (ap has_ternary form.keys ∙ no_ternary (key_types d))) (all_apart c k);
        default = ap (λ b. b || has_action s.actions s.written) (eq-eqb s.written s.written refl);
        fixed = λ e. refl;
      }

  -- the default of a scalar
  none_of : (x y z : Bool) → x ≡ true → y ≡ true → z ≡ false → (if not x then Some NoSuchAction else if not y then Some WidthDiffers else if z then Some ConstDefault else None) ≡ None
  none_of true true false x y z = refl
  none_of true true true x y z = absurd (let q : true ≡ false = z in cc)
  none_of true false z x y w = absurd (let q : false ≡ true = y in cc)
  none_of false y z x w v = absurd (let q : false ≡ true = x in cc)

  default_taken : (t : Ty) (w : Word) → HasForm s a (one t) → w.width ≡ width_of t → default_fault_in s (record { action = a; args = w ∷ [] }) ≡ None
  default_taken t w form h =
      none_of (has_action s.actions a) (takes s.actions a (w ∷ [])) s.fixed (has_first s.actions (record { number = a; params = params_for (one t) }) form.first)
      (takes_first s.actions (record { number = a; params = params_for (one t) }) (w ∷ []) form.first (one_width w (width_of t) h)) form.fixed

-- ---- by the same numbers

same_numbers : (xs : List ActionShape) → xs ≡ map (action_renumbered (λ n. n)) xs
same_numbers [] = refl
same_numbers (x ∷ xs) = ap (λ (ys : List ActionShape). x ∷ ys) (same_numbers xs)

one_number : (n : ℕ) (xs : List ActionShape) → AllByRecursion (λ (x : ActionShape). x.number ≡ n → x.number ≡ n) xs
one_number n [] = tt
one_number n (x ∷ xs) = ((λ e. e), one_number n xs)

same_entries : (es : List Entry) → map (renumbered (λ n. n)) es ≡ es
same_entries [] = refl
same_entries (e ∷ es) = ap (λ (fs : List Entry). e ∷ fs) (same_entries es)

-- ---- the table takes the contents

module _ (f : Parts) (st : List Held) (n : Numbered) (c : Contents) (is : IsOfForm f st n) (shape : HasShape n.shape c) where
  low : n.table < length st
  low = (let a = is.long in let b = is.there in omega arith)

  with_at : (es : List Entry) → held_at (with_listed st n.table es) n.table ≡ record (held_at st n.table) { listed = es }
  with_at es = get_or-set_same st n.table (record (held_at st n.table) { listed = es }) no_table low

  default_accepted : (d : Shape) (c : Contents) → HasForm (held_at st n.table).shape n.action d → HasShape d c → (es : List Entry) → IsAccepted (with_listed st n.table es) n.table (default_for n.action c)
  default_accepted (one t) (single w) form h es =
      subst (λ (g : Held). default_fault_in g.shape (record { action = n.action; args = w ∷ [] }) ≡ None) (sym (with_at es)) (default_taken (held_at st n.table).shape n.action t w form h)
  default_accepted (list t k) (single w) form h es = absurd h
  default_accepted (set ts) (single w) form h es = absurd h
  default_accepted (dict ts t) (single w) form h es = absurd h
  default_accepted d (members ks) form h es = tt
  default_accepted d (pairs ps) form h es = tt

  pub is_taken : AreUnequal (keys_of c) → entries_in (with_listed st n.table []) + length (entries_for n.action c) ≤ 65536 → IsReplaceable st n.table (entries_for n.action c) (default_for n.action c)
  is_taken unequal few =
      let held : Held = record { shape = (held_at st n.table).shape; listed = entries_for n.action c; default = written_in (held_at st n.table).shape } in
      let there : n.table < length (with_listed st n.table []) = (let a = length-set st n.table (record (held_at st n.table) { listed = [] }) in let b = low in omega arith) in
      let same : IsSameShape (λ n. n) (held_at st n.table).shape (held_at st n.table).shape = record { keys = refl; actions = same_numbers (held_at st n.table).shape.actions; apart = λ k h. one_number k (held_at st n.table).shape.actions } in
      let taken : AreAccepted (with_listed st n.table []) n.table (map (renumbered (λ n. n)) (entries_for n.action c)) =
      same_shapes_take_the_same (λ n. n) held (with_listed st n.table []) n.table (sound (held_at st n.table).shape n.action n.shape c is.form shape unequal) there
      (subst (λ (g : Held). IsSameShape (λ n. n) (held_at st n.table).shape g.shape) (sym (with_at [])) same) (ap (λ (g : Held). g.listed) (with_at [])) few in
      record {
        entries = subst (λ (es : List Entry). AreAccepted (with_listed st n.table []) n.table es) (same_entries (entries_for n.action c)) taken;
        default = default_accepted n.shape c is.form shape (entries_for n.action c);
      }
