-- What the longest sign tells is what one walk over all entries finds.
use Rattle.std.proofs.Common.{◌≡◌, ℕ, zero, suc, ◌-◌, ◌/◌, ◌^◌, ◌<◌, ◌≤◌, List, [], ◌∷◌, ◌++◌, get_or, length, map, max, Bool, true, false, Option, Some, None, refl, sym, ap, ap₂, subst, ◌∙◌, arith}
use Rattle.std.specs.Prelude.{◌&&◌, nat_eq, nat_le, if◌then◌else◌}
use Rattle.std.specs.Option.{option_map, option_or}
use Rattle.std.specs.List.{Contains}
use Rattle.std.specs.Cmp.Lexicographic.{pointwise}
use Rattle.std.proofs.lemmas.Bool.{and_parts, or_parts, eqb-true, eq-eqb, false≢true, leb-true}
use Rattle.bit_values.specs.Bits.{Word}
use Rattle.p4_meaning.specs.Choice.{Match, exact, lpm, ternary, fits_key, fits_keys, prefix_of}
use Rattle.table_shapes.specs.Shapes.{is_exact, is_lpm, is_ternary, has_ternary, has_lpm, has_two_prefixes, is_for_key, are_for_keys, takes, have_widths}
use Rattle.table_entries.specs.Entries.{Entry, Act, act_in}
use Rattle.p4_tables.specs.State.{Held}
use Rattle.p4_tables.specs.Faults.{takes_entry}
use Rattle.p4_tables.specs.Kept.{AreApart, IsSound}
use Rattle.table_entries.specs.View.{act_of}
use Rattle.table_entries.specs.Walk.{found_in}
use Rattle.table_entries.specs.Signs.{signs_of, wanted_of, wanted, sign_act}
use Rattle.table_entries.specs.Index.{longest_of, longest, first_told, first_act, place_in, asks}
use Rattle.table_entries.specs.declared.signs.Signs.{Signs}
use Rattle.table_shapes.specs.declared.shape.KeyKind.{KeyKind}
use Rattle.table_shapes.specs.declared.shape.KeyKind.TheVariants.{Exact, Lpm, Ternary}
use Rattle.table_shapes.specs.declared.shape.KeyShape.{KeyShape}
use Rattle.table_entries.proofs.Listed.{no_entry}
use Rattle.table_entries.proofs.Noted.{stands, nowhere}
use Rattle.p4_tables.proofs.Ranked.{contains_at, highest_found, no_found}
use Rattle.p4_tables.proofs.Same.{flip, and_assoc}
use Rattle.p4_tables.proofs.Unique.{no_mask, no_prefix, of_one, clash_of}

-- ---- the kinds of keys

wants_exact : (k : KeyKind) (n : ℕ) (w : Word) → is_exact k ≡ true → wanted_of k n w ≡ w.value ∷ []
wants_exact Exact n w is = refl
wants_exact Lpm n w is = absurd (false≢true is)
wants_exact Ternary n w is = absurd (false≢true is)

wants_bits : (k : KeyKind) (n : ℕ) (w : Word) → is_lpm k ≡ true → wanted_of k n w ≡ n ∷ w.value / 2 ^ (w.width - n) ∷ []
wants_bits Exact n w is = absurd (false≢true is)
wants_bits Lpm n w is = refl
wants_bits Ternary n w is = absurd (false≢true is)

longest_here : (k : KeyKind) (w n : ℕ) → is_lpm k ≡ true → longest_of k w n ≡ w
longest_here Exact w n is = absurd (false≢true is)
longest_here Lpm w n is = refl
longest_here Ternary w n is = absurd (false≢true is)

longest_behind : (k : KeyKind) (w n : ℕ) → is_lpm k ≡ false → longest_of k w n ≡ n
longest_behind Exact w n is = refl
longest_behind Lpm w n is = absurd (false≢true (sym is))
longest_behind Ternary w n is = refl

exact_no_lpm : (k : KeyKind) → is_exact k ≡ true → is_lpm k ≡ false
exact_no_lpm Exact is = refl
exact_no_lpm Lpm is = absurd (false≢true is)
exact_no_lpm Ternary is = absurd (false≢true is)

mask_no_lpm : (k : KeyKind) → is_ternary k ≡ true → is_lpm k ≡ false
mask_no_lpm Exact is = refl
mask_no_lpm Lpm is = absurd (false≢true is)
mask_no_lpm Ternary is = refl

-- without a key that is matched by its first bits
no_longest : (ks : List KeyShape) → has_lpm ks ≡ false → longest ks ≡ 0
no_longest [] none = refl
no_longest (k ∷ ks) none =
    let h = or_parts (is_lpm k.kind) (has_lpm ks) none in
    longest_behind k.kind k.value.width (longest ks) h.0 ∙ no_longest ks h.1

-- ---- what fits has the sign that is wanted

-- an entry without a prefix
fits_exactly : (ks : List KeyShape) (ms : List Match) (n : ℕ) (ws : List Word) → has_ternary ks ≡ false → has_lpm ks ≡ false → are_for_keys ks ms ≡ true → have_widths (map (λ (k : KeyShape). k.value) ks) ws ≡ true → fits_keys ms ws ≡ pointwise nat_eq (wanted ks n ws) (signs_of ms)
fits_exactly [] [] n [] t l am hw = refl
fits_exactly [] [] n (w ∷ ws) t l am hw = absurd (cc hw)
fits_exactly [] (m ∷ ms) n ws t l am hw = absurd (cc am)
fits_exactly (k ∷ ks) [] n ws t l am hw = absurd (cc am)
fits_exactly (k ∷ ks) (m ∷ ms) n [] t l am hw = absurd (cc hw)
fits_exactly (k ∷ ks) (exact v ∷ ms) n (w ∷ ws) t l am hw =
    let a = and_parts (is_for_key k (exact v)) (are_for_keys ks ms) am in
    let a2 = and_parts (is_exact k.kind) (nat_eq v.width k.value.width) a.0 in
    let h = and_parts (nat_eq w.width k.value.width) (have_widths (map (λ (j : KeyShape). j.value) ks) ws) hw in
    let none = or_parts (is_lpm k.kind) (has_lpm ks) l in
    ap₂ (λ (x y : Bool). x && y) (flip v.value w.value) (fits_exactly ks ms n ws (or_parts (is_ternary k.kind) (has_ternary ks) t).1 none.1 a.1 h.1)
    ∙ sym (ap (λ (s : List ℕ). pointwise nat_eq (s ++ wanted ks n ws) (v.value ∷ signs_of ms)) (wants_exact k.kind n w a2.0))
fits_exactly (k ∷ ks) (lpm v m ∷ ms) n (w ∷ ws) t l am hw =
    let a = and_parts (is_for_key k (lpm v m)) (are_for_keys ks ms) am in
    let a2 = and_parts (is_lpm k.kind && nat_eq v.width k.value.width) (nat_le m k.value.width) a.0 in
    let a3 = and_parts (is_lpm k.kind) (nat_eq v.width k.value.width) a2.0 in
    absurd (no_mask (is_lpm k.kind) a3.0 (or_parts (is_lpm k.kind) (has_lpm ks) l).0)
fits_exactly (k ∷ ks) (ternary v q ∷ ms) n (w ∷ ws) t l am hw =
    let a = and_parts (is_for_key k (ternary v q)) (are_for_keys ks ms) am in
    let a2 = and_parts (is_ternary k.kind && nat_eq v.width k.value.width) (nat_eq q.width k.value.width) a.0 in
    let a3 = and_parts (is_ternary k.kind) (nat_eq v.width k.value.width) a2.0 in
    absurd (no_mask (is_ternary k.kind) a3.0 (or_parts (is_ternary k.kind) (has_ternary ks) t).0)

-- one prefix, of the length that is wanted
one_prefix : (v w : Word) (n m width : ℕ) → v.width ≡ width → w.width ≡ width → n ≡ m → fits_key (lpm v m) w ≡ (nat_eq n m && nat_eq (w.value / 2 ^ (w.width - n)) (v.value / 2 ^ (v.width - m)))
one_prefix v w n m width vw ww nm =
    flip (v.value / 2 ^ (w.width - m)) (w.value / 2 ^ (w.width - m))
    ∙ ap₂ (λ (x y : ℕ). nat_eq (w.value / 2 ^ (w.width - x)) (v.value / 2 ^ (y - m))) (sym nm) (ww ∙ sym vw)
    ∙ ap (λ (b : Bool). b && nat_eq (w.value / 2 ^ (w.width - n)) (v.value / 2 ^ (v.width - m))) (sym (eq-eqb n m nm))

pub fits_wanted : (ks : List KeyShape) (ms : List Match) (n : ℕ) (ws : List Word) → has_ternary ks ≡ false → has_two_prefixes ks ≡ false → are_for_keys ks ms ≡ true → have_widths (map (λ (k : KeyShape). k.value) ks) ws ≡ true → n ≡ prefix_of ms → fits_keys ms ws ≡ pointwise nat_eq (wanted ks n ws) (signs_of ms)
fits_wanted [] [] n [] t two am hw is = refl
fits_wanted [] [] n (w ∷ ws) t two am hw is = absurd (cc hw)
fits_wanted [] (m ∷ ms) n ws t two am hw is = absurd (cc am)
fits_wanted (k ∷ ks) [] n ws t two am hw is = absurd (cc am)
fits_wanted (k ∷ ks) (m ∷ ms) n [] t two am hw is = absurd (cc hw)
fits_wanted (k ∷ ks) (exact v ∷ ms) n (w ∷ ws) t two am hw is =
    let a = and_parts (is_for_key k (exact v)) (are_for_keys ks ms) am in
    let a2 = and_parts (is_exact k.kind) (nat_eq v.width k.value.width) a.0 in
    let h = and_parts (nat_eq w.width k.value.width) (have_widths (map (λ (j : KeyShape). j.value) ks) ws) hw in
    let p = or_parts (is_lpm k.kind && has_lpm ks) (has_two_prefixes ks) two in
    ap₂ (λ (x y : Bool). x && y) (flip v.value w.value) (fits_wanted ks ms n ws (or_parts (is_ternary k.kind) (has_ternary ks) t).1 p.1 a.1 h.1 is)
    ∙ sym (ap (λ (s : List ℕ). pointwise nat_eq (s ++ wanted ks n ws) (v.value ∷ signs_of ms)) (wants_exact k.kind n w a2.0))
fits_wanted (k ∷ ks) (lpm v m ∷ ms) n (w ∷ ws) t two am hw is =
    let a = and_parts (is_for_key k (lpm v m)) (are_for_keys ks ms) am in
    let a2 = and_parts (is_lpm k.kind && nat_eq v.width k.value.width) (nat_le m k.value.width) a.0 in
    let a3 = and_parts (is_lpm k.kind) (nat_eq v.width k.value.width) a2.0 in
    let h = and_parts (nat_eq w.width k.value.width) (have_widths (map (λ (j : KeyShape). j.value) ks) ws) hw in
    let p = or_parts (is_lpm k.kind && has_lpm ks) (has_two_prefixes ks) two in
    let none : has_lpm ks ≡ false = subst (λ (b : Bool). (b && has_lpm ks) ≡ false) a3.0 p.0 in
    let rest : prefix_of ms ≡ 0 = no_prefix ks ms none a.1 in
    let nm : n ≡ m = omega (arith, is, rest) in
    ap₂ (λ (x y : Bool). x && y) (one_prefix v w n m k.value.width (eqb-true _ _ a3.1) (eqb-true _ _ h.0) nm) (fits_exactly ks ms n ws (or_parts (is_ternary k.kind) (has_ternary ks) t).1 none a.1 h.1)
    ∙ and_assoc (nat_eq n m) (nat_eq (w.value / 2 ^ (w.width - n)) (v.value / 2 ^ (v.width - m))) (pointwise nat_eq (wanted ks n ws) (signs_of ms))
    ∙ sym (ap (λ (s : List ℕ). pointwise nat_eq (s ++ wanted ks n ws) (m ∷ v.value / 2 ^ (v.width - m) ∷ signs_of ms)) (wants_bits k.kind n w a3.0))
fits_wanted (k ∷ ks) (ternary v q ∷ ms) n (w ∷ ws) t two am hw is =
    let a = and_parts (is_for_key k (ternary v q)) (are_for_keys ks ms) am in
    let a2 = and_parts (is_ternary k.kind && nat_eq v.width k.value.width) (nat_eq q.width k.value.width) a.0 in
    let a3 = and_parts (is_ternary k.kind) (nat_eq v.width k.value.width) a2.0 in
    absurd (no_mask (is_ternary k.kind) a3.0 (or_parts (is_ternary k.kind) (has_ternary ks) t).0)

-- what has the sign that is wanted has a prefix of that length
pub wanted_prefix : (ks : List KeyShape) (ms : List Match) (n : ℕ) (ws : List Word) → has_ternary ks ≡ false → has_two_prefixes ks ≡ false → are_for_keys ks ms ≡ true → n ≤ longest ks → pointwise nat_eq (wanted ks n ws) (signs_of ms) ≡ true → prefix_of ms ≡ n
wanted_prefix [] [] n ws t two am le is = omega (arith, le)
wanted_prefix [] (m ∷ ms) n ws t two am le is = absurd (cc am)
wanted_prefix (k ∷ ks) [] n ws t two am le is = absurd (cc am)
wanted_prefix (k ∷ ks) (exact v ∷ ms) n [] t two am le is = absurd (cc is)
wanted_prefix (k ∷ ks) (lpm v m ∷ ms) n [] t two am le is = absurd (cc is)
wanted_prefix (k ∷ ks) (exact v ∷ ms) n (w ∷ ws) t two am le is =
    let a = and_parts (is_for_key k (exact v)) (are_for_keys ks ms) am in
    let a2 = and_parts (is_exact k.kind) (nat_eq v.width k.value.width) a.0 in
    let p = or_parts (is_lpm k.kind && has_lpm ks) (has_two_prefixes ks) two in
    let far : longest (k ∷ ks) ≡ longest ks = longest_behind k.kind k.value.width (longest ks) (exact_no_lpm k.kind a2.0) in
    let signed = subst (λ (s : List ℕ). pointwise nat_eq (s ++ wanted ks n ws) (v.value ∷ signs_of ms) ≡ true) (wants_exact k.kind n w a2.0) is in
    let h = and_parts (nat_eq w.value v.value) (pointwise nat_eq (wanted ks n ws) (signs_of ms)) signed in
    wanted_prefix ks ms n ws (or_parts (is_ternary k.kind) (has_ternary ks) t).1 p.1 a.1 (subst (λ (j : ℕ). n ≤ j) far le) h.1
wanted_prefix (k ∷ ks) (lpm v m ∷ ms) n (w ∷ ws) t two am le is =
    let a = and_parts (is_for_key k (lpm v m)) (are_for_keys ks ms) am in
    let a2 = and_parts (is_lpm k.kind && nat_eq v.width k.value.width) (nat_le m k.value.width) a.0 in
    let a3 = and_parts (is_lpm k.kind) (nat_eq v.width k.value.width) a2.0 in
    let p = or_parts (is_lpm k.kind && has_lpm ks) (has_two_prefixes ks) two in
    let none : has_lpm ks ≡ false = subst (λ (b : Bool). (b && has_lpm ks) ≡ false) a3.0 p.0 in
    let rest : prefix_of ms ≡ 0 = no_prefix ks ms none a.1 in
    let signed = subst (λ (s : List ℕ). pointwise nat_eq (s ++ wanted ks n ws) (m ∷ v.value / 2 ^ (v.width - m) ∷ signs_of ms) ≡ true) (wants_bits k.kind n w a3.0) is in
    let h = and_parts (nat_eq n m) _ signed in
    let nm : n ≡ m = eqb-true n m h.0 in
    omega (arith, nm, rest)
wanted_prefix (k ∷ ks) (ternary v q ∷ ms) n ws t two am le is =
    let a = and_parts (is_for_key k (ternary v q)) (are_for_keys ks ms) am in
    let a2 = and_parts (is_ternary k.kind && nat_eq v.width k.value.width) (nat_eq q.width k.value.width) a.0 in
    let a3 = and_parts (is_ternary k.kind) (nat_eq v.width k.value.width) a2.0 in
    absurd (no_mask (is_ternary k.kind) a3.0 (or_parts (is_ternary k.kind) (has_ternary ks) t).0)

-- no prefix is longer than the key
pub within_longest : (ks : List KeyShape) (ms : List Match) → has_two_prefixes ks ≡ false → are_for_keys ks ms ≡ true → prefix_of ms ≤ longest ks
within_longest [] [] two am = omega arith
within_longest [] (m ∷ ms) two am = absurd (cc am)
within_longest (k ∷ ks) [] two am = absurd (cc am)
within_longest (k ∷ ks) (exact v ∷ ms) two am =
    let a = and_parts (is_for_key k (exact v)) (are_for_keys ks ms) am in
    let a2 = and_parts (is_exact k.kind) (nat_eq v.width k.value.width) a.0 in
    let p = or_parts (is_lpm k.kind && has_lpm ks) (has_two_prefixes ks) two in
    subst (λ (j : ℕ). prefix_of ms ≤ j) (sym (longest_behind k.kind k.value.width (longest ks) (exact_no_lpm k.kind a2.0))) (within_longest ks ms p.1 a.1)
within_longest (k ∷ ks) (lpm v m ∷ ms) two am =
    let a = and_parts (is_for_key k (lpm v m)) (are_for_keys ks ms) am in
    let a2 = and_parts (is_lpm k.kind && nat_eq v.width k.value.width) (nat_le m k.value.width) a.0 in
    let a3 = and_parts (is_lpm k.kind) (nat_eq v.width k.value.width) a2.0 in
    let p = or_parts (is_lpm k.kind && has_lpm ks) (has_two_prefixes ks) two in
    let none : has_lpm ks ≡ false = subst (λ (b : Bool). (b && has_lpm ks) ≡ false) a3.0 p.0 in
    let rest : prefix_of ms ≡ 0 = no_prefix ks ms none a.1 in
    let le : m ≤ k.value.width = leb-true m k.value.width a2.1 in
    subst (λ (j : ℕ). max m (prefix_of ms) ≤ j) (sym (longest_here k.kind k.value.width (longest ks) a3.0)) (omega (arith, le, rest))
within_longest (k ∷ ks) (ternary v q ∷ ms) two am =
    let a = and_parts (is_for_key k (ternary v q)) (are_for_keys ks ms) am in
    let a2 = and_parts (is_ternary k.kind && nat_eq v.width k.value.width) (nat_eq q.width k.value.width) a.0 in
    let a3 = and_parts (is_ternary k.kind) (nat_eq v.width k.value.width) a2.0 in
    let p = or_parts (is_lpm k.kind && has_lpm ks) (has_two_prefixes ks) two in
    subst (λ (j : ℕ). prefix_of ms ≤ j) (sym (longest_behind k.kind k.value.width (longest ks) (mask_no_lpm k.kind a3.0))) (within_longest ks ms p.1 a.1)

-- ---- the first that is told

pub record IsFirstTold (told : ℕ → Option ℕ) (most i : ℕ) : Type 0 where
  pub length : ℕ
  pub within : length ≤ most
  pub told_there : told length ≡ Some i
  pub none_longer : (m : ℕ) → length < m → m ≤ most → told m ≡ None

pub first_is : (told : ℕ → Option ℕ) (most i : ℕ) → first_told told most ≡ Some i → IsFirstTold told most i
first_is told zero i is = record { length = 0; within = omega arith; told_there = is; none_longer = λ m lt le. absurd (omega (arith, lt, le)) }
first_is told (suc n) i is = go (λ h. first_is told n i h) (told (suc n)) refl is
  where
    go : (first_told told n ≡ Some i → IsFirstTold told n i) → (o : Option ℕ) → told (suc n) ≡ o → option_or o (first_told told n) ≡ Some i → IsFirstTold told (suc n) i
    go rest (Some j) at eq = record { length = suc n; within = omega arith; told_there = at ∙ eq; none_longer = λ m lt le. absurd (omega (arith, lt, le)) }
    go rest None at eq =
        let r = rest eq in
        record {
          length = r.length;
          within = (let w = r.within in omega (arith, w));
          told_there = r.told_there;
          none_longer = λ m lt le. later r m lt le (nat_eq m (suc n)) refl;
        }
      where
        later : (r : IsFirstTold told n i) (m : ℕ) → r.length < m → m ≤ suc n → (b : Bool) → nat_eq m (suc n) ≡ b → told m ≡ None
        later r m lt le true h = subst (λ (j : ℕ). told j ≡ None) (sym (eqb-true m (suc n) h)) at
        later r m lt le false h = r.none_longer m lt (grind (arith, le, h))

pub none_told : (told : ℕ → Option ℕ) (most : ℕ) → first_told told most ≡ None → (m : ℕ) → m ≤ most → told m ≡ None
none_told told zero is m le = subst (λ (j : ℕ). told j ≡ None) (omega (arith, le)) is
none_told told (suc n) is m le = go (λ h k. none_told told n h k) (told (suc n)) refl is (nat_eq m (suc n)) refl
  where
    go : (first_told told n ≡ None → (k : ℕ) → k ≤ n → told k ≡ None) → (o : Option ℕ) → told (suc n) ≡ o → option_or o (first_told told n) ≡ None → (b : Bool) → nat_eq m (suc n) ≡ b → told m ≡ None
    go rest (Some j) at eq b h = absurd (cc eq)
    go rest None at eq true h = subst (λ (j : ℕ). told j ≡ None) (sym (eqb-true m (suc n) h)) at
    go rest None at eq false h = rest eq m (grind (arith, le, h))

-- ---- what is found

module _ (h : Held) (ws : List Word) (sound : IsSound h) (none : has_ternary h.shape.keys ≡ false) (hw : have_widths (map (λ (k : KeyShape). k.value) h.shape.keys) ws ≡ true) (told : List ℕ → Option ℕ) (tells : (s : List ℕ) → told s ≡ place_in (asks s) h.listed) where
  abbrev at_length : ℕ → Option ℕ
  at_length n = told (wanted h.shape.keys n ws)

  for_keys : (e : Entry) → Contains h.listed e → are_for_keys h.shape.keys e.keys ≡ true
  for_keys e c = (and_parts (are_for_keys h.shape.keys e.keys) (takes h.shape.actions e.action e.args) (of_one (λ g. takes_entry h.shape g ≡ true) h.listed e c sound.taken)).0

  -- an entry that fits is asked for at the length of its prefix
  asked_for : (e : Entry) → Contains h.listed e → fits_keys e.keys ws ≡ true → (at_length (prefix_of e.keys) ≡ None → ⊥)
  asked_for e c fe at =
      let signed : asks (wanted h.shape.keys (prefix_of e.keys) ws) e ≡ true = sym (fits_wanted h.shape.keys e.keys (prefix_of e.keys) ws none sound.one_prefix (for_keys e c) hw refl) ∙ fe in
      let no : asks (wanted h.shape.keys (prefix_of e.keys) ws) e ≡ false = of_one (λ g. asks (wanted h.shape.keys (prefix_of e.keys) ws) g ≡ false) h.listed e c (nowhere (asks (wanted h.shape.keys (prefix_of e.keys) ws)) h.listed (sym (tells _) ∙ at)) in
      no_mask _ signed no

  pub sign_found : (i : ℕ) (d : Entry) → first_told at_length (longest h.shape.keys) ≡ Some i → (i < length h.listed) × (found_in false h.listed ws ≡ Some (get_or h.listed i d))
  sign_found i d is =
      let r = first_is at_length (longest h.shape.keys) i is in
      let s = stands (asks (wanted h.shape.keys r.length ws)) h.listed i d (sym (tells _) ∙ r.told_there) in
      let e = get_or h.listed i d in
      let c : Contains h.listed e = contains_at h.listed i d s.0 in
      let prefix : prefix_of e.keys ≡ r.length = wanted_prefix h.shape.keys e.keys r.length ws none sound.one_prefix (for_keys e c) r.within s.1 in
      let fe : fits_keys e.keys ws ≡ true = fits_wanted h.shape.keys e.keys r.length ws none sound.one_prefix (for_keys e c) hw (sym prefix) ∙ s.1 in
      let taken : (g : Entry) → Contains h.listed g → takes_entry h.shape g ≡ true = λ g cg. of_one (λ f. takes_entry h.shape f ≡ true) h.listed g cg sound.taken in
      (s.0, highest_found false ws h.listed e (subst (λ (b : Bool). AreApart b h.listed) none sound.apart) (λ f g cf cg ff fg same. clash_of h.shape false f g ws none sound.one_prefix (taken f cf) (taken g cg) hw ff fg same) c fe (λ f cf ff. below r e prefix f cf ff))
    where
      below : (r : IsFirstTold at_length (longest h.shape.keys) i) (e : Entry) → prefix_of e.keys ≡ r.length → (f : Entry) → Contains h.listed f → fits_keys f.keys ws ≡ true → prefix_of f.keys ≤ prefix_of e.keys
      below r e prefix f cf ff = by (nat_le (prefix_of f.keys) r.length) refl
        where
          by : (b : Bool) → nat_le (prefix_of f.keys) r.length ≡ b → prefix_of f.keys ≤ prefix_of e.keys
          by true le = (let l = leb-true (prefix_of f.keys) r.length le in omega (arith, l, prefix))
          by false gt = absurd (asked_for f cf ff (r.none_longer (prefix_of f.keys) (grind (arith, gt)) (within_longest h.shape.keys f.keys sound.one_prefix (for_keys f cf))))

  pub nothing_found : first_told at_length (longest h.shape.keys) ≡ None → found_in false h.listed ws ≡ None
  nothing_found is =
      no_found false ws h.listed (λ f cf ff. asked_for f cf ff (none_told at_length (longest h.shape.keys) is (prefix_of f.keys) (within_longest h.shape.keys f.keys sound.one_prefix (for_keys f cf))))

-- ---- what the index tells

first_seen : {A B : Type 0} (f : A → B) (told : ℕ → Option A) (most : ℕ) → option_map f (first_told told most) ≡ first_told (λ (n : ℕ). option_map f (told n)) most
first_seen f told zero = refl
first_seen {A} f told (suc n) = go (first_seen f told n) (told (suc n))
  where
    go : option_map f (first_told told n) ≡ first_told (λ (m : ℕ). option_map f (told m)) n → (o : Option A) → option_map f (option_or o (first_told told n)) ≡ option_or (option_map f o) (first_told (λ (m : ℕ). option_map f (told m)) n)
    go rest None = rest
    go rest (Some x) = refl

first_same : {A : Type 0} (told other : ℕ → Option A) → ((n : ℕ) → told n ≡ other n) → (most : ℕ) → first_told told most ≡ first_told other most
first_same told other is zero = is 0
first_same told other is (suc n) = ap₂ option_or (is (suc n)) (first_same told other is n)

-- what the first one runs is what the one runs that stands there
act_there : (p : Entry → Bool) (es : List Entry) (d : Entry) → first_act p es ≡ option_map (λ (i : ℕ). act_in (get_or es i d)) (place_in p es)
act_there p [] d = refl
act_there p (e ∷ es) d = ap (λ (o : Option Act). if p e then Some (act_in e) else o) (act_there p es d) ∙ go (p e) (place_in p es)
  where
    go : (b : Bool) (o : Option ℕ) → (if b then Some (act_in e) else option_map (λ (i : ℕ). act_in (get_or es i d)) o) ≡ option_map (λ (i : ℕ). act_in (get_or (e ∷ es) i d)) (if b then Some 0 else option_map suc o)
    go true o = refl
    go false None = refl
    go false (Some i) = refl

-- the first act that is told is that of the entry that one walk finds
module _ (h : Held) (ws : List Word) (sound : IsSound h) (none : has_ternary h.shape.keys ≡ false) (hw : have_widths (map (λ (k : KeyShape). k.value) h.shape.keys) ws ≡ true) (m : Signs) (tells : (s : List ℕ) → option_map act_of (sign_act h.shape.keys m s) ≡ first_act (asks s) h.listed) where
  abbrev there : ℕ → Act
  there i = act_in (get_or h.listed i no_entry)

  abbrev place : ℕ → Option ℕ
  place n = place_in (asks (wanted h.shape.keys n ws)) h.listed

  pub act_found : option_map act_of (first_told (λ (n : ℕ). sign_act h.shape.keys m (wanted h.shape.keys n ws)) (longest h.shape.keys)) ≡ option_map act_in (found_in false h.listed ws)
  act_found =
      first_seen act_of (λ (n : ℕ). sign_act h.shape.keys m (wanted h.shape.keys n ws)) (longest h.shape.keys)
      ∙ first_same (λ (n : ℕ). option_map act_of (sign_act h.shape.keys m (wanted h.shape.keys n ws))) (λ (n : ℕ). option_map there (place n)) (λ n. tells (wanted h.shape.keys n ws) ∙ act_there (asks (wanted h.shape.keys n ws)) h.listed no_entry) (longest h.shape.keys)
      ∙ sym (first_seen there place (longest h.shape.keys))
      ∙ go (first_told place (longest h.shape.keys)) refl
    where
      go : (o : Option ℕ) → first_told place (longest h.shape.keys) ≡ o → option_map there o ≡ option_map act_in (found_in false h.listed ws)
      go None is = sym (ap (option_map act_in) (nothing_found h ws sound none hw (λ s. place_in (asks s) h.listed) (λ s. refl) is))
      go (Some i) is = sym (ap (option_map act_in) (sign_found h ws sound none hw (λ s. place_in (asks s) h.listed) (λ s. refl) i no_entry is).1)
