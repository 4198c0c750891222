-- Entries that ask the same have one sign, and those that clash are told by an index.
use Rattle.std.proofs.Common.{◌≡◌, ℕ, suc, ◌-◌, ◌/◌, ◌^◌, List, [], ◌∷◌, get_or, Bool, true, false, Option, Some, None, refl, sym, ap, ap₂, subst, ◌∙◌}
use Rattle.std.specs.Prelude.{◌&&◌, ◌||◌, nat_eq, is_some, if◌then◌else◌}
use Rattle.std.specs.Option.{option_map}
use Rattle.std.specs.List.{AllByRecursion}
use Rattle.std.specs.Cmp.Lexicographic.{pointwise}
use Rattle.std.proofs.lemmas.Bool.{and_parts, or_parts}
use Rattle.std.proofs.lemmas.Cmp.{nat_eq_equiv}
use Rattle.p4_meaning.specs.Choice.{Match, exact, lpm, ternary}
use Rattle.table_shapes.specs.Shapes.{Shape, is_ternary, has_ternary, is_for_key, are_for_keys, takes}
use Rattle.table_entries.specs.Entries.{Entry, same_keys, has_same, has_priority}
use Rattle.p4_tables.specs.State.{Held}
use Rattle.p4_tables.specs.Faults.{takes_entry}
use Rattle.p4_tables.specs.Kept.{clash, AreApart, IsSound}
use Rattle.p4_tables.specs.Indexed.{clash_in}
use Rattle.table_entries.specs.Signs.{signs_of}
use Rattle.table_entries.specs.Index.{place_in, asks, has_rank}
use Rattle.table_shapes.specs.declared.shape.KeyShape.{KeyShape}
use Rattle.table_faults.specs.declared.entry.EntryFault.TheVariants.{SameEntry, SamePriority}
use Rattle.table_entries.proofs.Noted.{nowhere}
use Rattle.p4_tables.proofs.Unique.{exact_or_lpm, no_mask}

-- ---- one sign

pub flip : (a b : ℕ) → nat_eq a b ≡ nat_eq b a
flip = nat_eq_equiv.symm

pub and_assoc : (a b c : Bool) → ((a && b) && c) ≡ (a && (b && c))
and_assoc true b c = refl
and_assoc false b c = refl

-- entries of a table without masks ask the same exactly where their signs are the same
pub same_signs : (ks : List KeyShape) (ms ns : List Match) → has_ternary ks ≡ false → are_for_keys ks ms ≡ true → are_for_keys ks ns ≡ true → same_keys ms ns ≡ pointwise nat_eq (signs_of ns) (signs_of ms)
same_signs [] [] [] t am an = refl
same_signs [] [] (n ∷ ns) t am an = absurd (cc an)
same_signs [] (m ∷ ms) ns t am an = absurd (cc am)
same_signs (k ∷ ks) [] ns t am an = absurd (cc am)
same_signs (k ∷ ks) (m ∷ ms) [] t am an = absurd (cc an)
same_signs (k ∷ ks) (exact v ∷ ms) (exact u ∷ ns) t am an =
    let a = and_parts (is_for_key k (exact v)) (are_for_keys ks ms) am in
    let b = and_parts (is_for_key k (exact u)) (are_for_keys ks ns) an in
    ap₂ (λ (x y : Bool). x && y) (flip v.value u.value) (same_signs ks ms ns (or_parts (is_ternary k.kind) (has_ternary ks) t).1 a.1 b.1)
same_signs (k ∷ ks) (lpm v n ∷ ms) (lpm u m ∷ ns) t am an =
    let a = and_parts (is_for_key k (lpm v n)) (are_for_keys ks ms) am in
    let b = and_parts (is_for_key k (lpm u m)) (are_for_keys ks ns) an in
    let first : Bool = nat_eq (v.value / 2 ^ (v.width - n)) (u.value / 2 ^ (u.width - m)) in
    and_assoc (nat_eq n m) first (same_keys ms ns)
    ∙ ap₂ (λ (x y : Bool). x && y) (flip n m) (ap₂ (λ (x y : Bool). x && y) (flip _ _) (same_signs ks ms ns (or_parts (is_ternary k.kind) (has_ternary ks) t).1 a.1 b.1))
same_signs (k ∷ ks) (exact v ∷ ms) (lpm u m ∷ ns) t am an =
    let a = and_parts (is_for_key k (exact v)) (are_for_keys ks ms) am in
    let b = and_parts (is_for_key k (lpm u m)) (are_for_keys ks ns) an in
    let a2 = and_parts _ (nat_eq v.width k.value.width) a.0 in
    let b2 = and_parts _ _ b.0 in
    let b3 = and_parts _ (nat_eq u.width k.value.width) b2.0 in
    absurd (exact_or_lpm k.kind a2.0 b3.0)
same_signs (k ∷ ks) (lpm v n ∷ ms) (exact u ∷ ns) t am an =
    let a = and_parts (is_for_key k (lpm v n)) (are_for_keys ks ms) am in
    let b = and_parts (is_for_key k (exact u)) (are_for_keys ks ns) an in
    let a2 = and_parts _ _ a.0 in
    let a3 = and_parts _ (nat_eq v.width k.value.width) a2.0 in
    let b2 = and_parts _ (nat_eq u.width k.value.width) b.0 in
    absurd (exact_or_lpm k.kind b2.0 a3.0)
same_signs (k ∷ ks) (ternary v q ∷ ms) (n ∷ ns) t am an =
    let a = and_parts (is_for_key k (ternary v q)) (are_for_keys ks ms) am in
    let a2 = and_parts _ _ a.0 in
    let a3 = and_parts _ (nat_eq v.width k.value.width) a2.0 in
    absurd (no_mask (is_ternary k.kind) a3.0 (or_parts (is_ternary k.kind) (has_ternary ks) t).0)
same_signs (k ∷ ks) (exact v ∷ ms) (ternary u q ∷ ns) t am an =
    let b = and_parts (is_for_key k (ternary u q)) (are_for_keys ks ns) an in
    let b2 = and_parts _ _ b.0 in
    let b3 = and_parts _ (nat_eq u.width k.value.width) b2.0 in
    absurd (no_mask (is_ternary k.kind) b3.0 (or_parts (is_ternary k.kind) (has_ternary ks) t).0)
same_signs (k ∷ ks) (lpm v m ∷ ms) (ternary u q ∷ ns) t am an =
    let b = and_parts (is_for_key k (ternary u q)) (are_for_keys ks ns) an in
    let b2 = and_parts _ _ b.0 in
    let b3 = and_parts _ (nat_eq u.width k.value.width) b2.0 in
    absurd (no_mask (is_ternary k.kind) b3.0 (or_parts (is_ternary k.kind) (has_ternary ks) t).0)

-- ---- without masks

some_place : {A : Type 0} (p : A → Bool) (xs : List A) (b : Bool) → is_some (if b then Some 0 else option_map suc (place_in p xs)) ≡ (b || is_some (place_in p xs))
some_place p xs true = refl
some_place p xs false = go (place_in p xs)
  where
    go : (o : Option ℕ) → is_some (option_map suc o) ≡ is_some o
    go None = refl
    go (Some i) = refl

and_true : (b : Bool) → (b && true) ≡ b
and_true true = refl
and_true false = refl

-- an entry is the same as some other one exactly where one stands that asks for its sign
pub same_stands : (s : Shape) (es : List Entry) (e : Entry) → has_ternary s.keys ≡ false → AllByRecursion (λ f. takes_entry s f ≡ true) es → takes_entry s e ≡ true → is_some (place_in (asks (signs_of e.keys)) es) ≡ has_same false es e
same_stands s [] e t all taken = refl
same_stands s (f ∷ fs) e t all taken =
    let a = and_parts (are_for_keys s.keys f.keys) (takes s.actions f.action f.args) all.0 in
    let b = and_parts (are_for_keys s.keys e.keys) (takes s.actions e.action e.args) taken in
    some_place (asks (signs_of e.keys)) fs (asks (signs_of e.keys) f)
    ∙ ap₂ (λ (x y : Bool). x || y) (sym (same_signs s.keys f.keys e.keys t a.0 b.0) ∙ sym (and_true (same_keys f.keys e.keys))) (same_stands s fs e t all.1 taken)

-- ---- with masks

none_ranks : (es : List Entry) (p : ℕ) → place_in (has_rank p) es ≡ None → has_priority es p ≡ false
none_ranks es p none = go es (nowhere (has_rank p) es none)
  where
    go : (fs : List Entry) → AllByRecursion (λ f. has_rank p f ≡ false) fs → has_priority fs p ≡ false
    go [] h = refl
    go (f ∷ fs) h = ap (λ (b : Bool). b || has_priority fs p) (flip f.priority p ∙ h.0) ∙ go fs h.1

-- where none has the priority, none is the same
none_same : (es : List Entry) (e : Entry) → has_priority es e.priority ≡ false → has_same true es e ≡ false
none_same [] e none = refl
none_same (f ∷ fs) e none =
    let h = or_parts (nat_eq f.priority e.priority) (has_priority fs e.priority) none in
    ap₂ (λ (x y : Bool). (same_keys f.keys e.keys && x) || y) h.0 (none_same fs e h.1) ∙ go (same_keys f.keys e.keys)
  where
    go : (b : Bool) → ((b && false) || false) ≡ false
    go true = refl
    go false = refl

-- no other one has the priority of the first
none_behind : (f : Entry) (fs : List Entry) (p : ℕ) → nat_eq f.priority p ≡ true → AllByRecursion (λ g. clash true f g ≡ false) fs → has_priority fs p ≡ false
none_behind f [] p is h = refl
none_behind f (g ∷ gs) p is h =
    ap (λ (b : Bool). b || has_priority gs p) (flip g.priority p ∙ sym (nat_eq_equiv.congr f.priority p g.priority is) ∙ h.0) ∙ none_behind f gs p is h.1

tidy : (b : Bool) → ((b && true) || false) ≡ b
tidy true = refl
tidy false = refl

either : (b : Bool) → (b || true) ≡ true
either true = refl
either false = refl

left : (b c : Bool) → ((b && false) || c) ≡ c
left true c = refl
left false c = refl

-- the one that stands there has the priority, and only it can be the same
pub same_there : (es : List Entry) (e : Entry) (i : ℕ) (d : Entry) → AreApart true es → place_in (has_rank e.priority) es ≡ Some i → (has_priority es e.priority ≡ true) × (has_same true es e ≡ same_keys (get_or es i d).keys e.keys)
same_there [] e i d apart at = absurd (cc at)
same_there (f ∷ fs) e i d apart at = go (λ j is. same_there fs e j d apart.1 is) (nat_eq e.priority f.priority) refl (place_in (has_rank e.priority) fs) refl at
  where
    go : ((j : ℕ) → place_in (has_rank e.priority) fs ≡ Some j → (has_priority fs e.priority ≡ true) × (has_same true fs e ≡ same_keys (get_or fs j d).keys e.keys)) → (b : Bool) → nat_eq e.priority f.priority ≡ b → (o : Option ℕ) → place_in (has_rank e.priority) fs ≡ o → (if b then Some 0 else option_map suc o) ≡ Some i → ((nat_eq f.priority e.priority || has_priority fs e.priority) ≡ true) × (((same_keys f.keys e.keys && nat_eq f.priority e.priority) || has_same true fs e) ≡ same_keys (get_or (f ∷ fs) i d).keys e.keys)
    go rest true is o found eq =
        let one : nat_eq f.priority e.priority ≡ true = flip f.priority e.priority ∙ is in
        let others : has_same true fs e ≡ false = none_same fs e (none_behind f fs e.priority one apart.0) in (
          ap (λ (b : Bool). b || has_priority fs e.priority) one,
          ap₂ (λ (x y : Bool). (same_keys f.keys e.keys && x) || y) one others ∙ tidy (same_keys f.keys e.keys) ∙ ap (λ (j : ℕ). same_keys (get_or (f ∷ fs) j d).keys e.keys) {x = 0} (cc eq),
        )
    go rest false is None found eq = absurd (cc eq)
    go rest false is (Some j) found eq =
        let h = rest j found in
        let other : nat_eq f.priority e.priority ≡ false = flip f.priority e.priority ∙ is in (
          ap (λ (b : Bool). nat_eq f.priority e.priority || b) h.0 ∙ either (nat_eq f.priority e.priority),
          ap₂ (λ (x y : Bool). (same_keys f.keys e.keys && x) || y) other h.1 ∙ left (same_keys f.keys e.keys) _ ∙ ap (λ (k : ℕ). same_keys (get_or (f ∷ fs) k d).keys e.keys) {x = suc j} (cc eq),
        )

-- ---- the first reason

-- no entry clashes where none has the priority
pub no_clash : (h : Held) (e : Entry) → has_ternary h.shape.keys ≡ true → place_in (has_rank e.priority) h.listed ≡ None → clash_in h e ≡ None
no_clash h e t none =
    let p : has_priority h.listed e.priority ≡ false = none_ranks h.listed e.priority none in
    let s : has_same true h.listed e ≡ false = none_same h.listed e p in
    rw t (ap₂ (λ (x y : Bool). if x then Some SameEntry else if y then Some SamePriority else None) s p)

-- one that has the priority is the same, or has but the priority
pub clash_there : (h : Held) (e : Entry) (i : ℕ) (d : Entry) → IsSound h → has_ternary h.shape.keys ≡ true → place_in (has_rank e.priority) h.listed ≡ Some i → clash_in h e ≡ (if same_keys (get_or h.listed i d).keys e.keys then Some SameEntry else Some SamePriority)
clash_there h e i d sound t at =
    let one = same_there h.listed e i d (subst (λ (b : Bool). AreApart b h.listed) t sound.apart) at in
    rw t (ap₂ (λ (x y : Bool). if x then Some SameEntry else if y then Some SamePriority else None) one.1 one.0)

-- without masks one clashes where one asks the same
pub clash_same : (h : Held) (e : Entry) → has_ternary h.shape.keys ≡ false → clash_in h e ≡ (if has_same false h.listed e then Some SameEntry else None)
clash_same h e t = rw t refl
