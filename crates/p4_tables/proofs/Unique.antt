-- One entry is chosen at most: two that fit and have one rank clash, and no two entries of a sound table do.
use Rattle.std.proofs.Common.{◌≡◌, ℕ, zero, suc, ◌-◌, ◌/◌, ◌^◌, List, [], ◌∷◌, map, max, Bool, true, false, cond, refl, sym, ap, subst, ◌∙◌, arith}
use Rattle.std.specs.Prelude.{◌&&◌, nat_eq}
use Rattle.std.specs.List.{AllByRecursion, Contains}
use Rattle.std.proofs.lemmas.Bool.{and_parts, and_from, or_parts, eqb-true, eq-eqb, false≢true}
use Rattle.bit_values.specs.Bits.{Word}
use Rattle.p4_meaning.specs.Choice as choice
use Rattle.p4_meaning.specs.Choice.{Match, exact, lpm, ternary, fits_key, fits_keys, prefix_of, rank_of, IsChosen}
use Rattle.p4_meaning.proofs.Choices.{one_rank}
use Rattle.table_shapes.specs.Shapes.{Shape, is_exact, is_lpm, is_ternary, has_ternary, has_lpm, has_two_prefixes, is_for_key, are_for_keys, takes, have_widths}
use Rattle.table_entries.specs.Entries.{Entry, named, same_match, same_keys}
use Rattle.p4_tables.specs.State.{Held}
use Rattle.p4_tables.specs.Faults.{takes_entry}
use Rattle.p4_tables.specs.Kept.{clash, AreApart, IsSound}
use Rattle.table_shapes.specs.declared.shape.KeyKind.{KeyKind}
use Rattle.table_shapes.specs.declared.shape.KeyKind.TheVariants.{Exact, Lpm, Ternary}
use Rattle.table_shapes.specs.declared.shape.KeyShape.{KeyShape}

-- ---- what is asked of a key

-- a key is matched in one way
pub exact_or_lpm : (k : KeyKind) → is_exact k ≡ true → is_lpm k ≡ true → ⊥
exact_or_lpm Exact e l = false≢true l
exact_or_lpm Lpm e l = false≢true e
exact_or_lpm Ternary e l = false≢true e

pub no_mask : (b : Bool) → b ≡ true → b ≡ false → ⊥
no_mask b t f = false≢true (sym f ∙ t)

-- without a key that is matched by its first bits no entry has a prefix
pub no_prefix : (ks : List KeyShape) (ms : List Match) → has_lpm ks ≡ false → are_for_keys ks ms ≡ true → prefix_of ms ≡ 0
no_prefix [] [] none fit = refl
no_prefix [] (m ∷ ms) none fit = absurd (cc fit)
no_prefix (k ∷ ks) [] none fit = absurd (cc fit)
no_prefix (k ∷ ks) (exact v ∷ ms) none fit =
    let f = and_parts (is_exact k.kind && nat_eq v.width k.value.width) (are_for_keys ks ms) fit in
    no_prefix ks ms (or_parts (is_lpm k.kind) (has_lpm ks) none).1 f.1
no_prefix (k ∷ ks) (lpm v n ∷ ms) none fit =
    let f = and_parts (is_for_key k (lpm v n)) (are_for_keys ks ms) fit in
    let g = and_parts (is_lpm k.kind && nat_eq v.width k.value.width) _ f.0 in
    let kind = and_parts (is_lpm k.kind) (nat_eq v.width k.value.width) g.0 in
    absurd (no_mask (is_lpm k.kind) kind.0 (or_parts (is_lpm k.kind) (has_lpm ks) none).0)
no_prefix (k ∷ ks) (ternary v m ∷ ms) none fit =
    let f = and_parts (is_for_key k (ternary v m)) (are_for_keys ks ms) fit in
    no_prefix ks ms (or_parts (is_lpm k.kind) (has_lpm ks) none).1 f.1

-- two prefixes of one length that a key fits are the same
same_prefix : (v u w : Word) (n m width : ℕ) → v.width ≡ width → u.width ≡ width → w.width ≡ width → n ≡ m → fits_key (lpm v n) w ≡ true → fits_key (lpm u m) w ≡ true → same_match (lpm v n) (lpm u m) ≡ true
same_prefix v u w n m width vw uw ww nm fv fu =
    let left : v.value / 2 ^ (w.width - n) ≡ w.value / 2 ^ (w.width - n) = eqb-true _ _ fv in
    let right : u.value / 2 ^ (w.width - m) ≡ w.value / 2 ^ (w.width - m) = eqb-true _ _ fu in
    let vs : v.width - n ≡ w.width - n = ap (λ (a : ℕ). a - n) (vw ∙ sym ww) in
    let us : u.width - m ≡ w.width - m = ap (λ (a : ℕ). a - m) (uw ∙ sym ww) in
    let shift : w.width - n ≡ w.width - m = ap (λ (a : ℕ). w.width - a) nm in
    let first : v.value / 2 ^ (v.width - n) ≡ w.value / 2 ^ (w.width - m) =
    ap (λ (a : ℕ). v.value / 2 ^ a) vs ∙ left ∙ ap (λ (a : ℕ). w.value / 2 ^ a) shift
    in
    let second : u.value / 2 ^ (u.width - m) ≡ w.value / 2 ^ (w.width - m) = ap (λ (a : ℕ). u.value / 2 ^ a) us ∙ right in
    and_from _ _ (eq-eqb n m nm) (eq-eqb _ _ (first ∙ sym second))

-- ---- what is asked of all keys

-- what two entries ask is the same where keys fit both, no mask is there, and both have one prefix
pub same_asked : (ks : List KeyShape) (ms ns : List Match) (ws : List Word) → has_ternary ks ≡ false → has_two_prefixes ks ≡ false → are_for_keys ks ms ≡ true → are_for_keys ks ns ≡ true → have_widths (map (λ (k : KeyShape). k.value) ks) ws ≡ true → fits_keys ms ws ≡ true → fits_keys ns ws ≡ true → prefix_of ms ≡ prefix_of ns → same_keys ms ns ≡ true
same_asked [] [] [] ws t two am an hw fm fn same = refl
same_asked [] [] (n ∷ ns) ws t two am an hw fm fn same = absurd (cc an)
same_asked [] (m ∷ ms) ns ws t two am an hw fm fn same = absurd (cc am)
same_asked (k ∷ ks) [] ns ws t two am an hw fm fn same = absurd (cc am)
same_asked (k ∷ ks) (m ∷ ms) [] ws t two am an hw fm fn same = absurd (cc an)
same_asked (k ∷ ks) (m ∷ ms) (n ∷ ns) [] t two am an hw fm fn same = absurd (cc hw)
same_asked (k ∷ ks) (exact v ∷ ms) (exact u ∷ ns) (w ∷ ws) t two am an hw fm fn same =
    let a = and_parts (is_for_key k (exact v)) (are_for_keys ks ms) am in
    let b = and_parts (is_for_key k (exact u)) (are_for_keys ks ns) an in
    let f = and_parts (nat_eq v.value w.value) (fits_keys ms ws) fm in
    let g = and_parts (nat_eq u.value w.value) (fits_keys ns ws) fn in
    let h = and_parts (nat_eq w.width k.value.width) (have_widths (map (λ (j : KeyShape). j.value) ks) ws) hw in
    let one : v.value ≡ u.value = eqb-true _ _ f.0 ∙ sym (eqb-true _ _ g.0) in
    and_from _ _ (eq-eqb v.value u.value one) (same_asked ks ms ns ws (or_parts (is_ternary k.kind) (has_ternary ks) t).1 (or_parts (is_lpm k.kind && has_lpm ks) (has_two_prefixes ks) two).1 a.1 b.1 h.1 f.1 g.1 same)
same_asked (k ∷ ks) (lpm v n ∷ ms) (lpm u m ∷ ns) (w ∷ ws) t two am an hw fm fn same =
    let a = and_parts (is_for_key k (lpm v n)) (are_for_keys ks ms) am in
    let b = and_parts (is_for_key k (lpm u m)) (are_for_keys ks ns) an in
    let a2 = and_parts (is_lpm k.kind && nat_eq v.width k.value.width) _ a.0 in
    let b2 = and_parts (is_lpm k.kind && nat_eq u.width k.value.width) _ b.0 in
    let a3 = and_parts (is_lpm k.kind) (nat_eq v.width k.value.width) a2.0 in
    let b3 = and_parts (is_lpm k.kind) (nat_eq u.width k.value.width) b2.0 in
    let f = and_parts (fits_key (lpm v n) w) (fits_keys ms ws) fm in
    let g = and_parts (fits_key (lpm u m) w) (fits_keys ns ws) fn in
    let h = and_parts (nat_eq w.width k.value.width) (have_widths (map (λ (j : KeyShape). j.value) ks) ws) hw in
    let p = or_parts (is_lpm k.kind && has_lpm ks) (has_two_prefixes ks) two in
    let none : has_lpm ks ≡ false = subst (λ (b : Bool). (b && has_lpm ks) ≡ false) a3.0 p.0 in
    let zero_left : prefix_of ms ≡ 0 = no_prefix ks ms none a.1 in
    let zero_right : prefix_of ns ≡ 0 = no_prefix ks ns none b.1 in
    let left : n ≡ max n (prefix_of ms) = omega (arith, zero_left) in
    let right : m ≡ max m (prefix_of ns) = omega (arith, zero_right) in
    let nm : n ≡ m = left ∙ same ∙ sym right in
    and_from _ _ (same_prefix v u w n m k.value.width (eqb-true _ _ a3.1) (eqb-true _ _ b3.1) (eqb-true _ _ h.0) nm f.0 g.0) (same_asked ks ms ns ws (or_parts (is_ternary k.kind) (has_ternary ks) t).1 p.1 a.1 b.1 h.1 f.1 g.1 (zero_left ∙ sym zero_right))
same_asked (k ∷ ks) (exact v ∷ ms) (lpm u m ∷ ns) (w ∷ ws) t two am an hw fm fn same =
    let a = and_parts (is_for_key k (exact v)) (are_for_keys ks ms) am in
    let b = and_parts (is_for_key k (lpm u m)) (are_for_keys ks ns) an in
    let a2 = and_parts (is_exact k.kind) (nat_eq v.width k.value.width) a.0 in
    let b2 = and_parts (is_lpm k.kind && nat_eq u.width k.value.width) _ b.0 in
    let b3 = and_parts (is_lpm k.kind) (nat_eq u.width k.value.width) b2.0 in
    absurd (exact_or_lpm k.kind a2.0 b3.0)
same_asked (k ∷ ks) (lpm v n ∷ ms) (exact u ∷ ns) (w ∷ ws) t two am an hw fm fn same =
    let a = and_parts (is_for_key k (lpm v n)) (are_for_keys ks ms) am in
    let b = and_parts (is_for_key k (exact u)) (are_for_keys ks ns) an in
    let a2 = and_parts (is_lpm k.kind && nat_eq v.width k.value.width) _ a.0 in
    let a3 = and_parts (is_lpm k.kind) (nat_eq v.width k.value.width) a2.0 in
    let b2 = and_parts (is_exact k.kind) (nat_eq u.width k.value.width) b.0 in
    absurd (exact_or_lpm k.kind b2.0 a3.0)
same_asked (k ∷ ks) (ternary v q ∷ ms) (n ∷ ns) (w ∷ ws) t two am an hw fm fn same =
    let a = and_parts (is_for_key k (ternary v q)) (are_for_keys ks ms) am in
    let a2 = and_parts (is_ternary k.kind && nat_eq v.width k.value.width) _ a.0 in
    let a3 = and_parts (is_ternary k.kind) (nat_eq v.width k.value.width) a2.0 in
    absurd (no_mask (is_ternary k.kind) a3.0 (or_parts (is_ternary k.kind) (has_ternary ks) t).0)
same_asked (k ∷ ks) (exact v ∷ ms) (ternary u q ∷ ns) (w ∷ ws) t two am an hw fm fn same =
    let b = and_parts (is_for_key k (ternary u q)) (are_for_keys ks ns) an in
    let b2 = and_parts (is_ternary k.kind && nat_eq u.width k.value.width) _ b.0 in
    let b3 = and_parts (is_ternary k.kind) (nat_eq u.width k.value.width) b2.0 in
    absurd (no_mask (is_ternary k.kind) b3.0 (or_parts (is_ternary k.kind) (has_ternary ks) t).0)
same_asked (k ∷ ks) (lpm v m ∷ ms) (ternary u q ∷ ns) (w ∷ ws) t two am an hw fm fn same =
    let b = and_parts (is_for_key k (ternary u q)) (are_for_keys ks ns) an in
    let b2 = and_parts (is_ternary k.kind && nat_eq u.width k.value.width) _ b.0 in
    let b3 = and_parts (is_ternary k.kind) (nat_eq u.width k.value.width) b2.0 in
    absurd (no_mask (is_ternary k.kind) b3.0 (or_parts (is_ternary k.kind) (has_ternary ks) t).0)

-- ---- entries

-- what holds of all entries holds of one of them
pub of_one : (P : Entry → Type 0) (es : List Entry) (e : Entry) → Contains es e → AllByRecursion P es → P e
of_one P [] e (k, lt, is) h = absurd (omega arith)
of_one P (f ∷ fs) e (zero, lt, is) h = subst P is h.0
of_one P (f ∷ fs) e (suc k, lt, is) h = of_one P fs e (k, omega arith, is) h.1

-- two entries that clash either way are one
pub one_of : (t : Bool) (es : List Entry) (e f : Entry) → AreApart t es → Contains es e → Contains es f → clash t e f ≡ true → clash t f e ≡ true → e ≡ f
one_of t [] e f apart (k, lt, is) g c d = absurd (omega arith)
one_of t (x ∷ xs) e f apart (zero, lt, is) (zero, lt', is') c d = sym is ∙ is'
one_of t (x ∷ xs) e f apart (zero, lt, is) (suc k, lt', is') c d =
    let no : clash t x f ≡ false = of_one (λ g. clash t x g ≡ false) xs f (k, omega arith, is') apart.0 in
    absurd (no_mask (clash t e f) c (subst (λ (g : Entry). clash t g f ≡ false) is no))
one_of t (x ∷ xs) e f apart (suc k, lt, is) (zero, lt', is') c d =
    let no : clash t x e ≡ false = of_one (λ g. clash t x g ≡ false) xs e (k, omega arith, is) apart.0 in
    absurd (no_mask (clash t f e) d (subst (λ (g : Entry). clash t g e ≡ false) is' no))
one_of t (x ∷ xs) e f apart (suc k, lt, is) (suc j, lt', is') c d = one_of t xs e f apart.1 (k, omega arith, is) (j, omega arith, is') c d

-- two entries that fit and have one rank clash
pub clash_of : (s : Shape) (t : Bool) (e f : Entry) (ws : List Word) → has_ternary s.keys ≡ t → has_two_prefixes s.keys ≡ false → takes_entry s e ≡ true → takes_entry s f ≡ true → have_widths (map (λ (k : KeyShape). k.value) s.keys) ws ≡ true → fits_keys e.keys ws ≡ true → fits_keys f.keys ws ≡ true → cond t e.priority (prefix_of e.keys) ≡ cond t f.priority (prefix_of f.keys) → clash t e f ≡ true
clash_of s true e f ws is two te tf hw fe ff same = eq-eqb e.priority f.priority same
clash_of s false e f ws is two te tf hw fe ff same =
    let a = and_parts (are_for_keys s.keys e.keys) (takes s.actions e.action e.args) te in
    let b = and_parts (are_for_keys s.keys f.keys) (takes s.actions f.action f.args) tf in
    same_asked s.keys e.keys f.keys ws is two a.0 b.0 hw fe ff same

-- an entry of the meaning is one of the table's with its action's name
pub record IsNamed (name : ℕ → List ℕ) (es : List Entry) (f : choice.Entry) : Type 0 where
  pub entry : Entry
  pub listed : Contains es entry
  pub is : named name entry ≡ f

named_back : (name : ℕ → List ℕ) (es : List Entry) (f : choice.Entry) → Contains (map (named name) es) f → IsNamed name es f
named_back name [] f (k, lt, is) = absurd (omega arith)
named_back name (e ∷ es) f (zero, lt, is) = record { entry = e; listed = (0, omega arith, refl); is = is }
named_back name (e ∷ es) f (suc k, lt, is) = (let r = named_back name es f (k, omega arith, is) in record { entry = r.entry; listed = behind r.listed; is = r.is })
  where
    behind : {g : Entry} → Contains es g → Contains (e ∷ es) g
    behind (k, lt, is) = (suc k, omega arith, is)

-- ---- the choice

pub unique : (h : Held) (name : ℕ → List ℕ) (ws : List Word) → IsSound h → have_widths (map (λ (k : KeyShape). k.value) h.shape.keys) ws ≡ true → (e f : choice.Entry) → IsChosen (has_ternary h.shape.keys) (map (named name) h.listed) ws e → IsChosen (has_ternary h.shape.keys) (map (named name) h.listed) ws f → e ≡ f
unique h name ws sound hw e f ce cf =
    let t = has_ternary h.shape.keys in
    let a = named_back name h.listed e ce.listed in
    let b = named_back name h.listed f cf.listed in
    let rank : rank_of t (named name a.entry) ≡ rank_of t (named name b.entry) =
    ap (rank_of t) a.is ∙ one_rank t ws (map (named name) h.listed) e f ce cf ∙ sym (ap (rank_of t) b.is)
    in
    let fa : fits_keys a.entry.keys ws ≡ true = ap (λ (g : choice.Entry). fits_keys g.keys ws) a.is ∙ ce.fits in
    let fb : fits_keys b.entry.keys ws ≡ true = ap (λ (g : choice.Entry). fits_keys g.keys ws) b.is ∙ cf.fits in
    let ta = of_one (λ g. takes_entry h.shape g ≡ true) h.listed a.entry a.listed sound.taken in
    let tb = of_one (λ g. takes_entry h.shape g ≡ true) h.listed b.entry b.listed sound.taken in
    let one : a.entry ≡ b.entry =
    one_of t h.listed a.entry b.entry sound.apart a.listed b.listed
    (clash_of h.shape t a.entry b.entry ws refl sound.one_prefix ta tb hw fa fb rank)
    (clash_of h.shape t b.entry a.entry ws refl sound.one_prefix tb ta hw fb fa (sym rank))
    in
    sym a.is ∙ ap (named name) one ∙ b.is
