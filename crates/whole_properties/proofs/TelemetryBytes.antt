-- The telemetry's bytes are those of the layout.
use Rattle.std.proofs.Common.{◌≡◌, ℕ, zero, suc, ◌+◌, ◌-◌, ◌*◌, ◌/◌, ◌≤◌, List, [], ◌∷◌, ◌++◌, length, Bool, false, if◌then◌else◌, Some, refl, sym, ap, ap₂, ◌∙◌, All, arith, append_assoc, append-nil}
use Rattle.std.specs.Prelude.{replicate, nat_eq, nat_lt, slice_get, ◌||◌}
use Rattle.std.specs.List.{AllByRecursion}
use Rattle.std.proofs.lemmas.List.{length-append, replicate-append-replicate}
use Rattle.std.proofs.lemmas.List.Elements.{All-head, All-tail}
use Rattle.bit_values.specs.Bits.{Word}
use Rattle.bit_values.specs.BitLists.{number_bits}
use Rattle.bit_values.specs.Widths.{sound_width}
use Rattle.bit_values.proofs.BitListsLemmas.{number_bits-zero, length-number_bits}
use Rattle.bit_writer.specs.Bytes.{words_bits, bytes_of}
use Rattle.p4_meaning.specs.Parsing.{width_sum}
use Rattle.p4_meaning.proofs.Words.{sound}
use Rattle.indus_tree.specs.Tree.{Shape, one, list, set, dict, Decl}
use Rattle.indus_tree.specs.State.{Held, lookup, shape_width, shape_size, width_of, nothing_of}
use Rattle.indus_tree.specs.Reads.{or_word}
use Rattle.indus_tree.specs.Hops.{same_kind}
use Rattle.indus_tree.specs.Shapes.{HasWidth, IsHeld, IsTeleCount}
use Rattle.indus_tree.specs.declared.tree.DeclKind.{DeclKind}
use Rattle.indus_tree.specs.declared.tree.DeclKind.TheVariants.{Tele, Sensor, Header, Control}
use Rattle.indus_tree.specs.declared.tree.Ty.{Ty}
use Rattle.indus_types.proofs.Widths.{neither}
use Rattle.indus_rules.specs.Rules.{bad_width, bad_shape}
use Rattle.monitor_laws.specs.Telemetry.{zeros}
use Rattle.monitor_laws.proofs.Bytes.{length-words}
use Rattle.tele_layout.specs.Telemetry.{first_byte, numbers_bits, list_bits, slot_bits, variables_bits, whole_bytes, filled}
use Rattle.whole_properties.specs.Whole.{decls, tele_fields, item_words, shape_words, kind_words, tele_words, tele_room, fill_field}
use Rattle.whole_properties.specs.Bytes.{TelemetryIsLinked}
use Rattle.whole_properties.proofs.Lists.{all_weaker}
use Rattle.whole_properties.proofs.Once.{each_found}
use Rattle.whole_properties.proofs.TelemetryWords.{tele_for}
use Rattle.whole_properties.proofs.Declarations.{shapely, sound_widths, once, tele_of}

words_both : (xs ys : List Word) → words_bits (xs ++ ys) ≡ words_bits xs ++ words_bits ys
words_both [] ys = refl
words_both (x ∷ xs) ys = ap (λ l. number_bits x.width x.value ++ l) (words_both xs ys) ∙ sym (append_assoc (number_bits x.width x.value) (words_bits xs) (words_bits ys))

-- ---- a list's places

nothing_bits : (w : ℕ) → sound_width w ≡ w → words_bits (nothing_of w ∷ []) ≡ replicate w 0
nothing_bits w k = append-nil (number_bits (sound_width w) 0) ∙ ap (λ v. number_bits v 0) k ∙ number_bits-zero w

behind_first : (t : Ty) (n : ℕ) (x : Word) (ws : List Word) → item_words t (suc n) (x ∷ ws) ≡ x ∷ item_words t n ws
behind_first t zero x ws = refl
behind_first t (suc n) x ws = ap (λ l. l ++ or_word (slice_get ws n) (nothing_of (width_of t)) ∷ []) (behind_first t n x ws)

none_bits :
    (t : Ty) (n : ℕ) → sound_width (width_of t) ≡ width_of t →
    words_bits (item_words t n []) ≡ replicate (n * width_of t) 0
none_bits t zero k = ap (λ m. replicate m 0) (let z : 0 ≡ 0 * width_of t = omega arith in z)
none_bits t (suc n) k =
    words_both (item_words t n []) (nothing_of (width_of t) ∷ [])
    ∙ ap₂ (λ (a b : List ℕ). a ++ b) (none_bits t n k) (nothing_bits (width_of t) k)
    ∙ replicate-append-replicate (n * width_of t) (width_of t) 0
    ∙ ap (λ m. replicate m 0) (let z : n * width_of t + width_of t ≡ suc n * width_of t = omega arith in z)

item_bits :
    (t : Ty) (ws : List Word) (n : ℕ) → sound_width (width_of t) ≡ width_of t → All (HasWidth (width_of t)) ws →
    length ws ≤ n →
    words_bits (item_words t n ws) ≡ numbers_bits (width_of t) ws ++ replicate ((n - length ws) * width_of t) 0
item_bits t [] n k all le = none_bits t n k ∙ ap (λ m. replicate (m * width_of t) 0) (let z : n ≡ n - 0 = omega arith in z)
item_bits t (x ∷ ws) zero k all le = absurd (omega (arith, le))
item_bits t (x ∷ ws) (suc n) k all le =
    ap words_bits (behind_first t n x ws)
    ∙ ap₂ (λ (a b : List ℕ). a ++ b)
    (ap (λ v. number_bits v x.value) ((All-head (HasWidth (width_of t)) x ws all).width ∙ k))
    (item_bits t ws n k (All-tail (HasWidth (width_of t)) x ws all) (omega (arith, le))
    ∙ ap (λ m. numbers_bits (width_of t) ws ++ replicate (m * width_of t) 0) (let z : n - length ws ≡ suc n - suc (length ws) = omega arith in z))
    ∙ sym (append_assoc (number_bits (width_of t) x.value) (numbers_bits (width_of t) ws) (replicate ((suc n - suc (length ws)) * width_of t) 0))

-- ---- a variable

-- a list has room for an item
abbrev IsRoomy : Shape → Type 0
IsRoomy (one t) = Unit {0}
IsRoomy (list t n) = nat_eq n 0 ≡ false
IsRoomy (set ks) = Unit {0}
IsRoomy (dict ks t) = Unit {0}

none_of : (ws : List Word) (w : ℕ) → length ws ≡ 0 → slot_bits w 0 ws ≡ []
none_of [] w e = refl
none_of (x ∷ ws) w e = absurd (omega (arith, e))

shape_bits :
    (s : Shape) (ws : List Word) → sound_width (shape_width s) ≡ shape_width s → IsHeld IsTeleCount s ws → IsRoomy s →
    slot_bits (shape_width s) (shape_size s) ws ≡ words_bits (shape_words s ws)
shape_bits (one t) [] k h r = absurd (let c = h.count in omega (arith, c))
shape_bits (one t) (x ∷ []) k h r = ap (λ v. number_bits v x.value ++ []) (sym ((All-head (HasWidth (width_of t)) x [] h.words).width ∙ k))
shape_bits (one t) (x ∷ y ∷ ws) k h r = absurd (let c = h.count in omega (arith, c))
shape_bits (list t n) ws k h r =
    ap (λ (b : Bool). if b then numbers_bits (width_of t) ws else list_bits (width_of t) n ws) r
    ∙ ap (λ l. number_bits 8 (length ws) ++ l) (sym (item_bits t ws n k h.words h.count))
shape_bits (set ks) ws k h r = none_of ws (shape_width (set ks)) h.count
shape_bits (dict ks t) ws k h r = none_of ws (shape_width (dict ks t)) h.count

-- ---- all of them

abbrev Travels : Held → Decl → Type 0
Travels t d = d.kind ≡ Tele → (sound_width (shape_width d.shape) ≡ shape_width d.shape) × IsHeld IsTeleCount d.shape (t d.name) × IsRoomy d.shape

all_bits :
    (ds : List Decl) (t : Held) → AllByRecursion (Travels t) ds → variables_bits ds t ≡ words_bits (tele_words ds t)
all_bits [] t h = refl
all_bits (d ∷ ds) t h = go d.kind refl (all_bits ds t h.1) ∙ sym (words_both (kind_words d.kind d t) (tele_words ds t))
  where
    go :
        (k : DeclKind) → d.kind ≡ k → variables_bits ds t ≡ words_bits (tele_words ds t) →
        (if same_kind Tele k then slot_bits (shape_width d.shape) (shape_size d.shape) (t d.name) else []) ++ variables_bits ds t ≡ words_bits (kind_words k d t) ++ words_bits (tele_words ds t)
    go Tele e r = let f = h.0 e in ap₂ (λ (a b : List ℕ). a ++ b) (shape_bits d.shape (t d.name) f.0 f.1 f.2) r
    go Sensor e r = r
    go Header e r = r
    go Control e r = r

roomy : (s : Shape) → bad_shape s ≡ false → IsRoomy s
roomy (one t) h = tt
roomy (list t n) h = (neither (bad_width t) (nat_eq n 0) (neither (bad_width t || nat_eq n 0) (nat_lt 255 n) h).0).1
roomy (set ks) h = tt
roomy (dict ks t) h = tt

-- ---- what fills the last byte

fill_bits : (k : ℕ) → k ≤ 128 → words_bits (zeros (fill_field k)) ≡ replicate k 0
fill_bits zero le = refl
fill_bits (suc k) le = nothing_bits (suc k) (sound (suc k) (omega arith) le)

pub telemetry_is_linked : TelemetryIsLinked
telemetry_is_linked g i t f =
    let p = g.property in
    let ds = p.decls in
    let fs = tele_fields (decls g) in
    let ws = tele_words ds t in
    let k = tele_room fs * 8 - (8 + width_sum fs) in
    let typed = i.plain.typed in
    let o = once p typed in
    let each : AllByRecursion (Travels t) ds =
    all_weaker (λ d. lookup ds d.name ≡ Some d) (Travels t) (λ d is tele. (sound_widths p typed d.name d is, f d.name d is tele, roomy d.shape ((shapely p typed).sized d.name d is))) ds (each_found ds o) in
    let n = first_byte p.edition in
    let mark : List ℕ = number_bits 8 n in
    let same = all_bits ds t each in
    let long : length (mark ++ words_bits ws) ≡ 8 + width_sum fs =
    length-append mark (words_bits ws) ∙ ap₂ (λ (a b : ℕ). a + b) (length-number_bits 8 n) (length-words fs ws (tele_for ds 0 t o (tele_of p typed) (λ x d is. f x d is))) in
    let fill : 8 * whole_bytes (length (mark ++ words_bits ws)) - length (mark ++ words_bits ws) ≡ k =
    ap (λ n. 8 * whole_bytes n - n) long ∙ (let z : 8 * ((8 + width_sum fs + 7) / 8) - (8 + width_sum fs) ≡ (8 + width_sum fs + 7) / 8 * 8 - (8 + width_sum fs) = omega arith in z) in
    ap bytes_of
    (ap (λ (l : List ℕ). filled (mark ++ l)) same
    ∙ ap (λ n. (mark ++ words_bits ws) ++ replicate n 0) fill
    ∙ append_assoc mark (words_bits ws) (replicate k 0)
    ∙ ap (λ l. mark ++ l) (ap (λ l. words_bits ws ++ l) (sym (fill_bits k (let le : k ≤ 128 = omega arith in le))) ∙ sym (words_both ws (zeros (fill_field k)))))
