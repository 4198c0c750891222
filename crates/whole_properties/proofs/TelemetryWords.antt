-- The words of the telemetry fit its fields, and are 0 at the start.
use Rattle.std.proofs.Common.{◌≡◌, ℕ, zero, suc, ◌+◌, ◌≤◌, ◌<◌, ◌^◌, List, [], ◌∷◌, ◌++◌, Option, Some, None, refl, sym, ap, ap₂, ◌∙◌, subst, All, arith, pow_pos}
use Rattle.std.specs.Prelude.{slice_get}
use Rattle.std.proofs.lemmas.List.Elements.{All-head, All-get_or}
use Rattle.std.proofs.lemmas.Option.{slice_get_within, get_or_from_slice_get}
use Rattle.std.specs.List.{AllByRecursion}
use Rattle.bit_values.specs.Bits.{Word, word}
use Rattle.bit_values.specs.Widths.{sound_width}
use Rattle.p4_meaning.specs.Parsing.{Field}
use Rattle.p4_meaning.proofs.Words.{sound}
use Rattle.indus_tree.specs.Tree.{Shape, one, list, set, dict, Decl}
use Rattle.indus_tree.specs.State.{Held, lookup, shape_width, width_of, nothing_of}
use Rattle.indus_tree.specs.Start.{start_of_shape}
use Rattle.indus_tree.specs.Reads.{scalar, or_word}
use Rattle.indus_tree.specs.Shapes.{HasWidth, IsHeld, IsTeleCount}
use Rattle.indus_tree.specs.declared.tree.DeclKind.{DeclKind}
use Rattle.indus_tree.specs.declared.tree.DeclKind.TheVariants.{Tele, Sensor, Header, Control}
use Rattle.indus_tree.specs.declared.tree.Ty.{Ty}
use Rattle.flat_laws.specs.Numbered.{scalar_decl, item_decls, numbered_shape, numbered_kind, numbered_from}
use Rattle.monitor_laws.specs.Telemetry.{AreFor, zeros}
use Rattle.whole_properties.specs.Whole.{tele_fields, item_words, shape_words, kind_words, tele_words, fill_field}
use Rattle.whole_properties.proofs.Once.{AreOnce, first_found, behind_found}
use Rattle.whole_properties.proofs.TelemetryFields.{fields_of_both, no_field}

-- a list holds at most 255
abbrev pub IsShort : Shape → Type 0
IsShort (one t) = Unit {0}
IsShort (list t n) = n < 256
IsShort (set ks) = Unit {0}
IsShort (dict ks t) = Unit {0}

-- of the packet's variables widths are sound, and lists short
abbrev pub AreTele : List Decl → Type 0
AreTele = AllByRecursion (λ d. d.kind ≡ Tele → (sound_width (shape_width d.shape) ≡ shape_width d.shape) × IsShort d.shape)

-- ---- words fit

pub for_both : (fs gs : List Field) (ws vs : List Word) → AreFor fs ws → AreFor gs vs → AreFor (fs ++ gs) (ws ++ vs)
for_both [] gs [] vs h k = k
for_both [] gs (w ∷ ws) vs h k = absurd h
for_both (f ∷ fs) gs [] vs h k = absurd h
for_both (f ∷ fs) gs (w ∷ ws) vs h k = (h.0, h.1, for_both fs gs ws vs h.2 k)

-- a word of a sound width
fits_field : (w : ℕ) (u : Word) → sound_width w ≡ w → HasWidth w u → (u.width ≡ w) × (u.value < 2 ^ u.width)
fits_field w u k h = (h.width ∙ k, subst (λ n. u.value < 2 ^ n) (sym h.width) h.in_range)

nothing_fits : (w : ℕ) → HasWidth w (nothing_of w)
nothing_fits w = record { width = refl; in_range = pow_pos (sound_width w) }

or_fits : (ws : List Word) (i w : ℕ) → All (HasWidth w) ws → HasWidth w (or_word (slice_get ws i) (nothing_of w))
or_fits ws i w all = go (slice_get ws i) refl
  where
    go : (o : Option Word) → slice_get ws i ≡ o → HasWidth w (or_word o (nothing_of w))
    go None e = nothing_fits w
    go (Some u) e = subst (HasWidth w) (get_or_from_slice_get ws i u (nothing_of w) e) (All-get_or (HasWidth w) ws i (nothing_of w) (slice_get_within ws i u e) all)

items_for :
    (p v : ℕ) (t : Ty) (n : ℕ) (ws : List Word) → sound_width (width_of t) ≡ width_of t →
    All (HasWidth (width_of t)) ws → AreFor (tele_fields (item_decls p v t n)) (item_words t n ws)
items_for p v t zero ws k all = tt
items_for p v t (suc i) ws k all =
    let f = fits_field (width_of t) (or_word (slice_get ws i) (nothing_of (width_of t))) k (or_fits ws i (width_of t) all) in
    subst (λ fs. AreFor fs (item_words t (suc i) ws)) (sym (fields_of_both (item_decls p v t i) (scalar_decl p _ t ∷ [])))
    (for_both (tele_fields (item_decls p v t i)) _ (item_words t i ws) _ (items_for p v t i ws k all) (f.0, f.1, tt))

scalar_fits : (ws : List Word) (w : ℕ) → All (HasWidth w) ws → HasWidth w (scalar ws w)
scalar_fits [] w all = nothing_fits w
scalar_fits (x ∷ xs) w all = All-head (HasWidth w) x xs all

shape_for :
    (p v : ℕ) (s : Shape) (ws : List Word) → sound_width (shape_width s) ≡ shape_width s → IsShort s →
    IsHeld IsTeleCount s ws → AreFor (tele_fields (numbered_shape p v s)) (shape_words s ws)
shape_for p v (one t) ws k short h = let f = fits_field (width_of t) (scalar ws (width_of t)) k (scalar_fits ws (width_of t) h.words) in (f.0, f.1, tt)
shape_for p v (list t n) ws k short h = (refl, (let c = h.count in omega (arith, c, short)), items_for p v t n ws k h.words)
shape_for p v (set ks) ws k short h = tt
shape_for p v (dict ks t) ws k short h = tt

kind_for :
    (k : DeclKind) (v : ℕ) (d : Decl) (t : Held) → d.kind ≡ k →
    (k ≡ Tele → (sound_width (shape_width d.shape) ≡ shape_width d.shape) × IsShort d.shape × IsHeld IsTeleCount d.shape (t d.name)) →
    AreFor (tele_fields (numbered_kind k v d)) (kind_words k d t)
kind_for Tele v d t e h = let f = h refl in shape_for d.at v d.shape (t d.name) f.0 f.1 f.2
kind_for Sensor v d t e h = subst (λ fs. AreFor fs []) (sym (no_field Sensor d e (λ i. absurd (cc)))) tt
kind_for Header v d t e h = subst (λ fs. AreFor fs []) (sym (no_field Header d e (λ i. absurd (cc)))) tt
kind_for Control v d t e h = subst (λ fs. AreFor fs []) (sym (no_field Control d e (λ i. absurd (cc)))) tt

pub tele_for :
    (ds : List Decl) (n : ℕ) (t : Held) → AreOnce ds → AreTele ds →
    ((x : List ℕ) (d : Decl) → lookup ds x ≡ Some d → d.kind ≡ Tele → IsHeld IsTeleCount d.shape (t x)) → AreFor (tele_fields (numbered_from n ds)) (tele_words ds t)
tele_for [] n t o a h = tt
tele_for (e ∷ ds) n t o a h =
    subst (λ fs. AreFor fs (kind_words e.kind e t ++ tele_words ds t)) (sym (fields_of_both (numbered_kind e.kind n e) (numbered_from (n + 1) ds)))
    (for_both (tele_fields (numbered_kind e.kind n e)) (tele_fields (numbered_from (n + 1) ds)) (kind_words e.kind e t) (tele_words ds t)
    (kind_for e.kind n e t refl (λ k. (let f = a.0 k in (f.0, f.1, h e.name e (first_found e ds) k))))
    (tele_for ds (n + 1) t o.1 a.1 (λ x d is k. h x d (behind_found e ds o.0 x d is) k)))

-- zeros fit what fills the last byte
pub fill_for : (w : ℕ) → w ≤ 128 → AreFor (fill_field w) (zeros (fill_field w))
fill_for zero h = tt
fill_for (suc w) h = (sound (suc w) (omega arith) h, pow_pos (sound_width (suc w)), tt)

-- ---- at the start

pub zeros_both : (fs gs : List Field) → zeros (fs ++ gs) ≡ zeros fs ++ zeros gs
zeros_both [] gs = refl
zeros_both (f ∷ fs) gs = ap (λ (l : List Word). word (sound_width f.width) 0 ∷ l) (zeros_both fs gs)

items_zero : (p v : ℕ) (t : Ty) (n : ℕ) → item_words t n [] ≡ zeros (tele_fields (item_decls p v t n))
items_zero p v t zero = refl
items_zero p v t (suc i) =
    ap (λ (l : List Word). l ++ nothing_of (width_of t) ∷ []) (items_zero p v t i)
    ∙ sym (zeros_both (tele_fields (item_decls p v t i)) (tele_fields (scalar_decl p _ t ∷ [])))
    ∙ ap zeros (sym (fields_of_both (item_decls p v t i) (scalar_decl p _ t ∷ [])))

shape_zero : (p v : ℕ) (s : Shape) → shape_words s (start_of_shape s) ≡ zeros (tele_fields (numbered_shape p v s))
shape_zero p v (one t) = refl
shape_zero p v (list t n) = ap (λ (l : List Word). word 8 0 ∷ l) (items_zero p v t n)
shape_zero p v (set ks) = refl
shape_zero p v (dict ks t) = refl

kind_zero :
    (k : DeclKind) (v : ℕ) (d : Decl) (t : Held) → d.kind ≡ k → (k ≡ Tele → t d.name ≡ start_of_shape d.shape) →
    kind_words k d t ≡ zeros (tele_fields (numbered_kind k v d))
kind_zero Tele v d t e h = ap (shape_words d.shape) (h refl) ∙ shape_zero d.at v d.shape
kind_zero Sensor v d t e h = ap zeros (sym (no_field Sensor d e (λ i. absurd (cc))))
kind_zero Header v d t e h = ap zeros (sym (no_field Header d e (λ i. absurd (cc))))
kind_zero Control v d t e h = ap zeros (sym (no_field Control d e (λ i. absurd (cc))))

pub tele_zero :
    (ds : List Decl) (n : ℕ) (t : Held) → AreOnce ds → ((x : List ℕ) (d : Decl) → lookup ds x ≡ Some d → d.kind ≡ Tele → t x ≡ start_of_shape d.shape) →
    tele_words ds t ≡ zeros (tele_fields (numbered_from n ds))
tele_zero [] n t o h = refl
tele_zero (e ∷ ds) n t o h =
    ap₂ (λ (a b : List Word). a ++ b) (kind_zero e.kind n e t refl (λ k. h e.name e (first_found e ds) k))
    (tele_zero ds (n + 1) t o.1 (λ x d is k. h x d (behind_found e ds o.0 x d is) k))
    ∙ sym (zeros_both (tele_fields (numbered_kind e.kind n e)) (tele_fields (numbered_from (n + 1) ds)))
    ∙ ap zeros (sym (fields_of_both (numbered_kind e.kind n e) (numbered_from (n + 1) ds)))
