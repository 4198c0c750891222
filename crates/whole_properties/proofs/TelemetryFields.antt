-- The fields of the telemetry hold the words of variables exactly where those of numbered scalars do.
use Rattle.std.proofs.Common.{◌≡◌, ℕ, zero, suc, ◌+◌, ◌<◌, List, [], ◌∷◌, ◌++◌, length, Bool, true, false, cond, Some, refl, sym, ap, ◌∙◌, subst, arith, append_assoc, length-append}
use Rattle.std.specs.Prelude.{slice_get}
use Rattle.bit_values.specs.Bits.{Word, word}
use Rattle.lex_text.specs.Names.{same_text}
use Rattle.p4_meaning.specs.Store.{Store}
use Rattle.p4_meaning.specs.Parsing.{Field}
use Rattle.indus_tree.specs.Tree.{Shape, one, list, set, dict, Decl}
use Rattle.indus_tree.specs.State.{Held, lookup, width_of, nothing_of}
use Rattle.indus_tree.specs.Reads.{scalar, or_word}
use Rattle.indus_tree.specs.Hops.{variable_number_from}
use Rattle.indus_tree.specs.declared.tree.DeclKind.{DeclKind}
use Rattle.indus_tree.specs.declared.tree.DeclKind.TheVariants.{Tele, Sensor, Header, Control}
use Rattle.indus_tree.specs.declared.tree.Ty.{Ty}
use Rattle.lower_lists.specs.Names.{item_name, count_name}
use Rattle.flat_laws.specs.Numbered.{scalar_decl, item_decls, numbered_shape, numbered_kind, numbered_from}
use Rattle.own_code.proofs.Apart.{text_decides}
use Rattle.monitor_laws.specs.Names.{tele_header}
use Rattle.monitor_laws.specs.Telemetry.{HasWords}
use Rattle.lowered_code.specs.Names.{tele_name}
use Rattle.whole_properties.specs.Whole.{tele_field, tele_fields, item_words, shape_words, kind_words, tele_words}
use Rattle.whole_properties.proofs.Once.{AreOnce, first_found, other_name, behind_found}

-- the field of a numbered scalar
abbrev pub scalar_path : List ℕ → List (List ℕ)
scalar_path x = tele_header ++ tele_name x ∷ []

-- ---- words in two lists of fields

pub has_left :
    (p : List (List ℕ)) (fs gs : List Field) (ws vs : List Word) (s : Store) → length fs ≡ length ws →
    HasWords p (fs ++ gs) (ws ++ vs) s → HasWords p fs ws s × HasWords p gs vs s
has_left p [] gs [] vs s e h = (tt, h)
has_left p [] gs (w ∷ ws) vs s e h = absurd (omega (arith, e))
has_left p (f ∷ fs) gs [] vs s e h = absurd (omega (arith, e))
has_left p (f ∷ fs) gs (w ∷ ws) vs s e h = let r = has_left p fs gs ws vs s (omega (arith, e)) h.1 in ((h.0, r.0), r.1)

pub has_both :
    (p : List (List ℕ)) (fs gs : List Field) (ws vs : List Word) (s : Store) → HasWords p fs ws s → HasWords p gs vs s →
    HasWords p (fs ++ gs) (ws ++ vs) s
has_both p [] gs [] vs s h k = k
has_both p [] gs (w ∷ ws) vs s h k = absurd h
has_both p (f ∷ fs) gs [] vs s h k = absurd h
has_both p (f ∷ fs) gs (w ∷ ws) vs s h k = (h.0, has_both p fs gs ws vs s h.1 k)

pub fields_of_both : (ds es : List Decl) → tele_fields (ds ++ es) ≡ tele_fields ds ++ tele_fields es
fields_of_both [] es = refl
fields_of_both (d ∷ ds) es = ap (λ l. tele_field d.kind d ++ l) (fields_of_both ds es) ∙ sym (append_assoc (tele_field d.kind d) (tele_fields ds) (tele_fields es))

long_both :
    (fs gs : List Field) (ws vs : List Word) → length fs ≡ length ws → length gs ≡ length vs →
    length (fs ++ gs) ≡ length (ws ++ vs)
long_both fs gs ws vs h k = let a = length-append fs gs in let b = length-append ws vs in omega (arith, a, b, h, k)

-- ---- one variable

-- the fields of a variable's numbered scalars hold its words
abbrev pub HoldsStore : (v : ℕ) → Shape → List Word → Store → Type 0
HoldsStore v (one t) ws s = s.values (scalar_path (item_name v 0)) ≡ scalar ws (width_of t)
HoldsStore v (list t n) ws s =
    (s.values (scalar_path (count_name v)) ≡ word 8 (length ws)) × ((i : ℕ) → i < n → s.values (scalar_path (item_name v i)) ≡ or_word (slice_get ws i) (nothing_of (width_of t)))
HoldsStore v (set ks) ws s = Unit {0}
HoldsStore v (dict ks t) ws s = Unit {0}

items_long :
    (p v : ℕ) (t : Ty) (n : ℕ) (ws : List Word) → length (tele_fields (item_decls p v t n)) ≡ length (item_words t n ws)
items_long p v t zero ws = refl
items_long p v t (suc i) ws =
    ap length (fields_of_both (item_decls p v t i) (scalar_decl p (item_name v i) t ∷ []))
    ∙ long_both (tele_fields (item_decls p v t i)) (tele_fields (scalar_decl p (item_name v i) t ∷ [])) (item_words t i ws) (or_word (slice_get ws i) (nothing_of (width_of t)) ∷ []) (items_long p v t i ws) refl

items_from :
    (p v : ℕ) (t : Ty) (n : ℕ) (ws : List Word) (s : Store) → HasWords tele_header (tele_fields (item_decls p v t n)) (item_words t n ws) s →
    (i : ℕ) → i < n → s.values (scalar_path (item_name v i)) ≡ or_word (slice_get ws i) (nothing_of (width_of t))
items_from p v t zero ws s h i lt = absurd (omega (arith, lt))
items_from p v t (suc m) ws s h i lt =
    let both = has_left tele_header (tele_fields (item_decls p v t m)) _ (item_words t m ws) _ s (items_long p v t m ws)
    (subst (λ fs. HasWords tele_header fs (item_words t (suc m) ws) s) (fields_of_both (item_decls p v t m) (scalar_decl p (item_name v m) t ∷ [])) h) in
    by_place i m lt (λ l. items_from p v t m ws s both.0 i l)
    (λ e. subst (λ i. s.values (scalar_path (item_name v i)) ≡ or_word (slice_get ws i) (nothing_of (width_of t))) (sym e) both.1.0)
  where
    by_place : {A : Type 0} (i m : ℕ) → i < suc m → (i < m → A) → (i ≡ m → A) → A
    by_place zero zero lt f g = g refl
    by_place zero (suc m) lt f g = f (omega arith)
    by_place (suc i) zero lt f g = absurd (omega (arith, lt))
    by_place (suc i) (suc m) lt f g = by_place i m (omega (arith, lt)) (λ l. f (omega (arith, l))) (λ e. g (ap suc e))

items_to :
    (p v : ℕ) (t : Ty) (n : ℕ) (ws : List Word) (s : Store) → ((i : ℕ) → i < n → s.values (scalar_path (item_name v i)) ≡ or_word (slice_get ws i) (nothing_of (width_of t))) →
    HasWords tele_header (tele_fields (item_decls p v t n)) (item_words t n ws) s
items_to p v t zero ws s h = tt
items_to p v t (suc m) ws s h =
    subst (λ fs. HasWords tele_header fs (item_words t (suc m) ws) s) (sym (fields_of_both (item_decls p v t m) (scalar_decl p (item_name v m) t ∷ [])))
    (has_both tele_header (tele_fields (item_decls p v t m)) _ (item_words t m ws) _ s (items_to p v t m ws s (λ i lt. h i (omega (arith, lt)))) (h m (omega arith), tt))

shape_long :
    (p v : ℕ) (sh : Shape) (ws : List Word) → length (tele_fields (numbered_shape p v sh)) ≡ length (shape_words sh ws)
shape_long p v (one t) ws = refl
shape_long p v (list t n) ws = ap suc (items_long p v t n ws)
shape_long p v (set ks) ws = refl
shape_long p v (dict ks t) ws = refl

shape_from :
    (p v : ℕ) (sh : Shape) (ws : List Word) (s : Store) →
    HasWords tele_header (tele_fields (numbered_shape p v sh)) (shape_words sh ws) s → HoldsStore v sh ws s
shape_from p v (one t) ws s h = h.0
shape_from p v (list t n) ws s h = (h.0, λ i lt. items_from p v t n ws s h.1 i lt)
shape_from p v (set ks) ws s h = tt
shape_from p v (dict ks t) ws s h = tt

shape_to :
    (p v : ℕ) (sh : Shape) (ws : List Word) (s : Store) → HoldsStore v sh ws s →
    HasWords tele_header (tele_fields (numbered_shape p v sh)) (shape_words sh ws) s
shape_to p v (one t) ws s h = (h, tt)
shape_to p v (list t n) ws s h = (h.0, items_to p v t n ws s (λ i lt. h.1 i lt))
shape_to p v (set ks) ws s h = tt
shape_to p v (dict ks t) ws s h = tt

-- ---- all variables

-- what is no variable of the packet's has no field
pub no_field : (k : DeclKind) (d : Decl) → d.kind ≡ k → (k ≡ Tele → ⊥) → tele_fields (d ∷ []) ≡ []
no_field Tele d e n = absurd (n refl)
no_field Sensor d e n = ap (λ k. tele_field k d ++ []) e
no_field Header d e n = ap (λ k. tele_field k d ++ []) e
no_field Control d e n = ap (λ k. tele_field k d ++ []) e

kind_long :
    (k : DeclKind) (v : ℕ) (d : Decl) (t : Held) → d.kind ≡ k →
    length (tele_fields (numbered_kind k v d)) ≡ length (kind_words k d t)
kind_long Tele v d t e = shape_long d.at v d.shape (t d.name)
kind_long Sensor v d t e = ap length (no_field Sensor d e (λ i. absurd (cc)))
kind_long Header v d t e = ap length (no_field Header d e (λ i. absurd (cc)))
kind_long Control v d t e = ap length (no_field Control d e (λ i. absurd (cc)))

kind_to :
    (k : DeclKind) (v : ℕ) (d : Decl) (t : Held) (s : Store) → d.kind ≡ k →
    (k ≡ Tele → HoldsStore v d.shape (t d.name) s) →
    HasWords tele_header (tele_fields (numbered_kind k v d)) (kind_words k d t) s
kind_to Tele v d t s e h = shape_to d.at v d.shape (t d.name) s (h refl)
kind_to Sensor v d t s e h = subst (λ fs. HasWords tele_header fs [] s) (sym (no_field Sensor d e (λ i. absurd (cc)))) tt
kind_to Header v d t s e h = subst (λ fs. HasWords tele_header fs [] s) (sym (no_field Header d e (λ i. absurd (cc)))) tt
kind_to Control v d t s e h = subst (λ fs. HasWords tele_header fs [] s) (sym (no_field Control d e (λ i. absurd (cc)))) tt

kind_from :
    (k : DeclKind) (v : ℕ) (d : Decl) (t : Held) (s : Store) → k ≡ Tele →
    HasWords tele_header (tele_fields (numbered_kind k v d)) (kind_words k d t) s → HoldsStore v d.shape (t d.name) s
kind_from Tele v d t s e h = shape_from d.at v d.shape (t d.name) s h
kind_from Sensor v d t s e h = absurd (cc)
kind_from Header v d t s e h = absurd (cc)
kind_from Control v d t s e h = absurd (cc)

-- from the telemetry's words to each variable's
pub words_from :
    (ds : List Decl) (n : ℕ) (t : Held) (s : Store) → HasWords tele_header (tele_fields (numbered_from n ds)) (tele_words ds t) s →
    (x : List ℕ) (d : Decl) (v : ℕ) → lookup ds x ≡ Some d → variable_number_from n ds x ≡ Some v → d.kind ≡ Tele → HoldsStore v d.shape (t x) s
words_from [] n t s h x d v is num k = absurd (cc)
words_from (e ∷ ds) n t s h x d v is num k =
    let both = has_left tele_header (tele_fields (numbered_kind e.kind n e)) (tele_fields (numbered_from (n + 1) ds)) (kind_words e.kind e t) (tele_words ds t) s (kind_long e.kind n e t refl)
    (subst (λ fs. HasWords tele_header fs (kind_words e.kind e t ++ tele_words ds t) s) (fields_of_both (numbered_kind e.kind n e) (numbered_from (n + 1) ds)) h) in
    go (same_text e.name x) refl is num both.0 (words_from ds (n + 1) t s both.1 x d v)
  where
    go :
        (b : Bool) → same_text e.name x ≡ b → cond b (Some e) (lookup ds x) ≡ Some d → cond b (Some n) (variable_number_from (n + 1) ds x) ≡ Some v →
        HasWords tele_header (tele_fields (numbered_kind e.kind n e)) (kind_words e.kind e t) s →
        (lookup ds x ≡ Some d → variable_number_from (n + 1) ds x ≡ Some v → d.kind ≡ Tele → HoldsStore v d.shape (t x) s) → HoldsStore v d.shape (t x) s
    go true b is num w rest =
        let one : e ≡ d = cc in
        let number : n ≡ v = cc in
        let name : e.name ≡ x = (text_decides e.name x).0 b in
        subst (λ x. HoldsStore v d.shape (t x) s) name
        (subst (λ v. HoldsStore v d.shape (t e.name) s) number
        (subst (λ (f : Decl). HoldsStore n f.shape (t e.name) s) one (kind_from e.kind n e t s (ap (λ (f : Decl). f.kind) one ∙ k) w)))
    go false b is num w rest = rest is num k

-- and back
pub words_to :
    (ds : List Decl) (n : ℕ) (t : Held) (s : Store) → AreOnce ds →
    ((x : List ℕ) (d : Decl) (v : ℕ) → lookup ds x ≡ Some d → variable_number_from n ds x ≡ Some v → d.kind ≡ Tele → HoldsStore v d.shape (t x) s) →
    HasWords tele_header (tele_fields (numbered_from n ds)) (tele_words ds t) s
words_to [] n t s o h = tt
words_to (e ∷ ds) n t s o h =
    let rest = variable_number_from (n + 1) ds in
    subst (λ fs. HasWords tele_header fs (kind_words e.kind e t ++ tele_words ds t) s) (sym (fields_of_both (numbered_kind e.kind n e) (numbered_from (n + 1) ds)))
    (has_both tele_header (tele_fields (numbered_kind e.kind n e)) (tele_fields (numbered_from (n + 1) ds)) (kind_words e.kind e t) (tele_words ds t) s
    (kind_to e.kind n e t s refl (λ k. h e.name e n (first_found e ds) (ap (λ b. cond b (Some n) (rest e.name)) ((text_decides e.name e.name).1 refl)) k))
    (words_to ds (n + 1) t s o.1 (λ x d v is num k. h x d v (behind_found e ds o.0 x d is) (ap (λ b. cond b (Some n) (rest x)) (other_name e ds o.0 x d is) ∙ num) k)))

-- as many words as fields
pub words_long :
    (ds : List Decl) (n : ℕ) (t : Held) → length (tele_fields (numbered_from n ds)) ≡ length (tele_words ds t)
words_long [] n t = refl
words_long (e ∷ ds) n t =
    ap length (fields_of_both (numbered_kind e.kind n e) (numbered_from (n + 1) ds))
    ∙ long_both (tele_fields (numbered_kind e.kind n e)) (tele_fields (numbered_from (n + 1) ds)) (kind_words e.kind e t) (tele_words ds t) (kind_long e.kind n e t refl) (words_long ds (n + 1) t)
