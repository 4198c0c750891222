-- No rule is broken at the declarations of numbered scalars.
use Rattle.std.proofs.Common.{◌≡◌, ◌⊎◌, inl, inr, ⊎_elim, ℕ, zero, suc, ◌+◌, ◌<◌, ◌≤◌, ◌^◌, List, [], ◌∷◌, ◌++◌, length, Bool, true, false, ◌||◌, cond, Option, Some, None, is_some, refl, sym, ap, ap₂, ◌∙◌, arith, subst, append_assoc, append-nil, length-append, nat_eq, nat_lt}
use Rattle.std.proofs.lemmas.Bool.{ltb-false}
use Rattle.lex_text.specs.Names.{same_text}
use Rattle.indus_tree.specs.Tree.{Shape, one, list, set, dict, Decl}
use Rattle.indus_tree.specs.State.{lookup}
use Rattle.indus_tree.specs.declared.tree.DeclKind.{DeclKind}
use Rattle.indus_tree.specs.declared.tree.DeclKind.TheVariants.{Tele, Sensor, Header, Control}
use Rattle.indus_tree.specs.declared.tree.Ty.{Ty}
use Rattle.indus_tree.specs.declared.tree.Ty.TheVariants as ty
use Rattle.indus_scopes.specs.Scopes.{builtin_of}
use Rattle.indus_scopes.specs.declared.kind.Kind.{Kind}
use Rattle.indus_rules.specs.Sites.{decl_sites, start_sites}
use Rattle.indus_rules.specs.Rules.{Fine, broken, bad_width, bad_shape, misshapen, ill_declared}
use Rattle.indus_rules.specs.declared.rule.Rule.TheVariants.{NameTwice, KindDiffers, BadSize}
use Rattle.indus_types.proofs.Widths.{neither}
use Rattle.lower_lists.specs.Names.{item_name, count_name, is_plain}
use Rattle.flat_laws.specs.Numbered.{scalar_decl, item_decls, numbered_shape, numbered_kind, numbered_from, numbered, ArePlain}
use Rattle.flat_laws.proofs.NameLemmas.{slot, IsNear, slots_apart, places_apart, plain_apart, slot_apart, slot_not_plain}
use Rattle.flat_laws.proofs.Lookups.{behind_none, alone_other, items_not, kind_other, numbered_other, IsOther}
use Rattle.flat_laws.proofs.Roles.{own_plain}
use Rattle.flat_laws.proofs.FineSites.{decl_site}

-- ---- names

own_none : (x : List ℕ) (o : Option Kind) → builtin_of x ≡ o → is_plain x ≡ false → o ≡ None
own_none x None e h = refl
own_none x (Some k) e h = absurd (let both : true ≡ false = sym (own_plain x k e) ∙ h in cc)

-- a numbered name is none of the language's own
pub slot_not_own : (v : ℕ) (b : Option ℕ) → v < 2 ^ 32 → builtin_of (slot v b) ≡ None
slot_not_own v b lv = own_none (slot v b) (builtin_of (slot v b)) refl (slot_not_plain v b lv)

-- ---- declarations one behind the other

pub fine-append : (before ds es : List Decl) → Fine (decl_sites before ds) → Fine (decl_sites (before ++ ds) es) → Fine (decl_sites before (ds ++ es))
fine-append before [] es f h = subst (λ (xs : List Decl). Fine (decl_sites xs es)) (append-nil before) h
fine-append before (d ∷ ds) es f h =
    (f.0, fine-append (before ++ d ∷ []) ds es f.1 (subst (λ (xs : List Decl). Fine (decl_sites xs es)) (sym (append_assoc before (d ∷ []) ds)) h))

lookup-append-none : (fs bs : List Decl) (x : List ℕ) → lookup fs x ≡ None → lookup bs x ≡ None → lookup (fs ++ bs) x ≡ None
lookup-append-none fs bs x e f = behind_none fs bs x e ∙ f

-- a scalar behind others none of which has its name
scalar_fine : (before : List Decl) (p : ℕ) (x : List ℕ) (t : Ty) → lookup before x ≡ None → builtin_of x ≡ None → bad_width t ≡ false → Fine (decl_sites before (scalar_decl p x t ∷ []))
scalar_fine before p x t n o w =
    ((decl_site before (scalar_decl p x t) (ap₂ (λ a b. is_some a || is_some b) n o) refl w, tt), tt)

-- the first n items of a list
items_fine : (before : List Decl) (p v : ℕ) (t : Ty) (n : ℕ) → v < 2 ^ 32 → n < 2 ^ 32 → bad_width t ≡ false → ((i : ℕ) → i < n → lookup before (item_name v i) ≡ None) → Fine (decl_sites before (item_decls p v t n))
items_fine before p v t zero lv ln w h = tt
items_fine before p v t (suc n) lv ln w h =
    fine-append before (item_decls p v t n) (scalar_decl p (item_name v n) t ∷ [])
    (items_fine before p v t n lv (omega arith) w (λ i lt. h i (omega arith)))
    (scalar_fine (before ++ item_decls p v t n) p (item_name v n) t
    (lookup-append-none before (item_decls p v t n) (item_name v n) (h n (omega arith))
    (items_not p v t n (item_name v n) (λ i lt. places_apart v (Some i) (Some n) lv (omega arith) (omega arith) (λ e. let s : i ≡ n = cc in omega arith))))
    (slot_not_own v (Some n) lv) w)

byte_wide : bad_width (ty.Bit 8) ≡ false
byte_wide = refl

none_some : (i : ℕ) → (let a : Option ℕ = None in a ≡ Some i) → ⊥
none_some i e = cc e

-- the scalars of a variable
shape_fine : (before : List Decl) (p v : ℕ) (s : Shape) → v < 2 ^ 32 → bad_shape s ≡ false → ((b : Option ℕ) → lookup before (slot v b) ≡ None) → Fine (decl_sites before (numbered_shape p v s))
shape_fine before p v (one t) lv w h = scalar_fine before p (item_name v 0) t (h (Some 0)) (slot_not_own v (Some 0) lv) w
shape_fine before p v (list t n) lv w h =
    let parts = neither (bad_width t || nat_eq n 0) (nat_lt 255 n) w in
    let wt = (neither (bad_width t) (nat_eq n 0) parts.0).0 in
    let small : n ≤ 255 = ltb-false 255 n parts.1 in
    let count : Decl = scalar_decl p (count_name v) (ty.Bit 8) in
    fine-append before (count ∷ []) (item_decls p v t n)
    (scalar_fine before p (count_name v) (ty.Bit 8) (h None) (slot_not_own v None lv) byte_wide)
    (items_fine (before ++ count ∷ []) p v t n lv (omega arith) wt
    (λ i lt. lookup-append-none before (count ∷ []) (item_name v i) (h (Some i)) (alone_other count (item_name v i) (places_apart v None (Some i) lv tt (omega arith) (none_some i)))))
shape_fine before p v (set ks) lv w h = tt
shape_fine before p v (dict ks t) lv w h = tt

-- ---- all of them

numbered-append : (v : ℕ) (ds es : List Decl) → numbered_from v (ds ++ es) ≡ numbered_from v ds ++ numbered_from (v + length ds) es
numbered-append v [] es = let z : v ≡ v + 0 = omega arith in ap (λ n. numbered_from n es) z
numbered-append v (d ∷ ds) es =
    let z : v + 1 + length ds ≡ v + suc (length ds) = omega arith in
    ap (λ (xs : List Decl). numbered_kind d.kind v d ++ xs) (numbered-append (v + 1) ds es ∙ ap (λ n. numbered_from (v + 1) ds ++ numbered_from n es) z)
    ∙ sym (append_assoc (numbered_kind d.kind v d) (numbered_from (v + 1) ds) (numbered_from (v + suc (length ds)) es))

-- the scalars of declarations before have other numbers
no_slot : (ds : List Decl) (n u : ℕ) (b : Option ℕ) → ArePlain ds → n + length ds ≤ u → u < 2 ^ 32 → lookup (numbered_from n ds) (slot u b) ≡ None
no_slot [] n u b plain le lu = refl
no_slot (d ∷ ds) n u b plain le lu =
    behind_none (numbered_kind d.kind n d) (numbered_from (n + 1) ds) (slot u b)
    (kind_other d.kind n d (slot u b) (λ a. slots_apart n u a b (omega arith) lu (λ e. omega arith)) (plain_apart d.name u b lu plain.0))
    ∙ no_slot ds (n + 1) u b plain.1 (omega arith) lu

plain-append : (ds : List Decl) (d : Decl) → ArePlain ds → is_plain d.name ≡ true → ArePlain (ds ++ d ∷ [])
plain-append [] d f h = (h, tt)
plain-append (c ∷ cs) d f h = (f.0, plain-append cs d f.1 h)

new_name : (o : Option Decl) → is_some o ≡ false → o ≡ None
new_name None e = refl
new_name (Some d) e = absurd (let c : true ≡ false = e in cc)

-- a declaration that stays
stays : (prev : List Decl) (d : Decl) → ArePlain prev → is_plain d.name ≡ true → length prev + 1 ≤ 2 ^ 32 → Fine (decl_sites prev (d ∷ [])) → Fine (decl_sites (numbered_from 0 prev) (d ∷ []))
stays prev d plain here few f =
    let n = neither (is_some (lookup prev d.name)) (is_some (builtin_of d.name)) (f.0.0 NameTwice) in
    let none_before : lookup prev d.name ≡ None = new_name (lookup prev d.name) n.0 in
    let still : lookup (numbered_from 0 prev) d.name ≡ None = numbered_other prev 0 d.name here (omega arith) (subst IsOther (sym none_before) tt) ∙ none_before in
    ((decl_site (numbered_from 0 prev) d (ap (λ o. is_some o || is_some (builtin_of d.name)) still ∙ n.1) (f.0.0 KindDiffers) (f.0.0 BadSize), f.0.1), tt)

-- a declaration that stays, or the scalars of one that travels
kind_fine : (prev : List Decl) (d : Decl) → ArePlain prev → is_plain d.name ≡ true → length prev + 1 ≤ 2 ^ 32 → Fine (decl_sites prev (d ∷ []))
    → (k : DeclKind) → d.kind ≡ k → Fine (decl_sites (numbered_from 0 prev) (numbered_kind k (length prev) d))
kind_fine prev d plain here few f Tele e =
    shape_fine (numbered_from 0 prev) d.at (length prev) d.shape (omega arith) (f.0.0 BadSize) (λ b. no_slot prev 0 (length prev) b plain (omega arith) (omega arith))
kind_fine prev d plain here few f Sensor e = stays prev d plain here few f
kind_fine prev d plain here few f Header e = stays prev d plain here few f
kind_fine prev d plain here few f Control e = stays prev d plain here few f

decls_fine : (prev ds : List Decl) → ArePlain prev → ArePlain ds → length prev + length ds ≤ 2 ^ 32 → Fine (decl_sites prev ds) → Fine (decl_sites (numbered_from 0 prev) (numbered_from (length prev) ds))
decls_fine prev [] plain rest few f = tt
decls_fine prev (d ∷ ds) plain rest few f =
    let more : length (prev ++ d ∷ []) ≡ length prev + 1 = omega (arith, length-append prev (d ∷ [])) in
    let behind : numbered_from 0 (prev ++ d ∷ []) ≡ numbered_from 0 prev ++ numbered_kind d.kind (length prev) d =
    numbered-append 0 prev (d ∷ [])
    ∙ (let z : 0 + length prev ≡ length prev = omega arith in ap (λ n. numbered_from 0 prev ++ (numbered_kind d.kind n d ++ [])) z)
    ∙ ap (λ (xs : List Decl). numbered_from 0 prev ++ xs) (append-nil (numbered_kind d.kind (length prev) d)) in
    fine-append (numbered_from 0 prev) (numbered_kind d.kind (length prev) d) (numbered_from (length prev + 1) ds)
    (kind_fine prev d plain rest.0 (omega arith) (f.0, tt) d.kind refl)
    (subst (λ n. Fine (decl_sites (numbered_from 0 prev ++ numbered_kind d.kind (length prev) d) (numbered_from n ds))) more
    (subst (λ (xs : List Decl). Fine (decl_sites xs (numbered_from (length (prev ++ d ∷ [])) ds))) behind
    (decls_fine (prev ++ d ∷ []) ds (plain-append prev d plain rest.0) rest.1 (omega (arith, more)) f.1)))

pub numbered_fine : (ds : List Decl) → ArePlain ds → length ds ≤ 2 ^ 32 → Fine (decl_sites [] ds) → Fine (decl_sites [] (numbered ds))
numbered_fine ds plain few f = decls_fine [] ds tt plain (omega (arith, few)) f
