-- What the declarations of flat code are.
use Rattle.std.proofs.Common.{◌≡◌, ◌⊎◌, inl, inr, ⊎_elim, ℕ, zero, suc, ◌+◌, ◌<◌, ◌≤◌, ◌^◌, List, [], ◌∷◌, ◌++◌, length, Bool, true, false, cond, Option, Some, None, refl, sym, ap, ap₂, ◌∙◌, arith, subst}
use Rattle.std.proofs.lemmas.Bool.{cases_eq}
use Rattle.std.proofs.lemmas.Slice.Eq.{bytes_eq-Decides}
use Rattle.lex_text.specs.Names.{same_text}
use Rattle.indus_tree.specs.Tree.{Shape, one, list, set, dict, Decl}
use Rattle.indus_tree.specs.State.{lookup}
use Rattle.indus_tree.specs.Hops.{variable_number, variable_number_from}
use Rattle.indus_tree.specs.declared.tree.DeclKind.{DeclKind}
use Rattle.indus_tree.specs.declared.tree.DeclKind.TheVariants.{Tele, Sensor, Header, Control}
use Rattle.indus_tree.specs.declared.tree.Ty.{Ty}
use Rattle.indus_tree.specs.declared.tree.Ty.TheVariants as ty
use Rattle.lower_lists.specs.Names.{item_name, count_name, is_plain}
use Rattle.flat_laws.specs.Numbered.{scalar_decl, item_decls, numbered_shape, numbered_kind, numbered_from, numbered, ArePlain}
use Rattle.flat_laws.proofs.NameLemmas.{same_self, not_same, slot, IsNear, slots_apart, places_apart, plain_apart, slot_apart}

-- ---- declarations one behind the other

nothing_at : (b : Bool) (d : Decl) (o : Option Decl) → cond b (Some d) o ≡ None → (b ≡ false) × (o ≡ None)
nothing_at true d o e = absurd (cc e)
nothing_at false d o e = (refl, e)

pub behind_none : (fs bs : List Decl) (x : List ℕ) → lookup fs x ≡ None → lookup (fs ++ bs) x ≡ lookup bs x
behind_none [] bs x e = refl
behind_none (a ∷ fs) bs x e =
    let n = nothing_at (same_text a.name x) a (lookup fs x) e in
    ap (λ b. cond b (Some a) (lookup (fs ++ bs) x)) n.0 ∙ behind_none fs bs x n.1

front_step : (b : Bool) (a d : Decl) (o p : Option Decl) → (o ≡ Some d → p ≡ Some d) → cond b (Some a) o ≡ Some d → cond b (Some a) p ≡ Some d
front_step true a d o p h e = e
front_step false a d o p h e = h e

in_front : (fs bs : List Decl) (x : List ℕ) (d : Decl) → lookup fs x ≡ Some d → lookup (fs ++ bs) x ≡ Some d
in_front [] bs x d e = absurd (cc e)
in_front (a ∷ fs) bs x d e = front_step (same_text a.name x) a d (lookup fs x) (lookup (fs ++ bs) x) (in_front fs bs x d) e

pub alone_other : (d : Decl) (x : List ℕ) → same_text d.name x ≡ false → lookup (d ∷ []) x ≡ None
alone_other d x e = ap (λ b. cond b (Some d) None) e

pub alone : (p : ℕ) (x : List ℕ) (t : Ty) → lookup (scalar_decl p x t ∷ []) x ≡ Some (scalar_decl p x t)
alone p x t = ap (λ b. cond b (Some (scalar_decl p x t)) None) (same_self x)

-- ---- the items of a list

pub items_not : (p v : ℕ) (t : Ty) (n : ℕ) (q : List ℕ) → ((i : ℕ) → i < n → same_text (item_name v i) q ≡ false) → lookup (item_decls p v t n) q ≡ None
items_not p v t zero q h = refl
items_not p v t (suc n) q h =
    behind_none (item_decls p v t n) (scalar_decl p (item_name v n) t ∷ []) q (items_not p v t n q (λ i lt. h i (omega arith)))
    ∙ alone_other (scalar_decl p (item_name v n) t) q (h n (omega arith))

some_inj : (i j : ℕ) → (i ≡ j → ⊥) → (let a : Option ℕ = Some i in a ≡ Some j) → ⊥
some_inj i j ne e = ne (cc e)

items_here : (p v : ℕ) (t : Ty) (n i : ℕ) → v < 2 ^ 32 → n < 2 ^ 32 → i < n → lookup (item_decls p v t n) (item_name v i) ≡ Some (scalar_decl p (item_name v i) t)
items_here p v t zero i lv ln lt = absurd (omega arith)
items_here p v t (suc n) i lv ln lt =
    ⊎_elim
    (λ (e : i ≡ n).
    subst (λ j. lookup (item_decls p v t (suc n)) (item_name v j) ≡ Some (scalar_decl p (item_name v j) t)) (sym e)
    (behind_none (item_decls p v t n) (scalar_decl p (item_name v n) t ∷ []) (item_name v n)
    (items_not p v t n (item_name v n) (λ k less. places_apart v (Some k) (Some n) lv (omega arith) (omega arith) (some_inj k n (λ h. omega arith))))
    ∙ alone p (item_name v n) t))
    (λ (ne : i ≡ n → ⊥).
    let less : i < n = omega (arith, ne) in
    in_front (item_decls p v t n) (scalar_decl p (item_name v n) t ∷ []) (item_name v i) (scalar_decl p (item_name v i) t) (items_here p v t n i lv (omega arith) less))
    (cases_eq i n)

-- ---- the scalars of a variable

pub shape_scalar : (p v : ℕ) (t : Ty) → lookup (numbered_shape p v (one t)) (item_name v 0) ≡ Some (scalar_decl p (item_name v 0) t)
shape_scalar p v t = alone p (item_name v 0) t

pub shape_count : (p v : ℕ) (t : Ty) (n : ℕ) → lookup (numbered_shape p v (list t n)) (count_name v) ≡ Some (scalar_decl p (count_name v) (ty.Bit 8))
shape_count p v t n = ap (λ b. cond b (Some (scalar_decl p (count_name v) (ty.Bit 8))) (lookup (item_decls p v t n) (count_name v))) (same_self (count_name v))

none_some : (i : ℕ) → (let a : Option ℕ = None in a ≡ Some i) → ⊥
none_some i e = cc e

pub shape_item : (p v : ℕ) (t : Ty) (n i : ℕ) → v < 2 ^ 32 → n < 2 ^ 32 → i < n → lookup (numbered_shape p v (list t n)) (item_name v i) ≡ Some (scalar_decl p (item_name v i) t)
shape_item p v t n i lv ln lt =
    ap (λ b. cond b (Some (scalar_decl p (count_name v) (ty.Bit 8))) (lookup (item_decls p v t n) (item_name v i))) (places_apart v None (Some i) lv tt (omega arith) (none_some i))
    ∙ items_here p v t n i lv ln lt

-- of another variable, and of no name that is plain
shape_other : (p v : ℕ) (s : Shape) (q : List ℕ) → ((b : Option ℕ) → same_text (slot v b) q ≡ false) → lookup (numbered_shape p v s) q ≡ None
shape_other p v (one t) q h = alone_other (scalar_decl p (item_name v 0) t) q (h (Some 0))
shape_other p v (list t n) q h =
    ap (λ b. cond b (Some (scalar_decl p (count_name v) (ty.Bit 8))) (lookup (item_decls p v t n) q)) (h None)
    ∙ items_not p v t n q (λ i lt. h (Some i))
shape_other p v (set ks) q h = refl
shape_other p v (dict ks t) q h = refl

pub kind_other : (k : DeclKind) (v : ℕ) (d : Decl) (q : List ℕ) → ((b : Option ℕ) → same_text (slot v b) q ≡ false) → same_text d.name q ≡ false → lookup (numbered_kind k v d) q ≡ None
kind_other Tele v d q h n = shape_other d.at v d.shape q h
kind_other Sensor v d q h n = alone_other d q n
kind_other Header v d q h n = alone_other d q n
kind_other Control v d q h n = alone_other d q n

-- ---- all declarations

record IsStep (x : List ℕ) (d : Decl) (v : ℕ) (c : Decl) (cs : List Decl) (n : ℕ) : Type 0 where
  later : (same_text c.name x ≡ false) × (lookup cs x ≡ Some d) × (variable_number_from (n + 1) cs x ≡ Some v)

step_at : (b : Bool) (x : List ℕ) (d : Decl) (v : ℕ) (c : Decl) (cs : List Decl) (n : ℕ) → same_text c.name x ≡ b
    → cond b (Some c) (lookup cs x) ≡ Some d → cond b (Some n) (variable_number_from (n + 1) cs x) ≡ Some v
    → ((c ≡ d) × (n ≡ v)) ⊎ IsStep x d v c cs n
step_at true x d v c cs n t e k = inl (cc, cc)
step_at false x d v c cs n t e k = inr (record { later = (t, e, k) })

pub number_bounds : (ds : List Decl) (n : ℕ) (x : List ℕ) (v : ℕ) → variable_number_from n ds x ≡ Some v → (n ≤ v) × (v < n + length ds)
number_bounds [] n x v e = absurd (cc e)
number_bounds (c ∷ cs) n x v e = at_first (same_text c.name x) e (number_bounds cs (n + 1) x v)
  where
    at_first : (b : Bool) → cond b (Some n) (variable_number_from (n + 1) cs x) ≡ Some v → (variable_number_from (n + 1) cs x ≡ Some v → (n + 1 ≤ v) × (v < n + 1 + length cs)) → (n ≤ v) × (v < n + (suc (length cs)))
    at_first true q h = let same : n ≡ v = cc in (omega arith, omega arith)
    at_first false q h = let r = h q in (omega (arith, r.0), omega (arith, r.1))

pub numbered_at : (ds : List Decl) (n : ℕ) (x : List ℕ) (d : Decl) (v : ℕ) → ArePlain ds → n + length ds ≤ 2 ^ 32 → lookup ds x ≡ Some d → variable_number_from n ds x ≡ Some v → d.kind ≡ Tele
    → (b : Option ℕ) (r : Decl) → lookup (numbered_shape d.at v d.shape) (slot v b) ≡ Some r → lookup (numbered_from n ds) (slot v b) ≡ Some r
numbered_at [] n x d v plain few e k tele b r h = absurd (cc e)
numbered_at (c ∷ cs) n x d v plain few e k tele b r h =
    ⊎_elim
    (λ (i : (c ≡ d) × (n ≡ v)).
    let here : lookup (numbered_kind c.kind n c) (slot v b) ≡ Some r =
    ap (λ (m : ℕ). lookup (numbered_kind c.kind m c) (slot v b)) i.1
    ∙ ap (λ (a : Decl). lookup (numbered_kind a.kind v a) (slot v b)) i.0
    ∙ ap (λ (a : DeclKind). lookup (numbered_kind a v d) (slot v b)) tele
    ∙ h in
    in_front (numbered_kind c.kind n c) (numbered_from (n + 1) cs) (slot v b) r here)
    (λ (i : IsStep x d v c cs n).
    let bounds = number_bounds cs (n + 1) x v i.later.2 in
    behind_none (numbered_kind c.kind n c) (numbered_from (n + 1) cs) (slot v b)
    (kind_other c.kind n c (slot v b)
    (λ a. slots_apart n v a b (omega arith) (omega (arith, bounds.1)) (λ q. omega (arith, bounds.0)))
    (plain_apart c.name v b (omega (arith, bounds.1)) plain.0))
    ∙ numbered_at cs (n + 1) x d v plain.1 (omega arith) i.later.1 i.later.2 tele b r h)
    (step_at (same_text c.name x) x d v c cs n refl e k)

-- a name that stands for no variable of the packet's
abbrev pub IsOther : Option Decl → Type 0
IsOther None = Unit {0}
IsOther (Some d) = d.kind ≡ Tele → ⊥

kind_alone : (k : DeclKind) (v : ℕ) (d : Decl) (q : List ℕ) → (k ≡ Tele → ⊥) → same_text d.name q ≡ true → lookup (numbered_kind k v d) q ≡ Some d
kind_alone Tele v d q ne t = absurd (ne refl)
kind_alone Sensor v d q ne t = ap (λ b. cond b (Some d) None) t
kind_alone Header v d q ne t = ap (λ b. cond b (Some d) None) t
kind_alone Control v d q ne t = ap (λ b. cond b (Some d) None) t

pub numbered_other : (ds : List Decl) (n : ℕ) (x : List ℕ) → is_plain x ≡ true → n + length ds ≤ 2 ^ 32 → IsOther (lookup ds x) → lookup (numbered_from n ds) x ≡ lookup ds x
numbered_other [] n x plain few o = refl
numbered_other (c ∷ cs) n x plain few o = by_name (same_text c.name x) refl o (numbered_other cs (n + 1) x plain (omega arith))
  where
    by_name : (b : Bool) → same_text c.name x ≡ b → IsOther (cond b (Some c) (lookup cs x)) → (IsOther (lookup cs x) → lookup (numbered_from (n + 1) cs) x ≡ lookup cs x) → lookup (numbered_kind c.kind n c ++ numbered_from (n + 1) cs) x ≡ cond b (Some c) (lookup cs x)
    by_name true t i h = in_front (numbered_kind c.kind n c) (numbered_from (n + 1) cs) x c (kind_alone c.kind n c x i t)
    by_name false t i h =
        behind_none (numbered_kind c.kind n c) (numbered_from (n + 1) cs) x (kind_other c.kind n c x (λ b. slot_apart x n b (omega arith) plain) t) ∙ h i
