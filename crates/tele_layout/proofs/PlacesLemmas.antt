-- The slots of declarations, one behind the other.
use Rattle.std.proofs.Common.{◌≡◌, ℕ, zero, suc, ◌+◌, ◌*◌, ◌<◌, ◌≤◌, List, [], ◌∷◌, ◌++◌, Bool, true, false, cond, ◌||◌, length, drop, map, get_or, refl, sym, ap, ap₂, ◌∙◌, arith, subst, append_assoc, drop-cons}
use Rattle.std.specs.Prelude.{nat_eq, nat_lt}
use Rattle.std.proofs.lemmas.Bool.{ltb-false}
use Rattle.indus_tree.specs.Tree.{Shape, one, list, set, dict, Decl, Property}
use Rattle.indus_tree.specs.State.{shape_width, shape_size, width_of}
use Rattle.indus_tree.specs.View.{decl_of}
use Rattle.indus_tree.specs.Hops.{same_kind}
use Rattle.indus_tree.specs.declared.tree.Decl as code
use Rattle.indus_tree.specs.declared.tree.Ty.{Ty}
use Rattle.indus_tree.specs.declared.tree.Ty.TheVariants as ty
use Rattle.indus_tree.specs.declared.tree.DeclKind.{DeclKind}
use Rattle.indus_tree.specs.declared.tree.DeclKind.TheVariants.{Tele, Sensor, Header, Control}
use Rattle.indus_rules.specs.Sites.{decl_sites}
use Rattle.indus_rules.specs.Rules.{Fine, IsWellTyped, bad_width, bad_shape, misshapen, ill_started, ill_headed}
use Rattle.indus_rules.specs.declared.rule.Rule.TheVariants.{KindDiffers, BadSize}
use Rattle.indus_types.specs.Sums.{shape_bits, decl_bits, decls_bits}
use Rattle.indus_types.specs.StaticWidths.{IsWidth}
use Rattle.indus_types.proofs.Checked.{each_fine}
use Rattle.indus_types.proofs.Widths.{neither}
use Rattle.indus_types.proofs.SoundSights.{good_bits, one_bit}
use Rattle.tele_layout.specs.Telemetry.{whole_bytes}
use Rattle.tele_layout.specs.TeleDecls.{IsSize, IsTeleShape, IsTeleDecl, AreTele}
use Rattle.tele_layout.specs.Layouts.{slot_length, slots_length, slot_of, slots_of, IsSlot, ArePlaced, IsLayout, IsLayoutOf}
use Rattle.tele_layout.specs.declared.slots.Slot.{Slot}
use Rattle.tele_layout.specs.declared.slots.Layout.{Layout}
use Rattle.tele_layout.proofs.WritingLemmas.{is_more}

-- ---- declarations of a well-typed property

fine_width : (t : Ty) → bad_width t ≡ false → IsWidth (width_of t)
fine_width (ty.Bit w) h = good_bits w h
fine_width ty.Bool h = one_bit

fine_size : (n : ℕ) → nat_eq n 0 ≡ false → nat_lt 255 n ≡ false → IsSize n
fine_size zero e h = absurd (let c : true ≡ false = e in cc)
fine_size (suc n) e h = let most : suc n ≤ 255 = ltb-false 255 (suc n) h in record { least = omega arith; most = most }

fine_shape : (k : DeclKind) (s : Shape) → misshapen k s ≡ false → bad_shape s ≡ false → IsTeleDecl k s
fine_shape Tele (one t) m h = fine_width t h
fine_shape Tele (list t n) m h =
    let a = neither (bad_width t || nat_eq n 0) (nat_lt 255 n) h in
    let b = neither (bad_width t) (nat_eq n 0) a.0 in
    (fine_width t b.0, fine_size n b.1 a.1)
fine_shape Tele (set ks) m h = absurd (let c : true ≡ false = m in cc)
fine_shape Tele (dict ks t) m h = absurd (let c : true ≡ false = m in cc)
fine_shape Sensor s m h = tt
fine_shape Header s m h = tt
fine_shape Control s m h = tt

fine_tele : (before ds : List Decl) → Fine (decl_sites before ds) → AreTele ds
fine_tele before [] f = tt
fine_tele before (d ∷ ds) f =
    let m = neither (misshapen d.kind d.shape) (ill_started d.kind d.start) (neither (misshapen d.kind d.shape || ill_started d.kind d.start) (ill_headed d.kind d.shape d.path d.valid) (f.0.0 KindDiffers)).0 in
    (fine_shape d.kind d.shape m.0 (f.0.0 BadSize), fine_tele (before ++ d ∷ []) ds f.1)

pub typed_tele : (p : Property) → IsWellTyped p → AreTele p.decls
typed_tele p h = fine_tele [] p.decls (each_fine p h).1.0

-- ---- their slots

-- a variable takes as many bits as are reckoned
pub shape_takes : (s : Shape) → IsTeleShape s → slot_length (shape_width s) (shape_size s) ≡ shape_bits s
shape_takes (one t) h = refl
shape_takes (list t n) h =
    let size : IsSize n = h.1 in
    let some : n ≡ 0 → ⊥ = λ e. absurd (omega (arith, size.least)) in
    ap (λ b. cond b (width_of t) (8 + n * width_of t)) (is_more n some) ∙ (let e : 8 + n * width_of t ≡ n * width_of t + 8 = omega arith in e)
shape_takes (set ks) h = absurd h
shape_takes (dict ks t) h = absurd h

shape_placed : (number at : ℕ) (s : Shape) → IsTeleShape s → IsSlot at (slot_of number at s)
shape_placed number at (one t) h = record { begins = refl; wide = h.least; narrow = h.most; small = omega arith }
shape_placed number at (list t n) h = record { begins = refl; wide = h.0.least; narrow = h.0.most; small = h.1.most }
shape_placed number at (set ks) h = absurd h
shape_placed number at (dict ks t) h = absurd h

-- what is declared, by its kind
takes_at : (k : DeclKind) (s : Shape) (rest here : ℕ) → IsTeleDecl k s → rest ≡ here
    → cond (same_kind Tele k) (slot_length (shape_width s) (shape_size s) + rest) rest ≡ decl_bits k s + here
takes_at Tele s rest here h e = ap₂ (λ a b. a + b) (shape_takes s h) e
takes_at Sensor s rest here h e = omega arith
takes_at Header s rest here h e = omega arith
takes_at Control s rest here h e = omega arith

length_if : (b : Bool) (s : Slot) (ss ts : List Slot) → slots_length (cond b (s ∷ ss) ts) ≡ cond b (slot_length s.width s.count + slots_length ss) (slots_length ts)
length_if true s ss ts = refl
length_if false s ss ts = refl

same_if : (b : Bool) (n m k : ℕ) → m ≡ k → cond b (n + m) k ≡ cond b (n + k) k
same_if true n m k e = ap (λ j. n + j) e
same_if false n m k e = refl

pub length-slots_of : (number at : ℕ) (ds : List Decl) → AreTele ds → slots_length (slots_of number at ds) ≡ decls_bits ds
length-slots_of number at [] h = refl
length-slots_of number at (d ∷ ds) h =
    let size : ℕ = slot_length (shape_width d.shape) (shape_size d.shape) in
    length_if (same_kind Tele d.kind) (slot_of number at d.shape) (slots_of (number + 1) (at + size) ds) (slots_of (number + 1) at ds)
    ∙ ap₂ (λ a b. cond (same_kind Tele d.kind) (size + a) b) (length-slots_of (number + 1) (at + size) ds h.1) (length-slots_of (number + 1) at ds h.1)
    ∙ takes_at d.kind d.shape (decls_bits ds) (decls_bits ds) h.0 refl

placed_at : (k : DeclKind) (s : Shape) (number at : ℕ) (ss ts : List Slot) → IsTeleDecl k s → ArePlaced (at + slot_length (shape_width s) (shape_size s)) ss → ArePlaced at ts
    → ArePlaced at (cond (same_kind Tele k) (slot_of number at s ∷ ss) ts)
placed_at Tele s number at ss ts h a b = (shape_placed number at s h, a)
placed_at Sensor s number at ss ts h a b = b
placed_at Header s number at ss ts h a b = b
placed_at Control s number at ss ts h a b = b

pub placed : (number at : ℕ) (ds : List Decl) → AreTele ds → ArePlaced at (slots_of number at ds)
placed number at [] h = tt
placed number at (d ∷ ds) h =
    let size : ℕ = slot_length (shape_width d.shape) (shape_size d.shape) in
    placed_at d.kind d.shape number at (slots_of (number + 1) (at + size) ds) (slots_of (number + 1) at ds) h.0 (placed (number + 1) (at + size) ds h.1) (placed (number + 1) at ds h.1)

pub is_layout : (p : Property) (l : Layout) → IsWellTyped p → IsLayoutOf p l → IsLayout l
is_layout p l typed is =
    let tele = typed_tele p typed in
    let P : List Slot → Type 0 = ArePlaced 8 in
    let size : slots_length l.slots.items ≡ decls_bits p.decls = ap slots_length is.slots ∙ length-slots_of 0 8 p.decls tele in
    record {
      placed = subst P (sym is.slots) (placed 0 8 p.decls tele);
      whole = is.bytes ∙ (let e : decls_bits p.decls + 8 ≡ 8 + slots_length l.slots.items = omega arith in ap whole_bytes e);
    }

-- ---- the loop

-- declarations are being placed: those that are left
pub record Placing (ds : List Decl) (slots : List Slot) (number at : ℕ) (left : List Decl) : Type 0 where
  pub laid : slots ++ slots_of number at left ≡ slots_of 0 8 ds
  pub room : at + decls_bits left ≡ 8 + decls_bits ds
  pub tele : AreTele left

-- a declaration that is no variable of the packet
pub place_other : (ds : List Decl) (slots : List Slot) (number at : ℕ) (d : Decl) (left : List Decl) → same_kind Tele d.kind ≡ false → decl_bits d.kind d.shape ≡ 0
    → Placing ds slots number at (d ∷ left) → Placing ds slots (number + 1) at left
place_other ds slots number at d left other none p =
    let size : ℕ = slot_length (shape_width d.shape) (shape_size d.shape) in
    let room : at + (decl_bits d.kind d.shape + decls_bits left) ≡ 8 + decls_bits ds = p.room in
    record {
      laid = ap (λ b. slots ++ cond b (slot_of number at d.shape ∷ slots_of (number + 1) (at + size) left) (slots_of (number + 1) at left)) (sym other) ∙ p.laid;
      room = omega arith;
      tele = p.tele.1;
    }

-- one that is, and its size
pub place_tele : (ds : List Decl) (slots new : List Slot) (number at after : ℕ) (d : Decl) (left : List Decl) → d.kind ≡ Tele → new ≡ slots ++ slot_of number at d.shape ∷ []
    → after ≡ at + slot_length (shape_width d.shape) (shape_size d.shape) → Placing ds slots number at (d ∷ left) → Placing ds new (number + 1) after left
place_tele ds slots new number at after d left kind pushed ends p =
    let size : ℕ = slot_length (shape_width d.shape) (shape_size d.shape) in
    let P : DeclKind → Type 0 = λ k. IsTeleDecl k d.shape in
    let tele : IsTeleShape d.shape = subst P kind p.tele.0 in
    let takes : size ≡ shape_bits d.shape = shape_takes d.shape tele in
    let bits : decl_bits d.kind d.shape ≡ shape_bits d.shape = ap (λ k. decl_bits k d.shape) kind in
    let room : at + (decl_bits d.kind d.shape + decls_bits left) ≡ 8 + decls_bits ds = p.room in
    record {
      laid =
          ap (λ (l : List Slot). l ++ slots_of (number + 1) after left) pushed
          ∙ append_assoc slots (slot_of number at d.shape ∷ []) (slots_of (number + 1) after left)
          ∙ ap (λ n. slots ++ slot_of number at d.shape ∷ slots_of (number + 1) n left) ends
          ∙ ap (λ k. slots ++ cond (same_kind Tele k) (slot_of number at d.shape ∷ slots_of (number + 1) (at + size) left) (slots_of (number + 1) at left)) (sym kind)
          ∙ p.laid;
      room = omega arith;
      tele = p.tele.1;
    }

-- where the next variable ends
pub place_ends : (ds : List Decl) (slots : List Slot) (number at : ℕ) (d : Decl) (left : List Decl) → d.kind ≡ Tele → Placing ds slots number at (d ∷ left)
    → at + slot_length (shape_width d.shape) (shape_size d.shape) ≤ 8 + decls_bits ds
place_ends ds slots number at d left kind p =
    let P : DeclKind → Type 0 = λ k. IsTeleDecl k d.shape in
    let takes : slot_length (shape_width d.shape) (shape_size d.shape) ≡ shape_bits d.shape = shape_takes d.shape (subst P kind p.tele.0) in
    let bits : decl_bits d.kind d.shape ≡ shape_bits d.shape = ap (λ k. decl_bits k d.shape) kind in
    let room : at + (decl_bits d.kind d.shape + decls_bits left) ≡ 8 + decls_bits ds = p.room in
    omega arith

-- the next declaration
pub left_decl : (ds : List code.Decl) (i : ℕ) (d : code.Decl) → i < length ds → d ≡ get_or ds i d → map decl_of (drop i ds) ≡ decl_of d ∷ map decl_of (drop (i + 1) ds)
left_decl ds i d lt is =
    let one : suc i ≡ i + 1 = omega arith in
    ap (map decl_of) (drop-cons ds i d lt ∙ ap₂ (λ y n. y ∷ drop n ds) (sym is) one)
