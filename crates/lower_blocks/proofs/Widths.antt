-- The bits of the telemetry, counted over numbered scalars and over variables.
use Rattle.std.proofs.Common.{◌≡◌, ℕ, zero, suc, ◌+◌, ◌*◌, ◌/◌, List, [], ◌∷◌, ◌++◌, refl, sym, ap, ap₂, ◌∙◌, arith}
use Rattle.std.proofs.Math.Nat.{suc-mul}
use Rattle.p4_meaning.specs.Parsing.{Field, width_sum}
use Rattle.indus_tree.specs.Tree.{Shape, one, list, set, dict, Decl, Property}
use Rattle.indus_tree.specs.State.{width_of}
use Rattle.indus_tree.specs.declared.tree.DeclKind.{DeclKind}
use Rattle.indus_tree.specs.declared.tree.DeclKind.TheVariants.{Tele, Sensor, Header, Control}
use Rattle.indus_tree.specs.declared.tree.Ty.{Ty}
use Rattle.indus_types.specs.Sums.{shape_bits, decl_bits, decls_bits, property_bits}
use Rattle.tele_layout.specs.Telemetry.{whole_bytes}
use Rattle.lower_lists.specs.Names.{item_name}
use Rattle.flat_laws.specs.Numbered.{scalar_decl, item_decls, numbered_shape, numbered_kind, numbered_from, numbered}
use Rattle.whole_properties.specs.Whole.{tele_field, tele_fields, tele_room}

abbrev wide : List Decl → ℕ
wide ds = width_sum (tele_fields ds)

sum_both : (fs gs : List Field) → width_sum (fs ++ gs) ≡ width_sum fs + width_sum gs
sum_both [] gs = omega arith
sum_both (f ∷ fs) gs = let h = sum_both fs gs in omega arith

wide_both : (ds es : List Decl) → wide (ds ++ es) ≡ wide ds + wide es
wide_both [] es = omega arith
wide_both (d ∷ ds) es =
    let h = wide_both ds es in
    let a = sum_both (tele_field d.kind d) (tele_fields (ds ++ es)) in
    let b = sum_both (tele_field d.kind d) (tele_fields ds) in
    omega arith

items_wide : (p v : ℕ) (t : Ty) (n : ℕ) → wide (item_decls p v t n) ≡ n * width_of t
items_wide p v t zero = omega arith
items_wide p v t (suc i) =
    let h = items_wide p v t i in
    let a = wide_both (item_decls p v t i) (scalar_decl p (item_name v i) t ∷ []) in
    let b : suc i * width_of t ≡ i * width_of t + width_of t = suc-mul i (width_of t) in
    a ∙ (let e : wide (item_decls p v t i) + (width_of t + 0) ≡ suc i * width_of t = omega (arith, h, b) in e)

shape_wide : (p v : ℕ) (s : Shape) → wide (numbered_shape p v s) ≡ shape_bits s
shape_wide p v (one t) = omega arith
shape_wide p v (list t n) = let h = items_wide p v t n in omega arith
shape_wide p v (set ks) = refl
shape_wide p v (dict ks t) = refl

own_field : (k : DeclKind) (d : Decl) → d.kind ≡ k → wide (d ∷ []) ≡ width_sum (tele_field k d ++ [])
own_field k d is = ap (λ j. width_sum (tele_field j d ++ [])) is

kind_wide : (k : DeclKind) (v : ℕ) (d : Decl) → d.kind ≡ k → wide (numbered_kind k v d) ≡ decl_bits k d.shape
kind_wide Tele v d is = shape_wide d.at v d.shape
kind_wide Sensor v d is = own_field Sensor d is
kind_wide Header v d is = own_field Header d is
kind_wide Control v d is = own_field Control d is

numbered_wide : (v : ℕ) (ds : List Decl) → wide (numbered_from v ds) ≡ decls_bits ds
numbered_wide v [] = refl
numbered_wide v (d ∷ ds) = wide_both (numbered_kind d.kind v d) (numbered_from (v + 1) ds) ∙ ap₂ (λ (m n : ℕ). m + n) (kind_wide d.kind v d refl) (numbered_wide (v + 1) ds)

-- a layout has the bytes that the fields fill
pub bytes_are : (p : Property) → whole_bytes (property_bits p) ≡ tele_room (tele_fields (numbered p.decls))
bytes_are p = ap (λ (n : ℕ). (n + 7) / 8) (let h = numbered_wide 0 p.decls in let e : decls_bits p.decls + 8 ≡ 8 + wide (numbered_from 0 p.decls) = omega arith in e)
