-- The bits of the telemetry's header, and the cells of the registers.
use Rattle.std.proofs.Common.{◌≡◌, codes, ℕ, zero, suc, ◌+◌, ◌*◌, ◌≤◌, List, [], ◌∷◌, ◌++◌, map, false, refl, sym, ap, ◌∙◌, arith}
use Rattle.std.specs.Prelude.{min}
use Rattle.std.proofs.Math.Nat.{suc-mul}
use Rattle.indus_tree.specs.Tree.{Shape, one, list, set, dict, Decl}
use Rattle.indus_tree.specs.State.{width_of}
use Rattle.indus_tree.specs.declared.tree.DeclKind.{DeclKind}
use Rattle.indus_tree.specs.declared.tree.DeclKind.TheVariants.{Tele, Sensor, Header, Control}
use Rattle.indus_tree.specs.declared.tree.Ty.{Ty}
use Rattle.indus_types.specs.Sums.{shape_bits, decl_bits, decls_bits, cells_in, sensor_cells}
use Rattle.flat_laws.specs.Numbered.{item_decls, numbered_shape, numbered_kind, numbered_from}
use Rattle.p4_meaning.specs.Parsing.{Field, width_sum}
use Rattle.p4_scopes.specs.Scopes.{Scope, Stands, typed, core, declare, fields_bits, add_up}
use Rattle.p4_scopes.specs.Scopes as scope
use Rattle.p4_scopes.specs.declared.thing.Thing.TheVariants as thing
use Rattle.p4_tree.specs.declared.statement.PTy.TheVariants as type
use Rattle.p4_rules.specs.Limits.{tops_cells}
use Rattle.monitor_laws.specs.Telemetry.{mark_field}
use Rattle.monitor_laws.specs.Names.{rejects_register}
use Rattle.sensor_registers.specs.Registers.{cell_count}
use Rattle.whole_properties.specs.Whole.{tele_field, tele_fields, fields as monitor_fields}
use Rattle.whole_properties.proofs.TelemetryFields.{fields_of_both}
use Rattle.whole_properties.proofs.MonitorLaws.{laws}
use Rattle.lower_blocks.specs.Trees.{field_tree, register_tops, registers_of}
use Rattle.monitor_rules.specs.Counted.{TreesAreCounted}
use Rattle.monitor_rules.proofs.PassRules.{front_is, at_tele}

-- ---- cells

kind_cells : (k : DeclKind) (d : Decl) (n m : ℕ) (ds : List Decl) → tops_cells (registers_of ds) ≤ m → tops_cells (register_tops k d ++ registers_of ds) ≤ cells_in k d.shape + m
kind_cells Tele d n m ds h = omega (arith, h)
kind_cells Header d n m ds h = omega (arith, h)
kind_cells Control d n m ds h = omega (arith, h)
kind_cells Sensor d n m ds h = go d.shape
  where
    go : (s : Shape) → min (cell_count s + tops_cells (registers_of ds)) 18446744073709551615 ≤ cells_in Sensor s + m
    go (one t) = omega (arith, h)
    go (list t k) = omega (arith, h)
    go (set ks) = omega (arith, h)
    go (dict ks t) = omega (arith, h)

registers_cells : (ds : List Decl) → tops_cells (registers_of ds) ≤ sensor_cells ds
registers_cells [] = omega arith
registers_cells (d ∷ ds) = kind_cells d.kind d 0 (sensor_cells ds) ds (registers_cells ds)

-- ---- bits

sum_both : (fs gs : List Field) → width_sum (fs ++ gs) ≡ width_sum fs + width_sum gs
sum_both [] gs = omega arith
sum_both (f ∷ fs) gs = let r = sum_both fs gs in omega (arith, r)

abbrev Bits : List Decl → ℕ
Bits ds = width_sum (tele_fields ds)

bits_both : (a b : List Decl) → Bits (a ++ b) ≡ Bits a + Bits b
bits_both a b = ap width_sum (fields_of_both a b) ∙ sum_both (tele_fields a) (tele_fields b)

item_bits : (p v : ℕ) (t : Ty) (n : ℕ) → Bits (item_decls p v t n) ≡ n * width_of t
item_bits p v t zero = omega arith
item_bits p v t (suc i) = (let r = item_bits p v t i in let b = bits_both (item_decls p v t i) _ in let m : suc i * width_of t ≡ i * width_of t + width_of t = suc-mul i (width_of t) in b ∙ (let z : Bits (item_decls p v t i) + (width_of t + 0) ≡ suc i * width_of t = omega (arith, r, m) in z))

shape_sum : (p v : ℕ) (s : Shape) → Bits (numbered_shape p v s) ≡ shape_bits s
shape_sum p v (one t) = omega arith
shape_sum p v (list t n) = (let r = item_bits p v t n in omega (arith, r))
shape_sum p v (set ks) = refl
shape_sum p v (dict ks t) = refl

kind_sum : (k : DeclKind) (v : ℕ) (d : Decl) → d.kind ≡ k → Bits (numbered_kind k v d) ≡ decl_bits k d.shape
kind_sum Tele v d e = shape_sum d.at v d.shape
kind_sum Sensor v d e = ap (λ k. width_sum (tele_field k d ++ [])) e
kind_sum Header v d e = ap (λ k. width_sum (tele_field k d ++ [])) e
kind_sum Control v d e = ap (λ k. width_sum (tele_field k d ++ [])) e

pub numbered_sum : (ds : List Decl) (n : ℕ) → Bits (numbered_from n ds) ≡ decls_bits ds
numbered_sum [] n = refl
numbered_sum (d ∷ ds) n =
    let a = bits_both (numbered_kind d.kind n d) (numbered_from (n + 1) ds) in
    let b = kind_sum d.kind n d refl in
    let c = numbered_sum ds (n + 1) in
    omega (arith, a, b, c)

header_low : (s : Scope) (fs : List Field) → fields_bits s (map field_tree fs) ≤ width_sum fs
header_low s [] = omega arith
header_low s (f ∷ fs) = (let h = header_low s fs in omega (arith, h))

-- ---- a property

bits_of : (a b : ℕ) → typed false (thing.Header a) ≡ typed false (thing.Header b) → a ≡ b
bits_of a b e = cc

pub counted : TreesAreCounted
counted g i S H M r q p =
    let T = declare core rejects_register (scope.register (type.Bit 32)) in
    let fs = mark_field ∷ monitor_fields g in
    let same : fields_bits T (map field_tree fs) ≡ p.bits =
    bits_of (fields_bits T (map field_tree fs)) p.bits (sym (ap (λ (u : Scope). u (codes "hydra_tele_t" ∷ [])) (front_is g i r q 0) ∙ at_tele g i []) ∙ p.tele_type 0) in
    let low = header_low T fs in
    let whole = (laws g i).whole in
    let sum = numbered_sum g.property.decls 0 in
    let cells = registers_cells g.property.decls in
    record { bytes = omega (arith, same, low, whole, sum); cells = omega (arith, cells) }
