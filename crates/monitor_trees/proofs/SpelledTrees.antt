-- All trees of a property can be spelled.
use Rattle.std.proofs.Common.{◌≡◌, inl, ℕ, zero, suc, ◌+◌, ◌-◌, ◌*◌, ◌<◌, ◌≤◌, ◌^◌, List, [], ◌∷◌, ◌++◌, length, map, Bool, true, false, ◌||◌, cond, nat_eq, nat_lt, Option, Some, None, refl, sym, ◌∙◌, subst, arith}
use Rattle.std.specs.List.{AllByRecursion}
use Rattle.std.proofs.lemmas.Bool.{ltb-false}
use Rattle.std.proofs.Math.Pow.{pow_mono}
use Rattle.bit_values.proofs.BitsLemmas.{cast-lt}
use Rattle.bit_values.specs.Bits.{cast}
use Rattle.bit_values.specs.Widths.{bit, sound_width}
use Rattle.indus_tree.specs.Start.{start_word}
use Rattle.indus_tree.specs.Tree as indus
use Rattle.indus_tree.specs.Tree.{Shape, one, list, set, dict, Decl}
use Rattle.indus_tree.specs.State.{lookup, shape_width, width_of}
use Rattle.indus_tree.specs.declared.tree.DeclKind.{DeclKind}
use Rattle.indus_tree.specs.declared.tree.DeclKind.TheVariants.{Tele, Sensor, Header, Control}
use Rattle.indus_tree.specs.declared.tree.Ty.{Ty}
use Rattle.indus_tree.specs.declared.tree.Ty.TheVariants as ty
use Rattle.indus_scopes.specs.declared.scope.Block.TheVariants as block
use Rattle.indus_rules.specs.Sites.{sight}
use Rattle.indus_rules.specs.Rules.{IsWellTyped, misshapen, bad_width, bad_widths, bad_shape}
use Rattle.indus_types.proofs.Widths.{neither}
use Rattle.indus_types.proofs.Checked.{each_fine}
use Rattle.indus_types.proofs.SoundSights.{good_bits}
use Rattle.flat_laws.specs.Typing.{flat_property}
use Rattle.flat_laws.proofs.FormLemmas.{flat_code_is_flat}
use Rattle.flat_laws.proofs.FineProperty.{flat_code_is_well_typed}
use Rattle.p4_meaning.proofs.Words.{sound_narrow}
use Rattle.p4_meaning.specs.Parsing.{Field, width_sum}
use Rattle.p4_meaning.specs.Scope.{Roots}
use Rattle.p4_tree.specs.Tree as p4
use Rattle.p4_tree.specs.Tree.{Stmts, done, next, and_then, Local, Top}
use Rattle.p4_printer.specs.CanSpell.{IsName, EachCan, CanSpellExpr, CanSpellStmts, CanSpellType, CanSpellField, CanSpellKey, CanSpellLocal, CanSpellTop}
use Rattle.monitor_laws.specs.Telemetry.{mark_field}
use Rattle.monitor_laws.specs.Monitor.{flag_locals}
use Rattle.linked_programs.specs.Spells.{AreNames, SpellsLowered}
use Rattle.sensor_registers.specs.Registers.{cell_type, cells_type, cell_count}
use Rattle.control_tables.specs.Tables.{keys_from, action_of, table_of}
use Rattle.lookup_names.specs.Names as plain
use Rattle.lookup_names.specs.Keys.{key_types}
use Rattle.lowered_code.specs.Environment.{in_control, view_of}
use Rattle.lowered_code.specs.Expressions.{value_type, bits_type}
use Rattle.lowered_code.specs.Reads.{start_of}
use Rattle.lowered_code.specs.Statements.{Var, key_vars, kept_types, read_vars, vars_in, lookups_in, control_kind, read_lookups, block_end, block_numbers, block_vars, block_lookups, block_code}
use Rattle.lowered_code.proofs.Rising.{AreRising, IsDeclared, rising_up, block_read, block_rises}
use Rattle.whole_properties.specs.Whole.{Given, view_in, views_in, tele_field, tele_fields, fill_field, fill_fields, tele_room, decls, init, tele, check, tele_first, check_first, fields}
use Rattle.whole_properties.specs.Asked.{IsGiven}
use Rattle.whole_properties.proofs.Once.{found_all, name_found, each_found}
use Rattle.whole_properties.proofs.Declarations.{once as once_in, shapely, tele_of, sound_widths}
use Rattle.whole_properties.proofs.Facts.{sound, kept_header}
use Rattle.whole_properties.proofs.FlatForms.{block_numbered, block_below}
use Rattle.whole_properties.proofs.Few.{numbers_are_few}
use Rattle.whole_properties.proofs.Lists.{all_weaker}
use Rattle.lower_blocks.specs.Trees.{field_tree, register_tops, registers_of, var_tree, action_tree, table_tree, locals_for, checks_of}
use Rattle.monitor_trees.specs.Spelled.{HasWords}
use Rattle.monitor_trees.specs.Trees.{trees_of}
use Rattle.monitor_trees.proofs.Words.{IsWord, numbered_words, tele_named, sensor_named, table_named, action_named, found_named, key_named, value_named}
use Rattle.monitor_trees.proofs.Spelled.{AreDecls, view_named, block_can}

-- ---- fields and registers

fields_can : (fs : List Field) → AllByRecursion (λ (f : Field). (f.width ≤ 128) × IsName f.name) fs → EachCan CanSpellField (map field_tree fs)
fields_can [] h = tt
fields_can (f ∷ fs) h = ((let w = h.0.0 in omega (arith, w), h.0.1), fields_can fs h.1)

abbrev CanField : List Field → Type 0
CanField fs = AllByRecursion (λ (f : Field). (f.width ≤ 128) × IsName f.name) fs

tele_can : (ds : List Decl) → AllByRecursion (λ d. (shape_width d.shape ≤ 128) × IsWord d.name) ds → CanField (tele_fields ds)
tele_can [] h = tt
tele_can (d ∷ ds) h = go d.kind (tele_can ds h.1)
  where
    go : (k : DeclKind) → CanField (tele_fields ds) → CanField (tele_field k d ++ tele_fields ds)
    go Tele r = ((h.0.0, tele_named d.name h.0.1), r)
    go Sensor r = r
    go Header r = r
    go Control r = r

fill_can : (w : ℕ) → w ≤ 128 → CanField (fill_field w)
fill_can zero h = tt
fill_can (suc w) h = ((h, (refl, refl)), tt)

both_can : (a b : List Field) → CanField a → CanField b → CanField (a ++ b)
both_can [] b h k = k
both_can (f ∷ a) b h k = (h.0, both_can a b h.1 k)

cell_can : (t : Ty) → width_of t ≤ 128 → CanSpellType (cell_type t)
cell_can (ty.Bit w) h = omega (arith, h)
cell_can ty.Bool h = omega arith

cells_can : (s : Shape) → misshapen Sensor s ≡ false → shape_width s ≤ 128 → CanSpellType (cells_type s)
cells_can (one t) m h = cell_can t h
cells_can (list t n) m h = cell_can t h
cells_can (set ks) m h = absurd (cc m)
cells_can (dict ks t) m h = absurd (cc m)

count_can : (s : Shape) → bad_shape s ≡ false → cell_count s < 2 ^ 128
count_can (one t) h = omega arith
count_can (list t n) h = (let le = ltb-false 255 n (neither (bad_width t || nat_eq n 0) (nat_lt 255 n) h).1 in omega (arith, le))
count_can (set ks) h = omega arith
count_can (dict ks t) h = omega arith

registers_can : (ds : List Decl) → AllByRecursion (λ d. (misshapen d.kind d.shape ≡ false) × (bad_shape d.shape ≡ false) × (shape_width d.shape ≤ 128) × IsWord d.name) ds → EachCan CanSpellTop (registers_of ds)
registers_can [] h = tt
registers_can (d ∷ ds) h = go d.kind h.0.0 (registers_can ds h.1)
  where
    go : (k : DeclKind) → misshapen k d.shape ≡ false → EachCan CanSpellTop (registers_of ds) → EachCan CanSpellTop (register_tops k d ++ registers_of ds)
    go Tele m r = r
    go Sensor m r = ((cells_can d.shape m h.0.2, count_can d.shape h.0.1, sensor_named d.name h.0.3), r)
    go Header m r = r
    go Control m r = r

-- ---- variables

type_can : (t : Ty) → width_of t ≤ 128 → CanSpellType (bits_type t)
type_can (ty.Bit w) h = omega (arith, h)
type_can ty.Bool h = omega arith

var_can : (t : Ty) (x : List ℕ) → width_of t ≤ 128 → IsName x → CanSpellLocal (var_tree (bits_type t, x))
var_can (ty.Bit w) x h k = (refl, (omega (arith, h), k, tt))
var_can ty.Bool x h k = (refl, (omega arith, k, tt))

abbrev CanVars : List Var → Type 0
CanVars vs = EachCan CanSpellLocal (map var_tree vs)

vars_both : (a b : List Var) → CanVars a → CanVars b → CanVars (a ++ b)
vars_both [] b h k = k
vars_both (v ∷ a) b h k = (h.0, vars_both a b h.1 k)

abbrev AreNarrow : List Ty → Type 0
AreNarrow ts = AllByRecursion (λ t. width_of t ≤ 128) ts

keys_can : (n i : ℕ) (ts : List Ty) → n < 2 ^ 64 → i + length ts < 2 ^ 64 → AreNarrow ts → CanVars (key_vars n i ts)
keys_can n i [] h k w = tt
keys_can n i (t ∷ ts) h k w = (var_can t (plain.key_name n i) w.0 (key_named n i h (omega (arith, k))), keys_can n (suc i) ts h (omega (arith, k)) w.1)

type_narrow : (t : Ty) → bad_width t ≡ false → width_of t ≤ 128
type_narrow (ty.Bit w) h = (good_bits w h).most
type_narrow ty.Bool h = omega arith

types_narrow : (ts : List Ty) → bad_widths ts ≡ false → AreNarrow ts
types_narrow [] h = tt
types_narrow (t ∷ ts) h = (let n = neither (bad_width t) (bad_widths ts) h in (type_narrow t n.0, types_narrow ts n.1))

key_narrow : (s : Shape) → bad_shape s ≡ false → AreNarrow (key_types s)
key_narrow (one t) h = tt
key_narrow (list t n) h = tt
key_narrow (set ts) h = types_narrow ts (neither (bad_widths ts) (nat_lt 4 (length ts)) h).0
key_narrow (dict ts t) h = types_narrow ts (neither (bad_widths ts) (nat_lt 4 (length ts)) (neither (bad_widths ts || nat_lt 4 (length ts)) (bad_width t) h).0).0

few_keys : (s : Shape) → bad_shape s ≡ false → 0 + length (key_types s) < 2 ^ 64
few_keys (one t) h = omega arith
few_keys (list t n) h = omega arith
few_keys (set ts) h = (let le = ltb-false 4 (length ts) (neither (bad_widths ts) (nat_lt 4 (length ts)) h).1 in omega (arith, le))
few_keys (dict ts t) h = (let le = ltb-false 4 (length ts) (neither (bad_widths ts) (nat_lt 4 (length ts)) (neither (bad_widths ts || nat_lt 4 (length ts)) (bad_width t) h).0).1 in omega (arith, le))

value_narrow : (s : Shape) → bad_shape s ≡ false → width_of (value_type s) ≤ 128
value_narrow (one t) h = type_narrow t h
value_narrow (list t n) h = type_narrow t (neither (bad_width t) (nat_eq n 0) (neither (bad_width t || nat_eq n 0) (nat_lt 255 n) h).0).0
value_narrow (set ts) h = omega arith
value_narrow (dict ts t) h = type_narrow t (neither (bad_widths ts || nat_lt 4 (length ts)) (bad_width t) h).1

kept_can : (k : DeclKind) (n : ℕ) (s : Shape) → n < 2 ^ 64 → bad_shape s ≡ false → CanVars (key_vars n 0 (kept_types k s))
kept_can Sensor n (list t m) h b = keys_can n 0 (ty.Bit 128 ∷ []) h (omega arith) (omega arith, tt)
kept_can Sensor n (one t) h b = tt
kept_can Sensor n (set ts) h b = keys_can n 0 ts h (few_keys (set ts) b) (key_narrow (set ts) b)
kept_can Sensor n (dict ts t) h b = keys_can n 0 ts h (few_keys (dict ts t) b) (key_narrow (dict ts t) b)
kept_can Tele n s h b = keys_can n 0 (key_types s) h (few_keys s b) (key_narrow s b)
kept_can Header n s h b = keys_can n 0 (key_types s) h (few_keys s b) (key_narrow s b)
kept_can Control n s h b = keys_can n 0 (key_types s) h (few_keys s b) (key_narrow s b)

read_can : (n : ℕ) (d : Decl) → n < 2 ^ 64 → bad_shape d.shape ≡ false → CanVars (read_vars n (Some d))
read_can n d h b = (var_can (value_type d.shape) (plain.found_name n) (value_narrow d.shape b) (found_named n h), kept_can d.kind n d.shape h b)

-- what is asked of reads: their numbers are small, and what they read is well shaped
abbrev ReadFits : ℕ × Option Decl → Type 0
ReadFits r = (r.0 < 2 ^ 64) × ((d : Decl) → r.1 ≡ Some d → bad_shape d.shape ≡ false)

vars_can : (rs : List (ℕ × Option Decl)) → AllByRecursion ReadFits rs → CanVars (vars_in rs)
vars_can [] h = tt
vars_can (r ∷ rs) h = vars_both (read_vars r.0 r.1) (vars_in rs) (go r.1 h.0.1) (vars_can rs h.1)
  where
    go : (o : Option Decl) → ((d : Decl) → o ≡ Some d → bad_shape d.shape ≡ false) → CanVars (read_vars r.0 o)
    go None k = tt
    go (Some d) k = read_can r.0 d h.0.0 (k d refl)

-- ---- actions and tables

abbrev LookFits : ℕ × Decl → Type 0
LookFits l = (l.0 < 2 ^ 64) × (bad_shape (l.1).shape ≡ false)

looks_fit : (rs : List (ℕ × Option Decl)) → AllByRecursion ReadFits rs → AllByRecursion LookFits (lookups_in rs)
looks_fit [] h = tt
looks_fit (r ∷ rs) h = by_decl r.1 h.0.1 (looks_fit rs h.1)
  where
    by_kind : (k : DeclKind) (d : Decl) → bad_shape d.shape ≡ false → AllByRecursion LookFits (lookups_in rs) → AllByRecursion LookFits (control_kind k r.0 d ++ lookups_in rs)
    by_kind Tele d b l = l
    by_kind Sensor d b l = l
    by_kind Header d b l = l
    by_kind Control d b l = ((h.0.0, b), l)

    by_decl : (o : Option Decl) → ((d : Decl) → o ≡ Some d → bad_shape d.shape ≡ false) → AllByRecursion LookFits (lookups_in rs) → AllByRecursion LookFits (read_lookups r.0 o ++ lookups_in rs)
    by_decl None k l = l
    by_decl (Some d) k l = by_kind d.kind d (k d refl) l

action_can : (n : ℕ) (s : Shape) → n < 2 ^ 64 → width_of (value_type s) ≤ 128 → CanSpellLocal (p4.local_action 0 (action_of n s))
action_can n (one t) h w = (action_named n h, ((omega (arith, w), value_named), tt), (inl ((found_named n h, tt), (value_named, tt)), tt))
action_can n (list t m) h w = (action_named n h, ((omega (arith, w), value_named), tt), (inl ((found_named n h, tt), (value_named, tt)), tt))
action_can n (set ts) h w = (action_named n h, tt, (inl ((found_named n h, tt), (omega arith, omega arith)), tt))
action_can n (dict ts t) h w = (action_named n h, ((omega (arith, w), value_named), tt), (inl ((found_named n h, tt), (value_named, tt)), tt))

key_list_can : (n i : ℕ) (ts : List Ty) → n < 2 ^ 64 → i + length ts < 2 ^ 64 → EachCan CanSpellKey (keys_from n i ts)
key_list_can n i [] h k = tt
key_list_can n i (t ∷ ts) h k = (((key_named n i h (omega (arith, k)), tt), (refl, refl)), key_list_can n (i + 1) ts h (omega (arith, k)))

table_can : (n : ℕ) (s : Shape) → n < 2 ^ 64 → bad_shape s ≡ false → CanSpellLocal (p4.local_table 0 (table_of n s))
table_can n (one t) h b = (table_named n h, tt, (action_named n h, tt), tt, (action_named n h, ((let w = value_narrow (one t) b in omega (arith, w), omega arith), tt)))
table_can n (list t m) h b = (table_named n h, tt, (action_named n h, tt), tt, (action_named n h, ((let w = value_narrow (list t m) b in omega (arith, w), omega arith), tt)))
table_can n (set ts) h b = (table_named n h, key_list_can n 0 ts h (few_keys (set ts) b), (action_named n h, ((refl, refl), tt)), tt, ((refl, refl), tt))
table_can n (dict ts t) h b = (table_named n h, key_list_can n 0 ts h (few_keys (dict ts t) b), (action_named n h, ((refl, refl), tt)), tt, ((refl, refl), tt))

declared_can : (ls ms : List (ℕ × Decl)) → AllByRecursion LookFits ls → AllByRecursion LookFits ms → EachCan CanSpellLocal (map action_tree ls ++ map table_tree ms)
declared_can [] [] h k = tt
declared_can [] (m ∷ ms) h k = (table_can m.0 (m.1).shape k.0.0 k.0.1, declared_can [] ms h k.1)
declared_can (l ∷ ls) ms h k = (action_can l.0 (l.1).shape h.0.0 (value_narrow (l.1).shape h.0.1), declared_can ls ms h.1 k)

locals_can : (vs : List Var) (ls : List (ℕ × Decl)) → CanVars vs → AllByRecursion LookFits ls → EachCan CanSpellLocal (locals_for vs ls)
locals_can [] ls h k = declared_can ls ls k k
locals_can (v ∷ vs) ls h k = (h.0, locals_can vs ls h.1 k)

flags_can : CanVars flag_locals
flags_can = ((refl, (tt, (refl, refl), tt)), ((refl, (tt, (refl, refl), tt)), ((refl, (tt, (refl, refl), tt)), tt)))

-- ---- reads of a block

reads_fit : (ds : List Decl) (sized : (x : List ℕ) (d : Decl) → lookup ds x ≡ Some d → bad_shape d.shape ≡ false) (a b : ℕ) (rs : List (ℕ × Option Decl)) → AreRising a b rs → AllByRecursion (λ r. IsDeclared ds r.1) rs → b < 2 ^ 64 → AllByRecursion ReadFits rs
reads_fit ds sized a b [] h k low = tt
reads_fit ds sized a b (r ∷ rs) h k low =
    let up = rising_up (suc r.0) b rs h.1 in
    ((omega (arith, up, low), λ d is. at r.1 k.0 d is), reads_fit ds sized (suc r.0) b rs h.1 k.1 low)
  where
    at : (o : Option Decl) → IsDeclared ds o → (d : Decl) → o ≡ Some d → bad_shape d.shape ≡ false
    at None k d is = absurd (cc is)
    at (Some c) k d is = sized d.name d (subst (λ (o : Option Decl). IsDeclared ds o) is k)

looks_both : (a b : List (ℕ × Decl)) → AllByRecursion LookFits a → AllByRecursion LookFits b → AllByRecursion LookFits (a ++ b)
looks_both [] b h k = k
looks_both (l ∷ a) b h k = (h.0, looks_both a b h.1 k)

views_all : (ds : List Decl) → AllByRecursion CanSpellExpr (views_in ds) → AllByRecursion (λ d. d.kind ≡ Header → CanSpellExpr (view_of d)) ds
views_all [] h = tt
views_all (d ∷ ds) h = go d.kind refl h (views_all ds)
  where
    go :
        (k : DeclKind) → d.kind ≡ k → AllByRecursion CanSpellExpr (view_in k d ++ views_in ds) →
        (AllByRecursion CanSpellExpr (views_in ds) → AllByRecursion (λ d. d.kind ≡ Header → CanSpellExpr (view_of d)) ds) → AllByRecursion (λ d. d.kind ≡ Header → CanSpellExpr (view_of d)) (d ∷ ds)
    go Tele e h r = (λ k. absurd (let z : Tele ≡ Header = sym e ∙ k in cc), r h)
    go Sensor e h r = (λ k. absurd (let z : Sensor ≡ Header = sym e ∙ k in cc), r h)
    go Header e h r = (λ k. h.0, r h.1)
    go Control e h r = (λ k. absurd (let z : Control ≡ Header = sym e ∙ k in cc), r h)

both_all : (P Q : Decl → Type 0) (ds : List Decl) → AllByRecursion P ds → AllByRecursion Q ds → AllByRecursion (λ d. P d × Q d) ds
both_all P Q [] h k = tt
both_all P Q (d ∷ ds) h k = ((h.0, k.0), both_all P Q ds h.1 k.1)

joined : (P Q R : Decl → Type 0) → ((d : Decl) → P d → Q d → R d) → (ds : List Decl) → AllByRecursion P ds → AllByRecursion Q ds → AllByRecursion R ds
joined P Q R f [] h k = tt
joined P Q R f (d ∷ ds) h k = (f d h.0 k.0, joined P Q R f ds h.1 k.1)

join_stmts : (a b : Stmts) → CanSpellStmts a → CanSpellStmts b → CanSpellStmts (and_then a b)
join_stmts done b h k = k
join_stmts (next c a) b h k = (h.0, join_stmts a b h.1 k)

mark_can : (b : Bool) → cond b 73 72 < 2 ^ 128
mark_can true = omega arith
mark_can false = omega arith

module _ (g : Given) (i : IsGiven g) (words : HasWords g) where
  typed : IsWellTyped (flat_property g.property)
  typed = flat_code_is_well_typed g.property i.plain

  all_words : AllByRecursion (λ d. IsWord d.name) (decls g)
  all_words = numbered_words g.property.decls 0 (let few = i.plain.few in omega (arith, few)) (tele_of g.property i.plain.typed) words.declared

  narrow : (x : List ℕ) (d : Decl) → lookup (decls g) x ≡ Some d → shape_width d.shape ≤ 128
  narrow x d is = subst (λ w. w ≤ 128) (sound g i x d is) (sound_narrow (shape_width d.shape))

  start_small : (d : Decl) → shape_width d.shape ≤ 128 → start_of d < 2 ^ 128
  start_small d h = go d.start
    where
      up : 2 ^ sound_width (shape_width d.shape) ≤ 2 ^ 128
      up = pow_mono (sound_narrow (shape_width d.shape))

      cut : (n : ℕ) → cast (sound_width (shape_width d.shape)) n < 2 ^ 128
      cut n = (let l = cast-lt (sound_width (shape_width d.shape)) n in omega (arith, l, up))

      go : (o : Option indus.Expr) → (start_word o (shape_width d.shape)).value < 2 ^ 128
      go None = omega arith
      go (Some (indus.num p n)) = cut n.value
      go (Some (indus.flag p b)) = cut (bit b).value
      go (Some (indus.read p x)) = omega arith
      go (Some (indus.count p x)) = omega arith
      go (Some (indus.index p x ks)) = omega arith
      go (Some (indus.member p ks x)) = omega arith
      go (Some (indus.negation p a)) = omega arith
      go (Some (indus.inversion p a)) = omega arith
      go (Some (indus.binary p o a b)) = omega arith
      go (Some (indus.cast p w a)) = omega arith

  are : (r : Roots) → AreNames r → AreDecls (decls g) r
  are r names =
      record {
        words = λ x d is. subst IsWord (name_found (decls g) x d is) (found_all (λ d. IsWord d.name) (decls g) all_words x d is);
        views = λ x d is k. view_named r names d (found_all (λ d. d.kind ≡ Header → CanSpellExpr (view_of d)) g.property.decls (views_all g.property.decls words.views) x d (kept_header g i x d is k) k);
        narrow = narrow;
        starts = λ x d is. start_small d (narrow x d is);
        sized = (shapely (flat_property g.property) typed).sized;
        named = name_found (decls g);
      }

  low : block_end (decls g) (check g) (check_first g) < 2 ^ 64
  low = let few = numbers_are_few g i.plain in let light = i.light in omega (arith, few, light)

  low_check : check_first g < 2 ^ 64
  low_check = let up = block_rises (decls g) (check g) (check_first g) in let l = low in omega (arith, up, l)

  low_tele : tele_first g < 2 ^ 64
  low_tele = let up = block_rises (decls g) (tele g) (tele_first g) in let l = low_check in omega (arith, up, l)

  fit : (ss : indus.Stmts) (n : ℕ) → block_end (decls g) ss n < 2 ^ 64 → AllByRecursion ReadFits (block_numbers (decls g) ss n)
  fit ss n l =
      let b = block_read (decls g) ss n in
      reads_fit (decls g) (shapely (flat_property g.property) typed).sized n (block_end (decls g) ss n) (block_numbers (decls g) ss n) b.rising b.declared l

  module _ (r q : Roots) (rn : AreNames r) (qn : AreNames q) where
    init_can : CanSpellStmts (block_code (in_control r) (decls g) (init g) 0)
    init_can =
        block_can (sight (flat_property g.property) block.Init) r rn (are r rn) (init g) 0 (each_fine (flat_property g.property) typed).1.1.0
        (block_numbered g.property.decls (once_in g.property i.plain.typed) (init g) (flat_code_is_flat g.property.decls g.property.init)) (block_below (2 ^ 16) g.property.decls g.property.init [] i.reports.init) low_tele

    tele_code_can : CanSpellStmts (block_code (in_control q) (decls g) (tele g) (tele_first g))
    tele_code_can =
        block_can (sight (flat_property g.property) block.Tele) q qn (are q qn) (tele g) (tele_first g) (each_fine (flat_property g.property) typed).1.1.1.0
        (block_numbered g.property.decls (once_in g.property i.plain.typed) (tele g) (flat_code_is_flat g.property.decls g.property.tele)) (block_below (2 ^ 16) g.property.decls g.property.tele [] i.reports.tele) low_check

    check_can : CanSpellStmts (block_code (in_control q) (decls g) (check g) (check_first g))
    check_can =
        block_can (sight (flat_property g.property) block.Check) q qn (are q qn) (check g) (check_first g) (each_fine (flat_property g.property) typed).1.1.1.1
        (block_numbered g.property.decls (once_in g.property i.plain.typed) (check g) (flat_code_is_flat g.property.decls g.property.check)) (block_below (2 ^ 16) g.property.decls g.property.check [] i.reports.check) low

    each_narrow : AllByRecursion (λ d. (shape_width d.shape ≤ 128) × IsWord d.name) (decls g)
    each_narrow =
        both_all (λ d. shape_width d.shape ≤ 128) (λ d. IsWord d.name) (decls g)
        (all_weaker (λ d. lookup (decls g) d.name ≡ Some d) (λ d. shape_width d.shape ≤ 128) (λ d h. narrow d.name d h) (decls g) (each_found (decls g) (once_in (flat_property g.property) typed))) all_words

    filled : ℕ
    filled = tele_room (tele_fields (decls g)) * 8 - (8 + width_sum (tele_fields (decls g)))

    each_register : AllByRecursion (λ d. (misshapen d.kind d.shape ≡ false) × (bad_shape d.shape ≡ false) × (shape_width d.shape ≤ 128) × IsWord d.name) g.property.decls
    each_register =
        joined (λ d. lookup g.property.decls d.name ≡ Some d) (λ d. IsWord d.name)
        (λ d. (misshapen d.kind d.shape ≡ false) × (bad_shape d.shape ≡ false) × (shape_width d.shape ≤ 128) × IsWord d.name)
        (λ d h w.
        let s = shapely g.property i.plain.typed in
        (s.shaped d.name d h, s.sized d.name d h, subst (λ w. w ≤ 128) (sound_widths g.property i.plain.typed d.name d h) (sound_narrow (shape_width d.shape)), w))
        g.property.decls (each_found g.property.decls (once_in g.property i.plain.typed)) words.declared

    pub spelled : SpellsLowered (trees_of g r q)
    spelled =
        record {
          mark = mark_can (nat_eq g.property.edition 2);
          tops = (((refl, refl), fields_can (mark_field ∷ fields g) ((omega arith, (refl, refl)), both_can (tele_fields (decls g)) (fill_fields (tele_fields (decls g))) (tele_can (decls g) each_narrow) (fill_can (tele_room (tele_fields (decls g)) * 8 - (8 + width_sum (tele_fields (decls g)))) (omega arith)))), registers_can g.property.decls each_register);
          entry_locals = locals_can (block_vars (decls g) (init g) 0) (block_lookups (decls g) (init g) 0) (vars_can (block_numbers (decls g) (init g) 0) (fit (init g) 0 low_tele)) (looks_fit (block_numbers (decls g) (init g) 0) (fit (init g) 0 low_tele));
          exit_locals =
              locals_can (flag_locals ++ (block_vars (decls g) (tele g) (tele_first g) ++ block_vars (decls g) (check g) (check_first g)))
              (block_lookups (decls g) (tele g) (tele_first g) ++ block_lookups (decls g) (check g) (check_first g))
              (vars_both flag_locals (block_vars (decls g) (tele g) (tele_first g) ++ block_vars (decls g) (check g) (check_first g)) flags_can
              (vars_both (block_vars (decls g) (tele g) (tele_first g)) (block_vars (decls g) (check g) (check_first g)) (vars_can (block_numbers (decls g) (tele g) (tele_first g)) (fit (tele g) (tele_first g) low_check)) (vars_can (block_numbers (decls g) (check g) (check_first g)) (fit (check g) (check_first g) low))))
              (looks_both (block_lookups (decls g) (tele g) (tele_first g)) (block_lookups (decls g) (check g) (check_first g)) (looks_fit (block_numbers (decls g) (tele g) (tele_first g)) (fit (tele g) (tele_first g) low_check)) (looks_fit (block_numbers (decls g) (check g) (check_first g)) (fit (check g) (check_first g) low)));
          entry = init_can;
          exit =
              join_stmts (block_code (in_control q) (decls g) (tele g) (tele_first g)) (next (checks_of (block_code (in_control q) (decls g) (check g) (check_first g))) done) tele_code_can
              (inl (((refl, refl), tt), (inl (((refl, refl), tt), tt), check_can), refl), tt);
        }
