-- One of a switch's tables holds contents, by its number.
use Rattle.std.proofs.Common.{◌≡◌, ◌≢◌, ℕ, zero, suc, ◌<◌, List, [], ◌∷◌, length, set, true, false, Option, Some, None, refl, sym, ap, ◌∙◌, subst, arith}
use Rattle.std.specs.List.{AllByRecursion}
use Rattle.std.specs.Prelude.{slice_get}
use Rattle.std.proofs.lemmas.List.{get_or-set_same, get_or-set_other, set-set, set_comm, length-set}
use Rattle.p4_meaning.specs.Parts.{Parts}
use Rattle.table_entries.specs.Entries.{Entry, Act}
use Rattle.p4_tables.specs.State.{Held, no_table, held_at, replaced}
use Rattle.p4_tables.specs.Named.{action_name, named_act}
use Rattle.indus_tree.specs.Tree.{Shape, one, list, set as set_shape, dict}
use Rattle.indus_tree.specs.State.{Contents, single, members, pairs}
use Rattle.control_tables.specs.Contents.{entries_for, default_for}
use Rattle.control_tables.specs.Tables.{has_miss}
use Rattle.control_maps.specs.Numbers.{Numbered, put_in, HasShape, HasForm, IsOfForm, IsMapOf}

-- the default that is given, or else the one that was there
abbrev pub default_or : Act → Option Act → Act
default_or d None = d
default_or d (Some e) = e

-- a table with these entries and perhaps this default
abbrev pub given_to : Held → List Entry → Option Act → Held
given_to h es d = record h { listed = es; default = default_or h.default d }

-- it stands at its number
pub replaced_is : (st : List Held) (k : ℕ) (es : List Entry) (d : Option Act) → k < length st → replaced st k es d ≡ set st k (given_to (held_at st k) es d)
replaced_is st k es None lt = refl
replaced_is st k es (Some d) lt =
    ap (λ (h : Held). set (set st k (record (held_at st k) { listed = es })) k (record h { default = d })) (get_or-set_same st k (record (held_at st k) { listed = es }) no_table lt)
    ∙ set-set st k (record (held_at st k) { listed = es }) (record (held_at st k) { listed = es; default = d })

pub at_replaced : (st : List Held) (k : ℕ) (es : List Entry) (d : Option Act) → k < length st → held_at (replaced st k es d) k ≡ given_to (held_at st k) es d
at_replaced st k es d lt = ap (λ (l : List Held). held_at l k) (replaced_is st k es d lt) ∙ get_or-set_same st k (given_to (held_at st k) es d) no_table lt

pub other_replaced : (st : List Held) (k j : ℕ) (es : List Entry) (d : Option Act) → k < length st → j ≢ k → held_at (replaced st k es d) j ≡ held_at st j
other_replaced st k j es d lt apart = ap (λ (l : List Held). held_at l j) (replaced_is st k es d lt) ∙ get_or-set_other st k j (given_to (held_at st k) es d) no_table apart

pub replaced_long : (st : List Held) (k : ℕ) (es : List Entry) (d : Option Act) → k < length st → length (replaced st k es d) ≡ length st
replaced_long st k es d lt = ap (λ (l : List Held). length l) (replaced_is st k es d lt) ∙ length-set st k (given_to (held_at st k) es d)

-- what was given before does not count
pub replaced_twice : (st : List Held) (k : ℕ) (es fs : List Entry) (d : Option Act) → k < length st → replaced (replaced st k es None) k fs d ≡ replaced st k fs d
replaced_twice st k es fs d lt =
    let long = replaced_long st k es None lt in
    replaced_is (replaced st k es None) k fs d (omega arith)
    ∙ (ap (λ (h : Held). set (replaced st k es None) k (given_to h fs d)) (at_replaced st k es None lt)
    ∙ (set-set st k (given_to (held_at st k) es None) (given_to (held_at st k) fs d) ∙ sym (replaced_is st k fs d lt)))

-- two tables, one after the other
pub replaced_apart : (st : List Held) (j k : ℕ) (es fs : List Entry) (d e : Option Act) → j < length st → k < length st → j ≢ k → replaced (replaced st j es d) k fs e ≡ replaced (replaced st k fs e) j es d
replaced_apart st j k es fs d e low high apart =
    let one = replaced_long st j es d low in
    let two = replaced_long st k fs e high in
    replaced_is (replaced st j es d) k fs e (omega arith)
    ∙ (ap (λ (h : Held). set (replaced st j es d) k (given_to h fs e)) (other_replaced st j k es d low (λ q. apart (sym q)))
    ∙ (ap (λ (l : List Held). set l k (given_to (held_at st k) fs e)) (replaced_is st j es d low)
    ∙ (set_comm st j k (given_to (held_at st j) es d) (given_to (held_at st k) fs e) apart
    ∙ sym (replaced_is (replaced st k fs e) j es d (omega arith)
    ∙ (ap (λ (h : Held). set (replaced st k fs e) j (given_to h es d)) (other_replaced st k j fs e high apart)
    ∙ ap (λ (l : List Held). set l j (given_to (held_at st j) es d)) (replaced_is st k fs e high))))))

-- ---- contents of a shape

-- where some keys find nothing, contents give no default
pub no_default : (d : Shape) (c : Contents) (a : ℕ) → HasShape d c → has_miss d ≡ true → default_for a c ≡ None
no_default (one t) c a h m = absurd (let q : false ≡ true = m in cc)
no_default (list t n) c a h m = absurd h
no_default (set_shape ts) (single w) a h m = absurd h
no_default (set_shape ts) (members ks) a h m = refl
no_default (set_shape ts) (pairs es) a h m = absurd h
no_default (dict ts t) (single w) a h m = absurd h
no_default (dict ts t) (members ks) a h m = absurd h
no_default (dict ts t) (pairs es) a h m = refl

-- ---- maps

module _ (f : Parts) where
  low : (st : List Held) (n : Numbered) → IsOfForm f st n → n.table < length st
  low st n is = (let a = is.long in let b = is.there in omega arith)

  -- a table that is given entries, and a default only where it has no miss
  form_here : (st : List Held) (n : Numbered) (es : List Entry) (d : Option Act) → IsOfForm f st n → (has_miss n.shape ≡ true → d ≡ None) → IsOfForm f (replaced st n.table es d) n
  form_here st n es d is none =
      let now = at_replaced st n.table es d (low st n is) in
      record {
        long = replaced_long st n.table es d (low st n is) ∙ is.long;
        there = is.there;
        named = is.named;
        form = subst (λ (h : Held). HasForm h.shape n.action n.shape) (sym now) is.form;
        misses = λ m. ap (λ (h : Held). named_act (action_name f.actions) h.default) now ∙ (ap (λ (e : Option Act). named_act (action_name f.actions) (default_or (held_at st n.table).default e)) (none m) ∙ is.misses m);
      }

  -- another table
  form_other : (st : List Held) (k : ℕ) (n : Numbered) (es : List Entry) (d : Option Act) → IsOfForm f st n → k < length st → n.table ≢ k → IsOfForm f (replaced st k es d) n
  form_other st k n es d is lt apart =
      let now = other_replaced st k n.table es d lt apart in
      record {
        long = replaced_long st k es d lt ∙ is.long;
        there = is.there;
        named = is.named;
        form = subst (λ (h : Held). HasForm h.shape n.action n.shape) (sym now) is.form;
        misses = λ m. ap (λ (h : Held). named_act (action_name f.actions) h.default) now ∙ is.misses m;
      }

  pub map_others : (st : List Held) (k : ℕ) (ns : List Numbered) (es : List Entry) (d : Option Act) → k < length st → AllByRecursion (λ n. n.table ≢ k) ns → IsMapOf f st ns → IsMapOf f (replaced st k es d) ns
  map_others st k [] es d lt apart is = tt
  map_others st k (n ∷ ns) es d lt apart is = (form_other st k n es d is.0 lt apart.0, (is.1.0, map_others st k ns es d lt apart.1 is.1.1))

  pub form_put : (st : List Held) (n : Numbered) (c : Contents) → IsOfForm f st n → HasShape n.shape c → IsOfForm f (put_in n c st) n
  form_put st n c is shape = form_here st n (entries_for n.action c) (default_for n.action c) is (no_default n.shape c n.action shape)

  pub form_apart : (st : List Held) (k n : Numbered) (c : Contents) → IsOfForm f st k → IsOfForm f st n → n.table ≢ k.table → IsOfForm f (put_in k c st) n
  form_apart st k n c here is apart = form_other st k.table n (entries_for k.action c) (default_for k.action c) is (low st k here) apart

-- ---- one table of a map, by its place

pub all_at : {A : Type 0} (P : A → Type 0) (xs : List A) (i : ℕ) (x : A) → slice_get xs i ≡ Some x → AllByRecursion P xs → P x
all_at P [] i x e h = absurd (cc)
all_at P (y ∷ ys) zero x e h = let is : y ≡ x = (cc) in subst P is h.0
all_at P (y ∷ ys) (suc i) x e h = all_at P ys i x e h.1

module _ (f : Parts) where
  pub form_at : (st : List Held) (ns : List Numbered) (i : ℕ) (n : Numbered) → slice_get ns i ≡ Some n → IsMapOf f st ns → IsOfForm f st n
  form_at st [] i n e is = absurd (cc)
  form_at st (m ∷ ns) zero n e is = let same : m ≡ n = (cc) in subst (IsOfForm f st) same is.0
  form_at st (m ∷ ns) (suc i) n e is = form_at st ns i n e is.1.1

  -- it is given entries, and the map stays one
  pub map_given :
      (st : List Held) (ns : List Numbered) (i : ℕ) (n : Numbered) (es : List Entry) (d : Option Act) → slice_get ns i ≡ Some n →
      (has_miss n.shape ≡ true → d ≡ None) → IsMapOf f st ns → IsMapOf f (replaced st n.table es d) ns
  map_given st [] i n es d e none is = absurd (cc)
  map_given st (m ∷ ns) zero n es d e none is =
      let same : m ≡ n = (cc) in
      let here = subst (IsOfForm f st) same is.0 in (
        subst (IsOfForm f (replaced st n.table es d)) (sym same) (form_here f st n es d here none),
        (is.1.0, map_others f st n.table ns es d (low f st n here) (subst (λ (m : Numbered). AllByRecursion (λ k. k.table ≢ m.table) ns) same is.1.0) is.1.1),
      )
  map_given st (m ∷ ns) (suc i) n es d e none is = (
    form_other f st n.table m es d is.0 (low f st n (form_at st ns i n e is.1.1)) (λ q. all_at (λ (k : Numbered). k.table ≢ m.table) ns i n e is.1.0 (sym q)),
    (is.1.0, map_given st ns i n es d e none is.1.1),
  )
