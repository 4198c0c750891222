-- What a switch keeps: when it is loaded, when a control variable is set, and what a linkage reads of it.
use Rattle.std.proofs.Common.{◌≡◌, ℕ, zero, suc, List, [], ◌∷◌, ◌++◌, map, Bool, true, false, cond, Option, Some, None, refl, sym, ap, ap₂, ◌∙◌, subst, All, arith}
use Rattle.std.specs.Prelude.{nat_eq}
use Rattle.std.specs.Int.Bits.{xor_self}
use Rattle.std.specs.List.{AllByRecursion}
use Rattle.std.proofs.lemmas.Bool.Decides.{nat_tests}
use Rattle.std.proofs.lemmas.List.Elements.{All-nil, All-cons}
use Rattle.bit_values.specs.Bits.{Word, word}
use Rattle.bit_values.specs.Widths.{sound_width}
use Rattle.lex_text.specs.Names.{same_text}
use Rattle.p4_meaning.specs.Tables.{Table, table_named, Entries, Tables}
use Rattle.p4_meaning.specs.Pass.{Kept, start_cells, zero_cells}
use Rattle.network_run.specs.NetworkRun.{put}
use Rattle.indus_tree.specs.Tree.{Shape, one, list, set, dict, Decl}
use Rattle.indus_tree.specs.State.{Contents, members, pairs, Held, lookup, shape_width, width_of}
use Rattle.indus_tree.specs.Start.{start_word, cells, sensor_of_shape, sensor_of_decl, sensors_start}
use Rattle.indus_tree.specs.Hops.{variable_number, contents_at, contents_in}
use Rattle.indus_tree.specs.declared.tree.DeclKind.{DeclKind}
use Rattle.indus_tree.specs.declared.tree.DeclKind.TheVariants.{Tele, Sensor, Header, Control}
use Rattle.indus_tree.proofs.ShapesLemmas.{starts_shaped}
use Rattle.indus_types.specs.StaticWidths.{GiveWidth}
use Rattle.flat_laws.proofs.NameLemmas.{same_self}
use Rattle.flat_laws.proofs.States.{has_number}
use Rattle.sensor_registers.specs.Registers.{cell_value, cell_count}
use Rattle.table_entries.specs.Entries.{named}
use Rattle.control_tables.specs.Contents as contents
use Rattle.linkage.specs.Linkage.{SensorRegister, xor_with}
use Rattle.switch_machines.specs.Programs.{cells_of}
use Rattle.own_code.specs.Regions.{is_mine}
use Rattle.own_code.proofs.Apart.{text_decides}
use Rattle.monitor_laws.specs.Names.{is_sensor}
use Rattle.monitor_laws.specs.MonitorLaws.{AreMonitorEntries, IsMonitorAction}
use Rattle.lowered_code.specs.Names.{sensor_name, table_name}
use Rattle.lowered_code.proofs.Cells.{start_has}
use Rattle.lookup_tables.specs.Tables.{Lookup, table_for, first_action, members_of, pairs_of, entries_in, entries_for}
use Rattle.lookup_tables.specs.Finding.{AreNumbered}
use Rattle.lookup_tables.proofs.Named.{tables_differ}
use Rattle.whole_properties.specs.Whole.{Given, register_in, registers_in, sensor_in, sensors_in, loads, is_number, sets, lookups, lower_monitor, FitContents, Keeps, IsVariable, IsFitContents}
use Rattle.whole_properties.proofs.Lists.{all_weaker}
use Rattle.whole_properties.proofs.Once.{AreOnce, first_found, behind_found}

-- ---- tables of other names

no_table :
    (l : Lookup) (ls : List Lookup) (x : List ℕ) → table_named (map table_for (l ∷ ls)) x ≡ None →
    (same_text (table_name l.control l.number) x ≡ false) × (table_named (map table_for ls) x ≡ None)
no_table l ls x h = go (same_text (table_name l.control l.number) x) h
  where
    go :
        (b : Bool) → cond b (Some (table_for l)) (table_named (map table_for ls) x) ≡ None →
        (b ≡ false) × (table_named (map table_for ls) x ≡ None)
    go true h = absurd (cc)
    go false h = (refl, h)

pub loads_others :
    (ds : List Decl) (ls : List Lookup) (c : ℕ → Contents) (held : Tables) (x : List ℕ) →
    table_named (map table_for ls) x ≡ None → loads ds ls c held x ≡ held x
loads_others ds [] c held x h = refl
loads_others ds (l ∷ ls) c held x h =
    let n = no_table l ls x h in
    ap (λ b. cond b (entries_for l (contents_in ds c l.decl.name)) (loads ds ls c held x)) n.0 ∙ loads_others ds ls c held x n.1

pub sets_others :
    (ds : List Decl) (ls : List Lookup) (v : ℕ) (k : Contents) (held : Tables) (x : List ℕ) →
    table_named (map table_for ls) x ≡ None → sets ds ls v k held x ≡ held x
sets_others ds [] v k held x h = refl
sets_others ds (l ∷ ls) v k held x h =
    let n = no_table l ls x h in
    ap (λ b. cond b (cond (is_number (variable_number ds l.decl.name) v) (entries_for l k) (held x)) (sets ds ls v k held x)) n.0 ∙ sets_others ds ls v k held x n.1

-- ---- tables of different names

loads_there :
    (ds : List Decl) (ls : List Lookup) (c : ℕ → Contents) (held : Tables) (n : ℕ) → AreNumbered n ls →
    AllByRecursion (λ l. loads ds ls c held (table_name l.control l.number) ≡ entries_for l (contents_in ds c l.decl.name)) ls
loads_there ds [] c held n a = tt
loads_there ds (l ∷ ls) c held n a =
    (ap (λ b. cond b (entries_for l (contents_in ds c l.decl.name)) (loads ds ls c held (table_name l.control l.number))) (same_self (table_name l.control l.number)), rest ls (tables_differ n l ls a) (loads_there ds ls c held (suc l.number) a.1))
  where
    rest :
        (ms : List Lookup) →
        AllByRecursion (λ m. same_text (table_name l.control l.number) (table_name m.control m.number) ≡ false) ms →
        AllByRecursion (λ m. loads ds ls c held (table_name m.control m.number) ≡ entries_for m (contents_in ds c m.decl.name)) ms
        → AllByRecursion (λ m. loads ds (l ∷ ls) c held (table_name m.control m.number) ≡ entries_for m (contents_in ds c m.decl.name)) ms
    rest [] o h = tt
    rest (m ∷ ms) o h = (ap (λ b. cond b (entries_for l (contents_in ds c l.decl.name)) (loads ds ls c held (table_name m.control m.number))) o.0 ∙ h.0, rest ms o.1 h.1)

-- one variable's contents are set
put_is :
    (ds : List Decl) (l : Lookup) (v : ℕ) (k : Contents) (c : ℕ → Contents) (e : Entries) →
    e ≡ entries_for l (contents_in ds c l.decl.name) →
    cond (is_number (variable_number ds l.decl.name) v) (entries_for l k) e ≡ entries_for l (contents_in ds (put c v k) l.decl.name)
put_is ds l v k c e is = go (variable_number ds l.decl.name) is
  where
    go :
        (o : Option ℕ) → e ≡ entries_for l (contents_at c o) →
        cond (is_number o v) (entries_for l k) e ≡ entries_for l (contents_at (put c v k) o)
    go None is = is
    go (Some n) is = by_test n (nat_eq n v) is
      where
        by_test :
            (n : ℕ) (b : Bool) → e ≡ entries_for l (c n) → cond b (entries_for l k) e ≡ entries_for l (cond b k (c n))
        by_test n true is = refl
        by_test n false is = is

sets_there :
    (ds : List Decl) (ls : List Lookup) (v : ℕ) (k : Contents) (c : ℕ → Contents) (held : Tables) (n : ℕ) →
    AreNumbered n ls →
    AllByRecursion (λ l. held (table_name l.control l.number) ≡ entries_for l (contents_in ds c l.decl.name)) ls
    → AllByRecursion (λ l. sets ds ls v k held (table_name l.control l.number) ≡ entries_for l (contents_in ds (put c v k) l.decl.name)) ls
sets_there ds [] v k c held n a h = tt
sets_there ds (l ∷ ls) v k c held n a h = (
  ap (λ b. cond b (cond (is_number (variable_number ds l.decl.name) v) (entries_for l k) (held (table_name l.control l.number))) (sets ds ls v k held (table_name l.control l.number))) (same_self (table_name l.control l.number)) ∙ put_is ds l v k c (held (table_name l.control l.number)) h.0,
  rest ls (tables_differ n l ls a) (sets_there ds ls v k c held (suc l.number) a.1 h.1),
)
  where
    rest :
        (ms : List Lookup) →
        AllByRecursion (λ m. same_text (table_name l.control l.number) (table_name m.control m.number) ≡ false) ms →
        AllByRecursion (λ m. sets ds ls v k held (table_name m.control m.number) ≡ entries_for m (contents_in ds (put c v k) m.decl.name)) ms
        → AllByRecursion (λ m. sets ds (l ∷ ls) v k held (table_name m.control m.number) ≡ entries_for m (contents_in ds (put c v k) m.decl.name)) ms
    rest [] o h = tt
    rest (m ∷ ms) o h =
        (ap (λ b. cond b (cond (is_number (variable_number ds l.decl.name) v) (entries_for l k) (held (table_name m.control m.number))) (sets ds ls v k held (table_name m.control m.number))) o.0 ∙ h.0, rest ms o.1 h.1)

-- ---- entries run the monitor's actions

entries_mine : (l : Lookup) (s : Shape) (k : Contents) → AreMonitorEntries (entries_in l s k)
entries_mine l (one t) k = record { listed = tt; default = refl }
entries_mine l (list t n) k = record { listed = tt; default = refl }
entries_mine l (set ts) k = record { listed = each (members_of k); default = refl }
  where
    each :
        (ks : List (List Word)) →
        AllByRecursion (λ e. IsMonitorAction e.action) (map (named (first_action l)) (contents.entries_for 0 (members ks)))
    each [] = tt
    each (k ∷ ks) = (refl, each ks)
entries_mine l (dict ts t) k = record { listed = each (pairs_of k); default = refl }
  where
    each :
        (es : List (List Word × Word)) →
        AllByRecursion (λ e. IsMonitorAction e.action) (map (named (first_action l)) (contents.entries_for 0 (pairs es)))
    each [] = tt
    each (e ∷ es) = (refl, each es)

named_entries :
    (ds : List Decl) (ls : List Lookup) (c : ℕ → Contents) (b : Kept) →
    AllByRecursion (λ l. b.tables (table_name l.control l.number) ≡ entries_for l (contents_in ds c l.decl.name)) ls →
    (x : List ℕ) (t : Table) → table_named (map table_for ls) x ≡ Some t → AreMonitorEntries (b.tables x)
named_entries ds [] c b h x t is = absurd (cc)
named_entries ds (l ∷ ls) c b h x t is = go (same_text (table_name l.control l.number) x) refl is (named_entries ds ls c b h.1 x t)
  where
    go :
        (e : Bool) → same_text (table_name l.control l.number) x ≡ e →
        cond e (Some (table_for l)) (table_named (map table_for ls) x) ≡ Some t →
        (table_named (map table_for ls) x ≡ Some t → AreMonitorEntries (b.tables x)) → AreMonitorEntries (b.tables x)
    go true e i j = subst (λ x. AreMonitorEntries (b.tables x)) ((text_decides (table_name l.control l.number) x).0 e) (subst AreMonitorEntries (sym h.0) (entries_mine l l.decl.shape (contents_in ds c l.decl.name)))
    go false e i j = j i

-- ---- contents

module _ (g : Given) where
  pub fits_all : (c : ℕ → Contents) → ((v : ℕ) → IsVariable g v → IsFitContents g v (c v)) → FitContents g c
  fits_all c f x d is k =
      let n = has_number g.property.decls 0 x d is in
      subst (λ o. GiveWidth (shape_width d.shape) (contents_at c o)) (sym n.1) (f n.0 (x, d, is, k, n.1) x d is k n.1)

  pub fits_put :
      (c : ℕ → Contents) (v : ℕ) (k : Contents) → IsFitContents g v k → FitContents g c → FitContents g (put c v k)
  fits_put c v k f h x d is kind =
      let n = has_number g.property.decls 0 x d is in
      subst (λ o. GiveWidth (shape_width d.shape) (contents_at (put c v k) o)) (sym n.1)
      (by_test n.0 n.1 (nat_eq n.0 v) refl (subst (λ o. GiveWidth (shape_width d.shape) (contents_at c o)) n.1 (h x d is kind)))
    where
      by_test :
          (n : ℕ) → variable_number g.property.decls x ≡ Some n → (b : Bool) → nat_eq n v ≡ b →
          GiveWidth (shape_width d.shape) (c n) → GiveWidth (shape_width d.shape) (cond b k (c n))
      by_test n num true e old = f x d is kind (num ∙ ap Some (sym (same v n e)))
        where
          same : (v n : ℕ) → nat_eq n v ≡ true → v ≡ n
          same v n e = grind (arith, nat_tests, e)
      by_test n num false e old = old

  -- ---- the laws

  pub keeps_same :
      (z : Held) (c : ℕ → Contents) (a b : Kept) → ((x : List ℕ) → is_sensor x ≡ true → b.registers x ≡ a.registers x) → ((x : List ℕ) → is_mine x ≡ true → b.tables x ≡ a.tables x) → Keeps g z c a → Keeps g z c b
  keeps_same z c a b cells tables h =
      record {
        cells = λ x d is k. cells (sensor_name x) refl ∙ h.cells x d is k;
        shaped = h.shaped;
        contents = h.contents;
        tables = all_weaker _ _ (λ l e. tables (table_name l.control l.number) refl ∙ e) (lookups g) h.tables;
      }

  pub keeps_named :
      (z : Held) (c : ℕ → Contents) (b : Kept) → Keeps g z c b → (x : List ℕ) (t : Table) →
      table_named (lower_monitor g).tables x ≡ Some t → AreMonitorEntries (b.tables x)
  keeps_named z c b h x t is = named_entries g.property.decls (lookups g) c b h.tables x t is

  pub keeps_set : AreNumbered 0 (lookups g) → (v : ℕ) (k : Contents) (z : Held) (c : ℕ → Contents) (b : Kept) → IsVariable g v → IsFitContents g v k → Keeps g z c b → Keeps g z (put c v k) (record b { tables = (lower_monitor g).controls.set v k b.tables })
  keeps_set numbered v k z c b is f h =
      record {
        cells = h.cells;
        shaped = h.shaped;
        contents = fits_put c v k f h.contents;
        tables = sets_there g.property.decls (lookups g) v k c b.tables 0 numbered h.tables;
      }

  -- the cells of a sensor's register
  shown_cells :
      (start : Word) (ws : List Word) →
      map (λ (w : Word). w.value) (map (cell_value start) ws) ≡ map (xor_with start.value) (map (λ (w : Word). w.value) ws)
  shown_cells start [] = refl
  shown_cells start (w ∷ ws) = ap (λ (ns : List ℕ). xor_with start.value w.value ∷ ns) (shown_cells start ws)

  abbrev Shown : Held → Kept → SensorRegister Held (List ℕ) → Type 0
  Shown z b x = cells_of b x.name ≡ map (xor_with x.initial) (x.cells z)

  shown_each :
      (z : Held) (b : Kept) (ds : List Decl) → AreOnce ds →
      ((x : List ℕ) (d : Decl) → lookup ds x ≡ Some d → d.kind ≡ Sensor → b.registers (sensor_name x) ≡ map (cell_value (start_word d.start (shape_width d.shape))) (z x)) →
      All (Shown z b) (sensors_in ds)
  shown_each z b [] o h = All-nil (Shown z b)
  shown_each z b (e ∷ ds) o h = by_kind e.kind refl (shown_each z b ds o.1 (λ x d is k. h x d (behind_found e ds o.0 x d is) k))
    where
      by_kind :
          (k : DeclKind) → e.kind ≡ k → All (Shown z b) (sensors_in ds) →
          All (Shown z b) (sensor_in k e ++ sensors_in ds)
      by_kind Tele k h2 = h2
      by_kind Sensor k h2 =
          All-cons (Shown z b) _ _ (ap (λ ws. map (λ (w : Word). w.value) ws) (h e.name e (first_found e ds) k) ∙ shown_cells (start_word e.start (shape_width e.shape)) (z e.name)) h2
      by_kind Header k h2 = h2
      by_kind Control k h2 = h2

  pub shown :
      AreOnce g.property.decls → (z : Held) (c : ℕ → Contents) (b : Kept) → Keeps g z c b →
      All (λ x. cells_of b x.name ≡ map (xor_with x.initial) (x.cells z)) (lower_monitor g).sensors
  shown once z c b h = shown_each z b g.property.decls once h.cells

-- ---- a switch is loaded

cells_start : (n : ℕ) (w : ℕ) (start : Word) → start.width ≡ w → map (cell_value start) (cells n start) ≡ zero_cells w n
cells_start zero w start e = refl
cells_start (suc n) w start e = ap₂ (λ (u : Word) (us : List Word). u ∷ us) (ap₂ word e (xor_self start.value)) (cells_start n w start e)

shape_start :
    (s : Shape) (start : Word) → start.width ≡ sound_width (shape_width s) →
    map (cell_value start) (sensor_of_shape s start) ≡ zero_cells (sound_width (shape_width s)) (cell_count s)
shape_start (one t) start e = ap (λ (u : Word). u ∷ []) (ap₂ word e (xor_self start.value))
shape_start (list t n) start e = cells_start n (sound_width (width_of t)) start e
shape_start (set ks) start e = refl
shape_start (dict ks t) start e = refl

cells_there :
    (ds : List Decl) (x : List ℕ) (d : Decl) → AreOnce ds → lookup ds x ≡ Some d → d.kind ≡ Sensor →
    start_cells (registers_in ds) (sensor_name x) ≡ zero_cells (sound_width (shape_width d.shape)) (cell_count d.shape)
cells_there [] x d o is k = absurd (cc)
cells_there (e ∷ ds) x d o is k = go (same_text e.name x) refl is (cells_there ds x d o.1)
  where
    first :
        (kd : DeclKind) → kd ≡ Sensor → same_text e.name x ≡ true →
        start_cells (register_in kd e ++ registers_in ds) (sensor_name x) ≡ zero_cells (sound_width (shape_width e.shape)) (cell_count e.shape)
    first Tele q z = absurd (cc)
    first Sensor q z = ap (λ b. cond b (zero_cells (sound_width (shape_width e.shape)) (cell_count e.shape)) (start_cells (registers_in ds) (sensor_name x))) z
    first Header q z = absurd (cc)
    first Control q z = absurd (cc)

    past :
        (kd : DeclKind) → same_text e.name x ≡ false →
        start_cells (register_in kd e ++ registers_in ds) (sensor_name x) ≡ start_cells (registers_in ds) (sensor_name x)
    past Tele z = refl
    past Sensor z = ap (λ b. cond b (zero_cells (sound_width (shape_width e.shape)) (cell_count e.shape)) (start_cells (registers_in ds) (sensor_name x))) z
    past Header z = refl
    past Control z = refl

    go :
        (b : Bool) → same_text e.name x ≡ b → cond b (Some e) (lookup ds x) ≡ Some d →
        (lookup ds x ≡ Some d → d.kind ≡ Sensor → start_cells (registers_in ds) (sensor_name x) ≡ zero_cells (sound_width (shape_width d.shape)) (cell_count d.shape))
        → start_cells (register_in e.kind e ++ registers_in ds) (sensor_name x) ≡ zero_cells (sound_width (shape_width d.shape)) (cell_count d.shape)
    go true z i rest =
        (let same : e ≡ d = cc in
        first e.kind (ap (λ (f : Decl). f.kind) same ∙ k) z ∙ ap (λ (f : Decl). zero_cells (sound_width (shape_width f.shape)) (cell_count f.shape)) same)
    go false z i rest = past e.kind z ∙ rest i k

module _ (g : Given) (once : AreOnce g.property.decls) (numbered : AreNumbered 0 (lookups g)) where
  pub keeps_start :
      (c : ℕ → Contents) (b : Kept) → ((v : ℕ) → IsVariable g v → IsFitContents g v (c v)) → ((x : List ℕ) → is_sensor x ≡ true → b.registers x ≡ start_cells (lower_monitor g).registers x) →
      Keeps g (sensors_start g.property.decls) c (record b { tables = (lower_monitor g).controls.loaded c b.tables })
  keeps_start c b fits cells =
      let ds = g.property.decls in
      record {
        cells = λ x d is k.
            cells (sensor_name x) refl ∙ cells_there ds x d once is k
            ∙ sym (ap (λ o. map (cell_value (start_word d.start (shape_width d.shape))) (sensor_of_decl o)) is ∙ shape_start d.shape (start_word d.start (shape_width d.shape)) ((start_has d.start (shape_width d.shape)).width));
        shaped = λ x d is k. (starts_shaped ds).sensors x d is k;
        contents = fits_all g c fits;
        tables = loads_there ds (lookups g) c b.tables 0 numbered;
      }
