-- The monitor keeps the laws.
use Rattle.std.proofs.Common.{◌≡◌, ℕ, ◌<◌, ◌^◌, List, [], ◌∷◌, map, Bool, true, false, Some, None, refl, sym, ap, ◌∙◌, subst, arith}
use Rattle.std.specs.Prelude.{if◌then◌else◌, nat_eq, All}
use Rattle.std.specs.List.{AllByRecursion}
use Rattle.std.proofs.lemmas.List.Elements.{All-nil, All-cons}
use Rattle.lex_text.specs.Names.{same_text}
use Rattle.bit_values.specs.Bits.{Word}
use Rattle.p4_meaning.specs.Tables.{Table, table_named, Tables}
use Rattle.p4_meaning.specs.Pass.{Kept}
use Rattle.network_run.specs.NetworkRun.{put}
use Rattle.linkage.specs.Linkage.{SensorRegister, xor_with}
use Rattle.switch_machines.specs.Programs.{cells_of}
use Rattle.own_code.proofs.Apart.{text_decides}
use Rattle.monitor_laws.specs.MonitorLaws.{AreMonitorEntries, IsMonitorAction, MonitorLaws}
use Rattle.sample_monitor.specs.Property.{IsFit, AreByteViews, OnlyZero, AreBytes}
use Rattle.sample_monitor.specs.Sample.{Lookup, checks, starts, counter_name, entry_for, entries_for, table_for, both_holding, sample, kept_cell, SampleKeeps}
use Rattle.sample_monitor.proofs.Entry.{entry_does}
use Rattle.sample_monitor.proofs.Exit.{exit_does, exit_verdict}

-- a lookup's table runs its action or none
entries_named : (l : Lookup) (ks : List Word) → IsMonitorAction l.action → AllByRecursion (λ e. IsMonitorAction e.action) (map (entry_for l) ks)
entries_named l [] h = tt
entries_named l (k ∷ ks) h = (h, entries_named l ks h)

-- the names of the two tables
either_table : (x : List ℕ) (t : Table) → (P : List ℕ → Type 0) → P checks.table → P starts.table → table_named sample.tables x ≡ Some t → P x
either_table x t P one two is = go (same_text checks.table x) refl
  where
    last : (b : Bool) → same_text starts.table x ≡ b → (if b then Some (table_for starts) else None) ≡ Some t → P x
    last true e is = subst P ((text_decides starts.table x).0 e) two
    last false e is = absurd (cc)

    go : (b : Bool) → same_text checks.table x ≡ b → P x
    go true e = subst P ((text_decides checks.table x).0 e) one
    go false e = last (same_text starts.table x) refl (ap (λ b. if b then Some (table_for checks) else if same_text starts.table x then Some (table_for starts) else None) (sym e) ∙ is)

keeps_named : (z : List ℕ) (c : ℕ → List Word) (b : Kept) → SampleKeeps z c b → (x : List ℕ) (t : Table) → table_named sample.tables x ≡ Some t → AreMonitorEntries (b.tables x)
keeps_named z c b h x t is =
    either_table x t (λ x. AreMonitorEntries (b.tables x))
    (subst AreMonitorEntries (sym h.checked) (record { listed = entries_named checks (c 0) refl; default = refl }))
    (subst AreMonitorEntries (sym h.started) (record { listed = entries_named starts (c 0) refl; default = refl }))
    is

-- a set of the one variable changes both tables
keeps_set : (v : ℕ) (ks : List Word) (z : List ℕ) (c : ℕ → List Word) (b : Kept) → OnlyZero v → SampleKeeps z c b → SampleKeeps z (put c v ks) (record b { tables = sample.controls.set v ks b.tables })
keeps_set v ks z c b is h =
    subst (λ v. SampleKeeps z (put c v ks) (record b { tables = sample.controls.set v ks b.tables })) (sym is)
    (record { cells = h.cells; count = h.count; bytes = h.bytes; checked = refl; started = refl })

-- and no table of another name
holds_others : (ks : List Word) (held : Tables) (x : List ℕ) → table_named sample.tables x ≡ None → both_holding ks held x ≡ held x
holds_others ks held x out = go (same_text checks.table x) (same_text starts.table x) out
  where
    go : (a b : Bool) → (if a then Some (table_for checks) else if b then Some (table_for starts) else None) ≡ None
        → (if a then entries_for checks ks else if b then entries_for starts ks else held x) ≡ held x
    go true b e = absurd (cc)
    go false true e = absurd (cc)
    go false false e = refl

sets_others : (b : Bool) (ks : List Word) (held : Tables) (x : List ℕ) → table_named sample.tables x ≡ None → (if b then both_holding ks held else held) x ≡ held x
sets_others true ks held x out = holds_others ks held x out
sets_others false ks held x out = refl

-- the numbers in the counter's register
shown_cells : (z : List ℕ) → map (λ (w : Word). w.value) (map kept_cell z) ≡ map (xor_with 7) z
shown_cells [] = refl
shown_cells (n ∷ z) = ap (λ (ns : List ℕ). xor_with 7 n ∷ ns) (shown_cells z)

shown : (z : List ℕ) (c : ℕ → List Word) (b : Kept) → SampleKeeps z c b → All (λ (x : SensorRegister (List ℕ) (List ℕ)). cells_of b x.name ≡ map (xor_with x.initial) (x.cells z)) sample.sensors
shown z c b h =
    let P : SensorRegister (List ℕ) (List ℕ) → Type 0 = λ x. cells_of b x.name ≡ map (xor_with x.initial) (x.cells z) in
    All-cons P (record { name = counter_name; cells = λ z. z; initial = 7 }) [] (ap (λ ws. map (λ (w : Word). w.value) ws) h.cells ∙ shown_cells z) (All-nil P)

pub sample_laws : MonitorLaws sample IsFit SampleKeeps AreByteViews OnlyZero AreBytes
sample_laws =
    record {
      entry = λ calls held means r h t z first last fit s. entry_does calls held means r h t z s;
      exit = λ calls held means r h t z flags fit s. exit_does calls held means r h t z flags s;
      verdict = λ calls held means r h t z flags fit s is. exit_verdict calls held means r h t z flags s is;
      entry_keeps = λ s. (refl, (refl, (tt, (((refl, tt), tt), tt))));
      exit_keeps = λ s. (refl, (refl, (tt, (tt, (((refl, (refl, tt)), ((refl, (refl, tt)), (refl, (refl, tt)))), (tt, (((refl, (refl, (tt, (((refl, tt), tt), tt)))), tt), tt)))))));
      actions_keep = ((refl, tt), ((refl, tt), tt));
      marked = omega arith;
      fitting = λ t f. (f.width, subst (λ n. t.five.value < 2 ^ n) (sym f.width) f.low, (refl, omega arith, (f.count.width, subst (λ n. t.count.value < 2 ^ n) (sym f.count.width) f.count.low, (f.front.width, subst (λ n. t.front.value < 2 ^ n) (sym f.front.width) f.front.low, (f.back.width, subst (λ n. t.back.value < 2 ^ n) (sym f.back.width) f.back.low, tt)))));
      apart = ((refl, (refl, (refl, (refl, (refl, tt))))), ((refl, (refl, (refl, (refl, tt)))), ((refl, (refl, (refl, tt))), ((refl, (refl, tt)), ((refl, tt), (tt, tt))))));
      whole = refl;
      start_fits = record { width = refl; low = omega arith; count = record { width = refl; low = omega arith }; few = omega arith; front = record { width = refl; low = omega arith }; back = record { width = refl; low = omega arith } };
      start_zero = refl;
      entry_vars = (refl, (refl, tt));
      exit_vars = (refl, (refl, (refl, tt)));
      entry_apart = ((refl, tt), (tt, tt));
      exit_apart = ((refl, (refl, (refl, (refl, (refl, tt))))), ((refl, (refl, (refl, (refl, tt)))), ((refl, (refl, (refl, tt))), ((refl, (refl, tt)), ((refl, tt), (tt, tt))))));
      named = (refl, tt);
      actions_named = (refl, (refl, tt));
      tables_named = (refl, (refl, tt));
      views = ((refl, refl), tt);
      keeps_same = λ z c a b cells tables h. record { cells = cells counter_name refl ∙ h.cells; count = h.count; bytes = h.bytes; checked = tables checks.table refl ∙ h.checked; started = tables starts.table refl ∙ h.started };
      keeps_named = λ z c b h x t is. keeps_named z c b h x t is;
      keeps_start = λ c b fits cells. record { cells = cells counter_name refl; count = refl; bytes = (omega arith, (omega arith, (omega arith, (omega arith, tt)))); checked = refl; started = refl };
      keeps_set = λ v ks z c b is fits h. keeps_set v ks z c b is h;
      loads_others = λ c held x out. holds_others (c 0) held x out;
      sets_others = λ v ks held x out. sets_others (nat_eq v 0) ks held x out;
      shown = λ z c b h. shown z c b h;
    }
