-- What a property lowers to keeps all laws of a monitor.
use Rattle.std.proofs.Common.{◌≡◌, ℕ, zero, suc, ◌+◌, ◌-◌, ◌*◌, ◌<◌, List, [], ◌∷◌, ◌++◌, map, Bool, true, false, Option, refl, sym, ap, ◌∙◌, subst, arith, if◌then◌else◌, nat_eq}
use Rattle.std.specs.List.{AllByRecursion}
use Rattle.lex_text.specs.Names.{same_text}
use Rattle.p4_tree.specs.Tree.{next, done}
use Rattle.p4_meaning.specs.Parsing.{Field, width_sum}
use Rattle.indus_tree.specs.Tree.{Decl, Property}
use Rattle.indus_tree.specs.Start.{tele_start, start_of_decl}
use Rattle.indus_tree.specs.declared.tree.DeclKind.{DeclKind}
use Rattle.indus_tree.specs.declared.tree.DeclKind.TheVariants.{Tele, Sensor, Header, Control}
use Rattle.indus_tree.proofs.ShapesLemmas.{starts_shaped}
use Rattle.own_code.specs.Regions.{is_mine}
use Rattle.packet_lengths.specs.Lengths.{KeepsAction}
use Rattle.monitor_laws.specs.Names.{first_name, last_name, rejected_name, is_lowered, is_sensor}
use Rattle.monitor_laws.specs.Telemetry.{AreApart, zeros}
use Rattle.monitor_laws.specs.Monitor.{fields_of}
use Rattle.monitor_laws.specs.MonitorLaws.{MonitorLaws}
use Rattle.lookup_names.specs.Names.{found_name, key_name}
use Rattle.lowered_code.specs.Names.{argument_name}
use Rattle.lowered_code.specs.Environment.{on_switch}
use Rattle.lowered_code.specs.Statements.{Var, block_code, block_end, block_numbers, vars_in}
use Rattle.lowered_code.proofs.Rising.{block_read, reads_both}
use Rattle.lowered_code.proofs.Served.{vars_both}
use Rattle.lowered_code.proofs.Variables.{each_name, vars_apart}
use Rattle.lowered_code.proofs.Lengths.{both_keep, block_keeps}
use Rattle.lookup_tables.specs.Tables.{Lookup, table_for, action_for}
use Rattle.lookup_tables.specs.Finding.{IsSpare}
use Rattle.whole_properties.specs.Whole.{Given, tele_fields, tele_room, fill_field, fill_fields, register_in, registers_in, decls, init, tele, check, tele_first, check_first, lookups, checks, lower_monitor, IsFitTele, Keeps, IsVariable, IsFitContents}
use Rattle.whole_properties.specs.Asked.{IsGiven, FitsView}
use Rattle.whole_properties.proofs.TelemetryWords.{tele_zero, zeros_both}
use Rattle.whole_properties.proofs.Facts.{once, few_parts, fitting, apart, few, few_tele, lookups_numbered}
use Rattle.whole_properties.proofs.Kept.{loads_others, sets_others, keeps_same, keeps_named, keeps_set, keeps_start, shown}
use Rattle.whole_properties.proofs.Entry.{entry_does}
use Rattle.whole_properties.proofs.Exit.{exit_does, exit_verdict}

-- ---- names

vars_as_fields :
    (P : List ℕ → Type 0) (vs : List Var) → AllByRecursion (λ l. P l.1) vs →
    AllByRecursion (λ f. P f.name) (fields_of vs)
vars_as_fields P [] h = tt
vars_as_fields P (v ∷ vs) h = (h.0, vars_as_fields P vs h.1)

actions_named : (ls : List Lookup) → AllByRecursion (λ a. is_mine a.name ≡ true) (map action_for ls)
actions_named [] = tt
actions_named (l ∷ ls) = (refl, actions_named ls)

tables_named : (ls : List Lookup) → AllByRecursion (λ t. is_mine t.name ≡ true) (map table_for ls)
tables_named [] = tt
tables_named (l ∷ ls) = (refl, tables_named ls)

registers_named : (ds : List Decl) → AllByRecursion (λ c. is_sensor c.name ≡ true) (registers_in ds)
registers_named [] = tt
registers_named (d ∷ ds) = go d.kind (registers_named ds)
  where
    go :
        (k : DeclKind) → AllByRecursion (λ c. is_sensor c.name ≡ true) (registers_in ds) →
        AllByRecursion (λ c. is_sensor c.name ≡ true) (register_in k d ++ registers_in ds)
    go Tele h = h
    go Sensor h = (refl, h)
    go Header h = h
    go Control h = h

actions_keep : (ls : List Lookup) → AllByRecursion KeepsAction (map action_for ls)
actions_keep [] = tt
actions_keep (l ∷ ls) = ((refl, tt), actions_keep ls)

-- ---- whole bytes

sum_both : (fs gs : List Field) → width_sum (fs ++ gs) ≡ width_sum fs + width_sum gs
sum_both [] gs = omega arith
sum_both (f ∷ fs) gs = let r = sum_both fs gs in omega (arith, r)

fill_sum : (w : ℕ) → width_sum (fill_field w) ≡ w
fill_sum zero = refl
fill_sum (suc w) = omega arith

whole_bytes : (fs : List Field) → width_sum (fs ++ fill_fields fs) ≡ (tele_room fs - 1) * 8
whole_bytes fs =
    let both = sum_both fs (fill_fields fs) in
    let fill = fill_sum (tele_room fs * 8 - (8 + width_sum fs)) in
    omega (arith, both, fill)

first_byte_low : (b : Bool) → (if b then 73 else 72) < 256
first_byte_low true = omega arith
first_byte_low false = omega arith

module _ (g : Given) (i : IsGiven g) where
  abbrev ds : List Decl
  ds = decls g

  abbrev p : Property
  p = g.property

  -- ---- variables

  -- what holds of all names of variables of reads holds of those of the two parts
  entry_each :
      (P : List ℕ → Type 0) → ((n : ℕ) → P (found_name n)) → ((n j : ℕ) → P (key_name n j)) →
      AllByRecursion (λ l. P l.1) (lower_monitor g).entry_locals
  entry_each P found key = each_name P found key ds (block_numbers ds (init g) 0)

  abbrev exit_numbers : List (ℕ × Option Decl)
  exit_numbers = block_numbers ds (tele g) (tele_first g) ++ block_numbers ds (check g) (check_first g)

  exit_are : vars_in exit_numbers ≡ (lower_monitor g).exit_locals
  exit_are = vars_both ds (block_numbers ds (tele g) (tele_first g)) (block_numbers ds (check g) (check_first g))

  exit_each :
      (P : List ℕ → Type 0) → ((n : ℕ) → P (found_name n)) → ((n j : ℕ) → P (key_name n j)) →
      AllByRecursion (λ l. P l.1) (lower_monitor g).exit_locals
  exit_each P found key = subst (AllByRecursion (λ l. P l.1)) exit_are (each_name P found key ds exit_numbers)

  -- no flag has a variable's name
  flag_apart :
      (x : List ℕ) → ((n : ℕ) → same_text x (found_name n) ≡ false) → ((n j : ℕ) → same_text x (key_name n j) ≡ false) →
      AllByRecursion (λ f. same_text x f.name ≡ false) (fields_of (lower_monitor g).exit_locals)
  flag_apart x found key = vars_as_fields (λ y. same_text x y ≡ false) (lower_monitor g).exit_locals (exit_each (λ y. same_text x y ≡ false) found key)

  exit_apart : AreApart (fields_of (lower_monitor g).exit_locals)
  exit_apart =
      subst (λ vs. AreApart (fields_of vs)) exit_are
      (vars_apart ds (few_parts g i) (tele_first g) (block_end ds (check g) (check_first g)) exit_numbers (few g i)
      (reads_both ds (tele_first g) (check_first g) (block_end ds (check g) (check_first g)) (block_numbers ds (tele g) (tele_first g)) (block_numbers ds (check g) (check_first g)) (block_read ds (tele g) (tele_first g)) (block_read ds (check g) (check_first g))))

  entry_spare : (l : Lookup) → IsSpare (lower_monitor g).entry_locals l
  entry_spare l = entry_each (λ x. same_text (argument_name l.control l.number) x ≡ false) (λ n. refl) (λ n j. refl)

  exit_spare : (l : Lookup) → IsSpare (lower_monitor g).exit_locals l
  exit_spare l = exit_each (λ x. same_text (argument_name l.control l.number) x ≡ false) (λ n. refl) (λ n j. refl)

  -- ---- all laws

  pub laws : MonitorLaws (lower_monitor g) (IsFitTele g) (Keeps g) (FitsView g) (IsVariable g) (IsFitContents g)
  laws =
      record {
        entry = λ calls held means r h t z first last fits s. entry_does g i calls held means entry_spare r h t z s fits;
        exit = λ calls held means r h t z flags fits s. exit_does g i calls held means exit_spare r h t z s fits flags;
        verdict = λ calls held means r h t z flags fits s last. exit_verdict g i calls held means exit_spare r h t z s fits flags last;
        entry_keeps = λ s. block_keeps (on_switch s g.ingress) (λ x. refl) ds (init g) 0;
        exit_keeps = λ s.
            both_keep (block_code (on_switch s g.egress) ds (tele g) (tele_first g)) (next (checks g s) done) (block_keeps (on_switch s g.egress) (λ x. refl) ds (tele g) (tele_first g))
            (((refl, block_keeps (on_switch s g.egress) (λ x. refl) ds (check g) (check_first g)), tt), tt);
        actions_keep = actions_keep (lookups g);
        marked = first_byte_low (nat_eq p.edition 2);
        fitting = fitting g i;
        apart = apart g i;
        whole = whole_bytes (tele_fields ds);
        start_fits = λ x d is k. (starts_shaped p.decls).tele x d is k;
        start_zero =
            ap (λ ws. ws ++ zeros (fill_fields (tele_fields ds))) (tele_zero p.decls 0 (tele_start p.decls) (once g i) (λ x d is k. ap start_of_decl is))
            ∙ sym (zeros_both (tele_fields ds) (fill_fields (tele_fields ds)));
        entry_vars = vars_as_fields (λ x. is_lowered (x ∷ []) ≡ true) (lower_monitor g).entry_locals (entry_each (λ x. is_lowered (x ∷ []) ≡ true) (λ n. refl) (λ n j. refl));
        exit_vars = vars_as_fields (λ x. is_lowered (x ∷ []) ≡ true) (lower_monitor g).exit_locals (exit_each (λ x. is_lowered (x ∷ []) ≡ true) (λ n. refl) (λ n j. refl));
        entry_apart = vars_apart ds (few_parts g i) 0 (tele_first g) (block_numbers ds (init g) 0) (few_tele g i) (block_read ds (init g) 0);
        exit_apart = (
          (refl, (refl, flag_apart first_name (λ n. refl) (λ n j. refl))),
          ((refl, flag_apart last_name (λ n. refl) (λ n j. refl)), (flag_apart rejected_name (λ n. refl) (λ n j. refl), exit_apart)),
        );
        named = registers_named p.decls;
        actions_named = actions_named (lookups g);
        tables_named = tables_named (lookups g);
        views = i.own_views;
        keeps_same = λ z c a b cells tables k. keeps_same g z c a b cells tables k;
        keeps_named = λ z c b k x t is. keeps_named g z c b k x t is;
        keeps_start = λ c b fits cells. keeps_start g (once g i) (lookups_numbered g i) c b fits cells;
        keeps_set = λ v k z c b is f h. keeps_set g (lookups_numbered g i) v k z c b is f h;
        loads_others = λ c held x none. loads_others p.decls (lookups g) c held x none;
        sets_others = λ v k held x none. sets_others p.decls (lookups g) v k held x none;
        shown = λ z c b k. shown g (once g i) z c b k;
      }
