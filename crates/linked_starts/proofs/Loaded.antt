-- The law: the linked program of each switch can be loaded, with the map that the property lowers to.
use Rattle.std.proofs.Common.{◌≡◌, ℕ, ◌<◌, ◌^◌, List, [], ◌∷◌, map, Bool, true, false, Option, Some, None, refl, sym, ap, ◌∙◌, subst}
use Rattle.std.specs.Prelude.{is_some}
use Rattle.std.specs.List.{AllByRecursion}
use Rattle.std.specs.Option.{option_map}
use Rattle.lex_text.specs.Names.{same_text}
use Rattle.indus_tree.specs.Tree.{Property}
use Rattle.p4_parser_states.specs.Laws.{ReachesIsExact}
use Rattle.p4_tree.specs.Tree.{Program}
use Rattle.p4_meaning.specs.Tables.{Table, table_named}
use Rattle.p4_meaning.specs.Parts.{Parts, parts_of}
use Rattle.p4_rules.specs.ProgramRules.{IsWellTyped}
use Rattle.exit_programs.specs.Programs.{program_without}
use Rattle.exit_programs.specs.Without.{parts_without}
use Rattle.exit_programs.proofs.Agreed.{parts_agree}
use Rattle.exit_rules.proofs.WellTyped.{stays_well_typed}
use Rattle.exit_lowering.proofs.Places.{verify_stays, compute_stays, deparser_stays}
use Rattle.network_run.specs.Network.{Wiring}
use Rattle.own_code.specs.Regions.{is_mine}
use Rattle.own_programs.proofs.Names.{broken, own_not}
use Rattle.packet_lengths.specs.Lengths.{plain_table}
use Rattle.p4_tables.specs.Programs.{state_before}
use Rattle.p4_tables.specs.Carried.{is_table}
use Rattle.linked_hosts.specs.Linkable.{Linkable}
use Rattle.parted_programs.proofs.SameParts.{parted_has_same_parts}
use Rattle.linked_rules.specs.Form.{Stand}
use Rattle.tree_linkage.specs.Trees.{CanLink, linked_form, linked_trees}
use Rattle.lowered_code.specs.Names as code
use Rattle.lookup_tables.specs.Tables.{Lookup}
use Rattle.whole_properties.specs.Whole.{Given, lookups, lower_monitor}
use Rattle.control_maps.specs.Numbers.{Numbered, IsMapOf}
use Rattle.link_faults.proofs.NoFault.{no_fault_says}
use Rattle.faultless_programs.proofs.Given.{no_fault_can_link}
use Rattle.linked_properties.specs.Linked.{CanBeLinked, given_in, trees_in}
use Rattle.linked_properties.proofs.Linked.{faultless_is_given}
use Rattle.carried_entries.specs.Forms.{map_in, HaveWritten}
use Rattle.carried_entries.proofs.Forms.{row_of, map_is, table_mine, monitor_tables_have_form}
use Rattle.carried_entries.proofs.Places as places
use Rattle.carried_entries.proofs.Stands.{HasIts}
use Rattle.loaded_tables.specs.Rows.{Row, row_name, numbered_rows}
use Rattle.linked_starts.specs.Starts.{AreRowsOf, CanBeLoaded, LinkedCanBeLoaded}
use Rattle.linked_starts.proofs.Lookups.{IsFound, all_found}
use Rattle.linked_starts.proofs.Rows.{AreRows, rows_stand, all_numbered, all_declared, there_if_found, some_plain, none_looked_up, all_new}

-- tables have the defaults that are written for them before anything is loaded
as_written : (q : Program) (ns : List Numbered) → HaveWritten q (state_before q) ns
as_written q [] = tt
as_written q (n ∷ ns) = (refl, as_written q ns)

module _ (exact : ReachesIsExact) (property : Property) (f : Program) (room : ℕ) (can : CanBeLinked property f room) (k : Linkable (linked_form f)) (net : Wiring) (s : ℕ) (small : s < 2 ^ 16) (rows : List Row) (of : AreRowsOf (given_in property f k) rows) where
  abbrev g : Given
  g = given_in property f k

  abbrev q : Program
  q = linked_trees (trees_in property f k) (lower_monitor g) f net s

  stand_for : AreRows property (lookups g) rows
  stand_for = rows_stand g rows of

  found : AllByRecursion (IsFound property.decls) (lookups g)
  found = all_found g (faultless_is_given property f room can k)

  formed : IsMapOf (parts_of q) (state_before q) (map (row_of (parts_of q) property) (lookups g))
  formed =
      subst (IsMapOf (parts_of q) (state_before q)) (map_is (parts_of q) g)
      (monitor_tables_have_form exact property f room can k net s small (state_before q) (record { same = refl }) (as_written q (map_in (parts_of q) g)))

  numbered : numbered_rows q property.decls rows ≡ map (row_of (parts_of q) property) (lookups g)
  numbered = all_numbered q property (lookups g) rows found stand_for formed

  -- the rows by numbers are the whole map
  pub rows_are_map : numbered_rows q property.decls rows ≡ map_in (parts_of q) g
  rows_are_map = numbered ∙ sym (map_is (parts_of q) g)

  is_map : IsMapOf (parts_of q) (state_before q) (numbered_rows q property.decls rows)
  is_map = subst (IsMapOf (parts_of q) (state_before q)) (sym numbered) formed

  -- ---- tables of the given program

  its : HasIts f q
  its = places.has exact property f room can k net s small

  none_given : (l : Lookup) → is_table (parts_of f).tables (code.table_name l.control l.number) ≡ false
  none_given l = there_if_found (parts_of f).tables (code.table_name l.control l.number) ∙ go (table_named (parts_of f).tables (code.table_name l.control l.number)) refl
    where
      go : (o : Option Table) → table_named (parts_of f).tables (code.table_name l.control l.number) ≡ o → is_some o ≡ false
      go None e = refl
      go (Some t) e = (let own = its.own_tables (code.table_name l.control l.number) t e in broken (sym (table_mine l.control l.number) ∙ own_not (code.table_name l.control l.number) own))

  -- ---- tables of the linked program

  stand : Stand (lower_monitor g) (linked_form f) q
  stand = places.stand exact property f room can k net s small

  can_link : CanLink f
  can_link = no_fault_can_link f can.typed can.spelled ((no_fault_says f property room).0 can.faultless).names

  well_without : IsWellTyped (program_without f)
  well_without = stays_well_typed f can.typed can_link.program.given

  -- the parts of what is linked
  same : parts_of (linked_form f) ≡ parts_without f
  same = parted_has_same_parts (program_without f) well_without ∙ parts_agree f can.typed can_link.program.given (verify_stays f can.typed) (compute_stays f can.typed) (deparser_stays f can.typed)

  -- a table whose name is no monitor's is the given program's
  other_table : (x : List ℕ) → is_mine x ≡ false → is_table (parts_of q).tables x ≡ is_table (parts_of f).tables x
  other_table x other =
      there_if_found (parts_of q).tables x
      ∙ (ap is_some (stand.tables x other)
      ∙ (some_plain (table_named (parts_of (linked_form f)).tables x) ∙ (ap (λ (p : Parts). is_some (table_named p.tables x)) same ∙ sym (there_if_found (parts_of f).tables x))))

  -- one whose name is a monitor's and no row's is not there
  no_table : (x : List ℕ) → is_mine x ≡ true → AllByRecursion (λ (r : Row). same_text (row_name r) x ≡ false) rows → is_table (parts_of q).tables x ≡ false
  no_table x mine none =
      there_if_found (parts_of q).tables x
      ∙ (ap is_some (stand.monitor_tables x mine) ∙ ap (λ (o : Option Table). is_some (option_map plain_table o)) (none_looked_up property (lookups g) rows x stand_for none))

  adds_only : (x : List ℕ) → AllByRecursion (λ (r : Row). same_text (row_name r) x ≡ false) rows → is_table (parts_of q).tables x ≡ true → is_table (parts_of f).tables x ≡ true
  adds_only x none there = go (is_mine x) refl
    where
      go : (b : Bool) → is_mine x ≡ b → is_table (parts_of f).tables x ≡ true
      go true mine = broken (sym there ∙ no_table x mine none)
      go false other = sym (other_table x other) ∙ there

  pub can_be_loaded : CanBeLoaded f q property.decls rows
  can_be_loaded =
      record {
        map = record { map = is_map; declared = all_declared property (lookups g) rows stand_for };
        new = all_new property (parts_of f).tables none_given (lookups g) rows stand_for;
        own = adds_only;
      }

pub linked_can_be_loaded : ReachesIsExact → LinkedCanBeLoaded
linked_can_be_loaded exact property f room can k net s small rows of = can_be_loaded exact property f room can k net s small rows of
