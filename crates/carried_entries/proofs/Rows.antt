-- No table of the given program has the place of a table of the monitor's map.
use Rattle.std.proofs.Common.{◌≡◌, ◌≢◌, List, [], ◌∷◌, map, true, false, Some, sym, ap, ◌∙◌, subst}
use Rattle.std.specs.List.{AllByRecursion}
use Rattle.std.specs.Option.{option_map}
use Rattle.indus_tree.specs.Tree.{Property}
use Rattle.p4_parser_states.specs.Laws.{ReachesIsExact}
use Rattle.p4_tree.specs.Tree.{Program}
use Rattle.p4_meaning.specs.Tables.{Table, table_named}
use Rattle.p4_meaning.specs.Parts.{parts_of}
use Rattle.own_code.specs.Regions.{is_mine}
use Rattle.own_programs.specs.OwnPrograms.{is_own}
use Rattle.own_programs.proofs.Names.{broken, own_not}
use Rattle.packet_lengths.specs.Lengths.{plain_table}
use Rattle.p4_tables.specs.Named.{table_place}
use Rattle.lookup_tables.specs.Tables.{Lookup, table_for}
use Rattle.lowered_code.specs.Names as code
use Rattle.tree_linkage.specs.Trees.{linked_trees}
use Rattle.whole_properties.specs.Whole.{lookups, lower_monitor}
use Rattle.control_maps.specs.Numbers as numbers
use Rattle.linked_properties.specs.Linked.{given_in, trees_in}
use Rattle.carried_entries.specs.Rows.{MissTables, MonitorTablesAreApart}
use Rattle.carried_entries.proofs.Apart.{tables_apart, each_named}
use Rattle.carried_entries.proofs.Stands.{HasIts}
use Rattle.carried_entries.proofs.Places.{has}
use Rattle.carried_entries.proofs.Forms.{row_of, map_is, table_mine, name_at, IsKnown, all_known}

module _ (f q : Program) (its : HasIts f q) (p : Property) where
  -- a table of the given program has an own name
  one_apart : (l : Lookup) → IsKnown q l → (t : Table) → table_named (parts_of f).tables t.name ≡ Some t → table_place (parts_of q).tables t.name ≢ (row_of (parts_of q) p l).table
  one_apart l known t named e =
      (let own : is_own t.name ≡ true = its.own_tables t.name t named in
      let here : table_named (parts_of q).tables t.name ≡ Some (plain_table t) = its.tables t.name own ∙ ap (option_map plain_table) named in
      let same : t.name ≡ code.table_name l.control l.number =
      sym (name_at (parts_of q).tables t.name (plain_table t) here) ∙ (ap (numbers.table_name (parts_of q).tables) e ∙ name_at (parts_of q).tables (code.table_name l.control l.number) (plain_table (table_for l)) known.table) in
      let mine : true ≡ false = sym (table_mine l.control l.number) ∙ (ap is_mine (sym same) ∙ own_not t.name own) in
      broken mine)

  each_apart : (l : Lookup) → IsKnown q l → (ts : List Table) → AllByRecursion (λ (t : Table). table_named (parts_of f).tables t.name ≡ Some t) ts → AllByRecursion (λ (t : Table). table_place (parts_of q).tables t.name ≢ (row_of (parts_of q) p l).table) ts
  each_apart l known [] h = tt
  each_apart l known (t ∷ ts) h = (one_apart l known t h.0, each_apart l known ts h.1)

  all_apart : (ls : List Lookup) → AllByRecursion (IsKnown q) ls → AllByRecursion (λ (t : Table). table_named (parts_of f).tables t.name ≡ Some t) (parts_of f).tables → MissTables (parts_of f) (parts_of q) (map (row_of (parts_of q) p) ls)
  all_apart [] k h = tt
  all_apart (l ∷ ls) k h = (each_apart l k.0 (parts_of f).tables h, all_apart ls k.1 h)

pub monitor_tables_are_apart : ReachesIsExact → MonitorTablesAreApart
monitor_tables_are_apart exact property f room can k net s small =
    (let g = given_in property f k in
    let q = linked_trees (trees_in property f k) (lower_monitor g) f net s in
    let its = has exact property f room can k net s small in
    subst (MissTables (parts_of f) (parts_of q)) (sym (map_is (parts_of q) g))
    (all_apart f q its property (lookups g) (all_known exact property f room can k net s small) (each_named (parts_of f).tables (tables_apart f its.typed its.plain (parts_of f).actions))))
