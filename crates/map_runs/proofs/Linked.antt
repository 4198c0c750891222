-- The law of numbers: the monitor's tables and actions have their places in a linked program under their names.
use Rattle.std.proofs.Common.{◌≡◌, ℕ, List, [], ◌∷◌, map, Some, refl, ap, ap₂, ◌∙◌}
use Rattle.std.specs.List.{AllByRecursion}
use Rattle.std.specs.Option.{option_map}
use Rattle.indus_tree.specs.Tree.{Property}
use Rattle.indus_tree.specs.State.{Contents, Held}
use Rattle.indus_tree.specs.Hops.{variable_number}
use Rattle.p4_tree.specs.Tree.{Program}
use Rattle.p4_meaning.specs.Actions.{action_named}
use Rattle.p4_meaning.specs.Tables.{table_named}
use Rattle.p4_meaning.specs.Parts.{parts_of}
use Rattle.network_run.specs.Network.{Wiring}
use Rattle.switch_machines.specs.Programs.{ports_at}
use Rattle.own_programs.proofs.Names.{full_mine}
use Rattle.packet_lengths.specs.Lengths.{plain_action, plain_table}
use Rattle.lookup_names.specs.Names as plain
use Rattle.lowered_code.specs.Names.{table_name, action_name}
use Rattle.lookup_tables.specs.Tables.{Lookup, table_for, action_for}
use Rattle.lookup_tables.proofs.Named.{table_there, action_there}
use Rattle.linked_programs.specs.Linked.{control_roots}
use Rattle.linked_programs.specs.Gives.{GivesMonitor}
use Rattle.linked_hosts.specs.Linkable as hosts
use Rattle.linked_hosts.specs.Linkable.{Linkable, HasOwnRoots}
use Rattle.linked_hosts.proofs.OwnRoots.{linkable_has_own_roots}
use Rattle.linked_rules.specs.Form.{Stand}
use Rattle.linked_rules.proofs.NamesStand.{tables_stand}
use Rattle.tree_linkage.specs.Trees.{CanLink, linked_form, linked_trees}
use Rattle.tree_linkage.proofs.Theorem.{linked_form_is_given}
use Rattle.whole_properties.specs.Whole.{Given, lookups, lower_monitor}
use Rattle.whole_properties.specs.Asked.{IsGiven}
use Rattle.whole_properties.proofs.Facts.{lookups_numbered}
use Rattle.monitor_trees.specs.Trees.{halves_of}
use Rattle.monitor_trees.proofs.Promised.{gives_monitor}
use Rattle.link_faults.proofs.NoFault.{no_fault_says}
use Rattle.faultless_programs.proofs.Given.{no_fault_can_link}
use Rattle.linked_properties.specs.Linked.{CanBeLinked, given_in, trees_in}
use Rattle.linked_properties.proofs.Linked.{faultless_is_given}
use Rattle.control_maps.specs.Maps as maps
use Rattle.control_maps.specs.Numbers.{named_in}
use Rattle.carried_entries.specs.Forms.{number_or}
use Rattle.carried_entries.proofs.Stands.{found_stands}
use Rattle.carried_entries.proofs.Forms.{row_of, map_is, name_at}
use Rattle.map_runs.specs.Named.{lookup_named}
use Rattle.map_runs.specs.Linked.{NumbersAreLookups}

module _ (property : Property) (f : Program) (room : ℕ) (can : CanBeLinked property f room) (k : Linkable (linked_form f)) (net : Wiring) (s : ℕ) where
  abbrev g : Given
  g = given_in property f k

  abbrev q : Program
  q = linked_trees (trees_in property f k) (lower_monitor g) f net s

  can_link : CanLink f
  can_link = no_fault_can_link f can.typed can.spelled ((no_fault_says f property room).0 can.faultless).names

  host : hosts.IsGiven (linked_form f)
  host = linked_form_is_given f can_link

  given : IsGiven g
  given = faultless_is_given property f room can k

  own_roots : HasOwnRoots (linked_form f) k
  own_roots = linkable_has_own_roots (linked_form f) k

  gives : GivesMonitor (trees_in property f k) (lower_monitor g) (halves_of g) k.ingress.name k.egress.name (control_roots k.ingress) (control_roots k.egress)
  gives = gives_monitor g given (control_roots k.ingress) (control_roots k.egress) own_roots.ingress own_roots.egress

  stand : Stand (lower_monitor g) (linked_form f) q
  stand = tables_stand Held Held Contents (trees_in property f k) (lower_monitor g) (halves_of g) (linked_form f) host k gives s (ports_at net.links s)

  -- among the monitor's own
  abbrev HasTable : Lookup → Type 0
  HasTable l = table_named (map table_for (lookups g)) (table_name l.control l.number) ≡ Some (table_for l)

  abbrev HasAction : Lookup → Type 0
  HasAction l = action_named (map action_for (lookups g)) (action_name l.control l.number) ≡ Some (action_for l)

  named_row : (l : Lookup) → HasTable l → HasAction l → named_in (parts_of q) (row_of (parts_of q) property l) ≡ lookup_named property l
  named_row l t a =
      (let x = table_name l.control l.number in
      let y = action_name l.control l.number in
      let there = stand.monitor_tables x (full_mine l.control (plain.table_name l.number)) ∙ ap (option_map plain_table) t in
      let acts = stand.monitor_actions y (full_mine l.control (plain.action_name l.number)) ∙ ap (option_map plain_action) a in
      ap₂ (λ (i j : List ℕ). (let n : maps.Lookup = record { table = i; action = j; variable = number_or (variable_number property.decls l.decl.name) } in n))
      (name_at (parts_of q).tables x (plain_table (table_for l)) there) (found_stands (parts_of q).actions y (plain_action (action_for l)) acts))

  named_rows : (ls : List Lookup) → AllByRecursion HasTable ls → AllByRecursion HasAction ls → map (named_in (parts_of q)) (map (row_of (parts_of q) property) ls) ≡ map (lookup_named property) ls
  named_rows [] t a = refl
  named_rows (l ∷ ls) t a = ap₂ (λ (n : maps.Lookup) (ns : List maps.Lookup). n ∷ ns) (named_row l t.0 a.0) (named_rows ls t.1 a.1)

  all_named : map (named_in (parts_of q)) (map (row_of (parts_of q) property) (lookups g)) ≡ map (lookup_named property) (lookups g)
  all_named =
      (let rise = lookups_numbered g given in
      named_rows (lookups g) (table_there 0 (lookups g) rise) (action_there 0 (lookups g) rise))

pub numbers_are_lookups : NumbersAreLookups
numbers_are_lookups property f room can k net s =
    (let g = given_in property f k in
    let q = linked_trees (trees_in property f k) (lower_monitor g) f net s in
    ap (map (named_in (parts_of q))) (map_is (parts_of q) g) ∙ all_named property f room can k net s)
