-- The laws, at each switch.
use Rattle.std.proofs.Common.{◌≡◌, ℕ, suc, ◌+◌, ◌<◌, ◌≤◌, ◌^◌, List, length, map, Option, Some, ap, ◌∙◌, arith}
use Rattle.std.specs.Prelude.{slice_get}
use Rattle.std.proofs.lemmas.List.FromFn.{length-map-range_with_len}
use Rattle.std.proofs.lemmas.Option.{slice_get_within}
use Rattle.indus_tree.specs.Tree.{Property}
use Rattle.p4_tree.specs.Tree.{Program}
use Rattle.p4_parser_states.specs.Laws.{ReachesIsExact}
use Rattle.p4_rules.specs.ProgramRules.{IsWellTyped}
use Rattle.p4_printer.specs.CanSpell.{CanSpell}
use Rattle.p4_typing_laws.specs.Plain.{IsPlain, HavePlainNames, HavePlainValues}
use Rattle.exit_programs.specs.Names.{HasPlainNames}
use Rattle.exit_names.proofs.Names.{tops_names}
use Rattle.exit_rewriting.proofs.Plain.{plain_if_spelled}
use Rattle.network_file.specs.Network.{Network}
use Rattle.network_file.specs.Wiring.{wiring_of}
use Rattle.switch_machines.specs.Programs.{ports_at}
use Rattle.whole_properties.specs.Whole.{lower_monitor}
use Rattle.linked_properties.specs.Linked.{AreTextNames, given_in}
use Rattle.carried_entries.proofs.Places.{entries_have_places}
use Rattle.linked_starts.specs.Starts.{found_row}
use Rattle.linked_starts.proofs.Loaded.{linked_can_be_loaded}
use Rattle.rewriting_laws.specs.Standing.{MayStandFor}
use Rattle.rewritten_programs.specs.Rewritten.{ProgramRewritten}
use Rattle.rewriting_rules.proofs.Programs.{stays_well_typed}
use Rattle.rewriting_rules.proofs.Spelled.{stays_spelled}
use Rattle.rewriting_passages.proofs.Passages.{passages_stay}
use Rattle.rewriting_tables.specs.Tables.{SameTables}
use Rattle.rewriting_tables.proofs.Before.{tables_stay}
use Rattle.program_linker.specs.Simpler.{AreSimplyLinked}
use Rattle.simplified_links.specs.Laws.{linked_tree, DoesTheSame, SimplyLinkedCanBeLoaded, SimplyLinkedStand}
use Rattle.simplified_links.proofs.Lists.{zip_long, zip_at, at_number}
use Rattle.simplified_links.proofs.Tables.{can_stays, stands_stays}

module _ (f : Program) (property : Property) (net : Network) (few : length net.names ≤ 256) (programs : List Program) (rows : List (List ℕ × (List ℕ × Option ℕ))) (are : AreSimplyLinked f property net programs rows) where
  abbrev tree : ℕ → Program
  tree s = linked_tree f property net are.linked s

  -- there are as many as switches
  pub count : length programs ≡ length net.names
  count =
      zip_long (ProgramRewritten MayStandFor) are.exact programs are.stand
      ∙ (ap (λ (ps : List Program). length ps) are.linked.trees ∙ length-map-range_with_len tree 0 (length net.names))

  module _ (s : ℕ) (q : Program) (there : slice_get programs s ≡ Some q) where
    low : s < length net.names
    low = (let lt = slice_get_within programs s q there in let n = count in omega (arith, lt, n))

    exact_there : slice_get are.exact s ≡ Some (tree s)
    exact_there =
        ap (λ (ps : List Program). slice_get ps s) are.linked.trees
        ∙ (at_number tree 0 (length net.names) s low ∙ ap (λ (n : ℕ). Some (tree n)) (let same : 0 + s ≡ s = omega arith in same))

    rewritten : ProgramRewritten MayStandFor (tree s) q
    rewritten = zip_at (ProgramRewritten MayStandFor) are.exact programs are.stand s (tree s) q exact_there there

    small : s < 2 ^ 16
    small = (let lt = low in omega (arith, lt, few))

    typed : IsWellTyped (tree s)
    typed = are.linked.linked.typed (suc (lower_monitor (given_in property f are.linked.controls)).room) s (ports_at (wiring_of net).links s) small

    module _ (names : AreTextNames property.decls) where
      spelled : CanSpell (tree s)
      spelled = are.linked.linked.spelled names s (let lt = low in omega (arith, lt, few))

      plain : HasPlainNames (tree s)
      plain = plain_if_spelled (tree s) spelled

      plain_names : HavePlainNames (tree s).tops
      plain_names = tops_names IsPlain (λ x. Unit {0}) (λ x h. h) (λ x h. tt) (tree s).tops plain.tops

      plain_values : HavePlainValues (tree s).tops
      plain_values = tops_names (λ x. Unit {0}) IsPlain (λ x h. tt) (λ x h. h) (tree s).tops plain.tops

      tables : SameTables (tree s) q
      tables = tables_stay (tree s) q rewritten typed plain_names plain_values

      does_the_same : DoesTheSame (tree s) q
      does_the_same =
          record {
            typed = stays_well_typed (tree s) q rewritten typed;
            spelled = stays_spelled (tree s) q rewritten spelled;
            stands = passages_stay (tree s) q rewritten typed plain_names plain_values;
            tables = tables;
          }

pub simply_linked_stand : SimplyLinkedStand
simply_linked_stand f property names net few programs rows are s q there = does_the_same f property net few programs rows are s q there names

pub simply_linked_can_be_loaded : ReachesIsExact → SimplyLinkedCanBeLoaded
simply_linked_can_be_loaded exact f property room can names net few programs rows are s q there =
    (let same = tables f property net few programs (map found_row rows) are s q there names in
    let low = small f property net few programs (map found_row rows) are s q there in
    let p = linked_tree f property net are.linked s in
    record {
      stands = stands_stays p q same f (entries_have_places exact property f room can are.linked.controls (wiring_of net) s low);
      can = can_stays p q same f property.decls rows (linked_can_be_loaded exact property f room can are.linked.controls (wiring_of net) s low rows are.linked.tables);
    })
