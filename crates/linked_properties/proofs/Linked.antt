-- All laws together.
use Rattle.std.proofs.Common.{◌≡◌, ℕ, suc, ◌<◌, ◌≤◌, ◌^◌, List, arith}
use Rattle.indus_tree.specs.Tree.{Property}
use Rattle.indus_types.specs.Sums.{property_bits}
use Rattle.tele_layout.specs.Telemetry.{whole_bytes}
use Rattle.p4_tree.specs.Tree.{Program}
use Rattle.p4_parser_states.specs.Laws.{ReachesIsExact}
use Rattle.p4_rules.specs.ProgramRules.{program_scope, IsWellTyped}
use Rattle.network_run.specs.Network.{Wiring, IsWiring}
use Rattle.linked_programs.specs.Linked.{control_roots, headers_type, metadata_type}
use Rattle.linked_programs.specs.Linked as linked
use Rattle.linked_programs.specs.Gives.{GivesMonitor}
use Rattle.linked_hosts.specs.Linkable as hosts
use Rattle.linked_hosts.specs.Linkable.{Linkable, HasOwnRoots}
use Rattle.linked_hosts.proofs.OwnRoots.{linkable_has_own_roots}
use Rattle.linked_rules.specs.Fine.{CountAlike}
use Rattle.linked_rules.specs.Promises.{KeepsRules}
use Rattle.linked_rules.proofs.LinkedFine.{switches_count_alike}
use Rattle.linked_rules.proofs.NamesStand.{linked_names_stand}
use Rattle.tree_linkage.specs.Trees.{CanLink, linked_form, AreLinkedTrees}
use Rattle.tree_linkage.proofs.Theorem.{linked_form_is_given, are_linked}
use Rattle.whole_properties.specs.Whole.{Given, lower_monitor, IsFitTele, Keeps, IsVariable, IsFitContents}
use Rattle.whole_properties.specs.Asked.{IsGiven, FitsView}
use Rattle.whole_properties.proofs.TelemetryBytes.{telemetry_is_linked}
use Rattle.whole_monitor.specs.WholeLaws.{whole_laws}
use Rattle.monitor_trees.specs.Trees.{halves_of}
use Rattle.monitor_trees.specs.Spelled.{HasWords}
use Rattle.monitor_trees.proofs.Promised.{gives_monitor}
use Rattle.monitor_trees.proofs.SpelledTrees.{spelled}
use Rattle.monitor_rules.specs.Told.{entry_told, exit_told}
use Rattle.monitor_rules.specs.Counted.{AreCounted}
use Rattle.monitor_rules.proofs.CountRules.{counted}
use Rattle.monitor_rules.proofs.FewTold.{tell_few}
use Rattle.monitor_rules.proofs.Declares.{declares_its_own}
use Rattle.monitor_rules.proofs.PassRules.{passes}
use Rattle.monitor_rules.proofs.TellRules.{tells}
use Rattle.link_faults.specs.NoFault.{HasNoFault}
use Rattle.link_faults.proofs.NoFault.{no_fault_says}
use Rattle.faultless_programs.specs.Within.{IsCounted}
use Rattle.faultless_programs.proofs.Given.{no_fault_can_link}
use Rattle.faultless_programs.proofs.FoundViews.{found_views_fit, found_views_are_own}
use Rattle.faultless_programs.proofs.Within.{faultless_is_well_typed}
use Rattle.linked_properties.specs.Linked.{CanBeLinked, given_in, trees_in, AreTextNames, FaultlessIsGiven, TreesKeepRules, FaultlessIsLinked}
use Rattle.linked_properties.proofs.Counted.{room_is_counted}
use Rattle.linked_properties.proofs.Shown.{found_fields_are_shown}
use Rattle.linked_properties.proofs.Words.{found_views_are_words}
use Rattle.linked_properties.proofs.RootNames.{RootsAreNames, roots_are_names}

module _ (property : Property) (f : Program) (room : ℕ) (can : CanBeLinked property f room) (k : Linkable (linked_form f)) where
  abbrev g : Given
  g = given_in property f k

  no : HasNoFault f property room
  no = (no_fault_says f property room).0 can.faultless

  can_link : CanLink f
  can_link = no_fault_can_link f can.typed can.spelled no.names

  host : hosts.IsGiven (linked_form f)
  host = linked_form_is_given f can_link

  given : IsGiven g
  given = record { plain = can.plain; light = no.weight; reports = can.reports; own_views = found_views_are_own g can.plain.typed f can.typed no.fields no.names }

  own_roots : HasOwnRoots (linked_form f) k
  own_roots = linkable_has_own_roots (linked_form f) k

  gives : GivesMonitor (trees_in property f k) (lower_monitor g) (halves_of g) k.ingress.name k.egress.name (control_roots k.ingress) (control_roots k.egress)
  gives = gives_monitor g given (control_roots k.ingress) (control_roots k.egress) own_roots.ingress own_roots.egress

  rules : KeepsRules (trees_in property f k) (linked_form f) k
  rules =
      record {
        passes =
            passes g given (program_scope (linked_form f)) (headers_type (linked_form f)) (metadata_type (linked_form f))
            (found_fields_are_shown property can.plain.typed f can.typed no.names no.fields) (control_roots k.ingress) (control_roots k.egress);
        tops = gives.tops;
        entry_locals = gives.entry_locals;
        exit_locals = gives.exit_locals;
      }

  are_counted : AreCounted g (control_roots k.ingress) (control_roots k.egress) rules.passes.bits
  are_counted = counted g given (program_scope (linked_form f)) (headers_type (linked_form f)) (metadata_type (linked_form f)) (control_roots k.ingress) (control_roots k.egress) rules.passes

  is_counted : IsCounted (trees_in property f k) rules.passes.bits (entry_told g) (exit_told g) property
  is_counted = record { bytes = are_counted.bytes; digests = tell_few g; cells = are_counted.cells }

  module _ (exact : ReachesIsExact) where
    typed : (size s : ℕ) (links : List ℕ) → s < 2 ^ 16 → IsWellTyped (linked.linked (trees_in property f k) size s links (linked_form f))
    typed =
        faultless_is_well_typed exact f can.typed can.spelled can.leaves property room can.small can.faultless (trees_in property f k) k rules (entry_told g) (exit_told g)
        (tells g given (program_scope (linked_form f)) (headers_type (linked_form f)) (metadata_type (linked_form f)) (control_roots k.ingress) (control_roots k.egress))
        is_counted

    counts :
        (size s : ℕ) (links : List ℕ) → s < 2 ^ 16 → (r : ℕ) (ports : List ℕ) → r < 2 ^ 16 →
        CountAlike (linked.linked (trees_in property f k) size s links (linked_form f)) (linked.linked (trees_in property f k) size r ports (linked_form f))
    counts =
        switches_count_alike exact (trees_in property f k) (linked_form f) host k rules (entry_told g) (exit_told g)
        (tells g given (program_scope (linked_form f)) (headers_type (linked_form f)) (metadata_type (linked_form f)) (control_roots k.ingress) (control_roots k.egress))

  module _ (net : Wiring) (wired : IsWiring net) where
    linkage : AreLinkedTrees (trees_in property f k) (lower_monitor g) (halves_of g) f k net (IsVariable g) (IsFitContents g)
    linkage =
        are_linked (lower_monitor g) (IsFitTele g) (Keeps g) (FitsView g) (IsVariable g) (IsFitContents g) (whole_laws g given) (trees_in property f k) (halves_of g) f k net can_link
        (record { gives = gives; views = λ s keeps. found_views_fit g can.plain.typed f can.typed no.fields no.names s keeps }) wired

  low_size : suc (lower_monitor g).room < 2 ^ 128
  low_size = at (suc (lower_monitor g).room) (whole_bytes (property_bits property)) (room_is_counted g) no.room can.small
    where
      at : (a b : ℕ) → a ≡ b → b ≤ room → room ≤ 256 → a < 2 ^ 128
      at a b e h i = omega (arith, e, h, i)

  root_names : RootsAreNames (linked_form f) k
  root_names = roots_are_names (linked_form f) host k

  has_words : AreTextNames property.decls → HasWords g
  has_words h = record { declared = h; views = found_views_are_words property can.plain.typed f can.typed can.spelled no.fields }

pub faultless_is_given : FaultlessIsGiven
faultless_is_given property f room can k = given property f room can k

pub trees_keep_rules : TreesKeepRules
trees_keep_rules property f room can k = rules property f room can k

pub faultless_is_linked : ReachesIsExact → FaultlessIsLinked
faultless_is_linked exact property f room can k net wired =
    (let g = given_in property f k in
    let i = given property f room can k in
    let names = root_names property f room can k in
    let all = linkage property f room can k net wired in
    record {
      typed = typed property f room can k exact;
      counts = counts property f room can k exact;
      linkage = all;
      size = room_is_counted g;
      telemetry = telemetry_is_linked g i;
      spelled = λ words s small. all.spelled (spelled g i (has_words property f room can k words) (control_roots k.ingress) (control_roots k.egress) names.ingress names.egress) (low_size property f room can k) s small;
      own = declares_its_own g (control_roots k.ingress) (control_roots k.egress);
      names = linked_names_stand (trees_in property f k) (declares_its_own g (control_roots k.ingress) (control_roots k.egress)) (linked_form f) (host property f room can k);
    })
