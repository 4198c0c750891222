-- The law: linked programs have the actions and tables of the given program by their names, and these hold what they held.
use Rattle.std.proofs.Common.{◌≡◌, ℕ, suc, ◌<◌, ◌^◌, List, [], ◌∷◌, ◌++◌, map, Bool, true, false, cond, not, ◌&&◌, ◌||◌, codes, Option, Some, None, refl, sym, ap, ◌∙◌}
use Rattle.std.specs.Prelude.{is_some}
use Rattle.std.specs.List.{AllByRecursion}
use Rattle.std.specs.Option.{option_map}
use Rattle.lex_text.specs.Names.{same_text}
use Rattle.lex_text.specs.Comments.{begins}
use Rattle.indus_tree.specs.Tree.{Property}
use Rattle.indus_tree.specs.State.{Contents, Held}
use Rattle.p4_parser_states.specs.Laws.{ReachesIsExact}
use Rattle.p4_tree.specs.Tree.{Local, local_action, local_table, local_register, local_const, local_var, Top, constant, typedef, header_type, struct_type, register, parser, control, Program}
use Rattle.p4_meaning.specs.Scope as meaning
use Rattle.p4_meaning.specs.Scope.{is_among}
use Rattle.p4_meaning.specs.Under.{no_scope, behind_top, behind_local, in_control}
use Rattle.p4_meaning.specs.Actions.{Action, action_named}
use Rattle.p4_meaning.specs.Tables.{Table, table_named}
use Rattle.p4_meaning.specs.Parts.{Parts, parts_of}
use Rattle.p4_rules.specs.ProgramRules.{IsWellTyped}
use Rattle.p4_rule_laws.specs.OldPrograms.{OldLocals, OldTops}
use Rattle.p4_typing_laws.specs.Plain.{IsPlain}
use Rattle.p4_typing_laws.proofs.CallCounts.{text_is}
use Rattle.exit_statements.specs.Actions.{action_without}
use Rattle.exit_statements.specs.WrittenActions.{returned_in}
use Rattle.exit_programs.specs.Programs.{flags, program_without}
use Rattle.exit_programs.specs.Names.{is_given, HasGivenNames}
use Rattle.exit_programs.specs.Without.{parts_without}
use Rattle.exit_programs.proofs.Agreed.{parts_agree}
use Rattle.exit_names.proofs.Names.{tops_names}
use Rattle.exit_rules.proofs.WellTyped.{stays_well_typed}
use Rattle.exit_lowering.proofs.Places.{verify_stays, compute_stays, deparser_stays}
use Rattle.network_run.specs.Network.{Wiring}
use Rattle.switch_machines.specs.Programs.{ports_at}
use Rattle.packet_lengths.specs.Lengths.{plain_action, plain_table}
use Rattle.own_programs.specs.OwnPrograms.{is_own}
use Rattle.own_programs.proofs.Names.{broken, own_not, name_own}
use Rattle.linked_programs.specs.Linked.{control_roots}
use Rattle.linked_hosts.specs.Linkable as hosts
use Rattle.linked_hosts.specs.Linkable.{Linkable, HasOwnRoots}
use Rattle.linked_hosts.proofs.OwnRoots.{linkable_has_own_roots}
use Rattle.parted_programs.proofs.FreeNames.{without_exits_is_free}
use Rattle.parted_programs.proofs.SameParts.{parted_has_same_parts}
use Rattle.linked_rules.specs.Form.{Stand}
use Rattle.linked_rules.proofs.NamesStand.{tables_stand}
use Rattle.linked_rules.proofs.LinkedFine.{linked_holds}
use Rattle.tree_linkage.specs.Trees.{CanLink, linked_form, linked_trees}
use Rattle.tree_linkage.proofs.Theorem.{linked_form_is_given}
use Rattle.whole_properties.specs.Whole.{Given, lower_monitor}
use Rattle.whole_properties.specs.Asked.{IsGiven}
use Rattle.monitor_trees.specs.Trees.{halves_of}
use Rattle.monitor_trees.proofs.Promised.{gives_monitor}
use Rattle.link_faults.specs.NoFault.{HasNoFault}
use Rattle.link_faults.proofs.NoFault.{no_fault_says}
use Rattle.faultless_programs.proofs.Given.{no_fault_can_link}
use Rattle.linked_properties.specs.Linked.{CanBeLinked, given_in, trees_in}
use Rattle.linked_properties.proofs.Linked.{faultless_is_given, trees_keep_rules}
use Rattle.carried_entries.specs.Places.{EntriesHavePlaces}
use Rattle.carried_entries.proofs.Apart.{things_in, things_of, tagged, tables_are, actions_are, table_among, action_among}
use Rattle.carried_entries.proofs.Given.{without_same, parted_same}
use Rattle.carried_entries.proofs.Stands.{HasIts, stands}

-- ---- names of a given program are own

own_if_given : (x : List ℕ) → is_given x ≡ true → is_own x ≡ true
own_if_given x h = go (begins (codes "hydra_") x) (begins (codes "hydra_x_") x) h
  where
    go : (a b : Bool) → not a ≡ true → not (a && not b) ≡ true
    go true b k = broken (sym k)
    go false b k = refl

abbrev IsOwn : Bool × List ℕ → Type 0
IsOwn i = is_own i.1 ≡ true

locals_own : (ls : List Local) (sc : meaning.Scope) → OldLocals is_given ls → AllByRecursion IsOwn (things_in sc ls)
locals_own [] sc o = tt
locals_own (local_action p a ∷ ls) sc o = (name_own sc a.name (own_if_given a.name o.0.0), locals_own ls sc o.1)
locals_own (local_table p t ∷ ls) sc o = (name_own sc t.name (own_if_given t.name o.0.name), locals_own ls sc o.1)
locals_own (local_register p r ∷ ls) sc o = locals_own ls sc o.1
locals_own (local_const p y n e ∷ ls) sc o = locals_own ls (behind_local sc (local_const p y n e)) o.1
locals_own (local_var p y n e ∷ ls) sc o = locals_own ls sc o.1

both_own : (is js : List (Bool × List ℕ)) → AllByRecursion IsOwn is → AllByRecursion IsOwn js → AllByRecursion IsOwn (is ++ js)
both_own [] js a b = b
both_own (i ∷ is) js a b = (a.0, both_own is js a.1 b)

tops_own : (ts : List Top) (sc : meaning.Scope) → OldTops is_given ts → AllByRecursion IsOwn (things_of sc ts)
tops_own [] sc o = tt
tops_own (control p c ∷ ts) sc o = both_own (things_in (in_control 0 1 2 sc c) c.locals) (things_of sc ts) (locals_own c.locals (in_control 0 1 2 sc c) o.0.locals) (tops_own ts sc o.1)
tops_own (constant p y n e ∷ ts) sc o = tops_own ts (behind_top sc (constant p y n e)) o.1
tops_own (typedef p y n ∷ ts) sc o = tops_own ts (behind_top sc (typedef p y n)) o.1
tops_own (header_type p n fs ∷ ts) sc o = tops_own ts sc o.1
tops_own (struct_type p n fs ∷ ts) sc o = tops_own ts sc o.1
tops_own (register p r ∷ ts) sc o = tops_own ts sc o.1
tops_own (parser p d ∷ ts) sc o = tops_own ts sc o.1

one_own : (y x : List ℕ) → is_own y ≡ true → (rest : Bool) → (rest ≡ true → is_own x ≡ true) → (same_text y x || rest) ≡ true → is_own x ≡ true
one_own y x o rest more e = go (same_text y x) refl e
  where
    go : (b : Bool) → same_text y x ≡ b → (b || rest) ≡ true → is_own x ≡ true
    go true i j = ap is_own (sym (text_is y x i)) ∙ o
    go false i j = more j

among_own : (b : Bool) (is : List (Bool × List ℕ)) (x : List ℕ) → AllByRecursion IsOwn is → is_among (tagged b is) x ≡ true → is_own x ≡ true
among_own true [] x h e = broken (sym e)
among_own false [] x h e = broken (sym e)
among_own true ((false, y) ∷ is) x h e = among_own true is x h.1 e
among_own false ((true, y) ∷ is) x h e = among_own false is x h.1 e
among_own true ((true, y) ∷ is) x h e = one_own y x h.0 (is_among (tagged true is) x) (among_own true is x h.1) e
among_own false ((false, y) ∷ is) x h e = one_own y x h.0 (is_among (tagged false is) x) (among_own false is x h.1) e

own_tables : (f : Program) → HasGivenNames f → (x : List ℕ) (t : Table) → table_named (parts_of f).tables x ≡ Some t → is_own x ≡ true
own_tables f given x t e =
    among_own true (things_of no_scope f.tops) x (tops_own f.tops no_scope given.tops)
    (ap (λ (xs : List (List ℕ)). is_among xs x) (sym (tables_are (parts_of f).actions f.tops no_scope)) ∙ table_among (parts_of f).tables x t e)

own_actions : (f : Program) → HasGivenNames f → (x : List ℕ) (a : Action) → action_named (parts_of f).actions x ≡ Some a → is_own x ≡ true
own_actions f given x a e =
    among_own false (things_of no_scope f.tops) x (tops_own f.tops no_scope given.tops)
    (ap (λ (xs : List (List ℕ)). is_among xs x) (sym (actions_are f.tops no_scope)) ∙ action_among (parts_of f).actions x a e)

-- ---- actions by their names

some_without : (left : List ℕ) (returned : List ℕ → List ℕ) (as' : List Action) (x : List ℕ) → is_some (action_named (map (action_without left returned) as') x) ≡ is_some (action_named as' x)
some_without left returned [] x = refl
some_without left returned (a ∷ as') x = go (same_text a.name x) (some_without left returned as' x)
  where
    go : (b : Bool) → is_some (action_named (map (action_without left returned) as') x) ≡ is_some (action_named as' x)
        → is_some (cond b (Some (action_without left returned a)) (action_named (map (action_without left returned) as') x)) ≡ is_some (cond b (Some a) (action_named as' x))
    go true e = refl
    go false e = e

some_plain : (o : Option Action) → is_some (option_map plain_action o) ≡ is_some o
some_plain None = refl
some_plain (Some a) = refl

-- ---- the law

module _ (exact : ReachesIsExact) (property : Property) (f : Program) (room : ℕ) (can : CanBeLinked property f room) (k : Linkable (linked_form f)) (net : Wiring) (s : ℕ) (small : s < 2 ^ 16) where
  abbrev g : Given
  g = given_in property f k

  abbrev q : Program
  q = linked_trees (trees_in property f k) (lower_monitor g) f net s

  no : HasNoFault f property room
  no = (no_fault_says f property room).0 can.faultless

  can_link : CanLink f
  can_link = no_fault_can_link f can.typed can.spelled no.names

  host : hosts.IsGiven (linked_form f)
  host = linked_form_is_given f can_link

  given : IsGiven g
  given = faultless_is_given property f room can k

  own_roots : HasOwnRoots (linked_form f) k
  own_roots = linkable_has_own_roots (linked_form f) k

  pub stand : Stand (lower_monitor g) (linked_form f) q
  stand =
      tables_stand Held Held Contents (trees_in property f k) (lower_monitor g) (halves_of g) (linked_form f) host k
      (gives_monitor g given (control_roots k.ingress) (control_roots k.egress) own_roots.ingress own_roots.egress) s (ports_at net.links s)

  well_without : IsWellTyped (program_without f)
  well_without = stays_well_typed f can.typed can_link.program.given

  -- the parts of what is linked
  same : parts_of (linked_form f) ≡ parts_without f
  same = parted_has_same_parts (program_without f) well_without ∙ parts_agree f can.typed can_link.program.given (verify_stays f can.typed) (compute_stays f can.typed) (deparser_stays f can.typed)

  pub has : HasIts f q
  has =
      record {
        typed = can.typed;
        plain = tops_names IsPlain (λ x. Unit {0}) (λ x h. h) (λ x h. tt) f.tops can_link.program.plain.tops;
        own_tables = own_tables f can_link.program.given;
        own_actions = own_actions f can_link.program.given;
        tables = λ x own. stand.tables x (own_not x own) ∙ ap (λ (p : Parts). option_map plain_table (table_named p.tables x)) same;
        actions =
            λ x own. ap is_some (stand.actions x (own_not x own))
            ∙ (some_plain (action_named (parts_of (linked_form f)).actions x)
            ∙ (ap (λ (p : Parts). is_some (action_named p.actions x)) same ∙ some_without flags.left (returned_in flags) (parts_of f).actions x));
        hold =
            linked_holds exact (trees_in property f k) (linked_form f) host k (trees_keep_rules property f room can k) (suc (lower_monitor g).room) s (ports_at net.links s) small
            ∙ (parted_same (program_without f) well_without (without_exits_is_free f can_link.program.given) host.typed ∙ without_same f can.typed can_link.program.given);
      }

pub entries_have_places : ReachesIsExact → EntriesHavePlaces
entries_have_places exact property f room can k net s small =
    stands f (linked_trees (trees_in property f k) (lower_monitor (given_in property f k)) f net s) (has exact property f room can k net s small)
