-- In a linked program tables run actions of their lists where those of the given program do, with the contents of control
-- variables that they are loaded with, and whenever a variable is set.
use Rattle.std.proofs.Common.{◌≡◌, codes, ℕ, ◌<◌, ◌^◌, List, [], ◌∷◌, map, Bool, true, false, cond, Option, Some, None, refl, sym, ap, ◌∙◌, subst}
use Rattle.std.specs.List.{AllByRecursion}
use Rattle.std.specs.Option.{option_map}
use Rattle.std.proofs.lemmas.Bool.{eqb-true}
use Rattle.lex_text.specs.Names.{same_text}
use Rattle.indus_tree.specs.Tree.{Property, Decl, Shape, one, list, set, dict}
use Rattle.indus_tree.specs.State.{Contents, members, pairs}
use Rattle.indus_tree.specs.Hops.{variable_number, contents_at, contents_in}
use Rattle.p4_tree.specs.Tree.{Program}
use Rattle.p4_parser_states.specs.Laws.{ReachesIsExact}
use Rattle.p4_meaning.specs.Choice as choice
use Rattle.p4_meaning.specs.Scope.{is_among}
use Rattle.p4_meaning.specs.Tables.{Table, Entries, Tables, table_named}
use Rattle.p4_meaning.specs.Parts.{Parts, parts_of}
use Rattle.p4_meaning.specs.Laws.{RunsListed, AreListed}
use Rattle.p4_rules.specs.ProgramRules.{IsWellTyped}
use Rattle.p4_typing_laws.proofs.CallCounts.{text_is}
use Rattle.p4_typing_laws.proofs.FullNames.{among_head, among_tail}
use Rattle.table_entries.specs.Entries.{Entry, named}
use Rattle.control_tables.specs.Contents as contents
use Rattle.control_maps.specs.Numbers.{HasShape}
use Rattle.exit_programs.specs.Programs.{program_without}
use Rattle.exit_programs.specs.Without.{parts_without}
use Rattle.exit_programs.proofs.Agreed.{parts_agree}
use Rattle.exit_rules.proofs.WellTyped.{stays_well_typed}
use Rattle.exit_lowering.proofs.Places.{verify_stays, compute_stays, deparser_stays}
use Rattle.network_run.specs.Network.{Wiring}
use Rattle.own_code.specs.Regions.{is_mine}
use Rattle.own_programs.proofs.Names.{broken}
use Rattle.packet_lengths.specs.Lengths.{plain_table}
use Rattle.linked_hosts.specs.Linkable.{Linkable}
use Rattle.parted_programs.proofs.SameParts.{parted_has_same_parts}
use Rattle.linked_rules.specs.Form.{Stand}
use Rattle.tree_linkage.specs.Trees.{CanLink, linked_form, linked_trees}
use Rattle.lowered_code.specs.Names.{table_name, action_name}
use Rattle.lookup_tables.specs.Tables.{Lookup, actions_for, default_for, table_for, members_of, pairs_of, first_action, entries_in, entries_for}
use Rattle.whole_properties.specs.Whole.{Given, is_number, loads, sets, lookups, lower_monitor}
use Rattle.whole_properties.specs.Asked.{IsGiven}
use Rattle.link_faults.proofs.NoFault.{no_fault_says}
use Rattle.faultless_programs.proofs.Given.{no_fault_can_link}
use Rattle.linked_properties.specs.Linked.{CanBeLinked, given_in, trees_in}
use Rattle.linked_properties.proofs.Linked.{faultless_is_given}
use Rattle.carried_entries.proofs.Forms.{table_mine}
use Rattle.carried_entries.proofs.Places as places
use Rattle.map_runs.specs.Named.{IsOfShape, FitsMap}
use Rattle.map_runs.proofs.Known.{OwnLookup, own_lookups}

-- ---- a monitor's table

-- what a table holds runs actions among these
abbrev RunsAmong : List (List ℕ) → Entries → Type 0
RunsAmong xs h = AllByRecursion (λ (e : choice.Entry). is_among xs e.action ≡ true) h.listed × (is_among xs h.default.action ≡ true)

each_named : (l : Lookup) (xs : List (List ℕ)) → is_among xs (action_name l.control l.number) ≡ true → (es : List Entry) → AllByRecursion (λ (e : choice.Entry). is_among xs e.action ≡ true) (map (named (first_action l)) es)
each_named l xs i [] = tt
each_named l xs i (e ∷ es) = (i, each_named l xs i es)

-- its own action stands in its list behind the miss
own_listed : (l : Lookup) → is_among (codes "NoAction" ∷ action_name l.control l.number ∷ codes "NoAction" ∷ []) (action_name l.control l.number) ≡ true
own_listed l =
    among_tail (codes "NoAction") (action_name l.control l.number ∷ codes "NoAction" ∷ []) (action_name l.control l.number)
    (among_head (action_name l.control l.number) (codes "NoAction" ∷ []))

contents_listed : (l : Lookup) (d : Shape) (c : Contents) → HasShape d c → RunsAmong ((default_for l d).action ∷ actions_for l d) (entries_in l d c)
contents_listed l (one t) c h = (tt, among_head (action_name l.control l.number) (action_name l.control l.number ∷ []))
contents_listed l (list t n) c h = absurd h
contents_listed l (set ts) c h = (
  each_named l (codes "NoAction" ∷ action_name l.control l.number ∷ codes "NoAction" ∷ []) (own_listed l) (contents.entries_for 0 (members (members_of c))),
  among_head (codes "NoAction") (action_name l.control l.number ∷ codes "NoAction" ∷ []),
)
contents_listed l (dict ts t) c h = (
  each_named l (codes "NoAction" ∷ action_name l.control l.number ∷ codes "NoAction" ∷ []) (own_listed l) (contents.entries_for 0 (pairs (pairs_of c))),
  among_head (codes "NoAction") (action_name l.control l.number ∷ codes "NoAction" ∷ []),
)

-- ---- its tables together

-- among the tables of these lookups
abbrev found : List Lookup → (x : List ℕ) → Option Table
found ls x = option_map plain_table (table_named (map table_for ls) x)

module _ (ds : List Decl) (x : List ℕ) where
  loads_listed : (c : ℕ → Contents) (held : Tables) (ls : List Lookup) → AllByRecursion (λ (l : Lookup). HasShape l.decl.shape (contents_in ds c l.decl.name)) ls → RunsListed (found ls x) (loads ds ls c held x)
  loads_listed c held [] h = tt
  loads_listed c held (l ∷ ls) h = go (same_text (table_name l.control l.number) x) (loads_listed c held ls h.1)
    where
      go : (b : Bool) → RunsListed (found ls x) (loads ds ls c held x)
          → RunsListed (option_map plain_table (cond b (Some (table_for l)) (table_named (map table_for ls) x))) (cond b (entries_for l (contents_in ds c l.decl.name)) (loads ds ls c held x))
      go true k = contents_listed l l.decl.shape (contents_in ds c l.decl.name) h.0
      go false k = k

  sets_listed : (v : ℕ) (c : Contents) (held : Tables) (ls : List Lookup) → AllByRecursion (λ (l : Lookup). is_number (variable_number ds l.decl.name) v ≡ true → HasShape l.decl.shape c) ls
      → RunsListed (found ls x) (held x) → RunsListed (found ls x) (sets ds ls v c held x)
  sets_listed v c held [] h k = tt
  sets_listed v c held (l ∷ ls) h k = go (same_text (table_name l.control l.number) x) (is_number (variable_number ds l.decl.name) v) refl k (sets_listed v c held ls h.1)
    where
      go : (b t : Bool) → is_number (variable_number ds l.decl.name) v ≡ t
          → RunsListed (option_map plain_table (cond b (Some (table_for l)) (table_named (map table_for ls) x))) (held x)
          → (RunsListed (found ls x) (held x) → RunsListed (found ls x) (sets ds ls v c held x))
          → RunsListed (option_map plain_table (cond b (Some (table_for l)) (table_named (map table_for ls) x))) (cond b (cond t (entries_for l c) (held x)) (sets ds ls v c held x))
      go true true e k more = contents_listed l l.decl.shape c (h.0 e)
      go true false e k more = k
      go false t e k more = more k

  -- a table of a name that is no monitor's holds what it held
  module _ (other : is_mine x ≡ false) where
    not_mine : (l : Lookup) → same_text (table_name l.control l.number) x ≡ true → ⊥
    not_mine l e = broken (sym (table_mine l.control l.number) ∙ (ap is_mine (text_is (table_name l.control l.number) x e) ∙ other))

    loads_other : (c : ℕ → Contents) (held : Tables) (ls : List Lookup) → loads ds ls c held x ≡ held x
    loads_other c held [] = refl
    loads_other c held (l ∷ ls) = go (same_text (table_name l.control l.number) x) refl (loads_other c held ls)
      where
        go : (b : Bool) → same_text (table_name l.control l.number) x ≡ b → loads ds ls c held x ≡ held x → cond b (entries_for l (contents_in ds c l.decl.name)) (loads ds ls c held x) ≡ held x
        go true e k = absurd (not_mine l e)
        go false e k = k

    sets_other : (v : ℕ) (c : Contents) (held : Tables) (ls : List Lookup) → sets ds ls v c held x ≡ held x
    sets_other v c held [] = refl
    sets_other v c held (l ∷ ls) = go (same_text (table_name l.control l.number) x) refl (sets_other v c held ls)
      where
        go : (b : Bool) → same_text (table_name l.control l.number) x ≡ b → sets ds ls v c held x ≡ held x
            → cond b (cond (is_number (variable_number ds l.decl.name) v) (entries_for l c) (held x)) (sets ds ls v c held x) ≡ held x
        go true e k = absurd (not_mine l e)
        go false e k = k

-- ---- contents that fit

module _ (g : Given) (i : IsGiven g) where
  loaded_shapes : (c : ℕ → Contents) → FitsMap g c → (ls : List Lookup) → AllByRecursion (OwnLookup g i) ls → AllByRecursion (λ (l : Lookup). HasShape l.decl.shape (contents_in g.property.decls c l.decl.name)) ls
  loaded_shapes c fits [] o = tt
  loaded_shapes c fits (l ∷ ls) o = (
    subst (λ (n : Option ℕ). HasShape l.decl.shape (contents_at c n)) (sym o.0.is) (fits o.0.number l.decl.name l.decl o.0.found o.0.control o.0.is),
    loaded_shapes c fits ls o.1,
  )

  set_shapes : (v : ℕ) (c : Contents) → IsOfShape g v c → (ls : List Lookup) → AllByRecursion (OwnLookup g i) ls
      → AllByRecursion (λ (l : Lookup). is_number (variable_number g.property.decls l.decl.name) v ≡ true → HasShape l.decl.shape c) ls
  set_shapes v c fits [] o = tt
  set_shapes v c fits (l ∷ ls) o = (
    (λ e.
        (let same : o.0.number ≡ v = eqb-true o.0.number v (ap (λ (n : Option ℕ). is_number n v) (sym o.0.is) ∙ e) in
        fits l.decl.name l.decl o.0.found o.0.control (o.0.is ∙ ap (λ (n : ℕ). Some n) same))),
    set_shapes v c fits ls o.1,
  )

-- ---- a linked program

plain_listed : (o : Option Table) (h : Entries) → RunsListed o h → RunsListed (option_map plain_table o) h
plain_listed None h k = tt
plain_listed (Some t) h k = k

module _ (exact : ReachesIsExact) (property : Property) (f : Program) (room : ℕ) (can : CanBeLinked property f room) (k : Linkable (linked_form f)) (net : Wiring) (s : ℕ) (small : s < 2 ^ 16) where
  abbrev g : Given
  g = given_in property f k

  abbrev q : Program
  q = linked_trees (trees_in property f k) (lower_monitor g) f net s

  given : IsGiven g
  given = faultless_is_given property f room can k

  stand : Stand (lower_monitor g) (linked_form f) q
  stand = places.stand exact property f room can k net s small

  can_link : CanLink f
  can_link = no_fault_can_link f can.typed can.spelled ((no_fault_says f property room).0 can.faultless).names

  well_without : IsWellTyped (program_without f)
  well_without = stays_well_typed f can.typed can_link.program.given

  -- the parts of what is linked
  same : parts_of (linked_form f) ≡ parts_without f
  same = parted_has_same_parts (program_without f) well_without ∙ parts_agree f can.typed can_link.program.given (verify_stays f can.typed) (compute_stays f can.typed) (deparser_stays f can.typed)

  -- a table whose name is no monitor's is the given program's
  given_table : (x : List ℕ) → is_mine x ≡ false → table_named (parts_of q).tables x ≡ option_map plain_table (table_named (parts_of f).tables x)
  given_table x other = stand.tables x other ∙ ap (λ (p : Parts). option_map plain_table (table_named p.tables x)) same

  abbrev held_there : (x : List ℕ) → Entries → Type 0
  held_there x h = RunsListed (table_named (parts_of q).tables x) h

  pub loads_are_listed : (e : Tables) → AreListed (parts_of f) e → (c : ℕ → Contents) → FitsMap g c → AreListed (parts_of q) ((lower_monitor g).controls.loaded c e)
  loads_are_listed e listed c fits x = go (is_mine x) refl
    where
      go : (b : Bool) → is_mine x ≡ b → held_there x (loads property.decls (lookups g) c e x)
      go true mine =
          subst (λ (o : Option Table). RunsListed o (loads property.decls (lookups g) c e x)) (sym (stand.monitor_tables x mine))
          (loads_listed property.decls x c e (lookups g) (loaded_shapes g given c fits (lookups g) (own_lookups g given)))
      go false other =
          subst (held_there x) (sym (loads_other property.decls x other c e (lookups g)))
          (subst (λ (o : Option Table). RunsListed o (e x)) (sym (given_table x other)) (plain_listed (table_named (parts_of f).tables x) (e x) (listed x)))

  pub sets_are_listed : (held : Tables) → AreListed (parts_of q) held → (v : ℕ) (c : Contents) → IsOfShape g v c → AreListed (parts_of q) ((lower_monitor g).controls.set v c held)
  sets_are_listed held listed v c fits x = go (is_mine x) refl
    where
      go : (b : Bool) → is_mine x ≡ b → held_there x (sets property.decls (lookups g) v c held x)
      go true mine =
          subst (λ (o : Option Table). RunsListed o (sets property.decls (lookups g) v c held x)) (sym (stand.monitor_tables x mine))
          (sets_listed property.decls x v c held (lookups g) (set_shapes g given v c fits (lookups g) (own_lookups g given))
          (subst (λ (o : Option Table). RunsListed o (held x)) (stand.monitor_tables x mine) (listed x)))
      go false other = subst (held_there x) (sym (sets_other property.decls x other v c held (lookups g))) (listed x)
