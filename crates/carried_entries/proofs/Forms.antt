-- The law: the tables of the monitor's map have the forms that are given for their variables.
use Rattle.std.proofs.Common.{◌≡◌, ◌≢◌, ℕ, zero, suc, ◌<◌, ◌^◌, List, [], ◌∷◌, ◌++◌, map, length, drop, get_or, Bool, true, false, cond, codes, Option, Some, None, refl, sym, ap, ap₂, ◌∙◌, subst, arith}
use Rattle.std.specs.Prelude.{slice_get}
use Rattle.std.specs.List.{AllByRecursion}
use Rattle.std.specs.Option.{option_map}
use Rattle.std.proofs.lemmas.List.{append-nil, map-append}
use Rattle.std.proofs.lemmas.List.Elements.{All-nil}
use Rattle.lex_text.specs.Names.{same_text}
use Rattle.indus_tree.specs.Tree.{Shape, one, list, set, dict, Decl, Property}
use Rattle.indus_tree.specs.State.{Contents, Held, width_of}
use Rattle.indus_tree.specs.declared.tree.Ty.{Ty}
use Rattle.p4_parser_states.specs.Laws.{ReachesIsExact}
use Rattle.p4_tree.specs.Tree.{Control, Program}
use Rattle.p4_meaning.specs.Scope.{Roots}
use Rattle.p4_meaning.specs.Under.{no_scope}
use Rattle.p4_meaning.specs.Actions.{Action, action_named}
use Rattle.p4_meaning.specs.Tables.{Table, table_named}
use Rattle.p4_meaning.specs.Parts.{Parts, parts_of, control_in, named_in}
use Rattle.p4_scopes.specs.Scopes.{Scope, core}
use Rattle.p4_rules.specs.ProgramRules.{IsWellTyped}
use Rattle.p4_rule_laws.specs.OldPrograms.{OldTops}
use Rattle.p4_typing_laws.specs.Plain.{is_plain}
use Rattle.p4_typing_laws.proofs.CallCounts.{text_is, text_same}
use Rattle.p4_typing_laws.proofs.FullNames.{other_text}
use Rattle.exit_rewriting.proofs.Plain.{plain_if_spelled}
use Rattle.network_run.specs.Network.{Wiring, IsLinkOf}
use Rattle.switch_machines.specs.Programs.{ports_at}
use Rattle.own_code.specs.Regions.{is_mine}
use Rattle.own_programs.proofs.Names.{broken, full_mine}
use Rattle.packet_lengths.specs.Lengths.{plain_key, plain_action, plain_table}
use Rattle.value_shapes.specs.Values.{value_of}
use Rattle.value_shapes.specs.declared.values.ValueShape.{ValueShape}
use Rattle.table_shapes.specs.Shapes as table
use Rattle.table_shapes.specs.declared.shape.KeyKind.TheVariants.{Exact}
use Rattle.table_shapes.specs.declared.shape.KeyShape.{KeyShape}
use Rattle.p4_tables.specs.State as state
use Rattle.p4_tables.specs.State.{no_table, held_at}
use Rattle.p4_tables.specs.Named.{action_name, named_act, table_place}
use Rattle.p4_tables.specs.Programs.{key_shapes, values_at, action_place, action_shape, numbered, table_shape, tables_before, keys_hold, params_hold, shapes, state_before, IsStateOf}
use Rattle.table_laws.specs.Loaded.{IsActionName}
use Rattle.lookup_names.specs.Names as plain
use Rattle.lookup_names.specs.Keys.{key_types}
use Rattle.control_tables.specs.Tables.{has_miss}
use Rattle.control_maps.specs.Maps.{miss}
use Rattle.control_maps.specs.Numbers.{Numbered, bits_of, exact_keys, params_for, HasForm, IsOfForm, IsMapOf}
use Rattle.control_maps.specs.Numbers as numbers
use Rattle.lowered_code.specs.Names as code
use Rattle.lowered_code.specs.Statements.{Var, block_vars, block_lookups, block_numbers}
use Rattle.lookup_tables.specs.Tables.{Lookup, keys_for, actions_for, default_for, table_for, action_for}
use Rattle.lookup_tables.specs.Finding.{AreNumbered}
use Rattle.lookup_tables.proofs.Named.{tables_differ, table_there}
use Rattle.linked_programs.specs.Linked.{control_roots, Place, place_in, locals_at}
use Rattle.linked_programs.specs.Rewritten.{local_with}
use Rattle.linked_programs.specs.Gives.{GivesMonitor}
use Rattle.linked_hosts.specs.Linkable as hosts
use Rattle.linked_hosts.specs.Linkable.{Linkable, HasOwnRoots}
use Rattle.linked_hosts.proofs.OwnRoots.{linkable_has_own_roots}
use Rattle.linked_rules.specs.Form.{Stand}
use Rattle.linked_rules.proofs.NamesStand.{tables_stand}
use Rattle.tree_linkage.specs.Trees.{CanLink, linked_form, linked_trees}
use Rattle.tree_linkage.proofs.Theorem.{linked_form_is_given}
use Rattle.whole_properties.specs.Whole.{Given, decls, init, tele, check, tele_first, check_first, lookups, lower_monitor}
use Rattle.whole_properties.specs.Asked.{IsGiven}
use Rattle.whole_properties.proofs.Numbering.{lookup_of}
use Rattle.whole_properties.proofs.Facts.{lookups_numbered}
use Rattle.lower_blocks.specs.Trees.{entry_lookups, exit_lookups}
use Rattle.monitor_laws.specs.Monitor.{flag_locals}
use Rattle.monitor_trees.specs.Trees.{halves_of}
use Rattle.monitor_trees.proofs.Promised.{gives_monitor}
use Rattle.link_faults.specs.NoFault.{HasNoFault}
use Rattle.link_faults.proofs.NoFault.{no_fault_says}
use Rattle.faultless_programs.proofs.Given.{no_fault_can_link}
use Rattle.linked_properties.specs.Linked.{CanBeLinked, given_in, trees_in}
use Rattle.linked_properties.proofs.Linked.{faultless_is_given, faultless_is_linked}
use Rattle.carried_entries.specs.Forms.{number_or, row_in, map_in, HaveWritten, MonitorTablesHaveForm}
use Rattle.carried_entries.proofs.Named.{kinds_named, tops_hold_of, keys_named, params_named}
use Rattle.carried_entries.proofs.Stands.{found_stands, none_place, at_place}
use Rattle.carried_entries.proofs.Lookups.{every, IsHere, KeysHere, both_here, all_behind, lookups_here, number_of, wanted_keys, wanted_params, TablesDiffer, ActionsDiffer, all_with}
use Rattle.carried_entries.proofs.Monitor.{named_is, made_of, tables_hold, actions_hold}
use Rattle.indus_tree.specs.Hops.{variable_number}

-- ---- rows of lookups

abbrev pub row_of : Parts → Property → Lookup → Numbered
row_of q p l =
    record {
      table = table_place q.tables (code.table_name l.control l.number);
      action = action_place q.actions (code.action_name l.control l.number);
      variable = number_or (variable_number p.decls l.decl.name);
      shape = l.decl.shape;
    }

rows_are : (q : Parts) (p : Property) (c : List ℕ) (ls : List (ℕ × Decl)) → map (row_in q p c) ls ≡ map (row_of q p) (map (lookup_of c) ls)
rows_are q p c [] = refl
rows_are q p c (l ∷ ls) = ap (λ (ns : List Numbered). row_in q p c l ∷ ns) (rows_are q p c ls)

pub map_is : (q : Parts) (g : Given) → map_in q g ≡ map (row_of q g.property) (lookups g)
map_is q g =
    ap₂ (λ (a b : List Numbered). a ++ b) (rows_are q g.property g.ingress (entry_lookups g))
    (rows_are q g.property g.egress (exit_lookups g)
    ∙ ap (map (row_of q g.property)) (map-append (lookup_of g.egress) (block_lookups (decls g) (tele g) (tele_first g)) (block_lookups (decls g) (check g) (check_first g))))
    ∙ sym (map-append (row_of q g.property) (map (lookup_of g.ingress) (entry_lookups g)) (map (lookup_of g.egress) (block_lookups (decls g) (tele g) (tele_first g)) ++ map (lookup_of g.egress) (block_lookups (decls g) (check g) (check_first g))))

-- ---- names

pub table_mine : (c : List ℕ) (n : ℕ) → is_mine (code.table_name c n) ≡ true
table_mine c n = full_mine c (plain.table_name n)

action_mine : (c : List ℕ) (n : ℕ) → is_mine (code.action_name c n) ≡ true
action_mine c n = full_mine c (plain.action_name n)

no_action_there : (c : List ℕ) (n : ℕ) (ls : List Lookup) → action_named (map action_for ls) (code.table_name c n) ≡ None
no_action_there c n [] = refl
no_action_there c n (l ∷ ls) = no_action_there c n ls

no_table_there : (c : List ℕ) (n : ℕ) (ls : List Lookup) → table_named (map table_for ls) (code.action_name c n) ≡ None
no_table_there c n [] = refl
no_table_there c n (l ∷ ls) = no_table_there c n ls

-- where tables have other names, actions have
action_apart : (c : List ℕ) (n m : ℕ) → same_text (code.table_name c n) (code.table_name c m) ≡ false → same_text (code.action_name c n) (code.action_name c m) ≡ false
action_apart c n m h =
    other_text (code.action_name c n) (code.action_name c m)
    (λ e. (let rest = ap (λ (x : List ℕ). codes "hydra_t_" ++ drop 8 x) e in
    let same : code.table_name c n ≡ code.table_name c m = rest in
    broken (sym (text_same (code.table_name c n) (code.table_name c m) same) ∙ h)))

front_all : (P : Lookup → Type 0) (c : List ℕ) (ls : List (ℕ × Decl)) (rest : List Lookup) → AllByRecursion P (map (lookup_of c) ls ++ rest) → AllByRecursion (λ (m : ℕ × Decl). P (lookup_of c m)) ls
front_all P c [] rest h = tt
front_all P c (l ∷ ls) rest h = (h.0, front_all P c ls rest h.1)

back_all : (P : Lookup → Type 0) (c : List ℕ) (ls : List (ℕ × Decl)) (rest : List Lookup) → AllByRecursion (λ (m : ℕ × Decl). P (lookup_of c m)) ls → AllByRecursion P rest → AllByRecursion P (map (lookup_of c) ls ++ rest)
back_all P c [] rest h k = k
back_all P c (l ∷ ls) rest h k = (h.0, back_all P c ls rest h.1 k)

tables_apart : (r : Roots) (c : List ℕ) (n : ℕ) (ls : List (ℕ × Decl)) (rest : List Lookup) → AreNumbered n (map (lookup_of c) ls ++ rest) → TablesDiffer r c ls
tables_apart r c n [] rest h = tt
tables_apart r c n (l ∷ ls) rest h = (
  front_all (λ (m : Lookup). same_text (code.table_name c l.0) (code.table_name m.control m.number) ≡ false) c ls rest (tables_differ n (lookup_of c l) (map (lookup_of c) ls ++ rest) h),
  tables_apart r c (suc l.0) ls rest h.1,
)

each_action : (c : List ℕ) (n : ℕ) (ls : List (ℕ × Decl)) → AllByRecursion (λ (m : ℕ × Decl). same_text (code.table_name c n) (code.table_name c m.0) ≡ false) ls → AllByRecursion (λ (m : ℕ × Decl). same_text (code.action_name c n) (code.action_name c m.0) ≡ false) ls
each_action c n [] h = tt
each_action c n (l ∷ ls) h = (action_apart c n l.0 h.0, each_action c n ls h.1)

actions_apart : (r : Roots) (c : List ℕ) (ls : List (ℕ × Decl)) → TablesDiffer r c ls → ActionsDiffer r c ls
actions_apart r c [] h = tt
actions_apart r c (l ∷ ls) h = (each_action c l.0 ls h.0, actions_apart r c ls h.1)

-- the numbers of what stands behind rise too
record RiseBehind (ls : List Lookup) : Type 0 where
  start : ℕ
  rise : AreNumbered start ls

rise_behind : (n : ℕ) (ls ms : List Lookup) → AreNumbered n (ls ++ ms) → RiseBehind ms
rise_behind n [] ms h = record { start = n; rise = h }
rise_behind n (l ∷ ls) ms h = rise_behind (suc l.number) ls ms h.1

-- ---- tables by places

place_within : (ts : List Table) (x : List ℕ) (t : Table) → table_named ts x ≡ Some t → table_place ts x < length ts
place_within [] x t e = absurd (cc e)
place_within (u ∷ ts) x t e = go (same_text u.name x) e (place_within ts x t)
  where
    go : (b : Bool) → cond b (Some u) (table_named ts x) ≡ Some t → (table_named ts x ≡ Some t → table_place ts x < length ts) → cond b 0 (suc (table_place ts x)) < suc (length ts)
    go true i more = omega arith
    go false i more = (let k = more i in omega arith)

pub name_at : (ts : List Table) (x : List ℕ) (t : Table) → table_named ts x ≡ Some t → numbers.table_name ts (table_place ts x) ≡ x
name_at [] x t e = absurd (cc e)
name_at (u ∷ ts) x t e = go (same_text u.name x) refl e (name_at ts x t)
  where
    go : (b : Bool) → same_text u.name x ≡ b → cond b (Some u) (table_named ts x) ≡ Some t → (table_named ts x ≡ Some t → numbers.table_name ts (table_place ts x) ≡ x) → numbers.table_name (u ∷ ts) (cond b 0 (suc (table_place ts x))) ≡ x
    go true k i more = text_is u.name x k
    go false k i more = more i

long_before : (as' : List Action) (pss : List (List ValueShape)) (ts : List Table) (kss : List (List ValueShape)) → length (shapes (tables_before as' pss ts kss)) ≡ length ts
long_before as' pss [] kss = refl
long_before as' pss (t ∷ ts) [] = ap suc (long_before as' pss ts [])
long_before as' pss (t ∷ ts) (ks ∷ kss) = ap suc (long_before as' pss ts kss)

long_shapes : (st : List state.Held) → length (shapes st) ≡ length st
long_shapes [] = refl
long_shapes (h ∷ hs) = ap suc (long_shapes hs)

shape_at : (st : List state.Held) (n : ℕ) → (held_at st n).shape ≡ get_or (shapes st) n no_table.shape
shape_at [] n = refl
shape_at (h ∷ hs) zero = refl
shape_at (h ∷ hs) (suc n) = shape_at hs n

-- ---- forms

keys_formed : (n i : ℕ) (ts : List Ty) → key_shapes (map plain_key (keys_for n i ts)) (map value_of (map number_of ts)) ≡ exact_keys ts
keys_formed n i [] = refl
keys_formed n i (t ∷ ts) = ap (λ (ks : List KeyShape). record { kind = Exact; value = bits_of (width_of t) } ∷ ks) (keys_formed n (suc i) ts)

params_formed : (d : Shape) → map value_of (wanted_params d) ≡ params_for d
params_formed (one t) = refl
params_formed (list t n) = refl
params_formed (set ts) = refl
params_formed (dict ts t) = refl

no_action_stands : (as' : List Action) → IsActionName as' (codes "NoAction")
no_action_stands as' = go (action_named as' (codes "NoAction")) refl
  where
    go : (o : Option Action) → action_named as' (codes "NoAction") ≡ o → IsActionName as' (codes "NoAction")
    go None e = none_place as' (codes "NoAction") e
    go (Some a) e = found_stands as' (codes "NoAction") a e

-- what is known of a lookup in a program
pub record IsKnown (q : Program) (l : Lookup) : Type 0 where
  pub table : table_named (parts_of q).tables (code.table_name l.control l.number) ≡ Some (plain_table (table_for l))
  pub keys : values_at (keys_hold q) (table_place (parts_of q).tables (code.table_name l.control l.number)) ≡ map value_of (wanted_keys l.decl.shape)
  pub params : values_at (params_hold q) (action_place (parts_of q).actions (code.action_name l.control l.number)) ≡ map value_of (wanted_params l.decl.shape)

module _ (q : Program) (st : List state.Held) (is : IsStateOf q st) (p : Property) where
  abbrev f : Parts
  f = parts_of q

  long : length st ≡ length (parts_of q).tables
  unfolding state_before
  long = sym (long_shapes st) ∙ (ap length is.same ∙ long_before (parts_of q).actions (params_hold q) (parts_of q).tables (keys_hold q))

  module _ (l : Lookup) (known : IsKnown q l) where
    abbrev x : List ℕ
    x = code.table_name l.control l.number

    abbrev n : ℕ
    n = table_place f.tables (code.table_name l.control l.number)

    abbrev d : Shape
    d = l.decl.shape

    abbrev written : table.Shape
    written = table_shape f.actions (params_hold q) (plain_table (table_for l)) (map value_of (wanted_keys d))

    shape_before : (held_at (state_before q) n).shape ≡ written
    unfolding state_before
    shape_before =
        ap (λ (h : state.Held). h.shape) (at_place f.actions (params_hold q) f.tables (keys_hold q) x (plain_table (table_for l)) known.table)
        ∙ ap (table_shape f.actions (params_hold q) (plain_table (table_for l))) known.keys

    default_before : (held_at (state_before q) n).default ≡ numbered f.actions (default_for l d)
    unfolding state_before
    default_before = ap (λ (h : state.Held). h.default) (at_place f.actions (params_hold q) f.tables (keys_hold q) x (plain_table (table_for l)) known.table)

    shape_now : (held_at st n).shape ≡ written
    shape_now = shape_at st n ∙ (ap (λ (ss : List table.Shape). get_or ss n no_table.shape) is.same ∙ (sym (shape_at (state_before q) n) ∙ shape_before))

    abbrev first_action : ℕ
    first_action = action_place f.actions (code.action_name l.control l.number)

    first_is : (e : Shape) → slice_get (map (action_shape f.actions (params_hold q)) (actions_for l e)) 0 ≡ Some (record { number = first_action; params = values_at (params_hold q) first_action })
    first_is (one t) = refl
    first_is (list t m) = refl
    first_is (set ts) = refl
    first_is (dict ts t) = refl

    formed : HasForm written first_action d
    formed =
        record {
          keys = keys_formed l.number 0 (key_types d);
          first = first_is d ∙ ap (λ (vs : List ValueShape). Some (record { number = first_action; params = vs })) (known.params ∙ params_formed d);
          fixed = refl;
        }

    missed : (e : Shape) → has_miss e ≡ true → named_act (action_name f.actions) (numbered f.actions (default_for l e)) ≡ miss
    missed (one t) h = broken (sym h)
    missed (list t m) h = broken (sym h)
    missed (set ts) h = ap (λ (y : List ℕ). record { action = y; args = [] }) (no_action_stands f.actions)
    missed (dict ts t) h = ap (λ (y : List ℕ). record { action = y; args = [] }) (no_action_stands f.actions)

    is_of_form : (held_at st n).default ≡ (held_at (state_before q) n).default → IsOfForm f st (row_of f p l)
    is_of_form same =
        record {
          long = long;
          there = place_within f.tables x (plain_table (table_for l)) known.table;
          named = ap (table_place f.tables) (name_at f.tables x (plain_table (table_for l)) known.table);
          form = subst (λ (s : table.Shape). HasForm s first_action d) (sym shape_now) formed;
          misses = λ h. ap (named_act (action_name f.actions)) (same ∙ default_before) ∙ missed d h;
        }

  -- two of different names have different places
  other_place : (l m : Lookup) → IsKnown q l → IsKnown q m → same_text (code.table_name l.control l.number) (code.table_name m.control m.number) ≡ false → (row_of f p m).table ≢ (row_of f p l).table
  other_place l m kl km h e =
      (let one = name_at f.tables (code.table_name l.control l.number) (plain_table (table_for l)) kl.table in
      let two = name_at f.tables (code.table_name m.control m.number) (plain_table (table_for m)) km.table in
      let same : code.table_name l.control l.number ≡ code.table_name m.control m.number = sym one ∙ (ap (numbers.table_name f.tables) (sym e) ∙ two) in
      broken (sym (text_same (code.table_name l.control l.number) (code.table_name m.control m.number) same) ∙ h))

  others : (l : Lookup) → IsKnown q l → (ms : List Lookup) → AllByRecursion (IsKnown q) ms → AllByRecursion (λ (m : Lookup). same_text (code.table_name l.control l.number) (code.table_name m.control m.number) ≡ false) ms
      → AllByRecursion (λ (k : Numbered). k.table ≢ (row_of f p l).table) (map (row_of f p) ms)
  others l kl [] k h = tt
  others l kl (m ∷ ms) k h = (other_place l m kl k.0 h.0, others l kl ms k.1 h.1)

  is_map : (start : ℕ) (ls : List Lookup) → AreNumbered start ls → AllByRecursion (IsKnown q) ls → HaveWritten q st (map (row_of f p) ls) → IsMapOf f st (map (row_of f p) ls)
  is_map start [] rise k w = tt
  is_map start (l ∷ ls) rise k w = (is_of_form l k.0 w.0, (others l k.0 ls k.1 (tables_differ start l ls rise), is_map (suc l.number) ls rise.1 k.1 w.1))

-- ---- the law

abbrev no_net : Wiring
no_net = record { switches = 0; links = [] }

module _ (exact : ReachesIsExact) (property : Property) (f : Program) (room : ℕ) (can : CanBeLinked property f room) (k : Linkable (linked_form f)) (net : Wiring) (s : ℕ) (small : s < 2 ^ 16) where
  abbrev g : Given
  g = given_in property f k

  abbrev p : Program
  p = linked_form f

  abbrev size : ℕ
  size = suc (lower_monitor g).room

  abbrev links : List ℕ
  links = ports_at net.links s

  abbrev q : Program
  q = linked_trees (trees_in property f k) (lower_monitor g) f net s

  no : HasNoFault f property room
  no = (no_fault_says f property room).0 can.faultless

  can_link : CanLink f
  can_link = no_fault_can_link f can.typed can.spelled no.names

  host : hosts.IsGiven (linked_form f)
  host = linked_form_is_given f can_link

  given : IsGiven g
  given = faultless_is_given property f room can k

  own_roots : HasOwnRoots (linked_form f) k
  own_roots = linkable_has_own_roots (linked_form f) k

  gives : GivesMonitor (trees_in property f k) (lower_monitor g) (halves_of g) k.ingress.name k.egress.name (control_roots k.ingress) (control_roots k.egress)
  gives = gives_monitor g given (control_roots k.ingress) (control_roots k.egress) own_roots.ingress own_roots.egress

  stand : Stand (lower_monitor g) (linked_form f) q
  stand = tables_stand Held Held Contents (trees_in property f k) (lower_monitor g) (halves_of g) (linked_form f) host k gives s (ports_at net.links s)

  typed : IsWellTyped q
  typed = (faultless_is_linked exact property f room can k no_net (All-nil (IsLinkOf no_net))).typed size s links small

  numbered_all : AreNumbered 0 (lookups g)
  numbered_all = lookups_numbered g given

  plain_tops : OldTops is_plain p.tops
  plain_tops = (plain_if_spelled p host.spelled).tops

  -- ---- the two controls

  at_name : (n : ℕ) (c : Control) → control_in p n ≡ Some c → c.name ≡ named_in p.main n
  at_name n c there = named_is p.tops (named_in p.main n) c there

  abbrev entry_vars : List Var
  entry_vars = block_vars (decls g) (init g) 0

  abbrev exit_vars : List Var
  exit_vars = flag_locals ++ (block_vars (decls g) (tele g) (tele_first g) ++ block_vars (decls g) (check g) (check_first g))

  entry_shaped : locals_at (trees_in property f k) links (place_in p.main k.ingress.name) k.ingress ≡ all_with (control_roots k.ingress) k.ingress.name entry_vars (entry_lookups g) (map (local_with (control_roots k.ingress)) k.ingress.locals)
  entry_shaped =
      ap (λ (at : Place). locals_at (trees_in property f k) links at k.ingress) (ap (place_in p.main) (at_name 2 k.ingress k.ready.ingress) ∙ k.ready.at_ingress)
      ∙ made_of (control_roots k.ingress) entry_vars (entry_lookups g) k.ingress.locals

  exit_shaped : locals_at (trees_in property f k) links (place_in p.main k.egress.name) k.egress ≡ all_with (control_roots k.egress) k.egress.name exit_vars (exit_lookups g) (map (local_with (control_roots k.egress)) k.egress.locals)
  exit_shaped =
      ap (λ (at : Place). locals_at (trees_in property f k) links at k.egress) (ap (place_in p.main) (at_name 3 k.egress k.ready.egress) ∙ k.ready.at_egress)
      ∙ made_of (control_roots k.egress) exit_vars (exit_lookups g) k.egress.locals

  entry_keys : (v : Scope) → AllByRecursion (IsHere v) entry_vars → AllByRecursion (KeysHere v) (entry_lookups g)
  entry_keys v h = lookups_here v (block_numbers (decls g) (init g) 0) h

  exit_keys : (v : Scope) → AllByRecursion (IsHere v) exit_vars → AllByRecursion (KeysHere v) (exit_lookups g)
  exit_keys v h =
      (let behind = all_behind (IsHere v) flag_locals (block_vars (decls g) (tele g) (tele_first g) ++ block_vars (decls g) (check g) (check_first g)) h in
      let parts = all_behind (IsHere v) (block_vars (decls g) (tele g) (tele_first g)) (block_vars (decls g) (check g) (check_first g)) behind.1 in
      both_here v (block_lookups (decls g) (tele g) (tele_first g)) (block_lookups (decls g) (check g) (check_first g)) (lookups_here v (block_numbers (decls g) (tele g) (tele_first g)) parts.0)
      (lookups_here v (block_numbers (decls g) (check g) (check_first g)) parts.1))

  abbrev exit_rows : List Lookup
  exit_rows = map (lookup_of g.egress) (block_lookups (decls g) (tele g) (tele_first g)) ++ map (lookup_of g.egress) (block_lookups (decls g) (check g) (check_first g))

  behind : RiseBehind exit_rows
  behind = rise_behind 0 (map (lookup_of g.ingress) (entry_lookups g)) exit_rows numbered_all

  exit_is : exit_rows ≡ map (lookup_of g.egress) (exit_lookups g) ++ []
  exit_is = sym (append-nil (map (lookup_of g.egress) (exit_lookups g)) ∙ map-append (lookup_of g.egress) (block_lookups (decls g) (tele g) (tele_first g)) (block_lookups (decls g) (check g) (check_first g)))

  entry_apart : TablesDiffer (control_roots k.ingress) g.ingress (entry_lookups g)
  entry_apart = tables_apart (control_roots k.ingress) g.ingress 0 (entry_lookups g) exit_rows numbered_all

  exit_apart : TablesDiffer (control_roots k.egress) g.egress (exit_lookups g)
  exit_apart = tables_apart (control_roots k.egress) g.egress behind.start (exit_lookups g) [] (subst (AreNumbered behind.start) exit_is behind.rise)

  -- what each table and each action holds
  abbrev Holds : Lookup → Type 0
  Holds l =
      (kinds_named (tops_hold_of every core q.tops) (code.table_name l.control l.number) ≡ wanted_keys l.decl.shape)
      × (kinds_named (tops_hold_of every core q.tops) (code.action_name l.control l.number) ≡ wanted_params l.decl.shape)

  both_hold : (c : List ℕ) (ls : List (ℕ × Decl)) → AllByRecursion (λ (m : ℕ × Decl). kinds_named (tops_hold_of every core q.tops) (code.table_name c m.0) ≡ wanted_keys (m.1).shape) ls
      → AllByRecursion (λ (m : ℕ × Decl). kinds_named (tops_hold_of every core q.tops) (code.action_name c m.0) ≡ wanted_params (m.1).shape) ls → AllByRecursion (λ (m : ℕ × Decl). Holds (lookup_of c m)) ls
  both_hold c [] a b = tt
  both_hold c (m ∷ ls) a b = ((a.0, b.0), both_hold c ls a.1 b.1)

  entry_hold : AllByRecursion (λ (m : ℕ × Decl). Holds (lookup_of g.ingress m)) (entry_lookups g)
  entry_hold =
      both_hold g.ingress (entry_lookups g)
      (tables_hold (trees_in property f k) size links p s gives.tops plain_tops typed 2 k.ingress k.ready.ingress entry_vars (entry_lookups g) entry_shaped entry_apart entry_keys)
      (actions_hold (trees_in property f k) size links p s gives.tops plain_tops typed 2 k.ingress k.ready.ingress entry_vars (entry_lookups g) entry_shaped (actions_apart (control_roots k.ingress) g.ingress (entry_lookups g) entry_apart))

  exit_hold : AllByRecursion (λ (m : ℕ × Decl). Holds (lookup_of g.egress m)) (exit_lookups g)
  exit_hold =
      both_hold g.egress (exit_lookups g)
      (tables_hold (trees_in property f k) size links p s gives.tops plain_tops typed 3 k.egress k.ready.egress exit_vars (exit_lookups g) exit_shaped exit_apart exit_keys)
      (actions_hold (trees_in property f k) size links p s gives.tops plain_tops typed 3 k.egress k.ready.egress exit_vars (exit_lookups g) exit_shaped (actions_apart (control_roots k.egress) g.egress (exit_lookups g) exit_apart))

  all_hold : AllByRecursion Holds (lookups g)
  all_hold =
      back_all Holds g.ingress (entry_lookups g) exit_rows entry_hold
      (subst (AllByRecursion Holds) (sym exit_is) (back_all Holds g.egress (exit_lookups g) [] exit_hold tt))

  -- each is known
  known : (l : Lookup) → table_named (map table_for (lookups g)) (code.table_name l.control l.number) ≡ Some (table_for l) → Holds l → IsKnown q l
  known l there holds =
      record {
        table = stand.monitor_tables (code.table_name l.control l.number) (table_mine l.control l.number) ∙ ap (option_map plain_table) there;
        keys =
            keys_named every (code.table_name l.control l.number) (λ c y e. refl) (parts_of q).actions q.tops core no_scope
            (stand.monitor_actions (code.table_name l.control l.number) (table_mine l.control l.number) ∙ ap (option_map plain_action) (no_action_there l.control l.number (lookups g)))
            ∙ ap (map value_of) holds.0;
        params =
            params_named every (code.action_name l.control l.number) (λ c y e. refl) (parts_of q).actions q.tops core no_scope
            (stand.monitor_tables (code.action_name l.control l.number) (action_mine l.control l.number) ∙ ap (option_map plain_table) (no_table_there l.control l.number (lookups g)))
            ∙ ap (map value_of) holds.1;
      }

  each_known : (ls : List Lookup) → AllByRecursion (λ (l : Lookup). table_named (map table_for (lookups g)) (code.table_name l.control l.number) ≡ Some (table_for l)) ls → AllByRecursion Holds ls → AllByRecursion (IsKnown q) ls
  each_known [] t h = tt
  each_known (l ∷ ls) t h = (known l t.0 h.0, each_known ls t.1 h.1)

  pub all_known : AllByRecursion (IsKnown q) (lookups g)
  all_known = each_known (lookups g) (table_there 0 (lookups g) numbered_all) all_hold

  formed_map : (st : List state.Held) → IsStateOf q st → HaveWritten q st (map_in (parts_of q) g) → IsMapOf (parts_of q) st (map_in (parts_of q) g)
  formed_map st is written =
      subst (IsMapOf (parts_of q) st) (sym (map_is (parts_of q) g))
      (is_map q st is property 0 (lookups g) numbered_all all_known (subst (HaveWritten q st) (map_is (parts_of q) g) written))

pub monitor_tables_have_form : ReachesIsExact → MonitorTablesHaveForm
monitor_tables_have_form exact property f room can k net s small st is written = formed_map exact property f room can k net s small st is written
