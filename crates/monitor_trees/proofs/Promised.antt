-- Every promise on the trees as parts, from what is given.
use Rattle.std.proofs.Common.{◌≡◌, ℕ, zero, suc, ◌+◌, ◌-◌, ◌*◌, ◌≤◌, List, [], ◌∷◌, ◌++◌, map, true, false, cond, Option, Some, None, refl, sym, ap, ap₂, ◌∙◌, subst, arith}
use Rattle.std.specs.List.{AllByRecursion}
use Rattle.bit_values.specs.Widths.{sound_width}
use Rattle.indus_tree.specs.Tree.{Decl, Shape, one, list, set, dict}
use Rattle.indus_tree.specs.State.{shape_width, lookup, width_of as type_width}
use Rattle.indus_tree.specs.declared.tree.Ty.{Ty}
use Rattle.indus_tree.specs.declared.tree.Ty.TheVariants as ty
use Rattle.indus_rules.specs.Rules.{misshapen}
use Rattle.flat_laws.specs.Typing.{flat_property}
use Rattle.flat_laws.proofs.FineProperty.{flat_code_is_well_typed}
use Rattle.p4_meaning.specs.Value.{width_of}
use Rattle.p4_meaning.proofs.Words.{sound as sound_is}
use Rattle.indus_tree.specs.declared.tree.DeclKind.{DeclKind}
use Rattle.indus_tree.specs.declared.tree.DeclKind.TheVariants.{Tele, Sensor, Header, Control}
use Rattle.p4_tree.specs.Tree as p4
use Rattle.p4_tree.specs.Tree.{Stmts, done, next, and_then, without, Top}
use Rattle.p4_tree.specs.declared.statement.PTy.{PTy}
use Rattle.p4_meaning.specs.Scope.{Scope, Roots, full, is_among, type_under}
use Rattle.p4_meaning.specs.Under.{stmts_under}
use Rattle.p4_meaning.specs.Parsing.{Field, width_sum}
use Rattle.p4_meaning.specs.Actions.{Action, action_named}
use Rattle.p4_meaning.specs.Tables.{Table}
use Rattle.p4_meaning.specs.Parts.{Cells, field_of, registers_of as p4_registers}
use Rattle.own_code.specs.Regions.{is_mine}
use Rattle.monitor_laws.specs.Names.{last_name, rejected_name}
use Rattle.monitor_laws.specs.Telemetry.{mark_field}
use Rattle.monitor_laws.specs.Monitor.{flag_locals}
use Rattle.linked_programs.specs.Gives.{AreOwnRoots, IsLoweredTop, GivesMonitor, AtEntry, AtExit}
use Rattle.linked_programs.specs.Reads.{StmtsReadIn}
use Rattle.sensor_registers.specs.Registers.{cell_type, cells_type, cell_count}
use Rattle.lowered_code.specs.Names.{sensor_name, action_name}
use Rattle.lowered_code.specs.Environment.{in_control}
use Rattle.lowered_code.specs.Statements.{Var, lookups_in, block_code, block_vars, block_numbers, block_lookups, read_lookups, control_kind}
use Rattle.lowered_code.proofs.Rising.{IsDeclared, block_read}
use Rattle.lookup_tables.specs.Tables.{Lookup, action_for, table_for}
use Rattle.lookup_tables.proofs.Named.{action_there}
use Rattle.whole_properties.specs.Whole.{Given, tele_field, tele_fields, fill_field, fill_fields, tele_room, decls, init, tele, check, tele_first, check_first, fields, registers_in, register_in, lookups, lower_monitor}
use Rattle.whole_properties.specs.Asked.{IsGiven}
use Rattle.whole_properties.proofs.Numbering.{lookup_of}
use Rattle.whole_properties.proofs.Lists.{all_weaker}
use Rattle.whole_properties.proofs.Once.{AreOnce, each_found}
use Rattle.whole_properties.proofs.Declarations.{once as once_in, shapely}
use Rattle.whole_properties.proofs.Facts.{sound, lookups_numbered}
use Rattle.lower_blocks.specs.Trees.{field_tree, register_tops, registers_of, checks_of}
use Rattle.monitor_trees.specs.Trees.{trees_of, halves_of}
use Rattle.monitor_trees.proofs.Expressions.{variable_under}
use Rattle.monitor_trees.proofs.ReadsUnder.{then_under}
use Rattle.monitor_trees.proofs.LocalsUnder.{IsVar, IsNamed}
use Rattle.monitor_trees.proofs.Choices.{actions_apart, tables_apart}
use Rattle.monitor_trees.proofs.Property.{Looks, all_both as all_pairs, all_vars, vars_are, flags_are, none_rejects, locals_lowered, stage, named, code_is, vars_is, actions_is, tables_is, locals_read, code_reads, Ready}
use Rattle.monitor_trees.proofs.Rooted.{are_rooted}

-- ---- lists of lookups

all_left : (P : ℕ × Decl → Type 0) (a b : Looks) → AllByRecursion P (a ++ b) → AllByRecursion P a
all_left P [] b h = tt
all_left P (l ∷ ls) b h = (h.0, all_left P ls b h.1)

all_right : (P : ℕ × Decl → Type 0) (a b : Looks) → AllByRecursion P (a ++ b) → AllByRecursion P b
all_right P [] b h = h
all_right P (l ∷ ls) b h = all_right P ls b h.1

map_append : {A B : Type 0} (f : A → B) (a b : List A) → map f (a ++ b) ≡ map f a ++ map f b
map_append f [] b = refl
map_append f (l ∷ a) b = ap (λ xs. f l ∷ xs) (map_append f a b)

front_of : (P : Lookup → Type 0) (a b : List Lookup) → AllByRecursion P (a ++ b) → AllByRecursion P a
front_of P [] b h = tt
front_of P (l ∷ ls) b h = (h.0, front_of P ls b h.1)

back_of : (P : Lookup → Type 0) (a b : List Lookup) → AllByRecursion P (a ++ b) → AllByRecursion P b
back_of P [] b h = h
back_of P (l ∷ ls) b h = back_of P ls b h.1

-- those of a control
pairs_of : (P : Lookup → Type 0) (c : List ℕ) (ls : Looks) → AllByRecursion P (map (lookup_of c) ls) → AllByRecursion (λ l. P (lookup_of c l)) ls
pairs_of P c [] h = tt
pairs_of P c (l ∷ ls) h = (h.0, pairs_of P c ls h.1)

all_join : (P : ℕ × Decl → Type 0) (a b : Looks) → AllByRecursion P a → AllByRecursion P b → AllByRecursion P (a ++ b)
all_join P [] b h k = k
all_join P (l ∷ a) b h k = (h.0, all_join P a b h.1 k)

all_fields : (P : Field → Type 0) (a b : List Field) → AllByRecursion P a → AllByRecursion P b → AllByRecursion P (a ++ b)
all_fields P [] b h k = k
all_fields P (l ∷ a) b h k = (h.0, all_fields P a b h.1 k)

actions_mine : (ls : List Lookup) → AllByRecursion (λ (a : Action). is_mine a.name ≡ true) (map action_for ls)
actions_mine [] = tt
actions_mine (l ∷ ls) = (refl, actions_mine ls)

tables_mine : (ls : List Lookup) → AllByRecursion (λ (t : Table). is_mine t.name ≡ true) (map table_for ls)
tables_mine [] = tt
tables_mine (l ∷ ls) = (refl, tables_mine ls)

-- ---- registers

registers_mine : (ds : List Decl) → AllByRecursion (λ (c : Cells). is_mine c.name ≡ true) (registers_in ds)
registers_mine [] = tt
registers_mine (d ∷ ds) = go d.kind (registers_mine ds)
  where
    go : (k : DeclKind) → AllByRecursion (λ (c : Cells). is_mine c.name ≡ true) (registers_in ds) → AllByRecursion (λ (c : Cells). is_mine c.name ≡ true) (register_in k d ++ registers_in ds)
    go Tele h = h
    go Sensor h = (refl, h)
    go Header h = h
    go Control h = h

tops_lowered : (ds : List Decl) → AllByRecursion IsLoweredTop (registers_of ds)
tops_lowered [] = tt
tops_lowered (d ∷ ds) = go d.kind (tops_lowered ds)
  where
    go : (k : DeclKind) → AllByRecursion IsLoweredTop (registers_of ds) → AllByRecursion IsLoweredTop (register_tops k d ++ registers_of ds)
    go Tele h = h
    go Sensor h = (refl, h)
    go Header h = h
    go Control h = h

of_type : (t : Ty) (ts : List (List ℕ × PTy)) → width_of (type_under ts (cell_type t)) ≡ type_width t
of_type (ty.Bit w) ts = refl
of_type ty.Bool ts = refl

-- a cell of a sensor has the width of its values
width_is : (k : Shape) (ts : List (List ℕ × PTy)) → misshapen Sensor k ≡ false → width_of (type_under ts (cells_type k)) ≡ shape_width k
width_is (one t) ts h = of_type t ts
width_is (list t n) ts h = of_type t ts
width_is (set ks) ts h = absurd (cc h)
width_is (dict ks t) ts h = absurd (cc h)

registers_are : (sc : Scope) → sc.own ≡ [] → (ds : List Decl) → AllByRecursion (λ d. misshapen d.kind d.shape ≡ false) ds → p4_registers sc (registers_of ds) ≡ registers_in ds
registers_are sc o [] h = refl
registers_are sc o (d ∷ ds) h = go d.kind h.0 (registers_are sc o ds h.1)
  where
    go : (k : DeclKind) → misshapen k d.shape ≡ false → p4_registers sc (registers_of ds) ≡ registers_in ds → p4_registers sc (register_tops k d ++ registers_of ds) ≡ register_in k d ++ registers_in ds
    go Tele f r = r
    go Sensor f r = λ j. record { name = cond (is_among (o j) (sensor_name d.name)) (full sc.control (sensor_name d.name)) (sensor_name d.name); width = width_is d.shape sc.types f j; count = cell_count d.shape } ∷ r j
    go Header f r = r
    go Control f r = r

-- ---- fields

fields_are : (types : List (List ℕ × PTy)) (fs : List Field) → AllByRecursion (λ (f : Field). sound_width f.width ≡ f.width) fs → map (field_of types) (map field_tree fs) ≡ fs
fields_are types [] h = refl
fields_are types (f ∷ fs) h = λ j. record { name = f.name; width = h.0 j } ∷ fields_are types fs h.1 j

abbrev HasSoundFields : List Field → Type 0
HasSoundFields fs = AllByRecursion (λ (f : Field). sound_width f.width ≡ f.width) fs

tele_sound : (ds : List Decl) → AllByRecursion (λ d. sound_width (shape_width d.shape) ≡ shape_width d.shape) ds → HasSoundFields (tele_fields ds)
tele_sound [] h = tt
tele_sound (d ∷ ds) h = go d.kind (tele_sound ds h.1)
  where
    go : (k : DeclKind) → HasSoundFields (tele_fields ds) → HasSoundFields (tele_field k d ++ tele_fields ds)
    go Tele r = (h.0, r)
    go Sensor r = r
    go Header r = r
    go Control r = r

fill_sound : (w : ℕ) → w ≤ 128 → HasSoundFields (fill_field w)
fill_sound zero h = tt
fill_sound (suc w) h = (sound_is (suc w) (omega arith) h, tt)

-- ---- the property

module _ (g : Given) (i : IsGiven g) where
  once : AreOnce (decls g)
  once = once_in (flat_property g.property) (flat_code_is_well_typed g.property i.plain)

  all_sound : AllByRecursion (λ d. sound_width (shape_width d.shape) ≡ shape_width d.shape) (decls g)
  all_sound = all_weaker (λ d. lookup (decls g) d.name ≡ Some d) (λ d. sound_width (shape_width d.shape) ≡ shape_width d.shape) (λ d h. sound g i d.name d h) (decls g) (each_found (decls g) once)

  pub fields_sound : HasSoundFields (fields g)
  fields_sound =
      all_fields (λ (f : Field). sound_width f.width ≡ f.width) (tele_fields (decls g)) (fill_fields (tele_fields (decls g))) (tele_sound (decls g) all_sound)
      (fill_sound (tele_room (tele_fields (decls g)) * 8 - (8 + width_sum (tele_fields (decls g)))) (omega arith))

  all_shapely : AllByRecursion (λ d. misshapen d.kind d.shape ≡ false) g.property.decls
  all_shapely =
      all_weaker (λ d. lookup g.property.decls d.name ≡ Some d) (λ d. misshapen d.kind d.shape ≡ false) (λ d h. (shapely g.property i.plain.typed).shaped d.name d h) g.property.decls
      (each_found g.property.decls (once_in g.property i.plain.typed))

  -- lookups are of what is declared
  abbrev Sound : ℕ × Decl → Type 0
  Sound l = sound_width (shape_width (l.1).shape) ≡ shape_width (l.1).shape

  looks_sound : (rs : List (ℕ × Option Decl)) → AllByRecursion (λ r. IsDeclared (decls g) r.1) rs → AllByRecursion Sound (lookups_in rs)
  looks_sound [] h = tt
  looks_sound (x ∷ rs) h = by_decl x.1 h.0 (looks_sound rs h.1)
    where
      by_kind : (k : DeclKind) (d : Decl) → lookup (decls g) d.name ≡ Some d → AllByRecursion Sound (lookups_in rs) → AllByRecursion Sound (control_kind k x.0 d ++ lookups_in rs)
      by_kind Tele d is r = r
      by_kind Sensor d is r = r
      by_kind Header d is r = r
      by_kind Control d is r = (sound g i d.name d is, r)

      by_decl : (o : Option Decl) → IsDeclared (decls g) o → AllByRecursion Sound (lookups_in rs) → AllByRecursion Sound (read_lookups x.0 o ++ lookups_in rs)
      by_decl None is r = r
      by_decl (Some d) is r = by_kind d.kind d is r

  abbrev init_looks : Looks
  init_looks = block_lookups (decls g) (init g) 0

  abbrev tele_looks : Looks
  tele_looks = block_lookups (decls g) (tele g) (tele_first g)

  abbrev check_looks : Looks
  check_looks = block_lookups (decls g) (check g) (check_first g)

  init_sound : AllByRecursion Sound init_looks
  init_sound = looks_sound (block_numbers (decls g) (init g) 0) (block_read (decls g) (init g) 0).declared

  exit_sound : AllByRecursion Sound (tele_looks ++ check_looks)
  exit_sound =
      all_join Sound tele_looks check_looks
      (looks_sound (block_numbers (decls g) (tele g) (tele_first g)) (block_read (decls g) (tele g) (tele_first g)).declared)
      (looks_sound (block_numbers (decls g) (check g) (check_first g)) (block_read (decls g) (check g) (check_first g)).declared)

  abbrev Found : Lookup → Type 0
  Found l = action_named (map action_for (lookups g)) (action_name l.control l.number) ≡ Some (action_for l)

  found : AllByRecursion Found (lookups g)
  found = action_there 0 (lookups g) (lookups_numbered g i)

  abbrev entry_looks : List Lookup
  entry_looks = map (lookup_of g.ingress) init_looks

  abbrev exit_looks : List Lookup
  exit_looks = map (lookup_of g.egress) tele_looks ++ map (lookup_of g.egress) check_looks

  exit_joined : map (lookup_of g.egress) (tele_looks ++ check_looks) ≡ exit_looks
  exit_joined = map_append (lookup_of g.egress) tele_looks check_looks

  module _ (r q : Roots) (or : AreOwnRoots r) (oq : AreOwnRoots q) where
    abbrev vs : List Var
    vs = block_vars (decls g) (init g) 0

    abbrev us : List Var
    us = flag_locals ++ (block_vars (decls g) (tele g) (tele_first g) ++ block_vars (decls g) (check g) (check_first g))

    vs_are : AllByRecursion IsVar vs
    vs_are = vars_are (block_numbers (decls g) (init g) 0)

    us_are : AllByRecursion IsVar us
    us_are =
        all_vars flag_locals (block_vars (decls g) (tele g) (tele_first g) ++ block_vars (decls g) (check g) (check_first g)) flags_are
        (all_vars (block_vars (decls g) (tele g) (tele_first g)) (block_vars (decls g) (check g) (check_first g)) (vars_are (block_numbers (decls g) (tele g) (tele_first g))) (vars_are (block_numbers (decls g) (check g) (check_first g))))

    abbrev ls : Looks
    ls = tele_looks ++ check_looks

    abbrev Enters : ℕ → Scope → Type 0
    Enters s sc = AtEntry (trees_of g r q) (lower_monitor g) (halves_of g) g.ingress g.egress r q s sc

    abbrev Leaves : ℕ → Scope → Type 0
    Leaves s sc = AtExit (trees_of g r q) (lower_monitor g) (halves_of g) g.ingress g.egress r q s sc

    exit_is : (s : ℕ) (sc : Scope) → Leaves s sc → stmts_under sc (trees_of g r q).exit ≡ (lower_monitor g).exit s
    exit_is s sc a =
        let n = named s g.egress q oq us ls sc a.0 a.1 in
        let st = stage s g.egress q oq us ls sc a.0 a.1 in
        let tele_is = code_is s g.egress q oq us ls sc a.0 a.1 (decls g) (are_rooted g i) (tele g) (tele_first g) (all_left (IsNamed sc g.egress) tele_looks check_looks n) in
        let check_is = code_is s g.egress q oq us ls sc a.0 a.1 (decls g) (are_rooted g i) (check g) (check_first g) (all_right (IsNamed sc g.egress) tele_looks check_looks n) in
        then_under sc (block_code (in_control q) (decls g) (tele g) (tele_first g)) (next (checks_of (block_code (in_control q) (decls g) (check g) (check_first g))) done)
        ∙ ap₂ and_then tele_is
        (λ j. next (p4.choice 0 (variable_under s q sc st last_name refl refl j) (p4.block 0 (next (p4.assign 0 (st.mine rejected_name refl j ∷ []) (p4.flag 0 false)) (check_is j))) without) done)

    both_read : (sc : Scope) (a b : Stmts) → StmtsReadIn sc q a → StmtsReadIn sc q b → StmtsReadIn sc q (and_then a b)
    both_read sc done b h k = k
    both_read sc (next c a) b h k = (h.0, both_read sc a b h.1 k)

    exit_read : (s : ℕ) (sc : Scope) → Leaves s sc → StmtsReadIn sc q (trees_of g r q).exit
    exit_read s sc a =
        both_read sc (block_code (in_control q) (decls g) (tele g) (tele_first g)) (next (checks_of (block_code (in_control q) (decls g) (check g) (check_first g))) done)
        (code_reads s g.egress q oq us ls sc a.0 a.1 (decls g) (are_rooted g i) (tele g) (tele_first g))
        ((tt, (tt, code_reads s g.egress q oq us ls sc a.0 a.1 (decls g) (are_rooted g i) (check g) (check_first g)), tt), tt)

    pub gives_monitor : GivesMonitor (trees_of g r q) (lower_monitor g) (halves_of g) g.ingress g.egress r q
    gives_monitor =
        record {
          marked = refl;
          tops = (refl, tops_lowered g.property.decls);
          fields = λ types. fields_are types (mark_field ∷ fields g) (refl, fields_sound);
          registers = λ sc o. registers_are sc o g.property.decls all_shapely;
          entry_locals = locals_lowered vs init_looks vs_are;
          exit_locals = locals_lowered us ls us_are;
          no_rejects = none_rejects us ls;
          entry = λ s sc a. code_is s g.ingress r or vs init_looks sc a.0 a.1 (decls g) (are_rooted g i) (init g) 0 (named s g.ingress r or vs init_looks sc a.0 a.1);
          exit = exit_is;
          entry_vars = λ s sc a. vars_is s g.ingress r or vs init_looks sc a.0 a.1 vs_are;
          exit_vars = λ s sc a. vars_is s g.egress q oq us ls sc a.0 a.1 us_are;
          actions = sym (map_append action_for entry_looks exit_looks);
          tables = sym (map_append table_for entry_looks exit_looks);
          entry_actions = λ s sc a. actions_is s g.ingress r or vs init_looks sc a.0 a.1;
          exit_actions = λ s sc a. actions_is s g.egress q oq us ls sc a.0 a.1 ∙ ap (map action_for) exit_joined;
          entry_tables = λ s sc a as' f.
              tables_is s g.ingress r or vs init_looks sc a.0 a.1 as' (lower_monitor g).actions f
              (all_pairs (λ l. Found (lookup_of g.ingress l)) Sound (Ready s g.ingress r or vs init_looks sc a.0 a.1 (lower_monitor g).actions) (λ l x y. (x, y)) init_looks (pairs_of Found g.ingress init_looks (front_of Found entry_looks exit_looks found)) init_sound);
          exit_tables = λ s sc a as' f.
              tables_is s g.egress q oq us ls sc a.0 a.1 as' (lower_monitor g).actions f
              (all_pairs (λ l. Found (lookup_of g.egress l)) Sound (Ready s g.egress q oq us ls sc a.0 a.1 (lower_monitor g).actions) (λ l x y. (x, y)) ls
              (pairs_of Found g.egress ls (subst (AllByRecursion Found) (sym exit_joined) (back_of Found entry_looks exit_looks found))) exit_sound)
              ∙ ap (map table_for) exit_joined;
          apart_actions = λ x. actions_apart x 0 entry_looks exit_looks (lookups_numbered g i);
          apart_tables = λ x. tables_apart x 0 entry_looks exit_looks (lookups_numbered g i);
          actions_named = actions_mine (lookups g);
          registers_named = registers_mine g.property.decls;
          tables_named = tables_mine (lookups g);
          entry_reads = λ s sc a. (locals_read s g.ingress r or vs init_looks sc a.0 a.1, code_reads s g.ingress r or vs init_looks sc a.0 a.1 (decls g) (are_rooted g i) (init g) 0);
          exit_reads = λ s sc a. (locals_read s g.egress q oq us ls sc a.0 a.1, exit_read s sc a);
        }
