-- All that the rules of P4 ask of a property's trees.
use Rattle.std.proofs.Common.{◌≡◌, codes, ℕ, suc, ◌%◌, ◌≤◌, ◌^◌, List, [], ◌∷◌, ◌++◌, map, length, Bool, true, false, cond, not, ◌||◌, nat_eq, nat_lt, Option, Some, None, refl, sym, ap, ap₂, ◌∙◌, subst, arith}
use Rattle.std.specs.List.{AllByRecursion}
use Rattle.bit_values.specs.Widths.{sound_width}
use Rattle.lex_text.specs.Names.{same_text, parent}
use Rattle.rule_tests.specs.Tests.{IsFine}
use Rattle.indus_tree.specs.Tree.{Shape, one, list, set, dict, Decl, Property}
use Rattle.indus_tree.specs.State.{lookup, shape_width, width_of}
use Rattle.indus_tree.specs.declared.tree.DeclKind.{DeclKind}
use Rattle.indus_tree.specs.declared.tree.DeclKind.TheVariants.{Tele, Sensor, Header, Control}
use Rattle.indus_tree.specs.declared.tree.Ty.{Ty}
use Rattle.indus_tree.specs.declared.tree.Ty.TheVariants as ty
use Rattle.indus_scopes.specs.Kinds as from
use Rattle.indus_scopes.specs.Scopes.{Sight}
use Rattle.indus_scopes.specs.declared.kind.Kind.TheVariants.{Number, Truth}
use Rattle.indus_scopes.specs.declared.scope.Block.{Block}
use Rattle.indus_scopes.specs.declared.scope.Block.TheVariants as block
use Rattle.indus_rules.specs.Sites.{sight}
use Rattle.indus_rules.specs.Rules.{IsWellTyped, is_init, misshapen, ill_started, ill_headed, bad_path, bad_shape, bad_width, bad_widths, is_truth, same_truth}
use Rattle.indus_rules.specs.declared.rule.Rule.TheVariants.{KindDiffers}
use Rattle.indus_types.proofs.Widths.{neither, twice_not}
use Rattle.indus_types.proofs.Checked.{each_fine}
use Rattle.flat_laws.specs.Typing.{flat_property}
use Rattle.flat_laws.proofs.FormLemmas.{flat_code_is_flat}
use Rattle.flat_laws.proofs.FineProperty.{flat_code_is_well_typed}
use Rattle.flat_laws.proofs.Typed.{fine_decl, shaped_well}
use Rattle.p4_meaning.specs.Standard.{headers_root, metadata_root, standard_root}
use Rattle.p4_meaning.specs.Scope.{Roots}
use Rattle.p4_meaning.specs.Parsing.{Field, width_sum}
use Rattle.p4_tree.specs.Tree as p4
use Rattle.p4_tree.specs.Tree.{Stmts, done, next, and_then, Local, Top}
use Rattle.p4_tree.specs.declared.statement.PTy.TheVariants as type
use Rattle.p4_scopes.specs.Kinds as to
use Rattle.p4_scopes.specs.Scopes.{Scope, Stands, missing, typed, held, cells, act, rows, function, What, value, fields, declare, core, is_missing, as_held, as_typed, access_of, behind, field_at, fields_bits, standard_at, value_kind}
use Rattle.p4_scopes.specs.Scopes as scope
use Rattle.p4_scopes.specs.Uses as uses
use Rattle.p4_scopes.specs.declared.kind.Kind.TheVariants as t
use Rattle.p4_scopes.specs.declared.thing.Thing.{Thing}
use Rattle.p4_scopes.specs.declared.thing.Thing.TheVariants as thing
use Rattle.p4_scopes.specs.declared.thing.Access.TheVariants.{Writable, Constant}
use Rattle.p4_scopes.specs.declared.thing.Function.TheVariants.{Digest}
use Rattle.p4_statement_rules.specs.Expressions.{expr_tests}
use Rattle.p4_statement_rules.specs.Calls.{target_tests}
use Rattle.p4_statement_rules.specs.Statements.{block_tests}
use Rattle.p4_statement_rules.specs.declared.rule.Part.TheVariants as place
use Rattle.p4_declaration_rules.specs.Controls.{locals_tests, after_locals, tops_tests, after_tops}
use Rattle.p4_rule_laws.specs.Kept.{Keeps}
use Rattle.own_code.specs.Regions.{is_mine}
use Rattle.monitor_laws.specs.Names.{mark_name, rejects_register, first_name, last_name, rejected_name}
use Rattle.monitor_laws.specs.Telemetry.{mark_field, AreApart}
use Rattle.monitor_laws.specs.Monitor.{flag_locals, fields_of}
use Rattle.linked_halves.specs.Statements.{count_name}
use Rattle.linked_programs.specs.Linked.{front, switch_top}
use Rattle.linked_rules.specs.Passes as asked
use Rattle.linked_rules.specs.Passes.{front_scope, IsFresh, Passes}
use Rattle.lookup_names.specs.Names.{table_name, action_name, found_name, key_name, value_name}
use Rattle.lookup_names.specs.Keys.{key_types}
use Rattle.lowered_code.specs.Names.{tele_name, sensor_name}
use Rattle.lowered_code.specs.Environment.{in_control, tele_path, rooted_path, rooted_view, switch_name}
use Rattle.lowered_code.specs.Expressions.{value_type, bits_type}
use Rattle.lowered_code.specs.Statements.{Var, key_vars, kept_types, control_kind, read_vars, read_lookups, vars_in, lookups_in, block_end, block_numbers, block_vars, block_lookups, block_code}
use Rattle.lowered_code.proofs.Rising.{AreRising, IsDeclared, AreReads, lookups_rising, reads_both, block_read}
use Rattle.lowered_code.proofs.Variables.{each_name}
use Rattle.lowered_code.proofs.Served.{vars_both, lookups_both}
use Rattle.whole_properties.specs.Whole.{Given, tele_fields, fill_fields, decls, init, tele, check, tele_first, check_first, fields as monitor_fields}
use Rattle.whole_properties.specs.Asked.{IsGiven}
use Rattle.whole_properties.proofs.Lists.{all_weaker, all_given}
use Rattle.whole_properties.proofs.Once.{name_found, each_found}
use Rattle.whole_properties.proofs.Declarations.{once as once_in, shapely, AreShapely}
use Rattle.whole_properties.proofs.Facts.{sound, kept_header, kept_sensor, apart, few, few_tele}
use Rattle.whole_properties.proofs.FlatForms.{block_numbered}
use Rattle.whole_properties.proofs.MonitorLaws.{laws}
use Rattle.lower_blocks.specs.Trees.{field_tree, registers_of, locals_for, checks_of}
use Rattle.monitor_trees.specs.Trees.{trees_of}
use Rattle.monitor_trees.proofs.Promised.{fields_sound}
use Rattle.monitor_rules.specs.Fields.{shown_at, standard_in, IsOwnBehind, IsShown, HasFields}
use Rattle.monitor_rules.proofs.KindMaps.{widths_same, kinds_same}
use Rattle.monitor_rules.proofs.FormRules.{place as wide, IsWidth, join_fits}
use Rattle.monitor_rules.proofs.ExprRules.{cast_bit}
use Rattle.monitor_rules.proofs.LeafRules.{IsRead, IsOf, path_of}
use Rattle.monitor_rules.proofs.StmtRules.{AreKeys, AreThere, Scene, block_typed}
use Rattle.monitor_rules.proofs.LocalRules.{LooksApart, IsSingle, kind_at, declare_other, declare_here, IsVar, NoVar, VarsNew, AreHeld, HasMiss, Applies, NoAct, NoLook}
use Rattle.monitor_rules.proofs.FrontRules.{width_of_sound, tops_append, AreWide as FieldsWide, no_twice, fields_fine, bits_are, field_found, NoSensor, registers_others, registers_stand, CanBeRegister, RegistersNew, registers_fine}
use Rattle.monitor_rules.proofs.PartRules.{found_held, AreWide, looks_apart, AreFlags, type_single, behind_is, others_are, all_held, all_applied, locals_fine}
use Rattle.monitor_rules.proofs.Quiet.{block_quiet}
use Rattle.monitor_rules.proofs.Declares.{exit_quiet}

-- ---- what header variables read

module _ (S : Scope) (H M : List ℕ) (r : Roots) (u z : Scope) (o : asked.Offers r u z) (w : asked.Shows S H M r z) where
  shown_is : (f : Bool) (th : Thing) (st : Stands) → st ≡ typed f th → as_held Writable (as_typed st) ≡ held (access_of f Writable) th
  shown_is f th st e = ap (λ q. as_held Writable (as_typed q)) e

  path_shown : (xs : List (List ℕ)) (f : Bool) (th : Thing) → IsOwnBehind xs → shown_at S H M xs ≡ typed f th → z (rooted_path r xs) ≡ held (access_of f Writable) th
  path_shown [] f th i e = absurd i
  path_shown (x ∷ []) f th i e = absurd i
  path_shown (x ∷ y ∷ ys) f th i e = go (same_text headers_root x) (same_text metadata_root x) (same_text standard_root x) e
    where
      standard : (ys : List (List ℕ)) → standard_in (y ∷ ys) ≡ typed f th → z (r.standard ∷ y ∷ ys) ≡ held (access_of f Writable) th
      standard [] e = o.fields y ∙ shown_is f th (standard_at y) e
      standard (v ∷ vs) e = absurd (cc e)

      go :
          (a b c : Bool) → cond a (S (H ∷ y ∷ ys)) (cond b (S (M ∷ y ∷ ys)) (cond c (standard_in (y ∷ ys)) missing)) ≡ typed f th →
          z (cond a r.headers (cond b r.metadata (cond c r.standard x)) ∷ y ∷ ys) ≡ held (access_of f Writable) th
      go true b c e = w.headers y ys i ∙ shown_is f th (S (H ∷ y ∷ ys)) e
      go false true c e = w.metadata y ys i ∙ shown_is f th (S (M ∷ y ∷ ys)) e
      go false false true e = standard ys e
      go false false false e = absurd (cc e)

  -- a header variable's expression is of its kind
  view_shown : (d : Decl) → d.kind ≡ Header → misshapen d.kind d.shape ≡ false → same_truth (is_truth d.shape) d.valid ≡ true → IsShown S H M d → IsOf z (from.kind_of (value_type d.shape)) (rooted_view r d)
  view_shown d k m h i = go d.shape d.valid refl refl (subst (λ k. misshapen k d.shape ≡ false) k m) h
    where
      as_field : (v : ℕ) → d.valid ≡ false → d.shape ≡ one (ty.Bit v) → IsOf z (Number v) (p4.path 0 (rooted_path r d.path))
      as_field v e s =
          let f = i.field e in
          let at : z (rooted_path r d.path) ≡ held (access_of f.0 Writable) (thing.Scalar (t.Number v)) =
          path_shown d.path f.0 (thing.Scalar (t.Number (shape_width d.shape))) f.1 f.2 ∙ ap (λ (s : Shape). held (access_of f.0 Writable) (thing.Scalar (t.Number (shape_width s)))) s in
          path_of z (rooted_path r d.path) (Number v) (record { there = ap is_missing at; read = ap uses.reads at; kind = ap value_kind at })

      as_test : d.valid ≡ true → IsOf z Truth (p4.valid 0 (rooted_path r (parent d.path)))
      as_test e =
          let f = i.header e in
          let at = path_shown (parent d.path) f.0 (thing.Header f.1) f.2 f.3 in
          record { same = refl; fine = λ w a b. (ap is_missing at, (ap (λ st. not (uses.holds_header st)) at, (widths_same Truth w ∙ a, kinds_same Truth w ∙ b))); bit = cast_bit z (p4.valid 0 (rooted_path r (parent d.path))) refl }

      go :
          (s : Shape) (b : Bool) → d.shape ≡ s → d.valid ≡ b → misshapen Header s ≡ false → same_truth (is_truth s) b ≡ true →
          IsOf z (from.kind_of (value_type s)) (cond b (p4.valid 0 (rooted_path r (parent d.path))) (p4.path 0 (rooted_path r d.path)))
      go (one ty.Bool) true s e m h = as_test e
      go (one ty.Bool) false s e m h = absurd (cc h)
      go (one (ty.Bit v)) true s e m h = absurd (cc h)
      go (one (ty.Bit v)) false s e m h = as_field v e s
      go (list x n) b s e m h = absurd (cc m)
      go (set ks) b s e m h = absurd (cc m)
      go (dict ks x) b s e m h = absurd (cc m)

-- ---- flags

no_exit : {A : Type 0} → false ≡ true → A
no_exit e = absurd (cc e)

no_flags : AreFlags []
no_flags = record { single = tt; acts = λ n. tt; tables = λ n. tt; value = tt; no_act = λ ls. tt; no_look = λ ls. tt }

each_look : (P : ℕ × Decl → Type 0) → ((l : ℕ × Decl) → P l) → (ls : List (ℕ × Decl)) → AllByRecursion P ls
each_look P f [] = tt
each_look P f (l ∷ ls) = (f l, each_look P f ls)

no_act_at : (x : List ℕ) → ((n : ℕ) → same_text (action_name n) x ≡ false) → (ls : List (ℕ × Decl)) → NoAct x ls
no_act_at x f ls = each_look (λ l. same_text (action_name l.0) x ≡ false) (λ l. f l.0) ls

no_look_at : (x : List ℕ) → ((n : ℕ) → same_text (table_name n) x ≡ false) → (ls : List (ℕ × Decl)) → NoLook x ls
no_look_at x f ls = each_look (λ l. same_text (table_name l.0) x ≡ false) (λ l. f l.0) ls

linkers_flags : AreFlags flag_locals
linkers_flags =
    let truth : IsSingle type.Bool = record { fine = λ s. (tt, refl); thing = λ s. refl } in
    record {
      single = (truth, (truth, (truth, tt)));
      acts = λ n. (refl, (refl, (refl, tt)));
      tables = λ n. (refl, (refl, (refl, tt)));
      value = (refl, (refl, (refl, tt)));
      no_act = λ ls. (no_act_at first_name (λ n. refl) ls, (no_act_at last_name (λ n. refl) ls, (no_act_at rejected_name (λ n. refl) ls, tt)));
      no_look = λ ls. (no_look_at first_name (λ n. refl) ls, (no_look_at last_name (λ n. refl) ls, (no_look_at rejected_name (λ n. refl) ls, tt)));
    }

-- ---- widths of what is read

type_wide : (x : Ty) → bad_width x ≡ false → IsWidth (width_of x)
type_wide (ty.Bit w) h = (let n = neither (nat_eq w 0) (nat_lt 128 w) h in record { some = n.0; few = n.1 })
type_wide ty.Bool h = record { some = refl; few = refl }

types_wide : (xs : List Ty) → bad_widths xs ≡ false → AllByRecursion (λ x. IsWidth (width_of x)) xs
types_wide [] h = tt
types_wide (x ∷ xs) h = (let n = neither (bad_width x) (bad_widths xs) h in (type_wide x n.0, types_wide xs n.1))

value_wide : (s : Shape) → bad_shape s ≡ false → IsWidth (width_of (value_type s))
value_wide (one x) h = type_wide x h
value_wide (list x n) h = type_wide x (neither (bad_width x) (nat_eq n 0) (neither (bad_width x || nat_eq n 0) (nat_lt 255 n) h).0).0
value_wide (set xs) h = record { some = refl; few = refl }
value_wide (dict xs x) h = type_wide x (neither (bad_widths xs || nat_lt 4 (length xs)) (bad_width x) h).1

keys_wide : (k : DeclKind) (s : Shape) → bad_shape s ≡ false → AllByRecursion (λ x. IsWidth (width_of x)) (kept_types k s)
keys_wide k s h = go k s h
  where
    of_keys : (s : Shape) → bad_shape s ≡ false → AllByRecursion (λ x. IsWidth (width_of x)) (key_types s)
    of_keys (one x) h = tt
    of_keys (list x n) h = tt
    of_keys (set xs) h = types_wide xs (neither (bad_widths xs) (nat_lt 4 (length xs)) h).0
    of_keys (dict xs x) h = types_wide xs (neither (bad_widths xs) (nat_lt 4 (length xs)) (neither (bad_widths xs || nat_lt 4 (length xs)) (bad_width x) h).0).0

    go : (k : DeclKind) (s : Shape) → bad_shape s ≡ false → AllByRecursion (λ x. IsWidth (width_of x)) (kept_types k s)
    go Sensor (list x n) h = (record { some = refl; few = refl }, tt)
    go Sensor (one x) h = tt
    go Sensor (set xs) h = of_keys (set xs) h
    go Sensor (dict xs x) h = of_keys (dict xs x) h
    go Tele s h = of_keys s h
    go Header s h = of_keys s h
    go Control s h = of_keys s h

keys_single : (n i : ℕ) (xs : List Ty) → AllByRecursion (λ x. IsWidth (width_of x)) xs → AllByRecursion IsVar (key_vars n i xs)
keys_single n i [] h = tt
keys_single n i (x ∷ xs) h = (type_single x h.0, keys_single n (suc i) xs h.1)

single_both : (a b : List Var) → AllByRecursion IsVar a → AllByRecursion IsVar b → AllByRecursion IsVar (a ++ b)
single_both [] b h k = k
single_both (v ∷ a) b h k = (h.0, single_both a b h.1 k)

module _ (ds : List Decl) (sized : (x : List ℕ) (d : Decl) → lookup ds x ≡ Some d → bad_shape d.shape ≡ false) (wide_at : (x : List ℕ) (d : Decl) → lookup ds x ≡ Some d → IsWidth (shape_width d.shape)) where
  reads_single : (rs : List (ℕ × Option Decl)) → AllByRecursion (λ r. IsDeclared ds r.1) rs → AllByRecursion IsVar (vars_in rs)
  reads_single [] h = tt
  reads_single (x ∷ rs) h = single_both (read_vars x.0 x.1) (vars_in rs) (go x.1 h.0) (reads_single rs h.1)
    where
      go : (o : Option Decl) → IsDeclared ds o → AllByRecursion IsVar (read_vars x.0 o)
      go None is = tt
      go (Some d) is = (type_single (value_type d.shape) (value_wide d.shape (sized d.name d is)), keys_single x.0 0 (kept_types d.kind d.shape) (keys_wide d.kind d.shape (sized d.name d is)))

  reads_wide : (rs : List (ℕ × Option Decl)) → AllByRecursion (λ r. IsDeclared ds r.1) rs → AreWide rs
  reads_wide [] h = tt
  reads_wide (x ∷ rs) h = ((λ d e. wide_at d.name d (subst (IsDeclared ds) e h.0)), reads_wide rs h.1)

-- ---- what is there for a part's statements

module _ (exits : Bool) (r : Roots) (z : Scope) (st : Sight) (flat : st.loops ≡ []) (hops : exits ≡ false → is_init st.block ≡ true) (well : AreShapely st.decls) where
  abbrev There : List (ℕ × Option Decl) → Type 0
  There rs = AreThere exits r z st flat hops well rs

  keys_there : (n i : ℕ) (xs : List Ty) → AreHeld z (key_vars n i xs) → AreKeys exits r z st flat hops well n i xs
  keys_there n i [] h = tt
  keys_there n i (x ∷ xs) h = (h.0 ∙ ap (λ k. held Writable (thing.Scalar k)) (bits_at x), keys_there n (suc i) xs h.1)
    where
      bits_at : (x : Ty) → kind_at (bits_type x) ≡ t.Number (width_of x)
      bits_at (ty.Bit w) = refl
      bits_at ty.Bool = refl

  vars_left : (a b : List Var) → AreHeld z (a ++ b) → AreHeld z a
  vars_left [] b h = tt
  vars_left (v ∷ a) b h = (h.0, vars_left a b h.1)

  vars_right : (a b : List Var) → AreHeld z (a ++ b) → AreHeld z b
  vars_right [] b h = h
  vars_right (v ∷ a) b h = vars_right a b h.1

  looks_left : (a b : List (ℕ × Decl)) → AllByRecursion (Applies z) (a ++ b) → AllByRecursion (Applies z) a
  looks_left [] b h = tt
  looks_left (v ∷ a) b h = (h.0, looks_left a b h.1)

  looks_right : (a b : List (ℕ × Decl)) → AllByRecursion (Applies z) (a ++ b) → AllByRecursion (Applies z) b
  looks_right [] b h = h
  looks_right (v ∷ a) b h = looks_right a b h.1

  there_of : (rs : List (ℕ × Option Decl)) → AreHeld z (vars_in rs) → AllByRecursion (Applies z) (lookups_in rs) → There rs
  there_of [] h k = tt
  there_of ((n, None) ∷ rs) h k = (tt, there_of rs h k)
  there_of ((n, Some d) ∷ rs) h k =
      let vars = vars_left (read_vars n (Some d)) (vars_in rs) h in (
        record {
          found = found_held z n d vars;
          keys = keys_there n 0 (kept_types d.kind d.shape) vars.1;
          rows = λ e. (subst (λ k. AllByRecursion (Applies z) (control_kind k n d)) e (looks_left (read_lookups n (Some d)) (lookups_in rs) k)).0;
        },
        there_of rs (vars_right (read_vars n (Some d)) (vars_in rs) h) (looks_right (read_lookups n (Some d)) (lookups_in rs) k),
      )

-- ---- a property

module _ (g : Given) (i : IsGiven g) where
  abbrev ps : List Decl
  ps = g.property.decls

  abbrev ds : List Decl
  ds = decls g

  abbrev q : Property
  q = flat_property g.property

  typed_code : IsWellTyped q
  typed_code = flat_code_is_well_typed g.property i.plain

  well : AreShapely ds
  well = shapely q typed_code

  wide_at : (x : List ℕ) (d : Decl) → lookup ds x ≡ Some d → IsWidth (shape_width d.shape)
  wide_at x d is = width_of_sound (shape_width d.shape) (sound g i x d is)

  -- ---- in front

  abbrev fs : List Field
  fs = mark_field ∷ monitor_fields g

  abbrev behind_rejects : Scope
  behind_rejects = declare core rejects_register (scope.register (type.Bit 32))

  abbrev Tele_type : What
  Tele_type = fields (thing.Header (fields_bits behind_rejects (map field_tree fs))) (map field_tree fs)

  abbrev behind_header : Scope
  behind_header = declare behind_rejects (codes "hydra_tele_t") Tele_type

  abbrev behind_registers : Scope
  behind_registers = after_tops behind_header (registers_of ps)

  abbrev behind_switch : Scope
  behind_switch = declare behind_registers switch_name (value Constant (type.Bit 16))

  pub front_is : (r s : Roots) (n : ℕ) → front_scope (trees_of g r s) n ≡ behind_switch
  front_is r s n = tops_append behind_header (registers_of ps) (switch_top n ∷ [])

  no_sensor : (x : List ℕ) → ((d : Decl) → same_text (sensor_name d.name) x ≡ false) → NoSensor x ps
  no_sensor x f = all_given (λ d. same_text (sensor_name d.name) x ≡ false) f ps

  pub at_tele : (xs : List (List ℕ)) → behind_switch (codes "hydra_tele_t" ∷ xs) ≡ behind behind_rejects Tele_type xs
  at_tele xs = declare_other behind_registers switch_name (value Constant (type.Bit 16)) (codes "hydra_tele_t") xs refl ∙ registers_others behind_header ps (codes "hydra_tele_t") xs (no_sensor (codes "hydra_tele_t") (λ d. refl)) ∙ declare_here behind_rejects (codes "hydra_tele_t") Tele_type xs

  at_rejects : behind_switch (rejects_register ∷ []) ≡ cells (t.Number 32)
  at_rejects =
      declare_other behind_registers switch_name (value Constant (type.Bit 16)) rejects_register [] refl ∙ registers_others behind_header ps rejects_register [] (no_sensor rejects_register (λ d. refl))
      ∙ declare_other behind_rejects (codes "hydra_tele_t") Tele_type rejects_register [] refl ∙ declare_here core rejects_register (scope.register (type.Bit 32)) []

  at_switch : behind_switch (switch_name ∷ []) ≡ held Constant (thing.Scalar (t.Number 16))
  at_switch = declare_here behind_registers switch_name (value Constant (type.Bit 16)) []

  at_sensor : (x : List ℕ) (c : Decl) → lookup ds x ≡ Some c → c.kind ≡ Sensor → behind_switch (sensor_name x ∷ []) ≡ cells (t.Number (shape_width c.shape))
  at_sensor x c is k =
      declare_other behind_registers switch_name (value Constant (type.Bit 16)) (sensor_name x) [] refl
      ∙ registers_stand behind_header ps x c (once_in g.property i.plain.typed)
      (all_weaker (λ d. lookup ps d.name ≡ Some d) (λ d. misshapen d.kind d.shape ≡ false) (λ d h. (shapely g.property i.plain.typed).shaped d.name d h) ps (each_found ps (once_in g.property i.plain.typed)))
      (kept_sensor g i x c is k) k

  -- other names of the monitor's stand for nothing
  front_missing :
      (x : List ℕ) → same_text switch_name x ≡ false → ((d : Decl) → same_text (sensor_name d.name) x ≡ false) → same_text (codes "hydra_tele_t") x ≡ false → same_text rejects_register x ≡ false → is_missing (core (x ∷ [])) ≡ true →
      is_missing (behind_switch (x ∷ [])) ≡ true
  front_missing x a b c d e =
      ap is_missing
      (declare_other behind_registers switch_name (value Constant (type.Bit 16)) x [] a ∙ registers_others behind_header ps x [] (no_sensor x b) ∙ declare_other behind_rejects (codes "hydra_tele_t") Tele_type x [] c ∙ declare_other core rejects_register (scope.register (type.Bit 32)) x [] d)
      ∙ e

  found_missing : (n : ℕ) → is_missing (behind_switch (found_name n ∷ [])) ≡ true
  unfolding core
  found_missing n = front_missing (found_name n) refl (λ d. refl) refl refl refl

  key_missing : (n j : ℕ) → is_missing (behind_switch (key_name n j ∷ [])) ≡ true
  unfolding core
  key_missing n j = front_missing (key_name n j) refl (λ d. refl) refl refl refl

  action_missing : (n : ℕ) → is_missing (behind_switch (action_name n ∷ [])) ≡ true
  unfolding core
  action_missing n = front_missing (action_name n) refl (λ d. refl) refl refl refl

  table_missing : (n : ℕ) → is_missing (behind_switch (table_name n ∷ [])) ≡ true
  unfolding core
  table_missing n = front_missing (table_name n) refl (λ d. refl) refl refl refl

  value_missing : is_missing (behind_switch (value_name ∷ [])) ≡ true
  unfolding core
  value_missing = front_missing value_name refl (λ d. refl) refl refl refl

  first_missing : is_missing (behind_switch (first_name ∷ [])) ≡ true
  unfolding core
  first_missing = front_missing first_name refl (λ d. refl) refl refl refl

  last_missing : is_missing (behind_switch (last_name ∷ [])) ≡ true
  unfolding core
  last_missing = front_missing last_name refl (λ d. refl) refl refl refl

  rejected_missing : is_missing (behind_switch (rejected_name ∷ [])) ≡ true
  unfolding core
  rejected_missing = front_missing rejected_name refl (λ d. refl) refl refl refl

  count_missing : is_missing (behind_switch (count_name ∷ [])) ≡ true
  unfolding core
  count_missing = front_missing count_name refl (λ d. refl) refl refl refl

  taken_missing : is_missing (behind_switch (codes "hydra_taken" ∷ [])) ≡ true
  unfolding core
  taken_missing = front_missing (codes "hydra_taken") refl (λ d. refl) refl refl refl

  start_missing : is_missing (behind_switch (codes "hydra_start" ∷ [])) ≡ true
  unfolding core
  start_missing = front_missing (codes "hydra_start") refl (λ d. refl) refl refl refl

  -- ---- the rules in front

  fields_wide : FieldsWide fs
  fields_wide = (record { some = refl; few = refl }, go (monitor_fields g) (fields_sound g i))
    where
      go : (gs : List Field) → AllByRecursion (λ (f : Field). sound_width f.width ≡ f.width) gs → FieldsWide gs
      go [] h = tt
      go (f ∷ gs) h = (width_of_sound f.width h.0, go gs h.1)

  whole_bytes : width_sum fs % 8 ≡ 0
  whole_bytes = let w = (laws g i).whole in omega (arith, w)

  registers_new : RegistersNew behind_header ps
  unfolding core
  registers_new =
      all_given (λ d. is_missing (behind_header (sensor_name d.name ∷ [])) ≡ true)
      (λ d. ap is_missing (declare_other behind_rejects (codes "hydra_tele_t") Tele_type (sensor_name d.name) [] refl ∙ declare_other core rejects_register (scope.register (type.Bit 32)) (sensor_name d.name) [] refl)) ps

  registers_can : AllByRecursion CanBeRegister ps
  registers_can = all_weaker (λ d. lookup ps d.name ≡ Some d) CanBeRegister (λ d h. record { shaped = (shapely g.property i.plain.typed).shaped d.name d h; sized = (shapely g.property i.plain.typed).sized d.name d h }) ps (each_found ps (once_in g.property i.plain.typed))

  switch_new : not (is_missing (behind_registers (switch_name ∷ []))) ≡ false
  unfolding core
  switch_new =
      ap (λ st. not (is_missing st))
      (registers_others behind_header ps switch_name [] (no_sensor switch_name (λ d. refl)) ∙ declare_other behind_rejects (codes "hydra_tele_t") Tele_type switch_name [] refl ∙ declare_other core rejects_register (scope.register (type.Bit 32)) switch_name [] refl)

  tele_new : not (is_missing (behind_rejects (codes "hydra_tele_t" ∷ []))) ≡ false
  unfolding core
  tele_new = ap (λ st. not (is_missing st)) (declare_other core rejects_register (scope.register (type.Bit 32)) (codes "hydra_tele_t") [] refl)

  front_fine : (r s : Roots) (n : ℕ) (main : List (List ℕ)) → IsFine (tops_tests main core (front (trees_of g r s) n))
  unfolding core
  front_fine r s n main = (
    (refl, ((refl, refl), refl)),
    (
      (tele_new, (no_twice fs (apart g i), (fields_fine behind_rejects fs fields_wide, ap (λ n. not (nat_eq n 0)) (bits_are behind_rejects fs ∙ whole_bytes)))),
      registers_fine main behind_header ps (switch_top n ∷ []) (once_in g.property i.plain.typed) registers_can registers_new ((switch_new, ((refl, refl), (((refl, refl), (refl, refl)), tt))), tt),
    ),
  )

  -- ---- a part

  sized : (x : List ℕ) (d : Decl) → lookup ds x ≡ Some d → bad_shape d.shape ≡ false
  sized = well.sized

  core_miss : (z : Scope) → Keeps core z → HasMiss z
  unfolding core
  core_miss z k = k.kept (codes "NoAction") [] refl

  pub core_digest : (z : Scope) → Keeps core z → z (codes "digest" ∷ []) ≡ function Digest
  unfolding core
  core_digest z k = k.kept (codes "digest") [] refl

  pub core_none : (z : Scope) → Keeps core z → uses.most_in (z (codes "NoAction" ∷ [])) ≡ 0
  core_none z k = ap uses.most_in (core_miss z k)

  -- the reads of a part
  pub record IsPart (fl : List Var) (rs : List (ℕ × Option Decl)) : Type 0 where
    pub flags : AreFlags fl
    pub miss : NoVar (codes "NoAction") fl
    pub declared : AllByRecursion (λ r. IsDeclared ds r.1) rs
    pub apart : AreApart (fields_of (fl ++ vars_in rs))
    pub rising : (a : ℕ) × (b : ℕ) × (b ≤ 2 ^ 64) × AreRising a b rs
    pub missing : AllByRecursion (λ v. is_missing (behind_switch (v.1 ∷ [])) ≡ true) fl
    pub mine : AllByRecursion (λ v. is_mine v.1 ≡ true) fl

  pub entry_part : IsPart [] (block_numbers ds (init g) 0)
  entry_part =
      record {
        flags = no_flags;
        miss = tt;
        declared = (block_read ds (init g) 0).declared;
        apart = (laws g i).entry_apart;
        rising = (0, tele_first g, few_tele g i, (block_read ds (init g) 0).rising);
        missing = tt;
        mine = tt;
      }

  abbrev pub exit_numbers : List (ℕ × Option Decl)
  exit_numbers = block_numbers ds (tele g) (tele_first g) ++ block_numbers ds (check g) (check_first g)

  exit_reads : AreReads ds (tele_first g) (block_end ds (check g) (check_first g)) exit_numbers
  exit_reads =
      reads_both ds (tele_first g) (check_first g) (block_end ds (check g) (check_first g)) (block_numbers ds (tele g) (tele_first g)) (block_numbers ds (check g) (check_first g)) (block_read ds (tele g) (tele_first g)) (block_read ds (check g) (check_first g))

  exit_vars : vars_in exit_numbers ≡ block_vars ds (tele g) (tele_first g) ++ block_vars ds (check g) (check_first g)
  exit_vars = vars_both ds (block_numbers ds (tele g) (tele_first g)) (block_numbers ds (check g) (check_first g))

  exit_looks : lookups_in exit_numbers ≡ block_lookups ds (tele g) (tele_first g) ++ block_lookups ds (check g) (check_first g)
  exit_looks = lookups_both ds (block_numbers ds (tele g) (tele_first g)) (block_numbers ds (check g) (check_first g))

  pub exit_part : IsPart flag_locals exit_numbers
  exit_part =
      record {
        flags = linkers_flags;
        miss = (refl, (refl, (refl, tt)));
        declared = exit_reads.declared;
        apart = subst (λ vs. AreApart (fields_of (flag_locals ++ vs))) (sym exit_vars) (laws g i).exit_apart;
        rising = (tele_first g, block_end ds (check g) (check_first g), few g i, exit_reads.rising);
        missing = (first_missing, (last_missing, (rejected_missing, tt)));
        mine = (refl, (refl, (refl, tt)));
      }

  pub exit_locals_are : (r s : Roots) → (trees_of g r s).exit_locals ≡ locals_for (flag_locals ++ vars_in exit_numbers) (lookups_in exit_numbers)
  exit_locals_are r s = ap₂ (λ vs ls. locals_for (flag_locals ++ vs) ls) (sym exit_vars) (sym exit_looks)

  module _ (fl : List Var) (rs : List (ℕ × Option Decl)) (p : IsPart fl rs) where
    abbrev single : AllByRecursion IsVar (vars_in rs)
    single = reads_single ds sized wide_at rs p.declared

    abbrev wides : AreWide rs
    wides = reads_wide ds sized wide_at rs p.declared

    abbrev pub apart_looks : LooksApart (lookups_in rs)
    apart_looks = looks_apart p.rising.0 p.rising.1 (lookups_in rs) p.rising.2 (lookups_rising ds p.rising.0 p.rising.1 rs p.rising.3)

    -- what is declared breaks no rule
    part_fine : (r : Roots) (v : Scope) → asked.Offers r behind_switch v → IsFresh behind_switch v → IsFine (locals_tests place.Apply v (locals_for (fl ++ vars_in rs) (lookups_in rs)))
    part_fine r v o f =
        locals_fine fl p.flags rs single p.apart apart_looks wides v
        (new_both fl (vars_in rs) (flags_new fl p.mine p.missing)
        (each_name (λ x. is_missing (v (x ∷ [])) ≡ true) (λ n. f (found_name n) refl (found_missing n)) (λ n j. f (key_name n j) refl (key_missing n j)) [] rs))
        (f value_name refl value_missing) (λ n. f (action_name n) refl (action_missing n)) (λ n. f (table_name n) refl (table_missing n)) (core_miss v o.core) p.miss
      where
        new_both : (a b : List Var) → VarsNew v a → VarsNew v b → VarsNew v (a ++ b)
        new_both [] b h k = k
        new_both (x ∷ a) b h k = (h.0, new_both a b h.1 k)

        flags_new : (a : List Var) → AllByRecursion (λ v. is_mine v.1 ≡ true) a → AllByRecursion (λ v. is_missing (behind_switch (v.1 ∷ [])) ≡ true) a → VarsNew v a
        flags_new [] m h = tt
        flags_new (x ∷ a) m h = (f x.1 m.0 h.0, flags_new a m.1 h.1)

    -- behind it, in a scope that keeps it
    module _ (v z : Scope) (k : Keeps (after_locals v (locals_for (fl ++ vars_in rs) (lookups_in rs))) z) where
      abbrev W : Scope
      W = after_locals v (locals_for (fl ++ vars_in rs) (lookups_in rs))

      at_end : AreHeld W (fl ++ vars_in rs)
      at_end = subst (λ w. AreHeld w (fl ++ vars_in rs)) (sym (behind_is fl p.flags rs single p.apart apart_looks wides v)) (all_held fl p.flags rs single p.apart apart_looks wides v)

      pub tables_at : AllByRecursion (Applies W) (lookups_in rs)
      tables_at = subst (λ w. AllByRecursion (Applies w) (lookups_in rs)) (sym (behind_is fl p.flags rs single p.apart apart_looks wides v)) (all_applied fl p.flags rs single p.apart apart_looks wides v)

      kept_held : (vs : List Var) → AreHeld W vs → AreHeld z vs
      kept_held [] h = tt
      kept_held (x ∷ vs) h = (k.kept x.1 [] (ap is_missing h.0) ∙ h.0, kept_held vs h.1)

      kept_looks : (ls : List (ℕ × Decl)) → AllByRecursion (Applies W) ls → AllByRecursion (Applies z) ls
      kept_looks [] h = tt
      kept_looks (l ∷ ls) h = ((h.0.0, k.kept (table_name l.0) [] (ap is_missing h.0.1) ∙ h.0.1), kept_looks ls h.1)

      part_held : AreHeld z (fl ++ vars_in rs)
      part_held = kept_held (fl ++ vars_in rs) at_end

      part_looks : AllByRecursion (Applies z) (lookups_in rs)
      part_looks = kept_looks (lookups_in rs) tables_at

  -- ---- what the statements see

  module _ (S : Scope) (H M : List ℕ) (has : HasFields S H M ps) (r : Roots) (z : Scope) (o : asked.Offers r behind_switch z) (w : asked.Shows S H M r z) where
    module _ (exits : Bool) (part : Block) (hops : exits ≡ false → is_init part ≡ true)
        (first : exits ≡ true → z (first_name ∷ []) ≡ held Writable (thing.Scalar t.Truth)) (last : exits ≡ true → z (last_name ∷ []) ≡ held Writable (thing.Scalar t.Truth)) (rejected : exits ≡ true → z (rejected_name ∷ []) ≡ held Writable (thing.Scalar t.Truth)) where
      abbrev st : Sight
      st = sight q part

      truth_read : (p : List (List ℕ)) → z p ≡ held Writable (thing.Scalar t.Truth) → IsRead z p t.Truth
      truth_read p e = record { there = ap is_missing e; read = ap uses.reads e; kind = ap value_kind e }

      tele_place : (x : List ℕ) (c : Decl) → lookup ds x ≡ Some c → c.kind ≡ Tele → z (tele_path (in_control r) x) ≡ wide (shape_width c.shape)
      tele_place x c is k = o.tele (tele_name x ∷ []) ∙ ap (λ st. as_held Writable (as_typed st)) (at_tele (tele_name x ∷ []) ∙ field_found behind_rejects ds (fill_fields (tele_fields ds)) x c is k)

      view_is : (x : List ℕ) (c : Decl) → lookup ds x ≡ Some c → c.kind ≡ Header → IsOf z (from.kind_of (value_type c.shape)) (rooted_view r c)
      view_is x c is k =
          let at = kept_header g i x c is k in
          let fine = fine_decl ps [] x c (each_fine g.property i.plain.typed).1.0 at in
          view_shown S H M r behind_switch z o w c k (shaped_well c fine) (truth_is c.kind c.shape c.path c.valid k (neither (misshapen c.kind c.shape || ill_started c.kind c.start) (ill_headed c.kind c.shape c.path c.valid) (fine.fine KindDiffers)).1) (has x c at k)
        where
          truth_is : (k : DeclKind) (s : Shape) (xs : List (List ℕ)) (b : Bool) → k ≡ Header → ill_headed k s xs b ≡ false → same_truth (is_truth s) b ≡ true
          truth_is Header s xs b e h = twice_not (same_truth (is_truth s) b) (neither (bad_path xs b) (not (same_truth (is_truth s) b)) h).1
          truth_is Tele s xs b e h = absurd (cc e)
          truth_is Sensor s xs b e h = absurd (cc e)
          truth_is Control s xs b e h = absurd (cc e)

      switch_at : z (switch_name ∷ []) ≡ held Constant (thing.Scalar (t.Number 16))
      switch_at = o.front.kept switch_name [] (ap is_missing at_switch) ∙ at_switch

      scene : Scene exits r z st refl hops well
      scene =
          record {
            offers =
                record {
                  tele = λ x c is k. (let e = tele_place x c is k in record { there = ap is_missing e; read = ap uses.reads e; kind = ap value_kind e });
                  view = view_is;
                  first = λ e. truth_read (first_name ∷ []) (first e);
                  last = λ e. truth_read (last_name ∷ []) (last e);
                  switch = record { there = ap is_missing switch_at; read = ap uses.reads switch_at; kind = ap value_kind switch_at };
                };
            places = tele_place;
            sensors = λ x c is k. (let e = at_sensor x c is k in o.front.kept (sensor_name x) [] (ap is_missing e) ∙ e);
            digest = core_digest z o.core;
            rejected = rejected;
            widths = wide_at;
            named = name_found ds;
          }

    entry_fine : (v : Scope) → Keeps (after_locals v (locals_for (block_vars ds (init g) 0) (block_lookups ds (init g) 0))) z → IsFine (block_tests place.Apply z (block_code (in_control r) ds (init g) 0))
    entry_fine v k =
        block_typed false r z (sight q block.Init) refl (λ e. refl) well (scene false block.Init (λ e. refl) no_exit no_exit no_exit) (init g) 0 (each_fine q typed_code).1.1.0
        (block_numbered ps (once_in g.property i.plain.typed) (init g) (flat_code_is_flat ps g.property.init))
        (there_of false r z (sight q block.Init) refl (λ e. refl) well (block_numbers ds (init g) 0) (part_held [] (block_numbers ds (init g) 0) entry_part v z k) (part_looks [] (block_numbers ds (init g) 0) entry_part v z k))

    exit_fine : (v : Scope) → Keeps (after_locals v (locals_for (flag_locals ++ vars_in exit_numbers) (lookups_in exit_numbers))) z → (s : Roots) → IsFine (block_tests place.Apply z (trees_of g s r).exit)
    exit_fine v k s =
        let held_all = part_held flag_locals exit_numbers exit_part v z k in
        let vars = held_all.1.1.1 in
        let looks = part_looks flag_locals exit_numbers exit_part v z k in
        let tn = block_numbers ds (tele g) (tele_first g) in
        let cn = block_numbers ds (check g) (check_first g) in
        let tele_scene = scene true block.Tele (λ e. absurd (let c : true ≡ false = e in cc c)) (λ e. held_all.0) (λ e. held_all.1.0) (λ e. held_all.1.1.0) in
        let check_scene = scene true block.Check (λ e. absurd (let c : true ≡ false = e in cc c)) (λ e. held_all.0) (λ e. held_all.1.0) (λ e. held_all.1.1.0) in
        join_fits (block_code (in_control r) ds (tele g) (tele_first g)) (next (checks_of (block_code (in_control r) ds (check g) (check_first g))) done) z
        (block_typed true r z (sight q block.Tele) refl (λ e. absurd (let c : true ≡ false = e in cc c)) well tele_scene (tele g) (tele_first g) (each_fine q typed_code).1.1.1.0
        (block_numbered ps (once_in g.property i.plain.typed) (tele g) (flat_code_is_flat ps g.property.tele))
        (there_of true r z (sight q block.Tele) refl (λ e. absurd (let c : true ≡ false = e in cc c)) well tn (vars_front tn cn vars) (looks_front tn cn looks)))
        (subst (λ y. IsFine (block_tests place.Apply y (next (checks_of (block_code (in_control r) ds (check g) (check_first g))) done))) (sym ((block_quiet (in_control r) ds (tele g) (tele_first g)).stays z)) (
          (
            refl,
            (
              (ap is_missing held_all.1.0, (ap (λ st. not (uses.reads st)) held_all.1.0, (ap (λ st. to.widths_differ (value_kind st) t.Truth) held_all.1.0, ap (λ st. to.kinds_differ (value_kind st) t.Truth) held_all.1.0))),
              (
                (
                  refl,
                  (
                    (refl, (subst (λ y. IsFine (target_tests 0 y)) (sym held_all.1.1.0) (refl, (refl, refl)), subst (λ y. IsFine (expr_tests z (value_kind y) (p4.flag 0 false))) (sym held_all.1.1.0) (refl, refl))),
                    block_typed true r z (sight q block.Check) refl (λ e. absurd (let c : true ≡ false = e in cc c)) well check_scene (check g) (check_first g) (each_fine q typed_code).1.1.1.1
                        (block_numbered ps (once_in g.property i.plain.typed) (check g) (flat_code_is_flat ps g.property.check))
                        (there_of true r z (sight q block.Check) refl (λ e. absurd (let c : true ≡ false = e in cc c)) well cn (vars_back tn cn vars) (looks_back tn cn looks)),
                  ),
                ),
                tt,
              ),
            ),
          ),
          tt,
        ))
      where
        vars_front : (a b : List (ℕ × Option Decl)) → AreHeld z (vars_in (a ++ b)) → AreHeld z (vars_in a)
        vars_front a b h = front_of (vars_in a) (vars_in b) (subst (AreHeld z) (vars_both ds a b) h)
          where
            front_of : (x y : List Var) → AreHeld z (x ++ y) → AreHeld z x
            front_of [] y h = tt
            front_of (v ∷ x) y h = (h.0, front_of x y h.1)

        vars_back : (a b : List (ℕ × Option Decl)) → AreHeld z (vars_in (a ++ b)) → AreHeld z (vars_in b)
        vars_back a b h = back_of (vars_in a) (vars_in b) (subst (AreHeld z) (vars_both ds a b) h)
          where
            back_of : (x y : List Var) → AreHeld z (x ++ y) → AreHeld z y
            back_of [] y h = h
            back_of (v ∷ x) y h = back_of x y h.1

        looks_front : (a b : List (ℕ × Option Decl)) → AllByRecursion (Applies z) (lookups_in (a ++ b)) → AllByRecursion (Applies z) (lookups_in a)
        looks_front a b h = front_of (lookups_in a) (lookups_in b) (subst (AllByRecursion (Applies z)) (lookups_both ds a b) h)
          where
            front_of : (x y : List (ℕ × Decl)) → AllByRecursion (Applies z) (x ++ y) → AllByRecursion (Applies z) x
            front_of [] y h = tt
            front_of (v ∷ x) y h = (h.0, front_of x y h.1)

        looks_back : (a b : List (ℕ × Option Decl)) → AllByRecursion (Applies z) (lookups_in (a ++ b)) → AllByRecursion (Applies z) (lookups_in b)
        looks_back a b h = back_of (lookups_in a) (lookups_in b) (subst (AllByRecursion (Applies z)) (lookups_both ds a b) h)
          where
            back_of : (x y : List (ℕ × Decl)) → AllByRecursion (Applies z) (x ++ y) → AllByRecursion (Applies z) y
            back_of [] y h = h
            back_of (v ∷ x) y h = back_of x y h.1

  -- ---- all

  -- the flags behind the exit part's declarations, and a name that they have not
  behind_exit : (v : Scope) → AreHeld (after_locals v (locals_for (flag_locals ++ vars_in exit_numbers) (lookups_in exit_numbers))) (flag_locals ++ vars_in exit_numbers)
  behind_exit v = at_end flag_locals exit_numbers exit_part v (after_locals v (locals_for (flag_locals ++ vars_in exit_numbers) (lookups_in exit_numbers))) (record { kept = λ x xs h. refl })

  no_count : (v : Scope) → after_locals v (locals_for (flag_locals ++ vars_in exit_numbers) (lookups_in exit_numbers)) (count_name ∷ []) ≡ v (count_name ∷ [])
  no_count v =
      let p = exit_part in
      ap (λ (w : Scope). w (count_name ∷ [])) (behind_is flag_locals p.flags exit_numbers (single flag_locals exit_numbers p) p.apart (apart_looks flag_locals exit_numbers p) (wides flag_locals exit_numbers p) v)
      ∙ others_are flag_locals p.flags exit_numbers (single flag_locals exit_numbers p) p.apart (apart_looks flag_locals exit_numbers p) (wides flag_locals exit_numbers p) v count_name []
      (refl, (refl, (refl, each_name (λ x. same_text x count_name ≡ false) (λ n. refl) (λ n j. refl) [] exit_numbers)))
      (no_act_at count_name (λ n. refl) (lookups_in exit_numbers)) (no_look_at count_name (λ n. refl) (lookups_in exit_numbers))

  module _ (S : Scope) (H M : List ℕ) (has : HasFields S H M ps) (r s : Roots) where
    u_is : (n : ℕ) → front_scope (trees_of g r s) n ≡ behind_switch
    u_is n = front_is r s n

    pub passes : Passes (trees_of g r s) S H M r s
    passes =
        record {
          marked = (laws g i).marked;
          front = λ n small main. front_fine r s n main;
          bits = fields_bits behind_rejects (map field_tree fs);
          tele_type = λ n. ap (λ (u : Scope). u (codes "hydra_tele_t" ∷ [])) (u_is n) ∙ at_tele [];
          mark = λ n. ap (λ (u : Scope). u (codes "hydra_tele_t" ∷ mark_name ∷ [])) (u_is n) ∙ at_tele (mark_name ∷ []);
          rejects = λ n. ap (λ (u : Scope). u (rejects_register ∷ [])) (u_is n) ∙ at_rejects;
          entry_locals = λ n v o w f. part_fine [] (block_numbers ds (init g) 0) entry_part r v (subst (λ u. asked.Offers r u v) (u_is n) o) (subst (λ u. IsFresh u v) (u_is n) f);
          exit_locals = λ n v o w f.
              subst (λ ls. IsFine (locals_tests place.Apply v ls)) (sym (exit_locals_are r s)) (part_fine flag_locals exit_numbers exit_part s v (subst (λ u. asked.Offers s u v) (u_is n) o) (subst (λ u. IsFresh u v) (u_is n) f));
          entry = λ n v z o w k. entry_fine S H M has r z (subst (λ u. asked.Offers r u z) (u_is n) o) w v k;
          exit = λ n v z o w k. exit_fine S H M has s z (subst (λ u. asked.Offers s u z) (u_is n) o) w v (subst (λ ls. Keeps (after_locals v ls) z) (exit_locals_are r s) k) r;
          stays = (exit_quiet g r s).stays;
          first = λ v. ap (λ ls. after_locals v ls (first_name ∷ [])) (exit_locals_are r s) ∙ (behind_exit v).0;
          last = λ v. ap (λ ls. after_locals v ls (last_name ∷ [])) (exit_locals_are r s) ∙ (behind_exit v).1.0;
          rejected = λ v. ap (λ ls. after_locals v ls (rejected_name ∷ [])) (exit_locals_are r s) ∙ (behind_exit v).1.1.0;
          count = λ v. ap (λ ls. after_locals v ls (count_name ∷ [])) (exit_locals_are r s) ∙ no_count v;
          no_count = λ n. ap (λ (u : Scope). is_missing (u (count_name ∷ []))) (u_is n) ∙ count_missing;
          no_taken = λ n. ap (λ (u : Scope). is_missing (u (codes "hydra_taken" ∷ []))) (u_is n) ∙ taken_missing;
          no_start = λ n. ap (λ (u : Scope). is_missing (u (codes "hydra_start" ∷ []))) (u_is n) ∙ start_missing;
        }
