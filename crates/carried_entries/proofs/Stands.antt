-- The tables of a program stand in another one that has its actions and tables by their names, and whose tables and actions of
-- these names hold the same.
use Rattle.std.proofs.Common.{◌≡◌, ℕ, suc, List, [], ◌∷◌, map, Bool, true, false, cond, codes, Option, Some, None, refl, sym, ap, ap₂, ◌∙◌, subst}
use Rattle.std.specs.Prelude.{is_some}
use Rattle.std.specs.List.{AllByRecursion}
use Rattle.std.specs.Option.{option_map}
use Rattle.lex_text.specs.Names.{same_text}
use Rattle.p4_tree.specs.Tree.{Top, constant, typedef, header_type, struct_type, register, parser, control, Program}
use Rattle.p4_meaning.specs.Scope as meaning
use Rattle.p4_meaning.specs.Under.{no_scope, behind_top, in_control}
use Rattle.p4_meaning.specs.Actions.{Action, actions_of, action_named}
use Rattle.p4_meaning.specs.Tables.{Key, Table, tables_of, table_named}
use Rattle.p4_meaning.specs.Parts.{parts_of}
use Rattle.p4_scopes.specs.Scopes.{core}
use Rattle.p4_scopes.specs.declared.kind.Kind.{Kind}
use Rattle.p4_rules.specs.ProgramRules.{IsWellTyped}
use Rattle.p4_typing_laws.specs.Plain.{has_point, HavePlainNames}
use Rattle.p4_typing_laws.proofs.CallCounts.{text_is, text_same}
use Rattle.p4_typing_laws.proofs.FullNames.{full_has, knows_all, none_named, skip_tables}
use Rattle.own_programs.specs.OwnPrograms.{is_own}
use Rattle.own_programs.proofs.Names.{broken}
use Rattle.packet_lengths.specs.Lengths.{plain_key, plain_table}
use Rattle.value_shapes.specs.Values.{value_of}
use Rattle.value_shapes.specs.declared.values.ValueShape.{ValueShape}
use Rattle.table_shapes.specs.Shapes.{ActionShape}
use Rattle.table_shapes.specs.declared.shape.KeyShape.{KeyShape}
use Rattle.p4_tables.specs.State.{Held, held_at}
use Rattle.p4_tables.specs.Named.{action_name, table_place}
use Rattle.p4_tables.specs.Programs.{kind_of, no_value, key_shapes, values_at, action_place, action_shape, table_shape, table_before, tables_before, keys_hold, params_hold, shapes, state_before}
use Rattle.p4_tables.specs.Carried.{same_number, ActionStands, action_renumbered, shape_renumbered, TableStands, TablesStand, StandsIn}
use Rattle.table_laws.specs.Loaded.{IsActionName, NamesActions}
use Rattle.table_laws.proofs.Actions.{tables_name_actions}
use Rattle.linked_rules.specs.Held.{tops_hold}
use Rattle.carried_entries.proofs.Named.{kinds_named, tops_hold_of, tops_own, own_inside, keys_named, params_named}
use Rattle.carried_entries.proofs.Apart.{table_among, tables_apart, table_no_action, action_no_table, TablesApart}

-- ---- names of actions

pub found_stands : (as' : List Action) (y : List ℕ) (a : Action) → action_named as' y ≡ Some a → IsActionName as' y
found_stands [] y a e = absurd (cc e)
found_stands (b ∷ bs) y a e = go (same_text b.name y) refl e (found_stands bs y a)
  where
    go : (t : Bool) → same_text b.name y ≡ t → cond t (Some b) (action_named bs y) ≡ Some a → (action_named bs y ≡ Some a → IsActionName bs y) → action_name (b ∷ bs) (cond t 0 (suc (action_place bs y))) ≡ y
    go true is f more = text_is b.name y is
    go false is f more = more f

-- behind all actions there is `NoAction`
pub none_place : (as' : List Action) (y : List ℕ) → action_named as' y ≡ None → action_name as' (action_place as' y) ≡ codes "NoAction"
none_place [] y e = refl
none_place (b ∷ bs) y e = go (same_text b.name y) e (none_place bs y)
  where
    go : (t : Bool) → cond t (Some b) (action_named bs y) ≡ None → (action_named bs y ≡ None → action_name bs (action_place bs y) ≡ codes "NoAction") → action_name (b ∷ bs) (cond t 0 (suc (action_place bs y))) ≡ codes "NoAction"
    go true f more = absurd (cc f)
    go false f more = more f

-- a name without a point is no table's
no_table_named : (as' : List Action) (ts : List Top) (sc : meaning.Scope) (y : List ℕ) → has_point y ≡ false → HavePlainNames ts → table_named (tables_of sc as' ts) y ≡ None
no_table_named as' [] sc y h k = refl
no_table_named as' (constant p t x e ∷ ts) sc y h k = no_table_named as' ts (behind_top sc (constant p t x e)) y h k.1
no_table_named as' (typedef p t x ∷ ts) sc y h k = no_table_named as' ts (behind_top sc (typedef p t x)) y h k
no_table_named as' (header_type p x fs ∷ ts) sc y h k = no_table_named as' ts sc y h k
no_table_named as' (struct_type p x fs ∷ ts) sc y h k = no_table_named as' ts sc y h k
no_table_named as' (register p r ∷ ts) sc y h k = no_table_named as' ts sc y h k.1
no_table_named as' (parser p d ∷ ts) sc y h k = no_table_named as' ts sc y h k
no_table_named as' (control p c ∷ ts) sc y h k =
    skip_tables as' c.name y (λ x q e. (let has : has_point y ≡ true = sym (ap has_point e) ∙ full_has c.name x in let c : false ≡ true = sym h ∙ has in broken (sym c))) c.locals (in_control 0 1 2 sc c) (knows_all 0 1 2 sc c) k.0.0 (tables_of sc as' ts)
    ∙ no_table_named as' ts sc y h k.1

none_of : {A : Type 0} (o : Option A) → is_some o ≡ false → o ≡ None
none_of None h = refl
none_of (Some a) h = broken h

-- ---- tables by their places

pub at_place : (as' : List Action) (pss : List (List ValueShape)) (ts : List Table) (kss : List (List ValueShape)) (x : List ℕ) (t : Table) → table_named ts x ≡ Some t
    → held_at (tables_before as' pss ts kss) (table_place ts x) ≡ table_before as' pss t (values_at kss (table_place ts x))
at_place as' pss [] kss x t e = absurd (cc e)
at_place as' pss (u ∷ ts) [] x t e = go (same_text u.name x) e (at_place as' pss ts [] x t)
  where
    go : (b : Bool) → cond b (Some u) (table_named ts x) ≡ Some t → (table_named ts x ≡ Some t → held_at (tables_before as' pss ts []) (table_place ts x) ≡ table_before as' pss t (values_at [] (table_place ts x)))
        → held_at (tables_before as' pss (u ∷ ts) []) (cond b 0 (suc (table_place ts x))) ≡ table_before as' pss t (values_at [] (cond b 0 (suc (table_place ts x))))
    go true i more = (let one : u ≡ t = cc i in ap (λ (v : Table). table_before as' pss v []) one)
    go false i more = more i
at_place as' pss (u ∷ ts) (ks ∷ kss) x t e = go (same_text u.name x) e (at_place as' pss ts kss x t)
  where
    go : (b : Bool) → cond b (Some u) (table_named ts x) ≡ Some t → (table_named ts x ≡ Some t → held_at (tables_before as' pss ts kss) (table_place ts x) ≡ table_before as' pss t (values_at kss (table_place ts x)))
        → held_at (tables_before as' pss (u ∷ ts) (ks ∷ kss)) (cond b 0 (suc (table_place ts x))) ≡ table_before as' pss t (values_at (ks ∷ kss) (cond b 0 (suc (table_place ts x))))
    go true i more = (let one : u ≡ t = cc i in ap (λ (v : Table). table_before as' pss v ks) one)
    go false i more = more i

-- each table is the first of its name, with what its keys hold
record IsFirst (ts : List Table) (kss : List (List ValueShape)) (t : Table) (ks : List ValueShape) : Type 0 where
  named : table_named ts t.name ≡ Some t
  keys : values_at kss (table_place ts t.name) ≡ ks

-- so is each of these
abbrev AreFirst : List Table → List (List ValueShape) → List Table → List (List ValueShape) → Type 0
AreFirst ts kss [] vss = Unit {0}
AreFirst ts kss (u ∷ us) [] = IsFirst ts kss u [] × AreFirst ts kss us []
AreFirst ts kss (u ∷ us) (vs ∷ vss) = IsFirst ts kss u vs × AreFirst ts kss us vss

behind_one : (t : Table) (ts : List Table) (ks : List ValueShape) (kss : List (List ValueShape)) (u : Table) (vs : List ValueShape) → same_text t.name u.name ≡ false → IsFirst ts kss u vs → IsFirst (t ∷ ts) (ks ∷ kss) u vs
behind_one t ts ks kss u vs e i =
    record {
      named = ap (λ (b : Bool). cond b (Some t) (table_named ts u.name)) e ∙ i.named;
      keys = ap (λ (b : Bool). values_at (ks ∷ kss) (cond b 0 (suc (table_place ts u.name)))) e ∙ i.keys;
    }

behind_last : (t : Table) (ts : List Table) (u : Table) (vs : List ValueShape) → same_text t.name u.name ≡ false → IsFirst ts [] u vs → IsFirst (t ∷ ts) [] u vs
behind_last t ts u vs e i = record { named = ap (λ (b : Bool). cond b (Some t) (table_named ts u.name)) e ∙ i.named; keys = i.keys }

all_behind : (t : Table) (ts : List Table) (ks : List ValueShape) (kss : List (List ValueShape)) (us : List Table) (vss : List (List ValueShape)) → AllByRecursion (λ (u : Table). same_text t.name u.name ≡ false) us → AreFirst ts kss us vss → AreFirst (t ∷ ts) (ks ∷ kss) us vss
all_behind t ts ks kss [] vss h a = tt
all_behind t ts ks kss (u ∷ us) [] h a = (behind_one t ts ks kss u [] h.0 a.0, all_behind t ts ks kss us [] h.1 a.1)
all_behind t ts ks kss (u ∷ us) (vs ∷ vss) h a = (behind_one t ts ks kss u vs h.0 a.0, all_behind t ts ks kss us vss h.1 a.1)

all_last : (t : Table) (ts us : List Table) → AllByRecursion (λ (u : Table). same_text t.name u.name ≡ false) us → AreFirst ts [] us [] → AreFirst (t ∷ ts) [] us []
all_last t ts [] h a = tt
all_last t ts (u ∷ us) h a = (behind_last t ts u [] h.0 a.0, all_last t ts us h.1 a.1)

all_first : (ts : List Table) (kss : List (List ValueShape)) → TablesApart ts → AreFirst ts kss ts kss
all_first [] kss h = tt
all_first (t ∷ ts) [] h = (
  record { named = ap (λ (b : Bool). cond b (Some t) (table_named ts t.name)) (text_same t.name t.name refl); keys = refl },
  all_last t ts ts h.0 (all_first ts [] h.1),
)
all_first (t ∷ ts) (ks ∷ kss) h = (
  record {
    named = ap (λ (b : Bool). cond b (Some t) (table_named ts t.name)) (text_same t.name t.name refl);
    keys = ap (λ (b : Bool). values_at (ks ∷ kss) (cond b 0 (suc (table_place ts t.name)))) (text_same t.name t.name refl);
  },
  all_behind t ts ks kss ts kss h.0 (all_first ts kss h.1),
)

-- ---- rewritten keys are matched as they were

plain_keys : (ks : List Key) (vs : List ValueShape) → key_shapes (map plain_key ks) vs ≡ key_shapes ks vs
plain_keys [] vs = refl
plain_keys (k ∷ ks) [] = ap (λ (xs : List KeyShape). record { kind = kind_of k.kind; value = no_value } ∷ xs) (plain_keys ks [])
plain_keys (k ∷ ks) (v ∷ vs) = ap (λ (xs : List KeyShape). record { kind = kind_of k.kind; value = v } ∷ xs) (plain_keys ks vs)

-- ---- the law

-- what is asked of the two programs
pub record HasIts (f q : Program) : Type 0 where
  pub typed : IsWellTyped f
  pub plain : HavePlainNames f.tops
  -- actions and tables have own names
  pub own_tables : (x : List ℕ) (t : Table) → table_named (parts_of f).tables x ≡ Some t → is_own x ≡ true
  pub own_actions : (x : List ℕ) (a : Action) → action_named (parts_of f).actions x ≡ Some a → is_own x ≡ true
  -- by these names they stand in the other program
  pub tables : (x : List ℕ) → is_own x ≡ true → table_named (parts_of q).tables x ≡ option_map plain_table (table_named (parts_of f).tables x)
  pub actions : (x : List ℕ) → is_own x ≡ true → is_some (action_named (parts_of q).actions x) ≡ is_some (action_named (parts_of f).actions x)
  -- and hold the same
  pub hold : tops_hold core q.tops ≡ tops_hold core f.tops

module _ (f q : Program) (has : HasIts f q) where
  abbrev fa : List Action
  fa = actions_of no_scope f.tops

  abbrev qa : List Action
  qa = actions_of no_scope q.tops

  abbrev ft : List Table
  ft = tables_of no_scope (actions_of no_scope f.tops) f.tops

  abbrev qt : List Table
  qt = tables_of no_scope (actions_of no_scope q.tops) q.tops

  hold_own : tops_hold_of is_own core q.tops ≡ tops_hold_of is_own core f.tops
  hold_own = tops_own q.tops core ∙ (has.hold ∙ sym (tops_own f.tops core))

  -- ---- actions

  -- a name that stands for an action in the one program does so in the other; it is own, and no table's
  record IsShared (x : List ℕ) : Type 0 where
    own : is_own x ≡ true
    there : IsActionName qa x
    no_table : table_named ft x ≡ None

  no_action : action_named fa (codes "NoAction") ≡ None
  no_action = none_named f.tops no_scope (codes "NoAction") refl has.plain

  some_action : (x : List ℕ) → is_own x ≡ true → is_some (action_named fa x) ≡ true → IsActionName qa x
  some_action x own h = go (action_named qa x) refl (has.actions x own ∙ h)
    where
      go : (o : Option Action) → action_named qa x ≡ o → is_some o ≡ true → IsActionName qa x
      go None e i = broken (sym i)
      go (Some a) e i = found_stands qa x a e

  lost_action : (x : List ℕ) → is_own x ≡ true → action_named fa x ≡ None → action_named qa x ≡ None
  lost_action x own e = none_of (action_named qa x) (has.actions x own ∙ ap is_some e)

  shared : (x : List ℕ) → IsActionName fa x → IsShared x
  shared x h = go (action_named fa x) refl
    where
      here : x ≡ codes "NoAction" → IsShared (codes "NoAction") → IsShared x
      here e i = subst IsShared (sym e) i

      go : (o : Option Action) → action_named fa x ≡ o → IsShared x
      go (Some a) e = (let own = has.own_actions x a e in record { own = own; there = some_action x own (ap is_some e); no_table = action_no_table f has.typed has.plain fa x a e })
      go None e =
          here (sym h ∙ none_place fa x e)
          (record {
            own = refl;
            there = none_place qa (codes "NoAction") (lost_action (codes "NoAction") refl no_action);
            no_table = no_table_named fa f.tops no_scope (codes "NoAction") refl has.plain;
          })

  number_there : (x : List ℕ) → IsActionName fa x → same_number fa qa (action_place fa x) ≡ action_place qa x
  number_there x h = ap (action_place qa) h

  one_stands : (x : List ℕ) → IsActionName fa x → ActionStands fa qa (action_place fa x)
  one_stands x h = record { first = ap (action_place fa) h; there = ap (action_name qa) (number_there x h) ∙ ((shared x h).there ∙ sym h) }

  lost_table : (x : List ℕ) → is_own x ≡ true → table_named ft x ≡ None → table_named qt x ≡ None
  lost_table x own e = has.tables x own ∙ ap (option_map plain_table) e

  params_same : (x : List ℕ) → IsShared x → values_at (params_hold q) (action_place qa x) ≡ values_at (params_hold f) (action_place fa x)
  params_same x i =
      params_named is_own x (own_inside x i.own) qa q.tops core no_scope (lost_table x i.own i.no_table)
      ∙ (ap (λ (hs : List (List ℕ × List (List ℕ × List Kind))). map value_of (kinds_named hs x)) hold_own ∙ sym (params_named is_own x (own_inside x i.own) fa f.tops core no_scope i.no_table))

  all_stand : (xs : List (List ℕ)) → AllByRecursion (IsActionName fa) xs → AllByRecursion (ActionStands fa qa) (map (λ (a : ActionShape). a.number) (map (action_shape fa (params_hold f)) xs))
  all_stand [] h = tt
  all_stand (x ∷ xs) h = (one_stands x h.0, all_stand xs h.1)

  one_same : (x : List ℕ) → IsActionName fa x → action_shape qa (params_hold q) x ≡ action_renumbered (same_number fa qa) (action_shape fa (params_hold f) x)
  one_same x h = ap₂ (λ (n : ℕ) (vs : List ValueShape). record { number = n; params = vs }) (sym (number_there x h)) (params_same x (shared x h))

  all_same : (xs : List (List ℕ)) → AllByRecursion (IsActionName fa) xs → map (action_shape qa (params_hold q)) xs ≡ map (action_renumbered (same_number fa qa)) (map (action_shape fa (params_hold f)) xs)
  all_same [] h = refl
  all_same (x ∷ xs) h = ap₂ (λ (a : ActionShape) (as' : List ActionShape). a ∷ as') (one_same x h.0) (all_same xs h.1)

  -- ---- tables

  module _ (t : Table) (ks : List ValueShape) (first : IsFirst ft (keys_hold f) t ks) (names : NamesActions fa t) where
    own : is_own t.name ≡ true
    own = has.own_tables t.name t first.named

    there : table_named qt t.name ≡ Some (plain_table t)
    there = has.tables t.name own ∙ ap (option_map plain_table) first.named

    no_action_here : action_named fa t.name ≡ None
    no_action_here = table_no_action f has.typed has.plain fa t.name t first.named

    keys_same : values_at (keys_hold q) (table_place qt t.name) ≡ ks
    keys_same =
        keys_named is_own t.name (own_inside t.name own) qa q.tops core no_scope (lost_action t.name own no_action_here)
        ∙ (ap (λ (hs : List (List ℕ × List (List ℕ × List Kind))). map value_of (kinds_named hs t.name)) hold_own ∙ (sym (keys_named is_own t.name (own_inside t.name own) fa f.tops core no_scope no_action_here) ∙ first.keys))

    -- what the rewritten table takes
    shape_same : table_shape qa (params_hold q) (plain_table t) ks ≡ shape_renumbered (same_number fa qa) (table_shape fa (params_hold f) t ks)
    shape_same =
        λ j.
        record {
          keys = plain_keys t.keys ks j;
          actions = all_same t.actions names.1 j;
          written = sym (number_there t.default.action names.0) j;
          written_args = t.default.args;
          fixed = t.fixed;
        }

    table_stands : TableStands fa q t (table_shape fa (params_hold f) t ks)
    unfolding state_before
    table_stands =
        record {
          there = table_among qt t.name (plain_table t) there;
          actions = (one_stands t.default.action names.0, all_stand t.actions names.1);
          shape =
              ap (λ (h : Held). h.shape) (at_place qa (params_hold q) qt (keys_hold q) t.name (plain_table t) there)
              ∙ (ap (table_shape qa (params_hold q) (plain_table t)) keys_same ∙ shape_same);
        }

  each_stands : (us : List Table) (vss : List (List ValueShape)) → AreFirst ft (keys_hold f) us vss → AllByRecursion (NamesActions fa) us → TablesStand fa q us (shapes (tables_before fa (params_hold f) us vss))
  each_stands [] vss a n = tt
  each_stands (u ∷ us) [] a n = (table_stands u [] a.0 n.0, each_stands us [] a.1 n.1)
  each_stands (u ∷ us) (vs ∷ vss) a n = (table_stands u vs a.0 n.0, each_stands us vss a.1 n.1)

  pub stands : StandsIn f q
  unfolding state_before
  stands = record { tables = each_stands ft (keys_hold f) (all_first ft (keys_hold f) (tables_apart f has.typed has.plain fa)) (tables_name_actions f has.typed has.plain) }
