-- What tables hold by numbers runs actions of their lists by full names.
use Rattle.std.proofs.Common.{◌≡◌, ℕ, List, [], ◌∷◌, map, Bool, true, false, ◌||◌, cond, refl, sym, ap, ◌∙◌, subst}
use Rattle.std.specs.Prelude.{nat_eq, Some}
use Rattle.std.specs.List.{AllByRecursion}
use Rattle.std.proofs.lemmas.Bool.{eqb-true}
use Rattle.bit_values.specs.Bits.{Word}
use Rattle.lex_text.specs.Names.{same_text}
use Rattle.p4_tree.specs.Tree.{Program}
use Rattle.p4_meaning.specs.Actions.{Action}
use Rattle.p4_meaning.specs.Tables.{Table, table_named}
use Rattle.p4_meaning.specs.Scope.{is_among}
use Rattle.p4_meaning.specs.Parts.{parts_of}
use Rattle.p4_meaning.specs.Laws as meaning
use Rattle.std.proofs.lemmas.Slice.Eq.{bytes_eq-Decides}
use Rattle.value_shapes.specs.declared.values.ValueShape.{ValueShape}
use Rattle.table_shapes.specs.Shapes.{Shape, has_action, have_widths, takes}
use Rattle.table_entries.specs.Entries.{Entry, named}
use Rattle.p4_tables.specs.State.{Held}
use Rattle.p4_tables.specs.Named.{action_name, entries_named, tables_named, tables_in}
use Rattle.p4_tables.specs.Programs.{action_place, action_shape, table_shape, tables_before, keys_hold, params_hold, shapes, state_before, IsStateOf}
use Rattle.p4_tables.specs.Laws.{IsListed, RunsListed}
use Rattle.table_laws.proofs.Actions.{tables_name_actions}
use Rattle.table_laws.specs.Loaded.{IsActionName, NamesActions, TablesNameActions, LoadedTablesAreListed}

text_same : (x y : List ℕ) → x ≡ y → same_text x y ≡ true
text_same x y e = (bytes_eq-Decides x y).1 e

or_right : (a b : Bool) → b ≡ true → (a || b) ≡ true
or_right true b h = refl
or_right false b h = h

module _ (as' : List Action) (pss : List (List ValueShape)) where
  here : (y : List ℕ) (n : ℕ) → IsActionName as' y → nat_eq (action_place as' y) n ≡ true → same_text y (action_name as' n) ≡ true
  here y n stands e = text_same y (action_name as' n) (sym stands ∙ ap (action_name as') (eqb-true (action_place as' y) n e))

  taken : (xs : List (List ℕ)) (n : ℕ) (ws : List Word) → AllByRecursion (IsActionName as') xs → takes (map (action_shape as' pss) xs) n ws ≡ true → is_among xs (action_name as' n) ≡ true
  taken [] n ws h e = absurd (let c : false ≡ true = e in cc)
  taken (y ∷ ys) n ws h e = go (nat_eq (action_place as' y) n) refl e (taken ys n ws h.1)
    where
      go : (b : Bool) → nat_eq (action_place as' y) n ≡ b → cond b (have_widths (action_shape as' pss y).params ws) (takes (map (action_shape as' pss) ys) n ws) ≡ true → (takes (map (action_shape as' pss) ys) n ws ≡ true → is_among ys (action_name as' n) ≡ true) → (same_text y (action_name as' n) || is_among ys (action_name as' n)) ≡ true
      go true is f more = ap (λ b. b || is_among ys (action_name as' n)) (here y n h.0 is)
      go false is f more = or_right (same_text y (action_name as' n)) (is_among ys (action_name as' n)) (more f)

  has : (xs : List (List ℕ)) (n : ℕ) → AllByRecursion (IsActionName as') xs → has_action (map (action_shape as' pss) xs) n ≡ true → is_among xs (action_name as' n) ≡ true
  has [] n h e = absurd (let c : false ≡ true = e in cc)
  has (y ∷ ys) n h e = go (nat_eq (action_place as' y) n) refl e (has ys n h.1)
    where
      go : (b : Bool) → nat_eq (action_place as' y) n ≡ b → (b || has_action (map (action_shape as' pss) ys) n) ≡ true → (has_action (map (action_shape as' pss) ys) n ≡ true → is_among ys (action_name as' n) ≡ true) → (same_text y (action_name as' n) || is_among ys (action_name as' n)) ≡ true
      go true is f more = ap (λ b. b || is_among ys (action_name as' n)) (here y n h.0 is)
      go false is f more = or_right (same_text y (action_name as' n)) (is_among ys (action_name as' n)) (more f)

  entries : (t : Table) → NamesActions as' t → (es : List Entry) → AllByRecursion (λ e. takes (map (action_shape as' pss) t.actions) e.action e.args ≡ true) es
      → AllByRecursion (λ e. is_among (t.default.action ∷ t.actions) e.action ≡ true) (map (named (action_name as')) es)
  entries t h [] k = tt
  entries t h (e ∷ es) k = (or_right (same_text t.default.action (action_name as' e.action)) (is_among t.actions (action_name as' e.action)) (taken t.actions e.action e.args h.1 k.0), entries t h es k.1)

  default : (t : Table) → NamesActions as' t → (n : ℕ) → (nat_eq (action_place as' t.default.action) n || has_action (map (action_shape as' pss) t.actions) n) ≡ true → is_among (t.default.action ∷ t.actions) (action_name as' n) ≡ true
  default t h n e = go (nat_eq (action_place as' t.default.action) n) refl e
    where
      go : (b : Bool) → nat_eq (action_place as' t.default.action) n ≡ b → (b || has_action (map (action_shape as' pss) t.actions) n) ≡ true → is_among (t.default.action ∷ t.actions) (action_name as' n) ≡ true
      go true is f = ap (λ b. b || is_among t.actions (action_name as' n)) (here t.default.action n h.0 is)
      go false is f = or_right (same_text t.default.action (action_name as' n)) (is_among t.actions (action_name as' n)) (has t.actions n h.1 f)

  one : (t : Table) → NamesActions as' t → (ks : List ValueShape) (h : Held) → h.shape ≡ table_shape as' pss t ks → IsListed h → meaning.RunsListed (Some t) (entries_named (action_name as') h)
  one t names ks h is listed = (
    entries t names h.listed (subst (λ (s : Shape). AllByRecursion (λ e. takes s.actions e.action e.args ≡ true) h.listed) is listed.entries),
    default t names h.default.action (subst (λ (s : Shape). (nat_eq s.written h.default.action || has_action s.actions h.default.action) ≡ true) is listed.default),
  )

  all : (ts : List Table) (kss : List (List ValueShape)) (st : List Held) → shapes st ≡ shapes (tables_before as' pss ts kss) → AllByRecursion IsListed st → AllByRecursion (NamesActions as') ts
      → (x : List ℕ) → meaning.RunsListed (table_named ts x) (tables_named (action_name as') ts st x)
  all [] kss st e l names x = tt
  all (t ∷ ts) [] [] e l names x = absurd (cc e)
  all (t ∷ ts) (ks ∷ kss) [] e l names x = absurd (cc e)
  all (t ∷ ts) [] (h ∷ hs) e l names x = go (same_text t.name x) (all ts [] hs (cc e) l.1 names.1 x)
    where
      shape : h.shape ≡ table_shape as' pss t []
      shape = cc e

      go : (b : Bool) → meaning.RunsListed (table_named ts x) (tables_named (action_name as') ts hs x) → meaning.RunsListed (cond b (Some t) (table_named ts x)) (cond b (entries_named (action_name as') h) (tables_named (action_name as') ts hs x))
      go true more = one t names.0 [] h shape l.0
      go false more = more
  all (t ∷ ts) (ks ∷ kss) (h ∷ hs) e l names x = go (same_text t.name x) (all ts kss hs (cc e) l.1 names.1 x)
    where
      shape : h.shape ≡ table_shape as' pss t ks
      shape = cc e

      go : (b : Bool) → meaning.RunsListed (table_named ts x) (tables_named (action_name as') ts hs x) → meaning.RunsListed (cond b (Some t) (table_named ts x)) (cond b (entries_named (action_name as') h) (tables_named (action_name as') ts hs x))
      go true more = one t names.0 ks h shape l.0
      go false more = more

held_are_listed : (p : Program) → TablesNameActions (parts_of p) → (st : List Held) → IsStateOf p st → RunsListed st → meaning.AreListed (parts_of p) (tables_in (parts_of p) st)
unfolding state_before
held_are_listed p names st is listed x = all (parts_of p).actions (params_hold p) (parts_of p).tables (keys_hold p) st is.same listed names x

pub loaded_are_listed : LoadedTablesAreListed
loaded_are_listed p well plain = held_are_listed p (tables_name_actions p well plain)
