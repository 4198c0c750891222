-- Tables of a program choose by numbers what they choose by names.
use Rattle.std.proofs.Common.{◌≡◌, ℕ, suc, List, [], ◌∷◌, map, codes, Bool, true, false, ◌||◌, if◌then◌else◌, nat_eq, Option, Some, None, refl, sym, ap, ◌∙◌, subst}
use Rattle.std.specs.Option.{option_map}
use Rattle.std.specs.List.{AllByRecursion}
use Rattle.bit_values.specs.Bits.{Word}
use Rattle.lex_text.specs.Names.{same_text}
use Rattle.p4_tree.specs.Tree.{Program}
use Rattle.p4_meaning.specs.Choice.{choice_of}
use Rattle.p4_meaning.specs.Actions.{Action, action_named}
use Rattle.p4_meaning.specs.Tables as meaning
use Rattle.p4_meaning.specs.Tables.{Table, Entries, table_named}
use Rattle.p4_meaning.specs.Under.{no_scope}
use Rattle.p4_meaning.specs.Parts.{parts_of}
use Rattle.p4_statements.specs.Outcomes.{outcome_from, outcome_in}
use Rattle.value_shapes.specs.declared.values.ValueShape.{ValueShape}
use Rattle.table_shapes.specs.Shapes.{Shape, has_ternary, has_action, takes}
use Rattle.table_entries.specs.Entries.{Entry, named}
use Rattle.p4_tables.specs.State.{Held, held_at}
use Rattle.p4_tables.specs.Named.{action_name, entries_named, tables_named, tables_in}
use Rattle.p4_tables.specs.Programs.{action_place, action_shape, table_shape, tables_before, state_before, keys_hold, params_hold, shapes, IsStateOf}
use Rattle.p4_tables.specs.Laws.{IsListed, RunsListed}
use Rattle.p4_tables.proofs.Applied.{same_ternary}
use Rattle.slot_controls.specs.Callees.{IsChoice, table_number}
use Rattle.slot_programs.specs.Chooses.{Chooses, RunsOwn, names_of, may_run}
use Rattle.slot_tables.specs.Choices.{number_name, numbered_from, choice_in, choices_in}
use Rattle.slot_tables.proofs.NameLemmas.{no_action}
use Rattle.slot_tables.proofs.ChoiceLemmas.{found, found_named, found_holds}
use Rattle.slot_tables.proofs.NumberLemmas.{Runs, number_runs, name_runs, taken_runs, default_runs}

-- ---- the tables of a program

-- what a table takes is what its program says
record IsOf (as' : List Action) (pss : List (List ValueShape)) (t : Table) (h : Held) : Type 0 where
  ternary : has_ternary h.shape.keys ≡ meaning.has_ternary t.keys
  actions : h.shape.actions ≡ map (action_shape as' pss) t.actions
  written : h.shape.written ≡ action_place as' t.default.action

is_of : (as' : List Action) (pss : List (List ValueShape)) (t : Table) (ks : List ValueShape) (h : Held) → h.shape ≡ table_shape as' pss t ks → IsOf as' pss t h
is_of as' pss t ks h e = record { ternary = ap (λ (s : Shape). has_ternary s.keys) e ∙ same_ternary t.keys ks; actions = ap (λ (s : Shape). s.actions) e; written = ap (λ (s : Shape). s.written) e }

-- one by one
abbrev AreOf : List Action → List (List ValueShape) → List Table → List Held → Type 0
AreOf as' pss [] [] = Unit {0}
AreOf as' pss [] (h ∷ hs) = ⊥
AreOf as' pss (t ∷ ts) [] = ⊥
AreOf as' pss (t ∷ ts) (h ∷ hs) = IsOf as' pss t h × AreOf as' pss ts hs

head_shape : (s r : Shape) (ss rs : List Shape) → (s ∷ ss) ≡ (r ∷ rs) → s ≡ r
head_shape s r ss rs e = cc e

tail_shape : (s r : Shape) (ss rs : List Shape) → (s ∷ ss) ≡ (r ∷ rs) → ss ≡ rs
tail_shape s r ss rs e = cc e

are_of : (as' : List Action) (pss : List (List ValueShape)) (ts : List Table) (kss : List (List ValueShape)) (hs : List Held) → shapes hs ≡ shapes (tables_before as' pss ts kss) → AreOf as' pss ts hs
are_of as' pss [] kss [] e = tt
are_of as' pss [] kss (h ∷ hs) e = absurd (cc e)
are_of as' pss (t ∷ ts) [] [] e = absurd (cc e)
are_of as' pss (t ∷ ts) (ks ∷ kss) [] e = absurd (cc e)
are_of as' pss (t ∷ ts) [] (h ∷ hs) e = (
  is_of as' pss t [] h (head_shape h.shape (table_shape as' pss t []) (shapes hs) (shapes (tables_before as' pss ts [])) e),
  are_of as' pss ts [] hs (tail_shape h.shape (table_shape as' pss t []) (shapes hs) (shapes (tables_before as' pss ts [])) e),
)
are_of as' pss (t ∷ ts) (ks ∷ kss) (h ∷ hs) e = (
  is_of as' pss t ks h (head_shape h.shape (table_shape as' pss t ks) (shapes hs) (shapes (tables_before as' pss ts kss)) e),
  are_of as' pss ts kss hs (tail_shape h.shape (table_shape as' pss t ks) (shapes hs) (shapes (tables_before as' pss ts kss)) e),
)

-- ---- the table of a name

-- the table of a number is this one, and holds this
record Stands (as' : List Action) (pss : List (List ValueShape)) (t : Table) (h : Held) (e : Entries) : Type 0 where
  of : IsOf as' pss t h
  listed : IsListed h
  held : e ≡ entries_named (action_name as') h

module _ (as' : List Action) (pss : List (List ValueShape)) where
  stands : (ts : List Table) (hs : List Held) → AreOf as' pss ts hs → RunsListed hs → (x : List ℕ) (t : Table) → table_named ts x ≡ Some t → Stands as' pss t (held_at hs (table_number ts x)) (tables_named (action_name as') ts hs x)
  stands [] hs are listed x t e = absurd (cc e)
  stands (u ∷ us) [] are listed x t e = absurd are
  stands (u ∷ us) (h ∷ hs) are listed x t e = go (λ k. stands us hs are.1 listed.1 x t k) (same_text u.name x) e
    where
      some_is : (c d : Table) → Some c ≡ Some d → c ≡ d
      some_is c d k = cc k

      go : (table_named us x ≡ Some t → Stands as' pss t (held_at hs (table_number us x)) (tables_named (action_name as') us hs x)) → (b : Bool) → (if b then Some u else table_named us x) ≡ Some t
          → Stands as' pss t (held_at (h ∷ hs) (if b then 0 else suc (table_number us x))) (if b then entries_named (action_name as') h else tables_named (action_name as') us hs x)
      go more true k = record { of = subst (λ v. IsOf as' pss v h) (some_is u t k) are.0; listed = listed.0; held = refl }
      go more false k = more k

  -- ---- what it chooses

  module _ (none : action_named as' (codes "NoAction") ≡ None) (t : Table) (h : Held) (of : IsOf as' pss t h) (listed : IsListed h) where
    entry_runs : (e : Entry) → takes h.shape.actions e.action e.args ≡ true → Runs as' t e.action
    entry_runs e taken = taken_runs as' pss t e.action e.args (ap (λ s. takes s e.action e.args) (sym of.actions) ∙ taken)

    written_runs : Runs as' t h.default.action
    written_runs =
        default_runs as' pss t h.default.action
        (ap (λ s. nat_eq (action_place as' t.default.action) h.default.action || has_action s h.default.action) (sym of.actions)
        ∙ ap (λ n. nat_eq n h.default.action || has_action h.shape.actions h.default.action) (sym of.written) ∙ listed.default)

    -- by their numbers, and by their names
    module _ (bs : List Action) (same : names_of bs ≡ names_of as') where
      chosen_from : (o : Option Entry) → ((e : Entry) → o ≡ Some e → Runs as' t e.action) → IsChoice bs (numbered_from h.default (option_map (named number_name) o)) (outcome_from bs (entries_named (action_name as') h) (option_map (named (action_name as')) o))
      chosen_from None each = record { action = number_runs as' none t h.default.action written_runs bs same; args = refl; hit = refl }
      chosen_from (Some e) each = record { action = number_runs as' none t e.action (each e refl) bs same; args = refl; hit = refl }

      chooses_same : (ws : List Word) → IsChoice bs (choice_in h ws) (outcome_in bs (Some t) (entries_named (action_name as') h) ws)
      chooses_same ws =
          let b : Bool = has_ternary h.shape.keys in
          subst (λ k. IsChoice bs (choice_in h ws) (outcome_from bs (entries_named (action_name as') h) (choice_of k (map (named (action_name as')) h.listed) ws))) of.ternary
          (subst (λ o. IsChoice bs (numbered_from h.default o) (outcome_from bs (entries_named (action_name as') h) (choice_of b (map (named (action_name as')) h.listed) ws))) (sym (found_named number_name b h.listed ws))
          (subst (λ o. IsChoice bs (numbered_from h.default (option_map (named number_name) (found b h.listed ws))) (outcome_from bs (entries_named (action_name as') h) o)) (sym (found_named (action_name as') b h.listed ws))
          (chosen_from (found b h.listed ws) (λ e is. entry_runs e (found_holds (λ f. takes h.shape.actions f.action f.args ≡ true) b h.listed ws e listed.entries is)))))

    entries_own : (es : List Entry) → AllByRecursion (λ e. takes h.shape.actions e.action e.args ≡ true) es → AllByRecursion (λ e. may_run as' t e.action ≡ true) (map (named (action_name as')) es)
    entries_own [] all = tt
    entries_own (e ∷ es) all = (name_runs as' none t e.action (entry_runs e all.0), entries_own es all.1)

    runs_own : RunsOwn as' t (entries_named (action_name as') h)
    runs_own = record { entries = entries_own h.listed listed.entries; default = name_runs as' none t h.default.action written_runs }

-- ---- the tables of a switch

are_state : (p : Program) (st : List Held) → IsStateOf p st → AreOf (parts_of p).actions (params_hold p) (parts_of p).tables st
unfolding state_before
are_state p st is = are_of (parts_of p).actions (params_hold p) (parts_of p).tables (keys_hold p) st is.same

pub tables_choose : (p : Program) (st : List Held) → IsStateOf p st → RunsListed st → Chooses (parts_of p) (tables_in (parts_of p) st) (choices_in st)
tables_choose p st is listed =
    let as' : List Action = (parts_of p).actions in
    let ts : List Table = (parts_of p).tables in
    let pss : List (List ValueShape) = params_hold p in
    let none : action_named as' (codes "NoAction") ≡ None = no_action no_scope p.tops in
    let there : (x : List ℕ) (t : Table) → table_named ts x ≡ Some t → Stands as' pss t (held_at st (table_number ts x)) (tables_named (action_name as') ts st x) = stands as' pss ts st (are_state p st is) listed in
    record {
      own = λ x t e. (let s = there x t e in subst (RunsOwn as' t) (sym s.held) (runs_own as' pss none t (held_at st (table_number ts x)) s.of s.listed));
      numbers = λ bs same x t ws e. (let s = there x t e in
          subst (λ en. IsChoice bs (choices_in st (table_number ts x) ws) (outcome_in bs (Some t) en ws)) (sym s.held) (chooses_same as' pss none t (held_at st (table_number ts x)) s.of s.listed bs same ws));
    }
