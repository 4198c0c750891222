-- The application of a lookup's table finds what its variable has.
use Rattle.std.proofs.Common.{◌≡◌, codes, ℕ, suc, List, [], ◌∷◌, map, length, Bool, true, false, cond, is_some, Option, Some, None, refl, sym, ap, ap₂, ◌∙◌, subst, All, arith, pow_pos}
use Rattle.std.specs.List.{AllByRecursion}
use Rattle.std.proofs.lemmas.List.Elements.{All-head, All-tail, All-nil}
use Rattle.bit_values.specs.Bits.{Word, word}
use Rattle.bit_values.specs.Widths.{bit, sound_width}
use Rattle.p4_tree.specs.Tree.{done, next, assign}
use Rattle.p4_meaning.specs.Store.{Store, shown}
use Rattle.p4_meaning.specs.Statements.{Go, Run, Ended, Tested}
use Rattle.p4_meaning.specs.Choice.{Entry, choice_of}
use Rattle.p4_meaning.specs.Actions.{Action, action_named, act, act_if}
use Rattle.p4_meaning.specs.Tables.{Tables, table_named, has_ternary, key_words, test_behind, chosen_runs, apply_if, calls_in}
use Rattle.indus_tree.specs.Tree.{Shape, one, list, set, dict}
use Rattle.indus_tree.specs.State.{Contents, single, members, pairs, shape_width, width_of, nothing_of}
use Rattle.indus_tree.specs.Reads.{single_word}
use Rattle.indus_tree.specs.Keys.{same_words, held_in, found, found_in}
use Rattle.indus_tree.specs.Shapes.{HasWidth}
use Rattle.indus_tree.specs.declared.tree.Ty.{Ty}
use Rattle.indus_types.specs.StaticWidths.{GiveWidth}
use Rattle.control_tables.specs.Laws.{chosen_in, first_or, given_in, OfChosen}
use Rattle.control_tables.proofs.Lookups.{choice_is_lookup}
use Rattle.lookup_names.specs.Names.{found_name}
use Rattle.lookup_names.specs.Keys.{key_types}
use Rattle.lowered_code.specs.Names.{table_name, action_name}
use Rattle.lowered_code.specs.Statements.{Var}
use Rattle.lowered_code.specs.Lookups.{IsLookup, IsReady, looked_up, AreKeys, Scratch, Applied}
use Rattle.lowered_code.proofs.Widths.{nothing_has}
use Rattle.lowered_code.proofs.Scratch.{scratch_same}
use Rattle.lookup_tables.specs.Tables.{Lookup, keys_for, no_action, table_for, params_for, given_for, action_for, first_action, members_of, pairs_of, entries_in, entries_for}
use Rattle.lookup_tables.specs.Finding.{AreNumbered, IsSpare, CanBeFound, TableFinds, TablesFindWhatIsLookedUp}
use Rattle.lookup_tables.proofs.Acting.{Gave, gives_value, gives_member}
use Rattle.lookup_tables.proofs.Named.{table_there, action_there, no_action_there}

-- ---- contents

found_fits :
    (es : List (List Word × Word)) (key : List Word) (w : ℕ) → All (λ (e : List Word × Word). HasWidth w e.1) es →
    HasWidth w (found es key w)
found_fits [] key w g = nothing_has w
found_fits (e ∷ es) key w g = go (same_words e.0 key) (found_fits es key w (All-tail (λ (e : List Word × Word). HasWidth w e.1) e es g))
  where
    go : (t : Bool) → HasWidth w (found es key w) → HasWidth w (cond t e.1 (found es key w))
    go true i = All-head (λ (e : List Word × Word). HasWidth w e.1) e es g
    go false i = i

found_in_fits : (k : Contents) (key : List Word) (w : ℕ) → GiveWidth w k → HasWidth w (found_in k key w)
found_in_fits (single x) key w g = nothing_has w
found_in_fits (members ks) key w g = nothing_has w
found_in_fits (pairs es) key w g = found_fits es key w g

single_fits : (k : Contents) (w : ℕ) → GiveWidth w k → HasWidth w (single_word k w)
single_fits (single x) w g = g
single_fits (members ks) w g = nothing_has w
single_fits (pairs es) w g = nothing_has w

held_is : (k : Contents) (key : List Word) → held_in (members (members_of k)) key ≡ held_in k key
held_is (single x) key = refl
held_is (members ks) key = refl
held_is (pairs es) key = refl

found_is : (k : Contents) (key : List Word) (w : ℕ) → found_in (pairs (pairs_of k)) key w ≡ found_in k key w
found_is (single x) key w = refl
found_is (members ks) key w = refl
found_is (pairs es) key w = refl

-- ---- what stands in the variable before

ready_width : (s : Shape) (u : Word) → IsReady s u → u.width ≡ shape_width s
ready_width (one t) u i = i
ready_width (list t n) u i = i
ready_width (set ts) u i = ap (λ (w : Word). w.width) i
ready_width (dict ts t) u i = ap (λ (w : Word). w.width) i

-- ---- keys

no_ternary : (n i : ℕ) (ts : List Ty) → has_ternary (keys_for n i ts) ≡ false
no_ternary n i [] = refl
no_ternary n i (t ∷ ts) = no_ternary n (suc i) ts

keys_read :
    (n i : ℕ) (ts : List Ty) (ws : List Word) (s : Store) → s.headers [] ≡ None → length ws ≡ length ts →
    AreKeys n i ws s → key_words (keys_for n i ts) s ≡ ws
keys_read n i [] [] s plain e k = refl
keys_read n i [] (w ∷ ws) s plain e k = absurd (omega (arith, e))
keys_read n i (t ∷ ts) [] s plain e k = absurd (omega (arith, e))
keys_read n i (t ∷ ts) (w ∷ ws) s plain e k = ap₂ (λ (u : Word) (us : List Word). u ∷ us) (ap₂ shown plain k.0) (keys_read n (suc i) ts ws s plain (omega (arith, e)) k.1)

-- ---- one table

module _
    (vars : List Var) (l : Lookup) (spare : IsSpare vars l) (acts : List Action) (action : action_named acts (action_name l.control l.number) ≡ Some (action_for l))
    (none : action_named acts (codes "NoAction") ≡ None) (k : Contents) (can : CanBeFound l.decl k) (key : List Word) (q : Run) (plain : q.store.headers [] ≡ None)
    (ready : IsReady l.decl.shape (q.store.values (found_name l.number ∷ []))) where
  abbrev Leaves : Word → Tested → Type 0
  Leaves w t = Scratch vars l.number q t.run × (t.flow ≡ Go) × (t.run.store.values (found_name l.number ∷ []) ≡ w)

  acted : (w : Word) (e : Ended) (hit : Bool) → Gave vars l.number w q e → Leaves w (test_behind e hit)
  acted w e hit g = (g.scratch, g.goes, g.found)

  missed :
      (w : Word) → q.store.values (found_name l.number ∷ []) ≡ w → (hit : Bool) →
      Leaves w (test_behind (act_if (action_named acts (codes "NoAction")) [] q) hit)
  missed w old hit = subst (λ o. Leaves w (test_behind (act_if o [] q) hit)) (sym none) (scratch_same vars l.number q, refl, old)

  -- the action, by the shape of the variable
  abbrev action_in : Shape → Action
  action_in s = record { name = action_name l.control l.number; params = params_for l s; body = next (assign 0 (found_name l.number ∷ []) (given_for l s)) done }

  first_acts :
      (s : Shape) → l.decl.shape ≡ s → (args : List Word) (P : Ended → Type 0) → P (act (action_in s) args q) →
      P (act_if (action_named acts (action_name l.control l.number)) args q)
  first_acts s sh args P p = subst (λ o. P (act_if o args q)) (sym action) (subst (λ s. P (act (action_in s) args q)) (sym sh) p)

  chosen_acts :
      (s : Shape) → l.decl.shape ≡ s → (e : Entry) → e.action ≡ action_name l.control l.number → (P : Ended → Type 0) →
      P (act (action_in s) e.args q) → P (act_if (action_named acts e.action) e.args q)
  chosen_acts s sh e is P p = subst (λ x. P (act_if (action_named acts x) e.args q)) (sym is) (first_acts s sh e.args P p)

  ready_at : (s : Shape) → l.decl.shape ≡ s → IsReady s (q.store.values (found_name l.number ∷ []))
  ready_at s sh = subst (λ s. IsReady s (q.store.values (found_name l.number ∷ []))) sh ready

  wide : (s : Shape) → l.decl.shape ≡ s → (q.store.values (found_name l.number ∷ [])).width ≡ shape_width s
  wide s sh = ready_width s (q.store.values (found_name l.number ∷ [])) (ready_at s sh)

  -- a set
  set_runs :
      (ts : List Ty) → l.decl.shape ≡ set ts → (o : Option Entry) →
      OfChosen (λ e. e.action ≡ action_name l.control l.number) o →
      Leaves (bit (is_some o)) (chosen_runs acts no_action o q)
  set_runs ts sh None i = missed (word 1 0) (ready_at (set ts) sh) false
  set_runs ts sh (Some e) i = chosen_acts (set ts) sh e i (λ e. Leaves (bit true) (test_behind e true)) (acted (bit true) _ true (gives_member vars l.control l.number spare e.args q plain (wide (set ts) sh)))

  -- a dict
  dict_runs :
      (ts : List Ty) (t : Ty) → l.decl.shape ≡ dict ts t → sound_width (width_of t) ≡ width_of t → (o : Option Entry) →
      OfChosen (λ e. e.action ≡ action_name l.control l.number) o → HasWidth (width_of t) (given_in (width_of t) o)
      → Leaves (given_in (width_of t) o) (chosen_runs acts no_action o q)
  dict_runs ts t sh sound None i f = subst (λ m. Leaves (word m 0) (chosen_runs acts no_action None q)) (sym sound) (missed (word (width_of t) 0) (ready_at (dict ts t) sh) false)
  dict_runs ts t sh sound (Some e) i f =
      chosen_acts (dict ts t) sh e i (λ r. Leaves (given_in (width_of t) (Some e)) (test_behind r true))
      (acted (first_or (nothing_of (width_of t)) e.args) _ true (gives_value vars l.control l.number spare (width_of t) e.args q plain (wide (dict ts t) sh) f))

  -- a scalar
  single_runs :
      (t : Ty) → l.decl.shape ≡ one t → (u : Word) → HasWidth (width_of t) u →
      Leaves u (test_behind (act_if (action_named acts (action_name l.control l.number)) (u ∷ []) q) false)
  single_runs t sh u f =
      first_acts (one t) sh (u ∷ []) (λ r. Leaves u (test_behind r false)) (acted u _ false (gives_value vars l.control l.number spare (width_of t) (u ∷ []) q plain (wide (one t) sh) f))

  -- what the table does on a key
  abbrev does_in : Shape → List Word → Tested
  does_in s us = chosen_runs acts (entries_in l s k).default (choice_of false (entries_in l s k).listed us) q

  shape_runs :
      (s : Shape) → l.decl.shape ≡ s → IsLookup s → sound_width (shape_width s) ≡ shape_width s →
      GiveWidth (shape_width s) k → Leaves (looked_up s k key) (does_in s key)
  shape_runs (one t) sh i sound g = single_runs t sh (single_word k (width_of t)) (single_fits k (width_of t) g)
  shape_runs (list t m) sh i sound g = absurd i
  shape_runs (set ts) sh i sound g =
      subst (λ b. Leaves (bit b) (does_in (set ts) key)) (choice_is_lookup.has (first_action l) 0 (members_of k) key ∙ held_is k key)
      (set_runs ts sh (chosen_in (first_action l) 0 (members (members_of k)) key) (choice_is_lookup.runs (first_action l) 0 (members (members_of k)) key))
  shape_runs (dict ts t) sh i sound g =
      let same : given_in (width_of t) (chosen_in (first_action l) 0 (pairs (pairs_of k)) key) ≡ found_in k key (width_of t) =
      choice_is_lookup.found (first_action l) 0 (pairs_of k) key (width_of t) ∙ found_is k key (width_of t) in
      subst (λ u. Leaves u (does_in (dict ts t) key)) same
      (dict_runs ts t sh sound (chosen_in (first_action l) 0 (pairs (pairs_of k)) key) (choice_is_lookup.runs (first_action l) 0 (pairs (pairs_of k)) key)
      (subst (HasWidth (width_of t)) (sym same) (found_in_fits k key (width_of t) g)))

  leaves :
      AreKeys l.number 0 key q.store → length key ≡ length (key_types l.decl.shape) →
      Leaves (looked_up l.decl.shape k key) (apply_if acts (Some (table_for l)) (entries_for l k) q)
  leaves keys long =
      subst (λ b. Leaves (looked_up l.decl.shape k key) (chosen_runs acts (entries_for l k).default (choice_of b (entries_for l k).listed (key_words (keys_for l.number 0 (key_types l.decl.shape)) q.store)) q))
      (sym (no_ternary l.number 0 (key_types l.decl.shape)))
      (subst (λ us. Leaves (looked_up l.decl.shape k key) (does_in l.decl.shape us)) (sym (keys_read l.number 0 (key_types l.decl.shape) key q.store plain long keys))
      (shape_runs l.decl.shape refl can.shape can.sound can.gives))

  pub applied :
      AreKeys l.number 0 key q.store → length key ≡ length (key_types l.decl.shape) →
      Applied vars l.number l.decl k key q (apply_if acts (Some (table_for l)) (entries_for l k) q)
  applied keys long = (let r = leaves keys long in record { scratch = r.0; goes = r.1; found = r.2 })

-- ---- all tables

module _ (all : List Lookup) (held : Tables) (vars : List Var) where
  each_finds :
      (ls : List Lookup) → AllByRecursion (λ l. table_named (map table_for all) (table_name l.control l.number) ≡ Some (table_for l)) ls →
      AllByRecursion (λ l. action_named (map action_for all) (action_name l.control l.number) ≡ Some (action_for l)) ls → AllByRecursion (TableFinds all held vars) ls
  each_finds [] t a = tt
  each_finds (l ∷ ls) t a = (
    λ spare k can holds q key plain ready keys long.
        subst (Applied vars l.number l.decl k key q) (sym (ap₂ (λ o e. apply_if (map action_for all) o e q) t.0 holds))
        (applied vars l spare (map action_for all) a.0 (no_action_there all) k can key q plain ready keys long),
    each_finds ls t.1 a.1,
  )

pub tables_find : TablesFindWhatIsLookedUp
tables_find ls numbered held vars = each_finds ls held vars ls (table_there 0 ls numbered) (action_there 0 ls numbered)
