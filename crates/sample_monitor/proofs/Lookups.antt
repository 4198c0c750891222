-- A lookup of the set: what the application of its table does.
use Rattle.std.proofs.Common.{◌≡◌, codes, ℕ, List, [], ◌∷◌, map, Bool, true, false, ◌&&◌, ◌||◌, Option, Some, None, refl, sym, ap, ap₂, ◌∙◌}
use Rattle.std.specs.Prelude.{if◌then◌else◌, nat_eq, nat_lt}
use Rattle.bit_values.specs.Bits.{Word, word}
use Rattle.bit_values.specs.Widths.{sound_width, cast_word}
use Rattle.p4_meaning.specs.Store.{read, set_value}
use Rattle.p4_meaning.specs.Statements.{Go, Run, Ended, in_store, no_calls}
use Rattle.p4_meaning.specs.Choice.{Entry, rank_of, higher, choice_of}
use Rattle.p4_meaning.specs.Actions.{Action, action_named, act, act_if}
use Rattle.p4_meaning.specs.Tables.{Table, table_named, Entries, Tables, test_behind, chosen_runs, apply_if, calls_in}
use Rattle.sample_monitor.specs.Property.{is_member}
use Rattle.sample_monitor.specs.Sample.{Lookup, no_action, table_for, action_for, entry_for, entries_for}
use Rattle.monitor_laws.specs.Trees.{number}
use Rattle.monitor_laws.proofs.Frames.{open_by, assignment}

-- a choice is an entry of the lookup's where there is a member, and none elsewhere
abbrev IsEntry : Lookup → Option Entry → Bool → Type 0
IsEntry l None b = b ≡ false
IsEntry l (Some e) b = (e.action ≡ l.action) × (e.args ≡ []) × (b ≡ true)

higher_is : (l : Lookup) (k : Word) (o : Option Entry) (b : Bool) → IsEntry l o b → IsEntry l (Some (higher false (entry_for l k) o)) true
higher_is l k None b h = (refl, refl, refl)
higher_is l k (Some f) b h = go (nat_lt (rank_of false (entry_for l k)) (rank_of false f))
  where
    go : (lower : Bool) → IsEntry l (Some (if lower then f else entry_for l k)) true
    go true = (h.0, h.1, refl)
    go false = (refl, refl, refl)

choice_is : (l : Lookup) (ks : List Word) (w : Word) → IsEntry l (choice_of false (map (entry_for l) ks) (w ∷ [])) (is_member ks w)
choice_is l [] w = refl
choice_is l (k ∷ ks) w = go (nat_eq k.value w.value) (choice_is l ks w)
  where
    go : (fits : Bool) → IsEntry l (choice_of false (map (entry_for l) ks) (w ∷ [])) (is_member ks w) → IsEntry l (if fits && true then Some (higher false (entry_for l k) (choice_of false (map (entry_for l) ks) (w ∷ []))) else choice_of false (map (entry_for l) ks) (w ∷ [])) (fits || is_member ks w)
    go true h = higher_is l k (choice_of false (map (entry_for l) ks) (w ∷ [])) (is_member ks w) h
    go false h = h

-- the run in which a lookup found this
abbrev pub found_in : Lookup → Bool → Run → Run
found_in l b q = if b then in_store q (set_value q.store (l.found ∷ []) (word 1 1)) else q

-- the action sets its variable
acted : (l : Lookup) (q : Run) (u : Word) → q.store.headers [] ≡ None → q.store.values (l.found ∷ []) ≡ u → u.width ≡ 1 → act (action_for l) [] q ≡ (found_in l true q, Go)
acted l q u plain old width =
    ap (λ (e : Ended). (e.0, Go))
    (assignment no_calls q 0 (l.found ∷ []) (number 1 1) u (word 1 1) refl (open_by (q.store.headers []) None plain tt) old refl)
    ∙ ap (λ n. (in_store q (set_value q.store (l.found ∷ []) (cast_word (sound_width n) (word 1 1))), Go)) width

module _ (l : Lookup) (as' : List Action) (action : action_named as' l.action ≡ Some (action_for l)) (none : action_named as' (codes "NoAction") ≡ None) where
  runs_it : (o : Option Entry) (b : Bool) (q : Run) (u : Word) → IsEntry l o b → q.store.headers [] ≡ None → q.store.values (l.found ∷ []) ≡ u → u.width ≡ 1 → chosen_runs as' no_action o q ≡ test_behind (found_in l b q, Go) b
  runs_it None b q u h plain old width =
      ap (λ (o : Option Action). test_behind (act_if o [] q) false) none
      ∙ ap (λ t. test_behind (found_in l t q, Go) t) (sym h)
  runs_it (Some e) b q u h plain old width =
      ap₂ (λ (x : List ℕ) (ws : List Word). test_behind (act_if (action_named as' x) ws q) true) h.0 h.1
      ∙ ap (λ (o : Option Action). test_behind (act_if o [] q) true) action
      ∙ ap (λ (e : Ended). test_behind e true) (acted l q u plain old width)
      ∙ ap (λ t. test_behind (found_in l t q, Go) t) (sym h.2)

  -- the table of a lookup that holds the members of a set
  pub applied_is : (ts : List Table) (held : Tables) (ks : List Word) (w : Word) (q : Run) (u : Word) → table_named ts l.table ≡ Some (table_for l) → held l.table ≡ entries_for l ks → q.store.headers [] ≡ None → read q.store (l.key ∷ []) ≡ w → q.store.values (l.found ∷ []) ≡ u → u.width ≡ 1 → (calls_in as' ts held).apply_table l.table q ≡ test_behind (found_in l (is_member ks w) q, Go) (is_member ks w)
  applied_is ts held ks w q u table holds plain key old width =
      ap₂ (λ (o : Option Table) (n : Entries). apply_if as' o n q) table holds
      ∙ ap (λ v. chosen_runs as' no_action (choice_of false (map (entry_for l) ks) (v ∷ [])) q) key
      ∙ runs_it (choice_of false (map (entry_for l) ks) (w ∷ [])) (is_member ks w) q u (choice_is l ks w) plain old width
