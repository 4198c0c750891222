-- What calls of actions and applications of tables do in a linked program: own ones what they do in the forwarding
-- program, and the monitor's what the monitor means by them.
use Rattle.std.proofs.Common.{◌≡◌, codes, ℕ, List, [], ◌∷◌, map, Bool, true, false, cond, ◌||◌, Option, Some, None, refl, sym, ap, ◌∙◌, subst}
use Rattle.std.specs.List.{AllByRecursion}
use Rattle.bit_values.specs.Bits.{Word}
use Rattle.lex_text.specs.Names.{same_text}
use Rattle.p4_meaning.specs.Statements.{Run}
use Rattle.p4_meaning.specs.Choice.{Entry, choice_of}
use Rattle.p4_meaning.specs.Actions.{Action, action_named, params_of, args_of, act_if}
use Rattle.p4_meaning.specs.Tables.{Table, table_named, has_ternary, Entries, Tables, key_words, test_behind, chosen_runs, apply_if, calls_in}
use Rattle.p4_meaning.specs.Parts.{Parts}
use Rattle.p4_meaning.specs.Pass.{Kept, calls_of}
use Rattle.own_code.specs.Regions.{is_mine}
use Rattle.own_code.specs.Forwarding.{IsForwarding}
use Rattle.own_code.specs.OwnCode.{AreAlikeCalls, HoldSame, AreOwnEntries, IsSameAction, RunsSame}
use Rattle.own_code.proofs.Apart.{text_decides, apart_names}
use Rattle.own_code.proofs.OwnCalls.{IfChosen, choice_all, more_alike}
use Rattle.packet_lengths.specs.Lengths.{KeepsAction, KeepsFound, AreLengthCalls, plain_action, plain_table}
use Rattle.packet_lengths.proofs.Near.{own_actions_keep}
use Rattle.packet_lengths.proofs.LengthCalls.{found_keeps, length_calls}
use Rattle.monitor_laws.specs.Monitor.{Monitor}
use Rattle.monitor_laws.specs.MonitorLaws.{IsMonitorAction, AreMonitorEntries, MeansTops}
use Rattle.linked_halves.specs.LinkedParts.{Declarations, Joins}
use Rattle.linked_halves.specs.Held.{OwnEntries}

-- own entries run actions that are the same in both programs
listed_same : (as' all : List Action) (same : (x : List ℕ) → is_mine x ≡ false → IsSameAction as' all x) (es : List Entry) → AllByRecursion (λ e. is_mine e.action ≡ false) es → AllByRecursion (λ e. IsSameAction as' all e.action) es
listed_same as' all same [] h = tt
listed_same as' all same (e ∷ es) h = (same e.action h.0, listed_same as' all same es h.1)

entries_same : (as' all : List Action) (same : (x : List ℕ) → is_mine x ≡ false → IsSameAction as' all x) (n : Entries) → AreOwnEntries n → RunsSame as' all n
entries_same as' all same n h = record { listed = listed_same as' all same n.listed h.listed; default = same n.default.action h.default }

module _ {T Z C : Type 0} (m : Monitor T Z C) (f : Parts) (own : IsForwarding f) (decls : Declarations) (joins : Joins m f decls) where
  -- own calls
  pub core_alike : (held held' : Tables) → HoldSame held held' → OwnEntries f held → AreAlikeCalls (calls_of f held) (calls_in decls.actions decls.tables held')
  core_alike held held' same entries =
      more_alike f.actions decls.actions own.actions f.tables decls.tables held held' own.tables
      (record { same_actions = λ x o. joins.own_actions x o; same_tables = λ x o. joins.own_tables x o }) same
      (λ x t is. entries_same f.actions decls.actions joins.own_actions (held x) (entries x t is))

  -- the monitor's actions, and `NoAction`, which is none
  monitor_action : (x : List ℕ) → IsMonitorAction x → (b : Bool) → is_mine x ≡ b → (n : action_named m.actions (codes "NoAction") ≡ None) → action_named decls.actions x ≡ action_named m.actions x
  monitor_action x h true e n = joins.monitor_actions x e
  monitor_action x h false e n =
      let is : codes "NoAction" ≡ x = (text_decides (codes "NoAction") x).0 (sym (ap (λ b. b || same_text (codes "NoAction") x) e) ∙ h) in
      subst (λ x. action_named decls.actions x ≡ action_named m.actions x) is (joins.own_actions (codes "NoAction") refl ∙ (own.no_action ∙ sym n))

  module _ (named : AllByRecursion (λ a. is_mine a.name ≡ true) m.actions) where
    none_named : (as' : List Action) (x : List ℕ) → AllByRecursion (λ a. is_mine a.name ≡ true) as' → is_mine x ≡ false → action_named as' x ≡ None
    none_named [] x h o = refl
    none_named (a ∷ as') x h o = ap (λ b. cond b (Some a) (action_named as' x)) (apart_names is_mine a.name x h.0 o) ∙ none_named as' x h.1 o

    same_found : (x : List ℕ) → IsMonitorAction x → action_named decls.actions x ≡ action_named m.actions x
    same_found x h = monitor_action x h (is_mine x) refl (none_named m.actions (codes "NoAction") named refl)

    same_chosen : (n : Entries) (o : Option Entry) (r : Run) → IsMonitorAction n.default.action → IfChosen (λ e. IsMonitorAction e.action) o → chosen_runs decls.actions n.default o r ≡ chosen_runs m.actions n.default o r
    same_chosen n None r default listed = ap (λ a. test_behind (act_if a n.default.args r) false) (same_found n.default.action default)
    same_chosen n (Some e) r default listed = ap (λ a. test_behind (act_if a e.args r) true) (same_found e.action listed)

    same_applied : (o : Option Table) (n : Entries) (r : Run) → ((t : Table) → o ≡ Some t → AreMonitorEntries n) → apply_if decls.actions o n r ≡ apply_if m.actions o n r
    same_applied None n r h = refl
    same_applied (Some t) n r h =
        let is = h t refl in
        let ks = key_words t.keys r.store in
        same_chosen n (choice_of (has_ternary t.keys) n.listed ks) r is.default (choice_all (λ e. IsMonitorAction e.action) (has_ternary t.keys) n.listed ks is.listed)

    -- the monitor's calls
    pub core_means : (Fit : T → Type 0) (Keeps : Z → (ℕ → C) → Kept → Type 0) (held : Tables) → ((x : List ℕ) (t : Table) → table_named m.tables x ≡ Some t → AreMonitorEntries (held x)) → MeansTops m Fit Keeps held (calls_in decls.actions decls.tables held)
    core_means Fit Keeps held entries =
        record {
          actions = λ x es r i. ap (λ o. act_if o (args_of (params_of o) es r.store) r) (joins.monitor_actions x i);
          tables = λ x r i. ap (λ o. apply_if decls.actions o (held x) r) (joins.monitor_tables x i) ∙ same_applied (table_named m.tables x) (held x) r (entries x);
        }

  -- rewritten calls
  pub core_lengths : AllByRecursion KeepsAction m.actions → (n : Word) (held : Tables) → AreLengthCalls n (calls_in decls.actions decls.tables held) (calls_in (map plain_action decls.actions) (map plain_table decls.tables) held)
  core_lengths keep n held = length_calls n decls.actions (λ x. found x (is_mine x) refl) decls.tables held
    where
      found : (x : List ℕ) (b : Bool) → is_mine x ≡ b → KeepsFound (action_named decls.actions x)
      found x true e = subst KeepsFound (sym (joins.monitor_actions x e)) (found_keeps m.actions x keep)
      found x false e = subst KeepsFound (sym (joins.own_actions x e)) (found_keeps f.actions x (own_actions_keep f.actions own.actions))
