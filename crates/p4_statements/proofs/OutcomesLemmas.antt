-- What tables choose.
use Rattle.std.proofs.Common.{◌≡◌, ℕ, List, [], ◌∷◌, Bool, true, false, cond, Option, Some, None, refl, ap, sym, ◌∙◌}
use Rattle.lex_text.specs.Names.{same_text}
use Rattle.bit_values.specs.Bits.{Word}
use Rattle.p4_meaning.specs.Statements.{Run}
use Rattle.p4_meaning.specs.Choice.{Entry, choice_of}
use Rattle.p4_meaning.specs.Actions.{Action, act_if}
use Rattle.p4_meaning.specs.Tables.{Table, Entries, has_ternary, key_words, table_named, tables_before, chosen_runs, apply_if, test_behind}
use Rattle.p4_statements.specs.Outcomes.{Outcome, outcome_from, outcome_in, written}

written_step : (b : Bool) (t : Table) (o : Option Table) → cond b (written (Some t)) (written o) ≡ written (cond b (Some t) o)
written_step true t o = refl
written_step false t o = refl

-- what is written is that of the first table of the name
pub written_before : (ts : List Table) (x : List ℕ) → tables_before ts x ≡ written (table_named ts x)
written_before [] x = refl
written_before (t ∷ ts) x = ap (cond (same_text t.name x) (written (Some t))) (written_before ts x) ∙ written_step (same_text t.name x) t (table_named ts x)

chosen_from : (as' : List Action) (h : Entries) (o : Option Entry) (r : Run) → test_behind (act_if (outcome_from as' h o).action (outcome_from as' h o).args r) (outcome_from as' h o).hit ≡ chosen_runs as' h.default o r
chosen_from as' h None r = refl
chosen_from as' h (Some e) r = refl

-- what is chosen runs
pub applied : (as' : List Action) (t : Table) (h : Entries) (ks : List Word) (r : Run) (o : Outcome) → ks ≡ key_words t.keys r.store → o ≡ outcome_in as' (Some t) h ks → test_behind (act_if o.action o.args r) o.hit ≡ apply_if as' (Some t) h r
applied as' t h ks r o keys is =
    ap (λ (o : Outcome). test_behind (act_if o.action o.args r) o.hit) (is ∙ ap (outcome_in as' (Some t) h) keys)
    ∙ chosen_from as' h (choice_of (has_ternary t.keys) h.listed (key_words t.keys r.store)) r
