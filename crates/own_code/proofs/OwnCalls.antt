-- Own actions and own tables do the same in both runs. An action calls nothing, so the law on statements is there before.
use Rattle.std.proofs.Common.{◌≡◌, ℕ, List, [], ◌∷◌, Bool, true, false, cond, Option, Some, None, refl, sym, ap, ap₂, subst}
use Rattle.std.specs.Prelude.{nat_lt}
use Rattle.std.specs.List.{AllByRecursion}
use Rattle.bit_values.specs.Bits.{Word, word}
use Rattle.bit_values.specs.Widths.{sound_width, cast_word}
use Rattle.lex_text.specs.Names.{same_text}
use Rattle.p4_tree.specs.Tree.{Expr}
use Rattle.p4_meaning.specs.Store.{set_value}
use Rattle.p4_meaning.specs.Statements.{no_calls, Go, Run, Ended, in_store}
use Rattle.p4_meaning.specs.Choice.{Entry, fits_keys, rank_of, higher, choice_of}
use Rattle.p4_meaning.specs.Actions.{Param, Action, action_named, params_of, args_of, bound, flow_behind, act, act_if}
use Rattle.p4_meaning.specs.Tables.{Key, Chosen, Table, table_named, has_ternary, Entries, Tables, key_words, test_behind, chosen_runs, apply_if, calls_in}
use Rattle.own_code.specs.Regions.{is_mine}
use Rattle.own_code.specs.Forwarding.{IsOwnExpr, IsOwnAction, IsOwnTable}
use Rattle.own_code.specs.Relations.{Alike}
use Rattle.own_code.specs.OwnCode.{Ran, RanTest, AreAlikeCalls, HoldSame, HasOwn, IsSameAction, RunsSame}
use Rattle.own_code.proofs.Apart.{single_writable, single_spec}
use Rattle.own_code.proofs.Own.{stays_same, stays_then, ran_same, value_alike, set_alike, set_stays, keeps_other, no_calls_alike, all_ran}

-- an own parameter has the same word in both
param_ran : (a b : Run) (x : List ℕ) (w : Word) → is_mine x ≡ false → Alike a b → Ran b (in_store a (set_value a.store (x ∷ []) w), Go) (in_store b (set_value b.store (x ∷ []) w), Go)
param_ran a b x w o h =
    record {
      alike = set_alike a b (x ∷ []) w w h refl;
      stays = set_stays b (x ∷ []) w (single_writable x o) (keeps_other b (x ∷ []) w (single_spec x));
      goes = refl;
      goes_on = refl;
    }

-- one step and then another, both of which go on
ran_more : (b : Run) (a' b' : Run) (x y : Ended) → Ran b (a', Go) (b', Go) → Ran b' x y → Ran b x y
ran_more b a' b' x y h k = record { alike = k.alike; stays = stays_then b b' y.0 h.stays k.stays; goes = k.goes; goes_on = k.goes_on }

-- so have all parameters of an action
bound_ran : (ps : List Param) (ws : List Word) (a b : Run) → AllByRecursion (λ p. is_mine p.name ≡ false) ps → Alike a b → Ran b (in_store a (bound ps ws a.store), Go) (in_store b (bound ps ws b.store), Go)
bound_ran [] ws a b o h = ran_same a b h
bound_ran (p ∷ ps) [] a b o h =
    let w = word (sound_width p.width) 0 in
    let one = param_ran a b p.name w o.0 h in
    let c = in_store a (set_value a.store (p.name ∷ []) w) in
    let d = in_store b (set_value b.store (p.name ∷ []) w) in
    ran_more b c d (in_store c (bound ps [] c.store), Go) (in_store d (bound ps [] d.store), Go) one (bound_ran ps [] c d o.1 one.alike)
bound_ran (p ∷ ps) (v ∷ ws) a b o h =
    let w = cast_word (sound_width p.width) v in
    let one = param_ran a b p.name w o.0 h in
    let c = in_store a (set_value a.store (p.name ∷ []) w) in
    let d = in_store b (set_value b.store (p.name ∷ []) w) in
    ran_more b c d (in_store c (bound ps ws c.store), Go) (in_store d (bound ps ws d.store), Go) one (bound_ran ps ws c d o.1 one.alike)

-- an own action on the same words
act_same : (k : Action) (ws : List Word) (a b : Run) → IsOwnAction k → Alike a b → Ran b (act k ws a) (act k ws b)
act_same k ws a b o h =
    let one = bound_ran k.params ws a b o.params h in
    let c = in_store a (bound k.params ws a.store) in
    let d = in_store b (bound k.params ws b.store) in
    let two = all_ran no_calls no_calls no_calls_alike k.body c d o.body one.alike in
    record { alike = two.alike; stays = stays_then b d (act k ws b).0 one.stays two.stays; goes = ap flow_behind two.goes; goes_on = ap flow_behind two.goes_on }

-- what is found among own actions is own, or there is none
abbrev IsOwnIf : Option Action → Type 0
IsOwnIf None = Unit {0}
IsOwnIf (Some k) = IsOwnAction k

found_action : (as' : List Action) (x : List ℕ) → AllByRecursion IsOwnAction as' → IsOwnIf (action_named as' x)
found_action [] x o = tt
found_action (k ∷ as') x o = pick (same_text k.name x) (Some k) (action_named as' x) o.0 (found_action as' x o.1)
  where
    pick : (t : Bool) (y z : Option Action) → IsOwnIf y → IsOwnIf z → IsOwnIf (cond t y z)
    pick true y z h i = h
    pick false y z h i = i

act_if_same : (o : Option Action) (ws : List Word) (a b : Run) → IsOwnIf o → Alike a b → Ran b (act_if o ws a) (act_if o ws b)
act_if_same None ws a b o h = ran_same a b h
act_if_same (Some k) ws a b o h = act_same k ws a b o h

-- the words of own arguments
args_same : (ps : List Param) (es : List Expr) (a b : Run) → AllByRecursion IsOwnExpr es → Alike a b → args_of ps es b.store ≡ args_of ps es a.store
args_same [] es a b o h = refl
args_same (p ∷ ps) [] a b o h = refl
args_same (p ∷ ps) (e ∷ es) a b o h = ap₂ (λ (w : Word) (ws : List Word). w ∷ ws) (value_alike a b e p.width h o.0) (args_same ps es a b o.1 h)

-- the words of own keys
keys_same : (ks : List Key) (a b : Run) → AllByRecursion (λ k. IsOwnExpr k.value) ks → Alike a b → key_words ks b.store ≡ key_words ks a.store
keys_same [] a b o h = refl
keys_same (k ∷ ks) a b o h = ap₂ (λ (w : Word) (ws : List Word). w ∷ ws) (value_alike a b k.value 0 h o.0) (keys_same ks a b o.1 h)

-- what is found among own tables is own, or there is none
abbrev pub IsOwnTableIf : Option Table → Type 0
IsOwnTableIf None = Unit {0}
IsOwnTableIf (Some t) = IsOwnTable t

pub found_table : (ts : List Table) (x : List ℕ) → AllByRecursion IsOwnTable ts → IsOwnTableIf (table_named ts x)
found_table [] x o = tt
found_table (t ∷ ts) x o = pick (same_text t.name x) (Some t) (table_named ts x) o.0 (found_table ts x o.1)
  where
    pick : (i : Bool) (y z : Option Table) → IsOwnTableIf y → IsOwnTableIf z → IsOwnTableIf (cond i y z)
    pick true y z h i = h
    pick false y z h i = i

-- what a walk chooses is as all entries are
abbrev pub IfChosen : (Entry → Type 0) → Option Entry → Type 0
IfChosen P None = Unit {0}
IfChosen P (Some e) = P e

pub choice_all : (P : Entry → Type 0) (t : Bool) (es : List Entry) (ks : List Word) → AllByRecursion P es → IfChosen P (choice_of t es ks)
choice_all P t [] ks h = tt
choice_all P t (e ∷ es) ks h = pick (fits_keys e.keys ks) (choice_of t es ks) (choice_all P t es ks h.1)
  where
    either : (i : Bool) (f : Entry) → P f → P (cond i f e)
    either true f k = k
    either false f k = h.0

    first : (o : Option Entry) → IfChosen P o → P (higher t e o)
    first None k = h.0
    first (Some f) k = either (nat_lt (rank_of t e) (rank_of t f)) f k

    pick : (i : Bool) (o : Option Entry) → IfChosen P o → IfChosen P (cond i (Some (higher t e o)) o)
    pick true o k = first o k
    pick false o k = k

all_refl : (as' : List Action) (es : List Entry) → AllByRecursion (λ e. IsSameAction as' as' e.action) es
all_refl as' [] = tt
all_refl as' (e ∷ es) = (refl, all_refl as' es)

module _ (as' all : List Action) (own : AllByRecursion IsOwnAction as') where
  -- an own action that is the same in both
  found_same : (x : List ℕ) (ws : List Word) (a b : Run) → IsSameAction as' all x → Alike a b → Ran b (act_if (action_named as' x) ws a) (act_if (action_named all x) ws b)
  found_same x ws a b same h = subst (λ o. Ran b (act_if (action_named as' x) ws a) (act_if o ws b)) (sym same) (act_if_same (action_named as' x) ws a b (found_action as' x own) h)

  -- behind a choice, with whether that was a hit
  behind_same : (x : List ℕ) (ws : List Word) (hit : Bool) (a b : Run) → IsSameAction as' all x → Alike a b → RanTest b (test_behind (act_if (action_named as' x) ws a) hit) (test_behind (act_if (action_named all x) ws b) hit)
  behind_same x ws hit a b same h =
      let r = found_same x ws a b same h in
      record { alike = r.alike; stays = r.stays; goes = r.goes; goes_on = r.goes_on; hit = refl }

  -- one choice runs one action
  chosen_same : (d : Chosen) (o : Option Entry) (a b : Run) → IsSameAction as' all d.action → IfChosen (λ e. IsSameAction as' all e.action) o → Alike a b → RanTest b (chosen_runs as' d o a) (chosen_runs all d o b)
  chosen_same d None a b default listed h = behind_same d.action d.args false a b default h
  chosen_same d (Some e) a b default listed h = behind_same e.action e.args true a b listed h

  -- an own table that holds the same makes one choice
  apply_same : (o : Option Table) (n : Entries) (a b : Run) → IsOwnTableIf o → ((t : Table) → o ≡ Some t → RunsSame as' all n) → Alike a b → RanTest b (apply_if as' o n a) (apply_if all o n b)
  apply_same None n a b o runs h = record { alike = h; stays = stays_same b; goes = refl; goes_on = refl; hit = refl }
  apply_same (Some t) n a b o each h =
      let runs = each t refl in
      let ternary = has_ternary t.keys in
      let ks = key_words t.keys a.store in
      subst (λ ws. RanTest b (apply_if as' (Some t) n a) (chosen_runs all n.default (choice_of ternary n.listed ws) b)) (sym (keys_same t.keys a b o.keys h))
      (chosen_same n.default (choice_of ternary n.listed ks) a b runs.default (choice_all (λ e. IsSameAction as' all e.action) ternary n.listed ks runs.listed) h)

  -- own actions and own tables do the same, where own tables hold the same, and what they choose runs the same
  pub more_alike : (ts every : List Table) (held held' : Tables) → AllByRecursion IsOwnTable ts → HasOwn as' all ts every → HoldSame held held' → ((x : List ℕ) (t : Table) → table_named ts x ≡ Some t → RunsSame as' all (held x)) → AreAlikeCalls (calls_in as' ts held) (calls_in all every held')
  more_alike ts every held held' tables has same runs =
      record {
        actions = λ x es a b o h.
            let k = action_named as' x in
            let ws = args_of (params_of k) es a.store in
            subst (λ i. Ran b (act_if k ws a) (act_if i (args_of (params_of i) es b.store) b)) (sym (has.same_actions x o.0))
            (subst (λ us. Ran b (act_if k ws a) (act_if k us b)) (sym (args_same (params_of k) es a b o.1 h))
            (act_if_same k ws a b (found_action as' x own) h));
        tables = λ x a b o h.
            let t = table_named ts x in
            subst (λ i. RanTest b (apply_if as' t (held x) a) (apply_if all i (held' x) b)) (sym (has.same_tables x o))
            (subst (λ n. RanTest b (apply_if as' t (held x) a) (apply_if all t n b)) (sym (same x o))
            (apply_same t (held x) a b (found_table ts x tables) (runs x) h));
      }

-- so do they in two runs of one program
pub calls_alike : (as' : List Action) → AllByRecursion IsOwnAction as' → (ts : List Table) (held held' : Tables) → AllByRecursion IsOwnTable ts → HoldSame held held' → AreAlikeCalls (calls_in as' ts held) (calls_in as' ts held')
calls_alike as' own ts held held' tables same =
    more_alike as' as' own ts ts held held' tables (record { same_actions = λ x o. refl; same_tables = λ x o. refl }) same
    (λ x t is. record { listed = all_refl as' (held x).listed; default = refl })
