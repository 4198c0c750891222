-- What the tables of a switch choose, by their names.
use Rattle.std.proofs.Common.{◌≡◌, ℕ, zero, suc, ◌<◌, ◌≤◌, List, [], ◌∷◌, codes, length, map, get_or, Bool, true, false, cond, Option, Some, None, refl, sym, ap, ap₂, ◌∙◌, arith}
use Rattle.std.proofs.lemmas.Bool.{and_parts, and_from, false≢true, ltb-true, lt-ltb}
use Rattle.std.specs.Prelude.{nat_lt}
use Rattle.std.specs.Bool.{OnTrue, OnFalse}
use Rattle.lex_text.specs.Names.{same_text}
use Rattle.bit_values.specs.Bits.{Word}
use Rattle.p4_tree.specs.Tree.{Program}
use Rattle.p4_meaning.specs.Choice.{choice_of}
use Rattle.p4_meaning.specs.Actions.{Action, action_named}
use Rattle.p4_meaning.specs.Tables as meaning
use Rattle.p4_meaning.specs.Tables.{Table, table_named}
use Rattle.p4_meaning.specs.Parts.{Parts, parts_of}
use Rattle.p4_parts.specs.PartsIn.{action_in}
use Rattle.p4_parts.specs.declared.parts.Action as code_action
use Rattle.p4_statements.specs.Outcomes.{Outcome, outcome_from, outcome_in, outcome_at}
use Rattle.table_shapes.specs.Shapes.{Shape, has_ternary}
use Rattle.table_entries.specs.Entries.{Act, named}
use Rattle.p4_tables.specs.State.{Held, held_at}
use Rattle.p4_tables.specs.Answers.{IsHit, IsMiss}
use Rattle.p4_tables.specs.Programs.{shapes, tables_before, state_before, keys_hold, params_hold}
use Rattle.value_shapes.specs.declared.values.ValueShape.{ValueShape}
use Rattle.p4_tables.specs.Named.{action_name, entries_named, tables_named, tables_in, table_place}
use Rattle.p4_tables.proofs.Applied.{same_ternary, miss_chosen}
use Rattle.p4_machine.specs.Loaded.{same_truth, are_for, fits_in}

-- ---- as facts

-- there are as many, and each has a ternary key where the program's has one
abbrev AreFor : List Table → List Shape → Type 0
AreFor [] [] = Unit {0}
AreFor [] (s ∷ ss) = ⊥
AreFor (t ∷ ts) [] = ⊥
AreFor (t ∷ ts) (s ∷ ss) = (has_ternary s.keys ≡ meaning.has_ternary t.keys) × AreFor ts ss

truths : (a b : Bool) → same_truth a b ≡ true → a ≡ b
truths true b e = sym e
truths false true e = absurd (false≢true e)
truths false false e = refl

same_self : (a b : Bool) → a ≡ b → same_truth a b ≡ true
same_self true b e = sym e
same_self false true e = absurd (false≢true e)
same_self false false e = refl

facts : (ts : List Table) (ss : List Shape) → are_for ts ss ≡ true → AreFor ts ss
facts [] [] e = tt
facts [] (s ∷ ss) e = absurd (false≢true e)
facts (t ∷ ts) [] e = absurd (false≢true e)
facts (t ∷ ts) (s ∷ ss) e = (let f = and_parts (same_truth (has_ternary s.keys) (meaning.has_ternary t.keys)) (are_for ts ss) e in (truths (has_ternary s.keys) (meaning.has_ternary t.keys) f.0, facts ts ss f.1))

as_test : (ts : List Table) (ss : List Shape) → AreFor ts ss → are_for ts ss ≡ true
as_test [] [] f = refl
as_test [] (s ∷ ss) f = absurd f
as_test (t ∷ ts) [] f = absurd f
as_test (t ∷ ts) (s ∷ ss) f = and_from (same_truth (has_ternary s.keys) (meaning.has_ternary t.keys)) (are_for ts ss) (same_self (has_ternary s.keys) (meaning.has_ternary t.keys) f.0) (as_test ts ss f.1)

-- ---- the tables of a program

before_for : (as' : List Action) (pss : List (List ValueShape)) (ts : List Table) (kss : List (List ValueShape)) → AreFor ts (shapes (tables_before as' pss ts kss))
before_for as' pss [] kss = tt
before_for as' pss (t ∷ ts) [] = (same_ternary t.keys [], before_for as' pss ts [])
before_for as' pss (t ∷ ts) (ks ∷ kss) = (same_ternary t.keys ks, before_for as' pss ts kss)

pub state_for : (p : Program) (st : List Held) → shapes st ≡ shapes (state_before p) → are_for (parts_of p).tables (shapes st) ≡ true
unfolding state_before
state_for p st e = ap (are_for (parts_of p).tables) e ∙ as_test (parts_of p).tables _ (before_for (parts_of p).actions (params_hold p) (parts_of p).tables (keys_hold p))

-- ---- the table of a name

as_facts : (ts : List Table) (hs : List Held) → AreFor ts (shapes hs) → length ts ≡ length hs
as_facts [] [] f = refl
as_facts [] (h ∷ hs) f = absurd f
as_facts (t ∷ ts) [] f = absurd f
as_facts (t ∷ ts) (h ∷ hs) f = ap suc (as_facts ts hs f.1)

pub as_many : (ts : List Table) (hs : List Held) → are_for ts (shapes hs) ≡ true → length ts ≡ length hs
as_many ts hs e = as_facts ts hs (facts ts (shapes hs) e)

-- a table stands at its place, and what is held of it
record Stands (nm : ℕ → List ℕ) (ts : List Table) (hs : List Held) (x : List ℕ) (n : ℕ) (o : Option Table) : Type 0 where
  table : Table
  named : o ≡ Some table
  mask : has_ternary (held_at hs n).shape.keys ≡ meaning.has_ternary table.keys

stands_step : (nm : ℕ → List ℕ) (t : Table) (ts : List Table) (h : Held) (hs : List Held) (x : List ℕ) (b : Bool) → AreFor (t ∷ ts) (shapes (h ∷ hs)) → cond b 0 (suc (table_place ts x)) < suc (length ts) → (table_place ts x < length ts → Stands nm ts hs x (table_place ts x) (table_named ts x)) → Stands nm (t ∷ ts) (h ∷ hs) x (cond b 0 (suc (table_place ts x))) (cond b (Some t) (table_named ts x))
stands_step nm t ts h hs x true f lt ih = record { table = t; named = refl; mask = f.0 }
stands_step nm t ts h hs x false f lt ih = (let r = ih (omega arith) in record { table = r.table; named = r.named; mask = r.mask })

stands : (nm : ℕ → List ℕ) (ts : List Table) (hs : List Held) (x : List ℕ) → AreFor ts (shapes hs) → table_place ts x < length ts → Stands nm ts hs x (table_place ts x) (table_named ts x)
stands nm [] hs x f lt = absurd (omega arith)
stands nm (t ∷ ts) [] x f lt = absurd f
stands nm (t ∷ ts) (h ∷ hs) x f lt = stands_step nm t ts h hs x (same_text t.name x) f lt (stands nm ts hs x f.1)

held_step : (nm : ℕ → List ℕ) (t : Table) (ts : List Table) (h : Held) (hs : List Held) (x : List ℕ) (b : Bool) → cond b 0 (suc (table_place ts x)) < suc (length ts) → (table_place ts x < length ts → tables_named nm ts hs x ≡ entries_named nm (held_at hs (table_place ts x))) → cond b (entries_named nm h) (tables_named nm ts hs x) ≡ entries_named nm (held_at (h ∷ hs) (cond b 0 (suc (table_place ts x))))
held_step nm t ts h hs x true lt ih = refl
held_step nm t ts h hs x false lt ih = ih (omega arith)

held_found : (nm : ℕ → List ℕ) (ts : List Table) (hs : List Held) (x : List ℕ) → AreFor ts (shapes hs) → table_place ts x < length ts → tables_named nm ts hs x ≡ entries_named nm (held_at hs (table_place ts x))
held_found nm [] hs x f lt = absurd (omega arith)
held_found nm (t ∷ ts) [] x f lt = absurd f
held_found nm (t ∷ ts) (h ∷ hs) x f lt = held_step nm t ts h hs x (same_text t.name x) lt (held_found nm ts hs x f.1)

none_step : (t : Table) (ts : List Table) (x : List ℕ) (b : Bool) → suc (length ts) ≤ cond b 0 (suc (table_place ts x)) → (length ts ≤ table_place ts x → table_named ts x ≡ None) → cond b (Some t) (table_named ts x) ≡ None
none_step t ts x true le ih = absurd (omega arith)
none_step t ts x false le ih = ih (omega arith)

none_named : (ts : List Table) (x : List ℕ) → length ts ≤ table_place ts x → table_named ts x ≡ None
none_named [] x le = refl
none_named (t ∷ ts) x le = none_step t ts x (same_text t.name x) le (none_named ts x)

-- ---- what is chosen

abbrev pub outcome_for : List Action → Act → Bool → Outcome
outcome_for as' a hit = record { action = action_named as' (action_name as' a.action); args = a.args; hit = hit }

hit_from : (as' : List Action) (h : Held) (keys : List Word) (a : Act) → (is : IsHit h keys a) → outcome_for as' a true ≡ outcome_from as' (entries_named (action_name as') h) (choice_of (has_ternary h.shape.keys) (map (named (action_name as')) h.listed) keys)
hit_from as' h keys a is =
    ap₂ (λ n (ws : List Word). let o : Outcome = record { action = action_named as' (action_name as' n); args = ws; hit = true } in o) is.action is.args
    ∙ ap (outcome_from as' (entries_named (action_name as') h)) (sym (is.first (action_name as')))

miss_from : (as' : List Action) (h : Held) (keys : List Word) (a : Act) → (is : IsMiss h keys a) → outcome_for as' a false ≡ outcome_from as' (entries_named (action_name as') h) (choice_of (has_ternary h.shape.keys) (map (named (action_name as')) h.listed) keys)
miss_from as' h keys a is =
    ap (λ (b : Act). outcome_for as' b false) is.default
    ∙ ap (outcome_from as' (entries_named (action_name as') h)) (sym (miss_chosen h keys a is (action_name as')))

chosen_from : (as' : List Action) (h : Held) (keys : List Word) (a : Act) (hit : Bool) → (hit ≡ true → IsHit h keys a) → (hit ≡ false → IsMiss h keys a) → outcome_for as' a hit ≡ outcome_from as' (entries_named (action_name as') h) (choice_of (has_ternary h.shape.keys) (map (named (action_name as')) h.listed) keys)
chosen_from as' h keys a true hits misses = hit_from as' h keys a (hits refl)
chosen_from as' h keys a false hits misses = miss_from as' h keys a (misses refl)

-- what the table of a number answers is what the table of a name chooses that stands there
pub chosen_there : (p : Parts) (st : List Held) (x : List ℕ) (n : ℕ) (keys : List Word) (o : Outcome) (a : Act) (hit : Bool) → are_for p.tables (shapes st) ≡ true → n ≡ table_place p.tables x → n < length p.tables → o ≡ outcome_for p.actions a hit
    → (hit ≡ true → IsHit (held_at st n) keys a) → (hit ≡ false → IsMiss (held_at st n) keys a) → o ≡ outcome_at p (tables_in p st) x keys
chosen_there p st x n keys o a hit e at lt is hits misses =
    let f = facts p.tables (shapes st) e in
    let nm = action_name p.actions in
    let lt' : table_place p.tables x < length p.tables = omega arith in
    let s = stands nm p.tables st x f lt' in
    let h = held_at st (table_place p.tables x) in
    is ∙ chosen_from p.actions (held_at st n) keys a hit hits misses
    ∙ ap (λ (g : Held). outcome_from p.actions (entries_named nm g) (choice_of (has_ternary g.shape.keys) (map (named nm) g.listed) keys)) (ap (held_at st) at)
    ∙ ap (λ b. outcome_from p.actions (entries_named nm h) (choice_of b (map (named nm) h.listed) keys)) s.mask
    ∙ ap₂ (λ (t : Option Table) g. outcome_in p.actions t g keys) (sym s.named) (sym (held_found nm p.tables st x f lt'))

-- where no table stands, nothing is chosen
pub none_there : (p : Parts) (st : List Held) (x : List ℕ) (n : ℕ) (keys : List Word) → n ≡ table_place p.tables x → length p.tables ≤ n → outcome_in p.actions None (tables_in p st x) keys ≡ outcome_at p (tables_in p st) x keys
none_there p st x n keys at le =
    let le' : length p.tables ≤ table_place p.tables x = omega arith in
    ap (λ (t : Option Table). outcome_in p.actions t (tables_in p st x) keys) (sym (none_named p.tables x le'))

-- ---- the action of a number

pub name_there : (as' : List code_action.Action) (n : ℕ) (a : code_action.Action) → n < length as' → a ≡ get_or as' n a → action_name (map action_in as') n ≡ a.name
name_there [] n a lt e = absurd (omega arith)
name_there (b ∷ bs) zero a lt e = ap (λ (c : code_action.Action). c.name) (sym e)
name_there (b ∷ bs) (suc n) a lt e = name_there bs n a (omega arith) e

pub none_numbered : (as' : List code_action.Action) (n : ℕ) → length as' ≤ n → action_name (map action_in as') n ≡ codes "NoAction"
none_numbered [] n le = refl
none_numbered (b ∷ bs) zero le = absurd (omega arith)
none_numbered (b ∷ bs) (suc n) le = none_numbered bs n (omega arith)

-- ---- tables that fit

pub same_tables : (ts : List Table) (ss : List Shape) → fits_in ts ss ≡ true → are_for ts ss ≡ true
same_tables ts ss e = (and_parts (are_for ts ss) (nat_lt (length ts) 4294967296) e).0

pub few_tables : (ts : List Table) (ss : List Shape) → fits_in ts ss ≡ true → length ts < 4294967296
few_tables ts ss e = ltb-true (length ts) 4294967296 (and_parts (are_for ts ss) (nat_lt (length ts) 4294967296) e).1

pub fit : (ts : List Table) (ss : List Shape) → are_for ts ss ≡ true → length ts < 4294967296 → fits_in ts ss ≡ true
fit ts ss e lt = and_from (are_for ts ss) (nat_lt (length ts) 4294967296) e (lt-ltb (length ts) 4294967296 lt)

-- ---- flags

pub on_true : (b : Bool) {T : Type 0} → OnTrue b T → b ≡ true → T
on_true true h e = h
on_true false h e = absurd (false≢true e)

pub on_false : (b : Bool) {T : Type 0} → OnFalse b T → b ≡ false → T
on_false true h e = absurd (false≢true (sym e))
on_false false h e = h
