-- Frames: what lowered statements and the variables of the monitor's leave alone, and what an assignment does.
use Rattle.std.proofs.lemmas.Nat.{pow_pos}
use Rattle.std.proofs.Common.{◌≡◌, ℕ, List, [], ◌∷◌, map, Bool, true, false, cond, ◌&&◌, Option, Some, None, refl, sym, ap, ap₂, ◌∙◌, subst}
use Rattle.std.specs.List.{AllByRecursion}
use Rattle.bit_values.specs.Bits.{Word, word}
use Rattle.bit_values.specs.Widths.{bit, sound_width, cast_word}
use Rattle.lex_text.specs.Names.{same_text, same_path, parent}
use Rattle.p4_tree.specs.Tree.{Expr, path, valid, Stmts, var, assign, done, next}
use Rattle.p4_tree.specs.declared.statement.PTy.{PTy}
use Rattle.p4_meaning.specs.Standard.{is_assignable}
use Rattle.p4_meaning.specs.Store.{Store, shown, set_value, written, write}
use Rattle.p4_meaning.specs.Value.{value_of, width_of, is_valid}
use Rattle.p4_meaning.specs.Statements.{Go, Return, Exit, Run, Ended, after, in_store, start_of, Calls, meaning_of_stmt, meaning_of}
use Rattle.p4_meaning.proofs.Words.{sound, sound_wide, sound_narrow}
use Rattle.switch_machines.specs.Programs.{view_of}
use Rattle.own_code.specs.Regions.{is_mine}
use Rattle.own_code.specs.Forwarding.{IsOwnExpr, AreVars}
use Rattle.own_code.specs.Relations.{bare, Alike}
use Rattle.own_code.proofs.Apart.{apart}
use Rattle.own_code.proofs.Own.{value_alike}
use Rattle.monitor_laws.specs.Names.{is_lowered, is_variable, is_long}
use Rattle.monitor_laws.specs.Telemetry.{AreFor, HasWords, AreApart, zeros}
use Rattle.monitor_laws.specs.Monitor.{fields_of}
use Rattle.monitor_laws.specs.MonitorLaws.{IsView, Others}
use Rattle.monitor_laws.proofs.Paths.{free_lowered, free_variable, own_sensor}
use Rattle.monitor_laws.proofs.Fields.{fill, fill_has}

-- ---- what lowered statements leave alone

-- nothing is changed
pub others_same : (a : Run) → Others a a
others_same a = record { values = λ p o. refl; headers = refl; cells = λ x o. refl; digests = refl }

-- one change and then another
pub others_then : (a b c : Run) → Others a b → Others b c → Others a c
others_then a b c s t =
    record { values = λ p o. t.values p o ∙ s.values p o; headers = t.headers ∙ s.headers; cells = λ x o. t.cells x o ∙ s.cells x o; digests = t.digests ∙ s.digests }

-- a path is set that lowered statements may write
pub others_set : (a : Run) (p : List (List ℕ)) (w : Word) → is_lowered p ≡ true → Others a (in_store a (set_value a.store p w))
others_set a p w i =
    record { values = λ q o. ap (λ t. cond t w (a.store.values q)) (apart is_lowered p q i o); headers = refl; cells = λ x o. refl; digests = refl }

-- what changes nothing but the monitor's part keeps runs alike
pub others_alike : (a b c : Run) → Alike a b → Others b c → Alike a c
others_alike a b c h o =
    record {
      values = λ q i. o.values q (free_lowered q i) ∙ h.values q i;
      headers = λ q i. ap (λ g. g q) o.headers ∙ h.headers q i;
      cells = λ x i. o.cells x (own_sensor x i) ∙ h.cells x i;
      digests = o.digests ∙ h.digests;
    }

-- of alike runs the stores are alike
pub bare_alike : (a b : Run) → Alike a b → Alike (bare a.store) (bare b.store)
bare_alike a b h = record { values = λ q i. h.values q i; headers = λ q o. h.headers q o; cells = λ x i. refl; digests = refl }

-- ---- what header variables read

view_own : (es : List Expr) → AllByRecursion IsView es → AllByRecursion IsOwnExpr es
view_own [] h = tt
view_own (e ∷ es) h = (one e h.0, view_own es h.1)
  where
    one : (e : Expr) → IsView e → IsOwnExpr e
    one (path p names) h = h.0
    one (valid p header) h = h
    one _ h = absurd h

views_alike : (es : List Expr) (a b : Run) → Alike a b → AllByRecursion IsOwnExpr es → view_of es b.store ≡ view_of es a.store
views_alike [] a b h o = refl
views_alike (e ∷ es) a b h o = ap₂ (λ (w : Word) (ws : List Word). w ∷ ws) (value_alike a b e 0 h o.0) (views_alike es a b h o.1)

-- they read the same in alike runs
pub view_alike : (es : List Expr) (a b : Run) → Alike a b → AllByRecursion IsView es → view_of es b.store ≡ view_of es a.store
view_alike es a b h o = views_alike es a b h (view_own es o)

-- a control's own variables change no header and no path of more names than one
pub record Longs (a b : Store) : Type 0 where
  pub values : (p : List (List ℕ)) → is_long p ≡ true → b.values p ≡ a.values p
  pub headers : b.headers ≡ a.headers

pub vars_long : (calls : Calls) (ss : Stmts) (r : Run) → AreVars ss → Longs r.store (meaning_of calls ss r).0.store
vars_long calls done r h = record { values = λ p o. refl; headers = refl }
vars_long calls (next (var p ty x e) ss) r h =
    let s1 = set_value r.store (x ∷ []) (start_of ty e r.store) in
    let two = vars_long calls ss (in_store r s1) h in
    record { values = λ q o. two.values q o ∙ ap (λ b. cond b (start_of ty e r.store) (r.store.values q)) (single_long x q o); headers = two.headers }
  where
    single_long : (x : List ℕ) (q : List (List ℕ)) → is_long q ≡ true → same_path (x ∷ []) q ≡ false
    single_long x [] o = refl
    single_long x (y ∷ []) o = absurd (cc)
    single_long x (y ∷ z ∷ rest) o = go (same_text x y)
      where
        go : (b : Bool) → (b && false) ≡ false
        go true = refl
        go false = refl
vars_long calls _ r h = absurd h

-- so header variables read the same behind them
pub view_long : (es : List Expr) (a b : Store) → Longs a b → AllByRecursion IsView es → view_of es b ≡ view_of es a
view_long [] a b h o = refl
view_long (e ∷ es) a b h o = ap₂ (λ (w : Word) (ws : List Word). w ∷ ws) (one e o.0) (view_long es a b h o.1)
  where
    one : (e : Expr) → IsView e → value_of e 0 b ≡ value_of e 0 a
    one (path p names) h' = ap₂ shown (ap (λ g. g (parent names)) h.headers) (h.values names h'.1)
    one (valid p header) h' = ap (λ g. bit (is_valid (g header))) h.headers
    one _ h' = absurd h'

-- ---- statements in order, and assignments

-- nothing follows the last statement
pub last_ended : (calls : Calls) (e : Ended) → after e.1 e.0 (meaning_of calls done) ≡ e
last_ended calls (r, Go) = refl
last_ended calls (r, Return) = refl
last_ended calls (r, Exit) = refl

-- a place that a write reaches
abbrev pub IsOpen : Option Bool → Type 0
IsOpen None = Unit {0}
IsOpen (Some true) = Unit {0}
IsOpen (Some false) = ⊥

-- the header's state is known
pub open_by : (o o' : Option Bool) → o ≡ o' → IsOpen o' → IsOpen o
open_by o o' e h = subst IsOpen (sym e) h

-- it has the word then
pub written_open : (o : Option Bool) (s : Store) (p : List (List ℕ)) (w : Word) → IsOpen o → written o s p w ≡ set_value s p w
written_open None s p w h = refl
written_open (Some true) s p w h = refl
written_open (Some false) s p w h = absurd h

-- what an assignment does, where the place's old word and the value are known
pub assignment : (calls : Calls) (b : Run) (q : ℕ) (p : List (List ℕ)) (e : Expr) (u w : Word) → is_assignable p ≡ true → IsOpen (b.store.headers (parent p)) → b.store.values p ≡ u → value_of e u.width b.store ≡ w → meaning_of_stmt calls (assign q p e) b ≡ (in_store b (set_value b.store p (cast_word (sound_width u.width) w)), Go)
assignment calls b q p e u w a o h k =
    ap (λ t. (in_store b (cond t (write b.store p (cast_word (sound_width (b.store.values p).width) (value_of e (b.store.values p).width b.store))) b.store), Go)) a
    ∙ ap (λ s. (in_store b s, Go)) (written_open (b.store.headers (parent p)) b.store p _ o)
    ∙ ap (λ (v : Word). (in_store b (set_value b.store p (cast_word (sound_width v.width) (value_of e v.width b.store))), Go)) h
    ∙ ap (λ v. (in_store b (set_value b.store p (cast_word (sound_width u.width) v)), Go)) k

-- ---- variables of a control

-- the store in which they are 0
abbrev pub var_words : List (PTy × List ℕ) → List Word
var_words ls = map (λ l. word (sound_width (width_of l.0)) 0) ls

abbrev pub zeroed_vars : List (PTy × List ℕ) → Store → Store
zeroed_vars ls s = fill [] (fields_of ls) (var_words ls) s

-- they are the monitor's, and all else stays
pub vars_other : (ls : List (PTy × List ℕ)) (s : Store) (q : List (List ℕ)) → AllByRecursion (λ f. is_mine f.name ≡ true) (fields_of ls) → is_variable q ≡ false → (zeroed_vars ls s).values q ≡ s.values q
vars_other [] s q o i = refl
vars_other (l ∷ ls) s q o i =
    vars_other ls (set_value s (l.1 ∷ []) (word (sound_width (width_of l.0)) 0)) q o.1 i
    ∙ ap (λ b. cond b (word (sound_width (width_of l.0)) 0) (s.values q)) (apart is_variable (l.1 ∷ []) q o.0 i)

pub vars_headers : (ls : List (PTy × List ℕ)) (s : Store) → (zeroed_vars ls s).headers ≡ s.headers
vars_headers [] s = refl
vars_headers (l ∷ ls) s = vars_headers ls (set_value s (l.1 ∷ []) (word (sound_width (width_of l.0)) 0))

pub vars_alike : (ls : List (PTy × List ℕ)) (a b : Run) → AllByRecursion (λ f. is_mine f.name ≡ true) (fields_of ls) → Alike a b → Alike a (in_store b (zeroed_vars ls b.store))
vars_alike ls a b o h =
    record {
      values = λ q i. vars_other ls b.store q o (free_variable q i) ∙ h.values q i;
      headers = λ q i. ap (λ g. g q) (vars_headers ls b.store) ∙ h.headers q i;
      cells = λ x i. h.cells x i;
      digests = h.digests;
    }

vars_words : (ls : List (PTy × List ℕ)) → var_words ls ≡ zeros (fields_of ls)
vars_words [] = refl
vars_words (l ∷ ls) =
    let w = width_of l.0 in
    ap₂ (λ n (ws : List Word). word n 0 ∷ ws) (sym (sound (sound_width w) (sound_wide w) (sound_narrow w))) (vars_words ls)

vars_for : (ls : List (PTy × List ℕ)) → AreFor (fields_of ls) (var_words ls)
vars_for [] = tt
vars_for (l ∷ ls) = (refl, pow_pos (sound_width (width_of l.0)), vars_for ls)

-- they are 0, where their names differ
pub vars_fresh : (ls : List (PTy × List ℕ)) (s : Store) → AreApart (fields_of ls) → HasWords [] (fields_of ls) (zeros (fields_of ls)) (zeroed_vars ls s)
vars_fresh ls s a = subst (λ ws. HasWords [] (fields_of ls) ws (zeroed_vars ls s)) (vars_words ls) (fill_has [] (fields_of ls) (var_words ls) s a (vars_for ls))
