-- Actions without exits do what the given actions do.
use Rattle.std.proofs.Common.{◌≡◌, ℕ, List, [], ◌∷◌, Bool, true, false, not, cond, refl, sym, ap, ◌∙◌, subst}
use Rattle.std.specs.List.{AllByRecursion}
use Rattle.bit_values.specs.Bits.{Word, word}
use Rattle.bit_values.specs.Widths.{bit, sound_width, cast_word}
use Rattle.lex_text.specs.Names.{same_text, same_path}
use Rattle.p4_tree.specs.Tree.{next}
use Rattle.p4_meaning.specs.Store.{set_value}
use Rattle.p4_meaning.specs.Statements.{Flow, Go, Return, Exit, Run, Ended, in_store, no_calls, meaning_of}
use Rattle.p4_meaning.specs.Actions.{Param, Action, bound, flow_behind, act}
use Rattle.exit_statements.specs.Without.{Body, in_action, in_control, Flags, no_exits, stmts_leave, stmts_without}
use Rattle.exit_statements.specs.Free.{Hides, HidesFlags, is_flag, shows, AreFreeStmts}
use Rattle.exit_statements.specs.Alike.{Alike, Stays, has_left, left_by, Tell, hidden_by, Ends, Agrees}
use Rattle.exit_statements.specs.Laws.{Keeps}
use Rattle.exit_statements.specs.Actions.{lowered, action_without, all_but, shows_params, IsFreeAction}
use Rattle.exit_statements.proofs.Values.{ran_same, stays_same, stays_then}
use Rattle.exit_statements.proofs.Guards.{flag_alike, set_there, weaker, went}
use Rattle.exit_statements.proofs.Runs.{or_left, or_right, others, shown_less, shown_flags, list_ends, stmts_stay}
use Rattle.exit_statements.proofs.Left.{stmts_same}
use Rattle.exit_statements.proofs.Agreed.{turned}
use Rattle.exit_statements.proofs.Weaker.{Fits, fits_params, free_stmts}

-- anything may be hidden
abbrev Whatever : Hides → Type 0
Whatever hides = Unit {0}

-- in an action nothing is called
pub nothing_called : (n : Flags) (body : Body) → Agrees n body Whatever no_exits no_calls no_calls
nothing_called n body =
    record {
      call = λ hides f k x es a b o h g. went n body hides hides b a b (ran_same n hides a b h) g;
      apply = λ hides f k t a b h g. record { ends = went n body hides hides b a b (ran_same n hides a b h) g; hit = refl };
      call_stays = λ x es r h. refl;
      apply_stays = λ t r h. refl;
    }

-- ---- parameters

-- the same word is put at a variable, which is shown
pub set_shows : (hides : Hides) (x : List ℕ) (w : Word) (a b : Run) → Alike hides a b → Alike (shows hides x) (in_store a (set_value a.store (x ∷ []) w)) (in_store b (set_value b.store (x ∷ []) w))
set_shows hides x w a b h =
    record { values = λ q u. one q (same_path (x ∷ []) q) u; headers = h.headers; plain = h.plain; cells = h.cells; digests = h.digests }
  where
    one : (q : List (List ℕ)) (t : Bool) → cond t false (hides q) ≡ false → cond t w (b.store.values q) ≡ cond t w (a.store.values q)
    one q true u = refl
    one q false u = h.values q u

pub set_keeps : (n : Flags) (x : List ℕ) (w : Word) (b : Run) → is_flag n x ≡ false → Stays n b (in_store b (set_value b.store (x ∷ []) w))
set_keeps n x w b other =
    record {
      left = ap (λ t. cond t w (b.store.values (n.left ∷ []))) (others n.left x (or_left (same_text n.left x) _ other));
      returned = ap (λ t. cond t w (b.store.values (n.returned ∷ []))) (others n.returned x (or_right (same_text n.left x) _ other));
    }

-- runs that agree, but for what is hidden behind parameters that are shown
pub record Binds (n : Flags) (hides : Hides) (b x y : Run) : Type 0 where
  pub alike : Alike hides x y
  pub stays : Stays n b y
  pub flags : HidesFlags n hides

module _ (n : Flags) where
  pub binds : (ps : List Param) (ws : List Word) (hides : Hides) (a b : Run) → AllByRecursion (λ p. is_flag n p.name ≡ false) ps → HidesFlags n hides → Alike hides a b → Binds n (shows_params hides ps) b (in_store a (bound ps ws a.store)) (in_store b (bound ps ws b.store))
  binds [] ws hides a b o f h = record { alike = h; stays = stays_same n b; flags = f }
  binds (p ∷ ps) [] hides a b o f h =
      let w = word (sound_width p.width) 0 in
      let x = in_store a (set_value a.store (p.name ∷ []) w) in
      let y = in_store b (set_value b.store (p.name ∷ []) w) in
      let r = binds ps [] (shows hides p.name) x y o.1 (shown_flags n hides p.name o.0 f) (set_shows hides p.name w a b h) in
      record { alike = r.alike; stays = stays_then n b y _ (set_keeps n p.name w b o.0) r.stays; flags = r.flags }
  binds (p ∷ ps) (v ∷ ws) hides a b o f h =
      let w = cast_word (sound_width p.width) v in
      let x = in_store a (set_value a.store (p.name ∷ []) w) in
      let y = in_store b (set_value b.store (p.name ∷ []) w) in
      let r = binds ps ws (shows hides p.name) x y o.1 (shown_flags n hides p.name o.0 f) (set_shows hides p.name w a b h) in
      record { alike = r.alike; stays = stays_then n b y _ (set_keeps n p.name w b o.0) r.stays; flags = r.flags }

params_less : (ps : List Param) (hides : Hides) (q : List (List ℕ)) → hides q ≡ false → shows_params hides ps q ≡ false
params_less [] hides q o = o
params_less (p ∷ ps) hides q o = params_less ps (shows hides p.name) q (shown_less hides p.name q o)

-- ---- behind an action

left_behind : (f : Flow) → bit (left_by in_action f) ≡ bit (has_left (flow_behind f))
left_behind Go = refl
left_behind Return = refl
left_behind Exit = refl

all_hidden : (hides : Hides) (f : Flow) (q : List (List ℕ)) → hides q ≡ false → hidden_by hides hides f q ≡ false
all_hidden hides Go q o = o
all_hidden hides Return q o = o
all_hidden hides Exit q o = o

other_hidden : (hides : Hides) (f : Flow) (q : List (List ℕ)) → hidden_by hides hides f q ≡ false → hides q ≡ false
other_hidden hides Go q o = o
other_hidden hides Return q o = o
other_hidden hides Exit q o = o

-- where all variables are hidden but these, and less is hidden
pub fits_all : (n : Flags) (own seen : List ℕ → Bool) (hides : Hides) → HidesFlags n hides → Keeps own seen hides → Fits own (all_but seen) hides
fits_all n own seen hides f k = record { shown = shown; hidden = λ x o u. k.own_hidden x o }
  where
    it_is : (b : Bool) → not b ≡ false → b ≡ true
    it_is true e = refl
    it_is false e = absurd (cc e)

    shown : (q : List (List ℕ)) → all_but seen q ≡ false → hides q ≡ false
    shown [] u = f.empty
    shown (x ∷ []) u = k.seen_shown x (it_is (seen x) u)
    shown (x ∷ y ∷ rest) u = f.long x y rest

-- how an action ended, as its caller sees it
abbrev ended : Ended → Ended
ended e = (e.0, flow_behind e.1)

-- a body that may leave ended so, with a flag of its own
from_action : (n : Flags) (r : List ℕ) (inner hides : Hides) (x y : Ended) → ((q : List (List ℕ)) → hides q ≡ false → inner q ≡ false) → Ends (record { left = n.left; returned = r }) in_action inner inner x y → Ends n in_control hides hides (ended x) (ended y)
from_action n r inner hides x y less e =
    record {
      alike = weaker (hidden_by inner inner x.1) (hidden_by hides hides (flow_behind x.1)) x.0 y.0 (λ q u. all_hidden inner x.1 q (less q (other_hidden hides (flow_behind x.1) q u))) e.alike;
      goes = ap flow_behind e.goes;
      tell = record { guard = e.tell.left ∙ left_behind x.1; left = e.tell.left ∙ left_behind x.1 };
    }

-- a body that cannot leave went on
from_body : (n : Flags) (r : List ℕ) (inner hides : Hides) (x y : Ended) → ((q : List (List ℕ)) → hides q ≡ false → inner q ≡ false) → x.1 ≡ Go → Ends (record { left = n.left; returned = r }) in_control inner inner x y → Ends n in_control hides hides (ended x) (ended y)
from_body n r inner hides x y less go e =
    record {
      alike = weaker (hidden_by inner inner x.1) (hidden_by hides hides (flow_behind x.1)) x.0 y.0 (λ q u. all_hidden inner x.1 q (less q (other_hidden hides (flow_behind x.1) q u))) e.alike;
      goes = ap flow_behind e.goes;
      tell = record { guard = e.tell.left ∙ same; left = e.tell.left ∙ same };
    }
  where
    same : bit (has_left x.1) ≡ bit (has_left (flow_behind x.1))
    same = ap (λ f. bit (has_left f)) go ∙ sym (ap (λ f. bit (has_left (flow_behind f))) go)

module _ (n : Flags) (returned : List ℕ → List ℕ) (own seen : List ℕ → Bool) (a : Action) (free : IsFreeAction n.left returned own seen a) (hides : Hides) (f : HidesFlags n hides) (k : Keeps own seen hides) where
  abbrev na : Flags
  na = record { left = n.left; returned = returned a.name }

  abbrev inner : Hides
  inner = shows_params hides a.params

  flags : HidesFlags na hides
  flags = record { left = f.left; returned = k.own_hidden (returned a.name) free.flag_own; long = f.long; empty = f.empty }

  two : same_path (returned a.name ∷ []) (n.left ∷ []) ≡ false
  two = others n.left (returned a.name) (turned na free.two)

  body_free : AreFreeStmts na own inner a.body
  body_free = free_stmts own na a.body (shows_params (all_but seen) a.params) inner (fits_params own a.params (all_but seen) hides (fits_all n own seen hides f k)) free.body

  -- a body with a flag of its own, which is declared before it
  leaving : (x y : Run) → Binds na inner y x y → y.store.values (n.left ∷ []) ≡ bit false → Ends n in_control hides hides (ended (meaning_of no_calls a.body x)) (ended (meaning_of no_calls (next (lowered (returned a.name)) (stmts_without na no_exits in_action false a.body)) y))
  leaving x y starts low =
      let y1 = in_store y (set_value y.store (returned a.name ∷ []) (bit false)) in
      let alike : Alike inner x y1 = flag_alike inner x y (returned a.name) (bit false) starts.flags.returned starts.alike in
      let left : y1.store.values (n.left ∷ []) ≡ bit false = ap (λ t. cond t (bit false) (y.store.values (n.left ∷ []))) two ∙ low in
      let tell : Tell na in_action Go y1 = record { guard = set_there (returned a.name) (bit false) y; left = left } in
      from_action n (returned a.name) inner hides _ _ (λ q u. params_less a.params hides q u)
      (list_ends na in_action Whatever own no_exits no_calls no_calls (nothing_called na in_action) two (λ hs z o w. tt) a.body false inner x y1 starts.flags tt body_free alike tell)

  -- a body that cannot leave
  staying : (x y : Run) → stmts_leave no_exits a.body ≡ false → Alike inner x y → HidesFlags na inner → y.store.values (n.left ∷ []) ≡ bit false → Ends n in_control hides hides (ended (meaning_of no_calls a.body x)) (ended (meaning_of no_calls a.body y))
  staying x y stays alike fs low =
      let tell : Tell na in_control Go y = record { guard = low; left = low } in
      let all = list_ends na in_control Whatever own no_exits no_calls no_calls (nothing_called na in_control) two (λ hs z o w. tt) a.body false inner x y fs tt body_free alike tell in
      let same : Ends na in_control inner inner (meaning_of no_calls a.body x) (meaning_of no_calls a.body y) = subst (λ ss. Ends na in_control inner inner (meaning_of no_calls a.body x) (meaning_of no_calls ss y)) (stmts_same na no_exits in_control a.body stays) all in
      from_body n (returned a.name) inner hides _ _ (λ q u. params_less a.params hides q u) (stmts_stay na in_control Whatever own no_exits no_calls no_calls (nothing_called na in_control) a.body x stays) same

  pub action_ends : (ws : List Word) (x y : Run) → Alike hides x y → Tell n in_control Go y → Ends n in_control hides hides (act a ws x) (act (action_without n.left returned a) ws y)
  action_ends ws x y h g = go (stmts_leave no_exits a.body) refl
    where
      starts : Binds na inner y (in_store x (bound a.params ws x.store)) (in_store y (bound a.params ws y.store))
      starts = binds na a.params ws hides x y free.params flags h

      low : (in_store y (bound a.params ws y.store)).store.values (n.left ∷ []) ≡ bit false
      low = starts.stays.left ∙ g.left

      again : Binds na inner (in_store y (bound a.params ws y.store)) (in_store x (bound a.params ws x.store)) (in_store y (bound a.params ws y.store))
      again = record { alike = starts.alike; stays = stays_same na _; flags = starts.flags }

      go : (b : Bool) → stmts_leave no_exits a.body ≡ b → Ends n in_control hides hides (act a ws x) (act (action_without n.left returned a) ws y)
      go true e =
          subst (λ ss. Ends n in_control hides hides (act a ws x) (ended (meaning_of no_calls ss (in_store y (bound a.params ws y.store)))))
          (sym (ap (λ b. cond b (next (lowered (returned a.name)) (stmts_without na no_exits in_action false a.body)) a.body) e))
          (leaving (in_store x (bound a.params ws x.store)) (in_store y (bound a.params ws y.store)) again low)
      go false e =
          subst (λ ss. Ends n in_control hides hides (act a ws x) (ended (meaning_of no_calls ss (in_store y (bound a.params ws y.store)))))
          (sym (ap (λ b. cond b (next (lowered (returned a.name)) (stmts_without na no_exits in_action false a.body)) a.body) e))
          (staying (in_store x (bound a.params ws x.store)) (in_store y (bound a.params ws y.store)) e starts.alike starts.flags low)
