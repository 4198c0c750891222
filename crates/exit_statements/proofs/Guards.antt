-- What flags and guards do.
use Rattle.std.proofs.Common.{◌≡◌, ℕ, List, [], ◌∷◌, Bool, true, false, not, cond, Option, None, refl, sym, ap, ap₂, ◌∙◌, subst}
use Rattle.bit_values.specs.Bits.{Word}
use Rattle.bit_values.specs.Widths.{bit, holds, sound_width, cast_word}
use Rattle.lex_text.specs.Names.{same_path}
use Rattle.p4_tree.specs.Tree.{Stmt, next, done}
use Rattle.p4_meaning.specs.Store.{shown, set_value, written}
use Rattle.p4_meaning.specs.Statements.{Flow, Go, Return, Exit, Run, Ended, after, in_store, Calls, meaning_of_stmt, meaning_of}
use Rattle.exit_statements.specs.Without.{Body, in_action, in_control, Flags, flag_of, raised, guarded, exit_in}
use Rattle.exit_statements.specs.Free.{Hides, HidesFlags}
use Rattle.exit_statements.specs.Alike.{Alike, Stays, Tell, Ends}
use Rattle.exit_statements.proofs.Values.{path_decides, not_both, apart, Ran}

-- the flag of a body is hidden
pub flag_hidden : (n : Flags) (body : Body) (hides : Hides) → HidesFlags n hides → hides (flag_of n body ∷ []) ≡ true
flag_hidden n in_action hides f = f.returned
flag_hidden n in_control hides f = f.left

-- and stays
pub flag_stays : (n : Flags) (body : Body) (a b : Run) → Stays n a b → b.store.values (flag_of n body ∷ []) ≡ a.store.values (flag_of n body ∷ [])
flag_stays n in_action a b s = s.returned
flag_stays n in_control a b s = s.left

pub tell_stays : (n : Flags) (body : Body) (f : Flow) (a b : Run) → Stays n a b → Tell n body f a → Tell n body f b
tell_stays n body f a b s h = record { guard = flag_stays n body a b s ∙ h.guard; left = s.left ∙ h.left }

-- ---- runs that agree

-- but for something, and so but for more
pub weaker : (some more : Hides) (a b : Run) → ((q : List (List ℕ)) → more q ≡ false → some q ≡ false) → Alike some a b → Alike more a b
weaker some more a b le h = record { values = λ q o. h.values q (le q o); headers = h.headers; plain = h.plain; cells = h.cells; digests = h.digests }

pub alike_then : (hides : Hides) (a b c : Run) → Alike hides a b → Alike hides b c → Alike hides a c
alike_then hides a b c s t =
    record { values = λ q o. t.values q o ∙ s.values q o; headers = t.headers ∙ s.headers; plain = s.plain; cells = t.cells ∙ s.cells; digests = t.digests ∙ s.digests }

pub also_plain : (hides : Hides) (a b : Run) → Alike hides a b → b.store.headers [] ≡ None
also_plain hides a b h = ap (λ g. g []) h.headers ∙ h.plain

-- a flag is changed
pub flag_alike : (hides : Hides) (a b : Run) (x : List ℕ) (w : Word) → hides (x ∷ []) ≡ true → Alike hides a b → Alike hides a (in_store b (set_value b.store (x ∷ []) w))
flag_alike hides a b x w i h =
    record { values = λ q o. ap (λ t. cond t w (b.store.values q)) (apart hides (x ∷ []) q i o) ∙ h.values q o; headers = h.headers; plain = h.plain; cells = h.cells; digests = h.digests }

-- a statement that goes on in both
pub went : (n : Flags) (body : Body) (now left : Hides) (b x y : Run) → Ran n now b x y → Tell n body Go b → Ends n body now left (x, Go) (y, Go)
went n body now left b x y r t = record { alike = r.alike; goes = refl; tell = tell_stays n body Go b y r.stays t }

-- what follows nothing
pub after_done : (f : Flow) (r : Run) → after f r (λ q. (q, Go)) ≡ (r, f)
after_done Go r = refl
after_done Return r = refl
after_done Exit r = refl

-- ---- guards

module _ (d : Calls) where
  -- a guard where the flag has a value
  pub guard_is : (x : List ℕ) (s : Stmt) (v : Bool) (b : Run) → b.store.headers [] ≡ None → b.store.values (x ∷ []) ≡ bit v → meaning_of_stmt d (guarded x s) b ≡ cond v (b, Go) (meaning_of_stmt d s b)
  guard_is x s v b none f = ap (λ w. cond (holds (bit (not (holds w)))) (meaning_of_stmt d s b) (b, Go)) (ap₂ shown none f) ∙ at (meaning_of_stmt d s b) v
    where
      at : (e : Ended) (v : Bool) → cond (holds (bit (not (holds (bit v))))) e (b, Go) ≡ cond v (b, Go) e
      at e true = refl
      at e false = refl

  -- a flag is set
  pub raise_is : (x : List ℕ) (v : Bool) (b : Run) → b.store.headers [] ≡ None → b.store.values (x ∷ []) ≡ bit v → meaning_of_stmt d (raised x) b ≡ (in_store b (set_value b.store (x ∷ []) (bit true)), Go)
  raise_is x v b none f = ap₂ (λ (o : Option Bool) (w : Word). (in_store b (written o b.store (x ∷ []) (cast_word (sound_width w.width) (bit true))), Go)) none f

itself : (p : List (List ℕ)) → same_path p p ≡ true
itself p = (path_decides p p).1 refl

turned : (p q : List (List ℕ)) → same_path p q ≡ false → same_path q p ≡ false
turned p q h = go (same_path q p) refl
  where
    go : (b : Bool) → same_path q p ≡ b → b ≡ false
    go true e = not_both (same_path p q) (ap (same_path p) ((path_decides q p).0 e) ∙ itself p) h
    go false e = refl

pub set_there : (x : List ℕ) (w : Word) (b : Run) → (in_store b (set_value b.store (x ∷ []) w)).store.values (x ∷ []) ≡ w
set_there x w b = ap (λ t. cond t w (b.store.values (x ∷ []))) (itself (x ∷ []))

-- what stands in place of `return`
returned_tell : (n : Flags) (body : Body) (b : Run) → Tell n body Go b → same_path (n.returned ∷ []) (n.left ∷ []) ≡ false → Tell n body Return (in_store b (set_value b.store (flag_of n body ∷ []) (bit true)))
returned_tell n in_control b f apart = record { guard = set_there n.left (bit true) b; left = set_there n.left (bit true) b }
returned_tell n in_action b f apart = record { guard = set_there n.returned (bit true) b; left = ap (λ t. cond t (bit true) (b.store.values (n.left ∷ []))) apart ∙ f.left }

module _ (n : Flags) (two : same_path (n.returned ∷ []) (n.left ∷ []) ≡ false) (now hides : Hides) (f : HidesFlags n hides) where
  pub return_ends : (body : Body) (d : Calls) (a b : Run) → Alike hides a b → Tell n body Go b → Ends n body now hides (a, Return) (meaning_of_stmt d (raised (flag_of n body)) b)
  return_ends body d a b h t =
      let new = in_store b (set_value b.store (flag_of n body ∷ []) (bit true)) in
      let all : Ends n body now hides (a, Return) (new, Go) =
      record { alike = flag_alike hides a b (flag_of n body) (bit true) (flag_hidden n body hides f) h; goes = refl; tell = returned_tell n body b t two } in
      subst (Ends n body now hides (a, Return)) (sym (raise_is d (flag_of n body) false b (also_plain hides a b h) t.guard)) all

  -- what stands in place of `exit`
  pub exit_ends : (body : Body) (d : Calls) (a b : Run) → Alike hides a b → Tell n body Go b → Ends n body now hides (a, Exit) (meaning_of_stmt d (exit_in n body) b)
  exit_ends in_control d a b h t =
      let new = in_store b (set_value b.store (n.left ∷ []) (bit true)) in
      let all : Ends n in_control now hides (a, Exit) (new, Go) =
      record { alike = flag_alike hides a b n.left (bit true) f.left h; goes = refl; tell = record { guard = set_there n.left (bit true) b; left = set_there n.left (bit true) b } } in
      subst (Ends n in_control now hides (a, Exit)) (sym (raise_is d n.left false b (also_plain hides a b h) t.left)) all
  exit_ends in_action d a b h t =
      let plain = also_plain hides a b h in
      let one = in_store b (set_value b.store (n.left ∷ []) (bit true)) in
      let other : one.store.values (n.returned ∷ []) ≡ bit false = ap (λ u. cond u (bit true) (b.store.values (n.returned ∷ []))) (turned (n.returned ∷ []) (n.left ∷ []) two) ∙ t.guard in
      let both = in_store one (set_value one.store (n.returned ∷ []) (bit true)) in
      let first_is = ap (λ (e : Ended). after e.1 e.0 (meaning_of d (next (raised n.returned) done))) (raise_is d n.left false b plain t.left) in
      let second_is = ap (λ (e : Ended). after e.1 e.0 (meaning_of d done)) (raise_is d n.returned false one plain other) in
      let all : Ends n in_action now hides (a, Exit) (both, Go) =
      record {
        alike = flag_alike hides a one n.returned (bit true) f.returned (flag_alike hides a b n.left (bit true) f.left h);
        goes = refl;
        tell = record { guard = set_there n.returned (bit true) one; left = ap (λ u. cond u (bit true) (one.store.values (n.left ∷ []))) two ∙ set_there n.left (bit true) b };
      } in
      subst (Ends n in_action now hides (a, Exit)) (sym (first_is ∙ second_is)) all
