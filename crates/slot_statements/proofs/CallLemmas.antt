-- An action on arguments: its parameters have the next slots.
use Rattle.std.proofs.Common.{◌≡◌, ◌≢◌, ◌⊎◌, ⊎_elim, ℕ, ◌<◌, length, take, map, List, [], ◌∷◌, ◌++◌, Bool, true, Some, refl, sym, ap, ◌∙◌, subst, arith}
use Rattle.std.proofs.lemmas.Grind.{common_steps}
use Rattle.std.specs.Prelude.{slice_set}
use Rattle.std.proofs.lemmas.List.{get_or-set_other}
use Rattle.bit_values.specs.Bits.{word, IsWord}
use Rattle.bit_values.specs.Widths.{sound_width, cast_word}
use Rattle.p4_tree.specs.Tree.{Expr}
use Rattle.p4_meaning.specs.Store.{Store, set_value}
use Rattle.p4_meaning.specs.Value.{value_of}
use Rattle.p4_meaning.specs.Actions.{Param, args_of, bound}
use Rattle.slot_terms.specs.Terms.{Term, term_of, eval}
use Rattle.slot_terms.specs.declared.term.Term as code_term
use Rattle.slot_terms.specs.Typed.{Typed, Gives}
use Rattle.slot_terms.specs.Places.{Place, Places, place_at, ShowsPlace, Shows, Follows, IsLaid, Fills}
use Rattle.slot_terms.specs.States.{State}
use Rattle.slot_statements.specs.Codes.{put}
use Rattle.slot_statements.specs.Runs.{Grows}
use Rattle.slot_statements.specs.Starts.{IsNew}
use Rattle.slot_statements.specs.Parameters.{with_row, with_params, slots_from, FillAll}
use Rattle.slot_statements.specs.Known.{are_free}
use Rattle.slot_statements.proofs.KnownLemmas.{IsFree, AreFree, free_names}
use Rattle.slot_statements.specs.Actions.{bind}
use Rattle.slot_statements.proofs.VarLemmas.{new_laid, var_grown}
use Rattle.slot_statements.proofs.FlowLemmas.{grows_twice}

pub row_new : (m : Places) (x : List ℕ) (w : ℕ) → IsFree m x → IsNew m (with_row m x w) x w m.next
row_new m x w free = record { room = free.room; unknown = free.unknown; at = refl; rows = refl; headers = refl; next = refl; size = refl }

pub row_grows : (m : Places) (x : List ℕ) (w : ℕ) → Grows m (with_row m x w)
row_grows m x w = record { rows = take_front m.rows _; headers = refl; size = refl }
  where
    take_front : (xs ys : List Place) → take (length xs) (xs ++ ys) ≡ xs
    take_front xs ys = grind (arith, common_steps)

pub params_grow : (m : Places) (ps : List Param) → Grows m (with_params m ps)
params_grow m [] = record { rows = grind (arith, common_steps); headers = refl; size = refl }
params_grow m (p ∷ ps) = grows_twice m (with_row m p.name (sound_width p.width)) (with_params m (p ∷ ps)) (row_grows m p.name (sound_width p.width)) (params_grow (with_row m p.name (sound_width p.width)) ps)

laid_behind : (m : Places) (ps : List Param) → IsLaid m → AreFree m ps → IsLaid (with_params m ps)
laid_behind m [] laid free = laid
laid_behind m (p ∷ ps) laid free =
    laid_behind (with_row m p.name (sound_width p.width)) ps (new_laid m (with_row m p.name (sound_width p.width)) p.name (sound_width p.width) m.next laid (row_new m p.name (sound_width p.width) free.0)) free.1

pub params_laid : (m : Places) (ps : List Param) → IsLaid m → are_free m ps ≡ true → IsLaid (with_params m ps)
params_laid m ps laid free = laid_behind m ps laid (free_names m ps free)

-- places below a slot
pub record AreBelow (m : Places) (i : ℕ) : Type 0 where
  pub below : (p : List (List ℕ)) (r : Place) → place_at m.rows p ≡ Some r → r.slot < i

-- what they show is not changed by a write to it
shows_still : (m : Places) (i : ℕ) (slots : List ℕ) (valid : List Bool) (s : Store) (v : ℕ) → AreBelow m i → Shows m slots valid s → Shows m (slice_set slots i v) valid s
shows_still m i slots valid s v below shows = record {
  values = λ p r e.
      let apart : r.slot ≢ i = λ h. omega (arith, below.below p r e, h) in
      let old : ShowsPlace slots valid r s p = shows.values p r e in
      record { is = old.is ∙ ap (word r.width) (sym (get_or-set_other slots i r.slot v 0 apart)); word = old.word; above = old.above };
  headers = shows.headers;
}

-- base: what is in sight at the call; store: before it
pub bind_follows :
    (base m : Places) (ps : List Param) (es : List Expr) (ts : List Term) (s : State) (store now : Store) → IsLaid m → AreBelow base m.next → AreFree m ps → FillAll base ps es ts
    → Shows base s.slots s.valid store → Follows m s.slots s.valid now
    → Follows (with_params m ps) (bind (slots_from m.next ps) ts s).slots (bind (slots_from m.next ps) ts s).valid (bound ps (args_of ps es store) now)
bind_follows base m [] [] [] s store now laid below free fills shows follows = follows
bind_follows base m [] [] (t ∷ ts) s store now laid below free fills shows follows = absurd fills
bind_follows base m [] (e ∷ es) ts s store now laid below free fills shows follows = absurd fills
bind_follows base m (p ∷ ps) [] ts s store now laid below free fills shows follows = absurd fills
bind_follows base m (p ∷ ps) (e ∷ es) [] s store now laid below free fills shows follows = absurd fills
bind_follows base m (p ∷ ps) (e ∷ es) (t ∷ ts) s store now laid below free fills shows follows =
    let w : ℕ = sound_width p.width in
    let n : Places = with_row m p.name w in
    let new : IsNew m n p.name w m.next = row_new m p.name w free.0 in
    let v : ℕ = eval s.slots s.valid t in
    let gives : Gives (record { term = t; width = w }) s.slots s.valid (cast_word w (value_of e p.width store)) = fills.0 s.slots s.valid store shows in
    let word_is : IsWord (word w v) = subst IsWord gives.is gives.word in
    let grown : Follows n (slice_set s.slots m.next v) s.valid (set_value now (p.name ∷ []) (cast_word w (value_of e p.width store))) =
    subst (λ z. Follows n (slice_set s.slots m.next v) s.valid (set_value now (p.name ∷ []) z)) (sym gives.is)
    (var_grown m n p.name w m.next laid new s.slots s.valid now v follows word_is) in
    bind_follows base n ps es ts (put s m.next v) store (set_value now (p.name ∷ []) (cast_word w (value_of e p.width store)))
    (new_laid m n p.name w m.next laid new)
    (record { below = λ q r h. let lt : r.slot < m.next = below.below q r h in omega (arith, lt) })
    free.1 fills.1
    (shows_still base m.next s.slots s.valid store v below shows)
    grown

-- where no slot or no argument is left, nothing more is bound
pub bind_none : (is : List ℕ) (ts : List code_term.Term) (s : State) → (is ≡ []) ⊎ (ts ≡ []) → bind is (map term_of ts) s ≡ s
bind_none [] ts s h = refl
bind_none (i ∷ is) [] s h = refl
bind_none (i ∷ is) (t ∷ ts) s h = absurd (⊎_elim (λ e. cc e) (λ e. cc e) h)

-- one argument more
pub fill_more : (m : Places) (ps : List Param) (es : List Expr) (ts : List Term) (p : Param) (e : Expr) (t : Term) → FillAll m ps es ts → Fills m e p.width (record { term = t; width = sound_width p.width })
    → FillAll m (ps ++ p ∷ []) (es ++ e ∷ []) (ts ++ t ∷ [])
fill_more m [] [] [] p e t all one = (one, tt)
fill_more m [] [] (u ∷ ts) p e t all one = absurd all
fill_more m [] (f ∷ es) ts p e t all one = absurd all
fill_more m (q ∷ ps) [] ts p e t all one = absurd all
fill_more m (q ∷ ps) (f ∷ es) [] p e t all one = absurd all
fill_more m (q ∷ ps) (f ∷ es) (u ∷ ts) p e t all one = (all.0, fill_more m ps es ts p e t all.1 one)

-- a typed expression of the width of its place
pub fills_typed : (m : Places) (e : Expr) (w : ℕ) (t : Typed) → t.width ≡ sound_width w → Fills m e w t → Fills m e w (record { term = t.term; width = sound_width w })
fills_typed m e w t same fills = subst (λ k. Fills m e w (record { term = t.term; width = k })) same fills

-- places that grew, cut back
pub cut_to : (m n k : Places) (count : ℕ) → count ≡ length m.rows → Grows m n → k ≡ record n { rows = take count n.rows; next = m.next } → k ≡ m
cut_to m n k count is grows e =
    e
    ∙ ap (λ (rows : List Place). (let q : Places = record { rows = rows; headers = n.headers; next = m.next; size = n.size } in q)) (ap (λ i. take i n.rows) is ∙ grows.rows)
    ∙ ap (λ hs. (let q : Places = record { rows = m.rows; headers = hs; next = m.next; size = n.size } in q)) grows.headers
    ∙ ap (λ i. (let q : Places = record { rows = m.rows; headers = m.headers; next = m.next; size = i } in q)) grows.size
