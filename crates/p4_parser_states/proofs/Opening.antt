-- A state is opened.
use Rattle.std.proofs.Common.{◌≡◌, ◌⊎◌, inl, inr, ℕ, zero, suc, ◌+◌, ◌<◌, ◌≤◌, ◌≢◌, List, [], ◌∷◌, ◌++◌, map, length, get_or, set, refl, sym, ◌∙◌, ap, subst, arith, length-append, length-set, Vec, Global}
use Rattle.std.proofs.lemmas.List.{get_or-set_same, get_or-set_other, get_or_append_left}
use Rattle.std.proofs.Math.Seq.{get_or-append_seam}
use Rattle.p4_parser_states.specs.Graphs.{In, Follows, graph_of}
use Rattle.p4_parser_states.specs.Search.{IsSound, Rises, places, mark_in, node_in, IsSearch, IsNext, unseen}
use Rattle.p4_parser_states.specs.declared.search.Mark.{Mark}
use Rattle.p4_parser_states.specs.declared.search.Mark.TheVariants.{New, Open, Done}
use Rattle.p4_parser_states.specs.declared.search.Search.{Search}
use Rattle.p4_parser_states.proofs.Core.{opened}
use Rattle.p4_parser_states.proofs.Lists.{in_front, in_behind, in_either, in_last, last_in, in_paired, paired_in, places_in, rise_more, waiting_more}

-- what follows a state, in the code and in the graph
pub row_of : (fs : List (Vec ℕ Global)) (i : ℕ) (v : Vec ℕ Global) → i < length fs → v ≡ get_or fs i v → get_or (graph_of fs) i [] ≡ v.items
row_of [] i v h e = absurd (omega (arith, h))
row_of (f ∷ fs) zero v h e = ap (λ (w : Vec ℕ Global). w.items) (sym e)
row_of (f ∷ fs) (suc i) v h e = row_of fs i v (omega (arith, h)) e

-- fewer are left that were not seen
pub unseen_set : (ms : List Mark) (x p : ℕ) → x < length ms → get_or ms x New ≡ New → unseen (set ms x (Open p)) < unseen ms
unseen_set [] x p h e = absurd (omega (arith, h))
unseen_set (New ∷ ms) zero p h e = omega arith
unseen_set (Open q ∷ ms) zero p h e = absurd (let k : Open q ≡ New = e in cc)
unseen_set (Done c ∷ ms) zero p h e = absurd (let k : Done c ≡ New = e in cc)
unseen_set (New ∷ ms) (suc x) p h e = let k : unseen (set ms x (Open p)) < unseen ms = unseen_set ms x p (omega (arith, h)) e in omega (arith, k)
unseen_set (Open q ∷ ms) (suc x) p h e = unseen_set ms x p (omega (arith, h)) e
unseen_set (Done c ∷ ms) (suc x) p h e = unseen_set ms x p (omega (arith, h)) e

pub entered : (g : List (List ℕ)) (s t : Search) (x : ℕ) → IsSearch g s → IsNext g s x
    → t.marks.items ≡ set s.marks.items x (Open (length s.stack.items))
    → t.stack.items ≡ s.stack.items ++ x ∷ []
    → t.starts.items ≡ s.starts.items ++ length s.stack.items ∷ []
    → t.waiting.items ≡ s.waiting.items ++ map (λ y. (length s.stack.items, y)) (get_or g x [])
    → IsSearch g t
entered g s t x h next marks stack starts waiting = record {
  sound = let P : ℕ → Type 0 = λ n. IsSound (Follows g) (mark_in t) (node_in t) n (λ p y. In (p, y) t.waiting.items) (λ b. In b t.starts.items) in
      subst P (sym longer)
      (opened (Follows g) (mark_in s) (mark_in t) (node_in s) (node_in t) (length s.stack.items) (λ p y. In (p, y) s.waiting.items) (λ p y. In (p, y) t.waiting.items) (λ b. In b s.starts.items) (λ b. In b t.starts.items) x h.sound
      next.fresh
      (ap (λ (ms : List Mark). get_or ms x New) marks ∙ get_or-set_same s.marks.items x (Open (length s.stack.items)) New known)
      (λ y d. ap (λ (ms : List Mark). get_or ms y New) marks ∙ get_or-set_other s.marks.items x y (Open (length s.stack.items)) New d)
      (λ p i. ap (λ (ns : List ℕ). get_or ns p 0) stack ∙ get_or_append_left s.stack.items (x ∷ []) 0 p i)
      (ap (λ (ns : List ℕ). get_or ns (length s.stack.items) 0) stack ∙ get_or-append_seam s.stack.items x [] 0)
      (λ p y i. let Q : List (ℕ × ℕ) → Type 0 = λ ws. In (p, y) ws in waits_from p y (in_either (p, y) s.waiting.items (map (λ y. (length s.stack.items, y)) (get_or g x [])) (subst Q waiting i)))
      (λ p y i. let Q : List (ℕ × ℕ) → Type 0 = λ ws. In (p, y) ws in subst Q (sym waiting) (in_front (p, y) s.waiting.items (map (λ y. (length s.stack.items, y)) (get_or g x [])) i))
      (λ y i. let Q : List (ℕ × ℕ) → Type 0 = λ ws. In ((length s.stack.items), y) ws in subst Q (sym waiting) (in_behind ((length s.stack.items), y) s.waiting.items (map (λ y. (length s.stack.items, y)) (get_or g x [])) (paired_in (length s.stack.items) y (get_or g x []) i)))
      (λ b i. let Q : List ℕ → Type 0 = λ bs. In b bs in in_last b s.starts.items (length s.stack.items) (subst Q starts i))
      (λ b i. let Q : List ℕ → Type 0 = λ bs. In b bs in subst Q (sym starts) (in_front b s.starts.items ((length s.stack.items) ∷ []) i))
      (let Q : List ℕ → Type 0 = λ bs. In (length s.stack.items) bs in subst Q (sym starts) (last_in s.starts.items (length s.stack.items)))
      next.reached);
  marked = ap (λ (ms : List Mark). length ms) marks ∙ length-set s.marks.items x (Open (length s.stack.items)) ∙ h.marked;
  waiting_rise = let Q : List (ℕ × ℕ) → Type 0 = λ ws. Rises (λ p q. p ≤ q) (places ws) in
      subst Q (sym waiting) (waiting_more s.waiting.items (length s.stack.items) (get_or g x []) h.waiting_rise (λ p i. below p (places_in p s.waiting.items i)));
  starts_rise = let Q : List ℕ → Type 0 = λ bs. Rises (λ p q. p < q) bs in subst Q (sym starts) (rise_more (λ p q. p < q) s.starts.items (length s.stack.items) h.starts_rise h.starts_open);
  starts_open = λ b i. let Q : List ℕ → Type 0 = λ bs. In b bs in start_below b (in_last b s.starts.items (length s.stack.items) (subst Q starts i));
  based = λ i. let Q : List ℕ → Type 0 = λ bs. In 0 bs in subst Q (sym starts) (first (length s.stack.items) refl);
}
  where
    known : x < length s.marks.items
    known = let k : x < length g = next.within in let l : length s.marks.items ≡ length g = h.marked in omega (arith, k, l)

    longer : length t.stack.items ≡ suc (length s.stack.items)
    longer = let e : length t.stack.items ≡ length s.stack.items + 1 = ap (λ (ns : List ℕ). length ns) stack ∙ length-append s.stack.items (x ∷ []) in omega (arith, e)

    waits_from : (p y : ℕ) → In (p, y) s.waiting.items ⊎ In {A = ℕ × ℕ} (p, y) (map (λ z. (length s.stack.items, z)) (get_or g x [])) → In (p, y) s.waiting.items ⊎ ((p ≡ length s.stack.items) × Follows g x y)
    waits_from p y (inl i) = inl i
    waits_from p y (inr i) = inr (in_paired (length s.stack.items) p y (get_or g x []) i)

    below : (p : ℕ) → ((y : ℕ) × In (p, y) s.waiting.items) → p ≤ length s.stack.items
    below p k = let l : p < length s.stack.items = (h.sound.waits p k.0 k.1).0 in omega (arith, l)

    start_below : (b : ℕ) → In b s.starts.items ⊎ (b ≡ length s.stack.items) → b < length t.stack.items
    start_below b (inl i) = let k : b < length s.stack.items = h.starts_open b i in omega (arith, k, longer)
    start_below b (inr e) = omega (arith, e, longer)

    first : (n : ℕ) → length s.stack.items ≡ n → In 0 (s.starts.items ++ length s.stack.items ∷ [])
    first zero e = let Q : ℕ → Type 0 = λ m. In 0 (s.starts.items ++ m ∷ []) in subst Q (sym e) (last_in s.starts.items 0)
    first (suc n) e = in_front 0 s.starts.items (length s.stack.items ∷ []) (h.based (omega (arith, e)))

pub length_graph : (fs : List (Vec ℕ Global)) → length (graph_of fs) ≡ length fs
length_graph [] = refl
length_graph (f ∷ fs) = ap suc (length_graph fs)

-- where no more are left that were not seen
pub unseen_less : (ms ns : List Mark) → length ns ≡ length ms → ((x : ℕ) → get_or ns x New ≡ New → get_or ms x New ≡ New) → unseen ns ≤ unseen ms
unseen_less [] [] e h = omega arith
unseen_less [] (n ∷ ns) e h = absurd (omega (arith, e))
unseen_less (m ∷ ms) [] e h = omega arith
unseen_less (New ∷ ms) (New ∷ ns) e h = let k : unseen ns ≤ unseen ms = unseen_less ms ns (omega (arith, e)) (λ x i. h (suc x) i) in omega (arith, k)
unseen_less (Open p ∷ ms) (New ∷ ns) e h = absurd (let k : Open p ≡ New = h 0 refl in cc)
unseen_less (Done c ∷ ms) (New ∷ ns) e h = absurd (let k : Done c ≡ New = h 0 refl in cc)
unseen_less (New ∷ ms) (Open q ∷ ns) e h = let k : unseen ns ≤ unseen ms = unseen_less ms ns (omega (arith, e)) (λ x i. h (suc x) i) in omega (arith, k)
unseen_less (Open p ∷ ms) (Open q ∷ ns) e h = unseen_less ms ns (omega (arith, e)) (λ x i. h (suc x) i)
unseen_less (Done c ∷ ms) (Open q ∷ ns) e h = unseen_less ms ns (omega (arith, e)) (λ x i. h (suc x) i)
unseen_less (New ∷ ms) (Done d ∷ ns) e h = let k : unseen ns ≤ unseen ms = unseen_less ms ns (omega (arith, e)) (λ x i. h (suc x) i) in omega (arith, k)
unseen_less (Open p ∷ ms) (Done d ∷ ns) e h = unseen_less ms ns (omega (arith, e)) (λ x i. h (suc x) i)
unseen_less (Done c ∷ ms) (Done d ∷ ns) e h = unseen_less ms ns (omega (arith, e)) (λ x i. h (suc x) i)

-- a state that was opened was seen
pub opened_seen : (ms : List Mark) (x p : ℕ) → x < length ms → get_or (set ms x (Open p)) x New ≢ New
opened_seen ms x p h e = let k : Open p ≡ New = sym (get_or-set_same ms x (Open p) New h) ∙ e in cc
