-- Writes into a list of paths with their values.
use Rattle.std.proofs.Common.{map, filter, append_assoc, ◌≡◌, ℕ, suc, ◌+◌, ◌<◌, length, take, drop, get_or, add-one, arith, List, [], ◌∷◌, ◌++◌, Bool, true, false, cond, Option, Some, None, refl, sym, ap, ap₂, ◌∙◌, Decides}
use Rattle.std.proofs.lemmas.Slice.Eq.{slice_eq-Decides, bytes_eq-Decides}
use Rattle.std.specs.Prelude.{slice_set}
use Rattle.std.proofs.lemmas.List.{get_or_default, take-append-drop, take-set, drop-set, drop-set-lt}
use Rattle.std.proofs.Math.Seq.{drop-cons, take-suc, take-suc-set}
use Rattle.bit_values.specs.Bits.{Word, word}
use Rattle.lex_text.specs.Names.{same_path}
use Rattle.lex_text.specs.Names.{parent}
use Rattle.p4_meaning.specs.Store.{Store, zero_of, zeroed}
use Rattle.p4_meaning.specs.Parts.{Parts}
use Rattle.p4_meaning.specs.Pass.{is_declared_path, is_declared_header, declared}
use Rattle.p4_packets.specs.Fields.{Key, look, value_in, header_in, put_in, zero_under, at_key}

pub path_decides : (p q : List (List ℕ)) → Decides (same_path p q) (p ≡ q)
path_decides p q = slice_eq-Decides bytes_eq-Decides p q (same_path p q) refl

pub twice : {A : Type 0} (b : Bool) (x y z : A) → cond b x z ≡ cond b x (cond b y z)
twice true x y z = refl
twice false x y z = refl

pub swap : {A : Type 0} (b c : Bool) (x y z : A) → (b ≡ true → c ≡ true → ⊥) → cond b x (cond c y z) ≡ cond c y (cond b x z)
swap true true x y z h = absurd (h refl refl)
swap true false x y z h = refl
swap false true x y z h = refl
swap false false x y z h = refl

-- no two different paths are a third
pub apart : (k p q : List (List ℕ)) → same_path k p ≡ false → same_path k q ≡ true → same_path p q ≡ true → ⊥
apart k p q differs a b =
    let kq = (path_decides k q).0 a in
    let pq = (path_decides p q).0 b in
    let yes = (path_decides k p).1 (kq ∙ sym pq) in
    let both : false ≡ true = sym differs ∙ yes in cc both

module _ {X : Type 0} where
  abbrev pub behind : List (Key × X) → Bool × List (Key × X) → Bool × List (Key × X)
  behind front r = (r.0, front ++ r.1)

  set_split : (es : List (Key × X)) (i : ℕ) (e : Key × X) → i < length es → slice_set es i e ≡ take i es ++ e ∷ drop (i + 1) es
  set_split es i e lt =
      sym (take-append-drop i (slice_set es i e))
      ∙ ap (λ l. l ++ drop i (slice_set es i e)) (take-set es i e)
      ∙ ap (λ l. take i es ++ l) (drop-set es i e lt)

  pub put_here : (es : List (Key × X)) (i : ℕ) (p : List (List ℕ)) (w : X) (d d' : Key × X) → i < length es → same_path (get_or es i d).0.items p ≡ true → behind (take i es) (put_in (drop i es) p w) ≡ behind [] (true, slice_set es i ((get_or es i d').0, w))
  put_here es i p w d d' lt here =
      let e : Key × X = get_or es i d in
      let rest : List (Key × X) = drop (i + 1) es in
      let open_ : drop i es ≡ e ∷ rest = drop-cons es i d lt ∙ ap (λ n. e ∷ drop n es) (sym (add-one i)) in
      ap (λ l. behind (take i es) (put_in l p w)) open_
      ∙ ap (λ b. behind (take i es) (cond b (true, (e.0, w) ∷ rest) ((put_in rest p w).0, e ∷ (put_in rest p w).1))) here
      ∙ ap (λ l. behind [] (true, l)) (sym (set_split es i (e.0, w) lt))
      ∙ ap (λ (k : Key × X). behind [] (true, slice_set es i (k.0, w))) (get_or_default es i d d' lt)

module _ {X Y : Type 0} (d : Y) (f : X → Y) where
  put_step : (e : Key × X) (es : List (Key × X)) (p : List (List ℕ)) (w : X) (q : List (List ℕ)) (b : Bool) → same_path e.0.items p ≡ b → ((put_in es p w).0 ≡ true → look d f (put_in es p w).1 q ≡ cond (same_path p q) (f w) (look d f es q)) → (let r : Bool × List (Key × X) = cond b (true, (e.0, w) ∷ es) ((put_in es p w).0, e ∷ (put_in es p w).1) in r.0 ≡ true → look d f r.1 q ≡ cond (same_path p q) (f w) (look d f (e ∷ es) q))
  put_step e es p w q true here before h =
      let k : e.0.items ≡ p = (path_decides e.0.items p).0 here in
      ap (λ n. cond (same_path n q) (f w) (look d f es q)) k
      ∙ twice (same_path p q) (f w) (f e.1) (look d f es q)
      ∙ ap (λ n. cond (same_path p q) (f w) (cond (same_path n q) (f e.1) (look d f es q))) (sym k)
  put_step e es p w q false here before h =
      ap (λ v. cond (same_path e.0.items q) (f e.1) v) (before h)
      ∙ swap (same_path e.0.items q) (same_path p q) (f e.1) (f w) (look d f es q) (apart e.0.items p q here)

  pub put_value : (es : List (Key × X)) (p : List (List ℕ)) (w : X) (q : List (List ℕ)) → (put_in es p w).0 ≡ true → look d f (put_in es p w).1 q ≡ cond (same_path p q) (f w) (look d f es q)
  put_value [] p w q h = absurd (let no_entry : false ≡ true = h in cc)
  put_value (e ∷ es) p w q h = put_step e es p w q (same_path e.0.items p) refl (put_value es p w q) h

  push_step : (e : Key × X) (es : List (Key × X)) (k : Key) (p : List (List ℕ)) (w : X) (q : List (List ℕ)) (b : Bool) → same_path e.0.items p ≡ b → ((put_in es p w).0 ≡ false → look d f (es ++ (k, w) ∷ []) q ≡ cond (same_path p q) (f w) (look d f es q)) → (let r : Bool × List (Key × X) = cond b (true, (e.0, w) ∷ es) ((put_in es p w).0, e ∷ (put_in es p w).1) in r.0 ≡ false → look d f (e ∷ (es ++ (k, w) ∷ [])) q ≡ cond (same_path p q) (f w) (look d f (e ∷ es) q))
  push_step e es k p w q true here before h = absurd (let an_entry : true ≡ false = h in cc)
  push_step e es k p w q false here before h =
      ap (λ v. cond (same_path e.0.items q) (f e.1) v) (before h)
      ∙ swap (same_path e.0.items q) (same_path p q) (f e.1) (f w) (look d f es q) (apart e.0.items p q here)

  pub push_value : (es : List (Key × X)) (k : Key) (p : List (List ℕ)) (w : X) (q : List (List ℕ)) → k.items ≡ p → (put_in es p w).0 ≡ false → look d f (es ++ (k, w) ∷ []) q ≡ cond (same_path p q) (f w) (look d f es q)
  push_value [] k p w q is h = ap (λ n. cond (same_path n q) (f w) d) is
  push_value (e ∷ es) k p w q is h = push_step e es k p w q (same_path e.0.items p) refl (push_value es k p w q is) h

  pub put_all : (es es' : List (Key × X)) (p : List (List ℕ)) (w : X) → put_in es p w ≡ behind [] (true, es') → look d f es' ≡ (λ q. cond (same_path p q) (f w) (look d f es q))
  put_all es es' p w e =
      let found : (put_in es p w).0 ≡ true = ap (λ r. let b : Bool = r.0 in b) e in
      let made : es' ≡ (put_in es p w).1 = sym (ap (λ r. let l : List (Key × X) = r.1 in l) e) in
      λ i q. (ap (λ l. look d f l q) made ∙ put_value es p w q found) i

  pub push_all : (es es' : List (Key × X)) (k : Key) (p : List (List ℕ)) (w : X) → k.items ≡ p → put_in es p w ≡ behind [] (false, es') → look d f (es ++ (k, w) ∷ []) ≡ (λ q. cond (same_path p q) (f w) (look d f es q))
  push_all es es' k p w is e =
      let none : (put_in es p w).0 ≡ false = ap (λ r. let b : Bool = r.0 in b) e in
      λ i q. push_value es k p w q is none i

abbrev pub headed_with : (List (List ℕ) → Word) → (List (List ℕ) → Option Bool) → Store
headed_with f g = record { values = f; headers = g }

abbrev pub store_with : List (Key × Bool) → (List (List ℕ) → Word) → Store
store_with vs f = record { values = f; headers = header_in vs }

same_both : {A : Type 0} (b : Bool) (x : A) → x ≡ cond b x x
same_both true x = refl
same_both false x = refl

-- one more element of a list is as f makes it
module _ {X : Type 0} (f : X → X) where
  pub step_kept : (es : List X) (i : ℕ) (d : X) → i < length es → f (get_or es i d) ≡ get_or es i d → take (i + 1) es ++ map f (drop (i + 1) es) ≡ take i es ++ map f (drop i es)
  step_kept es i d lt same =
      let n : i + 1 ≡ suc i = add-one i in
      ap (λ n. take n es ++ map f (drop n es)) n
      ∙ ap (λ l. l ++ map f (drop (suc i) es)) (take-suc es i d lt)
      ∙ append_assoc (take i es) (get_or es i d ∷ []) (map f (drop (suc i) es))
      ∙ ap (λ x. take i es ++ x ∷ map f (drop (suc i) es)) (sym same)
      ∙ ap (λ l. take i es ++ map f l) (sym (drop-cons es i d lt))

  pub step_set : (es : List X) (i : ℕ) (d e : X) → i < length es → e ≡ f (get_or es i d) → take (i + 1) (slice_set es i e) ++ map f (drop (i + 1) (slice_set es i e)) ≡ take i es ++ map f (drop i es)
  step_set es i d e lt is =
      let n : i + 1 ≡ suc i = add-one i in
      ap (λ l. take (i + 1) (slice_set es i e) ++ map f l) (drop-set-lt (i + 1) es i e (omega arith))
      ∙ ap (λ n. take n (slice_set es i e) ++ map f (drop n es)) n
      ∙ ap (λ l. l ++ map f (drop (suc i) es)) (take-suc-set es i e lt)
      ∙ append_assoc (take i es) (e ∷ []) (map f (drop (suc i) es))
      ∙ ap (λ x. take i es ++ x ∷ map f (drop (suc i) es)) is
      ∙ ap (λ l. take i es ++ map f l) (sym (drop-cons es i d lt))

zero_step : (h q : List (List ℕ)) (e : Key × Word) (old new : Word) (b : Bool) → same_path e.0.items q ≡ b → new ≡ cond (same_path h (parent q)) (zero_of old) old → cond b (cond (same_path h (parent e.0.items)) (zero_of e.1) e.1) new ≡ cond (same_path h (parent q)) (zero_of (cond b e.1 old)) (cond b e.1 old)
zero_step h q e old new true same is = ap (λ n. cond (same_path h (parent n)) (zero_of e.1) e.1) ((path_decides e.0.items q).0 same)
zero_step h q e old new false same is = is

zero_value : (h : List (List ℕ)) (es : List (Key × Word)) (q : List (List ℕ)) → value_in (map (zero_under h) es) q ≡ cond (same_path h (parent q)) (zero_of (value_in es q)) (value_in es q)
zero_value h [] q = same_both (same_path h (parent q)) (word 1 0)
zero_value h (e ∷ es) q = zero_step h q e (value_in es q) (value_in (map (zero_under h) es) q) (same_path e.0.items q) refl (zero_value h es q)

pub zero_all : (h : List (List ℕ)) (es es' : List (Key × Word)) (vs : List (Key × Bool)) → es' ≡ map (zero_under h) es → store_with vs (value_in es') ≡ zeroed (store_with vs (value_in es)) h
zero_all h es es' vs e = ap (λ l. store_with vs (value_in l)) e ∙ ap (store_with vs) (λ i q. zero_value h es q i)

-- only the entries whose paths pass a test are kept
module _ {X Y : Type 0} (d : Y) (f : X → Y) (test : List (List ℕ) → Bool) where
  kept_step : (q : List (List ℕ)) (e : Key × X) (es : List (Key × X)) (b c : Bool) → test e.0.items ≡ b → same_path e.0.items q ≡ c → look d f (filter (at_key test) es) q ≡ cond (test q) (look d f es q) d → look d f (cond b (e ∷ filter (at_key test) es) (filter (at_key test) es)) q ≡ cond (test q) (cond c (f e.1) (look d f es q)) d
  kept_step q e es true true t s h =
      let k : e.0.items ≡ q = (path_decides e.0.items q).0 s in
      ap (λ x. cond x (f e.1) (look d f (filter (at_key test) es) q)) s
      ∙ ap (λ x. cond x (f e.1) d) (sym t ∙ ap test k)
  kept_step q e es true false t s h = ap (λ x. cond x (f e.1) (look d f (filter (at_key test) es) q)) s ∙ h
  kept_step q e es false true t s h =
      let k : e.0.items ≡ q = (path_decides e.0.items q).0 s in
      let none : test q ≡ false = sym (ap test k) ∙ t in
      h ∙ ap (λ x. cond x (look d f es q) d) none ∙ sym (ap (λ x. cond x (f e.1) d) none)
  kept_step q e es false false t s h = h

  kept_value : (es : List (Key × X)) (q : List (List ℕ)) → look d f (filter (at_key test) es) q ≡ cond (test q) (look d f es q) d
  kept_value [] q = same_both (test q) d
  kept_value (e ∷ es) q = kept_step q e es (test e.0.items) (same_path e.0.items q) refl refl (kept_value es q)

pub kept_all : (p : Parts) (es es' : List (Key × Word)) (vs vs' : List (Key × Bool)) → es' ≡ filter (at_key (is_declared_path p)) es → vs' ≡ filter (at_key (is_declared_header p.headers)) vs → headed_with (value_in es') (header_in vs') ≡ declared p (headed_with (value_in es) (header_in vs))
kept_all p es es' vs vs' e h =
    ap₂ (λ l k. headed_with (value_in l) (header_in k)) e h
    ∙ ap₂ headed_with (λ i q. kept_value (word 1 0) (λ w. w) (is_declared_path p) es q i) (λ i q. kept_value None Some (is_declared_header p.headers) vs q i)
