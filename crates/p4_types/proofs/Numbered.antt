-- What tables hold where names go behind those before. First lists of names, then groups, then numberings.
use Rattle.std.proofs.Common.{◌≡◌, ℕ, suc, ◌+◌, ◌<◌, ◌≤◌, min, nat_eq, Bool, true, false, ◌&&◌, cond, List, [], ◌∷◌, ◌++◌, map, take, length, get_or, Option, Some, None, is_some, String, Global, string_bytes, append_assoc, length-append, refl, sym, ap, ap₂, ◌∙◌, arith}
use Rattle.std.specs.Option.{option_or}
use Rattle.std.specs.Str.{bytes_eq}
use Rattle.std.specs.Str.Pattern.{FindsTextPrefix, StripsPrefix}
use Rattle.std.proofs.lemmas.Bool.Decides.{Decides-eqb}
use Rattle.std.proofs.lemmas.List.{map-append}
use Rattle.std.proofs.Math.Seq.{take-suc}
use Rattle.std.proofs.lemmas.Slice.Eq.{bytes_eq-Decides}
use Rattle.lex_text.specs.Names.{same_text}
use Rattle.p4_tree.specs.Tree.{Local, Top}
use Rattle.p4_tree.specs.View.{local_of, top_of}
use Rattle.p4_tree.specs.declared.program.Local as code_local
use Rattle.p4_tree.specs.declared.program.Top as code_top
use Rattle.p4_types.specs.Numbers.{Sort, dotted, number_from, number_in, local_name, all_dotted, locals_names, top_names, tops_names}
pub use Rattle.p4_resolved.proofs.Rows.{flip, same_keys}
use Rattle.p4_types.specs.Kept.{at_name, behind, at_rest, number_in_group, fronted, Gains, IsGroup, lesser, least, IsNumbering}
use Rattle.p4_types.specs.declared.numbers.Group.{Group}
use Rattle.p4_types.specs.declared.numbers.Numbering.{Numbering}

number_both : (n : ℕ) (xs ys : List (List ℕ)) (x : List ℕ) → number_from n (xs ++ ys) x ≡ option_or (number_from n xs x) (number_from (n + length xs) ys x)
number_both n [] ys x = let e : n ≡ n + 0 = omega arith in ap (λ (m : ℕ). number_from m ys x) e
number_both n (z ∷ zs) ys x = step (same_text z x) (number_both (suc n) zs ys x)
  where
    next : suc n + length zs ≡ n + suc (length zs)
    next = omega arith

    step : (b : Bool) → number_from (suc n) (zs ++ ys) x ≡ option_or (number_from (suc n) zs x) (number_from (suc n + length zs) ys x)
        → cond b (Some n) (number_from (suc n) (zs ++ ys) x) ≡ option_or (cond b (Some n) (number_from (suc n) zs x)) (number_from (n + suc (length zs)) ys x)
    step true h = refl
    step false h = h ∙ ap (λ (m : ℕ). option_or (number_from (suc n) zs x) (number_from m ys x)) next

entry_more : (es : List (String Global × ℕ)) (k : String Global) (v : ℕ) (x : List ℕ) → at_name (es ++ (k, v) ∷ []) x ≡ option_or (at_name es x) (cond (bytes_eq x (string_bytes k)) (Some v) None)
entry_more [] k v x = refl
entry_more (e ∷ es) k v x = step (bytes_eq x (string_bytes e.0)) (entry_more es k v x)
  where
    step : (b : Bool) → at_name (es ++ (k, v) ∷ []) x ≡ option_or (at_name es x) (cond (bytes_eq x (string_bytes k)) (Some v) None)
        → cond b (Some e.1) (at_name (es ++ (k, v) ∷ []) x) ≡ option_or (cond b (Some e.1) (at_name es x)) (cond (bytes_eq x (string_bytes k)) (Some v) None)
    step true h = refl
    step false h = h

pub no_one : (o : Option ℕ) → is_some o ≡ false → o ≡ None
no_one None h = refl
no_one (Some n) h = absurd (let c : true ≡ false = h in cc)

-- ---- what stands behind a front

abbrev same_rest : List ℕ → Option (List ℕ) → Bool
same_rest y None = false
same_rest y (Some rest) = same_text y rest

-- a text that begins with a front is this one where both go on alike
same_behind : (f y x : List ℕ) → same_text (f ++ y) x ≡ same_rest y (behind f x)
same_behind [] y x = refl
same_behind (b ∷ f) y [] = refl
same_behind (b ∷ f) y (z ∷ x) = step (nat_eq b z) (same_behind f y x)
  where
    step : (t : Bool) → same_text (f ++ y) x ≡ same_rest y (behind f x) → (t && same_text (f ++ y) x) ≡ same_rest y (cond t (behind f x) None)
    step true h = h
    step false h = refl

behind_front : (f rest : List ℕ) → behind f (f ++ rest) ≡ Some rest
behind_front [] rest = refl
behind_front (b ∷ f) rest = ap (λ t. cond t (behind f (f ++ rest)) None) ((Decides-eqb b b).1 refl) ∙ behind_front f rest

begins : (f x rest : List ℕ) → behind f x ≡ Some rest → x ≡ f ++ rest
begins [] x rest h = cc
begins (b ∷ f) [] rest h = absurd (let c : None ≡ Some rest = h in cc)
begins (b ∷ f) (z ∷ x) rest h = step (nat_eq b z) refl h (begins f x rest)
  where
    step : (t : Bool) → nat_eq b z ≡ t → cond t (behind f x) None ≡ Some rest → (behind f x ≡ Some rest → x ≡ f ++ rest) → z ∷ x ≡ b ∷ (f ++ rest)
    step true e g ih = ap₂ (λ (c : ℕ) (cs : List ℕ). c ∷ cs) (sym ((Decides-eqb b z).0 e)) (ih g)
    step false e g ih = absurd (let c : None ≡ Some rest = g in cc)

-- a text that does not begin with a front, and what is left of one that does
pub not_stripped : (f x : List ℕ) → FindsTextPrefix f x None → behind f x ≡ None
not_stripped f x h = by (behind f x) refl
  where
    by : (o : Option (List ℕ)) → behind f x ≡ o → behind f x ≡ None
    by None e = e
    by (Some rest) e = absurd (h rest (begins f x rest e))

pub stripped : (f x rest : List ℕ) → StripsPrefix (FindsTextPrefix f) x rest → behind f x ≡ Some rest
stripped f x rest h = ap (behind f) (h.1.1 ∙ ap (λ (t : List ℕ). f ++ t) (sym h.2)) ∙ behind_front f rest

-- ---- groups

-- a table that has one entry more, seen behind a front
gained : (f y : List ℕ) (es fs : List (String Global × ℕ)) (n : ℕ) → ((r : List ℕ) → at_name fs r ≡ option_or (at_name es r) (cond (same_text y r) (Some n) None))
    → (x : List ℕ) → at_rest fs (behind f x) ≡ option_or (at_rest es (behind f x)) (number_from n (fronted f (y ∷ [])) x)
gained f y es fs n h x = by (behind f x) (same_behind f y x)
  where
    by : (o : Option (List ℕ)) → same_text (f ++ y) x ≡ same_rest y o → at_rest fs o ≡ option_or (at_rest es o) (cond (same_text (f ++ y) x) (Some n) None)
    by None e = ap (λ (b : Bool). cond b (Some n) None) (sym e)
    by (Some r) e = h r ∙ ap (λ (b : Bool). option_or (at_name es r) (cond b (Some n) None)) (sym e)

module _ (g h : Group) (y : List ℕ) (front : h.front ≡ g.front) (next : h.next ≡ g.next + 1) where
  gains : ((r : List ℕ) → at_name h.numbers.entries r ≡ option_or (at_name g.numbers.entries r) (cond (same_text y r) (Some g.next) None)) → Gains g h (y ∷ [])
  gains more = record {
    front = front;
    next = next;
    found = λ x. ap (λ (f : String Global). at_rest h.numbers.entries (behind (string_bytes f) x)) front
        ∙ gained (string_bytes g.front) y g.numbers.entries h.numbers.entries g.next more x;
  }

  -- a name that is not there yet
  pub gains_new : (k : String Global) → string_bytes k ≡ y → h.numbers.entries ≡ g.numbers.entries ++ (k, g.next) ∷ [] → Gains g h (y ∷ [])
  gains_new k named entries = gains (λ r.
      ap (λ es. at_name es r) entries
      ∙ entry_more g.numbers.entries k g.next r
      ∙ ap (λ (z : List ℕ). option_or (at_name g.numbers.entries r) (cond (bytes_eq r z) (Some g.next) None)) named
      ∙ ap (λ (b : Bool). option_or (at_name g.numbers.entries r) (cond b (Some g.next) None)) (flip r y))

  -- a name that is there
  pub gains_again : is_some (at_name g.numbers.entries y) ≡ true → h.numbers.entries ≡ g.numbers.entries → Gains g h (y ∷ [])
  gains_again there entries = gains (λ r. ap (λ es. at_name es r) entries ∙ kept r (at_name g.numbers.entries r) refl (same_text y r) refl)
    where
      kept : (r : List ℕ) (o : Option ℕ) → at_name g.numbers.entries r ≡ o → (b : Bool) → same_text y r ≡ b → at_name g.numbers.entries r ≡ option_or (at_name g.numbers.entries r) (cond (same_text y r) (Some g.next) None)
      kept r (Some n) e b f = e ∙ sym (ap (λ (o : Option ℕ). option_or o (cond (same_text y r) (Some g.next) None)) e)
      kept r None e false f = e ∙ sym (ap₂ (λ (o : Option ℕ) (b : Bool). option_or o (cond b (Some g.next) None)) e f)
      kept r None e true f =
          let same : y ≡ r = (bytes_eq-Decides y r).0 f in
          absurd (let c : false ≡ true = sym (ap (λ (o : Option ℕ). is_some o) e) ∙ ap (λ z. is_some (at_name g.numbers.entries z)) (sym same) ∙ there in cc)

pub gains_none : (g : Group) → Gains g g []
gains_none g = record {
  front = refl;
  next = omega arith;
  found = λ x. by (number_in_group g x);
}
  where
    by : (o : Option ℕ) → o ≡ option_or o None
    by None = refl
    by (Some n) = refl

fronted_dotted : (c : List ℕ) (xs : List (List ℕ)) → fronted (dotted c []) xs ≡ all_dotted c xs
fronted_dotted c [] = refl
fronted_dotted c (x ∷ xs) = ap₂ (λ (y : List ℕ) (ys : List (List ℕ)). y ∷ ys) (append_assoc c (46 ∷ []) x) (fronted_dotted c xs)

length_dotted : (c : List ℕ) (xs : List (List ℕ)) → length (all_dotted c xs) ≡ length xs
length_dotted c [] = refl
length_dotted c (x ∷ xs) = ap suc (length_dotted c xs)

pub group_more : (g h : Group) (c : List ℕ) (start : ℕ) (all more : List (List ℕ)) → IsGroup g c start all → Gains g h more → IsGroup h c start (all ++ all_dotted c more)
group_more g h c start all more so gain = record {
  front = ap (λ (f : String Global). string_bytes f) gain.front ∙ so.front;
  next = let e = length-append all (all_dotted c more) in let d = length_dotted c more in let a = gain.next in let b = so.next in omega arith;
  found = λ x. gain.found x
      ∙ ap₂ (λ (o : Option ℕ) (n : ℕ). option_or o (number_from n (fronted (string_bytes g.front) more) x)) (so.found x) so.next
      ∙ ap (λ (f : List ℕ). option_or (number_from start all x) (number_from (start + length all) (fronted f more) x)) so.front
      ∙ ap (λ (names : List (List ℕ)). option_or (number_from start all x) (number_from (start + length all) names x)) (fronted_dotted c more)
      ∙ sym (number_both start all (all_dotted c more) x);
}

-- ---- the least of several numbers

below : (n : ℕ) (xs : List (List ℕ)) (x : List ℕ) (m : ℕ) → number_from n xs x ≡ Some m → m < n + length xs
below n [] x m h = absurd (let c : None ≡ Some m = h in cc)
below n (z ∷ zs) x m h = step (same_text z x) h (below (suc n) zs x m)
  where
    step : (b : Bool) → cond b (Some n) (number_from (suc n) zs x) ≡ Some m → (number_from (suc n) zs x ≡ Some m → m < suc n + length zs) → m < n + suc (length zs)
    step true e ih = let f : n ≡ m = cc in omega arith
    step false e ih = let f : m < suc n + length zs = ih e in omega arith

above : (n : ℕ) (xs : List (List ℕ)) (x : List ℕ) (m : ℕ) → number_from n xs x ≡ Some m → n ≤ m
above n [] x m h = absurd (let c : None ≡ Some m = h in cc)
above n (z ∷ zs) x m h = step (same_text z x) h (above (suc n) zs x m)
  where
    step : (b : Bool) → cond b (Some n) (number_from (suc n) zs x) ≡ Some m → (number_from (suc n) zs x ≡ Some m → suc n ≤ m) → n ≤ m
    step true e ih = let f : n ≡ m = cc in omega arith
    step false e ih = let f : suc n ≤ m = ih e in omega arith

-- of two lists, one behind the other, the number in the first is the lesser
lesser_behind : (n : ℕ) (xs ys : List (List ℕ)) (x : List ℕ) → lesser (number_from n xs x) (number_from (n + length xs) ys x) ≡ option_or (number_from n xs x) (number_from (n + length xs) ys x)
lesser_behind n xs ys x = by (number_from n xs x) refl (number_from (n + length xs) ys x) refl
  where
    by : (o : Option ℕ) → number_from n xs x ≡ o → (p : Option ℕ) → number_from (n + length xs) ys x ≡ p → lesser o p ≡ option_or o p
    by None e p f = refl
    by (Some m) e None f = refl
    by (Some m) e (Some k) f =
        let low : m < n + length xs = below n xs x m e in
        let high : n + length xs ≤ k = above (n + length xs) ys x k f in
        let least : min m k ≡ m = omega arith in
        ap (λ (i : ℕ). Some i) least

lesser_swap : (o p q : Option ℕ) → lesser (lesser o p) q ≡ lesser (lesser o q) p
lesser_swap None None None = refl
lesser_swap None None (Some k) = refl
lesser_swap None (Some n) None = refl
lesser_swap None (Some n) (Some k) = let e : min n k ≡ min k n = omega arith in ap (λ (i : ℕ). Some i) e
lesser_swap (Some m) None None = refl
lesser_swap (Some m) None (Some k) = refl
lesser_swap (Some m) (Some n) None = refl
lesser_swap (Some m) (Some n) (Some k) = let e : min (min m n) k ≡ min (min m k) n = omega arith in ap (λ (i : ℕ). Some i) e

least_lesser : (o p : Option ℕ) (gs : List Group) (x : List ℕ) → least (lesser o p) gs x ≡ lesser (least o gs x) p
least_lesser o p [] x = refl
least_lesser o p (g ∷ gs) x = ap (λ (q : Option ℕ). least q gs x) (lesser_swap o p (number_in_group g x)) ∙ least_lesser (lesser o (number_in_group g x)) p gs x

least_push : (o : Option ℕ) (gs : List Group) (g : Group) (x : List ℕ) → least o (gs ++ g ∷ []) x ≡ lesser (least o gs x) (number_in_group g x)
least_push o [] g x = refl
least_push o (h ∷ gs) g x = least_push (lesser o (number_in_group h x)) gs g x

least_there : (m : ℕ) (gs : List Group) (x : List ℕ) → is_some (least (Some m) gs x) ≡ true
least_there m [] x = refl
least_there m (g ∷ gs) x = step (number_in_group g x) (λ i. least_there i gs x)
  where
    step : (o : Option ℕ) → ((i : ℕ) → is_some (least (Some i) gs x) ≡ true) → is_some (least (lesser (Some m) o) gs x) ≡ true
    step None ih = ih m
    step (Some n) ih = ih (min m n)

-- ---- numberings

zero_more : (n : ℕ) → n ≡ 0 + n
zero_more n = omega arith

module _ (old new : Numbering) (all : List (List ℕ)) (so : IsNumbering old all) where
  -- a name at top level
  pub plain_more : (y : List ℕ) → Gains old.plain new.plain (y ∷ []) → new.controls ≡ old.controls → IsNumbering new (all ++ y ∷ [])
  plain_more y gain controls = record {
    plain = ap (λ (f : String Global). string_bytes f) gain.front ∙ so.plain;
    count = let e = length-append all (y ∷ []) in let a = gain.next in let b = so.count in omega arith;
    found = λ x. ap₂ (λ (o : Option ℕ) (gs : List Group). least o gs x) (gain.found x) (ap (λ v. v.items) controls)
        ∙ ap₂ (λ (f : List ℕ) (n : ℕ). least (option_or (number_in_group old.plain x) (number_from n (fronted f (y ∷ [])) x)) old.controls.items x) so.plain (so.count ∙ zero_more (length all))
        ∙ step x (number_in_group old.plain x) (so.found x)
        ∙ sym (number_both 0 all (y ∷ []) x);
  }
    where
      there : (o p : Option ℕ) → is_some o ≡ true → o ≡ option_or o p
      there None p h = absurd (let c : false ≡ true = h in cc)
      there (Some n) p h = refl

      step : (x : List ℕ) (o : Option ℕ) → least o old.controls.items x ≡ number_in all x
          → least (option_or o (number_from (0 + length all) (y ∷ []) x)) old.controls.items x ≡ option_or (number_in all x) (number_from (0 + length all) (y ∷ []) x)
      step x None e =
          least_lesser None (number_from (0 + length all) (y ∷ []) x) old.controls.items x
          ∙ ap (λ (o : Option ℕ). lesser o (number_from (0 + length all) (y ∷ []) x)) e
          ∙ lesser_behind 0 all (y ∷ []) x
      step x (Some m) e = e ∙ there (number_in all x) _ (ap (λ (o : Option ℕ). is_some o) (sym e) ∙ least_there m old.controls.items x)

  -- the names of a control
  pub control_more : (g : Group) (c : List ℕ) (more : List (List ℕ)) → IsGroup g c old.plain.next more
      → new.plain.front ≡ old.plain.front → new.plain.numbers ≡ old.plain.numbers → new.plain.next ≡ g.next
      → new.controls.items ≡ old.controls.items ++ g ∷ [] → IsNumbering new (all ++ more)
  control_more g c more group front numbers next controls = record {
    plain = ap (λ (f : String Global). string_bytes f) front ∙ so.plain;
    count = let e = length-append all more in let a = group.next in let b = so.count in omega arith;
    found = λ x. ap₂ (λ (f : String Global) (es : List (String Global × ℕ)). least (at_rest es (behind (string_bytes f) x)) new.controls.items x) front (ap (λ t. t.entries) numbers)
        ∙ ap (λ (gs : List Group). least (number_in_group old.plain x) gs x) controls
        ∙ least_push (number_in_group old.plain x) old.controls.items g x
        ∙ ap₂ lesser (so.found x) (group.found x ∙ ap (λ (n : ℕ). number_from n more x) (so.count ∙ zero_more (length all)))
        ∙ lesser_behind 0 all more x
        ∙ sym (number_both 0 all more x);
  }

-- ---- lists of names

pub map_more : {A B : Type 0} (f : A → B) (xs : List A) (i : ℕ) (x : A) → i < length xs → x ≡ get_or xs i x → map f (take (i + 1) xs) ≡ map f (take i xs) ++ f x ∷ []
map_more f xs i x h e =
    let more : i + 1 ≡ suc i = omega arith in
    ap (λ (n : ℕ). map f (take n xs)) more ∙ ap (map f) (take-suc xs i x h ∙ ap (λ y. take i xs ++ y ∷ []) (sym e)) ∙ map-append f (take i xs) (x ∷ [])

none_behind : (xs : List (List ℕ)) → xs ++ [] ≡ xs
none_behind [] = refl
none_behind (x ∷ xs) = ap (λ ys. x ∷ ys) (none_behind xs)

locals_push : (sort : Sort) (c : List ℕ) (ls : List Local) (l : Local) → locals_names sort c (ls ++ l ∷ []) ≡ locals_names sort c ls ++ all_dotted c (local_name sort l)
locals_push sort c [] l = none_behind (all_dotted c (local_name sort l))
locals_push sort c (k ∷ ls) l =
    ap (λ xs. all_dotted c (local_name sort k) ++ xs) (locals_push sort c ls l)
    ∙ sym (append_assoc (all_dotted c (local_name sort k)) (locals_names sort c ls) (all_dotted c (local_name sort l)))

tops_push : (sort : Sort) (ts : List Top) (t : Top) → tops_names sort (ts ++ t ∷ []) ≡ tops_names sort ts ++ top_names sort t
tops_push sort [] t = none_behind (top_names sort t)
tops_push sort (u ∷ ts) t =
    ap (λ xs. top_names sort u ++ xs) (tops_push sort ts t)
    ∙ sym (append_assoc (top_names sort u) (tops_names sort ts) (top_names sort t))

pub locals_next : (sort : Sort) (c : List ℕ) (ls : List code_local.Local) (i : ℕ) (l : code_local.Local) → i < length ls → l ≡ get_or ls i l
    → locals_names sort c (map local_of (take i ls)) ++ all_dotted c (local_name sort (local_of l)) ≡ locals_names sort c (map local_of (take (i + 1) ls))
locals_next sort c ls i l lt is = sym (ap (locals_names sort c) (map_more local_of ls i l lt is) ∙ locals_push sort c (map local_of (take i ls)) (local_of l))

pub tops_next : (sort : Sort) (ts : List code_top.Top) (i : ℕ) (t : code_top.Top) → i < length ts → t ≡ get_or ts i t
    → tops_names sort (map top_of (take i ts)) ++ top_names sort (top_of t) ≡ tops_names sort (map top_of (take (i + 1) ts))
tops_next sort ts i t lt is = sym (ap (tops_names sort) (map_more top_of ts i t lt is) ∙ tops_push sort (map top_of (take i ts)) (top_of t))
