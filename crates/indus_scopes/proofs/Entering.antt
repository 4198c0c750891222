-- Into a loop: the table of the items grows name by name, and shrinks again.
use Rattle.std.proofs.Common.{◌≡◌, ℕ, suc, ◌+◌, ◌-◌, ◌<◌, ◌≤◌, Bool, true, false, not, ◌||◌, List, [], ◌∷◌, ◌++◌, map, length, Option, Some, None, is_some, slice_get, slice_index_or, String, Global, Bor, string_bytes, nat_lt, get_or, take, drop, drop-cons, sym, ap, ◌∙◌, append_assoc, length-append, arith}
use Rattle.std.proofs.Math.Seq.{take-suc}
use Rattle.std.proofs.lemmas.List.{append-nil, length-take-le, take_all, drop_all, take-append-le, take-map}
use Rattle.std.proofs.lemmas.Bool.{ltb-true, ltb-false}
use Rattle.std.proofs.lemmas.Option.{slice_get-get_or, slice_get_past}
use Rattle.std.specs.List.{list_any, remove}
use Rattle.std.specs.Option.{IfSome, option_map}
use Rattle.std.specs.Str.{bytes_eq}
use Rattle.indus_tree.specs.Tree.{Decl}
use Rattle.indus_tree.specs.State.{lookup}
use Rattle.indus_scopes.specs.NameTable.{texts}
use Rattle.indus_scopes.specs.Scopes.{Sight, builtin_of, loop_of, role_of}
use Rattle.indus_scopes.specs.Uses.{is_missing}
use Rattle.indus_scopes.specs.Items.{item_names, kind_at, kinds_in, item_kinds, among, distinct, repeats}
use Rattle.indus_scopes.specs.declared.kind.Kind.{Kind}
use Rattle.indus_scopes.specs.declared.scope.Loop as code
use Rattle.indus_scopes.proofs.Names.{insert_it, length_texts}
use Rattle.indus_scopes.proofs.ItemNames.{or_false, again, again_first, known_next, item_more, kinds_push, distinct_push, distinct_front, length_item_kinds, length_kinds_in}

-- a value read by reference is that of the list
pub one_read : {A : Type 0} (xs : List A) (i : ℕ) (o : Option (Bor A)) → is_some o ≡ nat_lt i (length xs) → IfSome o (λ x. x.now ≡ get_or xs i x.now) → option_map (λ x. x.now) o ≡ slice_get xs i
one_read xs i None is same = sym (slice_get_past xs i (ltb-false i (length xs) (sym is)))
one_read xs i (Some x) is same = sym (slice_get-get_or xs i x.now (ltb-true i (length xs) (sym is)) ∙ ap Some (sym same))

front_more : (ns : List (List ℕ)) (i : ℕ) (x : List ℕ) → i < length ns → x ≡ get_or ns i x → take (i + 1) ns ≡ take i ns ++ x ∷ []
front_more ns i x lt is =
    let more : i + 1 ≡ suc i = omega arith in
    ap (λ (m : ℕ). take m ns) more ∙ take-suc ns i x lt ∙ ap (λ (y : List ℕ). take i ns ++ y ∷ []) (sym is)

back_less : (ns : List (List ℕ)) (i : ℕ) (x : List ℕ) → i < length ns → x ≡ get_or ns i x → drop i ns ≡ x ∷ drop (i + 1) ns
back_less ns i x lt is =
    let more : i + 1 ≡ suc i = omega arith in
    drop-cons ns i x lt ∙ ap (λ (y : List ℕ). y ∷ drop (suc i) ns) (sym is) ∙ ap (λ (m : ℕ). x ∷ drop m ns) (sym more)

-- ---- names that are known, or there twice

-- what is known when some names are seen, none of which is known or there twice
pub record Seen (s : Sight) (ns : List (List ℕ)) (i : ℕ) (ks : List (String Global)) : Type 0 where
  pub names : texts ks ≡ take i ns
  pub rest : again s (take i ns) (drop i ns) ≡ repeats s ns

pub none_seen : (s : Sight) (ns : List (List ℕ)) (ks : List (String Global)) → ks ≡ [] → Seen s ns 0 ks
none_seen s ns ks none = record { names = ap texts none; rest = again_first s ns }

-- a name that is known, or there already
pub seen_again : (s : Sight) (ns : List (List ℕ)) (i : ℕ) (x : List ℕ) (ks : List (String Global)) → i < length ns → x ≡ get_or ns i x → Seen s ns i ks
    → (not (is_missing (role_of s x)) || among (texts ks) x) ≡ true → repeats s ns ≡ true
seen_again s ns i x ks lt is g known =
    let here : (not (is_missing (role_of s x)) || among (take i ns) x) ≡ true = ap (λ (ms : List (List ℕ)). not (is_missing (role_of s x)) || among ms x) (sym g.names) ∙ known in
    sym g.rest ∙ ap (again s (take i ns)) (back_less ns i x lt is) ∙ ap (λ (b : Bool). b || again s (take i ns ++ x ∷ []) (drop (i + 1) ns)) here

-- a new name is put in
pub one_seen : (s : Sight) (ns : List (List ℕ)) (i : ℕ) (x : List ℕ) (ks new : List (String Global)) (k : String Global) → i < length ns → x ≡ get_or ns i x → Seen s ns i ks
    → (not (is_missing (role_of s x)) || among (texts ks) x) ≡ false → string_bytes k ≡ x
    → new ≡ insert_it (list_any (λ y. bytes_eq (string_bytes k) (string_bytes y)) ks) ks k → Seen s ns (i + 1) new
one_seen s ns i x ks new k lt is g known same n =
    let front : take (i + 1) ns ≡ take i ns ++ x ∷ [] = front_more ns i x lt is in
    let out : among (texts ks) x ≡ false = (or_false (not (is_missing (role_of s x))) (among (texts ks) x) known).1 in
    let here : (not (is_missing (role_of s x)) || among (take i ns) x) ≡ false = ap (λ (ms : List (List ℕ)). not (is_missing (role_of s x)) || among ms x) (sym g.names) ∙ known in
    record {
      names = item_more ks new k (ap (among (texts ks)) same ∙ out) n ∙ ap (λ (y : List ℕ). texts ks ++ y ∷ []) same ∙ ap (λ (ms : List (List ℕ)). ms ++ x ∷ []) g.names ∙ sym front;
      rest =
          ap (λ (ms : List (List ℕ)). again s ms (drop (i + 1) ns)) front ∙ ap (λ (b : Bool). b || again s (take i ns ++ x ∷ []) (drop (i + 1) ns)) (sym here)
          ∙ ap (again s (take i ns)) (sym (back_less ns i x lt is)) ∙ g.rest;
    }

pub all_seen : (s : Sight) (ns : List (List ℕ)) (i : ℕ) (ks : List (String Global)) → length ns ≤ i → Seen s ns i ks → repeats s ns ≡ false
all_seen s ns i ks past g = sym g.rest ∙ ap (again s (take i ns)) (drop_all i ns past)

-- ---- into a loop

-- what is known when some items are put in
pub record Grown (s : Sight) (ns ls : List (List ℕ)) (i : ℕ) (ks : List (String Global)) (js : List Kind) : Type 0 where
  pub names : texts ks ≡ item_names s.loops ++ take i ns
  pub kinds : js ≡ item_kinds s.decls s.loops ++ kinds_in s.decls (take i ns) ls
  pub once : distinct (texts ks) ≡ true
  pub rest : again s (take i ns) (drop i ns) ≡ false

pub none_grown : (s : Sight) (ns ls : List (List ℕ)) (ks : List (String Global)) (kinds : List Kind) → texts ks ≡ item_names s.loops → kinds ≡ item_kinds s.decls s.loops → distinct (texts ks) ≡ true → repeats s ns ≡ false → Grown s ns ls 0 ks kinds
none_grown s ns ls ks kinds named kinded once new = record {
  names = named ∙ sym (append-nil (item_names s.loops));
  kinds = kinded ∙ sym (append-nil (item_kinds s.decls s.loops));
  once = once;
  rest = again_first s ns ∙ new;
}

-- the next name is new, where none of the names is known or there twice
fresh_next : (s : Sight) (ns : List (List ℕ)) (i : ℕ) (x : List ℕ) → i < length ns → x ≡ get_or ns i x → again s (take i ns) (drop i ns) ≡ false
    → ((not (is_missing (role_of s x)) || among (take i ns) x) ≡ false) × (again s (take i ns ++ x ∷ []) (drop (i + 1) ns) ≡ false)
fresh_next s ns i x lt is rest =
    or_false (not (is_missing (role_of s x)) || among (take i ns) x) (again s (take i ns ++ x ∷ []) (drop (i + 1) ns)) (sym (ap (again s (take i ns)) (back_less ns i x lt is)) ∙ rest)

-- a new name is put in
pub one_grown : (s : Sight) (ns ls : List (List ℕ)) (i : ℕ) (x : List ℕ) (ks new : List (String Global)) (k : String Global) (kinds : List Kind) → i < length ns → x ≡ get_or ns i x → Grown s ns ls i ks kinds
    → string_bytes k ≡ x → new ≡ insert_it (list_any (λ y. bytes_eq (string_bytes k) (string_bytes y)) ks) ks k
    → Grown s ns ls (i + 1) new (kinds ++ kind_at s.decls (slice_get ls i) ∷ [])
one_grown s ns ls i x ks new k kinds lt is g same n =
    let front : take (i + 1) ns ≡ take i ns ++ x ∷ [] = front_more ns i x lt is in
    let here = fresh_next s ns i x lt is g.rest in
    let known : (among (texts ks) x || (is_some (builtin_of x) || is_some (lookup s.decls x))) ≡ false = known_next s (take i ns) (texts ks) x g.names ∙ here.0 in
    let out : among (texts ks) x ≡ false = (or_false (among (texts ks) x) (is_some (builtin_of x) || is_some (lookup s.decls x)) known).0 in
    let grown : texts new ≡ texts ks ++ x ∷ [] = item_more ks new k (ap (among (texts ks)) same ∙ out) n ∙ ap (λ (y : List ℕ). texts ks ++ y ∷ []) same in
    let count : length (take i ns) ≡ i = length-take-le i ns (omega arith) in
    record {
      names = grown ∙ ap (λ (ms : List (List ℕ)). ms ++ x ∷ []) g.names ∙ append_assoc (item_names s.loops) (take i ns) (x ∷ []) ∙ ap (λ (ms : List (List ℕ)). item_names s.loops ++ ms) (sym front);
      kinds =
          ap (λ (js : List Kind). js ++ kind_at s.decls (slice_get ls i) ∷ []) g.kinds ∙ append_assoc (item_kinds s.decls s.loops) (kinds_in s.decls (take i ns) ls) (kind_at s.decls (slice_get ls i) ∷ [])
          ∙ ap (λ (m : ℕ). item_kinds s.decls s.loops ++ (kinds_in s.decls (take i ns) ls ++ kind_at s.decls (slice_get ls m) ∷ [])) (sym count)
          ∙ ap (λ (js : List Kind). item_kinds s.decls s.loops ++ js) (sym (kinds_push s.decls (take i ns) ls x) ∙ ap (λ (ms : List (List ℕ)). kinds_in s.decls ms ls) (sym front));
      once = ap distinct grown ∙ distinct_push (texts ks) x g.once out;
      rest = ap (λ (ms : List (List ℕ)). again s ms (drop (i + 1) ns)) front ∙ here.1;
    }

-- all items are put in
pub record Entered (s : Sight) (ns ls : List (List ℕ)) (ks : List (String Global)) (js : List Kind) : Type 0 where
  pub names : texts ks ≡ item_names s.loops ++ ns
  pub kinds : js ≡ item_kinds s.decls s.loops ++ kinds_in s.decls ns ls
  pub once : distinct (texts ks) ≡ true

pub all_grown : (s : Sight) (ns ls : List (List ℕ)) (i : ℕ) (ks : List (String Global)) (kinds : List Kind) → length ns ≤ i → Grown s ns ls i ks kinds → Entered s ns ls ks kinds
all_grown s ns ls i ks kinds past g =
    let front : take i ns ≡ ns = take_all i ns past in
    record {
      names = g.names ∙ ap (λ (ms : List (List ℕ)). item_names s.loops ++ ms) front;
      kinds = g.kinds ∙ ap (λ (ms : List (List ℕ)). item_kinds s.decls s.loops ++ kinds_in s.decls ms ls) front;
      once = g.once;
    }

-- ---- out of a loop

-- the tables without the innermost loop's items
pub record Left (ds : List Decl) (out : List code.Loop) (ks : List (String Global)) (kinds : List Kind) : Type 0 where
  pub listed : texts ks ≡ item_names (map loop_of out)
  pub kinded : kinds ≡ item_kinds ds (map loop_of out)
  pub once : distinct (texts ks) ≡ true

less : (a b c : ℕ) → a ≡ b + c → a - c ≡ b
less a b c e = omega (arith, e)

take_front : {A : Type 0} (xs ys zs : List A) (n : ℕ) → zs ≡ xs ++ ys → n ≡ length zs - length ys → take n zs ≡ xs
take_front xs ys zs n e is =
    let all : length zs ≡ length xs + length ys = ap length e ∙ length-append xs ys in
    let m : n ≡ length xs = is ∙ less (length zs) (length xs) (length ys) all in
    ap (take n) e ∙ take-append-le n xs ys (omega (arith, m)) ∙ take_all n xs (omega (arith, m))

none_taken : {A : Type 0} (n : ℕ) (xs : List A) → xs ≡ [] → take n xs ≡ []
none_taken n xs e = ap (take n) e ∙ take_all n [] (omega arith)

pub left_loop : (ds : List Decl) (loops out : List code.Loop) (l : code.Loop) (ks : List (String Global)) (kinds : List Kind) (n : ℕ) → l ≡ slice_index_or loops 0 l → out ≡ remove loops 0
    → texts ks ≡ item_names (map loop_of loops) → kinds ≡ item_kinds ds (map loop_of loops) → distinct (texts ks) ≡ true → n ≡ length ks - length l.names.now → Left ds out (take n ks) (take n kinds)
left_loop ds [] out l ks kinds n is o named kinded once en =
    let left : texts (take n ks) ≡ [] = sym (take-map string_bytes n ks) ∙ none_taken n (texts ks) named in
    record {
      listed = left ∙ ap (λ (ls : List code.Loop). item_names (map loop_of ls)) (sym o);
      kinded = none_taken n kinds kinded ∙ ap (λ (ls : List code.Loop). item_kinds ds (map loop_of ls)) (sym o);
      once = ap distinct left;
    }
left_loop ds (x ∷ rest) out l ks kinds n is o named kinded once en =
    let names : List (List ℕ) = item_names (map loop_of rest) in
    let same : l.names.now ≡ x.names.now = ap (λ (y : code.Loop). y.names.now) is in
    let cut : n ≡ length (texts ks) - length x.names.now = en ∙ ap (λ (j : ℕ). j - length l.names.now) (length_texts ks) ∙ ap (λ (ns : List (List ℕ)). length (texts ks) - length ns) same in
    let left : texts (take n ks) ≡ names = sym (take-map string_bytes n ks) ∙ take_front names x.names.now (texts ks) n named cut in
    let spare : length x.names.now ≡ length (kinds_in ds x.names.now x.lists.now) = length_kinds_in ds x.names.now x.lists.now in
    let all : length (texts ks) ≡ length kinds = ap length named ∙ length_item_kinds ds (map loop_of (x ∷ rest)) ∙ sym (ap length kinded) in
    let cut_kinds : n ≡ length kinds - length (kinds_in ds x.names.now x.lists.now) = cut ∙ ap (λ (j : ℕ). j - length x.names.now) all ∙ ap (λ (j : ℕ). length kinds - j) spare in
    let gone : out ≡ rest = o in
    record {
      listed = left ∙ ap (λ (ls : List code.Loop). item_names (map loop_of ls)) (sym gone);
      kinded = take_front (item_kinds ds (map loop_of rest)) (kinds_in ds x.names.now x.lists.now) kinds n kinded cut_kinds ∙ ap (λ (ls : List code.Loop). item_kinds ds (map loop_of ls)) (sym gone);
      once = ap distinct left ∙ distinct_front names x.names.now (ap distinct (sym named) ∙ once);
    }
