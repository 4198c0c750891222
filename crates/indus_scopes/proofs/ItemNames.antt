-- The table of the items around: a name's place in it is that of its item, and it grows by names that stand for
-- nothing yet.
use Rattle.std.proofs.Common.{◌≡◌, ℕ, suc, Bool, true, false, cond, not, ◌||◌, ◌&&◌, List, [], ◌∷◌, ◌++◌, length, ◌+◌, Option, Some, None, is_some, slice_get, String, Global, string_bytes, refl, sym, ap, ◌∙◌, arith, length-append}
use Rattle.std.specs.List.{list_any, position}
use Rattle.std.specs.Option.{option_map}
use Rattle.std.specs.Str.{bytes_eq}
use Rattle.std.specs.Cmp.Lexicographic.{nat_list_eq_equiv}
use Rattle.lex_text.specs.Names.{same_text}
use Rattle.rule_sites.specs.Sites.{or_else}
use Rattle.indus_tree.specs.Tree.{Decl}
use Rattle.indus_tree.specs.State.{lookup}
use Rattle.indus_scopes.specs.NameTable.{texts}
use Rattle.indus_scopes.specs.Scopes.{Around, Sight, list_item, item_in, item_of, builtin_of, role_from, role_of}
use Rattle.indus_scopes.specs.Uses.{is_missing}
use Rattle.indus_scopes.specs.Items.{item_names, kind_at, kinds_in, item_kinds, among, distinct, repeats}
use Rattle.indus_scopes.specs.declared.kind.Kind.{Kind}
use Rattle.indus_scopes.specs.declared.kind.Kind.TheVariants.{Unknown}
use Rattle.indus_scopes.proofs.Names.{place_in, at_place, table_place, any_texts, insert_it, texts_push}

-- ---- lengths

pub length_kinds_in : (ds : List Decl) (ns ls : List (List ℕ)) → length ns ≡ length (kinds_in ds ns ls)
length_kinds_in ds [] ls = refl
length_kinds_in ds (n ∷ ns) [] = ap suc (length_kinds_in ds ns [])
length_kinds_in ds (n ∷ ns) (l ∷ ls) = ap suc (length_kinds_in ds ns ls)

-- ---- a table of two parts

at_later : (k : Kind) (ks : List Kind) (o : Option ℕ) → at_place (k ∷ ks) (option_map suc o) ≡ at_place ks o
at_later k ks None = refl
at_later k ks (Some i) = refl

at_none : (o : Option ℕ) → at_place (let e : List Kind = [] in e) o ≡ None
at_none None = refl
at_none (Some i) = refl

part_step : (b : Bool) (k : Kind) (ks js : List Kind) (o p : Option ℕ) (r : Option Kind) → at_place (ks ++ js) p ≡ or_else (at_place ks o) r
    → at_place (k ∷ ks ++ js) (cond b (Some 0) (option_map suc p)) ≡ or_else (at_place (k ∷ ks) (cond b (Some 0) (option_map suc o))) r
part_step true k ks js o p r h = refl
part_step false k ks js o p r h = at_later k (ks ++ js) p ∙ h ∙ ap (λ (x : Option Kind). or_else x r) (sym (at_later k ks o))

two_parts : (xs ys : List (List ℕ)) (ks js : List Kind) (q : List ℕ) → length xs ≡ length ks
    → at_place (ks ++ js) (place_in (xs ++ ys) q) ≡ or_else (at_place ks (place_in xs q)) (at_place js (place_in ys q))
two_parts [] ys [] js q e = refl
two_parts [] ys (k ∷ ks) js q e = absurd (let n : 0 ≡ suc (length ks) = e in omega (arith, n))
two_parts (x ∷ xs) ys [] js q e = absurd (let n : suc (length xs) ≡ 0 = e in omega (arith, n))
two_parts (x ∷ xs) ys (k ∷ ks) js q e =
    let n : suc (length xs) ≡ suc (length ks) = e in
    let same : length xs ≡ length ks = omega (arith, n) in
    part_step (same_text x q) k ks js (place_in xs q) (place_in (xs ++ ys) q) (at_place js (place_in ys q)) (two_parts xs ys ks js q same)

-- ---- one loop

item_step : (b : Bool) (k : Kind) (ks : List Kind) (o : Option ℕ) (r : Option Kind) → at_place ks o ≡ r → at_place (k ∷ ks) (cond b (Some 0) (option_map suc o)) ≡ cond b (Some k) r
item_step true k ks o r h = refl
item_step false k ks o r h = at_later k ks o ∙ h

one_loop : (ds : List Decl) (ns ls : List (List ℕ)) (q : List ℕ) → at_place (kinds_in ds ns ls) (place_in ns q) ≡ item_in ds ns ls q
one_loop ds [] ls q = refl
one_loop ds (n ∷ ns) [] q = item_step (same_text n q) Unknown (kinds_in ds ns []) (place_in ns q) (item_in ds ns [] q) (one_loop ds ns [] q)
one_loop ds (n ∷ ns) (l ∷ ls) q = item_step (same_text n q) (list_item ds l) (kinds_in ds ns ls) (place_in ns q) (item_in ds ns ls q) (one_loop ds ns ls q)

-- ---- names that are there once

abbrev Apart : (xs ys : List (List ℕ)) → Type 0
Apart xs ys = (q : List ℕ) → among xs q ≡ true → among ys q ≡ false

pub or_false : (b c : Bool) → (b || c) ≡ false → (b ≡ false) × (c ≡ false)
or_false true c h = absurd (let e : true ≡ false = h in cc)
or_false false c h = (refl, h)

and_true : (b c : Bool) → (b && c) ≡ true → (b ≡ true) × (c ≡ true)
and_true true c h = (refl, h)
and_true false c h = absurd (let e : false ≡ true = h in cc)

not_true : (b : Bool) → not b ≡ true → b ≡ false
not_true true h = absurd (let e : false ≡ true = h in cc)
not_true false h = refl

or_assoc : (a b c : Bool) → ((a || b) || c) ≡ (a || (b || c))
or_assoc true b c = refl
or_assoc false b c = refl

or_swap : (a b : Bool) → (a || b) ≡ (b || a)
or_swap true true = refl
or_swap true false = refl
or_swap false true = refl
or_swap false false = refl

pub among_append : (xs ys : List (List ℕ)) (q : List ℕ) → among (xs ++ ys) q ≡ (among xs q || among ys q)
among_append [] ys q = refl
among_append (x ∷ xs) ys q = ap (λ (b : Bool). same_text x q || b) (among_append xs ys q) ∙ sym (or_assoc (same_text x q) (among xs q) (among ys q))

among_same : (ys : List (List ℕ)) (a x : List ℕ) → same_text a x ≡ true → among ys a ≡ among ys x
among_same [] a x e = refl
among_same (y ∷ ys) a x e =
    let same : same_text y a ≡ same_text y x = nat_list_eq_equiv.symm y a ∙ nat_list_eq_equiv.congr a x y e ∙ nat_list_eq_equiv.symm x y in
    ap (λ (b : Bool). b || among ys a) same ∙ ap (λ (b : Bool). same_text y x || b) (among_same ys a x e)

apart_step : (b c r : Bool) → (b || c) ≡ true → (b ≡ true → r ≡ false) → (c ≡ true → r ≡ false) → r ≡ false
apart_step true c r h f g = f refl
apart_step false c r h f g = g h

apart : (xs ys : List (List ℕ)) → distinct (xs ++ ys) ≡ true → Apart xs ys
apart [] ys d q h = absurd (let e : false ≡ true = h in cc)
apart (x ∷ xs) ys d q h =
    let s = and_true (not (among (xs ++ ys) x)) (distinct (xs ++ ys)) d in
    let parts = or_false (among xs x) (among ys x) (sym (among_append xs ys x) ∙ not_true (among (xs ++ ys) x) s.0) in
    apart_step (same_text x q) (among xs q) (among ys q) h (λ e. sym (among_same ys x q e) ∙ parts.1) (apart xs ys s.1 q)

both_true : (b c : Bool) → b ≡ false → c ≡ true → (not b && c) ≡ true
both_true b c e f = ap (λ (x : Bool). not x && c) e ∙ f

pub distinct_front : (xs ys : List (List ℕ)) → distinct (xs ++ ys) ≡ true → distinct xs ≡ true
distinct_front [] ys d = refl
distinct_front (x ∷ xs) ys d =
    let s = and_true (not (among (xs ++ ys) x)) (distinct (xs ++ ys)) d in
    let parts = or_false (among xs x) (among ys x) (sym (among_append xs ys x) ∙ not_true (among (xs ++ ys) x) s.0) in
    both_true (among xs x) (distinct xs) parts.0 (distinct_front xs ys s.1)

pub distinct_push : (xs : List (List ℕ)) (x : List ℕ) → distinct xs ≡ true → among xs x ≡ false → distinct (xs ++ x ∷ []) ≡ true
distinct_push [] x d h = refl
distinct_push (y ∷ ys) x d h =
    let s = and_true (not (among ys y)) (distinct ys) d in
    let parts = or_false (same_text y x) (among ys x) h in
    let other : same_text x y ≡ false = nat_list_eq_equiv.symm x y ∙ parts.0 in
    let out : among (ys ++ x ∷ []) y ≡ false = among_append ys (x ∷ []) y ∙ ap (λ (b : Bool). b || (same_text x y || false)) (not_true (among ys y) s.0) ∙ ap (λ (b : Bool). b || false) other in
    both_true (among (ys ++ x ∷ []) y) (distinct (ys ++ x ∷ [])) out (distinct_push ys x s.1 parts.1)

-- ---- an item's place

is_some_suc : (o : Option ℕ) → is_some (option_map suc o) ≡ is_some o
is_some_suc None = refl
is_some_suc (Some i) = refl

among_step : (b c : Bool) (o : Option ℕ) → is_some o ≡ c → is_some (cond b (Some 0) (option_map suc o)) ≡ (b || c)
among_step true c o h = refl
among_step false c o h = is_some_suc o ∙ h

place_among : (xs : List (List ℕ)) (q : List ℕ) → is_some (place_in xs q) ≡ among xs q
place_among [] q = refl
place_among (x ∷ xs) q = among_step (same_text x q) (among xs q) (place_in xs q) (place_among xs q)

at_nowhere : (ks : List Kind) (o : Option ℕ) → is_some o ≡ false → at_place ks o ≡ None
at_nowhere ks None h = refl
at_nowhere ks (Some i) h = absurd (let e : true ≡ false = h in cc)

at_somewhere : (ks : List Kind) (o : Option ℕ) → is_some (at_place ks o) ≡ true → is_some o ≡ true
at_somewhere ks None h = h
at_somewhere ks (Some i) h = refl

or_none : (o : Option Kind) → or_else o None ≡ o
or_none None = refl
or_none (Some k) = refl

swap_parts : (o p : Option Kind) → (is_some o ≡ true → p ≡ None) → or_else o p ≡ or_else p o
swap_parts None p h = sym (or_none p)
swap_parts (Some k) p h = let e : p ≡ None = h refl in ap (λ (x : Option Kind). or_else x (Some k)) (sym e)

pub length_item_kinds : (ds : List Decl) (ls : List Around) → length (item_names ls) ≡ length (item_kinds ds ls)
length_item_kinds ds [] = refl
length_item_kinds ds (l ∷ ls) = let e : length (item_names ls) ≡ length (item_kinds ds ls) = length_item_kinds ds ls in let f : length l.names ≡ length (kinds_in ds l.names l.lists) = length_kinds_in ds l.names l.lists in
    length-append (item_names ls) l.names ∙ ap (λ (n : ℕ). n + length l.names) e ∙ ap (λ (n : ℕ). length (item_kinds ds ls) + n) f ∙ sym (length-append (item_kinds ds ls) (kinds_in ds l.names l.lists))

-- where names are there once, what stands at a name's place is the innermost item of that name
item_there : (ds : List Decl) (loops : List Around) (q : List ℕ) → distinct (item_names loops) ≡ true → at_place (item_kinds ds loops) (place_in (item_names loops) q) ≡ item_of ds loops q
item_there ds [] q d = refl
item_there ds (l ∷ ls) q d =
    let here : Option Kind = item_in ds l.names l.lists q in
    let out : Option Kind = item_of ds ls q in
    let outer : at_place (item_kinds ds ls) (place_in (item_names ls) q) ≡ out = item_there ds ls q (distinct_front (item_names ls) l.names d) in
    let inner : at_place (kinds_in ds l.names l.lists) (place_in l.names q) ≡ here = one_loop ds l.names l.lists q in
    let none : is_some out ≡ true → here ≡ None =
    λ e. sym inner ∙ at_nowhere (kinds_in ds l.names l.lists) (place_in l.names q) (place_among l.names q ∙ apart (item_names ls) l.names d q (sym (place_among (item_names ls) q) ∙ at_somewhere (item_kinds ds ls) (place_in (item_names ls) q) (ap (λ (o : Option Kind). is_some o) outer ∙ e))) in
    two_parts (item_names ls) l.names (item_kinds ds ls) (kinds_in ds l.names l.lists) q (length_item_kinds ds ls)
    ∙ ap (λ (o : Option Kind). or_else o (at_place (kinds_in ds l.names l.lists) (place_in l.names q))) outer ∙ ap (λ (o : Option Kind). or_else out o) inner ∙ swap_parts out here none

-- the item at the place that the table answers
pub item_found : (ds : List Decl) (loops : List Around) (ks : List (String Global)) (kinds : List Kind) (q : List ℕ) (o : Option ℕ) → texts ks ≡ item_names loops → kinds ≡ item_kinds ds loops → distinct (texts ks) ≡ true
    → o ≡ position (λ k. bytes_eq q (string_bytes k)) ks → at_place kinds o ≡ item_of ds loops q
item_found ds loops ks kinds q o named kinded once is =
    ap (λ (x : List Kind). at_place x o) kinded ∙ ap (at_place (item_kinds ds loops)) (is ∙ table_place q ks ∙ ap (λ (ns : List (List ℕ)). place_in ns q) named)
    ∙ item_there ds loops q (ap distinct (sym named) ∙ once)

-- ---- names that are known

some_or : (o p : Option Kind) → is_some (or_else o p) ≡ (is_some o || is_some p)
some_or None p = refl
some_or (Some k) p = refl

some_item_step : (b c : Bool) (k : Kind) (o : Option Kind) → is_some o ≡ c → is_some (cond b (Some k) o) ≡ (b || c)
some_item_step true c k o h = refl
some_item_step false c k o h = h

some_in_loop : (ds : List Decl) (ns ls : List (List ℕ)) (q : List ℕ) → is_some (item_in ds ns ls q) ≡ among ns q
some_in_loop ds [] ls q = refl
some_in_loop ds (n ∷ ns) [] q = some_item_step (same_text n q) (among ns q) Unknown (item_in ds ns [] q) (some_in_loop ds ns [] q)
some_in_loop ds (n ∷ ns) (l ∷ ls) q = some_item_step (same_text n q) (among ns q) (list_item ds l) (item_in ds ns ls q) (some_in_loop ds ns ls q)

some_item : (ds : List Decl) (loops : List Around) (q : List ℕ) → is_some (item_of ds loops q) ≡ among (item_names loops) q
some_item ds [] q = refl
some_item ds (l ∷ ls) q =
    some_or (item_in ds l.names l.lists q) (item_of ds ls q) ∙ ap (λ (b : Bool). b || is_some (item_of ds ls q)) (some_in_loop ds l.names l.lists q) ∙ ap (λ (b : Bool). among l.names q || b) (some_item ds ls q)
    ∙ or_swap (among l.names q) (among (item_names ls) q) ∙ sym (among_append (item_names ls) l.names q)

known_role : (i b : Option Kind) (d : Option Decl) → not (is_missing (role_from i b d)) ≡ (is_some i || (is_some b || is_some d))
known_role (Some k) b d = refl
known_role None (Some k) d = refl
known_role None None (Some d) = refl
known_role None None None = refl

known_names : (s : Sight) (x : List ℕ) → not (is_missing (role_of s x)) ≡ (among (item_names s.loops) x || (is_some (builtin_of x) || is_some (lookup s.decls x)))
known_names s x =
    known_role (item_of s.decls s.loops x) (builtin_of x) (lookup s.decls x)
    ∙ ap (λ (b : Bool). b || (is_some (builtin_of x) || is_some (lookup s.decls x))) (some_item s.decls s.loops x)

-- ---- the table grows by a loop's items

-- a name of the rest is known, or is among those before it, which are put into the table already
abbrev pub again : Sight → (before rest : List (List ℕ)) → Bool
again s before [] = false
again s before (x ∷ xs) = (not (is_missing (role_of s x)) || among before x) || again s (before ++ x ∷ []) xs

-- some of these is among those
abbrev meet : (xs ys : List (List ℕ)) → Bool
meet xs [] = false
meet xs (y ∷ ys) = among xs y || meet xs ys

meet_push : (xs ys : List (List ℕ)) (x : List ℕ) → meet (xs ++ x ∷ []) ys ≡ (meet xs ys || among ys x)
meet_push xs [] x = refl
meet_push xs (y ∷ ys) x =
    ap (λ (b : Bool). b || meet (xs ++ x ∷ []) ys) (among_append xs (x ∷ []) y) ∙ ap (λ (b : Bool). (among xs y || (b || false)) || meet (xs ++ x ∷ []) ys) (nat_list_eq_equiv.symm x y)
    ∙ ap (λ (b : Bool). (among xs y || (same_text y x || false)) || b) (meet_push xs ys x) ∙ shuffle (among xs y) (same_text y x) (meet xs ys) (among ys x)
  where
    shuffle : (a b c d : Bool) → ((a || (b || false)) || (c || d)) ≡ ((a || c) || (b || d))
    shuffle true b c d = refl
    shuffle false true true d = refl
    shuffle false true false d = refl
    shuffle false false c d = refl

again_repeats : (s : Sight) (before rest : List (List ℕ)) → again s before rest ≡ (meet before rest || repeats s rest)
again_repeats s before [] = refl
again_repeats s before (x ∷ xs) =
    ap (λ (b : Bool). (not (is_missing (role_of s x)) || among before x) || b) (again_repeats s (before ++ x ∷ []) xs ∙ ap (λ (b : Bool). b || repeats s xs) (meet_push before xs x))
    ∙ shuffle (not (is_missing (role_of s x))) (among before x) (meet before xs) (among xs x) (repeats s xs)
  where
    shuffle : (a b c d e : Bool) → ((a || b) || ((c || d) || e)) ≡ ((b || c) || ((a || d) || e))
    shuffle true true c d e = refl
    shuffle true false true d e = refl
    shuffle true false false d e = refl
    shuffle false true c d e = refl
    shuffle false false true d e = refl
    shuffle false false false d e = refl

meet_none : (ys : List (List ℕ)) → meet [] ys ≡ false
meet_none [] = refl
meet_none (y ∷ ys) = meet_none ys

pub again_first : (s : Sight) (ns : List (List ℕ)) → again s [] ns ≡ repeats s ns
again_first s ns = again_repeats s [] ns ∙ ap (λ (b : Bool). b || repeats s ns) (meet_none ns)

-- what the code asks of the next name
pub known_next : (s : Sight) (before names : List (List ℕ)) (x : List ℕ) → names ≡ item_names s.loops ++ before
    → (among names x || (is_some (builtin_of x) || is_some (lookup s.decls x))) ≡ (not (is_missing (role_of s x)) || among before x)
known_next s before names x is =
    ap (λ (b : Bool). b || (is_some (builtin_of x) || is_some (lookup s.decls x))) (ap (λ (ns : List (List ℕ)). among ns x) is ∙ among_append (item_names s.loops) before x)
    ∙ shuffle (among (item_names s.loops) x) (among before x) (is_some (builtin_of x) || is_some (lookup s.decls x)) ∙ ap (λ (b : Bool). b || among before x) (sym (known_names s x))
  where
    shuffle : (a b c : Bool) → ((a || b) || c) ≡ ((a || c) || b)
    shuffle true b c = refl
    shuffle false true true = refl
    shuffle false true false = refl
    shuffle false false true = refl
    shuffle false false false = refl

any_among : (ns : List (List ℕ)) (q : List ℕ) → list_any (bytes_eq q) ns ≡ among ns q
any_among [] q = refl
any_among (x ∷ ns) q = ap (λ (b : Bool). b || list_any (bytes_eq q) ns) (nat_list_eq_equiv.symm q x) ∙ ap (λ (b : Bool). same_text x q || b) (any_among ns q)

pub texts_among : (ks : List (String Global)) (q : List ℕ) → list_any (λ k. bytes_eq q (string_bytes k)) ks ≡ among (texts ks) q
texts_among ks q = any_texts q ks ∙ any_among (texts ks) q

-- the table after a new item
pub item_more : (ks new : List (String Global)) (k : String Global) → among (texts ks) (string_bytes k) ≡ false → new ≡ insert_it (list_any (λ x. bytes_eq (string_bytes k) (string_bytes x)) ks) ks k
    → texts new ≡ texts ks ++ string_bytes k ∷ []
item_more ks new k out n = ap texts (n ∙ ap (λ (b : Bool). insert_it b ks k) (texts_among ks (string_bytes k) ∙ out)) ∙ texts_push ks k

-- ---- what the new items are

pub kinds_push : (ds : List Decl) (ns ls : List (List ℕ)) (x : List ℕ) → kinds_in ds (ns ++ x ∷ []) ls ≡ kinds_in ds ns ls ++ kind_at ds (slice_get ls (length ns)) ∷ []
kinds_push ds [] [] x = refl
kinds_push ds [] (l ∷ ls) x = refl
kinds_push ds (n ∷ ns) [] x = ap (λ (ks : List Kind). Unknown ∷ ks) (kinds_push ds ns [] x)
kinds_push ds (n ∷ ns) (l ∷ ls) x = ap (λ (ks : List Kind). list_item ds l ∷ ks) (kinds_push ds ns ls x)
