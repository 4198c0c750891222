-- A table of names beside the list of declarations: how it grows, and that a name's place in it is that of its
-- declaration.
use Rattle.std.proofs.Common.{◌≡◌, ℕ, suc, ◌+◌, Bool, true, false, cond, not, ◌||◌, List, [], ◌∷◌, ◌++◌, map, length, Option, Some, None, is_some, get_or, slice_get, Bor, String, Global, string_bytes, nat_lt, ◌<◌, ◌≤◌, refl, sym, ap, ◌∙◌, arith}
use Rattle.std.proofs.lemmas.Bool.{lt-ltb, le-ltb, ltb-true, ltb-false}
use Rattle.std.specs.List.{list_any, position, prefix_len}
use Rattle.std.specs.Option.{IfSome, option_map}
use Rattle.std.specs.Str.{bytes_eq}
use Rattle.std.specs.Cmp.Lexicographic.{nat_list_eq_equiv}
use Rattle.lex_text.specs.Names.{same_text}
use Rattle.indus_tree.specs.Tree.{Decl}
use Rattle.indus_tree.specs.State.{lookup}
use Rattle.indus_tree.specs.View.{decl_of}
use Rattle.indus_tree.specs.declared.tree.Decl as code
use Rattle.indus_scopes.specs.NameTable.{names_of, texts}
use Rattle.std.proofs.lemmas.Option.{slice_get-map, slice_get-get_or, slice_get_past}

-- ---- the table grows

names_append : (ds es : List Decl) → names_of (ds ++ es) ≡ names_of ds ++ names_of es
names_append [] es = refl
names_append (d ∷ ds) es = ap (λ ns. d.name ∷ ns) (names_append ds es)

pub any_texts : (q : List ℕ) (ks : List (String Global)) → list_any (λ k. bytes_eq q (string_bytes k)) ks ≡ list_any (bytes_eq q) (texts ks)
any_texts q [] = refl
any_texts q (k ∷ ks) = ap (λ (b : Bool). bytes_eq q (string_bytes k) || b) (any_texts q ks)

absent_step : (b c : Bool) (d : Decl) (x : List ℕ) (o : Option Decl) → bytes_eq x d.name ≡ b → is_some (cond b (Some d) o) ≡ false → (is_some o ≡ false → c ≡ false) → (bytes_eq x d.name || c) ≡ false
absent_step true c d x o e h k = absurd (let w : true ≡ false = h in cc)
absent_step false c d x o e h k = ap (λ (b : Bool). b || c) e ∙ k h

-- a name that is not declared is none of the names
absent : (ds : List Decl) (x : List ℕ) → is_some (lookup ds x) ≡ false → list_any (bytes_eq x) (names_of ds) ≡ false
absent [] x h = refl
absent (d ∷ ds) x h = absent_step (same_text d.name x) (list_any (bytes_eq x) (names_of ds)) d x (lookup ds x) (nat_list_eq_equiv.symm x d.name) h (absent ds x)

pub texts_push : (ks : List (String Global)) (k : String Global) → texts (ks ++ k ∷ []) ≡ texts ks ++ string_bytes k ∷ []
texts_push [] k = refl
texts_push (x ∷ ks) k = ap (λ (ns : List (List ℕ)). string_bytes x ∷ ns) (texts_push ks k)

abbrev pub insert_it : Bool → List (String Global) → String Global → List (String Global)
insert_it there ks k = cond there ks (ks ++ k ∷ [])

-- the table after a new declaration
pub one_more : (ks new : List (String Global)) (k : String Global) (ds : List Decl) (d : Decl)
    → texts ks ≡ names_of ds → string_bytes k ≡ d.name → is_some (lookup ds d.name) ≡ false
    → new ≡ insert_it (list_any (λ x. bytes_eq (string_bytes k) (string_bytes x)) ks) ks k
    → texts new ≡ names_of (ds ++ d ∷ [])
one_more ks new k ds d same named fresh n =
    let out : list_any (λ x. bytes_eq (string_bytes k) (string_bytes x)) ks ≡ false =
    any_texts (string_bytes k) ks ∙ ap (list_any (bytes_eq (string_bytes k))) same ∙ ap (λ (x : List ℕ). list_any (bytes_eq x) (names_of ds)) named ∙ absent ds d.name fresh in
    ap texts (n ∙ ap (λ (b : Bool). insert_it b ks k) out) ∙ texts_push ks k ∙ ap (λ (ns : List (List ℕ)). ns ++ string_bytes k ∷ []) same ∙ ap (λ (x : List ℕ). names_of ds ++ x ∷ []) named ∙ sym (names_append ds (d ∷ []))

-- ---- the place of a name

-- the place of the first name that is the one asked for
abbrev pub place_in : List (List ℕ) → List ℕ → Option ℕ
place_in [] q = None
place_in (x ∷ xs) q = cond (same_text x q) (Some 0) (option_map suc (place_in xs q))

prefix_texts : (q : List ℕ) (ks : List (String Global)) → prefix_len (λ k. not (bytes_eq q (string_bytes k))) ks ≡ prefix_len (λ n. not (bytes_eq q n)) (texts ks)
prefix_texts q [] = refl
prefix_texts q (k ∷ ks) = ap (λ (m : ℕ). cond (not (bytes_eq q (string_bytes k))) (1 + m) 0) (prefix_texts q ks)

pub length_texts : (ks : List (String Global)) → length ks ≡ length (texts ks)
length_texts [] = refl
length_texts (k ∷ ks) = ap suc (length_texts ks)

position_texts : (q : List ℕ) (ks : List (String Global)) → position (λ k. bytes_eq q (string_bytes k)) ks ≡ position (bytes_eq q) (texts ks)
position_texts q ks = rw (prefix_texts q ks, length_texts ks) refl

abbrev within : (k len : ℕ) → Option ℕ
within k len = cond (nat_lt k len) (Some k) None

later_step : (b : Bool) (k len : ℕ) → nat_lt k len ≡ b → within (1 + k) (suc len) ≡ option_map suc (cond b (Some k) None)
later_step true k len e =
    let below : k < len = ltb-true k len e in
    let f : nat_lt (1 + k) (suc len) ≡ true = lt-ltb (1 + k) (suc len) (omega arith) in
    let s : 1 + k ≡ suc k = omega arith in
    ap (λ (b : Bool). cond b (Some (1 + k)) None) f ∙ ap Some s
later_step false k len e =
    let above : len ≤ k = ltb-false k len e in
    let f : nat_lt (1 + k) (suc len) ≡ false = le-ltb (1 + k) (suc len) (omega arith) in
    ap (λ (b : Bool). cond b (Some (1 + k)) None) f

place_step : (b : Bool) (k len : ℕ) (rest : Option ℕ) → within k len ≡ rest → within (cond (not b) (1 + k) 0) (suc len) ≡ cond b (Some 0) (option_map suc rest)
place_step true k len rest h = let e : nat_lt 0 (suc len) ≡ true = lt-ltb 0 (suc len) (omega arith) in ap (λ (b : Bool). cond b (Some 0) None) e
place_step false k len rest h = later_step (nat_lt k len) k len refl ∙ ap (option_map suc) h

position_place : (q : List ℕ) (ns : List (List ℕ)) → position (bytes_eq q) ns ≡ place_in ns q
position_place q [] = refl
position_place q (x ∷ ns) =
    let k : ℕ = prefix_len (λ n. not (bytes_eq q n)) ns in
    ap (λ (b : Bool). within (cond (not b) (1 + k) 0) (suc (length ns))) (nat_list_eq_equiv.symm q x)
    ∙ place_step (same_text x q) k (length ns) (place_in ns q) (position_place q ns)

-- where a name stands in a table
pub table_place : (q : List ℕ) (ks : List (String Global)) → position (λ k. bytes_eq q (string_bytes k)) ks ≡ place_in (texts ks) q
table_place q ks = position_texts q ks ∙ position_place q (texts ks)

-- ---- the declaration at that place

abbrev pub at_place : {A : Type 0} → List A → Option ℕ → Option A
at_place xs None = None
at_place xs (Some i) = slice_get xs i

later_place : (d : Decl) (ds : List Decl) (o : Option ℕ) → at_place (d ∷ ds) (option_map suc o) ≡ at_place ds o
later_place d ds None = refl
later_place d ds (Some i) = refl

found_step : (b : Bool) (d : Decl) (ds : List Decl) (o : Option ℕ) (rest : Option Decl) → at_place ds o ≡ rest → at_place (d ∷ ds) (cond b (Some 0) (option_map suc o)) ≡ cond b (Some d) rest
found_step true d ds o rest h = refl
found_step false d ds o rest h = later_place d ds o ∙ h

found_place : (ds : List Decl) (q : List ℕ) → at_place ds (place_in (names_of ds) q) ≡ lookup ds q
found_place [] q = refl
found_place (d ∷ ds) q = found_step (same_text d.name q) d ds (place_in (names_of ds) q) (lookup ds q) (found_place ds q)

-- the declaration at the place that a table answers is that of the name
pub found_there : (q : List ℕ) (ks : List (String Global)) (ds : List code.Decl) (o : Option ℕ) → texts ks ≡ names_of (map decl_of ds)
    → o ≡ position (λ k. bytes_eq q (string_bytes k)) ks → at_place (map decl_of ds) o ≡ lookup (map decl_of ds) q
found_there q ks ds o named is =
    ap (at_place (map decl_of ds)) (is ∙ table_place q ks ∙ ap (λ (ns : List (List ℕ)). place_in ns q) named) ∙ found_place (map decl_of ds) q

-- a reference to it is to one of the list
pub one_of : (ds : List code.Decl) (i : ℕ) (o : Option (Bor code.Decl)) → is_some o ≡ nat_lt i (length ds) → IfSome o (λ x. x.now ≡ get_or ds i x.now)
    → option_map (λ d. decl_of d.now) o ≡ slice_get (map decl_of ds) i
one_of ds i None is same =
    let past : length ds ≤ i = ltb-false i (length ds) (sym is) in
    sym (slice_get-map decl_of ds i ∙ ap (option_map decl_of) (slice_get_past ds i past))
one_of ds i (Some d) is same =
    let there : i < length ds = ltb-true i (length ds) (sym is) in
    sym (slice_get-map decl_of ds i ∙ ap (option_map decl_of) (slice_get-get_or ds i d.now there ∙ ap Some (sym same)))
