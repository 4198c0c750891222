-- A table of names beside the list of declarations.
use Rattle.std.proofs.Common.{◌≡◌, ℕ, suc, ◌+◌, Bool, true, false, cond, List, [], ◌∷◌, ◌++◌, map, length, Option, Some, None, is_some, String, Global, string_bytes, ◌<◌, refl, sym, ap, ◌∙◌, subst, get_or, take, drop, drop-cons, arith}
use Rattle.std.proofs.Math.Seq.{take-suc}
use Rattle.std.proofs.lemmas.List.{map-append}
use Rattle.std.specs.List.{list_any, position}
use Rattle.std.specs.Option.{option_map}
use Rattle.std.specs.Str.{bytes_eq}
use Rattle.lex_text.specs.Names.{same_text}
use Rattle.indus_tree.specs.Tree.{Decl, Property}
use Rattle.indus_tree.specs.State.{lookup}
use Rattle.indus_tree.specs.View.{decl_of}
use Rattle.indus_tree.specs.declared.tree.Decl as code
use Rattle.indus_tree.specs.Hops.{variable_number_from, variable_number}
use Rattle.indus_scopes.specs.NameTable.{names_of, texts}
use Rattle.indus_scopes.specs.Scopes.{builtin_of}
use Rattle.indus_scopes.proofs.Names.{insert_it, one_more, place_in, table_place}
use Rattle.indus_rules.specs.Sites.{decl_sites}
use Rattle.indus_rules.specs.Rules.{Fine, IsWellTyped}
use Rattle.indus_rules.specs.declared.rule.Rule.TheVariants.{NameTwice}
use Rattle.indus_types.specs.NameTable.{AreNew}
use Rattle.indus_types.proofs.Checked.{each_fine}
use Rattle.indus_types.proofs.Widths.{neither}

-- ---- declarations of a well-typed property have names of their own

pub fine_new : (before ds : List Decl) → Fine (decl_sites before ds) → AreNew before ds
fine_new before [] f = tt
fine_new before (d ∷ ds) f = ((neither (is_some (lookup before d.name)) (is_some (builtin_of d.name)) (f.0.0 NameTwice)).0, fine_new (before ++ d ∷ []) ds f.1)

pub typed_new : (p : Property) → IsWellTyped p → AreNew [] p.decls
typed_new p h = fine_new [] p.decls (each_fine p h).1.0

-- ---- the table

-- a turn of the loop that fills the table
pub table_step : (ds : List code.Decl) (i : ℕ) (d : code.Decl) (ks new : List (String Global)) (k : String Global)
    → i < length ds → d ≡ get_or ds i d → texts ks ≡ names_of (map decl_of (take i ds)) → AreNew (map decl_of (take i ds)) (map decl_of (drop i ds))
    → string_bytes k ≡ d.name → new ≡ insert_it (list_any (λ x. bytes_eq (string_bytes k) (string_bytes x)) ks) ks k
    → (texts new ≡ names_of (map decl_of (take (i + 1) ds))) × AreNew (map decl_of (take (i + 1) ds)) (map decl_of (drop (i + 1) ds))
table_step ds i d ks new k lt is same fresh named n =
    let more : i + 1 ≡ suc i = omega arith in
    let rest : drop i ds ≡ d ∷ drop (i + 1) ds = drop-cons ds i d lt ∙ ap (λ (x : code.Decl). x ∷ drop (suc i) ds) (sym is) ∙ ap (λ (m : ℕ). d ∷ drop m ds) (sym more) in
    let front : map decl_of (take (i + 1) ds) ≡ map decl_of (take i ds) ++ decl_of d ∷ [] =
    ap (λ (m : ℕ). map decl_of (take m ds)) more ∙ ap (map decl_of) (take-suc ds i d lt) ∙ ap (λ (x : code.Decl). map decl_of (take i ds ++ x ∷ [])) (sym is) ∙ map-append decl_of (take i ds) (d ∷ []) in
    let next : AreNew (map decl_of (take i ds)) (decl_of d ∷ map decl_of (drop (i + 1) ds)) =
    let P : List code.Decl → Type 0 = λ xs. AreNew (map decl_of (take i ds)) (map decl_of xs) in subst P rest fresh in
    let Q : List Decl → Type 0 = λ xs. (texts new ≡ names_of xs) × AreNew xs (map decl_of (drop (i + 1) ds)) in
    subst Q (sym front) (one_more ks new k (map decl_of (take i ds)) (decl_of d) same named next.0 n, next.1)

-- ---- the place of a name

later : (n : ℕ) (o : Option ℕ) → option_map (λ i. n + 1 + i) o ≡ option_map (λ i. n + i) (option_map suc o)
later n None = refl
later n (Some i) = let e : n + 1 + i ≡ n + suc i = omega arith in ap Some e

number_step : (b : Bool) (n : ℕ) (rest o : Option ℕ) → rest ≡ option_map (λ i. n + 1 + i) o → cond b (Some n) rest ≡ option_map (λ i. n + i) (cond b (Some 0) (option_map suc o))
number_step true n rest o h = let e : n ≡ n + 0 = omega arith in ap Some e
number_step false n rest o h = h ∙ later n o

number_place : (n : ℕ) (ds : List Decl) (q : List ℕ) → variable_number_from n ds q ≡ option_map (λ i. n + i) (place_in (names_of ds) q)
number_place n [] q = refl
number_place n (d ∷ ds) q = number_step (same_text d.name q) n (variable_number_from (n + 1) ds q) (place_in (names_of ds) q) (number_place (n + 1) ds q)

none_before : (o : Option ℕ) → option_map (λ i. 0 + i) o ≡ o
none_before None = refl
none_before (Some i) = let e : 0 + i ≡ i = omega arith in ap Some e

-- where a name stands in the table is its number
pub position_number : (q : List ℕ) (ks : List (String Global)) (ds : List Decl) → texts ks ≡ names_of ds → position (λ k. bytes_eq q (string_bytes k)) ks ≡ variable_number ds q
position_number q ks ds same = table_place q ks ∙ ap (λ (ns : List (List ℕ)). place_in ns q) same ∙ sym (number_place 0 ds q ∙ none_before (place_in (names_of ds) q))
