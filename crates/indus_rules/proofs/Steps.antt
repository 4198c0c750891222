-- Steps of the walk: the first rule at an expression is the first of its sites, and behind a declaration that breaks
-- none the walk goes on with the next, whose table has one name more.
use Rattle.std.proofs.Common.{◌≡◌, ℕ, suc, ◌+◌, ◌<◌, Bool, true, false, ◌||◌, List, [], ◌∷◌, ◌++◌, map, length, Option, Some, None, is_some, String, Global, string_bytes, get_or, take, drop, drop-cons, refl, sym, ap, ◌∙◌, inl, arith}
use Rattle.std.proofs.Math.Seq.{take-suc}
use Rattle.std.proofs.lemmas.List.{map-append}
use Rattle.std.specs.List.{list_any}
use Rattle.std.specs.Option.{option_map}
use Rattle.std.specs.Str.{bytes_eq}
use Rattle.rule_sites.specs.Sites.{or_else, at_place}
use Rattle.rule_sites.proofs.FirstBroken.{rule_none}
use Rattle.indus_tree.specs.Tree.{Expr, num, flag, read, count, index, member, negation, inversion, binary, cast, Decl}
use Rattle.indus_tree.specs.State.{lookup}
use Rattle.indus_tree.specs.View.{decl_of, expr_of, shape_of}
use Rattle.indus_tree.specs.declared.tree.Decl as code
use Rattle.indus_scopes.specs.NameTable.{names_of, texts}
use Rattle.indus_scopes.specs.Scopes.{Sight, builtin_of}
use Rattle.indus_scopes.specs.declared.kind.Kind.{Kind}
use Rattle.indus_scopes.proofs.Names.{insert_it, one_more}
use Rattle.indus_rules.specs.Sites.{Site, at_expr, at_decl, expr_sites, start_sites, decl_sites}
use Rattle.indus_rules.specs.Rules.{place_of, broken, all_rules, rule_at, first, expr_place}
use Rattle.indus_rules.specs.declared.rule.Rule.{Rule}
use Rattle.indus_rules.specs.declared.rule.Rule.TheVariants.{NameTwice}

-- ---- expressions

leaf : (p : ℕ) (o : Option Rule) (r : Rule) → o ≡ Some r → at_place p o ≡ Some (p, r)
leaf p o r h = ap (at_place p) h

node : (p : ℕ) (o : Option Rule) (r : Rule) (rest : Option (ℕ × Rule)) → o ≡ Some r → or_else (at_place p o) rest ≡ Some (p, r)
node p o r rest h = ap (λ (x : Option Rule). or_else (at_place p x) rest) h

-- the first rule at an expression is the first of its sites
pub head_rule : (s : Sight) (w : Kind) (e : Expr) (r : Rule) → rule_at (at_expr s w e) ≡ Some r → first (expr_sites s w e) ≡ Some (expr_place e, r)
head_rule s w (num p n) r h = leaf p _ r h
head_rule s w (flag p b) r h = leaf p _ r h
head_rule s w (read p x) r h = leaf p _ r h
head_rule s w (count p x) r h = leaf p _ r h
head_rule s w (index p x ks) r h = node p _ r _ h
head_rule s w (member p ks x) r h = node p _ r _ h
head_rule s w (negation p a) r h = node p _ r _ h
head_rule s w (inversion p a) r h = node p _ r _ h
head_rule s w (binary p op a b) r h = node p _ r _ h
head_rule s w (cast p v a) r h = node p _ r _ h

-- ---- declarations

or_first : (b c : Bool) → (b || c) ≡ false → b ≡ false
or_first true c h = h
or_first false c h = refl

-- a declaration that breaks no rule has a name of its own
fresh : (before : List Decl) (d : Decl) → rule_at (at_decl before d) ≡ None → is_some (lookup before d.name) ≡ false
fresh before d h = or_first (is_some (lookup before d.name)) (is_some (builtin_of d.name)) (rule_none Rule Site place_of broken all_rules (at_decl before d) NameTwice h (inl refl))

skip : (p : ℕ) (o : Option Rule) (start rest : Option (ℕ × Rule)) → o ≡ None → start ≡ None → or_else (or_else (at_place p o) start) rest ≡ rest
skip p o start rest h k = ap (λ (x : Option Rule). or_else (or_else (at_place p x) start) rest) h ∙ ap (λ (x : Option (ℕ × Rule)). or_else x rest) k

-- what is known behind some declarations: the walk goes on, and the table has their names
pub record Behind (ds : List code.Decl) (i : ℕ) (ks : List (String Global)) : Type 0 where
  pub fault : first (decl_sites (map decl_of (take i ds)) (map decl_of (drop i ds))) ≡ first (decl_sites [] (map decl_of ds))
  pub named : texts ks ≡ names_of (map decl_of (take i ds))

pub next_decl : (ds : List code.Decl) (i : ℕ) (d : code.Decl) (ks new : List (String Global)) (k : String Global) → i < length ds → d ≡ get_or ds i d → Behind ds i ks
    → rule_at (at_decl (map decl_of (take i ds)) (decl_of d)) ≡ None → first (start_sites (option_map expr_of d.start) (shape_of d.shape)) ≡ None
    → string_bytes k ≡ d.name → new ≡ insert_it (list_any (λ x. bytes_eq (string_bytes k) (string_bytes x)) ks) ks k → Behind ds (i + 1) new
next_decl ds i d ks new k lt is behind none start same n =
    let more : i + 1 ≡ suc i = omega arith in
    let rest : drop i ds ≡ d ∷ drop (i + 1) ds = drop-cons ds i d lt ∙ ap (λ (x : code.Decl). x ∷ drop (suc i) ds) (sym is) ∙ ap (λ (m : ℕ). d ∷ drop m ds) (sym more) in
    let front : map decl_of (take (i + 1) ds) ≡ map decl_of (take i ds) ++ decl_of d ∷ [] =
    ap (λ (m : ℕ). map decl_of (take m ds)) more ∙ ap (map decl_of) (take-suc ds i d lt) ∙ ap (λ (x : code.Decl). map decl_of (take i ds ++ x ∷ [])) (sym is) ∙ map-append decl_of (take i ds) (d ∷ []) in
    let before : List Decl = map decl_of (take i ds) in
    let tail : List Decl = map decl_of (drop (i + 1) ds) in
    let walk : first (decl_sites before (decl_of d ∷ tail)) ≡ first (decl_sites [] (map decl_of ds)) = ap (λ (xs : List code.Decl). first (decl_sites before (map decl_of xs))) (sym rest) ∙ behind.fault in
    let on : first (decl_sites before (decl_of d ∷ tail)) ≡ first (decl_sites (before ++ decl_of d ∷ []) tail) = skip d.at _ _ _ none start in
    record {
      fault = ap (λ (xs : List Decl). first (decl_sites xs tail)) front ∙ sym on ∙ walk;
      named = one_more ks new k before (decl_of d) behind.named same (fresh before (decl_of d) none) n ∙ ap names_of (sym front);
    }
