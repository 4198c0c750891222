-- What is emitted is told from what was emitted before by a table of paths.
use Rattle.std.proofs.Common.{◌≡◌, ℕ, ◌+◌, ◌<◌, Bool, true, false, cond, not, ◌&&◌, ◌||◌, nat_eq, List, [], ◌∷◌, ◌++◌, map, length, drop, get_or, Option, Vec, Global, Bor, refl, sym, ap, ◌∙◌, arith}
use Rattle.std.specs.Str.{bytes_eq}
use Rattle.std.specs.Cmp.Lexicographic.{pointwise}
use Rattle.std.proofs.lemmas.Bool.Decides.{nat_tests}
use Rattle.std.proofs.lemmas.Slice.Eq.{slice_eq-Decides, bytes_eq-Decides}
use Rattle.std.specs.List.{list_any}
use Rattle.rule_tests.specs.Tests.{Tests, test, both}
use Rattle.lex_text.specs.Names.{same_text, same_path}
use Rattle.p4_tree.specs.Tree.{Stmts, done, next}
use Rattle.p4_tree.specs.View.{stmt_of, stmts_of}
use Rattle.p4_tree.specs.declared.statement.Stmt as code
use Rattle.p4_scopes.specs.Scopes.{Scope}
use Rattle.p4_statement_rules.specs.Ranks.{first_from}
use Rattle.p4_statement_rules.specs.declared.rule.ProgramRule.{ProgramRule}
use Rattle.p4_statement_rules.specs.declared.rule.ProgramRule.TheVariants.{NameTwice}
use Rattle.p4_declaration_rules.specs.Controls.{is_one_of, stmt_emits, emit_at, emit_tests, emitted_behind, emits_tests}
use Rattle.p4_declaration_rules.specs.Loops.{path_in, paths_in}
use Rattle.p4_declaration_rules.proofs.Seen.{left_at}

-- the same paths were emitted before
abbrev pub Agree : List (List (List ℕ)) → List (List (List ℕ)) → Type 0
Agree before other = (x : List (List ℕ)) → is_one_of before x ≡ is_one_of other x

test_same : (b c : List (List (List ℕ))) (p : ℕ) (now : List (List (List ℕ))) → Agree b c → emit_tests b p now ≡ emit_tests c p now
test_same b c p [] h = refl
test_same b c p (x ∷ xs) h = ap (test p NameTwice) (h x)

behind_same : (b c now : List (List (List ℕ))) → Agree b c → Agree (emitted_behind now b) (emitted_behind now c)
behind_same b c [] h = h
behind_same b c (x ∷ xs) h = λ y. ap (λ (k : Bool). same_path x y || k) (h y)

pub emits_same : (s : Scope) (b c : List (List (List ℕ))) (ss : Stmts) → Agree b c → emits_tests s b ss ≡ emits_tests s c ss
emits_same s b c done h = refl
emits_same s b c (next d rest) h =
    ap (λ (t : Tests ProgramRule). both t (emits_tests s (emitted_behind (stmt_emits s d) b) rest)) (test_same b c (emit_at d) (stmt_emits s d) h)
    ∙ ap (both (emit_tests c (emit_at d) (stmt_emits s d))) (emits_same s (emitted_behind (stmt_emits s d) b) (emitted_behind (stmt_emits s d) c) rest (behind_same b c (stmt_emits s d) h))

-- ---- one statement more

module _ (s : Scope) (found whole : Option (ℕ × ProgramRule)) (ks : List (Vec (Bor (List ℕ)) Global)) (body : List code.Stmt) (i : ℕ) (c : code.Stmt) (lt : i < length body) (is : c ≡ get_or body i c) where
  abbrev rest : Stmts
  rest = stmts_of (drop (i + 1) body)

  step : first_from found (emits_tests s (paths_in ks) (stmts_of (drop i body))) ≡ first_from (first_from found (emit_tests (paths_in ks) (emit_at (stmt_of c)) (stmt_emits s (stmt_of c)))) (emits_tests s (emitted_behind (stmt_emits s (stmt_of c)) (paths_in ks)) rest)
  step = ap (λ xs. first_from found (emits_tests s (paths_in ks) (stmts_of xs))) (left_at body i c lt is)

  -- one that emits
  pub emit_next : (new : Option (ℕ × ProgramRule)) (more : List (Vec (Bor (List ℕ)) Global)) (path : List (List ℕ)) (at : ℕ)
      → path ∷ [] ≡ stmt_emits s (stmt_of c) → at ≡ emit_at (stmt_of c)
      → new ≡ first_from found (emit_tests (paths_in ks) at (path ∷ []))
      → Agree (paths_in more) (path ∷ paths_in ks)
      → first_from found (emits_tests s (paths_in ks) (stmts_of (drop i body))) ≡ whole
      → first_from new (emits_tests s (paths_in more) rest) ≡ whole
  emit_next new more path at emits place tests agree before =
      ap (first_from new) (emits_same s (paths_in more) (path ∷ paths_in ks) rest agree)
      ∙ ap (λ o. first_from o (emits_tests s (path ∷ paths_in ks) rest)) (tests ∙ ap (λ (p : ℕ). first_from found (emit_tests (paths_in ks) p (path ∷ []))) place)
      ∙ ap (λ (now : List (List (List ℕ))). first_from (first_from found (emit_tests (paths_in ks) (emit_at (stmt_of c)) now)) (emits_tests s (emitted_behind now (paths_in ks)) rest)) emits
      ∙ sym step ∙ before

  -- one that emits nothing
  pub emit_none : [] ≡ stmt_emits s (stmt_of c) → first_from found (emits_tests s (paths_in ks) (stmts_of (drop i body))) ≡ whole → first_from found (emits_tests s (paths_in ks) rest) ≡ whole
  emit_none none before =
      ap (λ (now : List (List (List ℕ))). first_from (first_from found (emit_tests (paths_in ks) (emit_at (stmt_of c)) now)) (emits_tests s (emitted_behind now (paths_in ks)) rest)) none
      ∙ sym step ∙ before

-- ---- the table of paths

abbrev same_texts : Vec (Bor (List ℕ)) Global → Vec (Bor (List ℕ)) Global → Bool
same_texts a b = pointwise (λ x y. bytes_eq x.now y.now) a.items b.items

flip_by : {A : Type 0} (f : A → A → Bool) → ((x y : A) → f x y ≡ f y x) → (xs ys : List A) → pointwise f xs ys ≡ pointwise f ys xs
flip_by f h [] [] = refl
flip_by f h [] (y ∷ ys) = refl
flip_by f h (x ∷ xs) [] = refl
flip_by f h (x ∷ xs) (y ∷ ys) = ap (λ (b : Bool). b && pointwise f xs ys) (h x y) ∙ ap (λ (b : Bool). f y x && b) (flip_by f h xs ys)

path_flip : (p q : List (List ℕ)) → same_path p q ≡ same_path q p
path_flip p q = flip_by same_text (λ x y. flip_by nat_eq (λ m n. grind (arith, nat_tests)) x y) p q

texts_same : (xs ys : List (Bor (List ℕ))) → pointwise (λ x y. bytes_eq x.now y.now) xs ys ≡ same_path (map (λ x. x.now) xs) (map (λ x. x.now) ys)
texts_same [] [] = refl
texts_same [] (y ∷ ys) = refl
texts_same (x ∷ xs) [] = refl
texts_same (x ∷ xs) (y ∷ ys) = ap (λ (b : Bool). bytes_eq x.now y.now && b) (texts_same xs ys)

-- a path stands in the table
among_paths : (ks : List (Vec (Bor (List ℕ)) Global)) (k : Vec (Bor (List ℕ)) Global) → list_any (same_texts k) ks ≡ is_one_of (paths_in ks) (path_in k)
among_paths [] k = refl
among_paths (j ∷ ks) k =
    ap (λ (b : Bool). b || list_any (same_texts k) ks) (texts_same k.items j.items ∙ path_flip (path_in k) (path_in j))
    ∙ ap (λ (b : Bool). same_path (path_in j) (path_in k) || b) (among_paths ks k)

paths_push : (ks : List (Vec (Bor (List ℕ)) Global)) (k : Vec (Bor (List ℕ)) Global) (x : List (List ℕ)) → is_one_of (paths_in (ks ++ k ∷ [])) x ≡ (same_path (path_in k) x || is_one_of (paths_in ks) x)
paths_push [] k x = refl
paths_push (j ∷ ks) k x = ap (λ (b : Bool). same_path (path_in j) x || b) (paths_push ks k x) ∙ swap (same_path (path_in j) x) (same_path (path_in k) x) (is_one_of (paths_in ks) x)
  where
    swap : (a b c : Bool) → (a || (b || c)) ≡ (b || (a || c))
    swap true true c = refl
    swap true false c = refl
    swap false true c = refl
    swap false false c = refl

path_is : (p q : List (List ℕ)) → same_path p q ≡ true → p ≡ q
path_is p q = (slice_eq-Decides bytes_eq-Decides p q (same_path p q) refl).0

-- a path that stands there adds nothing
old_path : (ks : List (List (List ℕ))) (p x : List (List ℕ)) → is_one_of ks p ≡ true → is_one_of ks x ≡ (same_path p x || is_one_of ks x)
old_path ks p x h = go (same_path p x) refl
  where
    go : (b : Bool) → same_path p x ≡ b → is_one_of ks x ≡ (b || is_one_of ks x)
    go true e = ap (is_one_of ks) (sym (path_is p x e)) ∙ h
    go false e = refl

-- `added` is what the table answers, `new` its keys afterwards
module _ (ks new : List (Vec (Bor (List ℕ)) Global)) (k : Vec (Bor (List ℕ)) Global) (path : List (List ℕ)) (same : path_in k ≡ path) where
  pub stood_before : (added : Bool) → added ≡ not (list_any (same_texts k) ks) → not added ≡ is_one_of (paths_in ks) path
  stood_before added answer = ap not answer ∙ twice_not (list_any (same_texts k) ks) ∙ among_paths ks k ∙ ap (is_one_of (paths_in ks)) same
    where
      twice_not : (b : Bool) → not (not b) ≡ b
      twice_not true = refl
      twice_not false = refl

  pub path_added : new ≡ cond (list_any (same_texts k) ks) ks (ks ++ k ∷ []) → Agree (paths_in new) (path ∷ paths_in ks)
  path_added keys x = go (list_any (same_texts k) ks) refl
    where
      go : (b : Bool) → list_any (same_texts k) ks ≡ b → is_one_of (paths_in new) x ≡ (same_path path x || is_one_of (paths_in ks) x)
      go true e =
          ap (λ js. is_one_of (paths_in js) x) (keys ∙ ap (λ (b : Bool). cond b ks (ks ++ k ∷ [])) e)
          ∙ old_path (paths_in ks) path x (ap (is_one_of (paths_in ks)) (sym same) ∙ sym (among_paths ks k) ∙ e)
      go false e =
          ap (λ js. is_one_of (paths_in js) x) (keys ∙ ap (λ (b : Bool). cond b ks (ks ++ k ∷ [])) e)
          ∙ paths_push ks k x ∙ ap (λ (p : List (List ℕ)). same_path p x || is_one_of (paths_in ks) x) same
