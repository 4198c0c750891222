-- Lists of statements that are rewritten one by one.
use Rattle.std.proofs.Common.{◌≡◌, ℕ, ◌+◌, ◌<◌, Bool, true, false, ◌||◌, List, [], ◌∷◌, ◌++◌, length, get_or, drop, map, drop-cons, add-one, refl, sym, ap, ap₂, ◌∙◌}
use Rattle.std.specs.List.{list_any}
use Rattle.std.proofs.lemmas.List.{map-append}
use Rattle.p4_tree.specs.Tree.{Stmt, Stmts, done, next, stmts_from, and_then}
use Rattle.p4_tree.specs.View.{stmt_of, stmts_of}
use Rattle.p4_tree.specs.declared.statement.Stmt as code
use Rattle.exit_statements.specs.Without.{Body, Exits, stmt_leaves, stmts_leave, is_var, in_list, stmt_without, stmts_without}
use Rattle.exit_programs.specs.Programs.{flags}

-- ---- lists

pub built_more : (xs : List Stmt) (x : Stmt) (b : Stmts) → and_then (stmts_from (xs ++ x ∷ [])) b ≡ and_then (stmts_from xs) (next x b)
built_more [] x b = refl
built_more (y ∷ xs) x b = ap (next y) (built_more xs x b)

pub built_done : (xs : List Stmt) → and_then (stmts_from xs) done ≡ stmts_from xs
built_done [] = refl
built_done (y ∷ xs) = ap (next y) (built_done xs)

pub item_left : {A : Type 0} (list : List A) (i : ℕ) (s : A) → i < length list → s ≡ get_or list i s → drop i list ≡ s ∷ drop (i + 1) list
item_left {A} list i s lt is = drop-cons list i s lt ∙ ap₂ (λ (y : A) (n : ℕ). y ∷ drop n list) (sym is) (sym (add-one i))

pub any_left : {A : Type 0} (test : A → Bool) (list : List A) (i : ℕ) (s : A) (b : Bool) → i < length list → s ≡ get_or list i s → b ≡ test s → list_any test (drop i list) ≡ (b || list_any test (drop (i + 1) list))
any_left test list i s b lt is e = ap (list_any test) (item_left list i s lt is) ∙ ap (λ (t : Bool). t || list_any test (drop (i + 1) list)) (sym e)

or_assoc : (a b c : Bool) → ((a || b) || c) ≡ (a || (b || c))
or_assoc true b c = refl
or_assoc false b c = refl

module _ (m : Exits) (body : Body) (list : List code.Stmt) (i : ℕ) (s : code.Stmt) (lt : i < length list) (is : s ≡ get_or list i s) where
  -- one more statement of a list
  pub list_more : (out new : List code.Stmt) (x : code.Stmt) (l l' : Bool) (whole : Stmts)
      → and_then (stmts_of out) (stmts_without flags m body l (stmts_of (drop i list))) ≡ whole → new ≡ out ++ x ∷ []
      → stmt_of x ≡ in_list flags m body l (is_var (stmt_of s)) (stmt_without flags m body (stmt_of s)) → l' ≡ (l || stmt_leaves m (stmt_of s))
      → and_then (stmts_of new) (stmts_without flags m body l' (stmts_of (drop (i + 1) list))) ≡ whole
  list_more out new x l l' whole inv e same left =
      let rest = stmts_without flags m body (l || stmt_leaves m (stmt_of s)) (stmts_of (drop (i + 1) list)) in
      ap₂ (λ (xs : List code.Stmt) (l : Bool). and_then (stmts_of xs) (stmts_without flags m body l (stmts_of (drop (i + 1) list)))) e left
      ∙ ap (λ (xs : List Stmt). and_then (stmts_from xs) rest) (map-append stmt_of out (x ∷ []))
      ∙ built_more (map stmt_of out) (stmt_of x) rest
      ∙ ap (λ (y : Stmt). and_then (stmts_of out) (next y rest)) same
      ∙ sym (ap (λ (ys : List code.Stmt). and_then (stmts_of out) (stmts_without flags m body l (stmts_of ys))) (item_left list i s lt is))
      ∙ inv

  -- and whether it leaves
  pub leaves_more : (l l' whole : Bool) → (l || stmts_leave m (stmts_of (drop i list))) ≡ whole → l' ≡ (l || stmt_leaves m (stmt_of s))
      → (l' || stmts_leave m (stmts_of (drop (i + 1) list))) ≡ whole
  leaves_more l l' whole inv left =
      ap (λ (b : Bool). b || stmts_leave m (stmts_of (drop (i + 1) list))) left
      ∙ or_assoc l (stmt_leaves m (stmt_of s)) (stmts_leave m (stmts_of (drop (i + 1) list)))
      ∙ sym (ap (λ (ys : List code.Stmt). l || stmts_leave m (stmts_of ys)) (item_left list i s lt is))
      ∙ inv
