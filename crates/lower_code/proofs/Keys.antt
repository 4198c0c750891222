-- One part of a key more, and one read more.
use Rattle.std.proofs.Common.{◌≡◌, ℕ, suc, ◌+◌, ◌<◌, ◌≤◌, min, nat_lt, Bool, true, false, List, [], ◌∷◌, ◌++◌, length, get_or, take, drop, drop-cons, drop_of_length-le, Bor, refl, sym, ap, ap₂, ◌∙◌, arith}
use Rattle.std.proofs.lemmas.Bool.{ltb-true, ltb-false}
use Rattle.indus_tree.specs.Tree.{Decl}
use Rattle.indus_tree.specs.View.{expr_of, exprs_of}
use Rattle.indus_tree.specs.Tree as indus
use Rattle.indus_tree.specs.declared.tree.Expr as code_expr
use Rattle.indus_tree.specs.declared.tree.Ty.{Ty}
use Rattle.p4_types.proofs.Numbered.{map_more}
use Rattle.p4_tree.specs.Tree.{Stmt, Stmts, next, and_then, assign}
use Rattle.p4_tree.specs.View.{stmts_of}
use Rattle.p4_tree.specs.declared.statement.Stmt as code
use Rattle.lookup_names.specs.Names.{key_name}
use Rattle.lowered_code.specs.Environment.{Environment}
use Rattle.lowered_code.specs.Expressions.{to_bits, lowered, read_decl}
use Rattle.lowered_code.specs.Reads.{keyed, keys_of, read_stmts, reads_stmts}
use Rattle.lower_reads.specs.View.{lent}
use Rattle.lower_code.proofs.Blocks.{block_more}

module _ (a : Environment) (ds : List Decl) (base : ℕ) where
  module _ (l : List indus.Expr) (n : ℕ) (rest : Stmts) where
    abbrev keys : (i : ℕ) → List Ty → List code_expr.Expr → Stmts
    keys i ts es = keyed a ds base l n i ts (exprs_of es) rest

    pub key_more : (ts : List Ty) (es : List code_expr.Expr) (i : ℕ) (t : Ty) (e x : code_expr.Expr) → i < length ts → i < length es
        → (s : Stmt) → s ≡ assign 0 (key_name n i ∷ []) (to_bits (get_or ts i t) (lowered a ds base l (expr_of e))) → e ≡ get_or es i x
        → keys i (drop i ts) (drop i es) ≡ next s (keys (i + 1) (drop (i + 1) ts) (drop (i + 1) es))
    key_more ts es i t e x lt le s is item =
        let more : suc i ≡ i + 1 = omega arith in
        ap₂ (keys i) (drop-cons ts i t lt) (drop-cons es i x le ∙ ap (λ (y : code_expr.Expr). y ∷ drop (suc i) es) (sym item))
        ∙ ap₂ (λ (r : Stmt) (m : ℕ). next r (keys m (drop m ts) (drop m es))) (sym is) more

    no_parts : (i : ℕ) (ts : List Ty) → keys i ts [] ≡ rest
    no_parts i [] = refl
    no_parts i (t ∷ ts) = refl

    pub keys_end : (ts : List Ty) (es : List code_expr.Expr) (i : ℕ) → min (length ts) (length es) ≤ i → keys i (drop i ts) (drop i es) ≡ rest
    keys_end ts es i h = by (nat_lt i (length ts)) refl
      where
        by : (b : Bool) → nat_lt i (length ts) ≡ b → keys i (drop i ts) (drop i es) ≡ rest
        by false e = ap (λ (xs : List Ty). keys i xs (drop i es)) (drop_of_length-le ts (ltb-false i (length ts) e))
        by true e =
            let below : i < length ts = ltb-true i (length ts) e in
            let past : length es ≤ i = omega (arith, h, below) in
            ap (keys i (drop i ts)) (drop_of_length-le es past) ∙ no_parts i (drop i ts)

  -- one read more
  module _ (all : List (Bor code_expr.Expr)) (i : ℕ) (lt : i < length all) (x : Bor code_expr.Expr) where
    abbrev read : code_expr.Expr → ℕ → Stmts
    read e n = read_stmts a ds base (read_decl ds (expr_of e)) (lent (take i all)) n (keys_of (expr_of e))

    abbrev item : Bor code_expr.Expr
    item = get_or all i x

    -- whatever stands for a missing item
    abbrev first_of : Bor code_expr.Expr → List (Bor code_expr.Expr) → Bor code_expr.Expr
    first_of d [] = d
    first_of d (y ∷ ys) = y

    item_is : item ≡ get_or all i item
    item_is = ap (first_of item) (sym (drop-cons all i x lt) ∙ drop-cons all i item lt)

    read_more : reads_stmts a ds base (lent (take i all)) (base + i) (lent (drop i all))
        ≡ and_then (read item.now (base + i)) (reads_stmts a ds base (lent (take (i + 1) all)) (base + (i + 1)) (lent (drop (i + 1) all)))
    read_more =
        let number : suc (base + i) ≡ base + (i + 1) = omega arith in
        let place : suc i ≡ i + 1 = omega arith in
        ap (λ (es : List (Bor code_expr.Expr)). reads_stmts a ds base (lent (take i all)) (base + i) (lent es)) (drop-cons all i x lt)
        ∙ ap (λ (l : List indus.Expr). and_then (read item.now (base + i)) (reads_stmts a ds base l (suc (base + i)) (lent (drop (suc i) all)))) (sym (map_more (λ (y : Bor code_expr.Expr). expr_of y.now) all i item lt item_is))
        ∙ ap₂ (λ (n m : ℕ). and_then (read item.now (base + i)) (reads_stmts a ds base (lent (take (i + 1) all)) n (lent (drop m all)))) number place

    pub read_step : (e : code_expr.Expr) (n : ℕ) (old new more : List code.Stmt) (whole : Stmts) → n ≡ base + i → new ≡ old ++ more → stmts_of more ≡ read e n → e ≡ item.now
        → and_then (stmts_of old) (reads_stmts a ds base (lent (take i all)) (base + i) (lent (drop i all))) ≡ whole
        → and_then (stmts_of new) (reads_stmts a ds base (lent (take (i + 1) all)) (base + (i + 1)) (lent (drop (i + 1) all))) ≡ whole
    read_step e n old new more whole at appended is same so =
        block_more new old more (read item.now (base + i)) _ appended (is ∙ ap₂ read same at) ∙ ap (and_then (stmts_of old)) (sym read_more) ∙ so
