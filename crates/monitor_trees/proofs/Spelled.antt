-- The code of a block that breaks no rule can be spelled.
use Rattle.std.proofs.Common.{◌≡◌, inl, codes, ℕ, suc, ◌+◌, ◌<◌, ◌≤◌, ◌^◌, List, [], ◌∷◌, ◌++◌, length, Bool, true, false, ◌&&◌, ◌||◌, cond, not, nat_eq, nat_lt, Option, Some, None, refl, sym, ap, ◌∙◌, subst, arith}
use Rattle.std.proofs.lemmas.Bool.{ltb-false}
use Rattle.std.proofs.lemmas.Bool.Decides.{nat_tests}
use Rattle.std.proofs.lemmas.List.{length-append}
use Rattle.std.proofs.Math.Pow.{pow_mono}
use Rattle.bit_values.specs.Widths.{bit}
use Rattle.lex_text.specs.Names.{same_text, parent}
use Rattle.lex_text.specs.declared.literal.Literal.{Literal}
use Rattle.indus_tree.specs.Tree as indus
use Rattle.indus_tree.specs.Tree.{Expr, Exprs, num, flag, read as reads_it, count, index, member, negation, inversion, binary, cast, none, more, Shape, one, list, set, dict, Decl}
use Rattle.indus_tree.specs.State.{lookup, shape_width, width_of}
use Rattle.indus_tree.specs.Reports.{ReportsBelow, BlockReportsBelow}
use Rattle.indus_tree.specs.declared.tree.DeclKind.{DeclKind}
use Rattle.indus_tree.specs.declared.tree.DeclKind.TheVariants.{Tele, Sensor, Header, Control}
use Rattle.indus_tree.specs.declared.tree.Ty.{Ty}
use Rattle.indus_tree.specs.declared.tree.Ty.TheVariants as ty
use Rattle.indus_scopes.specs.Kinds.{width_in, kinds_differ}
use Rattle.indus_scopes.specs.Scopes.{Sight, own}
use Rattle.indus_scopes.specs.declared.kind.Kind.{Kind}
use Rattle.indus_rules.specs.Sites.{Wants, free, expr_sites, all_sites, stmt_sites, block_sites}
use Rattle.indus_rules.specs.Rules.{Fine, number_width, too_wide, ill_used, bad_width, bad_widths, bad_shape}
use Rattle.indus_rules.specs.declared.rule.Rule.TheVariants.{KindDiffers, BadSize}
use Rattle.indus_types.proofs.Widths.{neither, twice_not}
use Rattle.indus_types.proofs.SoundSights.{good_bits}
use Rattle.flat_laws.specs.Form.{IsFlatStmt, IsFlatBlock}
use Rattle.p4_tree.specs.Tree as p4
use Rattle.p4_tree.specs.Tree.{Stmt, Stmts, done, next, and_then}
use Rattle.p4_tree.specs.declared.statement.Op.TheVariants as p4o
use Rattle.p4_tree.specs.declared.statement.PTy.TheVariants as type
use Rattle.p4_meaning.specs.Standard.{headers_root, metadata_root, standard_root}
use Rattle.p4_meaning.specs.Scope.{Roots}
use Rattle.p4_printer.specs.CanSpell.{IsName, EachCan, CanSpellPath, CanSpellExpr, CanSpellStmt, CanSpellStmts}
use Rattle.monitor_laws.specs.Names.{first_name, last_name}
use Rattle.monitor_laws.specs.Trees.{number}
use Rattle.linked_programs.specs.Spells.{AreNames}
use Rattle.lookup_names.specs.Names.{found_name, key_name}
use Rattle.lookup_names.specs.Keys.{key_types, variable}
use Rattle.lowered_code.specs.Same.{same_expr}
use Rattle.lowered_code.specs.Environment.{Environment, tele_path, view_of, rooted, rooted_path, rooted_view, in_control, switch_name}
use Rattle.lowered_code.specs.Expressions.{value_type, of_bits, to_bits, place_in, read_decl, lowered, lowered_all, name_by_kind, name_for, found_for, built_in, as_index, is_bare}
use Rattle.lowered_code.specs.Reads.{clear, cleared, start_of, turned, turn, take_sensor, keys_of, apply, keyed, read_array, read_sensor, read_kind, read_stmts, reads_stmts}
use Rattle.lowered_code.specs.Statements.{put_sensor, set_kind, set_name, set_array, tell, maybe_else, stmt_reads, behind, stmt_end, block_end, with_reads, stmt_code, block_code}
use Rattle.lowered_code.proofs.Rising.{block_rises}
use Rattle.lowered_code.proofs.Bit.{by_bit_form}
use Rattle.monitor_trees.proofs.Turns.{InTurn, stmt_turn}
use Rattle.monitor_trees.proofs.Words.{IsWord, tele_named, sensor_named, table_named, found_named, key_named}

-- ---- numbers of the text

zero_low : (v : ℕ) → nat_eq v 0 ≡ true → v ≤ 128
zero_low v e = grind (arith, nat_tests, e)

less_than : (a b : ℕ) → nat_lt a b ≡ true → a < b
less_than a b e = grind (arith, nat_tests, e)

fits_in : (w v : ℕ) → nat_eq w 0 ≡ false → too_wide w v ≡ false → (w ≤ 128) × (v < 2 ^ 128)
fits_in w v some h =
    let n = neither (nat_lt 128 w) (not (nat_lt v (2 ^ w))) (ap (λ b. not b && (nat_lt 128 w || not (nat_lt v (2 ^ w)))) (sym some) ∙ h) in
    let most : w ≤ 128 = ltb-false 128 w n.0 in
    let low : v < 2 ^ w = less_than v (2 ^ w) (twice_not (nat_lt v (2 ^ w)) n.1) in
    let up : 2 ^ w ≤ 2 ^ 128 = pow_mono most in
    (most, omega (arith, low, up))

literal_fits : (n : Literal) (w : Kind) → nat_eq (number_width n w) 0 ≡ false → too_wide (number_width n w) n.value ≡ false → (n.width ≤ 128) × (n.value < 2 ^ 128)
literal_fits n w some h = go (nat_eq n.width 0) refl some h
  where
    go : (b : Bool) → nat_eq n.width 0 ≡ b → nat_eq (cond b (width_in w) n.width) 0 ≡ false → too_wide (cond b (width_in w) n.width) n.value ≡ false → (n.width ≤ 128) × (n.value < 2 ^ 128)
    go true e some h = (zero_low n.width e, (fits_in (width_in w) n.value some h).1)
    go false e some h = fits_in n.width n.value some h

-- ---- names

pick_name : (b : Bool) (x y : List ℕ) → IsName x → IsName y → IsName (cond b x y)
pick_name true x y h k = h
pick_name false x y h k = k

module _ (r : Roots) (names : AreNames r) where
  root_named : (x : List ℕ) → IsName x → IsName (rooted r x)
  root_named x h =
      pick_name (same_text headers_root x) r.headers _ names.headers
      (pick_name (same_text metadata_root x) r.metadata _ names.metadata (pick_name (same_text standard_root x) r.standard x names.standard h))

  path_named : (xs : List (List ℕ)) → CanSpellPath xs → CanSpellPath (rooted_path r xs)
  path_named [] h = absurd h
  path_named (x ∷ xs) h = (root_named x h.0, h.1)

  pub view_named : (d : Decl) → CanSpellExpr (view_of d) → CanSpellExpr (rooted_view r d)
  view_named d = go d.valid
    where
      go : (b : Bool) → CanSpellExpr (cond b (p4.valid 0 (parent d.path)) (p4.path 0 d.path)) → CanSpellExpr (cond b (p4.valid 0 (rooted_path r (parent d.path))) (p4.path 0 (rooted_path r d.path)))
      go true = path_named (parent d.path)
      go false = path_named d.path

-- ---- expressions

number_can : (w v : ℕ) → w ≤ 128 → v < 2 ^ 128 → CanSpellExpr (number w v)
number_can w v h k = (h, k)

of_can : (t : Ty) (e : p4.Expr) → CanSpellExpr e → CanSpellExpr (of_bits t e)
of_can (ty.Bit w) e h = h
of_can ty.Bool e h = (tt, h)

bit_can : (b : Bool) → CanSpellExpr (number 1 (bit b).value)
bit_can true = number_can 1 1 (omega arith) (omega arith)
bit_can false = number_can 1 0 (omega arith) (omega arith)

to_can : (t : Ty) (e : p4.Expr) → CanSpellExpr e → CanSpellExpr (to_bits t e)
to_can (ty.Bit w) e h = h
to_can ty.Bool e h = by_bit_form (λ e f. CanSpellExpr e → CanSpellExpr f) (λ p b h. bit_can b) (λ p q x h. h.1) (λ e h. (omega arith, h)) e h

index_can : (e : Expr) (i : p4.Expr) → CanSpellExpr i → CanSpellExpr (as_index e i)
index_can e i h = go (is_bare e)
  where
    go : (b : Bool) → CanSpellExpr (cond b i (p4.cast 0 (type.Bit 128) i))
    go true = h
    go false = (omega arith, h)

turned_can : (start w : ℕ) (e : p4.Expr) → w ≤ 128 → start < 2 ^ 128 → CanSpellExpr e → CanSpellExpr (turned start w e)
turned_can start w e hw hs h = go (nat_eq start 0)
  where
    go : (b : Bool) → CanSpellExpr (cond b e (p4.binary 0 p4o.BitXor e (number w start)))
    go true = h
    go false = (h, number_can w start hw hs)

place_below : (l : List Expr) (e : Expr) → place_in l e ≤ length l
place_below [] e = omega arith
place_below (f ∷ l) e = go (same_expr f e) (place_below l e)
  where
    go : (b : Bool) → place_in l e ≤ length l → cond b 0 (suc (place_in l e)) ≤ suc (length l)
    go true h = omega arith
    go false h = omega (arith, h)

-- what is asked of declarations
pub record AreDecls (ds : List Decl) (r : Roots) : Type 0 where
  pub words : (x : List ℕ) (d : Decl) → lookup ds x ≡ Some d → IsWord x
  pub views : (x : List ℕ) (d : Decl) → lookup ds x ≡ Some d → d.kind ≡ Header → CanSpellExpr (rooted_view r d)
  pub narrow : (x : List ℕ) (d : Decl) → lookup ds x ≡ Some d → shape_width d.shape ≤ 128
  pub starts : (x : List ℕ) (d : Decl) → lookup ds x ≡ Some d → start_of d < 2 ^ 128
  pub sized : (x : List ℕ) (d : Decl) → lookup ds x ≡ Some d → bad_shape d.shape ≡ false
  pub named : (x : List ℕ) (d : Decl) → lookup ds x ≡ Some d → d.name ≡ x

module _ (g : Sight) (r : Roots) (names : AreNames r) (are : AreDecls g.decls r) where
  abbrev A : Environment
  A = in_control r

  abbrev ds : List Decl
  ds = g.decls

  tele_can : (x : List ℕ) → IsWord x → CanSpellPath (tele_path A x)
  tele_can x h = (names.headers, ((refl, refl), (tele_named x h, tt)))

  variable_can : (x : List ℕ) → IsName x → CanSpellExpr (variable x)
  variable_can x h = (h, tt)

  built_can : (x : List ℕ) → CanSpellExpr (built_in A x)
  built_can x = go (same_text x (codes "first_hop")) (same_text x (codes "last_hop"))
    where
      go : (a b : Bool) → CanSpellExpr (cond a (variable first_name) (cond b (variable last_name) (p4.path 0 (switch_name ∷ []))))
      go true b = ((refl, refl), tt)
      go false true = ((refl, refl), tt)
      go false false = ((refl, refl), tt)

  module _ (base : ℕ) (l : List Expr) (low : base + length l < 2 ^ 64) where
    found_can : (e : Expr) → CanSpellExpr (variable (found_name (base + place_in l e)))
    found_can e = (let h = place_below l e in variable_can (found_name (base + place_in l e)) (found_named (base + place_in l e) (omega (arith, h, low))))

    kind_can : (k : DeclKind) (e : Expr) (x : List ℕ) (d : Decl) → lookup ds x ≡ Some d → d.kind ≡ k → CanSpellExpr (name_by_kind A ds base l k e x d)
    kind_can Tele e x d is k = of_can (value_type d.shape) (p4.path 0 (tele_path A x)) (tele_can x (are.words x d is))
    kind_can Sensor e x d is k = of_can (value_type d.shape) (variable (found_name (base + place_in l e))) (found_can e)
    kind_can Header e x d is k = are.views x d is k
    kind_can Control e x d is k = of_can (value_type d.shape) (variable (found_name (base + place_in l e))) (found_can e)

    name_can : (o : Option Decl) (e : Expr) (x : List ℕ) → lookup ds x ≡ o → CanSpellExpr (name_for A ds base l o e x)
    name_can None e x is = built_can x
    name_can (Some d) e x is = kind_can d.kind e x d is refl

    held_can : (o : Option Decl) (e : Expr) → CanSpellExpr (found_for A ds base l o e)
    held_can None e = tt
    held_can (Some d) e = of_can (value_type d.shape) (variable (found_name (base + place_in l e))) (found_can e)

    mutual
      pub lowered_can : (e : Expr) (w : Kind) → Fine (expr_sites g w e) → CanSpellExpr (lowered A ds base l e)
      lowered_can (num p n) w f = literal_fits n w (neither (kinds_differ (own g (num p n)) w) (ill_used g w (num p n)) (f KindDiffers)).1 (f BadSize)
      lowered_can (flag p b) w f = tt
      lowered_can (reads_it p x) w f = name_can (lookup ds x) (reads_it p x) x refl
      lowered_can (count p x) w f = tt
      lowered_can (index p x ks) w f = held_can (lookup ds x) (index p x ks)
      lowered_can (member p ks x) w f = held_can (lookup ds x) (member p ks x)
      lowered_can (negation p a) w f = lowered_can a _ f.1
      lowered_can (inversion p a) w f = lowered_can a _ f.1
      lowered_can (binary p o a b) w f = (lowered_can a _ f.1.0, lowered_can b _ f.1.1)
      lowered_can (cast p v a) w f = (let m = (good_bits v (f.0 BadSize)).most in omega (arith, m), lowered_can a _ f.1)

      pub all_can : (es : Exprs) (ws : Wants) → Fine (all_sites g ws es) → EachCan CanSpellExpr (lowered_all A ds base l es)
      all_can none ws f = tt
      all_can (more e es) ws f = (lowered_can e _ f.0, all_can es _ f.1)

  -- ---- reads

  join_can : (a b : Stmts) → CanSpellStmts a → CanSpellStmts b → CanSpellStmts (and_then a b)
  join_can done b h k = k
  join_can (next c a) b h k = (h.0, join_can a b h.1 k)

  clear_can : (n w : ℕ) → n < 2 ^ 64 → w ≤ 128 → CanSpellStmt false (clear n w)
  clear_can n w h k = ((found_named n h, tt), (k, omega arith))

  cleared_can : (n : ℕ) (s : Shape) → n < 2 ^ 64 → shape_width s ≤ 128 → CanSpellStmts (cleared n s)
  cleared_can n (one t) h k = tt
  cleared_can n (list t size) h k = tt
  cleared_can n (set ts) h k = (inl (clear_can n 1 h k), tt)
  cleared_can n (dict ts t) h k = (inl (clear_can n (width_of t) h k), tt)

  turn_can : (n w start : ℕ) → n < 2 ^ 64 → w ≤ 128 → start < 2 ^ 128 → CanSpellStmts (turn n w start)
  turn_can n w start h k s = go (nat_eq start 0)
    where
      go : (b : Bool) → CanSpellStmts (cond b done (next (p4.assign 0 (found_name n ∷ []) (turned start w (variable (found_name n)))) done))
      go true = tt
      go false = (inl ((found_named n h, tt), turned_can start w (variable (found_name n)) k s (variable_can (found_name n) (found_named n h))), tt)

  sensor_can : (n : ℕ) (d : Decl) (i : p4.Expr) → n < 2 ^ 64 → lookup ds d.name ≡ Some d → CanSpellExpr i → CanSpellStmts (take_sensor n d i)
  sensor_can n d i h is k = (
    inl ((sensor_named d.name (are.words d.name d is), ((refl, refl), tt)), (variable_can (found_name n) (found_named n h), (k, tt))),
    turn_can n (shape_width d.shape) (start_of d) h (are.narrow d.name d is) (are.starts d.name d is),
  )

  module _ (base : ℕ) where
    keyed_can : (l : List Expr) (low : base + length l < 2 ^ 64) (n i : ℕ) (ts : List Ty) (ks : Exprs) (ws : Wants) (rest : Stmts) → n < 2 ^ 64 → i + length ts < 2 ^ 64 → Fine (all_sites g ws ks) → CanSpellStmts rest → CanSpellStmts (keyed A ds base l n i ts ks rest)
    keyed_can l low n i [] ks ws rest h k f c = c
    keyed_can l low n i (t ∷ ts) none ws rest h k f c = c
    keyed_can l low n i (t ∷ ts) (more e es) ws rest h k f c = (
      inl ((key_named n i h (omega (arith, k)), tt), to_can t (lowered A ds base l e) (lowered_can base l low e _ f.0)),
      keyed_can l low n (suc i) ts es _ rest h (omega (arith, k)) f.1 c,
    )

    array_can : (l : List Expr) (low : base + length l < 2 ^ 64) (n : ℕ) (d : Decl) (size : ℕ) (ks : Exprs) (ws : Wants) → n < 2 ^ 64 → size < 2 ^ 128 → lookup ds d.name ≡ Some d → Fine (all_sites g ws ks) → CanSpellStmts (read_array A ds base l n d size ks)
    array_can l low n d size none ws h k is f = tt
    array_can l low n d size (more e es) ws h k is f =
        let key = variable_can (key_name n 0) (key_named n 0 h (omega arith)) in (
          inl (clear_can n (shape_width d.shape) h (are.narrow d.name d is)),
          (
            inl ((key_named n 0 h (omega arith), tt), index_can e (lowered A ds base l e) (lowered_can base l low e _ f.0)),
            (inl ((key, number_can 128 size (omega arith) k), sensor_can n d (variable (key_name n 0)) h is key, refl), tt),
          ),
        )

    shape_can : (l : List Expr) (low : base + length l < 2 ^ 64) (n : ℕ) (d : Decl) (s : Shape) (ks : Exprs) (ws : Wants) → n < 2 ^ 64 → bad_shape s ≡ false → lookup ds d.name ≡ Some d → Fine (all_sites g ws ks) → CanSpellStmts (read_sensor A ds base l n d s ks)
    shape_can l low n d (one t) ks ws h b is f = sensor_can n d (number 1 0) h is (omega arith, omega arith)
    shape_can l low n d (list t size) ks ws h b is f =
        (let le = ltb-false 255 size (neither (bad_width t || nat_eq size 0) (nat_lt 255 size) b).1 in array_can l low n d size ks ws h (omega (arith, le)) is f)
    shape_can l low n d (set ts) ks ws h b is f = tt
    shape_can l low n d (dict ts t) ks ws h b is f = tt

    few_keys : (s : Shape) → bad_shape s ≡ false → 0 + length (key_types s) < 2 ^ 64
    few_keys (one t) h = omega arith
    few_keys (list t n) h = omega arith
    few_keys (set ts) h = (let le = ltb-false 4 (length ts) (neither (bad_widths ts) (nat_lt 4 (length ts)) h).1 in omega (arith, le))
    few_keys (dict ts t) h = (let le = ltb-false 4 (length ts) (neither (bad_widths ts) (nat_lt 4 (length ts)) (neither (bad_widths ts || nat_lt 4 (length ts)) (bad_width t) h).0).1 in omega (arith, le))

    by_kind : (k : DeclKind) (l : List Expr) (low : base + length l < 2 ^ 64) (n : ℕ) (d : Decl) (ks : Exprs) (ws : Wants) → n < 2 ^ 64 → lookup ds d.name ≡ Some d → Fine (all_sites g ws ks) → CanSpellStmts (read_kind A ds base k l n d ks)
    by_kind Tele l low n d ks ws h is f = tt
    by_kind Sensor l low n d ks ws h is f = shape_can l low n d d.shape ks ws h (are.sized d.name d is) is f
    by_kind Header l low n d ks ws h is f = tt
    by_kind Control l low n d ks ws h is f =
        let found = next (apply A ds base n) done in
        join_can (cleared n d.shape) (keyed A ds base l n 0 (key_types d.shape) ks found) (cleared_can n d.shape h (are.narrow d.name d is))
        (keyed_can l low n 0 (key_types d.shape) ks ws found h (few_keys d.shape (are.sized d.name d is)) f (inl ((table_named n h, ((refl, refl), tt)), tt), tt))

    by_name : (x : List ℕ) (o : Option Decl) (l : List Expr) (low : base + length l < 2 ^ 64) (n : ℕ) (ks : Exprs) (ws : Wants) → n < 2 ^ 64 → lookup ds x ≡ o → Fine (all_sites g ws ks) → CanSpellStmts (read_stmts A ds base o l n ks)
    by_name x None l low n ks ws h is f = tt
    by_name x (Some d) l low n ks ws h is f = by_kind d.kind l low n d ks ws h (subst (λ y. lookup ds y ≡ Some d) (sym (are.named x d is)) is) f

    one_can : (l : List Expr) (low : base + length l < 2 ^ 64) (n : ℕ) (e : Expr) (w : Kind) → n < 2 ^ 64 → Fine (expr_sites g w e) → CanSpellStmts (read_stmts A ds base (read_decl ds e) l n (keys_of e))
    one_can l low n (reads_it p x) w h f = by_name x (lookup ds x) l low n none free h refl tt
    one_can l low n (index p x ks) w h f = by_name x (lookup ds x) l low n ks _ h refl f.1
    one_can l low n (member p ks x) w h f = by_name x (lookup ds x) l low n ks _ h refl f.1
    one_can l low n (num p m) w h f = tt
    one_can l low n (flag p b) w h f = tt
    one_can l low n (count p x) w h f = tt
    one_can l low n (negation p a) w h f = tt
    one_can l low n (inversion p a) w h f = tt
    one_can l low n (binary p o a b) w h f = tt
    one_can l low n (cast p v a) w h f = tt

  reads_can : (base : ℕ) (l es : List Expr) (n : ℕ) → InTurn g l es → n ≡ base + length l → n + length es < 2 ^ 64 → CanSpellStmts (reads_stmts A ds base l n es)
  reads_can base l [] n t at low = tt
  reads_can base l (e ∷ es) n t at low =
      join_can (read_stmts A ds base (read_decl ds e) l n (keys_of e)) (reads_stmts A ds base (l ++ e ∷ []) (suc n) es)
      (one_can base l (omega (arith, at, low)) n e t.0.here.want (omega (arith, low)) t.0.here.fine)
      (reads_can base (l ++ e ∷ []) es (suc n) t.1 (let long = length-append l (e ∷ []) in omega (arith, at, long)) (omega (arith, low)))

  -- ---- statements

  put_can : (d : Decl) (i v : p4.Expr) → lookup ds d.name ≡ Some d → CanSpellExpr i → CanSpellExpr v → CanSpellStmts (put_sensor d i v)
  put_can d i v is h k = (
    inl (
      (sensor_named d.name (are.words d.name d is), ((refl, refl), tt)),
      (h, (turned_can (start_of d) (shape_width d.shape) (to_bits (value_type d.shape) v) (are.narrow d.name d is) (are.starts d.name d is) (to_can (value_type d.shape) v k), tt)),
    ),
    tt,
  )

  set_can : (x : List ℕ) (o : Option Decl) (v : p4.Expr) → lookup ds x ≡ o → CanSpellExpr v → CanSpellStmts (set_name A o x v)
  set_can x None v is h = tt
  set_can x (Some d) v is h = go d.kind
    where
      go : (k : DeclKind) → CanSpellStmts (set_kind A k d x v)
      go Tele = (inl (tele_can x (are.words x d is), to_can (value_type d.shape) v h), tt)
      go Sensor = put_can d (number 1 0) v (subst (λ y. lookup ds y ≡ Some d) (sym (are.named x d is)) is) (omega arith, omega arith) h
      go Header = tt
      go Control = tt

  cell_can : (x : List ℕ) (o : Option Decl) (i v : p4.Expr) → lookup ds x ≡ o → CanSpellExpr i → CanSpellExpr v → CanSpellStmts (set_array o i v)
  cell_can x None i v is h k = tt
  cell_can x (Some d) i v is h k = put_can d i v (subst (λ y. lookup ds y ≡ Some d) (sym (are.named x d is)) is) h k

  choice_can : (e : p4.Expr) (a b : Stmts) → CanSpellExpr e → CanSpellStmts a → CanSpellStmts b → CanSpellStmt false (p4.choice 0 e (p4.block 0 a) (maybe_else b))
  choice_can e a done h k l = (h, k, refl)
  choice_can e a (next c b) h k l = (h, k, l)

  -- a statement behind its reads
  with_can : (n : ℕ) (s : indus.Stmt) (f : List Expr → Stmts) → Fine (stmt_sites g s) → IsFlatStmt ds s → n + length (stmt_reads ds s) < 2 ^ 64 → CanSpellStmts (f (stmt_reads ds s)) → CanSpellStmts (with_reads A ds n s f)
  with_can n s f fine flat low h =
      join_can (reads_stmts A ds n [] n (stmt_reads ds s)) (f (stmt_reads ds s)) (reads_can n [] (stmt_reads ds s) n (stmt_turn g s fine flat) (omega arith) low) h

  mutual
    stmt_can : (s : indus.Stmt) (n : ℕ) → Fine (stmt_sites g s) → IsFlatStmt ds s → ReportsBelow (2 ^ 16) s → stmt_end ds s n < 2 ^ 64 → CanSpellStmts (stmt_code A ds s n)
    stmt_can (indus.assign p x e) n f i m low =
        let l = stmt_reads ds (indus.assign p x e) in
        with_can n (indus.assign p x e) (λ k. set_name A (lookup ds x) x (lowered A ds n k e)) f i low (set_can x (lookup ds x) (lowered A ds n l e) refl (lowered_can n l low e _ f.1))
    stmt_can (indus.cell p x a e) n f i m low =
        let l = stmt_reads ds (indus.cell p x a e) in
        with_can n (indus.cell p x a e) (λ k. set_array (lookup ds x) (lowered A ds n k a) (lowered A ds n k e)) f i low
        (cell_can x (lookup ds x) (lowered A ds n l a) (lowered A ds n l e) refl (lowered_can n l low a _ f.1.0) (lowered_can n l low e _ f.1.1))
    stmt_can (indus.push p x e) n f i m low = tt
    stmt_can (indus.choice p t a b) n f i m low =
        let c = indus.choice p t a b in
        let l = stmt_reads ds c in
        let k = behind ds c n in
        let j = block_end ds a k in
        let up = block_rises ds a k in
        let more = block_rises ds b j in
        with_can n c
        (λ l. next (p4.choice 0 (lowered A ds n l t) (p4.block 0 (block_code A ds a (n + length l))) (maybe_else (block_code A ds b (block_end ds a (n + length l))))) done) f i (omega (arith, up, more, low)) (
          inl
              (choice_can (lowered A ds n l t) (block_code A ds a k) (block_code A ds b j) (lowered_can n l (omega (arith, up, more, low)) t _ f.1.0) (block_can a k f.1.1.0 i.1 m.0 (omega (arith, more, low))) (block_can b j f.1.1.1 i.2 m.1 low)),
          tt,
        )
    stmt_can (indus.loop p xs ls a) n f i m low = tt
    stmt_can (indus.reject p) n f i m low = (inl (((refl, refl), tt), tt), tt)
    stmt_can (indus.report p k es) n f i m low =
        let l = stmt_reads ds (indus.report p k es) in
        with_can n (indus.report p k es) (λ l. next (tell k (lowered_all A ds n l es)) done) f i low
        (inl (((refl, refl), tt), ((omega arith, omega arith), (((omega arith, omega (arith, m)), all_can n l low es _ f.1), tt))), tt)

    pub block_can : (ss : indus.Stmts) (n : ℕ) → Fine (block_sites g ss) → IsFlatBlock ds ss → BlockReportsBelow (2 ^ 16) ss → block_end ds ss n < 2 ^ 64 → CanSpellStmts (block_code A ds ss n)
    block_can indus.done n f i m low = tt
    block_can (indus.next s ss) n f i m low =
        let k = stmt_end ds s n in
        let up = block_rises ds ss k in
        join_can (stmt_code A ds s n) (block_code A ds ss k) (stmt_can s n f.0 i.0 m.0 (omega (arith, up, low))) (block_can ss k f.1 i.1 m.1 low)
