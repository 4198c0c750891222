-- No rule is broken in flat blocks.
use Rattle.std.proofs.Common.{◌≡◌, ◌⊎◌, inl, inr, ⊎_elim, ℕ, zero, suc, ◌+◌, ◌<◌, ◌≤◌, ◌^◌, min, List, [], ◌∷◌, ◌++◌, length, map, Bool, true, false, ◌&&◌, ◌||◌, cond, Option, Some, None, refl, sym, ap, ap₂, ◌∙◌, arith, subst, nat_eq, nat_lt}
use Rattle.std.specs.Prelude.{not, slice_index}
use Rattle.std.proofs.lemmas.Bool.{lt-ltb, le-ltb}
use Rattle.std.proofs.lemmas.Nat.{pow_pos}
use Rattle.lex_text.specs.Names.{same_text}
use Rattle.rule_sites.specs.Sites.{or_else}
use Rattle.indus_tree.specs.Tree.{Shape, one, list, set, dict, Expr, Exprs, num, flag, read, binary, Stmt, Stmts, assign, cell, push, choice, loop, reject, report, done, next, block_from, Decl}
use Rattle.indus_tree.specs.State.{lookup, width_of, shape_size}
use Rattle.indus_tree.specs.Hops.{variable_number}
use Rattle.indus_tree.specs.declared.tree.DeclKind.{DeclKind}
use Rattle.indus_tree.specs.declared.tree.DeclKind.TheVariants.{Tele, Sensor}
use Rattle.indus_tree.specs.declared.tree.Op.TheVariants.{Add, Less, Equal}
use Rattle.indus_tree.specs.declared.tree.Ty.{Ty}
use Rattle.indus_tree.specs.declared.tree.Ty.TheVariants as ty
use Rattle.indus_scopes.specs.Kinds.{kind_of, join, as_number, kinds_differ, widths_differ, like_want}
use Rattle.indus_scopes.specs.Scopes.{Around, Sight, item, variable, role_of, read_kind, index_kind, item_of, builtin_of, item_in, list_item, item_kind, shape_item, own}
use Rattle.indus_scopes.specs.Uses.{is_missing, reads, counts, may_index, writable}
use Rattle.indus_scopes.specs.Items.{repeats, within}
use Rattle.indus_scopes.specs.declared.kind.Kind.{Kind}
use Rattle.indus_scopes.specs.declared.kind.Kind.TheVariants.{Number, Truth}
use Rattle.indus_rules.specs.Sites.{at_stmt, push_want, expr_sites, all_sites, free, stmt_sites, block_sites}
use Rattle.indus_rules.specs.Rules.{Fine, tells_much, too_wide}
use Rattle.indus_rules.specs.declared.rule.Rule.TheVariants.{NoSuchName, KindDiffers, NotWritable, WrongBlock, BadSize}
use Rattle.indus_types.specs.Sums.{smallest, size_of, size_in}
use Rattle.lower_lists.specs.Names.{item_name, count_name}
use Rattle.lower_lists.specs.declared.place.Bound.{Bound}
use Rattle.lower_lists.specs.declared.place.ListPlace.{ListPlace}
use Rattle.lower_lists.specs.Flat.{list_in, list_of, list_of_shape, list_number, target, name_in, name_of_kind, found, byte, has_item, all_have, distinct, flat_expr, flat_exprs, nothing, move, moves, clear, count_more, pushed, push_to, flat_push, bound_to, turns, flat_stmt, flat_block, flat_of}
use Rattle.flat_laws.specs.Numbered.{numbered}
use Rattle.flat_laws.proofs.Guards.{Each, each_behind, each_at}
use Rattle.flat_laws.proofs.States.{has_number}
use Rattle.flat_laws.proofs.Pushes.{unequal}
use Rattle.flat_laws.proofs.Items.{number_of, name_new, found-append, or_bound}
use Rattle.flat_laws.proofs.Roles.{IsList, counted, Writable, in_packet, in_switch, written_name, IsSensor, cell_name}
use Rattle.flat_laws.proofs.Suits.{AreLists}
use Rattle.flat_laws.proofs.Typed.{stmt_suits}
use Rattle.flat_laws.proofs.Values.{IsReady, name_other, kept_found}
use Rattle.flat_laws.proofs.FineSites.{expr_site, stmt_site}
use Rattle.flat_laws.proofs.FineNames.{anyhop, flat_sight, IsNumbered, numbered_role, count_numbered, item_numbered, scalar_numbered, same_role, no_item, list_role, ReadsAs, IsPlaced, PlacedAt, Placed, target_as}
use Rattle.flat_laws.proofs.FineExprs.{read_fine, byte_fine, count_kind, has_item_fine, all_fine, closed, width_alike, fine_expr, fine_exprs, kind_same, count_same}

-- ---- items of loops

list_kind : (ds : List Decl) (l : List ℕ) (is : IsList ds l) → list_item ds l ≡ kind_of is.item
list_kind ds l is = ap item_kind is.found ∙ ap shape_item is.shape

-- lists with a place for the turn
abbrev Roomy : List Decl → (k : ℕ) → List (List ℕ) → Type 0
Roomy ds k [] = Unit {0}
Roomy ds k (l ∷ ls) = (is : IsList ds l) × (k < is.size) × Roomy ds k ls

module _ (g : Sight) (r : IsReady g.decls) where
  abbrev ds : List Decl
  ds = g.decls

  abbrev F : Sight
  F = flat_sight g r

  abbrev inside : List Around → Sight
  inside ls = record g { loops = ls }

  placed_step : (b : Bool) (l : List ℕ) (q : Option Kind) (c : Option Bound) (x : List ℕ) (k : ℕ) (is : IsList ds l) → k < is.size → PlacedAt g r q c
      → PlacedAt g r (cond b (Some (list_item ds l)) q) (cond b (Some (record { name = x; list = list_number ds l; turn = k })) c)
  placed_step true l q c x k is lt p = record { name = l; is = is; number = number_of ds l is; within = lt; kind = list_kind ds l is }
  placed_step false l q c x k is lt p = p

  turn_placed : (ns lists : List (List ℕ)) (k : ℕ) → length ns ≡ length lists → Roomy ds k lists → (x : List ℕ) → PlacedAt g r (item_in ds ns lists x) (found (bound_to ns (map (list_number ds) lists) k) x)
  turn_placed [] lists k e h x = tt
  turn_placed (n ∷ ns) [] k e h x = absurd (omega arith)
  turn_placed (n ∷ ns) (l ∷ lists) k e h x = placed_step (same_text n x) l (item_in ds ns lists x) (found (bound_to ns (map (list_number ds) lists) k) x) n k h.0 h.1 (turn_placed ns lists k (omega arith) h.2 x)

  placed_or : (k o : Option Kind) (b c : Option Bound) → PlacedAt g r k b → PlacedAt g r o c → ((i : Kind) → k ≡ Some i → o ≡ None) → PlacedAt g r (or_else k o) (or_bound c b)
  placed_or None None None None p q new = tt
  placed_or None (Some o) None (Some c) p q new = q
  placed_or (Some k) None (Some b) None p q new = p
  placed_or (Some k) (Some o) b c p q new = absurd (let n : Some o ≡ None = new k refl in cc)
  placed_or None o (Some b) c p q new = absurd p
  placed_or (Some k) o None c p q new = absurd p
  placed_or k None b (Some c) p q new = absurd q
  placed_or k (Some o) b None p q new = absurd q

  placed_inside : (ls : List Around) (ns lists : List (List ℕ)) (bs : List Bound) (k : ℕ) → repeats (inside ls) ns ≡ false → length ns ≡ length lists → Roomy ds k lists → Placed g r ls bs
      → Placed g r ((record { names = ns; lists = lists }) ∷ ls) (bs ++ bound_to ns (map (list_number ds) lists) k)
  placed_inside ls ns lists bs k new even room p =
      record {
        at = λ x.
            subst (λ o. PlacedAt g r (or_else (item_in ds ns lists x) (item_of ds ls x)) o) (sym (found-append bs (bound_to ns (map (list_number ds) lists) k) x))
            (placed_or (item_in ds ns lists x) (item_of ds ls x) (found (bound_to ns (map (list_number ds) lists) k) x) (found bs x)
            (turn_placed ns lists k even room x) (p.at x) (λ i e. name_new (inside ls) ns lists x i new e));
      }

  pub no_placed : Placed g r [] []
  no_placed = record { at = λ x. tt }

  size_is : (l : List ℕ) (is : IsList ds l) → size_of ds l ≡ is.size
  size_is l is = ap size_in is.found ∙ ap shape_size is.shape

  roomy : (ls : List Around) (lists : List (List ℕ)) (k : ℕ) → AreLists (inside ls) lists → k < smallest ds lists → Roomy ds k lists
  roomy ls [] k a lt = tt
  roomy ls (l ∷ []) k a lt = let is = counted (inside ls) l a.0 a.1 in (is, omega (arith, lt, size_is l is), tt)
  roomy ls (l ∷ m ∷ lists) k a lt = let is = counted (inside ls) l a.0 a.1 in (is, omega (arith, lt, size_is l is), roomy ls (m ∷ lists) k a.2 (omega arith))

  -- ---- new statements

  blocks_fine : (a b : List Stmt) → Fine (block_sites F (block_from a)) → Fine (block_sites F (block_from b)) → Fine (block_sites F (block_from (a ++ b)))
  blocks_fine [] b f h = h
  blocks_fine (s ∷ a) b f h = (f.0, blocks_fine a b f.1 h)

  assign_fine : (p : ℕ) (q : List ℕ) (t : Ty) (e : Expr) → IsNumbered g r q t → Fine (expr_sites F (kind_of t) e) → Fine (stmt_sites F (assign p q e))
  assign_fine p q t e n f =
      let role = numbered_role g r q t n in (
        stmt_site F (assign p q e) refl (ap is_missing role) (ap (λ c. not (reads c)) role) (ap (λ c. not (writable c)) role) refl refl refl,
        subst (λ k. Fine (expr_sites F k e)) (sym (ap read_kind role)) f,
      )

  choice_fine : (p : ℕ) (t : Expr) (a b : Stmts) → Fine (expr_sites F Truth t) → Fine (block_sites F a) → Fine (block_sites F b) → Fine (stmt_sites F (choice p t a b))
  choice_fine p t a b f x y = (stmt_site F (choice p t a b) refl refl refl refl refl refl refl, (f, (x, y)))

  equal_fine : (p v i : ℕ) → IsNumbered g r (count_name v) (ty.Bit 8) → i < 256 → Fine (expr_sites F Truth (binary p Equal (read p (count_name v)) (byte p i)))
  equal_fine p v i n lt =
      let place : join (own F (read p (count_name v))) (Number 8) ≡ Number 8 = ap (λ q. join q (Number 8)) (count_kind g r p (count_name v) n) in (
        expr_site F Truth (binary p Equal (read p (count_name v)) (byte p i)) refl refl refl refl refl,
        (
          subst (λ q. Fine (expr_sites F q (read p (count_name v)))) (sym place) (read_fine g r p (count_name v) (ty.Bit 8) n),
          subst (λ q. Fine (expr_sites F q (byte p i))) (sym place) (byte_fine g r p i lt),
        ),
      )

  less_fine : (p v i : ℕ) → IsNumbered g r (count_name v) (ty.Bit 8) → i < 256 → Fine (expr_sites F Truth (binary p Less (read p (count_name v)) (byte p i)))
  less_fine p v i n lt =
      let place : as_number (join (own F (read p (count_name v))) (Number 8)) ≡ Number 8 = ap (λ q. as_number (join q (Number 8))) (count_kind g r p (count_name v) n) in (
        expr_site F Truth (binary p Less (read p (count_name v)) (byte p i)) refl refl refl refl refl,
        (
          subst (λ q. Fine (expr_sites F q (read p (count_name v)))) (sym place) (read_fine g r p (count_name v) (ty.Bit 8) n),
          subst (λ q. Fine (expr_sites F q (byte p i))) (sym place) (byte_fine g r p i lt),
        ),
      )

  sum_fine : (p v : ℕ) → IsNumbered g r (count_name v) (ty.Bit 8) → Fine (expr_sites F (Number 8) (binary p Add (read p (count_name v)) (byte p 1)))
  sum_fine p v n =
      let kind = count_kind g r p (count_name v) n in
      let place : like_want (own F (read p (count_name v))) (Number 8) (Number 8) ≡ Number 8 = ap (λ q. like_want q (Number 8) (Number 8)) kind in
      let whole : as_number (join (own F (read p (count_name v))) (Number 8)) ≡ Number 8 = ap (λ q. as_number (join q (Number 8))) kind in (
        expr_site F (Number 8) (binary p Add (read p (count_name v)) (byte p 1)) refl (ap (λ q. widths_differ q (Number 8)) whole) (ap (λ q. kinds_differ q (Number 8) || false) whole) refl refl,
        (
          subst (λ q. Fine (expr_sites F q (read p (count_name v)))) (sym place) (read_fine g r p (count_name v) (ty.Bit 8) n),
          subst (λ q. Fine (expr_sites F q (byte p 1))) (sym place) (byte_fine g r p 1 (omega arith)),
        ),
      )

  nothing_number : (p w : ℕ) → 1 ≤ w → w ≤ 128 → Fine (expr_sites F (Number w) (num p (record { width = w; value = 0 })))
  nothing_number p w lo hi =
      let some : nat_eq w 0 ≡ false = unequal w 0 (λ e. omega arith) in
      expr_site F (Number w) (num p (record { width = w; value = 0 })) refl
      (width_alike w (not (nat_eq w 0)))
      (ap (λ b. nat_eq (cond b w w) 0) some ∙ some)
      refl
      (ap (λ b. too_wide (cond b w w) 0) some
      ∙ ap (λ b. not b && (nat_lt 128 w || not (nat_lt 0 (2 ^ w)))) some
      ∙ ap₂ (λ c d. c || not d) (le-ltb 128 w hi) (lt-ltb 0 (2 ^ w) (pow_pos w)))

  nothing_fine : (p : ℕ) (t : Ty) → 1 ≤ width_of t → width_of t ≤ 128 → Fine (expr_sites F (kind_of t) (nothing p t))
  nothing_fine p (ty.Bit w) lo hi = nothing_number p w lo hi
  nothing_fine p ty.Bool lo hi = expr_site F Truth (flag p false) refl refl refl refl refl

  -- ---- pushes

  module _ (p : ℕ) (x : List ℕ) (l : IsList ds x) (v : ℕ) (number : variable_number ds x ≡ Some v) where
    counts_n : IsNumbered g r (count_name v) (ty.Bit 8)
    counts_n = count_numbered g r x l v number

    item_n : (i : ℕ) → i < l.size → IsNumbered g r (item_name v i) l.item
    item_n i lt = item_numbered g r x l v number i lt

    small : l.size ≤ 255
    small = r.small x l.decl l.item l.size l.found l.shape

    moves_fine : (m : ℕ) → m < l.size → (n : ℕ) → n ≤ m → Fine (block_sites F (block_from (moves p v m n)))
    moves_fine m lm zero ln = tt
    moves_fine m lm (suc i) ln =
        let here = small in
        blocks_fine (moves p v m i) (move p v m i ∷ []) (moves_fine m lm i (omega arith)) (
          choice_fine p (binary p Equal (read p (count_name v)) (byte p i)) (next (assign p (item_name v i) (read p (item_name v m))) done) done
              (equal_fine p v i counts_n (omega arith))
              (assign_fine p (item_name v i) l.item (read p (item_name v m)) (item_n i (omega arith)) (read_fine g r p (item_name v m) l.item (item_n m lm)), tt)
              tt,
          tt,
        )

    pushed_fine : (e : Expr) (n : ℕ) → n ≡ l.size → Fine (expr_sites F (kind_of l.item) e) → Fine (block_sites F (block_from (push_to p e v n l.item)))
    pushed_fine e zero z f = tt
    pushed_fine e (suc m) z f =
        let here = small in
        let wide = r.wide x l.decl l.item l.size l.found l.shape in
        let lm : m < l.size = omega arith in
        let ends : List Stmt = clear p v m l.item ∷ count_more p v ∷ [] in
        let ends_fine : Fine (block_sites F (block_from ends)) = (
          choice_fine p (binary p Less (read p (count_name v)) (byte p m)) (next (assign p (item_name v m) (nothing p l.item)) done) done
              (less_fine p v m counts_n (omega arith))
              (assign_fine p (item_name v m) l.item (nothing p l.item) (item_n m lm) (nothing_fine p l.item wide.0 wide.1), tt)
              tt,
          (assign_fine p (count_name v) (ty.Bit 8) (binary p Add (read p (count_name v)) (byte p 1)) counts_n (sum_fine p v counts_n), tt),
        ) in (
          choice_fine p (binary p Less (read p (count_name v)) (byte p (suc m))) (block_from (pushed p e v m l.item)) done
              (less_fine p v (suc m) counts_n (omega arith))
              (blocks_fine (assign p (item_name v m) e ∷ moves p v m m) ends
              (assign_fine p (item_name v m) l.item e (item_n m lm) f, moves_fine m lm m (omega arith))
              ends_fine)
              tt,
          tt,
        )

  -- ---- loops

  each_count : (ls : List Around) (lists : List (List ℕ)) → AreLists (inside ls) lists → Each (λ v. IsNumbered g r (count_name v) (ty.Bit 8)) (map (list_number ds) lists)
  each_count ls [] a = tt
  each_count ls (l ∷ lists) a = let is = counted (inside ls) l a.0 a.1 in (count_numbered g r l is (list_number ds l) (number_of ds l is), each_count ls lists a.2)

  guard_fine : (p : ℕ) (ls : List Around) (lists : List (List ℕ)) (i : ℕ) → AreLists (inside ls) lists → i < 256 → Fine (expr_sites F Truth (all_have p (distinct (map (list_number ds) lists)) i))
  guard_fine p ls lists i a lt =
      let vs : List ℕ = distinct (map (list_number ds) lists) in
      let each : Each (λ v. IsNumbered g r (count_name v) (ty.Bit 8)) vs = each_behind (λ v. IsNumbered g r (count_name v) (ty.Bit 8)) [] (map (list_number ds) lists) tt (each_count ls lists a) in
      all_fine g r p vs i (λ k u lk uk. has_item_fine g r p (slice_index vs k) i u (each_at (λ v. IsNumbered g r (count_name v) (ty.Bit 8)) vs k lk each) lt uk)

  smallest_small : (ls : List Around) (lists : List (List ℕ)) → AreLists (inside ls) lists → smallest ds lists ≤ 255
  smallest_small ls [] a = omega arith
  smallest_small ls (l ∷ []) a = let is = counted (inside ls) l a.0 a.1 in let s = r.small l is.decl is.item is.size is.found is.shape in omega (arith, s, size_is l is)
  smallest_small ls (l ∷ m ∷ lists) a = let is = counted (inside ls) l a.0 a.1 in let s = r.small l is.decl is.item is.size is.found is.shape in omega (arith, s, size_is l is)

  turns_fine : (p : ℕ) (body : List Bound → List Stmt) (ns lists : List (List ℕ)) (ls : List Around) (bs : List Bound) → AreLists (inside ls) lists
      → ((k : ℕ) → k < smallest ds lists → Fine (block_sites F (block_from (body (bs ++ bound_to ns (map (list_number ds) lists) k)))))
      → (k : ℕ) → k ≤ smallest ds lists → Fine (block_sites F (block_from (turns p body ns (map (list_number ds) lists) bs k)))
  turns_fine p body ns lists ls bs a h zero le = tt
  turns_fine p body ns lists ls bs a h (suc k) le =
      blocks_fine (turns p body ns (map (list_number ds) lists) bs k) (choice p (all_have p (distinct (map (list_number ds) lists)) k) (block_from (body (bs ++ bound_to ns (map (list_number ds) lists) k))) done ∷ [])
      (turns_fine p body ns lists ls bs a h k (omega arith)) (
        choice_fine p (all_have p (distinct (map (list_number ds) lists)) k) (block_from (body (bs ++ bound_to ns (map (list_number ds) lists) k))) done
            (guard_fine p ls lists k a (omega (arith, smallest_small ls lists a)))
            (h k (omega arith)) tt,
        tt,
      )

  -- ---- statements

  written_free : (ls : List Around) (x : List ℕ) → writable (role_of (inside ls) x) ≡ true → item_of ds ls x ≡ None
  written_free ls x w = no_item g r writable (λ k. refl) (item_of ds ls x) (builtin_of x) (lookup ds x) w

  still_written : (ls : List Around) (x : List ℕ) → writable (role_of (inside ls) x) ≡ true → Writable ds x → writable (role_of F (target ds x)) ≡ true
  still_written ls x w (in_packet d t e k q) =
      let m = has_number ds 0 x d e in
      let named : target ds x ≡ item_name m.0 0 = ap₂ (λ o p. name_in o p x) m.1 e ∙ ap (λ c. name_of_kind c m.0 x) k in
      ap (λ y. writable (role_of F y)) named ∙ ap writable (numbered_role g r (item_name m.0 0) t (scalar_numbered g r x d t m.0 e k q m.1))
  still_written ls x w (in_switch d e k) =
      let ne : d.kind ≡ Tele → ⊥ = λ h. let c : Sensor ≡ Tele = sym k ∙ h in cc in
      let named : target ds x ≡ x = ap (λ o. name_in (variable_number ds x) o x) e ∙ name_other (variable_number ds x) d x ne in
      ap (λ y. writable (role_of F y)) named ∙ ap writable (same_role g r ls x (written_free ls x w) (kept_found g r anyhop x (record { decl = d; found = e; kind = ne }))) ∙ w

  cell_role : (ls : List Around) (x : List ℕ) → writable (role_of (inside ls) x) ≡ true → IsSensor ds x → role_of F x ≡ role_of (inside ls) x
  cell_role ls x w s =
      same_role g r ls x (written_free ls x w) (kept_found g r anyhop x (record { decl = s.decl; found = s.found; kind = λ h. let c : Sensor ≡ Tele = sym s.kind ∙ h in cc }))

  push_kind : (ls : List Around) (x : List ℕ) (l : IsList ds x) → counts (role_of (inside ls) x) ≡ true → push_want (role_of (inside ls) x) ≡ kind_of l.item
  push_kind ls x l c =
      ap push_want (list_role g r ls x l (no_item g r counts (λ k. refl) (item_of ds ls x) (builtin_of x) (lookup ds x) c)) ∙ ap shape_item l.shape

  mutual
    fine_stmt : (c : Stmt) (ls : List Around) (bs : List Bound) → Placed g r ls bs → Fine (stmt_sites (inside ls) c) → Fine (block_sites F (block_from (flat_stmt ds c bs)))
    fine_stmt (assign p x e) ls bs q f =
        let u = stmt_suits (assign p x e) (inside ls) f in
        let a = target_as g r ls x u.0 u.1 (written_free ls x u.2) in
        let w = still_written ls x u.2 (written_name (inside ls) x u.0 u.1 u.2) in (
          (
            stmt_site F (assign p (target ds x) (flat_expr ds bs e)) refl a.known (ap (λ b. not b) a.used) (ap (λ b. not b) w) refl refl refl,
            subst (λ k. Fine (expr_sites F k (flat_expr ds bs e))) (sym a.kind) (fine_expr g r ls bs q e (read_kind (role_of (inside ls) x)) f.1),
          ),
          tt,
        )
    fine_stmt (cell p x i e) ls bs q f =
        let u = stmt_suits (cell p x i e) (inside ls) f in
        let role = cell_role ls x u.2 (cell_name (inside ls) x r.shapely u.0 u.1 u.2) in
        let o : own F (flat_expr ds bs i) ≡ own (inside ls) i = kind_same g r ls bs q i u.3 in (
          (
            stmt_site F (cell p x (flat_expr ds bs i) (flat_expr ds bs e)) refl (ap is_missing role ∙ u.0) (ap (λ c. not (may_index c)) role ∙ f.0 KindDiffers) (ap (λ c. not (writable c)) role ∙ f.0 NotWritable) refl refl refl,
            (
              subst (λ k. Fine (expr_sites F (as_number (join k (Number 128))) (flat_expr ds bs i))) (sym o) (fine_expr g r ls bs q i (as_number (join (own (inside ls) i) (Number 128))) f.1.0),
              subst (λ k. Fine (expr_sites F k (flat_expr ds bs e))) (sym (ap index_kind role)) (fine_expr g r ls bs q e (index_kind (role_of (inside ls) x)) f.1.1),
            ),
          ),
          tt,
        )
    fine_stmt (push p x e) ls bs q f =
        let u = stmt_suits (push p x e) (inside ls) f in
        let l = counted (inside ls) x u.0 u.1 in
        let m = has_number ds 0 x l.decl l.found in
        let place : list_of ds x ≡ Some (record { number = m.0; item = l.item; size = l.size }) = ap₂ list_in m.1 l.found ∙ ap (list_of_shape m.0) l.shape in
        let value : Fine (expr_sites F (kind_of l.item) (flat_expr ds bs e)) = subst (λ k. Fine (expr_sites F k (flat_expr ds bs e))) (push_kind ls x l u.1) (fine_expr g r ls bs q e (push_want (role_of (inside ls) x)) f.1) in
        subst (λ o. Fine (block_sites F (block_from (flat_push p (flat_expr ds bs e) o)))) (sym place) (pushed_fine p x l m.0 m.1 (flat_expr ds bs e) l.size refl value)
    fine_stmt (choice p t a b) ls bs q f =
        (choice_fine p (flat_expr ds bs t) (block_from (flat_block ds a bs)) (block_from (flat_block ds b bs)) (fine_expr g r ls bs q t Truth f.1.0) (fine_block a ls bs q f.1.1.0) (fine_block b ls bs q f.1.1.1), tt)
    fine_stmt (loop p ns lists a) ls bs q f =
        let u = stmt_suits (loop p ns lists a) (inside ls) f in
        turns_fine p (flat_block ds a) ns lists ls bs u.2
        (λ k lt. fine_block a ((record { names = ns; lists = lists }) ∷ ls) (bs ++ bound_to ns (map (list_number ds) lists) k) (placed_inside ls ns lists bs k u.0 u.1 (roomy ls lists k u.2 lt) q) f.1)
        (smallest ds lists) (omega arith)
    fine_stmt (reject p) ls bs q f = (stmt_site F (reject p) refl refl refl refl (f WrongBlock) refl refl, tt)
    fine_stmt (report p n es) ls bs q f =
        ((stmt_site F (report p n (flat_exprs ds bs es)) refl refl refl refl (f.0 WrongBlock) refl (ap (nat_lt 8) (count_same g r ls bs q es) ∙ f.0 BadSize), fine_exprs g r ls bs q es free f.1), tt)

    pub fine_block : (c : Stmts) (ls : List Around) (bs : List Bound) → Placed g r ls bs → Fine (block_sites (inside ls) c) → Fine (block_sites F (block_from (flat_block ds c bs)))
    fine_block done ls bs q f = tt
    fine_block (next c rest) ls bs q f = blocks_fine (flat_stmt ds c bs) (flat_block ds rest bs) (fine_stmt c ls bs q f.0) (fine_block rest ls bs q f.1)
