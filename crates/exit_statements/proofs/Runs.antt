-- Statements without exits do what the given statements do, and the flags say how those ended.
use Rattle.std.proofs.Common.{◌≡◌, ℕ, List, [], ◌∷◌, Bool, true, false, not, ◌||◌, cond, Option, Some, None, refl, sym, ap, ◌∙◌, subst}
use Rattle.std.specs.Prelude.{if◌then◌else◌}
use Rattle.bit_values.specs.Bits.{Word}
use Rattle.bit_values.specs.Widths.{bit, holds}
use Rattle.lex_text.specs.Names.{same_text, same_path}
use Rattle.p4_tree.specs.Tree.{Expr, Stmt, Stmts, MaybeStmt, nothing, block, var, assign, choice, return_, exit_, call, done, next, without, otherwise}
use Rattle.p4_meaning.specs.Store.{set_value}
use Rattle.p4_meaning.specs.Value.{value_of}
use Rattle.p4_meaning.specs.Statements.{Flow, Go, Return, Exit, Run, Ended, after, in_store, Calls, Act, makes, drops, reads, writes, tells, sums, runs, applies, idle, act_of, application, done_by, tested_by, tested, start_of, meaning_of_stmt, meaning_of_else, meaning_of}
use Rattle.exit_statements.specs.Without.{Body, Flags, flag_of, guarded, Exits, table_leaves, test_leaves, call_leaves, stmt_leaves, else_leaves, stmts_leave, is_var, in_list, in_branch, stmt_without, else_without, stmts_without}
use Rattle.exit_statements.specs.Free.{Hides, HidesFlags, is_flag, shows, IsFreeExpr, IsFreeAct, hides_behind, IsFreeStmt, IsFreeElse, AreFreeStmts}
use Rattle.exit_statements.specs.Alike.{Alike, Stays, has_left, Tell, hidden_by, Ends, Tests, Agrees}
use Rattle.exit_statements.proofs.Values.{path_decides, text_decides, not_both, apart, stays_same, stays_then, value_alike, start_alike, ran_same, assigned_ran, cells_ran, tells_ran, makes_ran, drops_ran, reads_ran, sum_ran}
use Rattle.exit_statements.proofs.Guards.{flag_stays, tell_stays, weaker, alike_then, also_plain, went, after_done, guard_is, return_ends, exit_ends}

-- a kind of what hides that stays when a name is shown that may be declared
abbrev StaysShown : (kind : Hides → Type 0) (may : List ℕ → Bool) → Type 0
StaysShown kind may = (hides : Hides) (x : List ℕ) → may x ≡ true → kind hides → kind (shows hides x)

pub or_left : (a b : Bool) → (a || b) ≡ false → a ≡ false
or_left true b h = absurd (cc h)
or_left false b h = refl

pub or_right : (a b : Bool) → (a || b) ≡ false → b ≡ false
or_right true b h = absurd (cc h)
or_right false b h = h

pub or_true : (a : Bool) → (a || true) ≡ true
or_true true = refl
or_true false = refl

-- ---- what is hidden

-- a variable that is shown was hidden or not
pub shown_less : (hides : Hides) (x : List ℕ) (q : List (List ℕ)) → hides q ≡ false → shows hides x q ≡ false
shown_less hides x q o = go (same_path (x ∷ []) q)
  where
    go : (b : Bool) → cond b false (hides q) ≡ false
    go true = refl
    go false = o

first_of : (x y : List ℕ) → (x ∷ []) ≡ (y ∷ []) → x ≡ y
first_of x y e = cc e

-- variables of other names are other paths
pub others : (y x : List ℕ) → same_text y x ≡ false → same_path (x ∷ []) (y ∷ []) ≡ false
others y x h = go (same_path (x ∷ []) (y ∷ [])) refl
  where
    go : (b : Bool) → same_path (x ∷ []) (y ∷ []) ≡ b → b ≡ false
    go true e = not_both (same_text y x) ((text_decides y x).1 (sym (first_of x y ((path_decides (x ∷ []) (y ∷ [])).0 e)))) h
    go false e = refl

-- the flags stay hidden
pub shown_flags : (n : Flags) (hides : Hides) (x : List ℕ) → is_flag n x ≡ false → HidesFlags n hides → HidesFlags n (shows hides x)
shown_flags n hides x plain f =
    record {
      left = ap (λ b. cond b false (hides (n.left ∷ []))) (others n.left x (or_left (same_text n.left x) _ plain)) ∙ f.left;
      returned = ap (λ b. cond b false (hides (n.returned ∷ []))) (others n.returned x (or_right (same_text n.left x) _ plain)) ∙ f.returned;
      long = λ y z rest. shown_less hides x (y ∷ z ∷ rest) (f.long y z rest);
      empty = shown_less hides x [] f.empty;
    }

-- ---- behind a statement that has left, the rest of a list does nothing but set variables that are hidden

-- behind a statement no more is hidden
pub behind_less : (hides : Hides) (s : Stmt) (q : List (List ℕ)) → hides q ≡ false → hides_behind hides s q ≡ false
behind_less hides (nothing p) q o = o
behind_less hides (block p ss) q o = o
behind_less hides (var p ty x e) q o = shown_less hides x q o
behind_less hides (assign p target e) q o = o
behind_less hides (choice p e s t) q o = o
behind_less hides (return_ p) q o = o
behind_less hides (exit_ p) q o = o
behind_less hides (call p callee args) q o = o

-- and the flags still are
pub behind_flags : (n : Flags) (may : List ℕ → Bool) (hides : Hides) (s : Stmt) → IsFreeStmt n may hides s → HidesFlags n hides → HidesFlags n (hides_behind hides s)
behind_flags n may hides (nothing p) o f = f
behind_flags n may hides (block p ss) o f = f
behind_flags n may hides (var p ty x e) o f = shown_flags n hides x o.0.plain f
behind_flags n may hides (assign p target e) o f = f
behind_flags n may hides (choice p e s t) o f = f
behind_flags n may hides (return_ p) o f = f
behind_flags n may hides (exit_ p) o f = f
behind_flags n may hides (call p callee args) o f = f

pub record Skips (n : Flags) (hides : Hides) (b : Run) (y : Ended) : Type 0 where
  pub alike : Alike hides b y.0
  pub stays : Stays n b y.0
  pub goes : y.1 ≡ Go

skips_same : (n : Flags) (hides : Hides) (b : Run) → b.store.headers [] ≡ None → Skips n hides b (b, Go)
skips_same n hides b none = record { alike = record { values = λ q o. refl; headers = refl; plain = none; cells = refl; digests = refl }; stays = stays_same n b; goes = refl }

skips_then : (n : Flags) (hides : Hides) (b : Run) (y : Ended) (g : Run → Ended) → Skips n hides b y → Skips n hides y.0 (g y.0) → Skips n hides b (after y.1 y.0 g)
skips_then n hides b y g h k =
    let all : Skips n hides b (g y.0) = record { alike = alike_then hides b y.0 (g y.0).0 h.alike k.alike; stays = stays_then n b y.0 (g y.0).0 h.stays k.stays; goes = k.goes } in
    subst (λ f. Skips n hides b (after f y.0 g)) (sym h.goes) all

skips_weaker : (n : Flags) (some more : Hides) (b : Run) (y : Ended) → ((q : List (List ℕ)) → more q ≡ false → some q ≡ false) → Skips n some b y → Skips n more b y
skips_weaker n some more b y le h = record { alike = weaker some more b y.0 le h.alike; stays = h.stays; goes = h.goes }

-- ---- a statement that cannot leave goes on

after_stays : (f : Flow) (r : Run) (g : Run → Ended) → f ≡ Go → ((r : Run) → (g r).1 ≡ Go) → (after f r g).1 ≡ Go
after_stays Go r g e h = h r
after_stays Return r g e h = absurd (cc e)
after_stays Exit r g e h = absurd (cc e)

cond_stays : (t : Bool) (x y : Ended) → x.1 ≡ Go → y.1 ≡ Go → (cond t x y).1 ≡ Go
cond_stays true x y h k = h
cond_stays false x y h k = k

module _ (n : Flags) (body : Body) (kind : Hides → Type 0) (may : List ℕ → Bool) (m : Exits) (c d : Calls) (agree : Agrees n body kind m c d) where
  tested_stays : (t : Option (List ℕ × Bool)) (e : Expr) (r : Run) → table_leaves m t ≡ false → (tested_by c t e r).flow ≡ Go
  tested_stays None e r h = refl
  tested_stays (Some t) e r h = agree.apply_stays t.0 r h

  call_stays : (k : Act) (r : Run) → call_leaves m k ≡ false → (done_by c k r).1 ≡ Go
  call_stays (makes x b) r h = refl
  call_stays drops r h = refl
  call_stays (reads x t i) r h = refl
  call_stays (writes x i v) r h = refl
  call_stays (tells x es) r h = refl
  call_stays (sums b e es p) r h = refl
  call_stays (runs x es) r h = agree.call_stays x es r h
  call_stays (applies t) r h = agree.apply_stays t r h
  call_stays idle r h = refl

  mutual
    stmt_stays : (s : Stmt) (r : Run) → stmt_leaves m s ≡ false → (meaning_of_stmt c s r).1 ≡ Go
    stmt_stays (nothing p) r h = refl
    stmt_stays (block p ss) r h = stmts_stay ss r h
    stmt_stays (var p ty x e) r h = refl
    stmt_stays (assign p target e) r h = refl
    stmt_stays (choice p e s t) r h =
        after_stays (tested c e r).flow (tested c e r).run _ (tested_stays (application e) e r (or_left (test_leaves m e) _ h))
        (λ q. cond_stays (tested c e r).hit (meaning_of_stmt c s q) (meaning_of_else c t q) (stmt_stays s q (or_left (stmt_leaves m s) _ (or_right (test_leaves m e) _ h))) (else_stays t q (or_right (stmt_leaves m s) _ (or_right (test_leaves m e) _ h))))
    stmt_stays (return_ p) r h = absurd (cc h)
    stmt_stays (exit_ p) r h = absurd (cc h)
    stmt_stays (call p callee args) r h = call_stays (act_of callee args) r h

    else_stays : (s : MaybeStmt) (r : Run) → else_leaves m s ≡ false → (meaning_of_else c s r).1 ≡ Go
    else_stays without r h = refl
    else_stays (otherwise s) r h = stmt_stays s r h

    pub stmts_stay : (ss : Stmts) (r : Run) → stmts_leave m ss ≡ false → (meaning_of c ss r).1 ≡ Go
    stmts_stay done r h = refl
    stmts_stay (next s ss) r h =
        after_stays (meaning_of_stmt c s r).1 (meaning_of_stmt c s r).0 (meaning_of c ss) (stmt_stays s r (or_left (stmt_leaves m s) _ h)) (λ q. stmts_stay ss q (or_right (stmt_leaves m s) _ h))

  -- ---- the rest of a list, where the flag is set

  guard_skips : (hides : Hides) (s : Stmt) (b : Run) → b.store.headers [] ≡ None → b.store.values (flag_of n body ∷ []) ≡ bit true → Skips n hides b (meaning_of_stmt d (guarded (flag_of n body) s) b)
  guard_skips hides s b none f = subst (Skips n hides b) (sym (guard_is d (flag_of n body) s true b none f)) (skips_same n hides b none)

  -- a declaration changes a hidden variable alone
  var_skips : (hides : Hides) (x : List ℕ) (w : Word) (b : Run) → is_flag n x ≡ false → hides (x ∷ []) ≡ true → b.store.headers [] ≡ None → Skips n hides b (in_store b (set_value b.store (x ∷ []) w), Go)
  var_skips hides x w b plain o none =
      record {
        alike = record { values = λ q u. ap (λ t. cond t w (b.store.values q)) (apart hides (x ∷ []) q o u); headers = refl; plain = none; cells = refl; digests = refl };
        stays = record {
          left = ap (λ t. cond t w (b.store.values (n.left ∷ []))) (others n.left x (or_left (same_text n.left x) _ plain));
          returned = ap (λ t. cond t w (b.store.values (n.returned ∷ []))) (others n.returned x (or_right (same_text n.left x) _ plain));
        };
        goes = refl;
      }

  one_skips : (hides : Hides) (s : Stmt) (b : Run) → IsFreeStmt n may hides s → b.store.headers [] ≡ None → b.store.values (flag_of n body ∷ []) ≡ bit true → Skips n hides b (meaning_of_stmt d (in_list n m body true (is_var s) (stmt_without n m body s)) b)
  one_skips hides (var p ty x e) b o none f = var_skips hides x (start_of ty e b.store) b o.0.plain o.0.hidden none
  one_skips hides (nothing p) b o none f = guard_skips hides (stmt_without n m body (nothing p)) b none f
  one_skips hides (block p ss) b o none f = guard_skips hides (stmt_without n m body (block p ss)) b none f
  one_skips hides (assign p target e) b o none f = guard_skips hides (stmt_without n m body (assign p target e)) b none f
  one_skips hides (choice p e s t) b o none f = guard_skips hides (stmt_without n m body (choice p e s t)) b none f
  one_skips hides (return_ p) b o none f = guard_skips hides (stmt_without n m body (return_ p)) b none f
  one_skips hides (exit_ p) b o none f = guard_skips hides (stmt_without n m body (exit_ p)) b none f
  one_skips hides (call p callee args) b o none f = guard_skips hides (stmt_without n m body (call p callee args)) b none f

  list_skips : (hides : Hides) (ss : Stmts) (b : Run) → AreFreeStmts n may hides ss → b.store.headers [] ≡ None → b.store.values (flag_of n body ∷ []) ≡ bit true → Skips n hides b (meaning_of d (stmts_without n m body true ss) b)
  list_skips hides done b o none f = skips_same n hides b none
  list_skips hides (next s ss) b o none f =
      let one = one_skips hides s b o.0 none f in
      let y = meaning_of_stmt d (in_list n m body true (is_var s) (stmt_without n m body s)) b in
      let rest = meaning_of d (stmts_without n m body true ss) in
      let more = list_skips (hides_behind hides s) ss y.0 o.1 (also_plain hides b y.0 one.alike) (flag_stays n body b y.0 one.stays ∙ f) in
      skips_then n hides b y rest one (skips_weaker n (hides_behind hides s) hides y.0 (rest y.0) (λ q u. behind_less hides s q u) more)

  -- ---- where the flag is not set

  guard_runs : (hides : Hides) (s : Stmt) (b : Run) → b.store.headers [] ≡ None → Tell n body Go b → meaning_of_stmt d (guarded (flag_of n body) s) b ≡ meaning_of_stmt d s b
  guard_runs hides s b none f = guard_is d (flag_of n body) s false b none f.guard

  list_runs : (g v : Bool) (s : Stmt) (b : Run) → b.store.headers [] ≡ None → Tell n body Go b → meaning_of_stmt d (in_list n m body g v s) b ≡ meaning_of_stmt d s b
  list_runs false v s b none f = refl
  list_runs true true s b none f = refl
  list_runs true false s b none f = guard_is d (flag_of n body) s false b none f.guard

  branch_runs : (g : Bool) (s : Stmt) (b : Run) → b.store.headers [] ≡ None → Tell n body Go b → meaning_of_stmt d (in_branch n m body g s) b ≡ meaning_of_stmt d s b
  branch_runs false s b none f = refl
  branch_runs true s b none f = after_done _ _ ∙ guard_is d (flag_of n body) s false b none f.guard

  branch_skips : (s : Stmt) (b : Run) → b.store.headers [] ≡ None → b.store.values (flag_of n body ∷ []) ≡ bit true → meaning_of_stmt d (in_branch n m body true s) b ≡ (b, Go)
  branch_skips s b none f = after_done _ _ ∙ guard_is d (flag_of n body) s true b none f

  else_skips : (s : MaybeStmt) (b : Run) → b.store.headers [] ≡ None → b.store.values (flag_of n body ∷ []) ≡ bit true → meaning_of_else d (else_without n m body true s) b ≡ (b, Go)
  else_skips without b none f = refl
  else_skips (otherwise s) b none f = branch_skips (stmt_without n m body s) b none f

  -- ---- one thing and then another

  then_ends : (now hides : Hides) (f f' : Flow) (a b : Run) (g h : Run → Ended) → Ends n body now hides (a, f) (b, f')
      → (Alike now a b → Tell n body Go b → Ends n body hides hides (g a) (h b))
      → (has_left f ≡ true → b.store.headers [] ≡ None → b.store.values (flag_of n body ∷ []) ≡ bit true → Skips n hides b (h b))
      → Ends n body hides hides (after f a g) (after f' b h)
  then_ends now hides Go f' a b g h e goes leaves = subst (λ k. Ends n body hides hides (g a) (after k b h)) (sym e.goes) (goes e.alike e.tell)
  then_ends now hides Return f' a b g h e goes leaves =
      let k = leaves refl (also_plain hides a b e.alike) e.tell.guard in
      let all : Ends n body hides hides (a, Return) (h b) = record { alike = alike_then hides a b (h b).0 e.alike k.alike; goes = k.goes; tell = tell_stays n body Return b (h b).0 k.stays e.tell } in
      subst (λ u. Ends n body hides hides (a, Return) (after u b h)) (sym e.goes) all
  then_ends now hides Exit f' a b g h e goes leaves =
      let k = leaves refl (also_plain hides a b e.alike) e.tell.guard in
      let all : Ends n body hides hides (a, Exit) (h b) = record { alike = alike_then hides a b (h b).0 e.alike k.alike; goes = k.goes; tell = tell_stays n body Exit b (h b).0 k.stays e.tell } in
      subst (λ u. Ends n body hides hides (a, Exit) (after u b h)) (sym e.goes) all

  -- what has left may leave
  leaves_so : (f : Flow) (g : Bool) → (g ≡ false → f ≡ Go) → has_left f ≡ true → g ≡ true
  leaves_so f true h l = refl
  leaves_so f false h l = not_both (has_left f) l (ap has_left (h refl))

  cond_ends : (now hides : Hides) (s t : Bool) (x x' y y' : Ended) → t ≡ s → Ends n body now hides x x' → Ends n body now hides y y' → Ends n body now hides (cond s x y) (cond t x' y')
  cond_ends now hides true true x x' y y' e h k = h
  cond_ends now hides false false x x' y y' e h k = k
  cond_ends now hides true false x x' y y' e h k = absurd (cc e)
  cond_ends now hides false true x x' y y' e h k = absurd (cc e)

  cond_skips : (hides : Hides) (t : Bool) (b : Run) (x y : Ended) → x ≡ (b, Go) → y ≡ (b, Go) → b.store.headers [] ≡ None → Skips n hides b (cond t x y)
  cond_skips hides true b x y h k none = subst (Skips n hides b) (sym h) (skips_same n hides b none)
  cond_skips hides false b x y h k none = subst (Skips n hides b) (sym k) (skips_same n hides b none)

  -- what is hidden behind a whole list is at least what is behind its parts
  ends_more : (now left hides : Hides) (x y : Ended) → ((q : List (List ℕ)) → hides q ≡ false → now q ≡ false) → ((q : List (List ℕ)) → hides q ≡ false → left q ≡ false) → Ends n body now left x y → Ends n body hides hides x y
  ends_more now left hides x y le le' e = record { alike = go x.1 e.alike; goes = e.goes; tell = e.tell }
    where
      go : (f : Flow) → Alike (hidden_by now left f) x.0 y.0 → Alike (hidden_by hides hides f) x.0 y.0
      go Go h = weaker now hides x.0 y.0 le h
      go Return h = weaker left hides x.0 y.0 le' h
      go Exit h = weaker left hides x.0 y.0 le' h

  module _ (two : same_path (n.returned ∷ []) (n.left ∷ []) ≡ false) (shown : StaysShown kind may) where
    test_ends : (hides : Hides) → HidesFlags n hides → kind hides → (t : Option (List ℕ × Bool)) (e : Expr) (a b : Run) → IsFreeExpr hides e → Alike hides a b → Tell n body Go b → Tests n body hides (tested_by c t e a) (tested_by d t e b)
    test_ends hides f k None e a b o h g = record { ends = went n body hides hides b a b (ran_same n hides a b h) g; hit = ap holds (value_alike hides a b h e 1 o) }
    test_ends hides f k (Some t) e a b o h g =
        let one = agree.apply hides f k t.0 a b h g in
        record { ends = one.ends; hit = ap (λ (v : Bool). if t.1 then v else not v) one.hit }

    act_ends : (hides : Hides) → HidesFlags n hides → kind hides → (k : Act) (a b : Run) → IsFreeAct hides k → Alike hides a b → Tell n body Go b → Ends n body hides hides (done_by c k a) (done_by d k b)
    act_ends hides f k (makes x t) a b o h g = went n body hides hides b _ _ (makes_ran n hides f x t a b h) g
    act_ends hides f k drops a b o h g = went n body hides hides b _ _ (drops_ran n hides f a b h) g
    act_ends hides f k (reads x t i) a b o h g = went n body hides hides b _ _ (reads_ran n hides f x t i a b o.0 o.1 h) g
    act_ends hides f k (writes x i v) a b o h g = went n body hides hides b _ _ (cells_ran n hides f x i v a b o.0 o.1 h) g
    act_ends hides f k (tells x es) a b o h g = went n body hides hides b _ _ (tells_ran n hides f x es a b o h) g
    act_ends hides f k (sums v e es p) a b o h g = went n body hides hides b _ _ (sum_ran n hides f v e es p a b o h) g
    act_ends hides f k (runs x es) a b o h g = agree.call hides f k x es a b o h g
    act_ends hides f k (applies t) a b o h g = (agree.apply hides f k t a b h g).ends
    act_ends hides f k idle a b o h g = went n body hides hides b a b (ran_same n hides a b h) g

    behind_kind : (hides : Hides) (s : Stmt) → IsFreeStmt n may hides s → kind hides → kind (hides_behind hides s)
    behind_kind hides (nothing p) o k = k
    behind_kind hides (block p ss) o k = k
    behind_kind hides (var p ty x e) o k = shown hides x o.0.may_be k
    behind_kind hides (assign p target e) o k = k
    behind_kind hides (choice p e s t) o k = k
    behind_kind hides (return_ p) o k = k
    behind_kind hides (exit_ p) o k = k
    behind_kind hides (call p callee args) o k = k

    -- a declaration in both: it shows what it declares
    var_ends : (hides : Hides) → HidesFlags n hides → (x : List ℕ) (v w : Word) (a b : Run) → is_flag n x ≡ false → Alike hides a b → w ≡ v → Tell n body Go b → Ends n body (shows hides x) hides (in_store a (set_value a.store (x ∷ []) v), Go) (in_store b (set_value b.store (x ∷ []) w), Go)
    var_ends hides f x v w a b plain h e g =
        record {
          alike = record { values = λ q u. one q (same_path (x ∷ []) q) refl u; headers = h.headers; plain = h.plain; cells = h.cells; digests = h.digests };
          goes = refl;
          tell = tell_stays n body Go b (in_store b (set_value b.store (x ∷ []) w)) stays g;
        }
      where
        one : (q : List (List ℕ)) (t : Bool) → same_path (x ∷ []) q ≡ t → cond (same_path (x ∷ []) q) false (hides q) ≡ false → cond (same_path (x ∷ []) q) w (b.store.values q) ≡ cond (same_path (x ∷ []) q) v (a.store.values q)
        one q true is u = ap (λ t. cond t w (b.store.values q)) is ∙ e ∙ sym (ap (λ t. cond t v (a.store.values q)) is)
        one q false is u = ap (λ t. cond t w (b.store.values q)) is ∙ h.values q (sym (ap (λ t. cond t false (hides q)) is) ∙ u) ∙ sym (ap (λ t. cond t v (a.store.values q)) is)

        stays : Stays n b (in_store b (set_value b.store (x ∷ []) w))
        stays =
            record {
              left = ap (λ t. cond t w (b.store.values (n.left ∷ []))) (others n.left x (or_left (same_text n.left x) _ plain));
              returned = ap (λ t. cond t w (b.store.values (n.returned ∷ []))) (others n.returned x (or_right (same_text n.left x) _ plain));
            }

    mutual
      pub stmt_ends : (s : Stmt) (hides : Hides) (a b : Run) → HidesFlags n hides → kind hides → IsFreeStmt n may hides s → Alike hides a b → Tell n body Go b → Ends n body (hides_behind hides s) hides (meaning_of_stmt c s a) (meaning_of_stmt d (stmt_without n m body s) b)
      stmt_ends (nothing p) hides a b f k o h g = went n body hides hides b a b (ran_same n hides a b h) g
      stmt_ends (block p ss) hides a b f k o h g = list_ends ss false hides a b f k o h g
      stmt_ends (var p ty x e) hides a b f k o h g = var_ends hides f x (start_of ty e a.store) (start_of ty e b.store) a b o.0.plain h (start_alike hides a b h e ty o.1) g
      stmt_ends (assign p target e) hides a b f k o h g =
          let width = ap (λ (w : Word). w.width) (h.values target o.0) in
          let same = ap (λ i. value_of e i b.store) width ∙ value_alike hides a b h e (a.store.values target).width o.1 in
          went n body hides hides b _ _ (assigned_ran n hides f a b target _ _ o.0 h same) g
      stmt_ends (choice p e s t) hides a b f k o h g =
          let one = test_ends hides f k (application e) e a b o.0 h g in
          let l = test_leaves m e in
          let x = tested c e a in
          let y = tested d e b in
          then_ends hides hides x.flow y.flow x.run y.run _ _ one.ends
          (λ h' g'. cond_ends hides hides x.hit y.hit _ _ _ _ one.hit
          (ends_more (hides_behind hides s) hides hides _ _ (λ q u. behind_less hides s q u) (λ q u. u)
          (subst (Ends n body (hides_behind hides s) hides (meaning_of_stmt c s x.run)) (sym (branch_runs l (stmt_without n m body s) y.run (also_plain hides x.run y.run h') g')) (stmt_ends s hides x.run y.run f k o.1 h' g')))
          (else_ends t l hides x.run y.run f k o.2 h' g'))
          (λ left none u. subst (λ l. Skips n hides y.run (cond y.hit (meaning_of_stmt d (in_branch n m body l (stmt_without n m body s)) y.run) (meaning_of_else d (else_without n m body l t) y.run))) (sym (leaves_so x.flow l (tested_stays (application e) e a) left))
          (cond_skips hides y.hit y.run _ _ (branch_skips (stmt_without n m body s) y.run none u) (else_skips t y.run none u) none))
      stmt_ends (return_ p) hides a b f k o h g = return_ends n two hides hides f body d a b h g
      stmt_ends (exit_ p) hides a b f k o h g = exit_ends n two hides hides f body d a b h g
      stmt_ends (call p callee args) hides a b f k o h g = act_ends hides f k (act_of callee args) a b o h g

      else_ends : (s : MaybeStmt) (l : Bool) (hides : Hides) (a b : Run) → HidesFlags n hides → kind hides → IsFreeElse n may hides s → Alike hides a b → Tell n body Go b → Ends n body hides hides (meaning_of_else c s a) (meaning_of_else d (else_without n m body l s) b)
      else_ends without l hides a b f k o h g = went n body hides hides b a b (ran_same n hides a b h) g
      else_ends (otherwise s) l hides a b f k o h g =
          ends_more (hides_behind hides s) hides hides _ _ (λ q u. behind_less hides s q u) (λ q u. u)
          (subst (Ends n body (hides_behind hides s) hides (meaning_of_stmt c s a)) (sym (branch_runs l (stmt_without n m body s) b (also_plain hides a b h) g)) (stmt_ends s hides a b f k o h g))

      pub list_ends : (ss : Stmts) (left : Bool) (hides : Hides) (a b : Run) → HidesFlags n hides → kind hides → AreFreeStmts n may hides ss → Alike hides a b → Tell n body Go b → Ends n body hides hides (meaning_of c ss a) (meaning_of d (stmts_without n m body left ss) b)
      list_ends done left hides a b f k o h g = went n body hides hides b a b (ran_same n hides a b h) g
      list_ends (next s ss) left hides a b f k o h g =
          let x = meaning_of_stmt c s a in
          let y = meaning_of_stmt d (stmt_without n m body s) b in
          let now = hides_behind hides s in
          let rest = meaning_of d (stmts_without n m body (left || stmt_leaves m s) ss) in
          let all : Ends n body hides hides (after x.1 x.0 (meaning_of c ss)) (after y.1 y.0 rest) =
          then_ends now hides x.1 y.1 x.0 y.0 (meaning_of c ss) rest (stmt_ends s hides a b f k o.0 h g)
          (λ h' g'. ends_more now now hides _ _ (λ q u. behind_less hides s q u) (λ q u. behind_less hides s q u) (list_ends ss (left || stmt_leaves m s) now x.0 y.0 (behind_flags n may hides s o.0 f) (behind_kind hides s o.0 k) o.1 h' g'))
          (λ gone none u. subst (λ l. Skips n hides y.0 (meaning_of d (stmts_without n m body l ss) y.0)) (sym (ap (λ l. left || l) (leaves_so x.1 (stmt_leaves m s) (stmt_stays s a) gone) ∙ or_true left))
          (skips_weaker n now hides y.0 _ (λ q v. behind_less hides s q v) (list_skips now ss y.0 o.1 none u))) in
          subst (λ (e : Ended). Ends n body hides hides (after x.1 x.0 (meaning_of c ss)) (after e.1 e.0 rest)) (sym (list_runs left (is_var s) (stmt_without n m body s) b (also_plain hides a b h) g)) all
