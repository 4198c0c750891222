-- What cannot leave goes on in runs that agree, and what leaves the switch is the same.
use Rattle.std.proofs.Common.{◌≡◌, ℕ, List, [], ◌∷◌, ◌++◌, Bool, true, false, cond, Option, Some, None, refl, sym, ap, ap₂, ◌∙◌, subst}
use Rattle.std.specs.Prelude.{if◌then◌else◌, nat_eq}
use Rattle.std.specs.Option.{option_map}
use Rattle.bit_values.specs.Bits.{Word, cast as cast_number}
use Rattle.bit_values.specs.BitLists.{number_bits}
use Rattle.bit_values.specs.Widths.{holds}
use Rattle.lex_text.specs.Names.{same_path}
use Rattle.p4_tree.specs.Tree.{Expr, Stmt, Stmts, MaybeStmt, nothing, block, var, assign, choice, return_, exit_, call, done, next, without, otherwise}
use Rattle.bit_writer.specs.Bytes.{bytes_of}
use Rattle.p4_meaning.specs.Standard.{egress_spec, egress_port}
use Rattle.p4_meaning.specs.Parsing.{Field, Header, fields_bits, if_valid, header_bits, deparse_of}
use Rattle.p4_meaning.specs.Store.{set_value}
use Rattle.p4_meaning.specs.Value.{value_of}
use Rattle.p4_meaning.specs.Statements.{Go, Run, Ended, after, in_store, Act, makes, drops, reads, writes, tells, sums, runs, applies, idle, act_of, application, no_calls, done_by, tested_by, start_of, meaning_of_stmt, meaning_of_else, meaning_of}
use Rattle.p4_meaning.specs.Pass.{Going, run_from, is_dropped, unless_dropped}
use Rattle.exit_statements.specs.Without.{Flags, no_exits, test_leaves, stmt_leaves, else_leaves, stmts_leave}
use Rattle.exit_statements.specs.Free.{Hides, HidesFlags, shows, IsFreeExpr, IsFreeAct, hides_behind, IsFreeStmt, IsFreeElse, AreFreeStmts}
use Rattle.exit_statements.specs.Alike.{Alike}
use Rattle.exit_statements.specs.Laws.{is_other}
use Rattle.exit_statements.specs.Actions.{all_but}
use Rattle.exit_statements.specs.Controls.{nothing_seen, is_long, AreLong, sent_of, LeaveAlike, LeavesAgree}
use Rattle.exit_statements.proofs.Values.{value_alike, start_alike, assigned_ran, cells_ran, tells_ran, makes_ran, drops_ran, reads_ran, sum_ran}
use Rattle.exit_statements.proofs.Guards.{weaker}
use Rattle.exit_statements.proofs.Runs.{or_left, or_right, behind_less, behind_flags}
use Rattle.exit_statements.proofs.Acted.{set_shows}
use Rattle.exit_statements.proofs.Controlled.{longer, control_alike}

-- ---- what cannot leave

-- both go on and agree
pub record Goes (hides : Hides) (x y : Ended) : Type 0 where
  pub alike : Alike hides x.0 y.0
  pub goes : x.1 ≡ Go
  pub goes_too : y.1 ≡ Go

goes_after : (now hides : Hides) (x y : Ended) (f g : Run → Ended) → Goes now x y → ((r q : Run) → Alike now r q → Goes hides (f r) (g q)) → Goes hides (after x.1 x.0 f) (after y.1 y.0 g)
goes_after now hides x y f g h k = (let all = k x.0 y.0 h.alike in rw (h.goes, h.goes_too) all)

goes_cond : (hides : Hides) (s t : Bool) (x x' y y' : Ended) → t ≡ s → Goes hides x x' → Goes hides y y' → Goes hides (cond s x y) (cond t x' y')
goes_cond hides true true x x' y y' e h k = h
goes_cond hides false false x x' y y' e h k = k
goes_cond hides true false x x' y y' e h k = absurd (cc e)
goes_cond hides false true x x' y y' e h k = absurd (cc e)

goes_less : (some more : Hides) (x y : Ended) → ((q : List (List ℕ)) → more q ≡ false → some q ≡ false) → Goes some x y → Goes more x y
goes_less some more x y le h = record { alike = weaker some more x.0 y.0 le h.alike; goes = h.goes; goes_too = h.goes_too }

on : (hides : Hides) (a b : Run) → Alike hides a b → Goes hides (a, Go) (b, Go)
on hides a b h = record { alike = h; goes = refl; goes_too = refl }

module _ (n : Flags) (may : List ℕ → Bool) where
  act_goes : (hides : Hides) → HidesFlags n hides → (k : Act) (a b : Run) → IsFreeAct hides k → Alike hides a b → Goes hides (done_by no_calls k a) (done_by no_calls k b)
  act_goes hides f (makes x t) a b o h = on hides _ _ (makes_ran n hides f x t a b h).alike
  act_goes hides f drops a b o h = on hides _ _ (drops_ran n hides f a b h).alike
  act_goes hides f (reads x t i) a b o h = on hides _ _ (reads_ran n hides f x t i a b o.0 o.1 h).alike
  act_goes hides f (writes x i v) a b o h = on hides _ _ (cells_ran n hides f x i v a b o.0 o.1 h).alike
  act_goes hides f (tells x es) a b o h = on hides _ _ (tells_ran n hides f x es a b o h).alike
  act_goes hides f (sums v e es p) a b o h = on hides _ _ (sum_ran n hides f v e es p a b o h).alike
  act_goes hides f (runs x es) a b o h = on hides a b h
  act_goes hides f (applies t) a b o h = on hides a b h
  act_goes hides f idle a b o h = on hides a b h

  -- the test of an `if`, which applies a table or none
  tests : (u : Option (List ℕ × Bool)) (e : Expr) (s : Stmt) (t : MaybeStmt) (hides : Hides) (a b : Run) → IsFreeExpr hides e → Goes (hides_behind hides s) (meaning_of_stmt no_calls s a) (meaning_of_stmt no_calls s b) → Goes hides (meaning_of_else no_calls t a) (meaning_of_else no_calls t b) → Alike hides a b
      → Goes hides (after (tested_by no_calls u e a).flow (tested_by no_calls u e a).run (λ q. if (tested_by no_calls u e a).hit then meaning_of_stmt no_calls s q else meaning_of_else no_calls t q)) (after (tested_by no_calls u e b).flow (tested_by no_calls u e b).run (λ q. if (tested_by no_calls u e b).hit then meaning_of_stmt no_calls s q else meaning_of_else no_calls t q))
  tests None e s t hides a b o x y h = goes_cond hides (holds (value_of e 1 a.store)) (holds (value_of e 1 b.store)) _ _ _ _ (ap holds (value_alike hides a b h e 1 o)) (goes_less (hides_behind hides s) hides _ _ (λ q u. behind_less hides s q u) x) y
  tests (Some u) e s t hides a b o x y h = goes_cond hides (if u.1 then false else true) (if u.1 then false else true) _ _ _ _ refl (goes_less (hides_behind hides s) hides _ _ (λ q u. behind_less hides s q u) x) y

  mutual
    stmt_goes : (s : Stmt) (hides : Hides) (a b : Run) → stmt_leaves no_exits s ≡ false → HidesFlags n hides → IsFreeStmt n may hides s → Alike hides a b → Goes (hides_behind hides s) (meaning_of_stmt no_calls s a) (meaning_of_stmt no_calls s b)
    stmt_goes (nothing p) hides a b l f o h = on hides a b h
    stmt_goes (block p ss) hides a b l f o h = stmts_go ss hides a b l f o h
    stmt_goes (var p ty x e) hides a b l f o h =
        subst (λ w. Goes (shows hides x) (in_store a (set_value a.store (x ∷ []) (start_of ty e a.store)), Go) (in_store b (set_value b.store (x ∷ []) w), Go)) (sym (start_alike hides a b h e ty o.1)) (on (shows hides x) _ _ (set_shows hides x (start_of ty e a.store) a b h))
    stmt_goes (assign p target e) hides a b l f o h =
        let width = ap (λ (w : Word). w.width) (h.values target o.0) in
        let same = ap (λ i. value_of e i b.store) width ∙ value_alike hides a b h e (a.store.values target).width o.1 in
        on hides _ _ (assigned_ran n hides f a b target _ _ o.0 h same).alike
    stmt_goes (choice p e s t) hides a b l f o h = tests (application e) e s t hides a b o.0 (stmt_goes s hides a b (or_left (stmt_leaves no_exits s) _ (or_right (test_leaves no_exits e) _ l)) f o.1 h) (else_goes t hides a b (or_right (stmt_leaves no_exits s) _ (or_right (test_leaves no_exits e) _ l)) f o.2 h) h
    stmt_goes (return_ p) hides a b l f o h = absurd (cc l)
    stmt_goes (exit_ p) hides a b l f o h = absurd (cc l)
    stmt_goes (call p callee args) hides a b l f o h = act_goes hides f (act_of callee args) a b o h

    else_goes : (s : MaybeStmt) (hides : Hides) (a b : Run) → else_leaves no_exits s ≡ false → HidesFlags n hides → IsFreeElse n may hides s → Alike hides a b → Goes hides (meaning_of_else no_calls s a) (meaning_of_else no_calls s b)
    else_goes without hides a b l f o h = on hides a b h
    else_goes (otherwise s) hides a b l f o h = goes_less (hides_behind hides s) hides _ _ (λ q u. behind_less hides s q u) (stmt_goes s hides a b l f o h)

    pub stmts_go : (ss : Stmts) (hides : Hides) (a b : Run) → stmts_leave no_exits ss ≡ false → HidesFlags n hides → AreFreeStmts n may hides ss → Alike hides a b → Goes hides (meaning_of no_calls ss a) (meaning_of no_calls ss b)
    stmts_go done hides a b l f o h = on hides a b h
    stmts_go (next s ss) hides a b l f o h =
        goes_after (hides_behind hides s) hides (meaning_of_stmt no_calls s a) (meaning_of_stmt no_calls s b) (meaning_of no_calls ss) (meaning_of no_calls ss) (stmt_goes s hides a b (or_left (stmt_leaves no_exits s) _ l) f o.0 h)
        (λ r q k. goes_less (hides_behind hides s) hides _ _ (λ p u. behind_less hides s p u) (stmts_go ss (hides_behind hides s) r q (or_right (stmt_leaves no_exits s) _ l) (behind_flags n may hides s o.0 f) o.1 k))

-- ---- what the deparser writes

long_shown : (p : List (List ℕ)) → is_long p ≡ true → all_but nothing_seen p ≡ false
long_shown [] l = refl
long_shown (x ∷ []) l = absurd (cc l)
long_shown (x ∷ y ∷ rest) l = refl

module _ (a b : Run) (h : Alike (all_but nothing_seen) a b) where
  same_fields : (p : List (List ℕ)) (fs : List Field) → is_long p ≡ true → fields_bits p fs b.store ≡ fields_bits p fs a.store
  same_fields p [] l = refl
  same_fields p (f ∷ fs) l = ap₂ (λ (w : Word) (bits : List ℕ). number_bits f.width (cast_number f.width w.value) ++ bits) (h.values (p ++ f.name ∷ []) (long_shown (p ++ f.name ∷ []) (longer p f.name l))) (same_fields p fs l)

  same_header : (hs : List Header) (p : List (List ℕ)) → AreLong hs → header_bits hs p b.store ≡ header_bits hs p a.store
  same_header [] p l = refl
  same_header (x ∷ xs) p l = ap₂ (λ (u v : List ℕ). if same_path x.path p then u else v) (ap₂ if_valid (ap (λ g. g x.path) h.headers) (same_fields x.path x.fields l.0)) (same_header xs p l.1)

  same_frame : (hs : List Header) (ps : List (List (List ℕ))) → AreLong hs → deparse_of hs ps b.store ≡ deparse_of hs ps a.store
  same_frame hs [] l = refl
  same_frame hs (p ∷ ps) l = ap₂ (λ (u v : List ℕ). u ++ v) (same_header hs p l) (same_frame hs ps l)

-- ---- what leaves

sent_by : (d : Bool) (g : Going) → option_map sent_of (unless_dropped d g) ≡ unless_dropped d (sent_of g)
sent_by true g = refl
sent_by false g = refl

pub leaves_agree : LeavesAgree
leaves_agree flagged n returned own p b held free listed l computes rest r begins =
    let h = control_alike n returned own p.actions p.tables b held free listed flagged r begins in
    alike_leave h
  where
    alike_leave : {x y : Run} → Alike (all_but nothing_seen) x y → LeaveAlike p rest x y
    alike_leave {x} {y} h =
        let starts : Alike (all_but nothing_seen) (run_from x.store (λ z. [])) (run_from y.store (λ z. [])) = record { values = λ q u. h.values q u; headers = h.headers; plain = h.plain; cells = refl; digests = refl } in
        let computed = stmts_go n (is_other own) p.compute (all_but nothing_seen) (run_from x.store (λ z. [])) (run_from y.store (λ z. [])) computes.stays (record { left = refl; returned = refl; long = λ i j k. refl; empty = refl }) computes.free starts in
        let drop : is_dropped y.store ≡ is_dropped x.store = ap (λ (w : Word). nat_eq w.value 511) (h.values egress_spec refl) in
        let port : cast_number 9 (y.store.values egress_port).value ≡ cast_number 9 (x.store.values egress_port).value = ap (λ (w : Word). cast_number 9 w.value) (h.values egress_port refl) in
        let frame = ap (λ bits. bytes_of (bits ++ rest)) (same_frame _ _ computed.alike p.headers p.emits l) in
        record {
          registers = h.cells;
          digests = h.digests;
          sent_same = sent_by _ _ ∙ (λ i. unless_dropped (drop i) (port i, frame i)) ∙ sym (sent_by _ _);
          ends = record { headers = h.headers; values = λ q o. h.values q (long_shown q o) };
        }
