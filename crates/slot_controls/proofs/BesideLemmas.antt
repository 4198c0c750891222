-- What has code leaves registers and digests alone.
use Rattle.std.proofs.Common.{◌≡◌, Bool, true, false, ◌&&◌, is_some, is_none, if◌then◌else◌, Option, Some, None, refl, sym, ap, ◌∙◌, subst}
use Rattle.std.specs.Option.{option_and_then}
use Rattle.bit_values.specs.Widths.{holds}
use Rattle.p4_tree.specs.Tree.{Stmt, Stmts, MaybeStmt, nothing, block, var, assign, choice, return_, exit_, call, done, next, without, otherwise}
use Rattle.p4_meaning.specs.Standard.{egress_spec}
use Rattle.p4_meaning.specs.Value.{value_of}
use Rattle.p4_meaning.specs.Statements.{Flow, Go, Return, Exit, Run, Ended, Calls, after, application, tested_by, done_by, meaning_of_stmt, meaning_of_else, meaning_of}
use Rattle.slot_terms.specs.Places.{Places, place_at}
use Rattle.slot_terms.specs.Known.{is_known}
use Rattle.slot_statements.specs.Known.{can_drop, has_port, is_drop, is_known_test, only_if, places_behind, places_behind_all, has_else}
use Rattle.slot_statements.proofs.KnownLemmas.{and_first, and_second}
use Rattle.slot_statements.proofs.DropLemmas.{drop_is}
use Rattle.slot_controls.specs.StepRuns.{HoldsStill}

pub still_same : (r : Run) → HoldsStill r r
still_same r = record { cells = refl; digests = refl }

pub still_twice : (r q t : Run) → HoldsStill r q → HoldsStill q t → HoldsStill r t
still_twice r q t f g = record { cells = g.cells ∙ f.cells; digests = g.digests ∙ f.digests }

still_after : (f : Flow) (r q : Run) (more : Run → Ended) → HoldsStill r q → ((t : Run) → HoldsStill t (more t).0) → HoldsStill r (after f q more).0
still_after Go r q more h all = still_twice r q (more q).0 h (all q)
still_after Return r q more h all = h
still_after Exit r q more h all = h

either_still : (b : Bool) (r : Run) (x y : Ended) → HoldsStill r x.0 → HoldsStill r y.0 → HoldsStill r (if b then x else y).0
either_still true r x y f g = f
either_still false r x y f g = g

none_is : {A : Type 0} (o : Option A) → is_none o ≡ true → o ≡ None
none_is None e = refl
none_is (Some a) e = absurd (cc e)

some_only : (b : Bool) (m : Places) → is_some (only_if b m) ≡ true → b ≡ true
some_only true m e = refl
some_only false m e = absurd (cc e)

-- what follows from the places behind a statement, where those behind the next ones are there
from_some : (o : Option Places) (f : Places → Option Places) (P : Type 0) → is_some (option_and_then f o) ≡ true → ((n : Places) → o ≡ Some n → is_some (f n) ≡ true → P) → P
from_some None f P e all = absurd (cc e)
from_some (Some n) f P e all = all n refl e

module _ (calls : Calls) where
  mutual
    pub stmt_still : (st : Stmt) (m : Places) → is_some (places_behind st m) ≡ true → (r : Run) → HoldsStill r (meaning_of_stmt calls st r).0
    stmt_still (nothing p) m e r = still_same r
    stmt_still (block p ss) m e r = stmts_still ss m (some_only (is_some (places_behind_all ss m)) m e) r
    stmt_still (var p ty x v) m e r = record { cells = refl; digests = refl }
    stmt_still (assign p target v) m e r = record { cells = refl; digests = refl }
    stmt_still (choice p v a b) m e r =
        let both = some_only (is_known_test m v && (is_some (places_behind a m) && has_else b m)) m e in
        let test : is_known_test m v ≡ true = and_first (is_known_test m v) (is_some (places_behind a m) && has_else b m) both in
        let rest : (is_some (places_behind a m) && has_else b m) ≡ true = and_second (is_known_test m v) (is_some (places_behind a m) && has_else b m) both in
        let none : application v ≡ None = none_is (application v) (and_first (is_none (application v)) (is_known m v) test) in
        subst
        (λ o. HoldsStill r (after (tested_by calls o v r).flow (tested_by calls o v r).run (λ q. if (tested_by calls o v r).hit then meaning_of_stmt calls a q else meaning_of_else calls b q)).0)
        (sym none)
        (either_still (holds (value_of v 1 r.store)) r (meaning_of_stmt calls a r) (meaning_of_else calls b r)
        (stmt_still a m (and_first (is_some (places_behind a m)) (has_else b m) rest) r) (else_still b m (and_second (is_some (places_behind a m)) (has_else b m) rest) r))
    stmt_still (return_ p) m e r = still_same r
    stmt_still (exit_ p) m e r = still_same r
    stmt_still (call p callee args) m e r =
        let drop : is_drop callee ≡ true = and_first (is_drop callee) (has_port (place_at m.rows egress_spec)) (some_only (can_drop callee m) m e) in
        subst (λ a. HoldsStill r (done_by calls a r).0) (sym (drop_is callee args drop)) (record { cells = refl; digests = refl })

    else_still : (st : MaybeStmt) (m : Places) → has_else st m ≡ true → (r : Run) → HoldsStill r (meaning_of_else calls st r).0
    else_still without m e r = still_same r
    else_still (otherwise st) m e r = stmt_still st m e r

    pub stmts_still : (ss : Stmts) (m : Places) → is_some (places_behind_all ss m) ≡ true → (r : Run) → HoldsStill r (meaning_of calls ss r).0
    stmts_still done m e r = still_same r
    stmts_still (next s ss) m e r =
        let all : ((n : Places) → places_behind s m ≡ Some n → is_some (places_behind_all ss n) ≡ true → HoldsStill r (meaning_of calls (next s ss) r).0) =
        λ n there f. still_after (meaning_of_stmt calls s r).1 r (meaning_of_stmt calls s r).0 (meaning_of calls ss) (stmt_still s m (ap is_some there) r) (λ t. stmts_still ss n f t) in
        from_some (places_behind s m) (places_behind_all ss) (HoldsStill r (meaning_of calls (next s ss) r).0) e all
