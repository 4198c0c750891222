-- A program in which no name is taken has given names.
use Rattle.std.proofs.Common.{codes, ◌≡◌, ℕ, List, [], ◌∷◌, ◌++◌, Bool, true, false, cond, not, ◌||◌, nat_eq, refl, subst}
use Rattle.std.specs.List.{list_any}
use Rattle.lex_text.specs.Names.{same_text}
use Rattle.lex_text.specs.Comments.{begins}
use Rattle.p4_tree.specs.Tree.{num, path, Arg, one, many, Stmt, Stmts, MaybeStmt, nothing, block, var, assign, choice, return_, exit_, call, done, next, without, otherwise, Local, local_action, local_table, local_register, local_const, local_var, Top, constant, typedef, header_type, struct_type, register, parser, control}
use Rattle.p4_meaning.specs.Statements.{receiver_of, makes, drops, applies, runs, idle, read_of, write_of, digest_of, sum_of, values_in, act_named, act_on, act_of}
use Rattle.p4_typing_laws.proofs.CallCounts.{text_is}
use Rattle.linkage.specs.Linkage.{report_receiver}
use Rattle.own_programs.specs.OwnPrograms.{act_tells_report, stmt_tells_reports, else_tells_reports, stmts_tell_reports, local_tells_reports, top_tells_reports}
use Rattle.exit_programs.specs.Names.{is_given}
use Rattle.link_faults.specs.WrittenNames.{names_of_expr, report_digits, receiver_names, names_of_args, names_of_stmt, names_of_stmts, names_of_else, names_of_fields, names_of_params, names_of_local, names_of_locals, names_of_top, names_of_tops, is_taken}
use Rattle.link_faults.proofs.FreeNames.{IsFree, none_found, free_item, split, names_free, tops_free}
use Rattle.link_faults.specs.Taken.{NoneIsTaken, NoneTells}

-- a name that is not taken is given
untaken : (x : List ℕ) → is_taken x ≡ false → is_given x ≡ true
untaken x h = go (begins (codes "hydra_") x) (same_text report_digits x) h
  where
    go : (a b : Bool) → (a || b) ≡ false → not a ≡ true
    go true b e = absurd (cc)
    go false b e = refl

pub none_is_taken : NoneIsTaken
none_is_taken p h = (let s = split (names_of_tops p.tops) p.main h in record { tops = tops_free is_given untaken p.tops s.0; main = names_free is_given untaken p.main s.1 })

-- ---- reports

sum_quiet : (b : Bool) (args : List Arg) → act_tells_report (sum_of b args) ≡ false
sum_quiet b (one p c ∷ many q es ∷ one r (path t field) ∷ one u h ∷ []) = refl
sum_quiet b _ = refl

digest_quiet : (args : List Arg) → IsFree (receiver_names (codes "digest" ∷ []) args) → act_tells_report (digest_of args) ≡ false
digest_quiet (one p (num q n) ∷ many r es ∷ []) h = go (nat_eq (receiver_of n) report_receiver) h
  where
    go : (b : Bool) → IsFree (cond b (report_digits ∷ []) []) → b ≡ false
    go true k = none_found report_digits k
    go false k = refl
digest_quiet _ h = refl

named_quiet : (x : List ℕ) (args : List Arg) → IsFree (receiver_names (x ∷ []) args) → act_tells_report (act_named x args) ≡ false
named_quiet x args h = go (same_text x (codes "mark_to_drop")) (same_text x (codes "digest")) (same_text x (codes "verify_checksum")) (same_text x (codes "update_checksum")) refl
  where
    go :
        (a b c d : Bool) → same_text x (codes "digest") ≡ b
        → act_tells_report (cond a drops (cond b (digest_of args) (cond c (sum_of true args) (cond d (sum_of false args) (runs x (values_in args)))))) ≡ false
    go true b c d e = refl
    go false true c d e = digest_quiet args (subst (λ (y : List ℕ). IsFree (receiver_names (y ∷ []) args)) (text_is x (codes "digest") e) h)
    go false false true d e = sum_quiet true args
    go false false false true e = sum_quiet false args
    go false false false false e = refl

on_quiet : (x verb : List ℕ) (args : List Arg) → act_tells_report (act_on x verb args) ≡ false
on_quiet x verb args = go (same_text verb (codes "read")) (same_text verb (codes "write")) (same_text verb (codes "apply"))
  where
    read_quiet : (args : List Arg) → act_tells_report (read_of x args) ≡ false
    read_quiet (one p (path q t) ∷ one r i ∷ []) = refl
    read_quiet _ = refl

    write_quiet : (args : List Arg) → act_tells_report (write_of x args) ≡ false
    write_quiet (one p i ∷ one q v ∷ []) = refl
    write_quiet _ = refl

    go : (a b c : Bool) → act_tells_report (cond a (read_of x args) (cond b (write_of x args) (cond c (applies x) idle))) ≡ false
    go true b c = read_quiet args
    go false true c = write_quiet args
    go false false true = refl
    go false false false = refl

call_quiet : (x : List (List ℕ)) (args : List Arg) → IsFree (receiver_names x args) → act_tells_report (act_of x args) ≡ false
call_quiet [] args h = refl
call_quiet (x ∷ []) args h = named_quiet x args h
call_quiet (x ∷ y ∷ []) args h = on_quiet x y args
call_quiet (x ∷ y ∷ z ∷ []) args h = go (same_text z (codes "setValid")) (same_text z (codes "setInvalid"))
  where
    go : (a b : Bool) → act_tells_report (cond a (makes (x ∷ y ∷ []) true) (cond b (makes (x ∷ y ∷ []) false) idle)) ≡ false
    go true b = refl
    go false true = refl
    go false false = refl
call_quiet (x ∷ y ∷ z ∷ w ∷ rest) args h = refl

neither : (a b : Bool) → a ≡ false → b ≡ false → (a || b) ≡ false
neither true b e f = e
neither false b e f = f

mutual
  stmt_quiet : (c : Stmt) → IsFree (names_of_stmt c) → stmt_tells_reports c ≡ false
  stmt_quiet (nothing p) h = refl
  stmt_quiet (block p ss) h = stmts_quiet ss h
  stmt_quiet (var p t x e) h = refl
  stmt_quiet (assign p x e) h = refl
  stmt_quiet (choice p e a b) h =
      (let s = split (names_of_expr e) (names_of_stmt a ++ names_of_else b) h in let r = split (names_of_stmt a) (names_of_else b) s.1 in neither (stmt_tells_reports a) (else_tells_reports b) (stmt_quiet a r.0) (else_quiet b r.1))
  stmt_quiet (return_ p) h = refl
  stmt_quiet (exit_ p) h = refl
  stmt_quiet (call p x xs) h = (let s = split x (receiver_names x xs ++ names_of_args xs) h in call_quiet x xs (split (receiver_names x xs) (names_of_args xs) s.1).0)

  else_quiet : (c : MaybeStmt) → IsFree (names_of_else c) → else_tells_reports c ≡ false
  else_quiet without h = refl
  else_quiet (otherwise c) h = stmt_quiet c h

  stmts_quiet : (ss : Stmts) → IsFree (names_of_stmts ss) → stmts_tell_reports ss ≡ false
  stmts_quiet done h = refl
  stmts_quiet (next c ss) h = (let s = split (names_of_stmt c) (names_of_stmts ss) h in neither (stmt_tells_reports c) (stmts_tell_reports ss) (stmt_quiet c s.0) (stmts_quiet ss s.1))

local_quiet : (l : Local) → IsFree (names_of_local l) → local_tells_reports l ≡ false
local_quiet (local_action p a) h = (let i = free_item a.name (names_of_fields a.params ++ names_of_stmts a.body) h in stmts_quiet a.body (split (names_of_fields a.params) (names_of_stmts a.body) i.1).1)
local_quiet (local_table p t) h = refl
local_quiet (local_register p r) h = refl
local_quiet (local_const p t x e) h = refl
local_quiet (local_var p t x e) h = refl

locals_quiet : (ls : List Local) → IsFree (names_of_locals ls) → list_any local_tells_reports ls ≡ false
locals_quiet [] h = refl
locals_quiet (l ∷ ls) h = (let s = split (names_of_local l) (names_of_locals ls) h in neither (local_tells_reports l) (list_any local_tells_reports ls) (local_quiet l s.0) (locals_quiet ls s.1))

top_quiet : (t : Top) → IsFree (names_of_top t) → top_tells_reports t ≡ false
top_quiet (constant p t x e) h = refl
top_quiet (typedef p t x) h = refl
top_quiet (header_type p x fs) h = refl
top_quiet (struct_type p x fs) h = refl
top_quiet (register p r) h = refl
top_quiet (parser p d) h = refl
top_quiet (control p c) h =
    (let i = free_item c.name (names_of_params c.params ++ (names_of_locals c.locals ++ names_of_stmts c.apply)) h in
    let s = split (names_of_params c.params) (names_of_locals c.locals ++ names_of_stmts c.apply) i.1 in
    let r = split (names_of_locals c.locals) (names_of_stmts c.apply) s.1 in
    neither (list_any local_tells_reports c.locals) (stmts_tell_reports c.apply) (locals_quiet c.locals r.0) (stmts_quiet c.apply r.1))

tops_quiet : (ts : List Top) → IsFree (names_of_tops ts) → list_any top_tells_reports ts ≡ false
tops_quiet [] h = refl
tops_quiet (t ∷ ts) h = (let s = split (names_of_top t) (names_of_tops ts) h in neither (top_tells_reports t) (list_any top_tells_reports ts) (top_quiet t s.0) (tops_quiet ts s.1))

pub none_tells : NoneTells
none_tells p h = tops_quiet p.tops (split (names_of_tops p.tops) p.main h).0
