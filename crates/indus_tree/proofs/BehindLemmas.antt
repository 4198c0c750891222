-- A block reads neither the flag nor the reports. So behind other reports, and where the packet may be rejected
-- already, it does what it does with neither; and an exit part that runs straight behind an entry part is that of
-- the law.
use Rattle.std.proofs.Common.{◌≡◌, ℕ, List, [], ◌∷◌, ◌++◌, map, Bool, true, false, ◌||◌, cond, Option, Some, None, refl, sym, ap, ◌∙◌, append-nil, append_assoc}
use Rattle.bit_values.specs.Bits.{Word}
use Rattle.bit_values.specs.Widths.{holds}
use Rattle.network_run.specs.PathMeaning.{Reads, Report, Doing, nothing_yet}
use Rattle.network_run.specs.Hop.{exit_behind}
use Rattle.indus_tree.specs.Tree.{Stmt, Stmts, assign, cell, push, choice, loop, reject, report, done, next, Decl, Property}
use Rattle.indus_tree.specs.State.{Contents, Hop, Held, lookup, shape_size, set_by_kind, set_cell, push_by_kind, push_item}
use Rattle.indus_tree.specs.Reads.{Items}
use Rattle.indus_tree.specs.Value.{value_of, values_of}
use Rattle.indus_tree.specs.Meaning.{seen_by, value_for, index_for, named, turns_of, run_turns, stmt_run, block_run, run_of}
use Rattle.indus_tree.specs.Law.{hop_for, law_of}
use Rattle.indus_tree.specs.declared.tree.DeclKind.{DeclKind}
use Rattle.indus_tree.specs.declared.tree.DeclKind.TheVariants.{Tele, Sensor, Header, Control}

module _ (reports : List Report) (rejected : Bool) where
  -- the same behind these reports, of a packet that is rejected where either says so
  abbrev behind : Doing Held Held → Doing Held Held
  behind d = record d { rejected = d.rejected || rejected; reports = reports ++ d.reports }

  kind_behind : (k : DeclKind) (x : List ℕ) (n : ℕ) (w : Word) (d : Doing Held Held) → set_by_kind k x n w (behind d) ≡ behind (set_by_kind k x n w d)
  kind_behind Tele x n w d = refl
  kind_behind Sensor x n w d = refl
  kind_behind Header x n w d = refl
  kind_behind Control x n w d = refl

  set_behind : (o : Option Decl) (x : List ℕ) (n : ℕ) (w : Word) (d : Doing Held Held) → set_cell o x n w (behind d) ≡ behind (set_cell o x n w d)
  set_behind None x n w d = refl
  set_behind (Some v) x n w d = kind_behind v.kind x n w d

  push_kind_behind : (k : DeclKind) (size : ℕ) (x : List ℕ) (w : Word) (d : Doing Held Held) → push_by_kind k size x w (behind d) ≡ behind (push_by_kind k size x w d)
  push_kind_behind Tele size x w d = refl
  push_kind_behind Sensor size x w d = refl
  push_kind_behind Header size x w d = refl
  push_kind_behind Control size x w d = refl

  push_behind : (o : Option Decl) (x : List ℕ) (w : Word) (d : Doing Held Held) → push_item o x w (behind d) ≡ behind (push_item o x w d)
  push_behind None x w d = refl
  push_behind (Some v) x w d = push_kind_behind v.kind (shape_size v.shape) x w d

  either_behind : (b : Bool) (c d c' d' : Doing Held Held) → c' ≡ behind c → d' ≡ behind d → cond b c' d' ≡ behind (cond b c d)
  either_behind true c d c' d' e f = e
  either_behind false c d c' d' e f = f

  turns_behind : (turn : List Word → Doing Held Held → Doing Held Held) → ((ws : List Word) (d : Doing Held Held) → turn ws (behind d) ≡ behind (turn ws d)) → (ts : List (List Word)) (d : Doing Held Held) → run_turns turn ts (behind d) ≡ behind (run_turns turn ts d)
  turns_behind turn same [] d = refl
  turns_behind turn same (ws ∷ ts) d = ap (run_turns turn ts) (same ws d) ∙ turns_behind turn same ts (turn ws d)

  module _ (h : Hop) where
    mutual
      stmt_behind : (s : Stmt) (i : Items) (d : Doing Held Held) → stmt_run h i s (behind d) ≡ behind (stmt_run h i s d)
      stmt_behind (assign p x e) i d = set_behind (lookup h.decls x) x 0 (value_for h i d x e) d
      stmt_behind (cell p x n e) i d = set_behind (lookup h.decls x) x (index_for h i d n) (value_for h i d x e) d
      stmt_behind (push p x e) i d = push_behind (lookup h.decls x) x (value_for h i d x e) d
      stmt_behind (choice p e a b) i d = either_behind (holds (value_of (seen_by h i d) e 1)) (block_run h i a d) (block_run h i b d) (block_run h i a (behind d)) (block_run h i b (behind d)) (block_behind a i d) (block_behind b i d)
      stmt_behind (loop p xs ls a) i d = turns_behind (λ ws. block_run h (i ++ named xs ws) a) (λ ws c. block_behind a (i ++ named xs ws) c) (turns_of (map d.tele ls)) d
      stmt_behind (reject p) i d = refl
      stmt_behind (report p n es) i d = ap (λ (rs : List Report). record (behind d) { reports = rs }) (append_assoc reports d.reports (record { number = n; values = values_of (seen_by h i d) es } ∷ []))

      block_behind : (ss : Stmts) (i : Items) (d : Doing Held Held) → block_run h i ss (behind d) ≡ behind (block_run h i ss d)
      block_behind done i d = refl
      block_behind (next s ss) i d = ap (block_run h i ss) (stmt_behind s i d) ∙ block_behind ss i (stmt_run h i s d)

or_false : (b : Bool) → (b || false) ≡ b
or_false true = refl
or_false false = refl

-- any state is one that begins anew, behind its own reports
own_behind : (d : Doing Held Held) → d ≡ behind d.reports d.rejected (nothing_yet d.tele d.sensors)
own_behind d = ap (λ (rs : List Report). record d { reports = rs }) (sym (append-nil d.reports))

-- the checker and the exit part's end
ends_behind : (b : Bool) (h : Hop) (check : Stmts) (reports : List Report) (d : Doing Held Held) →
    cond b (run_of h check (behind reports false (record d { rejected = false }))) (behind reports false (record d { rejected = false }))
    ≡ record (cond b (run_of h check (record d { rejected = false })) (record d { rejected = false })) { reports = reports ++ (cond b (run_of h check (record d { rejected = false })) (record d { rejected = false })).reports }
ends_behind true h check reports d =
    let c : Doing Held Held = run_of h check (record d { rejected = false }) in
    block_behind reports false h check [] (record d { rejected = false })
    ∙ ap (λ (b : Bool). record c { rejected = b; reports = reports ++ c.reports }) (or_false c.rejected)
ends_behind false h check reports d = refl

-- telemetry and the checker, straight on, are the exit part behind the entry part
pub exit_runs : (p : Property) (r : Reads Contents) (d : Doing Held Held) →
    (let h = hop_for p.decls r in
    let t : Doing Held Held = record (run_of h p.tele d) { rejected = false } in
    cond r.last (run_of h p.check t) t ≡ exit_behind (law_of p) r d)
exit_runs p r d =
    let h : Hop = hop_for p.decls r in
    let t : Doing Held Held = run_of h p.tele (nothing_yet d.tele d.sensors) in
    let told : run_of h p.tele d ≡ behind d.reports d.rejected t = ap (run_of h p.tele) (own_behind d) ∙ block_behind d.reports d.rejected h p.tele [] (nothing_yet d.tele d.sensors) in
    ap (λ (c : Doing Held Held). let e : Doing Held Held = record c { rejected = false } in cond r.last (run_of h p.check e) e) told
    ∙ ends_behind r.last h p.check d.reports t
