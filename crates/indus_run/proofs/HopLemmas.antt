-- The exit part that is run straight behind the entry part is that of the law.
use Rattle.std.proofs.Common.{◌≡◌, Bool, true, false, cond, sym, ap, ◌∙◌, Result, OnOk}
use Rattle.network_run.specs.PathMeaning.{Reads, Doing}
use Rattle.network_run.specs.Hop.{exit_behind}
use Rattle.indus_tree.specs.Tree.{Stmts, Property}
use Rattle.indus_tree.specs.State.{Contents, Held}
use Rattle.indus_tree.specs.Meaning.{run_of}
use Rattle.indus_tree.specs.Law.{hop_for, law_of}
use Rattle.indus_tree.proofs.BehindLemmas.{exit_runs}
use Rattle.indus_run.proofs.RunLemmas.{on_ok}

-- what telemetry left, with the flag set back
abbrev unflagged : Doing Held Held → Doing Held Held
unflagged d = record d { rejected = false }

module _ (p : Property) (r : Reads Contents) (d told : Doing Held Held) (ss : Stmts) (tele : ss ≡ p.tele) (runs : told ≡ run_of (hop_for p.decls r) ss d) where
  by_last : (b : Bool) → r.last ≡ b → cond b (run_of (hop_for p.decls r) p.check (unflagged told)) (unflagged told) ≡ exit_behind (law_of p) r d
  by_last b last =
      ap (λ (t : Doing Held Held). cond b (run_of (hop_for p.decls r) p.check (unflagged t)) (unflagged t)) (runs ∙ ap (λ (xs : Stmts). run_of (hop_for p.decls r) xs d) tele)
      ∙ (ap (λ (l : Bool). let t : Doing Held Held = unflagged (run_of (hop_for p.decls r) p.tele d) in cond l (run_of (hop_for p.decls r) p.check t) t) (sym last)
      ∙ exit_runs p r d)

  -- at a hop that is not the last
  pub passes_on : r.last ≡ false → unflagged told ≡ exit_behind (law_of p) r d
  passes_on last = by_last false last

  -- at the last hop, where the checker's run went well
  pub ends_here : {T E : Type 0} (result : Result T E) (e : Doing Held Held) (cs : Stmts) → r.last ≡ true → cs ≡ p.check → OnOk result (e ≡ run_of (hop_for p.decls r) cs (unflagged told)) → OnOk result (e ≡ exit_behind (law_of p) r d)
  ends_here result e cs last check checks =
      on_ok result (e ≡ run_of (hop_for p.decls r) cs (unflagged told)) (e ≡ exit_behind (law_of p) r d)
      (λ same. same ∙ (ap (λ (xs : Stmts). run_of (hop_for p.decls r) xs (unflagged told)) check ∙ by_last true last)) checks
