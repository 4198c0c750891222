-- What is asked of a forwarding program as it is written: that no name of it is the monitor's, and that it tells no
-- reports. Read `Names` and `Laws` of `exit_programs` before it, and `Forwarding` of `own_code`.
use Rattle.std.specs.Prelude.{ℕ, List, Bool, false, ◌||◌, not, nat_eq}
use Rattle.std.specs.List.{list_any}
use Rattle.p4_tree.specs.Tree.{Stmt, Stmts, MaybeStmt, nothing, block, var, assign, choice, return_, exit_, call, done, next, without, otherwise, Local, local_action, Top, control, Program}
use Rattle.p4_meaning.specs.Statements.{Act, makes, drops, reads, writes, tells, sums, runs, applies, idle, act_of}
use Rattle.p4_rule_laws.specs.Old.{OldPath}
use Rattle.p4_rule_laws.specs.OldPrograms.{OldTops}
use Rattle.linkage.specs.Linkage.{report_receiver}
use Rattle.own_code.specs.Regions.{is_mine}

-- ---- names

-- a name that is not the monitor's
abbrev pub is_own : List ℕ → Bool
is_own x = not (is_mine x)

-- no name that a program declares or uses is the monitor's
pub record HasOwnNames (p : Program) : Type 0 where
  pub tops : OldTops is_own p.tops
  pub main : OldPath is_own p.main

-- ---- reports

-- a digest to the receiver of reports. In a well-typed program a receiver is a written number, and no constant
abbrev pub act_tells_report : Act → Bool
act_tells_report (makes h b) = false
act_tells_report drops = false
act_tells_report (reads x t i) = false
act_tells_report (writes x i v) = false
act_tells_report (tells n es) = nat_eq n report_receiver
act_tells_report (sums v c es f) = false
act_tells_report (runs x es) = false
act_tells_report (applies t) = false
act_tells_report idle = false

abbrev mutual
  -- such a digest is told there, at any depth
  pub stmt_tells_reports : Stmt → Bool
  stmt_tells_reports (nothing p) = false
  stmt_tells_reports (block p ss) = stmts_tell_reports ss
  stmt_tells_reports (var p ty x e) = false
  stmt_tells_reports (assign p target e) = false
  stmt_tells_reports (choice p e a b) = stmt_tells_reports a || else_tells_reports b
  stmt_tells_reports (return_ p) = false
  stmt_tells_reports (exit_ p) = false
  stmt_tells_reports (call p callee args) = act_tells_report (act_of callee args)

  pub else_tells_reports : MaybeStmt → Bool
  else_tells_reports without = false
  else_tells_reports (otherwise s) = stmt_tells_reports s

  pub stmts_tell_reports : Stmts → Bool
  stmts_tell_reports done = false
  stmts_tell_reports (next s ss) = stmt_tells_reports s || stmts_tell_reports ss

abbrev pub local_tells_reports : Local → Bool
local_tells_reports (local_action p a) = stmts_tell_reports a.body
local_tells_reports _ = false

abbrev pub top_tells_reports : Top → Bool
top_tells_reports (control p c) = list_any local_tells_reports c.locals || stmts_tell_reports c.apply
top_tells_reports _ = false

-- in a control's statements or in an action
abbrev pub program_tells_reports : Program → Bool
program_tells_reports p = list_any top_tells_reports p.tops
