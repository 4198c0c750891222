-- What a statement does behind its reads, and the numbers of reads with their declarations. Read `Statements` of
-- `lowered_code` before it.
use Rattle.std.specs.Prelude.{ℕ, ◌+◌, List, [], ◌∷◌, length, true, Option}
use Rattle.std.specs.Option.{option_map}
use Rattle.std.specs.Borrow.{Bor}
use Rattle.indus_tree.specs.Tree as indus
use Rattle.indus_tree.specs.Tree.{Expr, Decl}
use Rattle.indus_tree.specs.State.{lookup}
use Rattle.p4_tree.specs.Tree as p4
use Rattle.p4_tree.specs.Tree.{Stmts, done, next}
use Rattle.monitor_laws.specs.Names.{rejected_name}
use Rattle.lowered_code.specs.Environment.{Environment}
use Rattle.lowered_code.specs.Expressions.{lowered, lowered_all}
use Rattle.lowered_code.specs.Statements.{set_name, set_array, tell, maybe_else, block_code, block_end}

module _ (a : Environment) (ds : List Decl) where
  -- l: what was read before the statement, from the number n on
  abbrev pub body_code : indus.Stmt → (n : ℕ) (l : List Expr) → Stmts
  body_code (indus.assign p x e) n l = set_name a (lookup ds x) x (lowered a ds n l e)
  body_code (indus.cell p x i e) n l = set_array (lookup ds x) (lowered a ds n l i) (lowered a ds n l e)
  body_code (indus.push p x e) n l = done
  body_code (indus.choice p t b c) n l =
      next (p4.choice 0 (lowered a ds n l t) (p4.block 0 (block_code a ds b (n + length l))) (maybe_else (block_code a ds c (block_end ds b (n + length l))))) done
  body_code (indus.loop p xs ls b) n l = done
  body_code (indus.reject p) n l = next (p4.assign 0 (rejected_name ∷ []) (p4.flag 0 true)) done
  body_code (indus.report p m es) n l = next (tell m (lowered_all a ds n l es)) done

-- the number behind a statement, where that behind its reads is n
abbrev pub body_end : List Decl → indus.Stmt → (n : ℕ) → ℕ
body_end ds (indus.assign p x e) n = n
body_end ds (indus.cell p x i e) n = n
body_end ds (indus.push p x e) n = n
body_end ds (indus.choice p t b c) n = block_end ds c (block_end ds b n)
body_end ds (indus.loop p xs ls b) n = n
body_end ds (indus.reject p) n = n
body_end ds (indus.report p m es) n = n
