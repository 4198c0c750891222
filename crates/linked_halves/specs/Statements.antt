-- The statements that stand around a monitor's parts. Every name that the linker adds begins with `hydra_`. All places
-- are 0.
use Rattle.std.specs.Prelude.{codes, ℕ, zero, suc, List, [], ◌∷◌, map, false, None}
use Rattle.p4_tree.specs.Tree.{Expr, flag, path, negation, binary, one, Stmt, Stmts, var, assign, call, done, next, and_then}
use Rattle.p4_tree.specs.declared.statement.PTy.{PTy}
use Rattle.p4_tree.specs.declared.statement.PTy.TheVariants as type
use Rattle.p4_tree.specs.declared.statement.Op.TheVariants as p4
use Rattle.p4_meaning.specs.Standard.{headers_root, standard_root, ingress_port, egress_spec, egress_port}
use Rattle.monitor_laws.specs.Names.{mark_path, rejects_register, first_name, last_name, rejected_name}
use Rattle.monitor_laws.specs.Trees.{number, only_if}
use Rattle.monitor_laws.specs.Monitor.{Monitor}

-- ---- tests of ports

-- a path holds a port
abbrev pub port_test : List (List ℕ) → ℕ → Expr
port_test p n = binary 0 p4.Equal (path 0 p) (number 0 n)

-- neighbours are joined by `||`, so many times: so the test of many ports is not high
abbrev pub joined_pairs : List Expr → List Expr
joined_pairs [] = []
joined_pairs (a ∷ []) = a ∷ []
joined_pairs (a ∷ b ∷ es) = binary 0 p4.Either a b ∷ joined_pairs es

abbrev pub joined : (times : ℕ) → List Expr → List Expr
joined zero es = es
joined (suc n) es = joined n (joined_pairs es)

-- one of these holds
abbrev pub any_of : List Expr → Expr
any_of [] = flag 0 false
any_of (a ∷ []) = a
any_of (a ∷ b ∷ es) = binary 0 p4.Either a (any_of (b ∷ es))

-- a path holds one of some ports: 511 tests are one when they are joined nine times
abbrev pub is_port_of : List (List ℕ) → List ℕ → Expr
is_port_of p ports = any_of (joined 9 (map (port_test p) ports))

abbrev pub none_of : List (List ℕ) → List ℕ → Expr
none_of p ports = negation 0 (is_port_of p ports)

-- ---- the last hop

-- a call without arguments on the telemetry header
abbrev pub on_header : List ℕ → Stmt
on_header verb = call 0 (headers_root ∷ codes "hydra_tele" ∷ verb ∷ []) []

-- the variable that holds the count of rejected packets
abbrev pub count_name : List ℕ
count_name = codes "hydra_count"

-- the register's one cell is raised, and the packet dropped
abbrev pub read_count : Stmt
read_count = call 0 (rejects_register ∷ codes "read" ∷ []) (one 0 (path 0 (count_name ∷ [])) ∷ one 0 (number 0 0) ∷ [])

abbrev pub write_count : Stmt
write_count = call 0 (rejects_register ∷ codes "write" ∷ []) (one 0 (number 0 0) ∷ one 0 (binary 0 p4.Add (path 0 (count_name ∷ [])) (number 0 1)) ∷ [])

abbrev pub drop_packet : Stmt
drop_packet = call 0 (codes "mark_to_drop" ∷ []) (one 0 (path 0 (standard_root ∷ [])) ∷ [])

abbrev pub reject_stmts : Stmts
reject_stmts = next (var 0 (type.Bit 32) count_name None) (next read_count (next write_count (next drop_packet done)))

-- the header goes, and a rejected packet too
abbrev pub end_stmts : Stmts
end_stmts = next (on_header (codes "setInvalid")) (next (only_if (path 0 (rejected_name ∷ [])) reject_stmts) done)

abbrev pub last_test : Stmts
last_test = next (only_if (path 0 (last_name ∷ [])) end_stmts) done

-- ---- the two parts

-- a control's variables, before statements
abbrev pub vars_of : List (PTy × List ℕ) → Stmts → Stmts
vars_of [] ss = ss
vars_of (l ∷ ls) ss = next (var 0 l.0 l.1 None) (vars_of ls ss)

module _ {T Z C : Type 0} (m : Monitor T Z C) (s : ℕ) (links : List ℕ) where
  -- at the first hop, where the frame came by a port without a link, the header is made and marked, and the entry part
  -- follows
  abbrev pub entry_stmts : Stmts
  entry_stmts = next (on_header (codes "setValid")) (next (assign 0 mark_path (number 8 m.mark)) (m.entry s))

  abbrev pub entry_stmt : Stmt
  entry_stmt = only_if (none_of ingress_port links) entry_stmts

  -- the flags are set, the exit part follows, and at the last hop the header goes, and a rejected packet too
  abbrev pub exit_stmts : Stmts
  exit_stmts =
      next (assign 0 (first_name ∷ []) (none_of ingress_port links))
      (next (assign 0 (last_name ∷ []) (none_of egress_port links)) (and_then (m.exit s) last_test))

  -- where forwarding does not drop the packet
  abbrev pub exit_stmt : Stmt
  exit_stmt = only_if (binary 0 p4.Differ (path 0 egress_spec) (number 0 511)) exit_stmts
