-- The statements of the linker under a scope: they are those of `linked_halves`, whatever a control calls its parameters.
use Rattle.std.proofs.Common.{codes, ◌≡◌, ℕ, zero, suc, List, [], ◌∷◌, map, Bool, true, false, ◌&&◌, Option, None, refl, sym, ap, ap₂, ◌∙◌}
use Rattle.bit_values.specs.Bits.{Word}
use Rattle.lex_text.specs.Names.{same_text}
use Rattle.p4_tree.specs.Tree.{Expr, flag, path, negation, binary, one, Stmt, Stmts, block, var, assign, choice, call, done, next, and_then, without}
use Rattle.p4_tree.specs.declared.statement.PTy.TheVariants as type
use Rattle.p4_tree.specs.declared.statement.Op.TheVariants as p4
use Rattle.p4_meaning.specs.Standard.{headers_root, standard_root, ingress_port, egress_port}
use Rattle.p4_meaning.specs.Scope.{Scope, Roots, first_name, constant_at, full_name}
use Rattle.p4_meaning.specs.Under.{constant_or_path, expr_under, stmt_under, stmts_under}
use Rattle.own_code.specs.Regions.{is_mine}
use Rattle.monitor_laws.specs.Names.{mark_name, rejects_register, first_name as first_flag, last_name as last_flag, rejected_name}
use Rattle.monitor_laws.specs.Trees.{number}
use Rattle.linked_halves.specs.Statements as around
use Rattle.linked_halves.specs.Statements.{port_test, joined_pairs, joined, any_of, is_port_of, count_name}
use Rattle.linked_programs.specs.Linked as tree
use Rattle.linked_programs.specs.Linked.{tele_name, standard_at, entry_stmt, exit_stmt, switch_name}
use Rattle.linked_programs.specs.Reads.{PathReads, ExprReads, StmtReads, StmtsRead}
use Rattle.linked_programs.specs.Gives.{StandForRoots}

-- ---- tests of ports: what holds of each test, and of `||`, holds of the whole

module _ (R : Expr → Expr → Type 0) (falsely : R (flag 0 false) (flag 0 false)) (either : (a b c d : Expr) → R a b → R c d → R (binary 0 p4.Either a c) (binary 0 p4.Either b d)) where
  abbrev pub All2 : List Expr → List Expr → Type 0
  All2 [] [] = Unit {0}
  All2 (a ∷ as') (b ∷ bs) = R a b × All2 as' bs
  All2 _ _ = ⊥

  pairs_related : (as' bs : List Expr) → All2 as' bs → All2 (joined_pairs as') (joined_pairs bs)
  pairs_related [] [] h = tt
  pairs_related (a ∷ []) (b ∷ []) h = h
  pairs_related (a ∷ c ∷ as') (b ∷ d ∷ bs) h = (either a b c d h.0 h.1.0, pairs_related as' bs h.1.1)
  pairs_related [] (b ∷ bs) h = absurd h
  pairs_related (a ∷ as') [] h = absurd h
  pairs_related (a ∷ []) (b ∷ d ∷ bs) h = absurd h.1
  pairs_related (a ∷ c ∷ as') (b ∷ []) h = absurd h.1

  joined_related : (n : ℕ) (as' bs : List Expr) → All2 as' bs → All2 (joined n as') (joined n bs)
  joined_related zero as' bs h = h
  joined_related (suc n) as' bs h = joined_related n (joined_pairs as') (joined_pairs bs) (pairs_related as' bs h)

  any_related : (as' bs : List Expr) → All2 as' bs → R (any_of as') (any_of bs)
  any_related [] [] h = falsely
  any_related (a ∷ []) (b ∷ []) h = h.0
  any_related (a ∷ c ∷ as') (b ∷ d ∷ bs) h = either a b (any_of (c ∷ as')) (any_of (d ∷ bs)) h.0 (any_related (c ∷ as') (d ∷ bs) h.1)
  any_related [] (b ∷ bs) h = absurd h
  any_related (a ∷ as') [] h = absurd h
  any_related (a ∷ []) (b ∷ d ∷ bs) h = absurd h.1
  any_related (a ∷ c ∷ as') (b ∷ []) h = absurd h.1

  tests_related : (p q : List (List ℕ)) → ((n : ℕ) → R (port_test p n) (port_test q n)) → (ports : List ℕ) → All2 (map (port_test p) ports) (map (port_test q) ports)
  tests_related p q h [] = tt
  tests_related p q h (n ∷ ns) = (h n, tests_related p q h ns)

  pub tests_joined : (p q : List (List ℕ)) (ports : List ℕ) → All2 (map (port_test p) ports) (map (port_test q) ports) → R (is_port_of p ports) (is_port_of q ports)
  tests_joined p q ports h = any_related (joined 9 (map (port_test p) ports)) (joined 9 (map (port_test q) ports)) (joined_related 9 (map (port_test p) ports) (map (port_test q) ports) h)

  pub ports_related : (p q : List (List ℕ)) → ((n : ℕ) → R (port_test p n) (port_test q n)) → (ports : List ℕ) → R (is_port_of p ports) (is_port_of q ports)
  ports_related p q h ports = tests_joined p q ports (tests_related p q h ports)

-- ---- reads of the length: of the linker's there are none in controls

no_and : (a : Bool) → (a && false) ≡ false
no_and true = refl
no_and false = refl

module _ (first : List ℕ → List ℕ) (r : Roots) where
  other_field : (y : List ℕ) → same_text (codes "packet_length") y ≡ false → PathReads first r (standard_at r y)
  other_field y e =
      ap (λ (b : Bool). same_text standard_root (first r.standard) && (b && true)) e ∙ no_and (same_text standard_root (first r.standard))
      ∙ sym (ap (λ (b : Bool). same_text r.standard r.standard && b) e ∙ no_and (same_text r.standard r.standard))

  port_reads : (y : List ℕ) → same_text (codes "packet_length") y ≡ false → (links : List ℕ) → ExprReads first r (is_port_of (standard_at r y) links)
  port_reads y e links = ports_related (λ a b. ExprReads first r a) tt (λ a b c d h k. (h, k)) (standard_at r y) (standard_at r y) (λ n. (other_field y e, tt)) links

  pub entry_reads : (links : List ℕ) (mark : ℕ) (entry : Stmts) → StmtsRead first r entry → StmtReads first r (entry_stmt r links mark entry)
  entry_reads links mark entry h = (port_reads (codes "ingress_port") refl links, (tt, (tt, h)), tt)

  pub reads_then : (a b : Stmts) → StmtsRead first r a → StmtsRead first r b → StmtsRead first r (and_then a b)
  reads_then done b h k = k
  reads_then (next s a) b h k = (h.0, reads_then a b h.1 k)

  last_reads : StmtsRead first r (tree.last_test r)
  last_reads = ((tt, (tt, ((tt, (tt, ((tt, (tt, tt)), ((tt, ((tt, tt), tt)), ((tt, tt), tt)))), tt), tt)), tt), tt)

  pub exit_reads : (links : List ℕ) (exit : Stmts) → StmtsRead first r exit → StmtReads first r (exit_stmt r links exit)
  exit_reads links exit h = (
    (other_field (codes "egress_spec") refl, tt),
    (port_reads (codes "ingress_port") refl links, (port_reads (codes "egress_port") refl links, reads_then exit (tree.last_test r) h last_reads)),
    tt,
  )

-- ---- the statements under a scope

-- what stands for what where the linker's statements stand
pub record Stage (r : Roots) (sc : Scope) : Type 0 where
  pub roots : StandForRoots r sc
  pub mine : (x : List ℕ) → is_mine x ≡ true → first_name sc x ≡ x
  pub constants : (x : List ℕ) → is_mine x ≡ true → same_text switch_name x ≡ false → constant_at sc (x ∷ []) ≡ None
  pub standard : constant_at sc (r.standard ∷ []) ≡ None
  pub rejects : full_name sc rejects_register ≡ rejects_register
  pub drops : full_name sc (codes "mark_to_drop") ≡ codes "mark_to_drop"

port_under : (sc : Scope) (r : Roots) (y : List ℕ) → first_name sc r.standard ≡ standard_root → (links : List ℕ) → expr_under sc (is_port_of (standard_at r y) links) ≡ is_port_of (standard_root ∷ y ∷ []) links
port_under sc r y e links =
    ports_related (λ a b. expr_under sc a ≡ b) refl (λ a b c d h k. ap₂ (binary 0 p4.Either) h k) (standard_at r y) (standard_root ∷ y ∷ [])
    (λ n. ap (λ (x : List ℕ). binary 0 p4.Equal (path 0 (x ∷ y ∷ [])) (number 0 n)) e) links

module _ (r : Roots) (sc : Scope) (h : StandForRoots r sc) where
  abbrev entry_form : (mark : ℕ) (headers : List ℕ) (test : Expr) → Stmts → Stmt
  entry_form n x t e = choice 0 (negation 0 t) (block 0 (next (call 0 (x ∷ tele_name ∷ codes "setValid" ∷ []) []) (next (assign 0 (x ∷ tele_name ∷ mark_name ∷ []) (number 8 n)) e))) without

  pub entry_under : (links : List ℕ) (mark : ℕ) (entry : Stmts) → stmt_under sc (entry_stmt r links mark entry) ≡ entry_form mark headers_root (is_port_of ingress_port links) (stmts_under sc entry)
  entry_under links mark entry = ap₂ (λ (x : List ℕ) (t : Expr). entry_form mark x t (stmts_under sc entry)) h.headers (port_under sc r (codes "ingress_port") h.standard links)

pub then_under : (sc : Scope) (a b : Stmts) → stmts_under sc (and_then a b) ≡ and_then (stmts_under sc a) (stmts_under sc b)
then_under sc done b = refl
then_under sc (next s a) b = ap (next (stmt_under sc s)) (then_under sc a b)

module _ (r : Roots) (sc : Scope) (h : Stage r sc) where
  -- a variable of the monitor's
  variable : (x : List ℕ) → is_mine x ≡ true → same_text switch_name x ≡ false → expr_under sc (path 0 (x ∷ [])) ≡ path 0 (x ∷ [])
  variable x m n = ap₂ (λ (o : Option Word) (y : List ℕ). constant_or_path 0 o (y ∷ [])) (h.constants x m n) (h.mine x m)

  abbrev reject_form : (count register drop : List ℕ) (value argument : Expr) → Stmts
  reject_form x y d v a =
      next (var 0 (type.Bit 32) x None)
      (next (call 0 (y ∷ codes "read" ∷ []) (one 0 v ∷ one 0 (number 0 0) ∷ []))
      (next (call 0 (y ∷ codes "write" ∷ []) (one 0 (number 0 0) ∷ one 0 (binary 0 p4.Add v (number 0 1)) ∷ []))
      (next (call 0 (d ∷ []) (one 0 a ∷ [])) done)))

  standard_argument : expr_under sc (path 0 (r.standard ∷ [])) ≡ path 0 (standard_root ∷ [])
  standard_argument = ap₂ (λ (o : Option Word) (y : List ℕ). constant_or_path 0 o (y ∷ [])) h.standard h.roots.standard

  reject_under : stmts_under sc (tree.reject_stmts r) ≡ around.reject_stmts
  reject_under =
      λ i.
      reject_form (h.mine count_name refl i) (h.rejects i) (h.drops i) (variable count_name refl refl i) (standard_argument i)

  last_under : stmts_under sc (tree.last_test r) ≡ around.last_test
  last_under =
      λ i.
      next (choice 0 (variable last_flag refl refl i) (block 0
      (next (call 0 (h.roots.headers i ∷ tele_name ∷ codes "setInvalid" ∷ []) [])
      (next (choice 0 (variable rejected_name refl refl i) (block 0 (reject_under i)) without) done))) without) done

  abbrev exit_form : (standard first last : List ℕ) (arrived leaves : Expr) → Stmts → Stmt
  exit_form x f g a l e =
      choice 0 (binary 0 p4.Differ (path 0 (x ∷ codes "egress_spec" ∷ [])) (number 0 511)) (block 0
      (next (assign 0 (f ∷ []) (negation 0 a)) (next (assign 0 (g ∷ []) (negation 0 l)) e))) without

  pub exit_under : (links : List ℕ) (exit : Stmts) → stmt_under sc (exit_stmt r links exit) ≡ exit_form standard_root first_flag last_flag (is_port_of ingress_port links) (is_port_of egress_port links) (and_then (stmts_under sc exit) around.last_test)
  exit_under links exit =
      λ i.
      exit_form (h.roots.standard i) (h.mine first_flag refl i) (h.mine last_flag refl i)
      (port_under sc r (codes "ingress_port") h.roots.standard links i) (port_under sc r (codes "egress_port") h.roots.standard links i)
      ((then_under sc exit (tree.last_test r) ∙ ap (and_then (stmts_under sc exit)) last_under) i)
