-- Places that rise between two bounds rise between wider ones.
use Rattle.std.proofs.Common.{ℕ, ◌+◌, ◌≤◌, [], ◌∷◌, Some, None, arith}
use Rattle.p4_tree.specs.Tree.{num, flag, path, valid, applied, error_name, negation, inversion, opposite, binary, conditional, slice, cast, one, many, nothing, block, var, assign, choice, return_, exit_, call, done, next, without, otherwise, any, only, masked, nowhere, to, select, local_action, local_table, local_register, local_const, local_var, constant, typedef, header_type, struct_type, register, parser, control}
use Rattle.p4_spelling.specs.Rising.{EachRises, MayRise, Rises, ArgRises, StmtRises, StmtsRise, ElseRises, KeysetRises, CaseRises, NextRises, ParamRises, StateRises, ParserRises, ActionRises, KeyRises, DefaultRises, TableRises, LocalRises, ControlRises, TopRises}

abbrev pub Wide : {A : Type 0} → ((p q : ℕ) → A → Type 0) → Type 0
Wide {A = A} R = (a : A) (p q p' q' : ℕ) → p' ≤ p → q ≤ q' → R p q a → R p' q' a

module _ {A : Type 0} (R : (p q : ℕ) → A → Type 0) (wide : Wide R) where
  pub wide_each : Wide (EachRises R)
  wide_each [] p q p' q' low high x = omega (arith, x)
  wide_each (a ∷ rest) p q p' q' low high x = (x.0, wide a p x.0 p' x.0 low (omega arith) x.1, wide_each rest x.0 q x.0 q' (omega arith) high x.2)

  pub wide_may : Wide (MayRise R)
  wide_may None p q p' q' low high x = omega (arith, x)
  wide_may (Some a) p q p' q' low high x = wide a p q p' q' low high x

-- ---- expressions and statements

pub wider : Wide Rises
wider (num r n) p q p' q' low high x = (omega (arith, x.0), omega (arith, x.1))
wider (flag r b) p q p' q' low high x = (omega (arith, x.0), omega (arith, x.1))
wider (path r xs) p q p' q' low high x = (omega (arith, x.0), omega (arith, x.1))
wider (valid r xs) p q p' q' low high x = (omega (arith, x.0), omega (arith, x.1))
wider (applied r y hit) p q p' q' low high x = (omega (arith, x.0), omega (arith, x.1))
wider (error_name r y) p q p' q' low high x = (omega (arith, x.0), omega (arith, x.1))
wider (negation r a) p q p' q' low high x = (omega (arith, x.0), wider a (r + 1) q (r + 1) q' (omega arith) high x.1)
wider (inversion r a) p q p' q' low high x = (omega (arith, x.0), wider a (r + 1) q (r + 1) q' (omega arith) high x.1)
wider (opposite r a) p q p' q' low high x = (omega (arith, x.0), wider a (r + 1) q (r + 1) q' (omega arith) high x.1)
wider (binary r op a b) p q p' q' low high x = (omega (arith, x.0), (x.1.0, x.1.1, wider b (x.1.0 + 1) q (x.1.0 + 1) q' (omega arith) high x.1.2))
wider (conditional r a b c) p q p' q' low high x = (omega (arith, x.0), (x.1.0, x.1.1, x.1.2, x.1.3, wider c (x.1.1 + 1) q (x.1.1 + 1) q' (omega arith) high x.1.4))
wider (slice r a h l) p q p' q' low high x = (omega (arith, x.0), wider a r q r q' (omega arith) high x.1)
wider (cast r t a) p q p' q' low high x = (omega (arith, x.0), wider a (r + 1) q (r + 1) q' (omega arith) high x.1)

pub wider_arg : Wide ArgRises
wider_arg (one r e) p q p' q' low high x = (omega (arith, x.0), wider e r q r q' (omega arith) high x.1)
wider_arg (many r es) p q p' q' low high x = (omega (arith, x.0), wide_each Rises wider es (r + 1) q (r + 1) q' (omega arith) high x.1)

mutual
  pub wider_stmt : Wide StmtRises
  wider_stmt (nothing r) p q p' q' low high x = (omega (arith, x.0), omega (arith, x.1))
  wider_stmt (block r ss) p q p' q' low high x = (omega (arith, x.0), wider_stmts ss (r + 1) q (r + 1) q' (omega arith) high x.1)
  wider_stmt (var r t y e) p q p' q' low high x = (omega (arith, x.0), wide_may Rises wider e (r + 1) q (r + 1) q' (omega arith) high x.1)
  wider_stmt (assign r xs e) p q p' q' low high x = (omega (arith, x.0), wider e (r + 1) q (r + 1) q' (omega arith) high x.1)
  wider_stmt (choice r e a b) p q p' q' low high x = (omega (arith, x.0), (x.1.0, x.1.1, x.1.2, x.1.3, wider_else b x.1.1 q x.1.1 q' (omega arith) high x.1.4))
  wider_stmt (return_ r) p q p' q' low high x = (omega (arith, x.0), omega (arith, x.1))
  wider_stmt (exit_ r) p q p' q' low high x = (omega (arith, x.0), omega (arith, x.1))
  wider_stmt (call r xs args) p q p' q' low high x = (omega (arith, x.0), wide_each ArgRises wider_arg args (r + 1) q (r + 1) q' (omega arith) high x.1)

  pub wider_stmts : Wide StmtsRise
  wider_stmts done p q p' q' low high x = omega (arith, x)
  wider_stmts (next s ss) p q p' q' low high x = (x.0, wider_stmt s p x.0 p' x.0 low (omega arith) x.1, wider_stmts ss x.0 q x.0 q' (omega arith) high x.2)

  pub wider_else : Wide ElseRises
  wider_else without p q p' q' low high x = omega (arith, x)
  wider_else (otherwise s) p q p' q' low high x = wider_stmt s p q p' q' low high x

-- ---- parsers

pub wider_keyset : Wide KeysetRises
wider_keyset (any r) p q p' q' low high x = (omega (arith, x.0), omega (arith, x.1))
wider_keyset (only r e) p q p' q' low high x = (omega (arith, x.0), wider e r q r q' (omega arith) high x.1)
wider_keyset (masked r e m) p q p' q' low high x = (omega (arith, x.0), (x.1.0, x.1.1, wider m (x.1.0 + 1) q (x.1.0 + 1) q' (omega arith) high x.1.2))

pub wider_case : Wide CaseRises
wider_case c p q p' q' low high x = wide_each KeysetRises wider_keyset c.keys p q p' q' low high x

pub wider_next : Wide NextRises
wider_next (nowhere r) p q p' q' low high x = (omega (arith, x.0), omega (arith, x.1))
wider_next (to r y) p q p' q' low high x = (omega (arith, x.0), omega (arith, x.1))
wider_next (select r es cs) p q p' q' low high x = (omega (arith, x.0), (x.1.0, x.1.1, wide_each CaseRises wider_case cs x.1.0 q x.1.0 q' (omega arith) high x.1.2))

pub wider_param : Wide ParamRises
wider_param d p q p' q' low high x = (omega (arith, x.0), omega (arith, x.1))

pub wider_state : Wide StateRises
wider_state s p q p' q' low high x = (omega (arith, x.0), (x.1.0, x.1.1, wider_next s.next x.1.0 q x.1.0 q' (omega arith) high x.1.2))

pub wider_parser : Wide ParserRises
wider_parser d p q p' q' low high x = (omega (arith, x.0), (x.1.0, x.1.1, wide_each StateRises wider_state d.states x.1.0 q x.1.0 q' (omega arith) high x.1.2))

-- ---- controls

pub wider_action : Wide ActionRises
wider_action d p q p' q' low high x = (omega (arith, x.0), wider_stmts d.body (d.at + 1) q (d.at + 1) q' (omega arith) high x.1)

pub wider_key : Wide KeyRises
wider_key k p q p' q' low high x = wider k.0 p q p' q' low high x

pub wider_default : Wide DefaultRises
wider_default d p q p' q' low high x = wide_each Rises wider d.1 p q p' q' low high x

pub wider_table : Wide TableRises
wider_table d p q p' q' low high x =
    (omega (arith, x.0), omega (arith, x.1), wide_each KeyRises wider_key d.keys (d.at + 1) q (d.at + 1) q' (omega arith) high x.2, wide_may DefaultRises wider_default d.default (d.at + 1) q (d.at + 1) q' (omega arith) high x.3)

pub wider_local : Wide LocalRises
wider_local (local_action r d) p q p' q' low high x = (omega (arith, x.0), x.1, wider_action d r q r q' (omega arith) high x.2)
wider_local (local_table r d) p q p' q' low high x = (omega (arith, x.0), x.1, wider_table d r q r q' (omega arith) high x.2)
wider_local (local_register r d) p q p' q' low high x = ((omega (arith, x.0.0), omega (arith, x.0.1)), x.1)
wider_local (local_const r t y e) p q p' q' low high x = (omega (arith, x.0), wider e (r + 1) q (r + 1) q' (omega arith) high x.1)
wider_local (local_var r t y e) p q p' q' low high x = (omega (arith, x.0), wide_may Rises wider e (r + 1) q (r + 1) q' (omega arith) high x.1)

pub wider_control : Wide ControlRises
wider_control d p q p' q' low high x = (omega (arith, x.0), (x.1.0, x.1.1, x.1.2, x.1.3, wider_stmts d.apply x.1.1 q x.1.1 q' (omega arith) high x.1.4))

-- ---- programs

pub wider_top : Wide TopRises
wider_top (constant r t y e) p q p' q' low high x = (omega (arith, x.0), wider e (r + 1) q (r + 1) q' (omega arith) high x.1)
wider_top (typedef r t y) p q p' q' low high x = (omega (arith, x.0), omega (arith, x.1))
wider_top (header_type r y fs) p q p' q' low high x = (omega (arith, x.0), omega (arith, x.1))
wider_top (struct_type r y fs) p q p' q' low high x = (omega (arith, x.0), omega (arith, x.1))
wider_top (register r d) p q p' q' low high x = ((omega (arith, x.0.0), omega (arith, x.0.1)), x.1)
wider_top (parser r d) p q p' q' low high x = (omega (arith, x.0), x.1, wider_parser d r q r q' (omega arith) high x.2)
wider_top (control r d) p q p' q' low high x = (omega (arith, x.0), x.1, wider_control d r q r q' (omega arith) high x.2)
