-- How much larger a program without exits is.
use Rattle.std.proofs.Common.{◌≤◌, ℕ, ◌+◌, ◌*◌, List, [], ◌∷◌, map, Bool, true, false, if◌then◌else◌, arith}
use Rattle.std.specs.Prelude.{max}
use Rattle.p4_tree.specs.Tree.{Stmts, next, Local, local_action, local_table, local_register, local_const, local_var, Control, Top, constant, typedef, header_type, struct_type, register, parser, control}
use Rattle.p4_tree.specs.Height.{highest, stmts_height, local_height, control_height, top_height}
use Rattle.exit_statements.specs.Without.{in_action, in_control, Exits, no_exits, stmts_leave, stmts_without}
use Rattle.exit_statements.specs.Actions.{lowered, body_without}
use Rattle.exit_statements.specs.Bounds.{sizes}
use Rattle.exit_statements.proofs.Sizes.{sizes_bounded, heights_bounded}
use Rattle.exit_programs.specs.Programs.{flags, exits_in, exits_at, local_without, control_leaves, with_flag, control_without, top_without}
use Rattle.exit_programs.specs.Laws.{local_size, locals_size, top_size, program_size, SizeBounded, HeightBounded}

-- ---- sizes

body_size : (ss : Stmts) → sizes (body_without flags ss) ≤ 5 * sizes ss + 1
body_size ss = go (stmts_leave no_exits ss)
  where
    go : (b : Bool) → sizes (if b then next (lowered flags.returned) (stmts_without flags no_exits in_action false ss) else ss) ≤ 5 * sizes ss + 1
    go true = omega (arith, sizes_bounded flags no_exits in_action false ss)
    go false = omega arith

local_sized : (l : Local) → local_size (local_without l) ≤ 5 * local_size l
local_sized (local_action p a) = omega (arith, body_size a.body)
local_sized (local_table p t) = omega arith
local_sized (local_register p r) = omega arith
local_sized (local_const p ty x e) = omega arith
local_sized (local_var p ty x e) = omega arith

locals_sized : (ls : List Local) → locals_size (map local_without ls) ≤ 5 * locals_size ls
locals_sized [] = omega arith
locals_sized (l ∷ ls) = omega (arith, local_sized l, locals_sized ls)

flag_sized : (b : Bool) (ls : List Local) → locals_size (with_flag b ls) ≤ locals_size ls + 1
flag_sized true ls = omega arith
flag_sized false ls = omega arith

control_sized : (m : Exits) (p : ℕ) (c : Control) → top_size (control p (control_without m c)) ≤ 5 * top_size (control p c)
control_sized m p c =
    omega (arith, flag_sized (control_leaves m c) (map local_without c.locals), locals_sized c.locals, sizes_bounded flags (exits_at m c) in_control false c.apply)

tops_sized : (m : Exits) (ts : List Top) → program_size (map (top_without m) ts) ≤ 5 * program_size ts
tops_sized m [] = omega arith
tops_sized m (constant p ty x e ∷ ts) = omega (arith, tops_sized m ts)
tops_sized m (typedef p ty x ∷ ts) = omega (arith, tops_sized m ts)
tops_sized m (header_type p x fs ∷ ts) = omega (arith, tops_sized m ts)
tops_sized m (struct_type p x fs ∷ ts) = omega (arith, tops_sized m ts)
tops_sized m (register p r ∷ ts) = omega (arith, tops_sized m ts)
tops_sized m (parser p d ∷ ts) = omega (arith, tops_sized m ts)
tops_sized m (control p c ∷ ts) = omega (arith, control_sized m p c, tops_sized m ts)

pub size_bounded : SizeBounded
size_bounded p = tops_sized (exits_in p) p.tops

-- ---- heights

body_high : (ss : Stmts) → stmts_height (body_without flags ss) ≤ 3 * stmts_height ss + 2
body_high ss = go (stmts_leave no_exits ss)
  where
    go : (b : Bool) → stmts_height (if b then next (lowered flags.returned) (stmts_without flags no_exits in_action false ss) else ss) ≤ 3 * stmts_height ss + 2
    go true = omega (arith, heights_bounded flags no_exits in_action false ss)
    go false = omega arith

local_high : (l : Local) → local_height (local_without l) ≤ 3 * local_height l
local_high (local_action p a) = omega (arith, body_high a.body)
local_high (local_table p t) = omega arith
local_high (local_register p r) = omega arith
local_high (local_const p ty x e) = omega arith
local_high (local_var p ty x e) = omega arith

locals_high : (ls : List Local) → highest local_height (map local_without ls) ≤ 3 * highest local_height ls
locals_high [] = omega arith
locals_high (l ∷ ls) = omega (arith, local_high l, locals_high ls)

flag_high : (b : Bool) (ls : List Local) → highest local_height (with_flag b ls) ≤ max 2 (highest local_height ls)
flag_high true ls = omega arith
flag_high false ls = omega arith

control_high : (m : Exits) (c : Control) → control_height (control_without m c) ≤ 3 * control_height c
control_high m c = omega (arith, flag_high (control_leaves m c) (map local_without c.locals), locals_high c.locals, heights_bounded flags (exits_at m c) in_control false c.apply)

tops_high : (m : Exits) (ts : List Top) → highest top_height (map (top_without m) ts) ≤ 3 * highest top_height ts
tops_high m [] = omega arith
tops_high m (constant p ty x e ∷ ts) = omega (arith, tops_high m ts)
tops_high m (typedef p ty x ∷ ts) = omega (arith, tops_high m ts)
tops_high m (header_type p x fs ∷ ts) = omega (arith, tops_high m ts)
tops_high m (struct_type p x fs ∷ ts) = omega (arith, tops_high m ts)
tops_high m (register p r ∷ ts) = omega (arith, tops_high m ts)
tops_high m (parser p d ∷ ts) = omega (arith, tops_high m ts)
tops_high m (control p c ∷ ts) = omega (arith, control_high m c, tops_high m ts)

pub height_bounded : HeightBounded
height_bounded p = omega (arith, tops_high (exits_in p) p.tops)
