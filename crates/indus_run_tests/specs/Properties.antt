-- Small properties and their packets, on which the definitions are worked out.
use Rattle.std.specs.Prelude.{codes, ℕ, zero, suc, List, [], ◌∷◌, ◌++◌, map, Bool, true, false, Some, None}
use Rattle.bit_values.specs.Bits.{Word, word}
use Rattle.indus_tree.specs.Tree.{Shape, one, list, set, dict, Expr, Exprs, num, flag, read, count, index, member, binary, cast, exprs_from, Stmt, assign, cell, push, choice, loop, reject, report, done, block_from, Decl, Property}
use Rattle.network_run.specs.PathMeaning.{Reads, Report, Doing, reads_at, nothing_yet}
use Rattle.network_run.specs.Hop.{hop_run}
use Rattle.indus_tree.specs.State.{Contents, members, pairs, Held}
use Rattle.indus_tree.specs.Law.{law_of}
use Rattle.indus_tree.specs.declared.tree.DeclKind.{DeclKind}
use Rattle.indus_tree.specs.declared.tree.DeclKind.TheVariants.{Tele, Sensor, Header, Control}
use Rattle.indus_tree.specs.declared.tree.Op.TheVariants as op
use Rattle.indus_tree.specs.declared.tree.Ty.TheVariants.{Bit as Bits, Bool as Truth}

-- ---- parts of trees. All places are 0

abbrev pub number : ℕ → Expr
number v = num 0 (record { width = 0; value = v })

abbrev pub name : List ℕ → Expr
name x = read 0 x

abbrev pub sum : Expr → Expr → Expr
sum a b = binary 0 op.Add a b

abbrev pub variable : DeclKind → List ℕ → Shape → Decl
variable k x s = record { at = 0; kind = k; name = x; shape = s; start = None; path = []; valid = false }

abbrev pub sensor : List ℕ → Shape → (start : ℕ) → Decl
sensor x s v = record { at = 0; kind = Sensor; name = x; shape = s; start = Some (number v); path = []; valid = false }

abbrev pub property : List Decl → (init tele check : List Stmt) → Property
property ds init tele check =
    record { at = 0; edition = 1; decls = ds; init = block_from init; tele = block_from tele; check = block_from check }

-- `x = x + e;`
abbrev pub adds : List ℕ → Expr → Stmt
adds x e = assign 0 x (sum (name x) e)

-- ---- packets

-- before the first hop
abbrev pub begun : Property → Doing Held Held
begun p = nothing_yet (law_of p).tele (law_of p).sensors

-- no control contents
abbrev pub no_contents : ℕ → Contents
no_contents v = members []

-- a hop at which the header variables read these words in the two parts, after what was done before it
abbrev pub passes_with : Property → (switch : ℕ) (first last : Bool) (entry exit : List Word) → Doing Held Held → Doing Held Held
passes_with p switch first last entry exit d =
    hop_run (law_of p) (reads_at switch first false entry no_contents) (Some (reads_at switch first last exit no_contents)) d.tele d.sensors

-- a hop without header variables
abbrev pub passes : Property → (switch : ℕ) (first last : Bool) → Doing Held Held → Doing Held Held
passes p switch first last d = passes_with p switch first last [] [] d

-- a packet that passes the switches 0, 1 and 2, and one that passes switch 0 alone
abbrev pub over_three : Property → Doing Held Held
over_three p = passes p 2 false true (passes p 1 false false (passes p 0 true false (begun p)))

abbrev pub over_one : Property → Doing Held Held
over_one p = passes p 0 true true (begun p)

-- a report
abbrev pub reporting : ℕ → List Word → Report
reporting n ws = record { number = n; values = ws }

-- ---- properties

-- tele bit<9>[2] l; {} {l.push((bit<9>) switch_id);} {report(length(l), 2 in l, 1 in l);}
abbrev pub three_pushes : Property
three_pushes =
    property (variable Tele (codes "l") (list (Bits 9) 2) ∷ []) []
    (push 0 (codes "l") (cast 0 9 (name (codes "switch_id"))) ∷ [])
    (report 0 0 (exprs_from (count 0 (codes "l") ∷ member 0 (exprs_from (number 2 ∷ [])) (codes "l") ∷ member 0 (exprs_from (number 1 ∷ [])) (codes "l") ∷ [])) ∷ [])

-- sensor bit<8> s = 250; {} {s = s + 3;} {}
abbrev pub wrapping : Property
wrapping = property (sensor (codes "s") (one (Bits 8)) 250 ∷ []) [] (adds (codes "s") (number 3) ∷ []) []

-- tele bit<8>[3] a; tele bit<8>[2] b; tele bit<8> n; tele bit<8> m;
-- {a.push(1); a.push(2); a.push(3); b.push(10); b.push(20);}
-- {for (x, y in a, b) {m = m + x * y; for (z in a) {n = n + z;}}} {}
abbrev pub nested_loops : Property
nested_loops =
    property
    (variable Tele (codes "a") (list (Bits 8) 3) ∷ variable Tele (codes "b") (list (Bits 8) 2) ∷ variable Tele (codes "n") (one (Bits 8)) ∷ variable Tele (codes "m") (one (Bits 8)) ∷ [])
    (map (λ v. push 0 (codes "a") (number v)) (1 ∷ 2 ∷ 3 ∷ []) ++ map (λ v. push 0 (codes "b") (number v)) (10 ∷ 20 ∷ []))
    (loop 0 (codes "x" ∷ codes "y" ∷ []) (codes "a" ∷ codes "b" ∷ [])
    (block_from (adds (codes "m") (binary 0 op.Mul (name (codes "x")) (name (codes "y"))) ∷ loop 0 (codes "z" ∷ []) (codes "a" ∷ []) (block_from (adds (codes "n") (name (codes "z")) ∷ [])) ∷ [])) ∷ [])
    []

-- a key of two parts
abbrev pub key : ℕ → Bool → Exprs
key v b = exprs_from (number v ∷ flag 0 b ∷ [])

-- control dict<(bit<8>, bool), bit<16>> d; control set<(bit<8>, bool)> s;
-- {} {} {report(d[1, true], d[1, false], d[2, true], (1, false) in s, (1, true) in s);}
abbrev pub two_parts : Property
two_parts =
    property
    (variable Control (codes "d") (dict (Bits 8 ∷ Truth ∷ []) (Bits 16)) ∷ variable Control (codes "s") (set (Bits 8 ∷ Truth ∷ [])) ∷ [])
    [] []
    (report 0 0
    (exprs_from (index 0 (codes "d") (key 1 true) ∷ index 0 (codes "d") (key 1 false) ∷ index 0 (codes "d") (key 2 true) ∷ member 0 (key 1 false) (codes "s") ∷ member 0 (key 1 true) (codes "s") ∷ [])) ∷ [])

-- two entries of the dict, and one key of the set
abbrev pub two_parts_set : ℕ → Contents
two_parts_set zero = pairs ((word 8 1 ∷ word 1 1 ∷ [], word 16 500) ∷ (word 8 1 ∷ word 1 0 ∷ [], word 16 7) ∷ [])
two_parts_set (suc v) = members ((word 8 1 ∷ word 1 0 ∷ []) ∷ [])

-- sensor bit<8>[3] a = 9; tele bit<8> n; tele bit<8> m; {} {a[2] = 5; a[3] = 6; n = a[3]; m = a[1];} {}
abbrev pub out_of_range : Property
out_of_range =
    property
    (sensor (codes "a") (list (Bits 8) 3) 9 ∷ variable Tele (codes "n") (one (Bits 8)) ∷ variable Tele (codes "m") (one (Bits 8)) ∷ [])
    []
    (cell 0 (codes "a") (number 2) (number 5) ∷ cell 0 (codes "a") (number 3) (number 6) ∷ assign 0 (codes "n") (index 0 (codes "a") (exprs_from (number 3 ∷ []))) ∷ assign 0 (codes "m") (index 0 (codes "a") (exprs_from (number 1 ∷ []))) ∷ [])
    []

-- header bit<9> o = standard_metadata.egress_port; tele bit<9> n; tele bit<9> m; {n = o;} {m = o;} {}
abbrev pub two_views : Property
two_views =
    property
    (variable Header (codes "o") (one (Bits 9)) ∷ variable Tele (codes "n") (one (Bits 9)) ∷ variable Tele (codes "m") (one (Bits 9)) ∷ [])
    (assign 0 (codes "n") (name (codes "o")) ∷ [])
    (assign 0 (codes "m") (name (codes "o")) ∷ [])
    []

-- tele bool[3] f; tele bool[3] l; {} {f.push(first_hop); l.push(last_hop);} {}
abbrev pub two_flags : Property
two_flags =
    property (variable Tele (codes "f") (list Truth 3) ∷ variable Tele (codes "l") (list Truth 3) ∷ []) []
    (push 0 (codes "f") (name (codes "first_hop")) ∷ push 0 (codes "l") (name (codes "last_hop")) ∷ [])
    []

abbrev name_n : ℕ → Expr
name_n k = name (codes "n")

-- tele bit<8> n; {n = n + 1;} {n = n + n;} {if (n == 2) {reject;} report(n, n, n, n, n, n, n, true); n = 0; report();}
abbrev pub in_order : Property
in_order =
    property (variable Tele (codes "n") (one (Bits 8)) ∷ [])
    (adds (codes "n") (number 1) ∷ [])
    (adds (codes "n") (name (codes "n")) ∷ [])
    (choice 0 (binary 0 op.Equal (name (codes "n")) (number 2)) (block_from (reject 0 ∷ [])) done ∷ report 0 0 (exprs_from (map name_n (1 ∷ 2 ∷ 3 ∷ 4 ∷ 5 ∷ 6 ∷ 7 ∷ []) ++ flag 0 true ∷ [])) ∷ assign 0 (codes "n") (number 0) ∷ report 0 1 (exprs_from []) ∷ [])

-- the same property, whose first sum stands at the tokens 9 and 11
abbrev pub in_order_placed : Property
in_order_placed = record in_order { at = 0; init = block_from (assign 7 (codes "n") (binary 9 op.Add (read 9 (codes "n")) (num 11 (record { width = 0; value = 1 }))) ∷ []) }
