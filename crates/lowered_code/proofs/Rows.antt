-- Worked rows: the code of a block, and what is declared for it.
use Rattle.std.proofs.Common.{◌≡◌, codes, ℕ, List, [], ◌∷◌, Some, None, true, false, refl}
use Rattle.std.specs.Fmt.{digits}
use Rattle.indus_tree.specs.Tree as indus
use Rattle.indus_tree.specs.Tree.{Shape, list, dict, Decl, none, more}
use Rattle.indus_tree.specs.declared.tree.DeclKind.{DeclKind}
use Rattle.indus_tree.specs.declared.tree.DeclKind.TheVariants as kind
use Rattle.indus_tree.specs.declared.tree.Op.TheVariants as op
use Rattle.indus_tree.specs.declared.tree.Ty.TheVariants as ty
use Rattle.p4_tree.specs.Tree.{Expr, path, binary, cast, one, Stmts, block, assign, choice, call, done, next, otherwise}
use Rattle.p4_tree.specs.declared.statement.Op.TheVariants.{Add, BitXor, Less, Equal}
use Rattle.p4_tree.specs.declared.statement.PTy.TheVariants as type
use Rattle.monitor_laws.specs.Trees.{number, only_if}
use Rattle.lookup_names.specs.Keys.{variable}
use Rattle.lowered_code.specs.Environment.{on_switch}
use Rattle.lowered_code.specs.Statements.{block_end, block_code, block_vars, block_lookups}

abbrev declared : DeclKind → List ℕ → Shape → Decl
declared k x s = record { at = 0; kind = k; name = x; shape = s; start = None; path = []; valid = false }

-- header bit<8> h = hdr.a.b; control dict<bit<8>, bit<8>> d; sensor bit<8>[4] n = 7; sensor bool m; tele bool x;
abbrev dict_decl : Decl
dict_decl = declared kind.Control (codes "d") (dict (ty.Bit 8 ∷ []) (ty.Bit 8))

abbrev decls : List Decl
decls =
    record (declared kind.Header (codes "h") (indus.one (ty.Bit 8))) { path = codes "hdr" ∷ codes "a" ∷ codes "b" ∷ [] }
    ∷ dict_decl
    ∷ record (declared kind.Sensor (codes "n") (list (ty.Bit 8) 4)) { start = Some (indus.num 0 (record { width = 0; value = 7 })) }
    ∷ declared kind.Sensor (codes "m") (indus.one ty.Bool)
    ∷ declared kind.Tele (codes "x") (indus.one ty.Bool)
    ∷ []

abbrev h : indus.Expr
h = indus.read 0 (codes "h")

abbrev at_h : List ℕ → indus.Expr
at_h x = indus.index 0 x (more h none)

-- if (d[h] == n[h]) { n[h] = n[h] + 1; m = true; } else { x = m; }
abbrev some_block : indus.Stmts
some_block =
    indus.next
    (indus.choice 0 (indus.binary 0 op.Equal (at_h (codes "d")) (at_h (codes "n")))
    (indus.next (indus.cell 0 (codes "n") h (indus.binary 0 op.Add (at_h (codes "n")) (indus.num 0 (record { width = 0; value = 1 }))))
    (indus.next (indus.assign 0 (codes "m") (indus.flag 0 true)) indus.done))
    (indus.next (indus.assign 0 (codes "x") (indus.read 0 (codes "m"))) indus.done))
    indus.done

-- there are four reads: d[h] and n[h] of the test, n[h] and m of the branches
four_reads : block_end decls some_block 0 ≡ 4
four_reads = refl

one_lookup : block_lookups decls some_block 0 ≡ (0, dict_decl) ∷ []
one_lookup = refl

its_vars : block_vars decls some_block 0 ≡
    (type.Bit 8, codes "hydra_f_0") ∷ (type.Bit 8, codes "hydra_k_0_0") ∷ (type.Bit 8, codes "hydra_f_1") ∷ (type.Bit 128, codes "hydra_k_1_0") ∷ (type.Bit 8, codes "hydra_f_2") ∷ (type.Bit 128, codes "hydra_k_2_0")
    ∷ (type.Bit 1, codes "hydra_f_3") ∷ []
unfolding digits
its_vars = refl

abbrev hab : Expr
hab = path 0 (codes "hdr" ∷ codes "a" ∷ codes "b" ∷ [])

-- the cell of n at an index comes to stand in a variable, where there is one
abbrev read_n : (found key : List ℕ) → Stmts → Stmts
read_n f k rest =
    next (assign 0 (f ∷ []) (number 8 0))
    (next (assign 0 (k ∷ []) (cast 0 (type.Bit 128) hab))
    (next (only_if (binary 0 Less (variable k) (number 128 4))
    (next (call 0 (codes "hydra_s_n" ∷ codes "read" ∷ []) (one 0 (variable f) ∷ one 0 (variable k) ∷ []))
    (next (assign 0 (f ∷ []) (binary 0 BitXor (variable f) (number 8 7))) done)))
    rest))

-- d[h] is looked up and n[h] read. Then n, which began with 7, is read again and written; m began with false, and is written as it is
its_code : block_code (on_switch 1 (codes "I")) decls some_block 0 ≡
    next (assign 0 (codes "hydra_f_0" ∷ []) (number 8 0))
    (next (assign 0 (codes "hydra_k_0_0" ∷ []) hab)
    (next (call 0 (codes "hydra_t_0.I" ∷ codes "apply" ∷ []) [])
    (read_n (codes "hydra_f_1") (codes "hydra_k_1_0")
    (next
    (choice 0 (binary 0 Equal (variable (codes "hydra_f_0")) (variable (codes "hydra_f_1")))
    (block 0
    (read_n (codes "hydra_f_2") (codes "hydra_k_2_0")
    (next (call 0 (codes "hydra_s_n" ∷ codes "write" ∷ []) (one 0 hab ∷ one 0 (binary 0 BitXor (binary 0 Add (variable (codes "hydra_f_2")) (number 0 1)) (number 8 7)) ∷ []))
    (next (call 0 (codes "hydra_s_m" ∷ codes "write" ∷ []) (one 0 (number 1 0) ∷ one 0 (number 1 1) ∷ [])) done))))
    (otherwise (block 0
    (next (call 0 (codes "hydra_s_m" ∷ codes "read" ∷ []) (one 0 (variable (codes "hydra_f_3")) ∷ one 0 (number 1 0) ∷ []))
    (next (assign 0 (codes "hdr" ∷ codes "hydra_tele" ∷ codes "hydra_v_x" ∷ []) (variable (codes "hydra_f_3"))) done)))))
    done))))
unfolding digits
its_code = refl
