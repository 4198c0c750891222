-- A property made by hand, which meets what is asked. Read `Asked` before it.
use Rattle.std.specs.Prelude.{codes, ℕ, List, [], ◌∷◌, false, Some, None}
use Rattle.indus_tree.specs.Tree.{Expr, num, read, index, member, binary, none, more, cell, choice, done, next, one, list, dict, Decl, Property}
use Rattle.indus_tree.specs.declared.tree.Op.TheVariants as op
use Rattle.indus_tree.specs.declared.tree.DeclKind.TheVariants.{Tele, Sensor, Header, Control}
use Rattle.indus_tree.specs.declared.tree.Ty.TheVariants as ty
use Rattle.p4_tree.specs.Tree as p4
use Rattle.p4_tree.specs.Tree.{Stmts}
use Rattle.p4_tree.specs.declared.statement.Op.TheVariants as p4o
use Rattle.p4_tree.specs.declared.statement.PTy.TheVariants as type
use Rattle.p4_meaning.specs.Parsing.{Field}
use Rattle.monitor_laws.specs.Trees.{number, only_if}
use Rattle.lookup_names.specs.Keys.{variable}
use Rattle.whole_properties.specs.Whole.{Given}

abbrev pub dict_decl : Decl
dict_decl =
    record {
      at = 0;
      kind = Control;
      name = codes "d";
      shape = dict (ty.Bit 8 ∷ []) (ty.Bit 8);
      start = None;
      path = [];
      valid = false;
    }

abbrev pub list_decl : Decl
list_decl =
    record { at = 0; kind = Tele; name = codes "l"; shape = list (ty.Bit 8) 2; start = None; path = []; valid = false }

abbrev pub header_decl : Decl
header_decl =
    record {
      at = 0;
      kind = Header;
      name = codes "h";
      shape = one (ty.Bit 8);
      start = None;
      path = codes "hdr" ∷ codes "a" ∷ codes "b" ∷ [];
      valid = false;
    }

abbrev pub array_decl : Decl
array_decl =
    record {
      at = 0;
      kind = Sensor;
      name = codes "n";
      shape = list (ty.Bit 8) 4;
      start = Some (num 0 (record { width = 0; value = 7 }));
      path = [];
      valid = false;
    }

abbrev pub read_h : Expr
read_h = read 0 (codes "h")

abbrev at_h : List ℕ → Expr
at_h x = index 0 x (more read_h none)

-- control dict<bit<8>, bit<8>> d; tele bit<8>[2] l; header bit<8> h = hdr.a.b; sensor bit<8>[4] n = 7;
-- { if (d[h] in l) { n[h] = n[h] + 1; } } { } { }
abbrev pub looks : Property
looks =
    record {
      at = 0;
      edition = 1;
      decls = dict_decl ∷ list_decl ∷ header_decl ∷ array_decl ∷ [];
      init =
          next
          (choice 0 (member 0 (more (at_h (codes "d")) none) (codes "l"))
          (next
          (cell 0 (codes "n") read_h (binary 0 op.Add (at_h (codes "n")) (num 0 (record { width = 0; value = 1 }))))
          done)
          done)
          done;
      tele = done;
      check = done;
    }

-- in the controls I and E
abbrev pub looking : Given
looking = record { property = looks; ingress = codes "I"; egress = codes "E" }

-- ---- what it lowers to

abbrev pub field : List ℕ → Field
field x = record { name = x; width = 8 }

abbrev hab : p4.Expr
hab = p4.path 0 (codes "hdr" ∷ codes "a" ∷ codes "b" ∷ [])

abbrev scalar : List ℕ → p4.Expr
scalar x = p4.path 0 (codes "hdr" ∷ codes "hydra_tele" ∷ x ∷ [])

-- the list has a value at a place
abbrev looks_at : (place : ℕ) → (item value : List ℕ) → p4.Expr
looks_at i x v =
    p4.binary 0 p4o.Both (p4.binary 0 p4o.Less (number 8 i) (scalar (codes "hydra_v_1_c")))
    (p4.binary 0 p4o.Equal (scalar x) (variable v))

-- the cells hold values xor 7
abbrev turned_7 : p4.Expr → p4.Expr
turned_7 e = p4.binary 0 p4o.BitXor e (number 8 7)

-- a cell is read, where there is one, and one more is written
abbrev counting : Stmts
counting =
    p4.next (p4.assign 0 (codes "hydra_f_1" ∷ []) (number 8 0))
    (p4.next (p4.assign 0 (codes "hydra_k_1_0" ∷ []) (p4.cast 0 (type.Bit 128) hab))
    (p4.next
    (only_if (p4.binary 0 p4o.Less (variable (codes "hydra_k_1_0")) (number 128 4))
    (p4.next
    (p4.call 0 (codes "hydra_s_n" ∷ codes "read" ∷ [])
    (p4.one 0 (variable (codes "hydra_f_1")) ∷ p4.one 0 (variable (codes "hydra_k_1_0")) ∷ []))
    (p4.next (p4.assign 0 (codes "hydra_f_1" ∷ []) (turned_7 (variable (codes "hydra_f_1")))) p4.done)))
    (p4.next
    (p4.call 0 (codes "hydra_s_n" ∷ codes "write" ∷ [])
    (p4.one 0 hab ∷ p4.one 0 (turned_7 (p4.binary 0 p4o.Add (variable (codes "hydra_f_1")) (number 0 1))) ∷ []))
    p4.done)))

abbrev pub looking_code : Stmts
looking_code =
    p4.next (p4.assign 0 (codes "hydra_f_0" ∷ []) (number 8 0))
    (p4.next (p4.assign 0 (codes "hydra_k_0_0" ∷ []) hab)
    (p4.next (p4.call 0 (codes "hydra_t_0.I" ∷ codes "apply" ∷ []) [])
    (p4.next
    (p4.choice 0
    (p4.binary 0 p4o.Either (looks_at 0 (codes "hydra_v_1_0") (codes "hydra_f_0"))
    (looks_at 1 (codes "hydra_v_1_1") (codes "hydra_f_0")))
    (p4.block 0 counting) p4.without)
    p4.done)))
