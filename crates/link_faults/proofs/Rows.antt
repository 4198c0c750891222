-- Worked rows: each refusal alone, each two of them in one case, and none.
use Rattle.std.proofs.Common.{◌≡◌, ℕ, List, [], ◌∷◌, Bool, true, false, Some, None, refl, codes}
use Rattle.lex_text.specs.declared.literal.Literal.{Literal}
use Rattle.indus_tree.specs.Tree as indus
use Rattle.indus_tree.specs.Tree.{Decl, Property}
use Rattle.indus_tree.specs.declared.tree.Op.TheVariants as op
use Rattle.indus_tree.specs.declared.tree.DeclKind.TheVariants.{Tele, Header}
use Rattle.indus_tree.specs.declared.tree.Ty.TheVariants as ty
use Rattle.p4_tree.specs.Tree.{num, path, one, many, Stmt, stmts_from, var, call, nowhere, Control, Parser, header_type, struct_type, parser, control, Program}
use Rattle.p4_tree.specs.declared.statement.PTy.TheVariants.{Bit, Bool as Bool_, Named}
use Rattle.p4_tree.specs.declared.program.Way.{Way}
use Rattle.p4_tree.specs.declared.program.Way.TheVariants as way
use Rattle.p4_tree.specs.declared.program.Param.{Param}
use Rattle.p4_scopes.specs.Scopes.{declare, core}
use Rattle.p4_rules.specs.ProgramRules.{first_fault}
use Rattle.link_faults.specs.Refusals.{no_such_field, field_width, name_taken, room_short, too_large}
use Rattle.link_faults.specs.Faults.{link_fault}

-- ---- a program: header eth_t { bit<16> kind; }  struct headers { eth_t eth; }  struct metadata { bit<8> m; bool b; },
-- and six parts, of whose ingress the statements are given

abbrev param : Way → List ℕ → List ℕ → Param
param w t x = record { at = 0; way = w; ty = Named t; name = x }

abbrev headers_param : Way → Param
headers_param w = param w (codes "headers") (codes "hdr")

abbrev metadata_param : Param
metadata_param = param way.Both (codes "metadata") (codes "meta")

abbrev standard_param : Param
standard_param = param way.Both (codes "standard_metadata_t") (codes "sm")

abbrev the_parser : Parser
the_parser =
    record {
      at = 0;
      name = codes "P";
      params = param way.Plain (codes "packet_in") (codes "packet") ∷ headers_param way.Out ∷ metadata_param ∷ standard_param ∷ [];
      states = record { at = 0; name = codes "start"; body = []; next = nowhere 0 } ∷ [];
    }

abbrev checksums : List ℕ → Control
checksums x = record { at = 0; name = x; params = headers_param way.Both ∷ metadata_param ∷ []; locals = []; apply = stmts_from [] }

abbrev applying : List ℕ → List Stmt → Control
applying x ss = record { at = 0; name = x; params = headers_param way.Both ∷ metadata_param ∷ standard_param ∷ []; locals = []; apply = stmts_from ss }

abbrev deparser : Control
deparser = record { at = 0; name = codes "D"; params = param way.Plain (codes "packet_out") (codes "packet") ∷ headers_param way.Into ∷ []; locals = []; apply = stmts_from [] }

abbrev program : List Stmt → Program
program ss =
    record {
      at = 0;
      tops =
          header_type 0 (codes "eth_t") ((Bit 16, codes "kind") ∷ [])
          ∷ struct_type 0 (codes "headers") ((Named (codes "eth_t"), codes "eth") ∷ [])
          ∷ struct_type 0 (codes "metadata") ((Bit 8, codes "m") ∷ (Bool_, codes "b") ∷ [])
          ∷ parser 0 the_parser
          ∷ control 0 (checksums (codes "V"))
          ∷ control 0 (applying (codes "I") ss)
          ∷ control 0 (applying (codes "E") [])
          ∷ control 0 (checksums (codes "K"))
          ∷ control 0 deparser
          ∷ [];
      main = codes "P" ∷ codes "V" ∷ codes "I" ∷ codes "E" ∷ codes "K" ∷ codes "D" ∷ [];
    }

-- bit<8> hydra_x;
abbrev named : Stmt
named = var 0 (Bit 8) (codes "hydra_x") None

-- digest(n, { hdr.eth.kind });
abbrev telling : Literal → Stmt
telling n = call 0 (codes "digest" ∷ []) (one 0 (num 0 n) ∷ many 0 (path 0 (codes "hdr" ∷ codes "eth" ∷ codes "kind" ∷ []) ∷ []) ∷ [])

abbrev reporting : Stmt
reporting = telling (record { width = 0; value = 1213809746 })

programs_fine : (first_fault (program []) ≡ None) × (first_fault (program (named ∷ reporting ∷ [])) ≡ None)
unfolding declare core
programs_fine = (refl, refl)

-- ---- properties

abbrev header : indus.Shape → (valid : Bool) → List (List ℕ) → Decl
header shape valid p = record { at = 0; kind = Header; name = codes "x"; shape = shape; start = None; path = p; valid = valid }

abbrev bits : ℕ → List (List ℕ) → Decl
bits w p = header (indus.one (ty.Bit w)) false p

-- header bit<16> x = hdr.tcp.dport;
abbrev unknown : Decl
unknown = bits 16 (codes "hdr" ∷ codes "tcp" ∷ codes "dport" ∷ [])

-- header bit<8> x = hdr.eth.kind;
abbrev narrow : Decl
narrow = bits 8 (codes "hdr" ∷ codes "eth" ∷ codes "kind" ∷ [])

abbrev tele : List ℕ → indus.Shape → Decl
tele x shape = record { at = 0; kind = Tele; name = x; shape = shape; start = None; path = []; valid = false }

-- tele bit<1>[255] a; tele bit<8> n; .. {body} {} {}
abbrev property : indus.Stmts → List Decl → Property
property body ds =
    record {
      at = 0;
      edition = 1;
      decls = tele (codes "a") (indus.list (ty.Bit 1) 255) ∷ tele (codes "n") (indus.one (ty.Bit 8)) ∷ ds;
      init = body;
      tele = indus.done;
      check = indus.done;
    }

abbrev light : List Decl → Property
light = property indus.done

abbrev over_a : List ℕ → indus.Stmts → indus.Stmt
over_a x body = indus.loop 0 (x ∷ []) (codes "a" ∷ []) body

-- for (x in a) { for (y in a) { n = n + 1; } }
abbrev heavy : List Decl → Property
heavy =
    property (indus.next (over_a (codes "x") (indus.next (over_a (codes "y") (indus.next (indus.assign 0 (codes "n") (indus.binary 0 op.Add (indus.read 0 (codes "n")) (indus.num 0 (record { width = 0; value = 1 })))) indus.done)) indus.done)) indus.done)

-- ---- none, and one

-- the telemetry has 8 + 8 + 255 + 8 bits
none_is_given : link_fault (program []) (light (bits 16 (codes "hdr" ∷ codes "eth" ∷ codes "kind" ∷ []) ∷ header (indus.one ty.Bool) true (codes "hdr" ∷ codes "eth" ∷ codes "isValid" ∷ []) ∷ bits 8 (codes "meta" ∷ codes "m" ∷ []) ∷ bits 9 (codes "standard_metadata" ∷ codes "ingress_port" ∷ []) ∷ [])) 35 ≡ None
unfolding declare core
none_is_given = refl

no_header : link_fault (program []) (light (unknown ∷ [])) 256 ≡ Some (no_such_field (codes "hdr.tcp.dport"))
unfolding declare core
no_header = refl

no_field : link_fault (program []) (light (bits 8 (codes "hdr" ∷ codes "eth" ∷ codes "m" ∷ []) ∷ [])) 256 ≡ Some (no_such_field (codes "hdr.eth.m"))
unfolding declare core
no_field = refl

no_valid : link_fault (program []) (light (header (indus.one ty.Bool) true (codes "hdr" ∷ codes "tcp" ∷ codes "isValid" ∷ []) ∷ [])) 256 ≡ Some (no_such_field (codes "hdr.tcp.isValid"))
unfolding declare core
no_valid = refl

no_metadata : link_fault (program []) (light (bits 16 (codes "meta" ∷ codes "kind" ∷ []) ∷ [])) 256 ≡ Some (no_such_field (codes "meta.kind"))
unfolding declare core
no_metadata = refl

no_standard : link_fault (program []) (light (bits 9 (codes "standard_metadata" ∷ codes "m" ∷ []) ∷ [])) 256 ≡ Some (no_such_field (codes "standard_metadata.m"))
unfolding declare core
no_standard = refl

other_width : link_fault (program []) (light (narrow ∷ [])) 256 ≡ Some (field_width (codes "hdr.eth.kind"))
unfolding declare core
other_width = refl

truth_value : link_fault (program []) (light (bits 1 (codes "meta" ∷ codes "b" ∷ []) ∷ [])) 256 ≡ Some (field_width (codes "meta.b"))
unfolding declare core
truth_value = refl

error_value : link_fault (program []) (light (bits 2 (codes "standard_metadata" ∷ codes "parser_error" ∷ []) ∷ [])) 256 ≡ Some (field_width (codes "standard_metadata.parser_error"))
unfolding declare core
error_value = refl

kept_name : link_fault (program (named ∷ [])) (light []) 256 ≡ Some (name_taken (codes "hydra_x"))
unfolding declare core
kept_name = refl

-- a receiver by its digits, however it is written
reports_receiver : link_fault (program (telling (record { width = 32; value = 1213809746 }) ∷ [])) (light []) 256 ≡ Some (name_taken (codes "1213809746"))
unfolding declare core
reports_receiver = refl

-- a written width cuts it, and others may be told
other_receiver : link_fault (program (telling (record { width = 8; value = 1213809746 }) ∷ telling (record { width = 0; value = 1213809747 }) ∷ [])) (light []) 256 ≡ None
unfolding declare core
other_receiver = refl

-- the first place of the text
first_place : (link_fault (program (named ∷ reporting ∷ [])) (light []) 256 ≡ Some (name_taken (codes "hydra_x"))) × (link_fault (program (reporting ∷ named ∷ [])) (light []) 256 ≡ Some (name_taken (codes "1213809746")))
unfolding declare core
first_place = (refl, refl)

too_short : link_fault (program []) (light []) 34 ≡ Some (room_short 35 34)
unfolding declare core
too_short = refl

too_heavy : link_fault (program []) (heavy []) 256 ≡ Some (too_large 325636)
unfolding declare core
too_heavy = refl

-- ---- two

-- in order of declaration
fields_in_order : (link_fault (program []) (light (unknown ∷ narrow ∷ [])) 256 ≡ Some (no_such_field (codes "hdr.tcp.dport"))) × (link_fault (program []) (light (narrow ∷ unknown ∷ [])) 256 ≡ Some (field_width (codes "hdr.eth.kind")))
unfolding declare core
fields_in_order = (refl, refl)

field_before_name : (link_fault (program (named ∷ [])) (light (unknown ∷ [])) 256 ≡ Some (no_such_field (codes "hdr.tcp.dport"))) × (link_fault (program (named ∷ [])) (light (narrow ∷ [])) 256 ≡ Some (field_width (codes "hdr.eth.kind")))
unfolding declare core
field_before_name = (refl, refl)

field_before_room : (link_fault (program []) (light (unknown ∷ [])) 34 ≡ Some (no_such_field (codes "hdr.tcp.dport"))) × (link_fault (program []) (light (narrow ∷ [])) 34 ≡ Some (field_width (codes "hdr.eth.kind")))
unfolding declare core
field_before_room = (refl, refl)

field_before_weight : (link_fault (program []) (heavy (unknown ∷ [])) 256 ≡ Some (no_such_field (codes "hdr.tcp.dport"))) × (link_fault (program []) (heavy (narrow ∷ [])) 256 ≡ Some (field_width (codes "hdr.eth.kind")))
unfolding declare core
field_before_weight = (refl, refl)

name_before_room : link_fault (program (named ∷ [])) (light []) 34 ≡ Some (name_taken (codes "hydra_x"))
unfolding declare core
name_before_room = refl

name_before_weight : link_fault (program (reporting ∷ [])) (heavy []) 256 ≡ Some (name_taken (codes "1213809746"))
unfolding declare core
name_before_weight = refl

room_before_weight : link_fault (program []) (heavy []) 34 ≡ Some (room_short 35 34)
unfolding declare core
room_before_weight = refl

-- all five
all_at_once : link_fault (program (named ∷ [])) (heavy (narrow ∷ unknown ∷ [])) 34 ≡ Some (field_width (codes "hdr.eth.kind"))
unfolding declare core
all_at_once = refl
