-- Programs whose headers and metadata are one struct, which has no field then, with two: the metadata gets a new one. Such a
-- program is made before it is linked. Read `Linked` of `linked_programs` before it.
use Rattle.std.specs.Prelude.{codes, ℕ, zero, suc, List, [], ◌∷◌, map, if◌then◌else◌}
use Rattle.lex_text.specs.Names.{same_text}
use Rattle.p4_tree.specs.Tree.{Control, Parser, Top, constant, typedef, header_type, struct_type, register, parser, control, Program}
use Rattle.p4_tree.specs.declared.statement.PTy.TheVariants as type
use Rattle.p4_tree.specs.declared.program.Param.{Param}
use Rattle.linked_programs.specs.Linked.{Place, is_ingress, is_egress, is_deparser, is_other, place_in, headers_type, metadata_type}

-- the program's own by its prefix, and no name that a given program may have
abbrev pub new_metadata : List ℕ
new_metadata = codes "hydra_x_metadata"

-- a parameter with the new type
abbrev pub with_new : Param → Param
with_new q = record q { ty = type.Named new_metadata }

-- the parameter at a position with the new type
abbrev pub retyped : (at : ℕ) → List Param → List Param
retyped n [] = []
retyped zero (q ∷ qs) = with_new q ∷ qs
retyped (suc n) (q ∷ qs) = q ∷ retyped n qs

-- the parameters of a control, of which the deparser has none for the metadata
abbrev pub params_parted : Place → List Param → List Param
params_parted is_ingress qs = retyped 1 qs
params_parted is_egress qs = retyped 1 qs
params_parted is_deparser qs = qs
params_parted is_other qs = retyped 1 qs

abbrev pub parser_parted : Parser → Parser
parser_parted d = record d { params = retyped 2 d.params }

abbrev pub control_parted : Place → Control → Control
control_parted k c = record c { params = params_parted k c.params }

abbrev pub top_parted : (main : List (List ℕ)) → Top → Top
top_parted main (constant p ty x e) = constant p ty x e
top_parted main (typedef p ty x) = typedef p ty x
top_parted main (header_type p x fs) = header_type p x fs
top_parted main (struct_type p x fs) = struct_type p x fs
top_parted main (register p r) = register p r
top_parted main (parser p d) = parser p (parser_parted d)
top_parted main (control p c) = control p (control_parted (place_in main c.name) c)

abbrev pub tops_parted : (main : List (List ℕ)) → List Top → List Top
tops_parted main ts = struct_type 0 new_metadata [] ∷ map (top_parted main) ts

-- with two structs, whatever it had
abbrev pub with_two : Program → Program
with_two p = record p { tops = tops_parted p.main p.tops }

-- a program with two structs is left as it is
abbrev pub parted : Program → Program
parted p = if same_text (headers_type p) (metadata_type p) then with_two p else p
