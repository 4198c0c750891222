-- Worked rows: struct both { }, in both roles of six parts, and the program that is made of it.
use Rattle.std.proofs.Common.{◌≡◌, List, ℕ, [], ◌∷◌, ◌++◌, None, refl, codes}
use Rattle.p4_tree.specs.Tree.{done, nowhere, Control, Parser, Top, struct_type, parser, control, Program}
use Rattle.p4_tree.specs.declared.statement.PTy.TheVariants.{Named}
use Rattle.p4_tree.specs.declared.program.Way.{Way}
use Rattle.p4_tree.specs.declared.program.Way.TheVariants as way
use Rattle.p4_tree.specs.declared.program.Param.{Param}
use Rattle.p4_meaning.specs.Parts.{parts_of}
use Rattle.p4_scopes.specs.Scopes.{declare, core}
use Rattle.p4_rules.specs.ProgramRules.{first_fault}
use Rattle.parted_programs.specs.Parted.{parted}

abbrev param : Way → List ℕ → List ℕ → Param
param w t x = record { at = 0; way = w; ty = Named t; name = x }

-- the struct of metadata
abbrev meta : List ℕ → Param
meta m = param way.Both m (codes "meta")

abbrev the_parser : List ℕ → Parser
the_parser m =
    record {
      at = 0;
      name = codes "P";
      params = param way.Plain (codes "packet_in") (codes "packet") ∷ param way.Out (codes "both") (codes "hdr") ∷ meta m ∷ param way.Both (codes "standard_metadata_t") (codes "sm") ∷ [];
      states = record { at = 0; name = codes "start"; body = []; next = nowhere 0 } ∷ [];
    }

abbrev checksums : List ℕ → List ℕ → Control
checksums m x = record { at = 0; name = x; params = param way.Both (codes "both") (codes "hdr") ∷ meta m ∷ []; locals = []; apply = done }

abbrev applied : List ℕ → List ℕ → Control
applied m x = record { at = 0; name = x; params = param way.Both (codes "both") (codes "hdr") ∷ meta m ∷ param way.Both (codes "standard_metadata_t") (codes "sm") ∷ []; locals = []; apply = done }

abbrev deparser : Control
deparser = record { at = 0; name = codes "D"; params = param way.Plain (codes "packet_out") (codes "packet") ∷ param way.Into (codes "both") (codes "hdr") ∷ []; locals = []; apply = done }

abbrev with_parts : List Top → (metadata : List ℕ) → Program
with_parts front m =
    record {
      at = 0;
      tops =
          front
          ++ (struct_type 0 (codes "both") []
          ∷ parser 0 (the_parser m)
          ∷ control 0 (checksums m (codes "V"))
          ∷ control 0 (applied m (codes "I"))
          ∷ control 0 (applied m (codes "E"))
          ∷ control 0 (checksums m (codes "C"))
          ∷ control 0 deparser ∷ []);
      main = codes "P" ∷ codes "V" ∷ codes "I" ∷ codes "E" ∷ codes "C" ∷ codes "D" ∷ [];
    }

abbrev one_struct : Program
one_struct = with_parts [] (codes "both")

abbrev two_structs : Program
two_structs = with_parts (struct_type 0 (codes "hydra_x_metadata") [] ∷ []) (codes "hydra_x_metadata")

one_is_fine : first_fault one_struct ≡ None
unfolding declare core
one_is_fine = refl

is_parted : parted one_struct ≡ two_structs
is_parted = refl

two_are_fine : first_fault two_structs ≡ None
unfolding declare core
two_are_fine = refl

-- a program with two is left as it is
two_are_left : parted two_structs ≡ two_structs
two_are_left = refl

parts_stay : parts_of two_structs ≡ parts_of one_struct
parts_stay = refl
