-- What is tested of `main`: it names a parser and five different controls, all that are declared, which have the
-- parameters of the architecture. Read `Firsts` before it and `Limits` after it.
use Rattle.std.specs.Prelude.{ℕ, List, [], ◌∷◌, Bool, true, false, not, ◌&&◌, ◌||◌, Option, Some, None, is_some, codes}
use Rattle.lex_text.specs.Names.{same_text}
use Rattle.rule_tests.specs.Tests.{Tests, fine, test, both}
use Rattle.p4_tree.specs.Tree.{Control, Parser, Top, parser, control, Program}
use Rattle.p4_tree.specs.declared.statement.PTy.{PTy}
use Rattle.p4_tree.specs.declared.statement.PTy.TheVariants as type
use Rattle.p4_tree.specs.declared.program.Way.{Way}
use Rattle.p4_tree.specs.declared.program.Way.TheVariants.{Plain, Into, Out, Both}
use Rattle.p4_tree.specs.declared.program.Param.{Param}
use Rattle.p4_meaning.specs.Parts.{parser_named, control_named, struct_fields, parser_type, parser_in}
use Rattle.p4_scopes.specs.Scopes.{Scope, thing_in}
use Rattle.p4_scopes.specs.Uses.{is_scalar, is_header}
use Rattle.p4_scopes.specs.declared.thing.Thing.{Thing}
use Rattle.p4_scopes.specs.declared.thing.Thing.TheVariants.{Struct}
use Rattle.p4_statement_rules.specs.declared.rule.ProgramRule.{ProgramRule}
use Rattle.p4_statement_rules.specs.declared.rule.ProgramRule.TheVariants.{BadMain}
use Rattle.p4_parser_states.specs.Cycles.{is_among}
use Rattle.p4_declaration_rules.specs.Declarations.{has_twice}

-- ---- what main names

-- a parser or a control that main does not name
abbrev pub leaves_out : (main : List (List ℕ)) → Top → Bool
leaves_out main (parser p d) = not (is_among main d.name)
leaves_out main (control p c) = not (is_among main c.name)
leaves_out main _ = false

abbrev pub leaves_some_out : (main : List (List ℕ)) → List Top → Bool
leaves_some_out main [] = false
leaves_some_out main (t ∷ ts) = leaves_out main t || leaves_some_out main ts

abbrev pub has_controls : List Top → List (List ℕ) → Bool
has_controls ts [] = true
has_controls ts (x ∷ xs) = is_some (control_named ts x) && has_controls ts xs

-- main names a parser and five different controls
abbrev pub names_parts : List Top → List (List ℕ) → Bool
names_parts ts (d ∷ v ∷ i ∷ e ∷ k ∷ m ∷ []) = is_some (parser_named ts d) && has_controls ts (v ∷ i ∷ e ∷ k ∷ m ∷ []) && not (has_twice (v ∷ i ∷ e ∷ k ∷ m ∷ []))
names_parts ts _ = false

-- ---- parameters

-- what a parameter has to be: of a type of the architecture, the struct of headers, or the struct of metadata
pub data Wanted : Type 0 where
  core_type : Way → List ℕ → Wanted
  headers : Way → Wanted
  metadata : Way → Wanted

abbrev pub standard_wanted : Wanted
standard_wanted = core_type Both (codes "standard_metadata_t")

abbrev pub parser_wants : List Wanted
parser_wants = core_type Plain (codes "packet_in") ∷ headers Out ∷ metadata Both ∷ standard_wanted ∷ []

-- of the controls that verify and compute checksums
abbrev pub checksum_wants : List Wanted
checksum_wants = headers Both ∷ metadata Both ∷ []

-- of ingress and egress
abbrev pub apply_wants : List Wanted
apply_wants = headers Both ∷ metadata Both ∷ standard_wanted ∷ []

abbrev pub deparser_wants : List Wanted
deparser_wants = core_type Plain (codes "packet_out") ∷ headers Into ∷ []

abbrev pub same_way : Way → Way → Bool
same_way Plain Plain = true
same_way Into Into = true
same_way Out Out = true
same_way Both Both = true
same_way _ _ = false

abbrev pub is_named : PTy → List ℕ → Bool
is_named (type.Named t) x = same_text t x
is_named _ x = false

-- each field passes a test
abbrev pub all_fields : (Thing → Bool) → Scope → List (PTy × List ℕ) → Bool
all_fields fits s [] = true
all_fields fits s (f ∷ fs) = fits (thing_in s f.0) && all_fields fits s fs

abbrev pub is_struct : Thing → Bool
is_struct Struct = true
is_struct _ = false

-- the name is that of a struct, of whose fields each passes a test
abbrev pub is_struct_of : (Thing → Bool) → Scope → List Top → List ℕ → Bool
is_struct_of fits s ts x = is_struct (thing_in s (type.Named x)) && all_fields fits s (struct_fields ts x)

-- the types that the parser's parameters name for the headers and the metadata, and that they are a struct of headers
-- alone and one of single values
pub record Structs : Type 0 where
  pub headers_type : List ℕ
  pub metadata_type : List ℕ
  pub has_headers : Bool
  pub has_metadata : Bool

-- s: behind all declarations
abbrev pub structs_of : Scope → Program → Structs
structs_of s p =
    record {
      headers_type = parser_type (parser_in p) 1;
      metadata_type = parser_type (parser_in p) 2;
      has_headers = is_struct_of is_header s p.tops (parser_type (parser_in p) 1);
      has_metadata = is_struct_of is_scalar s p.tops (parser_type (parser_in p) 2);
    }

abbrev pub is_wanted : Structs → Wanted → Param → Bool
is_wanted r (core_type w x) q = same_way w q.way && is_named q.ty x
is_wanted r (headers w) q = same_way w q.way && (is_named q.ty r.headers_type && r.has_headers)
is_wanted r (metadata w) q = same_way w q.way && (is_named q.ty r.metadata_type && r.has_metadata)

-- at: of the program, where a parameter is wanting
abbrev pub wanted_tests : (at : ℕ) → Structs → List Wanted → List Param → Tests ProgramRule
wanted_tests p r [] [] = fine
wanted_tests p r [] (q ∷ qs) = both (test q.at BadMain true) (wanted_tests p r [] qs)
wanted_tests p r (w ∷ ws) [] = test p BadMain true
wanted_tests p r (w ∷ ws) (q ∷ qs) = both (test q.at BadMain (not (is_wanted r w q))) (wanted_tests p r ws qs)

abbrev pub parser_params : (at : ℕ) → Structs → Option Parser → Tests ProgramRule
parser_params p r None = fine
parser_params p r (Some d) = wanted_tests p r parser_wants d.params

abbrev pub control_params : (at : ℕ) → Structs → List Wanted → Option Control → Tests ProgramRule
control_params p r ws None = fine
control_params p r ws (Some c) = wanted_tests p r ws c.params

abbrev pub parts_params : (at : ℕ) → Structs → List Top → List (List ℕ) → Tests ProgramRule
parts_params p r ts (d ∷ v ∷ i ∷ e ∷ k ∷ m ∷ []) =
    both (parser_params p r (parser_named ts d))
    (both (control_params p r checksum_wants (control_named ts v))
    (both (control_params p r apply_wants (control_named ts i))
    (both (control_params p r apply_wants (control_named ts e))
    (both (control_params p r checksum_wants (control_named ts k))
    (control_params p r deparser_wants (control_named ts m))))))
parts_params p r ts _ = fine

-- ---- main

-- s: behind all declarations
abbrev pub main_tests : Scope → Program → Tests ProgramRule
main_tests s p =
    both (test p.at BadMain (not (names_parts p.tops p.main)))
    (both (test p.at BadMain (leaves_some_out p.main p.tops))
    (parts_params p.at (structs_of s p) p.tops p.main))
