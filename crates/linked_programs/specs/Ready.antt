-- What of a forwarding program its linking rests on, in a form that its linking uses. All of it follows from the rules of P4
-- and from its names, but for the two structs, which have to be two.
use Rattle.std.specs.Prelude.{◌≡◌, codes, ℕ, List, [], ◌∷◌, true, false, Some, None}
use Rattle.lex_text.specs.Names.{same_text}
use Rattle.p4_tree.specs.Tree.{Control, Parser, Top, parser, control, Program}
use Rattle.p4_meaning.specs.Standard.{metadata_root}
use Rattle.p4_meaning.specs.Scope.{Scope, first_name, constant_named, own_names, is_among}
use Rattle.p4_meaning.specs.Under.{no_scope, behind_top, in_parser, in_control, behind_locals}
use Rattle.p4_meaning.specs.Parts.{parser_in, control_in, named_in}
use Rattle.p4_rule_laws.specs.Growth.{has_struct}
use Rattle.own_programs.specs.OwnPrograms.{HasOwnNames}
use Rattle.linked_programs.specs.Linked.{Place, is_ingress, is_egress, is_deparser, is_other, place_in, control_roots, parser_roots, headers_type, metadata_type}
use Rattle.linked_programs.specs.Reads.{StmtsReadIn, LocalsReadIn, StatesReadIn}
use Rattle.linked_programs.specs.Gives.{StandForRoots}

-- ingress or egress, before which this scope stands
pub record ReadyApply (sc : Scope) (c : Control) : Type 0 where
  pub roots : StandForRoots (control_roots c) (in_control 0 1 2 sc c)
  -- no constant hides the standard metadata, and the control declares no name of the architecture's
  pub standard : constant_named (behind_locals (in_control 0 1 2 sc c) c.locals).constants (control_roots c).standard ≡ None
  pub mark_to_drop : is_among (own_names c.locals) (codes "mark_to_drop") ≡ false
  pub digest : is_among (own_names c.locals) (codes "digest") ≡ false
  pub no_action : is_among (own_names c.locals) (codes "NoAction") ≡ false
  pub locals : LocalsReadIn (in_control 0 1 2 sc c) (control_roots c) c.locals
  pub apply : StmtsReadIn (behind_locals (in_control 0 1 2 sc c) c.locals) (control_roots c) c.apply

-- verify checksum or compute checksum
pub record ReadySums (sc : Scope) (c : Control) : Type 0 where
  pub locals : c.locals ≡ []
  pub metadata : first_name (in_control 0 1 9 sc c) (control_roots c).metadata ≡ metadata_root
  pub apply : StmtsReadIn (in_control 0 1 9 sc c) (control_roots c) c.apply

abbrev pub ReadyControl : Place → Scope → Control → Type 0
ReadyControl is_ingress sc c = ReadyApply sc c
ReadyControl is_egress sc c = ReadyApply sc c
ReadyControl is_deparser sc c = c.locals ≡ []
ReadyControl is_other sc c = ReadySums sc c

pub record ReadyParser (sc : Scope) (d : Parser) : Type 0 where
  pub roots : StandForRoots (parser_roots d) (in_parser sc d)
  pub states : StatesReadIn (in_parser sc d) (parser_roots d) d.states

abbrev pub AreReady : (main : List (List ℕ)) → Scope → List Top → Type 0
AreReady main sc [] = Unit {0}
AreReady main sc (parser q d ∷ ts) = ReadyParser sc d × AreReady main sc ts
AreReady main sc (control q c ∷ ts) = ReadyControl (place_in main c.name) sc c × AreReady main sc ts
AreReady main sc (t ∷ ts) = AreReady main (behind_top sc t) ts

-- the controls in the places of ingress and of egress are these
abbrev pub AreTheOnes : (main : List (List ℕ)) (ingress egress : Control) → List Top → Type 0
AreTheOnes main i e [] = Unit {0}
AreTheOnes main i e (control q c ∷ ts) = (place_in main c.name ≡ is_ingress → i ≡ c) × (place_in main c.name ≡ is_egress → e ≡ c) × AreTheOnes main i e ts
AreTheOnes main i e (t ∷ ts) = AreTheOnes main i e ts

pub record IsReady (p : Program) (i e : Control) (d : Parser) (k : Control) : Type 0 where
  pub names : HasOwnNames p
  pub tops : AreReady p.main no_scope p.tops
  pub ones : AreTheOnes p.main i e p.tops
  -- `main` names a parser and controls, each in its own place
  pub parser : parser_in p ≡ Some d
  pub ingress : control_in p 2 ≡ Some i
  pub egress : control_in p 3 ≡ Some e
  pub deparser : control_in p 5 ≡ Some k
  pub at_verify : place_in p.main (named_in p.main 1) ≡ is_other
  pub at_ingress : place_in p.main (named_in p.main 2) ≡ is_ingress
  pub at_egress : place_in p.main (named_in p.main 3) ≡ is_egress
  pub at_compute : place_in p.main (named_in p.main 4) ≡ is_other
  pub at_deparser : place_in p.main (named_in p.main 5) ≡ is_deparser
  -- the structs of headers and of metadata are declared, and are two
  pub headers : has_struct p.tops (headers_type p) ≡ true
  pub metadata : has_struct p.tops (metadata_type p) ≡ true
  pub two : same_text (headers_type p) (metadata_type p) ≡ false
