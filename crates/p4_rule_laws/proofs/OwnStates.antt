-- Outside parsers nothing is a state, and the `start` of a fine parser is one of its own.
use Rattle.std.proofs.Common.{◌≡◌, ℕ, List, [], ◌∷◌, Bool, true, false, cond, refl, sym, ap, ◌∙◌, codes}
use Rattle.std.proofs.lemmas.Slice.Eq.{bytes_eq-Decides}
use Rattle.lex_text.specs.Names.{same_text}
use Rattle.rule_tests.specs.Tests.{IsFine}
use Rattle.p4_tree.specs.Tree.{ParserState, Top, constant, typedef, header_type, struct_type, register, parser, control}
use Rattle.p4_tree.specs.declared.program.Param.{Param}
use Rattle.p4_parser_states.specs.Cycles.{is_among, state_names}
use Rattle.p4_scopes.specs.Scopes.{Stands, missing, typed, held, cells, act, rows, state, function, algorithm, other, Scope, is_missing, What, alias, fields, value, action, table, parser_state, part, behind, declare, core, fields_bits}
use Rattle.p4_scopes.specs.Scopes as scope
use Rattle.p4_scopes.specs.declared.thing.Thing.TheVariants.{Header, Struct}
use Rattle.p4_scopes.specs.declared.thing.Access.TheVariants.{Constant}
use Rattle.p4_declaration_rules.specs.Parsers.{is_state_name, way_access, with_ways, start_tests}
use Rattle.p4_declaration_rules.specs.Controls.{after_top, after_tops}
use Rattle.p4_rule_laws.specs.Entered.{stands_state, HasNoStates}
use Rattle.p4_rule_laws.proofs.KeepsLemmas.{declared, undeclared}
use Rattle.p4_rule_laws.proofs.EnteredLemmas.{onto_name}

passed : (b : Bool) (a u : Stands) → stands_state a ≡ false → stands_state u ≡ false → stands_state (cond b a u) ≡ false
passed true a u n i = n
passed false a u n i = i

core_none : (x : List ℕ) → stands_state (core (x ∷ [])) ≡ false
unfolding core
core_none x =
    passed (same_text x (codes "standard_metadata_t")) _ _ refl
    (passed (same_text x (codes "packet_in")) _ _ refl
    (passed (same_text x (codes "packet_out")) _ _ refl
    (passed (same_text x (codes "NoAction")) _ _ refl
    (passed (same_text x (codes "mark_to_drop")) _ _ refl
    (passed (same_text x (codes "digest")) _ _ refl
    (passed (same_text x (codes "verify_checksum")) _ _ refl
    (passed (same_text x (codes "update_checksum")) _ _ refl
    (passed (same_text x (codes "HashAlgorithm")) other missing refl refl))))))))

pub core_own : HasNoStates core
core_own = record { none = core_none }

declare_none : (s : Scope) → HasNoStates s → (n : List ℕ) (w : What) → stands_state (behind s w []) ≡ false → (x : List ℕ) → stands_state (declare s n w (x ∷ [])) ≡ false
declare_none s h n w k x = by (same_text n x) refl
  where
    by : (b : Bool) → same_text n x ≡ b → stands_state (declare s n w (x ∷ [])) ≡ false
    by true f =
        let same : n ≡ x = (bytes_eq-Decides n x).0 f in
        ap (λ (y : List ℕ). stands_state (declare s n w (y ∷ []))) (sym same) ∙ (ap stands_state (declared s n w []) ∙ k)
    by false f = ap stands_state (undeclared s n w x [] f) ∙ h.none x

declare_own : (s : Scope) → HasNoStates s → (n : List ℕ) (w : What) → stands_state (behind s w []) ≡ false → HasNoStates (declare s n w)
declare_own s h n w k = record { none = declare_none s h n w k }

pub with_ways_own : (s : Scope) → HasNoStates s → (qs : List Param) → HasNoStates (with_ways s qs)
with_ways_own s h [] = h
with_ways_own s h (q ∷ qs) = with_ways_own (declare s q.name (value (way_access q.way) q.ty)) (declare_own s h q.name (value (way_access q.way) q.ty) refl) qs

after_top_own : (s : Scope) → HasNoStates s → (y : Top) → HasNoStates (after_top s y)
after_top_own s h (constant p t x e) = declare_own s h x (value Constant t) refl
after_top_own s h (typedef p t x) = declare_own s h x (alias t) refl
after_top_own s h (header_type p x fs) = declare_own s h x (fields (Header (fields_bits s fs)) fs) refl
after_top_own s h (struct_type p x fs) = declare_own s h x (fields Struct fs) refl
after_top_own s h (register p r) = declare_own s h r.name (scope.register r.ty) refl
after_top_own s h (parser p d) = declare_own s h d.name part refl
after_top_own s h (control p c) = declare_own s h c.name part refl

pub after_tops_own : (s : Scope) → HasNoStates s → (ys : List Top) → HasNoStates (after_tops s ys)
after_tops_own s h [] = h
after_tops_own s h (y ∷ ys) = after_tops_own (after_top s y) (after_top_own s h y) ys

pub start_among : (p : ℕ) (s : Scope) (sts : List ParserState) → IsFine (start_tests p s sts) → is_among (state_names sts) (codes "start") ≡ true
start_among p s sts f = onto_name p (is_state_name (state_names sts) (codes "start")) (s (codes "start" ∷ [])) f
