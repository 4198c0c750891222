-- A struct in both roles has no field, and no path stands behind it.
use Rattle.std.proofs.Common.{◌≡◌, ◌∷◌, [], ◌∙◌, ℕ, List, Bool, true, false, cond, refl, sym, ap, subst}
use Rattle.lex_text.specs.Names.{same_text}
use Rattle.linked_hosts.proofs.ReadyByRules.{core_no_struct, names_struct}
use Rattle.linked_programs.specs.Linked.{headers_type, metadata_type}
use Rattle.own_programs.proofs.Names.{broken}
use Rattle.own_programs.proofs.Params.{both_hold}
use Rattle.own_programs.proofs.Places.{scalar_header}
use Rattle.own_programs.proofs.Programs.{metadata_struct}
use Rattle.p4_declaration_rules.proofs.FirstsLemmas.{all_first}
use Rattle.p4_declaration_rules.specs.Controls.{after_tops, tops_tests}
use Rattle.p4_meaning.specs.Parts.{struct_fields}
use Rattle.p4_rule_laws.proofs.KeepsLemmas.{after_tops_keeps, declared, undeclared}
use Rattle.p4_rule_laws.proofs.RoleFacts.{parts_in_role}
use Rattle.p4_rule_laws.specs.Kept.{Keeps}
use Rattle.p4_rules.specs.Mains.{all_fields, is_struct}
use Rattle.p4_rules.specs.ProgramRules.{IsWellTyped, program_scope}
use Rattle.p4_scopes.specs.Scopes.{Scope, What, alias, behind, core, declare, fields, fields_bits, is_missing, missing, part, thing_in, typed, value}
use Rattle.p4_scopes.specs.Uses.{is_header, is_scalar}
use Rattle.p4_scopes.specs.declared.thing.Access.TheVariants.{Constant}
use Rattle.p4_scopes.specs.declared.thing.Thing.{Thing}
use Rattle.p4_scopes.specs.declared.thing.Thing.TheVariants.{Header, Scalar, Struct}
use Rattle.p4_tree.specs.Tree.{Program, Top, constant, control, header_type, parser, register, struct_type, typedef}
use Rattle.p4_tree.specs.declared.statement.PTy.{PTy}
use Rattle.p4_typing_laws.proofs.CallCounts.{text_is}
use Rattle.p4_typing_laws.proofs.Fine.{twice_not, typed_fine}
use Rattle.rule_tests.specs.Tests.{IsFine}
use Rattle.p4_scopes.specs.Scopes as scope
use Rattle.p4_tree.specs.declared.statement.PTy.TheVariants as type

-- a struct without a field
pub record IsEmptyStruct (s : Scope) (x : List ℕ) : Type 0 where
  pub self : s (x ∷ []) ≡ typed false Struct
  pub below : (y : List ℕ) (ys : List (List ℕ)) → s (x ∷ y ∷ ys) ≡ missing

-- ---- no field

no_fields : (s : Scope) (fs : List (PTy × List ℕ)) → all_fields is_header s fs ≡ true → all_fields is_scalar s fs ≡ true → fs ≡ []
no_fields s [] h k = refl
no_fields s (f ∷ fs) h k =
    broken (sym (both_hold (is_header (thing_in s f.0)) (all_fields is_header s fs) h).0 ∙ scalar_header (thing_in s f.0) (both_hold (is_scalar (thing_in s f.0)) (all_fields is_scalar s fs) k).0)

-- the struct of headers, where it is that of metadata too
pub empty_headers : (p : Program) → IsWellTyped p → headers_type p ≡ metadata_type p → struct_fields p.tops (headers_type p) ≡ []
empty_headers p well same =
    no_fields (program_scope p) (struct_fields p.tops (headers_type p))
    (both_hold (is_struct (thing_in (program_scope p) (type.Named (headers_type p)))) (all_fields is_header (program_scope p) (struct_fields p.tops (headers_type p))) (parts_in_role.headers p well)).1
    (ap (λ (x : List ℕ). all_fields is_scalar (program_scope p) (struct_fields p.tops x)) same
    ∙ (both_hold (is_struct (thing_in (program_scope p) (type.Named (metadata_type p)))) (all_fields is_scalar (program_scope p) (struct_fields p.tops (metadata_type p))) (parts_in_role.metadata p well)).1)

-- ---- nothing behind it

-- what is declared is no struct
declared_no_struct : (s : Scope) (n : List ℕ) (w : What) (x : List ℕ) → names_struct (behind s w []) ≡ false → names_struct (s (x ∷ [])) ≡ false → names_struct (declare s n w (x ∷ [])) ≡ false
unfolding declare
declared_no_struct s n w x h k = go (same_text n x)
  where
    go : (b : Bool) → names_struct (cond b (behind s w []) (s (x ∷ []))) ≡ false
    go true = h
    go false = k

scalar_no_struct : (t : Thing) → is_scalar t ≡ true → is_struct t ≡ false
scalar_no_struct (Scalar k) h = refl
scalar_no_struct _ h = broken (sym h)

empty_behind :
    (main : List (List ℕ)) (x : List ℕ) (ts : List Top) (s : Scope) → IsFine (tops_tests main s ts) → struct_fields ts x ≡ [] → names_struct (s (x ∷ [])) ≡ false → names_struct (after_tops s ts (x ∷ [])) ≡ true → IsEmptyStruct (after_tops s ts) x
empty_behind main x [] s f e h k = broken (sym k ∙ h)
empty_behind main x (constant q u y v ∷ ts) s f e h k = empty_behind main x ts _ f.1 e (declared_no_struct s y (value Constant u) x refl h) k
empty_behind main x (typedef q u y ∷ ts) s f e h k = empty_behind main x ts _ f.1 e (declared_no_struct s y (alias u) x (scalar_no_struct (thing_in s u) (twice_not _ f.0.1.1)) h) k
empty_behind main x (header_type q y fs ∷ ts) s f e h k = empty_behind main x ts _ f.1 e (declared_no_struct s y (fields (Header (fields_bits s fs)) fs) x refl h) k
empty_behind main x (register q d ∷ ts) s f e h k = empty_behind main x ts _ f.1 e (declared_no_struct s d.name (scope.register d.ty) x refl h) k
empty_behind main x (parser q d ∷ ts) s f e h k = empty_behind main x ts _ f.1 e (declared_no_struct s d.name part x refl h) k
empty_behind main x (control q c ∷ ts) s f e h k = empty_behind main x ts _ f.1 e (declared_no_struct s c.name part x refl h) k
empty_behind main x (struct_type q y fs ∷ ts) s f e h k = go (same_text y x) refl e (λ i j. empty_behind main x ts _ f.1 i j k)
  where
    go :
        (b : Bool) → same_text y x ≡ b → cond b fs (struct_fields ts x) ≡ [] → (struct_fields ts x ≡ [] → names_struct (declare s y (fields Struct fs) (x ∷ [])) ≡ false → IsEmptyStruct (after_tops (declare s y (fields Struct fs)) ts) x)
        → IsEmptyStruct (after_tops (declare s y (fields Struct fs)) ts) x
    go false i j more = more j (ap names_struct (undeclared s y (fields Struct fs) x [] i) ∙ h)
    go true i j more = record { self = kept.kept x [] (ap is_missing (at [])) ∙ at []; below = λ z zs. kept.kept x (z ∷ zs) (ap is_missing (at [])) ∙ at (z ∷ zs) }
      where
        kept : Keeps (declare s y (fields Struct fs)) (after_tops (declare s y (fields Struct fs)) ts)
        kept = after_tops_keeps main (declare s y (fields Struct fs)) ts f.1

        at : (zs : List (List ℕ)) → declare s y (fields Struct fs) (x ∷ zs) ≡ behind s (fields Struct []) zs
        at zs =
            ap (λ (z : List ℕ). declare s y (fields Struct fs) (z ∷ zs)) (sym (text_is y x i)) ∙ declared s y (fields Struct fs) zs
            ∙ ap (λ (gs : List (PTy × List ℕ)). behind s (fields Struct gs) zs) j

-- the struct in both roles is empty
pub empty_struct : (p : Program) → IsWellTyped p → headers_type p ≡ metadata_type p → IsEmptyStruct (program_scope p) (metadata_type p)
empty_struct p well same =
    subst (λ (s : Scope). IsEmptyStruct s (metadata_type p)) (sym (all_first p.main core p.tops (typed_fine p well).0))
    (empty_behind p.main (metadata_type p) p.tops core (typed_fine p well).0 (ap (struct_fields p.tops) (sym same) ∙ empty_headers p well same) (core_no_struct (metadata_type p))
    (ap (λ (s : Scope). names_struct (s (metadata_type p ∷ []))) (sym (all_first p.main core p.tops (typed_fine p well).0)) ∙ metadata_struct p well))
