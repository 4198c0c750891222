-- What is found in a program in which no name is taken are its own fields and headers.
use Rattle.std.proofs.Common.{◌≡◌, ℕ, List, [], ◌∷◌, Bool, true, false, not, cond, ◌&&◌, ◌||◌, codes, inl, inr, refl, sym, ap, ap₂, ◌∙◌, subst}
use Rattle.lex_text.specs.Names.{same_text}
use Rattle.lex_text.specs.Comments.{begins}
use Rattle.p4_tree.specs.Tree.{Top, constant, typedef, header_type, struct_type, register, parser, control, Program}
use Rattle.p4_tree.specs.declared.statement.PTy.{PTy}
use Rattle.p4_meaning.specs.Standard.{headers_root, metadata_root, standard_root}
use Rattle.p4_meaning.specs.Parts.{struct_fields, parser_type, parser_in}
use Rattle.p4_scopes.specs.Scopes.{missing, typed, Scope, is_missing, type_at, field_at, standard_at, core}
use Rattle.p4_scopes.specs.declared.kind.Kind.TheVariants.{Number, Error}
use Rattle.p4_scopes.specs.declared.thing.Thing.TheVariants.{Scalar}
use Rattle.p4_declaration_rules.specs.Controls.{after_tops}
use Rattle.p4_rules.specs.ProgramRules.{program_scope, IsWellTyped}
use Rattle.p4_rule_laws.specs.Old.{OldFields}
use Rattle.p4_rule_laws.specs.OldPrograms.{OldTops}
use Rattle.p4_rule_laws.proofs.KeepsLemmas.{after_tops_keeps}
use Rattle.p4_typing_laws.proofs.Fine.{typed_fine}
use Rattle.own_code.specs.Regions.{is_mine, is_free}
use Rattle.own_code.proofs.Apart.{text_decides}
use Rattle.own_programs.proofs.Programs.{first_at, headers_struct, metadata_struct}
use Rattle.exit_programs.specs.Names.{is_given, HasGivenNames}
use Rattle.linked_hosts.proofs.ReadyByRules.{names_struct, core_no_struct}
use Rattle.link_faults.specs.HeaderFields.{field_in}
use Rattle.faultless_programs.specs.FieldPaths.{IsFieldPath}
use Rattle.faultless_programs.proofs.FieldsFound.{struct_path}

given_is_free : (x : List ℕ) → is_given x ≡ true → is_mine x ≡ false
given_is_free x g = go (begins (codes "hydra_") x) g
  where
    go : (b : Bool) → not b ≡ true → (b && not (begins (codes "hydra_x_") x)) ≡ false
    go true h = absurd (let z : false ≡ true = h in cc)
    go false h = refl

-- ---- structs of the program

fields_given : (ts : List Top) (x : List ℕ) → OldTops is_given ts → OldFields is_given (struct_fields ts x)
fields_given [] x o = tt
fields_given (struct_type p y fs ∷ ts) x o = go (same_text y x) (fields_given ts x o.1)
  where
    go : (b : Bool) → OldFields is_given (struct_fields ts x) → OldFields is_given (cond b fs (struct_fields ts x))
    go true h = o.0.1
    go false h = h
fields_given (constant p t y e ∷ ts) x o = fields_given ts x o.1
fields_given (typedef p t y ∷ ts) x o = fields_given ts x o.1
fields_given (header_type p y fs ∷ ts) x o = fields_given ts x o.1
fields_given (register p r ∷ ts) x o = fields_given ts x o.1
fields_given (parser p d ∷ ts) x o = fields_given ts x o.1
fields_given (control p c ∷ ts) x o = fields_given ts x o.1

-- a field that is there is one of them
field_given : (s : Scope) (fs : List (PTy × List ℕ)) (x : List ℕ) (xs : List (List ℕ)) → OldFields is_given fs → is_missing (field_at s fs x xs) ≡ false → is_given x ≡ true
field_given s [] x xs o h = absurd (let z : true ≡ false = h in cc)
field_given s (f ∷ fs) x xs o h = go (same_text f.1 x) refl h (λ k. field_given s fs x xs o.2 k)
  where
    go : (b : Bool) → same_text f.1 x ≡ b → is_missing (cond b (type_at s f.0 xs) (field_at s fs x xs)) ≡ false → (is_missing (field_at s fs x xs) ≡ false → is_given x ≡ true) → is_given x ≡ true
    go true e k more = ap is_given (sym ((text_decides f.1 x).0 e)) ∙ o.1
    go false e k more = more k

-- ---- the standard metadata

standard_is_free : (x : List ℕ) → is_missing (standard_at x) ≡ false → is_mine x ≡ false
standard_is_free x h = go (same_text x (codes "egress_spec")) refl (same_text x (codes "ingress_port")) refl (same_text x (codes "egress_port")) refl (same_text x (codes "packet_length")) refl (same_text x (codes "checksum_error")) refl (same_text x (codes "parser_error")) refl h
  where
    by : (c : List ℕ) → same_text x c ≡ true → is_mine c ≡ false → is_mine x ≡ false
    by c e k = ap is_mine ((text_decides x c).0 e) ∙ k

    go : (a : Bool) → same_text x (codes "egress_spec") ≡ a → (b : Bool) → same_text x (codes "ingress_port") ≡ b → (c : Bool) → same_text x (codes "egress_port") ≡ c → (d : Bool) → same_text x (codes "packet_length") ≡ d → (e : Bool) → same_text x (codes "checksum_error") ≡ e → (g : Bool) → same_text x (codes "parser_error") ≡ g
        → is_missing (cond a (typed false (Scalar (Number 9))) (cond (b || c) (typed true (Scalar (Number 9))) (cond d (typed true (Scalar (Number 32))) (cond e (typed true (Scalar (Number 1))) (cond g (typed true (Scalar Error)) missing))))) ≡ false
        → is_mine x ≡ false
    go true i b j c k d l e m g n h = by (codes "egress_spec") i refl
    go false i true j c k d l e m g n h = by (codes "ingress_port") j refl
    go false i false j true k d l e m g n h = by (codes "egress_port") k refl
    go false i false j false k true l e m g n h = by (codes "packet_length") l refl
    go false i false j false k false l true m g n h = by (codes "checksum_error") m refl
    go false i false j false k false l false m true n h = by (codes "parser_error") n refl
    go false i false j false k false l false m false n h = absurd (let z : true ≡ false = h in cc)

-- ---- the whole

pub record FoundIsFree (f : Program) : Type 0 where
  pub fields : (q : List (List ℕ)) → IsFieldPath q → is_missing (field_in (program_scope f) f q) ≡ false → is_free q ≡ true
  pub headers : (x : List ℕ) → is_missing (field_in (program_scope f) f (headers_root ∷ x ∷ [])) ≡ false → is_free (headers_root ∷ x ∷ []) ≡ true

module _ (f : Program) (well : IsWellTyped f) (given : HasGivenNames f) where
  abbrev E : Scope
  E = after_tops core f.tops

  all : E ≡ program_scope f
  all = (first_at f well).all

  at_end : (q : List (List ℕ)) → is_missing (program_scope f q) ≡ false → is_missing (E q) ≡ false
  at_end q h = ap (λ (s : Scope). is_missing (s q)) all ∙ h

  in_struct : (x : List ℕ) → names_struct (program_scope f (x ∷ [])) ≡ true → (y : List ℕ) (xs : List (List ℕ)) → is_missing (program_scope f (x ∷ y ∷ xs)) ≡ false → is_mine y ≡ false
  in_struct x is y xs h =
      given_is_free y
      (field_given E (struct_fields f.tops x) y xs (fields_given f.tops x given.tops)
      (ap is_missing (sym (struct_path f.main x f.tops core (typed_fine f well).0 (ap (λ (s : Scope). names_struct (s (x ∷ []))) all ∙ is) (core_no_struct x) y xs)) ∙ at_end (x ∷ y ∷ xs) h))

  free_with : (r x : List ℕ) (rest : List (List ℕ)) → is_mine r ≡ false → is_mine x ≡ false → is_free (r ∷ x ∷ rest) ≡ true
  free_with r x rest e h = ap₂ (λ (a b : Bool). not a && not b) e h

  of_header : (x : List ℕ) (xs : List (List ℕ)) → is_missing (field_in (program_scope f) f (headers_root ∷ x ∷ xs)) ≡ false → is_mine x ≡ false
  of_header x xs h = in_struct (parser_type (parser_in f) 1) (headers_struct f well) x xs h

  of_metadata : (x : List ℕ) → is_missing (field_in (program_scope f) f (metadata_root ∷ x ∷ [])) ≡ false → is_mine x ≡ false
  of_metadata x h = in_struct (parser_type (parser_in f) 2) (metadata_struct f well) x [] h

  kept : (x : List ℕ) → E (codes "standard_metadata_t" ∷ x ∷ []) ≡ standard_at x
  unfolding core
  kept x = (after_tops_keeps f.main core f.tops (typed_fine f well).0).kept (codes "standard_metadata_t") (x ∷ []) refl

  of_standard : (x : List ℕ) → is_missing (field_in (program_scope f) f (standard_root ∷ x ∷ [])) ≡ false → is_mine x ≡ false
  of_standard x h = standard_is_free x (ap is_missing (sym (kept x)) ∙ at_end (codes "standard_metadata_t" ∷ x ∷ []) h)

  fields_free : (q : List (List ℕ)) → IsFieldPath q → is_missing (field_in (program_scope f) f q) ≡ false → is_free q ≡ true
  fields_free (r ∷ x ∷ []) (inl e) h =
      subst (λ (n : List ℕ). is_free (n ∷ x ∷ []) ≡ true) (sym e) (free_with metadata_root x [] refl (of_metadata x (subst (λ (n : List ℕ). is_missing (field_in (program_scope f) f (n ∷ x ∷ [])) ≡ false) e h)))
  fields_free (r ∷ x ∷ []) (inr e) h =
      subst (λ (n : List ℕ). is_free (n ∷ x ∷ []) ≡ true) (sym e) (free_with standard_root x [] refl (of_standard x (subst (λ (n : List ℕ). is_missing (field_in (program_scope f) f (n ∷ x ∷ [])) ≡ false) e h)))
  fields_free (r ∷ x ∷ y ∷ []) e h =
      subst (λ (n : List ℕ). is_free (n ∷ x ∷ y ∷ []) ≡ true) (sym e) (free_with headers_root x (y ∷ []) refl (of_header x (y ∷ []) (subst (λ (n : List ℕ). is_missing (field_in (program_scope f) f (n ∷ x ∷ y ∷ [])) ≡ false) e h)))
  fields_free [] i h = absurd i
  fields_free (r ∷ []) i h = absurd i
  fields_free (r ∷ x ∷ y ∷ z ∷ q) i h = absurd i

  pub found_is_free : FoundIsFree f
  found_is_free = record { fields = fields_free; headers = λ x h. free_with headers_root x [] refl (of_header x [] h) }
