-- What header variables read can be spelled, where the program can.
use Rattle.std.proofs.Common.{◌≡◌, ℕ, List, [], ◌∷◌, ◌++◌, Bool, true, false, cond, codes, Option, None, inl, inr, refl, sym, subst}
use Rattle.std.specs.List.{AllByRecursion}
use Rattle.lex_text.specs.Names.{parent}
use Rattle.indus_tree.specs.Tree.{Decl}
use Rattle.indus_tree.specs.Hops.{same_kind}
use Rattle.indus_tree.specs.declared.tree.DeclKind.{DeclKind}
use Rattle.indus_tree.specs.declared.tree.DeclKind.TheVariants.{Tele, Sensor, Header, Control}
use Rattle.flat_laws.proofs.Typed.{IsFineDecl}
use Rattle.p4_tree.specs.Tree.{path, valid, Program}
use Rattle.p4_meaning.specs.Standard.{headers_root, metadata_root, standard_root}
use Rattle.p4_meaning.specs.Parts.{parser_type, parser_in}
use Rattle.p4_scopes.specs.Scopes.{Scope, is_missing}
use Rattle.p4_rules.specs.ProgramRules.{program_scope, IsWellTyped}
use Rattle.p4_printer.specs.CanSpell.{IsName, EachCan, CanSpellPath, CanSpellExpr, CanSpell}
use Rattle.own_programs.proofs.Programs.{first_at}
use Rattle.lowered_code.specs.Environment.{view_of}
use Rattle.whole_properties.specs.Whole.{view_in, views_in}
use Rattle.link_faults.specs.Refusals.{Refusal, or_else}
use Rattle.link_faults.specs.HeaderFields.{field_in, header_path, asked_path, field_fault, fields_fault}
use Rattle.faultless_programs.specs.FieldPaths.{IsFieldPath}
use Rattle.linked_properties.specs.Shown.{FoundViewsAreWords}
use Rattle.linked_properties.proofs.Paths.{HasPaths, paths_spelled}
use Rattle.linked_properties.proofs.Shown.{IsValidPath, IsHeaderDecl, header_decl, IsFound, is_found, none_first, none_rest, decls_fine}

each_can : (xs : List (List ℕ)) → AllByRecursion IsName xs → EachCan IsName xs
each_can [] h = tt
each_can (x ∷ xs) h = (h.0, each_can xs h.1)

module _ (f : Program) (well : IsWellTyped f) (spelled : CanSpell f) where
  abbrev S : Scope
  S = program_scope f

  abbrev IsThere : List (List ℕ) → Type 0
  IsThere q = is_missing (field_in S f q) ≡ false

  paths : HasPaths IsName S
  paths = subst (HasPaths IsName) (first_at f well).all (paths_spelled f.tops spelled.tops)

  in_headers : (xs : List (List ℕ)) → IsThere (headers_root ∷ xs) → CanSpellPath (headers_root ∷ xs)
  in_headers xs h = ((refl, refl), each_can xs (paths.behind (parser_type (parser_in f) 1) xs h))

  in_metadata : (xs : List (List ℕ)) → IsThere (metadata_root ∷ xs) → CanSpellPath (metadata_root ∷ xs)
  in_metadata xs h = ((refl, refl), each_can xs (paths.behind (parser_type (parser_in f) 2) xs h))

  in_standard : (xs : List (List ℕ)) → IsThere (standard_root ∷ xs) → CanSpellPath (standard_root ∷ xs)
  in_standard xs h = ((refl, refl), each_can xs (paths.behind (codes "standard_metadata_t") xs h))

  field_words : (q : List (List ℕ)) → IsFieldPath q → IsThere q → CanSpellPath q
  field_words [] i h = absurd i
  field_words (r ∷ []) i h = absurd i
  field_words (r ∷ x ∷ []) (inl e) h = subst (λ (n : List ℕ). CanSpellPath (n ∷ x ∷ [])) (sym e) (in_metadata (x ∷ []) (subst (λ (n : List ℕ). IsThere (n ∷ x ∷ [])) e h))
  field_words (r ∷ x ∷ []) (inr e) h = subst (λ (n : List ℕ). CanSpellPath (n ∷ x ∷ [])) (sym e) (in_standard (x ∷ []) (subst (λ (n : List ℕ). IsThere (n ∷ x ∷ [])) e h))
  field_words (r ∷ x ∷ y ∷ []) e h = subst (λ (n : List ℕ). CanSpellPath (n ∷ x ∷ y ∷ [])) (sym e) (in_headers (x ∷ y ∷ []) (subst (λ (n : List ℕ). IsThere (n ∷ x ∷ y ∷ [])) e h))
  field_words (r ∷ x ∷ y ∷ z ∷ q) i h = absurd i

  header_words : (q : List (List ℕ)) → IsValidPath q → IsThere (header_path q) → CanSpellPath (parent q)
  header_words (r ∷ x ∷ y ∷ []) e h = subst (λ (n : List ℕ). CanSpellPath (n ∷ x ∷ [])) (sym e) (in_headers (x ∷ []) (subst (λ (n : List ℕ). IsThere (n ∷ x ∷ [])) e h))
  header_words [] e h = absurd e
  header_words (r ∷ []) e h = absurd e
  header_words (r ∷ x ∷ []) e h = absurd e
  header_words (r ∷ x ∷ y ∷ z ∷ q) e h = absurd e

  view_words : (d : Decl) → IsHeaderDecl d → IsFound (field_in S f (asked_path d)) d → CanSpellExpr (view_of d)
  view_words d i found = go d.valid refl
    where
      there : (b : Bool) → d.valid ≡ b → IsThere (cond b (header_path d.path) d.path)
      there b e = subst (λ (c : Bool). IsThere (cond c (header_path d.path) d.path)) e found.there

      go : (b : Bool) → d.valid ≡ b → CanSpellExpr (cond d.valid (valid 0 (parent d.path)) (path 0 d.path))
      go true e = subst (λ (c : Bool). CanSpellExpr (cond c (valid 0 (parent d.path)) (path 0 d.path))) (sym e) (header_words d.path (i.validity e).0 (there true e))
      go false e = subst (λ (c : Bool). CanSpellExpr (cond c (valid 0 (parent d.path)) (path 0 d.path))) (sym e) (field_words d.path (i.field e) (there false e))

  abbrev fault_in : DeclKind → Decl → Option Refusal
  fault_in k d = cond (same_kind Header k) (field_fault (field_in S f (asked_path d)) d) None

  all_words : (ds : List Decl) → AllByRecursion IsFineDecl ds → fields_fault S f ds ≡ None → AllByRecursion CanSpellExpr (views_in ds)
  all_words [] i h = tt
  all_words (d ∷ ds) i h = go d.kind refl h (λ k. all_words ds i.1 k)
    where
      go : (k : DeclKind) → d.kind ≡ k → or_else (fault_in k d) (fields_fault S f ds) ≡ None → (fields_fault S f ds ≡ None → AllByRecursion CanSpellExpr (views_in ds)) → AllByRecursion CanSpellExpr (view_in k d ++ views_in ds)
      go Tele e h more = more h
      go Sensor e h more = more h
      go Control e h more = more h
      go Header e h more =
          (view_words d (header_decl d i.0 e) (is_found (field_in S f (asked_path d)) d (none_first (fault_in Header d) (fields_fault S f ds) h)), more (none_rest (fault_in Header d) (fields_fault S f ds) h))

pub found_views_are_words : FoundViewsAreWords
found_views_are_words property fine f well spelled h = all_words f well spelled property.decls (decls_fine property fine) h
