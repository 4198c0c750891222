-- The fields that the test finds are declared with the widths of the header variables, and are the program's own.
use Rattle.std.proofs.Common.{◌≡◌, ℕ, List, [], ◌∷◌, ◌++◌, Bool, true, false, not, cond, ◌&&◌, ◌||◌, ◌⊎◌, codes, Option, Some, None, inl, inr, refl, sym, ap, ap₂, ◌∙◌, subst}
use Rattle.std.specs.List.{AllByRecursion}
use Rattle.bit_values.specs.Widths.{sound_width}
use Rattle.lex_text.specs.Names.{same_text, parent}
use Rattle.indus_tree.specs.Tree.{Shape, one, list, set, dict, Decl, Property}
use Rattle.indus_tree.specs.State.{shape_width}
use Rattle.indus_tree.specs.Hops.{same_kind}
use Rattle.indus_tree.specs.declared.tree.DeclKind.{DeclKind}
use Rattle.indus_tree.specs.declared.tree.DeclKind.TheVariants.{Tele, Sensor, Header, Control}
use Rattle.indus_tree.specs.declared.tree.Ty.TheVariants as ty
use Rattle.indus_rules.specs.Sites.{decl_sites}
use Rattle.indus_rules.specs.Rules as indus
use Rattle.indus_rules.specs.Rules.{Fine, bad_bits, bad_shape, misshapen, ill_started, is_truth, bad_path, same_truth, ill_headed}
use Rattle.indus_rules.specs.declared.rule.Rule.TheVariants.{KindDiffers, BadSize}
use Rattle.indus_types.specs.Views.{header_widths}
use Rattle.indus_types.proofs.SoundSights.{good_bits}
use Rattle.indus_types.proofs.Checked.{each_fine}
use Rattle.flat_laws.proofs.Typed.{IsFineDecl}
use Rattle.p4_tree.specs.Tree.{path, valid, Program}
use Rattle.p4_meaning.specs.Standard.{headers_root, metadata_root, standard_root}
use Rattle.p4_meaning.specs.Store.{Store}
use Rattle.p4_meaning.specs.Parts.{parts_of}
use Rattle.p4_meaning.proofs.Words.{sound}
use Rattle.p4_scopes.specs.Scopes.{Scope, Stands, is_missing}
use Rattle.p4_rules.specs.ProgramRules.{program_scope, IsWellTyped}
use Rattle.own_code.specs.Regions.{is_free}
use Rattle.own_code.proofs.Apart.{text_decides}
use Rattle.exit_programs.specs.Without.{parts_without}
use Rattle.exit_programs.proofs.Agreed.{parts_agree}
use Rattle.exit_lowering.proofs.Places.{verify_stays, compute_stays, deparser_stays}
use Rattle.monitor_laws.specs.Names.{is_long}
use Rattle.monitor_laws.specs.MonitorLaws.{IsView}
use Rattle.linked_halves.specs.Widths.{HasWidths, IsViewOf, AreViewsOf}
use Rattle.lowered_code.specs.Environment.{view_of}
use Rattle.whole_properties.specs.Whole.{view_in, views_in}
use Rattle.whole_monitor.proofs.Views.{fields_give_views}
use Rattle.link_faults.specs.Refusals.{Refusal, or_else}
use Rattle.link_faults.specs.HeaderFields.{field_in, header_path, asked_path, is_field_of, fits, field_fault, fields_fault}
use Rattle.faultless_programs.specs.FieldPaths.{IsFieldPath}
use Rattle.faultless_programs.specs.FoundViews.{FoundViewsFit, FoundViewsAreOwn}
use Rattle.link_faults.proofs.Taken.{none_is_taken}
use Rattle.faultless_programs.proofs.FieldsFound.{found_fields_are_declared}
use Rattle.faultless_programs.proofs.OwnFields.{found_is_free}

no_case : {A : Type 0} → true ≡ false → A
no_case e = absurd (cc)

both_are : (a b : Bool) → (a || b) ≡ false → (a ≡ false) × (b ≡ false)
both_are true b h = no_case h
both_are false b h = (refl, h)

turned : (b : Bool) → not b ≡ false → b ≡ true
turned true h = refl
turned false h = no_case h

both_true : (a b : Bool) → (a && b) ≡ true → (a ≡ true) × (b ≡ true)
both_true true b h = (refl, h)
both_true false b h = no_case (sym h)

-- ---- what the rules say of header variables

each_decl : (ds before : List Decl) → Fine (decl_sites before ds) → AllByRecursion IsFineDecl ds
each_decl [] before f = tt
each_decl (d ∷ ds) before f = (record { before = before; fine = f.0.0 }, each_decl ds (before ++ d ∷ []) f.1)

good_path : (q : List (List ℕ)) → bad_path q false ≡ false → IsFieldPath q
good_path [] h = no_case h
good_path (r ∷ []) h = no_case h
good_path (r ∷ x ∷ []) h = go (same_text r (codes "meta")) refl (same_text r (codes "standard_metadata")) refl (turned _ h)
  where
    go : (a : Bool) → same_text r (codes "meta") ≡ a → (b : Bool) → same_text r (codes "standard_metadata") ≡ b → (a || b) ≡ true → (r ≡ metadata_root) ⊎ (r ≡ standard_root)
    go true e b k i = inl ((text_decides r (codes "meta")).0 e)
    go false e true k i = inr ((text_decides r (codes "standard_metadata")).0 k)
    go false e false k i = no_case (sym i)
good_path (r ∷ x ∷ y ∷ []) h = (text_decides r (codes "hdr")).0 (turned (same_text r (codes "hdr")) h)
good_path (r ∷ x ∷ y ∷ z ∷ q) h = no_case h

-- of a header whose validity is asked
abbrev IsValidPath : List (List ℕ) → Type 0
IsValidPath (r ∷ x ∷ y ∷ []) = r ≡ headers_root
IsValidPath _ = ⊥

valid_path : (q : List (List ℕ)) → bad_path q true ≡ false → IsValidPath q
valid_path (r ∷ x ∷ y ∷ []) h = (text_decides r (codes "hdr")).0 (both_true (same_text r (codes "hdr")) (same_text y (codes "isValid")) (turned _ h)).0
valid_path [] h = no_case h
valid_path (r ∷ []) h = no_case h
valid_path (r ∷ x ∷ []) h = no_case h
valid_path (r ∷ x ∷ y ∷ z ∷ q) h = no_case h

truth_width : (s : Shape) → is_truth s ≡ true → shape_width s ≡ 1
truth_width (one (ty.Bit w)) h = no_case (sym h)
truth_width (one ty.Bool) h = refl
truth_width (list t n) h = no_case (sym h)
truth_width (set ks) h = no_case (sym h)
truth_width (dict ks t) h = no_case (sym h)

truth_same : (b : Bool) → not (same_truth b true) ≡ false → b ≡ true
truth_same true h = refl
truth_same false h = no_case h

wide_shape : (w : ℕ) → bad_shape (one (ty.Bit w)) ≡ false → sound_width w ≡ w
wide_shape w h = let g = good_bits w h in sound w g.least g.most

-- a header variable reads a field by a path of the forms that programs have, in a width that words have, or asks for a
-- header's validity and is a truth value
record IsHeaderDecl (d : Decl) : Type 0 where
  field : d.valid ≡ false → IsFieldPath d.path
  validity : d.valid ≡ true → IsValidPath d.path × (shape_width d.shape ≡ 1)
  wide : (w : ℕ) → d.shape ≡ one (ty.Bit w) → sound_width w ≡ w

header_decl : (d : Decl) → IsFineDecl d → d.kind ≡ Header → IsHeaderDecl d
header_decl d f k =
    record {
      field = λ v. good_path d.path (both_are (bad_path d.path false) (not (same_truth (is_truth d.shape) false)) (at false v)).0;
      validity = λ v.
          let b = both_are (bad_path d.path true) (not (same_truth (is_truth d.shape) true)) (at true v) in
          (valid_path d.path b.0, truth_width d.shape (truth_same (is_truth d.shape) b.1));
      wide = λ w e. wide_shape w (ap bad_shape (sym e) ∙ f.fine BadSize);
    }
  where
    ill : ill_headed d.kind d.shape d.path d.valid ≡ false
    ill = (both_are (misshapen d.kind d.shape || ill_started d.kind d.start) (ill_headed d.kind d.shape d.path d.valid) (f.fine KindDiffers)).1

    at : (b : Bool) → d.valid ≡ b → ill_headed Header d.shape d.path b ≡ false
    at b v = ap₂ (λ (t : DeclKind) (c : Bool). ill_headed t d.shape d.path c) (sym k) (sym v) ∙ ill

long_path : (q : List (List ℕ)) → IsFieldPath q → is_long q ≡ true
long_path [] i = absurd i
long_path (r ∷ []) i = absurd i
long_path (r ∷ x ∷ rest) i = refl

-- ---- what the test says

none_first : (a b : Option Refusal) → or_else a b ≡ None → a ≡ None
none_first None b h = refl
none_first (Some x) b h = absurd (cc)

none_rest : (a b : Option Refusal) → or_else a b ≡ None → b ≡ None
none_rest None b h = h
none_rest (Some x) b h = absurd (cc)

record IsFound (st : Stands) (d : Decl) : Type 0 where
  there : is_missing st ≡ false
  fits_it : fits d.valid d.shape st ≡ true

is_found : (st : Stands) (d : Decl) → field_fault st d ≡ None → IsFound st d
is_found st d h = go (is_missing st) refl (fits d.valid d.shape st) refl _ _ h
  where
    go : (a : Bool) → is_missing st ≡ a → (b : Bool) → fits d.valid d.shape st ≡ b → (x y : Refusal) → cond a (Some x) (cond b None (Some y)) ≡ None → IsFound st d
    go true i b j x y h = absurd (cc)
    go false i true j x y h = record { there = i; fits_it = j }
    go false i false j x y h = absurd (cc)

-- a number of the declared width
fit_number : (s : Shape) (st : Stands) → fits false s st ≡ true → ((w : ℕ) → s ≡ one (ty.Bit w) → sound_width w ≡ w) → (is_field_of (shape_width s) st ≡ true) × (sound_width (shape_width s) ≡ shape_width s)
fit_number (one (ty.Bit w)) st h wide = (h, wide w refl)
fit_number (one ty.Bool) st h wide = no_case (sym h)
fit_number (list t n) st h wide = no_case (sym h)
fit_number (set ks) st h wide = no_case (sym h)
fit_number (dict ks t) st h wide = no_case (sym h)

module _ (f : Program) (well : IsWellTyped f) where
  abbrev S : Scope
  S = program_scope f

  module _ (d : Decl) (i : IsHeaderDecl d) (found : IsFound (field_in S f (asked_path d)) d) where
    abbrev IsViewHere : (valid : Bool) → Type 0
    IsViewHere b = IsViewOf (parts_of f) (shape_width d.shape) (cond b (valid 0 (parent d.path)) (path 0 d.path))

    declared : IsViewOf (parts_of f) (shape_width d.shape) (view_of d)
    declared = go d.valid refl
      where
        go : (b : Bool) → d.valid ≡ b → IsViewHere d.valid
        go true e = subst IsViewHere (sym e) (i.validity e).1
        go false e =
            let form = i.field e in
            let same = subst (λ (b : Bool). fits b d.shape (field_in S f (cond b (header_path d.path) d.path)) ≡ true) e found.fits_it in
            let fit = fit_number d.shape (field_in S f d.path) same i.wide in
            subst IsViewHere (sym e) (long_path d.path form, found_fields_are_declared f well (shape_width d.shape) fit.1 d.path form fit.0)

    abbrev IsOwnHere : (valid : Bool) → Type 0
    IsOwnHere b = IsView (cond b (valid 0 (parent d.path)) (path 0 d.path))

    module _ (free : (q : List (List ℕ)) → IsFieldPath q → is_missing (field_in S f q) ≡ false → is_free q ≡ true) (free_header : (x : List ℕ) → is_missing (field_in S f (headers_root ∷ x ∷ [])) ≡ false → is_free (headers_root ∷ x ∷ []) ≡ true) where
      valid_own : (q : List (List ℕ)) → IsValidPath q → is_missing (field_in S f (header_path q)) ≡ false → is_free (parent q) ≡ true
      valid_own (r ∷ x ∷ y ∷ []) e h = subst (λ (n : List ℕ). is_free (n ∷ x ∷ []) ≡ true) (sym e) (free_header x (subst (λ (n : List ℕ). is_missing (field_in S f (n ∷ x ∷ [])) ≡ false) e h))
      valid_own [] e h = absurd e
      valid_own (r ∷ []) e h = absurd e
      valid_own (r ∷ x ∷ []) e h = absurd e
      valid_own (r ∷ x ∷ y ∷ z ∷ q) e h = absurd e

      own : IsView (view_of d)
      own = go d.valid refl
        where
          go : (b : Bool) → d.valid ≡ b → IsOwnHere d.valid
          go true e = subst IsOwnHere (sym e) (valid_own d.path (i.validity e).0 (subst (λ (b : Bool). is_missing (field_in S f (cond b (header_path d.path) d.path)) ≡ false) e found.there))
          go false e = subst IsOwnHere (sym e) (free d.path (i.field e) (subst (λ (b : Bool). is_missing (field_in S f (cond b (header_path d.path) d.path)) ≡ false) e found.there), long_path d.path (i.field e))

  -- ---- all header variables

  abbrev fault_in : DeclKind → Decl → Option Refusal
  fault_in k d = cond (same_kind Header k) (field_fault (field_in S f (asked_path d)) d) None

  all_views : (ds : List Decl) → AllByRecursion IsFineDecl ds → fields_fault S f ds ≡ None → AreViewsOf (parts_of f) (header_widths ds) (views_in ds)
  all_views [] i h = tt
  all_views (d ∷ ds) i h = go d.kind refl h (λ k. all_views ds i.1 k)
    where
      go :
          (k : DeclKind) → d.kind ≡ k → or_else (fault_in k d) (fields_fault S f ds) ≡ None
          → (fields_fault S f ds ≡ None → AreViewsOf (parts_of f) (header_widths ds) (views_in ds))
          → AreViewsOf (parts_of f) (cond (same_kind Header k) (shape_width d.shape ∷ header_widths ds) (header_widths ds)) (view_in k d ++ views_in ds)
      go Tele e h more = more h
      go Sensor e h more = more h
      go Control e h more = more h
      go Header e h more =
          (declared d (header_decl d i.0 e) (is_found (field_in S f (asked_path d)) d (none_first (fault_in Header d) (fields_fault S f ds) h)), more (none_rest (fault_in Header d) (fields_fault S f ds) h))

  module _ (free : (q : List (List ℕ)) → IsFieldPath q → is_missing (field_in S f q) ≡ false → is_free q ≡ true) (free_header : (x : List ℕ) → is_missing (field_in S f (headers_root ∷ x ∷ [])) ≡ false → is_free (headers_root ∷ x ∷ []) ≡ true) where
    all_own : (ds : List Decl) → AllByRecursion IsFineDecl ds → fields_fault S f ds ≡ None → AllByRecursion IsView (views_in ds)
    all_own [] i h = tt
    all_own (d ∷ ds) i h = go d.kind refl h (λ k. all_own ds i.1 k)
      where
        go : (k : DeclKind) → d.kind ≡ k → or_else (fault_in k d) (fields_fault S f ds) ≡ None → (fields_fault S f ds ≡ None → AllByRecursion IsView (views_in ds)) → AllByRecursion IsView (view_in k d ++ views_in ds)
        go Tele e h more = more h
        go Sensor e h more = more h
        go Control e h more = more h
        go Header e h more =
            (own d (header_decl d i.0 e) (is_found (field_in S f (asked_path d)) d (none_first (fault_in Header d) (fields_fault S f ds) h)) free free_header, more (none_rest (fault_in Header d) (fields_fault S f ds) h))

decls_fine : (p : Property) → indus.IsWellTyped p → AllByRecursion IsFineDecl p.decls
decls_fine p typed = each_decl p.decls [] (each_fine p typed).1.0

-- taking exits out changes no field
without_widths : (f : Program) (s : Store) → HasWidths (parts_without f) s → HasWidths (parts_of f) s
without_widths f s h = record { words = λ x y rest. h.words x y rest }

pub found_views_fit : FoundViewsFit
found_views_fit g typed f well h free s keeps =
    let same = parts_agree f well (none_is_taken f free) (verify_stays f well) (compute_stays f well) (deparser_stays f well) in
    fields_give_views g (parts_of f) (all_views f well g.property.decls (decls_fine g.property typed) h) s (without_widths f s (subst (λ q. HasWidths q s) same keeps))

pub found_views_are_own : FoundViewsAreOwn
found_views_are_own g typed f well h free =
    let is = found_is_free f well (none_is_taken f free) in
    all_own f well is.fields is.headers g.property.decls (decls_fine g.property typed) h
