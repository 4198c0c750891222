-- Header variables that are found are shown: in a program without exits all fields stand as they did, and a struct in both
-- roles has none.
use Rattle.std.proofs.Common.{◌≡◌, ℕ, List, [], ◌∷◌, ◌++◌, Bool, true, false, not, cond, ◌&&◌, ◌||◌, ◌⊎◌, codes, map, Option, Some, None, inl, inr, refl, sym, ap, ap₂, ◌∙◌, subst, arith}
use Rattle.std.proofs.lemmas.Bool.Decides.{nat_tests}
use Rattle.std.specs.List.{AllByRecursion}
use Rattle.bit_values.specs.Widths.{sound_width}
use Rattle.lex_text.specs.Names.{same_text, parent}
use Rattle.indus_tree.specs.Tree.{Shape, one, list, set, dict, Decl, Property}
use Rattle.indus_tree.specs.State.{lookup, shape_width}
use Rattle.indus_tree.specs.Hops.{same_kind}
use Rattle.indus_tree.specs.declared.tree.DeclKind.{DeclKind}
use Rattle.indus_tree.specs.declared.tree.DeclKind.TheVariants.{Header}
use Rattle.indus_tree.specs.declared.tree.Ty.TheVariants as ty
use Rattle.indus_rules.specs.Sites.{decl_sites}
use Rattle.indus_rules.specs.Rules as indus
use Rattle.indus_rules.specs.Rules.{Fine, bad_shape, misshapen, ill_started, is_truth, bad_path, same_truth, ill_headed}
use Rattle.indus_rules.specs.declared.rule.Rule.TheVariants.{KindDiffers, BadSize}
use Rattle.indus_types.proofs.SoundSights.{good_bits}
use Rattle.indus_types.proofs.Checked.{each_fine}
use Rattle.flat_laws.proofs.Typed.{IsFineDecl}
use Rattle.p4_tree.specs.Tree.{Parser, Top, constant, typedef, header_type, struct_type, register, parser, control, Program}
use Rattle.p4_meaning.specs.Standard.{headers_root, metadata_root, standard_root}
use Rattle.p4_meaning.specs.Parts.{named_in, parser_named, parser_type, parser_in}
use Rattle.p4_meaning.proofs.Words.{sound}
use Rattle.p4_scopes.specs.Scopes.{Scope, Stands, missing, typed, held, cells, act, rows, state, function, algorithm, other, is_missing, standard_at, core}
use Rattle.p4_scopes.specs.declared.kind.Kind.TheVariants.{Number, Truth, Error, Unknown}
use Rattle.p4_scopes.specs.declared.thing.Thing.TheVariants.{Scalar, Struct, Standard, PacketIn, PacketOut}
use Rattle.p4_scopes.specs.declared.thing.Thing.TheVariants as thing
use Rattle.p4_declaration_rules.specs.Controls.{after_tops}
use Rattle.p4_declaration_rules.specs.Firsts.{first_top, first_tops}
use Rattle.p4_rules.specs.ProgramRules.{program_scope, IsWellTyped}
use Rattle.p4_rule_laws.proofs.KeepsLemmas.{after_tops_keeps}
use Rattle.p4_typing_laws.proofs.Fine.{typed_fine}
use Rattle.p4_typing_laws.proofs.CallCounts.{text_is}
use Rattle.own_code.proofs.Apart.{text_decides}
use Rattle.own_programs.proofs.Programs.{first_at}
use Rattle.exit_statements.specs.Without.{Exits}
use Rattle.exit_programs.specs.Programs.{exits_in, top_without, program_without}
use Rattle.exit_programs.specs.Names.{HasGivenNames}
use Rattle.exit_rules.proofs.WellTyped.{stays_well_typed}
use Rattle.linked_programs.specs.Linked.{headers_type, metadata_type}
use Rattle.parted_programs.specs.Parted.{with_two}
use Rattle.parted_programs.proofs.EmptyStruct.{empty_struct}
use Rattle.tree_linkage.specs.Trees.{linked_form}
use Rattle.monitor_rules.specs.Fields.{shown_at, IsOwnBehind, IsShown, HasFields}
use Rattle.link_faults.specs.Refusals.{Refusal, or_else}
use Rattle.link_faults.specs.HeaderFields.{field_in, header_path, asked_path, is_field_of, is_header, fits, field_fault, decl_fault, fields_fault}
use Rattle.link_faults.proofs.Taken.{none_is_taken}
use Rattle.faultless_programs.specs.FieldPaths.{IsFieldPath}
use Rattle.linked_properties.specs.Shown.{FoundFieldsAreShown}
use Rattle.linked_properties.proofs.Paths.{IsOwn, HasPaths, old_path, paths_own}

no_case : {A : Type 0} → true ≡ false → A
no_case e = absurd (cc)

both_are : (a b : Bool) → (a || b) ≡ false → (a ≡ false) × (b ≡ false)
both_are true b h = no_case h
both_are false b h = (refl, h)

turned : (b : Bool) → not b ≡ false → b ≡ true
turned true h = refl
turned false h = no_case h

both_true : (a b : Bool) → (a && b) ≡ true → (a ≡ true) × (b ≡ true)
both_true true b h = (refl, h)
both_true false b h = no_case (sym h)

-- ---- what the rules say of header variables

each_decl : (ds before : List Decl) → Fine (decl_sites before ds) → AllByRecursion IsFineDecl ds
each_decl [] before f = tt
each_decl (d ∷ ds) before f = (record { before = before; fine = f.0.0 }, each_decl ds (before ++ d ∷ []) f.1)

good_path : (q : List (List ℕ)) → bad_path q false ≡ false → IsFieldPath q
good_path [] h = no_case h
good_path (r ∷ []) h = no_case h
good_path (r ∷ x ∷ []) h = go (same_text r (codes "meta")) refl (same_text r (codes "standard_metadata")) refl (turned _ h)
  where
    go : (a : Bool) → same_text r (codes "meta") ≡ a → (b : Bool) → same_text r (codes "standard_metadata") ≡ b → (a || b) ≡ true → (r ≡ metadata_root) ⊎ (r ≡ standard_root)
    go true e b k i = inl ((text_decides r (codes "meta")).0 e)
    go false e true k i = inr ((text_decides r (codes "standard_metadata")).0 k)
    go false e false k i = no_case (sym i)
good_path (r ∷ x ∷ y ∷ []) h = (text_decides r (codes "hdr")).0 (turned (same_text r (codes "hdr")) h)
good_path (r ∷ x ∷ y ∷ z ∷ q) h = no_case h

-- of a header whose validity is asked
abbrev pub IsValidPath : List (List ℕ) → Type 0
IsValidPath (r ∷ x ∷ y ∷ []) = r ≡ headers_root
IsValidPath _ = ⊥

valid_path : (q : List (List ℕ)) → bad_path q true ≡ false → IsValidPath q
valid_path (r ∷ x ∷ y ∷ []) h = (text_decides r (codes "hdr")).0 (both_true (same_text r (codes "hdr")) (same_text y (codes "isValid")) (turned _ h)).0
valid_path [] h = no_case h
valid_path (r ∷ []) h = no_case h
valid_path (r ∷ x ∷ []) h = no_case h
valid_path (r ∷ x ∷ y ∷ z ∷ q) h = no_case h

truth_width : (s : Shape) → is_truth s ≡ true → shape_width s ≡ 1
truth_width (one (ty.Bit w)) h = no_case (sym h)
truth_width (one ty.Bool) h = refl
truth_width (list t n) h = no_case (sym h)
truth_width (set ks) h = no_case (sym h)
truth_width (dict ks t) h = no_case (sym h)

truth_same : (b : Bool) → not (same_truth b true) ≡ false → b ≡ true
truth_same true h = refl
truth_same false h = no_case h

wide_shape : (w : ℕ) → bad_shape (one (ty.Bit w)) ≡ false → sound_width w ≡ w
wide_shape w h = let g = good_bits w h in sound w g.least g.most

-- a header variable reads a field by a path of the forms that programs have, in a width that words have, or asks for a
-- header's validity and is a truth value
pub record IsHeaderDecl (d : Decl) : Type 0 where
  pub field : d.valid ≡ false → IsFieldPath d.path
  pub validity : d.valid ≡ true → IsValidPath d.path × (shape_width d.shape ≡ 1)
  pub wide : (w : ℕ) → d.shape ≡ one (ty.Bit w) → sound_width w ≡ w

pub header_decl : (d : Decl) → IsFineDecl d → d.kind ≡ Header → IsHeaderDecl d
header_decl d f k =
    record {
      field = λ v. good_path d.path (both_are (bad_path d.path false) (not (same_truth (is_truth d.shape) false)) (at false v)).0;
      validity = λ v.
          let b = both_are (bad_path d.path true) (not (same_truth (is_truth d.shape) true)) (at true v) in
          (valid_path d.path b.0, truth_width d.shape (truth_same (is_truth d.shape) b.1));
      wide = λ w e. wide_shape w (ap bad_shape (sym e) ∙ f.fine BadSize);
    }
  where
    ill : ill_headed d.kind d.shape d.path d.valid ≡ false
    ill = (both_are (misshapen d.kind d.shape || ill_started d.kind d.start) (ill_headed d.kind d.shape d.path d.valid) (f.fine KindDiffers)).1

    at : (b : Bool) → d.valid ≡ b → ill_headed Header d.shape d.path b ≡ false
    at b v = ap₂ (λ (t : DeclKind) (c : Bool). ill_headed t d.shape d.path c) (sym k) (sym v) ∙ ill

pub none_first : (a b : Option Refusal) → or_else a b ≡ None → a ≡ None
none_first None b h = refl
none_first (Some x) b h = absurd (cc)

pub none_rest : (a b : Option Refusal) → or_else a b ≡ None → b ≡ None
none_rest None b h = h
none_rest (Some x) b h = absurd (cc)

pub record IsFound (st : Stands) (d : Decl) : Type 0 where
  pub there : is_missing st ≡ false
  pub fits_it : fits d.valid d.shape st ≡ true

pub is_found : (st : Stands) (d : Decl) → field_fault st d ≡ None → IsFound st d
is_found st d h = go (is_missing st) refl (fits d.valid d.shape st) refl _ _ h
  where
    go : (a : Bool) → is_missing st ≡ a → (b : Bool) → fits d.valid d.shape st ≡ b → (x y : Refusal) → cond a (Some x) (cond b None (Some y)) ≡ None → IsFound st d
    go true i b j x y h = absurd (cc)
    go false i true j x y h = record { there = i; fits_it = j }
    go false i false j x y h = absurd (cc)

-- a number of the declared width
fit_number : (s : Shape) (st : Stands) → fits false s st ≡ true → ((w : ℕ) → s ≡ one (ty.Bit w) → sound_width w ≡ w) → (is_field_of (shape_width s) st ≡ true) × (sound_width (shape_width s) ≡ shape_width s)
fit_number (one (ty.Bit w)) st h wide = (h, wide w refl)
fit_number (one ty.Bool) st h wide = no_case (sym h)
fit_number (list t n) st h wide = no_case (sym h)
fit_number (set ks) st h wide = no_case (sym h)
fit_number (dict ks t) st h wide = no_case (sym h)

-- what is found, with its kind
is_number : (w : ℕ) (st : Stands) → is_field_of w st ≡ true → (fixed : Bool) × (st ≡ typed fixed (Scalar (Number w)))
is_number w (typed a (Scalar (Number v))) h = (a, ap (λ (n : ℕ). typed a (Scalar (Number n))) (let e : v ≡ w = grind (arith, nat_tests, h) in e))
is_number w (typed a (Scalar Truth)) h = no_case (sym h)
is_number w (typed a (Scalar Error)) h = no_case (sym h)
is_number w (typed a (Scalar Unknown)) h = no_case (sym h)
is_number w (typed a (thing.Header n)) h = no_case (sym h)
is_number w (typed a Struct) h = no_case (sym h)
is_number w (typed a Standard) h = no_case (sym h)
is_number w (typed a PacketIn) h = no_case (sym h)
is_number w (typed a PacketOut) h = no_case (sym h)
is_number w missing h = no_case (sym h)
is_number w (held a t) h = no_case (sym h)
is_number w (cells k) h = no_case (sym h)
is_number w (act ps m) h = no_case (sym h)
is_number w (rows m) h = no_case (sym h)
is_number w state h = no_case (sym h)
is_number w (function g) h = no_case (sym h)
is_number w algorithm h = no_case (sym h)
is_number w other h = no_case (sym h)

is_a_header : (st : Stands) → is_header st ≡ true → (fixed : Bool) × (bits : ℕ) × (st ≡ typed fixed (thing.Header bits))
is_a_header (typed a (thing.Header n)) h = (a, n, refl)
is_a_header (typed a (Scalar k)) h = no_case (sym h)
is_a_header (typed a Struct) h = no_case (sym h)
is_a_header (typed a Standard) h = no_case (sym h)
is_a_header (typed a PacketIn) h = no_case (sym h)
is_a_header (typed a PacketOut) h = no_case (sym h)
is_a_header missing h = no_case (sym h)
is_a_header (held a t) h = no_case (sym h)
is_a_header (cells k) h = no_case (sym h)
is_a_header (act ps m) h = no_case (sym h)
is_a_header (rows m) h = no_case (sym h)
is_a_header state h = no_case (sym h)
is_a_header (function g) h = no_case (sym h)
is_a_header algorithm h = no_case (sym h)
is_a_header other h = no_case (sym h)

pub decls_fine : (p : Property) → indus.IsWellTyped p → AllByRecursion IsFineDecl p.decls
decls_fine p well = each_decl p.decls [] (each_fine p well).1.0

-- ---- taking exits out

first_same : (m : Exits) (s : Scope) (y : Top) → first_top s (top_without m y) ≡ first_top s y
first_same m s (constant p t x e) = refl
first_same m s (typedef p t x) = refl
first_same m s (header_type p x fs) = refl
first_same m s (struct_type p x fs) = refl
first_same m s (register p r) = refl
first_same m s (parser p d) = refl
first_same m s (control p c) = refl

firsts_same : (m : Exits) (s : Scope) (ys : List Top) → first_tops s (map (top_without m) ys) ≡ first_tops s ys
firsts_same m s [] = refl
firsts_same m s (y ∷ ys) = ap (λ (t : Scope). first_tops t (map (top_without m) ys)) (first_same m s y) ∙ firsts_same m (first_top s y) ys

parser_same : (m : Exits) (ys : List Top) (x : List ℕ) → parser_named (map (top_without m) ys) x ≡ parser_named ys x
parser_same m [] x = refl
parser_same m (parser p d ∷ ys) x = ap (λ (o : Option Parser). cond (same_text d.name x) (Some d) o) (parser_same m ys x)
parser_same m (constant p t y e ∷ ys) x = parser_same m ys x
parser_same m (typedef p t y ∷ ys) x = parser_same m ys x
parser_same m (header_type p y fs ∷ ys) x = parser_same m ys x
parser_same m (struct_type p y fs ∷ ys) x = parser_same m ys x
parser_same m (register p r ∷ ys) x = parser_same m ys x
parser_same m (control p c ∷ ys) x = parser_same m ys x

-- ---- a program

module _ (f : Program) (well : IsWellTyped f) (given : HasGivenNames f) where
  abbrev S : Scope
  S = program_scope f

  abbrev H : List ℕ
  H = parser_type (parser_in f) 1

  abbrev M : List ℕ
  M = parser_type (parser_in f) 2

  abbrev E : Scope
  E = after_tops core f.tops

  all : E ≡ S
  all = (first_at f well).all

  own_paths : HasPaths IsOwn S
  own_paths = subst (HasPaths IsOwn) all (paths_own f.tops given.tops)

  standard_kept : (x : List ℕ) → S (codes "standard_metadata_t" ∷ x ∷ []) ≡ standard_at x
  unfolding core
  standard_kept x = ap (λ (s : Scope). s (codes "standard_metadata_t" ∷ x ∷ [])) (sym all) ∙ (after_tops_keeps f.main core f.tops (typed_fine f well).0).kept (codes "standard_metadata_t") (x ∷ []) refl

  -- ---- a scope in which the fields of both structs stand as they did

  pub record Agrees (T : Scope) (K N : List ℕ) : Type 0 where
    pub headers : (x : List ℕ) (xs : List (List ℕ)) → is_missing (S (H ∷ x ∷ xs)) ≡ false → T (K ∷ x ∷ xs) ≡ S (H ∷ x ∷ xs)
    pub metadata : (x : List ℕ) (xs : List (List ℕ)) → is_missing (S (M ∷ x ∷ xs)) ≡ false → T (N ∷ x ∷ xs) ≡ S (M ∷ x ∷ xs)

  module _ (T : Scope) (K N : List ℕ) (agree : Agrees T K N) where
    abbrev IsSame : List (List ℕ) → Type 0
    IsSame q = IsOwnBehind q × (shown_at T K N q ≡ field_in S f q)

    abbrev IsThere : List (List ℕ) → Type 0
    IsThere q = is_missing (field_in S f q) ≡ false

    in_headers : (x : List ℕ) (xs : List (List ℕ)) → IsThere (headers_root ∷ x ∷ xs) → IsSame (headers_root ∷ x ∷ xs)
    in_headers x xs h = (old_path (x ∷ xs) (own_paths.behind H (x ∷ xs) h), agree.headers x xs h)

    in_metadata : (x : List ℕ) → IsThere (metadata_root ∷ x ∷ []) → IsSame (metadata_root ∷ x ∷ [])
    in_metadata x h = (old_path (x ∷ []) (own_paths.behind M (x ∷ []) h), agree.metadata x [] h)

    in_standard : (x : List ℕ) → IsThere (standard_root ∷ x ∷ []) → IsSame (standard_root ∷ x ∷ [])
    in_standard x h = (old_path (x ∷ []) (own_paths.behind (codes "standard_metadata_t") (x ∷ []) h), sym (standard_kept x))

    same_field : (q : List (List ℕ)) → IsFieldPath q → IsThere q → IsSame q
    same_field [] i h = absurd i
    same_field (r ∷ []) i h = absurd i
    same_field (r ∷ x ∷ []) (inl e) h = subst (λ (n : List ℕ). IsSame (n ∷ x ∷ [])) (sym e) (in_metadata x (subst (λ (n : List ℕ). IsThere (n ∷ x ∷ [])) e h))
    same_field (r ∷ x ∷ []) (inr e) h = subst (λ (n : List ℕ). IsSame (n ∷ x ∷ [])) (sym e) (in_standard x (subst (λ (n : List ℕ). IsThere (n ∷ x ∷ [])) e h))
    same_field (r ∷ x ∷ y ∷ []) e h = subst (λ (n : List ℕ). IsSame (n ∷ x ∷ y ∷ [])) (sym e) (in_headers x (y ∷ []) (subst (λ (n : List ℕ). IsThere (n ∷ x ∷ y ∷ [])) e h))
    same_field (r ∷ x ∷ y ∷ z ∷ q) i h = absurd i

    -- of a header whose validity is asked
    same_header : (q : List (List ℕ)) → IsValidPath q → IsThere (header_path q) → IsOwnBehind (parent q) × (shown_at T K N (parent q) ≡ field_in S f (header_path q))
    same_header (r ∷ x ∷ y ∷ []) e h = subst (λ (n : List ℕ). IsSame (n ∷ x ∷ [])) (sym e) (in_headers x [] (subst (λ (n : List ℕ). IsThere (n ∷ x ∷ [])) e h))
    same_header [] e h = absurd e
    same_header (r ∷ []) e h = absurd e
    same_header (r ∷ x ∷ []) e h = absurd e
    same_header (r ∷ x ∷ y ∷ z ∷ q) e h = absurd e

    module _ (d : Decl) (i : IsHeaderDecl d) (found : IsFound (field_in S f (asked_path d)) d) where
      there_at : (b : Bool) → d.valid ≡ b → IsThere (cond b (header_path d.path) d.path)
      there_at b e = subst (λ (c : Bool). IsThere (cond c (header_path d.path) d.path)) e found.there

      fits_at : (b : Bool) → d.valid ≡ b → fits b d.shape (field_in S f (cond b (header_path d.path) d.path)) ≡ true
      fits_at b e = subst (λ (c : Bool). fits c d.shape (field_in S f (cond c (header_path d.path) d.path)) ≡ true) e found.fits_it

      shown : IsShown T K N d
      shown =
          record {
            field = λ e.
                let same = same_field d.path (i.field e) (there_at false e) in
                let is = is_number (shape_width d.shape) (field_in S f d.path) (fit_number d.shape (field_in S f d.path) (fits_at false e) i.wide).0 in
                (is.0, same.0, same.1 ∙ is.1);
            header = λ e.
                let same = same_header d.path (i.validity e).0 (there_at true e) in
                let is = is_a_header (field_in S f (header_path d.path)) (fits_at true e) in
                (is.0, is.1, same.0, same.1 ∙ is.2);
          }

    abbrev fault_in : Decl → DeclKind → Option Refusal
    fault_in e j = cond (same_kind Header j) (field_fault (field_in S f (asked_path e)) e) None

    all_shown : (ds : List Decl) → AllByRecursion IsFineDecl ds → fields_fault S f ds ≡ None → HasFields T K N ds
    all_shown [] fine h x d is k = absurd (cc is)
    all_shown (e ∷ ds) fine h x d is k = go (same_text e.name x) is (λ (j : lookup ds x ≡ Some d). all_shown ds fine.1 (none_rest (decl_fault S f e) (fields_fault S f ds) h) x d j k)
      where
        here : e.kind ≡ Header → IsShown T K N e
        here j = shown e (header_decl e fine.0 j) (is_found (field_in S f (asked_path e)) e (ap (fault_in e) (sym j) ∙ none_first (decl_fault S f e) (fields_fault S f ds) h))

        go : (b : Bool) → cond b (Some e) (lookup ds x) ≡ Some d → (lookup ds x ≡ Some d → IsShown T K N d) → IsShown T K N d
        go true j more = (let same : e ≡ d = cc in subst (IsShown T K N) same (here (ap (λ (c : Decl). c.kind) same ∙ k)))
        go false j more = more j

  -- ---- what is linked

  abbrev p : Program
  p = program_without f

  scope_same : program_scope p ≡ S
  scope_same = firsts_same (exits_in f) core f.tops

  parser_is : parser_in p ≡ parser_in f
  parser_is = parser_same (exits_in f) f.tops (named_in f.main 0)

  headers_same : headers_type p ≡ H
  headers_same = ap (λ (o : Option Parser). parser_type o 1) parser_is

  metadata_same : metadata_type p ≡ M
  metadata_same = ap (λ (o : Option Parser). parser_type o 2) parser_is

  -- two structs: all stands as it did
  two_agree : Agrees (program_scope p) (headers_type p) (metadata_type p)
  two_agree =
      record {
        headers = λ x xs h. ap₂ (λ (s : Scope) (n : List ℕ). s (n ∷ x ∷ xs)) scope_same headers_same;
        metadata = λ x xs h. ap₂ (λ (s : Scope) (n : List ℕ). s (n ∷ x ∷ xs)) scope_same metadata_same;
      }

  -- one struct: it has no field
  one_none : headers_type p ≡ metadata_type p → (x : List ℕ) (xs : List (List ℕ)) → S (M ∷ x ∷ xs) ≡ missing
  one_none e x xs =
      ap₂ (λ (s : Scope) (n : List ℕ). s (n ∷ x ∷ xs)) (sym scope_same) (sym metadata_same) ∙ (empty_struct p (stays_well_typed f well given) e).below x xs

  one_agree : headers_type p ≡ metadata_type p → (T : Scope) (K N : List ℕ) → Agrees T K N
  one_agree e T K N =
      record {
        headers = λ x xs h.
            no_case (ap is_missing (sym (ap (λ (n : List ℕ). S (n ∷ x ∷ xs)) (sym headers_same ∙ e ∙ metadata_same) ∙ one_none e x xs)) ∙ h);
        metadata = λ x xs h. no_case (ap is_missing (sym (one_none e x xs)) ∙ h);
      }

  abbrev AgreesWith : Program → Type 0
  AgreesWith q = Agrees (program_scope q) (headers_type q) (metadata_type q)

  form_agrees : AgreesWith (linked_form f)
  form_agrees = go (same_text (headers_type p) (metadata_type p)) refl
    where
      go : (b : Bool) → same_text (headers_type p) (metadata_type p) ≡ b → AgreesWith (cond b (with_two p) p)
      go false e = two_agree
      go true e = one_agree (text_is (headers_type p) (metadata_type p) e) (program_scope (with_two p)) (headers_type (with_two p)) (metadata_type (with_two p))

pub found_fields_are_shown : FoundFieldsAreShown
found_fields_are_shown property fine f well free h =
    (let given = none_is_taken f free in
    all_shown f well given (program_scope (linked_form f)) (headers_type (linked_form f)) (metadata_type (linked_form f)) (form_agrees f well given) property.decls (decls_fine property fine) h)
