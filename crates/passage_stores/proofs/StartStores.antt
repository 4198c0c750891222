-- The store before the parser fits: no two declared places are one, so that each keeps the word that it is given.
use Rattle.std.proofs.Common.{◌≡◌, ℕ, ◌≤◌, List, [], ◌∷◌, ◌++◌, map, Bool, true, false, cond, ◌||◌, None, refl, sym, ap, ◌∙◌, subst, pow_pos, arith}
use Rattle.std.proofs.lemmas.List.{append_cancel_left}
use Rattle.bit_values.specs.Bits.{Word, word, cast}
use Rattle.bit_values.specs.Widths.{sound_width}
use Rattle.bit_values.proofs.BitsLemmas.{cast-lt}
use Rattle.lex_text.specs.Names.{same_text, same_path}
use Rattle.rule_tests.specs.Tests.{IsFine}
use Rattle.p4_tree.specs.Tree.{Top, constant, typedef, header_type, struct_type, register, parser, control, Program}
use Rattle.p4_tree.specs.declared.statement.PTy.{PTy}
use Rattle.p4_parser_states.specs.Cycles.{is_among}
use Rattle.p4_meaning.specs.Standard.{headers_root, metadata_root}
use Rattle.p4_meaning.specs.Store.{Store, blank, set_value, set_valid}
use Rattle.p4_meaning.specs.Value.{width_of}
use Rattle.p4_meaning.specs.Scope.{type_name, type_under}
use Rattle.p4_meaning.specs.Parsing.{Field, Header}
use Rattle.p4_meaning.specs.Parts.{struct_fields, header_fields, types_of, field_of, header_of, parser_type, parser_in, parts_of}
use Rattle.p4_meaning.specs.Pass.{zero_fields, no_headers, with_standard, store_before}
use Rattle.p4_meaning.specs.Laws.{IsOf}
use Rattle.p4_meaning.proofs.Words.{sound, sound_wide, sound_narrow}
use Rattle.p4_scopes.specs.Scopes.{Scope, core}
use Rattle.p4_declaration_rules.specs.Declarations.{has_twice, field_names}
use Rattle.p4_declaration_rules.specs.Controls.{after_top, tops_tests}
use Rattle.p4_rules.specs.ProgramRules.{IsWellTyped}
use Rattle.p4_typing_laws.proofs.Fine.{neither, typed_fine}
use Rattle.p4_typing_laws.proofs.CallCounts.{text_same}
use Rattle.p4_typing_laws.proofs.KeptPlaces.{path_is, path_same}
use Rattle.passage_stores.specs.FitStores.{FieldsFit, HeadersFit, StandardFits, IsFit}
use Rattle.passage_stores.proofs.KeptStores.{HavePaths}

-- ---- places

set_other : (s : Store) (p q : List (List ℕ)) (w : Word) → (p ≡ q → ⊥) → (set_value s p w).values q ≡ s.values q
set_other s p q w apart = go (same_path p q) refl
  where
    go : (b : Bool) → same_path p q ≡ b → cond b w (s.values q) ≡ s.values q
    go true e = absurd (apart (path_is p q e))
    go false e = refl

set_here : (s : Store) (p : List (List ℕ)) (w : Word) → (set_value s p w).values p ≡ w
set_here s p w = ap (λ (b : Bool). cond b w (s.values p)) (path_same p p refl)

-- a name that is among none
head_apart : (x y : List ℕ) (xs : List (List ℕ)) → is_among (x ∷ xs) y ≡ false → (x ≡ y → ⊥) × (is_among xs y ≡ false)
head_apart x y xs h = (let k = neither (same_text x y) (is_among xs y) h in ((λ e. (let c : true ≡ false = sym (text_same x y e) ∙ k.0 in cc)), k.1))

among_head : (x : List ℕ) (xs : List (List ℕ)) → is_among (x ∷ xs) x ≡ true
among_head x xs = ap (λ (b : Bool). b || is_among xs x) (text_same x x refl)

among_tail : (x y : List ℕ) (xs : List (List ℕ)) → is_among xs y ≡ true → is_among (x ∷ xs) y ≡ true
among_tail x y xs h = go (same_text x y)
  where
    go : (b : Bool) → (b || is_among xs y) ≡ true
    go true = refl
    go false = h

-- ---- fields

zero_word : (w : ℕ) → IsOf (sound_width w) (word (sound_width (sound_width w)) 0)
zero_word w =
    (let same : sound_width (sound_width w) ≡ sound_width w = sound (sound_width w) (sound_wide w) (sound_narrow w) in
    record { word = record { wide = sound_wide (sound_width w); narrow = sound_narrow (sound_width w); in_range = pow_pos (sound_width (sound_width w)) }; width = same })

module _ (types : List (List ℕ × PTy)) where
  zero_other : (above : List (List ℕ)) (gs : List (PTy × List ℕ)) (s : Store) (q : List (List ℕ)) → ((y : List ℕ) → is_among (field_names gs) y ≡ true → above ++ y ∷ [] ≡ q → ⊥)
      → (zero_fields above (map (field_of types) gs) s).values q ≡ s.values q
  zero_other above [] s q apart = refl
  zero_other above (g ∷ gs) s q apart =
      zero_other above gs _ q (λ y h e. apart y (among_tail g.1 y (field_names gs) h) e)
      ∙ set_other s (above ++ g.1 ∷ []) q (word (sound_width (field_of types g).width) 0) (apart g.1 (among_head g.1 (field_names gs)))

  zero_fit : (above : List (List ℕ)) (gs : List (PTy × List ℕ)) (s : Store) → has_twice (field_names gs) ≡ false → FieldsFit above (map (field_of types) gs) (zero_fields above (map (field_of types) gs) s)
  zero_fit above [] s once = tt
  zero_fit above (g ∷ gs) s once =
      (let f = field_of types g in
      let w = word (sound_width f.width) 0 in
      let q = above ++ g.1 ∷ [] in
      let k = neither (is_among (field_names gs) g.1) (has_twice (field_names gs)) once in
      let same = zero_other above gs (set_value s q w) q (λ y h e. twice y h (append_cancel_left above (y ∷ []) (g.1 ∷ []) e) k.0) ∙ set_here s q w in (
        subst (λ (v : Word). IsOf f.width v) (sym same) (zero_word (width_of (type_under types g.0))),
        zero_fit above gs (set_value s q w) k.1,
      ))
    where
      twice : (y : List ℕ) → is_among (field_names gs) y ≡ true → y ∷ [] ≡ g.1 ∷ [] → is_among (field_names gs) g.1 ≡ false → ⊥
      twice y h e i = (let same : y ≡ g.1 = cc in let c : true ≡ false = sym h ∙ ap (is_among (field_names gs)) same ∙ i in cc)

zero_none : (above : List (List ℕ)) (fs : List Field) (s : Store) → s.headers [] ≡ None → (zero_fields above fs s).headers [] ≡ None
zero_none above [] s e = e
zero_none above (f ∷ fs) s e = zero_none above fs (set_value s (above ++ f.name ∷ []) (word (sound_width f.width) 0)) e

fields_moved : (above : List (List ℕ)) (fs : List Field) (a b : Store) → ((y : List ℕ) → b.values (above ++ y ∷ []) ≡ a.values (above ++ y ∷ [])) → FieldsFit above fs a → FieldsFit above fs b
fields_moved above [] a b same h = tt
fields_moved above (f ∷ fs) a b same h = (subst (λ (v : Word). IsOf f.width v) (sym (same f.name)) h.0, fields_moved above fs a b same h.1)

-- ---- headers

module _ (ts : List Top) where
  pub named_paths : (fs : List (PTy × List ℕ)) → HavePaths (map (header_of ts) fs)
  named_paths [] = tt
  named_paths (f ∷ fs) = ((λ e. absurd (cc)), named_paths fs)

  headers_other : (fs : List (PTy × List ℕ)) (s : Store) (q : List (List ℕ)) → ((m y : List ℕ) → is_among (field_names fs) m ≡ true → headers_root ∷ m ∷ y ∷ [] ≡ q → ⊥) → (no_headers (map (header_of ts) fs) s).values q ≡ s.values q
  headers_other [] s q apart = refl
  headers_other (f ∷ fs) s q apart =
      headers_other fs _ q (λ m y h e. apart m y (among_tail f.1 m (field_names fs) h) e)
      ∙ zero_other (types_of ts) (headers_root ∷ f.1 ∷ []) (header_fields ts (type_name f.0)) (set_valid s (headers_root ∷ f.1 ∷ []) false) q (λ y h e. apart f.1 y (among_head f.1 (field_names fs)) e)

  headers_moved : (fs : List (PTy × List ℕ)) (a b : Store) → ((m y : List ℕ) → b.values (headers_root ∷ m ∷ y ∷ []) ≡ a.values (headers_root ∷ m ∷ y ∷ [])) → HeadersFit (map (header_of ts) fs) a → HeadersFit (map (header_of ts) fs) b
  headers_moved [] a b same h = tt
  headers_moved (f ∷ fs) a b same h =
      (fields_moved (headers_root ∷ f.1 ∷ []) (map (field_of (types_of ts)) (header_fields ts (type_name f.0))) a b (same f.1) h.0, headers_moved fs a b same h.1)

  headers_fit : ((x : List ℕ) → has_twice (field_names (header_fields ts x)) ≡ false) → (fs : List (PTy × List ℕ)) (s : Store) → has_twice (field_names fs) ≡ false → HeadersFit (map (header_of ts) fs) (no_headers (map (header_of ts) fs) s)
  headers_fit inner [] s once = tt
  headers_fit inner (f ∷ fs) s once =
      (let gs = header_fields ts (type_name f.0) in
      let p = headers_root ∷ f.1 ∷ [] in
      let a = zero_fields p (map (field_of (types_of ts)) gs) (set_valid s p false) in
      let k = neither (is_among (field_names fs) f.1) (has_twice (field_names fs)) once in (
        fields_moved p (map (field_of (types_of ts)) gs) a (no_headers (map (header_of ts) fs) a) (λ y. headers_other fs a (headers_root ∷ f.1 ∷ y ∷ []) (λ m z h e. twice m z y h e k.0))
            (zero_fit (types_of ts) p gs (set_valid s p false) (inner (type_name f.0))),
        headers_fit inner fs a k.1,
      ))
    where
      twice : (m z y : List ℕ) → is_among (field_names fs) m ≡ true → headers_root ∷ m ∷ z ∷ [] ≡ headers_root ∷ f.1 ∷ y ∷ [] → is_among (field_names fs) f.1 ≡ false → ⊥
      twice m z y h e i = (let same : m ≡ f.1 = cc in let c : true ≡ false = sym h ∙ ap (is_among (field_names fs)) same ∙ i in cc)

  headers_none : (fs : List (PTy × List ℕ)) (s : Store) → s.headers [] ≡ None → (no_headers (map (header_of ts) fs) s).headers [] ≡ None
  headers_none [] s e = e
  headers_none (f ∷ fs) s e = headers_none fs _ (zero_none (headers_root ∷ f.1 ∷ []) (map (field_of (types_of ts)) (header_fields ts (type_name f.0))) (set_valid s (headers_root ∷ f.1 ∷ []) false) e)

-- ---- the standard metadata

module _ (port len : ℕ) (s : Store) where
  cut_word : (w n : ℕ) → 1 ≤ w → w ≤ 128 → IsOf w (word w (cast w n))
  cut_word w n h k = record { word = record { wide = h; narrow = k; in_range = cast-lt w n }; width = refl }

  none_word : (w : ℕ) → 1 ≤ w → w ≤ 128 → IsOf w (word w 0)
  none_word w h k = record { word = record { wide = h; narrow = k; in_range = pow_pos w }; width = refl }

  standard_fit : StandardFits (with_standard port len s)
  standard_fit =
      record {
        entry = cut_word 9 port (omega arith) (omega arith);
        spec = none_word 9 (omega arith) (omega arith);
        port = none_word 9 (omega arith) (omega arith);
        length = cut_word 32 len (omega arith) (omega arith);
        error = none_word 1 (omega arith) (omega arith);
        parser = none_word 2 (omega arith) (omega arith);
      }

-- ---- names that stand once

pub struct_once : (main : List (List ℕ)) (ts : List Top) (s : Scope) → IsFine (tops_tests main s ts) → (x : List ℕ) → has_twice (field_names (struct_fields ts x)) ≡ false
struct_once main [] s f x = refl
struct_once main (constant p t y e ∷ ts) s f x = struct_once main ts (after_top s (constant p t y e)) f.1 x
struct_once main (typedef p t y ∷ ts) s f x = struct_once main ts (after_top s (typedef p t y)) f.1 x
struct_once main (header_type p y fs ∷ ts) s f x = struct_once main ts (after_top s (header_type p y fs)) f.1 x
struct_once main (struct_type p y fs ∷ ts) s f x = go (same_text y x) (struct_once main ts (after_top s (struct_type p y fs)) f.1 x)
  where
    go : (b : Bool) → has_twice (field_names (struct_fields ts x)) ≡ false → has_twice (field_names (cond b fs (struct_fields ts x))) ≡ false
    go true more = f.0.1.0
    go false more = more
struct_once main (register p r ∷ ts) s f x = struct_once main ts (after_top s (register p r)) f.1 x
struct_once main (parser p d ∷ ts) s f x = struct_once main ts (after_top s (parser p d)) f.1 x
struct_once main (control p c ∷ ts) s f x = struct_once main ts (after_top s (control p c)) f.1 x

pub header_once : (main : List (List ℕ)) (ts : List Top) (s : Scope) → IsFine (tops_tests main s ts) → (x : List ℕ) → has_twice (field_names (header_fields ts x)) ≡ false
header_once main [] s f x = refl
header_once main (constant p t y e ∷ ts) s f x = header_once main ts (after_top s (constant p t y e)) f.1 x
header_once main (typedef p t y ∷ ts) s f x = header_once main ts (after_top s (typedef p t y)) f.1 x
header_once main (header_type p y fs ∷ ts) s f x = go (same_text y x) (header_once main ts (after_top s (header_type p y fs)) f.1 x)
  where
    go : (b : Bool) → has_twice (field_names (header_fields ts x)) ≡ false → has_twice (field_names (cond b fs (header_fields ts x))) ≡ false
    go true more = f.0.1.0
    go false more = more
header_once main (struct_type p y fs ∷ ts) s f x = header_once main ts (after_top s (struct_type p y fs)) f.1 x
header_once main (register p r ∷ ts) s f x = header_once main ts (after_top s (register p r)) f.1 x
header_once main (parser p d ∷ ts) s f x = header_once main ts (after_top s (parser p d)) f.1 x
header_once main (control p c ∷ ts) s f x = header_once main ts (after_top s (control p c)) f.1 x

-- ---- before the parser

-- hf, mf: the fields of the struct of headers and of that of metadata
module _ (ts : List Top) (hf mf : List (PTy × List ℕ)) (port len : ℕ) where
  abbrev Headers : List Header
  Headers = map (header_of ts) hf

  abbrev Metadata : List Field
  Metadata = map (field_of (types_of ts)) mf

  abbrev Zeroed : Store
  Zeroed = zero_fields (metadata_root ∷ []) Metadata (no_headers Headers blank)

  abbrev Begun : Store
  Begun = with_standard port len Zeroed

  begun_headers : ((x : List ℕ) → has_twice (field_names (header_fields ts x)) ≡ false) → has_twice (field_names hf) ≡ false → HeadersFit Headers Begun
  begun_headers inner once =
      headers_moved ts hf (no_headers Headers blank) Begun (λ m y. zero_other (types_of ts) (metadata_root ∷ []) mf (no_headers Headers blank) (headers_root ∷ m ∷ y ∷ []) (λ z h e. cc))
      (headers_fit ts inner hf blank once)

  begun_metadata : has_twice (field_names mf) ≡ false → FieldsFit (metadata_root ∷ []) Metadata Begun
  begun_metadata once = fields_moved (metadata_root ∷ []) Metadata Zeroed Begun (λ y. refl) (zero_fit (types_of ts) (metadata_root ∷ []) mf (no_headers Headers blank) once)

pub begun_fits : (p : Program) → IsWellTyped p → (port len : ℕ) → IsFit (parts_of p) (store_before (parts_of p) port len)
begun_fits p typed port len =
    let ts = p.tops in
    let hf = struct_fields ts (parser_type (parser_in p) 1) in
    let mf = struct_fields ts (parser_type (parser_in p) 2) in
    let fine = (typed_fine p typed).0 in
    record {
      headers = begun_headers ts hf mf port len (header_once p.main ts core fine) (struct_once p.main ts core fine (parser_type (parser_in p) 1));
      metadata = begun_metadata ts hf mf port len (struct_once p.main ts core fine (parser_type (parser_in p) 2));
      standard = standard_fit port len (Zeroed ts hf mf port len);
      plain = zero_none (metadata_root ∷ []) (Metadata ts hf mf port len) (no_headers (Headers ts hf mf port len) blank) (headers_none ts hf blank refl);
    }
