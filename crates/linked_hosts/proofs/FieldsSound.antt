-- The fields of a well-typed program have widths of their own: no name stands twice among those of a struct or header.
use Rattle.std.proofs.Common.{◌≡◌, ℕ, List, [], ◌∷◌, ◌++◌, map, Bool, true, false, cond, ◌&&◌, refl, sym, ap, ◌∙◌}
use Rattle.std.specs.List.{AllByRecursion}
use Rattle.bit_values.specs.Widths.{sound_width}
use Rattle.lex_text.specs.Names.{same_text}
use Rattle.rule_tests.specs.Tests.{IsFine}
use Rattle.p4_tree.specs.Tree.{Top, constant, typedef, header_type, struct_type, register, parser, control, Program}
use Rattle.p4_tree.specs.declared.statement.PTy.{PTy}
use Rattle.p4_meaning.specs.Standard.{headers_root, metadata_root}
use Rattle.p4_meaning.specs.Value.{width_of}
use Rattle.p4_meaning.specs.Parsing.{Field}
use Rattle.p4_meaning.specs.Scope.{type_name, type_under, is_among}
use Rattle.p4_meaning.specs.Parts.{Parts, types_of, field_of, header_of, struct_fields, header_fields, parser_type, parser_in, parts_of}
use Rattle.p4_meaning.proofs.Words.{sound, sound_wide, sound_narrow}
use Rattle.p4_scopes.specs.Scopes.{Scope, core}
use Rattle.p4_declaration_rules.specs.Declarations.{has_twice, field_names}
use Rattle.p4_declaration_rules.specs.Controls.{tops_tests, after_top}
use Rattle.p4_rules.specs.ProgramRules.{IsWellTyped}
use Rattle.p4_typing_laws.proofs.Fine.{neither, typed_fine}
use Rattle.own_code.proofs.Apart.{text_decides}
use Rattle.monitor_laws.specs.Telemetry.{AreApart}
use Rattle.monitor_laws.proofs.Fields.{same_below}
use Rattle.linked_halves.specs.Widths.{fields_width, headers_width, width_at, HaveWidths, HasSoundFields}

-- ---- names that stand once

once_in_structs : (main : List (List ℕ)) (ts : List Top) (s : Scope) (x : List ℕ) → IsFine (tops_tests main s ts) → has_twice (field_names (struct_fields ts x)) ≡ false
once_in_structs main [] s x h = refl
once_in_structs main (struct_type p y fs ∷ ts) s x h = go (same_text y x) h.0.1.0 (once_in_structs main ts (after_top s (struct_type p y fs)) x h.1)
  where
    go : (b : Bool) → has_twice (field_names fs) ≡ false → has_twice (field_names (struct_fields ts x)) ≡ false → has_twice (field_names (cond b fs (struct_fields ts x))) ≡ false
    go true a b = a
    go false a b = b
once_in_structs main (constant p t y e ∷ ts) s x h = once_in_structs main ts (after_top s (constant p t y e)) x h.1
once_in_structs main (typedef p t y ∷ ts) s x h = once_in_structs main ts (after_top s (typedef p t y)) x h.1
once_in_structs main (header_type p y fs ∷ ts) s x h = once_in_structs main ts (after_top s (header_type p y fs)) x h.1
once_in_structs main (register p r ∷ ts) s x h = once_in_structs main ts (after_top s (register p r)) x h.1
once_in_structs main (parser p d ∷ ts) s x h = once_in_structs main ts (after_top s (parser p d)) x h.1
once_in_structs main (control p c ∷ ts) s x h = once_in_structs main ts (after_top s (control p c)) x h.1

once_in_headers : (main : List (List ℕ)) (ts : List Top) (s : Scope) (x : List ℕ) → IsFine (tops_tests main s ts) → has_twice (field_names (header_fields ts x)) ≡ false
once_in_headers main [] s x h = refl
once_in_headers main (header_type p y fs ∷ ts) s x h = go (same_text y x) h.0.1.0 (once_in_headers main ts (after_top s (header_type p y fs)) x h.1)
  where
    go : (b : Bool) → has_twice (field_names fs) ≡ false → has_twice (field_names (header_fields ts x)) ≡ false → has_twice (field_names (cond b fs (header_fields ts x))) ≡ false
    go true a b = a
    go false a b = b
once_in_headers main (constant p t y e ∷ ts) s x h = once_in_headers main ts (after_top s (constant p t y e)) x h.1
once_in_headers main (typedef p t y ∷ ts) s x h = once_in_headers main ts (after_top s (typedef p t y)) x h.1
once_in_headers main (struct_type p y fs ∷ ts) s x h = once_in_headers main ts (after_top s (struct_type p y fs)) x h.1
once_in_headers main (register p r ∷ ts) s x h = once_in_headers main ts (after_top s (register p r)) x h.1
once_in_headers main (parser p d ∷ ts) s x h = once_in_headers main ts (after_top s (parser p d)) x h.1
once_in_headers main (control p c ∷ ts) s x h = once_in_headers main ts (after_top s (control p c)) x h.1

swapped : (x y : List ℕ) → same_text x y ≡ false → same_text y x ≡ false
swapped x y o = go (same_text y x) refl
  where
    go : (b : Bool) → same_text y x ≡ b → same_text y x ≡ false
    go true e = absurd (let is : true ≡ false = sym ((text_decides x y).1 (sym ((text_decides y x).0 e))) ∙ o in cc)
    go false e = e

-- a name that is none of the fields'
other_names : (x : List ℕ) (fs : List (PTy × List ℕ)) → is_among (field_names fs) x ≡ false → AllByRecursion (λ g. same_text x g.1 ≡ false) fs
other_names x [] h = tt
other_names x (f ∷ fs) h = let two = neither (same_text f.1 x) (is_among (field_names fs) x) h in (swapped f.1 x two.0, other_names x fs two.1)

mapped : (types : List (List ℕ × PTy)) (x : List ℕ) (fs : List (PTy × List ℕ)) → AllByRecursion (λ g. same_text x g.1 ≡ false) fs → AllByRecursion (λ g. same_text x g.name ≡ false) (map (field_of types) fs)
mapped types x [] h = tt
mapped types x (f ∷ fs) h = (h.0, mapped types x fs h.1)

fields_apart : (types : List (List ℕ × PTy)) (fs : List (PTy × List ℕ)) → has_twice (field_names fs) ≡ false → AreApart (map (field_of types) fs)
fields_apart types [] h = tt
fields_apart types (f ∷ fs) h =
    let two = neither (is_among (field_names fs) f.1) (has_twice (field_names fs)) h in
    (mapped types f.1 fs (other_names f.1 fs two.0), fields_apart types fs two.1)

-- ---- widths

sound_twice : (w : ℕ) → sound_width (sound_width w) ≡ sound_width w
sound_twice w = sound (sound_width w) (sound_wide w) (sound_narrow w)

-- a fact of each and another give a third
all_two : {A : Type 0} (P Q R : A → Type 0) (xs : List A) → ((x : A) → P x → Q x → R x) → AllByRecursion P xs → AllByRecursion Q xs → AllByRecursion R xs
all_two P Q R [] f h k = tt
all_two P Q R (x ∷ xs) f h k = (f x h.0 k.0, all_two P Q R xs f h.1 k.1)

-- each field is the first of its name
first_fields : (above : List (List ℕ)) (fs : List Field) (n : List (List ℕ) → ℕ) → AreApart fs → AllByRecursion (λ g. fields_width above fs (above ++ g.name ∷ []) (n (above ++ g.name ∷ [])) ≡ g.width) fs
first_fields above [] n a = tt
first_fields above (g ∷ fs) n a = (
  ap (λ b. cond b g.width (fields_width above fs (above ++ g.name ∷ []) (n (above ++ g.name ∷ [])))) (same_below above g.name g.name ∙ (text_decides g.name g.name).1 refl),
  all_two (λ k. same_text g.name k.name ≡ false) (λ k. fields_width above fs (above ++ k.name ∷ []) (n (above ++ k.name ∷ [])) ≡ k.width)
      (λ k. fields_width above (g ∷ fs) (above ++ k.name ∷ []) (n (above ++ k.name ∷ [])) ≡ k.width) fs
      (λ k o e. ap (λ b. cond b g.width (fields_width above fs (above ++ k.name ∷ []) (n (above ++ k.name ∷ [])))) (same_below above g.name k.name ∙ o) ∙ e)
      a.0 (first_fields above fs n a.1),
)

-- fields of other headers, and of the metadata
pub other_header : (x y z : List ℕ) → same_text x y ≡ false → (ks : List Field) (n : ℕ) → fields_width (headers_root ∷ x ∷ []) ks (headers_root ∷ y ∷ z ∷ []) n ≡ n
other_header x y z o [] n = refl
other_header x y z o (k ∷ ks) n = ap (λ b. cond (b && (same_text k.name z && true)) k.width (fields_width (headers_root ∷ x ∷ []) ks (headers_root ∷ y ∷ z ∷ []) n)) o ∙ other_header x y z o ks n

pub no_metadata : (y z : List ℕ) (ks : List Field) (n : ℕ) → fields_width (metadata_root ∷ []) ks (headers_root ∷ y ∷ z ∷ []) n ≡ n
no_metadata y z [] n = refl
no_metadata y z (k ∷ ks) n = no_metadata y z ks n

module _ (p : Program) (typed : IsWellTyped p) where
  abbrev ts : List Top
  ts = p.tops

  abbrev types : List (List ℕ × PTy)
  types = types_of ts

  tops_fine : IsFine (tops_tests p.main core ts)
  tops_fine = (typed_fine p typed).0

  header_apart : (f : PTy × List ℕ) → AreApart (header_of ts f).fields
  header_apart f = fields_apart types (header_fields ts (type_name f.0)) (once_in_headers p.main ts core (type_name f.0) tops_fine)

  -- each field of each header is the first of its path
  abbrev FirstIn : List (PTy × List ℕ) → PTy × List ℕ → Type 0
  FirstIn fs f = AllByRecursion (λ g. headers_width (map (header_of ts) fs) (headers_root ∷ f.1 ∷ g.name ∷ []) 1 ≡ g.width) (header_of ts f).fields

  passed_all : (x y : List ℕ) → same_text x y ≡ false → (ks gs : List Field) (n : List ℕ → ℕ) → AllByRecursion (λ g. n g.name ≡ g.width) gs
      → AllByRecursion (λ g. fields_width (headers_root ∷ x ∷ []) ks (headers_root ∷ y ∷ g.name ∷ []) (n g.name) ≡ g.width) gs
  passed_all x y o ks [] n h = tt
  passed_all x y o ks (g ∷ gs) n h = (other_header x y g.name o ks (n g.name) ∙ h.0, passed_all x y o ks gs n h.1)

  first_headers : (fs : List (PTy × List ℕ)) → has_twice (field_names fs) ≡ false → AllByRecursion (FirstIn fs) fs
  first_headers [] h = tt
  first_headers (f ∷ fs) h =
      let two = neither (is_among (field_names fs) f.1) (has_twice (field_names fs)) h in (
        first_fields (headers_root ∷ f.1 ∷ []) (header_of ts f).fields (λ q. headers_width (map (header_of ts) fs) q 1) (header_apart f),
        all_two (λ k. same_text f.1 k.1 ≡ false) (FirstIn fs) (FirstIn (f ∷ fs)) fs
            (λ k o e. passed_all f.1 k.1 o (header_of ts f).fields (header_of ts k).fields (λ z. headers_width (map (header_of ts) fs) (headers_root ∷ k.1 ∷ z ∷ []) 1) e)
            (other_names f.1 fs two.0) (first_headers fs two.1),
      )

  abbrev f : Parts
  f = parts_of p

  abbrev header_list : List (PTy × List ℕ)
  header_list = struct_fields ts (parser_type (parser_in p) 1)

  abbrev meta_list : List (PTy × List ℕ)
  meta_list = struct_fields ts (parser_type (parser_in p) 2)

  with_sound : (above : List (List ℕ)) (W : List ℕ → ℕ) (fs : List (PTy × List ℕ)) → AllByRecursion (λ g. W g.name ≡ g.width) (map (field_of types) fs) → AllByRecursion (λ g. (W g.name ≡ g.width) × (sound_width g.width ≡ g.width)) (map (field_of types) fs)
  with_sound above W [] h = tt
  with_sound above W (g ∷ fs) h = ((h.0, sound_twice (width_of (type_under types g.0))), with_sound above W fs h.1)

  one_header : (k : PTy × List ℕ) → FirstIn header_list k → HaveWidths f (headers_root ∷ k.1 ∷ []) (header_of ts k).fields
  one_header k h =
      with_sound (headers_root ∷ k.1 ∷ []) (λ y. width_at f (headers_root ∷ k.1 ∷ y ∷ [])) (header_fields ts (type_name k.0)) (behind (header_of ts k).fields h)
    where
      behind : (gs : List Field) → AllByRecursion (λ g. headers_width (map (header_of ts) header_list) (headers_root ∷ k.1 ∷ g.name ∷ []) 1 ≡ g.width) gs → AllByRecursion (λ g. width_at f (headers_root ∷ k.1 ∷ g.name ∷ []) ≡ g.width) gs
      behind [] h = tt
      behind (g ∷ gs) h = (no_metadata k.1 g.name f.metadata (headers_width f.headers (headers_root ∷ k.1 ∷ g.name ∷ []) 1) ∙ h.0, behind gs h.1)

  all_headers : (fs : List (PTy × List ℕ)) → AllByRecursion (FirstIn header_list) fs → AllByRecursion (λ h. HaveWidths f h.path h.fields) (map (header_of ts) fs)
  all_headers [] h = tt
  all_headers (k ∷ fs) h = (one_header k h.0, all_headers fs h.1)

  -- so it is of each well-typed program
  pub fields_sound : HasSoundFields f
  fields_sound =
      record {
        metadata = with_sound (metadata_root ∷ []) (λ y. width_at f (metadata_root ∷ y ∷ [])) meta_list
            (first_fields (metadata_root ∷ []) f.metadata (λ q. headers_width f.headers q 1) (fields_apart types meta_list (once_in_structs p.main ts core (parser_type (parser_in p) 2) tops_fine)));
        headers = all_headers header_list (first_headers header_list (once_in_structs p.main ts core (parser_type (parser_in p) 1) tops_fine));
      }
