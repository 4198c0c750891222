-- The words of constants by a table are those of the scope.
use Rattle.std.proofs.Common.{◌≡◌, ℕ, ◌+◌, ◌<◌, take, length, get_or, Bool, true, false, cond, List, [], ◌∷◌, ◌++◌, map, Option, Some, None, String, Global, string_bytes, refl, sym, ap, ◌∙◌}
use Rattle.std.specs.Str.{bytes_eq}
use Rattle.indexmap.specs.IndexMap.{insert_entry}
use Rattle.bit_values.specs.Bits.{Word, word}
use Rattle.bit_values.specs.Widths.{sound_width, cast_word}
use Rattle.lex_text.specs.Names.{same_text}
use Rattle.p4_tree.specs.Tree.{Expr, Top}
use Rattle.p4_tree.specs.View.{top_of}
use Rattle.p4_tree.specs.declared.program.Top as code
use Rattle.p4_tree.specs.declared.statement.PTy.{PTy}
use Rattle.p4_tree.specs.declared.statement.PTy.TheVariants as type
use Rattle.p4_meaning.specs.Store.{blank, read}
use Rattle.p4_meaning.specs.Value.{value_of, width_of}
use Rattle.p4_meaning.specs.Scope.{Scope, constant_named, constant_or, is_inner, Inner, type_under, type_named, seen}
use Rattle.p4_meaning.specs.Under.{expr_under, with_constant, with_type, no_scope, behind_top, behind_tops}
use Rattle.p4_meaning.specs.Laws.{AreWords}
use Rattle.p4_meaning.proofs.Seen.{value_seen}
use Rattle.p4_types.specs.Kept.{at_name}
use Rattle.p4_types.specs.Words.{constants_store, or_none, width_in, IsBehind}
use Rattle.p4_types.specs.declared.constants.Known.{Known}
use Rattle.p4_types.proofs.Alike.{each_read, value_alike}
use Rattle.p4_resolved.proofs.Rows.{same_keys, set_entry, flip}
use Rattle.p4_types.proofs.Numbered.{map_more}

-- the bits of a type's values
type_width : (k : Known) (sc : Scope) → IsBehind k sc → (t : PTy) → width_in k.widths.entries t ≡ width_of (type_under sc.types t)
type_width k sc so (type.Bit w) = refl
type_width k sc so type.Bool = refl
type_width k sc so (type.Named x) = so.widths x

module _ (k : Known) (sc : Scope) (words : AreWords sc) (so : IsBehind k sc) where
  no_inner : (i : Option Inner) → i ≡ None → (x : List ℕ) → is_inner i x ≡ false
  no_inner i e x = ap (λ (j : Option Inner). is_inner j x) e

  reads : (p : List (List ℕ)) → read (constants_store k.constants) p ≡ read (seen sc blank) p
  reads [] = refl
  reads (x ∷ []) =
      ap (λ o. constant_or o (word 1 0)) (so.words x)
      ∙ sym (ap (λ (b : Bool). constant_or (cond b None (constant_named sc.constants x)) (word 1 0)) (no_inner sc.inner so.outside x))
  reads (x ∷ y ∷ rest) = refl

  -- a constant's word
  start_is : (t : PTy) (e : Expr) (width : ℕ) (w : Word) → width ≡ width_in k.widths.entries t → w ≡ cast_word (sound_width width) (value_of e width (constants_store k.constants))
      → w ≡ cast_word (sound_width (width_of (type_under sc.types t))) (value_of (expr_under sc e) (width_of (type_under sc.types t)) blank)
  start_is t e width w wide is =
      let v = width_of (type_under sc.types t) in
      let same : width ≡ v = wide ∙ type_width k sc so t in
      is ∙ ap (λ (n : ℕ). cast_word (sound_width n) (value_of e n (constants_store k.constants))) same
      ∙ ap (cast_word (sound_width v)) (value_alike (constants_store k.constants) (seen sc blank) e v (each_read _ _ reads (λ q. refl) e) ∙ sym (value_seen sc blank words refl e v))

  -- behind a constant
  pub constant_behind : (m : Known) (t : PTy) (name : List ℕ) (e : Expr) (key : String Global) (width : ℕ) (w : Word)
      → string_bytes key ≡ name → width ≡ width_in k.widths.entries t → w ≡ cast_word (sound_width width) (value_of e width (constants_store k.constants))
      → m.constants.words.entries ≡ insert_entry same_keys k.constants.words.entries key w → m.widths.entries ≡ k.widths.entries
      → IsBehind m (with_constant sc t name e)
  constant_behind m t name e key width w named wide is entries types = record {
    words = λ x. ap (λ es. at_name es x) entries ∙ set_entry k.constants.words.entries key w x
        ∙ ap (λ (z : List ℕ). cond (bytes_eq x z) (Some w) (at_name k.constants.words.entries x)) named
        ∙ ap (λ (b : Bool). cond b (Some w) (at_name k.constants.words.entries x)) (flip x name)
        ∙ ap (λ (o : Option Word). cond (same_text name x) (Some w) o) (so.words x)
        ∙ ap (λ (u : Word). cond (same_text name x) (Some u) (constant_named sc.constants x)) (start_is t e width w wide is);
    widths = λ x. ap (λ es. or_none (at_name es x)) types ∙ so.widths x;
    outside = so.outside;
  }

module _ (k : Known) (sc : Scope) (so : IsBehind k sc) where
  -- behind another name of a type
  pub type_behind : (m : Known) (t : PTy) (name : List ℕ) (key : String Global) (width : ℕ)
      → string_bytes key ≡ name → width ≡ width_in k.widths.entries t
      → m.widths.entries ≡ insert_entry same_keys k.widths.entries key width → m.constants.words.entries ≡ k.constants.words.entries
      → IsBehind m (with_type sc t name)
  type_behind m t name key width named wide entries same = record {
    words = λ x. ap (λ es. at_name es x) same ∙ so.words x;
    widths = λ x. ap (λ es. or_none (at_name es x)) entries ∙ ap or_none (set_entry k.widths.entries key width x)
        ∙ ap (λ (z : List ℕ). or_none (cond (bytes_eq x z) (Some width) (at_name k.widths.entries x))) named
        ∙ ap (λ (b : Bool). or_none (cond b (Some width) (at_name k.widths.entries x))) (flip x name)
        ∙ wide_at x (same_text name x);
    outside = so.outside;
  }
    where
      wide_at : (x : List ℕ) (b : Bool) → or_none (cond b (Some width) (at_name k.widths.entries x)) ≡ width_of (cond b (type_under sc.types t) (type_named sc.types x))
      wide_at x true = wide ∙ type_width k sc so t
      wide_at x false = so.widths x

-- one declaration more
pub behind_push : (sc : Scope) (ts : List Top) (t : Top) → behind_tops sc (ts ++ t ∷ []) ≡ behind_top (behind_tops sc ts) t
behind_push sc [] t = refl
behind_push sc (u ∷ ts) t = behind_push (behind_top sc u) ts t

-- a program's declarations, one by one
pub behind_next : (tops : List code.Top) (i : ℕ) (t : code.Top) → i < length tops → t ≡ get_or tops i t
    → behind_top (behind_tops no_scope (map top_of (take i tops))) (top_of t) ≡ behind_tops no_scope (map top_of (take (i + 1) tops))
behind_next tops i t lt is =
    sym (behind_push no_scope (map top_of (take i tops)) (top_of t)) ∙ ap (behind_tops no_scope) (sym (map_more top_of tops i t lt is))
