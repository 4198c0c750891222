-- Contents that are read for a shape fit it.
use Rattle.std.proofs.Common.{◌≡◌, ℕ, zero, suc, List, [], ◌∷◌, ◌++◌, length, false, ◌||◌, nat_lt, Some, Ok, refl, ap, ◌∙◌, subst, map-id, pow_pos}
use Rattle.std.specs.Prelude.{slice_get}
use Rattle.std.specs.List.{AllByRecursion, list_any}
use Rattle.std.proofs.lemmas.List.Elements.{All-from_recursion}
use Rattle.serde_json.specs.Data.{Data}
use Rattle.bit_values.specs.Bits.{Word}
use Rattle.bit_values.specs.Widths.{sound_width}
use Rattle.indus_tree.specs.Tree.{Shape, one, list, set, dict, Decl, Property}
use Rattle.indus_tree.specs.State.{Contents, single, members, pairs, width_of, nothing_of}
use Rattle.indus_tree.specs.Shapes.{HasWidth}
use Rattle.indus_tree.specs.declared.tree.DeclKind.{DeclKind}
use Rattle.indus_tree.specs.declared.tree.DeclKind.TheVariants.{Control}
use Rattle.indus_tree.specs.declared.tree.Ty.{Ty}
use Rattle.indus_rules.specs.Sites.{decl_sites}
use Rattle.indus_rules.specs.Rules.{Fine, bad_width, bad_widths, bad_shape, misshapen, ill_started, ill_headed}
use Rattle.indus_rules.specs.declared.rule.Rule.TheVariants.{KindDiffers, BadSize}
use Rattle.indus_types.proofs.Widths.{neither}
use Rattle.indus_types.proofs.Checked.{each_fine}
use Rattle.json_parts.specs.Answers.{◌>>=◌}
use Rattle.json_parts.specs.Paths.{item_below}
use Rattle.json_values.specs.Words.{word_at, list_at}
use Rattle.control_file.specs.Keys.{kind_of, numbers_of, same_numbers, key_at, fresh, new_key_at}
use Rattle.control_file.specs.Contents.{unset, set_key_at, keys_of, pair_from, new_entry_at, dict_entry_at, entries_of, contents_at}
use Rattle.control_maps.specs.Numbers.{HasTypes, AreUnequal}
use Rattle.read_contents.specs.Fits.{FitsShape}
use Rattle.read_contents.specs.Laws.{IsVariable, ContentsFit}
use Rattle.read_contents.proofs.Words.{read_then, ok_same, IsOf, of_type, word_fits}
use Rattle.read_contents.proofs.Keys.{key_fits, is_fresh, AreNew, read_new}

-- ---- shapes of control variables

-- a shape that a control variable of a well-typed property can have
pub record IsFine (s : Shape) : Type 0 where
  pub sized : bad_shape s ≡ false
  pub shaped : misshapen Control s ≡ false

fine_here : (before : List Decl) (d : Decl) (ds : List Decl) → Fine (decl_sites before (d ∷ ds)) → d.kind ≡ Control → IsFine d.shape
fine_here before d ds f k =
    record {
      sized = f.0.0 BadSize;
      shaped =
          subst (λ (c : DeclKind). misshapen c d.shape ≡ false) k
          (neither (misshapen d.kind d.shape) (ill_started d.kind d.start)
          (neither (misshapen d.kind d.shape || ill_started d.kind d.start) (ill_headed d.kind d.shape d.path d.valid) (f.0.0 KindDiffers)).0).0;
    }

fine_at : (before ds : List Decl) (v : ℕ) (d : Decl) → Fine (decl_sites before ds) → slice_get ds v ≡ Some d → d.kind ≡ Control → IsFine d.shape
fine_at before [] v d f e k = absurd (cc e)
fine_at before (c ∷ ds) zero d f e k =
    let same : c ≡ d = cc e in
    subst (λ (x : Decl). IsFine x.shape) same (fine_here before c ds f (ap (λ (x : Decl). x.kind) same ∙ k))
fine_at before (c ∷ ds) (suc v) d f e k = fine_at (before ++ c ∷ []) ds v d f.1 e k

pub fine_variable : (p : Property) (v : ℕ) (d : Decl) → IsVariable p v d → IsFine d.shape
fine_variable p v d is = fine_at [] p.decls v d (each_fine p is.typed).1.0 is.declared is.control

-- ---- keys and entries

module _ (path : List ℕ) (types : List Ty) (good : bad_widths types ≡ false) where
  new_key_is : (at : List ℕ) (before : List (List ℕ)) (d : Data) (key : List Word) → new_key_at at types before d ≡ Ok key
      → HasTypes types key × (list_any (same_numbers (numbers_of key)) before ≡ false)
  new_key_is at before d key e =
      read_then (key_at at types d) (λ k. fresh at before k >>= λ new. Ok k) key e
      (λ k is rest.
      read_then (fresh at before k) (λ new. Ok k) key rest
      (λ new free last.
      let same : k ≡ key = ok_same k key last in
      subst (λ (x : List Word). HasTypes types x × (list_any (same_numbers (numbers_of x)) before ≡ false)) same (key_fits at types d k good is, is_fresh at before k free)))

  keys_fit : (ds : List Data) (ks : List (List Word)) → keys_of path types ds ≡ Ok ks → AreNew (λ k. k) (HasTypes types) ks
  keys_fit ds ks e =
      read_new (λ k. k) (HasTypes types) (set_key_at path types)
      (λ number before d key is. new_key_is (item_below path number) before d key is) ds ks e

  -- a dict's entry
  abbrev IsEntry : Ty → List Word × Word → Type 0
  IsEntry t e = HasTypes types e.0 × IsOf t e.1

  new_entry_is : (type : Ty) → bad_width type ≡ false → (at : List ℕ) (before : List (List ℕ)) (d : Data) (e : List Word × Word) → new_entry_at at types type before d ≡ Ok e
      → IsEntry type e × (list_any (same_numbers (numbers_of e.0)) before ≡ false)
  new_entry_is type fine at before d e h =
      read_then (list_at at d) _ e h
      (λ ds listed h1. read_then (pair_from at ds) _ e h1
      (λ pair paired h2. read_then (key_at (item_below at 0) types pair.key) _ e h2
      (λ k is h3. read_then (fresh at before k) _ e h3
      (λ new free h4. read_then (word_at (item_below at 1) (kind_of type) pair.value) _ e h4
      (λ w read last.
      let same : (k, w) ≡ e = ok_same _ _ last in
      subst (λ (x : List Word × Word). IsEntry type x × (list_any (same_numbers (numbers_of x.0)) before ≡ false)) same
      ((key_fits (item_below at 0) types pair.key k good is, word_fits type (item_below at 1) pair.value w fine read), is_fresh at before k free))))))

  entries_fit : (type : Ty) → bad_width type ≡ false → (ds : List Data) (es : List (List Word × Word)) → entries_of path types type ds ≡ Ok es → AreNew (λ e. e.0) (IsEntry type) es
  entries_fit type fine ds es e =
      read_new (λ e. e.0) (IsEntry type) (dict_entry_at path types type)
      (λ number before d x is. new_entry_is type fine (item_below path number) before d x is) ds es e

all_mapped : {A : Type 0} (P Q : A → Type 0) → ((x : A) → P x → Q x) → (xs : List A) → AllByRecursion P xs → AllByRecursion Q xs
all_mapped P Q f [] h = tt
all_mapped P Q f (x ∷ xs) h = (f x h.0, all_mapped P Q f xs h.1)

-- ---- contents

single_fits : (t : Ty) (w : Word) → IsOf t w → FitsShape (one t) (single w)
single_fits t w is = record { shape = record { shape = is.width; keys = tt }; values = is.value }

members_fit : (types : List Ty) (ks : List (List Word)) → AreNew (λ k. k) (HasTypes types) ks → FitsShape (set types) (members ks)
members_fit types ks new = record { shape = record { shape = new.each; keys = subst AreUnequal (map-id ks) new.keys }; values = tt }

pairs_fit : (types : List Ty) (t : Ty) (es : List (List Word × Word)) → AreNew (λ e. e.0) (λ e. HasTypes types e.0 × IsOf t e.1) es → FitsShape (dict types t) (pairs es)
pairs_fit types t es new =
    record {
      shape = record {
        shape = all_mapped (λ e. HasTypes types e.0 × IsOf t e.1) (λ e. HasTypes types e.0 × (e.1.width ≡ width_of t)) (λ e h. (h.0, h.1.width)) es new.each;
        keys = new.keys;
      };
      values = All-from_recursion (λ (e : List Word × Word). HasWidth (width_of t) e.1) es
          (all_mapped (λ e. HasTypes types e.0 × IsOf t e.1) (λ e. HasWidth (width_of t) e.1) (λ e h. h.1.value) es new.each);
    }

pub shape_fits : (s : Shape) (path : List ℕ) (d : Data) (c : Contents) → IsFine s → contents_at path s d ≡ Ok c → FitsShape s c
unfolding contents_at
shape_fits (one t) path d c fine e =
    read_then (word_at path (kind_of t) d) (λ w. Ok (single w)) c e
    (λ w is last. subst (FitsShape (one t)) (ok_same _ _ last) (single_fits t w (word_fits t path d w fine.sized is)))
shape_fits (list t n) path d c fine e = absurd (cc e)
shape_fits (set types) path d c fine e =
    read_then (list_at path d) (λ ds. keys_of path types ds >>= λ ks. Ok (members ks)) c e
    (λ ds listed rest. read_then (keys_of path types ds) (λ ks. Ok (members ks)) c rest
    (λ ks is last.
    subst (FitsShape (set types)) (ok_same _ _ last)
    (members_fit types ks (keys_fit path types (neither (bad_widths types) (nat_lt 4 (length types)) fine.sized).0 ds ks is))))
shape_fits (dict types t) path d c fine e =
    read_then (list_at path d) (λ ds. entries_of path types t ds >>= λ es. Ok (pairs es)) c e
    (λ ds listed rest. read_then (entries_of path types t ds) (λ es. Ok (pairs es)) c rest
    (λ es is last.
    let sized = neither (bad_widths types || nat_lt 4 (length types)) (bad_width t) fine.sized in
    subst (FitsShape (dict types t)) (ok_same _ _ last)
    (pairs_fit types t es (entries_fit path types (neither (bad_widths types) (nat_lt 4 (length types)) sized.0).0 t sized.1 ds es is))))

nothing_is : (t : Ty) → HasWidth (width_of t) (nothing_of (width_of t))
nothing_is t = record { width = refl; in_range = pow_pos (sound_width (width_of t)) }

pub unset_fits : (s : Shape) → IsFine s → FitsShape s (unset s)
unset_fits (one t) fine = single_fits t (nothing_of (width_of t)) (of_type t (nothing_of (width_of t)) fine.sized (nothing_is t))
unset_fits (list t n) fine = absurd (cc fine.shaped)
unset_fits (set types) fine = members_fit types [] (record { each = tt; keys = tt })
unset_fits (dict types t) fine = pairs_fit types t [] (record { each = tt; keys = tt })

pub contents_fit : ContentsFit
contents_fit =
    record {
      unset = λ p v d is. unset_fits d.shape (fine_variable p v d is);
      read = λ p v d is path value c e. shape_fits d.shape path value c (fine_variable p v d is) e;
    }
