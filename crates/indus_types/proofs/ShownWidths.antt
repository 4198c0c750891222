-- A hop shows what is declared where its view and its contents have the declared widths, by induction on the declarations.
use Rattle.std.proofs.Common.{◌≡◌, ℕ, ◌+◌, ◌<◌, length, List, [], ◌∷◌, ◌++◌, Bool, true, false, cond, Option, Some, None, refl, sym, ap, ◌∙◌, subst, arith, append_assoc, length-append}
use Rattle.std.proofs.lemmas.Option.{slice_get-get_or}
use Rattle.std.proofs.lemmas.List.{get_or_at}
use Rattle.bit_values.specs.Bits.{Word}
use Rattle.lex_text.specs.Names.{same_text}
use Rattle.indus_tree.specs.Tree.{Decl}
use Rattle.indus_tree.specs.State.{Contents, lookup, shape_width, nothing_of}
use Rattle.indus_tree.specs.Reads.{or_word}
use Rattle.indus_tree.specs.Shapes.{HasWidth}
use Rattle.indus_tree.specs.Hops.{same_kind, seat_from, variable_number_from, view_word, contents_at}
use Rattle.indus_tree.specs.declared.tree.DeclKind.TheVariants.{Header, Control}
use Rattle.indus_types.specs.StaticWidths.{GiveWidth}
use Rattle.indus_types.specs.Views.{header_widths, HaveWidths, GiveDeclared, HoldDeclared, HopsShowDeclared}

-- the word behind a front
behind_front : (a : Word) (front ws : List Word) (n : ℕ) → n ≡ length front → view_word (front ++ a ∷ ws) (Some n) ≡ a
behind_front a front ws n l =
    let within : n < length (front ++ a ∷ ws) = omega (arith, length-append front (a ∷ ws), l) in
    ap (λ o. or_word o (nothing_of 1)) (slice_get-get_or (front ++ a ∷ ws) n a within) ∙ get_or_at front a ws a n (sym l)

module _ (x : List ℕ) (d : Decl) where
  -- ---- header variables

  -- with some words in front, which are those of the declarations before
  abbrev AreShown : List Decl → Type 0
  AreShown ds =
      (n : ℕ) (front ws : List Word) → n ≡ length front → HaveWidths (header_widths ds) ws → lookup ds x ≡ Some d → d.kind ≡ Header
      → HasWidth (shape_width d.shape) (view_word (front ++ ws) (seat_from n Header ds x))

  header_step :
      (v : Decl) (vs : List Decl) → AreShown vs → (h b : Bool) → same_kind Header v.kind ≡ h
      → (n : ℕ) (front ws : List Word) → n ≡ length front → HaveWidths (cond h (shape_width v.shape ∷ header_widths vs) (header_widths vs)) ws
      → cond b (Some v) (lookup vs x) ≡ Some d → d.kind ≡ Header
      → HasWidth (shape_width d.shape) (view_word (front ++ ws) (cond b (cond h (Some n) None) (seat_from (cond h (n + 1) n) Header vs x)))
  header_step v vs rest true b t n front [] l w e q = absurd w
  header_step v vs rest true true t n front (a ∷ ws) l w e q =
      let same : v ≡ d = cc in
      subst (HasWidth (shape_width d.shape)) (sym (behind_front a front ws n l)) (subst (λ (u : Decl). HasWidth (shape_width u.shape) a) same w.0)
  header_step v vs rest true false t n front (a ∷ ws) l w e q =
      subst (λ view. HasWidth (shape_width d.shape) (view_word view (seat_from (n + 1) Header vs x))) (append_assoc front (a ∷ []) ws)
      (rest (n + 1) (front ++ a ∷ []) ws (omega (arith, l, length-append front (a ∷ []))) w.1 e q)
  header_step v vs rest false true t n front ws l w e q =
      let same : v ≡ d = cc in
      absurd (let c : true ≡ false = sym (ap (same_kind Header) (ap (λ (u : Decl). u.kind) same ∙ q)) ∙ t in cc)
  header_step v vs rest false false t n front ws l w e q = rest n front ws l w e q

  header_shown : (ds : List Decl) → AreShown ds
  header_shown [] n front ws l w e q = absurd (let c : (let none : Option Decl = None in none) ≡ Some d = e in cc)
  header_shown (v ∷ vs) n front ws l w e q = header_step v vs (header_shown vs) (same_kind Header v.kind) (same_text v.name x) refl n front ws l w e q

  -- ---- control variables

  module _ (contents : ℕ → Contents) where
    contents_step :
        (v : Decl) (vs : List Decl) (n : ℕ) → (lookup vs x ≡ Some d → GiveWidth (shape_width d.shape) (contents_at contents (variable_number_from (n + 1) vs x)))
        → (b : Bool) → GiveDeclared v.kind (shape_width v.shape) (contents n) → cond b (Some v) (lookup vs x) ≡ Some d → d.kind ≡ Control
        → GiveWidth (shape_width d.shape) (contents_at contents (cond b (Some n) (variable_number_from (n + 1) vs x)))
    contents_step v vs n rest true here e q =
        let same : v ≡ d = cc in
        subst (λ k. GiveDeclared k (shape_width d.shape) (contents n)) q (subst (λ (u : Decl). GiveDeclared u.kind (shape_width u.shape) (contents n)) same here)
    contents_step v vs n rest false here e q = rest e

    contents_shown : (ds : List Decl) (n : ℕ) → HoldDeclared n ds contents → lookup ds x ≡ Some d → d.kind ≡ Control → GiveWidth (shape_width d.shape) (contents_at contents (variable_number_from n ds x))
    contents_shown [] n h e q = absurd (let c : (let none : Option Decl = None in none) ≡ Some d = e in cc)
    contents_shown (v ∷ vs) n h e q = contents_step v vs n (λ f. contents_shown vs (n + 1) h.1 f q) (same_text v.name x) h.0 e q

pub hops_show : HopsShowDeclared
hops_show ds view contents widths held switch first last =
    record {
      headers = λ x d e q. header_shown x d ds 0 [] view refl widths e q;
      contents = λ x d e q. contents_shown x d contents ds 0 held e q;
    }
