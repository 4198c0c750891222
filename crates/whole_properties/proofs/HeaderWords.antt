-- Header variables read what the view has at their places.
use Rattle.std.proofs.Common.{◌≡◌, ℕ, suc, ◌+◌, List, [], ◌∷◌, ◌++◌, Bool, true, false, cond, Option, Some, None, refl, sym, ap, ◌∙◌, arith}
use Rattle.std.specs.Prelude.{slice_get}
use Rattle.bit_values.specs.Bits.{Word}
use Rattle.lex_text.specs.Names.{same_text}
use Rattle.p4_meaning.specs.Store.{Store}
use Rattle.p4_meaning.specs.Value.{value_of}
use Rattle.indus_tree.specs.Tree.{Decl}
use Rattle.indus_tree.specs.State.{lookup, nothing_of}
use Rattle.indus_tree.specs.Reads.{or_word}
use Rattle.indus_tree.specs.Hops.{same_kind, seat_from, view_word, headers_in}
use Rattle.indus_tree.specs.declared.tree.DeclKind.{DeclKind}
use Rattle.indus_tree.specs.declared.tree.DeclKind.TheVariants.{Tele, Sensor, Header, Control}
use Rattle.switch_machines.specs.Programs.{view_of as view_now}
use Rattle.lowered_code.specs.Environment.{view_of}
use Rattle.whole_properties.specs.Whole.{view_in, views_in}

-- the words from a place on
abbrev Behind : ℕ → (all view : List Word) → Type 0
Behind n all view = (j : ℕ) → slice_get all (n + j) ≡ slice_get view j

more_behind : (n : ℕ) (all : List Word) (w : Word) (ws : List Word) → Behind n all (w ∷ ws) → Behind (n + 1) all ws
more_behind n all w ws h j = ap (slice_get all) (let e : n + 1 + j ≡ n + suc j = omega arith in e) ∙ h (suc j)

module _ (s : Store) (all : List Word) (x : List ℕ) (d : Decl) (header : d.kind ≡ Header) where
  -- the place of a header variable, where n words are of those before
  abbrev Reads : ℕ → List Decl → Type 0
  Reads n ds = Behind n all (view_now (views_in ds) s) → lookup ds x ≡ Some d → view_word all (seat_from n Header ds x) ≡ value_of (view_of d) 0 s

  step :
      (e : Decl) (ds : List Decl) (n : ℕ) → ((m : ℕ) → Reads m ds) → (k : DeclKind) → e.kind ≡ k → Behind n all (view_now (view_in k e ++ views_in ds) s) →
      (b : Bool) → cond b (Some e) (lookup ds x) ≡ Some d →
      view_word all (cond b (cond (same_kind Header k) (Some n) None) (seat_from (cond (same_kind Header k) (n + 1) n) Header ds x)) ≡ value_of (view_of d) 0 s
  step e ds n rest Header q h true is =
      let same : e ≡ d = cc in
      ap (λ (o : Option Word). or_word o (nothing_of 1)) (ap (slice_get all) (let z : n ≡ n + 0 = omega arith in z) ∙ h 0) ∙ ap (λ f. value_of (view_of f) 0 s) same
  step e ds n rest Header q h false is = rest (n + 1) (more_behind n all (value_of (view_of e) 0 s) (view_now (views_in ds) s) h) is
  step e ds n rest Tele q h true is = absurd (let same : e ≡ d = cc in let z : Tele ≡ Header = sym q ∙ ap (λ (f : Decl). f.kind) same ∙ header in cc)
  step e ds n rest Sensor q h true is = absurd (let same : e ≡ d = cc in let z : Sensor ≡ Header = sym q ∙ ap (λ (f : Decl). f.kind) same ∙ header in cc)
  step e ds n rest Control q h true is = absurd (let same : e ≡ d = cc in let z : Control ≡ Header = sym q ∙ ap (λ (f : Decl). f.kind) same ∙ header in cc)
  step e ds n rest Tele q h false is = rest n h is
  step e ds n rest Sensor q h false is = rest n h is
  step e ds n rest Control q h false is = rest n h is

  seat_reads : (ds : List Decl) (n : ℕ) → Reads n ds
  seat_reads [] n h is = absurd (cc)
  seat_reads (e ∷ ds) n h is = step e ds n (seat_reads ds) e.kind refl h (same_text e.name x) is

pub view_is :
    (ds : List Decl) (view : List Word) (s : Store) → view_now (views_in ds) s ≡ view → (x : List ℕ) (d : Decl) →
    lookup ds x ≡ Some d → d.kind ≡ Header → value_of (view_of d) 0 s ≡ headers_in ds view x
view_is ds view s e x d is k =
    sym (seat_reads s view x d k ds 0 (λ j. ap (slice_get view) (let z : 0 + j ≡ j = omega arith in z) ∙ ap (λ v. slice_get v j) (sym e)) is)
