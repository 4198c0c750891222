-- What is seen of a store that fits shows what the scope says; so the values of a run have their static widths.
use Rattle.std.proofs.Common.{◌≡◌, ℕ, ◌≤◌, List, [], ◌∷◌, Bool, true, false, Option, Some, None, refl, sym, ◌∙◌, subst, arith}
use Rattle.bit_values.specs.Bits.{Word}
use Rattle.rule_tests.specs.Tests.{IsFine}
use Rattle.lex_text.specs.Names.{parent}
use Rattle.p4_tree.specs.Tree.{Expr, Local, local_action, local_table, local_register, local_const, local_var, Top, constant, typedef, header_type, struct_type, register, parser, control, Program}
use Rattle.p4_meaning.specs.Store.{Store, shown}
use Rattle.p4_meaning.specs.Scope as meaning
use Rattle.p4_meaning.specs.Scope.{constant_at, constant_or, path_under, seen}
use Rattle.p4_meaning.specs.Under.{no_scope, behind_top, behind_local}
use Rattle.p4_meaning.specs.Parts.{Parts}
use Rattle.p4_meaning.specs.Laws.{AreWords, ConstantsAreWords, IsOf, ValueIsSeen, WidthIsSeen}
use Rattle.p4_scopes.specs.Scopes.{Stands, missing, typed, held, cells, act, rows, state, function, algorithm, other, is_missing, thing_kind, value_kind, Scope, core}
use Rattle.p4_scopes.specs.Uses.{reads}
use Rattle.p4_scopes.specs.declared.kind.Kind.{Kind}
use Rattle.p4_scopes.specs.declared.thing.Access.TheVariants.{Writable, Fixed, Constant}
use Rattle.p4_declaration_rules.specs.Controls.{after_local, after_top}
use Rattle.p4_statement_rules.specs.Expressions.{expr_tests}
use Rattle.p4_typing_laws.specs.Soundness.{kind_width}
use Rattle.p4_typing_laws.specs.Widths.{static_width, Shows}
use Rattle.p4_typing_laws.specs.Tied.{ConstantIs, HasIt, IsTied, LocalsPlaces, TopsPlaces, EachPlace}
use Rattle.p4_typing_laws.specs.Stores.{Fits, RunsAtWidth}
use Rattle.p4_typing_laws.proofs.ValueWidths.{fine_has_static}

broken : {A : Type 0} → true ≡ false → A
broken h = absurd (cc)

-- a field of an invalid header reads 0, which is a word of the same width
shown_is : (o : Option Bool) (n : ℕ) (w : Word) → IsOf n w → IsOf n (shown o w)
shown_is None n w h = h
shown_is (Some true) n w h = h
shown_is (Some false) n w h = record { word = record { wide = h.word.wide; narrow = h.word.narrow; in_range = omega (arith, h.word.in_range) }; width = h.width }

-- a name that is read and has a constant has a word of its kind
constant_is : (p : Parts) (sc : meaning.Scope) (x : List ℕ) (w : Word) (st : Stands) → constant_at sc (x ∷ []) ≡ Some w → is_missing st ≡ false → reads st ≡ true → HasIt p sc x st → IsOf (kind_width (value_kind st)) w
constant_is p sc x w missing e h k i = broken h
constant_is p sc x w (typed f t) e h k i = broken (sym k)
constant_is p sc x w (held Writable t) e h k i = (let d : Some w ≡ None = sym e ∙ i in absurd (cc))
constant_is p sc x w (held Fixed t) e h k i = (let d : Some w ≡ None = sym e ∙ i in absurd (cc))
constant_is p sc x w (held Constant t) e h k i = subst (λ (o : Option Word). ConstantIs (thing_kind t) o) e i
constant_is p sc x w (cells c) e h k i = broken (sym k)
constant_is p sc x w (act ks m) e h k i = broken (sym k)
constant_is p sc x w (rows m) e h k i = broken (sym k)
constant_is p sc x w state e h k i = broken (sym k)
constant_is p sc x w (function f) e h k i = broken (sym k)
constant_is p sc x w algorithm e h k i = broken (sym k)
constant_is p sc x w other e h k i = broken (sym k)

module _ (p : Parts) (s : Scope) (sc : meaning.Scope) (tied : IsTied p s sc) (st : Store) (fits : Fits s sc st) where
  -- what is seen of a path, where it has this constant or none
  by : (x : List (List ℕ)) → is_missing (s x) ≡ false → reads (s x) ≡ true → (o : Option Word) → constant_at sc x ≡ o → IsOf (kind_width (value_kind (s x))) (shown (st.headers (path_under sc (parent x))) (constant_or o (st.values (path_under sc x))))
  by x h k None e = shown_is (st.headers (path_under sc (parent x))) _ _ (fits.values x h k e)
  by [] h k (Some w) e = (let d : (let n : Option Word = None in n) ≡ Some w = e in absurd (cc))
  by (y ∷ []) h k (Some w) e = subst (λ (o : Option Bool). IsOf (kind_width (value_kind (s (y ∷ [])))) (shown o w)) (sym fits.headers) (constant_is p sc y w (s (y ∷ [])) e h k (tied.names y))
  by (y ∷ z ∷ rest) h k (Some w) e = (let d : (let n : Option Word = None in n) ≡ Some w = e in absurd (cc))

  pub fits_show : Shows s (seen sc st)
  fits_show = record { values = λ x h k. by x h k (constant_at sc x) refl }

  pub runs_at : ValueIsSeen → WidthIsSeen → AreWords sc → (want : Kind) → kind_width want ≤ 128 → (e : Expr) → IsFine (expr_tests s want e) → RunsAtWidth s sc st want e
  runs_at seen_value seen_width words want m e f =
      record {
        value = λ w serves. subst (λ (v : Word). IsOf (static_width s want e) v) (sym (seen_value sc e w st words fits.headers)) ((fine_has_static s want m e f).served (seen sc st) fits_show w serves);
        width = seen_width sc e st words fits.headers ∙ (fine_has_static s want m e f).found (seen sc st) fits_show;
      }

-- ---- constants are words at each place

-- a scope of words, and one declaration more
abbrev Words : Scope → meaning.Scope → Type 0
Words s sc = AreWords sc

module _ (constants : ConstantsAreWords) where
  locals_words : (ls : List Local) (s : Scope) (sc : meaning.Scope) → AreWords sc → LocalsPlaces Words s sc ls
  locals_words [] s sc w = w
  locals_words (local_action p a ∷ ls) s sc w = ((w, w), locals_words ls (after_local s (local_action p a)) sc w)
  locals_words (local_table p t ∷ ls) s sc w = (w, locals_words ls (after_local s (local_table p t)) sc w)
  locals_words (local_register p r ∷ ls) s sc w = (w, locals_words ls (after_local s (local_register p r)) sc w)
  locals_words (local_const p t x e ∷ ls) s sc w = (w, locals_words ls (after_local s (local_const p t x e)) (behind_local sc (local_const p t x e)) (constants sc w [] (local_const p t x e ∷ [])))
  locals_words (local_var p t x e ∷ ls) s sc w = (w, locals_words ls (after_local s (local_var p t x e)) sc w)

  tops_words : (ts : List Top) (s : Scope) (sc : meaning.Scope) → AreWords sc → TopsPlaces Words s sc ts
  tops_words [] s sc w = w
  tops_words (constant p t x e ∷ ts) s sc w = (w, tops_words ts (after_top s (constant p t x e)) (behind_top sc (constant p t x e)) (constants sc w (constant p t x e ∷ []) []))
  tops_words (typedef p t x ∷ ts) s sc w = (w, tops_words ts (after_top s (typedef p t x)) (behind_top sc (typedef p t x)) w)
  tops_words (header_type p x fs ∷ ts) s sc w = (w, tops_words ts (after_top s (header_type p x fs)) sc w)
  tops_words (struct_type p x fs ∷ ts) s sc w = (w, tops_words ts (after_top s (struct_type p x fs)) sc w)
  tops_words (register p r ∷ ts) s sc w = (w, tops_words ts (after_top s (register p r)) sc w)
  tops_words (parser p d ∷ ts) s sc w = ((w, w), tops_words ts (after_top s (parser p d)) sc w)
  tops_words (control p c ∷ ts) s sc w = ((w, λ h m n. locals_words c.locals _ _ w), tops_words ts (after_top s (control p c)) sc w)

  pub each_words : (p : Program) → EachPlace Words p
  each_words p = tops_words p.tops core no_scope tt
