-- What is read of parameters, registers and parsers rests on the lexemes up to the place where reading ends, and on no other.
use Rattle.std.proofs.Common.{◌≡◌, ℕ, ◌+◌, ◌-◌, ◌≤◌, Bool, cond, List, Option, Ok, ap, arith}
use Rattle.std.specs.Prelude.{slice_get, is_some}
use Rattle.lex_words.specs.declared.key.Key.{Key}
use Rattle.lex_words.specs.declared.key.Key.TheVariants as k
use Rattle.lex_words.specs.Seen.{Lexeme, at_key, name_in}
use Rattle.lex_words.specs.Reading.{Read, ◌>>=◌, expect_at}
use Rattle.lex_words.proofs.Locality.{Follows, Follows-bind, Follows-later, Follows-ok, Follows-test, Follows-expect, Follows-named, Follows-numbered}
use Rattle.p4_spelling.specs.Operators.{top}
use Rattle.p4_expressions.specs.Reading.{expr_at}
use Rattle.p4_expressions.proofs.Locality.{Follows-small, Follows-names, Follows-expr}
use Rattle.p4_reader.specs.Declaring.{type_at}
use Rattle.p4_reader.proofs.Locality.{Follows-type, Follows-assign}
use Rattle.p4_decls.specs.Declaring.{closed_width_at, closed_bits_at, closed_at, register_at, way_at, param_at, argument_at, field_at}
use Rattle.p4_decls.specs.Parsing.{closes_brace, ends_steps, taken_at, step_at, one_name_at, simple_at, masked_at, keyset_at, keys_at, case_at, select_at, to_at, transition_at, next_at, state_at, parser_at}
use Rattle.p4_decls.proofs.Repeats.{Follows-each, Follows-list}

-- Two readings, of the lexemes ws and vs, with turns n and m. Hs: both have the same bound on heights; Bs: on brackets.
module _ (ws vs : List Lexeme) (Hs Bs : Type 0) (n m : ℕ) (turns : n ≤ m) where
  abbrev F : {A : Type 0} → ℕ → Read A → Read A → Type 0
  F = Follows ws vs Hs Bs

  bind : {A B : Type 0} (i : ℕ) (r s : Read A) (f g : A × ℕ → Read B) → F i r s → ((x : A × ℕ) → F x.1 (f x) (g x)) → F i (r >>= f) (s >>= g)
  bind = Follows-bind ws vs Hs Bs

  give : {A : Type 0} (i : ℕ) (a : A) → F {A = A} i (Ok (a, i)) (Ok (a, i))
  give i a = Follows-ok ws vs Hs Bs i i a (omega arith)

  give_later : {A : Type 0} (i : ℕ) (a : A) → F {A = A} i (Ok (a, i + 1)) (Ok (a, i + 1))
  give_later i a = Follows-ok ws vs Hs Bs i (i + 1) a (omega arith)

  test : {A : Type 0} (i : ℕ) (t : Option Lexeme → Bool) (x y r s : Read A) → F i x r → F i y s → F i (cond (t (slice_get ws i)) x y) (cond (t (slice_get vs i)) r s)
  test = Follows-test ws vs Hs Bs

  later : {A : Type 0} (i : ℕ) (s r : Read A) → F (i + 1) s r → F i s r
  later = Follows-later ws vs Hs Bs

  expect : (x : Key) (i : ℕ) → F i (expect_at ws x i) (expect_at vs x i)
  expect = Follows-expect ws vs Hs Bs

  -- ---- registers, parameters and fields

  pub a_type : (i : ℕ) → F i (type_at ws n i) (type_at vs m i)
  a_type = Follows-type ws vs Hs Bs n m turns

  a_closed_width : (i : ℕ) → F i (closed_width_at ws n i) (closed_width_at vs m i)
  unfolding closed_width_at
  a_closed_width i =
      bind i _ _ _ _ (expect k.Less i) (λ a. bind a.1 _ _ _ _ (Follows-small ws vs Hs Bs n m turns a.1) (λ w. test w.1 (at_key k.ShiftRight) _ _ _ _ (give_later w.1 _)
      (bind w.1 _ _ _ _ (expect k.More w.1) (λ c. bind c.1 _ _ _ _ (expect k.More c.1) (λ d. give d.1 _)))))

  a_closed_bits : (i : ℕ) → F i (closed_bits_at ws n i) (closed_bits_at vs m i)
  unfolding closed_bits_at
  a_closed_bits i =
      bind i _ _ _ _ (expect k.Bit i) (λ a. test a.1 (at_key k.Less) _ _ _ _ (a_closed_width a.1) (bind a.1 _ _ _ _ (expect k.More a.1) (λ c. give c.1 _)))

  a_closed : (i : ℕ) → F i (closed_at ws n i) (closed_at vs m i)
  unfolding closed_at
  a_closed i = test i (at_key k.Bit) _ _ _ _ (a_closed_bits i) (bind i _ _ _ _ (a_type i) (λ t. bind t.1 _ _ _ _ (expect k.More t.1) (λ c. give c.1 _)))

  pub a_register : (i : ℕ) → F i (register_at ws n i) (register_at vs m i)
  unfolding register_at
  a_register i =
      bind i _ _ _ _ (expect k.Register i) (λ a. bind a.1 _ _ _ _ (expect k.Less a.1) (λ l. bind l.1 _ _ _ _ (a_closed l.1) (λ t. bind t.1 _ _ _ _ (expect k.Open t.1) (λ o.
      bind o.1 _ _ _ _ (Follows-numbered ws vs Hs Bs n m o.1) (λ v. bind v.1 _ _ _ _ (expect k.Close v.1) (λ c. bind c.1 _ _ _ _ (Follows-named ws vs Hs Bs n m c.1) (λ x.
      bind x.1 _ _ _ _ (expect k.Semicolon x.1) (λ s. give s.1 _))))))))

  a_way : (i : ℕ) → F i (way_at ws n i) (way_at vs m i)
  unfolding way_at
  a_way i = test i (at_key k.In) _ _ _ _ (give_later i _) (test i (at_key k.Out) _ _ _ _ (give_later i _) (test i (at_key k.Inout) _ _ _ _ (give_later i _) (give i _)))

  pub a_param : (i : ℕ) → F i (param_at ws n i) (param_at vs m i)
  unfolding param_at
  a_param i = bind i _ _ _ _ (a_way i) (λ w. bind w.1 _ _ _ _ (a_type w.1) (λ t. bind t.1 _ _ _ _ (Follows-named ws vs Hs Bs n m t.1) (λ x. give x.1 _)))

  pub an_argument : (i : ℕ) → F i (argument_at ws n i) (argument_at vs m i)
  unfolding argument_at
  an_argument i = bind i _ _ _ _ (a_type i) (λ t. bind t.1 _ _ _ _ (Follows-named ws vs Hs Bs n m t.1) (λ x. give x.1 _))

  pub a_field : (i : ℕ) → F i (field_at ws n i) (field_at vs m i)
  unfolding field_at
  a_field i = bind i _ _ _ _ (an_argument i) (λ t. bind t.1 _ _ _ _ (expect k.Semicolon t.1) (λ s. give s.1 _))

  -- b and c: how many brackets may be opened
  module _ (b c : ℕ) (be : b ≤ c) (bs : Bs → b ≡ c) where
    -- ---- parsers. h and j: how high the expressions may be

    module _ (h j : ℕ) (le : h ≤ j) (hs : Hs → h ≡ j) where
      pub an_expr : (i : ℕ) → F i (expr_at ws n h b top i) (expr_at vs m j c top i)
      an_expr = Follows-expr ws vs Hs Bs n m turns h j b c le hs be bs top

      -- with a bracket open
      pub an_inner : (i : ℕ) → F i (expr_at ws n h (b - 1) top i) (expr_at vs m j (c - 1) top i)
      an_inner = Follows-expr ws vs Hs Bs n m turns h j (b - 1) (c - 1) le hs (omega arith) (λ x. ap (λ y. y - 1) (bs x)) top

      a_taken : (p : ℕ) (xs : List (List ℕ)) (i : ℕ) → F i (taken_at ws n b h p xs i) (taken_at vs m c j p xs i)
      unfolding taken_at
      a_taken p xs i =
          bind i _ _ _ _ (expect k.Open i) (λ o. bind o.1 _ _ _ _ (Follows-names ws vs Hs Bs n m turns o.1) (λ ys. bind ys.1 _ _ _ _ (expect k.Close ys.1) (λ d. bind d.1 _ _ _ _ (expect k.Semicolon d.1) (λ s. give s.1 _))))

      a_step : (i : ℕ) → F i (step_at ws n b h i) (step_at vs m c j i)
      unfolding step_at
      a_step i =
          bind i _ _ _ _ (Follows-names ws vs Hs Bs n m turns i) (λ xs. test xs.1 (at_key k.Open) _ _ _ _ (a_taken i xs.0 xs.1) (Follows-assign ws vs Hs Bs n m turns b c be bs h j le hs i xs.0 xs.1))

      a_one_name : (i : ℕ) → F i (one_name_at ws n b h i) (one_name_at vs m c j i)
      unfolding one_name_at
      a_one_name i = bind i _ _ _ _ (Follows-named ws vs Hs Bs n m i) (λ x. give x.1 _)

      a_simple : (i : ℕ) → F i (simple_at ws n b h i) (simple_at vs m c j i)
      unfolding simple_at
      a_simple i =
          test i (at_key k.True) _ _ _ _ (give_later i _) (test i (at_key k.False) _ _ _ _ (give_later i _)
          (test i (λ o. is_some (name_in o)) _ _ _ _ (bind i _ _ _ _ (a_one_name i) (λ xs. give xs.1 _)) (bind i _ _ _ _ (Follows-numbered ws vs Hs Bs n m i) (λ v. give v.1 _))))

      a_masked : (i : ℕ) → F i (masked_at ws n b h i) (masked_at vs m c j i)
      unfolding masked_at
      a_masked i = bind i _ _ _ _ (a_simple i) (λ e. test e.1 (at_key k.Mask) _ _ _ _ (later e.1 _ _ (bind (e.1 + 1) _ _ _ _ (a_simple (e.1 + 1)) (λ v. give v.1 _))) (give e.1 _))

      a_keyset : (i : ℕ) → F i (keyset_at ws n b h i) (keyset_at vs m c j i)
      unfolding keyset_at
      a_keyset i = test i (at_key k.Default) _ _ _ _ (give_later i _) (test i (at_key k.LowLine) _ _ _ _ (give_later i _) (a_masked i))

      the_keys : (i : ℕ) → F i (keys_at ws n b h i) (keys_at vs m c j i)
      unfolding keys_at
      the_keys i =
          test i (at_key k.Open) _ _ _ _
          (later i _ _ (bind (i + 1) _ _ _ _ (Follows-list ws vs Hs Bs n m turns _ _ a_keyset (i + 1)) (λ ss. bind ss.1 _ _ _ _ (expect k.Close ss.1) (λ d. give d.1 _))))
          (bind i _ _ _ _ (a_keyset i) (λ s. give s.1 _))

      a_case : (i : ℕ) → F i (case_at ws n b h i) (case_at vs m c j i)
      unfolding case_at
      a_case i =
          bind i _ _ _ _ (the_keys i) (λ ss. bind ss.1 _ _ _ _ (expect k.Colon ss.1) (λ d. bind d.1 _ _ _ _ (Follows-named ws vs Hs Bs n m d.1) (λ x. bind x.1 _ _ _ _ (expect k.Semicolon x.1) (λ s. give s.1 _))))

      a_select : (p i : ℕ) → F i (select_at ws n b h p i) (select_at vs m c j p i)
      unfolding select_at
      a_select p i =
          bind i _ _ _ _ (expect k.Select i) (λ a. bind a.1 _ _ _ _ (expect k.Open a.1) (λ o. bind o.1 _ _ _ _ (Follows-list ws vs Hs Bs n m turns _ _ an_inner o.1) (λ es.
          bind es.1 _ _ _ _ (expect k.Close es.1) (λ d. bind d.1 _ _ _ _ (expect k.BraceOpen d.1) (λ e. bind e.1 _ _ _ _ (Follows-each ws vs Hs Bs n m turns _ _ a_case closes_brace e.1) (λ cs.
          bind cs.1 _ _ _ _ (expect k.BraceClose cs.1) (λ f. give f.1 _)))))))

      a_to : (p i : ℕ) → F i (to_at ws n b h p i) (to_at vs m c j p i)
      unfolding to_at
      a_to p i = bind i _ _ _ _ (Follows-named ws vs Hs Bs n m i) (λ x. bind x.1 _ _ _ _ (expect k.Semicolon x.1) (λ s. give s.1 _))

      a_transition : (i : ℕ) → F i (transition_at ws n b h i) (transition_at vs m c j i)
      unfolding transition_at
      a_transition i = bind i _ _ _ _ (expect k.Transition i) (λ a. test a.1 (at_key k.Select) _ _ _ _ (a_select i a.1) (a_to i a.1))

      a_next : (i : ℕ) → F i (next_at ws n b h i) (next_at vs m c j i)
      unfolding next_at
      a_next i = test i (at_key k.Transition) _ _ _ _ (a_transition i) (give i _)

      a_state : (i : ℕ) → F i (state_at ws n b h i) (state_at vs m c j i)
      unfolding state_at
      a_state i =
          bind i _ _ _ _ (expect k.State i) (λ a. bind a.1 _ _ _ _ (Follows-named ws vs Hs Bs n m a.1) (λ x. bind x.1 _ _ _ _ (expect k.BraceOpen x.1) (λ o.
          bind o.1 _ _ _ _ (Follows-each ws vs Hs Bs n m turns _ _ a_step ends_steps o.1) (λ ss. bind ss.1 _ _ _ _ (a_next ss.1) (λ t. bind t.1 _ _ _ _ (expect k.BraceClose t.1) (λ d. give d.1 _))))))

      pub a_parser : (i : ℕ) → F i (parser_at ws n b h i) (parser_at vs m c j i)
      unfolding parser_at
      a_parser i =
          bind i _ _ _ _ (expect k.Parser i) (λ a. bind a.1 _ _ _ _ (Follows-named ws vs Hs Bs n m a.1) (λ x. bind x.1 _ _ _ _ (expect k.Open x.1) (λ o.
          bind o.1 _ _ _ _ (Follows-list ws vs Hs Bs n m turns _ _ a_param o.1) (λ ps. bind ps.1 _ _ _ _ (expect k.Close ps.1) (λ d. bind d.1 _ _ _ _ (expect k.BraceOpen d.1) (λ e.
          bind e.1 _ _ _ _ (Follows-each ws vs Hs Bs n m turns _ _ a_state closes_brace e.1) (λ ss. bind ss.1 _ _ _ _ (expect k.BraceClose ss.1) (λ f. give f.1 _))))))))
