-- What is read rests on the lexemes up to the place where reading ends, and on no other.
use Rattle.std.proofs.Common.{◌≡◌, ℕ, zero, suc, ◌+◌, ◌≤◌, Bool, true, false, cond, List, Option, Some, None, Ok, Err, refl, sym, ap, subst, ◌∙◌, arith, inl, inr}
use Rattle.std.proofs.lemmas.Bool.{eqb-true, cases_lt}
use Rattle.std.proofs.Math.Nat.{suc_inj}
use Rattle.std.specs.Prelude.{slice_get, is_some, ◌==◌}
use Rattle.lex_text.specs.declared.literal.Literal.{Literal}
use Rattle.lex_words.specs.declared.key.Key.TheVariants.{True, False, Bit, In, Length, Not, Tilde, Open, Close, SquareOpen, SquareClose, Less, More, Comma}
use Rattle.lex_words.specs.Seen.{Lexeme, key, name_in, number_in, at_key}
use Rattle.lex_words.specs.Reading.{wrong, Read, ◌>>=◌, look, expect_at, room_at}
use Rattle.lex_words.proofs.KeyCodes.{at_key-is}
use Rattle.lex_words.proofs.Joins as joins
use Rattle.lex_words.proofs.Locality.{Agree, Follows, Follows-from, Follows-bind, Follows-later, Follows-cond, Follows-wrong, Follows-spent, Follows-ok, Follows-look, Follows-expect, Follows-more, Follows-named, Follows-numbered, Follows-room, Follows-open}
use Rattle.indus_tree.specs.Tree.{Expr, read}
use Rattle.indus_tree.specs.Height.{expr_height}
use Rattle.indus_spelling.specs.Operators.{top, join_at}
use Rattle.indus_spelling.specs.declared.operator.Join.{Join}
use Rattle.indus_spelling.specs.declared.operator.Join.TheVariants.{Binary, Member}
use Rattle.indus_expressions.specs.Reading.{Reader, is_size, sized, sized_at, rest_of, all_of, flag_at, numeral_at, index_at, variable_at, count_at, negation_at, inversion_at, cast_at, bracket_at, opened_at, leaf_at, operand_at, right_at, chain, climb, listed_at, tuple_at, head_at, layer, idle, expr_at, inside_of, below_of, under_of}
use Rattle.indus_expressions.proofs.Layers.{expr_at-layer}
use Rattle.indus_expressions.proofs.Heads.{Opened, Grouped, Headed, Head, head_other, head_high, head_deep, head_open}

-- Two readings, of the lexemes ws and vs. Hs: both have the same bound on heights; Bs: on brackets.
module _ (ws vs : List Lexeme) (Hs Bs : Type 0) where
  -- ---- sizes

  pub Follows-sized : (n m i : ℕ) → Follows ws vs Hs Bs i (sized_at ws n i) (sized_at vs m i)
  unfolding sized_at look
  Follows-sized n m i = Follows-look ws vs Hs Bs i (λ o. sized i (number_in o)) (λ o. sized i (number_in o)) (λ o. go (number_in o))
    where
      go : (o : Option Literal) → Follows ws vs Hs Bs i (sized i o) (sized i o)
      go None = Follows-wrong ws vs Hs Bs i
      go (Some v) = Follows-cond ws vs Hs Bs i (is_size v) _ _ _ _ (Follows-ok ws vs Hs Bs i (i + 1) v.value (omega arith)) (Follows-wrong ws vs Hs Bs i)

  along : {A : Type 0} (i : ℕ) (r s t : Read A) → r ≡ s → Follows ws vs Hs Bs i s t → Follows ws vs Hs Bs i r t
  along i r s t e f = subst (λ x. Follows ws vs Hs Bs i x t) (sym e) f

  -- n and m: turns of the first and the second
  module _ (n m : ℕ) (turns : n ≤ m) where
    abbrev pub FollowsR : Reader → Reader → Type 0
    FollowsR f g = (l i : ℕ) → Follows ws vs Hs Bs i (f l i) (g l i)

    -- ---- the parts of an expression, given what is one node lower

    module _ (below below' : Reader) (lower : FollowsR below below') where
      pub Follows-rest : (a : Expr) (i : ℕ) → Follows ws vs Hs Bs i (rest_of ws n below a i) (rest_of vs m below' a i)
      unfolding rest_of
      Follows-rest a i =
          Follows-bind ws vs Hs Bs i _ _ _ _ (Follows-more ws vs Hs Bs (below top) (below' top) (lower top) Comma n m i turns) (λ y. Follows-ok ws vs Hs Bs y.1 y.1 _ (omega arith))

      pub Follows-items : (i : ℕ) → Follows ws vs Hs Bs i (all_of ws n below i) (all_of vs m below' i)
      unfolding all_of
      Follows-items i = Follows-bind ws vs Hs Bs i _ _ _ _ (lower top i) (λ x. Follows-rest x.0 x.1)

      Follows-index : (p : ℕ) (s : List ℕ) (i : ℕ) → Follows ws vs Hs Bs i (index_at ws n below p s i) (index_at vs m below' p s i)
      unfolding index_at
      Follows-index p s i =
          Follows-bind ws vs Hs Bs i _ _ _ _ (Follows-expect ws vs Hs Bs SquareOpen i) (λ q. Follows-bind ws vs Hs Bs q.1 _ _ _ _ (Follows-items q.1) (λ x.
          Follows-bind ws vs Hs Bs x.1 _ _ _ _ (Follows-expect ws vs Hs Bs SquareClose x.1) (λ r. Follows-ok ws vs Hs Bs r.1 r.1 _ (omega arith))))

      Follows-negation : (i : ℕ) → Follows ws vs Hs Bs i (negation_at ws n below i) (negation_at vs m below' i)
      unfolding negation_at
      Follows-negation i =
          Follows-bind ws vs Hs Bs i _ _ _ _ (Follows-expect ws vs Hs Bs Not i) (λ a. Follows-bind ws vs Hs Bs a.1 _ _ _ _ (lower 0 a.1) (λ x. Follows-ok ws vs Hs Bs x.1 x.1 _ (omega arith)))

      Follows-inversion : (i : ℕ) → Follows ws vs Hs Bs i (inversion_at ws n below i) (inversion_at vs m below' i)
      unfolding inversion_at
      Follows-inversion i =
          Follows-bind ws vs Hs Bs i _ _ _ _ (Follows-expect ws vs Hs Bs Tilde i) (λ a. Follows-bind ws vs Hs Bs a.1 _ _ _ _ (lower 0 a.1) (λ x. Follows-ok ws vs Hs Bs x.1 x.1 _ (omega arith)))

      Follows-cast : (p i : ℕ) → Follows ws vs Hs Bs i (cast_at ws n below p i) (cast_at vs m below' p i)
      unfolding cast_at
      Follows-cast p i =
          Follows-bind ws vs Hs Bs i _ _ _ _ (Follows-expect ws vs Hs Bs Bit i) (λ c. Follows-bind ws vs Hs Bs c.1 _ _ _ _ (Follows-expect ws vs Hs Bs Less c.1) (λ d.
          Follows-bind ws vs Hs Bs d.1 _ _ _ _ (Follows-sized n m d.1) (λ w. Follows-bind ws vs Hs Bs w.1 _ _ _ _ (Follows-expect ws vs Hs Bs More w.1) (λ e.
          Follows-bind ws vs Hs Bs e.1 _ _ _ _ (Follows-expect ws vs Hs Bs Close e.1) (λ f. Follows-bind ws vs Hs Bs f.1 _ _ _ _ (lower 0 f.1) (λ x. Follows-ok ws vs Hs Bs x.1 x.1 _ (omega arith)))))))

      Follows-right : (l p : ℕ) (a : Expr) (x : Join) (i : ℕ) → Follows ws vs Hs Bs i (right_at ws n below l p a x i) (right_at vs m below' l p a x i)
      unfolding right_at
      Follows-right l p a (Binary op) i = Follows-bind ws vs Hs Bs i _ _ _ _ (lower l i) (λ x. Follows-ok ws vs Hs Bs x.1 x.1 _ (omega arith))
      Follows-right l p a Member i = Follows-bind ws vs Hs Bs i _ _ _ _ (Follows-named ws vs Hs Bs n m i) (λ s. Follows-ok ws vs Hs Bs s.1 s.1 _ (omega arith))

      Follows-listed : (p : ℕ) (a : Expr) (i : ℕ) → Follows ws vs Hs Bs i (listed_at ws n below p a i) (listed_at vs m below' p a i)
      unfolding listed_at
      Follows-listed p a i =
          Follows-bind ws vs Hs Bs i _ _ _ _ (Follows-rest a i) (λ y. Follows-bind ws vs Hs Bs y.1 _ _ _ _ (Follows-expect ws vs Hs Bs Close y.1) (λ r.
          Follows-bind ws vs Hs Bs r.1 _ _ _ _ (Follows-expect ws vs Hs Bs In r.1) (λ q. Follows-bind ws vs Hs Bs q.1 _ _ _ _ (Follows-named ws vs Hs Bs n m q.1) (λ s. Follows-ok ws vs Hs Bs s.1 s.1 _ (omega arith)))))

      -- ---- with a bound on heights

      module _ (h j : ℕ) (le : h ≤ j) (hs : Hs → h ≡ j) where
        Follows-roomed : (k i : ℕ) (f g : ℕ → Read Expr) → ((q : ℕ) → Follows ws vs Hs Bs q (f q) (g q)) → Follows ws vs Hs Bs i (room_at k h i >>= λ z. f z.1) (room_at k j i >>= λ z. g z.1)
        Follows-roomed k i f g e = Follows-bind ws vs Hs Bs i _ _ _ _ (Follows-room ws vs Hs Bs k h j i le hs) (λ z. e z.1)

        Follows-flag : (v : Bool) (i : ℕ) → Follows ws vs Hs Bs i (flag_at ws n v h i) (flag_at vs m v j i)
        unfolding flag_at
        Follows-flag v i = Follows-bind ws vs Hs Bs i _ _ _ _ (Follows-room ws vs Hs Bs 1 h j i le hs) (λ z. Follows-ok ws vs Hs Bs z.1 (z.1 + 1) _ (omega arith))

        Follows-numeral : (i : ℕ) → Follows ws vs Hs Bs i (numeral_at ws n h i) (numeral_at vs m j i)
        unfolding numeral_at
        Follows-numeral i = Follows-bind ws vs Hs Bs i _ _ _ _ (Follows-numbered ws vs Hs Bs n m i) (λ v. Follows-ok ws vs Hs Bs v.1 v.1 _ (omega arith))

        Follows-variable : (i : ℕ) → Follows ws vs Hs Bs i (variable_at ws n below h i) (variable_at vs m below' j i)
        unfolding variable_at look
        Follows-variable i =
            Follows-bind ws vs Hs Bs i _ _ _ _ (Follows-named ws vs Hs Bs n m i) (λ s.
            Follows-look ws vs Hs Bs s.1 (λ o. cond (at_key SquareOpen o) (room_at 2 h s.1 >>= λ z. index_at ws n below i s.0 z.1) (Ok (read i s.0, s.1)))
            (λ o. cond (at_key SquareOpen o) (room_at 2 j s.1 >>= λ z. index_at vs m below' i s.0 z.1) (Ok (read i s.0, s.1)))
            (λ o. Follows-cond ws vs Hs Bs s.1 (at_key SquareOpen o) _ _ _ _ (Follows-roomed 2 s.1 (index_at ws n below i s.0) (index_at vs m below' i s.0) (Follows-index i s.0)) (Follows-ok ws vs Hs Bs s.1 s.1 _ (omega arith))))

        Follows-leaf : (i : ℕ) → Follows ws vs Hs Bs i (leaf_at ws n below h i) (leaf_at vs m below' j i)
        unfolding leaf_at look
        Follows-leaf i =
            Follows-look ws vs Hs Bs i (λ o. cond (is_some (name_in o)) (room_at 1 h i >>= λ z. variable_at ws n below h z.1) (cond (is_some (number_in o)) (room_at 1 h i >>= λ z. numeral_at ws n h z.1) (Err (wrong i))))
            (λ o. cond (is_some (name_in o)) (room_at 1 j i >>= λ z. variable_at vs m below' j z.1) (cond (is_some (number_in o)) (room_at 1 j i >>= λ z. numeral_at vs m j z.1) (Err (wrong i))))
            (λ o. Follows-cond ws vs Hs Bs i (is_some (name_in o)) _ _ _ _ (Follows-roomed 1 i (variable_at ws n below h) (variable_at vs m below' j) Follows-variable)
            (Follows-cond ws vs Hs Bs i (is_some (number_in o)) _ _ _ _ (Follows-roomed 1 i (numeral_at ws n h) (numeral_at vs m j) Follows-numeral) (Follows-wrong ws vs Hs Bs i)))

        Follows-chain : (l p k k' : ℕ) (a : Expr) (i : ℕ) → k ≤ k' → Follows ws vs Hs Bs i (chain ws n below h l p k a i) (chain vs m below' j l p k' a i)
        Follows-chain = joins.Follows-chain join_at expr_height ws vs Hs Bs h j le hs (right_at ws n below) (right_at vs m below') Follows-right

        Follows-climb : (p l : ℕ) (a : Expr) (i : ℕ) → Follows ws vs Hs Bs i (climb ws n below h p l a i) (climb vs m below' j p l a i)
        unfolding climb
        Follows-climb p zero a i = Follows-ok ws vs Hs Bs i i a (omega arith)
        Follows-climb p (suc l) a i = Follows-bind ws vs Hs Bs i _ _ _ _ (Follows-climb p l a i) (λ x. Follows-chain l p n m x.0 x.1 turns)

        Follows-tuple : (p : ℕ) (a : Expr) (i : ℕ) → Follows ws vs Hs Bs i (tuple_at ws n below h p a i) (tuple_at vs m below' j p a i)
        unfolding tuple_at
        Follows-tuple p a i = Follows-roomed (expr_height a + 1) i (listed_at ws n below p a) (listed_at vs m below' p a) (Follows-listed p a)

        -- ---- with a bound on brackets

        module _ (b c : ℕ) (be : b ≤ c) (bs : Bs → b ≡ c) where
          Follows-count : (i : ℕ) → Follows ws vs Hs Bs i (count_at ws n b i) (count_at vs m c i)
          unfolding count_at
          Follows-count i =
              Follows-bind ws vs Hs Bs i _ _ _ _ (Follows-expect ws vs Hs Bs Length i) (λ a. Follows-bind ws vs Hs Bs a.1 _ _ _ _ (Follows-open ws vs Hs Bs n m b c a.1 be bs) (λ d.
              Follows-bind ws vs Hs Bs d.1 _ _ _ _ (Follows-named ws vs Hs Bs n m d.1) (λ s. Follows-bind ws vs Hs Bs s.1 _ _ _ _ (Follows-expect ws vs Hs Bs Close s.1) (λ e. Follows-ok ws vs Hs Bs e.1 e.1 _ (omega arith)))))

          module _ (inside inside' : Reader) (within : FollowsR inside inside') where
            -- what stands in brackets, by a reader of its own
            Follows-closed : (i : ℕ) → Follows ws vs Hs Bs i (bracket_at ws n inside i) (bracket_at vs m inside' i)
            unfolding bracket_at
            Follows-closed i =
                Follows-bind ws vs Hs Bs i _ _ _ _ (within top i) (λ x. Follows-bind ws vs Hs Bs x.1 _ _ _ _ (Follows-expect ws vs Hs Bs Close x.1) (λ r. Follows-ok ws vs Hs Bs r.1 r.1 _ (omega arith)))

            Follows-behind : (p i : ℕ) → Follows ws vs Hs Bs i (cond (at_key Bit (slice_get ws i)) (room_at 2 h i >>= λ z. cast_at ws n below p z.1) (bracket_at ws n inside i))
                (cond (at_key Bit (slice_get vs i)) (room_at 2 j i >>= λ z. cast_at vs m below' p z.1) (bracket_at vs m inside' i))
            unfolding look
            Follows-behind p i =
                Follows-look ws vs Hs Bs i (λ o. cond (at_key Bit o) (room_at 2 h i >>= λ z. cast_at ws n below p z.1) (bracket_at ws n inside i))
                (λ o. cond (at_key Bit o) (room_at 2 j i >>= λ z. cast_at vs m below' p z.1) (bracket_at vs m inside' i))
                (λ o. Follows-cond ws vs Hs Bs i (at_key Bit o) _ _ _ _ (Follows-roomed 2 i (cast_at ws n below p) (cast_at vs m below' p) (Follows-cast p)) (Follows-closed i))

            Follows-opened : (i : ℕ) → Follows ws vs Hs Bs i (opened_at ws n inside below h b i) (opened_at vs m inside' below' j c i)
            unfolding opened_at
            Follows-opened i = Follows-bind ws vs Hs Bs i _ _ _ _ (Follows-open ws vs Hs Bs n m b c i be bs) (λ a. Follows-behind i a.1)

            Follows-operand : (i : ℕ) → Follows ws vs Hs Bs i (operand_at ws n inside below h b i) (operand_at vs m inside' below' j c i)
            unfolding operand_at look
            Follows-operand i =
                Follows-look ws vs Hs Bs i (λ o. cond (at_key True o) (flag_at ws n true h i) (cond (at_key False o) (flag_at ws n false h i) (cond (at_key Not o) (room_at 2 h i >>= λ z. negation_at ws n below z.1)
                (cond (at_key Tilde o) (room_at 2 h i >>= λ z. inversion_at ws n below z.1) (cond (at_key Length o) (room_at 1 h i >>= λ z. count_at ws n b z.1)
                (cond (at_key Open o) (room_at 1 h i >>= λ z. opened_at ws n inside below h b z.1) (leaf_at ws n below h i)))))))
                (λ o. cond (at_key True o) (flag_at vs m true j i) (cond (at_key False o) (flag_at vs m false j i) (cond (at_key Not o) (room_at 2 j i >>= λ z. negation_at vs m below' z.1)
                (cond (at_key Tilde o) (room_at 2 j i >>= λ z. inversion_at vs m below' z.1) (cond (at_key Length o) (room_at 1 j i >>= λ z. count_at vs m c z.1)
                (cond (at_key Open o) (room_at 1 j i >>= λ z. opened_at vs m inside' below' j c z.1) (leaf_at vs m below' j i)))))))
                (λ o. Follows-cond ws vs Hs Bs i (at_key True o) _ _ _ _ (Follows-flag true i) (Follows-cond ws vs Hs Bs i (at_key False o) _ _ _ _ (Follows-flag false i)
                (Follows-cond ws vs Hs Bs i (at_key Not o) _ _ _ _ (Follows-roomed 2 i (negation_at ws n below) (negation_at vs m below') Follows-negation)
                (Follows-cond ws vs Hs Bs i (at_key Tilde o) _ _ _ _ (Follows-roomed 2 i (inversion_at ws n below) (inversion_at vs m below') Follows-inversion)
                (Follows-cond ws vs Hs Bs i (at_key Length o) _ _ _ _ (Follows-roomed 1 i (count_at ws n b) (count_at vs m c) Follows-count)
                (Follows-cond ws vs Hs Bs i (at_key Open o) _ _ _ _ (Follows-roomed 1 i (opened_at ws n inside below h b) (opened_at vs m inside' below' j c) Follows-opened) (Follows-leaf i)))))))

-- ---- levels. inside: with one bracket less; below: one node lower; under: both

module _ (ws vs : List Lexeme) (Hs Bs : Type 0) (n m : ℕ) (turns : n ≤ m) where
  module _ (inside inside' : Reader) (within : FollowsR ws vs Hs Bs n m turns inside inside') (below below' : Reader) (lower : FollowsR ws vs Hs Bs n m turns below below')
      (under under' : Reader) (far : FollowsR ws vs Hs Bs n m turns under under') (h j : ℕ) (le : h ≤ j) (hs : Hs → h ≡ j) (b c : ℕ) (be : b ≤ c) (bs : Bs → b ≡ c) where
    climbs : (p : ℕ) (a : Expr) (i : ℕ) → Follows ws vs Hs Bs i (climb ws n below h p 6 a i) (climb vs m below' j p 6 a i)
    climbs p a i = Follows-climb ws vs Hs Bs n m turns below below' lower h j le hs p 6 a i

    Follows-grouped : (p : ℕ) → Follows ws vs Hs Bs (p + 1) (Grouped ws n inside below under h b p) (Grouped vs m inside' below' under' j c p)
    unfolding look
    Follows-grouped p =
        Follows-bind ws vs Hs Bs (p + 1) _ _ _ _ (within top (p + 1)) (λ x.
        Follows-look ws vs Hs Bs x.1 (λ o. cond (at_key Comma o) (tuple_at ws n under h p x.0 x.1) (expect_at ws Close x.1 >>= λ r. climb ws n below h p 6 x.0 r.1))
        (λ o. cond (at_key Comma o) (tuple_at vs m under' j p x.0 x.1) (expect_at vs Close x.1 >>= λ r. climb vs m below' j p 6 x.0 r.1))
        (λ o. Follows-cond ws vs Hs Bs x.1 (at_key Comma o) _ _ _ _ (Follows-tuple ws vs Hs Bs n m turns under under' far h j le hs p x.0 x.1)
        (Follows-bind ws vs Hs Bs x.1 _ _ _ _ (Follows-expect ws vs Hs Bs Close x.1) (λ r. climbs p x.0 r.1))))

    Follows-headed : (p : ℕ) → Follows ws vs Hs Bs (p + 1) (Headed ws n inside below under h b p) (Headed vs m inside' below' under' j c p)
    unfolding look
    Follows-headed p =
        Follows-look ws vs Hs Bs (p + 1) (λ o. cond (at_key Bit o) (Opened ws n inside below under h b p >>= λ x. climb ws n below h p 6 x.0 x.1) (Grouped ws n inside below under h b p))
        (λ o. cond (at_key Bit o) (Opened vs m inside' below' under' j c p >>= λ x. climb vs m below' j p 6 x.0 x.1) (Grouped vs m inside' below' under' j c p))
        (λ o. Follows-cond ws vs Hs Bs (p + 1) (at_key Bit o) _ _ _ _
        (Follows-bind ws vs Hs Bs (p + 1) _ _ _ _ (Follows-behind ws vs Hs Bs n m turns below below' lower h j le hs b c be bs inside inside' within p (p + 1)) (λ x. climbs p x.0 x.1))
        (Follows-grouped p))

    other_lexeme : (p : ℕ) (o : Option Lexeme) → slice_get ws p ≡ o → Agree ws vs Hs Bs p → slice_get vs p ≡ o
    other_lexeme p o e ag = sym (ag p (omega arith)) ∙ e

    Follows-head : (p : ℕ) → Follows ws vs Hs Bs p (layer ws n inside below under h b 6 p) (layer vs m inside' below' under' j c 6 p)
        → Follows ws vs Hs Bs p (Head ws n inside below under h b p) (Head vs m inside' below' under' j c p)
    Follows-head p f = go (at_key Open (slice_get ws p)) refl
      where
        opens : slice_get ws p ≡ Some (key Open) → Follows ws vs Hs Bs p (Head ws n inside below under h b p) (Head vs m inside' below' under' j c p)
        opens w = elim (cases_lt 0 h) [
          | inr z ↦ along ws vs Hs Bs p _ _ _ (head_high ws n inside below under h b p w (omega (arith, z)))
              (record { shows = (omega arith, λ ag v. head_high vs m inside' below' under' j c p (other_lexeme p _ w ag) (omega (arith, z, hs v))) })
          | inl lt ↦ elim (cases_lt 0 b) [
            | inr z ↦ along ws vs Hs Bs p _ _ _ (head_deep ws n inside below under h b p w lt (omega (arith, z)))
                (record { shows = (omega arith, λ ag v. head_deep vs m inside' below' under' j c p (other_lexeme p _ w ag) (omega (arith, lt, le)) (omega (arith, z, bs v))) })
            | inl lb ↦ along ws vs Hs Bs p _ _ _ (head_open ws n inside below under h b p w lt lb)
                (Follows-from ws vs Hs Bs p p _ (Headed vs m inside' below' under' j c p) _ (omega arith) (λ ag. head_open vs m inside' below' under' j c p (other_lexeme p _ w ag) (omega (arith, lt, le)) (omega (arith, lb, be)))
                (Follows-later ws vs Hs Bs p _ _ (Follows-headed p)))
          ]
        ]

        go : (t : Bool) → t ≡ at_key Open (slice_get ws p) → Follows ws vs Hs Bs p (Head ws n inside below under h b p) (Head vs m inside' below' under' j c p)
        go true e = opens (at_key-is Open (slice_get ws p) (sym e))
        go false e =
            along ws vs Hs Bs p _ _ _ (head_other ws n inside below under h b p (sym e))
            (Follows-from ws vs Hs Bs p p _ (layer vs m inside' below' under' j c 6 p) _ (omega arith) (λ ag. head_other vs m inside' below' under' j c p (ap (at_key Open) (other_lexeme p _ refl ag) ∙ sym e)) f)

    -- the left side on level l + 1
    Follows-left : (l i : ℕ) (t : Bool) → (t ≡ true → l ≡ 6) → Follows ws vs Hs Bs i (layer ws n inside below under h b l i) (layer vs m inside' below' under' j c l i)
        → Follows ws vs Hs Bs i (cond t (head_at ws n inside below under h b (layer ws n inside below under h b l i) i) (layer ws n inside below under h b l i))
        (cond t (head_at vs m inside' below' under' j c (layer vs m inside' below' under' j c l i) i) (layer vs m inside' below' under' j c l i))
    Follows-left l i true e f =
        subst (λ k. Follows ws vs Hs Bs i (head_at ws n inside below under h b (layer ws n inside below under h b k i) i) (head_at vs m inside' below' under' j c (layer vs m inside' below' under' j c k i) i)) (sym (e refl))
        (Follows-head i (subst (λ k. Follows ws vs Hs Bs i (layer ws n inside below under h b k i) (layer vs m inside' below' under' j c k i)) (e refl) f))
    Follows-left l i false e f = f

    Follows-layer : FollowsR ws vs Hs Bs n m turns (layer ws n inside below under h b) (layer vs m inside' below' under' j c)
    unfolding layer
    Follows-layer zero i = Follows-operand ws vs Hs Bs n m turns below below' lower h j le hs b c be bs inside inside' within i
    Follows-layer (suc l) i =
        Follows-bind ws vs Hs Bs i _ _ _ _ (Follows-left l i (l == 6) (eqb-true l 6) (Follows-layer l i)) (λ x. Follows-chain ws vs Hs Bs n m turns below below' lower h j le hs l i n m x.0 x.1 turns)

  -- ---- all heights and brackets

  Follows-idle : (r : Reader) → FollowsR ws vs Hs Bs n m turns (idle ws n) r
  Follows-idle r l i = Follows-spent ws vs Hs Bs i _

  abbrev pub FollowsE : ℕ → ℕ → ℕ → ℕ → Type 0
  FollowsE h j b c = (le : h ≤ j) (hs : Hs → h ≡ j) (be : b ≤ c) (bs : Bs → b ≡ c) → FollowsR ws vs Hs Bs n m turns (expr_at ws n h b) (expr_at vs m j c)

  Follows-step : (h j b c : ℕ) → FollowsR ws vs Hs Bs n m turns (inside_of ws n h b) (inside_of vs m j c) → FollowsR ws vs Hs Bs n m turns (below_of ws n h b) (below_of vs m j c)
      → FollowsR ws vs Hs Bs n m turns (under_of ws n h b) (under_of vs m j c) → FollowsE h j b c
  Follows-step h j b c within lower far le hs be bs =
      rw (expr_at-layer ws n h b, expr_at-layer vs m j c) (Follows-layer _ _ within _ _ lower _ _ far h j le hs b c be bs)

  -- by brackets, given what is one node lower
  Follows-brackets : (h j : ℕ) → ((b c : ℕ) → b ≤ c → (Bs → b ≡ c) → FollowsR ws vs Hs Bs n m turns (below_of ws n h b) (below_of vs m j c)) → (b c : ℕ) → FollowsE h j b c
  unfolding inside_of under_of
  Follows-brackets h j lower zero c le hs be bs = Follows-step h j zero c (Follows-idle _) (lower zero c be bs) (Follows-idle _) le hs be bs
  Follows-brackets h j lower (suc b) zero le hs be bs = absurd (omega arith)
  Follows-brackets h j lower (suc b) (suc c) le hs be bs =
      Follows-step h j (suc b) (suc c) (Follows-brackets h j lower b c le hs (omega arith) (λ x. suc_inj (bs x))) (lower (suc b) (suc c) be bs)
      (lower b c (omega arith) (λ x. suc_inj (bs x))) le hs be bs

  by_height : (h j b c : ℕ) → FollowsE h j b c
  unfolding below_of
  by_height zero j b c le hs = Follows-brackets zero j (λ b c be bs. Follows-idle _) b c le hs
  by_height (suc h) zero b c le hs = absurd (omega arith)
  by_height (suc h) (suc j) b c le hs =
      Follows-brackets (suc h) (suc j) (λ b c be bs. by_height h j b c (omega arith) (λ x. suc_inj (hs x)) be bs) b c le hs

  pub Follows-expr : (h j b c : ℕ) → h ≤ j → (Hs → h ≡ j) → b ≤ c → (Bs → b ≡ c) → (l p : ℕ) → Follows ws vs Hs Bs p (expr_at ws n h b l p) (expr_at vs m j c l p)
  Follows-expr h j b c le hs be bs l p = by_height h j b c le hs be bs l p

  pub Follows-all : (h j b c : ℕ) → h ≤ j → (Hs → h ≡ j) → b ≤ c → (Bs → b ≡ c) → (p : ℕ) → Follows ws vs Hs Bs p (all_of ws n (expr_at ws n h b) p) (all_of vs m (expr_at vs m j c) p)
  Follows-all h j b c le hs be bs p = Follows-items ws vs Hs Bs n m turns _ _ (by_height h j b c le hs be bs) p
