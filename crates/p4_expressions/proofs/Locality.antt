-- What is read rests on the lexemes up to the place where reading ends, and on no other.
use Rattle.std.proofs.Common.{◌≡◌, ℕ, zero, suc, ◌+◌, ◌≤◌, Bool, true, false, cond, List, Option, Some, None, Ok, Err, arith}
use Rattle.std.proofs.Math.Nat.{suc_inj}
use Rattle.std.specs.Prelude.{slice_get, is_some, nat_le, ◌==◌}
use Rattle.lex_text.specs.Names.{same_text, parent}
use Rattle.lex_text.specs.declared.literal.Literal.{Literal}
use Rattle.lex_words.specs.declared.key.Key.TheVariants.{True, False, Bit, Error, Not, Tilde, Minus, Question, Colon, Dot, Open, Close, SquareOpen, SquareClose, Less, More}
use Rattle.lex_words.specs.declared.key.Key.TheVariants as k
use Rattle.lex_words.specs.Seen.{Lexeme, name_in, number_in, at_key}
use Rattle.lex_words.specs.Reading.{wrong, Read, ◌>>=◌, look, room_at, named_at}
use Rattle.lex_words.proofs.Joins as joins
use Rattle.lex_words.proofs.Locality.{Follows, Follows-bind, Follows-cond, Follows-wrong, Follows-spent, Follows-ok, Follows-look, Follows-test, Follows-expect, Follows-more, Follows-named, Follows-numbered, Follows-room, Follows-open}
use Rattle.p4_tree.specs.Tree.{Expr, path}
use Rattle.p4_tree.specs.Height.{expr_height}
use Rattle.p4_tree.specs.declared.statement.Op.{Op}
use Rattle.p4_tree.specs.declared.statement.PTy.TheVariants as type
use Rattle.p4_spelling.specs.Words.{valid_name, outcome_name}
use Rattle.p4_spelling.specs.Operators.{top, op_at}
use Rattle.p4_expressions.specs.Reading.{Reader, small, square_at, last_of, is_called, outcome, is_scalar, small_at, width_at, bits_at, truth_at, scalar_at, more_names_at, names_at, validity_at, outcome_at, application_at, applied_at, called_at, call_of, path_at, flag_at, numeral_at, error_at, leaf_at, bounds_at, slices_at, postfix_at, negation_at, inversion_at, opposite_at, cast_at, bracket_at, opened_at, operand_at, right_at, chain, branches_at, conditional_at, behind_at, layer, idle, expr_at, inside_of, below_of}
use Rattle.p4_expressions.proofs.Layers.{expr_at-layer}

-- Two readings, of the lexemes ws and vs. Hs: both have the same bound on heights; Bs: on brackets.
module _ (ws vs : List Lexeme) (Hs Bs : Type 0) where
  -- n and m: turns of the first and the second
  module _ (n m : ℕ) (turns : n ≤ m) where
    -- ---- types

    pub Follows-small : (i : ℕ) → Follows ws vs Hs Bs i (small_at ws n i) (small_at vs m i)
    unfolding small_at look
    Follows-small i = Follows-look ws vs Hs Bs i (λ o. small i (number_in o)) (λ o. small i (number_in o)) (λ o. go (number_in o))
      where
        go : (o : Option Literal) → Follows ws vs Hs Bs i (small i o) (small i o)
        go None = Follows-wrong ws vs Hs Bs i
        go (Some v) = Follows-cond ws vs Hs Bs i (nat_le v.value 255) _ _ _ _ (Follows-ok ws vs Hs Bs i (i + 1) v.value (omega arith)) (Follows-wrong ws vs Hs Bs i)

    Follows-width : (i : ℕ) → Follows ws vs Hs Bs i (width_at ws n i) (width_at vs m i)
    unfolding width_at
    Follows-width i =
        Follows-bind ws vs Hs Bs i _ _ _ _ (Follows-expect ws vs Hs Bs Less i) (λ a. Follows-bind ws vs Hs Bs a.1 _ _ _ _ (Follows-small a.1) (λ w.
        Follows-bind ws vs Hs Bs w.1 _ _ _ _ (Follows-expect ws vs Hs Bs More w.1) (λ c. Follows-ok ws vs Hs Bs c.1 c.1 _ (omega arith))))

    Follows-bits : (i : ℕ) → Follows ws vs Hs Bs i (bits_at ws n i) (bits_at vs m i)
    unfolding bits_at look
    Follows-bits i =
        Follows-bind ws vs Hs Bs i _ _ _ _ (Follows-expect ws vs Hs Bs Bit i) (λ a.
        Follows-look ws vs Hs Bs a.1 (λ o. cond (at_key Less o) (width_at ws n a.1) (Ok (type.Bit 1, a.1))) (λ o. cond (at_key Less o) (width_at vs m a.1) (Ok (type.Bit 1, a.1)))
        (λ o. Follows-cond ws vs Hs Bs a.1 (at_key Less o) _ _ _ _ (Follows-width a.1) (Follows-ok ws vs Hs Bs a.1 a.1 _ (omega arith))))

    Follows-truth : (i : ℕ) → Follows ws vs Hs Bs i (truth_at ws n i) (truth_at vs m i)
    unfolding truth_at
    Follows-truth i = Follows-bind ws vs Hs Bs i _ _ _ _ (Follows-expect ws vs Hs Bs k.Bool i) (λ a. Follows-ok ws vs Hs Bs a.1 a.1 _ (omega arith))

    pub Follows-scalar : (i : ℕ) → Follows ws vs Hs Bs i (scalar_at ws n i) (scalar_at vs m i)
    unfolding scalar_at look
    Follows-scalar i =
        Follows-look ws vs Hs Bs i (λ o. cond (at_key k.Bool o) (truth_at ws n i) (bits_at ws n i)) (λ o. cond (at_key k.Bool o) (truth_at vs m i) (bits_at vs m i))
        (λ o. Follows-cond ws vs Hs Bs i (at_key k.Bool o) _ _ _ _ (Follows-truth i) (Follows-bits i))

    -- ---- paths and calls

    pub Follows-more_names : (x : List ℕ) (i : ℕ) → Follows ws vs Hs Bs i (more_names_at ws n x i) (more_names_at vs m x i)
    unfolding more_names_at
    Follows-more_names x i =
        Follows-bind ws vs Hs Bs i _ _ _ _ (Follows-more ws vs Hs Bs (named_at ws n) (named_at vs m) (λ q. Follows-named ws vs Hs Bs n m q) Dot n m i turns) (λ y. Follows-ok ws vs Hs Bs y.1 y.1 _ (omega arith))

    pub Follows-names : (i : ℕ) → Follows ws vs Hs Bs i (names_at ws n i) (names_at vs m i)
    unfolding names_at
    Follows-names i = Follows-bind ws vs Hs Bs i _ _ _ _ (Follows-named ws vs Hs Bs n m i) (λ x. Follows-more_names x.0 x.1)

    Follows-outcome : (i : ℕ) → Follows ws vs Hs Bs i (outcome_at ws n i) (outcome_at vs m i)
    unfolding outcome_at look
    Follows-outcome i = Follows-look ws vs Hs Bs i (λ o. outcome i (name_in o)) (λ o. outcome i (name_in o)) (λ o. go (name_in o))
      where
        go : (o : Option (List ℕ)) → Follows ws vs Hs Bs i (outcome i o) (outcome i o)
        go None = Follows-wrong ws vs Hs Bs i
        go (Some x) =
            Follows-cond ws vs Hs Bs i (same_text x (outcome_name true)) _ _ _ _ (Follows-ok ws vs Hs Bs i (i + 1) _ (omega arith))
            (Follows-cond ws vs Hs Bs i (same_text x (outcome_name false)) _ _ _ _ (Follows-ok ws vs Hs Bs i (i + 1) _ (omega arith)) (Follows-wrong ws vs Hs Bs i))

    -- b and c: how many brackets may be opened
    module _ (b c : ℕ) (be : b ≤ c) (bs : Bs → b ≡ c) where
      Follows-validity : (p : ℕ) (xs : List (List ℕ)) (i : ℕ) → Follows ws vs Hs Bs i (validity_at ws n b p xs i) (validity_at vs m c p xs i)
      unfolding validity_at
      Follows-validity p xs i =
          Follows-bind ws vs Hs Bs i _ _ _ _ (Follows-open ws vs Hs Bs n m b c i be bs) (λ a. Follows-bind ws vs Hs Bs a.1 _ _ _ _ (Follows-expect ws vs Hs Bs Close a.1) (λ d. Follows-ok ws vs Hs Bs d.1 d.1 _ (omega arith)))

      Follows-application : (p : ℕ) (t : List ℕ) (i : ℕ) → Follows ws vs Hs Bs i (application_at ws n b p t i) (application_at vs m c p t i)
      unfolding application_at
      Follows-application p t i =
          Follows-bind ws vs Hs Bs i _ _ _ _ (Follows-open ws vs Hs Bs n m b c i be bs) (λ a. Follows-bind ws vs Hs Bs a.1 _ _ _ _ (Follows-expect ws vs Hs Bs Close a.1) (λ d.
          Follows-bind ws vs Hs Bs d.1 _ _ _ _ (Follows-expect ws vs Hs Bs Dot d.1) (λ e. Follows-bind ws vs Hs Bs e.1 _ _ _ _ (Follows-outcome e.1) (λ o. Follows-ok ws vs Hs Bs o.1 o.1 _ (omega arith)))))

      Follows-applied : (p : ℕ) (t : Option (List ℕ)) (i : ℕ) → Follows ws vs Hs Bs i (applied_at ws n b p t i) (applied_at vs m c p t i)
      unfolding applied_at
      Follows-applied p None i = Follows-wrong ws vs Hs Bs i
      Follows-applied p (Some t) i = Follows-application p t i

      Follows-called : (p : ℕ) (xs : List (List ℕ)) (x : List ℕ) (i : ℕ) → Follows ws vs Hs Bs i (called_at ws n b p xs x i) (called_at vs m c p xs x i)
      unfolding called_at
      Follows-called p xs x i = Follows-cond ws vs Hs Bs i (same_text x valid_name) _ _ _ _ (Follows-validity p xs i) (Follows-applied p (last_of xs) i)

      Follows-call : (p : ℕ) (xs : List (List ℕ)) (o : Option (List ℕ)) (i : ℕ) → Follows ws vs Hs Bs i (call_of ws n b p xs o i) (call_of vs m c p xs o i)
      unfolding call_of
      Follows-call p xs None i = Follows-wrong ws vs Hs Bs i
      Follows-call p xs (Some x) i = Follows-called p xs x i

      Follows-path : (i : ℕ) → Follows ws vs Hs Bs i (path_at ws n b i) (path_at vs m c i)
      unfolding path_at
      Follows-path i =
          Follows-bind ws vs Hs Bs i _ _ _ _ (Follows-names i) (λ xs.
          let alone = Follows-ok ws vs Hs Bs xs.1 xs.1 (path i xs.0) (omega arith) in
          Follows-test ws vs Hs Bs xs.1 (at_key Open) _ _ _ _ (Follows-cond ws vs Hs Bs xs.1 (is_called xs.0) _ _ _ _ (Follows-call i (parent xs.0) (last_of xs.0) xs.1) alone) alone)

    -- ---- operands without parts

    Follows-numeral : (i : ℕ) → Follows ws vs Hs Bs i (numeral_at ws n i) (numeral_at vs m i)
    unfolding numeral_at
    Follows-numeral i = Follows-bind ws vs Hs Bs i _ _ _ _ (Follows-numbered ws vs Hs Bs n m i) (λ v. Follows-ok ws vs Hs Bs v.1 v.1 _ (omega arith))

    Follows-error : (i : ℕ) → Follows ws vs Hs Bs i (error_at ws n i) (error_at vs m i)
    unfolding error_at
    Follows-error i =
        Follows-bind ws vs Hs Bs i _ _ _ _ (Follows-expect ws vs Hs Bs Error i) (λ a. Follows-bind ws vs Hs Bs a.1 _ _ _ _ (Follows-expect ws vs Hs Bs Dot a.1) (λ c.
        Follows-bind ws vs Hs Bs c.1 _ _ _ _ (Follows-named ws vs Hs Bs n m c.1) (λ x. Follows-ok ws vs Hs Bs x.1 x.1 _ (omega arith))))

    Follows-bounds : (p : ℕ) (a : Expr) (i : ℕ) → Follows ws vs Hs Bs i (bounds_at ws n p a i) (bounds_at vs m p a i)
    unfolding bounds_at
    Follows-bounds p a i =
        Follows-bind ws vs Hs Bs i _ _ _ _ (Follows-small i) (λ x. Follows-bind ws vs Hs Bs x.1 _ _ _ _ (Follows-expect ws vs Hs Bs Colon x.1) (λ c.
        Follows-bind ws vs Hs Bs c.1 _ _ _ _ (Follows-small c.1) (λ y. Follows-bind ws vs Hs Bs y.1 _ _ _ _ (Follows-expect ws vs Hs Bs SquareClose y.1) (λ d. Follows-ok ws vs Hs Bs d.1 d.1 _ (omega arith)))))

    -- h and j: how high the trees may be
    module _ (h j : ℕ) (le : h ≤ j) (hs : Hs → h ≡ j) where
      Follows-roomed : {A : Type 0} (l i : ℕ) (f g : ℕ → Read A) → ((q : ℕ) → Follows ws vs Hs Bs q (f q) (g q)) → Follows ws vs Hs Bs i (room_at l h i >>= λ z. f z.1) (room_at l j i >>= λ z. g z.1)
      Follows-roomed l i f g on = Follows-bind ws vs Hs Bs i _ _ _ _ (Follows-room ws vs Hs Bs l h j i le hs) (λ z. on z.1)

      Follows-flag : (v : Bool) (i : ℕ) → Follows ws vs Hs Bs i (flag_at ws n v h i) (flag_at vs m v j i)
      unfolding flag_at
      Follows-flag v i = Follows-bind ws vs Hs Bs i _ _ _ _ (Follows-room ws vs Hs Bs 1 h j i le hs) (λ z. Follows-ok ws vs Hs Bs z.1 (z.1 + 1) _ (omega arith))

      Follows-slices : (p : ℕ) (a : Expr) (i : ℕ) → Follows ws vs Hs Bs i (slices_at ws n h p n a i) (slices_at vs m j p m a i)
      Follows-slices p a i =
          joins.Follows-chain square_at expr_height ws vs Hs Bs h j le hs (λ l r c x q. bounds_at ws n r c q) (λ l r c x q. bounds_at vs m r c q) (λ l r c x q. Follows-bounds r c q) 0 p n m a i turns

      module _ (b c : ℕ) (be : b ≤ c) (bs : Bs → b ≡ c) where
        Follows-leaf : (i : ℕ) → Follows ws vs Hs Bs i (leaf_at ws n h b i) (leaf_at vs m j c i)
        unfolding leaf_at look
        Follows-leaf i =
            Follows-look ws vs Hs Bs i (λ o. cond (at_key True o) (flag_at ws n true h i) (cond (at_key False o) (flag_at ws n false h i) (cond (at_key Error o) (room_at 1 h i >>= λ z. error_at ws n z.1)
            (cond (is_some (name_in o)) (room_at 1 h i >>= λ z. path_at ws n b z.1) (cond (is_some (number_in o)) (room_at 1 h i >>= λ z. numeral_at ws n z.1) (Err (wrong i)))))))
            (λ o. cond (at_key True o) (flag_at vs m true j i) (cond (at_key False o) (flag_at vs m false j i) (cond (at_key Error o) (room_at 1 j i >>= λ z. error_at vs m z.1)
            (cond (is_some (name_in o)) (room_at 1 j i >>= λ z. path_at vs m c z.1) (cond (is_some (number_in o)) (room_at 1 j i >>= λ z. numeral_at vs m z.1) (Err (wrong i)))))))
            (λ o. Follows-cond ws vs Hs Bs i (at_key True o) _ _ _ _ (Follows-flag true i) (Follows-cond ws vs Hs Bs i (at_key False o) _ _ _ _ (Follows-flag false i)
            (Follows-cond ws vs Hs Bs i (at_key Error o) _ _ _ _ (Follows-roomed 1 i (error_at ws n) (error_at vs m) Follows-error)
            (Follows-cond ws vs Hs Bs i (is_some (name_in o)) _ _ _ _ (Follows-roomed 1 i (path_at ws n b) (path_at vs m c) (Follows-path b c be bs))
            (Follows-cond ws vs Hs Bs i (is_some (number_in o)) _ _ _ _ (Follows-roomed 1 i (numeral_at ws n) (numeral_at vs m) Follows-numeral) (Follows-wrong ws vs Hs Bs i))))))

        Follows-postfix : (i : ℕ) → Follows ws vs Hs Bs i (postfix_at ws n h b i) (postfix_at vs m j c i)
        unfolding postfix_at
        Follows-postfix i = Follows-bind ws vs Hs Bs i _ _ _ _ (Follows-leaf i) (λ x. Follows-slices i x.0 x.1)

    -- ---- with parts. below: one node lower

    abbrev pub FollowsR : Reader → Reader → Type 0
    FollowsR f g = (l i : ℕ) → Follows ws vs Hs Bs i (f l i) (g l i)

    module _ (below below' : Reader) (lower : FollowsR below below') where
      Follows-negation : (i : ℕ) → Follows ws vs Hs Bs i (negation_at ws n below i) (negation_at vs m below' i)
      unfolding negation_at
      Follows-negation i =
          Follows-bind ws vs Hs Bs i _ _ _ _ (Follows-expect ws vs Hs Bs Not i) (λ a. Follows-bind ws vs Hs Bs a.1 _ _ _ _ (lower 0 a.1) (λ x. Follows-ok ws vs Hs Bs x.1 x.1 _ (omega arith)))

      Follows-inversion : (i : ℕ) → Follows ws vs Hs Bs i (inversion_at ws n below i) (inversion_at vs m below' i)
      unfolding inversion_at
      Follows-inversion i =
          Follows-bind ws vs Hs Bs i _ _ _ _ (Follows-expect ws vs Hs Bs Tilde i) (λ a. Follows-bind ws vs Hs Bs a.1 _ _ _ _ (lower 0 a.1) (λ x. Follows-ok ws vs Hs Bs x.1 x.1 _ (omega arith)))

      Follows-opposite : (i : ℕ) → Follows ws vs Hs Bs i (opposite_at ws n below i) (opposite_at vs m below' i)
      unfolding opposite_at
      Follows-opposite i =
          Follows-bind ws vs Hs Bs i _ _ _ _ (Follows-expect ws vs Hs Bs Minus i) (λ a. Follows-bind ws vs Hs Bs a.1 _ _ _ _ (lower 0 a.1) (λ x. Follows-ok ws vs Hs Bs x.1 x.1 _ (omega arith)))

      Follows-cast : (p i : ℕ) → Follows ws vs Hs Bs i (cast_at ws n below p i) (cast_at vs m below' p i)
      unfolding cast_at
      Follows-cast p i =
          Follows-bind ws vs Hs Bs i _ _ _ _ (Follows-scalar i) (λ t. Follows-bind ws vs Hs Bs t.1 _ _ _ _ (Follows-expect ws vs Hs Bs Close t.1) (λ c.
          Follows-bind ws vs Hs Bs c.1 _ _ _ _ (lower 0 c.1) (λ x. Follows-ok ws vs Hs Bs x.1 x.1 _ (omega arith))))

      Follows-right : (l p : ℕ) (a : Expr) (x : Op) (i : ℕ) → Follows ws vs Hs Bs i (right_at ws n below l p a x i) (right_at vs m below' l p a x i)
      unfolding right_at
      Follows-right l p a op i = Follows-bind ws vs Hs Bs i _ _ _ _ (lower l i) (λ x. Follows-ok ws vs Hs Bs x.1 x.1 _ (omega arith))

      Follows-branches : (p : ℕ) (a : Expr) (i : ℕ) → Follows ws vs Hs Bs i (branches_at ws n below p a i) (branches_at vs m below' p a i)
      unfolding branches_at
      Follows-branches p a i =
          Follows-bind ws vs Hs Bs i _ _ _ _ (Follows-expect ws vs Hs Bs Question i) (λ q. Follows-bind ws vs Hs Bs q.1 _ _ _ _ (lower top q.1) (λ x.
          Follows-bind ws vs Hs Bs x.1 _ _ _ _ (Follows-expect ws vs Hs Bs Colon x.1) (λ c. Follows-bind ws vs Hs Bs c.1 _ _ _ _ (lower top c.1) (λ y. Follows-ok ws vs Hs Bs y.1 y.1 _ (omega arith)))))

      module _ (h j : ℕ) (le : h ≤ j) (hs : Hs → h ≡ j) where
        Follows-conditional : (p : ℕ) (a : Expr) (i : ℕ) → Follows ws vs Hs Bs i (conditional_at ws n below h p a i) (conditional_at vs m below' j p a i)
        unfolding conditional_at look
        Follows-conditional p a i =
            Follows-look ws vs Hs Bs i (λ o. cond (at_key Question o) (room_at (expr_height a + 1) h i >>= λ z. branches_at ws n below p a z.1) (Ok (a, i)))
            (λ o. cond (at_key Question o) (room_at (expr_height a + 1) j i >>= λ z. branches_at vs m below' p a z.1) (Ok (a, i)))
            (λ o. Follows-cond ws vs Hs Bs i (at_key Question o) _ _ _ _ (Follows-roomed h j le hs (expr_height a + 1) i (branches_at ws n below p a) (branches_at vs m below' p a) (Follows-branches p a)) (Follows-ok ws vs Hs Bs i i _ (omega arith)))

        Follows-chain : (l p : ℕ) (a : Expr) (i : ℕ) → Follows ws vs Hs Bs i (chain ws n below h l p n a i) (chain vs m below' j l p m a i)
        Follows-chain l p a i = joins.Follows-chain op_at expr_height ws vs Hs Bs h j le hs (right_at ws n below) (right_at vs m below') Follows-right l p n m a i turns

        Follows-behind : (l p : ℕ) (a : Expr) (i : ℕ) → Follows ws vs Hs Bs i (behind_at ws n below h l p n a i) (behind_at vs m below' j l p m a i)
        Follows-behind l p a i = Follows-cond ws vs Hs Bs i (l == 10) _ _ _ _ (Follows-conditional p a i) (Follows-chain l p a i)

        -- inside: with one bracket less
        module _ (b c : ℕ) (be : b ≤ c) (bs : Bs → b ≡ c) (inside inside' : Reader) (within : FollowsR inside inside') where
          Follows-bracket : (p i : ℕ) → Follows ws vs Hs Bs i (bracket_at ws n inside h p i) (bracket_at vs m inside' j p i)
          unfolding bracket_at
          Follows-bracket p i =
              Follows-bind ws vs Hs Bs i _ _ _ _ (within top i) (λ x. Follows-bind ws vs Hs Bs x.1 _ _ _ _ (Follows-expect ws vs Hs Bs Close x.1) (λ d. Follows-slices h j le hs p x.0 d.1))

          Follows-inner : (p i : ℕ) → Follows ws vs Hs Bs i (cond (is_scalar (slice_get ws i)) (room_at 2 h i >>= λ z. cast_at ws n below p z.1) (bracket_at ws n inside h p i))
              (cond (is_scalar (slice_get vs i)) (room_at 2 j i >>= λ z. cast_at vs m below' p z.1) (bracket_at vs m inside' j p i))
          unfolding look
          Follows-inner p i =
              Follows-look ws vs Hs Bs i (λ o. cond (is_scalar o) (room_at 2 h i >>= λ z. cast_at ws n below p z.1) (bracket_at ws n inside h p i))
              (λ o. cond (is_scalar o) (room_at 2 j i >>= λ z. cast_at vs m below' p z.1) (bracket_at vs m inside' j p i))
              (λ o. Follows-cond ws vs Hs Bs i (is_scalar o) _ _ _ _ (Follows-roomed h j le hs 2 i (cast_at ws n below p) (cast_at vs m below' p) (Follows-cast p)) (Follows-bracket p i))

          Follows-opened : (i : ℕ) → Follows ws vs Hs Bs i (opened_at ws n inside below h b i) (opened_at vs m inside' below' j c i)
          unfolding opened_at
          Follows-opened i = Follows-bind ws vs Hs Bs i _ _ _ _ (Follows-open ws vs Hs Bs n m b c i be bs) (λ a. Follows-inner i a.1)

          Follows-operand : (i : ℕ) → Follows ws vs Hs Bs i (operand_at ws n inside below h b i) (operand_at vs m inside' below' j c i)
          unfolding operand_at look
          Follows-operand i =
              Follows-look ws vs Hs Bs i (λ o. cond (at_key Not o) (room_at 2 h i >>= λ z. negation_at ws n below z.1) (cond (at_key Tilde o) (room_at 2 h i >>= λ z. inversion_at ws n below z.1)
              (cond (at_key Minus o) (room_at 2 h i >>= λ z. opposite_at ws n below z.1) (cond (at_key Open o) (room_at 1 h i >>= λ z. opened_at ws n inside below h b z.1) (postfix_at ws n h b i)))))
              (λ o. cond (at_key Not o) (room_at 2 j i >>= λ z. negation_at vs m below' z.1) (cond (at_key Tilde o) (room_at 2 j i >>= λ z. inversion_at vs m below' z.1)
              (cond (at_key Minus o) (room_at 2 j i >>= λ z. opposite_at vs m below' z.1) (cond (at_key Open o) (room_at 1 j i >>= λ z. opened_at vs m inside' below' j c z.1) (postfix_at vs m j c i)))))
              (λ o. Follows-cond ws vs Hs Bs i (at_key Not o) _ _ _ _ (Follows-roomed h j le hs 2 i (negation_at ws n below) (negation_at vs m below') Follows-negation)
              (Follows-cond ws vs Hs Bs i (at_key Tilde o) _ _ _ _ (Follows-roomed h j le hs 2 i (inversion_at ws n below) (inversion_at vs m below') Follows-inversion)
              (Follows-cond ws vs Hs Bs i (at_key Minus o) _ _ _ _ (Follows-roomed h j le hs 2 i (opposite_at ws n below) (opposite_at vs m below') Follows-opposite)
              (Follows-cond ws vs Hs Bs i (at_key Open o) _ _ _ _ (Follows-roomed h j le hs 1 i (opened_at ws n inside below h b) (opened_at vs m inside' below' j c) Follows-opened) (Follows-postfix h j le hs b c be bs i)))))

          Follows-layer : FollowsR (layer ws n inside below h b) (layer vs m inside' below' j c)
          unfolding layer
          Follows-layer zero i = Follows-operand i
          Follows-layer (suc l) i = Follows-bind ws vs Hs Bs i _ _ _ _ (Follows-layer l i) (λ x. Follows-behind l i x.0 x.1)

    -- ---- all heights and brackets

    Follows-idle : (r : Reader) → FollowsR (idle ws n) r
    Follows-idle r l i = Follows-spent ws vs Hs Bs i _

    abbrev FollowsE : ℕ → ℕ → ℕ → ℕ → Type 0
    FollowsE h j b c = (le : h ≤ j) (hs : Hs → h ≡ j) (be : b ≤ c) (bs : Bs → b ≡ c) → FollowsR (expr_at ws n h b) (expr_at vs m j c)

    Follows-step : (h j b c : ℕ) → FollowsR (inside_of ws n h b) (inside_of vs m j c) → FollowsR (below_of ws n h b) (below_of vs m j c) → FollowsE h j b c
    Follows-step h j b c within lower le hs be bs = rw (expr_at-layer ws n h b, expr_at-layer vs m j c) (Follows-layer _ _ lower h j le hs b c be bs _ _ within)

    -- by brackets, given what is one node lower
    Follows-brackets : (h j : ℕ) → ((b c : ℕ) → b ≤ c → (Bs → b ≡ c) → FollowsR (below_of ws n h b) (below_of vs m j c)) → (b c : ℕ) → FollowsE h j b c
    unfolding inside_of
    Follows-brackets h j lower zero c le hs be bs = Follows-step h j zero c (Follows-idle _) (lower zero c be bs) le hs be bs
    Follows-brackets h j lower (suc b) zero le hs be bs = absurd (omega arith)
    Follows-brackets h j lower (suc b) (suc c) le hs be bs =
        Follows-step h j (suc b) (suc c) (Follows-brackets h j lower b c le hs (omega arith) (λ x. suc_inj (bs x))) (lower (suc b) (suc c) be bs) le hs be bs

    by_height : (h j b c : ℕ) → FollowsE h j b c
    unfolding below_of
    by_height zero j b c le hs = Follows-brackets zero j (λ b c be bs. Follows-idle _) b c le hs
    by_height (suc h) zero b c le hs = absurd (omega arith)
    by_height (suc h) (suc j) b c le hs =
        Follows-brackets (suc h) (suc j) (λ b c be bs. by_height h j b c (omega arith) (λ x. suc_inj (hs x)) be bs) b c le hs

    pub Follows-expr : (h j b c : ℕ) → h ≤ j → (Hs → h ≡ j) → b ≤ c → (Bs → b ≡ c) → (l p : ℕ) → Follows ws vs Hs Bs p (expr_at ws n h b l p) (expr_at vs m j c l p)
    Follows-expr h j b c le hs be bs l p = by_height h j b c le hs be bs l p
