-- Names that stand twice are found by a table of the names before.
use Rattle.std.proofs.Common.{◌≡◌, ℕ, suc, ◌+◌, ◌<◌, length, drop, drop-cons, get_or, Bool, true, false, cond, not, ◌||◌, List, [], ◌∷◌, ◌++◌, Bor, refl, sym, ap, ◌∙◌, arith}
use Rattle.std.specs.List.{list_any}
use Rattle.std.specs.Str.{bytes_eq}
use Rattle.lex_text.specs.Names.{same_text}
use Rattle.p4_tree.specs.declared.statement.PTy.{PTy}
use Rattle.p4_parser_states.specs.Cycles.{is_among}
use Rattle.p4_declaration_rules.specs.Declarations.{has_twice, field_names}
use Rattle.p4_declaration_rules.specs.Loops.{named}

abbrev pub is_seen : List (List ℕ) → List ℕ → Bool
is_seen [] x = false
is_seen (k ∷ ks) x = same_text x k || is_seen ks x

-- some name was seen before
abbrev pub meets : (seen : List (List ℕ)) → List (List ℕ) → Bool
meets ks [] = false
meets ks (x ∷ xs) = is_seen ks x || meets ks xs

-- some name was seen before, or stands twice
abbrev pub still_twice : (seen : List (List ℕ)) → List (List ℕ) → Bool
still_twice ks xs = meets ks xs || has_twice xs

meets_none : (xs : List (List ℕ)) → meets [] xs ≡ false
meets_none [] = refl
meets_none (x ∷ xs) = meets_none xs

pub none_seen : (xs : List (List ℕ)) → still_twice [] xs ≡ has_twice xs
none_seen xs = ap (λ (b : Bool). b || has_twice xs) (meets_none xs)

pub or_none : (a : Bool) → (a || false) ≡ a
or_none true = refl
or_none false = refl

seen_push : (ks : List (List ℕ)) (x y : List ℕ) → is_seen (ks ++ x ∷ []) y ≡ (is_seen ks y || same_text y x)
seen_push [] x y = or_none (same_text y x)
seen_push (k ∷ ks) x y = ap (λ (b : Bool). same_text y k || b) (seen_push ks x y) ∙ assoc (same_text y k) (is_seen ks y) (same_text y x)
  where
    assoc : (a b c : Bool) → (a || (b || c)) ≡ ((a || b) || c)
    assoc true b c = refl
    assoc false b c = refl

crossed : (a b c d : Bool) → ((a || b) || (c || d)) ≡ ((a || c) || (b || d))
crossed true b c d = refl
crossed false true true d = refl
crossed false true false d = refl
crossed false false c d = refl

meets_push : (ks : List (List ℕ)) (x : List ℕ) (xs : List (List ℕ)) → meets (ks ++ x ∷ []) xs ≡ (meets ks xs || is_among xs x)
meets_push ks x [] = refl
meets_push ks x (y ∷ ys) =
    ap (λ (b : Bool). b || meets (ks ++ x ∷ []) ys) (seen_push ks x y)
    ∙ ap (λ (b : Bool). (is_seen ks y || same_text y x) || b) (meets_push ks x ys)
    ∙ crossed (is_seen ks y) (same_text y x) (meets ks ys) (is_among ys x)

pub regroup : (a b c : Bool) → ((a || b) || c) ≡ (a || (b || c))
regroup true b c = refl
regroup false b c = refl

any_seen : (ks : List (Bor (List ℕ))) (x : List ℕ) → list_any (λ k. bytes_eq x k.now) ks ≡ is_seen (named ks) x
any_seen [] x = refl
any_seen (k ∷ ks) x = ap (λ (b : Bool). bytes_eq x k.now || b) (any_seen ks x)

pub named_push : (ks : List (Bor (List ℕ))) (k : Bor (List ℕ)) → named (ks ++ k ∷ []) ≡ named ks ++ k.now ∷ []
named_push [] k = refl
named_push (j ∷ ks) k = ap (λ xs. j.now ∷ xs) (named_push ks k)

not_true : (b : Bool) → not b ≡ true → b ≡ false
not_true true e = absurd cc
not_true false e = refl

pub not_false : (b : Bool) → not b ≡ false → b ≡ true
not_false true e = refl
not_false false e = absurd cc

-- `added` is what the table answers, `new` its keys afterwards
module _ (ks new : List (Bor (List ℕ))) (k : Bor (List ℕ)) (added : Bool) (x : List ℕ) (rest : List (List ℕ)) (same : k.now ≡ x) (answer : added ≡ not (list_any (λ j. bytes_eq k.now j.now) ks)) where
  -- a name that is new
  pub fresh_name : new ≡ cond (list_any (λ j. bytes_eq k.now j.now) ks) ks (ks ++ k ∷ []) → added ≡ true → still_twice (named new) rest ≡ still_twice (named ks) (x ∷ rest)
  fresh_name n fresh =
      let absent : list_any (λ j. bytes_eq k.now j.now) ks ≡ false = not_true _ (sym answer ∙ fresh) in
      let unseen : is_seen (named ks) x ≡ false = rw (← same) (sym (any_seen ks k.now) ∙ absent) in
      let keys : named new ≡ named ks ++ x ∷ [] = rw (← same) (ap named (n ∙ ap (λ (b : Bool). cond b ks (ks ++ k ∷ [])) absent) ∙ named_push ks k) in
      ap (λ us. still_twice us rest) keys
      ∙ ap (λ (b : Bool). b || has_twice rest) (meets_push (named ks) x rest)
      ∙ regroup (meets (named ks) rest) (is_among rest x) (has_twice rest)
      ∙ sym (ap (λ (b : Bool). (b || meets (named ks) rest) || (is_among rest x || has_twice rest)) unseen)

  -- a name that was seen before
  pub old_name : added ≡ false → true ≡ still_twice (named ks) (x ∷ rest)
  old_name old =
      let there : list_any (λ j. bytes_eq k.now j.now) ks ≡ true = not_false _ (sym answer ∙ old) in
      let seen : is_seen (named ks) x ≡ true = rw (← same) (sym (any_seen ks k.now) ∙ there) in
      sym (ap (λ (b : Bool). (b || meets (named ks) rest) || has_twice (x ∷ rest)) seen)

-- ---- what is left

pub left_at : {A : Type 0} (xs : List A) (i : ℕ) (x : A) → i < length xs → x ≡ get_or xs i x → drop i xs ≡ x ∷ drop (i + 1) xs
left_at xs i x lt is =
    let more : i + 1 ≡ suc i = omega arith in
    drop-cons xs i x lt ∙ ap (λ y. y ∷ drop (suc i) xs) (sym is) ∙ ap (λ (m : ℕ). x ∷ drop m xs) (sym more)

pub fields_left : (fs : List (PTy × List ℕ)) (i : ℕ) (f : PTy × List ℕ) → i < length fs → f ≡ get_or fs i f → field_names (drop i fs) ≡ f.1 ∷ field_names (drop (i + 1) fs)
fields_left fs i f lt is = ap field_names (left_at fs i f lt is)
